-- `execution::reply` meets its contract: one law for each arm, and the orders of no arm are answered alike. Assumes nothing.
use Prim.Native.Nat.{ℕ}
use mathlib.Core.Path.{◌≡◌, refl}
use mathlib.Core.List.{List}
use Rattle.ids.specs.declared.Peer.{Peer}
use Rattle.ids.specs.declared.User.{User}
use Rattle.judges.specs.declared.Order.{Order}
use Rattle.judges.specs.declared.Order.TheVariants as order
use Rattle.answers.specs.declared.Answer.TheVariants.{Done as is_done}
use Rattle.bus_model.specs.Command.{reply_to}
use Rattle.execution.specs.Code.{replies-refuse, replies-quota, replies-holders}
use Rattle.execution.proofs.reply.Goals as goal

-- The orders of no arm are answered by 00 alone.
others : (hs cs : List ℕ) (x : Order) → ((n : ℕ) → x ≡ order.Refuse n → ⊥) → ((p : Peer) (u : User) → x ≡ order.Quota p u → ⊥) → ((s : ℕ) → x ≡ order.Holders s → ⊥) → is_done ≡ reply_to hs cs x
unfolding reply_to
others hs cs (order.Refuse n) not_refuse _ _ = absurd (not_refuse n refl)
others hs cs (order.Open p u) _ _ _ = refl
others hs cs (order.Disconnect p) _ _ _ = refl
others hs cs (order.Create p i s) _ _ _ = refl
others hs cs (order.Destroy p s) _ _ _ = refl
others hs cs (order.Release p s) _ _ _ = refl
others hs cs (order.Transfer q s) _ _ _ = refl
others hs cs (order.Send p z) _ _ _ = refl
others hs cs (order.Receive p) _ _ _ = refl
others hs cs (order.ShowSeed p) _ _ _ = refl
others hs cs (order.Quota p u) _ not_quota _ = absurd (not_quota p u refl)
others hs cs (order.Holders s) _ _ not_holders = absurd (not_holders s refl)

pub returns-in-Refuse : goal.returns-in-Refuse
returns-in-Refuse c = replies-refuse _ _ c.in-Refuse.is

pub returns-in-Quota : goal.returns-in-Quota
returns-in-Quota c = replies-quota _ _ c.in-Quota.is c.load.ensures c.balance.ensures

pub returns-in-Holders : goal.returns-in-Holders
returns-in-Holders c = replies-holders _ _ c.in-Holders.is c.holders.ensures

pub returns-in_default : goal.returns-in_default
returns-in_default c = others _ _ c.args.order c.in_default.not-Refuse c.in_default.not-Quota c.in_default.not-Holders
