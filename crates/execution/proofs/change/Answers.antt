-- `execution::change` meets its contract: one law for each arm, and the orders of no arm are settled by what they are answered and what they alter. Assumes nothing.
use Prim.Native.Nat.{ℕ}
use mathlib.Core.Path.{◌≡◌, refl}
use mathlib.Core.List.{List}
use Rattle.ids.specs.declared.Peer.{Peer}
use Rattle.frames.specs.declared.Sizes.{Sizes}
use Rattle.judges.specs.declared.Order.{Order}
use Rattle.judges.specs.declared.Order.TheVariants as order
use Rattle.judges.specs.declared.Places.{Places}
use Rattle.view.specs.View.{Bus}
use Rattle.bus_model.specs.Command.{settled, changed}
use Rattle.execution.specs.Code.{did-transfer, did-send, did-settle}
use Rattle.execution.proofs.change.Goals as goal

-- The orders of no arm, neither a transfer nor a send.
others : (b : Bus) (f : List ℕ) (x : Order) (w : Places) → ((q : Peer) (s : ℕ) → x ≡ order.Transfer q s → ⊥) → ((p : Peer) (z : Sizes) → x ≡ order.Send p z → ⊥) → settled b x ≡ changed b f x w
unfolding changed
others b f (order.Refuse n) w _ _ = refl
others b f (order.Open p u) w _ _ = refl
others b f (order.Disconnect p) w _ _ = refl
others b f (order.Create p i s) w _ _ = refl
others b f (order.Destroy p s) w _ _ = refl
others b f (order.Release p s) w _ _ = refl
others b f (order.Transfer q s) w not_transfer _ = absurd (not_transfer q s refl)
others b f (order.Send p z) w _ not_send = absurd (not_send p z refl)
others b f (order.Receive p) w _ _ = refl
others b f (order.ShowSeed p) w _ _ = refl
others b f (order.Quota p u) w _ _ = refl
others b f (order.Holders s) w _ _ = refl

pub returns-in-Transfer-clause-done : goal.returns-in-Transfer-clause-done
returns-in-Transfer-clause-done c = did-transfer _ _ _ _ _ _ _ _ _ _ _ _ c.in-Transfer.is c.transfer.ensures.done

pub returns-in-Send-clause-done : goal.returns-in-Send-clause-done
returns-in-Send-clause-done c = did-send _ _ _ _ _ _ _ _ _ _ _ _ c.in-Send.is c.payload-data.ensures c.send.ensures.done c.replace_seed.ensures

pub returns-in_default-clause-done : goal.returns-in_default-clause-done
returns-in_default-clause-done c = did-settle _ _ _ _ c.reply-a.ensures c.alter.ensures.done (others _ _ c.args.r.order _ c.in_default.not-Transfer c.in_default.not-Send)
