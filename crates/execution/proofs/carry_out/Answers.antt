-- `execution::carry_out` meets its contract: a receive and 0c write their answers themselves, every other order is answered plainly. Assumes nothing.
use Prim.Native.Nat.{ℕ}
use mathlib.Core.Path.{◌≡◌, refl}
use mathlib.Core.List.{List}
use Rattle.ids.specs.declared.Peer.{Peer}
use Rattle.judges.specs.declared.Order.{Order}
use Rattle.judges.specs.declared.Order.TheVariants as order
use Rattle.judges.specs.declared.Places.{Places}
use Rattle.view.specs.View.{Bus}
use Rattle.bus_model.specs.Command.{answered, carried, reply_to, altered, changed}
use Rattle.execution.specs.Code.{did-receive, did-show, did-change}
use Rattle.execution.proofs.carry_out.Goals as goal

-- The orders other than a receive and 0c.
others : (b : Bus) (f out : List ℕ) (x : Order) (w : Places) → ((p : Peer) → x ≡ order.Receive p → ⊥) → ((p : Peer) → x ≡ order.ShowSeed p → ⊥) → answered (changed b f x w).answer (changed b f x w).bus out ≡ carried b f out x w
unfolding reply_to altered changed
others b f out (order.Refuse n) w _ _ = refl
others b f out (order.Open p u) w _ _ = refl
others b f out (order.Disconnect p) w _ _ = refl
others b f out (order.Create p i s) w _ _ = refl
others b f out (order.Destroy p s) w _ _ = refl
others b f out (order.Release p s) w _ _ = refl
others b f out (order.Transfer q s) w _ _ = refl
others b f out (order.Send p z) w _ _ = refl
others b f out (order.Receive p) w not_receive _ = absurd (not_receive p refl)
others b f out (order.ShowSeed p) w _ not_show_seed = absurd (not_show_seed p refl)
others b f out (order.Quota p u) w _ _ = refl
others b f out (order.Holders s) w _ _ = refl

pub returns-in-Receive-clause-done : goal.returns-in-Receive-clause-done
returns-in-Receive-clause-done c = did-receive _ _ _ _ _ _ _ _ _ _ _ _ _ c.in-Receive.is c.receive.ensures.done

pub returns-in-ShowSeed-clause-done : goal.returns-in-ShowSeed-clause-done
returns-in-ShowSeed-clause-done c = did-show _ _ _ _ _ _ _ _ _ _ _ _ _ c.in-ShowSeed.is c.show_seed.ensures.done

pub returns-in_default-clause-done : goal.returns-in_default-clause-done
returns-in_default-clause-done c = did-change _ _ _ _ c.change-a.ensures.done c.write_plain.ensures (others _ _ _ c.args.r.order _ c.in_default.not-Receive c.in_default.not-ShowSeed)
