-- `execution::alter` meets its contract: one law for each arm, and the orders of no arm leave the bus alone. Assumes nothing.
use Prim.Native.Nat.{ℕ}
use mathlib.Core.Path.{◌≡◌, refl}
use Rattle.ids.specs.declared.Peer.{Peer}
use Rattle.ids.specs.declared.User.{User}
use Rattle.ids.specs.declared.HandleId.{HandleId}
use Rattle.judges.specs.declared.Order.{Order}
use Rattle.judges.specs.declared.Order.TheVariants as order
use Rattle.view.specs.View.{Bus}
use Rattle.bus_model.specs.Command.{altered}
use Rattle.execution.specs.Code.{alters-open, alters-disconnect, alters-create, alters-destroy, alters-release}
use Rattle.execution.proofs.alter.Goals as goal

-- The orders of no arm leave the bus alone.
others : (b : Bus) (x : Order) → ((p : Peer) (u : User) → x ≡ order.Open p u → ⊥) → ((p : Peer) → x ≡ order.Disconnect p → ⊥) → ((p : Peer) (i : HandleId) (s : ℕ) → x ≡ order.Create p i s → ⊥) → ((p : Peer) (s : ℕ) → x ≡ order.Destroy p s → ⊥) → ((p : Peer) (s : ℕ) → x ≡ order.Release p s → ⊥) → b ≡ altered b x
unfolding altered
others b (order.Refuse n) _ _ _ _ _ = refl
others b (order.Open p u) not_open _ _ _ _ = absurd (not_open p u refl)
others b (order.Disconnect p) _ not_disconnect _ _ _ = absurd (not_disconnect p refl)
others b (order.Create p i s) _ _ not_create _ _ = absurd (not_create p i s refl)
others b (order.Destroy p s) _ _ _ not_destroy _ = absurd (not_destroy p s refl)
others b (order.Release p s) _ _ _ _ not_release = absurd (not_release p s refl)
others b (order.Transfer q s) _ _ _ _ _ = refl
others b (order.Send p z) _ _ _ _ _ = refl
others b (order.Receive p) _ _ _ _ _ = refl
others b (order.ShowSeed p) _ _ _ _ _ = refl
others b (order.Quota p u) _ _ _ _ _ = refl
others b (order.Holders s) _ _ _ _ _ = refl

pub returns-in-Open-clause-done : goal.returns-in-Open-clause-done
returns-in-Open-clause-done c = alters-open _ _ _ _ _ _ _ _ _ _ c.in-Open.is c.open_peer.ensures

pub returns-in-Disconnect-clause-done : goal.returns-in-Disconnect-clause-done
returns-in-Disconnect-clause-done c = alters-disconnect _ _ _ _ _ _ _ _ _ _ c.in-Disconnect.is c.disconnect.ensures.done c.drop_seed.ensures

pub returns-in-Create-clause-done : goal.returns-in-Create-clause-done
returns-in-Create-clause-done c = alters-create _ _ _ _ _ _ _ _ _ _ c.in-Create.is c.create.ensures

pub returns-in-Destroy-clause-done : goal.returns-in-Destroy-clause-done
returns-in-Destroy-clause-done c = alters-destroy _ _ _ _ _ _ _ _ _ _ c.in-Destroy.is c.destroy.ensures.done

pub returns-in-Release-clause-done : goal.returns-in-Release-clause-done
returns-in-Release-clause-done c = alters-release _ _ _ _ _ _ _ _ _ _ c.in-Release.is c.release.ensures.done

pub returns-in_default-clause-done : goal.returns-in_default-clause-done
returns-in_default-clause-done c = others _ c.args.order c.in_default.not-Open c.in_default.not-Disconnect c.in_default.not-Create c.in_default.not-Destroy c.in_default.not-Release
