-- `queues::named` meets its contract: the loop's invariant is that no queue passed names the slot. Assumes nothing.
use Rattle.queues.specs.Queues.{carries_in}
use Rattle.rings.specs.Lent.{viewed}
use mathlib.Core.Bool.{false}
use mathlib.Core.Path.{◌≡◌}
use Prim.Native.Nat.{ℕ, ◌≤◌, ◌<◌}
use Rattle.rings.specs.Rings.{rings_of}
use Rattle.queues.proofs.named.Given as goal

abbrev pub invariant-loop-q : goal.invariant-loop-q
invariant-loop-q l = (l.q ≤ 8) × ((k : ℕ) → k < l.q → carries_in l.charges (viewed l.rings) l.s k ≡ false)
