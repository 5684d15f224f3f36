-- `notices::least_id` meets its contract: the loop's invariant is the place with the least ID among the places passed. Assumes nothing.
use mathlib.Core.Path.{◌≡◌}
use Prim.Native.Nat.{◌≤◌}
use Rattle.notices.specs.Notices.{least_at}
use Rattle.ids.specs.Sizes.{slots}
use Rattle.notices.proofs.least_id.Given as goal

abbrev pub invariant-loop-k : goal.invariant-loop-k
invariant-loop-k l = (l.k ≤ slots) × (l.found ≡ least_at l.handles l.q.0 l.set l.k)
