-- `notices::bury` meets its contract: the loop's invariant is the table with the nodes of the places passed dead. Assumes nothing.
use lib.ListN.{length}
use mathlib.Core.Path.{◌≡◌}
use Prim.Native.Nat.{◌≤◌}
use Rattle.notices.specs.Notices.{dead_all}
use Rattle.ids.specs.Sizes.{slots}
use Rattle.notices.proofs.bury.Given as goal

abbrev pub invariant-loop-k : goal.invariant-loop-k
invariant-loop-k l = (l.k ≤ slots) × (length l.nodes ≡ length l.initial.nodes) × (l.nodes ≡ dead_all l.initial.nodes l.p.0 l.set l.n l.k)
