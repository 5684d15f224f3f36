-- `tables::seek_own` meets its contract: the loop's invariant is that no slot passed has the ID and that each was one read. Assumes nothing.
use Rattle.tables.specs.Handles.{has_at}
use mathlib.Core.Bool.{false}
use mathlib.Core.Path.{◌≡◌}
use Prim.Native.Nat.{ℕ, ◌+◌, ◌*◌, ◌<◌}
use Rattle.ids.specs.Sizes.{slots}
use Rattle.tables.proofs.seek_own.Given as goal

abbrev pub invariant-loop-k : goal.invariant-loop-k
invariant-loop-k l = record {
  counted : l.reads ≡ l.initial.reads + l.k;
  before : (j : ℕ) → j < l.k → has_at l.handles l.p.0 l.id.0 (l.p.0 * slots + j) ≡ false;
}
