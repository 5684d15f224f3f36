-- `tables::total` meets its contract: the loop's invariant is the sum of the counts of the peers passed, which fits because each is below 2^60. Assumes nothing.
use Rattle.tables.specs.Peers.{modulus}
use Rattle.tables.specs.Handles.{total_below}
use mathlib.Core.Path.{◌≡◌}
use Prim.Native.Nat.{◌≤◌, ◌*◌}
use Rattle.tables.proofs.total.Given as goal

abbrev pub invariant-loop-q : goal.invariant-loop-q
invariant-loop-q l = record {
  fits : l.sum ≤ l.q * modulus;
  so_far : l.sum ≡ total_below l.handles l.s l.q;
}
