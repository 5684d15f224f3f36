-- `tables::shift` meets its contract: the loop's invariant is the definition so far. Assumes nothing.
use Rattle.tables.specs.Handles.{shifted}
use lib.ListN.{length}
use mathlib.Core.Path.{◌≡◌}
use Rattle.tables.proofs.shift.Given as goal

abbrev pub invariant-loop-m : goal.invariant-loop-m
invariant-loop-m l = (length l.handles ≡ length l.initial.handles) × (l.handles ≡ shifted l.initial.handles l.fn.p.0 l.k l.m)
