-- `tables::place_in` meets its contract: the loop's invariant is that the halving of what is left, with the reads that are left, comes to the same place; so the counter is the bound. Assumes nothing.
use Rattle.tables.specs.CodeLaws.{Halving}
use Prim.Native.Nat.{◌-◌}
use Rattle.tables.proofs.place_in.Given as goal

abbrev pub invariant-loop-low : goal.invariant-loop-low
invariant-loop-low l = Halving l.handles l.p.0 l.id.0 l.n l.initial.reads l.low l.high l.reads

abbrev pub decreases-loop-low : goal.decreases-loop-low
decreases-loop-low l = l.high - l.low
