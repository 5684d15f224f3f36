-- `rings::sweep` meets its contract: after each turn the rows hold what stays of the entries read, stored from the head on, and nothing else has changed. Assumes nothing.
use Rattle.rings.specs.Sweep.{Sweeping}
use Rattle.rings.specs.Rings.{rows_of}
use Rattle.rings.proofs.sweep.Given as goal

abbrev pub invariant-loop-read : goal.invariant-loop-read
invariant-loop-read l = Sweeping (rows_of l.initial.entries l.initial.carried l.initial.numbers) l.p.0 l.head l.len l.m (rows_of l.entries l.carried l.numbers) l.kept l.read
