-- `rings::first_match` meets its contract: no entry read so far matches. Assumes nothing.
use Rattle.rings.specs.Search.{Passing}
use Rattle.rings.proofs.first_match.Given as goal

abbrev pub invariant-loop-i : goal.invariant-loop-i
invariant-loop-i l = Passing l.entries l.p.0 l.head l.len l.m l.i
