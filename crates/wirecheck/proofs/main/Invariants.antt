-- `wirecheck::main` meets its contract: at most 1,293 characters are held in a buffer of 65,536. Assumes nothing.
use Prim.Native.Nat.{◌≤◌}
use Rattle.wirecheck.proofs.main.Given as goal

abbrev pub invariant-loop-turn : goal.invariant-loop-turn
invariant-loop-turn l = l.held ≤ 1293
