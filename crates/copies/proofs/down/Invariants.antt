-- `copies::down` meets its contract: each turn moves one byte, which no turn before it has written over. Assumes nothing.
use mathlib.Core.Path.{◌≡◌}
use lib.ListN.{length, take, drop}
use lib.Seq.{sets}
use Rattle.copies.proofs.down.Given as goal

abbrev pub invariant-loop-i : goal.invariant-loop-i
invariant-loop-i l = (l.buf ≡ sets l.initial.buf l.to (take l.i (drop l.from l.initial.buf))) × (length l.buf ≡ length l.initial.buf)
