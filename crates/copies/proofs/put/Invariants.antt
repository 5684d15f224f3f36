-- `copies::put` meets its contract: each turn stores one byte behind those before it. Assumes nothing.
use mathlib.Core.Path.{◌≡◌}
use lib.ListN.{length, take}
use lib.Seq.{sets}
use Rattle.copies.proofs.put.Given as goal

abbrev pub invariant-loop-k : goal.invariant-loop-k
invariant-loop-k l = (l.out ≡ sets l.initial.out l.start (take l.k l.bytes)) × (length l.out ≡ length l.initial.out)
