-- `lines::put_digits` meets its contract: the loop keeps that the digits of the first `k` bytes are stored from `at` on.
-- Assumes nothing.
use mathlib.Core.Path.{◌≡◌}
use lib.ListN.{length, take}
use lib.Seq.{sets}
use Rattle.lines.specs.Line.{digits_of}
use Rattle.lines.proofs.put_digits.Given as goal

abbrev pub invariant-loop-k : goal.invariant-loop-k
invariant-loop-k l = (l.out ≡ sets l.initial.out l.at (digits_of (take l.k l.bytes))) × (length l.out ≡ length l.initial.out)
