-- `lines::decode` meets its contract: the loop keeps that the first `k` bytes of the buffer are those of the first `k` pairs and the rest is as before.
-- Assumes nothing.
use mathlib.Core.Path.{◌≡◌}
use mathlib.Core.List.{◌++◌}
use lib.ListN.{length, drop}
use Rattle.laws.specs.Build.{build}
use Rattle.lines.specs.Line.{pair_at}
use Rattle.lines.proofs.decode.Given as goal

abbrev pub invariant-loop-k : goal.invariant-loop-k
invariant-loop-k l = (l.frame ≡ build (pair_at l.s) l.k ++ drop l.k l.initial.frame) × (length l.frame ≡ length l.initial.frame)
