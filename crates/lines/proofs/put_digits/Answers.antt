-- `lines::put_digits` meets its contract: the loop keeps that the digits of the first `k` bytes are stored from `at` on.
-- Assumes nothing.
use mathlib.Core.Path.{refl}
use lib.ListN.{length-set}
use Rattle.lines.specs.Line.{digits_of}
use Rattle.lines.specs.LineLaws as law
use native.Mathlib.Omega.{arith}
use Rattle.lines.proofs.put_digits.Goals as goal

pub loop-k-init : goal.loop-k-init
unfolding digits_of
loop-k-init c = (refl, refl)

pub loop-k-preserved : goal.loop-k-preserved
loop-k-preserved c =
    let a = c.args in
    let l = c.loop-k in
    (law.put_next a.out.now l.out a.bytes.now a.at l.k _ _ (omega arith) l.invariant.0 c.digit_of.ensures c.digit_of-in-loop-k.ensures, simp length-set l.invariant.1)
