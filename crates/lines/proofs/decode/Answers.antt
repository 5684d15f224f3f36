-- `lines::decode` meets its contract: the loop keeps that the first `k` bytes of the buffer are those of the first `k` pairs and the rest is as before.
-- Assumes nothing.
use mathlib.Core.Path.{refl}
use lib.ListN.{length-set}
use Rattle.laws.specs.Build.{build}
use Rattle.lines.specs.LineLaws as law
use native.Mathlib.Omega.{arith}
use Rattle.lines.proofs.decode.Goals as goal

pub loop-k-init : goal.loop-k-init
unfolding build
loop-k-init c = (refl, refl)

pub loop-k-preserved : goal.loop-k-preserved
loop-k-preserved c =
    let a = c.args in
    let l = c.loop-k in
    (law.decode-next a.s.now a.frame.now l.frame l.k _ _ (omega arith) l.invariant.0 c.digit_value.ensures.0 c.digit_value-in-loop-k.ensures.0, simp length-set l.invariant.1)
