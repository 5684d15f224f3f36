-- `notices::least_id` meets its contract: the loop's invariant is the place with the least ID among the places passed. Assumes nothing.
use Rattle.notices.specs.Code.{least-none, least-in, least-out, least-all}
use native.Mathlib.Omega.{arith}
use Rattle.notices.proofs.least_id.Goals as goal
use Rattle.notices.proofs.least_id.Goals.{then-bit, else-bit}

pub loop-k-init : goal.loop-k-init
loop-k-init c = (omega arith, least-none _ _ _)

pub loop-k-preserved : goal.loop-k-preserved
loop-k-preserved c = (
  omega arith,
  elim c.if-bit.branch [
    | then-bit w ↦ least-in _ _ _ c.loop-k.k c.loop-k.invariant.1 c.from.ensures c.bit.ensures w.if-bit.true w.lower-found.ensures w.found-is
    | else-bit w ↦ least-out _ _ _ c.loop-k.k c.loop-k.invariant.1 c.from.ensures c.bit.ensures w.if-bit.false w.found-is
  ],
)

pub returns : goal.returns
returns c = least-all _ _ _ c.loop-k.k c.loop-k.invariant.1 (omega (arith, c.loop-k.invariant.0, c.loop-k-test.false))
