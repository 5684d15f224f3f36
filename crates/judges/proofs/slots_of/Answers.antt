-- `judges::slots_of` meets its contract: the loop's invariant is that every ID passed is held and its slot stored at its place. Assumes nothing.
use Rattle.judges.specs.CodeSends.{looked-start, looked-missing, looked-more, looked-end}
use Rattle.judges.specs.CodeOrders.{found}
use native.Mathlib.Omega.{arith}
use Rattle.judges.proofs.slots_of.Goals as goal

pub loop-k-init : goal.loop-k-init
loop-k-init c = looked-start _ _ _ _ _

pub returns-in_default : goal.returns-in_default
returns-in_default c = (looked-missing c.args.handles.now c.args.frame.now c.args.p.0 c.args.from c.args.n c.requires.1 c.loop-k.k c.loop-k.invariant (omega arith) c.send_id.ensures c.find.ensures c.in_default.is)

pub overflow_cast-at : goal.overflow_cast-at
overflow_cast-at c = let w = found c.args.handles.now c.args.p.0 c.requires.1 c.send_id.result.0 c.find.ensures c.in-Some.s c.in-Some.is in omega (arith, w.1)

pub loop-k-preserved : goal.loop-k-preserved
loop-k-preserved c = looked-more c.args.handles.now c.args.frame.now c.args.p.0 c.args.from c.args.n c.requires.1 c.loop-k.k c.loop-k.invariant (omega arith) c.send_id.ensures c.find.ensures c.requires.3 c.in-Some.s c.in-Some.is

pub returns : goal.returns
returns c = looked-end c.args.handles.now c.args.frame.now c.args.p.0 c.args.from c.args.n c.requires.1 c.loop-k.k c.loop-k.invariant (omega arith)
