-- `frames::payload` meets its contract: a part from the end of the two lists to the frame's end, or an empty one. Assumes nothing.
use native.Mathlib.Omega.{arith}
use Rattle.frames.proofs.Laws.{payload-none, payload-part}
use Rattle.frames.proofs.payload.Goals as goal

pub returns-then-n-lt6 : goal.returns-then-n-lt6
returns-then-n-lt6 c = payload-none c.args.frame.now (omega arith)

pub returns : goal.returns
returns c = payload-part c.args.frame.now _ _ _ c.from.ensures c.from-2.ensures c.min.ensures
