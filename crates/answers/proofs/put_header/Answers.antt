-- `answers::put_header` meets its contract: the pieces of a header, one behind another. Assumes nothing.
use native.Mathlib.Omega.{arith}
use Rattle.answers.proofs.Laws.{header-stores}
use Rattle.answers.proofs.put_header.Goals as goal

pub returns : goal.returns
returns c = (omega (arith, c.put_id-at.ensures.0, c.put_short-end.ensures.0), header-stores c.args.out.now _ _ _ _ _ _ c.args.h c.from.ensures c.put_id-at.ensures.1 c.put_id-at.ensures.0 c.put_short-end.ensures.1 c.put_short-end.ensures.0)
