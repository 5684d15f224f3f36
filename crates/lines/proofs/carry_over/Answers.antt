-- `lines::carry_over` meets its contract: what is moved is the piece up to `end` or the buffer's end, at most 1,293 characters of it.
-- Assumes nothing.
use Rattle.lines.specs.LineLaws as law
use native.Mathlib.Omega.{arith}
use Rattle.lines.proofs.carry_over.Goals as goal

pub returns : goal.returns
returns c =
    let a = c.args in
    law.carry-all a.buf.now _ a.at a.end (omega (arith, c.min-n.ensures, c.saturating_sub.ensures, c.min.ensures)) c.down.ensures
