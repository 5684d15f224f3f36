-- `lines::are_digits` meets its contract: each turn of the loop is a step of `digits_from`. Assumes nothing.
use Rattle.std.proofs.Common.{zero-add}
use Rattle.lines.specs.LineLaws as law
use Rattle.lines.proofs.are_digits.Goals as goal

pub loop-c-init : goal.loop-c-init
loop-c-init c = law.from-none c.args.eight.now 0

pub loop-c-preserved : goal.loop-c-preserved
loop-c-preserved c = law.from_next c.args.eight.now 0 _ c.loop-c.invariant (rw zero-add c.is_digit-all.ensures)
