-- `lines::write_line` meets its contract: without room nothing is stored; with room the digits are, and the LF behind them.
-- Assumes nothing.
use Rattle.lines.specs.LineLaws as law
use Rattle.lines.proofs.write_line.Goals as goal

pub returns-then-not-has_room : goal.returns-then-not-has_room
returns-then-not-has_room c =
    let a = c.args in
    law.write-full a.out.now a.answer.now a.at c.has_room.ensures c.if-not-has_room.true

pub returns : goal.returns
returns c =
    let a = c.args in
    law.write-next a.out.now _ a.answer.now a.at c.has_room.ensures c.if-not-has_room.false c.put_digits.ensures
