-- `journal::command_with_journal` meets its contract: the answer buffer is too short, or the command is obeyed. Assumes nothing.
use Rattle.journal.specs.Code.{kept-short, kept-long}
use Rattle.journal.proofs.command_with_journal.Goals as goal

pub returns-then-out-lt-ANSWER_SIZE : goal.returns-then-out-lt-ANSWER_SIZE
returns-then-out-lt-ANSWER_SIZE c = kept-short _ _ _ _ _ c.if-out-lt-ANSWER_SIZE.true

pub returns : goal.returns
returns c = kept-long _ _ _ _ _ c.if-out-lt-ANSWER_SIZE.false c.obey.ensures
