-- `recovery::replay_frame` meets its contract: a question, or a command whose number tells. Assumes nothing.
use Rattle.recovery.specs.Replays.{tried-question, tried-command}
use Rattle.recovery.proofs.replay_frame.Goals as goal

pub returns-then-is_question-clause-done : goal.returns-then-is_question-clause-done
returns-then-is_question-clause-done c = tried-question _ _ c.is_question.ensures c.if-is_question.true

pub returns-clause-done : goal.returns-clause-done
returns-clause-done c = tried-command _ _ _ c.requires c.is_question.ensures c.if-is_question.false c.command-o.ensures.done
