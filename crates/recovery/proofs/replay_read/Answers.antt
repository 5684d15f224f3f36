-- `recovery::replay_read` meets its contract: one law for each thing read. Assumes nothing.
use Rattle.recovery.specs.Replays.{read-refused, read_next, read-bad, read-piece}
use Rattle.recovery.proofs.replay_read.Goals as goal

pub returns-then-replay_frame-clause-done : goal.returns-then-replay_frame-clause-done
returns-then-replay_frame-clause-done c = read_next _ _ c.requires.0 c.in-Frame.is c.min.ensures c.replay_frame.ensures.done c.if-replay_frame.true

pub returns-else-replay_frame-clause-done : goal.returns-else-replay_frame-clause-done
returns-else-replay_frame-clause-done c = read-refused _ _ c.requires.0 c.in-Frame.is c.min.ensures c.replay_frame.ensures.done c.if-replay_frame.false

pub returns-in-Bad-clause-done : goal.returns-in-Bad-clause-done
returns-in-Bad-clause-done c = read-bad _ _ c.in-Bad.is

pub returns-in-Piece-clause-done : goal.returns-in-Piece-clause-done
returns-in-Piece-clause-done c = read-piece _ _ c.in-Piece.is
