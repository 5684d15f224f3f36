-- `recovery::replay_line` meets its contract: what stood in the frame buffer does not count. Assumes nothing.
use Rattle.recovery.specs.Replays.{line-stepped}
use Rattle.recovery.proofs.replay_line.Goals as goal

pub returns-clause-done : goal.returns-clause-done
returns-clause-done c = line-stepped _ _ _ c.read_line-read.ensures.0 c.read_line-read.ensures.1 c.replay_read.ensures.done
