-- `judges::starts` meets its contract: each of the two tests gives its own side of the definition. Assumes nothing.
use Rattle.judges.specs.CodeOrders.{starts-counted, starts-over}
use Rattle.judges.proofs.starts.Goals as goal

pub returns-then-accepted-lt-MOST_COMMANDS : goal.returns-then-accepted-lt-MOST_COMMANDS
returns-then-accepted-lt-MOST_COMMANDS c = starts-counted c.args.peers.now c.args.p.0 c.accepted.ensures.0 c.if-accepted-lt-MOST_COMMANDS.true c.standing.ensures

pub returns : goal.returns
returns c = starts-over c.args.peers.now c.args.p.0 c.accepted.ensures.0 c.if-accepted-lt-MOST_COMMANDS.false
