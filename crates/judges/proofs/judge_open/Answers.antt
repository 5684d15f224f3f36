-- `judges::judge_open` meets its contract: each return is the model's refusal, or the order, for the status that was read. Assumes nothing.
use Rattle.judges.specs.CodeOrders.{open-over, open-new, open-again, open_gone}
use Rattle.judges.proofs.judge_open.Goals as goal

pub returns-then-accepted-ge-MOST_COMMANDS : goal.returns-then-accepted-ge-MOST_COMMANDS
returns-then-accepted-ge-MOST_COMMANDS c = open-over c.args.peers.now c.args.p c.args.u c.requires.1 c.accepted.ensures.0 c.if-accepted-ge-MOST_COMMANDS.true

pub returns-in-Unopened : goal.returns-in-Unopened
returns-in-Unopened c = open-new c.args.peers.now c.args.p c.args.u c.requires.1 c.accepted.ensures.0 c.if-accepted-ge-MOST_COMMANDS.false c.status_of.ensures c.in-Unopened.is

pub returns-in-Open : goal.returns-in-Open
returns-in-Open c = open-again c.args.peers.now c.args.p c.args.u c.requires.1 c.accepted.ensures.0 c.if-accepted-ge-MOST_COMMANDS.false c.status_of.ensures c.in-Open.is

pub returns-in-Disconnected : goal.returns-in-Disconnected
returns-in-Disconnected c = open_gone c.args.peers.now c.args.p c.args.u c.requires.1 c.accepted.ensures.0 c.if-accepted-ge-MOST_COMMANDS.false c.status_of.ensures c.in-Disconnected.is
