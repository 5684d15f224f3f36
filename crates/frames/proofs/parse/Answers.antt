-- `frames::parse` meets its contract: empty, unknown, send and other frames are the definition's choices. Assumes nothing.
use Rattle.frames.proofs.Laws.{parse-empty, parse-unknown, parse-send, parse-other}
use Rattle.frames.proofs.parse.Goals as goal

pub returns-then-is_empty : goal.returns-then-is_empty
returns-then-is_empty c = parse-empty c.args.frame.now c.if-is_empty.ensures

pub returns-then-not-known : goal.returns-then-not-known
returns-then-not-known c = parse-unknown c.args.frame.now c.if-is_empty.ensures c.if-not-known.ensures

pub returns-then-op-eq7 : goal.returns-then-op-eq7
returns-then-op-eq7 c = parse-send c.args.frame.now _ c.if-is_empty.ensures c.if-not-known.ensures c.if-op-eq7.true c.parse_send.ensures

pub returns : goal.returns
returns c = parse-other c.args.frame.now _ c.if-is_empty.ensures c.if-not-known.ensures c.if-op-eq7.false c.parse_other.ensures
