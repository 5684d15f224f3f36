-- `judges::judge_transfer` meets its contract: each return is one row of the model's cascade, with the slot that the lookup found. Assumes nothing.
use Rattle.judges.specs.CodeOrders.{transfer-refused, transfer-absent, transfer-missing, transfer-dead, transfer-granted, found, refusal-some}
use Rattle.std.proofs.lemmas.Result.{err_from_is_err_and}
use Rattle.std.proofs.Math.Path.{refl}
use Rattle.judges.proofs.judge_transfer.Goals as goal

pub returns-in_err-starts : goal.returns-in_err-starts
returns-in_err-starts c = let p = err_from_is_err_and c.from_residual.result c.from_residual.ensures.1 in rw (p.1, p.2) (transfer-refused c.args.peers.now c.args.p c.requires.3 c.in_err-starts.ensures c.args.nodes.now c.args.handles.now c.args.i c.args.q c.requires.4 (refusal-some c.in_err-starts.field-0.0))

pub returns-in_err-standing : goal.returns-in_err-standing
returns-in_err-standing c = let p = err_from_is_err_and c.from_residual-in_err-standing.result c.from_residual-in_err-standing.ensures.1 in rw (p.1, p.2) (transfer-absent c.args.peers.now c.args.p c.requires.3 c.in_ok-starts.ensures c.args.nodes.now c.args.handles.now c.args.i c.args.q c.requires.4 refl c.in_err-standing.ensures (refusal-some c.in_err-standing.field-0.0))

pub returns-in_default : goal.returns-in_default
returns-in_default c = (transfer-missing c.args.peers.now c.args.p c.requires.3 c.in_ok-starts.ensures c.args.nodes.now c.args.handles.now c.args.i c.args.q c.requires.4 refl c.in_ok-standing.ensures refl c.find.ensures c.in_default.is)

pub is_live-requires : goal.is_live-requires
is_live-requires c = (c.requires.1, (found c.args.handles.now c.args.p.0 c.requires.3 c.args.i.0 c.find.ensures c.in-Some.s c.in-Some.is).1)

pub returns-then-not-is_live : goal.returns-then-not-is_live
returns-then-not-is_live c = transfer-dead c.args.peers.now c.args.p c.requires.3 c.in_ok-starts.ensures c.args.nodes.now c.args.handles.now c.args.i c.args.q c.requires.4 refl c.in_ok-standing.ensures refl c.find.ensures c.in-Some.s c.in-Some.is c.is_live.ensures c.if-not-is_live.true

pub returns : goal.returns
returns c = transfer-granted c.args.peers.now c.args.p c.requires.3 c.in_ok-starts.ensures c.args.nodes.now c.args.handles.now c.args.i c.args.q c.requires.4 refl c.in_ok-standing.ensures refl c.find.ensures c.in-Some.s c.in-Some.is c.is_live.ensures c.if-not-is_live.false
