-- `judges::judge_send` meets its contract: each return is one row of the model's cascade, and the slots are those of the send's IDs. Assumes nothing.
use Rattle.judges.specs.CodeRulings.{send-refused, send-unheld, send-unattached, send-dead, send-over, send-granted}
use Rattle.judges.specs.CodeOrders.{refusal-some}
use Rattle.std.proofs.lemmas.Result.{err_from_is_err_and}
use Rattle.std.proofs.Math.Path.{refl}
use Rattle.judges.proofs.judge_send.Goals as goal

pub returns-in_err-starts : goal.returns-in_err-starts
returns-in_err-starts c = let p = err_from_is_err_and c.from_residual.result c.from_residual.ensures.1 in rw (p.1, p.2) (send-refused c.args.peers.now c.args.nodes.now c.args.handles.now c.args.charges.now c.args.frame.now c.args.p c.args.z c.requires.4 c.requires.5 c.in_err-starts.ensures (refusal-some c.in_err-starts.field-0.0))

pub returns-in_err-to : goal.returns-in_err-to
returns-in_err-to c = let p = err_from_is_err_and c.from_residual-in_err-to.result c.from_residual-in_err-to.ensures.1 in rw (p.1, p.2) (send-unheld c.args.peers.now c.args.nodes.now c.args.handles.now c.args.charges.now c.args.frame.now c.args.p c.args.z c.requires.4 c.requires.5 c.in_ok-starts.ensures refl c.in_err-to.ensures refl)

pub returns-in_err-carried : goal.returns-in_err-carried
returns-in_err-carried c = let p = err_from_is_err_and c.from_residual-in_err-carried.result c.from_residual-in_err-carried.ensures.1 in rw (p.1, p.2) (send-unattached c.args.peers.now c.args.nodes.now c.args.handles.now c.args.charges.now c.args.frame.now c.args.p c.args.z c.requires.4 c.requires.5 c.in_ok-starts.ensures refl c.in_ok-to.ensures refl c.in_err-carried.ensures refl)

pub returns-then-not-living : goal.returns-then-not-living
returns-then-not-living c = send-dead c.args.peers.now c.args.nodes.now c.args.handles.now c.args.charges.now c.args.frame.now c.args.p c.args.z c.requires.4 c.requires.5 c.in_ok-starts.ensures refl c.in_ok-to.ensures refl c.in_ok-carried.ensures refl c.living.ensures c.if-not-living.true

pub returns-then-not-affordable : goal.returns-then-not-affordable
returns-then-not-affordable c = send-over c.args.peers.now c.args.nodes.now c.args.handles.now c.args.charges.now c.args.frame.now c.args.p c.args.z c.requires.4 c.requires.5 c.in_ok-starts.ensures refl c.in_ok-to.ensures refl c.in_ok-carried.ensures refl c.living.ensures c.if-not-living.false c.user_of-u.ensures c.affordable.ensures c.if-not-affordable.true

pub returns : goal.returns
returns c = send-granted c.args.peers.now c.args.nodes.now c.args.handles.now c.args.charges.now c.args.frame.now c.args.p c.args.z c.requires.4 c.requires.5 c.in_ok-starts.ensures refl c.in_ok-to.ensures refl c.in_ok-carried.ensures refl c.living.ensures c.if-not-living.false c.user_of-u.ensures c.affordable.ensures c.if-not-affordable.false
