-- `judges::judge_release` meets its contract: each return is one row of the model's cascade, with the slot that the lookup found. Assumes nothing.
use Rattle.judges.specs.CodeOrders.{release-refused, release-missing, release-pinned, release-granted, found, refusal-some}
use Rattle.std.proofs.lemmas.Result.{err_from_is_err_and}
use Rattle.std.proofs.Math.Path.{refl}
use Rattle.judges.proofs.judge_release.Goals as goal

pub returns-in_err-starts : goal.returns-in_err-starts
returns-in_err-starts c = let p = err_from_is_err_and c.from_residual.result c.from_residual.ensures.1 in rw (p.1, p.2) (release-refused c.args.peers.now c.args.p c.requires.3 c.in_err-starts.ensures c.args.nodes.now c.args.handles.now c.args.i (refusal-some c.in_err-starts.field-0.0))

pub returns-in_default : goal.returns-in_default
returns-in_default c = (release-missing c.args.peers.now c.args.p c.requires.3 c.in_ok-starts.ensures c.args.nodes.now c.args.handles.now c.args.i refl c.find.ensures c.in_default.is)

pub pinned-requires : goal.pinned-requires
pinned-requires c = (c.requires.1, c.requires.2, c.requires.3, (found c.args.handles.now c.args.p.0 c.requires.3 c.args.i.0 c.find.ensures c.in-Some.s c.in-Some.is).1)

pub returns-then-pinned : goal.returns-then-pinned
returns-then-pinned c = release-pinned c.args.peers.now c.args.p c.requires.3 c.in_ok-starts.ensures c.args.nodes.now c.args.handles.now c.args.i refl c.find.ensures c.in-Some.s c.in-Some.is c.pinned.ensures c.if-pinned.true

pub returns : goal.returns
returns c = release-granted c.args.peers.now c.args.p c.requires.3 c.in_ok-starts.ensures c.args.nodes.now c.args.handles.now c.args.i refl c.find.ensures c.in-Some.s c.in-Some.is c.pinned.ensures c.if-pinned.false
