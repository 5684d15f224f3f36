-- `judges::judge_holders` meets its contract: each return is one row of the model's cascade, with the slot that the lookup found. Assumes nothing.
use Rattle.judges.specs.CodeOrders.{holders-refused, holders-missing, holders-foreign, holders-granted, refusal-some}
use Rattle.std.proofs.lemmas.Result.{err_from_is_err_and}
use Rattle.std.proofs.Math.Path.{refl}
use Rattle.judges.proofs.judge_holders.Goals as goal

pub returns-in_err-standing : goal.returns-in_err-standing
returns-in_err-standing c = let p = err_from_is_err_and c.from_residual.result c.from_residual.ensures.1 in rw (p.1, p.2) (holders-refused c.args.peers.now c.args.p c.requires.2 c.in_err-standing.ensures c.args.handles.now c.args.i (refusal-some c.in_err-standing.field-0.0))

pub returns-in_default : goal.returns-in_default
returns-in_default c = (holders-missing c.args.peers.now c.args.p c.requires.2 c.in_ok-standing.ensures c.args.handles.now c.args.i refl c.find.ensures c.in_default.is)

pub returns-then-s-p : goal.returns-then-s-p
returns-then-s-p c = holders-foreign c.args.peers.now c.args.p c.requires.2 c.in_ok-standing.ensures c.args.handles.now c.args.i refl c.find.ensures c.in-Some.s c.in-Some.is c.if-s-p.true

pub returns : goal.returns
returns c = holders-granted c.args.peers.now c.args.p c.requires.2 c.in_ok-standing.ensures c.args.handles.now c.args.i refl c.find.ensures c.in-Some.s c.in-Some.is c.if-s-p.false
