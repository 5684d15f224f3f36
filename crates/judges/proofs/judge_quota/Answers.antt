-- `judges::judge_quota` meets its contract: a refusal at the start is the model's, and without one the order stands. Assumes nothing.
use Rattle.judges.specs.CodeOrders.{quota-refused, quota-granted, refusal-some}
use Rattle.std.proofs.lemmas.Result.{err_from_is_err_and}
use Rattle.std.proofs.Math.Path.{refl}
use Rattle.judges.proofs.judge_quota.Goals as goal

pub returns-in_err-standing : goal.returns-in_err-standing
returns-in_err-standing c = let p = err_from_is_err_and c.from_residual.result c.from_residual.ensures.1 in rw (p.1, p.2) (quota-refused c.args.peers.now c.args.p c.requires.1 c.in_err-standing.ensures c.args.u (refusal-some c.in_err-standing.field-0.0))

pub returns : goal.returns
returns c = quota-granted c.args.peers.now c.args.p c.requires.1 c.in_ok-standing.ensures c.args.u refl
