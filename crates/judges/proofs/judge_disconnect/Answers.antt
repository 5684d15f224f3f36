-- `judges::judge_disconnect` meets its contract: a refusal at the start is the model's, and without one the order stands. Assumes nothing.
use Rattle.judges.specs.CodeOrders.{disconnect-refused, disconnect-granted, refusal-some}
use Rattle.std.proofs.lemmas.Result.{err_from_is_err_and}
use Rattle.std.proofs.Math.Path.{refl}
use Rattle.judges.proofs.judge_disconnect.Goals as goal

pub returns-in_err-starts : goal.returns-in_err-starts
returns-in_err-starts c = let p = err_from_is_err_and c.from_residual.result c.from_residual.ensures.1 in rw (p.1, p.2) (disconnect-refused c.args.peers.now c.args.p c.requires.1 c.in_err-starts.ensures (refusal-some c.in_err-starts.field-0.0))

pub returns : goal.returns
returns c = disconnect-granted c.args.peers.now c.args.p c.requires.1 c.in_ok-starts.ensures refl
