-- `judges::judge_receive` meets its contract: each return is one row of the model's cascade, with the entry that stands first. Assumes nothing.
use Rattle.rings.specs.Rings.{rings_of}
use Rattle.rings.specs.Lent.{viewed}
use Rattle.judges.specs.CodeOrders.{receive-refused, receive-empty, receive-large, receive-granted, refusal-some}
use Rattle.std.proofs.lemmas.Result.{err_from_is_err_and}
use Rattle.std.proofs.Math.Path.{refl}
use Rattle.judges.proofs.judge_receive.Goals as goal

pub returns-in_err-starts : goal.returns-in_err-starts
returns-in_err-starts c = let p = err_from_is_err_and c.from_residual.result c.from_residual.ensures.1 in rw (p.1, p.2) (receive-refused c.args.peers.now c.args.p c.requires.1 c.in_err-starts.ensures (viewed c.args.rings.now) c.args.rings.now.sized.ends c.args.room (refusal-some c.in_err-starts.field-0.0))

pub returns-then-len-eq0 : goal.returns-then-len-eq0
returns-then-len-eq0 c = receive-empty c.args.peers.now c.args.p c.requires.1 c.in_ok-starts.ensures (viewed c.args.rings.now) c.args.rings.now.sized.ends c.args.room refl c.len.ensures.0 c.if-len-eq0.true

pub returns-then-too_large : goal.returns-then-too_large
returns-then-too_large c = receive-large c.args.peers.now c.args.p c.requires.1 c.in_ok-starts.ensures (viewed c.args.rings.now) c.args.rings.now.sized.ends c.args.room refl c.len.ensures.0 c.if-len-eq0.false c.first.ensures c.too_large.ensures c.if-too_large.true

pub returns : goal.returns
returns c = receive-granted c.args.peers.now c.args.p c.requires.1 c.in_ok-starts.ensures (viewed c.args.rings.now) c.args.rings.now.sized.ends c.args.room refl c.len.ensures.0 c.if-len-eq0.false c.first.ensures c.too_large.ensures c.if-too_large.false
