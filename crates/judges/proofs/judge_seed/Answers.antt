-- `judges::judge_seed` meets its contract: each return is one row of the model's cascade, with the sizes of the seed that is set. Assumes nothing.
use Rattle.judges.specs.CodeOrders.{seed-refused, seed-none, seed-large, seed-granted, refusal-some}
use Rattle.std.proofs.lemmas.Result.{err_from_is_err_and}
use Rattle.std.proofs.Math.Path.{refl}
use Rattle.judges.proofs.judge_seed.Goals as goal

pub returns-in_err-starts : goal.returns-in_err-starts
returns-in_err-starts c = let p = err_from_is_err_and c.from_residual.result c.from_residual.ensures.1 in rw (p.1, p.2) (seed-refused c.args.peers.now c.args.p c.requires.2 c.in_err-starts.ensures c.args.seeds.now c.args.room (refusal-some c.in_err-starts.field-0.0))

pub returns-then-not-is_set : goal.returns-then-not-is_set
returns-then-not-is_set c = seed-none c.args.peers.now c.args.p c.requires.2 c.in_ok-starts.ensures c.args.seeds.now c.args.room refl c.is_set.ensures c.if-not-is_set.true

pub returns-then-room-nb_of : goal.returns-then-room-nb_of
returns-then-room-nb_of c = seed-large c.args.peers.now c.args.p c.requires.2 c.in_ok-starts.ensures c.args.seeds.now c.args.room refl c.is_set.ensures c.if-not-is_set.false c.nb_of.ensures.0 c.nh_of.ensures.0 c.if-room-nb_of.true

pub returns : goal.returns
returns c = seed-granted c.args.peers.now c.args.p c.requires.2 c.in_ok-starts.ensures c.args.seeds.now c.args.room refl c.is_set.ensures c.if-not-is_set.false c.nb_of.ensures.0 c.nh_of.ensures.0 c.if-room-nb_of.false
