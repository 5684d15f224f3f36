-- `judges::allowed_at` meets its contract: what is asked of quota is what the model's send adds there, and the products fit. Assumes nothing.
use Rattle.judges.specs.CodeSends.{allowed-is}
use Rattle.judges.proofs.allowed_at.Goals as goal

pub returns : goal.returns
returns c = allowed-is c.args.charges.now c.args.u _ c.args.z.nb c.args.z.nh c.args.p.0 c.places_at-m.ensures.0 c.load-c.ensures c.allows.ensures
