-- `effects::write_seed` meets its contract: the header is the definition's, the IDs are a part of the array and the payload a piece of the table. Assumes nothing.
use mathlib.Core.Path.{refl}
use Rattle.effects.specs.CodeQueues.{write-seed-done}
use Rattle.effects.proofs.write_seed.Goals as goal

pub returns : goal.returns
returns c = write-seed-done c.args.seeds.now c.args.p.0 c.args.user.0 c.args.nh c.args.ids c.args.out.now c.nb_of-nb.ensures.0 refl c.piece.ensures c.write_seed.ensures
