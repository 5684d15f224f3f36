-- `effects::write_message` meets its contract: the header is the definition's, the IDs are a part of the array and the payload a piece of the pool. Assumes nothing.
use mathlib.Core.Path.{refl}
use Rattle.effects.specs.CodeQueues.{write_done}
use Rattle.effects.proofs.write_message.Goals as goal

pub returns : goal.returns
returns c = write_done c.args.charges.now c.args.pool.now c.args.p.0 c.args.to c.args.flag c.args.e c.args.ids c.args.out.now c.load-c.ensures c.used-all.ensures.0 c.from.ensures c.min-nb.ensures c.from-2.ensures c.min-nh.ensures c.from-3.ensures refl c.piece.ensures c.write_answer.ensures
