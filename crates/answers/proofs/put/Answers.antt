-- `answers::put` meets its contract: the bytes are copied, and they have room. Assumes nothing.
use mathlib.Core.Path.{refl}
use Rattle.answers.proofs.put.Goals as goal

pub returns : goal.returns
returns c = (refl, c.put.ensures)
