-- `rings::push` meets its contract: the entry goes to the row behind the last one, and the length is one more. Assumes nothing.
use native.Mathlib.Omega.{arith}
use Rattle.rings.proofs.lent.RingTables.push.Goals as goal

pub row_of-row-requires : goal.row_of-row-requires
row_of-row-requires c = (c.requires.0, c.head-head.ensures.1, omega (arith, c.requires.1, c.len-len.ensures.0))

pub overflow_cast-self : goal.overflow_cast-self
overflow_cast-self c = omega (arith, c.requires.1, c.len-len.ensures.0)
