-- `notices::is_asked` meets its contract: each arm is one clause of the definition; a peer that is asked about is one of the eight. Assumes nothing.
use Rattle.notices.specs.Code.{asks-living, asks-falling, asks-above, fair-falling}
use native.Mathlib.Omega.{arith}
use Rattle.notices.proofs.is_asked.Goals as goal

pub falls-requires : goal.falls-requires
falls-requires c = (c.requires.0, c.requires.1, fair-falling _ c.requires.4 c.in-Falling.is, omega arith)

pub returns-in-Living : goal.returns-in-Living
returns-in-Living c = asks-living _ _ _ _ _ c.in-Living.is c.is_live.ensures

pub returns-in-Falling : goal.returns-in-Falling
returns-in-Falling c = asks-falling _ _ _ _ _ c.in-Falling.is c.falls.ensures

pub returns-in-Above : goal.returns-in-Above
returns-in-Above c = asks-above _ _ _ _ _ c.in-Above.is c.is_above.ensures
