-- `rings::RingTables::first_match` meets its contract: the view has the same entries. Assumes nothing.
use Rattle.rings.proofs.lent.RingTables.first_match.Goals as goal

pub returns : goal.returns
returns c = λ k n. rw (← c.view.ensures.tables.1) (c.first_match.ensures k n)
