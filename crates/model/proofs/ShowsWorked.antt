-- The theorems that go with specs/ShowsWorked.antt and stand on others: each goes by the definitions and the theorems there.
-- Assumes nothing.
use Rattle.std.specs.Prelude.{[]}
use Rattle.model.specs.Shows.{CreatedAnew}
use Rattle.model.proofs.ShowsAnew.{chosen-for-another}
use Rattle.model.specs.ShowsWorked.{before, once, between, again, first-node, second-node, happened, shown-once, shown-again, two-nodes}

pub created-anew : CreatedAnew before once between again [] 0 8 first-node
created-anew = chosen-for-another before between [] once again happened 0 8 first-node second-node shown-once shown-again two-nodes
