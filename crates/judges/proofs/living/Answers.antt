-- `judges::living` meets its contract: every slot's node is asked. Assumes nothing.
use Rattle.judges.specs.CodeSends.{living-is}
use Rattle.tables.specs.Nodes.{live_at}
use Rattle.std.proofs.lemmas.Iterator.{YieldsList-from_slice}
use Rattle.std.proofs.lemmas.Iterator.Search.{all_from_yields_List}
use Rattle.std.proofs.Common.{tests, ◌%◌}
use Rattle.model.specs.Numbers.{nodes}
use borrow.Author.Rules.{rules}
use Rattle.judges.proofs.living.Goals as goal

pub returns : goal.returns
returns c = living-is c.args.nodes.now c.args.to.now (all_from_yields_List (λ s. live_at c.args.nodes.now (s % nodes)) _ _ _ c.all.ensures.ran (YieldsList-from_slice c.args.to.now cc) (λ x b q k. search (rules, tests)))
