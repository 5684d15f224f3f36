-- `judges::affordable` meets its contract: quota is asked at every slot's owner. Assumes nothing.
use Rattle.judges.specs.CodeSends.{affordable-is}
use Rattle.judges.specs.Orders.{allowed_at}
use Rattle.std.proofs.lemmas.Iterator.{YieldsList-from_slice}
use Rattle.std.proofs.lemmas.Iterator.Search.{all_from_yields_List}
use Rattle.std.proofs.Common.{tests, ◌%◌, ◌/◌}
use Rattle.ids.specs.Sizes.{peers, slots}
use borrow.Author.Rules.{rules}
use Rattle.judges.proofs.affordable.Goals as goal

pub returns : goal.returns
returns c = affordable-is c.args.charges.now c.args.u c.args.to.now c.args.z.nb c.args.z.nh (all_from_yields_List (λ d. allowed_at c.args.charges.now c.args.u c.args.to.now c.args.z.nb c.args.z.nh (d / slots % peers)) _ _ _ c.all.ensures.ran (YieldsList-from_slice c.args.to.now cc) (λ x b q k. search (rules, tests)))
