-- `judges::places_at` meets its contract: the slots of the peer are counted. Assumes nothing.
use Rattle.judges.specs.CodeSends.{places-is, places-few}
use Rattle.std.proofs.lemmas.Iterator.{YieldsList-from_slice}
use Rattle.std.proofs.lemmas.Iterator.Consumers.{count_from_yields_List, YieldsList-from_filter}
use Rattle.std.proofs.Common.{tests, ◌/◌, eqb}
use native.Mathlib.Omega.{arith}
use borrow.Author.Rules.{rules}
use Rattle.judges.proofs.places_at.Goals as goal

pub returns : goal.returns
returns c =
    let e = count_from_yields_List c.filter.result _ c.count.ensures.ran (YieldsList-from_filter _ (λ s. eqb (s / 16) c.args.p.0) (YieldsList-from_slice c.args.to.now cc) c.filter.ensures.closure (λ x b q k. search (rules, tests))) in
    (places-is c.args.to.now c.args.p.0 e, omega (arith, e, places-few c.args.to.now c.args.p.0 c.requires))
