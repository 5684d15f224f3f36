-- `queues::total` meets its contract: the sum over the four users. Assumes nothing.
use mathlib.Core.Path.{◌≡◌, ◌∙◌}
use lib.ListN.{get_or}
use native.Mathlib.Omega.{arith}
use Rattle.laws.specs.Sums.{sum_to}
use Rattle.quota.specs.Charges.{nothing}
use Rattle.queues.proofs.total.Goals as goal

pub returns : goal.returns
unfolding sum_to
returns g c = λ f h.
    let a : c.from.result ≡ f (get_or c.args.c.by 0 nothing) = c.from.ensures ∙ h _ _ c.number.ensures in
    let b : c.from-2.result ≡ f (get_or c.args.c.by 1 nothing) = c.from-2.ensures ∙ h _ _ c.number-2.ensures in
    let d : c.from-3.result ≡ f (get_or c.args.c.by 2 nothing) = c.from-3.ensures ∙ h _ _ c.number-3.ensures in
    let e : c.from-4.result ≡ f (get_or c.args.c.by 3 nothing) = c.from-4.ensures ∙ h _ _ c.number-4.ensures in
    omega (arith, a, b, d, e)
