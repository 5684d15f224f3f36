-- `quota::Charges::others_of` meets its contract: the four users' sum, without the user's own number.
use Rattle.std.specs.Prelude.{◌≡◌, refl, length}
use Rattle.std.proofs.Common.{◌∙◌, ap, arith, rules}
use Rattle.quota.proofs.Laws.{four-charges, sum-turn, sum-others}
use Rattle.quota.proofs.Charges.others_of.Goals as goal

pub loop-c-init : goal.loop-c-init
loop-c-init g c = (omega arith, (λ f z h. refl), refl)

pub overflow_add-sum : goal.overflow_add-sum
overflow_add-sum g c = record { fits = omega (arith, c.loop-c.invariant.0, c.loop-c-test.true, c.from-sum.ensures, c.of.type_inv) }

pub loop-c-preserved : goal.loop-c-preserved
loop-c-preserved g c =
    let l = c.loop-c in
    let n : length c.args.self.by ≡ 4 = search (rules, four-charges) in (
      omega (arith, l.invariant.0, c.from-sum.ensures, c.of.type_inv),
      (λ f z h. sum-turn f z c.args.self.by l.c-index (omega (arith, n, c.loop-c-test.true)) (l.invariant.1 f z h) (c.from-sum.ensures ∙ h _ _ c.of.ensures)),
      l.invariant.2,
    )

pub returns : goal.returns
returns g c = λ f z h.
    let n : length c.args.self.by ≡ 4 = search (rules, four-charges) in
    let o = c.from-own.ensures ∙ h _ _ c.of-2.ensures ∙ ap f c.own.ensures in
    sum-others f z c.args.self c.args.u c.loop-c.c-index (omega (arith, n, c.loop-c-test.false)) (c.loop-c.invariant.1 f z h) o (omega (arith, c.saturating_sub.ensures))
