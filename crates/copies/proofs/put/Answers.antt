-- `copies::put` meets its contract: each turn stores one byte behind those before it. Assumes nothing.
use native.Mathlib.Omega.{arith}
use Prim.Native.Nat.{◌+◌}
use mathlib.Core.Path.{refl, ap, ◌∙◌}
use lib.ListN.{get_or, set, length-set}
use lib.Seq.{sets}
use Rattle.laws.specs.Stores.{sets-next, sets-fit}
use Rattle.copies.proofs.Parts.{sets-start}
use Rattle.copies.proofs.put.Goals as goal

pub loop-k-init : goal.loop-k-init
loop-k-init c = (refl, refl)

pub loop-k-preserved : goal.loop-k-preserved
loop-k-preserved c =
    let l = c.loop-k in
    let a = c.args in
    let s = c.min-start.result in (
      ap (λ x. set x (s + l.k) (get_or a.bytes.now l.k 0)) l.invariant.0 ∙ sets-next a.out.now a.bytes.now s l.k 0 (omega (arith, c.min-n.ensures)),
      simp length-set l.invariant.1,
    )

pub returns : goal.returns
returns c =
    let l = c.loop-k in
    let o = c.args.out.now in
    let b = c.args.bytes.now in
    l.invariant.0
    ∙ sets-fit o b c.min-start.result l.k (omega (arith, c.min-n.ensures))
    ∙ ap (λ j. sets o j b) c.min-start.ensures
    ∙ sets-start o b c.args.at
