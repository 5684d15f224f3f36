-- `notices::bury` meets its contract: the loop's invariant is the table with the nodes of the places passed dead. Assumes nothing.
use lib.ListN.{length}
use mathlib.Core.Path.{refl, ap, ◌∙◌}
use Rattle.notices.specs.Code.{bury-length, bury-none, bury-in, bury-out, bury-all}
use native.Mathlib.Omega.{arith}
use Rattle.notices.proofs.bury.Goals as goal
use Rattle.notices.proofs.bury.Goals.{then-bit, else-bit}

pub loop-k-init : goal.loop-k-init
loop-k-init c = (omega arith, refl, bury-none _ _ _ _)

pub loop-k-preserved : goal.loop-k-preserved
loop-k-preserved c =
    let a = c.args in
    let v = c.loop-k.invariant.2 in
    elim c.if-bit.branch [
      | then-bit w ↦
          let next = bury-in a.nodes.now a.p.0 a.set a.n c.loop-k.k v c.from.ensures c.bit.ensures w.if-bit.true w.set_dead.ensures w.nodes-is in
          (omega arith, ap length next ∙ bury-length _ _ _ _ _, next)
      | else-bit w ↦
          let next = bury-out a.nodes.now a.p.0 a.set a.n c.loop-k.k v c.from.ensures c.bit.ensures w.if-bit.false w.nodes-is in
          (omega arith, ap length next ∙ bury-length _ _ _ _ _, next)
    ]

pub returns : goal.returns
returns c = bury-all _ _ _ _ c.loop-k.k c.loop-k.invariant.2 (omega (arith, c.loop-k.invariant.0, c.loop-k-test.false))
