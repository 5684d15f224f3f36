-- `notices::set_where` meets its contract: the loop's invariant is that the places passed have their bits, and that these are below the next bit. Assumes nothing.
use native.Mathlib.Omega.{arith}
use Rattle.notices.specs.Code.{setting-none, setting-fits, setting-in, setting-out, setting-all}
use Rattle.notices.proofs.set_where.Goals as goal
use Rattle.notices.proofs.set_where.Goals.{then-test, else-test}

pub loop-k-init : goal.loop-k-init
loop-k-init g c = setting-none

pub overflow_add-set : goal.overflow_add-set
overflow_add-set g c = omega (arith, setting-fits c.loop-k.invariant (omega arith))

pub loop-k-preserved : goal.loop-k-preserved
loop-k-preserved g c =
    elim c.if-test.branch [
      | then-test w ↦ setting-in c.loop-k.invariant (omega arith) c.test.ensures w.if-test.true w.set-is
      | else-test w ↦ setting-out c.loop-k.invariant (omega arith) c.test.ensures w.if-test.false w.set-is
    ]

pub returns : goal.returns
returns g c = setting-all c.loop-k.invariant (omega (arith, c.loop-k.auto, c.loop-k-test.false))
