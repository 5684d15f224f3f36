-- `grants::give` meets its contract: where the handle is not shown nothing changes; else the release notice is withdrawn where the sum of counts is 1, and a reference added. Assumes nothing.
use mathlib.Core.Path.{ap, ◌∙◌}
use lib.ListN.{length}
use borrow.Author.Tests.{not-true, not-false}
use Rattle.rings.specs.Rings.{rings_of}
use Rattle.rings.specs.Lent.{lent}
use Rattle.grants.specs.Code.{give-dead, give-one, give-more}
use native.Mathlib.Omega.{arith}
use borrow.Author.Rules.{rules}
use Rattle.grants.proofs.give.Goals as goal
use Rattle.grants.proofs.give.Goals.{then-total-eq1, else-total-eq1}

pub returns-then-not-valid-clause-done : goal.returns-then-not-valid-clause-done
returns-then-not-valid-clause-done c = let a = c.args in give-dead a.nodes.now a.peers.now a.handles.now (lent a.rings.now) a.p.0 a.n a.s c.valid.ensures c.if-not-valid.true

pub returns-clause-done : goal.returns-clause-done
returns-clause-done c = let a = c.args in elim c.if-total-eq1.branch [
  | then-total-eq1 w ↦ give-one a.nodes.now a.peers.now a.handles.now (lent a.rings.now) a.p.0 a.n a.s c.valid.ensures c.if-not-valid.false c.total.ensures c.add_reference.ensures w.if-total-eq1.true w.one_slot.ensures (ap lent w.rings-is ∙ w.withdraw.ensures.done)
  | else-total-eq1 w ↦ give-more a.nodes.now a.peers.now a.handles.now (lent a.rings.now) a.p.0 a.n a.s c.valid.ensures c.if-not-valid.false c.total.ensures c.add_reference.ensures w.if-total-eq1.false (ap lent w.rings-is)
]
