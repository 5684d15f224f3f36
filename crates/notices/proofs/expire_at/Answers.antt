-- `notices::expire_at` meets its contract: each return is one side of the definition's test. Assumes nothing.
use native.Mathlib.Omega.{arith}
use Rattle.rings.specs.Rings.{rings_of}
use Rattle.rings.specs.Lent.{lent}
use Rattle.notices.specs.Code.{place_other, place-notice}
use Rattle.notices.proofs.expire_at.Goals as goal

pub returns-then-e-ne-DESTROYED-clause-done : goal.returns-then-e-ne-DESTROYED-clause-done
returns-then-e-ne-DESTROYED-clause-done c = let a = c.args in place_other a.nodes.now a.handles.now a.charges.now a.p.0 (lent a.rings.now) a.i c.head-head.ensures.0 c.row_of-row.ensures.0 c.entry-e.ensures c.if-e-ne-DESTROYED.true

pub expire-requires : goal.expire-requires
expire-requires c = let z = c.requires in (z.0, z.1, z.2, z.3, omega arith)

pub returns-clause-done : goal.returns-clause-done
returns-clause-done c = let a = c.args in place-notice a.nodes.now a.handles.now a.charges.now a.p.0 (lent a.rings.now) a.i c.head-head.ensures.0 c.row_of-row.ensures.0 c.entry-e.ensures c.if-e-ne-DESTROYED.false c.from-s.ensures c.expire.ensures.done
