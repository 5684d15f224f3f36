-- `notices::addressees` meets its contract: the test of a peer is the definition's, and eight bits are a byte. Assumes nothing.
use native.Mathlib.Omega.{arith}
use borrow.Author.Rules.{rules}
use Rattle.laws.specs.Bits.{bits_below}
use Rattle.rings.specs.Lent.{viewed}
use Rattle.rings.specs.Rings.{rings_of}
use Rattle.notices.specs.Notices.{tells_at, addressees}
use Rattle.notices.proofs.addressees.Goals as goal

pub overflow_cast-result : goal.overflow_cast-result
overflow_cast-result c =
    let a = c.args in
    let t = tells_at a.handles.now a.charges.now (viewed a.rings.now) a.s a.n in
    omega (arith, c.set_where.ensures t (λ k l b e. search rules), bits_below t 8)

pub returns : goal.returns
unfolding addressees
returns c =
    let a = c.args in
    let t = tells_at a.handles.now a.charges.now (viewed a.rings.now) a.s a.n in
    c.set_where.ensures t (λ k l b e. search rules)
