-- `copies::down` meets its contract: each turn moves one byte, which no turn before it has written over. Assumes nothing.
use native.Mathlib.Omega.{arith}
use Prim.Native.Nat.{◌-◌, min}
use mathlib.Core.Path.{◌≡◌, refl, ap, ◌∙◌}
use lib.ListN.{length, take, drop, length-set, length-drop}
use lib.Seq.{sets}
use borrow.Author.Tests.{le-leb}
use Rattle.laws.specs.Stores.{sets_down, take_min}
use Rattle.copies.proofs.down.Goals as goal

pub loop-i-init : goal.loop-i-init
loop-i-init c = (refl, refl)

pub loop-i-preserved : goal.loop-i-preserved
loop-i-preserved c =
    let l = c.loop-i in
    let a = c.args in
    (sets_down a.buf.now l.buf a.to a.from l.i 0 (omega arith) (omega (arith, c.min-m.ensures)) l.invariant.0, simp length-set l.invariant.1)

pub returns : goal.returns
returns c =
    let l = c.loop-i in
    let a = c.args in
    let d = drop a.from a.buf.now in
    let k : length d ≡ length a.buf.now - a.from = length-drop a.from a.buf.now in
    let e : l.i ≡ min (length d) a.n = omega (arith, c.min-m.ensures, k) in
    rw (le-leb _ _ c.if-from-to.false) (l.invariant.0 ∙ ap (λ j. sets a.buf.now a.to (take j d)) e ∙ ap (sets a.buf.now a.to) (take_min a.n d))
