-- `pool::remove` meets its contract: after each turn what is left to do gives what the whole gives. Assumes nothing.
use native.Mathlib.Omega.{arith}
use Rattle.rings.specs.Rings.{rings_of}
use Rattle.rings.specs.Lent.{viewed}
use Rattle.pool.specs.Removal.{moving-start, moving-turn, moving-done}
use borrow.Author.Rules.{rules}
use Rattle.pool.proofs.remove.Goals as goal

pub loop-i-init : goal.loop-i-init
loop-i-init c = moving-start _ _ _ _

pub keep_piece-stays-requires : goal.keep_piece-stays-requires
keep_piece-stays-requires c =
    let v = c.loop-i.invariant in
    (search rules, v.low, omega (arith, v.small))

pub loop-i-preserved : goal.loop-i-preserved
loop-i-preserved c =
    let a = c.args in
    moving-turn (viewed a.rings.now) c.loop-i.invariant c.head-head.ensures.0 c.len-len.ensures.0 (omega arith) c.row_of-row.ensures.0 c.entry-e.ensures c.keep_piece-stays.ensures c.bytes_in-read.ensures.0 c.bytes_in-read.ensures.1

pub shape_of-pool : goal.shape_of-pool
shape_of-pool c = c.loop-i.invariant.size

pub returns : goal.returns
returns c =
    let a = c.args in
    moving-done (viewed a.rings.now) c.loop-i.invariant (omega arith)
