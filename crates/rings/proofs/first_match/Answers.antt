-- `rings::first_match` meets its contract: no entry read so far matches, so the one that stops the loop is the first. Assumes nothing.
use Rattle.rings.specs.Search.{passing-start, passing-next, passing-found, passing-end}
use native.Mathlib.Omega.{arith}
use Rattle.rings.proofs.first_match.Goals as goal

pub loop-i-init : goal.loop-i-init
loop-i-init c = let a = c.args in passing-start a.entries.now a.p.0 a.head a.len a.m

pub returns-then-is_match_at : goal.returns-then-is_match_at
returns-then-is_match_at c = let a = c.args in passing-found a.entries.now a.p.0 a.head a.len a.m c.loop-i.i c.loop-i.invariant (omega arith) c.row_of-row.ensures.0 c.is_match_at.ensures c.if-is_match_at.true

pub loop-i-preserved : goal.loop-i-preserved
loop-i-preserved c = let a = c.args in passing-next a.entries.now a.p.0 a.head a.len a.m c.loop-i.i c.loop-i.invariant (omega arith) c.row_of-row.ensures.0 c.is_match_at.ensures c.if-is_match_at.false

pub returns : goal.returns
returns c = let a = c.args in passing-end a.entries.now a.p.0 a.head a.len a.m c.loop-i.i c.loop-i.invariant (omega arith)
