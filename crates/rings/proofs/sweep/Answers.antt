-- `rings::sweep` meets its contract: after each turn the rows hold what stays of the entries read, stored from the head on, and nothing else has changed. Assumes nothing.
use Rattle.rings.specs.Sweep.{sweep-from, sweep-next, sweep-done}
use Rattle.rings.specs.Rings.{rows_of}
use native.Mathlib.Omega.{arith}
use Rattle.rings.proofs.sweep.Goals as goal

pub loop-read-init : goal.loop-read-init
loop-read-init c = let a = c.args in let r = c.requires in sweep-from (rows_of a.entries.now a.carried.now a.numbers.now) a.p.0 a.head a.len a.m a.from r.0 r.4 r.3 r.5

pub loop-read-preserved : goal.loop-read-preserved
loop-read-preserved c = let a = c.args in sweep-next (rows_of a.entries.now a.carried.now a.numbers.now) a.p.0 a.head a.len a.m c.loop-read.invariant (omega arith) (omega arith) c.keep_entry-kept.ensures

pub returns : goal.returns
returns c = sweep-done c.loop-read.invariant (omega (arith, c.loop-read.invariant.read))
