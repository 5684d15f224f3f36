-- `seeds::is_among` meets its contract: the loop's invariant is that no slot passed is the one looked for. Assumes nothing.
use Prim.Native.Nat.{◌+◌}
use Rattle.seeds.specs.Seeds.{row_at}
use Rattle.seeds.specs.Code.{among_none, among-found, among_next}
use native.Mathlib.Omega.{arith}
use Rattle.seeds.proofs.is_among.Goals as goal

pub loop-k-init : goal.loop-k-init
loop-k-init c = λ j h. absurd (omega arith)

pub returns-then-from-s : goal.returns-then-from-s
returns-then-from-s c = let a = c.args in among-found a.seeds.now a.p.0 a.s a.n (omega arith) c.loop-k.k (omega arith) c.from.ensures c.if-from-s.true

pub loop-k-preserved : goal.loop-k-preserved
loop-k-preserved c = let a = c.args in among_next a.seeds.now (row_at a.p.0 + 4) a.s c.loop-k.k c.from.ensures c.if-from-s.false c.loop-k.invariant

pub returns : goal.returns
returns c = let a = c.args in among_none a.seeds.now a.p.0 a.s a.n (omega arith) c.loop-k.k (omega arith) c.loop-k.invariant
