-- `seeds::names` meets its contract: the loop's invariant is that no peer passed has a seed that names the slot. Assumes nothing.
use mathlib.Core.Path.{refl}
use Rattle.seeds.specs.Code.{naming-next, naming-found, naming-none}
use native.Mathlib.Omega.{arith}
use Rattle.seeds.proofs.names.Goals as goal

pub loop-q-init : goal.loop-q-init
loop-q-init c = (omega arith, refl)

pub returns-then-names_at : goal.returns-then-names_at
returns-then-names_at c = let a = c.args in naming-found a.seeds.now a.s c.loop-q.q (omega arith) c.names_at.ensures c.if-names_at.true

pub loop-q-preserved : goal.loop-q-preserved
loop-q-preserved c = let a = c.args in (omega arith, naming-next a.seeds.now a.s c.loop-q.q c.names_at.ensures c.if-names_at.false c.loop-q.invariant.1)

pub returns : goal.returns
returns c = let a = c.args in naming-none a.seeds.now a.s c.loop-q.q (omega arith) (omega arith) c.loop-q.invariant.1
