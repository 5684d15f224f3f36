-- `effects::replace_seed` meets its contract: with no destination the seed is stored, else the table is as it was. Assumes nothing.
use mathlib.Core.Path.{refl}
use Rattle.effects.specs.CodeQueues.{replace-done, replace-none}
use Rattle.effects.proofs.replace_seed.Goals as goal

pub returns-then-z-eq0 : goal.returns-then-z-eq0
returns-then-z-eq0 c = let a = c.args in replace-done a.seeds.now a.p.0 a.z a.w a.payload.now c.if-z-eq0.true c.put.ensures

pub returns-else-z-eq0 : goal.returns-else-z-eq0
returns-else-z-eq0 c = let a = c.args in replace-none a.seeds.now a.p.0 a.z a.w a.payload.now c.if-z-eq0.false refl
