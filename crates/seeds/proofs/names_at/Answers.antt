-- `seeds::names_at` meets its contract: a peer without a seed names nothing. Assumes nothing.
use native.Mathlib.Omega.{arith}
use mathlib.Core.Path.{◌∙◌}
use Rattle.seeds.specs.Code.{names-unset, names-set}
use Rattle.seeds.proofs.names_at.Goals as goal

pub returns-else-is_set : goal.returns-else-is_set
returns-else-is_set c = let a = c.args in c.if-is_set.false ∙ names-unset a.seeds.now a.p.0 a.s (omega arith) c.is_set.ensures c.if-is_set.false

pub returns-then-is_set : goal.returns-then-is_set
returns-then-is_set c = let a = c.args in names-set a.seeds.now a.p.0 a.s (omega arith) c.is_set.ensures c.if-is_set.true c.nh_of.ensures.0 c.is_among.ensures
