-- `queues::used` meets its contract: the sum of the four users' bytes, at most the area. Assumes nothing.
use Prim.Native.Nat.{ℕ, min}
use mathlib.Core.Path.{ap, ◌∙◌}
use native.Mathlib.Omega.{arith}
use borrow.Author.Rules.{rules}
use Rattle.pool.specs.Pool.{area_size}
use Rattle.queues.specs.Queues.{used_of}
use Rattle.queues.proofs.used.Goals as goal

pub returns : goal.returns
unfolding used_of
returns c = (c.min.ensures ∙ ap (λ (n : ℕ). min n area_size) (c.total.ensures (λ x. x.bytes) (λ x n e. search rules)), omega (arith, c.min.ensures))
