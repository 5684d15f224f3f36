-- The theorems that go with specs/OrderProof.antt and stand on others: each goes by the definitions and the theorems there.
-- Assumes nothing.
use Rattle.std.specs.Prelude.{ℕ, suc, ◌≤◌}
use Rattle.std.proofs.Common.{arith}
use Rattle.laws.specs.Weights.{All, all-imp}
use Rattle.model.specs.State.{start}
use Rattle.model.specs.Effects.{effect}
use Rattle.model.specs.Accepted.{Kept}
use Rattle.model.proofs.Accepted.{induction}
use Rattle.model.specs.Unchanged.{Count, Count.one_more, Count.nothing, effect-count}
use Rattle.model.specs.Queues.{stamp, taken_by}
use Rattle.model.specs.QueuesLaws.{all-behind, later-all}
use Rattle.model.proofs.QueuesProof.{moved}
use Rattle.model.specs.Order.{Ordered, Order}
use Rattle.model.specs.OrderProof.{later-order, behind-order}

pub ordered-kept : Kept (λ b. (p : ℕ) → Ordered b.accepted (b.queue p))
ordered-kept b f k h l e p = go (effect-count b f k) (h p)
  where
    go : Count b (effect b f k) → Ordered b.accepted (b.queue p) → Ordered (effect b f k).accepted ((effect b f k).queue p)
    go (nothing z) o = rw z o
    go (one_more z) o =
        let n : ℕ = suc b.accepted in
        let low : All (λ d. stamp d ≤ n) (b.queue p) = all-imp (λ d. stamp d ≤ b.accepted) (λ d. stamp d ≤ n) (λ d y. omega arith) (b.queue p) o.numbered in
        let m = moved b f k l e p in
        let t = taken_by b p k in
        let a = (effect b f k).queue p in
        record {
          in_order = behind-order t a (later-order n m low o.in_order);
          numbered = rw z (all-behind (λ d. stamp d ≤ n) t a (later-all (λ d. stamp d ≤ n) (λ d y. omega arith) m low));
        }

pub order : Order
order = induction (λ b. (p : ℕ) → Ordered b.accepted (b.queue p)) (λ p. unfold start in record { in_order = tt; numbered = tt }) ordered-kept
