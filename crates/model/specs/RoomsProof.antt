-- At most 128 notices, and so at most 188 entries, in a queue of a run.
-- Assumes nothing.
use Rattle.std.specs.Prelude.{ℕ, ◌+◌, ◌≤◌, ◌<◌, ◌≡◌, refl, List, [], ◌∷◌, length}
use Rattle.std.proofs.Common.{sym, arith}
use Rattle.laws.specs.Sums.{sum_to, sum-ext}
use Rattle.laws.specs.Weights.{All, all-imp}
use Rattle.model.specs.Numbers.{nodes}
use Rattle.model.specs.State.{Entry, Entry.message, Entry.destroyed, Entry.released, messages_in, State}
use Rattle.model.specs.Notices.{notices_for, Stands, Noted}
use Rattle.model.specs.Occurs.{sum_ones, sum-zero, sum-next}
use Rattle.model.specs.Rooms.{notices, most_messages, most_entries}

-- A queue is its messages and its notices.
pub queue-split : (q : List Entry) → length q ≡ length (messages_in q) + notices q
queue-split [] = refl
queue-split (message n m ∷ q) = omega (arith, queue-split q)
queue-split (destroyed n s ∷ q) = omega (arith, queue-split q)
queue-split (released n s ∷ q) = omega (arith, queue-split q)

-- A notice is for one node below n.
abbrev Within : ℕ → Entry → Type 0
Within n (message k m) = Unit {0}
Within n (destroyed k s) = s < n
Within n (released k s) = s < n

-- The notices of a queue are those for each node.
pub notices-sum : (n : ℕ) (q : List Entry) → All (Within n) q → notices q ≡ sum_to (λ s. notices_for s q) n
notices-sum n [] a = sym (sum-zero n)
notices-sum n (message k m ∷ q) a = omega (arith, notices-sum n q a.1, sum-ext (λ s. notices_for s q) (λ s. notices_for s (message k m ∷ q)) n (λ s l. omega arith))
notices-sum n (destroyed k t ∷ q) a = omega (arith, notices-sum n q a.1, sum-next (λ s. notices_for s q) t n a.0)
notices-sum n (released k t ∷ q) a = omega (arith, notices-sum n q a.1, sum-next (λ s. notices_for s q) t n a.0)

-- At most one notice a node.
pub notices-few : (b : State) (q : ℕ) → Noted b → notices (b.queue q) ≤ nodes
notices-few b q n = omega (arith, notices-sum nodes (b.queue q) within, sum_ones (λ s. notices_for s (b.queue q)) (n.once q) nodes)
  where
    one : (e : Entry) → Stands b.handle b.life q e → Within nodes e
    one (message k m) a = tt
    one (destroyed k s) a = a.1
    one (released k s) a = (n.holders q s (rw a.1 at (n.owned s a.0))).1

    within : All (Within nodes) (b.queue q)
    within = all-imp (Stands b.handle b.life q) (Within nodes) one (b.queue q) (n.stands q)

pub queue-few : (b : State) (q : ℕ) → Noted b → length (messages_in (b.queue q)) ≤ most_messages → length (b.queue q) ≤ most_entries
queue-few b q n l = omega (arith, queue-split (b.queue q), notices-few b q n)
