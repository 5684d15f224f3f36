-- The theorems that go with specs/NoticesEnds.antt and stand on others: each goes by the definitions and the theorems there.
-- Assumes nothing.
use Rattle.std.specs.Prelude.{ℕ, ◌≡◌, Bool, true}
use Rattle.std.proofs.Math.Path.{refl}
use Rattle.std.proofs.Common.{eq-eqb}
use Rattle.laws.specs.Weights.{All, all-imp}
use Rattle.model.specs.Numbers.{owner}
use Rattle.model.specs.Lists.{both}
use Rattle.model.specs.State.{is_live, Entry.destroyed, State, by_owner_id, concerned}
use Rattle.model.specs.Tables.{with_queues, with_lives}
use Rattle.model.specs.Changes.{withdraw, destroy_notices, destroy_all}
use Rattle.model.specs.Notices.{notices_for, Stands, Noted}
use Rattle.model.specs.Occurs.{both_true}
use Rattle.model.specs.Rising.{owner-pass, owner-once}
use Rattle.model.specs.NoticesQueues.{noted-withdraw, Without, withdraw-without, noted-push_all}
use Rattle.model.specs.NoticesEnds.{lives, noted-lives, none-stands}

-- Live nodes of the owner p are destroyed.
pub noted-destroy_all : (b : State) (p : ℕ) (t : ℕ → Bool) → Noted b → ((s : ℕ) → owner s ≡ p → t s ≡ true → is_live (b.life s) ≡ true) → Noted (destroy_all b p t)
unfolding destroy_all destroy_notices
noted-destroy_all b p t n alive =
    noted-push_all c (destroyed b.accepted) (λ q. by_owner_id b.handle p (λ s. both (t s) (concerned (b.handle q) (b.queue q) b.accepted s))) m (λ s u. refl)
    (λ q. all-imp (λ s. (both (t s) (concerned (b.handle q) (b.queue q) b.accepted s) ≡ true) × (owner s ≡ p))
    (λ s. Stands c.handle c.life q (destroyed b.accepted s) × (notices_for s (c.queue q) ≡ 0))
    (λ s z. fresh q s (both_true (t s) (concerned (b.handle q) (b.queue q) b.accepted s) z.0).0 z.1) (by_owner_id b.handle p (λ s. both (t s) (concerned (b.handle q) (b.queue q) b.accepted s)))
    (owner-pass b.handle p (λ s. both (t s) (concerned (b.handle q) (b.queue q) b.accepted s))))
    (λ q. owner-once b.handle p (λ s. both (t s) (concerned (b.handle q) (b.queue q) b.accepted s)))
  where
    w : State
    w = withdraw b p t

    c : State
    c = with_lives w (lives b p t b.accepted)

    v : Noted w
    v = noted-withdraw b p t n

    without : (q : ℕ) → All (Without p t) (w.queue q)
    without = withdraw-without b p t n

    m : Noted c
    m = unfold withdraw with_queues in noted-lives w p t b.accepted v alive without

    fresh : (q s : ℕ) → t s ≡ true → owner s ≡ p →
        Stands c.handle c.life q (destroyed b.accepted s) × (notices_for s (c.queue q) ≡ 0)
    fresh q s z o = unfold with_lives withdraw with_queues in ((rw (eq-eqb (owner s) p o, z) refl, (n.holders (owner s) s (n.owned s (alive s o z))).1), none-stands w p t q s v (without q) (alive s o z) o z)
