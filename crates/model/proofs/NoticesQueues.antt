-- The theorems that go with specs/NoticesQueues.antt and stand on others: each goes by the definitions and the theorems there.
-- Assumes nothing.
use Rattle.std.specs.Prelude.{ℕ, ◌≡◌, refl, true}
use Rattle.laws.specs.Weights.{All, all-imp}
use Rattle.model.specs.Numbers.{owner}
use Rattle.model.specs.State.{Entry.released, State, by_owner_id}
use Rattle.model.specs.Changes.{fell, release_notices, notify_all}
use Rattle.model.specs.Notices.{notices_for, Stands, Noted}
use Rattle.model.specs.Rising.{owner-pass, owner-once}
use Rattle.model.specs.NoticesQueues.{Lone, fell-facts, fell-none, noted-push_all}

pub noted-notify_all : (a b : State) → Noted b → ((q : ℕ) → All (Lone a.handle) (b.queue q)) → Noted (notify_all a b)
unfolding notify_all release_notices
noted-notify_all a b n old =
    noted-push_all b (released b.accepted) (λ q. by_owner_id b.handle q (fell a b)) n (λ s t. refl)
    (λ q. all-imp (λ s. (fell a b s ≡ true) × (owner s ≡ q)) (λ s. Stands b.handle b.life q (released b.accepted s) × (notices_for s (b.queue q) ≡ 0))
    (λ s z. let f = fell-facts a b s z.0 in ((f.0, z.1, f.2), fell-none a b s q n (old q) z.0))
    (by_owner_id b.handle q (fell a b)) (owner-pass b.handle q (fell a b)))
    (λ q. owner-once b.handle q (fell a b))
