-- The theorems that go with specs/Quiet.antt and stand on others: each goes by the definitions and the theorems there.
-- Assumes nothing.
use Rattle.std.specs.Prelude.{ℕ, Bool, List, [], ◌∷◌}
use Rattle.model.specs.Lists.{both}
use Rattle.model.specs.State.{State, by_owner_id, concerned}
use Rattle.model.specs.Changes.{at_peers, give, give_all, fell, release_notices, notify_all, destroy_notices, destroy_all}
use Rattle.model.specs.Quiet.{Quiet, quiet_same, quiet_then, destroyed-silent, released-silent, quiet-lives, quiet-push_all, quiet-withdraw, quiet-give, at-peers-silent}

pub quiet-give_all : (b : State) (p as_of : ℕ) (ss : List ℕ) → Quiet b (give_all b p as_of ss)
quiet-give_all b p as_of [] = quiet_same b
quiet-give_all b p as_of (s ∷ ss) = quiet_then (quiet-give b p as_of s) (quiet-give_all (give b p as_of s) p as_of ss)

pub quiet-notify_all : (a b : State) → Quiet b (notify_all a b)
unfolding notify_all release_notices
quiet-notify_all a b = quiet-push_all b (at_peers (release_notices a b)) (λ q. at-peers-silent (release_notices a b) q (released-silent b.accepted (by_owner_id b.handle q (fell a b))))

pub quiet-destroy_all : (b : State) (p : ℕ) (t : ℕ → Bool) → Quiet b (destroy_all b p t)
unfolding destroy_all destroy_notices
quiet-destroy_all b p t =
    quiet_then (quiet_then (quiet-withdraw b p t) (quiet-lives _ _))
    (quiet-push_all _ (at_peers (destroy_notices b p t)) (λ q.
    at-peers-silent (destroy_notices b p t) q (destroyed-silent b.accepted (by_owner_id b.handle p (λ s. both (t s) (concerned (b.handle q) (b.queue q) b.accepted s))))))
