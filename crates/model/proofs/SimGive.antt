-- The theorems that go with specs/SimGive.antt and stand on others: each goes by the definitions and the theorems there.
-- Assumes nothing.
use Rattle.std.specs.Prelude.{ℕ, suc, ◌+◌, ◌<◌, length}
use Rattle.std.proofs.Common.{arith}
use mathlib.Core.List.{List, [], ◌∷◌, map}
use Rattle.laws.specs.Tests.{Seen, Seen.is_true, Seen.is_false, look}
use Rattle.laws.specs.Tables.{upd-rel}
use Rattle.laws.specs.Weights.{All}
use Rattle.model.specs.Numbers.{nodes, next_id}
use Rattle.model.specs.State.{count, id_or, State}
use Rattle.model.specs.Tables.{with_given, with_handles, with_queues}
use Rattle.model.specs.Changes.{withdraw, shown, given_after, give, give_all, shown_all, valid}
use Rattle.model.specs.Book.{Book, learn}
use Rattle.model.specs.Sim.{called, Sim}
use Rattle.model.specs.SimGive.{IdsAt, enough, Ids, ids_set, sim-give, shown-small, given-le, id-given, given-give}

-- The IDs after a handle was given, and how many have been.
pub ids-give : (b : State) (p as_of s : ℕ) → Ids b → b.given p < enough → Ids (give b p as_of s)
unfolding give shown withdraw with_given with_handles with_queues
ids-give b p as_of s ok low = go (look (valid b p as_of s))
  where
    go : Seen (valid b p as_of s) → Ids (give b p as_of s)
    go (is_false e) = rw e ok
    go (is_true e) =
        let x = id-given (b.handle p) (b.given p) s (ok p) low in
        rw e
        (upd-rel (λ _ h n. IdsAt h n) b.handle b.given p _ _ ok
        (ids_set (b.handle p) (b.given p) (given_after (b.handle p s) (b.given p)) s (id_or (next_id (b.given p)) (b.handle p s)) (suc (count (b.handle p s))) (ok p)
        (given-le (b.handle p s) (b.given p)).0 x.0 x.1))

-- Handles given one after another.
pub sim-gives : {N : ℕ} (name : ℕ → ℕ) (b : State) (k : Book) (p as_of : ℕ) (ss : List ℕ) → Sim N name b k → Ids b → All (λ s. s < nodes) ss →
    b.given p + length ss < enough → Sim N name (give_all b p as_of ss) (learn k p (shown_all b p as_of ss) (map (called name) ss))
sim-gives name b k p as_of [] r ok l low = r
sim-gives name b k p as_of (s ∷ ss) r ok l low =
    sim-gives name (give b p as_of s) _ p as_of ss (sim-give name b k p as_of s r ok l.0 (omega arith)) (ids-give b p as_of s ok (omega arith)) l.1 (omega (arith, given-give b p as_of s p))

pub shown-all-small : (b : State) (p as_of : ℕ) (ss : List ℕ) → Ids b → b.given p + length ss < enough → All (λ i. i < 18446744073709551616) (shown_all b p as_of ss)
shown-all-small b p as_of [] ok low = tt
shown-all-small b p as_of (s ∷ ss) ok low =
    (shown-small b p as_of s ok (omega arith), shown-all-small (give b p as_of s) p as_of ss (ids-give b p as_of s ok (omega arith)) (omega (arith, given-give b p as_of s p)))

pub ids-gives : (b : State) (p as_of : ℕ) (ss : List ℕ) → Ids b → b.given p + length ss < enough → Ids (give_all b p as_of ss)
ids-gives b p as_of [] ok low = ok
ids-gives b p as_of (s ∷ ss) ok low = ids-gives (give b p as_of s) p as_of ss (ids-give b p as_of s ok (omega arith)) (omega (arith, given-give b p as_of s p))
