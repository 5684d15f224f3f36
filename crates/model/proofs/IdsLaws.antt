-- The theorems that go with specs/IdsLaws.antt and stand on others: each goes by the definitions and the theorems there.
-- Assumes nothing.
use Rattle.std.specs.Prelude.{ℕ, suc, ◌<◌, ◌≡◌, refl, true, false, List, [], ◌∷◌}
use Rattle.laws.specs.Tests.{Seen, Seen.is_true, Seen.is_false, look}
use Rattle.laws.specs.Tables.{upd, upd-rel}
use Rattle.laws.specs.Weights.{All}
use Rattle.model.specs.Numbers.{nodes, owner, next_id}
use Rattle.model.specs.State.{Handle, handle_of, held, count, id_or, State}
use Rattle.model.specs.Tables.{with_given, with_handles, with_queues}
use Rattle.model.specs.Changes.{withdraw, shown, given_after, give, give_all, valid}
use Rattle.model.specs.Ids.{Handles}
use Rattle.model.specs.IdsLaws.{held_of, held_kept, Holding, give-one, valid-held}

pub holding-give : (x : State) (p as_of s : ℕ) → Holding x → s < nodes → Holding (give x p as_of s)
unfolding give withdraw with_handles with_given with_queues shown
holding-give x p as_of s v l = go (look (valid x p as_of s))
  where
    hd : Handle
    hd = x.handle p s

    strange : valid x p as_of s ≡ true → held hd ≡ false → owner s ≡ p → ⊥
    strange e f o = valid-held x p as_of s (v.owned s) e f o

    go : Seen (valid x p as_of s) → Holding (give x p as_of s)
    go (is_false e) = rw e v
    go (is_true e) =
        rw e
        (record {
          handles =
              upd-rel (λ q g h. Handles q g h) x.given x.handle p (given_after hd (x.given p))
              (upd (x.handle p) s (handle_of (id_or (next_id (x.given p)) hd) (suc (count hd)))) v.handles
              (give-one p (x.given p) (x.handle p) s (v.handles p) l (strange e) hd refl);
          owned =
              λ t k. held_kept x.handle p s (handle_of (id_or (next_id (x.given p)) hd) (suc (count hd)))
              (held_of (id_or (next_id (x.given p)) hd) (count hd)) (owner t) t (v.owned t k);
        })

pub holding-gives : (x : State) (p as_of : ℕ) (ss : List ℕ) → Holding x → All (λ s. s < nodes) ss → Holding (give_all x p as_of ss)
holding-gives x p as_of [] v a = v
holding-gives x p as_of (s ∷ ss) v a = holding-gives (give x p as_of s) p as_of ss (holding-give x p as_of s v a.0) a.1
