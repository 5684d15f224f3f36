-- The seed: a send with no destinations replaces it, a disconnect drops it. The state that the table stands for then, and that it keeps its length.
-- Assumes nothing.
use Rattle.std.specs.Prelude.{ℕ, ◌≤◌, ◌<◌, ◌≡◌, refl, List, length, take, get_or, eqb}
use Rattle.std.proofs.Common.{ap, ◌∙◌}
use Rattle.laws.specs.Tests.{pick_all, Seen, Seen.is_true, Seen.is_false, look}
use Rattle.laws.specs.Tables.{upd}
use Rattle.ids.specs.Sizes.{peers, most_ids, most_bytes, seeds_size}
use Rattle.frames.specs.declared.Sizes.{Sizes}
use Rattle.judges.specs.declared.Places.{Places}
use Rattle.seeds.specs.Seeds.{stored, seed_v}
use Rattle.seeds.specs.Seeds.{dropped as unseeded}
use Rattle.seeds.specs.SeedsView.{put-message, stored-length, drop-view}
use Rattle.model.specs.Numbers.{nodes}
use Rattle.model.specs.State.{Seed, Seed.unset, Seed.kept}
use Rattle.model.specs.Tables.{with_seed}
use Rattle.model.specs.Changes.{reseed}
use Rattle.view.specs.View.{Bus, state_of, set_seeds}
use Rattle.effects.specs.Effects.{replaced}

pub replaced-length : (t : List ℕ) (p : ℕ) (z : Sizes) (w : Places) (bytes : List ℕ) → length (replaced t p z w bytes) ≡ length t
unfolding replaced
replaced-length t p z w bytes =
    pick_all (λ (x : List ℕ). length x ≡ length t) (eqb z.nd 0) (stored t p z.nh w.carried bytes) t (stored-length t p z.nh w.carried bytes) refl

-- One peer's seed changed, the other tables as they were.
with-seeds : (b : Bus) (t : List ℕ) (p : ℕ) (x : Seed) → seed_v t ≡ upd (seed_v b.seeds) p x → state_of (set_seeds b t) ≡ with_seed (state_of b) p x
unfolding with_seed
with-seeds b t p x e = rw e

-- A send within its sizes, whose slots hs stand in front of its eight.
pub replaced-view : (b : Bus) (p : ℕ) (z : Sizes) (w : Places) (hs bytes : List ℕ) → length b.seeds ≡ seeds_size → p < peers → length bytes ≤ most_bytes → z.nh ≤ most_ids →
    length w.carried ≡ most_ids → ((k : ℕ) → k < z.nh → get_or w.carried k 0 < nodes) → take z.nh w.carried ≡ hs →
    state_of (set_seeds b (replaced b.seeds p z w bytes)) ≡ reseed (state_of b) (eqb z.nd 0) p (kept bytes hs)
unfolding replaced
replaced-view b p z w hs bytes size l few least eight low front = go (look (eqb z.nd 0))
  where
    put : seed_v (stored b.seeds p z.nh w.carried bytes) ≡ upd (seed_v b.seeds) p (kept bytes hs)
    put =
        put-message b.seeds p z.nh w.carried bytes size l few least eight low
        ∙ ap (λ (x : List ℕ). upd (seed_v b.seeds) p (kept bytes x)) front

    go : Seen (eqb z.nd 0) → state_of (set_seeds b (replaced b.seeds p z w bytes)) ≡ reseed (state_of b) (eqb z.nd 0) p (kept bytes hs)
    go (is_true e) = rw e (with-seeds b (stored b.seeds p z.nh w.carried bytes) p (kept bytes hs) put)
    go (is_false e) = rw e

pub dropped-view : (b : Bus) (p : ℕ) → length b.seeds ≡ seeds_size → p < peers → state_of (set_seeds b (unseeded b.seeds p)) ≡ with_seed (state_of b) p unset
dropped-view b p size l = with-seeds b (unseeded b.seeds p) p unset (drop-view b.seeds p size l)
