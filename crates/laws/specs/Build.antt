-- A list made place by place, as one that is read from tables or written by a loop.
-- Assumes nothing.
use Prim.Native.Nat.{ℕ, zero, suc, ◌<◌}
use Rattle.std.specs.Prelude.{◌≡◌, length, get_or, set, drop}
use Rattle.std.proofs.Math.Path.{refl, ap, ap₂}
use Rattle.std.proofs.Common.{sym, ◌∙◌, arith, not-suc-le-zero, le_of_suc-le-suc, drop-cons}
use mathlib.Core.List.{List, [], ◌∷◌, ◌++◌}
use Rattle.std.proofs.lemmas.List.{set_at}
use Rattle.std.proofs.Math.Seq.{append_snoc}

module _ {A : Type 0} where
  -- f 0, f 1, .., f (n - 1)
  unfoldable pub build : (ℕ → A) → ℕ → List A
  build f zero = []
  build f (suc n) = f zero ∷ build (λ j. f (suc j)) n

  pub build-ext : (f g : ℕ → A) (n : ℕ) → ((j : ℕ) → j < n → f j ≡ g j) → build f n ≡ build g n
  unfolding build
  build-ext f g zero h = refl
  build-ext f g (suc n) h = ap₂ ◌∷◌ (h zero (omega arith)) (build-ext (λ j. f (suc j)) (λ j. g (suc j)) n (λ j l. h (suc j) (omega arith)))

  pub build-snoc : (f : ℕ → A) (n : ℕ) → build f (suc n) ≡ build f n ++ (f n ∷ [])
  unfolding build
  build-snoc f zero = refl
  build-snoc f (suc n) = ap (◌∷◌ (f zero)) (build-snoc (λ j. f (suc j)) n)

  pub build-length : (f : ℕ → A) (n : ℕ) → length (build f n) ≡ n
  unfolding build
  build-length f zero = refl
  build-length f (suc n) = ap suc (build-length (λ j. f (suc j)) n)

  pub build-at : (f : ℕ → A) (n i : ℕ) (d : A) → i < n → get_or (build f n) i d ≡ f i
  unfolding build
  build-at f zero i d h = absurd (not-suc-le-zero h)
  build-at f (suc n) zero d h = refl
  build-at f (suc n) (suc i) d h = build-at (λ j. f (suc j)) n i d (le_of_suc-le-suc h)

  -- a loop that stores f k at the place k: the next turn
  pub build-store : (f : ℕ → A) (n : ℕ) (l : List A) → n < length l → set (build f n ++ drop n l) n (f n) ≡ build f (suc n) ++ drop (suc n) l
  build-store f n l h =
      ap (λ (r : List A). set (build f n ++ r) n (f n)) (drop-cons l n (f n) h)
      ∙ set_at (build f n) (get_or l n (f n)) (drop (suc n) l) (f n) n (build-length f n)
      ∙ sym (append_snoc (build f n) (f n) (drop (suc n) l))
      ∙ ap (λ (r : List A). r ++ drop (suc n) l) (sym (build-snoc f n))

  -- a list is what its places build, and so is a part of it
  pub build-list : (d : A) (l : List A) → build (λ j. get_or l j d) (length l) ≡ l
  unfolding build
  build-list d [] = refl
  build-list d (x ∷ l) = ap (◌∷◌ x) (build-list d l)
