-- Lists of records: what passes a test, the weight of it, and facts of every element.
-- Assumes nothing.
use Rattle.std.specs.Prelude.{ℕ, zero, suc, ◌+◌, ◌≤◌, ◌<◌, ◌≡◌, refl, Bool, not, List, [], ◌∷◌, ◌++◌, map, length, get_or, take}
use Rattle.std.proofs.Common.{ap₂, arith, not-suc-le-zero, le_of_suc-le-suc}
use Rattle.laws.specs.Tests.{pick, Seen, Seen.is_true, Seen.is_false, look}

module _ {A : Type 0} where
  -- the weights of what passes, added up
  abbrev pub load : (A → Bool) → (A → ℕ) → List A → ℕ
  load p w [] = 0
  load p w (x ∷ xs) = pick (p x) (w x) 0 + load p w xs

  -- what passes, in order
  abbrev pub keep : (A → Bool) → List A → List A
  keep p [] = []
  keep p (x ∷ xs) = pick (p x) (x ∷ keep p xs) (keep p xs)

  abbrev pub All : (A → Type 0) → List A → Type 0
  All P [] = Unit {0}
  All P (x ∷ xs) = P x × All P xs

  pub load-append : (p : A → Bool) (w : A → ℕ) (xs ys : List A) → load p w (xs ++ ys) ≡ load p w xs + load p w ys
  load-append p w [] ys = omega arith
  load-append p w (x ∷ xs) ys = omega (arith, load-append p w xs ys)

  -- what is kept and what is left out make the whole
  pub load_split : (p : A → Bool) (w : A → ℕ) (d : A → Bool) (xs : List A) → load p w (keep d xs) + load p w (keep (λ x. not (d x)) xs) ≡ load p w xs
  load_split p w d [] = refl
  load_split p w d (x ∷ xs) = go (look (d x)) (load_split p w d xs)
    where
      go : Seen (d x) → load p w (keep d xs) + load p w (keep (λ x. not (d x)) xs) ≡ load p w xs →
          load p w (keep d (x ∷ xs)) + load p w (keep (λ x. not (d x)) (x ∷ xs)) ≡ load p w (x ∷ xs)
      go (is_true e) ih = simp e (omega arith)
      go (is_false e) ih = simp e (omega arith)

  pub keep_append : (p : A → Bool) (xs ys : List A) → keep p (xs ++ ys) ≡ keep p xs ++ keep p ys
  keep_append p [] ys = refl
  keep_append p (x ∷ xs) ys = go (look (p x)) (keep_append p xs ys)
    where
      go : Seen (p x) → keep p (xs ++ ys) ≡ keep p xs ++ keep p ys → keep p ((x ∷ xs) ++ ys) ≡ keep p (x ∷ xs) ++ keep p ys
      go (is_true e) ih = simp (e, ih)
      go (is_false e) ih = simp (e, ih)

  pub all_append : (P : A → Type 0) (xs ys : List A) → All P xs → All P ys → All P (xs ++ ys)
  all_append P [] ys h k = k
  all_append P (x ∷ xs) ys h k = (h.0, all_append P xs ys h.1 k)

  pub all-imp : (P Q : A → Type 0) → ((x : A) → P x → Q x) → (xs : List A) → All P xs → All Q xs
  all-imp P Q f [] h = tt
  all-imp P Q f (x ∷ xs) h = (f x h.0, all-imp P Q f xs h.1)

  pub all_take : (P : A → Type 0) (n : ℕ) (xs : List A) → All P xs → All P (take n xs)
  all_take P zero xs h = tt
  all_take P (suc n) [] h = tt
  all_take P (suc n) (x ∷ xs) h = (h.0, all_take P n xs h.1)

  -- a fact of every element is one of every place, and the other way round
  pub all-at : (P : A → Type 0) (xs : List A) (j : ℕ) (d : A) → All P xs → j < length xs → P (get_or xs j d)
  all-at P [] j d h l = absurd (not-suc-le-zero l)
  all-at P (x ∷ xs) zero d h l = h.0
  all-at P (x ∷ xs) (suc j) d h l = all-at P xs j d h.1 (le_of_suc-le-suc l)

  pub all_of : (P : A → Type 0) (xs : List A) (n : ℕ) (d : A) → ((j : ℕ) → j < n → P (get_or xs j d)) → All P (take n xs)
  all_of P xs zero d h = tt
  all_of P [] (suc n) d h = tt
  all_of P (x ∷ xs) (suc n) d h = (h zero (omega arith), all_of P xs n d (λ j l. h (suc j) (omega arith)))

  pub all_keep : (P : A → Type 0) (p : A → Bool) (xs : List A) → All P xs → All P (keep p xs)
  all_keep P p [] h = tt
  all_keep P p (x ∷ xs) h = go (look (p x)) (all_keep P p xs h.1)
    where
      go : Seen (p x) → All P (keep p xs) → All P (keep p (x ∷ xs))
      go (is_true e) ih = rw e (h.0, ih)
      go (is_false e) ih = rw e ih

pub keep-le : {A : Type 0} (p : A → Bool) (xs : List A) → length (keep p xs) ≤ length xs
keep-le p [] = omega arith
keep-le p (x ∷ xs) = go (look (p x)) (keep-le p xs)
  where
    go : Seen (p x) → length (keep p xs) ≤ length xs → length (keep p (x ∷ xs)) ≤ length (x ∷ xs)
    go (is_true e) ih = rw e (omega arith)
    go (is_false e) ih = rw e (omega arith)

pub keep-map : {A B : Type 0} (f : A → B) (p : B → Bool) (q : A → Bool) (xs : List A) → ((x : A) → p (f x) ≡ q x) → keep p (map f xs) ≡ map f (keep q xs)
keep-map f p q [] h = refl
keep-map f p q (x ∷ xs) h = go (look (q x)) (keep-map f p q xs h)
  where
    go : Seen (q x) → keep p (map f xs) ≡ map f (keep q xs) → keep p (map f (x ∷ xs)) ≡ map f (keep q (x ∷ xs))
    go (is_true e) ih = simp (h x, e, ih)
    go (is_false e) ih = simp (h x, e, ih)

pub map-all : {A B : Type 0} (f g : A → B) (xs : List A) → All (λ x. f x ≡ g x) xs → map f xs ≡ map g xs
map-all f g [] h = refl
map-all f g (x ∷ xs) h = ap₂ ◌∷◌ h.0 (map-all f g xs h.1)
