-- More of lists of records: the weight of a whole list as the sum of the weights under each key, the sum of a list as one over its places, what keeps everything.
-- Assumes nothing.
use Rattle.std.specs.Prelude.{ℕ, zero, suc, ◌+◌, ◌<◌, ◌≡◌, refl, true, List, [], ◌∷◌, map, length, get_or, eqb}
use Rattle.std.proofs.Common.{ap, arith, eq-eqb, ne_eqb}
use Rattle.laws.specs.Sums.{sum_to, sum, sum-at}
use Rattle.laws.specs.Weights.{load, keep, All}

-- a sum over places, its first place apart
pub sum-front : (f : ℕ → ℕ) (k : ℕ) → sum_to f (suc k) ≡ f 0 + sum_to (λ j. f (suc j)) k
unfolding sum_to
sum-front f zero = refl
sum-front f (suc k) = omega (arith, sum-front f k)

pub sum-places : (l : List ℕ) → sum_to (λ j. get_or l j 0) (length l) ≡ sum l
unfolding sum_to
sum-places [] = refl
sum-places (x ∷ l) = omega (arith, sum-front (λ j. get_or (x ∷ l) j 0) (length l), sum-places l)

sum_zeros : (k : ℕ) → sum_to (λ j. 0) k ≡ 0
unfolding sum_to
sum_zeros zero = refl
sum_zeros (suc k) = omega (arith, sum_zeros k)

module _ {A : Type 0} (w : A → ℕ) where
  -- the weights under the keys below k make the whole, where every key is below k
  pub load-keys : (key : A → ℕ) (k : ℕ) (xs : List A) → All (λ x. key x < k) xs → sum_to (λ j. load (λ x. eqb (key x) j) w xs) k ≡ load (λ x. true) w xs
  load-keys key k [] h = sum_zeros k
  load-keys key k (x ∷ xs) h =
      let f : ℕ → ℕ = λ j. load (λ x. eqb (key x) j) w (x ∷ xs) in
      let g : ℕ → ℕ = λ j. load (λ x. eqb (key x) j) w xs in
      let e : sum_to f k + g (key x) ≡ sum_to g k + f (key x) = sum-at f g (key x) k h.0 (λ j l n. rw (ne_eqb (key x) j n) (omega arith)) in
      let i : f (key x) ≡ w x + g (key x) = rw (eq-eqb (key x) (key x) refl) refl in
      omega (arith, load-keys key k xs h.1)

-- a test that all pass; a fact of the elements under a function
pub keep-every : {A : Type 0} (xs : List A) → keep (λ x. true) xs ≡ xs
keep-every [] = refl
keep-every (x ∷ xs) = ap (◌∷◌ x) (keep-every xs)

pub all_map : {A B : Type 0} (P : B → Type 0) (f : A → B) (xs : List A) → All (λ x. P (f x)) xs → All P (map f xs)
all_map P f [] h = tt
all_map P f (x ∷ xs) h = (h.0, all_map P f xs h.1)

-- the number of elements as a weight
pub load-length : {A : Type 0} (xs : List A) → load (λ x. true) (λ x. 1) xs ≡ length xs
load-length [] = refl
load-length (x ∷ xs) = omega (arith, load-length xs)
