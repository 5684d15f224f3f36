-- How often a list has a number, what is kept of a list, and sums with one place apart.
-- Assumes nothing.
use Rattle.std.specs.Prelude.{ℕ, zero, suc, ◌+◌, ◌≤◌, ◌<◌, ◌≡◌, refl, Bool, true, false, ◌⊎◌, List, [], ◌∷◌, eqb}
use Rattle.std.proofs.Common.{sym, ◌∙◌, arith, eqb-true, eq-eqb, ne_eqb}
use Rattle.std.proofs.Math.Logic.◌⊎◌.{inl, inr}
use Rattle.std.proofs.lemmas.Bool.{eqb-false}
use Rattle.laws.specs.Tests.{pick, Seen, Seen.is_true, Seen.is_false, look, clash}
use Rattle.laws.specs.Tables.{upd, upd_other}
use Rattle.laws.specs.Sums.{sum_to, sum-at, sum-upd}
use Rattle.laws.specs.Weights.{load, keep, All, load_split}
use Rattle.model.specs.Lists.{both, either, any_below}
use Rattle.model.specs.Notices.{times}

-- a test that fails does not hold
pub no : {A : Type 0} {b : Bool} → b ≡ false → b ≡ true → A
no e f = clash (sym f ∙ e)

pub both_true : (a b : Bool) → both a b ≡ true → (a ≡ true) × (b ≡ true)
both_true true b e = (refl, e)
both_true false b e = clash (sym e)

pub either-false : (a b : Bool) → either a b ≡ false → (a ≡ false) × (b ≡ false)
either-false true b e = clash e
either-false false b e = (refl, e)

pub any_below_lem : (t : ℕ → Bool) (n i : ℕ) → i < n → any_below t n ≡ false → t i ≡ false
any_below_lem t zero i l e = absurd (omega arith)
any_below_lem t (suc n) i l e = go (look (eqb n i)) (either-false (t n) (any_below t n) e) (λ m f. any_below_lem t n i m f)
  where
    go : Seen (eqb n i) → (t n ≡ false) × (any_below t n ≡ false) → (i < n → any_below t n ≡ false → t i ≡ false) → t i ≡ false
    go (is_true z) x ih = rw (← eqb-true n i z) x.0
    go (is_false z) x ih = let d : n ≡ i → ⊥ = eqb-false n i z in ih (omega arith) x.1

module _ {A : Type 0} where
  -- of what is kept more is known
  pub keep-imp : (P Q : A → Type 0) (t : A → Bool) → ((x : A) → t x ≡ true → P x → Q x) → (xs : List A) → All P xs → All Q (keep t xs)
  keep-imp P Q t f [] h = tt
  keep-imp P Q t f (x ∷ xs) h = go (look (t x)) (keep-imp P Q t f xs h.1)
    where
      go : Seen (t x) → All Q (keep t xs) → All Q (keep t (x ∷ xs))
      go (is_true e) ih = rw e (f x e h.0, ih)
      go (is_false e) ih = rw e ih

  pub all_both : (P Q : A → Type 0) (xs : List A) → All P xs → All Q xs → All (λ x. P x × Q x) xs
  all_both P Q [] h k = tt
  all_both P Q (x ∷ xs) h k = ((h.0, k.0), all_both P Q xs h.1 k.1)

  -- what no element passes weighs nothing
  pub load-none : (t : A → Bool) (w : A → ℕ) (xs : List A) → All (λ x. t x ≡ false) xs → load t w xs ≡ 0
  load-none t w [] h = refl
  load-none t w (x ∷ xs) h = rw h.0 (omega (arith, load-none t w xs h.1))

  pub load-keep : (t : A → Bool) (w : A → ℕ) (d : A → Bool) (xs : List A) → load t w (keep d xs) ≤ load t w xs
  load-keep t w d xs = omega (arith, load_split t w d xs)

-- a number is not in the list, or has what every element has
pub times-all : (P : ℕ → Type 0) (s : ℕ) (xs : List ℕ) → All P xs → (times s xs ≡ 0) ⊎ P s
times-all P s [] a = inl refl
times-all P s (x ∷ xs) a = go (look (eqb x s)) (times-all P s xs a.1)
  where
    go : Seen (eqb x s) → (times s xs ≡ 0) ⊎ P s → (times s (x ∷ xs) ≡ 0) ⊎ P s
    go (is_true e) ih = inr (rw (eqb-true x s e) at a.0)
    go (is_false e) (inl z) = inl (rw e (omega arith))
    go (is_false e) (inr z) = inr z

-- one place, and two, of a sum
pub sum_one : (f : ℕ → ℕ) (i k : ℕ) → i < k → f i ≤ sum_to f k
sum_one f i k l = omega (arith, sum-upd f i 0 k l)

pub sum-two : (f : ℕ → ℕ) (i j k : ℕ) → i < k → j < k → (i ≡ j → ⊥) → f i + f j ≤ sum_to f k
sum-two f i j k l m d = omega (arith, sum-upd f i 0 k l, sum_one (upd f i 0) j k m, upd_other f i j 0 d)

-- a table that is higher at one place, by at most d
pub sum_more : (f g : ℕ → ℕ) (i d k : ℕ) → ((j : ℕ) → (i ≡ j → ⊥) → f j ≤ g j) → f i ≤ g i + d → sum_to f k ≤ sum_to g k + d
unfolding sum_to
sum_more f g i d zero h e = omega arith
sum_more f g i d (suc k) h e = go (look (eqb i k)) (sum_more f g i d k h e)
  where
    le : (n : ℕ) → n ≤ i → sum_to f n ≤ sum_to g n
    le zero m = omega arith
    le (suc n) m = let z : i ≡ n → ⊥ = λ q. absurd (omega arith) in omega (arith, h n z, le n (omega arith))

    go : Seen (eqb i k) → sum_to f k ≤ sum_to g k + d → sum_to f (suc k) ≤ sum_to g (suc k) + d
    go (is_true z) ih = let q : i ≡ k = eqb-true i k z in let y : f k ≤ g k + d = rw (← q) e in omega (arith, le k (omega arith))
    go (is_false z) ih = omega (arith, h k (eqb-false i k z))

-- a table that is all 0, or at most 1 at each place
pub sum-zero : (n : ℕ) → sum_to (λ s. 0) n ≡ 0
unfolding sum_to
sum-zero zero = refl
sum-zero (suc n) = omega (arith, sum-zero n)

pub sum_ones : (f : ℕ → ℕ) → ((s : ℕ) → f s ≤ 1) → (n : ℕ) → sum_to f n ≤ n
unfolding sum_to
sum_ones f h zero = omega arith
sum_ones f h (suc n) = omega (arith, h n, sum_ones f h n)

-- a table that is higher by 1 at the place s
pub sum-next : (f : ℕ → ℕ) (s n : ℕ) → s < n → sum_to (λ t. pick (eqb s t) 1 0 + f t) n ≡ 1 + sum_to f n
sum-next f s n l =
    let e : ◌≡◌ {A = ℕ} (pick (eqb s s) 1 0) 1 = rw (eq-eqb s s refl) in
    omega (arith, sum-at (λ t. pick (eqb s t) 1 0 + f t) f s n l (λ t m d. rw (ne_eqb s t d) (omega arith)))
