-- Sums over the places of a table and over a list.
-- Assumes nothing.
use Rattle.std.specs.Prelude.{ℕ, zero, suc, ◌+◌, ◌-◌, ◌≤◌, ◌<◌, ◌≡◌, refl, List, [], ◌∷◌, length, get_or, set}
use Rattle.std.proofs.Common.{arith, not-suc-le-zero, le_of_suc-le-suc}
use Rattle.laws.specs.Tests.{Same, Same.same, Same.other, same?}
use Rattle.laws.specs.Tables.{upd, upd_same, upd_other}

-- f 0 + .. + f (k - 1)
unfoldable pub sum_to : (ℕ → ℕ) → ℕ → ℕ
sum_to f zero = 0
sum_to f (suc k) = f k + sum_to f k

pub sum-ext : (f g : ℕ → ℕ) (k : ℕ) → ((j : ℕ) → j < k → f j ≡ g j) → sum_to f k ≡ sum_to g k
unfolding sum_to
sum-ext f g zero h = refl
sum-ext f g (suc k) h = omega (arith, h k (omega arith), sum-ext f g k (λ j l. h j (omega arith)))

-- two tables that differ at one place
pub sum-at : (f g : ℕ → ℕ) (i k : ℕ) → i < k → ((j : ℕ) → j < k → (i ≡ j → ⊥) → f j ≡ g j) → sum_to f k + g i ≡ sum_to g k + f i
unfolding sum_to
sum-at f g i zero l h = absurd (omega arith)
sum-at f g i (suc k) l h = go (same? i k) (λ m. sum-at f g i k m (λ j n. h j (omega arith)))
  where
    go : Same i k → (i < k → sum_to f k + g i ≡ sum_to g k + f i) → sum_to f (suc k) + g i ≡ sum_to g (suc k) + f i
    go (same e) ih = rw e (omega (arith, sum-ext f g k (λ j m. h j (omega arith) (λ q. absurd (omega arith)))))
    go (other e) ih = omega (arith, h k (omega arith) e, ih (omega arith))

pub sum-upd : (f : ℕ → ℕ) (i v k : ℕ) → i < k → sum_to (upd f i v) k + f i ≡ sum_to f k + v
sum-upd f i v k h = rw upd_same at (sum-at (upd f i v) f i k h (λ j l e. upd_other f i j v e))

-- the sum of a list
abbrev pub sum : List ℕ → ℕ
sum [] = 0
sum (x ∷ xs) = x + sum xs

-- all but one place and that place make the whole
pub sum-set : (l : List ℕ) (i v : ℕ) → i < length l → sum (set l i v) + get_or l i 0 ≡ sum l + v
sum-set [] i v h = absurd (not-suc-le-zero h)
sum-set (x ∷ xs) zero v h = omega arith
sum-set (x ∷ xs) (suc i) v h = omega (arith, sum-set xs i v (le_of_suc-le-suc h))

pub at-most-sum : (l : List ℕ) (i : ℕ) → get_or l i 0 ≤ sum l
at-most-sum [] i = omega arith
at-most-sum (x ∷ xs) zero = omega arith
at-most-sum (x ∷ xs) (suc i) = omega (arith, at-most-sum xs i)

-- the sum without one place, also where there is no such place
pub sum-without : (l : List ℕ) (i : ℕ) → sum (set l i 0) ≡ sum l - get_or l i 0
sum-without [] i = omega arith
sum-without (x ∷ xs) zero = omega arith
sum-without (x ∷ xs) (suc i) = omega (arith, sum-without xs i, at-most-sum xs i)
