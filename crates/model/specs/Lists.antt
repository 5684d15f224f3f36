-- Tests joined, tests of a list or of the places of a table, and places by ascending key.
-- Assumes nothing.
use Rattle.std.specs.Prelude.{ℕ, zero, suc, Bool, true, false, List, [], ◌∷◌, ltb}
use Rattle.laws.specs.Tests.{pick}

abbrev pub both : Bool → Bool → Bool
both a b = pick a b false

abbrev pub either : Bool → Bool → Bool
either a b = pick a true b

-- some element passes; every element passes
abbrev pub any : {A : Type 0} → (A → Bool) → List A → Bool
any t [] = false
any t (x ∷ xs) = either (t x) (any t xs)

abbrev pub every : {A : Type 0} → (A → Bool) → List A → Bool
every t [] = true
every t (x ∷ xs) = both (t x) (every t xs)

-- some place below n passes
abbrev pub any_below : (ℕ → Bool) → ℕ → Bool
any_below t zero = false
any_below t (suc n) = either (t n) (any_below t n)

-- the passing place with the least key below n, as a loop upwards finds it
pub data Found : Type 0 where
  nowhere : Found
  at : ℕ → Found

abbrev pub lower : (ℕ → ℕ) → ℕ → Found → Found
lower key i nowhere = at i
lower key i (at j) = pick (ltb (key i) (key j)) (at i) (at j)

unfoldable pub least : (ℕ → Bool) → (ℕ → ℕ) → ℕ → Found
least t key zero = nowhere
least t key (suc i) = pick (t i) (lower key i (least t key i)) (least t key i)

-- the passing places below n by ascending key: the least, then those with a greater key; at most f of them
abbrev pub follow : Found → (ℕ → List ℕ) → List ℕ
follow nowhere rest = []
follow (at i) rest = i ∷ rest i

unfoldable pub rising : (ℕ → Bool) → (ℕ → ℕ) → ℕ → ℕ → List ℕ
rising t key n zero = []
rising t key n (suc f) = follow (least t key n) (λ i. rising (λ j. both (t j) (ltb (key i) (key j))) key n f)
