-- The first place that passes a test.
-- Assumes nothing.
use Rattle.std.specs.Prelude.{ℕ, zero, suc, ◌+◌, ◌-◌, ◌≤◌, ◌<◌, ◌≡◌, refl, Bool, true, false, ltb}
use Rattle.std.proofs.Common.{sym, ap, ◌∙◌, arith, not-suc-le-zero, le_of_suc-le-suc, ltb-true, ltb-false}
use Rattle.laws.specs.Tests.{pick, Seen, Seen.is_true, Seen.is_false, look, clash}

-- the first place below n that passes, or n where none does
unfoldable pub first : (ℕ → Bool) → ℕ → ℕ
first p zero = zero
first p (suc n) = let rest = suc (first (λ j. p (suc j)) n) in pick (p zero) zero rest

pub first-le : (p : ℕ → Bool) (n : ℕ) → first p n ≤ n
unfolding first
first-le p zero = omega arith
first-le p (suc n) = go (look (p zero)) (first-le (λ j. p (suc j)) n)
  where
    go : Seen (p zero) → first (λ j. p (suc j)) n ≤ n → first p (suc n) ≤ suc n
    go (is_true e) ih = rw e (omega arith)
    go (is_false e) ih = rw e (omega arith)

-- equal tests find the same place
pub first-ext : (p q : ℕ → Bool) (n : ℕ) → ((j : ℕ) → j < n → p j ≡ q j) → first p n ≡ first q n
unfolding first
first-ext p q zero h = refl
first-ext p q (suc n) h = rw (h zero (omega arith), first-ext (λ j. p (suc j)) (λ j. q (suc j)) n (λ j l. h (suc j) (omega arith)))

pub first_found : (p : ℕ → Bool) (n : ℕ) → first p n < n → p (first p n) ≡ true
unfolding first
first_found p zero = λ h. absurd (not-suc-le-zero h)
first_found p (suc n) = go (look (p zero)) (first_found (λ j. p (suc j)) n)
  where
    go : Seen (p zero) → (first (λ j. p (suc j)) n < n → p (suc (first (λ j. p (suc j)) n)) ≡ true) → first p (suc n) < suc n → p (first p (suc n)) ≡ true
    go (is_true e) ih h = rw (e, e)
    go (is_false e) ih h = rw e (ih (le_of_suc-le-suc (rw e at h)))

pub first-before : (p : ℕ → Bool) (n j : ℕ) → j < first p n → p j ≡ false
unfolding first
first-before p zero = λ j h. absurd (not-suc-le-zero h)
first-before p (suc n) = go (look (p zero)) (first-before (λ j. p (suc j)) n)
  where
    go : Seen (p zero) → ((j : ℕ) → j < first (λ j. p (suc j)) n → p (suc j) ≡ false) → (j : ℕ) → j < first p (suc n) → p j ≡ false
    go (is_true e) ih j h = absurd (not-suc-le-zero (rw e at h))
    go (is_false e) ih zero h = e
    go (is_false e) ih (suc j) h = ih j (le_of_suc-le-suc (rw e at h))

-- a place is the first if nothing before it passes and it passes, or is n
pub first-is : (p : ℕ → Bool) (n r : ℕ) → r ≤ n → ((j : ℕ) → j < r → p j ≡ false) → (r < n → p r ≡ true) → r ≡ first p n
first-is p n r h before at = go (look (ltb r (first p n))) (look (ltb (first p n) r))
  where
    go : Seen (ltb r (first p n)) → Seen (ltb (first p n) r) → r ≡ first p n
    go (is_true e) q = let l = ltb-true _ _ e in clash (sym (at (omega (arith, first-le p n))) ∙ first-before p n r l)
    go (is_false e) (is_true f) = let l = ltb-true _ _ f in clash (sym (first_found p n (omega arith)) ∙ before (first p n) l)
    go (is_false e) (is_false f) = omega (arith, ltb-false r (first p n) e, ltb-false (first p n) r f)

-- a place before which nothing passes, and the first from there on
pub first-from : (p : ℕ → Bool) (n d : ℕ) → d ≤ n → ((j : ℕ) → j < d → p j ≡ false) → d + first (λ j. p (d + j)) (n - d) ≡ first p n
first-from p n d h before = first-is p n (d + r) (omega (arith, first-le q (n - d))) low at
  where
    q : ℕ → Bool
    q j = p (d + j)

    r : ℕ
    r = first q (n - d)

    low : (j : ℕ) → j < d + r → p j ≡ false
    low j l = go (look (ltb j d))
      where
        go : Seen (ltb j d) → p j ≡ false
        go (is_true e) = before j (ltb-true j d e)
        go (is_false e) =
            let m : d ≤ j = ltb-false j d e in
            let k : d + (j - d) ≡ j = omega arith in
            ap p (sym k) ∙ first-before q (n - d) (j - d) (omega arith)

    at : d + r < n → p (d + r) ≡ true
    at l = first_found q (n - d) (omega arith)
