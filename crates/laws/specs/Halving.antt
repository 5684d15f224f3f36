-- Halving: the first place at which a rising test holds, found by asking it at few places.
-- Assumes nothing.
use Rattle.std.specs.Prelude.{ℕ, zero, suc, ◌+◌, ◌*◌, ◌-◌, ◌/◌, ◌^◌, ◌≤◌, ◌<◌, ◌≡◌, refl, Bool, true, false, List, [], ◌∷◌, length, ltb, leb}
use Rattle.std.proofs.Common.{sym, ap, ◌∙◌, arith, ltb-true, ltb-false, leb-true, le-leb, lt-ltb, le-ltb}
use Rattle.laws.specs.Tests.{pick, Seen, Seen.is_true, Seen.is_false, look, clash}
use Rattle.laws.specs.Weights.{All}
use Rattle.laws.specs.Search.{first, first-is}

abbrev pub middle : ℕ → ℕ → ℕ
middle low high = (low + high) / 2

-- the place found between low and high with at most f questions
unfoldable pub halve : (ℕ → Bool) → ℕ → ℕ → ℕ → ℕ
halve t zero low high = low
halve t (suc f) low high = pick (ltb low high) (pick (t (middle low high)) (halve t f low (middle low high)) (halve t f (middle low high + 1) high)) low

-- the places asked
unfoldable pub asked : (ℕ → Bool) → ℕ → ℕ → ℕ → List ℕ
asked t zero low high = []
asked t (suc f) low high =
    pick (ltb low high) (middle low high ∷ pick (t (middle low high)) (asked t f low (middle low high)) (asked t f (middle low high + 1) high)) []

-- one question; none is left
module _ (t : ℕ → Bool) (f low high : ℕ) where
  pub halve-down : low < high → t (middle low high) ≡ true → halve t (suc f) low high ≡ halve t f low (middle low high)
  unfolding halve
  halve-down l e = rw (lt-ltb low high l, e)

  pub halve-up : low < high → t (middle low high) ≡ false → halve t (suc f) low high ≡ halve t f (middle low high + 1) high
  unfolding halve
  halve-up l e = rw (lt-ltb low high l, e)

pub halve-done : (t : ℕ → Bool) (f low high : ℕ) → high ≤ low → halve t f low high ≡ low
unfolding halve
halve-done t zero low high l = refl
halve-done t (suc f) low high l = rw (le-ltb low high l)

-- at most f places are asked
pub asked-few : (t : ℕ → Bool) (f low high : ℕ) → length (asked t f low high) ≤ f
unfolding asked
asked-few t zero low high = omega arith
asked-few t (suc f) low high = go (look (ltb low high)) (look (t (middle low high))) (asked-few t f)
  where
    go : Seen (ltb low high) → Seen (t (middle low high)) → ((a b : ℕ) → length (asked t f a b) ≤ f) → length (asked t (suc f) low high) ≤ suc f
    go (is_false e) q ih = rw e (omega arith)
    go (is_true e) (is_true d) ih = rw (e, d) (omega (arith, ih low (middle low high)))
    go (is_true e) (is_false d) ih = rw (e, d) (omega (arith, ih (middle low high + 1) high))

-- the place found depends on what the test says at the places asked, and on nothing else
pub halve-same : (t u : ℕ → Bool) (f low high : ℕ) → All (λ j. u j ≡ t j) (asked t f low high) → halve u f low high ≡ halve t f low high
unfolding halve asked
halve-same t u zero low high h = refl
halve-same t u (suc f) low high h = go (look (ltb low high)) (look (t (middle low high))) (halve-same t u f)
  where
    mid : ℕ
    mid = middle low high

    go : Seen (ltb low high) → Seen (t mid) → ((a b : ℕ) → All (λ j. u j ≡ t j) (asked t f a b) → halve u f a b ≡ halve t f a b) →
        halve u (suc f) low high ≡ halve t (suc f) low high
    go (is_false e) q ih = rw e
    go (is_true e) (is_true d) ih =
        let k : (u mid ≡ true) × All (λ j. u j ≡ t j) (asked t f low mid) = rw (e, d) at h in
        let c : u mid ≡ true = k.0 in
        rw (e, d, c) (ih low mid k.1)
    go (is_true e) (is_false d) ih =
        let k : (u mid ≡ false) × All (λ j. u j ≡ t j) (asked t f (mid + 1) high) = rw (e, d) at h in
        let c : u mid ≡ false = k.0 in
        rw (e, d, c) (ih (mid + 1) high k.1)

-- a test that holds from some place below n on
abbrev pub Rising : (ℕ → Bool) → ℕ → Type 0
Rising t n = (i j : ℕ) → i ≤ j → j < n → t i ≡ true → t j ≡ true

-- the place that parts where the test fails from where it holds
pub record Parts (t : ℕ → Bool) (low high r : ℕ) : Type 0 where
  pub from : low ≤ r
  pub upto : r ≤ high
  pub before : (j : ℕ) → low ≤ j → j < r → t j ≡ false
  pub here : r < high → t r ≡ true

pub halve-parts : (t : ℕ → Bool) (f low high : ℕ) → Rising t high → low ≤ high → high - low < 2 ^ f → Parts t low high (halve t f low high)
unfolding halve
halve-parts t zero low high up l few = record { from = omega arith; upto = l; before = λ j a b. absurd (omega arith); here = λ a. absurd (omega arith) }
halve-parts t (suc f) low high up l few = go (look (ltb low high)) (look (t (middle low high))) (halve-parts t f)
  where
    mid : ℕ
    mid = middle low high

    half : 2 ^ suc f ≡ 2 * 2 ^ f
    half = omega arith

    go : Seen (ltb low high) → Seen (t mid) → ((a b : ℕ) → Rising t b → a ≤ b → b - a < 2 ^ f → Parts t a b (halve t f a b)) → Parts t low high (halve t (suc f) low high)
    go (is_false e) q ih =
        let m : high ≤ low = ltb-false low high e in
        rw e (record { from = omega arith; upto = omega arith; before = λ j a b. absurd (omega arith); here = λ a. absurd (omega arith) })
    go (is_true e) (is_true d) ih =
        let m : low < high = ltb-true low high e in
        let x = ih low mid (λ i j a b. up i j a (omega arith)) (omega arith) (omega (arith, half)) in
        rw (e, d)
        (record {
          from = x.from;
          upto = omega (arith, x.upto);
          before = x.before;
          here = λ a. at x (look (ltb (halve t f low mid) mid));
        })
      where
        at : Parts t low mid (halve t f low mid) → Seen (ltb (halve t f low mid) mid) → t (halve t f low mid) ≡ true
        at x (is_true c) = x.here (ltb-true (halve t f low mid) mid c)
        at x (is_false c) =
            let q : halve t f low mid ≡ mid = omega (arith, ltb-false (halve t f low mid) mid c, x.upto) in
            ap t q ∙ d
    go (is_true e) (is_false d) ih =
        let m : low < high = ltb-true low high e in
        let x = ih (mid + 1) high up (omega arith) (omega (arith, half)) in
        rw (e, d)
        (record {
          from = omega (arith, x.from);
          upto = x.upto;
          before = λ j a b. under j x b (look (ltb mid j));
          here = x.here;
        })
      where
        under : (j : ℕ) → Parts t (mid + 1) high (halve t f (mid + 1) high) → j < halve t f (mid + 1) high → Seen (ltb mid j) → t j ≡ false
        under j x b (is_true c) = x.before j (omega (arith, ltb-true mid j c)) b
        under j x b (is_false c) = low_half (look (t j))
          where
            low_half : Seen (t j) → t j ≡ false
            low_half (is_false n) = n
            low_half (is_true y) =
                let k : low < high = ltb-true low high e in
                clash (sym (up j mid (ltb-false mid j c) (omega arith) y) ∙ d)

-- so it is the first place below n where the test holds, and n if there is none, with f questions where n is below 2^f
pub halve-first : (t : ℕ → Bool) (f n : ℕ) → Rising t n → n < 2 ^ f → halve t f 0 n ≡ first t n
halve-first t f n up few =
    let x = halve-parts t f 0 n up (omega arith) (omega (arith, few)) in
    first-is t n (halve t f 0 n) x.upto (λ j l. x.before j (omega arith) l) x.here

-- in a list whose keys rise, the test "the key is at least k" rises
pub keys-rise : (key : ℕ → ℕ) (k n : ℕ) → ((i j : ℕ) → i < j → j < n → key i < key j) → Rising (λ j. leb k (key j)) n
keys-rise key k n up i j l m e = go (look (ltb i j))
  where
    go : Seen (ltb i j) → leb k (key j) ≡ true
    go (is_true c) = le-leb k (key j) (omega (arith, leb-true k (key i) e, up i j (ltb-true i j c) m))
    go (is_false c) =
        let q : i ≡ j = omega (arith, ltb-false i j c) in
        ap (λ (x : ℕ). leb k (key x)) (sym q) ∙ e
