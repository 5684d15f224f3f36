-- Numbers as sets of bits: the bits of the places that pass a test, whether there is any, the lowest of them, and one of them taken out.
-- Assumes nothing.
use Rattle.std.specs.Prelude.{ℕ, zero, suc, ◌+◌, ◌*◌, ◌-◌, ◌/◌, ◌%◌, ◌^◌, ◌≤◌, ◌<◌, ◌≡◌, refl, Bool, true, false, ltb}
use Rattle.std.proofs.Common.{ap, ◌∙◌, arith, pow_pos, ltb-true, ltb-false}
use Rattle.std.specs.Int.Count.{count_trailing_zeros}
use Rattle.laws.specs.Tests.{pick, Seen, Seen.is_true, Seen.is_false, look, Same, Same.same, Same.other, same?}
use Rattle.laws.specs.Tables.{upd, upd_same, upd_other}
use Rattle.laws.specs.Sums.{sum_to, sum-ext, sum-at}
use Rattle.laws.specs.Loads.{sum-front}
use Rattle.laws.specs.Search.{first, first_found, first-before}

-- bit q is set where q passes, of the places below n
abbrev pub bit : (ℕ → Bool) → ℕ → ℕ
bit t q = pick (t q) (2 ^ q) 0

unfoldable pub bits : (ℕ → Bool) → ℕ → ℕ
bits t n = sum_to (bit t) n

pub bits-ext : (t u : ℕ → Bool) (n : ℕ) → ((q : ℕ) → q < n → t q ≡ u q) → bits t n ≡ bits u n
unfolding bits
bits-ext t u n h = sum-ext (bit t) (bit u) n (λ q l. rw (h q l))

-- below the next bit
pub bits_below : (t : ℕ → Bool) (n : ℕ) → bits t n < 2 ^ n
unfolding bits sum_to
bits_below t zero = omega arith
bits_below t (suc n) = go (look (t n)) (bits_below t n)
  where
    go : Seen (t n) → sum_to (bit t) n < 2 ^ n → bit t n + sum_to (bit t) n < 2 ^ suc n
    go (is_true e) ih = let p : 2 ^ suc n ≡ 2 * 2 ^ n = omega arith in rw e (omega arith)
    go (is_false e) ih = let p : 2 ^ suc n ≡ 2 * 2 ^ n = omega arith in rw e (omega arith)

sum-double : (f g : ℕ → ℕ) (n : ℕ) → ((q : ℕ) → f q ≡ 2 * g q) → sum_to f n ≡ 2 * sum_to g n
unfolding sum_to
sum-double f g zero h = refl
sum-double f g (suc n) h = omega (arith, h n, sum-double f g n h)

-- the lowest bit apart
bits-front : (t : ℕ → Bool) (n : ℕ) → bits t (suc n) ≡ pick (t 0) 1 0 + 2 * bits (λ q. t (suc q)) n
unfolding bits
bits-front t n = sum-front (bit t) n ∙ ap (λ (x : ℕ). pick (t 0) 1 0 + x) (sum-double (λ q. bit t (suc q)) (bit (λ q. t (suc q))) n each)
  where
    each : (q : ℕ) → bit t (suc q) ≡ 2 * bit (λ q. t (suc q)) q
    each q = go (t (suc q))
      where
        go : (b : Bool) → pick b (2 ^ suc q) 0 ≡ 2 * pick b (2 ^ q) 0
        go true = let p : 2 ^ suc q ≡ 2 * 2 ^ q = omega arith in p
        go false = refl

-- the lowest bit is that of the first place that passes
pub bits-first : (t : ℕ → Bool) (n : ℕ) → count_trailing_zeros n (bits t n) ≡ first t n
unfolding count_trailing_zeros first
bits-first t zero = refl
bits-first t (suc n) = go (look (t 0)) (bits-first (λ q. t (suc q)) n)
  where
    r : ℕ
    r = bits (λ q. t (suc q)) n

    go : Seen (t 0) → count_trailing_zeros n r ≡ first (λ q. t (suc q)) n → count_trailing_zeros (suc n) (bits t (suc n)) ≡ first t (suc n)
    go (is_true e) ih =
        let m : (1 + 2 * r) % 2 ≡ 1 = omega arith in
        rw (bits-front t n, e, m)
    go (is_false e) ih =
        let m : (0 + 2 * r) % 2 ≡ 0 = omega arith in
        let d : (0 + 2 * r) / 2 ≡ r = omega arith in
        rw (bits-front t n, e, m, d, ih)

bits-empty : (n : ℕ) → bits (λ q. false) n ≡ 0
unfolding bits sum_to
bits-empty zero = refl
bits-empty (suc n) = omega (arith, bits-empty n)

-- no bit where nothing passes
pub bits_none : (t : ℕ → Bool) (n : ℕ) → bits t n ≡ 0 → (q : ℕ) → q < n → t q ≡ false
unfolding bits sum_to
bits_none t zero h q l = absurd (omega arith)
bits_none t (suc n) h q l = go (look (t n)) (same? q n) (bits_none t n)
  where
    go : Seen (t n) → Same q n → (sum_to (bit t) n ≡ 0 → (q : ℕ) → q < n → t q ≡ false) → t q ≡ false
    go (is_true e) d ih = absurd (omega (arith, pow_pos n, rw e at h))
    go (is_false e) (same d) ih = rw d e
    go (is_false e) (other d) ih = let x : 0 + sum_to (bit t) n ≡ 0 = rw e at h in ih (omega arith) q (omega arith)

-- some bit where something passes
pub bits-some : (t : ℕ → Bool) (n : ℕ) → (bits t n ≡ 0 → ⊥) → first t n < n
bits-some t n h = go (look (ltb (first t n) n))
  where
    go : Seen (ltb (first t n) n) → first t n < n
    go (is_true e) = ltb-true (first t n) n e
    go (is_false e) =
        let l : n ≤ first t n = ltb-false (first t n) n e in
        absurd (h (bits-ext t (λ q. false) n (λ q m. first-before t n q (omega arith)) ∙ bits-empty n))

-- one bit taken out
pub bits-without : (t : ℕ → Bool) (n k : ℕ) → k < n → t k ≡ true → bits t n - 2 ^ k ≡ bits (upd t k false) n
unfolding bits
bits-without t n k l e =
    let s : sum_to (bit t) n + bit (upd t k false) k ≡ sum_to (bit (upd t k false)) n + bit t k =
    sum-at (bit t) (bit (upd t k false)) k n l (λ j m d. rw (upd_other t k j false d)) in
    let a : bit (upd t k false) k ≡ 0 = rw (upd_same {A = Bool}) in
    let b : bit t k ≡ 2 ^ k = rw e in
    omega arith

-- a turn of a walk over the places of a set: its lowest bit, and the set that is left
pub record Walked (t : ℕ → Bool) (n q rest : ℕ) : Type 0 where
  pub inside : q < n
  pub passes : t q ≡ true
  pub before : (j : ℕ) → j < q → t j ≡ false
  pub left : rest ≡ bits (upd t q false) n

pub bits-walk : (t : ℕ → Bool) (n set q rest : ℕ) → set ≡ bits t n → (set ≡ 0 → ⊥) → q ≡ count_trailing_zeros n set → rest ≡ set - 2 ^ q → Walked t n q rest
bits-walk t n set q rest e some at off =
    let f : q ≡ first t n = at ∙ ap (count_trailing_zeros n) e ∙ bits-first t n in
    let l : first t n < n = bits-some t n (λ z. some (e ∙ z)) in
    let p : t (first t n) ≡ true = first_found t n l in
    let w : bits t n - 2 ^ first t n ≡ bits (upd t (first t n) false) n = bits-without t n (first t n) l p in
    record {
      inside = rw f l;
      passes = rw f p;
      before = λ j m. first-before t n j (rw f at m);
      left = rw (off, e, f) w;
    }
