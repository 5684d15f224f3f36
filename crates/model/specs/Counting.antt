-- How many places pass a test: the same number where two tests pass at places that go one to one, and fewer than all exactly where a search finds one that does not.
-- Assumes nothing.
use Rattle.std.specs.Prelude.{ℕ, zero, suc, ◌+◌, ◌≤◌, ◌<◌, ◌≡◌, refl, Bool, true, false, not, ltb, leb}
use Rattle.std.proofs.Common.{sym, ap, ◌∙◌, arith, ltb-true, ltb-false, le-leb}
use Rattle.std.proofs.lemmas.Bool.{lt-leb, not-true}
use Rattle.laws.specs.Tests.{pick, Seen, Seen.is_true, Seen.is_false, look, clash, Same, Same.same, Same.other, same?}
use Rattle.laws.specs.Tables.{upd, upd_same, upd_other}
use Rattle.laws.specs.Sums.{sum_to, sum-at}
use Rattle.laws.specs.Search.{first, first_found, first-before}
use Rattle.model.specs.RisingAll.{passing, passing-le}

none-passing : (t : ℕ → Bool) (n : ℕ) → ((j : ℕ) → j < n → t j ≡ true → ⊥) → passing t n ≡ 0
unfolding sum_to
none-passing t zero h = refl
none-passing t (suc n) h = go (look (t n)) (none-passing t n (λ j l. h j (omega arith)))
  where
    go : Seen (t n) → passing t n ≡ 0 → pick (t n) 1 0 + passing t n ≡ 0
    go (is_true e) z = absurd (h n (omega arith) e)
    go (is_false e) z = rw e (omega arith)

-- One place fewer.
one_fewer : (t : ℕ → Bool) (i n : ℕ) → i < n → t i ≡ true → passing t n ≡ passing (upd t i false) n + 1
one_fewer t i n l e =
    let x = sum-at (λ j. pick (upd t i false j) 1 0) (λ j. pick (t j) 1 0) i n l (λ j m d. ap (λ (z : Bool). pick z 1 0) (upd_other t i j false d)) in
    omega (arith, rw (e, upd_same) at x)

-- The places below n that pass t, and those below m that pass u, one to one by f.
pub record OneToOne (t u : ℕ → Bool) (n m : ℕ) (f : ℕ → ℕ) : Type 0 where
  pub apart : (i j : ℕ) → f i ≡ f j → i ≡ j
  pub there : (i : ℕ) → i < m → u i ≡ true → (f i < n) × (t (f i) ≡ true)
  pub back : (j : ℕ) → j < n → t j ≡ true → (i : ℕ) × (i < m) × (u i ≡ true) × (f i ≡ j)

fewer : (t u : ℕ → Bool) (n m : ℕ) (f : ℕ → ℕ) → OneToOne t u n (suc m) f → Seen (u m) → OneToOne (pick (u m) (upd t (f m) false) t) u n m f
fewer t u n m f o (is_true e) =
    rw e
    (record {
      apart = o.apart;
      there = λ i l p. let x = o.there i (omega arith) p in (x.0, rw (upd_other t (f m) (f i) false (λ z. let y = o.apart m i z in absurd (omega arith))) x.1);
      back = λ j l p. still j l p (same? (f m) j);
    })
  where
    still : (j : ℕ) → j < n → upd t (f m) false j ≡ true → Same (f m) j → (i : ℕ) × (i < m) × (u i ≡ true) × (f i ≡ j)
    still j l p (same z) = clash (sym p ∙ rw (z, upd_same) refl)
    still j l p (other z) =
        let x = o.back j l (rw (upd_other t (f m) j false z) at p) in
        (x.0, lower x.0 x.1 (λ w. z (ap f (sym w) ∙ x.3)), x.2, x.3)
      where
        lower : (i : ℕ) → i < suc m → (i ≡ m → ⊥) → i < m
        lower i k h = omega arith
fewer t u n m f o (is_false e) =
    rw e
    (record {
      apart = o.apart;
      there = λ i l p. o.there i (omega arith) p;
      back = λ j l p. let x = o.back j l p in (x.0, lower x.0 x.1 x.2, x.2, x.3);
    })
  where
    lower : (i : ℕ) → i < suc m → u i ≡ true → i < m
    lower i k h = go (same? i m)
      where
        go : Same i m → i < m
        go (same z) = clash (sym h ∙ ap u z ∙ e)
        go (other z) = omega arith

pub as_many : (t u : ℕ → Bool) (n m : ℕ) (f : ℕ → ℕ) → OneToOne t u n m f → passing t n ≡ passing u m
unfolding sum_to
as_many t u n zero f o = none-passing t n (λ j l e. let x = o.back j l e in omega (arith, x.1))
as_many t u n (suc m) f o = go (look (u m)) (λ v x. as_many v u n m f x)
  where
    go : Seen (u m) → ((v : ℕ → Bool) → OneToOne v u n m f → passing v n ≡ passing u m) → passing t n ≡ pick (u m) 1 0 + passing u m
    go (is_true e) ih =
        let x = ih (upd t (f m) false) (rw e at (fewer t u n m f o (is_true e))) in
        let y = o.there m (omega arith) e in
        rw e (omega (arith, x, one_fewer t (f m) n y.0 y.1))
    go (is_false e) ih = rw e (omega (arith, ih t (rw e at (fewer t u n m f o (is_false e)))))

all-passing : (t : ℕ → Bool) (n : ℕ) → ((j : ℕ) → j < n → t j ≡ true) → passing t n ≡ n
unfolding sum_to
all-passing t zero h = refl
all-passing t (suc n) h = rw (h n (omega arith)) (omega (arith, all-passing t n (λ j l. h j (omega arith))))

not-false-true : (x : Bool) → not x ≡ false → x ≡ true
not-false-true true e = refl
not-false-true false e = clash e

-- A search finds a place that does not pass exactly where fewer than all pass.
pub found-fewer : (t : ℕ → Bool) (n : ℕ) → ltb (first (λ j. not (t j)) n) n ≡ not (leb n (passing t n))
found-fewer t n = go (look (ltb (first (λ j. not (t j)) n) n))
  where
    go : Seen (ltb (first (λ j. not (t j)) n) n) → ltb (first (λ j. not (t j)) n) n ≡ not (leb n (passing t n))
    go (is_true e) =
        let i = first (λ j. not (t j)) n in
        let l : i < n = ltb-true i n e in
        let f : t i ≡ false = not-true (t i) (first_found (λ j. not (t j)) n l) in
        rw (e, lt-leb n (passing t n) (less i l f)) refl
      where
        less : (i : ℕ) → i < n → t i ≡ false → passing t n < n
        less i l f =
            let x = sum-at (λ j. pick (t j) 1 0) (λ j. pick (upd t i true j) 1 0) i n l (λ j m d. sym (ap (λ (z : Bool). pick z 1 0) (upd_other t i j true d))) in
            omega (arith, rw (f, upd_same) at x, passing-le (upd t i true) n)
    go (is_false e) =
        let le : n ≤ first (λ j. not (t j)) n = ltb-false (first (λ j. not (t j)) n) n e in
        let x = all-passing t n (λ j l. not-false-true (t j) (first-before (λ j. not (t j)) n j (omega (arith, l, le)))) in
        rw (e, le-leb n (passing t n) (omega (arith, x))) refl
