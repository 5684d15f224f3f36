-- A line that is written is read back: the frame's length, where the next line starts, and the bytes.
-- Assumes nothing.
use Rattle.std.specs.Prelude.{ℕ, zero, suc, ◌+◌, ◌*◌, ◌/◌, ◌%◌, ◌≤◌, ◌<◌, min, ◌≡◌, true, not, List, [], ◌∷◌, ◌++◌, get_or, ltb}
use Rattle.std.proofs.Math.Path.{refl, sym, ap}
use Rattle.std.proofs.Common.{◌∙◌, arith, not-suc-le-zero, le_of_suc-le-suc}
use Rattle.std.proofs.Math.Bool.{false}
use Rattle.std.proofs.Math.ListN.{length, take, length-append, get_or-append}
use Rattle.std.proofs.Math.Seq.{take_at}
use Rattle.std.proofs.lemmas.List.{get_or_at}
use Rattle.std.proofs.Math.Dec.{eqb}
use borrow.Author.Tests.{ltb-true, ltb-false, eq-eqb, ne_eqb, lt-ltb, le-ltb, le-leb}
use Rattle.laws.specs.Tests.{Seen, Seen.is_true, Seen.is_false, look}
use Rattle.laws.specs.Weights.{All, all-at}
use Rattle.laws.specs.Search.{first-is}
use Rattle.laws.specs.Build.{build}
use Rattle.lines.specs.Line.{lf, most_digits, is_digit, digit_value, fault_place, line_length, pair_at, line_read, read_line, digit_of, digits_of}
use Rattle.lines.specs.LineLaws.{bad_at, lf_at, fault-is, digit-no-lf}
use Rattle.lines.specs.declared.LineRead.TheVariants.{Frame, Bad}

pub record ReadBack (f s : List ℕ) : Type 0 where
  pub read : read_line s ≡ Frame (length f) (2 * length f + 1)
  pub bytes : build (pair_at s) (length f) ≡ f

pub record Digit (v : ℕ) : Type 0 where
  pub is : is_digit (digit_of v) ≡ true
  pub value : digit_value (digit_of v) ≡ v

pub digit-back : (v : ℕ) → v < 16 → Digit v
digit-back v h = go (look (ltb v 10))
  where
    go : Seen (ltb v 10) → Digit v
    go (is_true e) =
        let l = ltb-true v 10 e in
        record {
          is = rw (e, lt-ltb (48 + v) 58 (omega arith), le-leb 48 (48 + v) (omega arith));
          value = rw (e, lt-ltb (48 + v) 58 (omega arith)) (omega arith);
        }
    go (is_false e) =
        let l = ltb-false v 10 e in
        record {
          is = rw (e, le-ltb (87 + v) 58 (omega arith), lt-ltb (87 + v) 103 (omega arith), le-leb 97 (87 + v) (omega arith));
          value = rw (e, le-ltb (87 + v) 58 (omega arith)) (omega arith);
        }

abbrev pub Byte : ℕ → Type 0
Byte b = b < 256

abbrev pub IsDigit : ℕ → Type 0
IsDigit c = is_digit c ≡ true

-- a list of digits with an LF behind it
module _ (l r : List ℕ) (h : All IsDigit l) where
  digit-good : (j : ℕ) → j < length l → bad_at l j ≡ false
  digit-good j k = ap not (all-at IsDigit l j 0 h k)

  digits-length-is : line_length (l ++ lf ∷ r) ≡ length l
  unfolding line_length
  digits-length-is = sym (first-is (lf_at (l ++ lf ∷ r)) (length (l ++ lf ∷ r)) (length l) (rw length-append (omega arith)) before at)
    where
      before : (j : ℕ) → j < length l → lf_at (l ++ lf ∷ r) j ≡ false
      before j k = ap (λ (c : ℕ). eqb c lf) (get_or-append l (lf ∷ r) 0 j k) ∙ digit-no-lf l j (digit-good j k)

      at : length l < length (l ++ lf ∷ r) → lf_at (l ++ lf ∷ r) (length l) ≡ true
      at k = eq-eqb (get_or (l ++ lf ∷ r) (length l) 0) lf (get_or_at l lf r 0 (length l) refl)

  pub digits-fault : length l ≤ most_digits → fault_place l ≡ length l
  digits-fault k = sym (fault-is l (min most_digits (length l)) (length l) refl (omega arith) digit-good (λ m. absurd (omega arith)))

  pub digits-read : length l ≤ most_digits → length l % 2 ≡ 0 → read_line (l ++ lf ∷ r) ≡ Frame (length l / 2) (length l + 1)
  unfolding read_line line_read
  digits-read k e =
      let t : take (length l) (l ++ lf ∷ r) ≡ l = take_at l (lf ∷ r) (length l) refl in
      let n : length l < length (l ++ lf ∷ r) = rw length-append (omega arith) in
      rw (digits-length-is, t, lt-ltb (length l) (length (l ++ lf ∷ r)) n, digits-fault k, eq-eqb (length l) (length l) refl, eq-eqb (length l % 2) 0 e)

  pub digits-overlong : most_digits < length l → read_line (l ++ lf ∷ r) ≡ Bad most_digits (length l + 1)
  unfolding read_line line_read
  digits-overlong k =
      let t : take (length l) (l ++ lf ∷ r) ≡ l = take_at l (lf ∷ r) (length l) refl in
      let n : length l < length (l ++ lf ∷ r) = rw length-append (omega arith) in
      let f : fault_place l ≡ most_digits =
      sym (fault-is l (min most_digits (length l)) most_digits refl (omega arith) (λ j m. digit-good j (omega arith)) (λ m. absurd (omega arith))) in
      rw (digits-length-is, t, lt-ltb (length l) (length (l ++ lf ∷ r)) n, f, ne_eqb most_digits (length l) (λ e. absurd (omega arith)))

pub digits-high : (f : List ℕ) (k : ℕ) → k < length f → get_or (digits_of f) (2 * k) 0 ≡ digit_of (get_or f k 0 / 16)
unfolding digits_of
digits-high [] k h = absurd (not-suc-le-zero h)
digits-high (b ∷ f) zero h = refl
digits-high (b ∷ f) (suc k) h = let e : 2 * suc k ≡ suc (suc (2 * k)) = omega arith in rw e (digits-high f k (le_of_suc-le-suc h))

pub digits-lower : (f : List ℕ) (k : ℕ) → k < length f → get_or (digits_of f) (2 * k + 1) 0 ≡ digit_of (get_or f k 0 % 16)
unfolding digits_of
digits-lower [] k h = absurd (not-suc-le-zero h)
digits-lower (b ∷ f) zero h = refl
digits-lower (b ∷ f) (suc k) h = let e : 2 * suc k + 1 ≡ suc (suc (2 * k + 1)) = omega arith in rw e (digits-lower f k (le_of_suc-le-suc h))

-- The digits of bytes have no LF among them.
pub plain-all : (l : List ℕ) → All IsDigit l → All (λ c. eqb c lf ≡ false) l
plain-all [] h = tt
plain-all (c ∷ l) h = (digit-no-lf (c ∷ []) 0 (ap not h.0), plain-all l h.1)
