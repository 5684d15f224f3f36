-- The theorems that go with specs/Again.antt and stand on others: each goes by the definitions and the theorems there.
-- Assumes nothing.
use Rattle.std.specs.Prelude.{ℕ, zero, suc, ◌+◌, ◌*◌, ◌/◌, ◌%◌, ◌≤◌, ◌<◌, ◌≡◌, refl, Bool, true, false, not, length, get_or, take, eqb, ltb}
use Rattle.std.proofs.Common.{sym, ap, ap₂, subst, ◌∙◌, arith, eqb-true, ltb-true, ltb-false, lt-ltb, le-ltb}
use mathlib.Core.List.{List, [], ◌∷◌, ◌++◌, map, flatten}
use Rattle.std.proofs.Math.Seq.{append_snoc, take-length}
use Rattle.laws.specs.Tests.{pick-then, Seen, Seen.is_true, Seen.is_false, look, clash}
use Rattle.laws.specs.Weights.{All, all_of}
use Rattle.laws.specs.Build.{build, build-ext, build-length}
use Rattle.lines.specs.Line.{lf, is_digit, digit_value, digit_of, fault_place, well_formed, pair_at, bytes_of, digits_of}
use Rattle.lines.specs.LineLaws.{fault-le, fault-before, digit_low, digit-high, value_low}
use Rattle.lines.proofs.LineLaws.{value-high}
use Rattle.lines.specs.Chunks.{Found, Found.frame, Found.bad, found}
use Rattle.lines.specs.RoundTrip.{Byte, IsDigit}
use Rattle.lines.specs.Cuts.{text_of}
use Rattle.lines.specs.Again.{high, low, later, Framed, Frames}

-- A digit back from its value.
record Again (c : ℕ) : Type 0 where
  back : digit_of (digit_value c) ≡ c
  small : digit_value c < 16

again : (c : ℕ) → is_digit c ≡ true → Again c
again c h = go (look (ltb c 58))
  where
    go : Seen (ltb c 58) → Again c
    go (is_true e) =
        let l = ltb-true c 58 e in
        let m = digit_low c h l in
        let v = value_low c h l in
        let z : digit_value c < 10 = omega (arith, v.0) in
        record { back = rw (lt-ltb (digit_value c) 10 z) (omega (arith, v.0)); small = omega (arith, v.0) }
    go (is_false e) =
        let l = ltb-false c 58 e in
        let m = digit-high c h l in
        let v = value-high c h l in
        let z : 10 ≤ digit_value c = omega (arith, v.0) in
        record { back = rw (le-ltb (digit_value c) 10 z) (omega (arith, v.0)); small = omega (arith, v.0, v.1) }

pairs-again : (n : ℕ) (l : List ℕ) → length l ≡ 2 * n → All IsDigit l → digits_of (build (pair_at l) n) ≡ l
unfolding digits_of build
pairs-again zero [] e h = refl
pairs-again zero (c ∷ l) e h = absurd (omega arith)
pairs-again (suc n) [] e h = absurd (omega arith)
pairs-again (suc n) (c ∷ []) e h = absurd (omega arith)
pairs-again (suc n) (c ∷ d ∷ l) e h =
    let x = again c h.0 in
    let y = again d h.1.0 in
    let v : ℕ = 16 * digit_value c + digit_value d in
    let p : digit_of (v / 16) ≡ c = ap digit_of (high (digit_value c) (digit_value d) y.small) ∙ x.back in
    let q : digit_of (v % 16) ≡ d = ap digit_of (low (digit_value c) (digit_value d) y.small) ∙ y.back in
    let r : build (λ j. pair_at (c ∷ d ∷ l) (suc j)) n ≡ build (pair_at l) n = build-ext (λ j. pair_at (c ∷ d ∷ l) (suc j)) (pair_at l) n (λ j k. later c d l j) in
    ap₂ ◌∷◌ p (ap₂ ◌∷◌ q (ap digits_of r ∙ pairs-again n l (omega arith) h.1.1))

value-bytes : (l : List ℕ) (n : ℕ) → length l ≡ 2 * n → All IsDigit l → All Byte (build (pair_at l) n)
unfolding build
value-bytes [] zero e h = tt
value-bytes (c ∷ l) zero e h = tt
value-bytes [] (suc n) e h = absurd (omega arith)
value-bytes (c ∷ []) (suc n) e h = absurd (omega arith)
value-bytes (c ∷ d ∷ l) (suc n) e h =
    let x = again c h.0 in
    let y = again d h.1.0 in
    let r : build (λ j. pair_at (c ∷ d ∷ l) (suc j)) n ≡ build (pair_at l) n = build-ext (λ j. pair_at (c ∷ d ∷ l) (suc j)) (pair_at l) n (λ j k. later c d l j) in
    (omega (arith, x.small, y.small), rw r (value-bytes l n (omega arith) h.1.1))

pub digits-again : (l : List ℕ) → well_formed l ≡ true → Framed l (bytes_of l)
unfolding bytes_of
digits-again l w =
    let p = pick-then (eqb (fault_place l) (length l)) false true (λ z. clash (sym z)) w in
    let e : fault_place l ≡ length l = eqb-true (fault_place l) (length l) p.0 in
    let m : length l % 2 ≡ 0 = eqb-true (length l % 2) 0 p.1 in
    let n : length l ≡ 2 * (length l / 2) = omega arith in
    let a : All IsDigit (take (length l) l) = all_of IsDigit l (length l) 0 (λ j k. digit j (omega arith)) in
    let t : take (length l) l ≡ l = take-length l in
    let h : All IsDigit l = subst (λ (x : List ℕ). All IsDigit x) t a in
    record { digits = pairs-again (length l / 2) l n h; one-line-long = (rw (build-length (pair_at l) (length l / 2)) (omega (arith, fault-le l)), value-bytes l (length l / 2) n h) }
  where
    digit : (j : ℕ) → j < fault_place l → IsDigit (get_or l j 0)
    digit j k = good (is_digit (get_or l j 0)) (fault-before l j k)
      where
        good : (b : Bool) → not b ≡ false → b ≡ true
        good true h = refl
        good false h = clash h

abbrev is_frame : Found → Bool
is_frame (frame f) = true
is_frame (bad p) = false

abbrev frame_of : Found → List ℕ
frame_of (frame f) = f
frame_of (bad p) = []

pub found_framed : (l f : List ℕ) → found l ≡ frame f → Framed l f
unfolding found
found_framed l f e = go (look (well_formed l))
  where
    go : Seen (well_formed l) → Framed l f
    go (is_true w) = let z : bytes_of l ≡ f = ap frame_of (rw w at e) in subst (λ (x : List ℕ). Framed l x) z (digits-again l w)
    go (is_false w) = clash (sym (ap is_frame (rw w at e)))

abbrev head_of : List Found → Found
head_of [] = bad 0
head_of (x ∷ xs) = x

abbrev tail_of : List Found → List Found
tail_of [] = []
tail_of (x ∷ xs) = xs

abbrev some : List Found → Bool
some [] = false
some (x ∷ xs) = true

pub frames-text : (ls fs : List (List ℕ)) → map found ls ≡ map frame fs → Frames ls fs
unfolding flatten
frames-text [] [] e = record { text = refl; one-line-long = tt }
frames-text [] (f ∷ fs) e = clash (sym (ap some e))
frames-text (l ∷ ls) [] e = clash (ap some e)
frames-text (l ∷ ls) (f ∷ fs) e =
    let x = found_framed l f (ap head_of e) in
    let y = frames-text ls fs (ap tail_of e) in
    record {
      text = ap₂ (λ (a : List ℕ) (b : List ℕ). a ++ (lf ∷ b)) (sym x.digits) y.text ∙ sym (append_snoc (digits_of f) lf (text_of fs));
      one-line-long = (x.one-line-long, y.one-line-long);
    }
