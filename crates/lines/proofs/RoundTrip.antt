-- The theorems that go with specs/RoundTrip.antt and stand on others: each goes by the definitions and the theorems there.
-- Assumes nothing.
use Rattle.std.specs.Prelude.{ℕ, ◌+◌, ◌*◌, ◌/◌, ◌%◌, ◌≤◌, ◌<◌, ◌≡◌, List, [], ◌∷◌, ◌++◌, get_or}
use Rattle.std.proofs.Math.Path.{ap}
use Rattle.std.proofs.Common.{ap₂, ◌∙◌, arith}
use Rattle.std.proofs.Math.Bool.{false}
use Rattle.std.proofs.Math.ListN.{length, get_or-append}
use Rattle.std.proofs.Math.Seq.{append_snoc}
use Rattle.std.proofs.Math.Dec.{eqb}
use Rattle.laws.specs.Weights.{All, all-at}
use Rattle.laws.specs.Build.{build, build-ext, build-list}
use Rattle.lines.specs.Line.{lf, digit_value, pair_at, read_line, digits_of, answer_line}
use Rattle.lines.specs.LineLaws.{digits-length}
use Rattle.lines.specs.declared.LineRead.TheVariants.{Frame}
use Rattle.lines.specs.RoundTrip.{ReadBack, digit-back, Byte, IsDigit, digits-read, digits-high, digits-lower, plain-all}

pub digits-all : (f : List ℕ) → All Byte f → All IsDigit (digits_of f)
unfolding digits_of
digits-all [] h = tt
digits-all (b ∷ f) h = ((digit-back (b / 16) (omega (arith, h.0))).is, ((digit-back (b % 16) (omega arith)).is, digits-all f h.1))

pub round_trip : (f r : List ℕ) → length f ≤ 646 → All (λ b. b < 256) f → ReadBack f (answer_line f ++ r)
round_trip f r h all = rw (append_snoc (digits_of f) lf r) record { read = reads; bytes = same }
  where
    n : length (digits_of f) ≡ 2 * length f
    n = digits-length f

    s : List ℕ
    s = digits_of f ++ lf ∷ r

    reads : read_line s ≡ Frame (length f) (2 * length f + 1)
    reads =
        digits-read (digits_of f) r (digits-all f all) (omega (arith, n)) (omega (arith, n))
        ∙ ap₂ Frame (omega (arith, n)) (omega (arith, n))

    pair : (j : ℕ) → j < length f → pair_at s j ≡ get_or f j 0
    pair j k =
        let b : get_or f j 0 < 256 = all-at Byte f j 0 all k in
        let x : digit_value (get_or s (2 * j) 0) ≡ get_or f j 0 / 16 =
        ap digit_value (get_or-append (digits_of f) (lf ∷ r) 0 (2 * j) (omega (arith, n)) ∙ digits-high f j k)
        ∙ (digit-back (get_or f j 0 / 16) (omega arith)).value in
        let y : digit_value (get_or s (2 * j + 1) 0) ≡ get_or f j 0 % 16 =
        ap digit_value (get_or-append (digits_of f) (lf ∷ r) 0 (2 * j + 1) (omega (arith, n)) ∙ digits-lower f j k)
        ∙ (digit-back (get_or f j 0 % 16) (omega arith)).value in
        rw (x, y) (omega arith)

    same : build (pair_at s) (length f) ≡ f
    same = build-ext (pair_at s) (λ j. get_or f j 0) (length f) pair ∙ build-list 0 f

pub digits-plain : (f : List ℕ) → All Byte f → All (λ c. eqb c lf ≡ false) (digits_of f)
digits-plain f h = plain-all (digits_of f) (digits-all f h)
