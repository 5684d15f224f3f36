-- A text back from its lines: a well formed line is the line of its bytes, so a text whose lines are all frames is the text of these frames and a piece.
-- Assumes nothing.
use Rattle.std.specs.Prelude.{ℕ, suc, ◌+◌, ◌*◌, ◌/◌, ◌%◌, ◌<◌, ◌≡◌, refl, get_or, eqb}
use Rattle.std.proofs.Common.{ap, ap₂, arith, eqb-true}
use mathlib.Core.List.{List, [], ◌∷◌, ◌++◌}
use Rattle.laws.specs.Tests.{pick, Seen, Seen.is_true, Seen.is_false, look}
use Rattle.laws.specs.Weights.{All}
use Rattle.lines.specs.Line.{lf, digit_value, pair_at, digits_of}
use Rattle.lines.specs.Chunks.{parts, longer, split}
use Rattle.lines.specs.Cuts.{text_of, OneLineLong}

pub high : (a b : ℕ) → b < 16 → (16 * a + b) / 16 ≡ a
high a b h = omega arith

pub low : (a b : ℕ) → b < 16 → (16 * a + b) % 16 ≡ b
low a b h = omega arith

-- Pair by pair.
pub later : (c d : ℕ) (l : List ℕ) (j : ℕ) → pair_at (c ∷ d ∷ l) (suc j) ≡ pair_at l j
later c d l j =
    let z : 2 * suc j ≡ suc (suc (2 * j)) = omega arith in
    let w : 2 * suc j + 1 ≡ suc (suc (2 * j + 1)) = omega arith in
    ap₂ (λ (x : ℕ) (y : ℕ). 16 * digit_value x + digit_value y) (ap (λ (k : ℕ). get_or (c ∷ d ∷ l) k 0) z) (ap (λ (k : ℕ). get_or (c ∷ d ∷ l) k 0) w)

-- A line that is a frame: its digits, and its length.
pub record Framed (l f : List ℕ) : Type 0 where
  pub digits : digits_of f ≡ l
  pub one-line-long : OneLineLong f

-- The lines of a text, one behind another, each with its LF.
abbrev pub joined : List (List ℕ) → List ℕ
joined [] = []
joined (l ∷ ls) = l ++ (lf ∷ joined ls)

pub split-joined : (s : List ℕ) → s ≡ joined (split s).whole ++ (split s).rest
unfolding split
split-joined [] = refl
split-joined (c ∷ s) = go (look (eqb c lf)) (split s).whole (split s).rest (split-joined s)
  where
    go : Seen (eqb c lf) → (ls : List (List ℕ)) (r : List ℕ) → s ≡ joined ls ++ r →
        c ∷ s ≡ joined (pick (eqb c lf) (parts ([] ∷ ls) r) (longer c ls r)).whole ++ (pick (eqb c lf) (parts ([] ∷ ls) r) (longer c ls r)).rest
    go (is_true e) ls r h = rw e (ap₂ ◌∷◌ (eqb-true c lf e) h)
    go (is_false e) [] r h = rw e (ap (◌∷◌ c) h)
    go (is_false e) (l ∷ ls) r h = rw e (ap (◌∷◌ c) h)

-- Lines that are all frames: their text.
pub record Frames (ls : List (List ℕ)) (fs : List (List ℕ)) : Type 0 where
  pub text : joined ls ≡ text_of fs
  pub one-line-long : All OneLineLong fs
