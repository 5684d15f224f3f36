-- A text of lines, one frame each, of which only the first bytes were kept ("a cut at any byte"): its "whole lines" are those of the first frames, as many "as LFs
-- were kept"; behind them stands at most "a trailing piece without LF", and what is before it is the text of these frames.
-- Assumes nothing.
use Rattle.std.specs.Prelude.{ℕ, suc, ◌*◌, ◌≤◌, ◌≡◌, refl, length, take, eqb}
use mathlib.Core.List.{List, [], ◌∷◌, ◌++◌, map, flatten}
use Rattle.laws.specs.Tests.{pick, Seen, Seen.is_true, Seen.is_false, look}
use Rattle.laws.specs.Weights.{keep, All}
use Rattle.lines.specs.Line.{lf, most_digits, answer_line}
use Rattle.lines.specs.Chunks.{parts, longer, split, Found.frame, found, NoLf}
use Rattle.lines.specs.ChunkLaws.{split-piece}
use Rattle.lines.specs.RoundTrip.{Byte}

-- The lines of some frames, one behind another.
abbrev pub text_of : List (List ℕ) → List ℕ
text_of fs = flatten (map answer_line fs)

-- How many LFs a text has.
abbrev pub lfs : List ℕ → ℕ
lfs s = length (keep (λ c. eqb c lf) s)

-- A frame that a line can hold: bytes, and not "over 1,292 digits".
abbrev pub OneLineLong : List ℕ → Type 0
OneLineLong f = (2 * length f ≤ most_digits) × All Byte f

-- The text s was kept of that of the frames fs.
pub record Kept (fs : List (List ℕ)) (s : List ℕ) : Type 0 where
  -- no LF is kept that was not written
  pub few : lfs s ≤ length fs
  -- the whole lines: the first frames, as many as LFs were kept, each read as it was written
  pub lines : map found (split s).whole ≡ map frame (take (lfs s) fs)
  -- the text of these frames is all before the trailing piece
  pub before : text_of (take (lfs s) fs) ++ (split s).rest ≡ s

-- "After a cut at any byte": the first k bytes are kept, for any k.
abbrev pub CutAnywhere : Type 0
CutAnywhere = (fs : List (List ℕ)) (k : ℕ) → All OneLineLong fs → Kept fs (take k (text_of fs))

pub lfs-none : (l : List ℕ) → NoLf l → lfs l ≡ 0
lfs-none [] h = refl
lfs-none (c ∷ l) h = rw h.0 (lfs-none l h.1)

pub lfs-line : (l s : List ℕ) → NoLf l → lfs (l ++ lf ∷ s) ≡ suc (lfs s)
lfs-line [] s h = refl
lfs-line (c ∷ l) s h = rw h.0 (lfs-line l s h.1)

-- Characters but LF behind what was kept (bytes that were never written, or a last one half written) make the trailing piece longer, and nothing else.
pub split-longer : (s t : List ℕ) → NoLf t → split (s ++ t) ≡ parts (split s).whole ((split s).rest ++ t)
unfolding split
split-longer [] t h = split-piece t h
split-longer (c ∷ s) t h = go (look (eqb c lf)) (split s).whole (split s).rest (split-longer s t h)
  where
    go : Seen (eqb c lf) → (ls : List (List ℕ)) (r : List ℕ) → split (s ++ t) ≡ parts ls (r ++ t) →
        pick (eqb c lf) (parts ([] ∷ (split (s ++ t)).whole) (split (s ++ t)).rest) (longer c (split (s ++ t)).whole (split (s ++ t)).rest)
        ≡ parts (pick (eqb c lf) (parts ([] ∷ ls) r) (longer c ls r)).whole ((pick (eqb c lf) (parts ([] ∷ ls) r) (longer c ls r)).rest ++ t)
    go (is_true e) ls r h = rw (e, h) refl
    go (is_false e) [] r h = rw (e, h) refl
    go (is_false e) (l ∷ ls) r h = rw (e, h) refl

-- The text s was kept of that of the frames fs, and t stands behind it.
pub record KeptBefore (fs : List (List ℕ)) (s t : List ℕ) : Type 0 where
  pub few : lfs s ≤ length fs
  pub lines : map found (split (s ++ t)).whole ≡ map frame (take (lfs s) fs)
  pub before : text_of (take (lfs s) fs) ++ (split (s ++ t)).rest ≡ s ++ t
