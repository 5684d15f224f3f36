-- Input that comes in chunks: its lines, what each of them is, and what a reader finds that carries the piece behind the last LF over to the next chunk.
-- The statements stand at the end; ChunkLaws proves each under the same name in small letters.
-- Assumes nothing.
use Rattle.std.specs.Prelude.{ℕ, zero, suc, ◌+◌, ◌≤◌, ◌<◌, ◌≡◌, false, length, get_or, take, drop, eqb}
use mathlib.Core.List.{List, [], ◌∷◌, ◌++◌, map, flatten}
use Rattle.laws.specs.Tests.{pick}
use Rattle.laws.specs.Weights.{All}
use Rattle.lines.specs.Line.{lf, most_digits, most_carried, is_digit, fault_place, well_formed, bytes_of, read_line, frame_after, carried_of}
use Rattle.lines.specs.declared.LineRead.{LineRead}
use Rattle.lines.specs.declared.LineRead.TheVariants.{Frame, Bad, Piece}

-- The lines of an input, each without its LF, and the piece behind the last LF.
pub record Split : Type 0 where
  pub whole : List (List ℕ)
  pub rest : List ℕ

abbrev pub parts : List (List ℕ) → List ℕ → Split
parts ls r = record { whole = ls; rest = r }

-- A character in front of the first line, or of the piece where no line has its LF.
abbrev pub longer : ℕ → List (List ℕ) → List ℕ → Split
longer c [] r = parts [] (c ∷ r)
longer c (l ∷ ls) r = parts ((c ∷ l) ∷ ls) r

unfoldable pub split : List ℕ → Split
split [] = parts [] []
split (c ∷ s) = pick (eqb c lf) (parts ([] ∷ (split s).whole) (split s).rest) (longer c (split s).whole (split s).rest)

-- What a line is: a frame, or not one, with the place of its fault.
pub data Found : Type 0 where
  frame : List ℕ → Found
  bad : ℕ → Found

unfoldable pub found : List ℕ → Found
found l = pick (well_formed l) (frame (bytes_of l)) (bad (fault_place l))

-- The piece at the end of the input lacks its LF; an empty piece is no line.
abbrev pub found_at_end : List ℕ → List Found
found_at_end [] = []
found_at_end (c ∷ l) = bad (fault_place (c ∷ l)) ∷ []

-- The lines of a whole input.
abbrev pub lines_of : List ℕ → List Found
lines_of s = map found (split s).whole ++ found_at_end (split s).rest

-- The same chunk by chunk, where c is carried over.
abbrev pub cap : List ℕ → List ℕ
cap l = take most_carried l

unfoldable pub run : List ℕ → List (List ℕ) → List Found
run c [] = found_at_end c
run c (x ∷ xs) = map found (split (c ++ x)).whole ++ run (cap (split (c ++ x)).rest) xs

-- The lines of a buffer s as the code reads them, one after another from the place at on, at most k, into the frame buffer b; and the place where it stops.
pub record Reading : Type 0 where
  pub lines : List Found
  pub at : ℕ

abbrev pub next_line : Found → Reading → Reading
next_line f r = record { lines = f ∷ r.lines; at = r.at }

abbrev pub on_read : {A : Type 0} → LineRead → (ℕ → ℕ → A) → (ℕ → ℕ → A) → (ℕ → A) → A
on_read (Frame m next) f g h = f m next
on_read (Bad place next) f g h = g place next
on_read (Piece place) f g h = h place

unfoldable pub reading : ℕ → List ℕ → ℕ → List ℕ → Reading
reading zero s at b = record { lines = []; at = at }
reading (suc k) s at b =
    on_read (read_line (drop at s))
    (λ m next. next_line (frame (take m (frame_after (drop at s) b))) (reading k s (at + next) (frame_after (drop at s) b)))
    (λ place next. next_line (bad place) (reading k s (at + next) (frame_after (drop at s) b)))
    (λ place. record { lines = []; at = at })

-- All the lines of a buffer: it has no more than its length.
abbrev pub reading_all : List ℕ → List ℕ → Reading
reading_all s b = reading (length s) s 0 b

-- No LF is in l.
abbrev pub NoLf : List ℕ → Type 0
NoLf l = All (λ c. eqb c lf ≡ false) l

-- THE STATEMENTS

-- Chunk by chunk the lines are those of the whole input, so any chunking gives the same.
abbrev pub RunIsWhole : Type 0
RunIsWhole = (cs : List (List ℕ)) → run [] cs ≡ lines_of (flatten cs)

abbrev pub AnyChunks : Type 0
AnyChunks = (cs ds : List (List ℕ)) → flatten cs ≡ flatten ds → run [] cs ≡ run [] ds

-- Characters up to an LF are one line, however many they are.
abbrev pub OneLine : Type 0
OneLine = (l r : List ℕ) → NoLf l → split (l ++ lf ∷ r) ≡ parts (l ∷ (split r).whole) (split r).rest

-- An overlong line is one that is bad, at 1,292 or at an earlier character that is no digit.
pub record Overlong (l : List ℕ) : Type 0 where
  pub one : found l ≡ bad (fault_place l)
  pub place : fault_place l ≤ most_digits
  pub earlier : fault_place l < most_digits → is_digit (get_or l (fault_place l) 0) ≡ false

abbrev pub OverlongIsBad : Type 0
OverlongIsBad = (l : List ℕ) → most_digits < length l → Overlong l

-- The code's readings of a buffer, whatever the frame buffer holds, give its lines and stop at its piece. That is read as a piece with the place of
-- its fault, and so is what is carried over of it: at the end of the input this is its answer.
pub record Reads (s : List ℕ) (b : List ℕ) : Type 0 where
  pub lines : (reading_all s b).lines ≡ map found (split s).whole
  pub stops : drop (reading_all s b).at s ≡ (split s).rest
  pub piece : read_line (split s).rest ≡ Piece (fault_place (split s).rest)
  pub carried : read_line (cap (split s).rest) ≡ Piece (fault_place (split s).rest)

abbrev pub ReadsAll : Type 0
ReadsAll = (s b : List ℕ) → Reads s b

-- One chunk: where the buffer t holds up to its end what was carried and the chunk, the code finds the lines of `run` and carries over what `run` does.
abbrev pub RunStep : Type 0
RunStep = (c x t b : List ℕ) (end : ℕ) (xs : List (List ℕ)) → take end t ≡ c ++ x →
    run c (x ∷ xs) ≡ (reading_all (take end t) b).lines ++ run (carried_of t (reading_all (take end t) b).at end) xs
