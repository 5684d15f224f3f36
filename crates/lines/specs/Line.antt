-- Document 01, "Commands, one frame a line": lines of lowercase hexadecimal ended by LF, what is refused, and the place of the first fault.
-- Assumes nothing.
use Rattle.std.specs.Prelude.{ℕ, zero, suc, ◌+◌, ◌*◌, ◌-◌, ◌/◌, ◌%◌, min, Bool, true, false, not, ◌&&◌, List, [], ◌∷◌, ◌++◌, length, get_or, take, drop, eqb, ltb, leb, Option, Some, None}
use Rattle.std.proofs.lemmas.List.Edits.{sets}
use Rattle.laws.specs.Tests.{pick}
use Rattle.laws.specs.Search.{first}
use Rattle.laws.specs.Build.{build}
use Rattle.lines.specs.declared.LineRead.{LineRead}
use Rattle.lines.specs.declared.LineRead.TheVariants.{Frame, Bad, Piece}

-- LF.
abbrev pub lf : ℕ
lf = 10

-- "over 1,292 digits" is refused.
abbrev pub most_digits : ℕ
most_digits = 1292

-- A lowercase digit: 0 to 9, a to f.
abbrev pub is_digit : ℕ → Bool
is_digit c = pick (ltb c 58) (leb 48 c) (pick (ltb c 103) (leb 97 c) false)

-- The n characters from the place i on are digits.
unfoldable pub digits_from : List ℕ → ℕ → ℕ → Bool
digits_from l i zero = true
digits_from l i (suc n) = digits_from l i n && is_digit (get_or l (i + n) 0)

-- The value of a digit.
abbrev pub digit_value : ℕ → ℕ
digit_value c = pick (ltb c 58) (c - 48) (c - 87)

-- The length of the first line of s, without its LF: the place of the first LF, or the length where there is none.
unfoldable pub line_length : List ℕ → ℕ
line_length s = first (λ j. eqb (get_or s j 0) lf) (length s)

-- The place, from 0, of the first bad character among the first 1,292 of a line, or where these end.
-- It is the place of the earliest fault: the first bad character; 1,292 in an overlong line; the length, where the number of digits is odd or the LF is missing.
unfoldable pub fault_place : List ℕ → ℕ
fault_place l = first (λ j. not (is_digit (get_or l j 0))) (min most_digits (length l))

-- "pairs of lowercase digits", at most 1,292.
abbrev pub well_formed : List ℕ → Bool
well_formed l = pick (eqb (fault_place l) (length l)) (eqb (length l % 2) 0) false

-- The byte of the pair k, and the bytes of a line.
abbrev pub pair_at : List ℕ → ℕ → ℕ
pair_at l k = 16 * digit_value (get_or l (2 * k) 0) + digit_value (get_or l (2 * k + 1) 0)

unfoldable pub bytes_of : List ℕ → List ℕ
bytes_of l = build (pair_at l) (length l / 2)

-- The first line l of s: its frame's length, or the place of its fault, and where the next line starts; without an LF it is a piece,
-- with the place that is its fault if the input ends here.
unfoldable pub line_read : List ℕ → ℕ → List ℕ → LineRead
line_read l n s =
    pick (ltb n (length s))
    (pick (well_formed l) (Frame (n / 2) (n + 1)) (Bad (fault_place l) (n + 1)))
    (Piece (fault_place l))

unfoldable pub read_line : List ℕ → LineRead
read_line s = line_read (take (line_length s) s) (line_length s) s

-- The frame buffer afterwards: a frame's bytes in front of what stood there before; else nothing is written.
abbrev pub after_read : LineRead → List ℕ → List ℕ → List ℕ
after_read (Frame m next) s b = build (pair_at s) m ++ drop m b
after_read (Bad place next) s b = b
after_read (Piece place) s b = b

unfoldable pub frame_after : List ℕ → List ℕ → List ℕ
frame_after s b = after_read (read_line s) s b

-- An answer line: the digits of each byte, then LF.
abbrev pub digit_of : ℕ → ℕ
digit_of v = pick (ltb v 10) (48 + v) (87 + v)

unfoldable pub digits_of : List ℕ → List ℕ
digits_of [] = []
digits_of (b ∷ bs) = digit_of (b / 16) ∷ digit_of (b % 16) ∷ digits_of bs

abbrev pub answer_line : List ℕ → List ℕ
answer_line a = digits_of a ++ (lf ∷ [])

-- Is there room for the line of a from the place at on?
abbrev pub room_for : List ℕ → ℕ → List ℕ → Bool
room_for o at a = leb (at + (2 * length a + 1)) (length o)

unfoldable pub line_written : List ℕ → ℕ → List ℕ → Option ℕ
line_written o at a = pick (room_for o at a) (Some (at + (2 * length a + 1))) None

unfoldable pub lines_after : List ℕ → ℕ → List ℕ → List ℕ
lines_after o at a = pick (room_for o at a) (sets o at (answer_line a)) o

-- What is carried over of a piece: as many characters as tell an overlong line.
abbrev pub most_carried : ℕ
most_carried = 1293

unfoldable pub carried_of : List ℕ → ℕ → ℕ → List ℕ
carried_of b at end = take most_carried (drop at (take end b))
