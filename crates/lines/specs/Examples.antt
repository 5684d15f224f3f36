-- Worked examples, proved together as one table: an input, how its first line is read, and its lines.
-- Assumes nothing.
use Rattle.std.specs.Prelude.{ℕ, zero, suc, ◌≡◌, refl, List, [], ◌∷◌, ◌++◌, map, length, replicate}
use Prim.Native.String.{String}
use Rattle.std.proofs.Common.{arith}
use Rattle.std.proofs.lemmas.List.{length-replicate}
use Rattle.laws.specs.Weights.{All}
use Rattle.laws.specs.Search.{first}
use Rattle.laws.specs.Build.{build}
use Rattle.lines.specs.Text.{text}
use Rattle.lines.specs.Line.{lf, fault_place, line_length, bytes_of, line_read, read_line}
use Rattle.lines.specs.Chunks.{split, Found, Found.frame, Found.bad, found, lines_of}
use Rattle.lines.specs.RoundTrip.{IsDigit, digits-read, digits-overlong}
use Rattle.lines.specs.declared.LineRead.{LineRead}
use Rattle.lines.specs.declared.LineRead.TheVariants.{Frame, Bad, Piece}

pub record Example : Type 0 where
  pub input : String
  pub read : LineRead
  pub lines : List Found

abbrev row : String → LineRead → List Found → Example
row s r ls = record { input = s; read = r; lines = ls }

abbrev pub examples : List Example
examples =
    -- a good line, and an empty one
    row "01ff\n" (Frame 2 5) (frame (1 ∷ 255 ∷ []) ∷ []) ∷
    row "\n" (Frame 0 1) (frame [] ∷ []) ∷
    -- each digit
    row "0123456789abcdef\n" (Frame 8 17) (frame (1 ∷ 35 ∷ 69 ∷ 103 ∷ 137 ∷ 171 ∷ 205 ∷ 239 ∷ []) ∷ []) ∷
    -- uppercase; the characters next to the digits
    row "0A\n" (Bad 1 3) (bad 1 ∷ []) ∷
    row "0F\n" (Bad 1 3) (bad 1 ∷ []) ∷
    row "00/0\n" (Bad 2 5) (bad 2 ∷ []) ∷
    row "000:\n" (Bad 3 5) (bad 3 ∷ []) ∷
    row "0`\n" (Bad 1 3) (bad 1 ∷ []) ∷
    row "g0\n" (Bad 0 3) (bad 0 ∷ []) ∷
    -- an odd number of digits, and an earlier fault in such a line
    row "012\n" (Bad 3 4) (bad 3 ∷ []) ∷
    row "0x2\n" (Bad 1 4) (bad 1 ∷ []) ∷
    -- CR, blank and NUL
    row "01\r\n" (Bad 2 4) (bad 2 ∷ []) ∷
    row " 01\n" (Bad 0 4) (bad 0 ∷ []) ∷
    row "0\0\n" (Bad 1 3) (bad 1 ∷ []) ∷
    -- no LF: the length, or an earlier fault; nothing at all is no line
    row "01" (Piece 2) (bad 2 ∷ []) ∷
    row "012" (Piece 3) (bad 3 ∷ []) ∷
    row "0 1" (Piece 1) (bad 1 ∷ []) ∷
    row "" (Piece 0) [] ∷
    -- several lines: where the next starts
    row "01\n02\n" (Frame 1 3) (frame (1 ∷ []) ∷ frame (2 ∷ []) ∷ []) ∷
    row "0g\n02\n\n7" (Bad 1 3) (bad 1 ∷ frame (2 ∷ []) ∷ frame [] ∷ bad 1 ∷ []) ∷ []

abbrev worked : Example → Example
worked e = row e.input (read_line (text e.input)) (lines_of (text e.input))

pub examples-hold : map worked examples ≡ examples
unfolding read_line line_read line_length fault_place bytes_of split found first build
examples-hold = refl

-- The longest line, 1,292 digits, and the shortest that is overlong, by law and not by computing.
unfoldable pub zeros : ℕ → List ℕ
zeros n = replicate n 48

zeros-all : (n : ℕ) → All IsDigit (zeros n)
unfolding zeros
zeros-all zero = tt
zeros-all (suc n) = (refl, zeros-all n)

zeros-length : (n : ℕ) → length (zeros n) ≡ n
unfolding zeros
zeros-length n = length-replicate n 48

pub longest : read_line (zeros 1292 ++ lf ∷ []) ≡ Frame 646 1293
longest =
    let n : length (zeros 1292) ≡ 1292 = zeros-length 1292 in
    rw n at (digits-read (zeros 1292) [] (zeros-all 1292) (omega arith) (omega arith))

pub overlong : read_line (zeros 1293 ++ lf ∷ []) ≡ Bad 1292 1294
overlong =
    let n : length (zeros 1293) ≡ 1293 = zeros-length 1293 in
    rw n at (digits-overlong (zeros 1293) [] (zeros-all 1293) (omega arith))
