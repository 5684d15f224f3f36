-- Document 01, "The program reads lines .. one answer line each": the answer of a line on a bus, the text of the answers of many lines, and what a program that
-- reads chunks has written after each of them. The statements stand at the end; Laws proves each under the same name in small letters.
-- Assumes nothing.
use Rattle.std.specs.Prelude.{ℕ, ◌+◌, ◌-◌, ◌*◌, ◌≤◌, ◌<◌, ◌≡◌, refl, Bool, true, false, length, take, drop, replicate, eqb, leb, Option, Some, None}
use mathlib.Core.List.{List, [], ◌∷◌, ◌++◌, map, flatten}
use Rattle.std.proofs.lemmas.List.Edits.{sets}
use Rattle.laws.specs.Tests.{pick}
use Rattle.ids.specs.Refusals.{EINVAL}
use Rattle.frames.specs.Lengths.{longest_frame}
use Rattle.answers.specs.Answer.{answer_size}
use Rattle.lines.specs.Line.{answer_line, carried_of}
use Rattle.lines.specs.Chunks.{split, Found, Found.frame, Found.bad, found, found_at_end, lines_of, NoLf}
use Rattle.lines.specs.declared.LineRead.{LineRead}
use Rattle.lines.specs.declared.LineRead.TheVariants.{Frame, Bad, Piece}
use Rattle.view.specs.View.{Bus}
use Rattle.bus_model.specs.Command.{Done, command_of, fresh_bus}
use Rattle.session.specs.declared.Turn.{Turn}

-- What a line comes to: the bus afterwards, and the bytes of the answer.
pub record Reply : Type 0 where
  pub bus : Bus
  pub bytes : List ℕ

abbrev pub replied : Bus → List ℕ → Reply
replied b bytes = record { bus = b; bytes = bytes }

abbrev pub shown : Done → Reply
shown d = replied d.bus (take d.outcome.len d.out)

-- The answer of a frame is what its command writes, whatever the answer buffer held before (`reply-of` in Replies): here zeros.
-- "a line that is not pairs of lowercase digits, is over 1,292 digits, or lacks its LF is answered 16 and the bus stays as it was".
unfoldable pub reply_to : Bus → Found → Reply
reply_to b (frame f) = shown (command_of b f (replicate answer_size 0))
reply_to b (bad place) = replied b (EINVAL ∷ [])

-- Lines answered one after another, each on the bus as the line before left it: the bus afterwards, and the answer lines.
pub record Answered : Type 0 where
  pub bus : Bus
  pub text : List ℕ

abbrev pub answered_of : Bus → List ℕ → Answered
answered_of b text = record { bus = b; text = text }

unfoldable pub answered : Bus → List Found → Answered
answered b [] = answered_of b []
answered b (l ∷ ls) =
    let a = answered (reply_to b l).bus ls in
    answered_of a.bus (answer_line (reply_to b l).bytes ++ a.text)

-- "One answer line each": what the program is to write for a whole input, from a fresh bus on.
unfoldable pub answers_text : List ℕ → List ℕ
answers_text s = (answered fresh_bus (lines_of s)).text

-- The whole lines of s that stand from the place `from` up to the place `next` are ls.
pub record Between (s : List ℕ) (from next : ℕ) (ls : List Found) : Type 0 where
  pub within : next ≤ length s
  pub takes : from + length ls ≤ next
  pub lines : map found (split (drop from s)).whole ≡ ls ++ map found (split (drop next s)).whole
  pub rest : (split (drop from s)).rest ≡ (split (drop next s)).rest

-- Of s the lines from `from` up to `next` are answered on the bus b: the bus afterwards is c, and the text buffer u is the buffer t as it was but for their
-- answer lines, which stand in it from `start` up to `at`.
pub record Served (b : Bus) (s : List ℕ) (from start : ℕ) (t : List ℕ) (c : Bus) (u : List ℕ) (next at : ℕ) : Type 0 where
  pub lines : List Found
  pub between : Between s from next lines
  pub bus : c ≡ (answered b lines).bus
  pub text : u ≡ sets t start (answered b lines).text
  pub size : at ≡ start + length (answered b lines).text
  pub fits : at ≤ length t

-- The longest answer line: the digits of 591 bytes, and its LF.
abbrev pub longest : ℕ
longest = 2 * answer_size + 1

pub longest-is : longest ≡ 1183
longest-is = refl

-- Where the answering stops: at the piece behind the last LF, or where the next answer line might not fit.
pub record Stopped (s t : List ℕ) (next at : ℕ) (more : Bool) : Type 0 where
  pub piece : more ≡ false → NoLf (drop next s)
  pub full : more ≡ true → length t < at + longest

-- A chunk s answered in one or more calls: the bus and the place before, those after, and the texts written, one behind another.
pub data Serves (s : List ℕ) : Bus → ℕ → Bus → ℕ → List ℕ → Type 0 where
  none : {b : Bus} {from : ℕ} → Serves s b from b from []
  call : {b c d : Bus} {from next last at : ℕ} {t u w : List ℕ} → Served b s from 0 t c u next at → Serves s c next d last w → Serves s b from d last (take at u ++ w)

-- The chunks read so far, the bus, what is carried over, and what is written. The buffer t holds up to its end what was carried and the chunk; the chunk is
-- answered up to its piece; and the rest of it is carried over.
pub data Session : List (List ℕ) → Bus → List ℕ → List ℕ → Type 0 where
  begins : Session [] fresh_bus [] []
  reads : {cs : List (List ℕ)} {b d : Bus} {c w v : List ℕ} (x t : List ℕ) (end at : ℕ) → Session cs b c w → take end t ≡ c ++ x →
      Serves (take end t) b 0 d at v → NoLf (drop at (take end t)) → Session (cs ++ (x ∷ [])) d (carried_of t at end) (w ++ v)

-- WHAT THE FUNCTIONS DO

-- The answer line of l is written into the text buffer from `at` on, up to `next`.
pub record Put (b : Bus) (l : Found) (t : List ℕ) (at : ℕ) (c : Bus) (u : List ℕ) (next : ℕ) : Type 0 where
  pub bus : c ≡ (reply_to b l).bus
  pub text : u ≡ sets t at (answer_line (reply_to b l).bytes)
  pub size : next ≡ at + length (answer_line (reply_to b l).bytes)
  pub fits : next ≤ at + longest

-- So it is with the line that was read; where that lacks its LF, nothing is done.
abbrev pub PutRead : Bus → List ℕ → LineRead → List ℕ → ℕ → Bus → List ℕ → ℕ → Type 0
PutRead b f (Frame m n) t at c u next = Put b (frame (take m f)) t at c u next
PutRead b f (Bad place n) t at c u next = Put b (bad place) t at c u next
PutRead b f (Piece place) t at c u next = (c ≡ b) × ((u ≡ t) × (next ≡ at))

-- A frame lies within its buffer.
abbrev pub Holds : LineRead → Type 0
Holds (Frame m n) = m ≤ longest_frame
Holds (Bad place n) = Unit {0}
Holds (Piece place) = Unit {0}

-- How many characters a line took, none where its LF is missing.
abbrev pub used_by : LineRead → Option ℕ
used_by (Frame m n) = Some n
used_by (Bad place n) = Some n
used_by (Piece place) = None

-- One turn x: the line that starts at its place is answered, or nothing is done, because its LF is missing.
abbrev pub Turned : Bus → List ℕ → Turn → List ℕ → Bus → List ℕ → Option Turn → Type 0
Turned b s x t c u (Some y) = Served b s x.from x.at t c u y.from y.at × (x.from < y.from)
Turned b s x t c u None = (c ≡ b) × (u ≡ t) × NoLf (drop x.from s)

-- How many characters a line took, 0 where its LF is missing.
abbrev pub taken_by : LineRead → ℕ
taken_by (Frame m n) = n
taken_by (Bad place n) = n
taken_by (Piece place) = 0

-- One turn by its numbers: the line that starts at `from` is answered, or nothing is done, because its LF is missing.
pub record TurnedBy (b : Bus) (s : List ℕ) (from at : ℕ) (t : List ℕ) (c : Bus) (u : List ℕ) (next used to : ℕ) : Type 0 where
  pub served : Served b s from at t c u next to
  pub goes : next ≡ from + used
  pub piece : used ≡ 0 → NoLf (drop next s)

-- A next turn is taken where the last one took a line, and the longest answer line has room behind the text.
abbrev pub goes_on : ℕ → ℕ → ℕ → Bool
goes_on used at room = pick (eqb used 0) false (leb longest (room - at))

-- A chunk that was served: the texts of its calls, and whether all its lines are answered.
pub record Chunk (b : Bus) (s : List ℕ) (c : Bus) (next : ℕ) (whole : Bool) : Type 0 where
  pub written : List ℕ
  pub serves : Serves s b 0 c next written
  pub piece : whole ≡ true → NoLf (drop next s)

-- What came of a chunk: all its lines are answered, up to the place where its piece starts; or only some calls were made.
abbrev pub Sent : Bus → List ℕ → Bus → Option ℕ → Type 0
Sent b s c (Some next) = Chunk b s c next true
Sent b s c None = (next : ℕ) × Chunk b s c next false

-- A program stands between two chunks: there are chunks that it has read and a text that it has written, of which the bus is b and c is carried over.
pub record Underway (b : Bus) (c : List ℕ) : Type 0 where
  pub chunks : List (List ℕ)
  pub written : List ℕ
  pub session : Session chunks b c written

-- THE STATEMENTS

-- At the end of the input, with the answer to the piece that is left, exactly the answers of the whole input are written.
abbrev pub AllAnswered : Type 0
AllAnswered = (cs : List (List ℕ)) (b : Bus) (c w : List ℕ) → Session cs b c w → w ++ (answered b (found_at_end c)).text ≡ answers_text (flatten cs)

-- Before that, what is written is the front of it, whatever follows: so it is after a write or a read that failed.
pub record Front (w l : List ℕ) : Type 0 where
  pub behind : List ℕ
  pub whole : l ≡ w ++ behind

abbrev pub AlwaysFront : Type 0
AlwaysFront = (cs : List (List ℕ)) (b : Bus) (c w : List ℕ) → Session cs b c w → (y : List ℕ) → Front w (answers_text (flatten cs ++ y))

-- So it is in the middle of a chunk x too, when only some of its calls are made: w was written before, v since.
abbrev pub FrontWithin : Type 0
FrontWithin = (cs : List (List ℕ)) (b d : Bus) (c w x t v y : List ℕ) (end at : ℕ) → Session cs b c w → take end t ≡ c ++ x → Serves (take end t) b 0 d at v →
    Front (w ++ v) (answers_text (flatten cs ++ (x ++ y)))

-- The answer to a piece that lacks its LF, at the end of the input: 16, and nothing where there is no piece.
abbrev pub piece_text : List ℕ → List ℕ
piece_text [] = []
piece_text (x ∷ c) = answer_line (EINVAL ∷ [])

abbrev pub PieceAnswered : Type 0
PieceAnswered = (b : Bus) (c : List ℕ) → (answered b (found_at_end c)).text ≡ piece_text c

-- Where a call stops before the piece, it has answered a line, and the next call starts behind it, given a text buffer that holds the longest answer line.
abbrev pub GoesOn : Type 0
GoesOn = (b c : Bus) (s t u : List ℕ) (from next at : ℕ) → Served b s from 0 t c u next at → Stopped s t next at true → longest ≤ length t → from < next
