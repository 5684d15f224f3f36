-- Document 02, No. 4: a command with a journal, and recovery from the bytes that were kept of one, for any contents of the buffers.
-- Assumes nothing.
use Rattle.std.specs.Prelude.{ℕ, suc, ◌+◌, ◌*◌, ◌-◌, Bool, true, false, List, [], ◌∷◌, map, length, replicate, eqb, ltb, Ok, Err}
use Rattle.laws.specs.Tests.{pick}
use Rattle.ids.specs.Refusals.{EIO, EFBIG}
use Rattle.frames.specs.declared.Command.TheVariants.{Open, Disconnect, Create, Destroy, Release, Transfer, Send, Receive, Quota, Holders, ShowSeed}
use Rattle.frames.specs.Frame.{parse, Parsed}
use Rattle.lines.specs.Line.{room_for, lines_after}
use Rattle.lines.specs.Chunks.{split, Found, Found.frame, Found.bad, found as line_found}
use Rattle.answers.specs.Answer.{answer_size}
use Rattle.answers.specs.declared.Outcome.{Outcome}
use Rattle.view.specs.View.{Bus}
use Rattle.bus_model.specs.Command.{Done, done_of, refused_by, sized_ok, command_of, fresh_bus}
use Rattle.journal_model.specs.declared.JournalOutcome.{JournalOutcome}
use Rattle.journal_model.specs.declared.Recovered.{Recovered}
use Rattle.journal_model.specs.declared.Recovered.TheVariants as found

-- "questions left out".
abbrev pub is_question : Parsed → Bool
is_question (Err r) = false
is_question (Ok (Open p u)) = false
is_question (Ok (Disconnect p)) = false
is_question (Ok (Create p i)) = false
is_question (Ok (Destroy p i)) = false
is_question (Ok (Release p i)) = false
is_question (Ok (Transfer p i q)) = false
is_question (Ok (Send p z)) = false
is_question (Ok (Receive p room)) = false
is_question (Ok (ShowSeed p room)) = false
is_question (Ok (Quota p u)) = true
is_question (Ok (Holders p i)) = true

-- "every accepted command, questions left out": the command that f is on the bus b, with the answer buffer out.
unfoldable pub counted : Bus → List ℕ → List ℕ → Bool
counted b f out = pick (is_question (parse f)) false (eqb (command_of b f out).outcome.number 0)

-- What comes of a command with a journal: what comes of the command, the journal, and its used length.
pub record WithJournal : Type 0 where
  pub done : Done
  pub journal : List ℕ
  pub used : ℕ

abbrev pub with_journal : Done → List ℕ → ℕ → WithJournal
with_journal d j u = record { done = d; journal = j; used = u }

-- What the code gives back, with the buffers as it leaves them.
abbrev pub outcome_with : Outcome → ℕ → JournalOutcome
outcome_with o u = record { number = o.number; len = o.len; used = u }

abbrev pub returned_with : JournalOutcome → Bus → List ℕ → List ℕ → WithJournal
returned_with r b out j = with_journal (done_of (record { number = r.number; len = r.len }) b out) j r.used

-- "appended as its frame line before its answer is given"; "If the line has no room there, the command is refused with 27 EFBIG, the last of all checks":
-- a command that is refused or asked anyhow is answered as without a journal.
unfoldable pub appended_of : Bus → List ℕ → List ℕ → List ℕ → ℕ → WithJournal
appended_of b f out j u =
    pick (counted b f out)
    (pick (room_for j u f) (with_journal (command_of b f out) (lines_after j u f) (u + (2 * length f + 1))) (with_journal (refused_by EFBIG b out) j u))
    (with_journal (command_of b f out) j u)

-- "one over the buffer's length gives 5, in EIO's place": behind the answer buffer's length.
unfoldable pub obeyed_with : Bus → List ℕ → List ℕ → List ℕ → ℕ → WithJournal
obeyed_with b f out j u = pick (ltb (length j) u) (with_journal (refused_by EIO b out) j u) (appended_of b f out j u)

unfoldable pub command_with : Bus → List ℕ → List ℕ → List ℕ → ℕ → WithJournal
command_with b f out j u = pick (ltb (length out) answer_size) (with_journal (command_of b f out) j u) (obeyed_with b f out j u)

-- An answer buffer for the answers that nobody reads.
unfoldable pub spare : List ℕ
spare = replicate answer_size 0

-- What a replay comes to: the bus and how many lines; or the bus before the line that stopped it and the line's number, from 1, with the place of its fault where the line
-- reader refused it.
pub data Replayed : Type 0 where
  whole : Bus → ℕ → Replayed
  stopped : Bus → ℕ → Replayed
  unread : Bus → ℕ → ℕ → Replayed

-- "whole lines are carried out from a fresh bus"; "A line that is refused in the replay, or is a question, stops recovery".
unfoldable pub replay : ℕ → Bus → List Found → Replayed
replay n b [] = whole b n
replay n b (bad place ∷ ls) = unread b (suc n) place
replay n b (frame f ∷ ls) = pick (counted b f spare) (replay (suc n) (command_of b f spare).bus ls) (stopped b (suc n))

-- The whole lines of the bytes kept; "a trailing piece without LF is ignored, and the used length ends before it".
abbrev pub lines_in : List ℕ → List Found
lines_in s = map line_found (split s).whole

unfoldable pub used_of : List ℕ → ℕ
used_of s = length s - length (split s).rest

-- What recovery comes to, and the bus that it leaves.
pub record Recovery : Type 0 where
  pub result : Recovered
  pub bus : Bus

abbrev pub recovery_from : Recovered → Bus → Recovery
recovery_from r b = record { result = r; bus = b }

-- "stops recovery with 5, its line number, from 1, and a fresh bus".
abbrev pub recovery_of : List ℕ → Replayed → Recovery
recovery_of s (whole b n) = recovery_from (found.Whole n (used_of s)) b
recovery_of s (stopped b n) = recovery_from (found.Stopped n) fresh_bus
recovery_of s (unread b n place) = recovery_from (found.Unread n place) fresh_bus

-- "a bus buffer of the wrong length gives 5 and line 0, nothing written".
unfoldable pub recovered : Bus → List ℕ → Recovery
recovered b s = pick (sized_ok b) (recovery_of s (replay 0 fresh_bus (lines_in s))) (recovery_from found.WrongLength b)

-- The number, the line and the used length of a recovery.
abbrev pub number_in : Recovered → ℕ
number_in (found.Whole n u) = 0
number_in (found.Stopped n) = EIO
number_in (found.Unread n place) = EIO
number_in found.WrongLength = EIO

abbrev pub line_in : Recovered → ℕ
line_in (found.Whole n u) = n
line_in (found.Stopped n) = n
line_in (found.Unread n place) = n
line_in found.WrongLength = 0

-- The place of the fault of a line that the reader refused; else all ones, which is no place.
abbrev pub no_place : ℕ
no_place = 18446744073709551615

abbrev pub place_in : Recovered → ℕ
place_in (found.Whole n u) = no_place
place_in (found.Stopped n) = no_place
place_in (found.Unread n place) = place
place_in found.WrongLength = no_place

abbrev pub used_in : Recovered → ℕ
used_in (found.Whole n u) = u
used_in (found.Stopped n) = 0
used_in (found.Unread n place) = 0
used_in found.WrongLength = 0

-- A recovery told in numbers, with the bus that it leaves.
pub record Told : Type 0 where
  pub number : ℕ
  pub line : ℕ
  pub place : ℕ
  pub used : ℕ
  pub bus : Bus

abbrev pub told_from : ℕ → ℕ → ℕ → ℕ → Bus → Told
told_from n l p u b = record { number = n; line = l; place = p; used = u; bus = b }

abbrev pub told_of : Recovery → Told
told_of r = told_from (number_in r.result) (line_in r.result) (place_in r.result) (used_in r.result) r.bus

-- Was every line carried out?
abbrev pub wholly : Recovered → Bool
wholly (found.Whole n u) = true
wholly (found.Stopped n) = false
wholly (found.Unread n place) = false
wholly found.WrongLength = false
