-- Document 01, "Commands, one frame a line": the number and the bytes of each kind of answer, and what the answer buffer holds afterwards.
-- Assumes nothing.
use Rattle.std.specs.Prelude.{ℕ, ◌%◌, Bool, true, false, List, [], ◌∷◌, ◌++◌, length, take, drop, ltb}
use Rattle.std.specs.Int.Count.{ones}
use Rattle.laws.specs.Tests.{pick}
use Rattle.laws.specs.Bytes.{be}
use Rattle.ids.specs.Refusals.{EINVAL}
use Rattle.ids.specs.declared.HandleId.{HandleId}
use Rattle.quota.specs.declared.Charge.{Charge}
use Rattle.quota.specs.declared.Balance.{Balance}
use Rattle.answers.specs.declared.Header.{Header}
use Rattle.answers.specs.declared.Received.{Received}
use Rattle.answers.specs.declared.Received.TheVariants.{Message, Destroyed, Released, Seed}
use Rattle.answers.specs.declared.Answer.{Answer}
use Rattle.answers.specs.declared.Answer.TheVariants.{Refused, Done, Transferred, Received as received, Quota, Holders}
use Rattle.answers.specs.declared.Outcome.{Outcome}
pub use Rattle.ids.specs.Sizes.{most_ids, most_bytes}

-- "answer buffer under 591 bytes (nothing is written, the number is returned)"; the longest answer: a message with 8 IDs and 512 bytes.
abbrev pub answer_size : ℕ
answer_size = 591

-- "an ID has 8 bytes"; a list of IDs one after another.
unfoldable pub id_bytes : List ℕ → List ℕ
id_bytes [] = []
id_bytes (i ∷ is) = be 8 i ++ id_bytes is

-- A flag's byte.
abbrev pub bit : Bool → ℕ
bit true = 1
bit false = 0

-- The kind, 01 or for a seed 04, then destination ID, sender's user (1), flag (1), nb (2), nh (1).
unfoldable pub header_bytes : ℕ → Header → List ℕ
header_bytes kind h = kind ∷ be 8 h.to.0 ++ (h.user.0 % 256 ∷ bit h.flag ∷ be 2 h.nb ++ (h.nh % 256 ∷ []))

-- The header, IDs, payload; of the two lists at most 8 IDs and 512 bytes.
unfoldable pub message_bytes : ℕ → Header → List ℕ → List ℕ → List ℕ
message_bytes kind h is bs = header_bytes kind h ++ (id_bytes (take most_ids is) ++ take most_bytes bs)

unfoldable pub notice_bytes : ℕ → HandleId → List ℕ
notice_bytes kind i = kind ∷ be 8 i.0

-- "Receive answers 01, ..; or 02 and an ID (node destroyed); or 03 and an ID (node released)." 02 No. 1: "shows the seed as kind 04 with a message's fields".
unfoldable pub received_bytes : Received → List ℕ → List ℕ → List ℕ
received_bytes (Message h) is bs = message_bytes 1 h is bs
received_bytes (Destroyed i) is bs = notice_bytes 2 i
received_bytes (Released i) is bs = notice_bytes 3 i
received_bytes (Seed h) is bs = message_bytes 4 h is bs

-- Messages, bytes, handles, 2 bytes each.
unfoldable pub charge_bytes : Charge → List ℕ
charge_bytes c = be 2 c.messages ++ (be 2 c.bytes ++ be 2 c.handles)

-- "messages, bytes, handles queued by that user at this peer (2 bytes each), then what is left of each (2 bytes, two's complement)".
unfoldable pub balance_bytes : Balance → List ℕ
balance_bytes b = charge_bytes b.queued ++ charge_bytes b.left

-- "one byte with bit p set if peer p holds a handle to the node, then the number of set bits".
unfoldable pub holder_bytes : ℕ → List ℕ
holder_bytes h = h ∷ ones h ∷ []

-- "An answer begins with 00 or a refusal number."
abbrev pub number_of : Answer → ℕ
number_of (Refused n) = n
number_of Done = 0
number_of (Transferred i) = 0
number_of (received r) = 0
number_of (Quota b) = 0
number_of (Holders h) = 0

-- What follows the number: nothing after a refusal and after 01 to 05 and 07; for 06 the ID at the destination; for 08, 09 and 0a as above.
unfoldable pub contents_of : Answer → List ℕ → List ℕ → List ℕ
contents_of (Refused n) is bs = []
contents_of Done is bs = []
contents_of (Transferred i) is bs = be 8 i.0
contents_of (received r) is bs = received_bytes r is bs
contents_of (Quota b) is bs = balance_bytes b
contents_of (Holders h) is bs = holder_bytes h

unfoldable pub answer_bytes : Answer → List ℕ → List ℕ → List ℕ
answer_bytes a is bs = number_of a ∷ contents_of a is bs

-- "No answer touches the buffer past its own end."
unfoldable pub answer_after : Answer → List ℕ → List ℕ → List ℕ → List ℕ
answer_after a is bs out = pick (ltb (length out) answer_size) out (answer_bytes a is bs ++ drop (length (answer_bytes a is bs)) out)

-- What comes back: the number and the answer's length, 0 where nothing is written.
unfoldable pub outcome_of : Answer → List ℕ → List ℕ → List ℕ → Outcome
outcome_of a is bs out =
    pick (ltb (length out) answer_size) (record { number = EINVAL; len = 0 }) (record { number = number_of a; len = length (answer_bytes a is bs) })
