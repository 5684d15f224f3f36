-- What is shown is what was sent, of histories: frames, numbers and answers, with their book and ledger, and no word of the state. A receive answered 01 shows the first message of its
-- peer's queue, and an accepted send among the commands before it put that message there. The destination ID names the message's node at that peer; user, sizes, flag and payload are
-- those of the message; and each attached ID is the one that is due for the node at its place.
-- Assumes nothing.
use Rattle.std.specs.Prelude.{ℕ, suc, ◌+◌, ◌*◌, ◌≡◌, true, false, not, List, [], ◌∷◌, ◌++◌, map, length, get_or, drop, eqb}
use Rattle.laws.specs.Tests.{pick}
use Rattle.laws.specs.Bytes.{num_at}
use Rattle.laws.specs.Weights.{All}
use Rattle.frames.specs.Frame.{opcode, payload_of}
use Rattle.answers.specs.Answer.{bit}
use Rattle.model.specs.Numbers.{invalid, next_id}
use Rattle.model.specs.Lists.{both, any}
use Rattle.model.specs.Requests.{destinations, attached}
use Rattle.model.specs.State.{Handle.none, held, id_or}
use Rattle.model.specs.Book.{Node, Noted.noted, Book, nodes_of, Fed, answers_message, shown_ids, is_send, acting_peer, sizes_of}
use Rattle.model.specs.Tally.{tally}
use Rattle.model.specs.Ledger.{Letter, Item, Item.message, Item.destroyed, Item.released, Ledger, valid_at, of_command}
use Rattle.model.specs.Rows.{book_of, ledger_of}
use Rattle.model.specs.Happened.{Happened}
use Rattle.model.specs.Shows.{AtOnePlace}

-- The accepted send among the commands xs that put the letter m, with the number k, into a queue. "Send: each destination ID in turn puts a message at its node's owner, with the sender's
-- user, that node, nb, nh and the attached IDs' nodes".
pub record Sent (xs : List Fed) (k : ℕ) (m : Letter) : Type 0 where
  pub before : List Fed
  pub send : Fed
  pub after : List Fed
  pub place : xs ≡ before ++ (send ∷ after)
  pub accepted : send.number ≡ 0
  pub sends : is_send send.frame ≡ true
  -- its number among the accepted commands
  pub number : k ≡ suc (tally before)
  -- one of its destination IDs, which named the letter's node at the sender then
  pub id : ℕ
  pub among : any (eqb id) (destinations send.frame (sizes_of send.frame)) ≡ true
  pub count : ℕ
  pub to : (book_of before).handle (acting_peer send.frame) id ≡ noted m.to count
  pub user : m.user ≡ (book_of before).user (acting_peer send.frame)
  pub payload : m.payload ≡ payload_of send.frame
  pub carried : m.carried ≡ nodes_of (book_of before) (acting_peer send.frame) (attached send.frame (sizes_of send.frame))

abbrev pub SentItem : List Fed → Item → Type 0
SentItem xs (message k m) = Sent xs k m
SentItem xs (destroyed k n) = Unit {0}
SentItem xs (released k n) = Unit {0}

-- Every message that waits was sent.
abbrev pub LettersSent : Type 0
LettersSent = (xs : List Fed) → Happened xs → (p : ℕ) → All (SentItem xs) ((ledger_of xs).queue p)

-- "At receive, each attached handle in order": 02 No. 2, "invalid only if the destruction came before the message"; "else the receiver's existing handle, or a new ID where it has none."
-- As of the command k, by `valid_at`: the nodes, by number, that get a new ID at p: each that is shown and to which p has no handle, once, in the order of their first places. Those in new
-- came before.
abbrev pub with_new : Ledger → ℕ → ℕ → List ℕ → ℕ → List ℕ
with_new l p k new n = pick (both (valid_at l p k n) (both (not (held (l.handle p n))) (not (any (eqb n) new)))) (new ++ (n ∷ [])) new

abbrev pub new_after : Ledger → ℕ → ℕ → List ℕ → List Node → List ℕ
new_after l p k new [] = new
new_after l p k new (n ∷ ns) = new_after l p k (with_new l p k new n.number) ns

abbrev pub new_nodes : Ledger → ℕ → ℕ → List Node → List ℕ
new_nodes l p k ns = new_after l p k [] ns

-- How many of a list stand before n.
abbrev pub ahead : ℕ → List ℕ → ℕ
ahead n [] = 0
ahead n (m ∷ ms) = pick (eqb n m) 0 (suc (ahead n ms))

-- The ID due for a node, where the nodes new get new IDs: "IDs the bus gives are 4n + 3, n = 1, 2, 3 ... for each peer".
abbrev pub attached_id : Ledger → ℕ → ℕ → List ℕ → Node → ℕ
attached_id l p k new n = pick (valid_at l p k n.number) (id_or (next_id (l.given p + ahead n.number new)) (l.handle p n.number)) invalid

-- The IDs shown to p for the nodes ns, as of the command as_of.
pub record AttachedShown (l : Ledger) (k : Book) (p as_of : ℕ) (ids : List ℕ) (ns : List Node) : Type 0 where
  pub each : ids ≡ map (attached_id l p as_of (new_nodes l p as_of ns)) ns
  pub one_each : length ids ≡ length ns
  -- "invalid only if the destruction came before the message"; "An owner whose own handle is gone is still shown the invalid ID"; and there only
  pub destroyed-invalid : (i : ℕ) (n : Node) → AtOnePlace i n ids ns → valid_at l p as_of n.number ≡ false → i ≡ invalid
  pub invalid-destroyed : (i : ℕ) (n : Node) → AtOnePlace i n ids ns → i ≡ invalid → valid_at l p as_of n.number ≡ false
  -- "else the receiver's existing handle"
  pub existing : (i : ℕ) (n : Node) → AtOnePlace i n ids ns → valid_at l p as_of n.number ≡ true → (j c : ℕ) → k.handle p j ≡ noted n c → i ≡ j
  -- "or a new ID where it has none": the next that p is given, behind those of the other new nodes with an earlier place
  pub new : (i : ℕ) (n : Node) → AtOnePlace i n ids ns → valid_at l p as_of n.number ≡ true → l.handle p n.number ≡ none →
      i ≡ next_id (l.given p + ahead n.number (new_nodes l p as_of ns))
  -- "one handle listed twice: the same ID twice"
  pub one-id : (i j : ℕ) (n : Node) → AtOnePlace i n ids ns → AtOnePlace j n ids ns → i ≡ j

-- x, an accepted receive answered 01 after the history xs, shows what was sent. "Receive answers 01, destination ID, sender's user (1), flag (1), nb (2), nh (1), IDs, payload".
pub record Delivered (xs : List Fed) (x : Fed) : Type 0 where
  pub number : ℕ
  pub letter : Letter
  pub rest : List Item
  pub first : (ledger_of xs).queue (acting_peer x.frame) ≡ message number letter ∷ rest
  pub sent : Sent xs number letter
  -- the destination ID names the message's node at that peer
  pub count : ℕ
  pub to : (book_of xs).handle (acting_peer x.frame) (num_at x.answer 2 8) ≡ noted letter.to count
  pub user : get_or x.answer 10 0 ≡ letter.user
  -- "The flag is 1 if, when it is taken out, another message of the same send is queued behind it at that peer."
  pub flag : get_or x.answer 11 0 ≡ bit (any (of_command number) rest)
  pub nb : num_at x.answer 12 2 ≡ length letter.payload
  pub nh : get_or x.answer 14 0 ≡ length letter.carried
  pub ids : AttachedShown (ledger_of xs) (book_of xs) (acting_peer x.frame) number (shown_ids x.answer) letter.carried
  -- "Each attached ID shown, save the invalid one, names the node at its place": from then on it does
  pub named : (i : ℕ) (n : Node) → AtOnePlace i n (shown_ids x.answer) letter.carried → (i ≡ invalid → ⊥) →
      (c : ℕ) × ((book_of (xs ++ (x ∷ []))).handle (acting_peer x.frame) i ≡ noted n c)
  pub payload : drop (15 + 8 * get_or x.answer 14 0) x.answer ≡ letter.payload

abbrev pub Delivers : Type 0
Delivers = (xs ys : List Fed) (x : Fed) → Happened (xs ++ (x ∷ ys)) → x.number ≡ 0 → opcode x.frame ≡ 8 → answers_message x.answer ≡ true → Delivered xs x
