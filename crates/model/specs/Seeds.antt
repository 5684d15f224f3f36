-- 02 No. 1, the seed message, of histories alone: frames, numbers and answers, with their book and ledger, and no word of the state. What 0c shows is the last accepted 07 with nd 0 of its
-- peer: sizes and payload to the byte, and of each attached ID the node that it named then. 0c is refused with 11 exactly where there is no such 07.
-- Assumes nothing.
use Rattle.std.specs.Prelude.{ℕ, suc, ◌+◌, ◌-◌, ◌*◌, ◌^◌, ◌<◌, ◌≡◌, Bool, true, false, not, ◌⊎◌, List, [], ◌∷◌, ◌++◌, get_or, drop, eqb, leb, Ok}
use Rattle.laws.specs.Bytes.{num_at}
use Rattle.laws.specs.Weights.{All}
use Rattle.laws.specs.Tests.{pick}
use Rattle.ids.specs.Refusals.{EINVAL, EOVERFLOW, EBADF, ESHUTDOWN, ENXIO, EAGAIN, ERANGE}
use Rattle.ids.specs.declared.Peer.{Peer}
use Rattle.frames.specs.declared.Sizes.{Sizes}
use Rattle.frames.specs.declared.Command.TheVariants.{Send, ShowSeed}
use Rattle.frames.specs.Frame.{opcode, short_at, payload_of, parse}
use Rattle.model.specs.Numbers.{invalid}
use Rattle.model.specs.Lists.{both, either, every}
use Rattle.model.specs.State.{Status.opened}
use Rattle.model.specs.Requests.{attached}
use Rattle.model.specs.Book.{Node, Noted.noted, Fed, shown_ids, is_seed, acting_peer}
use Rattle.model.specs.Ledger.{LedgerSeed.unset, LedgerSeed.kept}
use Rattle.model.specs.Tally.{tally}
use Rattle.model.specs.Standing.{did}
use Rattle.model.specs.Rows.{book_of, ledger_of, stands_in, is_unopened, is_gone, is_noted, is_unset, seed_over_room}
use Rattle.model.specs.Happened.{Happened}
use Rattle.model.specs.Shows.{AtOnePlace}
use Rattle.model.specs.Delivered.{AttachedShown}
use Rattle.model.specs.OneNode.{Creates}
use Rattle.model.specs.LedgerLaws.{attached_nodes}
use Rattle.model.specs.Lives.{ended_in}

-- x sets the seed of p: 07 with nd 0 that came back with 0. "a send with no destinations that replaces the peer's own seed".
abbrev pub sets_seed : ℕ → Fed → Bool
sets_seed p x = both (eqb x.number 0) (both (is_seed x.frame) (eqb (acting_peer x.frame) p))

-- x leaves the seed of p as it was: it sets none, and it is no disconnect of p. "disconnect drops the seed".
abbrev pub leaves_seed : ℕ → Fed → Bool
leaves_seed p x = not (either (sets_seed p x) (did 2 p x))

-- The last of xs that set the seed of p; p did not disconnect since.
pub record LastSeed (xs : List Fed) (p : ℕ) : Type 0 where
  pub before : List Fed
  pub set : Fed
  pub after : List Fed
  pub place : xs ≡ before ++ (set ∷ after)
  pub sets : sets_seed p set ≡ true
  pub last : All (λ x. leaves_seed p x ≡ true) after

-- The nodes that its attached IDs named when it was set.
abbrev pub nodes_then : (xs : List Fed) (p : ℕ) → LastSeed xs p → List Node
nodes_then xs p s = attached_nodes (book_of s.before) p s.set.frame

-- The ledger's seed is that one; none where there is none.
abbrev pub SeedIsLast : Type 0
SeedIsLast = (xs : List Fed) → Happened xs → (p : ℕ) (s : LastSeed xs p) → (ledger_of xs).seed p ≡ kept (payload_of s.set.frame) (nodes_then xs p s)

abbrev pub UnsetWithoutLast : Type 0
UnsetWithoutLast = (xs : List Fed) → Happened xs → (p : ℕ) → (LastSeed xs p → ⊥) → (ledger_of xs).seed p ≡ unset

-- The node n, which the seed of p names, was destroyed since the seed was set.
abbrev pub ended_since : (xs : List Fed) (p : ℕ) → LastSeed xs p → Node → Bool
ended_since xs p s n = ended_in s.before (s.set ∷ s.after) n.owner n.number

abbrev pub lived_then : (xs : List Fed) (p : ℕ) → LastSeed xs p → Node → Bool
lived_then xs p s n = (ledger_of s.before).lives n.number

-- x, an accepted 0c of p after the history xs, shows the seed s. "shows the seed as kind 04 with a message's fields, destination all ones, flag 0".
pub record SeedShown (xs : List Fed) (x : Fed) (p : ℕ) (s : LastSeed xs p) : Type 0 where
  pub kind : get_or x.answer 1 0 ≡ 4
  pub destination : num_at x.answer 2 8 ≡ invalid
  -- the peer's own user
  pub user : get_or x.answer 10 0 ≡ (book_of xs).user p
  pub flag : get_or x.answer 11 0 ≡ 0
  -- sizes and payload, to the byte, of the 07
  pub nb : num_at x.answer 12 2 ≡ short_at s.set.frame 4
  pub nh : get_or x.answer 14 0 ≡ get_or s.set.frame 3 0
  pub payload : drop (15 + 8 * get_or x.answer 14 0) x.answer ≡ payload_of s.set.frame
  -- "Attached handles follow the receive rule each time it is shown", as of the command 0c itself (02 No. 2, "a seed shows it from the destruction on"): of each place the node that the ID there named when the seed was set
  pub ids : AttachedShown (ledger_of xs) (book_of xs) p (suc (ledger_of xs).accepted) (shown_ids x.answer) (nodes_then xs p s)
  -- all ones exactly where that node was dead then or has been destroyed since
  pub dead-then : (i : ℕ) (n : Node) → AtOnePlace i n (shown_ids x.answer) (nodes_then xs p s) → lived_then xs p s n ≡ false → i ≡ invalid
  pub ended-since : (i : ℕ) (n : Node) → AtOnePlace i n (shown_ids x.answer) (nodes_then xs p s) → ended_since xs p s n ≡ true → i ≡ invalid
  pub all_ones : (i : ℕ) (n : Node) → AtOnePlace i n (shown_ids x.answer) (nodes_then xs p s) → i ≡ invalid → (lived_then xs p s n ≡ false) ⊎ (ended_since xs p s n ≡ true)
  -- else, from then on, the ID names that node at the peer
  pub named : (i : ℕ) (n : Node) → AtOnePlace i n (shown_ids x.answer) (nodes_then xs p s) → (i ≡ invalid → ⊥) → (c : ℕ) × ((book_of (xs ++ (x ∷ []))).handle p i ≡ noted n c)
  -- no ID that names another node there is shown for it, and none under which the peer created a node since: "an owner ID may then be chosen again"
  pub never-another : (i c : ℕ) (n m : Node) → AtOnePlace i n (shown_ids x.answer) (nodes_then xs p s) → (book_of xs).handle p i ≡ noted m c → m ≡ n
  pub chosen-again : (i : ℕ) (n : Node) → AtOnePlace i n (shown_ids x.answer) (nodes_then xs p s) → (us vs : List Fed) (y : Fed) → s.after ≡ us ++ (y ∷ vs) → Creates p i y → ⊥

-- An accepted 0c: there is a last seed, and it is the one shown.
abbrev pub ShowsLastSeed : Type 0
ShowsLastSeed =
    (xs ys : List Fed) (x : Fed) → Happened (xs ++ (x ∷ ys)) → x.number ≡ 0 → opcode x.frame ≡ 12 →
    LastSeed xs (acting_peer x.frame) × ((s : LastSeed xs (acting_peer x.frame)) → SeedShown xs x (acting_peer x.frame) s)

-- "reading with none set gives 11": an 0c of 4 bytes and a peer up to 7 is 11 exactly where there is none and no row before it in the order applies. 22 is then the answer buffer's.
abbrev pub NoneGivesEleven : Type 0
NoneGivesEleven =
    (xs ys : List Fed) (x : Fed) → Happened (xs ++ (x ∷ ys)) → (p : Peer) (room : ℕ) → parse x.frame ≡ Ok (ShowSeed p room) →
    (x.number ≡ EAGAIN → LastSeed xs p.0 → ⊥)
    × ((LastSeed xs p.0 → ⊥) → (x.number ≡ EINVAL → ⊥) → tally xs < 2 ^ 40 - 1 → stands_in xs p.0 ≡ opened → x.number ≡ EAGAIN)

-- The rows of the table that can apply, in their order, where the frame is read and the answer buffer is long enough. Of 07 with nd 0: 75, 9, 108, and 6 for the attached IDs; there is no
-- destination for 113 and 122.
abbrev pub SetNumbers : Type 0
SetNumbers =
    (xs ys : List Fed) (x : Fed) → Happened (xs ++ (x ∷ ys)) → (p : Peer) (z : Sizes) → parse x.frame ≡ Ok (Send p z) → z.nd ≡ 0 → (x.number ≡ EINVAL → ⊥) →
    x.number
    ≡ pick (leb (2 ^ 40 - 1) (tally xs)) EOVERFLOW
    (pick (is_unopened (stands_in xs p.0)) EBADF
    (pick (is_gone (stands_in xs p.0)) ESHUTDOWN (pick (not (every (λ i. is_noted ((book_of xs).handle p.0 i)) (attached x.frame z))) ENXIO 0)))

-- Of 0c: 75, 9, 108, 11, and 34 "with its room test".
abbrev pub ShowNumbers : Type 0
ShowNumbers =
    (xs ys : List Fed) (x : Fed) → Happened (xs ++ (x ∷ ys)) → (p : Peer) (room : ℕ) → parse x.frame ≡ Ok (ShowSeed p room) → (x.number ≡ EINVAL → ⊥) →
    x.number
    ≡ pick (leb (2 ^ 40 - 1) (tally xs)) EOVERFLOW
    (pick (is_unopened (stands_in xs p.0)) EBADF
    (pick (is_gone (stands_in xs p.0)) ESHUTDOWN (pick (is_unset ((ledger_of xs).seed p.0)) EAGAIN (pick (seed_over_room room ((ledger_of xs).seed p.0)) ERANGE 0))))
