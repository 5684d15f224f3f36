-- What an answer shows, and for which node: the words in which it is said that no old name ever reaches a new object. Histories alone are spoken of, with their book and ledger.
-- Assumes nothing.
use Rattle.std.specs.Prelude.{ℕ, ◌%◌, ◌≡◌, false, ◌⊎◌, List, [], ◌∷◌, ◌++◌, get_or}
use Rattle.laws.specs.Bytes.{num_at}
use Rattle.frames.specs.Frame.{opcode, id_at}
use Rattle.model.specs.Numbers.{invalid}
use Rattle.model.specs.State.{Handle.none}
use Rattle.model.specs.Book.{Node, Noted.noted, Fed, answered_id, shown_ids, acting_peer}
use Rattle.model.specs.Ledger.{Letter, Item, Item.message, Item.destroyed, Item.released, LedgerSeed.kept}
use Rattle.model.specs.Rows.{book_of, ledger_of}
use Rattle.model.specs.OneNode.{Creates}
use Rattle.model.specs.Happened.{Happened}

-- A receive of p that came back with 0, answered with this kind: 01 a message, 02 a node destroyed, 03 a node released.
pub record Takes (p kind : ℕ) (x : Fed) : Type 0 where
  pub number : x.number ≡ 0
  pub byte : opcode x.frame ≡ 8
  pub peer : acting_peer x.frame ≡ p
  pub says : get_or x.answer 1 0 ≡ kind

-- Two lists have i and n at the same place.
abbrev pub AtOnePlace : ℕ → Node → List ℕ → List Node → Type 0
AtOnePlace i n [] ns = ⊥
AtOnePlace i n (j ∷ is) [] = ⊥
AtOnePlace i n (j ∷ is) (m ∷ ns) = ((j ≡ i) × (m ≡ n)) ⊎ AtOnePlace i n is ns

-- After the history xs, x shows at the peer p the ID i for the node n: "by an answer to that peer's receive (destination, attached, notice) and by the answer to a transfer of which it
-- is the destination; all ones is no ID". And 0c shows the attached nodes of the peer's seed: 02 No. 1, "Attached handles follow the receive rule each time it is shown."
pub data Shows (xs : List Fed) (x : Fed) (p i : ℕ) (n : Node) : Type 0 where
  destination : (k : ℕ) (m : Letter) (rest : List Item) → Takes p 1 x → (ledger_of xs).queue p ≡ message k m ∷ rest → m.to ≡ n → num_at x.answer 2 8 ≡ i → Shows xs x p i n
  attached : (k : ℕ) (m : Letter) (rest : List Item) → Takes p 1 x → (ledger_of xs).queue p ≡ message k m ∷ rest → AtOnePlace i n (shown_ids x.answer) m.carried →
      (i ≡ invalid → ⊥) → Shows xs x p i n
  destruction : (k : ℕ) (rest : List Item) → Takes p 2 x → (ledger_of xs).queue p ≡ destroyed k n ∷ rest → num_at x.answer 2 8 ≡ i → Shows xs x p i n
  release : (k : ℕ) (rest : List Item) → Takes p 3 x → (ledger_of xs).queue p ≡ released k n ∷ rest → num_at x.answer 2 8 ≡ i → Shows xs x p i n
  transferred : (c : ℕ) → x.number ≡ 0 → opcode x.frame ≡ 6 → get_or x.frame 10 0 ≡ p → (book_of xs).handle (acting_peer x.frame) (id_at x.frame 2).0 ≡ noted n c →
      answered_id x.answer ≡ i → Shows xs x p i n
  seeded : (payload : List ℕ) (ns : List Node) → x.number ≡ 0 → opcode x.frame ≡ 12 → acting_peer x.frame ≡ p → (ledger_of xs).seed p ≡ kept payload ns →
      AtOnePlace i n (shown_ids x.answer) ns → (i ≡ invalid → ⊥) → Shows xs x p i n

-- (a) An ID that the bus gave, 4n + 3, and that was shown at a peer for a node is never shown at that peer for another node.
abbrev pub GivenForOne : Type 0
GivenForOne =
    (xs ys zs : List Fed) (x z : Fed) → Happened ((xs ++ (x ∷ ys)) ++ (z ∷ zs)) → (p i : ℕ) (n m : Node) → i % 4 ≡ 3 →
    Shows xs x p i n → Shows (xs ++ (x ∷ ys)) z p i m → n ≡ m

-- (b) An ID that is shown for a node and later for another was created anew by the peer itself in between. At that creation the first node was destroyed and the peer's own handle to it gone;
-- from then on no answer at this peer shows a message for the first node, a notice of it, or any ID for it but all ones.
pub record CreatedAnew (xs : List Fed) (x : Fed) (ys : List Fed) (z : Fed) (zs : List Fed) (p i : ℕ) (n : Node) : Type 0 where
  pub before : List Fed
  pub create : Fed
  pub after : List Fed
  pub place : ys ≡ before ++ (create ∷ after)
  pub creates : Creates p i create
  pub dead : (ledger_of (xs ++ (x ∷ before))).lives n.number ≡ false
  pub gone : (ledger_of (xs ++ (x ∷ before))).handle p n.number ≡ none
  pub never : (us vs : List Fed) (y : Fed) → (create ∷ after) ++ (z ∷ zs) ≡ us ++ (y ∷ vs) → (j : ℕ) → Shows ((xs ++ (x ∷ before)) ++ us) y p j n → ⊥

abbrev pub ChosenForAnother : Type 0
ChosenForAnother =
    (xs ys zs : List Fed) (x z : Fed) → Happened ((xs ++ (x ∷ ys)) ++ (z ∷ zs)) → (p i : ℕ) (n m : Node) → Shows xs x p i n → Shows (xs ++ (x ∷ ys)) z p i m → (n ≡ m → ⊥) →
    CreatedAnew xs x ys z zs p i n

-- (c) A message is shown under the ID by which the peer holds, at that moment, the node to which it was sent: p's first item is a message, and the destination ID of the answer names its
-- node in the book.
pub record ShownAsHeld (xs : List Fed) (x : Fed) (p : ℕ) : Type 0 where
  pub number : ℕ
  pub letter : Letter
  pub rest : List Item
  pub first : (ledger_of xs).queue p ≡ message number letter ∷ rest
  pub count : ℕ
  pub named : (book_of xs).handle p (num_at x.answer 2 8) ≡ noted letter.to count

abbrev pub MessagesAsHeld : Type 0
MessagesAsHeld = (xs ys : List Fed) (x : Fed) → Happened (xs ++ (x ∷ ys)) → (p : ℕ) → Takes p 1 x → ShownAsHeld xs x p
