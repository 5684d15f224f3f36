-- Document 01, "Rules of nodes and handles" and "Rules of order and quota", of histories alone: what holds of the IDs, handles, counts and queues that book and ledger note.
-- Assumes nothing.
use Rattle.std.specs.Prelude.{ℕ, ◌%◌, ◌≤◌, ◌<◌, ◌≡◌, refl, true, List, [], ◌∷◌, map}
use Rattle.std.proofs.Common.{arith}
use Rattle.laws.specs.Weights.{All, all-imp}
use Rattle.laws.specs.Loads.{all_map}
use Rattle.model.specs.Numbers.{peers, next_id}
use Rattle.model.specs.State.{Handle.some, held, Entry, Entry.message, Entry.destroyed, Entry.released}
use Rattle.model.specs.Book.{Node, Noted.noted, Book, Fed}
use Rattle.model.specs.Queues.{stamp}
use Rattle.model.specs.Order.{InOrder}
use Rattle.model.specs.Ledger.{Item, Ledger, item_number}
use Rattle.model.specs.LedgerSim.{item_of}
use Rattle.model.specs.Tally.{tally}
use Rattle.model.specs.Rows.{book_of, ledger_of}
use Rattle.model.specs.Happened.{Happened}

-- The handles of the peer p in the book b and in the ledger l.
pub record HandlesOf (b : Book) (l : Ledger) (p : ℕ) : Type 0 where
  -- "A peer has at most one handle to a node": not two IDs
  pub one-id : (i j : ℕ) (n m : Node) (c d : ℕ) → b.handle p i ≡ noted n c → b.handle p j ≡ noted m d → n.number ≡ m.number → i ≡ j
  -- ".. with a count." "At 0 the handle is gone"
  pub counted : (i : ℕ) (n : Node) (c : ℕ) → b.handle p i ≡ noted n c → 0 < c
  -- "Owner IDs are chosen, bits 0 and 1 clear"
  pub chosen : (i : ℕ) (n : Node) (c : ℕ) → b.handle p i ≡ noted n c → n.owner ≡ p → i % 4 ≡ 0
  -- "IDs the bus gives are 4n + 3, n = 1, 2, 3 ... for each peer": every other ID is one of those given so far
  pub given : (i : ℕ) (n : Node) (c : ℕ) → b.handle p i ≡ noted n c → (n.owner ≡ p → ⊥) → (k : ℕ) × (k < l.given p) × (i ≡ next_id k)
  -- the ledger has the same handles, by the nodes' numbers
  pub to-ledger : (i : ℕ) (n : Node) (c : ℕ) → b.handle p i ≡ noted n c → l.handle p n.number ≡ some i c
  pub to-book : (m i c : ℕ) → l.handle p m ≡ some i c → (n : Node) × (n.number ≡ m) × (b.handle p i ≡ noted n c)
  -- two nodes have two IDs, and who holds a node is a peer
  pub one-node : (n m i c d : ℕ) → l.handle p n ≡ some i c → l.handle p m ≡ some i d → n ≡ m
  pub holder : (n : ℕ) → held (l.handle p n) ≡ true → p < peers

-- Nodes: those that IDs name, of any peers, are one node where they have one number; and the ledger has the node's owner as its maker.
pub record NodesOf (b : Book) (l : Ledger) : Type 0 where
  pub one-node : (p q i j : ℕ) (n m : Node) (c d : ℕ) → b.handle p i ≡ noted n c → b.handle q j ≡ noted m d → n.number ≡ m.number → n ≡ m
  pub makers : (p i : ℕ) (n : Node) (c : ℕ) → b.handle p i ≡ noted n c → l.maker n.number ≡ n.owner
  pub entered : (p i : ℕ) (n : Node) (c : ℕ) → b.handle p i ≡ noted n c → n.number < b.entered
  -- a node that lives was entered, and its owner holds it: "Creation gives the owner count 1 (the pinned one)"
  pub living-entered : (n : ℕ) → l.lives n ≡ true → n < b.entered
  pub living-held : (n : ℕ) → l.lives n ≡ true → held (l.handle (l.maker n) n) ≡ true

-- "Each queue is in the order of accepted commands": along a queue the numbers of the commands that queued its items never fall.
abbrev pub ItemsInOrder : List Item → Type 0
ItemsInOrder [] = Unit {0}
ItemsInOrder (e ∷ q) = All (λ d. item_number e ≤ item_number d) q × ItemsInOrder q

-- They are numbers of commands that were accepted so far.
pub record OrderedIn (xs : List Fed) (q : List Item) : Type 0 where
  pub in_order : ItemsInOrder q
  pub numbered : All (λ e. item_number e ≤ tally xs) q

-- Every history, every peer.
abbrev pub HandlesIn : Type 0
HandlesIn = (xs : List Fed) → Happened xs → (p : ℕ) → HandlesOf (book_of xs) (ledger_of xs) p

abbrev pub NodesIn : Type 0
NodesIn = (xs : List Fed) → Happened xs → NodesOf (book_of xs) (ledger_of xs)

abbrev pub OrderIn : Type 0
OrderIn = (xs : List Fed) → Happened xs → (p : ℕ) → OrderedIn xs ((ledger_of xs).queue p)

-- The number of an entry on the bus.
pub entry-number : (name : ℕ → ℕ) (e : Entry) → item_number (item_of name e) ≡ stamp e
entry-number name (message k m) = refl
entry-number name (destroyed k s) = refl
entry-number name (released k s) = refl

-- The order of the bus's queue.
pub items-in-order : (name : ℕ → ℕ) (q : List Entry) → InOrder q → ItemsInOrder (map (item_of name) q)
items-in-order name [] h = tt
items-in-order name (e ∷ q) h = (
  all_map (λ d. item_number (item_of name e) ≤ item_number d) (item_of name) q
      (all-imp (λ d. stamp e ≤ stamp d) (λ d. item_number (item_of name e) ≤ item_number (item_of name d)) (λ d z. omega (arith, entry-number name e, entry-number name d)) q h.0),
  items-in-order name q h.1,
)
