-- What an answer shows is what the book has noted: an ID that is shown at a peer for a node names that node in the book, before the command or after it. And a peer holds the node
-- of the item that stands first for it, in book and ledger alike.
-- Assumes nothing.
use Rattle.std.specs.Prelude.{ℕ, ◌^◌, ◌<◌, ◌≡◌}
use Rattle.std.proofs.Math.Path.{refl}
use mathlib.Core.List.{List, [], ◌∷◌, ◌++◌}
use Rattle.laws.specs.Bytes.{be, num_at, num-at}
use Rattle.model.specs.Numbers.{invalid}
use Rattle.model.specs.State.{Handle.some}
use Rattle.model.specs.Book.{Node, Noted.noted, Book, Fed}
use Rattle.model.specs.Ledger.{Item, Item.message as message_item, Item.destroyed as destroyed_item, Item.released as released_item, Ledger}
use Rattle.model.specs.Rows.{book_of}

-- p holds the node n under the ID i.
pub record HoldsAs (k : Book) (l : Ledger) (p i : ℕ) (n : Node) : Type 0 where
  pub count : ℕ
  pub named : k.handle p i ≡ noted n count
  pub handle : l.handle p n.number ≡ some i count
  pub valid : i < invalid

-- The node that an item is about.
abbrev pub node_of : Item → Node
node_of (message_item k m) = m.to
node_of (destroyed_item k n) = n
node_of (released_item k n) = n

-- The ID behind the kind, where the first item is about a node that p holds.
pub id-at : (kind i : ℕ) (rest : List ℕ) → i < 256 ^ 8 → num_at (0 ∷ kind ∷ be 8 i ++ rest) 2 8 ≡ i
id-at kind i rest small = num-at (0 ∷ kind ∷ []) rest 2 8 i refl small

-- Of histories.
abbrev pub NamedIn : List Fed → ℕ → ℕ → Node → Type 0
NamedIn xs p i n = (c : ℕ) × ((book_of xs).handle p i ≡ noted n c)
