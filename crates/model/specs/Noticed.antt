-- What a notice tells: a receive answered 02 or 03 shows an ID that names, in the book, the node whose notice stood first in the ledger. The node of an 02 is destroyed; that of an 03
-- lives, is the receiver's own, and "the sum of counts over all peers" is 1.
-- Assumes nothing.
use Rattle.std.specs.Prelude.{ℕ, ◌^◌, ◌<◌, ◌≡◌, refl, false}
use Rattle.std.proofs.Common.{sym}
use Rattle.std.proofs.Math.Bool.{true}
use mathlib.Core.List.{List, [], ◌∷◌, ◌++◌, append-nil}
use Rattle.std.proofs.Math.ListN.{get_or}
use Rattle.laws.specs.Bytes.{be, num_at, num-at}
use Rattle.frames.specs.Frame.{opcode}
use Rattle.model.specs.State.{total}
use Rattle.model.specs.Book.{Node, Noted.noted, Book, acting_peer, Fed}
use Rattle.model.specs.Rows.{book_of, ledger_of}
use Rattle.model.specs.Happened.{Happened}
use Rattle.model.specs.Ledger.{Item, Item.destroyed as destroyed_item, Item.released as released_item, Ledger}

-- The first item of p is the notice of a node, and p's ID i names that node.
pub record Notice (notice : ℕ → Node → Item) (l : Ledger) (k : Book) (p i : ℕ) : Type 0 where
  pub number : ℕ
  pub node : Node
  pub rest : List Item
  pub first : l.queue p ≡ notice number node ∷ rest
  pub count : ℕ
  pub named : k.handle p i ≡ noted node count

-- "02 and an ID (node destroyed)".
pub record TellsDestroyed (l : Ledger) (k : Book) (p i : ℕ) : Type 0 where
  pub notice : Notice destroyed_item l k p i
  pub dead : l.lives notice.node.number ≡ false

-- "03 and an ID (node released)": "When the sum of counts over all peers falls to 1 .. on a live node, a release notice is queued at the owner."
pub record TellsReleased (l : Ledger) (k : Book) (p i : ℕ) : Type 0 where
  pub notice : Notice released_item l k p i
  pub lives : l.lives notice.node.number ≡ true
  pub own : notice.node.owner ≡ p
  pub alone : total l.handle notice.node.number ≡ 1

-- Of a receive answered with a notice, after a history.
pub record Tells (xs : List Fed) (x : Fed) : Type 0 where
  pub destruction : get_or x.answer 1 0 ≡ 2 → TellsDestroyed (ledger_of xs) (book_of xs) (acting_peer x.frame) (num_at x.answer 2 8)
  pub release : get_or x.answer 1 0 ≡ 3 → TellsReleased (ledger_of xs) (book_of xs) (acting_peer x.frame) (num_at x.answer 2 8)

abbrev pub NoticesTell : Type 0
NoticesTell = (xs ys : List Fed) (x : Fed) → Happened (xs ++ (x ∷ ys)) → x.number ≡ 0 → opcode x.frame ≡ 8 → Tells xs x

-- The ID of a notice.
pub notice-id : (kind i : ℕ) → i < 256 ^ 8 → num_at (0 ∷ kind ∷ be 8 i) 2 8 ≡ i
notice-id kind i l = rw (sym (append-nil (be 8 i))) (num-at (0 ∷ kind ∷ []) [] 2 8 i refl l)
