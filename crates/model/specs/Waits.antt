-- Document 01, "Rules of order and quota": "Counting accepted receives of its peer only, and k entries being ahead of it, an entry comes out at or before receive k + 1,
-- or has been dropped or withdrawn." The statement, of histories alone: the queues are the ledger's, and what an accepted receive takes out is the ledger's first item at its peer.
-- Assumes nothing.
use Rattle.std.specs.Prelude.{ℕ, ◌+◌, ◌<◌, ◌≡◌, Bool, false, ◌⊎◌, List, [], ◌∷◌, ◌++◌, length, eqb}
use Rattle.laws.specs.Tests.{pick}
use Rattle.frames.specs.Frame.{opcode}
use Rattle.model.specs.Lists.{both, any}
use Rattle.model.specs.State.{held, total}
use Rattle.model.specs.Book.{Fed, acting_peer}
use Rattle.model.specs.Ledger.{Item, Item.message, Item.destroyed, Item.released, Ledger, brings, item_number}
use Rattle.model.specs.Queues.{Later, front}
use Rattle.model.specs.QueuesLaws.{In}
use Rattle.model.specs.InPlace.{CameOut}
use Rattle.model.specs.Tally.{tally}
use Rattle.model.specs.Rows.{ledger_of}
use Rattle.model.specs.Happened.{Happened}

-- An accepted receive of p: the number 0 for a frame with the command byte 08 and the acting peer p.
-- 0c is none: 02 No. 1, "0c is no receive in the rules of order".
abbrev pub receives_at : ℕ → Fed → Bool
receives_at p x = both (eqb x.number 0) (both (eqb (opcode x.frame) 8) (eqb (acting_peer x.frame) p))

-- How many there are among the exchanges.
unfoldable pub receives_in : ℕ → List Fed → ℕ
receives_in p [] = 0
receives_in p (x ∷ ys) = pick (receives_at p x) 1 0 + receives_in p ys

-- What those among ys took out after the history xs, in order.
unfoldable pub taken_in : List Fed → List Fed → ℕ → List Item
taken_in xs [] p = []
taken_in xs (x ∷ ys) p = pick (receives_at p x) (front ((ledger_of xs).queue p)) [] ++ taken_in (xs ++ (x ∷ [])) ys p

-- Why an item leaves the queue of p unreceived, from the ledger l before an exchange to the ledger k after it. A message is dropped:
-- "Queued messages for the node are still delivered, until the owner's handle is gone; then they are dropped." A destroy notice "is now withdrawn as soon as the peer holds no handle and no
-- earlier message carrying the node is left" (02 No. 2); a release notice when the handle goes, and "if the sum rises or the node is destroyed".
abbrev pub LapsedIn : Ledger → Ledger → ℕ → Item → Type 0
LapsedIn l k p (message j m) = held (k.handle p m.to.number) ≡ false
LapsedIn l k p (destroyed j n) = (held (k.handle p n.number) ≡ false) × (any (brings j n.number) (k.queue p) ≡ false)
LapsedIn l k p (released j n) =
    (held (k.handle p n.number) ≡ false) ⊎ ((total l.handle n.number < total k.handle n.number) ⊎ (k.lives n.number ≡ false))

-- Dropped or withdrawn by one of the exchanges ys, after the history xs, when it still waited.
abbrev pub LostIn : List Fed → List Fed → ℕ → Item → Type 0
LostIn xs [] p e = ⊥
LostIn xs (x ∷ ys) p e = (In e ((ledger_of xs).queue p) × LapsedIn (ledger_of xs) (ledger_of (xs ++ (x ∷ []))) p e) ⊎ LostIn (xs ++ (x ∷ [])) ys p e

-- Queued by a command that was accepted after the history xs.
abbrev pub NewerIn : List Fed → Item → Type 0
NewerIn xs e = tally xs < item_number e

-- Every item followed by its place: what the receives of p took out and what then waits for p, one after the other,
-- are the items that waited for p and are not lost, in their order, and newer ones behind them.
abbrev pub FollowedIn : Type 0
FollowedIn =
    (xs ys : List Fed) → Happened (xs ++ ys) → (p : ℕ) →
    Later (LostIn xs ys p) (NewerIn xs) ((ledger_of xs).queue p) (taken_in xs ys p ++ (ledger_of (xs ++ ys)).queue p)

-- Each accepted receive takes one item out.
abbrev pub OneEachIn : Type 0
OneEachIn = (xs ys : List Fed) → Happened (xs ++ ys) → (p : ℕ) → length (taken_in xs ys p) ≡ receives_in p ys

-- "comes out at or before receive k + 1, or has been dropped or withdrawn": of the item at its place, also where another one is the same to the byte.
-- Before it came those of the items ahead of it that are not lost, in their order, and nothing else.
abbrev pub InTimeIn : Type 0
InTimeIn =
    (xs ys : List Fed) → Happened (xs ++ ys) → (p : ℕ) (ahead behind-it : List Item) (e : Item) → (ledger_of xs).queue p ≡ ahead ++ (e ∷ behind-it) →
    length ahead < receives_in p ys → LostIn xs ys p e ⊎ CameOut (LostIn xs ys p) ahead e (taken_in xs ys p)
