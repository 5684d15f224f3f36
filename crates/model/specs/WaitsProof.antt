-- An item with k ahead of it comes out at or before receive k + 1, or is lost: the proof, of histories.
-- Assumes nothing.
use Rattle.std.specs.Prelude.{ℕ, ◌≡◌, refl, Bool, true, false, List, [], ◌∷◌, map, length, get_or, eqb, Ok}
use Rattle.std.proofs.Common.{ne_eqb}
use Rattle.laws.specs.Tests.{pick}
use Rattle.frames.specs.declared.Command.{Command}
use Rattle.frames.specs.declared.Command.TheVariants.{Open, Disconnect, Create, Destroy, Release, Transfer, Send, Receive, Quota, Holders, ShowSeed}
use Rattle.frames.specs.Frame.{opcode, parse}
use Rattle.model.specs.Lists.{both}
use Rattle.model.specs.State.{Entry}
use Rattle.model.specs.Book.{Book, Fed, acting_peer, feed}
use Rattle.model.specs.Coded.{code, actor, coded}
use Rattle.model.specs.Queues.{front}
use Rattle.model.specs.QueuesLaws.{later_refl, later-imp}
use Rattle.model.specs.Ledger.{Item, Ledger, enter, with_book, feed_ledger}
use Rattle.model.specs.LedgerSim.{item_of}
use Rattle.model.specs.LedgerMoves.{taken_of, MovedIn, moved_by}
use Rattle.model.specs.History.{fed-enters, ledger-left}
use Rattle.model.specs.Rows.{ledger_of}
use Rattle.model.specs.Exchanges.{Exchange, Exchange.refused, Exchange.accepted}
use Rattle.model.specs.Waits.{receives_at, LapsedIn}

-- A receive as its frame says it, and as a command.
taken-coded : (l : Ledger) (p : ℕ) (f : List ℕ) (c : Command) → opcode f ≡ code c → get_or f 1 0 ≡ actor c →
    pick (both (eqb (opcode f) 8) (eqb (acting_peer f) p)) (front (l.queue p)) [] ≡ taken_of l p c
taken-coded l p f (Open q u) e g = rw e refl
taken-coded l p f (Disconnect q) e g = rw e refl
taken-coded l p f (Create q i) e g = rw e refl
taken-coded l p f (Destroy q i) e g = rw e refl
taken-coded l p f (Release q i) e g = rw e refl
taken-coded l p f (Transfer q i t) e g = rw e refl
taken-coded l p f (Send q z) e g = rw e refl
taken-coded l p f (Receive q room) e g = rw (e, g) refl
taken-coded l p f (Quota q u) e g = rw e refl
taken-coded l p f (Holders q i) e g = rw e refl
taken-coded l p f (ShowSeed q room) e g = rw e refl

abbrev pub taken_by : Ledger → ℕ → Fed → List Item
taken_by l p x = pick (receives_at p x) (front (l.queue p)) []

taken-accepted : (l : Ledger) (p : ℕ) (x : Fed) (c : Command) → x.number ≡ 0 → parse x.frame ≡ Ok c → taken_by l p x ≡ taken_of l p c
taken-accepted l p x c e g = let h = coded x.frame c g in rw e (taken-coded l p x.frame c h.byte h.peer)

-- Beside the ledger the book goes on.
moved-book : (l k : Ledger) (b : Book) (p : ℕ) (taken : List Item) → MovedIn l k p taken → MovedIn l (with_book k b) p taken
unfolding with_book
moved-book l k b p taken m = later-imp (go p) (λ e n. n) m
  where
    go : (p : ℕ) (e : Item) → LapsedIn l k p e → LapsedIn l (with_book k b) p e
    go p (Item.message j m) h = h
    go p (Item.destroyed j n) h = h
    go p (Item.released j n) h = h

pub exchange-moves : (xs : List Fed) (x : Fed) → Exchange xs x → (p : ℕ) → MovedIn (ledger_of xs) (feed_ledger (ledger_of xs) x) p (taken_by (ledger_of xs) p x)
exchange-moves xs x (refused n) p = rw (ledger-left (ledger_of xs) x n, ne_eqb x.number 0 n) (later_refl ((ledger_of xs).queue p))
exchange-moves xs x (accepted c e g legal t m) p =
    let l = ledger_of xs in
    rw (fed-enters l x c e g, taken-accepted l p x c e g) (moved-book l (enter l x.frame c) (feed l.book x) p (taken_of l p c) (moved_by l x.frame c legal p))

-- Nothing comes out of an empty queue, so each accepted receive takes one item out.
pub as_many : (name : ℕ → ℕ) (t : Bool) (q : List Entry) → length (pick t (front (map (item_of name) q)) []) ≡ length (pick t (front q) [])
as_many name true [] = refl
as_many name true (e ∷ q) = refl
as_many name false q = refl
