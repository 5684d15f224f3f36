-- One exchange of a history, and what the ledger makes of it.
-- Assumes nothing.
use Rattle.std.specs.Prelude.{ℕ, suc, ◌+◌, ◌<◌, ◌≡◌, Bool, true, false, List, [], ◌∷◌, ◌++◌, map, length, Ok}
use Rattle.std.proofs.Math.Path.{refl}
use Rattle.std.proofs.Common.{ap, ◌∙◌, arith}
use Rattle.std.proofs.lemmas.List.{length-map}
use Rattle.laws.specs.Tests.{pick}
use Rattle.laws.specs.Weights.{All}
use Rattle.ids.specs.declared.HandleId.{HandleId}
use Rattle.ids.specs.declared.Peer.{Peer}
use Rattle.frames.specs.declared.Sizes.{Sizes}
use Rattle.frames.specs.declared.Command.{Command}
use Rattle.frames.specs.declared.Command.TheVariants.{Open, Disconnect, Create, Destroy, Release, Transfer, Send, Receive, Quota, Holders, ShowSeed}
use Rattle.frames.specs.Frame.{parse}
use Rattle.frames.specs.Legal.{Legal}
use Rattle.model.specs.Numbers.{nodes}
use Rattle.model.specs.State.{State, slot}
use Rattle.model.specs.Requests.{destinations, attached}
use Rattle.model.specs.Book.{Book, nodes_of, Fed, feed}
use Rattle.model.specs.Coded.{code}
use Rattle.model.specs.Sim.{called, Sim}
use Rattle.model.specs.SimSend.{nodes-of-slots}
use Rattle.model.specs.Tally.{is_counted, tally}
use Rattle.model.specs.Ledger.{blank_ledger, enter, with_book, feed_ledger, feed_ledger_all}
use Rattle.model.specs.LedgerPassed.{Passed}
use Rattle.model.specs.History.{feed-book, feed-ledger-append}
use Rattle.model.specs.Rows.{book_of, ledger_of}

-- Of a send each destination ID and each attached ID names a node in the book: "6 ENXIO an ID the acting peer does not hold".
abbrev pub AllNamed : Book → List ℕ → Command → Type 0
AllNamed b f (Open p u) = Unit {0}
AllNamed b f (Disconnect p) = Unit {0}
AllNamed b f (Create p i) = Unit {0}
AllNamed b f (Destroy p i) = Unit {0}
AllNamed b f (Release p i) = Unit {0}
AllNamed b f (Transfer p i q) = Unit {0}
AllNamed b f (Send p z) = (length (nodes_of b p.0 (destinations f z)) ≡ z.nd) × (length (nodes_of b p.0 (attached f z)) ≡ z.nh)
AllNamed b f (Receive p room) = Unit {0}
AllNamed b f (Quota p u) = Unit {0}
AllNamed b f (Holders p i) = Unit {0}
AllNamed b f (ShowSeed p room) = Unit {0}

pub as_many : {N : ℕ} (name : ℕ → ℕ) (b : State) (k : Book) → Sim N name b k → (p : ℕ) (is : List ℕ) → All (λ i. slot b p i < nodes) is → length (nodes_of k p is) ≡ length is
as_many name b k w p is h = ap length (nodes-of-slots name b k w p is h) ∙ length-map (map (slot b p) is) (called name) ∙ length-map is (slot b p)

-- After the history xs: a refused command, or an accepted one.
pub data Exchange (xs : List Fed) (x : Fed) : Type 0 where
  refused : (x.number ≡ 0 → ⊥) → Exchange xs x
  accepted : (c : Command) → x.number ≡ 0 → parse x.frame ≡ Ok c → Legal x.frame c → Passed (ledger_of xs) x.frame c → AllNamed (book_of xs) x.frame c →
      Exchange xs x

-- Book and ledger after one more exchange; the ledger's book is the book.
pub ledger-more : (xs : List Fed) (x : Fed) → ledger_of (xs ++ (x ∷ [])) ≡ feed_ledger (ledger_of xs) x
ledger-more xs x = feed-ledger-append xs (x ∷ []) blank_ledger ∙ unfold feed_ledger_all in refl

pub book-in-ledger : (xs : List Fed) → (ledger_of xs).book ≡ book_of xs
unfolding blank_ledger
book-in-ledger xs = feed-book xs blank_ledger

pub tally-append : (xs ys : List Fed) → tally (xs ++ ys) ≡ tally xs + tally ys
tally-append [] ys = omega arith
tally-append (x ∷ xs) ys = go (is_counted x) (tally-append xs ys)
  where
    go : (t : Bool) → tally (xs ++ ys) ≡ tally xs + tally ys → pick t (suc (tally (xs ++ ys))) (tally (xs ++ ys)) ≡ pick t (suc (tally xs)) (tally xs) + tally ys
    go true e = omega (arith, e)
    go false e = e

-- An accepted command: what the ledger has then.
pub record Entered (xs : List Fed) (x : Fed) (c : Command) : Type 0 where
  pub read : parse x.frame ≡ Ok c
  pub legal : Legal x.frame c
  pub passes : Passed (ledger_of xs) x.frame c
  pub named : AllNamed (book_of xs) x.frame c
  pub after : ledger_of (xs ++ (x ∷ [])) ≡ with_book (enter (ledger_of xs) x.frame c) (feed (ledger_of xs).book x)

-- A command by its byte.
pub is-disconnect : (c : Command) → code c ≡ 2 → (p : Peer) × (c ≡ Disconnect p)
is-disconnect (Open p u) e = absurd (omega arith)
is-disconnect (Disconnect p) e = (p, refl)
is-disconnect (Create p i) e = absurd (omega arith)
is-disconnect (Destroy p i) e = absurd (omega arith)
is-disconnect (Release p i) e = absurd (omega arith)
is-disconnect (Transfer p i q) e = absurd (omega arith)
is-disconnect (Send p z) e = absurd (omega arith)
is-disconnect (Receive p room) e = absurd (omega arith)
is-disconnect (Quota p u) e = absurd (omega arith)
is-disconnect (Holders p i) e = absurd (omega arith)
is-disconnect (ShowSeed p room) e = absurd (omega arith)

pub is-create : (c : Command) → code c ≡ 3 → (p : Peer) × (i : HandleId) × (c ≡ Create p i)
is-create (Open p u) e = absurd (omega arith)
is-create (Disconnect p) e = absurd (omega arith)
is-create (Create p i) e = (p, i, refl)
is-create (Destroy p i) e = absurd (omega arith)
is-create (Release p i) e = absurd (omega arith)
is-create (Transfer p i q) e = absurd (omega arith)
is-create (Send p z) e = absurd (omega arith)
is-create (Receive p room) e = absurd (omega arith)
is-create (Quota p u) e = absurd (omega arith)
is-create (Holders p i) e = absurd (omega arith)
is-create (ShowSeed p room) e = absurd (omega arith)

pub is-destroy : (c : Command) → code c ≡ 4 → (p : Peer) × (i : HandleId) × (c ≡ Destroy p i)
is-destroy (Open p u) e = absurd (omega arith)
is-destroy (Disconnect p) e = absurd (omega arith)
is-destroy (Create p i) e = absurd (omega arith)
is-destroy (Destroy p i) e = (p, i, refl)
is-destroy (Release p i) e = absurd (omega arith)
is-destroy (Transfer p i q) e = absurd (omega arith)
is-destroy (Send p z) e = absurd (omega arith)
is-destroy (Receive p room) e = absurd (omega arith)
is-destroy (Quota p u) e = absurd (omega arith)
is-destroy (Holders p i) e = absurd (omega arith)
is-destroy (ShowSeed p room) e = absurd (omega arith)

pub is-release : (c : Command) → code c ≡ 5 → (p : Peer) × (i : HandleId) × (c ≡ Release p i)
is-release (Open p u) e = absurd (omega arith)
is-release (Disconnect p) e = absurd (omega arith)
is-release (Create p i) e = absurd (omega arith)
is-release (Destroy p i) e = absurd (omega arith)
is-release (Release p i) e = (p, i, refl)
is-release (Transfer p i q) e = absurd (omega arith)
is-release (Send p z) e = absurd (omega arith)
is-release (Receive p room) e = absurd (omega arith)
is-release (Quota p u) e = absurd (omega arith)
is-release (Holders p i) e = absurd (omega arith)
is-release (ShowSeed p room) e = absurd (omega arith)

pub is-send : (c : Command) → code c ≡ 7 → (p : Peer) × (z : Sizes) × (c ≡ Send p z)
is-send (Open p u) e = absurd (omega arith)
is-send (Disconnect p) e = absurd (omega arith)
is-send (Create p i) e = absurd (omega arith)
is-send (Destroy p i) e = absurd (omega arith)
is-send (Release p i) e = absurd (omega arith)
is-send (Transfer p i q) e = absurd (omega arith)
is-send (Send p z) e = (p, z, refl)
is-send (Receive p room) e = absurd (omega arith)
is-send (Quota p u) e = absurd (omega arith)
is-send (Holders p i) e = absurd (omega arith)
is-send (ShowSeed p room) e = absurd (omega arith)

pub is-show : (c : Command) → code c ≡ 12 → (p : Peer) × (room : ℕ) × (c ≡ ShowSeed p room)
is-show (Open p u) e = absurd (omega arith)
is-show (Disconnect p) e = absurd (omega arith)
is-show (Create p i) e = absurd (omega arith)
is-show (Destroy p i) e = absurd (omega arith)
is-show (Release p i) e = absurd (omega arith)
is-show (Transfer p i q) e = absurd (omega arith)
is-show (Send p z) e = absurd (omega arith)
is-show (Receive p room) e = absurd (omega arith)
is-show (Quota p u) e = absurd (omega arith)
is-show (Holders p i) e = absurd (omega arith)
is-show (ShowSeed p room) e = (p, room, refl)
