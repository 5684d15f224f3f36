-- Document 01, "Rules of nodes and handles" and "Rules of order and quota": what an accepted destroy, release, send or disconnect does to the queues, of histories alone.
-- The statements: l is the ledger before the exchange, k the ledger after it, b the book before it; number is the command's own number, the next one.
-- Assumes nothing.
use Rattle.std.specs.Prelude.{ℕ, suc, ◌-◌, ◌<◌, ◌≡◌, true, false, List, [], ◌∷◌, ◌++◌, map, length, eqb}
use Rattle.laws.specs.Tests.{pick}
use Rattle.laws.specs.Tables.{upd}
use Rattle.laws.specs.Weights.{keep, All}
use Rattle.frames.specs.Frame.{opcode, id_at, payload_of}
use Rattle.model.specs.Numbers.{peers}
use Rattle.model.specs.Lists.{any}
use Rattle.model.specs.State.{Handle.none, handle_of, held, id_or, total}
use Rattle.model.specs.Requests.{destinations, attached}
use Rattle.model.specs.Book.{Node, Noted.noted, Book, owned_by, nodes_of, Fed, acting_peer, sizes_of}
use Rattle.model.specs.Rising.{Sorted}
use Rattle.model.specs.Ledger.{Item.destroyed, Item.released, Ledger, no_release, brings, is_told, outlasts, cleared, letters, LedgerSeed.unset, LedgerSeed.kept}
use Rattle.model.specs.Tally.{tally}
use Rattle.model.specs.Rows.{book_of, ledger_of}
use Rattle.model.specs.Happened.{Happened}

-- An accepted command of p with this command byte; and its ID, of destroy and release.
pub record Does (op p : ℕ) (x : Fed) : Type 0 where
  pub number : x.number ≡ 0
  pub byte : opcode x.frame ≡ op
  pub peer : acting_peer x.frame ≡ p

abbrev pub id_in : Fed → ℕ
id_in x = (id_at x.frame 2).0

-- Destroy by p under the ID i.
pub record DestroyDoes (b : Book) (l k : Ledger) (number p i : ℕ) : Type 0 where
  -- the ID names a node of p that lives
  pub node : Node
  pub count : ℕ
  pub named : b.handle p i ≡ noted node count
  pub own : node.owner ≡ p
  pub lived : l.lives node.number ≡ true
  -- it is destroyed, by this command, and no other one
  pub dead : k.lives node.number ≡ false
  pub date : k.died node.number ≡ number
  pub others : (m : ℕ) → (node.number ≡ m → ⊥) → k.lives m ≡ l.lives m
  -- ".. and leaves counts alone"
  pub handles : k.handle ≡ l.handle
  -- "Destroy queues a notice at every holder, owner included": one, behind what waits there; the node's release notice "is withdrawn if .. the node is destroyed"
  pub at-owner : k.queue p ≡ keep (no_release node) (l.queue p) ++ (destroyed number node ∷ [])
  pub at-holder : (q : ℕ) → (p ≡ q → ⊥) → held (l.handle q node.number) ≡ true → k.queue q ≡ l.queue q ++ (destroyed number node ∷ [])
  -- 02 No. 2: "a destruction also queues a notice at each peer with an earlier queued message that carries the node"
  pub at-carrier : (q : ℕ) → (p ≡ q → ⊥) → q < peers → any (brings number node.number) (l.queue q) ≡ true → k.queue q ≡ l.queue q ++ (destroyed number node ∷ [])
  -- and none elsewhere
  pub elsewhere : (q : ℕ) → (p ≡ q → ⊥) → held (l.handle q node.number) ≡ false → any (brings number node.number) (l.queue q) ≡ false → k.queue q ≡ l.queue q
  -- no seed changes
  pub seeds : k.seed ≡ l.seed

abbrev pub DestroyIn : Type 0
DestroyIn =
    (xs : List Fed) (x : Fed) → Happened (xs ++ (x ∷ [])) → (p : ℕ) → Does 4 p x →
    DestroyDoes (book_of xs) (ledger_of xs) (ledger_of (xs ++ (x ∷ []))) (suc (tally xs)) p (id_in x)

-- Release by p under the ID i.
pub record ReleaseDoes (b : Book) (l k : Ledger) (number p i : ℕ) : Type 0 where
  pub node : Node
  pub count : ℕ
  pub named : b.handle p i ≡ noted node count
  pub counted : 0 < count
  -- "the count falls by 1. At 0 the handle goes"; no other one changes, and no node dies
  pub less : k.handle p node.number ≡ handle_of i (count - 1)
  pub others : (q m : ℕ) → (p ≡ q → node.number ≡ m → ⊥) → k.handle q m ≡ l.handle q m
  pub lives : k.lives ≡ l.lives
  -- "When the sum of counts over all peers falls to 1 from above on a live node, a release notice is queued at the owner."
  pub fell : l.lives node.number ≡ true → 1 < total l.handle node.number → total k.handle node.number ≡ 1 →
      k.queue node.owner ≡ l.queue node.owner ++ (released number node ∷ [])
  -- "Queued messages for the node are still delivered, until the owner's handle is gone; then they are dropped."; then each destroy notice is withdrawn of which "the peer holds no handle and
  -- no earlier message carrying the node is left" (02 No. 2)
  pub gone : count ≡ 1 → k.queue p ≡ cleared (k.handle p) (keep (outlasts p node) (l.queue p))
  -- every other queue is as it was
  pub elsewhere : (q : ℕ) → (p ≡ q → count ≡ 1 → ⊥) →
      (node.owner ≡ q → l.lives node.number ≡ true → 1 < total l.handle node.number → total k.handle node.number ≡ 1 → ⊥) → k.queue q ≡ l.queue q
  pub seeds : k.seed ≡ l.seed

abbrev pub ReleaseIn : Type 0
ReleaseIn =
    (xs : List Fed) (x : Fed) → Happened (xs ++ (x ∷ [])) → (p : ℕ) → Does 5 p x →
    ReleaseDoes (book_of xs) (ledger_of xs) (ledger_of (xs ++ (x ∷ []))) (suc (tally xs)) p (id_in x)

-- Send by p, of the frame f.
abbrev pub destination_nodes : Book → ℕ → List ℕ → List Node
destination_nodes b p f = nodes_of b p (destinations f (sizes_of f))

abbrev pub attached_nodes : Book → ℕ → List ℕ → List Node
attached_nodes b p f = nodes_of b p (attached f (sizes_of f))

pub record SendDoes (b : Book) (l k : Ledger) (number p : ℕ) (f : List ℕ) : Type 0 where
  -- each destination ID names a node, and each attached one; the destinations' nodes live
  pub to-each : length (destination_nodes b p f) ≡ (sizes_of f).nd
  pub each-attached : length (attached_nodes b p f) ≡ (sizes_of f).nh
  pub living : All (λ (n : Node). l.lives n.number ≡ true) (destination_nodes b p f)
  -- "messages by destination place", each at its node's owner; "Each destination entry makes its own message, also when two name one peer."
  pub queue : (q : ℕ) → k.queue q ≡ l.queue q ++ letters number (b.user p) (payload_of f) (attached_nodes b p f) (keep (owned_by q) (destination_nodes b p f))
  pub handles : k.handle ≡ l.handle
  pub lives : k.lives ≡ l.lives
  -- 02 No. 1: "a send with no destinations that replaces the peer's own seed"; any other leaves all seeds
  pub seeds : k.seed ≡ pick (eqb (sizes_of f).nd 0) (upd l.seed p (kept (payload_of f) (attached_nodes b p f))) l.seed

abbrev pub SendIn : Type 0
SendIn =
    (xs : List Fed) (x : Fed) → Happened (xs ++ (x ∷ [])) → (p : ℕ) → Does 7 p x →
    SendDoes (book_of xs) (ledger_of xs) (ledger_of (xs ++ (x ∷ []))) (suc (tally xs)) p x.frame

-- Disconnect of p. Exactly the nodes of which P holds, by ascending ID, so none of them twice.
pub record ByIdOf (id : ℕ → ℕ) (P : ℕ → Type 0) (ns : List ℕ) : Type 0 where
  pub ascending : Sorted id ns
  pub sound : All P ns
  pub complete : (n : ℕ) → P n → any (eqb n) ns ≡ true

-- At another peer q: notices of the nodes of p that lived and that q holds, or that an earlier message carries to q (02 No. 2); then of the nodes of q, still alive, of which the sum fell to 1.
abbrev pub DestroyedAt : Ledger → ℕ → ℕ → ℕ → ℕ → Type 0
DestroyedAt l number p q n = (l.maker n ≡ p) × (l.lives n ≡ true) × (is_told (l.handle q) (l.queue q) number n ≡ true)

abbrev pub ReleasedAt : Ledger → Ledger → ℕ → ℕ → Type 0
ReleasedAt l k q n = (l.maker n ≡ q) × (k.lives n ≡ true) × (1 < total l.handle n) × (total k.handle n ≡ 1)

-- "destroy notices by ascending owner ID; then release notices by ascending owner ID", behind what waits there.
pub record NoticesAt (l k : Ledger) (number p q : ℕ) : Type 0 where
  pub destroyed-nodes : List ℕ
  pub released-nodes : List ℕ
  pub queue : k.queue q ≡
      l.queue q
      ++ (map (λ n. destroyed number (record { owner = p; number = n })) destroyed-nodes ++ map (λ n. released number (record { owner = q; number = n })) released-nodes)
  pub destroyed-by-id : ByIdOf (λ n. id_or 0 (l.handle p n)) (DestroyedAt l number p q) destroyed-nodes
  pub released-by-id : ByIdOf (λ n. id_or 0 (l.handle q n)) (ReleasedAt l k q) released-nodes

pub record DisconnectDoes (l k : Ledger) (number p : ℕ) : Type 0 where
  -- "Disconnect: drop the queue, destroy live nodes, release all handles."
  pub own : k.queue p ≡ []
  pub dead : (n : ℕ) → l.maker n ≡ p → k.lives n ≡ false
  pub date : (n : ℕ) → l.maker n ≡ p → l.lives n ≡ true → k.died n ≡ number
  pub others-live : (n : ℕ) → (l.maker n ≡ p → ⊥) → k.lives n ≡ l.lives n
  pub handles : (n : ℕ) → k.handle p n ≡ none
  -- 02 No. 1: "disconnect drops the seed", and no other
  pub seeds : k.seed ≡ upd l.seed p unset
  pub others : (q : ℕ) → (p ≡ q → ⊥) → k.handle q ≡ l.handle q
  pub at_others : (q : ℕ) → q < peers → (p ≡ q → ⊥) → NoticesAt l k number p q

abbrev pub DisconnectIn : Type 0
DisconnectIn =
    (xs : List Fed) (x : Fed) → Happened (xs ++ (x ∷ [])) → (p : ℕ) → Does 2 p x → DisconnectDoes (ledger_of xs) (ledger_of (xs ++ (x ∷ []))) (suc (tally xs)) p
