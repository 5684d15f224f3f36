-- An ID stands for one node. Of the book alone, which never reuses a node: whatever was destroyed, released, created or disconnected in between, an ID of a peer that names a node now
-- and names a node later names the same one, unless that peer itself created a node under it in between; and the IDs that the bus gives (4n + 3) can be created by nobody.
-- Assumes nothing.
use Rattle.std.specs.Prelude.{ℕ, zero, suc, ◌+◌, ◌-◌, ◌*◌, ◌%◌, ◌≤◌, ◌<◌, ◌≡◌, refl, ◌⊎◌, List, ◌++◌, eqb}
use Rattle.std.proofs.Common.{sym, ap}
use Rattle.std.proofs.Math.Logic.◌⊎◌.{inl, inr}
use native.Mathlib.Omega.{arith}
use Rattle.laws.specs.Tests.{pick, pick_all, Same, Same.same, Same.other, same?}
use Rattle.laws.specs.Tables.{upd, upd_same, upd_other, upd-all}
use Rattle.laws.specs.Weights.{All}
use Rattle.frames.specs.Frame.{opcode, id_at}
use Rattle.model.specs.Numbers.{next_id}
use Rattle.model.specs.State.{Handle, Handle.none, Handle.some, handle_of, id_or, State}
use Rattle.model.specs.Tables.{with_status, with_handle, with_handles, with_queues, with_charges, with_lives}
use Rattle.model.specs.Changes.{push_all, take_out, withdraw, given_after, forget, notify, notify_all, destroy_all}
use Rattle.model.specs.Effects.{destroys, releases, releases_handle, disconnects}
use Rattle.model.specs.Step.{Call, run}
use Rattle.model.specs.Book.{Node, Noted, Noted.blank, Noted.noted, Book, Fed, acting_peer}
use Rattle.model.specs.Claim.{history_from, book_after}
use Rattle.model.specs.SimHandles.{some-none}
use Rattle.model.specs.SimIds.{Still, still-notify, still-forget}

-- An accepted create of p under the ID i.
pub record Creates (p i : ℕ) (x : Fed) : Type 0 where
  pub number : x.number ≡ 0
  pub byte : opcode x.frame ≡ 3
  pub peer : acting_peer x.frame ≡ p
  pub id : (id_at x.frame 2).0 ≡ i

-- For every list of calls, wherever it is cut.
abbrev pub OneNode : Type 0
OneNode =
    (before after : List Call) (p i : ℕ) (n m : Node) (c d : ℕ) →
    (book_after before).handle p i ≡ noted n c → (book_after (before ++ after)).handle p i ≡ noted m d →
    All (λ x. Creates p i x → ⊥) (history_from (run before) after) → n ≡ m

-- "IDs the bus gives are 4n + 3".
abbrev pub GivenOneNode : Type 0
GivenOneNode =
    (before after : List Call) (p i : ℕ) (n m : Node) (c d : ℕ) → i % 4 ≡ 3 →
    (book_after before).handle p i ≡ noted n c → (book_after (before ++ after)).handle p i ≡ noted m d → n ≡ m

-- An ID that the peer q of the bus b has at the slot u, or that the bus had not given it yet.
abbrev pub Old : State → ℕ → ℕ → ℕ → Type 0
Old b q u i = ((c : ℕ) × (b.handle q u ≡ some i c)) ⊎ ((j : ℕ) × (i ≡ 4 * j + 3) × (b.given q < j))

-- The handles h of q, to which n IDs have been given, come from b: no handle has moved to another slot.
abbrev pub From : State → ℕ → (ℕ → Handle) → ℕ → Type 0
From b q h n = (b.given q ≤ n) × ((u i d : ℕ) → h u ≡ some i d → Old b q u i)

abbrev pub Grown : State → State → Type 0
Grown b a = (q : ℕ) → From b q (a.handle q) (a.given q)

pub grown-same : (b : State) → Grown b b
grown-same b q = (omega arith, λ u i d e. inl (d, e))

grown-still : (b x a : State) → Still x a → Grown b x → Grown b a
grown-still b x a s g = rw (s.0, s.1) g

pub from-set : (b : State) (q : ℕ) (h : ℕ → Handle) (n m s i c : ℕ) → From b q h n → n ≤ m → Old b q s i → From b q (upd h s (handle_of i c)) m
from-set b q h n m s i c g l old = (omega (arith, g.0), λ u j d e. go (same? s u) c e)
  where
    go : {u j d : ℕ} → Same s u → (c : ℕ) → upd h s (handle_of i c) u ≡ some j d → Old b q u j
    go (same z) zero f = some-none (sym (rw (← z, upd_same) at f))
    go {j = j} {d = d} (same z) (suc c) f =
        let x : some i (suc c) ≡ some j d = rw (← z, upd_same) at f in
        let y : i ≡ j = cc x in
        rw (← z, ← y) old
    go {u = u} {j = j} {d = d} (other z) c f = g.1 u j d (rw (upd_other h s u (handle_of i c) z) at f)

pub given-le : (x : Handle) (n : ℕ) → n ≤ given_after x n
given-le none n = omega arith
given-le (some i c) n = omega arith

pub given-old : (b : State) (p s : ℕ) (h : ℕ → Handle) (n : ℕ) → From b p h n → Old b p s (id_or (next_id n) (h s))
given-old b p s h n g = go (h s) refl
  where
    go : (x : Handle) → h s ≡ x → Old b p s (id_or (next_id n) x)
    go none e = inr (n + 1, omega arith, omega (arith, g.0))
    go (some i c) e = g.1 s i c e

pub grown-release : (b a : State) (p s : ℕ) (x : Handle) → a.handle p s ≡ x → Grown b a → Grown b (releases_handle a p s x)
unfolding releases with_handles
grown-release b a p s none e g = g
grown-release b a p s (some i c) e g =
    let less = with_handle a p s (handle_of i (c - 1)) in
    let put : Grown b less = upd-all (λ q h. From b q h (a.given q)) a.handle p _ g (from-set b p (a.handle p) (a.given p) (a.given p) s i (c - 1) (g p) (omega arith) ((g p).1 s i c e)) in
    let y = pick (eqb c 1) (forget less p s) less in
    grown-still b y (notify a y s) (still-notify a y s) (pick_all (Grown b) (eqb c 1) (forget less p s) less (grown-still b less (forget less p s) (still-forget less p s) put) put)

pub grown-disconnect : (b a : State) (p : ℕ) → Grown b a → Grown b (disconnects a p)
unfolding disconnects notify_all destroy_all take_out push_all withdraw with_status with_handles with_lives with_queues with_charges
grown-disconnect b a p g = upd-all (λ q h. From b q h (a.given q)) a.handle p _ g ((g p).0, λ u i d e. some-none (sym e))

pub grown-destroy : (b a : State) (p s : ℕ) → Grown b a → Grown b (destroys a p s)
unfolding destroys destroy_all withdraw push_all with_lives with_queues
grown-destroy b a p s g = g

abbrev pub Named : State → Book → ℕ → ℕ → Node → Type 0
Named b k p i m = ((c : ℕ) × (k.handle p i ≡ noted m c)) ⊎ ((j : ℕ) × (i ≡ 4 * j + 3) × (b.given p < j))

pub noted-node : (n m : Node) (c d : ℕ) → noted n c ≡ noted m d → n ≡ m
noted-node n m c d e = ap node_or e
  where
    node_or : Noted → Node
    node_or blank = n
    node_or (noted x y) = x
