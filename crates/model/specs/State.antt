-- Document 01, "What sits on the bus": the state of the bus as one record of tables over small numbers (peer, slot), with what can be read of it.
-- Assumes nothing.
use Rattle.std.specs.Prelude.{ℕ, zero, suc, ◌+◌, ◌*◌, Bool, true, false, not, List, [], ◌∷◌, map, eqb, ltb}
use Rattle.laws.specs.Sums.{sum_to}
use Rattle.laws.specs.Search.{first}
use Rattle.quota.specs.declared.Charges.{Charges}
use Rattle.quota.specs.Charges.{users, fresh_charges}
use Rattle.model.specs.Numbers.{peers, slots, nodes, owner}
use Rattle.model.specs.Lists.{both, either, any, any_below, rising}

-- A peer was never opened, is open, or has disconnected.
pub data Status : Type 0 where
  unopened : Status
  opened : Status
  disconnected : Status

-- A node lives, or was destroyed by the accepted command of this number (0: it was never made).
pub data Life : Type 0 where
  live : Life
  dead : ℕ → Life

-- The node was not yet destroyed when the command n was accepted: "invalid only if the destruction came before the message".
abbrev pub lived_at : ℕ → Life → Bool
lived_at n live = true
lived_at n (dead k) = ltb n k

abbrev pub is_live : Life → Bool
is_live live = true
is_live (dead n) = false

-- "A peer has at most one handle to a node, with a count": the ID and the count, which is over 0.
pub data Handle : Type 0 where
  none : Handle
  some : ℕ → ℕ → Handle

-- "At 0 the handle is gone".
abbrev pub handle_of : ℕ → ℕ → Handle
handle_of i zero = none
handle_of i (suc c) = some i (suc c)

abbrev pub held : Handle → Bool
held none = false
held (some i c) = true

abbrev pub count : Handle → ℕ
count none = 0
count (some i c) = c

-- The ID of a handle, or d where there is none.
abbrev pub id_or : ℕ → Handle → ℕ
id_or d none = d
id_or d (some i c) = i

abbrev pub has_id : ℕ → Handle → Bool
has_id i none = false
has_id i (some j c) = eqb j i

-- A queued message: its destination's slot, its sender's user, its payload bytes, the slots of its attached handles.
pub record Message : Type 0 where
  pub to : ℕ
  pub user : ℕ
  pub payload : List ℕ
  pub carried : List ℕ

-- What stands in a queue, each with the number of the accepted command that queued it: a message, the notice that a node was destroyed, or that it was released.
pub data Entry : Type 0 where
  message : ℕ → Message → Entry
  destroyed : ℕ → ℕ → Entry
  released : ℕ → ℕ → Entry

-- The messages of a queue, its notices left out.
abbrev pub messages_in : List Entry → List Message
messages_in [] = []
messages_in (message n m ∷ q) = m ∷ messages_in q
messages_in (destroyed n s ∷ q) = messages_in q
messages_in (released n s ∷ q) = messages_in q

-- "an earlier queued message that carries the node": one that was queued before the command n.
abbrev pub earlier : ℕ → ℕ → Entry → Bool
earlier n s (message k m) = both (ltb k n) (any (eqb s) m.carried)
earlier n s (destroyed k t) = false
earlier n s (released k t) = false

-- A peer with the handles h and the queue q is told that the command n destroyed the node s: it holds a handle, or an earlier message carries the node.
abbrev pub concerned : (ℕ → Handle) → List Entry → ℕ → ℕ → Bool
concerned h q n s = either (held (h s)) (any (earlier n s) q)

-- A peer's seed (02 No. 1): none was set, or its payload bytes and the slots of its attached handles.
pub data Seed : Type 0 where
  unset : Seed
  kept : List ℕ → List ℕ → Seed

abbrev pub seed_carries : Seed → List ℕ
seed_carries unset = []
seed_carries (kept payload carried) = carried

-- Of each peer its status, its user, how many IDs the bus has given it, its handle to each slot, its queue, oldest first, the users' charges, and its seed;
-- of each slot whether its node lives; and how many commands were accepted.
pub record State : Type 0 where
  pub status : ℕ → Status
  pub user : ℕ → ℕ
  pub given : ℕ → ℕ
  pub handle : ℕ → ℕ → Handle
  pub queue : ℕ → List Entry
  pub charges : ℕ → Charges
  pub seed : ℕ → Seed
  pub life : ℕ → Life
  pub accepted : ℕ

-- The number of no user: that of a peer never opened.
abbrev pub no_user : ℕ
no_user = users

-- A fresh bus, no peer opened.
unfoldable pub start : State
start =
    record {
      status = λ p. unopened;
      user = λ p. no_user;
      given = λ p. 0;
      handle = λ p s. none;
      queue = λ p. [];
      charges = λ p. fresh_charges;
      seed = λ p. unset;
      life = λ s. dead 0;
      accepted = 0;
    }

-- The slot of an ID at a peer; nodes where the peer does not hold it.
unfoldable pub slot_of : (ℕ → Handle) → ℕ → ℕ
slot_of h i = first (λ s. has_id i (h s)) nodes

abbrev pub slot : State → ℕ → ℕ → ℕ
slot b p i = slot_of (b.handle p) i

-- The owner's ID of a node.
abbrev pub owner_id : (ℕ → ℕ → Handle) → ℕ → ℕ
owner_id h s = id_or 0 (h (owner s) s)

-- "the sum of counts over all peers".
unfoldable pub total : (ℕ → ℕ → Handle) → ℕ → ℕ
total h s = sum_to (λ q. count (h q s)) peers

-- "any peer holds a handle to it".
unfoldable pub held_by_any : (ℕ → ℕ → Handle) → ℕ → Bool
held_by_any h s = any_below (λ q. held (h q s)) peers

-- "a queued message names it", as destination or attached.
abbrev pub names : ℕ → Message → Bool
names s m = either (eqb s m.to) (any (eqb s) m.carried)

unfoldable pub named : (ℕ → List Entry) → ℕ → Bool
named queue s = any_below (λ q. any (names s) (messages_in (queue q))) peers

-- "A node named by a seed counts against its owner as if by a queued message".
unfoldable pub seeded : (ℕ → Seed) → ℕ → Bool
seeded seed s = any_below (λ q. any (eqb s) (seed_carries (seed q))) peers

-- "A node counts against its owner while it lives, while any peer holds a handle to it, or while a queued message names it; after that its room is used again."
unfoldable pub counts : State → ℕ → Bool
counts b s = either (is_live (b.life s)) (either (held_by_any b.handle s) (either (named b.queue s) (seeded b.seed s)))

-- The first place among the peer's 16 whose node does not count; slots where there is none.
unfoldable pub free_place : State → ℕ → ℕ
free_place b p = first (λ k. not (counts b (p * slots + k))) slots

-- The slots of the owner p that pass a test, "by ascending owner ID".
unfoldable pub by_owner_id : (ℕ → ℕ → Handle) → ℕ → (ℕ → Bool) → List ℕ
by_owner_id h p t = map (λ k. p * slots + k) (rising (λ k. t (p * slots + k)) (λ k. owner_id h (p * slots + k)) slots slots)
