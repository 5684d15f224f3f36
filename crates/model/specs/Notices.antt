-- What holds of the handles, the queued messages and the notices of every bus that a run leaves. NoticesProof has the proof.
-- Assumes nothing.
use Rattle.std.specs.Prelude.{ℕ, ◌≤◌, ◌<◌, ◌≡◌, Bool, true, false, List, length, eqb}
use Rattle.laws.specs.Weights.{load, All}
use Rattle.frames.specs.Frame.{most_ids}
use Rattle.quota.specs.Charges.{users}
use Rattle.model.specs.Numbers.{peers, nodes, owner}
use Rattle.model.specs.State.{Status, Status.unopened, Status.opened, Life, Life.dead, is_live, Handle, held, count, Entry, Entry.message, Entry.destroyed, Entry.released, Seed, seed_carries, State, no_user, total, names, seeded}

-- How often a list has the slot s.
abbrev pub times : ℕ → List ℕ → ℕ
times s ss = load (λ t. eqb t s) (λ t. 1) ss

-- How many notices of a queue are for the node s.
abbrev pub notice_for : ℕ → Entry → Bool
notice_for s (message n m) = false
notice_for s (destroyed n t) = eqb t s
notice_for s (released n t) = eqb t s

abbrev pub notices_for : ℕ → List Entry → ℕ
notices_for s q = load (notice_for s) (λ e. 1) q

-- The slots that a message may carry: "0 to 8 attached handles".
abbrev pub Carried : List ℕ → Type 0
Carried ss = (length ss ≤ most_ids) × All (λ s. s < nodes) ss

-- An entry in the queue of the peer q.
-- A message: its destination is q's own node, and q holds it ("until the owner's handle is gone; then they are dropped").
-- A destroy notice: the command that queued it destroyed the node (that it is founded: Founded.antt).
-- A release notice: the node is q's own, it lives, and its sum of counts is 1 ("It is withdrawn if the sum rises or the node is destroyed").
abbrev pub Stands : (ℕ → ℕ → Handle) → (ℕ → Life) → ℕ → Entry → Type 0
Stands h l q (message n m) = (owner m.to ≡ q) × (held (h q m.to) ≡ true) × Carried m.carried
Stands h l q (destroyed n s) = (l s ≡ dead n) × (s < nodes)
Stands h l q (released n s) = (is_live (l s) ≡ true) × (owner s ≡ q) × (total h s ≡ 1)

-- Over the tables: statuses, users, handles, lives, queues, seeds.
pub record Tidy (st : ℕ → Status) (us : ℕ → ℕ) (h : ℕ → ℕ → Handle) (l : ℕ → Life) (qs : ℕ → List Entry) (sd : ℕ → Seed) : Type 0 where
  -- "Peers 0 to 7. Users 0 to 3. A peer belongs to one user".
  pub present : (p : ℕ) → (st p ≡ unopened → ⊥) → (p < peers) × (us p < users)
  pub absent : (p : ℕ) → st p ≡ unopened → us p ≡ no_user
  -- A handle is held by an open peer ("Disconnect: .. release all handles"), is to a slot, and its count is over 0 ("At 0 the handle is gone").
  pub holders : (p s : ℕ) → held (h p s) ≡ true → (st p ≡ opened) × (s < nodes) × (0 < count (h p s))
  -- A live node is held by its owner ("Creation gives the owner count 1 (the pinned one)").
  pub owned : (s : ℕ) → is_live (l s) ≡ true → held (h (owner s) s) ≡ true
  -- A seed carries at most 8 slots ("Same sizes as a send").
  pub seeds : (p : ℕ) → Carried (seed_carries (sd p))
  -- Every queued entry stands rightly.
  pub stands : (q : ℕ) → All (Stands h l q) (qs q)
  -- A peer has at most one notice for a node, of either kind.
  pub once : (q s : ℕ) → notices_for s (qs q) ≤ 1

-- Of a bus.
abbrev pub Noted : State → Type 0
Noted b = Tidy b.status b.user b.handle b.life b.queue b.seed

-- An entry names a slot: as a message's destination, as one that it carries, or as a notice's node.
abbrev pub mentions : ℕ → Entry → Bool
mentions s (message n m) = names s m
mentions s (destroyed n t) = eqb s t
mentions s (released n t) = eqb s t

-- Nothing names the slot s: its node does not live, no peer holds it, no queued entry and no seed names it ("after that its room is used again").
pub record Unnamed (b : State) (s : ℕ) : Type 0 where
  pub dead : is_live (b.life s) ≡ false
  pub unheld : (p : ℕ) → held (b.handle p s) ≡ false
  pub unqueued : (q : ℕ) → All (λ e. mentions s e ≡ false) (b.queue q)
  pub unseeded : seeded b.seed s ≡ false
