-- The relation of a book to the bus that it was fed by. Each slot has a name, the number under which the book entered the node that sits there last; a slot whose
-- node was never entered has a name from N on, where N is more than the book will enter.
-- Assumes nothing.
use Rattle.std.specs.Prelude.{ℕ, ◌+◌, ◌<◌, ◌≡◌, map, length}
use Rattle.laws.specs.Weights.{load}
use Rattle.model.specs.Numbers.{peers, nodes, owner}
use Rattle.model.specs.Resources.{Resource}
use Rattle.model.specs.State.{Handle, Handle.some, Message, messages_in, seed_carries, State}
use Rattle.model.specs.Book.{Node, Noted, Noted.noted, BookMessage, Book, weight, by}

-- The book's node of a slot.
abbrev pub called : (ℕ → ℕ) → ℕ → Node
called name s = record { owner = owner s; number = name s }

-- A message in the book's words.
abbrev pub told : (ℕ → ℕ) → Message → BookMessage
told name m = record { user = m.user; to = called name m.to; nb = length m.payload; nh = length m.carried; carried = map (called name) m.carried }

-- The handles of a peer: by slot on the bus, by ID in the book.
pub record Handles (name : ℕ → ℕ) (h : ℕ → Handle) (g : ℕ → Noted) : Type 0 where
  pub noted-at : (s i c : ℕ) → h s ≡ some i c → g i ≡ noted (called name s) c
  pub held_at : (i : ℕ) (n : Node) (c : ℕ) → g i ≡ noted n c → (s : ℕ) × (s < nodes) × (h s ≡ some i c) × (n ≡ called name s)

pub record Sim (N : ℕ) (name : ℕ → ℕ) (b : State) (k : Book) : Type 0 where
  -- no two slots have one name, and a name below N is a number that the book has entered
  pub apart : (s t : ℕ) → name s ≡ name t → s ≡ t
  pub known : (s : ℕ) → name s < N → name s < k.entered
  pub users : (p : ℕ) → k.user p ≡ b.user p
  pub handles : (p : ℕ) → Handles name (b.handle p) (k.handle p)
  pub queues : (p : ℕ) → k.queue p ≡ map (told name) (messages_in (b.queue p))
  -- the nodes of a peer's seed
  pub seeds : (p : ℕ) → p < peers → k.seed p ≡ map (called name) (seed_carries (b.seed p))
  -- sent is received, dropped and what the book has queued
  pub sums : (p u : ℕ) (r : Resource) → k.sent p u r ≡ k.received p u r + k.dropped p u r + load (by u) (weight r) (k.queue p)
