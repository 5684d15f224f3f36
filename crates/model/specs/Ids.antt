-- Document 01, "Rules of nodes and handles": what holds of IDs, handles and counts on every bus that a run leaves. The statement.
-- "Owner IDs are chosen, bits 0 and 1 clear .. IDs the bus gives are 4n + 3, n = 1, 2, 3 ... for each peer, never given twice."
-- "A peer has at most one handle to a node, with a count." "At 0 the handle is gone".
-- Assumes nothing.
use Rattle.std.specs.Prelude.{ℕ, ◌%◌, ◌<◌, ◌≡◌, List}
use Rattle.model.specs.Numbers.{nodes, owner, next_id}
use Rattle.model.specs.State.{Handle, Handle.some, State}
use Rattle.model.specs.Step.{Call, run}

-- The handles h of the peer p, to which g IDs were given.
pub record Handles (p g : ℕ) (h : ℕ → Handle) : Type 0 where
  -- every handle is to a slot of some peer, and its count is over 0
  pub within : (s i c : ℕ) → h s ≡ some i c → s < nodes
  pub counted : (s i c : ℕ) → h s ≡ some i c → 0 < c
  -- two handles have two IDs
  pub distinct : (s t i c d : ℕ) → h s ≡ some i c → h t ≡ some i d → s ≡ t
  -- the ID of the owner's handle was chosen, every other one was given: one of 7, 11, 15, .., the first g of them
  pub chosen : (s i c : ℕ) → h s ≡ some i c → owner s ≡ p → i % 4 ≡ 0
  pub given : (s i c : ℕ) → h s ≡ some i c → (owner s ≡ p → ⊥) → (n : ℕ) × (n < g) × (i ≡ next_id n)

-- Of every peer.
abbrev pub Ids : State → Type 0
Ids b = (p : ℕ) → Handles p (b.given p) (b.handle p)

-- For every list of calls from a fresh bus.
abbrev pub SoundIds : Type 0
SoundIds = (cs : List Call) → Ids (run cs)
