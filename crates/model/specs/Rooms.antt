-- How long the queues of every bus are that a run leaves. RoomsProof has the proof.
-- Assumes nothing.
use Rattle.std.specs.Prelude.{ℕ, ◌+◌, Bool, true, false, List}
use Rattle.laws.specs.Weights.{load}
use Rattle.model.specs.Numbers.{nodes}
use Rattle.model.specs.State.{Entry, Entry.message, Entry.destroyed, Entry.released}

-- The notices of a queue.
abbrev pub is_notice : Entry → Bool
is_notice (message n m) = false
is_notice (destroyed n s) = true
is_notice (released n s) = true

abbrev pub notices : List Entry → ℕ
notices q = load is_notice (λ e. 1) q

-- What quota leaves to the four users at a peer: 32, 16, 8 and 4 messages. With a notice for each node, the longest queue: 188 entries.
abbrev pub most_messages : ℕ
most_messages = 60

abbrev pub most_entries : ℕ
most_entries = most_messages + nodes
