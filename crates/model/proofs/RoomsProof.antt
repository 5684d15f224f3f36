-- The theorems that go with specs/RoomsProof.antt and stand on others: each goes by the definitions and the theorems there.
-- Assumes nothing.
use Rattle.std.specs.Prelude.{ℕ, ◌≤◌, List, length}
use Rattle.model.specs.State.{messages_in}
use Rattle.model.specs.Step.{Call, run}
use Rattle.model.proofs.NoticesProof.{noted}
use Rattle.model.proofs.ChargedBounds.{at-most-60-messages}
use Rattle.model.specs.Rooms.{most_messages, most_entries}
use Rattle.model.specs.RoomsProof.{queue-few}

-- Every run.
pub queue-bound : (cs : List Call) (q : ℕ) → length (messages_in ((run cs).queue q)) ≤ most_messages → length ((run cs).queue q) ≤ most_entries
queue-bound cs q l = queue-few (run cs) q (noted cs) l

-- At most 188 entries stand in a queue of a run: 60 messages, and a notice for each node.
pub at-most-188-entries : (cs : List Call) (q : ℕ) → length ((run cs).queue q) ≤ 188
at-most-188-entries cs q = queue-bound cs q (at-most-60-messages cs q)
