-- How large the numbers of every bus are that a run leaves. BoundsProof has the proof.
-- Assumes nothing.
use Rattle.std.specs.Prelude.{ℕ, ◌*◌, ◌≤◌}
use Rattle.frames.specs.Frame.{most_ids}
use Rattle.model.specs.Numbers.{most_commands}
use Rattle.model.specs.State.{State, total}

-- No number grows past 64 bits: an accepted command raises a node's sum of counts, and a peer's given IDs, by at most the 8 handles of a message,
-- and "2^40 - 1 commands" are accepted at most.
pub record Bounded (b : State) : Type 0 where
  pub few : b.accepted ≤ most_commands
  pub sums : (s : ℕ) → total b.handle s ≤ most_ids * b.accepted
  pub given : (p : ℕ) → b.given p ≤ most_ids * b.accepted
