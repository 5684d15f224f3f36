-- Document 02, No. 3: the search for the entry of an ID, on every bus of a run. It finds the slot at which the peer holds the ID, or none; its answer depends on the records at
-- a list of at most 16 places and on nothing else. That the code reads at most 16 is in the contract of `tables::seek`.
-- Assumes nothing.
use Rattle.std.specs.Prelude.{ℕ, ◌≤◌, ◌≡◌, List, length}
use Rattle.laws.specs.Weights.{All}
use Rattle.tables.specs.Handles.{lookup, find_at}
use Rattle.tables.specs.Probes.{probes, Agree}
use Rattle.model.specs.State.{State, slot}
use Rattle.view.specs.View.{Bus}

pub record Search (b : Bus) (st : State) (p i : ℕ) : Type 0 where
  pub right : find_at b.handles p i ≡ slot st p i
  pub few : length (probes b.handles p i) ≤ 16
  pub alone : (h : List ℕ) → All (Agree h b.handles) (probes b.handles p i) → lookup h p i ≡ lookup b.handles p i
