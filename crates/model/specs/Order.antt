-- Document 01, "Rules of order and quota": "Each queue is in the order of accepted commands." The statement.
-- Assumes nothing.
use Rattle.std.specs.Prelude.{ℕ, ◌≤◌, List, [], ◌∷◌}
use Rattle.laws.specs.Weights.{All}
use Rattle.model.specs.State.{Entry}
use Rattle.model.specs.Step.{Call, run}
use Rattle.model.specs.Queues.{stamp}

-- Along a queue the numbers of the accepted commands that queued its entries never fall.
abbrev pub InOrder : List Entry → Type 0
InOrder [] = Unit {0}
InOrder (e ∷ q) = All (λ d. stamp e ≤ stamp d) q × InOrder q

-- They are numbers of commands that were accepted so far.
pub record Ordered (n : ℕ) (q : List Entry) : Type 0 where
  pub in_order : InOrder q
  pub numbered : All (λ e. stamp e ≤ n) q

-- For every list of calls from a fresh bus, every queue.
abbrev pub Order : Type 0
Order = (cs : List Call) (p : ℕ) → Ordered (run cs).accepted ((run cs).queue p)
