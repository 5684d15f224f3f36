-- Document 01, "Rules of nodes and handles": "IDs the bus gives are 4n + 3, n = 1, 2, 3 ... for each peer, never given twice." The statement, over the answers of a run.
-- Assumes nothing.
use Rattle.std.specs.Prelude.{ℕ, ◌%◌, ◌<◌, ◌≡◌, Bool, List, [], ◌∷◌, ◌++◌, get_or, eqb, ltb}
use Rattle.laws.specs.Tests.{pick}
use Rattle.laws.specs.Weights.{All}
use Rattle.laws.specs.Build.{build}
use Rattle.frames.specs.Frame.{opcode}
use Rattle.model.specs.Numbers.{nodes, invalid, next_id}
use Rattle.model.specs.Lists.{both, either}
use Rattle.model.specs.State.{State, start, slot}
use Rattle.model.specs.Step.{Call, Result, step, answer_of, run}
use Rattle.model.specs.Book.{answered_id, answers_message, shown_ids}
use Rattle.model.specs.Rising.{Sorted}

-- The IDs that the answer to a call shows to the peer p: a transfer's answer at its destination, and the attached IDs of a received message, or of a seed that is shown, at the acting peer.
abbrev pub transfer_to : ℕ → Call → Bool
transfer_to p c = both (eqb (opcode c.frame) 6) (eqb (get_or c.frame 10 0) p)

abbrev pub receive_by : ℕ → Call → Bool
receive_by p c = both (eqb (opcode c.frame) 8) (eqb (get_or c.frame 1 0) p)

abbrev pub seed_by : ℕ → Call → Bool
seed_by p c = both (eqb (opcode c.frame) 12) (eqb (get_or c.frame 1 0) p)

abbrev pub shown_to : ℕ → Call → Result → List ℕ
shown_to p c r =
    pick (eqb r.outcome.number 0)
    (pick (transfer_to p c) (answered_id (answer_of r) ∷ [])
    (pick (both (receive_by p c) (answers_message (answer_of r))) (shown_ids (answer_of r))
    (pick (seed_by p c) (shown_ids (answer_of r)) [])))
    []

-- The peer holds an ID: where it does not, a command that names it is refused with 6.
abbrev pub holds_id : State → ℕ → ℕ → Bool
holds_id b p i = ltb (slot b p i) nodes

-- Of the IDs shown, in order, the new ones: not the invalid one, not one that the peer held before, not one shown before it.
abbrev pub new_of : (ℕ → Bool) → List ℕ → List ℕ
new_of known [] = []
new_of known (i ∷ is) = pick (either (eqb i invalid) (known i)) [] (i ∷ []) ++ new_of (λ j. either (eqb i j) (known j)) is

-- All IDs given to p in a run, in order.
unfoldable pub given_from : State → ℕ → List Call → List ℕ
given_from b p [] = []
given_from b p (c ∷ cs) = let r = step b c in new_of (holds_id b p) (shown_to p c r) ++ given_from r.state p cs

-- They are 7, 11, 15, ..: so each is over the one before it, none is given twice, also where a handle went and came back,
-- and none is an ID that a peer may choose, nor the invalid one.
pub record GivenOnce (is : List ℕ) (n : ℕ) : Type 0 where
  pub exactly : is ≡ build next_id n
  pub rising : Sorted (λ i. i) is
  pub apart : All (λ i. (i % 4 ≡ 3) × (i < invalid)) is

-- For every list of calls from a fresh bus.
abbrev pub Given : Type 0
Given = (cs : List Call) (p : ℕ) → GivenOnce (given_from start p cs) ((run cs).given p)
