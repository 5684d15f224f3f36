-- Document 01, "Rules of nodes and handles": "IDs the bus gives are 4n + 3, n = 1, 2, 3 ... for each peer, never given twice." Of histories alone: the IDs are those that the answers show,
-- and the book says which of them a peer had before.
-- Assumes nothing.
use Rattle.std.specs.Prelude.{ℕ, get_or, eqb}
use mathlib.Core.List.{List, [], ◌∷◌, ◌++◌}
use Rattle.laws.specs.Tests.{pick}
use Rattle.frames.specs.Frame.{opcode}
use Rattle.model.specs.Lists.{both}
use Rattle.model.specs.Book.{Fed, acting_peer, answered_id, answers_message, shown_ids}
use Rattle.model.specs.Given.{new_of, GivenOnce}
use Rattle.model.specs.Rows.{book_of, ledger_of, is_noted}
use Rattle.model.specs.Happened.{Happened}

-- The IDs that an exchange shows to the peer p: a transfer's answer at its destination, and the attached IDs of a received message, or of a seed that is shown (02 No. 1), at the acting
-- peer.
abbrev pub shown_in : ℕ → Fed → List ℕ
shown_in p x =
    pick (eqb x.number 0)
    (pick (both (eqb (opcode x.frame) 6) (eqb (get_or x.frame 10 0) p)) (answered_id x.answer ∷ [])
    (pick (both (both (eqb (opcode x.frame) 8) (eqb (acting_peer x.frame) p)) (answers_message x.answer)) (shown_ids x.answer)
    (pick (both (eqb (opcode x.frame) 12) (eqb (acting_peer x.frame) p)) (shown_ids x.answer) [])))
    []

-- The new ones among those that ys show after the history xs: not the invalid one, not one that the book has noted for the peer, not one shown before it in the same answer.
unfoldable pub given_behind : List Fed → ℕ → List Fed → List ℕ
given_behind xs p [] = []
given_behind xs p (y ∷ ys) = new_of (λ i. is_noted ((book_of xs).handle p i)) (shown_in p y) ++ given_behind (xs ++ (y ∷ [])) p ys

abbrev pub given_in : ℕ → List Fed → List ℕ
given_in p xs = given_behind [] p xs

-- They are 7, 11, 15, .., as many as the ledger counts: each is over the one before it, and none is an ID that a peer may choose, nor the invalid one.
abbrev pub GivenIn : Type 0
GivenIn = (xs : List Fed) → Happened xs → (p : ℕ) → GivenOnce (given_in p xs) ((ledger_of xs).given p)
