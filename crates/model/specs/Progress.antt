-- Document 01, "Rules of order and quota": "Counting accepted receives of its peer only, and k entries being ahead of it, an entry comes out at or before receive k + 1,
-- or has been dropped or withdrawn." The statement.
-- Assumes nothing.
use Rattle.std.specs.Prelude.{ℕ, ◌+◌, ◌≤◌, ◌<◌, ◌≡◌, Bool, ◌⊎◌, List, [], ◌∷◌, ◌++◌, length, get_or, eqb}
use Rattle.laws.specs.Tests.{pick}
use Rattle.frames.specs.Frame.{opcode}
use Rattle.model.specs.Lists.{both}
use Rattle.model.specs.State.{Entry, State}
use Rattle.model.specs.Step.{Call, Result, step, run_from, run}
use Rattle.model.specs.Queues.{stamp, Later, Lapsed, front}

-- An accepted receive of p: the number 0 for a frame with the command byte 08 and the acting peer p. 0c is none: 02 No. 1, "0c is no receive in the rules of order".
abbrev pub is_receive : ℕ → Call → Result → Bool
is_receive p c r = both (eqb r.outcome.number 0) (both (eqb (opcode c.frame) 8) (eqb (get_or c.frame 1 0) p))

-- How many there are among the calls, from the state b on.
unfoldable pub receives_of : State → ℕ → List Call → ℕ
receives_of b p [] = 0
receives_of b p (c ∷ cs) = let r = step b c in pick (is_receive p c r) 1 0 + receives_of r.state p cs

-- What they took out, in order.
unfoldable pub taken_out : State → ℕ → List Call → List Entry
taken_out b p [] = []
taken_out b p (c ∷ cs) = let r = step b c in pick (is_receive p c r) (front (b.queue p)) [] ++ taken_out r.state p cs

-- Dropped or withdrawn by one of the calls.
abbrev pub Lost : State → List Call → ℕ → Entry → Type 0
Lost b [] p e = ⊥
Lost b (c ∷ cs) p e = Lapsed b (step b c).state p e ⊎ Lost (step b c).state cs p e

-- Queued after the state b.
abbrev pub Newer : State → Entry → Type 0
Newer b e = b.accepted < stamp e

-- Every entry followed by its place: after any calls of any run, what the receives of p took out and what then stands in the queue of p, one after the other,
-- are the entries that stood there and are not lost, in their order, and newer ones behind them.
abbrev pub Followed : Type 0
Followed =
    (before cs : List Call) (p : ℕ) →
    Later (Lost (run before) cs p) (Newer (run before)) ((run before).queue p) (taken_out (run before) p cs ++ (run_from (run before) cs).queue p)

-- Each accepted receive takes one entry out.
abbrev pub OneEach : Type 0
OneEach = (before cs : List Call) (p : ℕ) → length (taken_out (run before) p cs) ≡ receives_of (run before) p cs

-- What became of an entry e with k ahead of it: it came out, as the one with i before it, i at most k; or it is lost;
-- or it waits with j ahead of it, and j and the number of receives since then make at most k.
pub data Became (b : State) (cs : List Call) (p k : ℕ) (e : Entry) : Type 0 where
  came-out : (i : ℕ) → i ≤ k → i < length (taken_out b p cs) → get_or (taken_out b p cs) i e ≡ e → Became b cs p k e
  lost : Lost b cs p e → Became b cs p k e
  waits : (j : ℕ) → j + receives_of b p cs ≤ k → j < length ((run_from b cs).queue p) → get_or ((run_from b cs).queue p) j e ≡ e → Became b cs p k e

abbrev pub Progress : Type 0
Progress = (before cs : List Call) (p k : ℕ) (e : Entry) → k < length ((run before).queue p) → get_or ((run before).queue p) k e ≡ e → Became (run before) cs p k e

-- "comes out at or before receive k + 1, or has been dropped or withdrawn".
abbrev pub InTime : Type 0
InTime =
    (before cs : List Call) (p k : ℕ) (e : Entry) → k < length ((run before).queue p) → get_or ((run before).queue p) k e ≡ e → k < receives_of (run before) p cs →
    ((i : ℕ) × (i ≤ k) × (i < length (taken_out (run before) p cs)) × (get_or (taken_out (run before) p cs) i e ≡ e)) ⊎ Lost (run before) cs p e
