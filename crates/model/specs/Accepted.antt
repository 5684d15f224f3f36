-- What a call comes to, and induction over runs: what a fresh bus has, and every accepted command keeps, every run leaves.
-- A command that is refused, a short answer buffer and a malformed frame leave the state as it was, so no later answer shows them.
-- Assumes nothing.
use Rattle.std.specs.Prelude.{ℕ, ◌≤◌, ◌≡◌, refl, true, false, List, [], ◌∷◌, ◌++◌, length, ltb, Ok}
use Rattle.std.proofs.Common.{sym, ap, ◌∙◌}
use Rattle.frames.specs.declared.Command.{Command}
use Rattle.frames.specs.Frame.{parse}
use Rattle.frames.specs.Legal.{Legal}
use Rattle.answers.specs.Answer.{answer_size, number_of, outcome_of}
use Rattle.model.specs.State.{State}
use Rattle.model.specs.Refusals.{refusal}
use Rattle.model.specs.Effects.{effect}
use Rattle.model.specs.Replies.{reply}
use Rattle.model.specs.Step.{Verdict, refused, Call, Result, finish, step, run_from}

-- An accepted call: its frame gives the command k, nothing refuses it, and what comes back is k's reply and k's effect.
pub record Accepted (b : State) (c : Call) (k : Command) : Type 0 where
  pub read : parse c.frame ≡ Ok k
  pub legal : Legal c.frame k
  pub unrefused : refusal b c.frame k ≡ 0
  pub large : answer_size ≤ length c.buffer
  pub number : (step b c).outcome.number ≡ 0
  pub result : step b c ≡ finish b c.buffer (record { reply = reply b c.frame k; state = effect b c.frame k })
  pub after : (step b c).state ≡ effect b c.frame k

-- A call is accepted, or it leaves the state alone and comes back with a number over 0.
pub data Came (b : State) (c : Call) : Type 0 where
  left : (step b c).state ≡ b → ((step b c).outcome.number ≡ 0 → ⊥) → Came b c
  done : (k : Command) → Accepted b c k → Came b c

-- What comes back of a verdict: nothing but 22 over a short buffer, else its number and its state.
pub finish-short : (b : State) (out : List ℕ) (v : Verdict) → ltb (length out) answer_size ≡ true → ((finish b out v).state ≡ b) × ((finish b out v).outcome.number ≡ 22)
unfolding finish outcome_of
finish-short b out v e = (rw e, rw e)

pub finish-long : (b : State) (out : List ℕ) (v : Verdict) → ltb (length out) answer_size ≡ false →
    ((finish b out v).state ≡ v.state) × ((finish b out v).outcome.number ≡ number_of v.reply.answer)
unfolding finish outcome_of
finish-long b out v e = (rw e, rw e)

-- A verdict that refuses.
pub came_refused : (b : State) (c : Call) (n : ℕ) → (n ≡ 0 → ⊥) → ltb (length c.buffer) answer_size ≡ false → step b c ≡ finish b c.buffer (refused b n) → Came b c
came_refused b c n h e f =
    let r = finish-long b c.buffer (refused b n) e in
    left (ap (λ (x : Result). x.state) f ∙ r.0) (λ z. h (sym r.1 ∙ sym (ap (λ (x : Result). x.outcome.number) f) ∙ z))

-- What every accepted command keeps, every call keeps.
abbrev pub Kept : (State → Type 0) → Type 0
Kept P = (b : State) (f : List ℕ) (k : Command) → P b → Legal f k → refusal b f k ≡ 0 → P (effect b f k)

-- A run in two parts.
pub run-append : (xs ys : List Call) (b : State) → run_from b (xs ++ ys) ≡ run_from (run_from b xs) ys
unfolding run_from
run-append [] ys b = refl
run-append (x ∷ xs) ys b = run-append xs ys (step b x).state
