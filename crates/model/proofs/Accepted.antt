-- The theorems that go with specs/Accepted.antt and stand on others: each goes by the definitions and the theorems there.
-- Assumes nothing.
use Rattle.std.specs.Prelude.{◌≡◌, refl, false, List, [], ◌∷◌, length, eqb, ltb, Ok, Err}
use Rattle.std.proofs.Common.{ap, ◌∙◌, arith, ltb-false, eqb-true}
use Rattle.std.proofs.Math.Logic.◌⊎◌.{inl, inr}
use Rattle.std.proofs.lemmas.Bool.{eqb-false}
use Rattle.laws.specs.Tests.{Seen, Seen.is_true, Seen.is_false, look}
use Rattle.frames.specs.declared.Command.{Command}
use Rattle.frames.specs.Frame.{parse, Parsed}
use Rattle.frames.specs.Legal.{Legal, Outcome}
use Rattle.frames.proofs.Legal.{legal}
use Rattle.answers.specs.Answer.{answer_size}
use Rattle.model.specs.State.{State, start}
use Rattle.ids.specs.Refusals.{refusal_number}
use Rattle.model.specs.Refusals.{refusal}
use Rattle.model.specs.Effects.{effect}
use Rattle.model.specs.Replies.{reply}
use Rattle.model.specs.StepLaws.{reply-number}
use Rattle.model.specs.Step.{Verdict, carry_out, judge, Call, Result, finish, step, run_from, run, results_from}
use Rattle.model.specs.Accepted.{Accepted, Came, Came.left, Came.done, finish-short, finish-long, came_refused, Kept}

-- A frame that was read.
came-read : (b : State) (c : Call) (k : Command) → parse c.frame ≡ Ok k → Legal c.frame k → ltb (length c.buffer) answer_size ≡ false →
    Seen (eqb (refusal b c.frame k) 0) → step b c ≡ finish b c.buffer (carry_out b c.frame k (refusal b c.frame k)) → Came b c
unfolding carry_out
came-read b c k read lawful e (is_false z) f = came_refused b c (refusal b c.frame k) (eqb-false (refusal b c.frame k) 0 z) e (rw z at f)
came-read b c k read lawful e (is_true z) f =
    let v : Verdict = record { reply = reply b c.frame k; state = effect b c.frame k } in
    let g : step b c ≡ finish b c.buffer v = rw z at f in
    let r = finish-long b c.buffer v e in
    done k
    (record {
      read = read;
      legal = lawful;
      unrefused = eqb-true (refusal b c.frame k) 0 z;
      large = ltb-false (length c.buffer) answer_size e;
      number = ap (λ (x : Result). x.outcome.number) g ∙ r.1 ∙ reply-number b c.frame k;
      result = g;
      after = ap (λ (x : Result). x.state) g ∙ r.0;
    })

came-frame : (b : State) (c : Call) (x : Parsed) → parse c.frame ≡ x → Outcome c.frame x → ltb (length c.buffer) answer_size ≡ false →
    step b c ≡ finish b c.buffer (judge b c.frame x) → Came b c
came-frame b c (Ok k) read o e f = came-read b c k read o e (look (eqb (refusal b c.frame k) 0)) f
came-frame b c (Err r) read o e f = came_refused b c (refusal_number r) (over o) e f
  where
    over : Outcome c.frame (Err r) → refusal_number r ≡ 0 → ⊥
    over (inl h) z = omega (arith, ap refusal_number h)
    over (inr (inl h)) z = omega (arith, ap refusal_number h)
    over (inr (inr h)) z = omega (arith, ap refusal_number h)

pub came : (b : State) (c : Call) → Came b c
unfolding step
came b c = go (look (ltb (length c.buffer) answer_size))
  where
    go : Seen (ltb (length c.buffer) answer_size) → Came b c
    go (is_true e) =
        let r = finish-short b c.buffer (judge b c.frame (parse c.frame)) e in
        left r.0 (λ z. absurd (omega (arith, r.1)))
    go (is_false e) = came-frame b c (parse c.frame) refl (legal c.frame) e refl

pub kept_step : (P : State → Type 0) → Kept P → (b : State) (c : Call) → P b → P (step b c).state
kept_step P kept b c h = go (came b c)
  where
    go : Came b c → P (step b c).state
    go (left e n) = rw e h
    go (done k a) = rw a.after (kept b c.frame k h a.legal a.unrefused)

pub kept_run : (P : State → Type 0) → Kept P → (cs : List Call) (b : State) → P b → P (run_from b cs)
unfolding run_from
kept_run P kept [] b h = h
kept_run P kept (c ∷ cs) b h = kept_run P kept cs (step b c).state (kept_step P kept b c h)

-- Induction over runs.
pub induction : (P : State → Type 0) → P start → Kept P → (cs : List Call) → P (run cs)
induction P fresh kept cs = kept_run P kept cs start fresh

-- A call that comes back with a number over 0 leaves the state as it was.
pub refused-leaves : (b : State) (c : Call) → ((step b c).outcome.number ≡ 0 → ⊥) → (step b c).state ≡ b
refused-leaves b c h = go (came b c)
  where
    go : Came b c → (step b c).state ≡ b
    go (left e n) = e
    go (done k a) = absurd (h a.number)

-- So, in any run, everything that comes back of the later calls is what would come back without it.
pub refused-unseen : (before after : List Call) (c : Call) → ((step (run before) c).outcome.number ≡ 0 → ⊥) →
    results_from (step (run before) c).state after ≡ results_from (run before) after
refused-unseen before after c h = rw (refused-leaves (run before) c h)

-- A call that comes back with the number 0 was accepted.
pub accepted-call : (b : State) (c : Call) → (step b c).outcome.number ≡ 0 → (k : Command) × Accepted b c k
accepted-call b c z = go (came b c)
  where
    go : Came b c → (k : Command) × Accepted b c k
    go (left e n) = absurd (n z)
    go (done k a) = (k, a)
