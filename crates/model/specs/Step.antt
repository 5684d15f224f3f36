-- One command from the bytes of its frame and its answer buffer, and a run of commands from a fresh bus.
-- Assumes nothing.
use Rattle.std.specs.Prelude.{ℕ, List, [], ◌∷◌, length, take, eqb, ltb, Ok, Err}
use Rattle.laws.specs.Tests.{pick}
use Rattle.ids.specs.Refusals.{refusal_number}
use Rattle.frames.specs.declared.Command.{Command}
use Rattle.frames.specs.Frame.{parse, Parsed}
use Rattle.answers.specs.declared.Answer.TheVariants.{Refused as is_refused}
use Rattle.answers.specs.declared.Outcome.{Outcome}
use Rattle.answers.specs.Answer.{answer_size, answer_after, outcome_of}
use Rattle.model.specs.State.{State, start}
use Rattle.model.specs.Refusals.{refusal}
use Rattle.model.specs.Effects.{effect}
use Rattle.model.specs.Replies.{Reply, plain, reply}

-- What a frame leads to: the reply, and the state afterwards.
pub record Verdict : Type 0 where
  pub reply : Reply
  pub state : State

-- "A refusal writes its one byte, nothing after it, and leaves the bus alone."
abbrev pub refused : State → ℕ → Verdict
refused b n = record { reply = plain (is_refused n); state = b }

unfoldable pub carry_out : State → List ℕ → Command → ℕ → Verdict
carry_out b f c n = pick (eqb n 0) (record { reply = reply b f c; state = effect b f c }) (refused b n)

abbrev pub judge : State → List ℕ → Parsed → Verdict
judge b f (Err r) = refused b (refusal_number r)
judge b f (Ok c) = carry_out b f c (refusal b f c)

-- One call: a frame and an answer buffer.
pub record Call : Type 0 where
  pub frame : List ℕ
  pub buffer : List ℕ

-- What comes back of it: the number and the answer's length; the state; the answer buffer.
pub record Result : Type 0 where
  pub outcome : Outcome
  pub state : State
  pub buffer : List ℕ

-- "answer buffer under 591 bytes (nothing is written, the number is returned)": before everything.
unfoldable pub finish : State → List ℕ → Verdict → Result
finish b out v =
    record {
      outcome = outcome_of v.reply.answer v.reply.ids v.reply.payload out;
      state = pick (ltb (length out) answer_size) b v.state;
      buffer = answer_after v.reply.answer v.reply.ids v.reply.payload out;
    }

unfoldable pub step : State → Call → Result
step b c = finish b c.buffer (judge b c.frame (parse c.frame))

-- The bytes of the answer: the written part of the buffer.
abbrev pub answer_of : Result → List ℕ
answer_of r = take r.outcome.len r.buffer

-- "each command gets the bus buffers as the one before left them, with any frame and any answer buffer".
unfoldable pub run_from : State → List Call → State
run_from b [] = b
run_from b (c ∷ cs) = run_from (step b c).state cs

abbrev pub run : List Call → State
run cs = run_from start cs

-- The results of a run, in order.
unfoldable pub results_from : State → List Call → List Result
results_from b [] = []
results_from b (c ∷ cs) = let r = step b c in r ∷ results_from r.state cs

-- The answers of a run, in order.
unfoldable pub answers_from : State → List Call → List (List ℕ)
answers_from b [] = []
answers_from b (c ∷ cs) = let r = step b c in answer_of r ∷ answers_from r.state cs
