-- A run of commands from a fresh bus, each with the buffers as the one before left them, and that it is the model's run.
-- Assumes nothing.
use Rattle.std.specs.Prelude.{ℕ, ◌≡◌, refl, List, [], ◌∷◌, ◌++◌, map, take}
use Rattle.std.proofs.Common.{ap}
use Rattle.answers.specs.declared.Outcome.{Outcome}
use Rattle.model.specs.State.{State, start}
use Rattle.model.specs.Step.{Call, step, run_from, run}
use Rattle.model.specs.Accepted.{run-append}
use Rattle.model.specs.Book.{Fed}
use Rattle.view.specs.View.{Bus}
use Rattle.bus_model.specs.Command.{command_of, fresh_bus}
use Rattle.bus_model.specs.Tie.{Tied}

-- One command of a run: the bus before it, the frame and the answer buffer that were lent, what came back, and the answer buffer afterwards.
pub record Exchange : Type 0 where
  pub before : Bus
  pub call : Call
  pub outcome : Outcome
  pub after : List ℕ

-- The answer: the written part of the buffer.
abbrev pub answer_in : Exchange → List ℕ
answer_in x = take x.outcome.len x.after

-- What the book is fed of it.
abbrev pub fed_of : Exchange → Fed
fed_of x = record { frame = x.call.frame; number = x.outcome.number; answer = answer_in x }

-- The calls of some exchanges.
abbrev pub calls_of : List Exchange → List Call
calls_of xs = map (λ x. x.call) xs

abbrev pub exchange_of : Bus → Call → Exchange
exchange_of b c =
    let d = command_of b c.frame c.buffer in
    record { before = b; call = c; outcome = d.outcome; after = d.out }

-- A run of exchanges and the bus that it leaves.
pub data Ran : List Exchange → Bus → Type 0 where
  begins : Ran [] fresh_bus
  goes : {xs : List Exchange} {b : Bus} (c : Call) → Ran xs b → Ran (xs ++ (exchange_of b c ∷ [])) (command_of b c.frame c.buffer).bus

-- The exchanges are those of the model: at each the state seen before it, the outcome and the buffer.
pub record As-model (st : State) (x : Exchange) : Type 0 where
  pub tied : Tied x.before st
  pub outcome : x.outcome ≡ (step st x.call).outcome
  pub buffer : x.after ≡ (step st x.call).buffer

abbrev pub AsModel : State → List Exchange → Type 0
AsModel st [] = Unit {0}
AsModel st (x ∷ xs) = As-model st x × AsModel (step st x.call).state xs

pub calls-append : (xs ys : List Exchange) → calls_of (xs ++ ys) ≡ calls_of xs ++ calls_of ys
calls-append [] ys = refl
calls-append (x ∷ xs) ys = ap (◌∷◌ x.call) (calls-append xs ys)

pub as-append : (st : State) (xs : List Exchange) (x : Exchange) → AsModel st xs → As-model (run_from st (calls_of xs)) x → AsModel st (xs ++ (x ∷ []))
unfolding run_from
as-append st [] x a h = (h, tt)
as-append st (y ∷ xs) x a h = (a.0, as-append (step st y.call).state xs x a.1 h)

-- The state that the calls lead to.
abbrev pub state_after : List Exchange → State
state_after xs = run (calls_of xs)

pub record Modelled (xs : List Exchange) (b : Bus) : Type 0 where
  pub tied : Tied b (state_after xs)
  pub each : AsModel start xs

pub run-snoc : (cs : List Call) (c : Call) → run (cs ++ (c ∷ [])) ≡ (step (run cs) c).state
unfolding run_from
run-snoc cs c = run-append cs (c ∷ []) start
