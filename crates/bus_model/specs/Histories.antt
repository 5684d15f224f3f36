-- The exchanges of a run are a history, so what the model proves of every history holds of them; and each of them is answered as the history before it says: its number is that of the
-- first row of document 01's table that applies, 0 exactly where none does, and what is written is what is due.
-- Assumes nothing.
use Rattle.std.specs.Prelude.{ℕ, ◌≡◌, refl, List, [], ◌∷◌, ◌++◌, map, take, Ok}
use Rattle.std.proofs.Common.{ap, ap₂}
use Rattle.frames.specs.declared.Command.{Command}
use Rattle.frames.specs.Frame.{parse}
use Rattle.answers.specs.declared.Outcome.{Outcome}
use Rattle.model.specs.State.{State}
use Rattle.model.specs.Step.{step, answer_of}
use Rattle.model.specs.Book.{Fed}
use Rattle.model.specs.Ledger.{DueTo}
use Rattle.model.specs.Rows.{Exact, ledger_of}
use Rattle.view.specs.View.{Bus}
use Rattle.bus_model.specs.Ran.{Exchange, answer_in, fed_of, exchange_of, As-model}
use Rattle.bus_model.specs.Orderly.{GoesOn, GoesOn.next}

-- The frames, numbers and answers of some exchanges.
abbrev pub history_of : List Exchange → List Fed
history_of xs = map fed_of xs

pub history-append : (xs ys : List Exchange) → history_of (xs ++ ys) ≡ history_of xs ++ history_of ys
history-append [] ys = refl
history-append (x ∷ xs) ys = ap (◌∷◌ (fed_of x)) (history-append xs ys)

-- An exchange is answered as the history before it says.
pub record Answered (xs : List Fed) (x : Exchange) : Type 0 where
  -- "Given exactly when": the number.
  pub exact : Exact xs x.call x.outcome.number
  -- The answer to a command that is not refused, to the byte.
  pub due : (k : Command) → parse x.call.frame ≡ Ok k → x.outcome.number ≡ 0 → DueTo (ledger_of xs) k (answer_in x)

pub answer-as : (st : State) (x : Exchange) → As-model st x → answer_in x ≡ answer_of (step st x.call)
answer-as st x h = ap₂ (λ (o : Outcome) (l : List ℕ). take o.len l) h.outcome h.buffer

pub first_on : {b d : Bus} {x : Exchange} {ys : List Exchange} → GoesOn b (x ∷ ys) d → x ≡ exchange_of b x.call
first_on (next c g) = refl
