-- The theorems that go with specs/Histories.antt and stand on others: each goes by the definitions and the theorems there.
-- Assumes nothing.
use Rattle.std.specs.Prelude.{ℕ, ◌≡◌, true, false, List, ◌∷◌, ◌++◌}
use Rattle.std.proofs.Common.{sym, ap, subst, ◌∙◌}
use Rattle.answers.specs.declared.Outcome.{Outcome}
use Rattle.model.specs.State.{State, start, is_live}
use Rattle.model.specs.Step.{Call, step}
use Rattle.model.specs.Book.{Fed, empty, feed_all}
use Rattle.model.specs.Claim.{history_from, book_after}
use Rattle.model.specs.Ledger.{DueTo, ledger_after}
use Rattle.model.specs.Rows.{Exact, book_of}
use Rattle.model.proofs.RowsRun.{exact}
use Rattle.model.proofs.Due.{answers-due}
use Rattle.model.specs.Happened.{Happened}
use Rattle.model.specs.Notices.{Unnamed}
use Rattle.model.proofs.NoticesLife.{slot-stays}
use Rattle.view.specs.View.{Bus, state_of}
use Rattle.bus_model.specs.Ran.{Exchange, calls_of, exchange_of, Ran, state_after}
use Rattle.bus_model.proofs.Ran.{ran-modelled}
use Rattle.bus_model.specs.Demands.{fed-all}
use Rattle.bus_model.proofs.Demands.{exchange-as}
use Rattle.bus_model.specs.Orderly.{bus_after, ran-cut}
use Rattle.bus_model.proofs.Orderly.{ran-step}
use Rattle.bus_model.specs.Histories.{history_of, history-append, Answered, answer-as, first_on}

pub history-ran : {xs : List Exchange} {b : Bus} → Ran xs b → history_of xs ≡ history_from start (calls_of xs)
history-ran {xs = xs} r = fed-all start xs (ran-modelled r).each

pub ran-happened : {xs : List Exchange} {b : Bus} → Ran xs b → Happened (history_of xs)
ran-happened {xs = xs} r = record { calls = calls_of xs; same = sym (history-ran r) }

-- A run that goes on, as a history that goes on.
pub happened-on : (xs ys : List Exchange) {d : Bus} → Ran (xs ++ ys) d → Happened (history_of xs ++ history_of ys)
happened-on xs ys r = subst Happened (history-append xs ys) (ran-happened r)

pub next-answered : {xs : List Exchange} {b : Bus} → Ran xs b → (c : Call) → Answered (history_of xs) (exchange_of b c)
next-answered {xs = xs} {b = b} r c =
    let m = exchange-as r c in
    let number : (exchange_of b c).outcome.number ≡ (step (state_after xs) c).outcome.number = ap (λ (o : Outcome). o.number) m.outcome in
    subst (λ (ys : List Fed). Answered ys (exchange_of b c)) (sym (history-ran r))
    (record {
      exact = subst (λ (n : ℕ). Exact (history_from start (calls_of xs)) c n) (sym number) (exact (calls_of xs) c);
      due = λ k read zero.
          subst (λ (a : List ℕ). DueTo (ledger_after (calls_of xs)) k a) (sym (answer-as (state_after xs) (exchange_of b c) m)) (answers-due (calls_of xs) c k read (sym number ∙ zero));
    })

pub ran-answered : (xs ys : List Exchange) (x : Exchange) {d : Bus} → Ran (xs ++ (x ∷ ys)) d → Answered (history_of xs) x
ran-answered xs ys x r =
    let k = ran-cut xs (x ∷ ys) r in
    subst (λ (y : Exchange). Answered (history_of xs) y) (sym (first_on k.2)) (next-answered k.1 x.call)

-- The book of a run.
pub book-ran : {xs : List Exchange} {b : Bus} → Ran xs b → book_of (history_of xs) ≡ book_after (calls_of xs)
book-ran r = ap (feed_all empty) (history-ran r)

-- "Reusing a dead node's record while a queued message names it": a dead slot lives anew only where no handle, no message and no notice names it.
pub code-slot-stays : (xs : List Exchange) (b : Bus) → Ran xs b → (c : Call) (s : ℕ) → is_live ((state_of b).life s) ≡ false → is_live ((state_of (bus_after b c)).life s) ≡ true →
    Unnamed (state_of b) s
code-slot-stays xs b r c s d e =
    let v : state_of b ≡ state_after xs = (ran-modelled r).tied.view in
    let n : state_of (bus_after b c) ≡ (step (state_after xs) c).state = (ran-step r c).tied.view ∙ ap (λ (x : State). (step x c).state) v in
    subst (λ (x : State). Unnamed x s) (sym v)
    (slot-stays (calls_of xs) c s (ap (λ (x : State). is_live (x.life s)) (sym v) ∙ d) (ap (λ (x : State). is_live (x.life s)) (sym n) ∙ e))
