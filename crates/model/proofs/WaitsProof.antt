-- The theorems that go with specs/WaitsProof.antt and stand on others: each goes by the definitions and the theorems there.
-- Assumes nothing.
use Rattle.std.specs.Prelude.{ℕ, ◌≤◌, ◌≡◌, refl, List, [], ◌∷◌, ◌++◌, length}
use Rattle.std.proofs.Common.{subst, ap, ◌∙◌, append_assoc, append-nil, arith, length-append}
use Rattle.std.proofs.Math.Logic.◌⊎◌.{inl, inr}
use Rattle.laws.specs.Tests.{pick}
use Rattle.model.specs.Step.{step, run}
use Rattle.model.specs.Book.{Fed}
use Rattle.model.specs.Claim.{fed}
use Rattle.model.specs.Tally.{tally}
use Rattle.model.specs.Queues.{front}
use Rattle.model.specs.QueuesLaws.{later_refl, later_trans, later-front, later-with, In, all_in, later-imp}
use Rattle.model.proofs.ProgressProof.{call-one}
use Rattle.model.specs.InPlace.{placed}
use Rattle.model.specs.Ledger.{Item, ledger_after}
use Rattle.model.specs.LedgerMoves.{MovedIn}
use Rattle.model.proofs.Sources.{story}
use Rattle.model.specs.Rows.{ledger_of}
use Rattle.model.specs.Happened.{Happened, happened-front, At, happened-at}
use Rattle.model.specs.Exchanges.{ledger-more, tally-append}
use Rattle.model.proofs.Exchanges.{exchange, ledger-tally}
use Rattle.model.specs.Waits.{receives_at, receives_in, taken_in, FollowedIn, OneEachIn, InTimeIn}
use Rattle.model.specs.WaitsProof.{taken_by, exchange-moves, as_many}

pub history-moves : (xs ys : List Fed) (x : Fed) → Happened (xs ++ (x ∷ ys)) → (p : ℕ) → MovedIn (ledger_of xs) (ledger_of (xs ++ (x ∷ []))) p (taken_by (ledger_of xs) p x)
history-moves xs ys x h p = rw (ledger-more xs x) (exchange-moves xs x (exchange xs x (happened-at xs ys x h)) p)

-- Every item by its place.
pub followed-in : FollowedIn
unfolding taken_in
followed-in xs [] h p = rw (append-nil xs) (later_refl ((ledger_of xs).queue p))
followed-in xs (x ∷ ys) h p =
    let more = xs ++ (x ∷ []) in
    let again : more ++ ys ≡ xs ++ (x ∷ ys) = append_assoc xs (x ∷ []) ys in
    let n : (ledger_of xs).accepted ≡ tally xs = ledger-tally xs (happened-front xs (x ∷ ys) h) in
    let le : tally xs ≤ tally more = omega (arith, tally-append xs (x ∷ [])) in
    rw (append_assoc, ← again)
    (later_trans
    (later-imp (λ e g. inl g) (λ e g. omega arith) (later-with (λ e. In e ((ledger_of xs).queue p)) (history-moves xs ys x h p) (all_in ((ledger_of xs).queue p))))
    (later-front (taken_by (ledger_of xs) p x) (later-imp (λ e g. inr g) (λ e g. omega arith) (followed-in more ys (rw again h) p))))

one_at : (xs : List Fed) (x : Fed) → At xs x → (p : ℕ) → length (taken_by (ledger_of xs) p x) ≡ pick (receives_at p x) 1 0
one_at xs x w p =
    let cs = w.before in
    let s = story (length cs) cs (omega arith) in
    let y = fed w.call (step (run cs) w.call) in
    let one : Fed → Type 0 = λ v. length (taken_by (ledger_after cs) p v) ≡ pick (receives_at p v) 1 0 in
    let z : one y =
    ap (λ (q : List Item). length (pick (receives_at p y) (front q) [])) (s.follows.queues p)
    ∙ as_many s.name (receives_at p y) ((run cs).queue p)
    ∙ call-one (run cs) p w.call in
    rw w.first at (subst one w.gives z)

pub one-each-in : OneEachIn
unfolding taken_in receives_in
one-each-in xs [] h p = refl
one-each-in xs (x ∷ ys) h p =
    rw length-append (omega (arith, one_at xs x (happened-at xs ys x h) p, one-each-in (xs ++ (x ∷ [])) ys (rw (append_assoc xs (x ∷ []) ys) h) p))

pub in-time-in : InTimeIn
in-time-in xs ys h p ahead behind-it e q enough =
    placed e behind-it ahead (taken_in xs ys p) ((ledger_of (xs ++ ys)).queue p) (rw q at (followed-in xs ys h p)) (omega (arith, one-each-in xs ys h p))
