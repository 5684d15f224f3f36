-- Book and ledger after one more call of a run.
-- Assumes nothing.
use Rattle.std.specs.Prelude.{◌≡◌, List, [], ◌∷◌, ◌++◌, eqb, Ok}
use Rattle.std.proofs.Math.Path.{refl}
use Rattle.std.proofs.Common.{sym, ap, ◌∙◌, ne_eqb}
use Rattle.laws.specs.Tests.{pick}
use Rattle.frames.specs.declared.Command.{Command}
use Rattle.frames.specs.Frame.{parse}
use Rattle.model.specs.State.{State, start}
use Rattle.model.specs.Step.{Call, step, run_from, run, answer_of}
use Rattle.model.specs.Book.{Book, Fed, empty, note, feed, feed_all}
use Rattle.model.specs.Claim.{fed, history_from, book_after}
use Rattle.model.specs.Accepted.{Accepted, run-append}
use Rattle.model.specs.Ledger.{Ledger, blank_ledger, enter, enter_parsed, with_book, feed_ledger, feed_ledger_all, ledger_after}

-- The book after one more call.
pub history-append : (cs ds : List Call) (b : State) → history_from b (cs ++ ds) ≡ history_from b cs ++ history_from (run_from b cs) ds
unfolding history_from run_from
history-append [] ds b = refl
history-append (c ∷ cs) ds b = ap (◌∷◌ (fed c (step b c))) (history-append cs ds (step b c).state)

feed-append : (xs ys : List Fed) (k : Book) → feed_all k (xs ++ ys) ≡ feed_all (feed_all k xs) ys
unfolding feed_all
feed-append [] ys k = refl
feed-append (x ∷ xs) ys k = feed-append xs ys (feed k x)

pub book-next : (cs : List Call) (c : Call) → book_after (cs ++ (c ∷ [])) ≡ feed (book_after cs) (fed c (step (run cs) c))
book-next cs c = ap (feed_all empty) (history-append cs (c ∷ []) start) ∙ feed-append (history_from start cs) (history_from (run cs) (c ∷ [])) empty ∙ unfold history_from feed_all in refl

pub run-next : (cs : List Call) (c : Call) → run (cs ++ (c ∷ [])) ≡ (step (run cs) c).state
unfolding run_from
run-next cs c = run-append cs (c ∷ []) start

-- A refused call leaves both as they were; an accepted one is noted.
pub book-left : (k : Book) (x : Fed) → (x.number ≡ 0 → ⊥) → feed k x ≡ k
unfolding feed
book-left k x n = rw (ne_eqb x.number 0 n) refl

pub book-noted : (cs : List Call) (c : Call) (d : Command) → Accepted (run cs) c d → book_after (cs ++ (c ∷ [])) ≡ note (book_after cs) c.frame (answer_of (step (run cs) c)) d
unfolding feed
book-noted cs c d a = book-next cs c ∙ rw (a.number, a.read) refl

-- The ledger's book is the book.
pub feed-book : (xs : List Fed) (l : Ledger) → (feed_ledger_all l xs).book ≡ feed_all l.book xs
unfolding feed_ledger_all feed_all
feed-book [] l = refl
feed-book (x ∷ xs) l = feed-book xs (feed_ledger l x) ∙ ap (λ (k : Book). feed_all k xs) (unfold feed_ledger with_book in refl)

pub ledger-book : (cs : List Call) → (ledger_after cs).book ≡ book_after cs
unfolding blank_ledger
ledger-book cs = feed-book (history_from start cs) blank_ledger

-- The ledger after one more call.
pub feed-ledger-append : (xs ys : List Fed) (l : Ledger) → feed_ledger_all l (xs ++ ys) ≡ feed_ledger_all (feed_ledger_all l xs) ys
unfolding feed_ledger_all
feed-ledger-append [] ys l = refl
feed-ledger-append (x ∷ xs) ys l = feed-ledger-append xs ys (feed_ledger l x)

pub ledger-next : (cs : List Call) (c : Call) → ledger_after (cs ++ (c ∷ [])) ≡ feed_ledger (ledger_after cs) (fed c (step (run cs) c))
ledger-next cs c =
    ap (feed_ledger_all blank_ledger) (history-append cs (c ∷ []) start)
    ∙ feed-ledger-append (history_from start cs) (history_from (run cs) (c ∷ [])) blank_ledger
    ∙ unfold history_from feed_ledger_all in refl

pub ledger-left : (l : Ledger) (x : Fed) → (x.number ≡ 0 → ⊥) → feed_ledger l x ≡ l
unfolding feed_ledger with_book
ledger-left l x n = rw (book-left l.book x n, ne_eqb x.number 0 n) refl

pub fed-enters : (l : Ledger) (x : Fed) (d : Command) → x.number ≡ 0 → parse x.frame ≡ Ok d → feed_ledger l x ≡ with_book (enter l x.frame d) (feed l.book x)
unfolding feed_ledger
fed-enters l x d e f =
    let g : pick (eqb x.number 0) (enter_parsed l x.frame (parse x.frame)) l ≡ enter l x.frame d = rw (e, f) refl in
    ap (λ (y : Ledger). with_book y (feed l.book x)) g

pub ledger-entered : (cs : List Call) (c : Call) (d : Command) → Accepted (run cs) c d →
    ledger_after (cs ++ (c ∷ [])) ≡ with_book (enter (ledger_after cs) c.frame d) (book_after (cs ++ (c ∷ [])))
ledger-entered cs c d a =
    ledger-next cs c
    ∙ fed-enters (ledger_after cs) (fed c (step (run cs) c)) d a.number a.read
    ∙ ap (with_book (enter (ledger_after cs) c.frame d)) (ap (λ (k : Book). feed k (fed c (step (run cs) c))) (ledger-book cs) ∙ sym (book-next cs c))
