-- The theorems that go with specs/RowsRun.antt and stand on others: each goes by the definitions and the theorems there.
-- Assumes nothing.
use Rattle.std.specs.Prelude.{ℕ, ◌≤◌, ◌<◌, ◌≡◌, refl, true, ◌⊎◌, length, eqb, ltb, Ok, Err}
use Rattle.std.proofs.Common.{sym, ap, subst, ◌∙◌, arith, eqb-true}
use Rattle.std.proofs.Math.Logic.◌⊎◌.{inl, inr}
use mathlib.Core.List.{List, [], ◌∷◌, ◌++◌, map, append_assoc, append-nil}
use Rattle.laws.specs.Tests.{Seen, Seen.is_true, Seen.is_false, look, clash}
use Rattle.laws.specs.Weights.{All, all_append, all-imp}
use Rattle.frames.specs.declared.Command.{Command}
use Rattle.frames.specs.Frame.{parse, Parsed}
use Rattle.frames.specs.Legal.{Legal, Outcome}
use Rattle.frames.proofs.Legal.{legal}
use Rattle.answers.specs.Answer.{answer_size, number_of, outcome_of}
use Rattle.model.specs.Lists.{any}
use Rattle.model.specs.State.{Message, Entry, Entry.message, Entry.destroyed, Entry.released, messages_in, names, start, seed_carries}
use Rattle.ids.specs.Refusals.{refusal_number}
use Rattle.model.specs.Refusals.{refusal}
use Rattle.model.specs.Step.{Call, judge, finish, step, run, answer_of}
use Rattle.model.specs.Book.{Node, Noted, Noted.blank, Noted.noted, Book, node_in, nodes_of}
use Rattle.model.specs.Claim.{fed, history_from, book_after}
use Rattle.model.specs.Accepted.{Came, Came.left, Came.done, Accepted}
use Rattle.model.proofs.Accepted.{came}
use Rattle.model.specs.Requests.{attached}
use Rattle.model.proofs.ChargedProof.{always-charged}
use Rattle.model.specs.Sim.{called}
use Rattle.model.proofs.Tally.{tallied}
use Rattle.model.proofs.Standing.{stands}
use Rattle.model.specs.Ledger.{ledger_after, LedgerSeed, seed_nodes, blank_ledger, feed_ledger_all}
use Rattle.model.specs.LedgerSim.{Follows, held-entered, seed-nodes}
use Rattle.model.specs.LedgerStep.{note-enters}
use Rattle.model.specs.History.{ledger-book, book-next, book-noted, book-left}
use Rattle.model.specs.Sources.{Source, Sourced}
use Rattle.model.proofs.Sources.{story}
use Rattle.model.proofs.LedgerPassed.{ledger-kept}
use Rattle.model.specs.LedgerSeeds.{seeds-kept, seeds-next}
use Rattle.model.specs.Rows.{frame_rows, command_rows, rows, first_number, Exact}
use Rattle.model.specs.RowsFrame.{number_in, frame-exactly}
use Rattle.model.specs.RowsCounted.{either_true}
use Rattle.model.proofs.RowsCounted.{counted-row}
use Rattle.model.proofs.RowsProof.{refusal-rows}
use Rattle.model.specs.RowsRun.{at_least, first-append, frames-over, rows-over, seen, unseen, carried-number, first-none, none_first}

-- A node that the book has noted was entered; and it stays so.
pub noted-entered : (cs : List Call) (p i : ℕ) (n : Node) (c : ℕ) → (book_after cs).handle p i ≡ noted n c → n.number < (book_after cs).entered
noted-entered cs p i n c e =
    let w = story (length cs) cs (omega arith) in
    let y = (w.sim.handles p).held_at i n c e in
    let l = held-entered w.follows.handles p y.0 (rw y.2 refl) in
    rw y.3 l

nodes-entered : (cs : List Call) (p : ℕ) (is : List ℕ) → All (λ (n : Node). n.number < (book_after cs).entered) (nodes_of (book_after cs) p is)
nodes-entered cs p [] = tt
nodes-entered cs p (i ∷ is) = all_append (λ (n : Node). n.number < (book_after cs).entered) (node_in ((book_after cs).handle p i)) (nodes_of (book_after cs) p is) (one ((book_after cs).handle p i) refl) (nodes-entered cs p is)
  where
    one : (x : Noted) → (book_after cs).handle p i ≡ x → All (λ (n : Node). n.number < (book_after cs).entered) (node_in x)
    one blank e = tt
    one (noted n c) e = (noted-entered cs p i n c e, tt)

pub entered-next : (cs : List Call) (c : Call) → (book_after cs).entered ≤ (book_after (cs ++ (c ∷ []))).entered
entered-next cs c = go (came (run cs) c)
  where
    go : Came (run cs) c → (book_after cs).entered ≤ (book_after (cs ++ (c ∷ []))).entered
    go (left e n) = rw (book-next cs c ∙ book-left (book_after cs) (fed c (step (run cs) c)) n) (omega arith)
    go (done d a) =
        rw (book-noted cs c d a) (omega (arith, note-enters (book_after cs) c.frame (answer_of (step (run cs) c)) d, at_least (book_after cs).entered d))

pub entered-grows : (cs ds : List Call) → (book_after cs).entered ≤ (book_after (cs ++ ds)).entered
entered-grows cs [] = rw (append-nil cs) (omega arith)
entered-grows cs (d ∷ ds) = omega (arith, entered-next cs d, rw (append_assoc cs (d ∷ []) ds) at (entered-grows (cs ++ (d ∷ [])) ds))

-- What a queued message names was entered: its send found it in the book.
module _ (cs : List Call) (name : ℕ → ℕ) where
  carried-entered : (E s : ℕ) (ts : List ℕ) → All (λ (n : Node). n.number < E) (map (called name) ts) → any (eqb s) ts ≡ true → name s < E
  carried-entered E s [] a e = clash (sym e)
  carried-entered E s (t ∷ ts) a e = go (either_true (eqb s t) (any (eqb s) ts) e) (carried-entered E s ts a.1)
    where
      go : (eqb s t ≡ true) ⊎ (any (eqb s) ts ≡ true) → (any (eqb s) ts ≡ true → name s < E) → name s < E
      go (inl x) ih = rw (eqb-true s t x) a.0
      go (inr x) ih = ih x

  message-entered : (n s : ℕ) (m : Message) → Source cs name n m → names s m ≡ true → name s < (book_after cs).entered
  message-entered n s m o e = go (either_true (eqb s m.to) (any (eqb s) m.carried) e)
    where
      later : (book_after o.before).entered ≤ (book_after cs).entered
      later = rw o.place (entered-grows o.before (o.call ∷ o.after))

      go : (eqb s m.to ≡ true) ⊎ (any (eqb s) m.carried ≡ true) → name s < (book_after cs).entered
      go (inl x) =
          let l = noted-entered o.before o.peer.0 o.id (called name m.to) o.count o.to in
          rw (eqb-true s m.to x) (omega (arith, l, later))
      go (inr x) =
          let a = rw o.carried at (nodes-entered o.before o.peer.0 (attached o.call.frame o.sizes)) in
          omega (arith, carried-entered (book_after o.before).entered s m.carried a x, later)

  queue-entered : (s : ℕ) (q : List Entry) → All (Sourced cs name) q → any (names s) (messages_in q) ≡ true → name s < (book_after cs).entered
  queue-entered s [] a e = clash (sym e)
  queue-entered s (message n m ∷ q) a e = go (either_true (names s m) (any (names s) (messages_in q)) e) (queue-entered s q a.1)
    where
      go : (names s m ≡ true) ⊎ (any (names s) (messages_in q) ≡ true) → (any (names s) (messages_in q) ≡ true → name s < (book_after cs).entered) → name s < (book_after cs).entered
      go (inl x) ih = message-entered n s m a.0 x
      go (inr x) ih = ih x
  queue-entered s (destroyed n t ∷ q) a e = queue-entered s q a.1 e
  queue-entered s (released n t ∷ q) a e = queue-entered s q a.1 e

-- What a seed names was entered too.
abbrev EnteredAll : ℕ → LedgerSeed → Type 0
EnteredAll E x = All (λ (n : Node). n.number < E) (seed_nodes x)

seeds-entered : (cs : List Call) (p : ℕ) → EnteredAll (ledger_after cs).book.entered ((ledger_after cs).seed p)
seeds-entered cs = ledger-kept (λ l. (p : ℕ) → EnteredAll l.book.entered (l.seed p)) next [] cs (unfold history_from feed_ledger_all blank_ledger in λ p. tt)
  where
    next : (cs : List Call) (c : Call) (d : Command) → Accepted (run cs) c d → ((p : ℕ) → EnteredAll (ledger_after cs).book.entered ((ledger_after cs).seed p)) →
        (p : ℕ) → EnteredAll (ledger_after (cs ++ (c ∷ []))).book.entered ((ledger_after (cs ++ (c ∷ []))).seed p)
    next cs c d a h p =
        let E = (ledger_after (cs ++ (c ∷ []))).book.entered in
        let more : (ledger_after cs).book.entered ≤ E = rw (ledger-book cs, ledger-book (cs ++ (c ∷ []))) (entered-next cs c) in
        let old : (q : ℕ) → EnteredAll E ((ledger_after cs).seed q) = λ q. all-imp (λ (n : Node). n.number < (ledger_after cs).book.entered) (λ (n : Node). n.number < E) (λ n l. omega (arith, more)) (seed_nodes ((ledger_after cs).seed q)) (h q) in
        rw (seeds-next cs c d a)
        (seeds-kept (EnteredAll E) (ledger_after cs) c.frame d old tt
        (λ q z e. all-imp (λ (n : Node). n.number < (ledger_after cs).book.entered) (λ (n : Node). n.number < E) (λ n l. omega (arith, more)) (nodes_of (ledger_after cs).book q.0 (attached c.frame z))
        (rw (ledger-book cs) (nodes-entered cs q.0 (attached c.frame z)))) p)

-- The command's rows, of a bus of a run.
run-rows : (cs : List Call) (c : Call) (k : Command) → parse c.frame ≡ Ok k → Legal c.frame k → refusal (run cs) c.frame k ≡ first_number command_rows (history_from start cs) c
run-rows cs c k e l =
    let w = story (length cs) cs (omega arith) in
    let same = ledger-book cs in
    let f : Follows w.name (ledger_after cs).book.entered (run cs) (ledger_after cs) =
    subst (λ (x : Book). Follows w.name x.entered (run cs) (ledger_after cs)) (sym same) w.follows in
    rw e
    (refusal-rows w.name (run cs) (history_from start cs) w.sim w.follows (always-charged cs) (tallied cs) (stands cs)
    (counted-row w.name w.sim.apart (run cs) (ledger_after cs) f
    (λ q s h. subst (λ (x : Book). w.name s < x.entered) (sym same) (queue-entered cs w.name s ((run cs).queue q) (w.sources q) h))
    (λ q s m h.
    let a = rw (f.seeds q m, seed-nodes w.name ((run cs).seed q)) at (seeds-entered cs q) in
    carried-entered cs w.name (ledger_after cs).book.entered s (seed_carries ((run cs).seed q)) a h)) c.frame k l)

judged : (cs : List Call) (c : Call) (x : Parsed) → parse c.frame ≡ x → Outcome c.frame x →
    number_of (judge (run cs) c.frame x).reply.answer ≡ first_number (frame_rows ++ command_rows) (history_from start cs) c
judged cs c (Ok k) e l =
    let xs = history_from start cs in
    let n : first_number frame_rows xs c ≡ 0 = sym (frame-exactly xs c) ∙ ap number_in e in
    carried-number (run cs) c k (look (eqb (refusal (run cs) c.frame k) 0)) ∙ run-rows cs c k e l
    ∙ sym (first-append frame_rows command_rows xs c frames-over ∙ unseen (first_number frame_rows xs c) (first_number command_rows xs c) n)
judged cs c (Err r) e l =
    let xs = history_from start cs in
    let m : first_number frame_rows xs c ≡ refusal_number r = sym (frame-exactly xs c) ∙ ap number_in e in
    sym (first-append frame_rows command_rows xs c frames-over ∙ seen (first_number frame_rows xs c) (first_number command_rows xs c) (refusal_number r) m (over l))
  where
    over : Outcome c.frame (Err r) → refusal_number r ≡ 0 → ⊥
    over (inl h) z = omega (arith, ap refusal_number h)
    over (inr (inl h)) z = omega (arith, ap refusal_number h)
    over (inr (inr h)) z = omega (arith, ap refusal_number h)

-- The number of a call is that of the first row that applies.
ruled : (cs : List Call) (c : Call) → (step (run cs) c).outcome.number ≡ first_number rows (history_from start cs) c
unfolding step finish outcome_of
ruled cs c = go (look (ltb (length c.buffer) answer_size))
  where
    go : Seen (ltb (length c.buffer) answer_size) → (step (run cs) c).outcome.number ≡ first_number rows (history_from start cs) c
    go (is_true e) = rw e refl
    go (is_false e) = rw e (judged cs c (parse c.frame) refl (legal c.frame))

pub exact : (cs : List Call) (c : Call) → Exact (history_from start cs) c (step (run cs) c).outcome.number
exact cs c =
    let xs = history_from start cs in
    let e = ruled cs c in
    record { first = e; none-applies = λ z. first-none xs c rows rows-over (sym e ∙ z); accepted = λ a. e ∙ none_first xs c rows a }
