-- The theorems that go with specs/Runs.antt and stand on others: each goes by the definitions and the theorems there.
-- Assumes nothing.
use Rattle.std.specs.Prelude.{ℕ, ◌≤◌, ◌≡◌, true, false, ◌⊎◌, List, [], ◌∷◌, ◌++◌, length}
use Rattle.std.proofs.Common.{sym, ap, subst, append_assoc, append-nil}
use Rattle.std.proofs.Math.Logic.◌⊎◌.{inl, inr}
use Rattle.ids.specs.Refusals.{EFBIG}
use Rattle.model.specs.Step.{Call}
use Rattle.model.specs.Book.{empty}
use Rattle.view.specs.View.{Bus}
use Rattle.bus_model.specs.Command.{Done, refused_by}
use Rattle.bus_model.specs.Ran.{Exchange, exchange_of, Ran, Ran.goes}
use Rattle.bus_model.specs.Third.{Next}
use Rattle.bus_model.proofs.Third.{code-demanded, code-next}
use Rattle.journal_model.specs.Journal.{command_with}
use Rattle.journal_model.specs.Exact.{exchange_with, JournalRun, JournalRun.none, JournalRun.next}
use Rattle.journal_model.proofs.Exact.{kept-text}
use Rattle.journal_model.specs.Runs.{SameOrFull, SameOrFull.same, SameOrFull.full, same-or-full, fits, fitting, full-unfit, same-exchange, command-fits, book-same, DemandThree}

-- The used length stays within the journal.
within : (b : Bus) (c : Call) (j : List ℕ) (u : ℕ) → u ≤ length j → (command_with b c.frame c.buffer j u).used ≤ length (command_with b c.frame c.buffer j u).journal
within b c j u l = (kept-text (next {b = b} {j = j} {u = u} c none) l).within

-- A run with a journal that goes on from a run.
pub run_ran : {ys : List Exchange} {b d : Bus} {j i : List ℕ} {u v : ℕ} → JournalRun b j u ys d i v → (zs : List Exchange) → Ran zs b → u ≤ length j → Ran (zs ++ fitting ys) d
run_ran none zs r l = rw append-nil r
run_ran {d = d} (next {b = b} {j = j} {u = u} {xs = xs} c k) zs r l = go (same-or-full b c j u l) (λ ts q. run_ran k ts q (within b c j u l))
  where
    go : SameOrFull b c j u → ((ts : List Exchange) → Ran ts (command_with b c.frame c.buffer j u).done.bus → Ran (ts ++ fitting xs) d) →
        Ran (zs ++ fitting (exchange_with b j u c ∷ xs)) d
    go (full e h) ih =
        let z : fits (exchange_with b j u c) ≡ false = full-unfit b c j u e h in
        let same : (command_with b c.frame c.buffer j u).done.bus ≡ b = ap (λ (y : Done). y.bus) e in
        rw z (ih zs (rw same r))
    go (same e) ih =
        let x : exchange_with b j u c ≡ exchange_of b c = same-exchange b c j u e in
        let z : fits (exchange_of b c) ≡ true = command-fits b c in
        rw (x, z) (rw (sym (append_assoc zs (exchange_of b c ∷ []) (fitting xs))) (ih (zs ++ (exchange_of b c ∷ [])) (rw e (goes c r))))

pub demand-three : {ys : List Exchange} {b d : Bus} {j i : List ℕ} {u v : ℕ} → JournalRun b j u ys d i v → Ran [] b → u ≤ length j → DemandThree ys d i v
demand-three {ys = ys} {d = d} {i = i} {v = v} k r l =
    let q : Ran (fitting ys) d = run_ran k [] r l in
    record { run = code-demanded (fitting ys) d q; same = book-same ys empty; next = λ c. go c (same-or-full d c i v (kept-text k l).within) (code-next (fitting ys) d q c) }
  where
    go : (c : Call) → SameOrFull d c i v → Next (fitting ys) (exchange_of d c) →
        ((command_with d c.frame c.buffer i v).done ≡ refused_by EFBIG d c.buffer) ⊎ Next (fitting ys) (exchange_with d i v c)
    go c (full e h) n = inl e
    go c (same e) n = inr (subst (λ (x : Exchange). Next (fitting ys) x) (sym (same-exchange d c i v e)) n)
