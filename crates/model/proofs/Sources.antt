-- The theorems that go with specs/Sources.antt and stand on others: each goes by the definitions and the theorems there.
-- Assumes nothing.
use Rattle.std.specs.Prelude.{ℕ, suc, ◌+◌, ◌*◌, ◌≤◌, ◌<◌, ◌≡◌, refl, List, [], ◌∷◌, ◌++◌, length, eqb}
use Rattle.std.proofs.Common.{sym, ap, ◌∙◌, append_assoc, append-nil, arith, length-append}
use mathlib.Core.Bool.{true}
use Rattle.laws.specs.Tests.{clash}
use Rattle.laws.specs.Weights.{All, all-imp}
use Rattle.frames.specs.declared.Command.{Command}
use Rattle.frames.specs.declared.Command.TheVariants.{Open, Disconnect, Create, Destroy, Release, Transfer, Send, Receive, Quota, Holders, ShowSeed}
use Rattle.frames.proofs.Fields.{fields-command}
use Rattle.model.specs.Numbers.{slots, nodes}
use Rattle.model.specs.Lists.{any}
use Rattle.model.specs.State.{Life.dead, State, start, slot, free_place}
use Rattle.model.specs.Requests.{destinations}
use Rattle.model.specs.Tables.{accept}
use Rattle.model.specs.Step.{Call, step, run_from, run, answer_of}
use Rattle.model.specs.Book.{Book, empty, note, feed_all}
use Rattle.model.specs.Claim.{fed, history_from, book_after}
use Rattle.model.specs.Ledger.{blank_ledger, feed_ledger_all, ledger_after}
use Rattle.model.specs.LedgerStep.{note-enters}
use Rattle.model.proofs.LedgerStep.{follows_next}
use Rattle.model.proofs.IdsProof.{holding}
use Rattle.model.specs.History.{ledger-next, ledger-book, ledger-left, ledger-entered}
pub use Rattle.model.specs.History.{book-next, run-next, book-left, book-noted}
use Rattle.model.specs.Accepted.{Accepted, Came, Came.left, Came.done}
use Rattle.model.proofs.Accepted.{came}
use Rattle.model.specs.Tested.{Tested}
use Rattle.model.proofs.Tested.{tested}
use Rattle.model.specs.Occurs.{all_both}
use Rattle.model.specs.Queues.{sent_by, taken_by}
use Rattle.model.specs.QueuesLaws.{later-all, all-behind}
use Rattle.model.proofs.QueuesProof.{moved_by}
use Rattle.model.specs.Sim.{Sim}
use Rattle.model.specs.SimHandles.{handles-none, some-none}
use Rattle.model.specs.SimStep.{Ready, renamed, taken-unnamed}
use Rattle.model.proofs.SimStep.{sim-command}
use Rattle.model.proofs.SimIds.{ids-command}
use Rattle.model.specs.SimRun.{small, note-entered}
use Rattle.model.proofs.SimRun.{ready, shows}
use Rattle.model.specs.Sources.{Sourced, Agrees, sourced-more, agrees-same, agrees-new, all_among, sent-each, Story}

agrees : (name : ℕ → ℕ) (b : State) (k : Book) (f : List ℕ) (c : Command) → Ready b → Tested b f c → (p : ℕ) → All (Agrees name (renamed name b k c)) (b.queue p)
unfolding accept
agrees name b k f (Open q u) r t p = agrees-same name (b.queue p)
agrees name b k f (Disconnect q) r t p = agrees-same name (b.queue p)
agrees name b k f (Create q i) r t p =
    let x = taken-unnamed b q.0 r t.free in
    agrees-new name (q.0 * slots + free_place (accept b) q.0) k.entered (b.queue p) (x.1.unqueued p)
agrees name b k f (Destroy q i) r t p = agrees-same name (b.queue p)
agrees name b k f (Release q i) r t p = agrees-same name (b.queue p)
agrees name b k f (Transfer q i s) r t p = agrees-same name (b.queue p)
agrees name b k f (Send q z) r t p = agrees-same name (b.queue p)
agrees name b k f (Receive q room) r t p = agrees-same name (b.queue p)
agrees name b k f (Quota q u) r t p = agrees-same name (b.queue p)
agrees name b k f (Holders q i) r t p = agrees-same name (b.queue p)
agrees name b k f (ShowSeed q room) r t p = agrees-same name (b.queue p)

sent-new : {N : ℕ} (cs : List Call) (c : Call) (name : ℕ → ℕ) (k : Command) → Sim N name (run cs) (book_after cs) → Accepted (run cs) c k →
    All (Sourced (cs ++ (c ∷ [])) (renamed name (run cs) (book_after cs) k)) (sent_by (run cs) c.frame k)
sent-new cs c name (Open q u) s a = tt
sent-new cs c name (Disconnect q) s a = tt
sent-new cs c name (Create q i) s a = tt
sent-new cs c name (Destroy q i) s a = tt
sent-new cs c name (Release q i) s a = tt
sent-new cs c name (Transfer q i t) s a = tt
sent-new cs c name (Send q z) s a =
    let t = tested (run cs) c.frame (Send q z) a.unrefused in
    sent-each cs c name s q z a t.holds-attached (destinations c.frame z)
    (all_both (λ i. slot (run cs) q.0 i < nodes) (λ i. any (eqb i) (destinations c.frame z) ≡ true) (destinations c.frame z) t.holds (all_among (destinations c.frame z)))
sent-new cs c name (Receive q room) s a = tt
sent-new cs c name (Quota q u) s a = tt
sent-new cs c name (Holders q i) s a = tt
sent-new cs c name (ShowSeed q room) s a = tt

-- One call.
module _ {N : ℕ} (cs : List Call) (c : Call) (w : Story N cs) (room : length cs < N) where
  abbrev k : Book
  k = book_after cs

  longer : length (cs ++ (c ∷ [])) ≡ length cs + 1
  longer = length-append cs (c ∷ [])

  story-done : (d : Command) → Accepted (run cs) c d → Story N (cs ++ (c ∷ []))
  story-done d a =
      let b = run cs in
      let r = ready cs w.ids in
      let t = tested b c.frame d a.unrefused in
      let s = shows b c d a r in
      let name' = renamed w.name b k d in
      let e : run (cs ++ (c ∷ [])) ≡ Rattle.model.specs.Effects.effect b c.frame d = run-next cs c ∙ a.after in
      let g : book_after (cs ++ (c ∷ [])) ≡ note k c.frame (answer_of (step b c)) d = book-noted cs c d a in
      let new = sent-new cs c w.name d w.sim a in
      let old : (p : ℕ) → All (Sourced (cs ++ (c ∷ [])) name') (b.queue p) = λ p.
      all-imp (λ e. Agrees w.name name' e × Sourced cs w.name e) (Sourced (cs ++ (c ∷ [])) name') (sourced-more cs c w.name name') (b.queue p)
      (all_both (Agrees w.name name') (Sourced cs w.name) (b.queue p) (agrees w.name b k c.frame d r t p) (w.sources p)) in
      record {
        name = name';
        sim = rw (e, g) (sim-command w.name b c.frame d k (answer_of (step b c)) w.sim r a.legal t s (omega (arith, w.entered)));
        ids = rw e (ids-command b c.frame d r a.legal t (small c d (fields-command c.frame d a.read)));
        follows =
            rw (e, ledger-entered cs c d a)
            (follows_next w.name b c.frame (ledger_after cs) k (ledger-book cs) w.sim w.follows r (holding cs) (omega (arith, w.entered)) d a.legal t (book_after (cs ++ (c ∷ []))) (book_after (cs ++ (c ∷ []))).entered
            (ap (λ (x : Book). x.entered) g ∙ note-enters k c.frame (answer_of (step b c)) d));
        sources = λ p.
            let m = moved_by b (Sourced (cs ++ (c ∷ [])) name') (λ s. tt) (λ s. tt) c.frame d new a.legal a.unrefused p in
            rw e (all-behind (Sourced (cs ++ (c ∷ [])) name') (taken_by b p d) _ (later-all (Sourced (cs ++ (c ∷ [])) name') (λ e x. x) m (old p)));
        entered = rw (g, longer) (omega (arith, w.entered, note-entered k c.frame (answer_of (step b c)) d));
      }

  story-step : Story N (cs ++ (c ∷ []))
  story-step = go (came (run cs) c)
    where
      go : Came (run cs) c → Story N (cs ++ (c ∷ []))
      go (left e n) =
          let f : run (cs ++ (c ∷ [])) ≡ run cs = run-next cs c ∙ e in
          let g : book_after (cs ++ (c ∷ [])) ≡ k = book-next cs c ∙ book-left k (fed c (step (run cs) c)) n in
          record {
            name = w.name;
            sim = rw (f, g) w.sim;
            ids = rw f w.ids;
            follows = rw (f, g, ledger-next cs c ∙ ledger-left (ledger_after cs) (fed c (step (run cs) c)) n) w.follows;
            sources = λ p.
                rw f
                (all-imp (λ e. Agrees w.name w.name e × Sourced cs w.name e) (Sourced (cs ++ (c ∷ [])) w.name) (sourced-more cs c w.name w.name) ((run cs).queue p)
                (all_both (Agrees w.name w.name) (Sourced cs w.name) ((run cs).queue p) (agrees-same w.name ((run cs).queue p)) (w.sources p)));
            entered = rw (g, longer) (omega (arith, w.entered));
          }
      go (done d a) = story-done d a

story-run : {N : ℕ} (cs ds : List Call) → Story N cs → length cs + length ds ≤ N → Story N (cs ++ ds)
story-run {N} cs [] w room = rw (append-nil cs) w
story-run {N} cs (c ∷ ds) w room =
    let x = story-step cs c w (omega arith) in
    rw (append_assoc cs (c ∷ []) ds) at (story-run {N = N} (cs ++ (c ∷ [])) ds x (rw (length-append cs (c ∷ [])) (omega arith)))

first-dead : (k : ℕ) → dead 0 ≡ dead k → 0 ≡ k
first-dead k e = cc e

story-start : (N : ℕ) → Story N []
unfolding start empty run_from history_from feed_all feed_ledger_all blank_ledger
story-start N =
    record {
      name = λ s. N + s;
      sim =
          record {
            apart = λ s t e. omega arith;
            known = λ s l. absurd (omega arith);
            users = λ p. refl;
            handles = λ p. handles-none (λ s. N + s);
            queues = λ p. refl;
            seeds = λ p l. refl;
            sums = λ p u r. refl;
          };
      ids = λ p s i c e. some-none (sym e);
      follows =
          record {
            accepted = refl;
            given = λ p. refl;
            handles = record { same = λ p s. refl; fresh = λ p n l. refl; placed = λ p n e. clash (sym e) };
            lives = record { same = λ s. refl; fresh = λ n l. refl; placed = λ n e. clash (sym e); makers = λ s l. absurd (omega arith) };
            dates = record { same = λ s k e. first-dead k e; entered = λ s k e. absurd (omega (arith, first-dead (suc k) e)) };
            queues = λ p. refl;
            seeds = λ p l. refl;
          };
      sources = λ p. tt;
      entered = omega arith;
    }

pub story : (N : ℕ) (cs : List Call) → length cs ≤ N → Story N cs
story N cs l = story-run [] cs (story-start N) (omega arith)
