-- The theorems that go with specs/SimRun.antt and stand on others: each goes by the definitions and the theorems there.
-- Assumes nothing.
use Rattle.std.specs.Prelude.{ℕ, suc, ◌+◌, ◌≤◌, ◌<◌, ◌≡◌, refl, List, [], ◌∷◌, ◌++◌, length}
use Rattle.std.proofs.Common.{arith, ne_eqb}
use Rattle.frames.specs.declared.Command.{Command}
use Rattle.frames.specs.declared.Command.TheVariants.{Open, Disconnect, Create, Destroy, Release, Transfer, Send, Receive, Quota, Holders, ShowSeed}
use Rattle.frames.proofs.Fields.{fields-command}
use Rattle.model.specs.State.{Entry, Entry.message, Entry.destroyed, Entry.released, State, start, seed_carries}
use Rattle.model.specs.Tables.{with_queues, with_charges}
use Rattle.model.specs.Changes.{take_out}
use Rattle.model.specs.Step.{Call, step, run_from, run, answer_of}
use Rattle.model.specs.Book.{Book, empty, feed, feed_all}
use Rattle.model.specs.Claim.{fed, history_from, book_after}
use Rattle.model.proofs.Tested.{tested}
use Rattle.model.specs.Accepted.{Accepted, Came, Came.left, Came.done, run-append}
use Rattle.model.proofs.Accepted.{came}
use Rattle.model.proofs.NoticesFree.{free-unnamed}
use Rattle.model.proofs.NoticesProof.{noted as always-noted, founded}
use Rattle.model.proofs.BoundsProof.{given-bound}
use Rattle.model.proofs.Shown.{transfer-answers, receive-message, receive-shows, receive-destroyed, receive-released, seed-shows}
use Rattle.model.specs.SimGive.{Ids, shown-small}
use Rattle.model.proofs.SimGive.{shown-all-small}
use Rattle.model.specs.SimStep.{ReceiveShows, Shows, Ready, renamed}
use Rattle.model.proofs.SimStep.{sim-command}
use Rattle.model.proofs.SimIds.{ids-command}
use Rattle.model.specs.SimRun.{carried-all, small, note-entered, Alike, alike-start}

pub ready : (cs : List Call) → Ids (run cs) → Ready (run cs)
ready cs ok =
    record {
      ids = ok;
      few = λ p. omega (arith, given-bound cs p);
      carried = λ p. carried-all (run cs) p ((run cs).queue p) ((always-noted cs).stands p);
      seeds = (always-noted cs).seeds;
      free = λ s. free-unnamed (run cs) s (always-noted cs) (founded cs);
    }

-- What an accepted call's answer shows.
shows-receive : (b : State) (c : Call) (p : Rattle.ids.specs.declared.Peer.Peer) (room : ℕ) → Accepted b c (Receive p room) → Ready b → (q : List Entry) → b.queue p.0 ≡ q →
    ReceiveShows b p.0 q (answer_of (step b c))
unfolding take_out with_charges with_queues
shows-receive b c p room a r [] e = absurd (omega (arith, rw e at (tested b c.frame (Receive p room) a.unrefused).next))
shows-receive b c p room a r (message n m ∷ q) e =
    let k = rw e at (r.carried p.0) in (
      receive-message b c p room a n m q e,
      receive-shows b c p room a n m q e k.0.0 (shown-all-small (take_out b p.0 (m ∷ []) q) p.0 n m.carried r.ids (omega (arith, r.few p.0, k.0.0))),
    )
shows-receive b c p room a r (destroyed n s ∷ q) e = receive-destroyed b c p room a n s q e
shows-receive b c p room a r (released n s ∷ q) e = receive-released b c p room a n s q e

pub shows : (b : State) (c : Call) (k : Command) → Accepted b c k → Ready b → Shows b k (answer_of (step b c))
shows b c (Open p u) a r = tt
shows b c (Disconnect p) a r = tt
shows b c (Create p i) a r = tt
shows b c (Destroy p i) a r = tt
shows b c (Release p i) a r = tt
shows b c (Transfer p i q) a r = transfer-answers b c p i q a (shown-small b q.0 (suc b.accepted) _ r.ids (omega (arith, r.few q.0)))
shows b c (Send p z) a r = tt
shows b c (Receive p room) a r = shows-receive b c p room a r (b.queue p.0) refl
shows b c (Quota p u) a r = tt
shows b c (Holders p i) a r = tt
shows b c (ShowSeed p room) a r =
    seed-shows b c p room a (r.seeds p.0).0 (shown-all-small b p.0 (suc b.accepted) (seed_carries (b.seed p.0)) r.ids (omega (arith, r.few p.0, (r.seeds p.0).0)))

-- One call.
alike-step : {N : ℕ} (cs : List Call) (c : Call) (k : Book) → Alike N (run cs) k → k.entered < N →
    Alike N (step (run cs) c).state (feed k (fed c (step (run cs) c))) × ((feed k (fed c (step (run cs) c))).entered ≤ suc k.entered)
unfolding feed
alike-step {N} cs c k w more = go (came (run cs) c)
  where
    go : Came (run cs) c → Alike N (step (run cs) c).state (feed k (fed c (step (run cs) c))) × ((feed k (fed c (step (run cs) c))).entered ≤ suc k.entered)
    go (left e n) = rw (e, ne_eqb (step (run cs) c).outcome.number 0 n) (w, omega arith)
    go (done d a) =
        let r = ready cs w.ids in
        let t = tested (run cs) c.frame d a.unrefused in
        let s = shows (run cs) c d a r in
        rw (a.after, a.number, a.read) (
          record {
            world = record { name = renamed w.world.name (run cs) k d; sim = sim-command w.world.name (run cs) c.frame d k (answer_of (step (run cs) c)) w.world.sim r a.legal t s more };
            ids = ids-command (run cs) c.frame d r a.legal t (small c d (fields-command c.frame d a.read));
          },
          note-entered k c.frame (answer_of (step (run cs) c)) d,
        )

-- Any further calls.
alike-run : {N : ℕ} (cs ds : List Call) (k : Book) → Alike N (run cs) k → k.entered + length ds ≤ N →
    Alike N (run_from (run cs) ds) (feed_all k (history_from (run cs) ds))
unfolding run_from feed_all history_from
alike-run cs [] k w more = w
alike-run {N} cs (c ∷ ds) k w more =
    let x = alike-step cs c k w (omega arith) in
    let e : run (cs ++ (c ∷ [])) ≡ (step (run cs) c).state = run-append cs (c ∷ []) start in
    rw e at (alike-run {N = N} (cs ++ (c ∷ [])) ds (feed k (fed c (step (run cs) c))) (rw e x.0) (omega (arith, x.1)))

pub alike : (cs : List Call) → Alike (length cs) (run cs) (book_after cs)
unfolding run_from
alike cs = alike-run [] cs empty (alike-start (length cs)) (unfold empty in omega arith)
