-- The theorems that go with specs/Named.antt and stand on others: each goes by the definitions and the theorems there.
-- Assumes nothing.
use Rattle.std.specs.Prelude.{ℕ, suc, ◌≡◌, length}
use Rattle.std.proofs.Math.Path.{ap}
use Rattle.std.proofs.Common.{◌∙◌, arith}
use mathlib.Core.List.{List, [], ◌∷◌, ◌++◌, map}
use Rattle.ids.specs.declared.Peer.{Peer}
use Rattle.frames.specs.declared.Command.TheVariants.{Receive, ShowSeed}
use Rattle.model.specs.State.{Message, Entry, Entry.message, State, seed_carries}
use Rattle.model.specs.Tables.{accept, with_queues}
use Rattle.model.specs.Changes.{take_out, shown_all, give_all, settled}
use Rattle.model.specs.Effects.{receives, effect}
use Rattle.model.specs.Step.{Call, step, run, answer_of}
use Rattle.model.specs.Book.{note, shown_ids}
use Rattle.model.specs.Claim.{book_after}
use Rattle.model.specs.Accepted.{Accepted}
use Rattle.model.proofs.Tested.{tested}
use Rattle.model.specs.Sim.{called}
use Rattle.model.specs.SimStep.{ReceiveShows, gives-accept, out-accept}
use Rattle.model.proofs.SimStep.{sim-command}
use Rattle.model.proofs.SimRun.{ready, shows as answer-shows}
use Rattle.model.specs.Sources.{Story, book-noted}
use Rattle.model.specs.Named.{ShownFor, GivenFor, given-for, shown-for}

-- An accepted receive of which a message is the first entry.
module _ (cs : List Call) (c : Call) (p : Peer) (room : ℕ) (a : Accepted (run cs) c (Receive p room)) where
  module _ (n : ℕ) (m : Message) (q : List Entry) (e : (run cs).queue p.0 ≡ message n m ∷ q) where
    handles-after : (effect (run cs) c.frame (Receive p room)).handle ≡ (give_all (take_out (run cs) p.0 (m ∷ []) q) p.0 n m.carried).handle
    unfolding effect accept settled with_queues
    handles-after =
        ap (λ (x : List Entry). (receives (accept (run cs)) p.0 x).handle) e
        ∙ ap (λ (x : State). (give_all x p.0 n m.carried).handle) (out-accept (run cs) p.0 (m ∷ []) q)
        ∙ ap (λ (x : State). x.handle) (gives-accept (take_out (run cs) p.0 (m ∷ []) q) p.0 n m.carried)

    pub attached-shown : (w : Story (suc (length cs)) cs) → ShownFor (book_after (cs ++ (c ∷ []))) p.0 (shown_ids (answer_of (step (run cs) c))) (map (called w.name) m.carried)
    attached-shown w =
        let b = run cs in
        let r = ready cs w.ids in
        let t = tested b c.frame (Receive p room) a.unrefused in
        let sh = answer-shows b c (Receive p room) a r in
        let s = sim-command w.name b c.frame (Receive p room) (book_after cs) (answer_of (step b c)) w.sim r a.legal t sh (omega (arith, w.entered)) in
        let y : ReceiveShows b p.0 (message n m ∷ q) (answer_of (step b c)) = rw e at sh in
        let g : GivenFor ((effect b c.frame (Receive p room)).handle p.0) (shown_all (take_out b p.0 (m ∷ []) q) p.0 n m.carried) m.carried =
        rw handles-after (given-for (take_out b p.0 (m ∷ []) q) p.0 n m.carried) in
        rw (book-noted cs c (Receive p room) a, y.1) (shown-for w.name ((effect b c.frame (Receive p room)).handle p.0) (note (book_after cs) c.frame (answer_of (step b c)) (Receive p room)) p.0 (s.handles p.0)
        (shown_all (take_out b p.0 (m ∷ []) q) p.0 n m.carried) m.carried g)

-- An accepted reading of the seed: "enters the IDs that 0c shows as it does a receive's".
module _ (cs : List Call) (c : Call) (p : Peer) (room : ℕ) (a : Accepted (run cs) c (ShowSeed p room)) where
  seed-handles : (effect (run cs) c.frame (ShowSeed p room)).handle ≡ (give_all (run cs) p.0 (suc (run cs).accepted) (seed_carries ((run cs).seed p.0))).handle
  unfolding effect accept
  seed-handles = ap (λ (x : State). x.handle) (gives-accept (run cs) p.0 (suc (run cs).accepted) (seed_carries ((run cs).seed p.0)))

  pub seed-shown : (w : Story (suc (length cs)) cs) →
      ShownFor (book_after (cs ++ (c ∷ []))) p.0 (shown_ids (answer_of (step (run cs) c))) (map (called w.name) (seed_carries ((run cs).seed p.0)))
  seed-shown w =
      let b = run cs in
      let ss = seed_carries (b.seed p.0) in
      let r = ready cs w.ids in
      let t = tested b c.frame (ShowSeed p room) a.unrefused in
      let sh = answer-shows b c (ShowSeed p room) a r in
      let s = sim-command w.name b c.frame (ShowSeed p room) (book_after cs) (answer_of (step b c)) w.sim r a.legal t sh (omega (arith, w.entered)) in
      let g : GivenFor ((effect b c.frame (ShowSeed p room)).handle p.0) (shown_all b p.0 (suc b.accepted) ss) ss = rw seed-handles (given-for b p.0 (suc b.accepted) ss) in
      rw (book-noted cs c (ShowSeed p room) a, sh)
      (shown-for w.name ((effect b c.frame (ShowSeed p room)).handle p.0) (note (book_after cs) c.frame (answer_of (step b c)) (ShowSeed p room)) p.0 (s.handles p.0)
      (shown_all b p.0 (suc b.accepted) ss) ss g)
