-- The theorems that go with specs/SimStep.antt and stand on others: each goes by the definitions and the theorems there.
-- Assumes nothing.
use Rattle.std.specs.Prelude.{ℕ, suc, ◌+◌, ◌<◌, ◌≡◌, List, [], ◌∷◌, map, eqb}
use Rattle.std.proofs.Math.Path.{refl}
use Rattle.std.proofs.Common.{arith, ne_eqb}
use Rattle.laws.specs.Tests.{pick, Seen, Seen.is_true, Seen.is_false, look}
use Rattle.laws.specs.Build.{build-length}
use Rattle.frames.specs.declared.Command.{Command}
use Rattle.frames.specs.declared.Command.TheVariants.{Open, Disconnect, Create, Destroy, Release, Transfer, Send, Receive, Quota, Holders, ShowSeed}
use Rattle.frames.specs.Frame.{send_id, payload_of}
use Rattle.frames.specs.Legal.{Legal, payload-length}
use Rattle.model.specs.Numbers.{invalid}
use Rattle.model.specs.Requests.{destinations, attached}
use Rattle.model.specs.State.{Message, Entry, Entry.message, Entry.destroyed, Entry.released, messages_in, State, slot, Seed.unset, Seed.kept, seed_carries}
use Rattle.model.specs.Tables.{accept, with_queues, with_charges}
use Rattle.model.specs.Changes.{take_out, shown, shown_all, give, give_all, deliver, reseed, settled}
use Rattle.model.specs.Effects.{receives, effect}
use Rattle.model.specs.Book.{Book, answers_message, shown_ids, note, note_receive, note_send, note_seed, nodes_of}
use Rattle.model.specs.Tested.{Tested}
use Rattle.model.specs.Notices.{Carried}
use Rattle.model.specs.Quiet.{quiet-settled}
use Rattle.model.specs.Sim.{told, Sim}
use Rattle.model.specs.SimQueues.{sim-received, sim-quiet}
use Rattle.model.specs.SimGive.{sim-give, shown-valid, live-valid}
use Rattle.model.proofs.SimGive.{sim-gives}
use Rattle.model.specs.SimRelease.{sim-accept, sim-release, sim-open}
use Rattle.model.proofs.SimRelease.{sim-destroy, sim-disconnect}
use Rattle.model.specs.SimCreate.{sim-create}
use Rattle.model.specs.SimSend.{held-at-slot, noted-at-slot, sim-send, nodes-of-slots}
use Rattle.model.specs.SimStep.{ReceiveShows, Shows, Ready, renamed, give-accept, gives-accept, out-accept, received-first, sim-notice, sim-seed, taken-unnamed}

-- Receive: the first message goes to received, and the IDs shown name its nodes.
sim-receive : {N : ℕ} (name : ℕ → ℕ) (b : State) (k : Book) (p n : ℕ) (m : Message) (q : List Entry) (a : List ℕ) → Sim N name b k → Ready b → b.queue p ≡ message n m ∷ q →
    Carried m.carried → shown_ids a ≡ shown_all (take_out b p (m ∷ []) q) p n m.carried →
    Sim N name (settled (give_all (take_out (accept b) p (m ∷ []) q) p n m.carried) p) (note_receive k p (shown_ids a) (k.queue p))
unfolding take_out with_charges with_queues
sim-receive {N} name b k p n m q a r ready e c f =
    let x : k.queue p ≡ told name m ∷ map (told name) (messages_in q) = rw (r.queues p, e) in
    let t : Sim N name (take_out b p (m ∷ []) q) _ = sim-received name b k p (m ∷ []) q r (λ u w. rw x (omega arith)) in
    let g = sim-gives name (take_out b p (m ∷ []) q) _ p n m.carried t ready.ids c.1 (omega (arith, ready.few p, c.0)) in
    sim-quiet _ _ (rw (out-accept b p (m ∷ []) q, gives-accept (take_out b p (m ∷ []) q) p n m.carried, x, f) (sim-accept _ g)) (quiet-settled _ p) (unfold settled with_queues in refl)

sim-receives : {N : ℕ} (name : ℕ → ℕ) (b : State) (k : Book) (p : ℕ) (q : List Entry) (a : List ℕ) → Sim N name b k → Ready b → b.queue p ≡ q → ReceiveShows b p q a →
    Sim N name (receives (accept b) p q) (pick (answers_message a) (note_receive k p (shown_ids a) (k.queue p)) k)
sim-receives name b k p [] a r ready e s = rw s (sim-accept b r)
sim-receives name b k p (message n m ∷ q) a r ready e s =
    rw s.0 (sim-receive name b k p n m q a r ready e (received-first b p (message n m ∷ q) e (ready.carried p)).0 s.1)
sim-receives name b k p (destroyed n t ∷ q) a r ready e s =
    rw (s, out-accept b p [] q) (sim-accept _ (sim-notice b p q r (rw e)))
sim-receives name b k p (released n t ∷ q) a r ready e s =
    rw (s, out-accept b p [] q) (sim-accept _ (sim-notice b p q r (rw e)))

-- An accepted command: bus and book go on alike.
pub sim-command : {N : ℕ} (name : ℕ → ℕ) (b : State) (f : List ℕ) (c : Command) (k : Book) (a : List ℕ) → Sim N name b k → Ready b → Legal f c → Tested b f c → Shows b c a → k.entered < N →
    Sim N (renamed name b k c) (effect b f c) (note k f a c)
unfolding effect note
sim-command name b f (Open p u) k a w ready legal tested shows more = sim-open name (accept b) k p.0 u.0 (sim-accept b w)
sim-command name b f (Disconnect p) k a w ready legal tested shows more =
    sim-seed name _ _ p.0 unset (sim-disconnect name (accept b) k p.0 (sim-accept b w))
sim-command name b f (Create p i) k a w ready legal tested shows more =
    let x = taken-unnamed b p.0 ready tested.free in
    sim-create name (accept b) k p.0 i.0 (sim-accept b w) (omega (arith, legal.0, x.0)) x.0 x.1 (unfold accept in tested.unheld) more
sim-command name b f (Destroy p i) k a w ready legal tested shows more = sim-destroy (accept b) p.0 (slot b p.0 i.0) (sim-accept b w)
sim-command name b f (Release p i) k a w ready legal tested shows more =
    let x = held-at-slot b p.0 i.0 tested.holds in
    rw x.1 (sim-release name (accept b) k p.0 (slot b p.0 i.0) i.0 x.0 (sim-accept b w) tested.holds (unfold accept in x.1))
sim-command name b f (Transfer p i q) k a w ready legal tested shows more =
    let s = slot b p.0 i.0 in
    let n = suc b.accepted in
    let y = noted-at-slot name b k w p.0 i.0 tested.holds in
    let v : shown b q.0 n s ≡ invalid → ⊥ = shown-valid name b k q.0 n s w ready.ids tested.holds (omega (arith, ready.few q.0)) (live-valid b q.0 n s tested.lives) in
    let g = sim-give name b k q.0 n s w ready.ids tested.holds (omega (arith, ready.few q.0)) in
    rw (y.1, shows, give-accept b q.0 n s) (sim-accept (give b q.0 n s) (rw (ne_eqb (shown b q.0 n s) invalid v) at g))
sim-command {N} name b f (Send p z) k a w ready legal tested shows more = seeded-or (look (eqb z.nd 0))
  where
    hs : List ℕ
    hs = map (slot b p.0) (attached f z)

    sent : Sim N name (deliver (accept b) (b.user p.0) (map (slot b p.0) (destinations f z)) hs (payload_of f)) (note_send k p.0 (destinations f z) (attached f z) z)
    sent =
        sim-send name b (accept b) k p.0 (destinations f z) (attached f z) (payload_of f) z w (sim-accept b w) tested.holds tested.holds-attached
        (payload-length f z legal.1) (build-length (λ j. (send_id f (z.nd + j)).0) z.nh)

    seeded-or : Seen (eqb z.nd 0) → Sim N name (reseed (deliver (accept b) (b.user p.0) (map (slot b p.0) (destinations f z)) hs (payload_of f)) (eqb z.nd 0) p.0 (kept (payload_of f) hs))
        (pick (eqb z.nd 0) (note_seed (note_send k p.0 (destinations f z) (attached f z) z) p.0 (nodes_of k p.0 (attached f z))) (note_send k p.0 (destinations f z) (attached f z) z))
    seeded-or (is_false e) = rw e sent
    seeded-or (is_true e) =
        rw (e, nodes-of-slots name b k w p.0 (attached f z) tested.holds-attached) (sim-seed name _ _ p.0 (kept (payload_of f) hs) sent)
sim-command name b f (Receive p room) k a w ready legal tested shows more = sim-receives name b k p.0 (b.queue p.0) a w ready refl shows
sim-command name b f (Quota p u) k a w ready legal tested shows more = w
sim-command name b f (Holders p i) k a w ready legal tested shows more = w
sim-command name b f (ShowSeed p room) k a w ready legal tested shows more =
    let ss = seed_carries (b.seed p.0) in
    let c = ready.seeds p.0 in
    let g = sim-gives name b k p.0 (suc b.accepted) ss w ready.ids c.1 (omega (arith, ready.few p.0, c.0)) in
    rw (gives-accept b p.0 (suc b.accepted) ss, shows, w.seeds p.0 (omega (arith, legal))) (sim-accept _ g)
