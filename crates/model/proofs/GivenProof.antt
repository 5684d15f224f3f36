-- The theorems that go with specs/GivenProof.antt and stand on others: each goes by the definitions and the theorems there.
-- Assumes nothing.
use Rattle.std.specs.Prelude.{ℕ, suc, ◌+◌, ◌%◌, ◌≤◌, ◌<◌, ◌≡◌, eqb}
use Rattle.std.proofs.Math.Path.{refl}
use Rattle.std.proofs.Common.{sym, ap, ◌∙◌, arith, eq-eqb, ne_eqb}
use mathlib.Core.List.{List, [], ◌∷◌, ◌++◌, append-nil, append_assoc, map}
use Rattle.laws.specs.Tests.{pick, Same, Same.same, Same.other, same?}
use Rattle.laws.specs.Weights.{All}
use Rattle.laws.specs.Build.{build}
use Rattle.ids.specs.declared.HandleId.{HandleId}
use Rattle.ids.specs.declared.Peer.{Peer}
use Rattle.frames.specs.declared.Command.{Command}
use Rattle.frames.specs.declared.Command.TheVariants.{Open, Disconnect, Create, Destroy, Release, Transfer, Send, Receive, Quota, Holders, ShowSeed}
use Rattle.frames.specs.Frame.{most_ids, payload_of}
use Rattle.model.specs.Numbers.{nodes, invalid, next_id}
use Rattle.model.specs.Lists.{both}
use Rattle.model.specs.State.{Entry, Entry.message, Entry.destroyed, Entry.released, State, start, slot_of, slot, Seed.kept, seed_carries}
use Rattle.model.specs.Tables.{accept, with_status, with_user, with_handles, with_queues, with_charges, with_lives, with_seed}
use Rattle.model.specs.Refusals.{takeable, refusal}
use Rattle.model.specs.Changes.{push_all, take_out, withdraw, shown, shown_all, give, give_all, notify_all, destroy_all, deliver, valid, settled}
use Rattle.model.specs.Effects.{opens, creates, destroys, disconnects, receives, effect}
use Rattle.model.proofs.Tested.{tested}
use Rattle.model.specs.Notices.{Stands, Carried}
use Rattle.model.proofs.NoticesProof.{noted}
use Rattle.model.proofs.BoundsProof.{given-bound}
use Rattle.model.specs.SimGive.{shown-small}
use Rattle.model.proofs.SimGive.{shown-all-small}
use Rattle.model.specs.SimGive.{Ids as LowIds}
use Rattle.model.proofs.SimRun.{alike}
use Rattle.model.specs.IdsLaws.{Holding}
use Rattle.model.specs.IdsProof.{holding-out}
use Rattle.model.proofs.IdsProof.{holding}
use Rattle.model.specs.Step.{Call, step, run_from, run, answer_of}
use Rattle.model.specs.Book.{answers_message, shown_ids}
use Rattle.model.specs.Accepted.{Accepted, Came, Came.left, Came.done, run-append}
use Rattle.model.proofs.Accepted.{came}
use Rattle.model.proofs.Shown.{transfer-answers, receive-message, receive-shows, receive-destroyed, receive-released, seed-shows}
use Rattle.model.specs.Coded.{coded, destination}
use Rattle.model.specs.Given.{shown_to, holds_id, new_of, given_from, Given}
use Rattle.model.specs.GivenLaws.{most_given}
use Rattle.model.proofs.GivenLaws.{all_new}
use Rattle.model.specs.Requests.{attached}
use Rattle.model.specs.GivenProof.{shown-accept, given-other, givens-other, Grown, none-new, receive_other, release-given, seed-given, both_true, both_false, no-ids, all_build, build-ascends}

-- The IDs that the reply of an accepted command shows to p.
abbrev ids_in : State → ℕ → List Entry → List ℕ
ids_in b p [] = []
ids_in b p (message n m ∷ rest) = shown_all (take_out b p (m ∷ []) rest) p n m.carried
ids_in b p (destroyed n s ∷ rest) = []
ids_in b p (released n s ∷ rest) = []

abbrev showing : State → Command → ℕ → List ℕ
showing b (Open q u) p = []
showing b (Disconnect q) p = []
showing b (Create q i) p = []
showing b (Destroy q i) p = []
showing b (Release q i) p = []
showing b (Transfer q i t) p = pick (eqb t.0 p) (shown b t.0 (suc b.accepted) (slot b q.0 i.0) ∷ []) []
showing b (Send q z) p = []
showing b (Receive q room) p = pick (eqb q.0 p) (ids_in b q.0 (b.queue q.0)) []
showing b (Quota q u) p = []
showing b (Holders q i) p = []
showing b (ShowSeed q room) p = pick (eqb q.0 p) (shown_all b q.0 (suc b.accepted) (seed_carries (b.seed q.0))) []

-- What the proof needs to know of a run's bus.
record Facts (b : State) : Type 0 where
  holding : Holding b
  stands : (p : ℕ) → All (Stands b.handle b.life p) (b.queue p)
  seeds : (p : ℕ) → Carried (seed_carries (b.seed p))
  few : (p : ℕ) → b.given p + most_ids ≤ most_given
  low : LowIds b

facts : (cs : List Call) → Facts (run cs)
facts cs = record { holding = holding cs; stands = (noted cs).stands; seeds = (noted cs).seeds; few = λ p. omega (arith, given-bound cs p); low = (alike cs).ids }

transfer-new : (b : State) (q as_of s p : ℕ) → Facts b → s < nodes → Grown b (give (accept b) q as_of s) p (pick (eqb q p) (shown b q as_of s ∷ []) [])
unfolding accept valid shown slot_of
transfer-new b q as_of s p v l = go (same? q p)
  where
    go : Same q p → Grown b (give (accept b) q as_of s) p (pick (eqb q p) (shown b q as_of s ∷ []) [])
    go (other z) = rw (ne_eqb q p z) (none-new b (give (accept b) q as_of s) p (given-other (accept b) q as_of s p z))
    go (same z) =
        rw (← z, eq-eqb q q refl)
        (all_new (accept b) q as_of (s ∷ []) (holds_id b q) (record { handles = v.holding.handles; owned = v.holding.owned }) (l, tt)
        (omega (arith, v.few q)) (λ j n. refl))

receive-own : (b : State) (q : ℕ) (es : List Entry) → Facts b → All (Stands b.handle b.life q) es → Grown b (receives (accept b) q es) q (ids_in b q es)
unfolding settled take_out with_charges with_queues accept slot_of
receive-own b q [] v a = none-new b (accept b) q refl
receive-own b q (message n m ∷ rest) v a =
    let x = take_out (accept b) q (m ∷ []) rest in
    let y = take_out b q (m ∷ []) rest in
    ap (λ (z : List ℕ). build next_id (b.given q) ++ new_of (holds_id b q) z) (sym (shown-accept y q n m.carried))
    ∙ all_new x q n m.carried (holds_id b q) (holding-out b q (m ∷ []) rest v.holding) a.0.2.1 (omega (arith, v.few q, a.0.2.0)) (λ j n. refl)
receive-own b q (destroyed n s ∷ rest) v a = none-new b (take_out (accept b) q [] rest) q refl
receive-own b q (released n s ∷ rest) v a = none-new b (take_out (accept b) q [] rest) q refl

receive-new : (b : State) (q p : ℕ) (es : List Entry) → Facts b → All (Stands b.handle b.life q) es → Grown b (receives (accept b) q es) p (pick (eqb q p) (ids_in b q es) [])
receive-new b q p es v a = go (same? q p)
  where
    go : Same q p → Grown b (receives (accept b) q es) p (pick (eqb q p) (ids_in b q es) [])
    go (other z) = rw (ne_eqb q p z) (none-new b (receives (accept b) q es) p (receive_other b q p es z))
    go (same z) = rw (← z, eq-eqb q q refl) (receive-own b q es v a)

seed-new : (b : State) (q as_of p : ℕ) (ss : List ℕ) → Facts b → Carried ss → Grown b (give_all (accept b) q as_of ss) p (pick (eqb q p) (shown_all b q as_of ss) [])
unfolding accept slot_of
seed-new b q as_of p ss v a = go (same? q p)
  where
    go : Same q p → Grown b (give_all (accept b) q as_of ss) p (pick (eqb q p) (shown_all b q as_of ss) [])
    go (other z) = rw (ne_eqb q p z) (none-new b (give_all (accept b) q as_of ss) p (givens-other (accept b) q as_of ss p z))
    go (same z) =
        rw (← z, eq-eqb q q refl)
        (ap (λ (z : List ℕ). build next_id (b.given q) ++ new_of (holds_id b q) z) (sym (shown-accept b q as_of ss))
        ∙ all_new (accept b) q as_of ss (holds_id b q) (record { handles = v.holding.handles; owned = v.holding.owned }) a.1 (omega (arith, v.few q, a.0)) (λ j n. refl))

-- Every accepted command.
command-new : (b : State) (f : List ℕ) (k : Command) → Facts b → refusal b f k ≡ 0 → (p : ℕ) → Grown b (effect b f k) p (showing b k p)
unfolding effect
command-new b f (Open q u) v e p = none-new b (opens (accept b) q.0 u.0) p (unfold opens with_user with_status accept in refl)
command-new b f (Disconnect q) v e p =
    none-new b (effect b f (Disconnect q)) p
    (unfold with_seed disconnects notify_all push_all with_queues with_status with_handles take_out with_charges destroy_all with_lives withdraw accept in refl)
command-new b f (Create q i) v e p = none-new b (creates (accept b) q.0 i.0) p (unfold creates with_handles with_lives accept in refl)
command-new b f (Destroy q i) v e p =
    none-new b (destroys (accept b) q.0 (slot b q.0 i.0)) p (unfold destroys destroy_all push_all with_queues with_lives withdraw accept in refl)
command-new b f (Release q i) v e p =
    none-new b (effect b f (Release q i)) p
    (ap (λ (g : ℕ → ℕ). g p) (release-given b q.0 (slot b q.0 i.0) (b.handle q.0 (slot b q.0 i.0))))
command-new b f (Transfer q i t) v e p = transfer-new b t.0 (suc b.accepted) (slot b q.0 i.0) p v (tested b f (Transfer q i t) e).holds
command-new b f (Send q z) v e p =
    none-new b (effect b f (Send q z)) p (seed-given _ (eqb z.nd 0) q.0 (kept (payload_of f) (map (slot b q.0) (attached f z))) p ∙ (unfold deliver with_charges push_all with_queues accept in refl))
command-new b f (Receive q room) v e p = receive-new b q.0 p (b.queue q.0) v (v.stands q.0)
command-new b f (Quota q u) v e p = none-new b b p refl
command-new b f (Holders q i) v e p = none-new b b p refl
command-new b f (ShowSeed q room) v e p = seed-new b q.0 (suc b.accepted) p (seed_carries (b.seed q.0)) v (v.seeds q.0)

-- What the bytes of the answer show is what the reply shows.
transfer-shows : (b : State) (c : Call) (q : Peer) (i : HandleId) (t : Peer) (p : ℕ) → Facts b → Accepted b c (Transfer q i t) →
    shown_to p c (step b c) ≡ showing b (Transfer q i t) p
transfer-shows b c q i t p v a =
    let d = coded c.frame (Transfer q i t) a.read in
    let h = shown-small b t.0 (suc b.accepted) (slot b q.0 i.0) v.low (omega (arith, v.few t.0)) in
    rw (eq-eqb (step b c).outcome.number 0 a.number, d.byte, destination c.frame q i t a.read, transfer-answers b c q i t a h) refl

module _ (b : State) (c : Call) (q : Peer) (room p : ℕ) (v : Facts b) (a : Accepted b c (Receive q room)) where
  receive-frame : shown_to p c (step b c) ≡ pick (both (eqb q.0 p) (answers_message (answer_of (step b c)))) (shown_ids (answer_of (step b c))) []
  receive-frame =
      let d = coded c.frame (Receive q room) a.read in
      rw (eq-eqb (step b c).outcome.number 0 a.number, d.byte, d.peer) refl

  receive-first : (es : List Entry) → b.queue q.0 ≡ es → All (Stands b.handle b.life q.0) es → takeable room es ≡ 0 →
      pick (both (eqb q.0 p) (answers_message (answer_of (step b c)))) (shown_ids (answer_of (step b c))) [] ≡ pick (eqb q.0 p) (ids_in b q.0 es) []
  receive-first [] e w n = absurd (omega arith)
  receive-first (message k m ∷ rest) e w n =
      let y = take_out b q.0 (m ∷ []) rest in
      let h = shown-all-small y q.0 k m.carried (unfold take_out with_charges with_queues in v.low)
      (unfold take_out with_charges with_queues in (omega (arith, w.0.2.0, v.few q.0))) in
      rw (receive-message b c q room a k m rest e, receive-shows b c q room a k m rest e w.0.2.0 h)
      (both_true (eqb q.0 p) (shown_all y q.0 k m.carried) [])
  receive-first (destroyed k s ∷ rest) e w n =
      rw (receive-destroyed b c q room a k s rest e) (both_false (eqb q.0 p) (shown_ids (answer_of (step b c))) [])
  receive-first (released k s ∷ rest) e w n =
      rw (receive-released b c q room a k s rest e) (both_false (eqb q.0 p) (shown_ids (answer_of (step b c))) [])

  receive-shown : shown_to p c (step b c) ≡ showing b (Receive q room) p
  receive-shown = receive-frame ∙ receive-first (b.queue q.0) refl (v.stands q.0) (tested b c.frame (Receive q room) a.unrefused).next

answer-shows : (b : State) (c : Call) (k : Command) (p : ℕ) → Facts b → Accepted b c k → shown_to p c (step b c) ≡ showing b k p
answer-shows b c (Open q u) p v a = no-ids b c p 1 (coded c.frame (Open q u) a.read).byte refl refl refl
answer-shows b c (Disconnect q) p v a = no-ids b c p 2 (coded c.frame (Disconnect q) a.read).byte refl refl refl
answer-shows b c (Create q i) p v a = no-ids b c p 3 (coded c.frame (Create q i) a.read).byte refl refl refl
answer-shows b c (Destroy q i) p v a = no-ids b c p 4 (coded c.frame (Destroy q i) a.read).byte refl refl refl
answer-shows b c (Release q i) p v a = no-ids b c p 5 (coded c.frame (Release q i) a.read).byte refl refl refl
answer-shows b c (Transfer q i t) p v a = transfer-shows b c q i t p v a
answer-shows b c (Send q z) p v a = no-ids b c p 7 (coded c.frame (Send q z) a.read).byte refl refl refl
answer-shows b c (Receive q room) p v a = receive-shown b c q room p v a
answer-shows b c (Quota q u) p v a = no-ids b c p 9 (coded c.frame (Quota q u) a.read).byte refl refl refl
answer-shows b c (Holders q i) p v a = no-ids b c p 10 (coded c.frame (Holders q i) a.read).byte refl refl refl
answer-shows b c (ShowSeed q room) p v a =
    let d = coded c.frame (ShowSeed q room) a.read in
    let h = shown-all-small b q.0 (suc b.accepted) (seed_carries (b.seed q.0)) v.low (omega (arith, (v.seeds q.0).0, v.few q.0)) in
    rw (eq-eqb (step b c).outcome.number 0 a.number, d.byte, d.peer, seed-shows b c q room a (v.seeds q.0).0 h) refl

-- Every call, and every run.
call-new : (b : State) (c : Call) (p : ℕ) → Facts b → Grown b (step b c).state p (shown_to p c (step b c))
call-new b c p v = go (came b c)
  where
    go : Came b c → Grown b (step b c).state p (shown_to p c (step b c))
    go (left e n) = rw (ne_eqb (step b c).outcome.number 0 n) (none-new b (step b c).state p (ap (λ (x : State). x.given p) e))
    go (done k a) = rw (answer-shows b c k p v a, a.after) (command-new b c.frame k v a.unrefused p)

run-new : (before cs : List Call) (p : ℕ) →
    build next_id ((run before).given p) ++ given_from (run before) p cs ≡ build next_id ((run_from (run before) cs).given p)
unfolding given_from run_from
run-new before [] p = append-nil (build next_id ((run before).given p))
run-new before (c ∷ cs) p =
    let b = run before in
    let x = (step b c).state in
    let new : List ℕ = new_of (holds_id b p) (shown_to p c (step b c)) in
    let e : run (before ++ (c ∷ [])) ≡ x = run-append before (c ∷ []) start in
    sym (append_assoc (build next_id (b.given p)) new (given_from x p cs))
    ∙ ap (λ (l : List ℕ). l ++ given_from x p cs) (call-new b c p (facts before))
    ∙ (rw e at (run-new (before ++ (c ∷ [])) cs p))

pub given : Given
given cs p =
    record {
      exactly = e;
      rising = rw e (build-ascends next_id n (λ i j l. omega arith));
      apart = rw e (all_build (λ i. (i % 4 ≡ 3) × (i < invalid)) next_id n (λ j l. (omega arith, omega (arith, given-bound cs p))));
    }
  where
    n : ℕ
    n = (run cs).given p

    e : given_from start p cs ≡ build next_id n
    e = unfold start build run_from in run-new [] cs p
