-- The theorems that go with specs/QueuesProof.antt and stand on others: each goes by the definitions and the theorems there.
-- Assumes nothing.
use Prim.Native.Nat.{ℕ, suc, ◌-◌, ◌≤◌, ◌<◌}
use Rattle.std.specs.Prelude.{◌≡◌, Bool}
use Rattle.std.proofs.Math.Path.{refl}
use Rattle.std.proofs.Common.{sym, ap, subst, ◌∙◌, arith}
use Rattle.std.proofs.Math.Bool.{true, false}
use Rattle.std.proofs.Math.Logic.◌⊎◌.{inl, inr}
use mathlib.Core.List.{List, [], ◌∷◌, ◌++◌, map}
use Rattle.std.proofs.Math.Dec.{eqb}
use borrow.Author.Tests.{eqb-true, eq-eqb, ne_eqb}
use Rattle.laws.specs.Tests.{pick, pick-cases, Seen, Seen.is_true, Seen.is_false, look, Same, Same.same, Same.other, same?}
use Rattle.laws.specs.Tables.{upd, upd_same}
use Rattle.laws.specs.Weights.{keep, All, all_keep}
use Rattle.frames.specs.declared.Command.{Command}
use Rattle.frames.specs.declared.Command.TheVariants.{Open, Disconnect, Create, Destroy, Release, Transfer, Send, Receive, Quota, Holders, ShowSeed}
use Rattle.frames.specs.Frame.{payload_of}
use Rattle.frames.specs.Legal.{Legal}
use Rattle.model.specs.Numbers.{peers, owner}
use Rattle.model.specs.Lists.{both, any}
use Rattle.model.specs.State.{Status.disconnected, is_live, Handle, Handle.none, Handle.some, handle_of, held, count, Message, Entry, Entry.message, Entry.destroyed, Entry.released, messages_in, State, slot, total, by_owner_id, Seed, Seed.unset, Seed.kept, seed_carries, earlier, concerned}
use Rattle.model.specs.Requests.{destinations, attached}
use Rattle.model.specs.Tables.{accept, with_status, with_user, with_given, with_handles, with_handle, with_queues, with_charges, with_lives, with_seed}
use Rattle.model.specs.Refusals.{refusal}
use Rattle.model.specs.Changes.{push, push_all, take_out, withdraw, shown, give, give_all, dropped, remains, forget, fell, notify, release_notices, notify_all, destroy_notices, destroy_all, arriving, deliver, given_after, reseed, valid, stays, settle, settled}
use Rattle.model.specs.Effects.{opens, creates, destroys, releases, releases_handle, disconnects, receives, effect}
use Rattle.model.proofs.Tested.{tested}
use Rattle.model.specs.Queues.{Later, Later.behind, Lapsed, Next, front, taken_by, sent_by, MovedBy, Moved}
use Rattle.model.specs.QueuesLaws.{later_refl, later-keep, later-empty, later_trans, later-front, Each, map-new, map-all-of, later-imp}
use Rattle.model.proofs.QueuesLaws.{each-push, each-push_all, each-at_peers, each-take_out, each-withdraw, each_set}
use Rattle.model.specs.Unchanged.{notify-apart}
use Rattle.laws.specs.Loads.{all_map}
use Rattle.model.specs.QueuesProof.{give-raises, give-total, gives-total, unsettled, notify-earlier, not-remaining, first_out, lapsed-seed, disconnect-earlier, sent-next}

moved-give : (new : Entry → Type 0) (b a x : State) (p as_of s : ℕ) → p < peers → ((t : ℕ) → total b.handle t ≤ total x.handle t) →
    ((t : ℕ) → total (give x p as_of s).handle t ≤ total a.handle t) → Each (Lapsed b a) new x (give x p as_of s)
unfolding give with_handles with_given
moved-give new b a x p as_of s l low high = go (look (valid x p as_of s))
  where
    given : State
    given =
        with_handle (with_given x (upd x.given p (given_after (x.handle p s) (x.given p)))) p s
        (handle_of (shown x p as_of s) (suc (count (x.handle p s))))

    go : Seen (valid x p as_of s) → Each (Lapsed b a) new x (give x p as_of s)
    go (is_false e) = rw e (λ q. later_refl (x.queue q))
    go (is_true e) =
        let up : total b.handle s < total a.handle s = omega (arith, low s, give-raises x p as_of s l e, high s) in
        rw e (each-withdraw (Lapsed b a) new given (owner s) (eqb s) (λ n t z. inr (inl (rw (← eqb-true s t z) up))))

-- a is any state with at least the counts that are left.
moved-gives : (new : Entry → Type 0) (b a x : State) (p as_of : ℕ) (ss : List ℕ) → p < peers → ((t : ℕ) → total b.handle t ≤ total x.handle t) →
    ((t : ℕ) → total (give_all x p as_of ss).handle t ≤ total a.handle t) → Each (Lapsed b a) new x (give_all x p as_of ss)
moved-gives new b a x p as_of [] l low high q = later_refl (x.queue q)
moved-gives new b a x p as_of (s ∷ ss) l low high q =
    later_trans (moved-give new b a x p as_of s l low (λ t. omega (arith, gives-total (give x p as_of s) p as_of ss t l, high t)) q)
    (moved-gives new b a (give x p as_of s) p as_of ss l (λ t. omega (arith, low t, give-total x p as_of s t l)) high q)

moved-forget : (gone : ℕ → Entry → Type 0) (new : Entry → Type 0) (x : State) (p s : ℕ) → ((e : Entry) → remains p s e ≡ false → gone p e) →
    ((n t : ℕ) → held (x.handle p t) ≡ false → any (earlier n t) (settle (x.handle p) (keep (remains p s) (x.queue p))) ≡ false → gone p (destroyed n t)) → Each gone new x (forget x p s)
unfolding forget settle
moved-forget gone new x p s h d =
    let q = keep (remains p s) (x.queue p) in
    each-take_out gone new x p (keep (dropped p s) (messages_in (x.queue p))) (keep (stays (x.handle p) q) q)
    (later_trans (later-keep (remains p s) h (x.queue p)) (later-keep (stays (x.handle p) q) (unsettled (x.handle p) q (gone p) d) q))

moved-settled : (b : State) (new : Entry → Type 0) (x : State) (p : ℕ) → Each (Lapsed b (settled x p)) new x (settled x p)
unfolding settled settle with_queues
moved-settled b new x p =
    each_set (Lapsed b (settled x p)) new x p (keep (stays (x.handle p) (x.queue p)) (x.queue p))
    (later-keep (stays (x.handle p) (x.queue p)) (unsettled (x.handle p) (x.queue p) (Lapsed b (settled x p) p) (λ n t z y. (z, rw upd_same y))) (x.queue p))

-- One command in the state b, and any fact of what it queues: notices with its number, and a send's messages.
module _ (b : State) (new : Entry → Type 0) (of-destroy : (s : ℕ) → new (destroyed (suc b.accepted) s)) (of-release : (s : ℕ) → new (released (suc b.accepted) s)) where
  destroy-new : (p : ℕ) (t : ℕ → Bool) (q : ℕ) → All new (destroy_notices (accept b) p t q)
  unfolding destroy_notices accept
  destroy-new p t q = map-new new (destroyed (suc b.accepted)) of-destroy (by_owner_id b.handle p (λ s. both (t s) (concerned (b.handle q) (b.queue q) (suc b.accepted) s)))

  release-new : (x : State) (q : ℕ) → x.accepted ≡ suc b.accepted → All new (release_notices (accept b) x q)
  unfolding release_notices
  release-new x q e = map-new new (released x.accepted) (λ s. rw e (of-release s)) (by_owner_id x.handle q (fell (accept b) x))

  -- The nodes of p that pass are destroyed: their release notices go. a is any state in which they are dead.
  moved-destroy_all : (a : State) (p : ℕ) (t : ℕ → Bool) → ((s : ℕ) → t s ≡ true → (n : ℕ) → Lapsed b a p (released n s)) → Each (Lapsed b a) new b (destroy_all (accept b) p t)
  unfolding destroy_all with_lives push_all with_queues withdraw accept
  moved-destroy_all a p t h q =
      later_trans
      (each-withdraw (Lapsed b a) new (accept b) p t (λ n s e. h s e n) q)
      (each-at_peers (Lapsed b a) new (withdraw (accept b) p t) (destroy_notices (accept b) p t) (destroy-new p t) q)

  moved-destroy : (p s : ℕ) → owner s ≡ p → Each (Lapsed b (destroys (accept b) p s)) new b (destroys (accept b) p s)
  unfolding destroys
  moved-destroy p s o = moved-destroy_all (destroys (accept b) p s) p (eqb s) (λ t e n. inr (inr (dies t e)))
    where
      dies : (t : ℕ) → eqb s t ≡ true → is_live ((destroys (accept b) p s).life t) ≡ false
      dies t e = unfold destroy_all push_all with_queues with_lives in rw (eq-eqb (owner t) p (ap owner (sym (eqb-true s t e)) ∙ o), e) refl

  -- Disconnect: all that stood at the peer goes.
  moved-disconnect : (p : ℕ) → Each (Lapsed b (disconnects (accept b) p)) new b (disconnects (accept b) p)
  unfolding disconnects notify_all with_status with_handles push_all with_queues accept
  moved-disconnect p q =
      let died = destroy_all (accept b) p (λ s. is_live (b.life s)) in
      let emptied = take_out died p (messages_in (b.queue p)) [] in
      let a = disconnects (accept b) p in
      let x = with_status (with_handles emptied p (λ s. none)) p disconnected in
      later_trans (moved-destroy_all a p (λ s. is_live (b.life s)) (λ s e n. all-gone (released n s)) q)
      (later_trans (each-take_out (Lapsed b a) new died p (messages_in (b.queue p)) [] (later-empty all-gone (died.queue p)) q)
      (each-at_peers (Lapsed b a) new x (release_notices (accept b) x) (λ r. release-new x r (unfold take_out with_charges destroy_all with_lives withdraw in refl)) q))
    where
      no-handle : (s : ℕ) → held ((disconnects (accept b) p).handle p s) ≡ false
      no-handle s = rw upd_same refl

      all-gone : (e : Entry) → Lapsed b (disconnects (accept b) p) p e
      all-gone (message n m) = no-handle m.to
      all-gone (destroyed n s) = (no-handle s, disconnect-earlier (accept b) p n s)
      all-gone (released n s) = inl (no-handle s)

  -- Release: at count 1 what stood at the peer for the node goes.
  moved-notify : (gone : ℕ → Entry → Type 0) (a x : State) (s : ℕ) → x.accepted ≡ suc b.accepted → Each gone new x (notify a x s)
  unfolding notify
  moved-notify gone a x s e =
      pick-cases (λ y. Each gone new x y) (fell a x s) (push x (owner s) (released x.accepted s ∷ [])) x
      (λ z. each-push gone new x (owner s) (released x.accepted s ∷ []) (rw e (of-release s), tt))
      (λ z q. later_refl (x.queue q))

  moved-release : (p s i c : ℕ) → Each (Lapsed b (releases (accept b) p s i c)) new b (releases (accept b) p s i c)
  unfolding releases with_handles accept forget take_out with_charges with_queues
  moved-release p s i c = go (look (eqb c 1))
    where
      less : State
      less = with_handle (accept b) p s (handle_of i (c - 1))

      go : Seen (eqb c 1) → Each (Lapsed b (releases (accept b) p s i c)) new b (releases (accept b) p s i c)
      go (is_false z) = rw z (moved-notify (Lapsed b (notify (accept b) less s)) (accept b) less s refl)
      go (is_true z) =
          rw z
          (λ q. let a = notify (accept b) (forget less p s) s in
          let e : c - 1 ≡ 0 = omega (arith, eqb-true c 1 z) in
          let none_left : held (a.handle p s) ≡ false = rw ((notify-apart (accept b) (forget less p s) s).handle, upd_same, upd_same, e) refl in
          later_trans (moved-forget (Lapsed b a) new less p s (not-remaining b a p s none_left)
          (λ n t z y. (rw (notify-apart (accept b) (forget less p s) s).handle z, notify-earlier (accept b) (forget less p s) s n t p ∙ rw upd_same y)) q)
          (moved-notify (Lapsed b a) (accept b) (forget less p s) s refl q))

  moved-releases : (p s : ℕ) (h : Handle) → Each (Lapsed b (releases_handle (accept b) p s h)) new b (releases_handle (accept b) p s h)
  unfolding accept
  moved-releases p s none q = later_refl (b.queue q)
  moved-releases p s (some i c) q = moved-release p s i c q

  -- Receive: the first entry comes out, and the handles that a message carries are given.
  moved_out : (p : ℕ) (out : List Message) (e : Entry) (rest : List Entry) → b.queue p ≡ e ∷ rest → (a : State) →
      Each (Lapsed b a) new (take_out (accept b) p out rest) a → (q : ℕ) → MovedBy new b a q (pick (eqb p q) (front (b.queue q)) [])
  moved_out p out e rest h a each q =
      subst (λ (z : List Entry). Later (Lapsed b a q) new z (pick (eqb p q) (front (b.queue q)) [] ++ a.queue q))
      (sym (first_out b p out e rest h q))
      (later-front (pick (eqb p q) (front (b.queue q)) []) (each q))

  moved-receive : (p : ℕ) → p < peers → (es : List Entry) → b.queue p ≡ es → (q : ℕ) →
      MovedBy new b (receives (accept b) p es) q (pick (eqb p q) (front (b.queue q)) [])
  moved-receive p l [] h q = go (same? p q)
    where
      go : Same p q → MovedBy new b (accept b) q (pick (eqb p q) (front (b.queue q)) [])
      go (same z) = unfold accept in rw (← z, eq-eqb p p refl, h) (behind tt)
      go (other z) = unfold accept in rw (ne_eqb p q z) (later_refl (b.queue q))
  moved-receive p l (message n m ∷ rest) h q =
      let x = take_out (accept b) p (m ∷ []) rest in
      let y = give_all x p n m.carried in
      moved_out p (m ∷ []) (message n m) rest h (settled y p)
      (λ r. later_trans
      (moved-gives new b (settled y p) x p n m.carried l (λ t. unfold take_out with_charges with_queues accept in (omega arith)) (λ t. unfold settled with_queues in (omega arith)) r)
      (moved-settled b new y p r))
      q
  moved-receive p l (destroyed n s ∷ rest) h q =
      let x = take_out (accept b) p [] rest in
      moved_out p [] (destroyed n s) rest h x (λ r. later_refl (x.queue r)) q
  moved-receive p l (released n s ∷ rest) h q =
      let x = take_out (accept b) p [] rest in
      moved_out p [] (released n s) rest h x (λ r. later_refl (x.queue r)) q

  -- Send.
  arriving-new : (u : ℕ) (ds hs bytes : List ℕ) (q : ℕ) → All (λ d. new (message (suc b.accepted) (record { to = d; user = u; payload = bytes; carried = hs }))) ds →
      All new (arriving (accept b) u ds hs bytes q)
  unfolding arriving accept
  arriving-new u ds hs bytes q h =
      all_map new (λ d. message (suc b.accepted) (record { to = d; user = u; payload = bytes; carried = hs })) (keep (λ d. eqb (owner d) q) ds)
      (all_keep (λ d. new (message (suc b.accepted) (record { to = d; user = u; payload = bytes; carried = hs }))) (λ d. eqb (owner d) q) ds h)

  moved-send : (u : ℕ) (ds hs bytes : List ℕ) → All (λ d. new (message (suc b.accepted) (record { to = d; user = u; payload = bytes; carried = hs }))) ds →
      Each (Lapsed b (deliver (accept b) u ds hs bytes)) new b (deliver (accept b) u ds hs bytes)
  unfolding deliver with_charges accept
  moved-send u ds hs bytes h =
      each-push_all (Lapsed b (deliver (accept b) u ds hs bytes)) new (accept b) (arriving (accept b) u ds hs bytes) (λ r. arriving-new u ds hs bytes r h)

  -- A seed moves no entry.
  unseeded : (a : State) (t : Bool) (q : ℕ) (x : Seed) (p : ℕ) → MovedBy new b a p [] → MovedBy new b (reseed a t q x) p []
  unfolding with_seed
  unseeded a true q x p m = later-imp (lapsed-seed b a q x p) (λ e n. n) m
  unseeded a false q x p m = m

  -- Every accepted command.
  pub moved_by : (f : List ℕ) (k : Command) → All new (sent_by b f k) → Legal f k → refusal b f k ≡ 0 → (p : ℕ) → MovedBy new b (effect b f k) p (taken_by b p k)
  unfolding effect accept
  moved_by f (Open q u) n l e p = unfold opens with_user with_status in later_refl (b.queue p)
  moved_by f (Disconnect q) n l e p = unseeded _ true q.0 unset p (moved-disconnect q.0 p)
  moved_by f (Create q i) n l e p = unfold creates with_handles with_lives in later_refl (b.queue p)
  moved_by f (Destroy q i) n l e p = moved-destroy q.0 (slot b q.0 i.0) (tested b f (Destroy q i) e).owns p
  moved_by f (Release q i) n l e p = moved-releases q.0 (slot b q.0 i.0) (b.handle q.0 (slot b q.0 i.0)) p
  moved_by f (Transfer q i t) n l e p =
      let s = slot b q.0 i.0 in
      let m : t.0 < peers = omega (arith, l.1) in
      moved-give new b (give (accept b) t.0 (suc b.accepted) s) (accept b) t.0 (suc b.accepted) s m (λ r. omega arith) (λ r. omega arith) p
  moved_by f (Send q z) n l e p =
      unseeded _ (eqb z.nd 0) q.0 (kept (payload_of f) (map (slot b q.0) (attached f z))) p
      (moved-send (b.user q.0) (map (slot b q.0) (destinations f z)) (map (slot b q.0) (attached f z)) (payload_of f)
      (map-all-of new (λ d. message (suc b.accepted) (record { to = d; user = b.user q.0; payload = payload_of f; carried = map (slot b q.0) (attached f z) }))
      (map (slot b q.0) (destinations f z)) n)
      p)
  moved_by f (Receive q room) n l e p = moved-receive q.0 (omega (arith, l)) (b.queue q.0) refl p
  moved_by f (Quota q u) n l e p = later_refl (b.queue p)
  moved_by f (Holders q i) n l e p = later_refl (b.queue p)
  moved_by f (ShowSeed q room) n l e p = let n = suc b.accepted in
      let ss = seed_carries (b.seed q.0) in
      moved-gives new b (give_all (accept b) q.0 n ss) (accept b) q.0 n ss (omega (arith, l)) (λ t. omega arith) (λ t. omega arith) p

pub moved : (b : State) (f : List ℕ) (k : Command) → Legal f k → refusal b f k ≡ 0 → (p : ℕ) → Moved b (effect b f k) p (taken_by b p k)
moved b f k = moved_by b (Next b) (λ s. refl) (λ s. refl) f k (sent-next b f k)
