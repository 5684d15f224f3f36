-- The theorems that go with specs/Founded.antt and stand on others: each goes by the definitions and the theorems there.
-- Assumes nothing.
use Prim.Native.Nat.{ℕ, zero, suc, ◌+◌, ◌*◌, ◌-◌}
use Rattle.std.specs.Prelude.{◌≡◌, refl, true, false, eqb}
use Rattle.std.proofs.Common.{sym, ◌∙◌, arith, ne_eqb}
use Rattle.std.proofs.Math.Bool.{Bool}
use mathlib.Core.List.{List, [], ◌∷◌, ◌++◌}
use Rattle.laws.specs.Tests.{pick, Same, Same.same, Same.other, same?, pick_all}
use Rattle.laws.specs.Tables.{upd, upd_same, upd_other, upd-all}
use Rattle.laws.specs.Weights.{keep, All, all_append, all-imp, all_keep}
use Rattle.model.specs.Numbers.{slots, owner}
use Rattle.model.specs.Lists.{both}
use Rattle.model.specs.State.{Status.disconnected, Life, is_live, Handle, Handle.none, handle_of, count, Message, messages_in, free_place, Entry, Entry.message, Entry.destroyed, Entry.released, State, earlier, concerned, by_owner_id}
use Rattle.model.specs.Tables.{with_status, with_given, with_handle, with_handles, with_queues, with_charges, with_lives}
use Rattle.model.specs.Occurs.{both_true}
use Rattle.model.specs.Rising.{owner-pass}
use Rattle.model.specs.Changes.{push_all, at_peers, take_out, not_released, withdraw, valid, shown, given_after, give, give_all, stays, settle, settled, destroy_notices, destroy_all, remains, forget, fell, notify, release_notices, notify_all, arriving, deliver}
use Rattle.model.specs.Effects.{creates, releases, disconnects, receives}
use Rattle.model.specs.Founded.{FoundedAt, Founded, stays-more, carries-keep, carries-append, keep-passes, held-upd, concerned-keep, map-stays, map-released, at-peers, founded-out, map-messages}

-- Entries that pass such a test; all of them settled, whatever stood before.
pub founded-keep : (h : ℕ → Handle) (t : Entry → Bool) → ((n : ℕ) (m : Message) → t (message n m) ≡ true) → (q : List Entry) → FoundedAt h q → FoundedAt h (keep t q)
founded-keep h t k q a =
    all-imp (λ e. stays h q e ≡ true) (λ e. stays h (keep t q) e ≡ true)
    (stays-more h h q (keep t q) (λ s z. z) (λ n s z. carries-keep t k q n s ∙ z)) (keep t q) (all_keep (λ e. stays h q e ≡ true) t q a)

pub founded-settle : (h : ℕ → Handle) (q : List Entry) → FoundedAt h (settle h q)
unfolding settle
founded-settle h q =
    all-imp (λ e. stays h q e ≡ true) (λ e. stays h (keep (stays h q) q) e ≡ true)
    (stays-more h h q (keep (stays h q) q) (λ s z. z) (λ n s z. carries-keep (stays h q) (λ n m. refl) q n s ∙ z)) (keep (stays h q) q) (keep-passes (stays h q) q)

-- Entries that stand behind.
pub founded-append : (h : ℕ → Handle) (q r : List Entry) → FoundedAt h q → All (λ e. stays h q e ≡ true) r → FoundedAt h (q ++ r)
founded-append h q r a b =
    all_append (λ e. stays h (q ++ r) e ≡ true) q r
    (all-imp (λ e. stays h q e ≡ true) (λ e. stays h (q ++ r) e ≡ true) (stays-more h h q (q ++ r) (λ s z. z) (carries-append q r)) q a)
    (all-imp (λ e. stays h q e ≡ true) (λ e. stays h (q ++ r) e ≡ true) (stays-more h h q (q ++ r) (λ s z. z) (carries-append q r)) r b)

-- The changes.
pub founded-withdraw : (b : State) (p : ℕ) (t : ℕ → Bool) → Founded b → Founded (withdraw b p t)
unfolding withdraw with_queues
founded-withdraw b p t f = upd-all (λ q x. FoundedAt (b.handle q) x) b.queue p (keep (not_released t) (b.queue p)) f (founded-keep (b.handle p) (not_released t) (λ n m. refl) (b.queue p) (f p))

pub founded-put : (b : State) (p s i c : ℕ) → Founded b → Founded (with_handle b p s (handle_of i (suc c)))
unfolding with_handles
founded-put b p s i c f =
    upd-all (λ q g. FoundedAt g (b.queue q)) b.handle p (upd (b.handle p) s (handle_of i (suc c))) f
    (all-imp (λ e. stays (b.handle p) (b.queue p) e ≡ true) (λ e. stays (upd (b.handle p) s (handle_of i (suc c))) (b.queue p) e ≡ true)
    (stays-more (b.handle p) (upd (b.handle p) s (handle_of i (suc c))) (b.queue p) (b.queue p) (held-upd (b.handle p) s (handle_of i (suc c)) refl) (λ n t z. z))
    (b.queue p) (f p))

pub founded-give : (b : State) (p n s : ℕ) → Founded b → Founded (give b p n s)
unfolding give with_given
founded-give b p n s f =
    pick_all Founded (valid b p n s) _ b
    (founded-withdraw (with_handle (with_given b (upd b.given p (given_after (b.handle p s) (b.given p)))) p s (handle_of (shown b p n s) (suc (count (b.handle p s))))) (owner s) (eqb s)
    (founded-put (with_given b (upd b.given p (given_after (b.handle p s) (b.given p)))) p s (shown b p n s) (count (b.handle p s)) f))
    f

-- Any queue put at p and settled, the others as they were.
pub founded-settled : (b : State) (p : ℕ) → ((q : ℕ) → (p ≡ q → ⊥) → FoundedAt (b.handle q) (b.queue q)) → Founded (settled b p)
unfolding settled with_queues
founded-settled b p f q = go (same? p q)
  where
    go : Same p q → FoundedAt (b.handle q) (upd b.queue p (settle (b.handle p) (b.queue p)) q)
    go (same z) = rw (← z, upd_same) (founded-settle (b.handle p) (b.queue p))
    go (other z) = rw (upd_other b.queue p q (settle (b.handle p) (b.queue p)) z) (f q z)

pub founded-push_all : (b : State) (new : ℕ → List Entry) → Founded b → ((q : ℕ) → All (λ e. stays (b.handle q) (b.queue q) e ≡ true) (new q)) → Founded (push_all b new)
unfolding push_all with_queues
founded-push_all b new f a q = founded-append (b.handle q) (b.queue q) (new q) (f q) (a q)

pub founded-destroy_all : (b : State) (p : ℕ) (t : ℕ → Bool) → Founded b → Founded (destroy_all b p t)
unfolding destroy_all destroy_notices
founded-destroy_all b p t f =
    founded-push_all c (at_peers (destroy_notices b p t)) dead
    (at-peers (λ q e. stays (c.handle q) (c.queue q) e ≡ true) (destroy_notices b p t) told)
  where
    c : State
    c = with_lives (withdraw b p t) (λ s. pick (both (eqb (owner s) p) (t s)) (Life.dead b.accepted) (b.life s))

    dead : Founded c
    dead = unfold with_lives in founded-withdraw b p t f

    told : (q : ℕ) → All (λ e. stays (c.handle q) (c.queue q) e ≡ true) (destroy_notices b p t q)
    told q = unfold with_lives withdraw with_queues in map-stays (b.handle q) (upd b.queue p (keep (not_released t) (b.queue p)) q) b.accepted (by_owner_id b.handle p test)
        (all-imp (λ s. (test s ≡ true) × (owner s ≡ p)) (λ s. concerned (b.handle q) (upd b.queue p (keep (not_released t) (b.queue p)) q) b.accepted s ≡ true)
        (λ s z. kept s (both_true (t s) (concerned (b.handle q) (b.queue q) b.accepted s) z.0).1 (same? p q))
        (by_owner_id b.handle p test) (owner-pass b.handle p test))
      where
        test : ℕ → Bool
        test s = both (t s) (concerned (b.handle q) (b.queue q) b.accepted s)

        kept : (s : ℕ) → concerned (b.handle q) (b.queue q) b.accepted s ≡ true → Same p q → concerned (b.handle q) (upd b.queue p (keep (not_released t) (b.queue p)) q) b.accepted s ≡ true
        kept s z (same y) = rw (← y, upd_same) (concerned-keep (b.handle p) (not_released t) (λ n m. refl) (b.queue p) b.accepted s (rw (← y) at z))
        kept s z (other y) = rw (upd_other b.queue p q (keep (not_released t) (b.queue p)) y) z

-- The first entry taken out: a notice leaves the carriers as they were.
notice-out : (h : ℕ → Handle) (e : Entry) (q : List Entry) → ((n s : ℕ) → earlier n s e ≡ false) → FoundedAt h (e ∷ q) → FoundedAt h q
notice-out h e q z a = all-imp (λ x. stays h (e ∷ q) x ≡ true) (λ x. stays h q x ≡ true) (stays-more h h (e ∷ q) q (λ s y. y) (λ n s y. sym (rw (z n s)) ∙ y)) q a.1

-- At every peer but p.
abbrev Elsewhere : ℕ → State → Type 0
Elsewhere p b = (q : ℕ) → (p ≡ q → ⊥) → FoundedAt (b.handle q) (b.queue q)

elsewhere-give : (b : State) (p n s : ℕ) → Elsewhere p b → Elsewhere p (give b p n s)
unfolding give withdraw with_queues with_handles with_given
elsewhere-give b p n s f q d = pick_all (λ (x : State). FoundedAt (x.handle q) (x.queue q)) (valid b p n s) _ b
    (rw (upd_other b.handle p q (upd (b.handle p) s (handle_of (shown b p n s) (suc (count (b.handle p s))))) d) (go (same? (owner s) q)))
    (f q d)
  where
    go : Same (owner s) q → FoundedAt (b.handle q) (upd b.queue (owner s) (keep (not_released (eqb s)) (b.queue (owner s))) q)
    go (same z) = rw (z, upd_same) (founded-keep (b.handle q) (not_released (eqb s)) (λ n m. refl) (b.queue q) (f q d))
    go (other z) = rw (upd_other b.queue (owner s) q (keep (not_released (eqb s)) (b.queue (owner s))) z) (f q d)

elsewhere-gives : (b : State) (p n : ℕ) (ss : List ℕ) → Elsewhere p b → Elsewhere p (give_all b p n ss)
elsewhere-gives b p n [] f = f
elsewhere-gives b p n (s ∷ ss) f = elsewhere-gives (give b p n s) p n ss (elsewhere-give b p n s f)

pub founded-gives : (b : State) (p n : ℕ) (ss : List ℕ) → Founded b → Founded (give_all b p n ss)
founded-gives b p n [] f = f
founded-gives b p n (s ∷ ss) f = founded-gives (give b p n s) p n ss (founded-give b p n s f)

pub founded-receive : (b : State) (p : ℕ) (q : List Entry) → Founded b → b.queue p ≡ q → Founded (receives b p q)
founded-receive b p [] f e = f
founded-receive b p (message n m ∷ q) f e =
    founded-settled (give_all (take_out b p (m ∷ []) q) p n m.carried) p
    (elsewhere-gives (take_out b p (m ∷ []) q) p n m.carried
    (λ r d. unfold take_out with_charges with_queues in rw (upd_other b.queue p r q d) (f r)))
founded-receive b p (destroyed n s ∷ q) f e = founded-out b p [] q f (notice-out (b.handle p) (destroyed n s) q (λ n s. refl) (rw e at (f p)))
founded-receive b p (released n s ∷ q) f e = founded-out b p [] q f (notice-out (b.handle p) (released n s) q (λ n s. refl) (rw e at (f p)))

pub founded-notify : (a b : State) (s : ℕ) → Founded b → Founded (notify a b s)
unfolding notify
founded-notify a b s f =
    pick_all Founded (fell a b s) _ b
    (unfold with_queues in upd-all (λ q x. FoundedAt (b.handle q) x) b.queue (owner s) (b.queue (owner s) ++ (released b.accepted s ∷ [])) f
    (founded-append (b.handle (owner s)) (b.queue (owner s)) (released b.accepted s ∷ []) (f (owner s)) (refl, tt)))
    f

-- p's handle to s goes: what is left at p is settled by the handles that are left.
pub founded-forget : (b : State) (p s : ℕ) (x : Handle) → Founded b → Founded (forget (with_handle b p s x) p s)
unfolding forget take_out with_charges with_queues with_handles
founded-forget b p s x f q = go (same? p q)
  where
    h : ℕ → ℕ → Handle
    h = upd b.handle p (upd (b.handle p) s x)

    rest : List Entry
    rest = settle (h p) (keep (remains p s) (b.queue p))

    go : Same p q → FoundedAt (h q) (upd b.queue p rest q)
    go (same z) = rw (← z, upd_same b.queue p rest) (founded-settle (h p) (keep (remains p s) (b.queue p)))
    go (other z) = rw (upd_other b.queue p q rest z, upd_other b.handle p q (upd (b.handle p) s x) z) (f q)

pub founded-release : (b : State) (p s i c : ℕ) → Founded b → Founded (releases b p s i (suc c))
unfolding releases
founded-release b p s i c f = founded-notify b _ s (go c)
  where
    go : (c : ℕ) → Founded (pick (eqb (suc c) 1) (forget (with_handle b p s (handle_of i (suc c - 1))) p s) (with_handle b p s (handle_of i (suc c - 1))))
    go zero = founded-forget b p s (handle_of i 0) f
    go (suc c) =
        let e : suc (suc c) - 1 ≡ suc c = omega arith in
        rw (ne_eqb (suc (suc c)) 1 (λ z. absurd (omega arith)), e) (founded-put b p s i c f)

pub founded-deliver : (b : State) (u : ℕ) (ds hs payload : List ℕ) → Founded b → Founded (deliver b u ds hs payload)
unfolding deliver arriving with_charges
founded-deliver b u ds hs payload f =
    founded-push_all b (arriving b u ds hs payload) f
    (λ q. map-messages (b.handle q) (b.queue q) b.accepted (λ d. record { to = d; user = u; payload = payload; carried = hs }) (keep (λ d. eqb (owner d) q) ds))

pub founded-create : (b : State) (p i : ℕ) → Founded b → Founded (creates b p i)
unfolding creates with_lives with_handles
founded-create b p i f = unfold with_handles in founded-put b p (p * slots + free_place b p) i 0 f

pub founded-disconnect : (b : State) (p : ℕ) → Founded b → Founded (disconnects b p)
unfolding disconnects notify_all release_notices
founded-disconnect b p f =
    founded-push_all left (at_peers (release_notices b left)) none_left
    (at-peers (λ q e. stays (left.handle q) (left.queue q) e ≡ true) (release_notices b left)
    (λ q. map-released (left.handle q) (left.queue q) left.accepted (by_owner_id left.handle q (fell b left))))
  where
    died : State
    died = destroy_all b p (λ s. is_live (b.life s))

    left : State
    left = with_status (with_handles (take_out died p (messages_in (b.queue p)) []) p (λ s. none)) p disconnected

    d : Founded died
    d = founded-destroy_all b p (λ s. is_live (b.life s)) f

    none_left : Founded left
    none_left q = unfold with_status with_handles take_out with_charges with_queues in go (same? p q)
      where
        go : Same p q → FoundedAt (upd died.handle p (λ s. none) q) (upd died.queue p [] q)
        go (same z) = rw (← z, upd_same died.queue p []) tt
        go (other z) = rw (upd_other died.queue p q [] z, upd_other died.handle p q (λ s. none) z) (d q)
