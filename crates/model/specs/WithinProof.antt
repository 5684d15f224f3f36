-- The order of entries within one command: the proof.
-- Assumes nothing.
use Rattle.std.specs.Prelude.{ℕ, suc, ◌<◌, ◌≡◌, Bool, true, false, List, [], ◌∷◌, ◌++◌, map, eqb, ltb}
use Rattle.std.proofs.Math.Path.{refl}
use Rattle.std.proofs.Common.{sym, ap, ◌∙◌, append_assoc, eq-eqb, lt-ltb}
use Rattle.laws.specs.Tests.{pick_all, Seen, Seen.is_true, Seen.is_false, look, clash}
use Rattle.laws.specs.Tables.{upd_same, upd_other}
use Rattle.laws.specs.Weights.{All, keep, all-imp, keep-map}
use Rattle.model.specs.Numbers.{peers, owner}
use Rattle.model.specs.State.{is_live, Handle, Handle.none, Handle.some, held, id_or, Entry, Entry.message, messages_in, State, Status.disconnected, owner_id, by_owner_id, Seed, Seed.unset}
use Rattle.model.specs.Tables.{accept, with_status, with_handles, with_queues, with_charges, with_lives, with_seed}
use Rattle.model.specs.Changes.{push_all, take_out, withdraw, fell, release_notices, notify_all, destroy_notices, destroy_all, arriving, deliver, reseed}
use Rattle.model.specs.Effects.{disconnects}
use Rattle.model.specs.Tested.{Lives}
use Rattle.model.specs.Rising.{owner-sorted, owner-pass}
use Rattle.model.specs.RisingAll.{owner-all}
use Rattle.model.specs.NoticesQueues.{fell-facts}
use Rattle.model.specs.IdsLaws.{Holding}
use Rattle.model.specs.Within.{ById, is_at, AtDisconnect}

-- Send.
pub send-order-at : (b : State) (u : ℕ) (ds hs bytes : List ℕ) (q : ℕ) →
    (deliver (accept b) u ds hs bytes).queue q
    ≡ b.queue q ++ keep (is_at q) (map (λ d. message (suc b.accepted) (record { to = d; user = u; payload = bytes; carried = hs })) ds)
unfolding deliver with_charges push_all with_queues arriving accept
send-order-at b u ds hs bytes q =
    ap (λ (l : List Entry). b.queue q ++ l)
    (sym (keep-map (λ d. message (suc b.accepted) (record { to = d; user = u; payload = bytes; carried = hs })) (is_at q) (λ d. eqb (owner d) q) ds (λ d. refl)))

-- A seed queues nothing.
pub seed-queue : (a : State) (t : Bool) (p : ℕ) (x : Seed) (q : ℕ) → (reseed a t p x).queue q ≡ a.queue q
unfolding with_seed
seed-queue a true p x q = refl
seed-queue a false p x q = refl

-- Two live nodes of one owner have two owner IDs.
held-some : (h : Handle) → held h ≡ true → (i : ℕ) × (c : ℕ) × (h ≡ some i c)
held-some none e = clash (sym e)
held-some (some i c) e = (i, c, refl)

pub live-apart : (b : State) (p r s : ℕ) → Holding b → owner r ≡ p → owner s ≡ p → Lives b r → Lives b s → owner_id b.handle r ≡ owner_id b.handle s → r ≡ s
live-apart b p r s v o k l m e =
    let x = held-some (b.handle p r) (rw o at (v.owned r l)) in
    let y = held-some (b.handle p s) (rw k at (v.owned s m)) in
    let z : id_or 0 (b.handle p r) ≡ id_or 0 (b.handle p s) = rw (o, k) at e in
    let i : x.0 ≡ y.0 = rw (x.2, y.2) at z in
    (v.handles p).distinct r s x.0 x.1 y.1 x.2 (rw i y.2)

-- The slots of an owner that pass a test of live nodes.
pub by-id : (b : State) (p : ℕ) (t : ℕ → Bool) (P : ℕ → Type 0) → Holding b → ((s : ℕ) → t s ≡ true → owner s ≡ p → P s) → ((s : ℕ) → P s → (t s ≡ true) × (owner s ≡ p)) →
    ((s : ℕ) → t s ≡ true → Lives b s) → ById b.handle P (by_owner_id b.handle p t)
by-id b p t P v into out live =
    record {
      ascending = owner-sorted b.handle p t;
      sound = all-imp (λ s. (t s ≡ true) × (owner s ≡ p)) P (λ s z. into s z.0 z.1) (by_owner_id b.handle p t) (owner-pass b.handle p t);
      complete =
          λ s z. let x = out s z in
          owner-all b.handle p t s x.1 x.0 (λ r o u e. live-apart b p r s v o x.1 (live r u) (live s x.0) e);
    }

-- Disconnect: the state before its release notices.
abbrev pub before-release : State → ℕ → State
before-release b p =
    with_status
    (with_handles (take_out (destroy_all (accept b) p (λ s. is_live (b.life s))) p (messages_in (b.queue p)) []) p (λ s. none))
    p disconnected

pub disconnect-queue : (b : State) (p q : ℕ) → q < peers → (p ≡ q → ⊥) →
    (disconnects (accept b) p).queue q
    ≡ b.queue q ++ (destroy_notices (accept b) p (λ s. is_live (b.life s)) q ++ release_notices (accept b) (before-release b p) q)
unfolding disconnects notify_all with_status with_handles take_out with_charges destroy_all with_lives withdraw push_all with_queues accept
disconnect-queue b p q l n =
    let new : List Entry = destroy_notices (accept b) p (λ s. is_live (b.life s)) q in
    rw (upd_other, lt-ltb q peers l, upd_other)
    (append_assoc (b.queue q) new (release_notices (accept b) (before-release b p) q))

pub dropped-seed : (b : State) (p q : ℕ) → AtDisconnect b (disconnects (accept b) p) p q → AtDisconnect b (with_seed (disconnects (accept b) p) p unset) p q
unfolding with_seed
dropped-seed b p q x =
    record {
      destroyed-slots = x.destroyed-slots;
      released-slots = x.released-slots;
      queue = x.queue;
      destroyed-by-id = x.destroyed-by-id;
      released-by-id = x.released-by-id;
    }

-- At the peer itself: none of its nodes lives, so no release notice is queued.
none_left : (xs : List ℕ) → All (λ s. ⊥) xs → xs ≡ []
none_left [] a = refl
none_left (x ∷ xs) a = absurd a.0

none-lives : (b : State) (p s : ℕ) → owner s ≡ p → Lives (before-release b p) s → ⊥
unfolding with_status with_handles take_out with_charges destroy_all with_lives withdraw push_all with_queues accept
none-lives b p s o e = go (look (is_live (b.life s)))
  where
    go : Seen (is_live (b.life s)) → ⊥
    go (is_true z) = clash (sym (rw (eq-eqb (owner s) p o, z) at e))
    go (is_false z) = clash (sym (rw (eq-eqb (owner s) p o, z) at e) ∙ z)

pub empties : (b : State) (p : ℕ) → (disconnects (accept b) p).queue p ≡ []
unfolding disconnects notify_all with_status with_handles take_out with_charges push_all with_queues release_notices accept
empties b p =
    let x = before-release b p in
    let e : by_owner_id x.handle p (fell (accept b) x) ≡ [] =
    none_left (by_owner_id x.handle p (fell (accept b) x))
    (all-imp (λ s. (fell (accept b) x s ≡ true) × (owner s ≡ p)) (λ s. ⊥) (λ s z. none-lives b p s z.1 (fell-facts (accept b) x s z.0).0)
    (by_owner_id x.handle p (fell (accept b) x)) (owner-pass x.handle p (fell (accept b) x))) in
    rw (upd_same, e) (pick_all (λ l. l ≡ []) (ltb p peers) [] [] refl refl)
