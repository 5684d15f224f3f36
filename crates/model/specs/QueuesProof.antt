-- Every accepted command moves every queue as `Moved` says.
-- Assumes nothing.
use Prim.Native.Nat.{ℕ, suc, ◌≤◌, ◌<◌}
use Rattle.std.specs.Prelude.{◌≡◌, Bool, not, ltb}
use Rattle.std.proofs.Math.Path.{refl}
use Rattle.std.proofs.Common.{sym, ap, ◌∙◌, arith}
use Rattle.std.proofs.Math.Bool.{true, false}
use Rattle.std.proofs.Math.Logic.◌⊎◌.{inl}
use mathlib.Core.List.{List, [], ◌∷◌, ◌++◌, map}
use Rattle.std.proofs.Math.Dec.{eqb}
use borrow.Author.Tests.{eqb-true, eq-eqb, ne_eqb}
use Rattle.laws.specs.Tests.{pick, pick_all, pick-cases, Seen, Seen.is_true, Seen.is_false, look, clash, Same, Same.same, Same.other, same?}
use Rattle.laws.specs.Tables.{upd, upd_same, upd_other}
use Rattle.laws.specs.Weights.{All}
use Rattle.frames.specs.declared.Command.{Command}
use Rattle.frames.specs.declared.Command.TheVariants.{Open, Disconnect, Create, Destroy, Release, Transfer, Send, Receive, Quota, Holders, ShowSeed}
use Rattle.frames.specs.Frame.{payload_of}
use Rattle.model.specs.Numbers.{peers, owner}
use Rattle.model.specs.Lists.{both, either, any}
use Rattle.model.specs.State.{Status.disconnected, is_live, Handle, Handle.none, handle_of, held, count, Message, Entry, Entry.message, Entry.destroyed, Entry.released, messages_in, State, slot, total, by_owner_id, Seed, earlier}
use Rattle.model.specs.Requests.{destinations, attached}
use Rattle.model.specs.Tables.{accept, with_status, with_given, with_handles, with_queues, with_charges, with_seed}
use Rattle.model.specs.Changes.{push, push_all, take_out, withdraw, shown, give, give_all, remains, fell, notify, release_notices, notify_all, destroy_all, valid, stays, settle}
use Rattle.model.specs.Effects.{disconnects}
use Rattle.model.specs.Occurs.{either-false}
use Rattle.model.specs.Founded.{carries-keep}
use Rattle.model.specs.Queues.{Lapsed, Next, front, sent_by}
use Rattle.model.specs.QueuesLaws.{map-new, total-set}
use Rattle.model.specs.Counts.{total-other, count-handle}

-- A handle is given: the sum rises, and with it the release notice goes.
pub give-handle : (x : State) (p as_of s : ℕ) → valid x p as_of s ≡ true →
    (give x p as_of s).handle ≡ upd x.handle p (upd (x.handle p) s (handle_of (shown x p as_of s) (suc (count (x.handle p s)))))
unfolding give withdraw with_handles with_given with_queues
give-handle x p as_of s e = rw e refl

pub give-dead : (x : State) (p as_of s : ℕ) → valid x p as_of s ≡ false → give x p as_of s ≡ x
unfolding give
give-dead x p as_of s e = rw e refl

pub give-raises : (x : State) (p as_of s : ℕ) → p < peers → valid x p as_of s ≡ true → total x.handle s < total (give x p as_of s).handle s
give-raises x p as_of s l e =
    rw (give-handle x p as_of s e)
    (omega (arith, total-set x.handle p s (handle_of (shown x p as_of s) (suc (count (x.handle p s)))) l, count-handle (shown x p as_of s) (suc (count (x.handle p s)))))

pub give-total : (x : State) (p as_of s t : ℕ) → p < peers → total x.handle t ≤ total (give x p as_of s).handle t
give-total x p as_of s t l = go (look (valid x p as_of s)) (same? s t)
  where
    go : Seen (valid x p as_of s) → Same s t → total x.handle t ≤ total (give x p as_of s).handle t
    go (is_false e) z = rw (give-dead x p as_of s e) (omega arith)
    go (is_true e) (same z) = rw (← z) (omega (arith, give-raises x p as_of s l e))
    go (is_true e) (other z) =
        rw (give-handle x p as_of s e) (omega (arith, total-other x.handle p s (handle_of (shown x p as_of s) (suc (count (x.handle p s)))) t z))

pub gives-total : (x : State) (p as_of : ℕ) (ss : List ℕ) (t : ℕ) → p < peers → total x.handle t ≤ total (give_all x p as_of ss).handle t
gives-total x p as_of [] t l = omega arith
gives-total x p as_of (s ∷ ss) t l = omega (arith, give-total x p as_of s t l, gives-total (give x p as_of s) p as_of ss t l)

-- What is not settled: a destroy notice whose peer does not hold the node, and to which no earlier message is left.
pub unsettled : (h : ℕ → Handle) (q : List Entry) (gone : Entry → Type 0) →
    ((n t : ℕ) → held (h t) ≡ false → any (earlier n t) (settle h q) ≡ false → gone (destroyed n t)) → (e : Entry) → stays h q e ≡ false → gone e
unfolding settle
unsettled h q gone d (message n m) z = clash z
unsettled h q gone d (destroyed n t) z =
    let x = either-false (held (h t)) (any (earlier n t) q) z in
    d n t x.0 (carries-keep (stays h q) (λ n m. refl) q n t ∙ x.1)
unsettled h q gone d (released n t) z = clash z

-- Release notices carry nothing.
released-earlier : (n s k : ℕ) (ts : List ℕ) → any (earlier n s) (map (released k) ts) ≡ false
released-earlier n s k [] = refl
released-earlier n s k (t ∷ ts) = released-earlier n s k ts

released-none : (a b : State) (q n s : ℕ) → any (earlier n s) (release_notices a b q) ≡ false
unfolding release_notices
released-none a b q n s = released-earlier n s b.accepted (by_owner_id b.handle q (fell a b))

earlier-behind : (n s k t : ℕ) (q : List Entry) → any (earlier n s) (q ++ (released k t ∷ [])) ≡ any (earlier n s) q
earlier-behind n s k t [] = refl
earlier-behind n s k t (e ∷ q) = ap (either (earlier n s e)) (earlier-behind n s k t q)

pub notify-earlier : (x y : State) (s n t q : ℕ) → any (earlier n t) ((notify x y s).queue q) ≡ any (earlier n t) (y.queue q)
unfolding notify with_queues
notify-earlier x y s n t q =
    pick-cases (λ (z : State). any (earlier n t) (z.queue q) ≡ any (earlier n t) (y.queue q)) (fell x y s) (push y (owner s) (released y.accepted s ∷ [])) y
    (λ z. go (same? (owner s) q)) (λ z. refl)
  where
    go : Same (owner s) q → any (earlier n t) (upd y.queue (owner s) (y.queue (owner s) ++ (released y.accepted s ∷ [])) q) ≡ any (earlier n t) (y.queue q)
    go (same z) = rw (z, upd_same) (earlier-behind n t y.accepted s (y.queue q))
    go (other z) = rw (upd_other y.queue (owner s) q _ z) refl

-- What does not remain when the handle goes.
pub not-remaining : (b a : State) (p s : ℕ) → held (a.handle p s) ≡ false → (e : Entry) → remains p s e ≡ false → Lapsed b a p e
not-remaining b a p s h e = go e
  where
    is-it : (t : ℕ) → Seen (eqb t s) → not (eqb t s) ≡ false → held (a.handle p t) ≡ false
    is-it t (is_true z) f = rw (eqb-true t s z) h
    is-it t (is_false z) f = clash (sym (ap not z) ∙ f)

    go : (e : Entry) → remains p s e ≡ false → Lapsed b a p e
    go (message n m) f = is-it m.to (look (eqb m.to s)) (narrow (eqb (owner s) p) (eqb m.to s) f)
      where
        narrow : (x y : Bool) → not (both x y) ≡ false → not y ≡ false
        narrow true y f = f
        narrow false y f = clash f
    go (destroyed n t) f = clash f
    go (released n t) f = inl (is-it t (look (eqb t s)) f)

-- Receive: the first entry comes out, and the handles that a message carries are given.
pub first_out : (b : State) (p : ℕ) (out : List Message) (e : Entry) (rest : List Entry) → b.queue p ≡ e ∷ rest → (q : ℕ) →
    b.queue q ≡ pick (eqb p q) (front (b.queue q)) [] ++ (take_out (accept b) p out rest).queue q
unfolding take_out with_charges with_queues accept
first_out b p out e rest h q = go (same? p q)
  where
    go : Same p q → b.queue q ≡ pick (eqb p q) (front (b.queue q)) [] ++ upd b.queue p rest q
    go (same z) = rw (← z, eq-eqb p p refl, upd_same, h) refl
    go (other z) = rw (ne_eqb p q z, upd_other b.queue p q rest z) refl

-- Why an entry leaves does not depend on seeds.
pub lapsed-seed : (b a : State) (q : ℕ) (x : Seed) (p : ℕ) (e : Entry) → Lapsed b a p e → Lapsed b (with_seed a q x) p e
unfolding with_seed
lapsed-seed b a q x p (message n m) l = l
lapsed-seed b a q x p (destroyed n s) l = l
lapsed-seed b a q x p (released n s) l = l

-- Disconnect leaves no message at the peer.
pub disconnect-earlier : (b : State) (p n s : ℕ) → any (earlier n s) ((disconnects b p).queue p) ≡ false
unfolding disconnects notify_all with_status with_handles push_all take_out with_charges with_queues
disconnect-earlier b p n s =
    let x = with_status (with_handles (take_out (destroy_all b p (λ t. is_live (b.life t))) p (messages_in (b.queue p)) []) p (λ t. none)) p disconnected in
    rw upd_same (pick_all (λ (z : List Entry). any (earlier n s) z ≡ false) (ltb p peers) (release_notices b x p) [] (released-none b x p n s) refl)

-- What a send queues carries its number.
pub sent-next : (b : State) (f : List ℕ) (k : Command) → All (Next b) (sent_by b f k)
sent-next b f (Open q u) = tt
sent-next b f (Disconnect q) = tt
sent-next b f (Create q i) = tt
sent-next b f (Destroy q i) = tt
sent-next b f (Release q i) = tt
sent-next b f (Transfer q i t) = tt
sent-next b f (Send q z) =
    map-new (Next b)
    (λ d. message (suc b.accepted) (record { to = d; user = b.user q.0; payload = payload_of f; carried = map (slot b q.0) (attached f z) }))
    (λ d. refl) (map (slot b q.0) (destinations f z))
sent-next b f (Receive q room) = tt
sent-next b f (Quota q u) = tt
sent-next b f (Holders q i) = tt
sent-next b f (ShowSeed q room) = tt
