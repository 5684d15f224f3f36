-- Notices kept by every change of queues alone: entries taken out, withdrawn, queued.
-- Assumes nothing.
use Rattle.std.specs.Prelude.{ℕ, ◌+◌, ◌≤◌, ◌<◌, ◌≡◌, refl, Bool, true, false, ◌⊎◌, List, [], ◌∷◌, ◌++◌, map, eqb, ltb}
use Rattle.std.proofs.Common.{sym, ap, ◌∙◌, arith, eqb-true, ltb-true}
use Rattle.std.proofs.Math.Logic.◌⊎◌.{inl, inr}
use Rattle.std.proofs.lemmas.Bool.{not-true}
use Rattle.laws.specs.Tests.{pick, Seen, Seen.is_true, Seen.is_false, look, Same, Same.same, Same.other, same?, clash, pick-cases}
use Rattle.laws.specs.Tables.{upd, upd_same, upd_other, upd-all}
use Rattle.laws.specs.Loads.{all_map}
use Rattle.laws.specs.Weights.{keep, All, load-append, all_append, all-imp, all_keep}
use Rattle.model.specs.Numbers.{peers, owner}
use Rattle.model.specs.Lists.{both}
use Rattle.model.specs.State.{is_live, Handle, held, Message, Entry, Entry.message, Entry.destroyed, Entry.released, messages_in, State, total}
use Rattle.model.specs.Tables.{with_queues, with_queue, with_charges, accept}
use Rattle.model.specs.Changes.{push, push_all, at_peers, take_out, not_released, withdraw, dropped, remains, forget, fell, notify, arriving, deliver, stays, settle, settled}
use Rattle.model.specs.Notices.{times, notice_for, notices_for, Carried, Stands, Noted}
use Rattle.model.specs.Occurs.{no, both_true, keep-imp, load-none, load-keep, times-all}

pub noted-accept : (b : State) → Noted b → Noted (accept b)
unfolding accept
noted-accept b n = n

-- Other queues, of entries that stand rightly.
pub noted-queues : (b : State) (qs : ℕ → List Entry) → Noted b → ((q : ℕ) → All (Stands b.handle b.life q) (qs q)) →
    ((q s : ℕ) → notices_for s (qs q) ≤ 1) → Noted (with_queues b qs)
unfolding with_queues
noted-queues b qs n a o = record { present = n.present; absent = n.absent; holders = n.holders; owned = n.owned; seeds = n.seeds; stands = a; once = o }

pub noted-queue : (b : State) (p : ℕ) (x : List Entry) → Noted b → All (Stands b.handle b.life p) x → ((s : ℕ) → notices_for s x ≤ 1) → Noted (with_queue b p x)
noted-queue b p x n a o =
    noted-queues b (upd b.queue p x) n
    (upd-all (λ q y. All (Stands b.handle b.life q) y) b.queue p x n.stands a)
    (upd-all (λ q y. (s : ℕ) → notices_for s y ≤ 1) b.queue p x n.once o)

-- Messages taken out.
pub noted-out : (b : State) (p : ℕ) (out : List Message) (rest : List Entry) → Noted b → All (Stands b.handle b.life p) rest → ((s : ℕ) → notices_for s rest ≤ 1) →
    Noted (take_out b p out rest)
unfolding take_out with_charges
noted-out b p out rest n a o = noted-queue b p rest n a o

-- The first entry taken out.
pub noted-first : (b : State) (p : ℕ) (out : List Message) (e : Entry) (rest : List Entry) → Noted b → b.queue p ≡ e ∷ rest → Noted (take_out b p out rest)
noted-first b p out e rest n z =
    let a : All (Stands b.handle b.life p) (e ∷ rest) = rw z at (n.stands p) in
    noted-out b p out rest n a.1 (λ s. let k : notices_for s (e ∷ rest) ≤ 1 = rw z at (n.once p s) in omega arith)

-- Release notices withdrawn.
pub noted-withdraw : (b : State) (p : ℕ) (t : ℕ → Bool) → Noted b → Noted (withdraw b p t)
unfolding withdraw
noted-withdraw b p t n =
    noted-queue b p (keep (not_released t) (b.queue p)) n (all_keep (Stands b.handle b.life p) (not_released t) (b.queue p) (n.stands p))
    (λ s. omega (arith, load-keep (notice_for s) (λ e. 1) (not_released t) (b.queue p), n.once p s))

-- No release notice stands for a node of the owner p that passes.
abbrev pub Without : ℕ → (ℕ → Bool) → Entry → Type 0
Without p t (message n m) = Unit {0}
Without p t (destroyed n s) = Unit {0}
Without p t (released n s) = owner s ≡ p → t s ≡ true → ⊥

pub withdraw-without : (b : State) (p : ℕ) (t : ℕ → Bool) → Noted b → (q : ℕ) → All (Without p t) ((withdraw b p t).queue q)
unfolding withdraw with_queues
withdraw-without b p t n q = go (same? p q)
  where
    kept : (e : Entry) → not_released t e ≡ true → Stands b.handle b.life p e → Without p t e
    kept (message k m) z a = tt
    kept (destroyed k s) z a = tt
    kept (released k s) z a = λ o y. no (not-true (t s) z) y

    elsewhere : (p ≡ q → ⊥) → (e : Entry) → Stands b.handle b.life q e → Without p t e
    elsewhere d (message k m) a = tt
    elsewhere d (destroyed k s) a = tt
    elsewhere d (released k s) a = λ o y. d (sym o ∙ a.1)

    go : Same p q → All (Without p t) (upd b.queue p (keep (not_released t) (b.queue p)) q)
    go (same z) = rw (← z, upd_same) (keep-imp (Stands b.handle b.life p) (Without p t) (not_released t) kept (b.queue p) (n.stands p))
    go (other z) =
        rw (upd_other b.queue p q (keep (not_released t) (b.queue p)) z) (all-imp (Stands b.handle b.life q) (Without p t) (elsewhere z) (b.queue q) (n.stands q))

-- What p's queue has that needs its handle to s goes.
-- What is left of p's queue, settled by any handles h.
pub noted-left : (b : State) (p s : ℕ) (h : ℕ → Handle) → Noted b → Noted (take_out b p (keep (dropped p s) (messages_in (b.queue p))) (settle h (keep (remains p s) (b.queue p))))
unfolding settle
noted-left b p s h n =
    let q = keep (remains p s) (b.queue p) in
    noted-out b p (keep (dropped p s) (messages_in (b.queue p))) (keep (stays h q) q) n
    (all_keep (Stands b.handle b.life p) (stays h q) q (all_keep (Stands b.handle b.life p) (remains p s) (b.queue p) (n.stands p)))
    (λ t. omega (arith, load-keep (notice_for t) (λ e. 1) (stays h q) q, load-keep (notice_for t) (λ e. 1) (remains p s) (b.queue p), n.once p t))

pub noted-settled : (b : State) (p : ℕ) → Noted b → Noted (settled b p)
unfolding settled settle
noted-settled b p n =
    noted-queue b p (keep (stays (b.handle p) (b.queue p)) (b.queue p)) n (all_keep (Stands b.handle b.life p) (stays (b.handle p) (b.queue p)) (b.queue p) (n.stands p))
    (λ t. omega (arith, load-keep (notice_for t) (λ e. 1) (stays (b.handle p) (b.queue p)) (b.queue p), n.once p t))

pub noted-forget : (b : State) (p s : ℕ) → Noted b → Noted (forget b p s)
unfolding forget
noted-forget b p s n =
    noted-left b p s (b.handle p) n

-- One more notice for each slot of a list without repetition, for which no notice stands.
pub once-append : (make : ℕ → Entry) → ((s t : ℕ) → notice_for s (make t) ≡ eqb t s) → (q : List Entry) (new : List ℕ) → ((s : ℕ) → notices_for s q ≤ 1) →
    ((s : ℕ) → times s new ≤ 1) → All (λ s. notices_for s q ≡ 0) new → (s : ℕ) → notices_for s (q ++ map make new) ≤ 1
once-append make same-slot q new o u a s = go (times-all (λ t. notices_for t q ≡ 0) s new a)
  where
    made : (xs : List ℕ) → notices_for s (map make xs) ≡ times s xs
    made [] = refl
    made (x ∷ xs) = rw (same-slot s x) (ap (λ (n : ℕ). pick (eqb x s) 1 0 + n) (made xs))

    go : (times s new ≡ 0) ⊎ (notices_for s q ≡ 0) → notices_for s (q ++ map make new) ≤ 1
    go (inl z) = omega (arith, load-append (notice_for s) (λ e. 1) q (map make new), made new, o s)
    go (inr z) = omega (arith, load-append (notice_for s) (λ e. 1) q (map make new), made new, u s)

-- Every release notice was there when the sums were those of h.
abbrev pub Lone : (ℕ → ℕ → Handle) → Entry → Type 0
Lone h (message n m) = Unit {0}
Lone h (destroyed n s) = Unit {0}
Lone h (released n s) = total h s ≡ 1

pub lone : (b : State) → Noted b → (q : ℕ) → All (Lone b.handle) (b.queue q)
lone b n q = all-imp (Stands b.handle b.life q) (Lone b.handle) one (b.queue q) (n.stands q)
  where
    one : (e : Entry) → Stands b.handle b.life q e → Lone b.handle e
    one (message k m) a = tt
    one (destroyed k s) a = tt
    one (released k s) a = a.2

-- What a node has whose sum fell to 1: it lives, the sum was above 1, it is 1.
pub fell-facts : (a b : State) (s : ℕ) → fell a b s ≡ true → (is_live (b.life s) ≡ true) × (1 < total a.handle s) × (total b.handle s ≡ 1)
unfolding fell
fell-facts a b s e =
    let x = both_true (is_live (b.life s)) (both (ltb 1 (total a.handle s)) (eqb (total b.handle s) 1)) e in
    let y = both_true (ltb 1 (total a.handle s)) (eqb (total b.handle s) 1) x.1 in
    (x.0, ltb-true 1 (total a.handle s) y.0, eqb-true (total b.handle s) 1 y.1)

-- No notice stands for it.
pub fell-none : (a b : State) (s q : ℕ) → Noted b → All (Lone a.handle) (b.queue q) → fell a b s ≡ true → notices_for s (b.queue q) ≡ 0
fell-none a b s q n old e = load-none (notice_for s) (λ x. 1) (b.queue q) (go (b.queue q) (n.stands q) old)
  where
    f : (is_live (b.life s) ≡ true) × (1 < total a.handle s) × (total b.handle s ≡ 1)
    f = fell-facts a b s e

    one : (x : Entry) → Stands b.handle b.life q x → Lone a.handle x → Seen (notice_for s x) → notice_for s x ≡ false
    one x st old (is_false z) = z
    one (message k m) st old (is_true z) = clash (sym z)
    one (destroyed k t) st old (is_true z) = no (rw (← eqb-true t s z) (rw st.0)) f.0
    one (released k t) st old (is_true z) = let y : total a.handle s ≡ 1 = rw (eqb-true t s z) at old in absurd (omega (arith, f.1))

    go : (xs : List Entry) → All (Stands b.handle b.life q) xs → All (Lone a.handle) xs → All (λ x. notice_for s x ≡ false) xs
    go [] st old = tt
    go (x ∷ xs) st old = (one x st.0 old.0 (look (notice_for s x)), go xs st.1 old.1)

pub noted-notify : (a b : State) (s : ℕ) → Noted b → ((q : ℕ) → All (Lone a.handle) (b.queue q)) → Noted (notify a b s)
unfolding notify
noted-notify a b s n old =
    pick-cases Noted (fell a b s) (push b (owner s) (released b.accepted s ∷ [])) b (λ e.
    let f = fell-facts a b s e in
    noted-queue b (owner s) (b.queue (owner s) ++ (released b.accepted s ∷ [])) n
    (all_append (Stands b.handle b.life (owner s)) (b.queue (owner s)) (released b.accepted s ∷ []) (n.stands (owner s)) ((f.0, refl, f.2), tt))
    (once-append (released b.accepted) (λ t u. refl) (b.queue (owner s)) (s ∷ []) (n.once (owner s)) (λ t. alone t (look (eqb s t)))
    (fell-none a b s (owner s) n (old (owner s)) e, tt)))
    (λ e. n)
  where
    alone : (t : ℕ) → Seen (eqb s t) → times t (s ∷ []) ≤ 1
    alone t (is_true z) = rw z (omega arith)
    alone t (is_false z) = rw z (omega arith)

-- Queued at every peer.
pub noted-push_all : (b : State) (make : ℕ → Entry) (new : ℕ → List ℕ) → Noted b → ((s t : ℕ) → notice_for s (make t) ≡ eqb t s) →
    ((q : ℕ) → All (λ s. Stands b.handle b.life q (make s) × (notices_for s (b.queue q) ≡ 0)) (new q)) → ((q s : ℕ) → times s (new q) ≤ 1) →
    Noted (push_all b (at_peers (λ q. map make (new q))))
unfolding push_all
noted-push_all b make new n same-slot a u = noted-queues b (λ q. b.queue q ++ at_peers (λ q. map make (new q)) q) n st on
  where
    st : (q : ℕ) → All (Stands b.handle b.life q) (b.queue q ++ at_peers (λ q. map make (new q)) q)
    st q = all_append (Stands b.handle b.life q) (b.queue q) (at_peers (λ q. map make (new q)) q) (n.stands q) (go (look (ltb q peers)))
      where
        go : Seen (ltb q peers) → All (Stands b.handle b.life q) (at_peers (λ q. map make (new q)) q)
        go (is_false e) = rw e tt
        go (is_true e) =
            rw e (all_map (Stands b.handle b.life q) make (new q)
            (all-imp (λ s. Stands b.handle b.life q (make s) × (notices_for s (b.queue q) ≡ 0)) (λ s. Stands b.handle b.life q (make s)) (λ s z. z.0) (new q) (a q)))

    on : (q s : ℕ) → notices_for s (b.queue q ++ at_peers (λ q. map make (new q)) q) ≤ 1
    on q s = go (look (ltb q peers))
      where
        go : Seen (ltb q peers) → notices_for s (b.queue q ++ at_peers (λ q. map make (new q)) q) ≤ 1
        go (is_false e) = rw e (omega (arith, load-append (notice_for s) (λ x. 1) (b.queue q) [], n.once q s))
        go (is_true e) =
            rw e (once-append make same-slot (b.queue q) (new q) (n.once q) (u q)
            (all-imp (λ s. Stands b.handle b.life q (make s) × (notices_for s (b.queue q) ≡ 0)) (λ s. notices_for s (b.queue q) ≡ 0) (λ s z. z.1) (new q) (a q)) s)

-- Messages sent.
arriving-stand : (b : State) (u : ℕ) (ds hs payload : List ℕ) (q : ℕ) → Noted b → All (λ d. is_live (b.life d) ≡ true) ds → Carried hs →
    All (Stands b.handle b.life q) (arriving b u ds hs payload q)
unfolding arriving
arriving-stand b u ds hs payload q n a c =
    all_map (Stands b.handle b.life q) (λ d. message b.accepted (record { to = d; user = u; payload = payload; carried = hs })) (keep (λ d. eqb (owner d) q) ds)
    (keep-imp (λ d. is_live (b.life d) ≡ true) (λ d. (owner d ≡ q) × (held (b.handle q d) ≡ true) × Carried hs) (λ d. eqb (owner d) q)
    (λ d e l. let o : owner d ≡ q = eqb-true (owner d) q e in (o, rw o at (n.owned d l), c)) ds a)

arriving-silent : (b : State) (u : ℕ) (ds hs payload : List ℕ) (q s : ℕ) → notices_for s (arriving b u ds hs payload q) ≡ 0
unfolding arriving
arriving-silent b u ds hs payload q s = go (keep (λ d. eqb (owner d) q) ds)
  where
    go : (xs : List ℕ) → notices_for s (map (λ d. message b.accepted (record { to = d; user = u; payload = payload; carried = hs })) xs) ≡ 0
    go [] = refl
    go (x ∷ xs) = omega (arith, go xs)

pub noted-deliver : (b : State) (u : ℕ) (ds hs payload : List ℕ) → Noted b → All (λ d. is_live (b.life d) ≡ true) ds → Carried hs → Noted (deliver b u ds hs payload)
unfolding deliver with_charges push_all
noted-deliver b u ds hs payload n a c =
    noted-queues b (λ q. b.queue q ++ arriving b u ds hs payload q) n
    (λ q. all_append (Stands b.handle b.life q) (b.queue q) (arriving b u ds hs payload q) (n.stands q) (arriving-stand b u ds hs payload q n a c))
    (λ q s. omega (arith, load-append (notice_for s) (λ e. 1) (b.queue q) (arriving b u ds hs payload q), arriving-silent b u ds hs payload q s, n.once q s))
