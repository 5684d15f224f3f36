-- Document 01, "Destroy queues a notice at every holder, owner included", 02 No. 2, "a destruction also queues a notice at each peer with an earlier queued message that carries the node", and "When the sum of counts over all peers falls to 1 from above on a live node, a release notice is
-- queued at the owner": what an accepted destroy and an accepted release do to each queue, wholly.
-- Assumes nothing.
use Rattle.std.specs.Prelude.{ℕ, suc, ◌-◌, ◌<◌, ◌≡◌, Bool, true, false, List, [], ◌∷◌, ◌++◌, map, eqb, ltb}
use Rattle.std.proofs.Math.Path.{refl}
use Rattle.std.proofs.Common.{sym, ap, ◌∙◌, append-nil, arith}
use borrow.Author.Tests.{eqb-true, eq-eqb, ne_eqb}
use Rattle.laws.specs.Tests.{pick, pick_all, Seen, Seen.is_true, Seen.is_false, look, clash, Same, Same.same, Same.other, same?}
use Rattle.laws.specs.Tables.{upd, upd_same, upd_other}
use Rattle.laws.specs.Weights.{keep, All, all-imp}
use Rattle.model.specs.Numbers.{peers, owner}
use Rattle.model.specs.Lists.{both, any}
use Rattle.model.specs.State.{Handle, Handle.some, handle_of, count, Entry, Entry.destroyed, Entry.released, State, concerned, owner_id, by_owner_id}
use Rattle.model.specs.Tables.{accept, with_lives, with_queues, with_handle, with_handles, with_charges}
use Rattle.model.specs.Changes.{push, push_all, take_out, not_released, withdraw, settle, remains, forget, fell, notify, destroy_notices, destroy_all}
use Rattle.model.specs.Effects.{destroys, releases, releases_handle}
use Rattle.model.specs.Occurs.{both_true}
use Rattle.model.specs.Rising.{Sorted, owner-pass, owner-sorted}
use Rattle.model.specs.RisingAll.{owner-all}

-- Of the older entries only the release notice of the node goes, at its owner p.
abbrev pub older : ℕ → ℕ → ℕ → List Entry → List Entry
older p s q es = pick (eqb p q) (keep (not_released (eqb s)) es) es

-- Behind them the notice, where q holds the node, or an earlier message carries it to q.
-- Slots that are all the same one, in strict order: it alone, or none.
alone : (key : ℕ → ℕ) (s : ℕ) (xs : List ℕ) → All (λ x. x ≡ s) xs → Sorted key xs → any (eqb s) xs ≡ true → xs ≡ s ∷ []
alone key s [] a o e = clash (sym e)
alone key s (x ∷ []) a o e = ap (λ (y : ℕ). y ∷ []) a.0
alone key s (x ∷ y ∷ xs) a o e = let l : key x < key y = o.0.0 in let k : key x ≡ key y = ap key (a.0 ∙ sym a.1.0) in absurd (omega arith)

pub nothing_left : (xs : List ℕ) → All (λ s. ⊥) xs → xs ≡ []
nothing_left [] a = refl
nothing_left (x ∷ xs) a = absurd a.0

notice-of : (h : ℕ → ℕ → Handle) (p s : ℕ) (u : ℕ → Bool) → owner s ≡ p → by_owner_id h p (λ x. both (eqb s x) (u x)) ≡ pick (u s) (s ∷ []) []
notice-of h p s u o = go (look (u s))
  where
    t : ℕ → Bool
    t x = both (eqb s x) (u x)

    go : Seen (u s) → by_owner_id h p t ≡ pick (u s) (s ∷ []) []
    go (is_true e) =
        rw e
        (alone (owner_id h) s (by_owner_id h p t)
        (all-imp (λ x. (t x ≡ true) × (owner x ≡ p)) (λ x. x ≡ s) (λ x z. sym (eqb-true s x (both_true (eqb s x) (u x) z.0).0)) (by_owner_id h p t) (owner-pass h p t))
        (owner-sorted h p t)
        (owner-all h p t s o (rw (eq-eqb s s refl, e) refl) (λ r v z y. sym (eqb-true s r (both_true (eqb s r) (u r) z).0))))
    go (is_false e) =
        rw e
        (nothing_left (by_owner_id h p t)
        (all-imp (λ x. (t x ≡ true) × (owner x ≡ p)) (λ x. ⊥)
        (λ x z. let w = both_true (eqb s x) (u x) z.0 in clash (sym w.1 ∙ ap u (sym (eqb-true s x w.0)) ∙ e))
        (by_owner_id h p t) (owner-pass h p t)))

-- The test at q.
abbrev pub told_at : State → ℕ → ℕ → Bool
told_at b q s = concerned (b.handle q) (b.queue q) (suc b.accepted) s

-- At every number q, a peer's or not.
pub told-all : (b : State) (p s q : ℕ) → owner s ≡ p →
    (destroys (accept b) p s).queue q ≡ older p s q (b.queue q) ++ pick (both (ltb q peers) (told_at b q s)) (destroyed (suc b.accepted) s ∷ []) []
unfolding destroys destroy_all destroy_notices with_lives withdraw push_all with_queues accept upd
told-all b p s q o =
    let e : map (destroyed (suc b.accepted)) (by_owner_id b.handle p (λ x. both (eqb s x) (told_at b q x))) ≡ pick (told_at b q s) (destroyed (suc b.accepted) s ∷ []) []
    = ap (map (destroyed (suc b.accepted))) (notice-of b.handle p s (told_at b q) o) ∙ mapped (told_at b q s) in
    rw e (go (same? p q) (look (ltb q peers)) (told_at b q s))
  where
    mapped : (t : Bool) → map (destroyed (suc b.accepted)) (pick t (s ∷ []) []) ≡ pick t (destroyed (suc b.accepted) s ∷ []) []
    mapped true = refl
    mapped false = refl

    go : Same p q → Seen (ltb q peers) → (t : Bool) →
        pick (eqb p q) (keep (not_released (eqb s)) (b.queue p)) (b.queue q) ++ pick (ltb q peers) (pick t (destroyed (suc b.accepted) s ∷ []) []) []
        ≡ older p s q (b.queue q) ++ pick (both (ltb q peers) t) (destroyed (suc b.accepted) s ∷ []) []
    go (same z) (is_true l) t = rw (l, z, eq-eqb q q refl) refl
    go (same z) (is_false l) t = rw (l, z, eq-eqb q q refl) refl
    go (other z) (is_true l) t = rw (l, ne_eqb p q z) refl
    go (other z) (is_false l) t = rw (l, ne_eqb p q z) refl

-- Release: where the count was 1 and the handle goes, what goes with it at p, where h are the handles that are left; behind the older entries the release notice, at the owner, where the
-- sum fell to 1.
abbrev pub stay : (ℕ → ℕ → Handle) → ℕ → ℕ → ℕ → ℕ → List Entry → List Entry
stay h p s c q es = pick (eqb c 1) (pick (eqb p q) (settle (h q) (keep (remains p s) es)) es) es

-- The handles that are left.
abbrev pub less_handles : State → ℕ → ℕ → ℕ → ℕ → ℕ → ℕ → Handle
less_handles b p s i c = upd b.handle p (upd (b.handle p) s (handle_of i (c - 1)))

notify-queue : (x y : State) (s q : ℕ) →
    (notify x y s).queue q ≡ y.queue q ++ pick (fell x (notify x y s) s) (pick (eqb (owner s) q) (released y.accepted s ∷ []) []) []
notify-queue x y s q = go (look (fell x y s))
  where
    same-fall : fell x (notify x y s) s ≡ fell x y s
    same-fall = unfold notify fell with_queues in pick_all (λ (z : State). fell x z s ≡ fell x y s) (fell x y s) (push y (owner s) (released y.accepted s ∷ [])) y refl refl

    here : Same (owner s) q → (push y (owner s) (released y.accepted s ∷ [])).queue q ≡ y.queue q ++ pick (eqb (owner s) q) (released y.accepted s ∷ []) []
    here (same z) = unfold with_queues in rw (z, upd_same, eq-eqb q q refl) refl
    here (other z) = unfold with_queues in rw (upd_other y.queue (owner s) q _ z, ne_eqb (owner s) q z) (sym (append-nil (y.queue q)))

    go : Seen (fell x y s) → (notify x y s).queue q ≡ y.queue q ++ pick (fell x (notify x y s) s) (pick (eqb (owner s) q) (released y.accepted s ∷ []) []) []
    go (is_true e) = rw (same-fall, e) (unfold notify in rw e (here (same? (owner s) q)))
    go (is_false e) = rw (same-fall, e) (unfold notify in rw e (sym (append-nil (y.queue q))))

-- The state before the notice.
abbrev released-once : State → ℕ → ℕ → ℕ → ℕ → State
released-once b p s i c = let less = with_handle (accept b) p s (handle_of i (c - 1)) in pick (eqb c 1) (forget less p s) less

once-queue : (b : State) (p s i c q : ℕ) → (released-once b p s i c).queue q ≡ stay (less_handles b p s i c) p s c q (b.queue q)
unfolding forget take_out with_charges with_queues with_handles accept
once-queue b p s i c q = go (look (eqb c 1)) (same? p q)
  where
    go : Seen (eqb c 1) → Same p q → (released-once b p s i c).queue q ≡ stay (less_handles b p s i c) p s c q (b.queue q)
    go (is_true e) (same z) = rw (e, z, upd_same, eq-eqb q q refl) refl
    go (is_true e) (other z) = rw (e, upd_other b.queue p q _ z, ne_eqb p q z) refl
    go (is_false e) z = rw e refl

once-accepted : (b : State) (p s i c : ℕ) → (released-once b p s i c).accepted ≡ suc b.accepted
unfolding forget take_out with_charges with_queues with_handles accept
once-accepted b p s i c = pick_all (λ (z : State). z.accepted ≡ suc b.accepted) (eqb c 1) _ _ refl refl

pub release-at : (b : State) (p s i c q : ℕ) →
    (releases (accept b) p s i c).queue q ≡ stay (less_handles b p s i c) p s c q (b.queue q) ++ pick (fell b (releases (accept b) p s i c) s) (pick (eqb (owner s) q) (released (suc b.accepted) s ∷ []) []) []
unfolding releases
release-at b p s i c q =
    let y = released-once b p s i c in
    let f : fell (accept b) (notify (accept b) y s) s ≡ fell b (notify (accept b) y s) s = unfold fell accept in refl in
    notify-queue (accept b) y s q ∙ rw (f, once-queue b p s i c q, once-accepted b p s i c) refl

release-some : (b : State) (p s i c q : ℕ) (x : Handle) → x ≡ some i c →
    (releases_handle (accept b) p s x).queue q ≡ stay (less_handles b p s i (count x)) p s (count x) q (b.queue q) ++ pick (fell b (releases_handle (accept b) p s x) s) (pick (eqb (owner s) q) (released (suc b.accepted) s ∷ []) []) []
release-some b p s i c q x e = rw e (release-at b p s i c q)
