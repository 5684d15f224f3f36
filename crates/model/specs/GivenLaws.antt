-- The new IDs that a command's reply shows to a peer are the next ones of 7, 11, 15, ...
-- Assumes nothing.
use Rattle.std.specs.Prelude.{ℕ, suc, ◌≤◌, ◌<◌, ◌≡◌, refl, Bool, true, false, [], ◌∷◌, ◌++◌, eqb, ltb}
use Rattle.std.proofs.Common.{sym, ap, ◌∙◌, append-nil, arith, eqb-true, eq-eqb, ne_eqb, ltb-true, ltb-false}
use Rattle.laws.specs.Tests.{pick, Seen, Seen.is_true, Seen.is_false, look, clash, Same, Same.same, Same.other, same?}
use Rattle.laws.specs.Tables.{upd, upd_same, upd_other}
use Rattle.laws.specs.Search.{first-before}
use Rattle.laws.specs.Build.{build, build-snoc}
use Rattle.model.specs.Numbers.{nodes, owner, invalid, next_id}
use Rattle.model.specs.Lists.{either}
use Rattle.model.specs.State.{Handle, Handle.none, Handle.some, handle_of, count, has_id, State, slot_of, slot}
use Rattle.model.specs.Tables.{with_given, with_handles, with_queues}
use Rattle.model.specs.Changes.{withdraw, shown, given_after, give, valid}
use Rattle.model.specs.IdsLaws.{Holding, next-free, Changed, Changed.here, Changed.there, changed}
use Rattle.model.specs.SimSend.{held-at-slot}
use Rattle.model.specs.QueuesProof.{give-handle, give-dead}
use Rattle.model.specs.Given.{holds_id}

-- Two tests with the same facts.
same_test : (a b : Bool) → (a ≡ true → b ≡ true) → (b ≡ true → a ≡ true) → a ≡ b
same_test true true f g = refl
same_test true false f g = sym (f refl)
same_test false true f g = g refl
same_test false false f g = refl

-- The IDs that a peer holds.
pub holds-true : (b : State) (p t i c : ℕ) → t < nodes → b.handle p t ≡ some i c → holds_id b p i ≡ true
unfolding slot_of
holds-true b p t i c l e = go (look (ltb (slot b p i) nodes))
  where
    go : Seen (ltb (slot b p i) nodes) → holds_id b p i ≡ true
    go (is_true z) = z
    go (is_false z) =
        let m : nodes ≤ slot b p i = ltb-false (slot b p i) nodes z in
        let f : has_id i (b.handle p t) ≡ false = first-before (λ s. has_id i (b.handle p s)) nodes t (omega arith) in
        clash (sym (rw e (eq-eqb i i refl)) ∙ f)

pub holds_at : (b : State) (p i : ℕ) → holds_id b p i ≡ true → (t : ℕ) × (c : ℕ) × (b.handle p t ≡ some i c)
holds_at b p i e = let r = held-at-slot b p i (ltb-true (slot b p i) nodes e) in (slot b p i, r.0, r.1)

-- .. after a handle was given to it
handle-after : (x : State) (p as_of s t : ℕ) → valid x p as_of s ≡ true → (give x p as_of s).handle p t ≡ upd (x.handle p) s (handle_of (shown x p as_of s) (suc (count (x.handle p s)))) t
handle-after x p as_of s t e = rw (give-handle x p as_of s e, upd_same) refl

shown-id : (x : State) (p as_of s i c : ℕ) → valid x p as_of s ≡ true → x.handle p s ≡ some i c → shown x p as_of s ≡ i
unfolding shown
shown-id x p as_of s i c e h = rw (e, h) refl

holds_after : (x : State) (p as_of s : ℕ) → Holding x → s < nodes → valid x p as_of s ≡ true → (j : ℕ) →
    holds_id (give x p as_of s) p j ≡ either (eqb (shown x p as_of s) j) (holds_id x p j)
holds_after x p as_of s v l e j = same_test (holds_id (give x p as_of s) p j) (either (eqb (shown x p as_of s) j) (holds_id x p j)) forth (λ f. back (look (eqb (shown x p as_of s) j)) f)
  where
    is-shown : shown x p as_of s ≡ j → holds_id (give x p as_of s) p j ≡ true
    is-shown z =
        let n : ℕ = count (x.handle p s) in
        let h : (give x p as_of s).handle p s ≡ some j (suc n) = handle-after x p as_of s s e ∙ rw (upd_same, z) refl in
        holds-true (give x p as_of s) p s j (suc n) l h

    back : Seen (eqb (shown x p as_of s) j) → either (eqb (shown x p as_of s) j) (holds_id x p j) ≡ true → holds_id (give x p as_of s) p j ≡ true
    back (is_true z) f = is-shown (eqb-true (shown x p as_of s) j z)
    back (is_false z) f = go (holds_at x p j (rw z at f))
      where
        go : (t : ℕ) × (c : ℕ) × (x.handle p t ≡ some j c) → holds_id (give x p as_of s) p j ≡ true
        go r = on (same? s r.0)
          where
            on : Same s r.0 → holds_id (give x p as_of s) p j ≡ true
            on (same y) = is-shown (shown-id x p as_of s j r.1 e (rw y r.2))
            on (other y) =
                holds-true (give x p as_of s) p r.0 j r.1 ((v.handles p).within r.0 j r.1 r.2)
                (handle-after x p as_of s r.0 e ∙ upd_other (x.handle p) s r.0 (handle_of (shown x p as_of s) (suc (count (x.handle p s)))) y ∙ r.2)

    forth : holds_id (give x p as_of s) p j ≡ true → either (eqb (shown x p as_of s) j) (holds_id x p j) ≡ true
    forth f = go (holds_at (give x p as_of s) p j f)
      where
        go : (t : ℕ) × (c : ℕ) × ((give x p as_of s).handle p t ≡ some j c) → either (eqb (shown x p as_of s) j) (holds_id x p j) ≡ true
        go r = on (changed (x.handle p) s (shown x p as_of s) (suc (count (x.handle p s))) r.0 j r.1 (sym (handle-after x p as_of s r.0 e) ∙ r.2))
          where
            on : Changed (x.handle p) s (shown x p as_of s) r.0 j r.1 → either (eqb (shown x p as_of s) j) (holds_id x p j) ≡ true
            on (here z y k) = rw (eq-eqb (shown x p as_of s) j y) refl
            on (there z y) = either-right (eqb (shown x p as_of s) j) (holds_id x p j) (holds-true x p r.0 j r.1 ((v.handles p).within r.0 j r.1 y) y)
              where
                either-right : (a b : Bool) → b ≡ true → either a b ≡ true
                either-right true b h = refl
                either-right false b h = h

-- So many IDs can be given at most to a peer: 8 by each of 2^40 commands.
abbrev pub most_given : ℕ
most_given = 8796093022208

dead-shown : (x : State) (p as_of s : ℕ) → valid x p as_of s ≡ false → shown x p as_of s ≡ invalid
unfolding shown
dead-shown x p as_of s e = rw e refl

new-shown : (x : State) (p as_of s : ℕ) → valid x p as_of s ≡ true → x.handle p s ≡ none → shown x p as_of s ≡ next_id (x.given p)
unfolding shown
new-shown x p as_of s e h = rw (e, h) refl

given-after : (x : State) (p as_of s : ℕ) → valid x p as_of s ≡ true → (give x p as_of s).given p ≡ given_after (x.handle p s) (x.given p)
unfolding give withdraw with_handles with_given with_queues
given-after x p as_of s e = rw (e, upd_same) refl

-- An ID at a handle is not the invalid one.
pub id-valid : (x : State) (p t i c : ℕ) → Holding x → x.given p ≤ most_given → x.handle p t ≡ some i c → i ≡ invalid → ⊥
id-valid x p t i c v l e z = go (same? (owner t) p)
  where
    go : Same (owner t) p → ⊥
    go (same o) = omega (arith, (v.handles p).chosen t i c e o)
    go (other o) = let r = (v.handles p).given t i c e o in omega (arith, r.1, r.2)

-- One ID shown.
pub first-new : (x : State) (p as_of s : ℕ) (known : ℕ → Bool) → Holding x → s < nodes → x.given p < most_given → ((j : ℕ) → (j ≡ invalid → ⊥) → known j ≡ holds_id x p j) →
    build next_id (x.given p) ++ pick (either (eqb (shown x p as_of s) invalid) (known (shown x p as_of s))) [] (shown x p as_of s ∷ []) ≡ build next_id ((give x p as_of s).given p)
first-new x p as_of s known v l few same-ids = go (look (valid x p as_of s)) (x.handle p s) refl
  where
    go : Seen (valid x p as_of s) → (h : Handle) → x.handle p s ≡ h →
        build next_id (x.given p) ++ pick (either (eqb (shown x p as_of s) invalid) (known (shown x p as_of s))) [] (shown x p as_of s ∷ []) ≡ build next_id ((give x p as_of s).given p)
    go (is_false e) h f = rw (give-dead x p as_of s e, dead-shown x p as_of s e) (append-nil (build next_id (x.given p)))
    go (is_true e) (some i c) f =
        let n : (i ≡ invalid → ⊥) = id-valid x p s i c v (omega arith) f in
        rw (shown-id x p as_of s i c e f, given-after x p as_of s e, f, ne_eqb i invalid n, same-ids i n, holds-true x p s i c l f) (append-nil (build next_id (x.given p)))
    go (is_true e) none f =
        let g : ℕ = x.given p in
        let n : (next_id g ≡ invalid → ⊥) = λ z. omega arith in
        rw (new-shown x p as_of s e f, given-after x p as_of s e, f, ne_eqb (next_id g) invalid n, same-ids (next_id g) n, unheld (look (holds_id x p (next_id g))))
        (sym (build-snoc next_id g))
      where
        unheld : Seen (holds_id x p (next_id (x.given p))) → holds_id x p (next_id (x.given p)) ≡ false
        unheld (is_false z) = z
        unheld (is_true z) = let r = holds_at x p (next_id (x.given p)) z in absurd (next-free p (x.given p) (x.handle p) r.0 r.1 (v.handles p) r.2)

pub next_known : (x : State) (p as_of s : ℕ) (known : ℕ → Bool) → Holding x → s < nodes → ((j : ℕ) → (j ≡ invalid → ⊥) → known j ≡ holds_id x p j) →
    (j : ℕ) → (j ≡ invalid → ⊥) → either (eqb (shown x p as_of s) j) (known j) ≡ holds_id (give x p as_of s) p j
next_known x p as_of s known v l same-ids j n = go (look (valid x p as_of s))
  where
    go : Seen (valid x p as_of s) → either (eqb (shown x p as_of s) j) (known j) ≡ holds_id (give x p as_of s) p j
    go (is_false e) = rw (give-dead x p as_of s e, dead-shown x p as_of s e, ne_eqb invalid j (λ z. n (sym z))) (same-ids j n)
    go (is_true e) = ap (either (eqb (shown x p as_of s) j)) (same-ids j n) ∙ sym (holds_after x p as_of s v l e j)
