-- What a removal's test says: of the kinds, of the slots of one owner, of one slot.
-- Assumes nothing.
use Rattle.std.specs.Prelude.{ℕ, zero, suc, ◌+◌, ◌*◌, ◌-◌, ◌/◌, ◌%◌, ◌^◌, ◌≤◌, ◌<◌, ◌≡◌, refl, false, eqb, ltb, leb}
use Rattle.std.proofs.Common.{ap, ◌∙◌, arith, pow-add, eqb-true, leb-true, leb-false, ltb-true, ltb-false, eq-eqb, ne_eqb, le-ltb}
use Rattle.std.proofs.Math.Nat.{div-eq_of_lt}
use Rattle.std.proofs.Math.Pow.{pow-lt}
use Rattle.std.proofs.lemmas.Nat.{shl-shr}
use Rattle.std.proofs.lemmas.Bool.{eqb-false}
use Rattle.laws.specs.Tests.{pick, Seen, Seen.is_true, Seen.is_false, look}
use Rattle.rings.specs.Rings.{kind_message, kind_destroyed, kind_released, kind_count, slots, bit_at, kind_bit, slot_in, matches, one_slot}
use Rattle.rings.specs.declared.Entry.{Entry}

-- A kind that is no notice's is a message's.
pub kind-other : (k : ℕ) → (k ≡ kind_destroyed → ⊥) → (k ≡ kind_released → ⊥) → kind_bit k ≡ kind_message
kind-other zero a b = refl
kind-other (suc zero) a b = absurd (a refl)
kind-other (suc (suc zero)) a b = absurd (b refl)
kind-other (suc (suc (suc k))) a b = rw (le-ltb (suc (suc (suc k))) kind_count (omega arith))

-- A mask of one bit.
pub bit-one : (a b : ℕ) → bit_at (2 ^ a) b ≡ eqb b a
bit-one a b = go (look (ltb b a)) (look (ltb a b))
  where
    split : b ≤ a → 2 ^ a / 2 ^ b ≡ 2 ^ (a - b)
    split h =
        let e : a ≡ (a - b) + b = omega arith in
        ap (λ (n : ℕ). 2 ^ n / 2 ^ b) e ∙ ap (λ (n : ℕ). n / 2 ^ b) (pow-add 2 (a - b) b) ∙ shl-shr (2 ^ (a - b)) b

    go : Seen (ltb b a) → Seen (ltb a b) → bit_at (2 ^ a) b ≡ eqb b a
    go (is_true l) s =
        let h : b < a = ltb-true b a l in
        let z : a - b ≡ suc (a - b - 1) = omega arith in
        let d : 2 ^ suc (a - b - 1) % 2 ≡ 0 = omega arith in
        rw (ne_eqb b a (λ e. absurd (omega arith)), split (omega arith), z, d)
    go (is_false l) (is_true r) =
        let h : a < b = ltb-true a b r in
        let f : 2 ^ a / 2 ^ b ≡ 0 = div-eq_of_lt (pow-lt h) in
        rw (ne_eqb b a (λ e. absurd (omega arith)), f)
    go (is_false l) (is_false r) =
        let h : a ≤ b = ltb-false b a l in
        let k : b ≤ a = ltb-false a b r in
        let e : b ≡ a = omega arith in
        let z : a - b ≡ 0 = omega arith in
        rw (eq-eqb b a e, split k, z)

-- A set of the slots of the owner p, and one slot.
pub slot-set : (p mask s : ℕ) → slot_in (p * slots) mask s ≡ pick (eqb (s / slots) p) (bit_at mask (s % slots)) false
unfolding slot_in
slot-set p mask s = go (look (leb (p * slots) s)) (look (ltb s (p * slots + slots)))
  where
    apart : (s / slots ≡ p → ⊥) → false ≡ pick (eqb (s / slots) p) (bit_at mask (s % slots)) false
    apart n = rw (ne_eqb (s / slots) p n)

    go : Seen (leb (p * slots) s) → Seen (ltb s (p * slots + slots)) → slot_in (p * slots) mask s ≡ pick (eqb (s / slots) p) (bit_at mask (s % slots)) false
    go (is_false a) b = let h : s < p * slots = leb-false (p * slots) s a in rw a (apart (λ e. absurd (omega arith)))
    go (is_true a) (is_false b) = let h : p * slots + slots ≤ s = ltb-false s (p * slots + slots) b in rw (a, b) (apart (λ e. absurd (omega arith)))
    go (is_true a) (is_true b) =
        let h : p * slots ≤ s = leb-true (p * slots) s a in
        let k : s < p * slots + slots = ltb-true s (p * slots + slots) b in
        let e : s / slots ≡ p = omega arith in
        let f : s - p * slots ≡ s % slots = omega arith in
        rw (a, b, eq-eqb (s / slots) p e, f)

pub slot-one : (t s : ℕ) → slot_in (t / slots * slots) (2 ^ (t % slots)) s ≡ eqb s t
slot-one t s = slot-set (t / slots) (2 ^ (t % slots)) s ∙ rw (bit-one (t % slots) (s % slots)) (go (look (eqb s t)) (look (eqb (s / slots) (t / slots))))
  where
    go : Seen (eqb s t) → Seen (eqb (s / slots) (t / slots)) → pick (eqb (s / slots) (t / slots)) (eqb (s % slots) (t % slots)) false ≡ eqb s t
    go (is_true e) y =
        let h : s ≡ t = eqb-true s t e in
        rw (e, eq-eqb (s / slots) (t / slots) (omega arith), eq-eqb (s % slots) (t % slots) (omega arith))
    go (is_false e) (is_false f) = rw (e, f)
    go (is_false e) (is_true f) =
        let h : s / slots ≡ t / slots = eqb-true (s / slots) (t / slots) f in
        rw (e, f, ne_eqb (s % slots) (t % slots) (λ g. eqb-false s t e (omega arith)))

-- What matches, in these words: an entry of these kinds, about a slot of the owner p in the mask, or about the slot t.
pub matches-set : (k p mask : ℕ) (e : Entry) →
    matches (record { kinds = k; first = p * slots; mask = mask }) e
    ≡ pick (bit_at k (kind_bit e.kind)) (pick (eqb (e.slot / slots) p) (bit_at mask (e.slot % slots)) false) false
unfolding matches
matches-set k p mask e = rw (slot-set p mask e.slot)

pub matches-one : (k t : ℕ) (e : Entry) →
    matches (one_slot k t) e ≡ pick (bit_at k (kind_bit e.kind)) (eqb e.slot t) false
unfolding matches one_slot
matches-one k t e = rw (slot-one t e.slot)
