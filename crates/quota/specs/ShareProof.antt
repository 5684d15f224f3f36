-- The proof of the share theorem of Share.antt. For a set S of users, the sum over S is at most the limit L less L / 2 ^ |S|. Stated without division, for all sets
-- at once, this holds of the list of zeros, and is kept by a charge within the rule and by any lowering. A set is a list of Bools, true at its members.
-- Assumes nothing.
use Rattle.std.specs.Prelude.{ℕ, zero, suc, ◌+◌, ◌*◌, ◌/◌, ◌^◌, ◌≤◌, ◌<◌, ◌≡◌, refl, Bool, true, false, List, [], ◌∷◌, length, get_or, set, replicate, ltb}
use Rattle.std.proofs.Common.{arith, le_refl, mul-le-mul_left, le-div_iff_mul-le, not-suc-le-zero, le_of_suc-le-suc, pow_pos, ltb-true, ltb-false, leb-true, leb-false}
use Rattle.std.proofs.Math.Nat.{le_of_mul-le-mul_left}
use Rattle.std.proofs.Math.Seq.{set_out}
use Rattle.laws.specs.Tests.{Seen, Seen.is_true, Seen.is_false, look, clash}
use Rattle.laws.specs.Sums.{sum}
use Rattle.quota.specs.Rule.{others, allowed}

-- The sum over a set, and two to the power of its size.
abbrev sum_over : List Bool → List ℕ → ℕ
sum_over [] c = 0
sum_over (b ∷ m) [] = 0
sum_over (true ∷ m) (x ∷ c) = x + sum_over m c
sum_over (false ∷ m) (x ∷ c) = sum_over m c

abbrev power : List Bool → ℕ
power [] = 1
power (true ∷ m) = 2 * power m
power (false ∷ m) = power m

-- The invariant.
abbrev pub Bounded : ℕ → List ℕ → Type 0
Bounded L c = (m : List Bool) → power m * sum_over m c + L ≤ power m * L

power-positive : (m : List Bool) → 0 < power m
power-positive [] = omega arith
power-positive (true ∷ m) = omega (arith, power-positive m)
power-positive (false ∷ m) = power-positive m

part-le-sum : (m : List Bool) (c : List ℕ) → sum_over m c ≤ sum c
part-le-sum [] c = omega arith
part-le-sum (b ∷ m) [] = omega arith
part-le-sum (true ∷ m) (x ∷ c) = omega (arith, part-le-sum m c)
part-le-sum (false ∷ m) (x ∷ c) = omega (arith, part-le-sum m c)

-- The set without one user.
abbrev without : List Bool → ℕ → List Bool
without m u = set m u false

-- What the set's sum is with y at a member, and what it has without that member.
record Member (m : List Bool) (c : List ℕ) (u y : ℕ) : Type 0 where
  pub changed : sum_over m (set c u y) ≡ y + sum_over (without m u) c
  pub doubled : power m ≡ 2 * power (without m u)
  pub apart : sum_over (without m u) c ≡ sum_over (without m u) (set c u 0)

at-member : (m : List Bool) (c : List ℕ) (u y : ℕ) → get_or m u false ≡ true → u < length c → Member m c u y
at-member [] c u y e h = let z : ◌≡◌ {A = Bool} true false = cc in clash z
at-member (b ∷ m) [] u y e h = absurd (not-suc-le-zero h)
at-member (true ∷ m) (x ∷ c) zero y e h = record { changed = refl; doubled = refl; apart = refl }
at-member (false ∷ m) (x ∷ c) zero y e h = let z : ◌≡◌ {A = Bool} true false = cc in clash z
at-member (true ∷ m) (x ∷ c) (suc u) y e h =
    let r = at-member m c u y e (le_of_suc-le-suc h) in record { changed = omega arith; doubled = omega arith; apart = omega arith }
at-member (false ∷ m) (x ∷ c) (suc u) y e h =
    let r = at-member m c u y e (le_of_suc-le-suc h) in record { changed = omega arith; doubled = omega arith; apart = omega arith }

-- A change at a user outside the set.
at_other : (m : List Bool) (c : List ℕ) (u y : ℕ) → get_or m u false ≡ false → sum_over m (set c u y) ≡ sum_over m c
at_other [] c u y e = refl
at_other (b ∷ m) [] u y e = refl
at_other (true ∷ m) (x ∷ c) zero y e = clash e
at_other (false ∷ m) (x ∷ c) zero y e = refl
at_other (true ∷ m) (x ∷ c) (suc u) y e = omega (arith, at_other m c u y e)
at_other (false ∷ m) (x ∷ c) (suc u) y e = at_other m c u y e

-- The three ways to reach a list keep the invariant.
zeros : (m : List Bool) (k : ℕ) → sum_over m (replicate k 0) ≡ 0
zeros [] k = refl
zeros (b ∷ m) zero = refl
zeros (true ∷ m) (suc k) = omega (arith, zeros m k)
zeros (false ∷ m) (suc k) = zeros m k

pub bounded-fresh : (L k : ℕ) → Bounded L (replicate k 0)
bounded-fresh L k m = rw (zeros m k) (omega (arith, mul-le-mul_left L (power-positive m)))

pub bounded-charge : (L : ℕ) (c : List ℕ) (u a : ℕ) → Bounded L c → allowed L (others c u) (get_or c u 0) a ≡ true → Bounded L (set c u (get_or c u 0 + a))
bounded-charge L c u a inv h m = go (look (ltb u (length c))) (look (get_or m u false))
  where
    go : Seen (ltb u (length c)) → Seen (get_or m u false) → power m * sum_over m (set c u (get_or c u 0 + a)) + L ≤ power m * L
    go (is_false e) q = rw (set_out c u (get_or c u 0 + a) (ltb-false _ _ e)) (inv m)
    go (is_true e) (is_false f) = rw (at_other m c u (get_or c u 0 + a) f) (inv m)
    go (is_true e) (is_true f) =
        let r = at-member m c u (get_or c u 0 + a) f (ltb-true _ _ e) in
        let i = inv (without m u) in
        let s : sum_over (without m u) c ≤ others c u = omega (arith, part-le-sum (without m u) (set c u 0)) in
        let l : sum_over (without m u) c ≤ L = le_of_mul-le-mul_left {k = power (without m u)} (omega arith) (power-positive (without m u)) in
        let t : 2 * (get_or c u 0 + a) + sum_over (without m u) c ≤ L = omega (arith, leb-true) in
        rw (r.changed, r.doubled) (omega (arith, mul-le-mul_left (power (without m u)) t))

lowered : (m : List Bool) (d c : List ℕ) → length d ≡ length c → ((u : ℕ) → get_or d u 0 ≤ get_or c u 0) → sum_over m d ≤ sum_over m c
lowered [] d c e h = omega arith
lowered (b ∷ m) [] c e h = omega arith
lowered (b ∷ m) (x ∷ d) [] e h = absurd (omega arith)
lowered (true ∷ m) (x ∷ d) (y ∷ c) e h = omega (arith, h 0, lowered m d c (omega arith) (λ u. h (suc u)))
lowered (false ∷ m) (x ∷ d) (y ∷ c) e h = lowered m d c (omega arith) (λ u. h (suc u))

pub bounded-lower : (L : ℕ) (d c : List ℕ) → Bounded L c → length d ≡ length c → ((u : ℕ) → get_or d u 0 ≤ get_or c u 0) → Bounded L d
bounded-lower L d c inv e h m = omega (arith, mul-le-mul_left (power m) (lowered m d c e h), inv m)

-- The sets of one user, of all users, and of all but one.
abbrev one : ℕ → List Bool
one zero = true ∷ []
one (suc u) = false ∷ one u

one_power : (u : ℕ) → power (one u) ≡ 2
one_power zero = refl
one_power (suc u) = one_power u

one-sum : (u : ℕ) (c : List ℕ) → sum_over (one u) c ≡ get_or c u 0
one-sum zero [] = refl
one-sum zero (x ∷ c) = omega arith
one-sum (suc u) [] = refl
one-sum (suc u) (x ∷ c) = one-sum u c

all-sum : (c : List ℕ) → sum_over (replicate (length c) true) c ≡ sum c
all-sum [] = refl
all-sum (x ∷ c) = omega (arith, all-sum c)

all-power : (k : ℕ) → power (replicate k true) ≡ 2 ^ k
all-power zero = refl
all-power (suc k) = omega (arith, all-power k)

others-sum : (c : List ℕ) (u : ℕ) → sum_over (without (replicate (length c) true) u) c ≡ others c u
others-sum [] u = refl
others-sum (x ∷ c) zero = omega (arith, all-sum c)
others-sum (x ∷ c) (suc u) = omega (arith, others-sum c u)

others-power : (k u : ℕ) → u < k → 2 * power (without (replicate k true) u) ≡ 2 ^ k
others-power zero u h = absurd (not-suc-le-zero h)
others-power (suc k) zero h = omega (arith, all-power k)
others-power (suc k) (suc u) h = omega (arith, others-power k u (le_of_suc-le-suc h))

-- What the invariant says at these sets.
pub bounded-half : (L : ℕ) (c : List ℕ) → Bounded L c → (u : ℕ) → get_or c u 0 ≤ L / 2
bounded-half L c inv u = omega (arith, rw (one_power u, one-sum u c) at (inv (one u)))

pub bounded-sum : (L : ℕ) (c : List ℕ) → Bounded L c → sum c ≤ L
bounded-sum L c inv =
    let m = replicate (length c) true in
    let i : power m * sum c + L ≤ power m * L = rw (all-sum c) at (inv m) in
    le_of_mul-le-mul_left {k = power m} (omega arith) (power-positive (replicate (length c) true))

pub bounded-rest : (L : ℕ) (c : List ℕ) → Bounded L c → sum c + L / 2 ^ length c ≤ L
bounded-rest L c inv =
    let p = 2 ^ length c in
    let i : p * sum c + L ≤ p * L = rw (all-sum c, all-power (length c)) at (inv (replicate (length c) true)) in
    let q : L / p * p ≤ L = (le-div_iff_mul-le (pow_pos (length c))).0 (le_refl (L / p)) in
    le_of_mul-le-mul_left {k = p} (omega arith) (pow_pos (length c))

pub bounded-allows : (L : ℕ) (c : List ℕ) → Bounded L c → (u a : ℕ) → u < length c → get_or c u 0 + a ≤ L / 2 ^ length c →
    allowed L (others c u) (get_or c u 0) a ≡ true
bounded-allows L c inv u a h s = go (look (allowed L (others c u) (get_or c u 0) a))
  where
    go : Seen (allowed L (others c u) (get_or c u 0) a) → allowed L (others c u) (get_or c u 0) a ≡ true
    go (is_true e) = e
    go (is_false e) =
        let p = power (without (replicate (length c) true) u) in
        let w : 2 * p ≡ 2 ^ length c = others-power (length c) u h in
        let i : p * others c u + L ≤ p * L = rw (others-sum c u) at (inv (without (replicate (length c) true) u)) in
        let q : (get_or c u 0 + a) * (2 * p) ≤ L = rw w ((le-div_iff_mul-le (pow_pos (length c))).0 s) in
        let t : 2 * (get_or c u 0 + a) + others c u ≤ L = le_of_mul-le-mul_left {k = p} (omega arith) (power-positive (without (replicate (length c) true) u)) in
        absurd (omega (arith, leb-false))
