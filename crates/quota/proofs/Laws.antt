-- What the code of `quota::Charges` comes to, over plain values.
-- Assumes nothing.
use Prim.Native.Nat.{ℕ, zero, suc, ◌+◌, ◌-◌, ◌≤◌, ◌<◌}
use native.Mathlib.Numerals.{add-one}
use mathlib.Core.Path.{◌≡◌, sym, ap, ◌∙◌}
use mathlib.Core.List.{List, [], ◌∷◌, map}
use native.Mathlib.Omega.{arith}
use lib.ListN.{length, get_or, take, length-map, get_or-eq_default}
use lib.Seq.{take_all, set_out}
use Rattle.laws.specs.Tables.{map_at}
use Rattle.laws.specs.Sums.{sum, sum-without}
use Rattle.ids.specs.declared.User.{User}
use Rattle.quota.specs.declared.Charge.{Charge}
use Rattle.quota.specs.declared.Charges.{Charges}
use Rattle.quota.specs.Charges.{nothing, own, put, others_of}

-- There are four charges where their views are four: so the checker knows the length of an array of structs.
pub four-charges : {B : Type 0} (view : Charge → B) (c : Charges) → length (map view c.by) ≡ 4 → length c.by ≡ 4
four-charges view c h = sym (length-map c.by view) ∙ h

-- The charges with v at a place that is no user's number are as they were; what that user has queued is nothing.
pub put-out : (c : Charges) (u : User) (v : Charge) → length c.by ≤ u.0 → c ≡ put c u v
put-out c u v h = sym (ap (λ (l : List Charge). record { by = l }) (set_out c.by u.0 v h))

pub put-equal : (c : Charges) (u : User) {v w : Charge} → v ≡ w → put c u v ≡ put c u w
put-equal c u e = ap (put c u) e

pub own_out : (c : Charges) (u : User) {r : Charge} → length c.by ≤ u.0 → r ≡ nothing → r ≡ own c u
own_out c u h e = e ∙ sym (get_or-eq_default c.by nothing h)

-- Four numbers without the user's own are what the others have.
four : (l : List ℕ) → length l ≡ 4 → get_or l 0 0 + get_or l 1 0 + get_or l 2 0 + get_or l 3 0 ≡ sum l
four [] h = absurd (omega arith)
four (a ∷ []) h = absurd (omega arith)
four (a ∷ b ∷ []) h = absurd (omega arith)
four (a ∷ b ∷ c ∷ []) h = absurd (omega arith)
four (a ∷ b ∷ c ∷ d ∷ []) h = omega arith
four (a ∷ b ∷ c ∷ d ∷ e ∷ l) h = absurd (omega arith)

pub rest-others : (f : Charge → ℕ) → f nothing ≡ 0 → (c : Charges) (u : User) → length c.by ≡ 4 → {o : Charge} → o ≡ own c u → {r : ℕ} →
    r ≡ f (get_or c.by 0 nothing) + f (get_or c.by 1 nothing) + f (get_or c.by 2 nothing) + f (get_or c.by 3 nothing) - f o → r ≡ others_of f c u
rest-others f z c u h e s =
    let at = map_at f nothing z c.by in
    let t = four (map f c.by) (length-map c.by f ∙ h) in
    s ∙ omega (arith, at 0, at 1, at 2, at 3, at u.0, ap f e, t, sum-without (map f c.by) u.0)

-- The sum of a resource, user by user, and without the user's own number.
sum-next : (l : List ℕ) (k : ℕ) → k < length l → sum (take (suc k) l) ≡ sum (take k l) + get_or l k 0
sum-next [] k h = absurd (omega arith)
sum-next (x ∷ l) zero h = omega arith
sum-next (x ∷ l) (suc k) h = omega (arith, sum-next l k (omega arith))

module _ (f : Charge → ℕ) (z : f nothing ≡ 0) where
  pub sum-turn : (l : List Charge) (k : ℕ) → k < length l → {s n : ℕ} → s ≡ sum (take k (map f l)) → n ≡ f (get_or l k nothing) → s + n ≡ sum (take (k + 1) (map f l))
  sum-turn l k h e g =
      let m : k < length (map f l) = omega (arith, length-map l f) in
      rw add-one (omega (arith, e, g, sum-next (map f l) k m, map_at f nothing z l k))

  pub sum-others : (c : Charges) (u : User) (k : ℕ) → length c.by ≤ k → {s o r : ℕ} → s ≡ sum (take k (map f c.by)) → o ≡ f (own c u) → r ≡ s - o → r ≡ others_of f c u
  sum-others c u k h e g i =
      let t : take k (map f c.by) ≡ map f c.by = take_all k (map f c.by) (omega (arith, length-map c.by f)) in
      let w : sum (take k (map f c.by)) ≡ sum (map f c.by) = ap sum t in
      omega (arith, e, g, i, w, sum-without (map f c.by) u.0, map_at f nothing z c.by u.0)
