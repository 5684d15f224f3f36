-- The theorems that go with specs/Step.antt and stand on others: each goes by the definitions and the theorems there.
-- Assumes nothing.
use Rattle.std.specs.Prelude.{ℕ, ◌+◌, ◌/◌, ◌^◌, ◌≤◌, ◌<◌, ◌≡◌, true, get_or, set}
use Rattle.std.proofs.Common.{◌∙◌, arith, length-set, leb-true}
use Rattle.laws.specs.Tables.{map-set, map_at, set-le}
use Rattle.ids.specs.declared.User.{User}
use Rattle.quota.specs.declared.Charge.{Charge}
use Rattle.quota.specs.declared.Charges.{Charges}
use Rattle.quota.specs.Share.{Reach, at-most-half}
use Rattle.quota.proofs.Share.{share-allowed}
use Rattle.quota.specs.Share.Reach.{fresh, charge, lower}
use Rattle.quota.specs.Charges.{users, nothing, plus, less, own, fresh_charges, charged, discharged, allows1, allows_all}
use Rattle.quota.specs.Step.{Resource, each, messages-resource, bytes-resource, handles-resource, Every, every, allows-every, every-allows, Reached}

module _ {f : Charge → ℕ} (r : Resource f) where
  -- The user's own number.
  own-each : (c : Charges) (u : User) → get_or (each f c) u.0 0 ≡ f (own c u)
  own-each c u = map_at f nothing r.of-nothing c.by u.0

  pub reach-fresh : {L : ℕ} → Reach L users (each f fresh_charges)
  reach-fresh = rw r.of-nothing fresh

  -- A charge that the rule allows, where the limit is a two-byte number: no number is cut off at 65,535.
  pub reach-charged : {L k : ℕ} (c : Charges) (u : User) (a : Charge) → L ≤ 65535 → Reach L k (each f c) → allows1 L f c u a ≡ true →
      Reach L k (each f (charged c u a))
  reach-charged {L} c u a small reached allowed =
      let o = own-each c u in
      let p : f (plus (own c u) a) ≡ f (own c u) + f a = r.of-plus (own c u) a ∙ omega (arith, leb-true) in
      rw (map-set f c.by u.0 (plus (own c u) a), p, ← o) (charge u.0 (f a) reached (rw o allowed))

  -- A discharge of anything.
  pub reach-discharged : {L k : ℕ} (c : Charges) (u : User) (a : Charge) → Reach L k (each f c) → Reach L k (each f (discharged c u a))
  reach-discharged c u a reached =
      let l : f (less (own c u) a) ≤ get_or (each f c) u.0 0 = omega (arith, own-each c u, r.of-less (own c u) a) in
      rw (map-set f c.by u.0 (less (own c u) a))
      (lower (set (each f c) u.0 (f (less (own c u) a))) reached (length-set (each f c) u.0 _) (set-le (each f c) u.0 _ l))

  -- What the share theorem says of the user's own number.
  pub own-at-most-half : {L k : ℕ} (c : Charges) (u : User) → Reach L k (each f c) → f (own c u) ≤ L / 2
  own-at-most-half c u reached = rw (own-each c u) at (at-most-half reached u.0)

  pub share-allows : {L k : ℕ} (c : Charges) (u : User) (a : Charge) → u.0 < k → Reach L k (each f c) → f (own c u) + f a ≤ L / 2 ^ k → allows1 L f c u a ≡ true
  share-allows c u a h reached s = let o = own-each c u in rw o at (share-allowed reached u.0 (f a) h (rw o s))

pub reached-fresh : Reached fresh_charges
reached-fresh = record { messages = reach-fresh messages-resource; bytes = reach-fresh bytes-resource; handles = reach-fresh handles-resource }

pub reached-charged : (c : Charges) (u : User) (a : Charge) → Reached c → allows_all c u a ≡ true → Reached (charged c u a)
reached-charged c u a h e = every _ _ _ (λ L f r small. reach-charged r c u a small) h (allows-every c u a e)

pub reached-discharged : (c : Charges) (u : User) (a : Charge) → Reached c → Reached (discharged c u a)
reached-discharged c u a h = every _ _ _ (λ L f r small x y. reach-discharged r c u a x) h h

pub reached-half : (c : Charges) (u : User) → Reached c → Every (λ L f. f (own c u) ≤ L / 2)
reached-half c u h = every _ _ _ (λ L f r small x y. own-at-most-half r c u x) h h

pub reached-share : (c : Charges) (u : User) (a : Charge) → u.0 < users → Reached c → Every (λ L f. f (own c u) + f a ≤ L / 2 ^ users) → allows_all c u a ≡ true
reached-share c u a l h s = every-allows c u a (every _ _ _ (λ L f r small. share-allows r c u a l) h s)
