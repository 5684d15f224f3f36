-- The users' charges at one peer, over any resource: what a charge and discharges leave of a user's own number, and when a charge keeps them within the share theorem.
-- Assumes nothing.
use Rattle.std.specs.Prelude.{ℕ, ◌+◌, ◌≤◌, ◌<◌, ◌≡◌, true, List, [], ◌∷◌, length, get_or}
use Rattle.std.proofs.Common.{sym, ap, ◌∙◌, arith, leb-true}
use Rattle.std.proofs.lemmas.List.{length-map, get_or-replicate}
use Rattle.std.proofs.Math.Seq.{map-set_same}
use Rattle.ids.specs.declared.User.{User}
use Rattle.quota.specs.declared.Charge.{Charge}
use Rattle.quota.specs.declared.Charges.{Charges}
use Rattle.quota.specs.Charges.{users, nothing, plus, own, fresh_charges, charged, discharged, others_of, allows1, allows_all}
use Rattle.quota.specs.Rule.{half}
use Rattle.quota.specs.Share.{Reach, reach-length}
use Rattle.quota.specs.Step.{Resource as IsResource, Every, every, each, Reached, messages-resource, bytes-resource, handles-resource, allows-every}
use Rattle.quota.proofs.Step.{own-at-most-half, reached-charged, reached-discharged}
use Rattle.model.specs.Resources.{Resource, Resource.messages, Resource.bytes, Resource.handles, limit, amount}
use Rattle.model.specs.State.{Message}
use Rattle.model.specs.Changes.{charge_of, discharged_all}

-- A fact of each resource is one of the three, and the other way round.
pub at-resource : (P : ℕ → (Charge → ℕ) → Type 0) → Every P → (r : Resource) → P (limit r) (amount r)
at-resource P h messages = h.messages
at-resource P h bytes = h.bytes
at-resource P h handles = h.handles

pub of-resource : (P : ℕ → (Charge → ℕ) → Type 0) → ((r : Resource) → P (limit r) (amount r)) → Every P
of-resource P h = record { messages = h messages; bytes = h bytes; handles = h handles }

pub is-resource : (r : Resource) → IsResource (amount r)
is-resource messages = messages-resource
is-resource bytes = bytes-resource
is-resource handles = handles-resource

pub small-limit : (r : Resource) → limit r ≤ 65535
small-limit messages = omega arith
small-limit bytes = omega arith
small-limit handles = omega arith

pub reached-at : (c : Charges) → Reached c → (r : Resource) → Reach (limit r) users (each (amount r) c)
reached-at c h = at-resource (λ L f. Reach L users (each f c)) h

-- There is a charge for each user.
pub reached-length : (c : Charges) → Reached c → length c.by ≡ users
reached-length c h = sym (length-map c.by (λ (x : Charge). x.messages)) ∙ reach-length h.messages

-- Nothing is charged at first.
pub fresh_at : (r : Resource) (u : ℕ) → u < users → amount r (own fresh_charges (record { 0 = u })) ≡ 0
fresh_at r u l = ap (amount r) (get_or-replicate users u nothing nothing l) ∙ (is-resource r).of-nothing

pub reached-discharged-all : (c : Charges) (ms : List Message) → Reached c → Reached (discharged_all c ms)
reached-discharged-all c [] h = h
reached-discharged-all c (m ∷ ms) h = reached-discharged-all (discharged c (record { 0 = m.user }) (charge_of m)) ms (reached-discharged c (record { 0 = m.user }) (charge_of m) h)

-- A charge that keeps within the share theorem, of which no number is cut off at 65,535: one that the rule allows, and that of nothing.
pub record Room (c : Charges) (u : User) (a : Charge) : Type 0 where
  pub reached : Reached (charged c u a)
  pub small : (r : Resource) → amount r (own c u) + amount r a ≤ 65535

pub room-allowed : (c : Charges) (u : User) (a : Charge) → Reached c → allows_all c u a ≡ true → Room c u a
room-allowed c u a h e =
    record {
      reached = reached-charged c u a h e;
      small =
          λ r.
          let t : amount r (own c u) + amount r a ≤ half (limit r) (others_of (amount r) c u) =
          leb-true _ _ (at-resource (λ L f. allows1 L f c u a ≡ true) (allows-every c u a e) r) in
          omega (arith, small-limit r);
    }

pub room-nothing : (c : Charges) (u : User) (a : Charge) → Reached c → ((r : Resource) → amount r a ≡ 0) → Room c u a
room-nothing c u a h z =
    record {
      reached =
          every (λ L f. Reach L users (each f c)) (λ L f. f a ≡ 0) (λ L f. Reach L users (each f (charged c u a)))
          (λ L f r small x y.
          let e : f (plus (own c u) a) ≡ f (get_or c.by u.0 nothing) = r.of-plus (own c u) a ∙ omega (arith, own-at-most-half r c u x) in
          rw (map-set_same f c.by u.0 (plus (own c u) a) nothing e) x)
          h (of-resource (λ L f. f a ≡ 0) z);
      small = λ r. omega (arith, z r, small-limit r, own-at-most-half (is-resource r) c u (reached-at c h r));
    }
