-- The theorems that go with specs/Charging.antt and stand on others: each goes by the definitions and the theorems there.
-- Assumes nothing.
use Rattle.std.specs.Prelude.{ℕ, ◌+◌, ◌-◌, ◌<◌, min, ◌≡◌, refl, List, [], ◌∷◌, length, get_or, set, eqb}
use Rattle.std.proofs.Common.{sym, ◌∙◌, arith, length-set, get_or-set_same, get_or-set_other, eq-eqb, ne_eqb}
use Rattle.laws.specs.Tests.{pick, Same, Same.same, Same.other, same?}
use Rattle.quota.specs.declared.Charge.{Charge}
use Rattle.quota.specs.declared.Charges.{Charges}
use Rattle.quota.specs.Charges.{nothing, own, charged, discharged}
use Rattle.model.specs.Resources.{Resource, Resource.messages, Resource.bytes, Resource.handles, amount}
use Rattle.model.specs.State.{Message}
use Rattle.model.specs.Changes.{charge_of, discharged_all}
use Rattle.model.specs.Charged.{weight_of, queued_by}
use Rattle.model.specs.Charging.{is-resource, Room}

-- A user's own number after a change of one user's charge.
module _ (r : Resource) where
  changed-at : (c : Charges) (u v : ℕ) (x : Charge) → v < length c.by →
      amount r (get_or (set c.by u x) v nothing) ≡ pick (eqb u v) (amount r x) (amount r (own c (record { 0 = v })))
  changed-at c u v x l = go (same? u v)
    where
      go : Same u v → amount r (get_or (set c.by u x) v nothing) ≡ pick (eqb u v) (amount r x) (amount r (own c (record { 0 = v })))
      go (same e) = rw (e, get_or-set_same c.by v x nothing l, eq-eqb v v refl)
      go (other e) = rw (get_or-set_other c.by u v x nothing (λ z. e (sym z)), ne_eqb u v e)

  charge-of : (m : Message) → amount r (charge_of m) ≡ weight_of r m
  charge-of m = go r
    where
      go : (r : Resource) → amount r (charge_of m) ≡ weight_of r m
      go messages = refl
      go bytes = refl
      go handles = refl

  discharged-at : (c : Charges) (u v : ℕ) (a : Charge) → v < length c.by →
      amount r (own (discharged c (record { 0 = u }) a) (record { 0 = v })) ≡ amount r (own c (record { 0 = v })) - pick (eqb u v) (amount r a) 0
  discharged-at c u v a l = rw (changed-at c u v _ l, (is-resource r).of-less) (go (same? u v))
    where
      go : Same u v →
          pick (eqb u v) (amount r (own c (record { 0 = u })) - amount r a) (amount r (own c (record { 0 = v })))
          ≡ amount r (own c (record { 0 = v })) - pick (eqb u v) (amount r a) 0
      go (same e) = rw (e, eq-eqb v v refl)
      go (other e) = rw (ne_eqb u v e) (omega arith)

  -- What leaves a queue is taken off.
  pub discharged-all-at : (c : Charges) (ms : List Message) (v : ℕ) → v < length c.by →
      amount r (own (discharged_all c ms) (record { 0 = v })) ≡ amount r (own c (record { 0 = v })) - queued_by r v ms
  discharged-all-at c [] v l = omega arith
  discharged-all-at c (m ∷ ms) v l =
      discharged-all-at (discharged c (record { 0 = m.user }) (charge_of m)) ms v (rw length-set l)
      ∙ rw (discharged-at c m.user v (charge_of m) l, charge-of m) (omega arith)

-- What such a charge leaves.
pub charged-at : (r : Resource) (c : Charges) (u v : ℕ) (a : Charge) → v < length c.by → Room c (record { 0 = u }) a →
    amount r (own (charged c (record { 0 = u }) a) (record { 0 = v })) ≡ amount r (own c (record { 0 = v })) + pick (eqb u v) (amount r a) 0
charged-at r c u v a l room = rw (changed-at r c u v _ l, (is-resource r).of-plus) (go (same? u v))
  where
    go : Same u v →
        pick (eqb u v) (min (amount r (own c (record { 0 = u })) + amount r a) 65535) (amount r (own c (record { 0 = v })))
        ≡ amount r (own c (record { 0 = v })) + pick (eqb u v) (amount r a) 0
    go (same e) = rw (← e, eq-eqb u u refl) (omega (arith, room.small r))
    go (other e) = rw (ne_eqb u v e) (omega arith)
