-- The charges of a peer stay within the share theorem: a charge that the rule allows, and any discharge, keep each resource's list of charges among those that
-- can be reached. Proved once, over any resource; then for the three together. Assumes nothing.
use Rattle.std.specs.Prelude.{ℕ, ◌+◌, ◌-◌, ◌≤◌, min, ◌≡◌, refl, true, false, List, map}
use Rattle.std.proofs.Common.{sym, arith}
use Rattle.laws.specs.Tests.{pick-then, clash}
use Rattle.ids.specs.declared.User.{User}
use Rattle.quota.specs.declared.Charge.{Charge}
use Rattle.quota.specs.declared.Charges.{Charges}
use Rattle.quota.specs.Share.{Reach}
use Rattle.quota.specs.Charges.{message_limit, byte_limit, handle_limit, users, nothing, plus, less, allows1, allows_all}

-- What makes a field of a charge a resource.
pub record Resource (f : Charge → ℕ) : Type 0 where
  pub of-nothing : f nothing ≡ 0
  pub of-plus : (c a : Charge) → f (plus c a) ≡ min (f c + f a) 65535
  pub of-less : (c a : Charge) → f (less c a) ≡ f c - f a

-- One resource of every user's charge.
abbrev pub each : (Charge → ℕ) → Charges → List ℕ
each f c = map f c.by

-- The three resources, with their limits; a fact of each; and a step from such facts, proved once.
pub messages-resource : Resource (λ c. c.messages)
messages-resource = record { of-nothing = refl; of-plus = λ c a. refl; of-less = λ c a. refl }

pub bytes-resource : Resource (λ c. c.bytes)
bytes-resource = record { of-nothing = refl; of-plus = λ c a. refl; of-less = λ c a. refl }

pub handles-resource : Resource (λ c. c.handles)
handles-resource = record { of-nothing = refl; of-plus = λ c a. refl; of-less = λ c a. refl }

pub record Every (P : ℕ → (Charge → ℕ) → Type 0) : Type 0 where
  pub messages : P message_limit (λ c. c.messages)
  pub bytes : P byte_limit (λ c. c.bytes)
  pub handles : P handle_limit (λ c. c.handles)

pub every : (P Q R : ℕ → (Charge → ℕ) → Type 0) → ((L : ℕ) (f : Charge → ℕ) → Resource f → L ≤ 65535 → P L f → Q L f → R L f) → Every P → Every Q → Every R
every P Q R step p q =
    record {
      messages = step _ _ messages-resource (omega arith) p.messages q.messages;
      bytes = step _ _ bytes-resource (omega arith) p.bytes q.bytes;
      handles = step _ _ handles-resource (omega arith) p.handles q.handles;
    }

-- The rule's test over all resources holds exactly where it holds for each.
pub allows-every : (c : Charges) (u : User) (a : Charge) → allows_all c u a ≡ true → Every (λ L f. allows1 L f c u a ≡ true)
unfolding allows_all
allows-every c u a e =
    let m = pick-then (allows1 message_limit (λ x. x.messages) c u a) false true (λ z. clash (sym z)) e in
    let b = pick-then (allows1 byte_limit (λ x. x.bytes) c u a) false true (λ z. clash (sym z)) m.1 in
    record { messages = m.0; bytes = b.0; handles = b.1 }

pub every-allows : (c : Charges) (u : User) (a : Charge) → Every (λ L f. allows1 L f c u a ≡ true) → allows_all c u a ≡ true
unfolding allows_all
every-allows c u a h = rw (h.messages, h.bytes) h.handles

-- The charges of a peer that can be reached, and what the share theorem says of them.
abbrev pub Reached : Charges → Type 0
Reached c = Every (λ L f. Reach L users (each f c))
