-- Document 01: "The four users' charges at one peer are one value." What a user has queued, what the others have, and a charge or discharge of one place.
-- Assumes nothing.
use Rattle.std.specs.Prelude.{ℕ, ◌+◌, ◌-◌, min, Bool, false, map, get_or, set, replicate}
use Rattle.laws.specs.Tests.{pick}
use Rattle.ids.specs.declared.User.{User}
use Rattle.quota.specs.declared.Charge.{Charge}
use Rattle.quota.specs.declared.Charges.{Charges}
use Rattle.quota.specs.declared.Balance.{Balance}
use Rattle.quota.specs.declared.Others.{Others}
use Rattle.quota.specs.Rule.{others, allowed, left}

-- "Limits belong to each kind of resource, for each receiving peer: 64 messages, 4,096 payload bytes, 64 attached handles."
abbrev pub message_limit : ℕ
message_limit = 64

abbrev pub byte_limit : ℕ
byte_limit = 4096

abbrev pub handle_limit : ℕ
handle_limit = 64

-- "Users 0 to 3."
abbrev pub users : ℕ
users = 4

-- The charge of nothing.
abbrev pub nothing : Charge
nothing = record { messages = 0; bytes = 0; handles = 0 }

-- A charge with another added, each number at most 65,535; and with another taken off, each at least 0.
abbrev pub plus : Charge → Charge → Charge
plus c a = record { messages = min (c.messages + a.messages) 65535; bytes = min (c.bytes + a.bytes) 65535; handles = min (c.handles + a.handles) 65535 }

abbrev pub less : Charge → Charge → Charge
less c a = record { messages = c.messages - a.messages; bytes = c.bytes - a.bytes; handles = c.handles - a.handles }

-- No user has anything queued.
abbrev pub fresh_charges : Charges
fresh_charges = record { by = replicate users nothing }

-- What the user has queued; nothing for a number that is no user's.
abbrev pub own : Charges → User → Charge
own c u = get_or c.by u.0 nothing

-- The charges with v at a user's place: as they were where that is no user's number.
abbrev pub put : Charges → User → Charge → Charges
put c u v = record { by = set c.by u.0 v }

-- One place changed.
abbrev pub charged : Charges → User → Charge → Charges
charged c u a = record { by = set c.by u.0 (plus (own c u) a) }

abbrev pub discharged : Charges → User → Charge → Charges
discharged c u a = record { by = set c.by u.0 (less (own c u) a) }

-- One resource of the charges: what the others have queued of it.
abbrev pub others_of : (Charge → ℕ) → Charges → User → ℕ
others_of f c u = others (map f c.by) u.0

unfoldable pub others_all : Charges → User → Others
others_all c u = record { messages = others_of (λ x. x.messages) c u; bytes = others_of (λ x. x.bytes) c u; handles = others_of (λ x. x.handles) c u }

-- The rule for one resource, and "for each resource".
abbrev pub allows1 : ℕ → (Charge → ℕ) → Charges → User → Charge → Bool
allows1 limit f c u a = allowed limit (others_of f c u) (f (own c u)) (f a)

unfoldable pub allows_all : Charges → User → Charge → Bool
allows_all c u a =
    pick (allows1 message_limit (λ x. x.messages) c u a)
    (pick (allows1 byte_limit (λ x. x.bytes) c u a)
    (allows1 handle_limit (λ x. x.handles) c u a)
    false)
    false

-- The quota question: "messages, bytes, handles queued by that user at this peer, then what is left of each".
abbrev pub left1 : ℕ → (Charge → ℕ) → Charges → User → ℕ
left1 limit f c u = left limit (others_of f c u) (f (own c u))

unfoldable pub balance_of : Charges → User → Balance
balance_of c u =
    record {
      queued = own c u;
      left = record { messages = left1 message_limit (λ x. x.messages) c u; bytes = left1 byte_limit (λ x. x.bytes) c u; handles = left1 handle_limit (λ x. x.handles) c u };
    }
