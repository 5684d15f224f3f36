-- Worked examples of document 01, computed through the rule's definitions, as one table.
-- Assumes nothing.
use Rattle.std.specs.Prelude.{ℕ, ◌≡◌, refl, List, [], ◌∷◌, map}
use Rattle.laws.specs.Tests.{pick}
use Rattle.ids.specs.declared.User.{User}
use Rattle.quota.specs.declared.Charge.{Charge}
use Rattle.quota.specs.declared.Charges.{Charges}
use Rattle.quota.specs.Rule.{allowed, left}
use Rattle.quota.specs.Charges.{balance_of}

-- What is asked: may a user add so much; what is left by the rule alone; what the quota question says is left of the messages.
pub data Question : Type 0 where
  may : (limit others own add : ℕ) → Question
  left-by-rule : (limit others own : ℕ) → Question
  messages-left : Charges → User → Question

-- A number, and for a yes or no 1 or 0.
unfoldable pub answer : Question → ℕ
answer (may limit others own add) = pick (allowed limit others own add) 1 0
answer (left-by-rule limit others own) = left limit others own
answer (messages-left c u) = (balance_of c u).left.messages

pub record Example : Type 0 where
  pub question : Question
  pub expected : ℕ

abbrev asks : Question → ℕ → Example
asks q n = record { question = q; expected = n }

-- So many messages without payload or handles.
abbrev queued : ℕ → Charge
queued n = record { messages = n; bytes = 0; handles = 0 }

-- M5: "with 32, 16, 8, 0 queued".
abbrev four : Charges
four = record { by = queued 32 ∷ queued 16 ∷ queued 8 ∷ queued 0 ∷ [] }

abbrev user : ℕ → User
user n = record { 0 = n }

abbrev pub examples : List Example
examples =
    -- "M8 limit 1,024, others 512, own 128: left 128"
    asks (left-by-rule 1024 512 128) 128
    -- "a user alone with 20 queued may add 12, not 2", and not 13
    ∷ asks (may 64 0 20 12) 1
    ∷ asks (may 64 0 20 13) 0
    -- M5: "messages left are -12, -4, 0, 4", in two bytes 65536 less 12 and less 4
    ∷ asks (messages-left four (user 0)) 65524
    ∷ asks (messages-left four (user 1)) 65532
    ∷ asks (messages-left four (user 2)) 0
    ∷ asks (messages-left four (user 3)) 4
    ∷ []

pub examples-hold : map (λ e. answer e.question) examples ≡ map (λ e. e.expected) examples
unfolding answer balance_of
examples-hold = refl
