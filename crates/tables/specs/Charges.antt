-- The table of charges, 96 numbers: for each peer and user the messages, bytes and handles that the user has queued there.
-- Assumes nothing.
use Rattle.std.specs.Prelude.{ℕ, zero, suc, ◌+◌, ◌*◌, ◌≡◌, refl, List, get_or, set}
use Rattle.laws.specs.Build.{build}
use Rattle.quota.specs.declared.Charge.{Charge}
use Rattle.quota.specs.declared.Charges.{Charges}
use Rattle.quota.specs.Charges.{users, nothing}
use Rattle.ids.specs.Sizes.{peers, charge_fields}

-- The numbers of the table.
abbrev pub charges_size : ℕ
charges_size = charge_fields * (peers * users)

pub charges-size : charges_size ≡ 96
charges-size = refl

-- The charge in the table's row k; the rows of the peer p are those from users * p on, one for each user.
abbrev pub charge_at : List ℕ → ℕ → Charge
charge_at t k = record { messages = get_or t (charge_fields * k) 0; bytes = get_or t (charge_fields * k + 1) 0; handles = get_or t (charge_fields * k + 2) 0 }

unfoldable pub charges_at : List ℕ → ℕ → Charges
charges_at t p = record { by = build (λ u. charge_at t (users * p + u)) users }

unfoldable pub put_charge : List ℕ → ℕ → Charge → List ℕ
put_charge t k c = set (set (set t (charge_fields * k) c.messages) (charge_fields * k + 1) c.bytes) (charge_fields * k + 2) c.handles

-- The charges of the users below n are stored; of all of them.
unfoldable pub put_below : List ℕ → ℕ → Charges → ℕ → List ℕ
put_below t p c zero = t
put_below t p c (suc n) = put_charge (put_below t p c n) (users * p + n) (get_or c.by n nothing)

unfoldable pub put_charges : List ℕ → ℕ → Charges → List ℕ
put_charges t p c = put_below t p c users
