-- The table of peers, 25 numbers: the accepted commands, then for each peer its state (1 open, 2 disconnected, else never opened), its user and how many IDs the bus has given it.
-- Assumes nothing.
use Rattle.std.specs.Prelude.{ℕ, ◌+◌, ◌*◌, ◌%◌, ◌^◌, ◌≡◌, refl, List, get_or, set, eqb}
use Rattle.laws.specs.Tests.{pick}
use Rattle.ids.specs.Refusals.{EBADF, ESHUTDOWN}
use Rattle.ids.specs.Sizes.{peer_fields}
use Rattle.tables.specs.declared.Status.{Status}
use Rattle.tables.specs.declared.Status.TheVariants.{Unopened, Open, Disconnected}

-- Numbers that count up are read modulo 2^60, so that what is added to them fits.
abbrev pub modulus : ℕ
modulus = 1152921504606846976

pub modulus-is : modulus ≡ 2 ^ 60
modulus-is = refl

-- The place of a peer's state; its user and its given IDs stand behind it.
abbrev pub peer_row : ℕ → ℕ
peer_row p = 1 + peer_fields * p

abbrev pub accepted_at : List ℕ → ℕ
accepted_at ps = get_or ps 0 0 % modulus

abbrev pub state_at : List ℕ → ℕ → ℕ
state_at ps p = get_or ps (peer_row p) 0

-- What a state says: open, disconnected, else never opened.
abbrev pub state_open : ℕ
state_open = 1

abbrev pub state_disconnected : ℕ
state_disconnected = 2

abbrev pub status_of : ℕ → Status
status_of x = pick (eqb x state_open) Open (pick (eqb x state_disconnected) Disconnected Unopened)

unfoldable pub status_at : List ℕ → ℕ → Status
status_at ps p = status_of (state_at ps p)

-- The refusal of a command of this peer, 0 where it is open.
abbrev pub refusal_of : Status → ℕ
refusal_of Unopened = EBADF
refusal_of Open = 0
refusal_of Disconnected = ESHUTDOWN

unfoldable pub standing_at : List ℕ → ℕ → ℕ
standing_at ps p = refusal_of (status_at ps p)

abbrev pub user_at : List ℕ → ℕ → ℕ
user_at ps p = get_or ps (peer_row p + 1) 0

abbrev pub given_at : List ℕ → ℕ → ℕ
given_at ps p = get_or ps (peer_row p + 2) 0 % modulus

unfoldable pub set_open : List ℕ → ℕ → ℕ → List ℕ
set_open ps p u = set (set ps (peer_row p) state_open) (peer_row p + 1) u

unfoldable pub set_disconnected : List ℕ → ℕ → List ℕ
set_disconnected ps p = set ps (peer_row p) state_disconnected

unfoldable pub set_given : List ℕ → ℕ → ℕ → List ℕ
set_given ps p n = set ps (peer_row p + 2) n

-- The number of the command that is accepted next.
abbrev pub next_number : List ℕ → ℕ
next_number ps = accepted_at ps + 1

unfoldable pub count_command : List ℕ → List ℕ
count_command ps = set ps 0 (next_number ps)
