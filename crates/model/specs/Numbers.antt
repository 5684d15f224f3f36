-- Numbers of document 01 that document 02 leaves as they are: the slots of all peers, the most commands, the invalid ID and the IDs that the bus gives. The peers and their slots stand in
-- crate ids, the users and the limits of the resources in crate quota, the longest answer in crate answers.
-- Assumes nothing.
use Rattle.std.specs.Prelude.{ℕ, suc, ◌+◌, ◌-◌, ◌*◌, ◌/◌, ◌^◌, ◌≡◌, refl}
use Rattle.frames.specs.Frame.{last_peer, last_user, invalid_id}
use Rattle.quota.specs.Charges.{users}
pub use Rattle.ids.specs.Sizes.{peers, slots}

-- The slots of all peers; as a slot, no node.
abbrev pub nodes : ℕ
nodes = peers * slots

abbrev pub owner : ℕ → ℕ
owner s = s / slots

-- EOVERFLOW: "2^40 - 1 commands accepted already".
abbrev pub most_commands : ℕ
most_commands = 1099511627775

pub most-commands : most_commands ≡ 2 ^ 40 - 1
most-commands = refl

-- "The invalid ID is all ones."
abbrev pub invalid : ℕ
invalid = 18446744073709551615

-- "IDs the bus gives are 4n + 3, n = 1, 2, 3 ..": the one that follows n of them.
abbrev pub next_id : ℕ → ℕ
next_id n = 4 * (n + 1) + 3

-- The frame reader's numbers are these.
pub same-peers : suc last_peer ≡ peers
same-peers = refl

pub same-users : suc last_user ≡ users
same-users = refl

pub same-invalid : invalid_id.0 ≡ invalid
same-invalid = refl
