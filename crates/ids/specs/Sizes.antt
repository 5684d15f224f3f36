-- The sizes of document 01 that more than one crate needs, and the lengths of the lent tables. The code's constants stand in src/lib.rt; a contract that names a size here, of a function
-- that uses the constant, ties the two. The table of charges, whose length goes by the users, stands in crate tables.
-- Assumes nothing.
use Rattle.std.specs.Prelude.{ℕ, ◌+◌, ◌*◌, ◌^◌, ◌≡◌, refl}

-- "Peers 0 to 7."
abbrev pub peers : ℕ
peers = 8

-- "A peer owns at most 16 nodes." A node is a slot of its owner: the slots of the peer p are p * 16 to p * 16 + 15.
abbrev pub slots : ℕ
slots = 16

-- "One send: 1 to 8 destinations, 0 to 8 attached handles, 0 to 512 payload bytes."
abbrev pub most_ids : ℕ
most_ids = 8

abbrev pub most_bytes : ℕ
most_bytes = 512

-- A number of accepted commands is below this one; so is one of IDs that the bus has given to a peer below the other.
abbrev pub accepted_end : ℕ
accepted_end = 1099511627776

pub accepted-end : accepted_end ≡ 2 ^ 40
accepted-end = refl

abbrev pub given_end : ℕ
given_end = 17592186044416

pub given-end : given_end ≡ 2 ^ 44
given-end = refl

-- The rows of one peer's ring, and of all.
abbrev pub ring_size : ℕ
ring_size = 512

abbrev pub row_count : ℕ
row_count = peers * ring_size

-- The bytes of one peer's area in the pool.
abbrev pub area_size : ℕ
area_size = 4096

-- The elements of a row of each lent table that has rows of more than one.
abbrev pub peer_fields : ℕ
peer_fields = 3

abbrev pub node_fields : ℕ
node_fields = 2

abbrev pub handle_fields : ℕ
handle_fields = 2

abbrev pub charge_fields : ℕ
charge_fields = 3

abbrev pub end_fields : ℕ
end_fields = 2

abbrev pub entry_fields : ℕ
entry_fields = 5

abbrev pub carried_fields : ℕ
carried_fields = most_ids

-- A seed's row: whether it is set, how many slots it carries, its payload's length in two bytes, and the slots.
abbrev pub seed_fields : ℕ
seed_fields = 4 + most_ids

-- The elements of each lent table: the accepted commands and a row for each peer; a row for each slot; for each peer a block of its handles and one of its list, a row for each slot, and
-- behind the blocks a row for each peer; the head and the length of each queue; the three tables of the rings; the areas; a
-- row for each peer's seed, and behind the rows each seed's payload.
abbrev pub peers_size : ℕ
peers_size = 1 + peer_fields * peers

abbrev pub nodes_size : ℕ
nodes_size = node_fields * (peers * slots)

abbrev pub handles_size : ℕ
handles_size = handle_fields * ((peers + peers) * (peers * slots) + peers)

abbrev pub ends_size : ℕ
ends_size = peers * end_fields

abbrev pub entries_size : ℕ
entries_size = row_count * entry_fields

abbrev pub carried_size : ℕ
carried_size = row_count * carried_fields

abbrev pub numbers_size : ℕ
numbers_size = row_count

abbrev pub pool_size : ℕ
pool_size = peers * area_size

abbrev pub seeds_size : ℕ
seeds_size = peers * seed_fields + peers * most_bytes

pub peers-size : peers_size ≡ 25
peers-size = refl

pub nodes-size : nodes_size ≡ 256
nodes-size = refl

pub handles-size : handles_size ≡ 4112
handles-size = refl

pub ends-size : ends_size ≡ 16
ends-size = refl

pub entries-size : entries_size ≡ 20480
entries-size = refl

pub carried-size : carried_size ≡ 32768
carried-size = refl

pub numbers-size : numbers_size ≡ 4096
numbers-size = refl

pub pool-size : pool_size ≡ 32768
pool-size = refl

pub seeds-size : seeds_size ≡ 4192
seeds-size = refl
