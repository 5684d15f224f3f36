-- The table of handles, in records of two numbers. Blocks 0 to 7, 128 records each: for each peer and slot the ID and the count, 0 where the peer has no handle to the
-- slot's node. Blocks 8 to 15: for each peer the list of the handles that the bus gave it, ascending by ID, each with its slot. Behind them for each peer the length of its list
-- and the ID of its last entry.
-- Assumes nothing.
use Rattle.std.specs.Prelude.{ℕ, zero, suc, ◌+◌, ◌-◌, ◌*◌, ◌/◌, ◌%◌, min, ◌≡◌, refl, Bool, false, not, List, get_or, set, eqb, ltb, leb, Option, Some, None}
use Rattle.laws.specs.Tests.{pick}
use Rattle.laws.specs.Sums.{sum_to}
use Rattle.laws.specs.Search.{first}
use Rattle.laws.specs.Halving.{halve}
use Rattle.laws.specs.Bits.{bits}
use Rattle.model.specs.Numbers.{peers, slots, nodes}
use Rattle.ids.specs.Sizes.{handle_fields}
pub use Rattle.ids.specs.Sizes.{handles_size}
use Rattle.tables.specs.Peers.{modulus}
use Rattle.tables.specs.declared.Entry.{Entry}

-- The block of a peer's list, and the block of which each peer has one record: the length of its list and the ID of the last entry. With it the table ends.
abbrev pub list_block : ℕ → ℕ
list_block p = peers + p

abbrev pub length_block : ℕ
length_block = peers + peers

-- The numbers of a block.
abbrev pub block_size : ℕ
block_size = handle_fields * nodes

-- From the handles of one peer to its own nodes to those of the next.
abbrev pub own_step : ℕ
own_step = block_size + handle_fields * slots

pub blocks-fill : handles_size ≡ length_block * block_size + handle_fields * peers
blocks-fill = refl

-- Document 02, No. 3: "at most 16 entries in all, of any table". A record of the table is an entry.
abbrev pub most_reads : ℕ
most_reads = 16

-- How often a list is halved: it has at most 128 entries, fewer than 2^8.
abbrev pub halvings : ℕ
halvings = 8

-- What a search in a list reads at most: the record of its length, the entry at the guessed place, one entry for each halving, and the one that it comes to.
abbrev pub list_reads : ℕ
list_reads = 1 + 1 + halvings + 1

-- The place of a handle's ID; its count stands behind it.
abbrev pub handle_row : ℕ → ℕ → ℕ
handle_row p s = p * block_size + handle_fields * s

abbrev pub id_at : List ℕ → ℕ → ℕ → ℕ
id_at h p s = get_or h (handle_row p s) 0

abbrev pub count_at : List ℕ → ℕ → ℕ → ℕ
count_at h p s = get_or h (handle_row p s + 1) 0 % modulus

-- The handle whose ID stands at a place is held, under this ID.
unfoldable pub has_in : List ℕ → ℕ → ℕ → Bool
has_in h i at = pick (eqb (get_or h (at + 1) 0 % modulus) 0) false (eqb (get_or h at 0) i)

-- The peer holds the slot's node under this ID.
unfoldable pub has_at : List ℕ → ℕ → ℕ → ℕ → Bool
has_at h p i s = has_in h i (handle_row p s)

-- The first of n slots, given by their places, that the peer holds under this ID.
unfoldable pub found_by : List ℕ → ℕ → ℕ → (ℕ → ℕ) → ℕ → Option ℕ
found_by h p i at n = let k = first (λ j. has_at h p i (at j)) n in pick (ltb k n) (Some (at k)) None

-- Among the peer's own slots.
unfoldable pub found_own : List ℕ → ℕ → ℕ → Option ℕ
found_own h p i = found_by h p i (λ k. p * slots + k) slots

-- The list of the handles given to a peer: how many there are, and the ID and the slot of each.
abbrev pub list_length : List ℕ → ℕ → ℕ
list_length h p = min (id_at h length_block p) nodes

abbrev pub listed_id : List ℕ → ℕ → ℕ → ℕ
listed_id h p k = id_at h (list_block p) k

abbrev pub word_at : List ℕ → ℕ → ℕ → ℕ
word_at h b k = get_or h (handle_row b k + 1) 0

abbrev pub listed_slot : List ℕ → ℕ → ℕ → ℕ
listed_slot h p k = word_at h (list_block p) k % nodes

-- The first of n entries whose ID is at least this one, by halving.
abbrev pub at_least : List ℕ → ℕ → ℕ → ℕ → Bool
at_least h p i j = leb i (listed_id h p j)

unfoldable pub place_in : List ℕ → ℕ → ℕ → ℕ → ℕ
place_in h p i n = halve (at_least h p i) halvings 0 n

unfoldable pub found_among : List ℕ → ℕ → ℕ → ℕ → Option ℕ
found_among h p i n = pick (ltb (place_in h p i n) n) (pick (eqb (listed_id h p (place_in h p i n)) i) (Some (listed_slot h p (place_in h p i n))) None) None

-- The place that is as far before the last of n as an ID is before the last one, which is said to be v; 0 where there is none. IDs that the bus gives a peer are 4 apart: there the ID
-- stands if none given after it is gone. Whatever v is, the entry at this place is looked at.
abbrev pub guess : ℕ → ℕ → ℕ → ℕ
guess v i n = n - 1 - (v - i) / 4

abbrev pub guessed : List ℕ → ℕ → ℕ → ℕ
guessed h p i = guess (word_at h length_block p) i (list_length h p)

-- In the list: at that place, or else by halving.
unfoldable pub found_listed : List ℕ → ℕ → ℕ → Option ℕ
found_listed h p i =
    pick (eqb (list_length h p) 0) None
    (pick (eqb (listed_id h p (guessed h p i)) i) (Some (listed_slot h p (guessed h p i))) (found_among h p i (list_length h p)))

-- What is found for an ID at a peer: a chosen one, its two low bits clear, is looked for among the peer's own slots, any other in the list.
unfoldable pub lookup : List ℕ → ℕ → ℕ → Option ℕ
lookup h p i = pick (eqb (i % 4) 0) (found_own h p i) (found_listed h p i)

-- What was found as a number, 128 where it is nothing.
abbrev pub slot_found : Option ℕ → ℕ
slot_found (Some s) = s
slot_found None = nodes

unfoldable pub find_at : List ℕ → ℕ → ℕ → ℕ
find_at h p i = slot_found (lookup h p i)

-- The sum of the counts of the peers below n, and of all of them.
unfoldable pub total_below : List ℕ → ℕ → ℕ → ℕ
total_below h s n = sum_to (λ q. count_at h q s) n

unfoldable pub total_at : List ℕ → ℕ → ℕ
total_at h s = total_below h s peers

-- The peer holds a handle to the slot's node.
abbrev pub held_at : List ℕ → ℕ → ℕ → Bool
held_at h p s = not (eqb (count_at h p s) 0)

-- Bit q is set where the peer q holds one: of the peers below n, and of all of them.
abbrev pub bit_at : List ℕ → ℕ → ℕ → ℕ → ℕ
bit_at h s q x = pick (held_at h q s) x 0

unfoldable pub holders_below : List ℕ → ℕ → ℕ → ℕ
holders_below h s n = bits (λ q. held_at h q s) n

unfoldable pub holders_at : List ℕ → ℕ → ℕ
holders_at h s = holders_below h s peers

unfoldable pub put_handle : List ℕ → ℕ → ℕ → ℕ → ℕ → List ℕ
put_handle h p s i c = set (set h (handle_row p s) i) (handle_row p s + 1) c

-- The peer's handles to the slots below n are gone; all of them are.
unfoldable pub clear_below : List ℕ → ℕ → ℕ → List ℕ
clear_below h p zero = h
clear_below h p (suc n) = put_handle (clear_below h p n) p n 0 0

unfoldable pub clear_peer : List ℕ → ℕ → List ℕ
clear_peer h p = put_handle (clear_below h p nodes) length_block p 0 0

-- A new entry behind the list's last.
unfoldable pub enlisted : List ℕ → ℕ → ℕ → ℕ → List ℕ
enlisted h p i s = put_handle (put_handle h (list_block p) (list_length h p) i s) length_block p (list_length h p + 1) i

-- The place of an ID in a list of n: the guessed one, or else the one that the halving comes to.
unfoldable pub spot : List ℕ → ℕ → ℕ → ℕ → ℕ
spot h p i n = let g = guess (word_at h length_block p) i n in pick (eqb (listed_id h p g) i) g (place_in h p i n)

-- The entry of an ID in the peer's list: what stands at that place, if it has the ID.
unfoldable pub entry_of : List ℕ → ℕ → ℕ → Option Entry
entry_of h p i =
    let n = list_length h p in
    let k = spot h p i n in
    pick (ltb k n) (pick (eqb (listed_id h p k) i) (Some (record { place = k; slot = listed_slot h p k })) None) None

-- The m entries behind the place k, each one place down.
unfoldable pub shifted : List ℕ → ℕ → ℕ → ℕ → List ℕ
shifted h p k zero = h
shifted h p k (suc m) = put_handle (shifted h p k m) (list_block p) (k + m) (id_at (shifted h p k m) (list_block p) (k + m + 1)) (word_at (shifted h p k m) (list_block p) (k + m + 1))

-- The entry at the place k of a list of n is gone, and the ID of the last that is left is noted; the entry of an ID is gone, where there is one.
unfoldable pub taken_out : List ℕ → ℕ → ℕ → ℕ → List ℕ
taken_out h p k n = put_handle (shifted h p k (n - 1 - k)) length_block p (n - 1) (listed_id (shifted h p k (n - 1 - k)) p (n - 1 - 1))

unfoldable pub unlisted : List ℕ → ℕ → ℕ → List ℕ
unlisted h p i =
    let n = list_length h p in
    let k = spot h p i n in
    pick (eqb (i % 4) 0) h (pick (ltb k n) (pick (eqb (listed_id h p k) i) (taken_out h p k n) h) h)

-- One reference more under this ID, and one less: the first enters the handle in the list, the last takes it out.
unfoldable pub raised : List ℕ → ℕ → ℕ → ℕ → List ℕ
raised h p s i =
    pick (eqb (count_at h p s) 0) (enlisted (put_handle h p s i (count_at h p s + 1)) p i s) (put_handle h p s i (count_at h p s + 1))

unfoldable pub reduced : List ℕ → ℕ → ℕ → List ℕ
reduced h p s =
    pick (eqb (count_at h p s - 1) 0) (unlisted (put_handle h p s (id_at h p s) (count_at h p s - 1)) p (id_at h p s)) (put_handle h p s (id_at h p s) (count_at h p s - 1))
