-- What the functions of the notices do: sets of a peer's slots, places by ascending ID, and notices queued at their peers.
-- Assumes nothing.
use Rattle.std.specs.Prelude.{ℕ, zero, suc, ◌+◌, ◌*◌, ◌-◌, ◌/◌, ◌%◌, ◌^◌, ◌<◌, Bool, true, false, List, get_or, replicate, eqb, ltb, leb, Option, Some, None}
use Rattle.std.specs.Int.Count.{count_trailing_zeros}
use Rattle.laws.specs.Tests.{pick}
use Rattle.laws.specs.Bits.{bits}
use Rattle.laws.specs.Build.{build}
use Rattle.rings.specs.declared.Entry.{Entry}
use Rattle.rings.specs.declared.Match.{Match}
use Rattle.rings.specs.Rings.{kind_destroyed, kind_released, destroyed_bit, released_bit, slots, ring_size, Rings, entry_at, row_of, head_of, length_of, bit_at, one_slot}
use Rattle.tables.specs.Nodes.{live_at, died_at, set_dead}
use Rattle.tables.specs.Handles.{id_at, count_at, total_at}
use Rattle.queues.specs.Queues.{entered, withdrawn, carried_before}
use Rattle.notices.specs.declared.Asked.{Asked}
use Rattle.notices.specs.declared.Asked.TheVariants.{Living, Falling, Above}
use Rattle.ids.specs.Sizes.{peers, carried_fields}
use Rattle.model.specs.Numbers.{nodes, invalid}
use Rattle.model.specs.Lists.{both, either}

-- A notice about a slot: kind 1 of its destruction, 2 of its release.
unfoldable pub notice_of : ℕ → ℕ → ℕ → Entry
notice_of kind s n = record { kind = kind; slot = s; user = 0; nb = 0; nh = 0; carried = replicate carried_fields 0; number = n }

-- The sum of counts of a live node falls to 1 when the peer's handle goes.
unfoldable pub falls_at : List ℕ → List ℕ → ℕ → ℕ → Bool
falls_at ns hs p s = pick (live_at ns s) (pick (eqb (count_at hs p s) 0) false (eqb (total_at hs s) (count_at hs p s + 1))) false

-- The ID of the peer's own slot at a place.
abbrev pub key_at : List ℕ → ℕ → ℕ → ℕ
key_at hs q k = id_at hs q (q * slots + k)

-- The place k is in the set and its ID is above the one at the place j.
unfoldable pub above_at : List ℕ → ℕ → ℕ → ℕ → ℕ → Bool
above_at hs q set j k = pick (bit_at set k) (ltb (key_at hs q (j % slots)) (key_at hs q k)) false

-- What is asked about a peer is about one of the eight.
abbrev pub Fair : Asked → Type 0
Fair Living = Unit {0}
Fair (Falling p) = p.0 < peers
Fair (Above set j) = Unit {0}

abbrev pub asks : List ℕ → List ℕ → ℕ → Asked → ℕ → Bool
asks ns hs q Living k = live_at ns (q * slots + k)
asks ns hs q (Falling p) k = falls_at ns hs p.0 (q * slots + k)
asks ns hs q (Above set j) k = above_at hs q set j k

-- The places of the peer's slots that are asked for, each a bit.
unfoldable pub set_of : List ℕ → List ℕ → ℕ → Asked → ℕ
set_of ns hs q a = bits (asks ns hs q a) slots

-- The place with the least ID among the places of the set below n.
abbrev pub lower_of : List ℕ → ℕ → Option ℕ → ℕ → Option ℕ
lower_of hs q None k = Some k
lower_of hs q (Some j) k = pick (ltb (key_at hs q k) (key_at hs q (j % slots))) (Some k) (Some j)

unfoldable pub least_at : List ℕ → ℕ → ℕ → ℕ → Option ℕ
least_at hs q set zero = None
least_at hs q set (suc k) = pick (bit_at set k) (lower_of hs q (least_at hs q set k) k) (least_at hs q set k)

-- An entry queued at each peer of a set, in ascending order.
unfoldable pub posted_to : Rings → Entry → ℕ → ℕ → Rings
posted_to r e set zero = r
posted_to r e set (suc f) =
    let q = count_trailing_zeros 8 set % peers in
    let rest = posted_to (entered r q e) e (set - 2 ^ q) f in
    pick (eqb set 0) r rest

-- Who is told that the command n destroyed the node of a slot: "every holder, owner included", and "each peer with an earlier queued message that carries the node".
abbrev pub tells_at : List ℕ → List ℕ → Rings → ℕ → ℕ → ℕ → Bool
tells_at hs cs r s n o = pick (eqb (count_at hs o s) 0) (carried_before cs r s n o) true

unfoldable pub addressees : List ℕ → List ℕ → Rings → ℕ → ℕ → ℕ
addressees hs cs r s n = bits (tells_at hs cs r s n) peers

-- Of each place of the peer's own slots in a set; nobody where the place is not in the set.
abbrev pub addressees_at : List ℕ → List ℕ → Rings → ℕ → ℕ → ℕ → ℕ → ℕ
addressees_at hs cs r p set n k = pick (bit_at set k) (addressees hs cs r (p * slots + k) n) 0

unfoldable pub addressees_of : List ℕ → List ℕ → Rings → ℕ → ℕ → ℕ → List ℕ
addressees_of hs cs r p set n = build (addressees_at hs cs r p set n) slots

-- "a release notice is queued at the owner".
abbrev pub owner_alone : ℕ → List ℕ
owner_alone q = replicate slots (2 ^ q)

-- The notices about the peer's own slots in a set, by ascending ID; of each place a number says who is told.
abbrev pub following : Option ℕ → (ℕ → Rings) → Rings → Rings
following None more r = r
following (Some j) more r = more j

unfoldable pub told : List ℕ → List ℕ → ℕ → ℕ → ℕ → Rings → ℕ → ℕ → Rings
told hs to q kind n r set zero = r
told hs to q kind n r set (suc f) =
    following (least_at hs q set slots)
    (λ j. told hs to q kind n (posted_to r (notice_of kind (q * slots + j % slots) n) (get_or to (j % slots) 0) peers) (bits (above_at hs q set j) slots) f)
    r

-- The nodes of the peer's own slots in a set are dead.
unfoldable pub dead_all : List ℕ → ℕ → ℕ → ℕ → ℕ → List ℕ
dead_all ns p set n zero = ns
dead_all ns p set n (suc k) = pick (bit_at set k) (set_dead (dead_all ns p set n k) (p * slots + k) n) (dead_all ns p set n k)

-- The peer's own nodes in a set are destroyed.
pub record Destroyed : Type 0 where
  pub nodes : List ℕ
  pub rings : Rings

abbrev pub destroyed_of : List ℕ → Rings → Destroyed
destroyed_of ns r = record { nodes = ns; rings = r }

-- The release notices of the peer's own slots in a set.
abbrev pub released_in : ℕ → ℕ → Match
released_in p set = record { kinds = released_bit; first = p * slots; mask = set }

unfoldable pub destroyed_set : List ℕ → List ℕ → List ℕ → Rings → ℕ → ℕ → ℕ → Destroyed
destroyed_set ns hs cs r p set n =
    let to = addressees_of hs cs r p set n in
    destroyed_of (dead_all ns p set n slots) (told hs to p kind_destroyed n (withdrawn r p (released_in p set)) set slots)

-- The release notices at the owners below q, when all handles of the peer p go.
unfoldable pub told_owners : List ℕ → List ℕ → ℕ → ℕ → Rings → ℕ → Rings
told_owners ns hs p n r zero = r
told_owners ns hs p n r (suc q) = told hs (owner_alone q) q kind_released n (told_owners ns hs p n r q) (set_of ns hs q (Falling (record { 0 = p }))) slots

-- "withdrawn as soon as the peer holds no handle and no earlier message carrying the node is left": the destroy notice of a slot goes at the peer p where nothing keeps it. None stands of a
-- live node.
unfoldable pub expired : List ℕ → List ℕ → List ℕ → ℕ → Rings → ℕ → Rings
expired ns hs cs p r s = pick (either (live_at ns s) (tells_at hs cs r s (died_at ns s) p)) r (withdrawn r p (one_slot destroyed_bit s))

-- Of the slots f 0, f 1, .. below the place n that pass the test t, in order.
unfoldable pub expired_at : List ℕ → List ℕ → List ℕ → ℕ → (ℕ → Bool) → (ℕ → ℕ) → Rings → ℕ → Rings
expired_at ns hs cs p t f r zero = r
expired_at ns hs cs p t f r (suc k) =
    let before = expired_at ns hs cs p t f r k in
    pick (t k) (expired ns hs cs p before (f k)) before

-- Of p's own slots among those that a message carried, where the invalid ID was shown.
abbrev pub own_invalid : ℕ → List ℕ → List ℕ → ℕ → Bool
own_invalid p ss is k = both (eqb (get_or is k 0) invalid) (eqb (get_or ss k 0 % nodes / slots) p)

abbrev pub expired_shown : List ℕ → List ℕ → List ℕ → ℕ → List ℕ → List ℕ → Rings → ℕ → Rings
expired_shown ns hs cs p ss is r n = expired_at ns hs cs p (own_invalid p ss is) (λ k. get_or ss k 0 % nodes) r n

-- Of the slot of a destroy notice at the i-th place of p's queue; of the places below k, the last first; of the whole queue.
unfoldable pub expired_place : List ℕ → List ℕ → List ℕ → ℕ → Rings → ℕ → Rings
expired_place ns hs cs p r i =
    let e = entry_at r.rows (row_of p (head_of r.ends p) i) in
    pick (eqb e.kind kind_destroyed) (expired ns hs cs p r (e.slot % nodes)) r

unfoldable pub expired_below : List ℕ → List ℕ → List ℕ → ℕ → Rings → ℕ → Rings
expired_below ns hs cs p r zero = r
expired_below ns hs cs p r (suc k) = expired_below ns hs cs p (expired_place ns hs cs p r k) k

abbrev pub expired_all : List ℕ → List ℕ → List ℕ → ℕ → Rings → Rings
expired_all ns hs cs p r = pick (leb (length_of r.ends p) ring_size) (expired_below ns hs cs p r (length_of r.ends p)) r
