-- What is given to a peer: the ID of a handle, its count, and what the rings become.
-- Assumes nothing.
use Rattle.std.specs.Prelude.{ℕ, zero, suc, ◌+◌, ◌*◌, ◌/◌, ◌%◌, Bool, not, List, get_or, set, replicate, eqb, ltb}
use Rattle.laws.specs.Tests.{pick}
use Rattle.rings.specs.Rings.{released_bit, slots, Rings, one_slot}
use Rattle.tables.specs.Peers.{given_at, set_given}
use Rattle.tables.specs.Nodes.{live_at, died_at}
use Rattle.tables.specs.Handles.{id_at, count_at, held_at, total_at, raised}
use Rattle.model.specs.Numbers.{nodes, invalid, next_id}
use Rattle.model.specs.Lists.{both, either}
use Rattle.queues.specs.Queues.{withdrawn}
use Rattle.ids.specs.Sizes.{most_ids}

-- An ID, and the table of peers.
pub record Numbered : Type 0 where
  pub id : ℕ
  pub peers : List ℕ

abbrev pub numbered_of : ℕ → List ℕ → Numbered
numbered_of i ps = record { id = i; peers = ps }

-- A new ID for the peer; the ID of its handle to a slot, a new one where it has none.
unfoldable pub numbered : List ℕ → ℕ → Numbered
numbered ps p = numbered_of (next_id (given_at ps p)) (set_given ps p (given_at ps p + 1))

unfoldable pub shown_to : List ℕ → List ℕ → ℕ → ℕ → Numbered
shown_to ps hs p s = pick (eqb (count_at hs p s) 0) (numbered ps p) (numbered_of (id_at hs p s) ps)

-- One more reference.
pub record Referenced : Type 0 where
  pub id : ℕ
  pub peers : List ℕ
  pub handles : List ℕ

abbrev pub referenced_of : ℕ → List ℕ → List ℕ → Referenced
referenced_of i ps hs = record { id = i; peers = ps; handles = hs }

unfoldable pub referenced : List ℕ → List ℕ → ℕ → ℕ → Referenced
referenced ps hs p s =
    referenced_of (shown_to ps hs p s).id (shown_to ps hs p s).peers (raised hs p s (shown_to ps hs p s).id)

-- Is the handle to a slot's node shown to the peer p by what the command n queued? That of a dead node only where it was destroyed after n,
-- to its owner only with its own handle.
unfoldable pub valid_at : List ℕ → List ℕ → ℕ → ℕ → ℕ → Bool
valid_at ns hs n p s = either (live_at ns s) (both (ltb n (died_at ns s)) (either (not (eqb (s / slots) p)) (held_at hs p s)))

-- A handle given as of the command n: where it is not shown the invalid ID. The release notice, which stands only where the sum of counts is 1, is withdrawn.
pub record Given : Type 0 where
  pub id : ℕ
  pub peers : List ℕ
  pub handles : List ℕ
  pub rings : Rings

abbrev pub given_of : ℕ → List ℕ → List ℕ → Rings → Given
given_of i ps hs r = record { id = i; peers = ps; handles = hs; rings = r }

unfoldable pub given_to : List ℕ → List ℕ → List ℕ → Rings → ℕ → ℕ → ℕ → Given
given_to ns ps hs r p n s =
    pick (valid_at ns hs n p s)
    (given_of (referenced ps hs p s).id (referenced ps hs p s).peers (referenced ps hs p s).handles
    (pick (eqb (total_at hs s) 1) (withdrawn r (s / slots) (one_slot released_bit s)) r))
    (given_of invalid ps hs r)

-- The first n of some slots given in order.
pub record Gives : Type 0 where
  pub ids : List ℕ
  pub peers : List ℕ
  pub handles : List ℕ
  pub rings : Rings

abbrev pub gives_of : List ℕ → List ℕ → List ℕ → Rings → Gives
gives_of is ps hs r = record { ids = is; peers = ps; handles = hs; rings = r }

abbrev pub one_more : Gives → ℕ → Given → Gives
one_more g n x = gives_of (set g.ids n x.id) x.peers x.handles x.rings

unfoldable pub gives_to : List ℕ → List ℕ → List ℕ → Rings → ℕ → ℕ → List ℕ → ℕ → Gives
gives_to ns ps hs r p as_of ss zero = gives_of (replicate most_ids 0) ps hs r
gives_to ns ps hs r p as_of ss (suc n) =
    let g = gives_to ns ps hs r p as_of ss n in
    one_more g n (given_to ns g.peers g.handles g.rings p as_of (get_or ss n 0 % nodes))

-- The ID of the peer's handle to a slot, all ones where it has none.
unfoldable pub id_or_invalid : List ℕ → ℕ → ℕ → ℕ
id_or_invalid hs p s = pick (eqb (count_at hs p s) 0) invalid (id_at hs p s)
