-- The lent buffers of a bus as one record, and the state of the model that they stand for. Any contents stand for a state.
-- Assumes nothing.
use Rattle.std.specs.Prelude.{ℕ, ◌+◌, ◌*◌, ◌≡◌, List, [], map, length, get_or, take, eqb}
use Rattle.laws.specs.Tests.{pick}
use Rattle.laws.specs.Build.{build}
use Rattle.laws.specs.Guards.{upto}
use Rattle.ids.specs.Sizes.{peers, peers_size, nodes_size, seeds_size}
use Rattle.rings.specs.Rings.{kind_destroyed, kind_released, Rings, rings_of, ends_size, Sized, queue_of}
use Rattle.pool.specs.Pool.{area_size, pool_size, Pair, paired, sum_of}
use Rattle.tables.specs.PeersView.{status_v, user_v, given_v, accepted_v}
use Rattle.tables.specs.NodesView.{life_v}
use Rattle.tables.specs.Handles.{handles_size}
use Rattle.tables.specs.HandlesView.{handle_v}
use Rattle.tables.specs.Charges.{charges_size}
use Rattle.tables.specs.ChargesView.{charges_v}
use Rattle.seeds.specs.Seeds.{seed_v}
use Rattle.model.specs.State.{Entry, State}
use Rattle.model.specs.State.Entry.{message, destroyed, released}

-- The buffers of a bus.
pub record Bus : Type 0 where
  pub peers : List ℕ
  pub nodes : List ℕ
  pub handles : List ℕ
  pub charges : List ℕ
  pub rings : Rings
  pub pool : List ℕ
  pub seeds : List ℕ

abbrev pub bus_of : List ℕ → List ℕ → List ℕ → List ℕ → List ℕ → List ℕ → List ℕ → List ℕ → List ℕ → List ℕ → Bus
bus_of ps ns hs cs ends entries carried numbers pool seeds =
    record { peers = ps; nodes = ns; handles = hs; charges = cs; rings = rings_of ends entries carried numbers; pool = pool; seeds = seeds }

-- A bus with one buffer changed, the others as they were. Where several change, one of these stands around another: so a further buffer is a further line here, and in none of their uses.
abbrev pub set_peers : Bus → List ℕ → Bus
set_peers b ps = record { peers = ps; nodes = b.nodes; handles = b.handles; charges = b.charges; rings = b.rings; pool = b.pool; seeds = b.seeds }

abbrev pub set_nodes : Bus → List ℕ → Bus
set_nodes b ns = record { peers = b.peers; nodes = ns; handles = b.handles; charges = b.charges; rings = b.rings; pool = b.pool; seeds = b.seeds }

abbrev pub set_handles : Bus → List ℕ → Bus
set_handles b hs = record { peers = b.peers; nodes = b.nodes; handles = hs; charges = b.charges; rings = b.rings; pool = b.pool; seeds = b.seeds }

abbrev pub set_charges : Bus → List ℕ → Bus
set_charges b cs = record { peers = b.peers; nodes = b.nodes; handles = b.handles; charges = cs; rings = b.rings; pool = b.pool; seeds = b.seeds }

abbrev pub set_rings : Bus → Rings → Bus
set_rings b r = record { peers = b.peers; nodes = b.nodes; handles = b.handles; charges = b.charges; rings = r; pool = b.pool; seeds = b.seeds }

abbrev pub set_pool : Bus → List ℕ → Bus
set_pool b t = record { peers = b.peers; nodes = b.nodes; handles = b.handles; charges = b.charges; rings = b.rings; pool = t; seeds = b.seeds }

abbrev pub set_seeds : Bus → List ℕ → Bus
set_seeds b t = record { peers = b.peers; nodes = b.nodes; handles = b.handles; charges = b.charges; rings = b.rings; pool = b.pool; seeds = t }

-- No buffers, to be set where only some are looked at.
abbrev pub no_buffers : Bus
no_buffers = bus_of [] [] [] [] [] [] [] [] [] []

-- Every buffer has its length.
pub record Shape (b : Bus) : Type 0 where
  pub peers : length b.peers ≡ peers_size
  pub nodes : length b.nodes ≡ nodes_size
  pub handles : length b.handles ≡ handles_size
  pub charges : length b.charges ≡ charges_size
  pub ends : length b.rings.ends ≡ ends_size
  pub rows : Sized b.rings.rows
  pub pool : length b.pool ≡ pool_size
  pub seeds : length b.seeds ≡ seeds_size

-- So has every buffer of a bus with one changed, where that one has its length.
pub shape-peers : {b : Bus} {ps : List ℕ} → Shape b → length ps ≡ peers_size → Shape (set_peers b ps)
shape-peers s e = record { peers = e; nodes = s.nodes; handles = s.handles; charges = s.charges; ends = s.ends; rows = s.rows; pool = s.pool; seeds = s.seeds }

pub shape-nodes : {b : Bus} {ns : List ℕ} → Shape b → length ns ≡ nodes_size → Shape (set_nodes b ns)
shape-nodes s e = record { peers = s.peers; nodes = e; handles = s.handles; charges = s.charges; ends = s.ends; rows = s.rows; pool = s.pool; seeds = s.seeds }

pub shape-handles : {b : Bus} {hs : List ℕ} → Shape b → length hs ≡ handles_size → Shape (set_handles b hs)
shape-handles s e = record { peers = s.peers; nodes = s.nodes; handles = e; charges = s.charges; ends = s.ends; rows = s.rows; pool = s.pool; seeds = s.seeds }

pub shape-charges : {b : Bus} {cs : List ℕ} → Shape b → length cs ≡ charges_size → Shape (set_charges b cs)
shape-charges s e = record { peers = s.peers; nodes = s.nodes; handles = s.handles; charges = e; ends = s.ends; rows = s.rows; pool = s.pool; seeds = s.seeds }

pub shape-rings : {b : Bus} {r : Rings} → Shape b → length r.ends ≡ ends_size → Sized r.rows → Shape (set_rings b r)
shape-rings s e z = record { peers = s.peers; nodes = s.nodes; handles = s.handles; charges = s.charges; ends = e; rows = z; pool = s.pool; seeds = s.seeds }

pub shape-pool : {b : Bus} {t : List ℕ} → Shape b → length t ≡ pool_size → Shape (set_pool b t)
shape-pool s e = record { peers = s.peers; nodes = s.nodes; handles = s.handles; charges = s.charges; ends = s.ends; rows = s.rows; pool = e; seeds = s.seeds }

pub shape-seeds : {b : Bus} {t : List ℕ} → Shape b → length t ≡ seeds_size → Shape (set_seeds b t)
shape-seeds s e = record { peers = s.peers; nodes = s.nodes; handles = s.handles; charges = s.charges; ends = s.ends; rows = s.rows; pool = s.pool; seeds = e }

-- A row of a ring with its payload: a notice of a kind, and of any other number a message, which carries at most the eight slots of its row.
unfoldable pub entry_v : Pair → Entry
entry_v x =
    let e = x.entry in
    pick (eqb e.kind kind_destroyed) (destroyed e.number e.slot)
    (pick (eqb e.kind kind_released) (released e.number e.slot)
    (message e.number (record { to = e.slot; user = e.user; payload = x.payload; carried = take e.nh e.carried })))

-- The first n bytes of a peer's area, 0 past the end of the pool.
unfoldable pub area_of : List ℕ → ℕ → ℕ → List ℕ
area_of t p n = build (λ i. get_or t (p * area_size + i) 0) n

-- The rows of a peer's queue with their payloads, which stand one behind another in its area.
unfoldable pub rows_v : Rings → List ℕ → ℕ → List Pair
rows_v r t p = paired (queue_of r p) (area_of t p (sum_of (queue_of r p)))

-- The accessor of the queues: past the last peer there are none.
unfoldable pub queue_v : Rings → List ℕ → ℕ → List Entry
queue_v r t = upto peers [] (λ p. map entry_v (rows_v r t p))

-- The state that a bus stands for.
abbrev pub state_of : Bus → State
state_of b =
    record {
      status = status_v b.peers;
      user = user_v b.peers;
      given = given_v b.peers;
      handle = handle_v b.handles;
      queue = queue_v b.rings b.pool;
      charges = charges_v b.charges;
      seed = seed_v b.seeds;
      life = life_v b.nodes;
      accepted = accepted_v b.peers;
    }
