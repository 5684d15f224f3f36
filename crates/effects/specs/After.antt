-- The bus after each order: the tables that it changes, and the others as they were.
-- Assumes nothing.
use Rattle.std.specs.Prelude.{ℕ, List}
use Rattle.frames.specs.declared.Sizes.{Sizes}
use Rattle.judges.specs.declared.Places.{Places}
use Rattle.seeds.specs.Seeds.{dropped as unseeded}
use Rattle.view.specs.View.{Bus, set_peers, set_nodes, set_handles, set_charges, set_rings, set_seeds}
use Rattle.queues.specs.Queues.{set_queues}
pub use Rattle.queues.specs.Queues.{queues_in}
use Rattle.effects.specs.Effects.{opened_peers, created, destroys, releases, transfers, sends, replaced, disconnects, received, shows}

abbrev pub after_open : Bus → ℕ → ℕ → Bus
after_open b p u = set_peers b (opened_peers b.peers p u)

abbrev pub after_create : Bus → ℕ → ℕ → ℕ → Bus
after_create b p i s =
    let x = created b.peers b.nodes b.handles p i s in
    set_handles (set_nodes (set_peers b x.peers) x.nodes) x.handles

abbrev pub after_destroy : Bus → ℕ → ℕ → Bus
after_destroy b p s =
    let x = destroys b.peers b.nodes b.handles b.charges b.rings p s in
    set_rings (set_nodes (set_peers b x.peers) x.nodes) x.rings

abbrev pub after_release : Bus → ℕ → ℕ → Bus
after_release b p s =
    let x = releases b.peers b.nodes b.handles (queues_in b) p s in
    set_queues (set_handles (set_peers b x.peers) x.handles) x.queues

abbrev pub after_transfer : Bus → ℕ → ℕ → Bus
after_transfer b q s =
    let x = transfers b.peers b.nodes b.handles b.rings q s in
    set_rings (set_handles (set_peers b x.peers) x.handles) x.rings

abbrev pub after_send : Bus → ℕ → Sizes → Places → List ℕ → Bus
after_send b p z w bytes =
    let x = sends b.peers (queues_in b) p z w bytes in
    set_seeds (set_queues (set_peers b x.peers) x.queues) (replaced b.seeds p z w bytes)

abbrev pub after_receive : Bus → ℕ → List ℕ → Bus
after_receive b p out =
    let x = received b.peers b.nodes b.handles (queues_in b) p out in
    set_queues (set_handles (set_peers b x.peers) x.handles) x.queues

abbrev pub after_disconnect : Bus → ℕ → Bus
after_disconnect b p =
    let x = disconnects b.peers b.nodes b.handles b.charges b.rings p in
    set_seeds (set_rings (set_charges (set_handles (set_nodes (set_peers b x.peers) x.nodes) x.handles) x.charges) x.rings) (unseeded b.seeds p)

abbrev pub after_show : Bus → ℕ → List ℕ → Bus
after_show b p out =
    let x = shows b.peers b.nodes b.handles b.rings b.seeds p out in
    set_rings (set_handles (set_peers b x.peers) x.handles) x.rings
