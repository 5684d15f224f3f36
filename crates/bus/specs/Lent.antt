-- The ten tables of a bus, lent together: the bus that they hold, and that a call leaves the same ten lent.
-- Assumes nothing.
use Rattle.std.specs.Prelude.{◌≡◌, refl}
use Rattle.std.proofs.Common.{◌∙◌}
use Rattle.bus.specs.declared.lent.BusTables.{BusTables}
use Rattle.view.specs.View.{Bus, bus_of}

abbrev pub lent : BusTables → Bus
lent t = bus_of t.peers.now t.nodes.now t.handles.now t.charges.now t.ends.now t.entries.now t.carried.now t.numbers.now t.pool.now t.seeds.now

pub record SameTables (t u : BusTables) : Type 0 where
  pub peers : u.peers.ghost_name ≡ t.peers.ghost_name
  pub nodes : u.nodes.ghost_name ≡ t.nodes.ghost_name
  pub handles : u.handles.ghost_name ≡ t.handles.ghost_name
  pub charges : u.charges.ghost_name ≡ t.charges.ghost_name
  pub ends : u.ends.ghost_name ≡ t.ends.ghost_name
  pub entries : u.entries.ghost_name ≡ t.entries.ghost_name
  pub carried : u.carried.ghost_name ≡ t.carried.ghost_name
  pub numbers : u.numbers.ghost_name ≡ t.numbers.ghost_name
  pub pool : u.pool.ghost_name ≡ t.pool.ghost_name
  pub seeds : u.seeds.ghost_name ≡ t.seeds.ghost_name

pub same-self : {t : BusTables} → SameTables t t
same-self = record { peers = refl; nodes = refl; handles = refl; charges = refl; ends = refl; entries = refl; carried = refl; numbers = refl; pool = refl; seeds = refl }

pub same-again : {t u v : BusTables} → SameTables t u → SameTables u v → SameTables t v
same-again a b = record { peers = b.peers ∙ a.peers; nodes = b.nodes ∙ a.nodes; handles = b.handles ∙ a.handles; charges = b.charges ∙ a.charges; ends = b.ends ∙ a.ends; entries = b.entries ∙ a.entries; carried = b.carried ∙ a.carried; numbers = b.numbers ∙ a.numbers; pool = b.pool ∙ a.pool; seeds = b.seeds ∙ a.seeds }
