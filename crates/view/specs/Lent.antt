-- A bus whose queues stand in four tables that are lent together.
-- Assumes nothing.
use Rattle.std.specs.Prelude.{ℕ, List}
use Rattle.rings.specs.declared.lent.RingTables.{RingTables}
use Rattle.rings.specs.Lent.{lent}
use Rattle.view.specs.View.{Bus}

abbrev pub bus_with : List ℕ → List ℕ → List ℕ → List ℕ → RingTables → List ℕ → List ℕ → Bus
bus_with ps ns hs cs tables pool seeds = record { peers = ps; nodes = ns; handles = hs; charges = cs; rings = lent tables; pool = pool; seeds = seeds }
