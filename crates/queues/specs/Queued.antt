-- The queues with what belongs to their messages, where the tables of the rings are lent together.
-- Assumes nothing.
use Rattle.std.specs.Prelude.{ℕ, List}
use Rattle.rings.specs.declared.lent.RingTables.{RingTables}
use Rattle.rings.specs.Lent.{lent}
use Rattle.queues.specs.Queues.{Queues}

abbrev pub queued : List ℕ → RingTables → List ℕ → Queues
queued charges tables pool = record { charges = charges; rings = lent tables; pool = pool }
