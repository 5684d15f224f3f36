-- The four tables of the queues, lent together: the rings that they hold, and that a call leaves the same four lent.
-- Assumes nothing.
use Rattle.std.specs.Prelude.{◌≡◌, refl}
use Rattle.std.proofs.Common.{◌∙◌}
use Rattle.rings.specs.declared.lent.RingTables.{RingTables}
use Rattle.rings.specs.declared.lent.RingView.{RingView}
use Rattle.rings.specs.Rings.{Rings, rings_of}

abbrev pub lent : RingTables → Rings
lent t = rings_of t.ends.now t.entries.now t.carried.now t.numbers.now

-- The rings that tables lent to be read hold.
abbrev pub viewed : RingView → Rings
viewed v = rings_of v.ends.now v.entries.now v.carried.now v.numbers.now

pub record SameTables (t u : RingTables) : Type 0 where
  pub ends : u.ends.ghost_name ≡ t.ends.ghost_name
  pub entries : u.entries.ghost_name ≡ t.entries.ghost_name
  pub carried : u.carried.ghost_name ≡ t.carried.ghost_name
  pub numbers : u.numbers.ghost_name ≡ t.numbers.ghost_name

pub same-self : {t : RingTables} → SameTables t t
same-self = record { ends = refl; entries = refl; carried = refl; numbers = refl }

pub same-again : {t u v : RingTables} → SameTables t u → SameTables u v → SameTables t v
same-again a b = record { ends = b.ends ∙ a.ends; entries = b.entries ∙ a.entries; carried = b.carried ∙ a.carried; numbers = b.numbers ∙ a.numbers }
