-- `tables::store` meets its contract: the loop's invariant is the definition so far. Assumes nothing.
use Rattle.tables.specs.Charges.{put_below}
use mathlib.Core.Path.{◌≡◌}
use Rattle.tables.proofs.store.Given as goal

abbrev pub invariant-loop-u : goal.invariant-loop-u
invariant-loop-u l = l.charges ≡ put_below l.initial.charges l.fn.p.0 l.c l.u
