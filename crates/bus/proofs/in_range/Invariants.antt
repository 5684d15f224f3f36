-- `bus::in_range` meets its contract: the invariant is the definition's value so far. Assumes nothing.
use mathlib.Core.Path.{◌≡◌}
use mathlib.Core.Bool.{true}
use Rattle.bus_model.specs.Command.{peers_ok}
use Rattle.bus.proofs.in_range.Given as goal

abbrev pub invariant-loop-p : goal.invariant-loop-p
invariant-loop-p l = peers_ok l.peers l.ends l.p ≡ true
