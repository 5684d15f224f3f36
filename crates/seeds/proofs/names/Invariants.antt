-- `seeds::names` meets its contract: the loop's invariant is that no peer passed has a seed that names the slot. Assumes nothing.
use Prim.Native.Nat.{◌≤◌}
use mathlib.Core.Path.{◌≡◌}
use mathlib.Core.Bool.{false}
use Rattle.model.specs.Lists.{any_below}
use Rattle.seeds.specs.Code.{naming}
use Rattle.seeds.proofs.names.Given as goal

abbrev pub invariant-loop-q : goal.invariant-loop-q
invariant-loop-q l = (l.q ≤ 8) × (any_below (naming l.seeds l.s) l.q ≡ false)
