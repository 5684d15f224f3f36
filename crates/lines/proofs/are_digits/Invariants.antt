-- `lines::are_digits` meets its contract: each turn of the loop is a step of `digits_from`. Assumes nothing.
use mathlib.Core.Path.{◌≡◌}
use Rattle.lines.specs.Line.{digits_from}
use Rattle.lines.proofs.are_digits.Given as goal

abbrev pub invariant-loop-c : goal.invariant-loop-c
invariant-loop-c l = l.all ≡ digits_from l.eight 0 l.c-index
