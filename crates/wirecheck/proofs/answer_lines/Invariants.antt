-- `wirecheck::answer_lines` meets its contract: each turn takes characters that are there, so that fewer are left. Assumes nothing.
use Prim.Native.Nat.{◌-◌, ◌≤◌}
use lib.ListN.{length}
use Rattle.wirecheck.proofs.answer_lines.Given as goal

abbrev pub invariant-loop-used : goal.invariant-loop-used
invariant-loop-used g l = l.at ≤ length l.s

abbrev pub decreases-loop-used : goal.decreases-loop-used
decreases-loop-used g l = length l.s - l.at
