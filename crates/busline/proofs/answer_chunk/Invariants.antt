-- `busline::answer_chunk` meets its contract: each call starts where the one before stopped. Assumes nothing.
use Prim.Native.Nat.{◌-◌, ◌≤◌}
use mathlib.Core.Bool.{false}
use lib.ListN.{length}
use Rattle.bus.specs.Lent.{lent, SameTables}
use Rattle.session.specs.Session.{Chunk}
use Rattle.busline.proofs.answer_chunk.Given as goal

abbrev pub invariant-loop-p : goal.invariant-loop-p
invariant-loop-p g l = record { same : SameTables l.initial.bus l.bus; done : Chunk (lent l.initial.bus) l.s (lent l.bus) l.from false; within : l.from ≤ length l.s }

abbrev pub decreases-loop-p : goal.decreases-loop-p
decreases-loop-p g l = length l.s - l.from
