-- `busline::run` meets its contract: each turn starts between two chunks of a session. Assumes nothing.
use Prim.Native.Nat.{◌≤◌}
use lib.ListN.{take}
use Rattle.bus.specs.Lent.{lent, SameTables}
use Rattle.session.specs.Session.{Underway}
use Rattle.busline.proofs.run.Given as goal

abbrev pub invariant-loop-turn : goal.invariant-loop-turn
invariant-loop-turn g l = record { same : SameTables l.initial.bus l.bus; done : Underway (lent l.bus) (take l.held l.buf); held : l.held ≤ 1293 }
