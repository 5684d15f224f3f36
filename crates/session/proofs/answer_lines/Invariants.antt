-- `session::answer_lines` meets its contract: each turn answers a line, or is the last. Assumes nothing.
use mathlib.Core.Path.{◌≡◌}
use Prim.Native.Nat.{◌-◌}
use lib.ListN.{length}
use Rattle.bus.specs.Lent.{lent, SameTables}
use Rattle.session.specs.Session.{Served}
use Rattle.session.proofs.answer_lines.Given as goal

abbrev pub invariant-loop-text : goal.invariant-loop-text
invariant-loop-text l = record { same : SameTables l.initial.bus l.bus; done : Served (lent l.initial.bus) l.s l.from 0 l.initial.text (lent l.bus) l.text l.t.from l.t.at; room : length l.out ≡ 591 }

abbrev pub decreases-loop-text : goal.decreases-loop-text
decreases-loop-text l = length l.s - l.t.from
