-- `recovery::replay_lines` meets its contract: each turn is one step of the replay. Assumes nothing.
use Rattle.bus.specs.Lent.{lent, SameTables}
use Rattle.recovery.specs.Replays.{ReplayInvariant}
use Rattle.recovery.proofs.replay_lines.Given as goal

abbrev pub invariant-loop-n : goal.invariant-loop-n
invariant-loop-n l = record { same : SameTables l.initial.bus l.bus; done : ReplayInvariant l.kept l.most (lent l.initial.bus) (lent l.bus) l.out l.n l.at }
