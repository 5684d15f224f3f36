-- `recovery::replay_lines` meets its contract: each turn is one step of the replay. Assumes nothing.
use Rattle.bus.specs.Lent.{same-again}
use Rattle.recovery.specs.Replays.{invariant-next, invariant-in, invariant-done, invariant-halts}
use native.Mathlib.Omega.{arith}
use Rattle.recovery.proofs.replay_lines.Goals as goal

pub loop-n-preserved : goal.loop-n-preserved
loop-n-preserved c = record { same = same-again c.loop-n.invariant.same c.replay_line.ensures.same; done = invariant-next c.loop-n.invariant.done c.loop-n-test.true c.replay_line.ensures.done c.in-Ok.is c.replay_line.auto.out }

pub overflow_add-at : goal.overflow_add-at
overflow_add-at c = omega (arith, invariant-in c.loop-n.invariant.done c.loop-n-test.true c.replay_line.ensures.done c.in-Ok.is)

pub returns-in-Err-clause-done : goal.returns-in-Err-clause-done
returns-in-Err-clause-done c = invariant-halts c.loop-n.invariant.done c.loop-n-test.true c.replay_line.ensures.done c.in-Err.is c.halted.ensures

pub returns-clause-done : goal.returns-clause-done
returns-clause-done c = invariant-done c.loop-n.invariant.done c.loop-n-test.false
