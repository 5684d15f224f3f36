-- `session::answer_lines` meets its contract: each turn answers a line, or is the last. Assumes nothing.
use Rattle.bus.specs.Lent.{same-self, same-again}
use Rattle.session.specs.Laws.{served-none, served-then}
use native.Mathlib.Omega.{arith}
use borrow.Author.Rules.{rules}
use Rattle.session.proofs.answer_lines.Goals as goal

pub loop-text-init : goal.loop-text-init
loop-text-init c = record { same = same-self; done = served-none _ _ _ _ _ c.requires (omega arith); room = search rules }

pub loop-text-preserved : goal.loop-text-preserved
loop-text-preserved c =
    record {
      same = same-again c.loop-text.invariant.same c.answer_line.ensures.same;
      done = served-then _ _ _ _ _ _ _ _ _ _ _ _ _ c.loop-text.invariant.done c.in-Some.ensures.done.0;
      room = omega (arith, c.answer_line.auto.out, c.loop-text.invariant.room);
    }
