-- `session::answer_line` meets its contract: the line that was read is the first from the turn's place on. Assumes nothing.
use mathlib.Core.Path.{sym, ◌∙◌}
use Rattle.session.specs.Laws.{read-holds, line-took}
use native.Mathlib.Omega.{arith}
use borrow.Author.Rules.{rules}
use Rattle.session.proofs.answer_line.Goals as goal

pub answer_read-at-requires : goal.answer_read-at-requires
answer_read-at-requires c = (search rules, search rules, search rules, read-holds _ _ c.read_line-read.ensures.0)

pub returns-in_err-next-clause-done : goal.returns-in_err-next-clause-done
returns-in_err-next-clause-done c = rw c.from_residual.ensures (line-took _ _ _ _ _ _ _ _ _ _ _ c.read_line-read.ensures.0 c.read_line-read.ensures.1 c.answer_read-at.ensures.done (sym c.in_err-next.was ∙ c.used_by.ensures) c.requires.0 c.requires.2)

pub overflow_add-next : goal.overflow_add-next
overflow_add-next c =
    let k = line-took _ _ _ _ _ _ _ _ _ _ _ c.read_line-read.ensures.0 c.read_line-read.ensures.1 c.answer_read-at.ensures.done (sym c.in_ok-next.was ∙ c.used_by.ensures) c.requires.0 c.requires.2 in
    let h = k.0.between.within in omega (arith, h)

pub returns-clause-done : goal.returns-clause-done
returns-clause-done c = line-took _ _ _ _ _ _ _ _ _ _ _ c.read_line-read.ensures.0 c.read_line-read.ensures.1 c.answer_read-at.ensures.done (sym c.in_ok-next.was ∙ c.used_by.ensures) c.requires.0 c.requires.2
