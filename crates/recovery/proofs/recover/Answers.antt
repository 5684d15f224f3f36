-- `recovery::recover` meets its contract: a buffer lacks its length, or the replay was whole, or it was stopped. Assumes nothing.
use mathlib.Core.Path.{sym, ◌∙◌}
use borrow.Author.Rules.{rules}
use Rattle.recovery.specs.Replays.{recover-wrong-length, recover-whole, recover-again, sized_same, made-sized}
use Rattle.recovery.proofs.recover.Goals as goal

pub returns-then-fresh-ne0 : goal.returns-then-fresh-ne0
returns-then-fresh-ne0 c = search (rules, recover-wrong-length _ c.args.kept.now c.fresh.ensures.done c.if-fresh-ne0.true)

pub returns-then-is_whole : goal.returns-then-is_whole
returns-then-is_whole c = search (rules, recover-whole _ c.args.kept.now c.fresh.ensures.done c.if-fresh-ne0.false c.replay-r.ensures.done (sym c.is_whole.ensures ∙ c.if-is_whole.true))

pub returns : goal.returns
returns c = recover-again _ _ c.fresh.ensures.done c.if-fresh-ne0.false c.replay-r.ensures.done (sym c.is_whole.ensures ∙ c.if-is_whole.false) (sized_same _ _ (search rules) (search rules) (search rules) (search rules) (search rules) (search rules) (search rules) (search rules) (search rules) (search rules) (made-sized _ c.fresh.ensures.done c.if-fresh-ne0.false)) (search (rules, c.fresh-2.ensures.done.1))
