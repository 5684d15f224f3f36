-- `answers::write` meets its contract: the number and the contents from the start on are the answer's bytes, which fit in 591. Assumes nothing.
use mathlib.Core.Path.{refl}
use Rattle.answers.proofs.Laws.{answer-short, answer-written}
use Rattle.answers.proofs.write.Goals as goal

pub returns-then-out-lt-ANSWER_SIZE : goal.returns-then-out-lt-ANSWER_SIZE
returns-then-out-lt-ANSWER_SIZE g c = λ a is bs e h. answer-short a is bs c.args.out.now c.if-out-lt-ANSWER_SIZE.true

pub returns : goal.returns
returns g c = λ a is bs e h. let w = h _ _ _ (record { shown = _; shows = refl; left = _; met = c.contents-len.ensures; leaves = refl }) in answer-written a is bs c.args.out.now _ _ _ c.if-out-lt-ANSWER_SIZE.false e w.0 w.1
