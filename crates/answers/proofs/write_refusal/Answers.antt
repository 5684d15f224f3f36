-- `answers::write_refusal` meets its contract: the one byte written is the whole answer. Assumes nothing.
use mathlib.Core.Path.{refl}
use mathlib.Core.List.{[]}
use lib.ListN.{set}
use Rattle.answers.specs.declared.Answer.TheVariants.{Refused}
use Rattle.answers.specs.Answer.{contents_of}
use Rattle.answers.proofs.Laws.{answer-written}
use Rattle.answers.proofs.write_refusal.Goals as goal

pub returns : goal.returns
unfolding contents_of
returns c = answer-written (Refused c.args.n) [] [] c.args.out.now c.args.n 1 (set c.args.out.now 0 c.args.n) c.requires refl refl refl
