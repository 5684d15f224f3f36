-- `effects::message_to` meets its contract: the entry is the definition's, its numbers cut to their widths. Assumes nothing.
use Rattle.effects.specs.Effects.{message_to}
use borrow.Author.Rules.{rules}
use Rattle.effects.proofs.message_to.Goals as goal

pub returns : goal.returns
unfolding message_to
returns c = search rules
