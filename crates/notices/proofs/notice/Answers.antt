-- `notices::notice` meets its contract: the slot fits 16 bits, and the rest is the definition. Assumes nothing.
use Rattle.notices.specs.Notices.{notice_of}
use borrow.Author.Rules.{rules}
use Rattle.notices.proofs.notice.Goals as goal

pub returns : goal.returns
unfolding notice_of
returns c = search rules
