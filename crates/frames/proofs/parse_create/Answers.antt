-- `frames::parse_create` meets its contract: the test is the definition's choice. Assumes nothing.
use Rattle.laws.specs.Tests.{tests}
use Rattle.frames.specs.Frame.{parse_create}
use Rattle.frames.proofs.parse_create.Goals as goal

pub returns-then-i-ne0 : goal.returns-then-i-ne0
unfolding parse_create
returns-then-i-ne0 c = search tests

pub returns : goal.returns
unfolding parse_create
returns c = search tests
