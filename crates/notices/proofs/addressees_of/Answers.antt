-- `notices::addressees_of` meets its contract: the loop's invariant is that the places passed are stored. Assumes nothing.
use Rattle.notices.specs.Code.{placing-start, placing-next, placing-all}
use Rattle.notices.proofs.addressees_of.Goals as goal

pub loop-k-init : goal.loop-k-init
loop-k-init c = placing-start _ _ _ _ _ _

pub loop-k-preserved : goal.loop-k-preserved
loop-k-preserved c = placing-next _ _ _ _ _ _ c.loop-k.invariant c.loop-k-test.true c.addressees_at.ensures

pub returns : goal.returns
returns c = placing-all _ _ _ _ _ _ c.loop-k.invariant c.loop-k-test.false
