-- `effects::drop_reference` meets its contract: the reference that `tables::reduce` takes. Assumes nothing.
use Rattle.effects.specs.CodeChanges.{drop-done}
use Rattle.effects.proofs.drop_reference.Goals as goal

pub returns : goal.returns
returns c = drop-done c.args.handles.now c.args.p.0 c.args.s c.reduce.ensures
