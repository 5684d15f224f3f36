-- `tables::clear_peer` meets its contract: the block is filled with zeros; then the length of the list. Assumes nothing.
use Rattle.tables.specs.CodeLaws.{clear-done}
use mathlib.Core.Path.{refl}
use native.Mathlib.Omega.{arith}
use Rattle.tables.proofs.clear_peer.Goals as goal

pub returns : goal.returns
returns c = clear-done c.args.handles.now c.args.p.0 c.requires c.row_of-start.ensures (omega arith) (c.fill.ensures.after (λ y e. e)) refl c.put_record.ensures
