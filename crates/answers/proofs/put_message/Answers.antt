-- `answers::put_message` meets its contract: header, at most 8 IDs, at most 512 bytes, one behind another. Assumes nothing.
use native.Mathlib.Omega.{arith}
use mathlib.Core.Path.{sym}
use lib.ListN.{length-take}
use lib.Seq.{length-take-le}
use Rattle.answers.proofs.Laws.{message-stores, message-end}
use Rattle.answers.proofs.put_message.Goals as goal

pub slice_bounds-put_ids-end : goal.slice_bounds-put_ids-end
slice_bounds-put_ids-end c = sym (length-take-le _ c.args.ids.now (omega (arith, c.min-n.ensures)))

pub put_ids-end-requires : goal.put_ids-end-requires
put_ids-end-requires c = let l = length-take c.min-n.result c.args.ids.now in omega (arith, c.min-n.ensures, c.put_header-at.auto.out, c.put_header-at.ensures.0, c.requires)

pub slice_bounds-put-end : goal.slice_bounds-put-end
slice_bounds-put-end c = sym (length-take-le _ c.args.payload.now (omega (arith, c.min-m.ensures)))

pub returns : goal.returns
returns c = let a = c.args in (
  message-end a.kind a.h a.ids.now a.payload.now _ _ _ _ _ c.put_header-at.ensures.0 c.min-n.ensures c.put_ids-end.ensures.0 c.min-m.ensures c.put.ensures.0,
  message-stores a.kind a.h a.ids.now a.payload.now a.out.now _ _ _ _ _ _ _ c.put_header-at.ensures.1 c.put_header-at.ensures.0 c.min-n.ensures c.put_ids-end.ensures.1 c.put_ids-end.ensures.0 c.min-m.ensures c.put.ensures.1,
)
