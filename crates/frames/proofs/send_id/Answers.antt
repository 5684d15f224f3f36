-- `frames::send_id` meets its contract: the ID lies within the frame exactly where its last byte does. Assumes nothing.
use native.Mathlib.Omega.{arith}
use Rattle.frames.proofs.Laws.{id-past, id-within}
use Rattle.frames.proofs.send_id.Goals as goal
use Rattle.frames.proofs.send_id.Goals.{then-n-lt14-via-then-n-lt14, then-n-lt14-via-else-n-lt14+then-n-k}

pub returns-then-n-lt14 : goal.returns-then-n-lt14
returns-then-n-lt14 c =
    id-past c.args.frame.now c.args.k
    (elim c.then-n-lt14.branch [ then-n-lt14-via-then-n-lt14 w ↦ omega (arith, w.if-n-lt14.true) | then-n-lt14-via-else-n-lt14+then-n-k w ↦ omega (arith, w.if-n-lt14.false, w.if-n-k.true) ])

pub returns : goal.returns
returns c = id-within c.args.frame.now c.args.k _ (omega arith) c.id_at.ensures
