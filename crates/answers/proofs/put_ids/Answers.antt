-- `answers::put_ids` meets its contract: each turn stores one ID behind those before it. Assumes nothing.
use native.Mathlib.Omega.{arith}
use mathlib.Core.Path.{refl}
use Rattle.answers.specs.Answer.{id_bytes}
use Rattle.answers.proofs.Laws.{ids_next}
use Rattle.answers.proofs.put_ids.Goals as goal

pub loop-id-init : goal.loop-id-init
unfolding id_bytes
loop-id-init c = (omega arith, refl)

pub loop-id-preserved : goal.loop-id-preserved
loop-id-preserved c =
    let l = c.loop-id in
    let a = c.args in
    let p = c.put_id-end.ensures in
    (omega (arith, p.0), ids_next a.out.now l.out _ a.ids.now a.at l.id-index l.end (omega arith) l.invariant.1 l.invariant.0 p.1)
