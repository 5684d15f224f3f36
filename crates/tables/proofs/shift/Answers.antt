-- `tables::shift` meets its contract: the loop's invariant is the definition so far. Assumes nothing.
use Rattle.tables.specs.CodeLaws.{shift_none, shift-more, shift-all}
use Prim.Native.Nat.{◌+◌}
use mathlib.Core.Path.{refl, ap}
use lib.ListN.{get_or}
use native.Mathlib.Omega.{arith}
use Rattle.tables.proofs.shift.Goals as goal

pub loop-m-init : goal.loop-m-init
loop-m-init c = (refl, shift_none _ _ _)

pub loop-m-preserved : goal.loop-m-preserved
loop-m-preserved c =
    let a = c.args in
    let l = c.loop-m in
    let f = c.row_of-from.ensures in (
      omega (arith, c.put_record.auto.handles, l.invariant.0),
      shift-more a.handles.now a.p.0 a.k l.m l.invariant.1 (ap (λ j. get_or l.handles j 0) f, ap (λ j. get_or l.handles (j + 1) 0) f, refl) c.put_record.ensures,
    )

pub returns : goal.returns
returns c = shift-all _ _ _ c.loop-m.m c.args.n c.loop-m.invariant.1 (omega arith)
