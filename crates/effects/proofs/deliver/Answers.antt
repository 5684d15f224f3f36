-- `effects::deliver` meets its contract: after each turn the tables are those after the destinations so far, with their lengths. Assumes nothing.
use Rattle.rings.specs.Lent.{same-self, same-again}
use Rattle.effects.specs.CodeQueues.{delivering-start, sent-next, sent-done}
use Rattle.std.proofs.lemmas.List.{get_or-take}
use Rattle.std.proofs.Common.{◌∙◌}
use native.Mathlib.Omega.{arith}
use Rattle.effects.proofs.deliver.Goals as goal

pub loop-to-init : goal.loop-to-init
loop-to-init c = record { same = same-self; done = delivering-start _ _ _ _ _ _ _ _ _ _ _ _ }

pub loop-to-preserved : goal.loop-to-preserved
loop-to-preserved c =
    let g = c.enqueue in
    let v = c.loop-to.invariant.done in
    let before = c.args.rings.now.sized in
    let after = g.new.rings.sized in
    record {
      same = same-again c.loop-to.invariant.same g.ensures.same;
      done = record {
        within = omega arith;
        charges = omega (arith, v.charges, g.auto.charges);
        ends = omega (arith, before.ends, after.ends);
        entries = omega (arith, before.rows.entries, after.rows.entries);
        carried = omega (arith, before.rows.carried, after.rows.carried);
        numbers = omega (arith, before.rows.numbers, after.rows.numbers);
        pool = omega (arith, v.pool, g.auto.pool);
        made = sent-next _ _ _ _ _ _ _ v.made (c.from-s.ensures ∙ get_or-take c.args.z.nd c.args.w.to c.loop-to.to-index 0 (omega arith)) c.message_to-e.ensures g.ensures.done;
      };
    }

pub returns-clause-done : goal.returns-clause-done
returns-clause-done c = sent-done _ _ _ _ _ _ _ _ c.loop-to.invariant.done.made c.loop-to.invariant.done.within (omega arith)
