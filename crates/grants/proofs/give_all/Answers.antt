-- `grants::give_all` meets its contract: after each turn the tables are those after the first k slots, with their lengths. Assumes nothing.
use Prim.Native.Nat.{◌-◌}
use Rattle.rings.specs.Lent.{same-self, same-again}
use Rattle.grants.specs.Code.{Giving, giving-start, gives-next, gives-done}
use native.Mathlib.Omega.{arith}
use borrow.Author.Rules.{rules}
use Rattle.grants.proofs.give_all.Goals as goal

pub loop-k-init : goal.loop-k-init
loop-k-init c = record { same = same-self; done = giving-start _ _ _ _ _ _ _ _ _ _ _ }

pub loop-k-preserved : goal.loop-k-preserved
loop-k-preserved c =
    let g = c.give in
    let v = c.loop-k.invariant.done in
    let before = c.args.rings.now.sized in
    let after = g.new.rings.sized in
    record {
      same = same-again c.loop-k.invariant.same g.ensures.same;
      done = record {
        within = omega arith;
        peers = omega (arith, v.peers, g.auto.peers);
        handles = omega (arith, v.handles, g.auto.handles);
        ends = omega (arith, before.ends, after.ends);
        entries = omega (arith, before.rows.entries, after.rows.entries);
        carried = omega (arith, before.rows.carried, after.rows.carried);
        numbers = omega (arith, before.rows.numbers, after.rows.numbers);
        made = gives-next _ _ _ _ _ _ _ _ v.made c.from-s.ensures g.ensures.done;
      };
    }

pub returns-clause-done : goal.returns-clause-done
returns-clause-done c = gives-done _ _ _ _ _ _ _ _ _ c.loop-k.invariant.done.made c.loop-k.invariant.done.within c.loop-k-test.false
