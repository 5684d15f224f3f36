-- `grants::give_all` meets its contract: after each turn the tables are those after the first k slots, with their lengths. Assumes nothing.
use Prim.Native.Nat.{◌-◌}
use Rattle.rings.specs.Lent.{SameTables}
use Rattle.grants.specs.Code.{Giving, giving-start, gives-next, gives-done}
use native.Mathlib.Omega.{arith}
use borrow.Author.Rules.{rules}
use Rattle.grants.proofs.give_all.Given as goal

abbrev pub invariant-loop-k : goal.invariant-loop-k
invariant-loop-k l =
    let before = l.initial.rings in
    let after = l.rings in
    record {
      same : SameTables before after;
      done : Giving l.nodes l.initial.peers l.initial.handles before.ends.now before.entries.now before.carried.now before.numbers.now l.p.0 l.n l.slots l.nh l.ids l.peers l.handles after.ends.now after.entries.now after.carried.now after.numbers.now l.k;
    }
