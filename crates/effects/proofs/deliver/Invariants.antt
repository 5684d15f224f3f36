-- `effects::deliver` meets its contract: after each turn the tables are those after the destinations so far, with their lengths. Assumes nothing.
use Rattle.rings.specs.Lent.{SameTables}
use Rattle.effects.specs.CodeQueues.{Delivering}
use Rattle.effects.proofs.deliver.Given as goal

abbrev pub invariant-loop-to : goal.invariant-loop-to
invariant-loop-to l =
    let before = l.initial.rings in
    let after = l.rings in
    record {
      same : SameTables before after;
      done : Delivering l.initial.charges before.ends.now before.entries.now before.carried.now before.numbers.now l.initial.pool l.u.0 l.z.nh l.fn.w l.payload l.n l.z.nd l.charges after.ends.now after.entries.now after.carried.now after.numbers.now l.pool l.to-index;
    }
