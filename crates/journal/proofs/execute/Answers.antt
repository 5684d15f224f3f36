-- `journal::execute` meets its contract: one law for each return, in the order of the tests. Assumes nothing.
use Rattle.bus.specs.Code.{fair-ruling}
use Rattle.journal.specs.Code.{execute-full, execute-next}
use native.Mathlib.Omega.{arith}
use borrow.Author.Rules.{rules}
use Rattle.journal.proofs.execute.Goals as goal

pub judge-r-requires : goal.judge-r-requires
judge-r-requires c = let z = c.requires.0 in (z.peers, z.nodes, z.handles, z.charges, rw c.view.ensures.tables.0 c.requires.1, z.seeds, c.requires.2)

pub write_refusal-requires : goal.write_refusal-requires
write_refusal-requires c = c.requires.3

pub returns-in_default : goal.returns-in_default
returns-in_default c = execute-full _ _ _ _ _ (rw c.view.ensures.rings at c.judge-r.ensures) c.append_line.ensures c.in_default.is c.write_refusal.ensures c.with_used.ensures

pub carry_out-o-requires : goal.carry_out-o-requires
carry_out-o-requires c = (c.requires.0, c.requires.1, fair-ruling _ _ _ (rw c.view.ensures.rings at c.judge-r.ensures) c.requires.2)

pub shape_of-journal : goal.shape_of-journal
shape_of-journal c = omega (arith, c.append_line.auto.journal)

pub returns : goal.returns
returns c = search (rules, execute-next _ _ _ _ _ (rw c.view.ensures.rings at c.judge-r.ensures) c.append_line.ensures c.in-Some.is c.carry_out-o.ensures.done c.with_used-2.ensures)
