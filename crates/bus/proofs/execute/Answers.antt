-- `bus::execute` meets its contract: what is judged is fair, and it is carried out. Assumes nothing.
use Rattle.bus.specs.Code.{fair-ruling}
use Rattle.bus.proofs.execute.Goals as goal

pub judge-r-requires : goal.judge-r-requires
judge-r-requires c = let z = c.requires.0 in (z.peers, z.nodes, z.handles, z.charges, rw c.view.ensures.tables.0 c.requires.1, z.seeds, c.requires.2)

pub carry_out-requires : goal.carry_out-requires
carry_out-requires c = (c.requires.0, c.requires.1, fair-ruling _ _ _ (rw c.view.ensures.rings at c.judge-r.ensures) c.requires.2)
