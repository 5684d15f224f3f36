-- `bus::is_sound` meets its contract: the two tests in the definition's order. Assumes nothing.
use Rattle.bus.specs.Code.{then-shape}
use Rattle.bus.proofs.is_sound.Goals as goal

pub in_range-requires : goal.in_range-requires
in_range-requires c = let z = then-shape _ c.sized.ensures c.if-sized.true in (z.peers, z.ends)
