-- `frames::id_at` meets its contract: the eight bytes of the part are the frame's. Assumes nothing.
use Rattle.frames.proofs.Laws.{id-of}
use Rattle.frames.proofs.id_at.Goals as goal

pub returns : goal.returns
returns c = let whole = rw c.unwrap.ensures at c.try_into.ensures.1 in id-of c.args.f.now c.args.at c.unwrap.result c.from_be_bytes.result whole.same c.from_be_bytes.ensures c.from_be_bytes.type_inv
