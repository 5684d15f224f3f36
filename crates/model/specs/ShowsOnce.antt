-- An ID that the bus gave and that was shown at a peer for a node is never shown at that peer for another node, whatever was destroyed, released, created or disconnected in between;
-- and any other ID only where the peer created a node under it in between. Of histories.
-- Assumes nothing.
use Rattle.std.specs.Prelude.{ℕ, List}
use Rattle.std.proofs.Common.{arith}
use Rattle.model.specs.Book.{Node, Fed}
use Rattle.model.specs.OneNode.{Creates}
use Rattle.model.specs.Shows.{Shows, Shows.destination, Shows.attached, Shows.destruction, Shows.release, Shows.transferred, Shows.seeded}

-- What shows an ID is no create.
pub no-create : (xs : List Fed) (x : Fed) (p i j q : ℕ) (n : Node) → Shows xs x p i n → Creates q j x → ⊥
no-create xs x p i j q n (destination k m rest t e f g) c = omega (arith, t.byte, c.byte)
no-create xs x p i j q n (attached k m rest t e f g) c = omega (arith, t.byte, c.byte)
no-create xs x p i j q n (destruction k rest t e f) c = omega (arith, t.byte, c.byte)
no-create xs x p i j q n (release k rest t e f) c = omega (arith, t.byte, c.byte)
no-create xs x p i j q n (transferred d zero six to source told) c = omega (arith, six, c.byte)
no-create xs x p i j q n (seeded payload ns zero twelve acts e f g) c = omega (arith, twelve, c.byte)
