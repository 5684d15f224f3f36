-- `frames::short_at` meets its contract: two bytes, the first times 256. Assumes nothing.
use native.Mathlib.Omega.{arith}
use Rattle.laws.specs.Bytes.{num-two}
use Rattle.frames.specs.Frame.{short_at}
use Rattle.frames.proofs.short_at.Goals as goal

pub returns : goal.returns
unfolding short_at
returns c = omega (arith, num-two c.args.f.now c.args.at, c.from_be_bytes.ensures, c.from_be_bytes.type_inv, c.from.ensures)
