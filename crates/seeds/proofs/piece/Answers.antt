-- `seeds::piece` meets its contract: a part of the table. Assumes nothing.
use Rattle.seeds.specs.Code.{piece_is}
use native.Mathlib.Omega.{arith}
use Rattle.seeds.proofs.piece.Goals as goal

pub returns : goal.returns
returns c = let a = c.args in piece_is a.seeds.now a.p.0 a.nb (omega arith) (omega arith) (omega arith)
