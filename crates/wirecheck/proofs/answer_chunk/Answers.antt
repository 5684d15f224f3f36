-- `wirecheck::answer_chunk` meets its contract: at most 1,293 characters are carried over. Assumes nothing.
use native.Mathlib.Omega.{arith}
use Prim.Native.Nat.{◌+◌}
use Rattle.lines.specs.LineLaws.{carried-length}
use Rattle.wirecheck.proofs.answer_chunk.Goals as goal

pub returns : goal.returns
returns g c = omega (arith, c.carry_over.ensures.0, carried-length c.read_behind-n.new.buf c.answer_lines-at.result.0 (c.args.held + c.read_behind-n.result))
