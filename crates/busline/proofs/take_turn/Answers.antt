-- `busline::take_turn` meets its contract: the chunk is read behind what is held, and its piece is carried over. Assumes nothing.
use Prim.Native.Nat.{◌+◌}
use Rattle.lines.specs.LineLaws.{carried-length}
use Rattle.session.specs.Laws.{underway-next}
use native.Mathlib.Omega.{arith}
use Rattle.busline.proofs.take_turn.Goals as goal

pub returns-clause-done : goal.returns-clause-done
returns-clause-done g c =
    let buf = c.next_chunk.new.buf in (
      omega (arith, c.carry_over.ensures.0, carried-length buf c.in-Some.from (c.args.held + c.in_ok-got.got)),
      underway-next _ _ c.args.buf.now buf c.carry_over.new.buf c.args.held c.in_ok-got.got c.in-Some.from c.carry_over.result c.requires.3 c.next_chunk.ensures.1 c.in-Some.ensures.done c.carry_over.ensures.0 c.carry_over.ensures.1,
    )
