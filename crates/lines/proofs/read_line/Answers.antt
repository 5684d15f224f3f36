-- `lines::read_line` meets its contract: an LF is no digit, so the first LF from the fault's place on is the line's, and the fault's place is the line's own; each return is then the branch of `read_line` that its tests lead to.
-- Assumes nothing.
use Rattle.lines.specs.LineLaws as law
use native.Mathlib.Omega.{arith}
use Rattle.lines.proofs.read_line.Goals as goal
use Rattle.lines.proofs.read_line.Goals.{then-d-n-via-then-d-n, then-d-n-via-else-d-n+then-n-ne0}

pub line_end-n-requires : goal.line_end-n-requires
line_end-n-requires c = omega (arith, law.fault-le c.args.s.now, c.fault_place-d.ensures)

pub returns-then-n-s : goal.returns-then-n-s
returns-then-n-s c =
    law.read-piece c.args.s.now c.fault_place-d.ensures c.line_end-n.ensures _ c.if-n-s.true

pub overflow_add-result : goal.overflow_add-result
overflow_add-result c =
    omega (arith, law.line-found c.args.s.now c.fault_place-d.ensures c.line_end-n.ensures)

pub returns-then-d-n : goal.returns-then-d-n
returns-then-d-n c =
    let s = c.args.s.now in
    let d = c.fault_place-d.ensures in
    let n = c.line_end-n.ensures in
    elim c.then-d-n.branch [
      | then-d-n-via-then-d-n w ↦ law.read-bad s d n _ c.if-n-s.false w.if-d-n.true
      | then-d-n-via-else-d-n+then-n-ne0 w ↦ law.read-odd s d n _ c.if-n-s.false w.if-d-n.false w.if-n-ne0.true
    ]

pub decode-requires : goal.decode-requires
decode-requires c =
    let f = law.line-found c.args.s.now c.fault_place-d.ensures c.line_end-n.ensures in
    (omega arith, omega arith, λ j h. law.digits-before c.args.s.now c.fault_place-d.ensures c.line_end-n.ensures j (omega arith))

pub returns : goal.returns
returns c =
    law.read-frame c.args.s.now c.fault_place-d.ensures c.line_end-n.ensures _ _ c.if-n-s.false c.if-d-n.false c.if-n-ne0.false c.decode.ensures
