-- `wirecheck::answer_line` meets its contract: a line that is read fits in the input. Assumes nothing.
use mathlib.Core.Path.{sym, ◌∙◌}
use Rattle.lines.specs.LineLaws.{read_fits}
use Rattle.wirecheck.proofs.answer_line.Goals as goal

pub returns-in-Frame : goal.returns-in-Frame
returns-in-Frame g c = let r = rw (sym c.read_line.ensures.0 ∙ c.in-Frame.is) at (read_fits c.args.s.now) in (r.1, r.2)

pub returns-in-Bad : goal.returns-in-Bad
returns-in-Bad g c = let r = rw (sym c.read_line.ensures.0 ∙ c.in-Bad.is) at (read_fits c.args.s.now) in (r.1, r.2)
