-- `busline::run` meets its contract: each turn starts between two chunks of a session. Assumes nothing.
use Rattle.bus.specs.Lent.{same-self}
use Rattle.session.specs.Laws.{underway-first}
use native.Mathlib.Omega.{arith}
use Rattle.busline.proofs.run.Goals as goal

pub loop-turn-init : goal.loop-turn-init
loop-turn-init g c = record { same = same-self; done = underway-first _ c.args.buf.now c.requires.2; held = omega arith }
