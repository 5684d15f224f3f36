-- `busline::main` meets its contract: the bus that it makes is a fresh one. Assumes nothing.
use mathlib.Core.Path.{◌≡◌, sym, ◌∙◌}
use lib.ListN.{length}
use borrow.Author.Tests.{eq-eqb}
use Rattle.view.specs.View.{Bus}
use Rattle.bus_model.specs.Command.{fresh_of, fresh_bus}
use Rattle.bus_model.specs.Sound.{all-but-seeds}
use Rattle.bus_model.specs.Marked.{fresh-same}
use borrow.Author.Rules.{rules}
use Rattle.busline.proofs.main.Goals as goal

-- buffers of the right lengths give a fresh bus
made : (b d : Bus) → d ≡ fresh_of b → 25 ≡ length b.peers → 256 ≡ length b.nodes → 4112 ≡ length b.handles → 96 ≡ length b.charges → 16 ≡ length b.rings.ends → 20480 ≡ length b.rings.rows.entries → 32768 ≡ length b.rings.rows.carried → 4096 ≡ length b.rings.rows.numbers → 32768 ≡ length b.pool → 4192 ≡ length b.seeds → d ≡ fresh_bus
made b d e e0 e1 e2 e3 e4 e5 e6 e7 e8 e9 =
    e ∙ fresh-same b (sym (all-but-seeds b (sym e0) (sym e1) (sym e2) (sym e3) (sym e4) (sym e5) (sym e6) (sym e7) (sym e8)) ∙ eq-eqb (length b.seeds) 4192 (sym e9))

pub run-requires : goal.run-requires
run-requires c = (search rules, search rules, made _ _ c.fresh.ensures.done.1 (search rules) (search rules) (search rules) (search rules) (search rules) (search rules) (search rules) (search rules) (search rules) (search rules))
