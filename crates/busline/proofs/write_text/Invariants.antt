-- `busline::write_text` meets its contract: each turn writes the front of what is left. Assumes nothing.
use lib.ListN.{length}
use Rattle.busline.proofs.write_text.Given as goal

abbrev pub decreases-loop-rest : goal.decreases-loop-rest
decreases-loop-rest g l = length l.rest
