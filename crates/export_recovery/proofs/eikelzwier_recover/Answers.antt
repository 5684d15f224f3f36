-- `export_recovery::eikelzwier_recover` meets its contract: what `recover` comes to, told in numbers. Assumes nothing.
use Rattle.journal_model.specs.Stops.{told-as}
use Rattle.export_recovery.proofs.eikelzwier_recover.Goals as goal

pub returns : goal.returns
returns c = let q = c.recover-r.ensures in told-as c.from.ensures q
