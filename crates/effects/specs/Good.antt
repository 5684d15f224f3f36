-- What the laws of the effects use of a state: what the model proves of every state that a run leaves.
-- Assumes nothing.
use Rattle.std.specs.Prelude.{ℕ, ◌≤◌, List, length}
use Rattle.model.specs.State.{State}
use Rattle.model.specs.Step.{Call, run}
use Rattle.model.specs.Notices.{Noted}
use Rattle.model.specs.Founded.{Founded}
use Rattle.model.proofs.NoticesProof.{noted, founded}
use Rattle.model.specs.Charged.{Charged}
use Rattle.model.proofs.ChargedProof.{always-charged}
use Rattle.model.specs.Bounds.{Bounded}
use Rattle.model.proofs.BoundsProof.{bounded}
use Rattle.model.proofs.RoomsProof.{at-most-188-entries}
use Rattle.model.specs.Order.{Ordered}
use Rattle.model.proofs.OrderProof.{order}
use Rattle.model.specs.Ids.{Ids}
use Rattle.model.proofs.IdsProof.{sound-ids}

pub record Good (b : State) : Type 0 where
  pub noted : Noted b
  pub founded : Founded b
  pub charged : Charged b
  pub bounded : Bounded b
  pub ordered : (p : ℕ) → Ordered b.accepted (b.queue p)
  pub ids : Ids b
  pub short : (p : ℕ) → length (b.queue p) ≤ 188

pub good : (cs : List Call) → Good (run cs)
good cs =
    record {
      noted = noted cs;
      founded = founded cs;
      charged = always-charged cs;
      bounded = bounded cs;
      ordered = order cs;
      ids = sound-ids cs;
      short = at-most-188-entries cs;
    }
