-- The theorems that go with specs/Orderly.antt and stand on others: each goes by the definitions and the theorems there.
-- Assumes nothing.
use Rattle.std.specs.Prelude.{List}
use Rattle.model.specs.Step.{Call, step}
use Rattle.view.specs.View.{Bus, state_of}
use Rattle.effects.specs.Good.{good}
use Rattle.bus_model.specs.Command.{command_of}
use Rattle.bus_model.specs.Tie.{SameAs}
use Rattle.bus_model.proofs.Tied.{step_same}
use Rattle.bus_model.specs.Ran.{Exchange, calls_of, Ran}
use Rattle.bus_model.proofs.Ran.{ran-modelled}

-- On a bus of a run, a call does what the model's step does.
pub ran-step : {xs : List Exchange} {b : Bus} → Ran xs b → (c : Call) → SameAs (command_of b c.frame c.buffer) (step (state_of b) c)
ran-step {xs = xs} {b = b} r c =
    let m = ran-modelled r in
    step_same b m.tied.shape m.tied.raw (rw m.tied.view (good (calls_of xs))) m.tied.listed c
