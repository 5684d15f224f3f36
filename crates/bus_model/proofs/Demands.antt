-- The theorems that go with specs/Demands.antt and stand on others: each goes by the definitions and the theorems there.
-- Assumes nothing.
use Rattle.std.specs.Prelude.{◌≡◌, List, [], ◌∷◌}
use Rattle.ids.specs.Refusals.{EIO}
use Rattle.laws.specs.Weights.{All, all_append}
use Rattle.model.specs.State.{start}
use Rattle.model.specs.Step.{Call, step}
use Rattle.model.proofs.Demand.{third-demand}
use Rattle.view.specs.View.{Bus, state_of}
use Rattle.effects.specs.Good.{Good, good}
use Rattle.bus_model.specs.Command.{command_of}
use Rattle.bus_model.specs.Tie.{SameAs}
use Rattle.bus_model.proofs.Tied.{step_same}
use Rattle.bus_model.specs.Ran.{Exchange, calls_of, exchange_of, Ran, Ran.begins, Ran.goes, As-model, state_after}
use Rattle.bus_model.proofs.Ran.{ran-modelled}
use Rattle.bus_model.specs.Demands.{NeverFive, CodeThirdDemand, step-not-five, fed-as, fed-all}

-- The exchange after a run is the model's.
pub exchange-as : {xs : List Exchange} {b : Bus} → Ran xs b → (c : Call) → As-model (state_after xs) (exchange_of b c)
exchange-as {xs = xs} {b = b} r c =
    let m = ran-modelled r in
    let e : state_of b ≡ state_after xs = m.tied.view in
    let g : Good (state_of b) = rw e (good (calls_of xs)) in
    let s : SameAs (command_of b c.frame c.buffer) (step (state_after xs) c) = rw e at (step_same b m.tied.shape m.tied.raw g m.tied.listed c) in
    record { tied = m.tied; outcome = s.outcome; buffer = s.buffer }

ran-not-five : {xs : List Exchange} {b : Bus} → Ran xs b → All (λ x. x.outcome.number ≡ EIO → ⊥) xs
ran-not-five begins = tt
ran-not-five (goes {xs = xs} {b = b} c r) =
    all_append (λ x. x.outcome.number ≡ EIO → ⊥) xs (exchange_of b c ∷ []) (ran-not-five r)
    (rw (exchange-as r c).outcome (step-not-five (state_after xs) c), tt)

pub never-five : NeverFive
never-five xs b r = ran-not-five r

pub code-third-demand : CodeThirdDemand
code-third-demand xs b r c =
    rw (fed-all start xs (ran-modelled r).each, fed-as (state_after xs) (exchange_of b c) (exchange-as r c)) (third-demand (calls_of xs) c)
