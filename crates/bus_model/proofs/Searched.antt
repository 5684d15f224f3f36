-- The theorems that go with specs/Searched.antt and stand on others: each goes by the definitions and the theorems there.
-- Assumes nothing.
use Rattle.std.specs.Prelude.{ℕ, ◌<◌, ◌≡◌, List}
use Rattle.std.proofs.Common.{ap, ◌∙◌}
use Rattle.tables.specs.Probes.{probes-few}
use Rattle.tables.proofs.Probes.{lookup-same}
use Rattle.tables.proofs.Listed.{find-is}
use Rattle.model.specs.State.{State, slot}
use Rattle.view.specs.View.{Bus, state_of}
use Rattle.effects.specs.Good.{Good, good}
use Rattle.bus_model.specs.Ran.{Exchange, calls_of, state_after, Ran}
use Rattle.bus_model.proofs.Ran.{ran-modelled}
use Rattle.bus_model.specs.Searched.{Search}

pub every-search : {xs : List Exchange} {b : Bus} → Ran xs b → (p i : ℕ) → p < 8 → Search b (state_after xs) p i
every-search {xs} {b} r p i l =
    let m = ran-modelled r in
    let e : state_of b ≡ state_after xs = m.tied.view in
    let g : Good (state_of b) = rw e (good (calls_of xs)) in
    record {
      right = find-is b.handles p ((state_of b).given p) l (g.ids p) (m.tied.listed p l) i ∙ ap (λ (st : State). slot st p i) e;
      few = probes-few b.handles p i;
      alone = λ h a. lookup-same h b.handles p i a;
    }
