-- The theorems that go with specs/Ran.antt and stand on others: each goes by the definitions and the theorems there.
-- Assumes nothing.
use Rattle.std.specs.Prelude.{◌≡◌, List, [], ◌∷◌, ◌++◌}
use Rattle.std.proofs.Common.{ap, ◌∙◌}
use Rattle.model.specs.State.{start}
use Rattle.model.specs.Step.{step, run_from, run}
use Rattle.view.specs.View.{Bus, state_of}
use Rattle.effects.specs.Good.{Good, good}
use Rattle.bus_model.specs.Command.{command_of}
use Rattle.bus_model.specs.Tie.{SameAs, fresh-tied}
use Rattle.bus_model.proofs.Tied.{step_same}
use Rattle.bus_model.specs.Ran.{Exchange, calls_of, exchange_of, Ran, Ran.begins, Ran.goes, calls-append, as-append, state_after, Modelled, run-snoc}

pub ran-modelled : {xs : List Exchange} {b : Bus} → Ran xs b → Modelled xs b
unfolding run_from
ran-modelled begins = record { tied = fresh-tied; each = tt }
ran-modelled (goes {xs = xs} {b = b} c r) = go (ran-modelled r)
  where
    go : Modelled xs b → Modelled (xs ++ (exchange_of b c ∷ [])) (command_of b c.frame c.buffer).bus
    go m =
        let e : state_of b ≡ state_after xs = m.tied.view in
        let g : Good (state_of b) = rw e (good (calls_of xs)) in
        let s : SameAs (command_of b c.frame c.buffer) (step (state_after xs) c) = rw e at (step_same b m.tied.shape m.tied.raw g m.tied.listed c) in
        let last : state_after (xs ++ (exchange_of b c ∷ [])) ≡ (step (state_after xs) c).state = ap run (calls-append xs (exchange_of b c ∷ [])) ∙ run-snoc (calls_of xs) c in
        record { tied = rw last s.tied; each = as-append start xs (exchange_of b c) m.each (record { tied = m.tied; outcome = s.outcome; buffer = s.buffer }) }
