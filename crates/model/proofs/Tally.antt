-- The theorems that go with specs/Tally.antt and stand on others: each goes by the definitions and the theorems there.
-- Assumes nothing.
use Rattle.std.specs.Prelude.{suc, ◌+◌, ◌≡◌, Bool, true, false, List, [], ◌∷◌}
use Rattle.std.proofs.Math.Path.{refl}
use Rattle.std.proofs.Common.{◌∙◌, arith, ne_eqb}
use Rattle.laws.specs.Tests.{pick}
use Rattle.model.specs.State.{State, start}
use Rattle.model.specs.Step.{Call, step, run_from, run}
use Rattle.model.specs.Claim.{fed, history_from}
use Rattle.model.specs.Accepted.{Came, Came.left, Came.done}
use Rattle.model.proofs.Accepted.{came}
use Rattle.model.specs.Coded.{coded}
use Rattle.model.specs.Tally.{is_counted, tally, counted-effect}

counted-call : (b : State) (c : Call) → (step b c).state.accepted ≡ pick (is_counted (fed c (step b c))) (suc b.accepted) b.accepted
counted-call b c = go (came b c)
  where
    go : Came b c → (step b c).state.accepted ≡ pick (is_counted (fed c (step b c))) (suc b.accepted) b.accepted
    go (left e n) = rw (e, ne_eqb (step b c).outcome.number 0 n) refl
    go (done k a) = rw (a.after, a.number, (coded c.frame k a.read).byte) (counted-effect b c.frame k)

tallied-from : (cs : List Call) (b : State) → (run_from b cs).accepted ≡ b.accepted + tally (history_from b cs)
unfolding run_from history_from
tallied-from [] b = omega arith
tallied-from (c ∷ cs) b = tallied-from cs (step b c).state ∙ go (is_counted (fed c (step b c))) (counted-call b c)
  where
    go : (t : Bool) → (step b c).state.accepted ≡ pick t (suc b.accepted) b.accepted →
        (step b c).state.accepted + tally (history_from (step b c).state cs) ≡ b.accepted + pick t (suc (tally (history_from (step b c).state cs))) (tally (history_from (step b c).state cs))
    go true e = omega (arith, e)
    go false e = omega (arith, e)

pub tallied : (cs : List Call) → (run cs).accepted ≡ tally (history_from start cs)
tallied cs = let e : start.accepted ≡ 0 = unfold start in refl in omega (arith, tallied-from cs start, e)
