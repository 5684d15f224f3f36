-- The theorems that go with specs/Counted.antt and stand on others: each goes by the definitions and the theorems there.
-- Assumes nothing.
use Rattle.std.specs.Prelude.{suc, ◌≤◌, ◌≡◌, refl, true, false, not, List, [], ◌∷◌, length, eqb}
use Rattle.std.proofs.Common.{sym, ap, ◌∙◌, eqb-true}
use Rattle.laws.specs.Tests.{clash, Seen, Seen.is_true, Seen.is_false, look}
use Rattle.answers.specs.Answer.{answer_size}
use Rattle.model.specs.Lists.{either}
use Rattle.model.specs.State.{State, start}
use Rattle.model.specs.Step.{Call, step, run_from, run}
use Rattle.model.specs.Claim.{fed, history_from}
use Rattle.model.specs.Accepted.{Came, Came.left, Came.done}
use Rattle.model.proofs.Accepted.{came, accepted-call}
use Rattle.model.specs.Coded.{code, coded}
use Rattle.model.specs.Tally.{is_counted}
use Rattle.model.proofs.Tally.{tallied}
use Rattle.model.specs.Counted.{counted_from, counted, SameFrames, Beside, WithoutTheRest, any-buffer, asked-leaves}

left_alone : (b : State) (c : Call) → is_counted (fed c (step b c)) ≡ false → (step b c).state ≡ b
left_alone b c h = go (came b c)
  where
    go : Came b c → (step b c).state ≡ b
    go (left e n) = e
    go (done k a) =
        let z : not (either (eqb (code k) 9) (eqb (code k) 10)) ≡ false = rw (a.number, (coded c.frame k a.read).byte) at h in
        a.after ∙ asked-leaves b c.frame k z

-- One that is counted had a long answer buffer.
counted-large : (b : State) (c : Call) → is_counted (fed c (step b c)) ≡ true → answer_size ≤ length c.buffer
counted-large b c h = go (look (eqb (step b c).outcome.number 0))
  where
    go : Seen (eqb (step b c).outcome.number 0) → answer_size ≤ length c.buffer
    go (is_true e) = (accepted-call b c (eqb-true (step b c).outcome.number 0 e)).1.large
    go (is_false e) = absurd (clash (sym (rw e at h)))

beside : (cs : List Call) (b : State) (ds : List Call) → SameFrames (counted_from b cs) ds → Beside b cs ds
unfolding run_from history_from counted_from
beside [] b [] s = record { state = refl; history = refl; number = refl }
beside [] b (d ∷ ds) s = absurd s
beside (c ∷ cs) b ds s = go (look (is_counted (fed c (step b c)))) ds s (λ es. beside cs (step b c).state es)
  where
    taken : (ds : List Call) → SameFrames (c ∷ counted_from (step b c).state cs) ds → is_counted (fed c (step b c)) ≡ true →
        ((es : List Call) → SameFrames (counted_from (step b c).state cs) es → Beside (step b c).state cs es) → Beside b (c ∷ cs) ds
    taken [] s e h = absurd s
    taken (d ∷ ds) s e h =
        let a = any-buffer b c d s.0 (counted-large b c e) s.1 in
        let r = h ds s.2 in
        record {
          state = rw a.0 r.state;
          history = rw (a.0, a.1, e) (ap (◌∷◌ (fed c (step b c))) r.history);
          number = rw e (ap suc r.number);
        }

    go : Seen (is_counted (fed c (step b c))) → (ds : List Call) → SameFrames (counted_from b (c ∷ cs)) ds →
        ((es : List Call) → SameFrames (counted_from (step b c).state cs) es → Beside (step b c).state cs es) → Beside b (c ∷ cs) ds
    go (is_true e) ds s h = taken ds (rw e at s) e h
    go (is_false e) ds s h =
        let r = h ds (rw e at s) in
        let l : (step b c).state ≡ b = left_alone b c e in
        record { state = rw l (rw l at r.state); history = rw (e, l) (rw l at r.history); number = rw e r.number }

pub without-the-rest : WithoutTheRest
without-the-rest cs ds s =
    let r = beside cs start ds s in
    record { state = r.state; history = r.history; number = r.number ∙ sym (tallied cs) }

-- With the answer buffers that they had.
same-frames : (cs : List Call) (b : State) → SameFrames (counted_from b cs) (counted_from b cs)
unfolding counted_from
same-frames [] b = tt
same-frames (c ∷ cs) b = go (look (is_counted (fed c (step b c)))) (same-frames cs (step b c).state)
  where
    go : Seen (is_counted (fed c (step b c))) → SameFrames (counted_from (step b c).state cs) (counted_from (step b c).state cs) →
        SameFrames (counted_from b (c ∷ cs)) (counted_from b (c ∷ cs))
    go (is_true e) ih = rw e (refl, counted-large b c e, ih)
    go (is_false e) ih = rw e ih

pub counted-run : (cs : List Call) → run (counted cs) ≡ run cs
counted-run cs = (without-the-rest cs (counted cs) (same-frames cs start)).state

pub counted-length : (cs : List Call) → length (counted cs) ≡ (run cs).accepted
counted-length cs = (without-the-rest cs (counted cs) (same-frames cs start)).number
