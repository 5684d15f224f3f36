-- The theorems that go with specs/Tie.antt and stand on others: each goes by the definitions and the theorems there.
-- Assumes nothing.
use Rattle.std.specs.Prelude.{ℕ, zero, suc, ◌≤◌, ◌<◌, ◌≡◌, true, false, List, [], length, eqb, ltb, Ok, Err}
use Rattle.std.proofs.Math.Path.{refl}
use Rattle.std.proofs.Common.{arith, lt-ltb, eqb-true}
use Rattle.laws.specs.Tests.{Seen, Seen.is_true, Seen.is_false, look}
use Rattle.ids.specs.Refusals.{refusal_number}
use Rattle.frames.specs.declared.Command.{Command}
use Rattle.frames.specs.Frame.{parse, Parsed}
use Rattle.frames.specs.Legal.{Legal}
use Rattle.frames.proofs.Legal.{legal-command}
use Rattle.answers.specs.declared.Answer.TheVariants.{Refused as is_refused}
use Rattle.answers.specs.Answer.{answer_size, answer_after, outcome_of}
use Rattle.tables.specs.Listed.{AllListed}
use Rattle.model.specs.Refusals.{refusal}
use Rattle.model.specs.Step.{Verdict, carry_out, judge, Call, finish, step}
use Rattle.view.specs.View.{Bus, Shape, state_of}
use Rattle.effects.specs.Good.{Good}
use Rattle.effects.specs.Ranges.{Raw, InRange, ranges-ok, ranges-accepted}
use Rattle.bus_model.specs.Command.{peers_ok, ranges_ok, sound_ok, refused_by, carried_out, obeyed, command_of}
use Rattle.bus_model.specs.Seen.{ruled, ruling-same}
use Rattle.bus_model.specs.Carried.{carried-seen}
use Rattle.ids.specs.Sizes.{peers}
use Rattle.bus_model.specs.Tie.{SameAs, sized-true, peer-true}

pub peers-true : (b : Bus) → ((p : ℕ) → p < peers → InRange b p) → (n : ℕ) → n ≤ peers → peers_ok b.peers b.rings.ends n ≡ true
unfolding peers_ok
peers-true b r zero l = refl
peers-true b r (suc n) l = rw (peers-true b r n (omega arith), peer-true b n (r n (omega arith)))

pub sound-true : (b : Bus) → Shape b → Raw b → Good (state_of b) → sound_ok b ≡ true
unfolding sound_ok ranges_ok
sound-true b s r g = rw (sized-true b s, peers-true b (ranges-ok b r g) peers (omega arith), lt-ltb _ _ (ranges-accepted b r g))

module _ (b : Bus) (shape : Shape b) (raw : Raw b) (g : Good (state_of b)) (lists : AllListed b.handles) where
  -- A refusal.
  refused-same : (n : ℕ) (f out : List ℕ) → ltb (length out) answer_size ≡ false → SameAs (refused_by n b out) (finish (state_of b) out (record { reply = record { answer = is_refused n; ids = []; payload = [] }; state = state_of b }))
  unfolding finish
  refused-same n f out e = record { tied = record { shape = shape; raw = raw; listed = lists; view = rw e }; outcome = refl; buffer = refl }

  -- A command that was read.
  read_same : (f out : List ℕ) (k : Command) → Legal f k → ltb (length out) answer_size ≡ false → Seen (eqb (refusal (state_of b) f k) 0) →
      SameAs (carried_out b f out (ruled (state_of b) f k)) (finish (state_of b) out (carry_out (state_of b) f k (refusal (state_of b) f k)))
  unfolding carried_out carry_out finish
  read_same f out k l e (is_true z) =
      let x = carried-seen b shape raw g lists f out k l (eqb-true (refusal (state_of b) f k) 0 z) in
      rw z (record { tied = record { shape = x.shape; raw = x.raw; listed = x.listed; view = rw e x.state }; outcome = x.outcome; buffer = x.buffer })
  read_same f out k l e (is_false z) = rw z (refused-same (refusal (state_of b) f k) f out e)

  parsed-same : (f out : List ℕ) (x : Parsed) → parse f ≡ x → ltb (length out) answer_size ≡ false →
      SameAs (obeyed b f out x) (finish (state_of b) out (judge (state_of b) f x))
  parsed-same f out (Err r) p e = refused-same (refusal_number r) f out e
  parsed-same f out (Ok k) p e =
      rw (ruling-same b shape g lists f k (legal-command f k p)) (read_same f out k (legal-command f k p) e (look (eqb (refusal (state_of b) f k) 0)))

  -- A short answer buffer.
  short-same : (out : List ℕ) (v : Verdict) → ltb (length out) answer_size ≡ true → SameAs (record { outcome = record { number = 22; len = 0 }; bus = b; out = out }) (finish (state_of b) out v)
  unfolding finish outcome_of answer_after
  short-same out v e = record { tied = record { shape = shape; raw = raw; listed = lists; view = rw e }; outcome = rw e; buffer = rw e }

  pub step_same : (c : Call) → SameAs (command_of b c.frame c.buffer) (step (state_of b) c)
  unfolding command_of step
  step_same c = go (look (ltb (length c.buffer) answer_size))
    where
      go : Seen (ltb (length c.buffer) answer_size) → SameAs (command_of b c.frame c.buffer) (step (state_of b) c)
      go (is_true e) = rw e (short-same c.buffer (judge (state_of b) c.frame (parse c.frame)) e)
      go (is_false e) = rw (e, sound-true b shape raw g) (parsed-same c.frame c.buffer (parse c.frame) refl e)
