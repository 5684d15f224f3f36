-- Document 01: "A refusal writes its one byte, nothing after it". That it leaves the bus alone is in Accepted.antt.
-- Assumes nothing.
use Rattle.std.specs.Prelude.{ℕ, ◌≡◌, refl, false, List, [], ◌∷◌, length, eqb, ltb, Ok, Err}
use Rattle.laws.specs.Tests.{Seen, Seen.is_true, Seen.is_false, look}
use Rattle.frames.specs.declared.Command.{Command}
use Rattle.frames.specs.declared.Command.TheVariants.{Open, Disconnect, Create, Destroy, Release, Transfer, Send, Receive, Quota, Holders, ShowSeed}
use Rattle.frames.specs.Frame.{parse, Parsed}
use Rattle.answers.specs.Answer.{answer_size, number_of, contents_of, answer_bytes, answer_after, outcome_of}
use Rattle.model.specs.State.{Seed, Seed.unset, Seed.kept, State, Entry, Entry.message, Entry.destroyed, Entry.released}
use Rattle.model.specs.Refusals.{refusal}
use Rattle.model.specs.Replies.{shows_seed, reply, shows, shows_message}
use Rattle.model.specs.Step.{Call, judge, carry_out, finish, step, answer_of}

-- A reply is no refusal.
shows-number : (b : State) (p : ℕ) (q : List Entry) → number_of (shows b p q).answer ≡ 0
unfolding shows_message
shows-number b p [] = refl
shows-number b p (message n m ∷ q) = refl
shows-number b p (destroyed n s ∷ q) = refl
shows-number b p (released n s ∷ q) = refl

seed-number : (b : State) (p : ℕ) (x : Seed) → number_of (shows_seed b p x).answer ≡ 0
unfolding shows_seed
seed-number b p unset = refl
seed-number b p (kept payload carried) = refl

pub reply-number : (b : State) (f : List ℕ) (c : Command) → number_of (reply b f c).answer ≡ 0
unfolding reply
reply-number b f (Open p u) = refl
reply-number b f (Disconnect p) = refl
reply-number b f (Create p i) = refl
reply-number b f (Destroy p i) = refl
reply-number b f (Release p i) = refl
reply-number b f (Transfer p i q) = refl
reply-number b f (Send p z) = refl
reply-number b f (Receive p room) = shows-number b p.0 (b.queue p.0)
reply-number b f (Quota p u) = refl
reply-number b f (Holders p i) = refl
reply-number b f (ShowSeed p room) = seed-number b p.0 (b.seed p.0)

-- A command that is refused writes its one byte and nothing after it, where the answer buffer is long enough.
pub refused-byte : (b : State) (c : Call) → ltb (length c.buffer) answer_size ≡ false → ((step b c).outcome.number ≡ 0 → ⊥) →
    answer_of (step b c) ≡ (step b c).outcome.number ∷ []
unfolding step finish outcome_of carry_out answer_after answer_bytes contents_of
refused-byte b c e h = go (parse c.frame) h
  where
    go : (r : Parsed) → ((finish b c.buffer (judge b c.frame r)).outcome.number ≡ 0 → ⊥) →
        answer_of (finish b c.buffer (judge b c.frame r)) ≡ (finish b c.buffer (judge b c.frame r)).outcome.number ∷ []
    go (Err r) k = rw e
    go (Ok d) k = on (look (eqb (refusal b c.frame d) 0))
      where
        on : Seen (eqb (refusal b c.frame d) 0) → answer_of (finish b c.buffer (judge b c.frame (Ok d)))
            ≡ (finish b c.buffer (judge b c.frame (Ok d))).outcome.number ∷ []
        on (is_true z) = absurd (k (rw (e, z) (reply-number b c.frame d)))
        on (is_false z) = rw (e, z)
