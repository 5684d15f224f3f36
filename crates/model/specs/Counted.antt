-- A run without its refused commands and its questions, with any answer buffers of at least 591 bytes, leads to the same state. Its history is that of the run with these left
-- out, each other command answered as it was; and its commands are as many as were accepted ("Questions change nothing and are not counted").
-- Assumes nothing.
use Rattle.std.specs.Prelude.{ℕ, ◌≤◌, ◌≡◌, refl, false, not, List, [], ◌∷◌, ◌++◌, length, take, drop, eqb}
use Rattle.std.proofs.Common.{take_at, le-ltb}
use Rattle.laws.specs.Tests.{pick, clash}
use Rattle.laws.specs.Weights.{keep}
use Rattle.frames.specs.declared.Command.{Command}
use Rattle.frames.specs.declared.Command.TheVariants.{Open, Disconnect, Create, Destroy, Release, Transfer, Send, Receive, Quota, Holders, ShowSeed}
use Rattle.frames.specs.Frame.{parse}
use Rattle.answers.specs.Answer.{answer_size, answer_bytes, answer_after, outcome_of}
use Rattle.model.specs.Lists.{either}
use Rattle.model.specs.State.{State, start}
use Rattle.model.specs.Effects.{effect}
use Rattle.model.specs.Step.{Verdict, judge, Call, finish, step, run_from, run}
use Rattle.model.specs.Claim.{fed, history_from}
use Rattle.model.specs.Coded.{code}
use Rattle.model.specs.Tally.{is_counted, tally}

-- The calls of a run that were accepted and are no questions.
unfoldable pub counted_from : State → List Call → List Call
counted_from b [] = []
counted_from b (c ∷ cs) = pick (is_counted (fed c (step b c))) (c ∷ counted_from (step b c).state cs) (counted_from (step b c).state cs)

abbrev pub counted : List Call → List Call
counted cs = counted_from start cs

-- The calls ds have the frames of cs, each with any answer buffer that is long enough.
abbrev pub SameFrames : List Call → List Call → Type 0
SameFrames [] [] = Unit {0}
SameFrames [] (d ∷ ds) = ⊥
SameFrames (c ∷ cs) [] = ⊥
SameFrames (c ∷ cs) (d ∷ ds) = (d.frame ≡ c.frame) × (answer_size ≤ length d.buffer) × SameFrames cs ds

-- What the calls ds come to beside cs, from the state b.
pub record Beside (b : State) (cs ds : List Call) : Type 0 where
  pub state : run_from b ds ≡ run_from b cs
  pub history : history_from b ds ≡ keep is_counted (history_from b cs)
  pub number : length ds ≡ tally (history_from b cs)

-- THE STATEMENT

pub record CountedAlone (cs ds : List Call) : Type 0 where
  pub state : run ds ≡ run cs
  pub history : history_from start ds ≡ keep is_counted (history_from start cs)
  pub number : length ds ≡ (run cs).accepted

abbrev pub WithoutTheRest : Type 0
WithoutTheRest = (cs ds : List Call) → SameFrames (counted cs) ds → CountedAlone cs ds

-- THE PROOF

-- A long answer buffer holds nothing that matters.
finish-any : (b : State) (v : Verdict) (f x y : List ℕ) → answer_size ≤ length x → answer_size ≤ length y →
    ((finish b y v).state ≡ (finish b x v).state)
    × (fed (record { frame = f; buffer = y }) (finish b y v) ≡ fed (record { frame = f; buffer = x }) (finish b x v))
unfolding finish outcome_of answer_after
finish-any b v f x y l m =
    let bs : List ℕ = answer_bytes v.reply.answer v.reply.ids v.reply.payload in
    let z : take (length bs) (bs ++ drop (length bs) x) ≡ bs = take_at bs (drop (length bs) x) (length bs) refl in
    let w : take (length bs) (bs ++ drop (length bs) y) ≡ bs = take_at bs (drop (length bs) y) (length bs) refl in
    rw (le-ltb (length x) answer_size l, le-ltb (length y) answer_size m, z, w) (refl, refl)

pub any-buffer : (b : State) (c d : Call) → d.frame ≡ c.frame → answer_size ≤ length c.buffer → answer_size ≤ length d.buffer →
    ((step b d).state ≡ (step b c).state) × (fed d (step b d) ≡ fed c (step b c))
unfolding step
any-buffer b c d e l m = rw e (finish-any b (judge b c.frame (parse c.frame)) c.frame c.buffer d.buffer l m)

-- A call that is not counted leaves the state alone: it was refused, or is a question.
pub asked-leaves : (b : State) (f : List ℕ) (k : Command) → not (either (eqb (code k) 9) (eqb (code k) 10)) ≡ false → effect b f k ≡ b
unfolding effect
asked-leaves b f (Open p u) e = clash e
asked-leaves b f (Disconnect p) e = clash e
asked-leaves b f (Create p i) e = clash e
asked-leaves b f (Destroy p i) e = clash e
asked-leaves b f (Release p i) e = clash e
asked-leaves b f (Transfer p i q) e = clash e
asked-leaves b f (Send p z) e = clash e
asked-leaves b f (Receive p room) e = clash e
asked-leaves b f (Quota p u) e = refl
asked-leaves b f (Holders p i) e = refl
asked-leaves b f (ShowSeed p room) e = clash e
