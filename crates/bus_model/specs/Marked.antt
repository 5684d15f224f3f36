-- The table of document 01, M1 to M10 and S, and the table of examples, of the commands over the lent buffers: every run from a fresh bus with a row's frames, each with any
-- answer buffer of 591 bytes or more, ends with the row's answers.
-- Assumes nothing.
use Rattle.std.specs.Prelude.{ℕ, ◌≤◌, ◌≡◌, refl, true, List, [], ◌∷◌, map, length, drop, replicate}
use Rattle.std.proofs.Common.{sym, ap, ap₂, ◌∙◌, arith, le-ltb, eq-eqb}
use Rattle.std.proofs.lemmas.List.{length-replicate}
use Rattle.std.proofs.Math.Seq.{take-append_seam}
use Rattle.laws.specs.Tests.{Seen, Seen.is_true, Seen.is_false, look, clash}
use Rattle.laws.specs.Weights.{All}
use Rattle.ids.specs.Refusals.{EIO}
use Rattle.quota.specs.Rule.{left}
use Rattle.frames.specs.Frame.{parse}
use Rattle.answers.specs.Answer.{answer_size, answer_after, outcome_of}
use Rattle.model.specs.State.{State}
use Rattle.model.specs.Step.{Verdict, judge, Call, finish, step, answer_of, answers_from}
use Rattle.model.specs.Shown.{bytes_of}
use Rattle.model.specs.Scripts.{Row, Row.played, Row.ruled, calls, last_of}
use Rattle.model.specs.Table.{table}
use Rattle.model.specs.Examples.{examples}
use Rattle.view.specs.View.{Bus, Shape}
use Rattle.bus_model.specs.Command.{sized_ok, fresh_bus, fresh_of, fresh_number}
use Rattle.bus_model.specs.Sound.{all-but-seeds, sized-shape}
use Rattle.bus_model.specs.Ran.{Exchange, answer_in, calls_of, Ran, AsModel}
use Rattle.ids.specs.Sizes.{seeds_size}

-- The answers of a run are the model's.
pub as-answers : (st : State) (xs : List Exchange) → AsModel st xs → map answer_in xs ≡ answers_from st (calls_of xs)
unfolding answers_from
as-answers st [] a = refl
as-answers st (x ∷ xs) a =
    ap₂ (λ (y : List ℕ) (ys : List (List ℕ)). y ∷ ys) (rw (a.0.outcome, a.0.buffer) refl) (as-answers (step st x.call).state xs a.1)

-- An answer buffer that is long enough.
abbrev pub Large : Call → Type 0
Large c = answer_size ≤ length c.buffer

-- What lies in it and how long it is change neither the answer nor the state.
finish-large : (b : State) (out : List ℕ) (v : Verdict) → answer_size ≤ length out → (answer_of (finish b out v) ≡ bytes_of v.reply) × ((finish b out v).state ≡ v.state)
unfolding finish outcome_of answer_after
finish-large b out v h =
    let e = le-ltb (length out) answer_size h in
    (rw e (take-append_seam (bytes_of v.reply) (drop (length (bytes_of v.reply)) out)), rw e)

abbrev pub frames_of : List Call → List (List ℕ)
frames_of cs = map (λ c. c.frame) cs

zeros-large : (f : List ℕ) → Large (record { frame = f; buffer = replicate answer_size 0 })
zeros-large f = let e : length (replicate {A = ℕ} answer_size 0) ≡ answer_size = length-replicate {A = ℕ} answer_size 0 in omega (arith, e)

step-large : (b : State) (c : Call) → Large c → (d : Call) → Large d → c.frame ≡ d.frame → (answer_of (step b c) ≡ answer_of (step b d)) × ((step b c).state ≡ (step b d).state)
unfolding step
step-large b c h d k e =
    let v = judge b d.frame (parse d.frame) in
    let x = finish-large b c.buffer v h in
    let y = finish-large b d.buffer v k in
    rw e (x.0 ∙ sym y.0, x.1 ∙ sym y.1)

pub answers-large : (cs : List Call) (b : State) → All Large cs → answers_from b cs ≡ answers_from b (calls (frames_of cs))
unfolding answers_from
answers-large [] b a = refl
answers-large (c ∷ cs) b a =
    let x = step-large b c a.0 (record { frame = c.frame; buffer = replicate answer_size 0 }) (zeros-large c.frame) refl in
    ap₂ (λ (y : List ℕ) (ys : List (List ℕ)). y ∷ ys) x.0 (answers-large cs (step b c).state a.1 ∙ ap (λ (z : State). answers_from z (calls (frames_of cs))) x.1)

-- What a row says of the commands.
abbrev pub Holds : Row → Type 0
Holds (played fs rs) =
    (xs : List Exchange) (b : Bus) → Ran xs b → map (λ x. x.call.frame) xs ≡ fs → All (λ x. Large x.call) xs → last_of (length rs) (map answer_in xs) ≡ rs
Holds (ruled limit others own rest) = left limit others own ≡ rest

pub frames-of : (xs : List Exchange) → frames_of (calls_of xs) ≡ map (λ x. x.call.frame) xs
frames-of [] = refl
frames-of (x ∷ xs) = ap (◌∷◌ x.call.frame) (frames-of xs)

pub large-calls : (xs : List Exchange) → All (λ x. Large x.call) xs → All Large (calls_of xs)
large-calls [] a = tt
large-calls (x ∷ xs) a = (a.0, large-calls xs a.1)

-- The table: "M1 .. M10", and S, "in and out whole".
abbrev pub CodeMarks : Type 0
CodeMarks = All Holds table

-- The examples.
abbrev pub CodeExamples : Type 0
CodeExamples = All Holds examples

-- The same for the calls of the row as they stand in the table, each with an answer buffer of 591 zeros.
calls-frames : (fs : List (List ℕ)) → frames_of (calls fs) ≡ fs
calls-frames [] = refl
calls-frames (f ∷ fs) = ap (◌∷◌ f) (calls-frames fs)

calls-large : (fs : List (List ℕ)) → All Large (calls fs)
calls-large [] = tt
calls-large (f ∷ fs) = (zeros-large f, calls-large fs)

large-exchanges : (xs : List Exchange) → All Large (calls_of xs) → All (λ x. Large x.call) xs
large-exchanges [] a = tt
large-exchanges (x ∷ xs) a = (a.0, large-exchanges xs a.1)

pub held-calls : (fs rs : List (List ℕ)) → Holds (played fs rs) → (xs : List Exchange) (b : Bus) → Ran xs b → calls_of xs ≡ calls fs → last_of (length rs) (map answer_in xs) ≡ rs
held-calls fs rs h xs b r e =
    h xs b r (sym (frames-of xs) ∙ ap frames_of e ∙ calls-frames fs) (large-exchanges xs (rw e (calls-large fs)))

-- A bus made fresh is the same whatever lay in its buffers.
pub fresh-same : (b : Bus) → sized_ok b ≡ true → fresh_of b ≡ fresh_bus
unfolding fresh_of
fresh-same b e = rw e refl

-- "Making a fresh bus (no peer opened) refuses only a wrong length, returning 5 and writing nothing": the number n and the bus that are left of the buffers b.
pub record Made (b : Bus) (n : ℕ) (after : Bus) : Type 0 where
  pub right : Shape b → (n ≡ 0) × (after ≡ fresh_bus)
  pub wrong : (Shape b → ⊥) → (n ≡ EIO) × (after ≡ b)
  pub only : n ≡ 0 → Shape b

shape-sized : (b : Bus) → Shape b → sized_ok b ≡ true
shape-sized b s =
    sym (all-but-seeds b s.peers s.nodes s.handles s.charges s.ends s.rows.entries s.rows.carried s.rows.numbers s.pool)
    ∙ eq-eqb (length b.seeds) seeds_size s.seeds

pub fresh-made-as : (b : Bus) → Made b (fresh_number b) (fresh_of b)
unfolding fresh_number fresh_of
fresh-made-as b = go (look (sized_ok b))
  where
    go : Seen (sized_ok b) → Made b (fresh_number b) (fresh_of b)
    go (is_true e) = record { right = λ s. rw e (refl, refl); wrong = λ h. absurd (h (sized-shape b e)); only = λ h. sized-shape b e }
    go (is_false e) = record { right = λ s. clash (sym (shape-sized b s) ∙ e); wrong = λ h. rw e (refl, refl); only = λ h. absurd (omega (arith, rw e at h)) }

-- And two runs with the same frames answer the same bytes, whatever lay in the answer buffers, where each is long enough.
abbrev pub BytesSame : Type 0
BytesSame =
    (xs ys : List Exchange) (b d : Bus) → Ran xs b → Ran ys d → map (λ x. x.call.frame) xs ≡ map (λ x. x.call.frame) ys →
    All (λ x. Large x.call) xs → All (λ x. Large x.call) ys → map answer_in xs ≡ map answer_in ys
