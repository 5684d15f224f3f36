-- Runs with a journal, and what recovery finds in a journal that was cut off anywhere: the bus after as many commands as LFs were kept, to the last byte.
-- Assumes nothing.
use Rattle.std.specs.Prelude.{ℕ, zero, suc, ◌+◌, ◌*◌, ◌≤◌, ◌≡◌, Bool, true, false, ◌⊎◌, drop, replicate, eqb, ltb, Ok, Err}
use Rattle.std.proofs.Math.Path.{refl, ap}
use Rattle.std.proofs.Common.{sym, ap₂, ◌∙◌, arith, length-append, take_at, length-take-le, ne_eqb}
use Rattle.std.proofs.Math.Logic.◌⊎◌.{inl, inr}
use mathlib.Core.List.{List, [], ◌∷◌, ◌++◌}
use Rattle.std.proofs.Math.ListN.{length, take}
use Rattle.std.proofs.lemmas.List.{length-replicate}
use Rattle.std.proofs.Math.Seq.{sets}
use Rattle.std.proofs.lemmas.List.Edits.{sets-eq}
use Rattle.std.proofs.lemmas.Bool.{eqb-false}
use Rattle.laws.specs.Tests.{pick, Seen, Seen.is_true, Seen.is_false, look, clash}
use Rattle.laws.specs.Weights.{All}
use Rattle.ids.specs.Refusals.{EIO, EFBIG}
use Rattle.frames.specs.declared.Command.TheVariants.{Open, Disconnect, Create, Destroy, Release, Transfer, Send, Receive, Quota, Holders, ShowSeed}
use Rattle.frames.specs.Frame.{parse, opcode, Parsed}
use Rattle.lines.specs.Line.{room_for, lines_after, answer_line, digits_of}
use Rattle.lines.specs.LineLaws.{digits-length}
use Rattle.lines.specs.Chunks.{NoLf}
use Rattle.lines.specs.Cuts.{text_of, lfs, OneLineLong}
use Rattle.answers.specs.declared.Outcome.{Outcome}
use Rattle.answers.specs.Answer.{answer_size}
use Rattle.model.specs.Step.{Call}
use Rattle.model.specs.Coded.{coded}
use Rattle.view.specs.View.{Bus}
use Rattle.bus_model.specs.Command.{refused_by, command_of, fresh_bus}
use Rattle.bus_model.specs.Ran.{Exchange}
use Rattle.bus_model.specs.Demands.{code-refusals}
use Rattle.bus_model.specs.Untouched.{code-questions}
use Rattle.bus_model.specs.Apart.{any-buffer}
use Rattle.journal_model.specs.Journal.{is_question, counted, with_journal, appended_of, obeyed_with, command_with, spare, Replayed.whole, replay, lines_in}
use Rattle.journal_model.specs.Counted.{refused-number}

-- A question leaves the bus alone, on any bus.
asked : (f : List ℕ) (x : Parsed) → parse f ≡ x → is_question x ≡ true → (opcode f ≡ 9) ⊎ (opcode f ≡ 10)
asked f (Err r) p e = clash (sym e)
asked f (Ok (Open q u)) p e = clash (sym e)
asked f (Ok (Disconnect q)) p e = clash (sym e)
asked f (Ok (Create q i)) p e = clash (sym e)
asked f (Ok (Destroy q i)) p e = clash (sym e)
asked f (Ok (Release q i)) p e = clash (sym e)
asked f (Ok (Transfer q i r)) p e = clash (sym e)
asked f (Ok (Send q z)) p e = clash (sym e)
asked f (Ok (Receive q room)) p e = clash (sym e)
asked f (Ok (ShowSeed q room)) p e = clash (sym e)
asked f (Ok (Quota q u)) p e = inl (coded f (Quota q u) p).byte
asked f (Ok (Holders q i)) p e = inr (coded f (Holders q i) p).byte

question-leaves : (b : Bus) (f out : List ℕ) → is_question (parse f) ≡ true → (command_of b f out).bus ≡ b
question-leaves b f out e = code-questions b (record { frame = f; buffer = out }) (asked f (parse f) refl e)

-- Whether a command is counted does not depend on the answer buffer, where that is long enough.
pub counted-any : (b : Bus) (f x y : List ℕ) → answer_size ≤ length x → answer_size ≤ length y → counted b f x ≡ counted b f y
unfolding counted
counted-any b f x y l m = ap (λ (o : Outcome). pick (is_question (parse f)) false (eqb o.number 0)) (any-buffer b f x y l m).outcome

-- What is not counted leaves the bus alone.
pub uncounted-leaves : (b : Bus) (f out : List ℕ) → counted b f out ≡ false → (command_of b f out).bus ≡ b
unfolding counted
uncounted-leaves b f out h = go (look (is_question (parse f)))
  where
    go : Seen (is_question (parse f)) → (command_of b f out).bus ≡ b
    go (is_true e) = question-leaves b f out e
    go (is_false e) = (code-refusals b (record { frame = f; buffer = out }) (eqb-false (command_of b f out).outcome.number 0 (rw e at h))).bus

-- An exchange with a journal j of which u bytes are used.
abbrev pub exchange_with : Bus → List ℕ → ℕ → Call → Exchange
exchange_with b j u c =
    let d = (command_with b c.frame c.buffer j u).done in
    record { before = b; call = c; outcome = d.outcome; after = d.out }

-- A run of exchanges, each with the bus, the journal and its used length as the one before left them.
pub data JournalRun : Bus → List ℕ → ℕ → List Exchange → Bus → List ℕ → ℕ → Type 0 where
  none : {b : Bus} {j : List ℕ} {u : ℕ} → JournalRun b j u [] b j u
  next : {b d : Bus} {j i : List ℕ} {u v : ℕ} {xs : List Exchange} (c : Call) →
      JournalRun (command_with b c.frame c.buffer j u).done.bus (command_with b c.frame c.buffer j u).journal (command_with b c.frame c.buffer j u).used xs d i v →
      JournalRun b j u (exchange_with b j u c ∷ xs) d i v

-- An accepted command that is no question, as its exchange shows it.
abbrev pub counted_as : List ℕ → ℕ → Bool
counted_as f n = pick (is_question (parse f)) false (eqb n 0)

abbrev pub is_counted : Exchange → Bool
is_counted x = counted_as x.call.frame x.outcome.number

-- The frames of those; the bus after the first n of them.
unfoldable pub frames_of : List Exchange → List (List ℕ)
frames_of [] = []
frames_of (x ∷ xs) = pick (is_counted x) (x.call.frame ∷ frames_of xs) (frames_of xs)

unfoldable pub bus_after_counted : List Exchange → ℕ → Bus → Bus
bus_after_counted [] n last = last
bus_after_counted (x ∷ xs) zero last = x.before
bus_after_counted (x ∷ xs) (suc n) last = pick (is_counted x) (bus_after_counted xs n last) (bus_after_counted xs (suc n) last)

-- One command with a journal: it is counted, carried out and appended; or the bus, the journal and the used length stay.
pub data Appends (b : Bus) (c : Call) (j : List ℕ) (u : ℕ) : Type 0 where
  appended : counted_as c.frame (command_with b c.frame c.buffer j u).done.outcome.number ≡ true → counted b c.frame c.buffer ≡ true → ltb (length c.buffer) answer_size ≡ false → room_for j u c.frame ≡ true →
      command_with b c.frame c.buffer j u ≡ with_journal (command_of b c.frame c.buffer) (lines_after j u c.frame) (u + (2 * length c.frame + 1)) → Appends b c j u
  unchanged : counted_as c.frame (command_with b c.frame c.buffer j u).done.outcome.number ≡ false → (command_with b c.frame c.buffer j u).done.bus ≡ b → (command_with b c.frame c.buffer j u).journal ≡ j →
      (command_with b c.frame c.buffer j u).used ≡ u → Appends b c j u

not-counted : (f : List ℕ) (n : ℕ) → (n ≡ 0 → ⊥) → pick (is_question (parse f)) false (eqb n 0) ≡ false
not-counted f n h = go (look (is_question (parse f)))
  where
    go : Seen (is_question (parse f)) → pick (is_question (parse f)) false (eqb n 0) ≡ false
    go (is_true e) = rw e refl
    go (is_false e) = rw e (ne_eqb n 0 h)

pub short-number : (b : Bus) (f out : List ℕ) → ltb (length out) answer_size ≡ true → (command_of b f out).outcome.number ≡ 22
unfolding command_of
short-number b f out e = rw e refl

short-bus : (b : Bus) (f out : List ℕ) → ltb (length out) answer_size ≡ true → (command_of b f out).bus ≡ b
unfolding command_of
short-bus b f out e = rw e refl

pub appends : (b : Bus) (c : Call) (j : List ℕ) (u : ℕ) → Appends b c j u
unfolding command_with obeyed_with appended_of
appends b c j u = go (look (ltb (length c.buffer) answer_size)) (look (ltb (length j) u)) (look (counted b c.frame c.buffer)) (look (room_for j u c.frame))
  where
    f : List ℕ
    f = c.frame

    out : List ℕ
    out = c.buffer

    go : Seen (ltb (length out) answer_size) → Seen (ltb (length j) u) → Seen (counted b f out) → Seen (room_for j u f) → Appends b c j u
    go (is_true e) l k r =
        unchanged (rw e (not-counted f (command_of b f out).outcome.number (λ z. omega (arith, short-number b f out e)))) (rw e (short-bus b f out e)) (rw e refl) (rw e refl)
    go (is_false e) (is_true l) k r =
        unchanged (rw (e, l) (not-counted f (refused_by EIO b out).outcome.number (λ z. omega (arith, refused-number EIO b out e)))) (rw (e, l) refl) (rw (e, l) refl) (rw (e, l) refl)
    go (is_false e) (is_false l) (is_false k) r =
        unchanged (rw (e, l, k) (unfold counted in k)) (rw (e, l, k) (uncounted-leaves b f out k)) (rw (e, l, k) refl) (rw (e, l, k) refl)
    go (is_false e) (is_false l) (is_true k) (is_false r) =
        unchanged (rw (e, l, k, r) (not-counted f (refused_by EFBIG b out).outcome.number (λ z. omega (arith, refused-number EFBIG b out e)))) (rw (e, l, k, r) refl) (rw (e, l, k, r) refl) (rw (e, l, k, r) refl)
    go (is_false e) (is_false l) (is_true k) (is_true r) = appended (rw (e, l, k, r) (unfold counted in k)) k e r (rw (e, l, k, r) refl)

pub spare-large : answer_size ≤ length spare
unfolding spare
spare-large = let e : length {A = ℕ} (replicate answer_size 0) ≡ answer_size = length-replicate {A = ℕ} answer_size 0 in omega (arith, e)

-- The used part of the journal is the text of the counted frames.
pub record Text (i : List ℕ) (v : ℕ) (front : List ℕ) (xs : List Exchange) : Type 0 where
  pub text : take v i ≡ front ++ text_of (frames_of xs)
  pub within : v ≤ length i

pub line_taken : (j f : List ℕ) (u : ℕ) → u + (2 * length f + 1) ≤ length j → take (u + (2 * length f + 1)) (sets j u (answer_line f)) ≡ take u j ++ answer_line f
line_taken j f u h =
    let n : length (answer_line f) ≡ 2 * length f + 1 = length-append (digits_of f) (10 ∷ []) ∙ ap (λ (m : ℕ). m + 1) (digits-length f) in
    let l : length (take u j) ≡ u = length-take-le u j (omega arith) in
    let m : length (take u j ++ answer_line f) ≡ u + (2 * length f + 1) = length-append (take u j) (answer_line f) ∙ ap₂ ◌+◌ l n in
    ap (take (u + (2 * length f + 1))) (sets-eq (answer_line f) j u (rw n (omega arith)))
    ∙ take_at (take u j ++ answer_line f) (drop (u + length (answer_line f)) j) (u + (2 * length f + 1)) m

-- "The bus found must be exactly the one after as many whole commands as LFs were kept": of any run from a fresh bus, with any journal buffer, cut anywhere,
-- with any characters but LF behind the cut.
abbrev pub RecoveryExact : Type 0
RecoveryExact =
    (j : List ℕ) (xs : List Exchange) (d : Bus) (i : List ℕ) (v : ℕ) → JournalRun fresh_bus j 0 xs d i v → All OneLineLong (frames_of xs) →
    (k : ℕ) (t : List ℕ) → k ≤ v → NoLf t →
    replay 0 fresh_bus (lines_in (take k i ++ t)) ≡ whole (bus_after_counted xs (lfs (take k i)) d) (lfs (take k i))
