-- One law for each return of a command with a journal, over plain variables.
-- Assumes nothing.
use Rattle.std.specs.Prelude.{ℕ, ◌+◌, ◌*◌, ◌≤◌, ◌<◌, ◌≡◌, Bool, true, List, [], ltb, Option, Some, None, Ok, Err}
use Rattle.std.proofs.Math.Path.{refl, sym}
use Rattle.std.proofs.Common.{ap, ◌∙◌, lt-ltb, le-ltb}
use Rattle.std.proofs.Math.Bool.{false}
use Rattle.std.proofs.Math.ListN.{length}
use Rattle.laws.specs.Tests.{Seen, Seen.is_true, Seen.is_false, look, clash}
use Rattle.ids.specs.Refusals.{EINVAL, EIO, EFBIG, refusal_number}
use Rattle.ids.specs.declared.Refusal.{Refusal}
use Rattle.frames.specs.declared.Command.{Command}
use Rattle.frames.specs.Frame.{parse, Parsed}
use Rattle.lines.specs.Line.{room_for, lines_after, line_written}
use Rattle.answers.specs.declared.Answer.{Answer}
use Rattle.answers.specs.declared.Answer.TheVariants.{Refused as is_refused}
use Rattle.answers.specs.declared.Outcome.{Outcome}
use Rattle.answers.specs.Answer.{answer_size, answer_after, outcome_of}
use Rattle.view.specs.View.{Bus}
use Rattle.judges.specs.declared.Order.{Order}
use Rattle.judges.specs.declared.Ruling.{Ruling}
use Rattle.judges.specs.Orders.{sight, ruling_of}
use Rattle.bus_model.specs.Command.{Done, done_of, sound_ok, carried_out, command_of}
use Rattle.journal_model.specs.Journal.{WithJournal, with_journal, outcome_with, returned_with, appended_of, obeyed_with, command_with}
use Rattle.journal_model.specs.Counted.{changing, unsound-uncounted, refused-uncounted, read-counted, command-read}
use Rattle.journal.specs.Steps.{append_written, journal_after, executed_with}
use Rattle.journal_model.specs.declared.JournalOutcome.{JournalOutcome}

-- A refusal and its answer, as the code writes them.
abbrev Wrote : Answer → List ℕ → Outcome → List ℕ → Type 0
Wrote a out o out' = (o ≡ outcome_of a [] [] out) × (out' ≡ answer_after a [] [] out)

abbrev is_full : Option ℕ → Bool
is_full None = true
is_full (Some n) = false

abbrev place_of : Option ℕ → ℕ
place_of None = 0
place_of (Some n) = n

full-room : (j f : List ℕ) (u : ℕ) → line_written j u f ≡ None → room_for j u f ≡ false
unfolding line_written
full-room j f u e = go (look (room_for j u f))
  where
    go : Seen (room_for j u f) → room_for j u f ≡ false
    go (is_false r) = r
    go (is_true r) = clash (sym (ap is_full (rw r at e)))

next-room : (j f : List ℕ) (u n : ℕ) → line_written j u f ≡ Some n → (room_for j u f ≡ true) × (n ≡ u + (2 * length f + 1))
unfolding line_written
next-room j f u n e = go (look (room_for j u f))
  where
    go : Seen (room_for j u f) → (room_for j u f ≡ true) × (n ≡ u + (2 * length f + 1))
    go (is_false r) = clash (ap is_full (rw r at e))
    go (is_true r) = (r, sym (ap place_of (rw r at e)))

-- The line appended.
module _ (j f : List ℕ) (u : ℕ) (o : Order) {t : Bool} (e : t ≡ changing o) where
  pub append-none : t ≡ false → (Some u ≡ append_written o j u f) × (j ≡ journal_after o j u f)
  append-none n = (rw (← e, n) refl, rw (← e, n) refl)

  pub append-written : t ≡ true → {w : Option ℕ} {j' : List ℕ} → (w ≡ line_written j u f) × (j' ≡ lines_after j u f) → (w ≡ append_written o j u f) × (j' ≡ journal_after o j u f)
  append-written y h = (rw (← e, y) h.0, rw (← e, y) h.1)

-- The order carried out, by what came of the line.
module _ (b : Bus) (f out j : List ℕ) (u : ℕ) {r s : Ruling} (e : r ≡ s) {t : Bool} (et : t ≡ changing r.order) where
  executed-alone : t ≡ false → {o : Outcome} {b' : Bus} {out' : List ℕ} → done_of o b' out' ≡ carried_out b f out r → {k : JournalOutcome} → k ≡ outcome_with o u →
      returned_with k b' out' j ≡ executed_with b f out s j u
  unfolding executed_with
  executed-alone n d ek = rw (← e, ← et, n, ek) (ap (λ (x : Done). with_journal x j u) d)

  module _ (y : t ≡ true) {w : Option ℕ} (ew : w ≡ line_written j u f) {j' : List ℕ} (ej : j' ≡ lines_after j u f) where
    executed-full : w ≡ None → {o : Outcome} {out' : List ℕ} → Wrote (is_refused EFBIG) out o out' → {k : JournalOutcome} → k ≡ outcome_with o u → returned_with k b out' j' ≡ executed_with b f out s j u
    unfolding executed_with lines_after
    executed-full q wr ek =
        let z : room_for j u f ≡ false = full-room j f u (sym ew ∙ q) in
        let jj : j' ≡ j = ej ∙ rw z refl in
        rw (← e, ← et, y, z, jj, ek, wr.0, wr.1) refl

    executed-next : {n : ℕ} → w ≡ Some n → {o : Outcome} {b' : Bus} {out' : List ℕ} → done_of o b' out' ≡ carried_out b f out r → {k : JournalOutcome} → k ≡ outcome_with o n →
        returned_with k b' out' j' ≡ executed_with b f out s j u
    unfolding executed_with
    executed-next {n = n} q d ek =
        let z = next-room j f u n (sym ew ∙ q) in
        rw (← e, ← et, y, z.0, ek, ← ej, z.1) (ap (λ (x : Done). with_journal x j' (u + (2 * length f + 1))) d)

module _ (b : Bus) (f out j : List ℕ) (u : ℕ) {r s : Ruling} (e : r ≡ s) {w : Option ℕ} {j' : List ℕ} (a : (w ≡ append_written r.order j u f) × (j' ≡ journal_after r.order j u f)) where
  pub execute-full : w ≡ None → {o : Outcome} {out' : List ℕ} → Wrote (is_refused EFBIG) out o out' → {k : JournalOutcome} → k ≡ outcome_with o u →
      returned_with k b out' j' ≡ executed_with b f out s j u
  execute-full q {out' = out'} wr {k = k} ek = go (look (changing r.order))
    where
      go : Seen (changing r.order) → returned_with k b out' j' ≡ executed_with b f out s j u
      go (is_true t) = executed-full b f out j u e refl t (a.0 ∙ rw t refl) (a.1 ∙ rw t refl) q wr ek
      go (is_false t) = let z : w ≡ Some u = a.0 ∙ rw t refl in clash (ap is_full (sym q ∙ z))

  pub execute-next : {n : ℕ} → w ≡ Some n → {o : Outcome} {b' : Bus} {out' : List ℕ} → done_of o b' out' ≡ carried_out b f out r → {k : JournalOutcome} → k ≡ outcome_with o n →
      returned_with k b' out' j' ≡ executed_with b f out s j u
  execute-next {n = n} q {o = o} {b' = b'} {out' = out'} d {k = k} ek = go (look (changing r.order))
    where
      go : Seen (changing r.order) → returned_with k b' out' j' ≡ executed_with b f out s j u
      go (is_true t) = executed-next b f out j u e refl t (a.0 ∙ rw t refl) (a.1 ∙ rw t refl) q d ek
      go (is_false t) =
          let y : w ≡ Some u = a.0 ∙ rw t refl in
          let z : n ≡ u = ap place_of (sym q ∙ y) in
          let i : j' ≡ j = a.1 ∙ rw t refl in
          rw i (executed-alone b f out j u e refl t d (ek ∙ ap (outcome_with o) z))

module _ (b : Bus) (f out j : List ℕ) (u : ℕ) (h : answer_size ≤ length out) where
  long : ltb (length out) answer_size ≡ false
  long = le-ltb (length out) answer_size h

  pub over-used : length j < u → {o : Outcome} {out' : List ℕ} → Wrote (is_refused EIO) out o out' → {k : JournalOutcome} → k ≡ outcome_with o u → returned_with k b out' j ≡ obeyed_with b f out j u
  unfolding obeyed_with
  over-used l w ek = rw (lt-ltb (length j) u l, ek, w.0, w.1) refl

  module _ (l : u ≤ length j) {r : Bool} (e : r ≡ sound_ok b) where
    pub kept-unsound : r ≡ false → {o : Outcome} {out' : List ℕ} → Wrote (is_refused EIO) out o out' → {k : JournalOutcome} → k ≡ outcome_with o u → returned_with k b out' j ≡ obeyed_with b f out j u
    unfolding obeyed_with appended_of command_of
    kept-unsound n w ek =
        rw (le-ltb (length j) u l, unsound-uncounted b f out long (sym e ∙ n), long, ← e, n, ek, w.0, w.1) refl

    module _ (t : r ≡ true) {x : Parsed} (ex : x ≡ parse f) where
      pub kept-unread : {n : Refusal} → x ≡ Err n → {m : ℕ} → m ≡ refusal_number n → {o : Outcome} {out' : List ℕ} → Wrote (is_refused m) out o out' → {k : JournalOutcome} → k ≡ outcome_with o u → returned_with k b out' j ≡ obeyed_with b f out j u
      unfolding obeyed_with appended_of command_of
      kept-unread en em w ek =
          rw (le-ltb (length j) u l, refused-uncounted b f out long (sym ex ∙ en), long, ← e, t, ← ex, en, ← em, ek, w.0, w.1) refl

      pub kept_read : {c : Command} → x ≡ Ok c → {d : WithJournal} →
          d ≡ executed_with b f out (ruling_of (sight b.peers b.nodes b.handles b.charges b.rings b.seeds) f c) j u → d ≡ obeyed_with b f out j u
      unfolding obeyed_with appended_of executed_with
      kept_read {c = c} ec k =
          let q : parse f ≡ Ok c = sym ex ∙ ec in
          let z = command-read b f out long (sym e ∙ t) q in
          rw (le-ltb (length j) u l, read-counted b f out long (sym e ∙ t) q, z) k

pub kept-short : (b : Bus) (f out j : List ℕ) (u : ℕ) → length out < answer_size → returned_with (record { number = EINVAL; len = 0; used = u }) b out j ≡ command_with b f out j u
unfolding command_with command_of
kept-short b f out j u h = rw (lt-ltb (length out) answer_size h) refl

pub kept-long : (b : Bus) (f out j : List ℕ) (u : ℕ) → answer_size ≤ length out → {d : WithJournal} → d ≡ obeyed_with b f out j u → d ≡ command_with b f out j u
unfolding command_with
kept-long b f out j u h e = rw (le-ltb (length out) answer_size h) e
