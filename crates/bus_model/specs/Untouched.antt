-- What a call leaves alone, on any bus, of a run or not: the answer buffer behind the answer's length, and, for a question, every byte of the bus. And the answer's first byte is the number.
-- Assumes nothing.
use Rattle.std.specs.Prelude.{ℕ, suc, ◌≤◌, ◌<◌, ◌≡◌, refl, ◌⊎◌, List, [], ◌∷◌, ◌++◌, length, get_or, take, drop, eqb, ltb, Ok, Err}
use Rattle.std.proofs.Common.{sym, ap, ◌∙◌, arith, length-append, length-drop, ltb-false}
use Rattle.std.proofs.Math.Logic.◌⊎◌.{inl, inr}
use Rattle.std.proofs.Math.Seq.{take-append_seam, drop-append_seam}
use Rattle.laws.specs.Tests.{pick_all, Seen, Seen.is_true, Seen.is_false, look}
use Rattle.ids.specs.Refusals.{EINVAL}
use Rattle.frames.specs.declared.Command.{Command}
use Rattle.frames.specs.declared.Command.TheVariants.{Open, Disconnect, Create, Destroy, Release, Transfer, Send, Receive, Quota, Holders, ShowSeed}
use Rattle.frames.specs.Frame.{opcode, parse, Parsed}
use Rattle.answers.specs.declared.Answer.{Answer}
use Rattle.answers.specs.Answer.{answer_size, number_of, contents_of, answer_bytes, answer_after, outcome_of}
use Rattle.answers.specs.AnswerLaws.{contents-size}
use Rattle.rings.specs.Rings.{Rings, first_of}
use Rattle.model.specs.Refusals.{refusal_by}
use Rattle.model.specs.Step.{Call}
use Rattle.model.specs.Coded.{code, coded}
use Rattle.view.specs.View.{Bus}
use Rattle.queues.specs.Queues.{Queues, is_message}
use Rattle.judges.specs.declared.Order.{Order}
use Rattle.judges.specs.declared.Order.TheVariants as order
use Rattle.judges.specs.declared.Places.{Places}
use Rattle.judges.specs.declared.Ruling.{Ruling}
use Rattle.judges.specs.Orders.{sight, ruling_of}
use Rattle.effects.specs.Effects.{received_message, notice_taken, received, shows}
use Rattle.effects.specs.After.{queues_in}
use Rattle.bus_model.specs.Command.{sound_ok, Done, carried, carried_out, obeyed, command_of}
use Rattle.bus_model.specs.Ran.{exchange_of}

-- What was written into the answer buffer out: o and after come back.
pub record Written (out : List ℕ) (n len : ℕ) (after : List ℕ) : Type 0 where
  -- "No answer touches the buffer past its own end": its length stays, and so does everything behind the answer's length.
  pub size : length after ≡ length out
  pub tail : drop len after ≡ drop len out
  -- Where anything is written, its first byte is the number.
  pub byte : (m : ℕ) (r : List ℕ) → take len after ≡ m ∷ r → n ≡ m

abbrev pub CodeTail : Type 0
CodeTail = (b : Bus) (c : Call) → Written c.buffer (exchange_of b c).outcome.number (exchange_of b c).outcome.len (exchange_of b c).after

written-short : (n : ℕ) (out : List ℕ) → Written out n 0 out
written-short n out = record { size = refl; tail = refl; byte = λ m r e. let z : 0 ≡ suc (length r) = ap length e in absurd (omega arith) }

-- A list written over the front of another.
module _ (n : ℕ) (bytes out : List ℕ) (l : length (n ∷ bytes) ≤ length out) where
  written_over : Written out n (length (n ∷ bytes)) ((n ∷ bytes) ++ drop (length (n ∷ bytes)) out)
  written_over =
      record {
        size = length-append (n ∷ bytes) (drop (length (n ∷ bytes)) out) ∙ omega (arith, length-drop (length (n ∷ bytes)) out);
        tail = drop-append_seam (n ∷ bytes) (drop (length (n ∷ bytes)) out);
        byte = λ m r e.
            let z : n ∷ bytes ≡ m ∷ r = sym (take-append_seam (n ∷ bytes) (drop (length (n ∷ bytes)) out)) ∙ e in
            ap (λ (x : List ℕ). get_or x 0 0) z;
      }

written : (a : Answer) (is bs out : List ℕ) → Written out (outcome_of a is bs out).number (outcome_of a is bs out).len (answer_after a is bs out)
unfolding outcome_of answer_after answer_bytes
written a is bs out = go (look (ltb (length out) answer_size))
  where
    go : Seen (ltb (length out) answer_size) → Written out (outcome_of a is bs out).number (outcome_of a is bs out).len (answer_after a is bs out)
    go (is_true e) = rw e (written-short EINVAL out)
    go (is_false e) = rw e (written_over (number_of a) (contents_of a is bs) out (omega (arith, contents-size a is bs, ltb-false (length out) answer_size e)))

abbrev WrittenBy : List ℕ → Done → Type 0
WrittenBy out d = Written out d.outcome.number d.outcome.len d.out

written-received : (ps ns hs : List ℕ) (q : Queues) (p : ℕ) (out : List ℕ) →
    Written out (received ps ns hs q p out).outcome.number (received ps ns hs q p out).outcome.len (received ps ns hs q p out).out
unfolding received received_message notice_taken
written-received ps ns hs q p out = go (look (is_message (first_of q.rings p)))
  where
    go : Seen (is_message (first_of q.rings p)) →
        Written out (received ps ns hs q p out).outcome.number (received ps ns hs q p out).outcome.len (received ps ns hs q p out).out
    go (is_true e) = rw e (written _ _ _ out)
    go (is_false e) = rw e (written _ _ _ out)

written-shown : (ps ns hs : List ℕ) (r : Rings) (sd : List ℕ) (p : ℕ) (out : List ℕ) →
    Written out (shows ps ns hs r sd p out).outcome.number (shows ps ns hs r sd p out).outcome.len (shows ps ns hs r sd p out).out
unfolding shows
written-shown ps ns hs r sd p out = written _ _ _ out

written-carried : (b : Bus) (f out : List ℕ) (o : Order) (w : Places) → WrittenBy out (carried b f out o w)
written-carried b f out (order.Refuse n) w = written _ [] [] out
written-carried b f out (order.Open p u) w = written _ [] [] out
written-carried b f out (order.Disconnect p) w = written _ [] [] out
written-carried b f out (order.Create p i s) w = written _ [] [] out
written-carried b f out (order.Destroy p s) w = written _ [] [] out
written-carried b f out (order.Release p s) w = written _ [] [] out
written-carried b f out (order.Transfer q s) w = written _ [] [] out
written-carried b f out (order.Send p z) w = written _ [] [] out
written-carried b f out (order.Receive p) w = written-received b.peers b.nodes b.handles (queues_in b) p.0 out
written-carried b f out (order.ShowSeed p) w = written-shown b.peers b.nodes b.handles b.rings b.seeds p.0 out
written-carried b f out (order.Quota p u) w = written _ [] [] out
written-carried b f out (order.Holders s) w = written _ [] [] out

written-obeyed : (b : Bus) (f out : List ℕ) (x : Parsed) → WrittenBy out (obeyed b f out x)
unfolding carried_out
written-obeyed b f out (Err r) = written _ [] [] out
written-obeyed b f out (Ok k) =
    let r = ruling_of (sight b.peers b.nodes b.handles b.charges b.rings b.seeds) f k in
    written-carried b f out r.order r.places

pub code-tail : CodeTail
unfolding command_of
code-tail b c = go (look (ltb (length c.buffer) answer_size)) (look (sound_ok b))
  where
    go : Seen (ltb (length c.buffer) answer_size) → Seen (sound_ok b) → WrittenBy c.buffer (command_of b c.frame c.buffer)
    go (is_true e) z = rw e (written-short EINVAL c.buffer)
    go (is_false e) (is_true z) = rw (e, z) (written-obeyed b c.frame c.buffer (parse c.frame))
    go (is_false e) (is_false z) = rw (e, z) (written _ [] [] c.buffer)

-- "Questions change nothing": no byte of any buffer of the bus, whatever stands there.
abbrev pub CodeQuestions : Type 0
CodeQuestions = (b : Bus) (c : Call) → (opcode c.frame ≡ 9) ⊎ (opcode c.frame ≡ 10) → (command_of b c.frame c.buffer).bus ≡ b

abbrev Asks : ℕ → Type 0
Asks n = (n ≡ 9) ⊎ (n ≡ 10)

no-question : {n : ℕ} → n < 9 → Asks n → ⊥
no-question l (inl e) = omega arith
no-question l (inr e) = omega arith

seed-no-question : Asks 12 → ⊥
seed-no-question (inl e) = omega arith
seed-no-question (inr e) = omega arith

asked : (b : Bus) (f out : List ℕ) (k : Command) → Asks (code k) → (obeyed b f out (Ok k)).bus ≡ b
unfolding carried_out ruling_of
asked b f out (Open p u) a = absurd (no-question (omega arith) a)
asked b f out (Disconnect p) a = absurd (no-question (omega arith) a)
asked b f out (Create p i) a = absurd (no-question (omega arith) a)
asked b f out (Destroy p i) a = absurd (no-question (omega arith) a)
asked b f out (Release p i) a = absurd (no-question (omega arith) a)
asked b f out (Transfer p i q) a = absurd (no-question (omega arith) a)
asked b f out (Send p z) a = absurd (no-question (omega arith) a)
asked b f out (Receive p room) a = absurd (no-question (omega arith) a)
asked b f out (ShowSeed p room) a = absurd (seed-no-question a)
asked b f out (Quota p u) a =
    let v = sight b.peers b.nodes b.handles b.charges b.rings b.seeds in
    pick_all (λ (r : Ruling). (carried b f out r.order r.places).bus ≡ b) (eqb (refusal_by v.find v.free v.state f (Quota p u)) 0) _ _ refl refl
asked b f out (Holders p i) a =
    let v = sight b.peers b.nodes b.handles b.charges b.rings b.seeds in
    pick_all (λ (r : Ruling). (carried b f out r.order r.places).bus ≡ b) (eqb (refusal_by v.find v.free v.state f (Holders p i)) 0) _ _ refl refl

asked-frame : (b : Bus) (f out : List ℕ) → Asks (opcode f) → (x : Parsed) → parse f ≡ x → (obeyed b f out x).bus ≡ b
asked-frame b f out a (Err r) e = refl
asked-frame b f out a (Ok k) e = asked b f out k (rw (coded f k e).byte at a)

pub code-questions : CodeQuestions
unfolding command_of
code-questions b c a = go (look (ltb (length c.buffer) answer_size)) (look (sound_ok b))
  where
    go : Seen (ltb (length c.buffer) answer_size) → Seen (sound_ok b) → (command_of b c.frame c.buffer).bus ≡ b
    go (is_true e) z = rw e refl
    go (is_false e) (is_true z) = rw (e, z) (asked-frame b c.frame c.buffer a (parse c.frame) refl)
    go (is_false e) (is_false z) = rw (e, z) refl
