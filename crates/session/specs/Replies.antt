-- A command's answer does not depend on what the answer buffer held: for every bus and every frame there are a number, a bus and bytes, at most 591 of them,
-- such that the command writes these bytes at the front of any buffer that is long enough.
-- Assumes nothing.
use Rattle.std.specs.Prelude.{ℕ, ◌≤◌, ◌≡◌, refl, List, [], ◌++◌, length, take, drop, replicate, Ok, Err}
use Rattle.std.proofs.Common.{sym, ap, ◌∙◌, arith, take_at, le-ltb}
use Rattle.std.proofs.lemmas.List.{length-replicate}
use Rattle.laws.specs.Tests.{pick, Seen, Seen.is_true, Seen.is_false, look}
use Rattle.ids.specs.Refusals.{EIO}
use Rattle.frames.specs.Frame.{parse, Parsed}
use Rattle.answers.specs.declared.Answer.{Answer}
use Rattle.answers.specs.Answer.{answer_size, number_of, answer_bytes, answer_after, outcome_of}
use Rattle.answers.specs.AnswerLaws.{contents-size}
use Rattle.rings.specs.Rings.{first_of}
use Rattle.view.specs.View.{Bus}
use Rattle.queues.specs.Queues.{is_message}
use Rattle.judges.specs.declared.Order.{Order}
use Rattle.judges.specs.declared.Order.TheVariants as order
use Rattle.judges.specs.declared.Places.{Places}
use Rattle.judges.specs.Orders.{sight, ruling_of}
use Rattle.effects.specs.Effects.{received, received_message, notice_taken, shows}
use Rattle.bus_model.specs.Command.{Done, done_of, sound_ok, carried, carried_out, refused_by, obeyed, command_of}
use Rattle.lines.specs.Chunks.{Found.frame}
use Rattle.session.specs.Session.{shown, reply_to}

record Writes (F : List ℕ → Done) : Type 0 where
  number : ℕ
  bus : Bus
  bytes : List ℕ
  fits : length bytes ≤ answer_size
  is : (out : List ℕ) → answer_size ≤ length out → F out ≡ done_of (record { number = number; len = length bytes }) bus (bytes ++ drop (length bytes) out)

writes-answer : (a : Answer) (is bs : List ℕ) (b : Bus) → Writes (λ out. done_of (outcome_of a is bs out) b (answer_after a is bs out))
unfolding outcome_of answer_after answer_bytes
writes-answer a is bs b = record {
  number = number_of a;
  bus = b;
  bytes = answer_bytes a is bs;
  fits = omega (arith, contents-size a is bs);
  is = λ out h. rw (le-ltb (length out) answer_size h);
}

writes-carried : (b : Bus) (f : List ℕ) (o : Order) (w : Places) → Writes (λ out. carried b f out o w)
unfolding received received_message notice_taken shows
writes-carried b f (order.Refuse n) w = writes-answer _ [] [] b
writes-carried b f (order.Open p u) w = writes-answer _ [] [] _
writes-carried b f (order.Disconnect p) w = writes-answer _ [] [] _
writes-carried b f (order.Create p i s) w = writes-answer _ [] [] _
writes-carried b f (order.Destroy p s) w = writes-answer _ [] [] _
writes-carried b f (order.Release p s) w = writes-answer _ [] [] _
writes-carried b f (order.Transfer q s) w = writes-answer _ [] [] _
writes-carried b f (order.Send p z) w = writes-answer _ [] [] _
writes-carried b f (order.Receive p) w = go (look (is_message (first_of b.rings p.0)))
  where
    go : Seen (is_message (first_of b.rings p.0)) → Writes (λ out. carried b f out (order.Receive p) w)
    go (is_true z) = rw z (writes-answer _ _ _ _)
    go (is_false z) = rw z (writes-answer _ _ _ _)
writes-carried b f (order.ShowSeed p) w = writes-answer _ _ _ _
writes-carried b f (order.Quota p u) w = writes-answer _ [] [] b
writes-carried b f (order.Holders s) w = writes-answer _ [] [] b

writes-obeyed : (b : Bus) (f : List ℕ) (x : Parsed) → Writes (λ out. obeyed b f out x)
unfolding carried_out
writes-obeyed b f (Err r) = writes-answer _ [] [] b
writes-obeyed b f (Ok c) =
    let r = ruling_of (sight b.peers b.nodes b.handles b.charges b.rings b.seeds) f c in
    writes-carried b f r.order r.places

-- with a long answer buffer the command is the frame's, or the refusal of a bus that is not sound
abbrev long : Bus → List ℕ → List ℕ → Done
long b f out = pick (sound_ok b) (obeyed b f out (parse f)) (refused_by EIO b out)

writes-long : (b : Bus) (f : List ℕ) → Writes (λ out. long b f out)
writes-long b f = go (look (sound_ok b))
  where
    go : Seen (sound_ok b) → Writes (λ out. long b f out)
    go (is_true e) = rw e (writes-obeyed b f (parse f))
    go (is_false e) = rw e (writes-answer _ [] [] b)

command-long : (b : Bus) (f out : List ℕ) → answer_size ≤ length out → command_of b f out ≡ long b f out
unfolding command_of
command-long b f out h = rw (le-ltb (length out) answer_size h)

-- What the command of a frame leaves, by the definition of the frame's reply.
pub record Replies (b : Bus) (f : List ℕ) (d : Done) : Type 0 where
  pub bus : d.bus ≡ (reply_to b (frame f)).bus
  pub bytes : take d.outcome.len d.out ≡ (reply_to b (frame f)).bytes
  pub length-is : d.outcome.len ≡ length (reply_to b (frame f)).bytes
  pub fits : d.outcome.len ≤ answer_size

pub reply-of : (b : Bus) (f out : List ℕ) (d : Done) → answer_size ≤ length out → d ≡ command_of b f out → Replies b f d
unfolding reply_to
reply-of b f out d h e = record {
  bus = ap (λ (x : Done). x.bus) same ∙ sym (ap (λ (x : Done). x.bus) zeros);
  bytes = ap (λ (x : Done). take x.outcome.len x.out) same ∙ front out ∙ sym shows;
  length-is = ap (λ (x : Done). x.outcome.len) same ∙ sym (ap length shows);
  fits = rw (ap (λ (x : Done). x.outcome.len) same) k.fits;
}
  where
    k : Writes (λ out. long b f out)
    k = writes-long b f

    same : d ≡ done_of (record { number = k.number; len = length k.bytes }) k.bus (k.bytes ++ drop (length k.bytes) out)
    same = e ∙ command-long b f out h ∙ k.is out h

    blank : List ℕ
    blank = replicate answer_size 0

    room : answer_size ≤ length blank
    room = let z : length blank ≡ answer_size = length-replicate {A = ℕ} answer_size 0 in omega (arith, z)

    zeros : command_of b f blank ≡ done_of (record { number = k.number; len = length k.bytes }) k.bus (k.bytes ++ drop (length k.bytes) blank)
    zeros = command-long b f blank room ∙ k.is blank room

    front : (o : List ℕ) → take (length k.bytes) (k.bytes ++ drop (length k.bytes) o) ≡ k.bytes
    front o = take_at k.bytes (drop (length k.bytes) o) (length k.bytes) refl

    shows : (shown (command_of b f blank)).bytes ≡ k.bytes
    shows = ap (λ (x : Done). take x.outcome.len x.out) zeros ∙ front blank
