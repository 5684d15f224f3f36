-- What lies in an answer buffer of at least 591 bytes, and how long it is, changes nothing but the bytes behind the answer: the number, the answer's length and bytes, and the bus
-- afterwards are the same for two such buffers. Of a call on any bus, not of runs alone.
-- Assumes nothing.
use Prim.Native.Nat.{ℕ, ◌≤◌}
use Rattle.std.specs.Prelude.{◌≡◌, refl, false, length, take, drop, ltb, Ok, Err}
use Rattle.std.proofs.Math.Path.{sym}
use Rattle.std.proofs.Common.{◌∙◌, le-ltb}
use mathlib.Core.List.{List, []}
use Rattle.std.proofs.Math.Seq.{take-append_seam}
use Rattle.laws.specs.Tests.{Seen, Seen.is_true, Seen.is_false, look}
use Rattle.frames.specs.Frame.{parse, Parsed}
use Rattle.answers.specs.declared.Answer.{Answer}
use Rattle.answers.specs.Answer.{answer_size, answer_bytes, answer_after, outcome_of}
use Rattle.rings.specs.Rings.{first_of}
use Rattle.queues.specs.Queues.{is_message}
use Rattle.view.specs.View.{Bus}
use Rattle.judges.specs.declared.Order.{Order}
use Rattle.judges.specs.declared.Order.TheVariants as order
use Rattle.judges.specs.declared.Places.{Places}
use Rattle.judges.specs.Orders.{sight, ruling_of}
use Rattle.effects.specs.Effects.{received_message, notice_taken, received, shows}
use Rattle.bus_model.specs.Command.{Done, done_of, sound_ok, carried, carried_out, obeyed, command_of}

-- The same number, length, bus and answer; only the bytes behind the answer may differ.
pub record Alike (d e : Done) : Type 0 where
  pub outcome : d.outcome ≡ e.outcome
  pub bus : d.bus ≡ e.bus
  pub answer : take d.outcome.len d.out ≡ take e.outcome.len e.out

abbrev pub AnyBuffer : Type 0
AnyBuffer = (b : Bus) (f x y : List ℕ) → answer_size ≤ length x → answer_size ≤ length y → Alike (command_of b f x) (command_of b f y)

module _ (x y : List ℕ) (l : ltb (length x) answer_size ≡ false) (m : ltb (length y) answer_size ≡ false) where
  alike-written : (a : Answer) (b : Bus) (is bs : List ℕ) → Alike (done_of (outcome_of a is bs x) b (answer_after a is bs x)) (done_of (outcome_of a is bs y) b (answer_after a is bs y))
  unfolding outcome_of answer_after
  alike-written a b is bs =
      let w : List ℕ = answer_bytes a is bs in
      record {
        outcome = rw (l, m) refl;
        bus = refl;
        answer = rw (l, m) (take-append_seam w (drop (length w) x) ∙ sym (take-append_seam w (drop (length w) y)));
      }

  alike-receive : (b : Bus) (f : List ℕ) (p : ℕ) (w : Places) → Alike (carried b f x (order.Receive (record { 0 = p })) w) (carried b f y (order.Receive (record { 0 = p })) w)
  unfolding received received_message notice_taken
  alike-receive b f p w = go (look (is_message (first_of b.rings p)))
    where
      go : Seen (is_message (first_of b.rings p)) → Alike (carried b f x (order.Receive (record { 0 = p })) w) (carried b f y (order.Receive (record { 0 = p })) w)
      go (is_true z) = rw z (alike-written _ _ _ _)
      go (is_false z) = rw z (alike-written _ _ _ _)

  alike-show : (b : Bus) (f : List ℕ) (p : ℕ) (w : Places) → Alike (carried b f x (order.ShowSeed (record { 0 = p })) w) (carried b f y (order.ShowSeed (record { 0 = p })) w)
  unfolding shows
  alike-show b f p w = alike-written _ _ _ _

  alike-carried : (b : Bus) (f : List ℕ) (o : Order) (w : Places) → Alike (carried b f x o w) (carried b f y o w)
  alike-carried b f (order.Refuse n) w = alike-written _ b [] []
  alike-carried b f (order.Open p u) w = alike-written _ _ [] []
  alike-carried b f (order.Disconnect p) w = alike-written _ _ [] []
  alike-carried b f (order.Create p i s) w = alike-written _ _ [] []
  alike-carried b f (order.Destroy p s) w = alike-written _ _ [] []
  alike-carried b f (order.Release p s) w = alike-written _ _ [] []
  alike-carried b f (order.Transfer q s) w = alike-written _ _ [] []
  alike-carried b f (order.Send p z) w = alike-written _ _ [] []
  alike-carried b f (order.Receive p) w = alike-receive b f p.0 w
  alike-carried b f (order.ShowSeed p) w = alike-show b f p.0 w
  alike-carried b f (order.Quota p u) w = alike-written _ b [] []
  alike-carried b f (order.Holders s) w = alike-written _ b [] []

  alike-obeyed : (b : Bus) (f : List ℕ) (r : Parsed) → Alike (obeyed b f x r) (obeyed b f y r)
  unfolding carried_out
  alike-obeyed b f (Err r) = alike-written _ b [] []
  alike-obeyed b f (Ok k) =
      let r = ruling_of (sight b.peers b.nodes b.handles b.charges b.rings b.seeds) f k in
      alike-carried b f r.order r.places

  alike-command : (b : Bus) (f : List ℕ) → Alike (command_of b f x) (command_of b f y)
  unfolding command_of
  alike-command b f = go (look (sound_ok b))
    where
      go : Seen (sound_ok b) → Alike (command_of b f x) (command_of b f y)
      go (is_true s) = rw (l, m, s) (alike-obeyed b f (parse f))
      go (is_false s) = rw (l, m, s) (alike-written _ b [] [])

pub any-buffer : AnyBuffer
any-buffer b f x y l m = alike-command x y (le-ltb (length x) answer_size l) (le-ltb (length y) answer_size m) b f
