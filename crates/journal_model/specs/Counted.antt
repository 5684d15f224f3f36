-- Which commands are counted, by the order that a command comes to.
-- Assumes nothing.
use Rattle.std.specs.Prelude.{ℕ, ◌≡◌, Bool, List, [], length, eqb, ltb, Ok, Err}
use Rattle.std.proofs.Math.Path.{refl}
use Rattle.std.proofs.Common.{sym, ap, ◌∙◌, arith, ne_eqb}
use Rattle.std.proofs.Math.Bool.{true, false}
use Rattle.std.proofs.Math.Logic.◌⊎◌.{inl, inr}
use Rattle.laws.specs.Tests.{pick, Seen, Seen.is_true, Seen.is_false, look, clash}
use Rattle.ids.specs.Refusals.{EINVAL, EIO, refusal_number}
use Rattle.ids.specs.declared.Refusal.{Refusal}
use Rattle.frames.specs.declared.Command.{Command}
use Rattle.frames.specs.declared.Command.TheVariants.{Open, Disconnect, Create, Destroy, Release, Transfer, Send, Receive, Quota, Holders, ShowSeed}
use Rattle.frames.specs.Frame.{parse}
use Rattle.frames.specs.Legal.{Outcome as Read-as}
use Rattle.frames.proofs.Legal.{legal}
use Rattle.answers.specs.Answer.{answer_size, outcome_of}
use Rattle.model.specs.Refusals.{refusal_by}
use Rattle.view.specs.View.{Bus}
use Rattle.judges.specs.declared.Order.{Order}
use Rattle.judges.specs.declared.Order.TheVariants as order
use Rattle.judges.specs.declared.Places.{Places}
use Rattle.judges.specs.Orders.{Sight, sight, resolved, places_in, unless_at, ruling_of}
use Rattle.effects.specs.After.{queues_in}
use Rattle.bus_model.specs.Command.{refused_by, sound_ok, carried, carried_out, command_of}
use Rattle.bus_model.specs.Demands.{zero_number, received-number, shown-number}
use Rattle.journal_model.specs.Journal.{is_question, counted}

-- An order that changes the bus: neither a refusal nor a question.
unfoldable pub changing : Order → Bool
changing (order.Refuse n) = false
changing (order.Open p u) = true
changing (order.Disconnect p) = true
changing (order.Create p i s) = true
changing (order.Destroy p s) = true
changing (order.Release p s) = true
changing (order.Transfer q s) = true
changing (order.Send p z) = true
changing (order.Receive p) = true
changing (order.ShowSeed p) = true
changing (order.Quota p u) = false
changing (order.Holders s) = false

pub refused-number : (n : ℕ) (b : Bus) (out : List ℕ) → ltb (length out) answer_size ≡ false → (refused_by n b out).outcome.number ≡ n
unfolding outcome_of
refused-number n b out e = rw e refl

-- An order that changes the bus is answered 0.
pub changing-zero : (b : Bus) (f out : List ℕ) (o : Order) (w : Places) → ltb (length out) answer_size ≡ false → changing o ≡ true → (carried b f out o w).outcome.number ≡ 0
unfolding changing
changing-zero b f out (order.Refuse n) w e h = clash (sym h)
changing-zero b f out (order.Open p u) w e h = zero_number _ [] [] out e refl
changing-zero b f out (order.Disconnect p) w e h = zero_number _ [] [] out e refl
changing-zero b f out (order.Create p i s) w e h = zero_number _ [] [] out e refl
changing-zero b f out (order.Destroy p s) w e h = zero_number _ [] [] out e refl
changing-zero b f out (order.Release p s) w e h = zero_number _ [] [] out e refl
changing-zero b f out (order.Transfer q s) w e h = zero_number _ [] [] out e refl
changing-zero b f out (order.Send p z) w e h = zero_number _ [] [] out e refl
changing-zero b f out (order.Receive p) w e h = received-number b.peers b.nodes b.handles (queues_in b) p.0 out e
changing-zero b f out (order.ShowSeed p) w e h = shown-number b.peers b.nodes b.handles b.rings b.seeds p.0 out e
changing-zero b f out (order.Quota p u) w e h = clash (sym h)
changing-zero b f out (order.Holders s) w e h = clash (sym h)

-- An order that is no refusal changes the bus or is a question's.
pub resolved-changing : (v : Sight) (k : Command) → changing (resolved v k) ≡ pick (is_question (Ok k)) false true
unfolding changing
resolved-changing v (Open p u) = refl
resolved-changing v (Disconnect p) = refl
resolved-changing v (Create p i) = refl
resolved-changing v (Destroy p i) = refl
resolved-changing v (Release p i) = refl
resolved-changing v (Transfer p i q) = refl
resolved-changing v (Send p z) = refl
resolved-changing v (Receive p room) = refl
resolved-changing v (ShowSeed p room) = refl
resolved-changing v (Quota p u) = refl
resolved-changing v (Holders p i) = refl

-- A question that is not refused is answered 0.
pub question-zero : (b : Bus) (f out : List ℕ) (v : Sight) (k : Command) (w : Places) → ltb (length out) answer_size ≡ false → is_question (Ok k) ≡ true →
    (carried b f out (resolved v k) w).outcome.number ≡ 0
question-zero b f out v (Open p u) w e h = clash (sym h)
question-zero b f out v (Disconnect p) w e h = clash (sym h)
question-zero b f out v (Create p i) w e h = clash (sym h)
question-zero b f out v (Destroy p i) w e h = clash (sym h)
question-zero b f out v (Release p i) w e h = clash (sym h)
question-zero b f out v (Transfer p i q) w e h = clash (sym h)
question-zero b f out v (Send p z) w e h = clash (sym h)
question-zero b f out v (Receive p room) w e h = clash (sym h)
question-zero b f out v (ShowSeed p room) w e h = clash (sym h)
question-zero b f out v (Quota p u) w e h = zero_number _ [] [] out e refl
question-zero b f out v (Holders p i) w e h = zero_number _ [] [] out e refl

pick-false : (t : Bool) → pick t false false ≡ false
pick-false true = refl
pick-false false = refl

-- What is ruled is counted where it changes the bus.
ruled : (b : Bus) (f out : List ℕ) (v : Sight) (k : Command) → ltb (length out) answer_size ≡ false →
    pick (is_question (Ok k)) false (eqb (carried_out b f out (ruling_of v f k)).outcome.number 0) ≡ changing (ruling_of v f k).order
unfolding carried_out ruling_of
ruled b f out v k e = go (look (eqb (refusal_by v.find v.free v.state f k) 0)) (look (is_question (Ok k)))
  where
    n : ℕ
    n = refusal_by v.find v.free v.state f k

    go : Seen (eqb n 0) → Seen (is_question (Ok k)) →
        pick (is_question (Ok k)) false (eqb (carried b f out (unless_at n (resolved v k) (places_in v f k)).order (unless_at n (resolved v k) (places_in v f k)).places).outcome.number 0)
        ≡ changing (unless_at n (resolved v k) (places_in v f k)).order
    go (is_true z) (is_true a) = rw (z, a, resolved-changing v k, a) refl
    go (is_true z) (is_false a) =
        let c : changing (resolved v k) ≡ true = resolved-changing v k ∙ ap (λ (t : Bool). pick t false true) a in
        rw (z, a, c, changing-zero b f out (resolved v k) (places_in v f k) e c) refl
    go (is_false z) (is_true a) = unfold changing in rw (z, a) refl
    go (is_false z) (is_false a) = unfold changing in rw (z, a, refused-number n b out e) z

-- The same of the command.
module _ (b : Bus) (f out : List ℕ) (e : ltb (length out) answer_size ≡ false) where
  pub unsound-uncounted : sound_ok b ≡ false → counted b f out ≡ false
  unfolding counted command_of
  unsound-uncounted s = rw (e, s, refused-number EIO b out e) (pick-false (is_question (parse f)))

  pub refused-uncounted : {r : Refusal} → parse f ≡ Err r → counted b f out ≡ false
  unfolding counted command_of
  refused-uncounted {r = r} p = go (look (sound_ok b)) (rw p at (legal f))
    where
      n : ℕ
      n = refusal_number r

      other : (m : ℕ) → (m ≡ 0 → ⊥) → sound_ok b ≡ true → n ≡ m → pick (is_question (parse f)) false (eqb (command_of b f out).outcome.number 0) ≡ false
      other m h s q = rw (e, s, p, refused-number n b out e) (ne_eqb n 0 (λ z. h (sym q ∙ z)))

      go : Seen (sound_ok b) → Read-as f (Err r) → pick (is_question (parse f)) false (eqb (command_of b f out).outcome.number 0) ≡ false
      go (is_false s) l = rw (e, s, refused-number EIO b out e) (pick-false (is_question (parse f)))
      go (is_true s) (inl q) = other EINVAL (λ z. omega arith) s (ap refusal_number q)
      go (is_true s) (inr (inl q)) = other 25 (λ z. omega arith) s (ap refusal_number q)
      go (is_true s) (inr (inr q)) = other 90 (λ z. omega arith) s (ap refusal_number q)

  pub read-counted : {k : Command} → sound_ok b ≡ true → parse f ≡ Ok k →
      counted b f out ≡ changing (ruling_of (sight b.peers b.nodes b.handles b.charges b.rings b.seeds) f k).order
  unfolding counted command_of
  read-counted {k = k} s p = rw (e, s, p) (ruled b f out (sight b.peers b.nodes b.handles b.charges b.rings b.seeds) k e)

  pub command-read : {k : Command} → sound_ok b ≡ true → parse f ≡ Ok k →
      command_of b f out ≡ carried_out b f out (ruling_of (sight b.peers b.nodes b.handles b.charges b.rings b.seeds) f k)
  unfolding command_of
  command-read s p = rw (e, s, p) refl
