-- The theorems that go with specs/Ranges.antt and stand on others: each goes by the definitions and the theorems there.
-- Assumes nothing.
use Rattle.std.specs.Prelude.{ℕ, ◌≤◌, ◌<◌, ◌≡◌, true, false, length, get_or, ltb}
use Rattle.std.proofs.Common.{sym, ◌∙◌, arith, lt-ltb, le-ltb, ltb-true}
use Rattle.laws.specs.Tests.{clash, Seen, Seen.is_true, Seen.is_false, look}
use Rattle.ids.specs.Refusals.{EIO}
use Rattle.ids.specs.Sizes.{peers, accepted_end}
use Rattle.frames.specs.Frame.{parse}
use Rattle.frames.proofs.Legal.{legal}
use Rattle.answers.specs.Answer.{answer_size}
use Rattle.model.specs.Lists.{both}
use Rattle.model.specs.Occurs.{both_true}
use Rattle.view.specs.View.{Bus}
use Rattle.effects.specs.Ranges.{InRange as PeerInRange}
use Rattle.bus_model.specs.Command.{sized_ok, peers_ok, ranges_ok, sound_ok, command_of}
use Rattle.bus_model.specs.Sound.{each-peer}
use Rattle.bus_model.proofs.Tied.{peers-true}
use Rattle.bus_model.specs.Ranges.{InRange, FiveUnless, CodeFive, sized-lengths, lengths-sized, peer-in, refused-number, obeyed-not-five}

pub in-range : (b : Bus) → sound_ok b ≡ true → InRange b
unfolding sound_ok ranges_ok
in-range b h =
    let s = both_true (sized_ok b) (both (peers_ok b.peers b.rings.ends peers) (ltb (get_or b.peers 0 0) accepted_end)) h in
    let r = both_true (peers_ok b.peers b.rings.ends peers) (ltb (get_or b.peers 0 0) accepted_end) s.1 in
    let one : (p : ℕ) → p ≤ 7 → PeerInRange b p = λ p l. peer-in b p (each-peer b.peers b.rings.ends peers r.0 p (omega arith)) in
    record {
      lengths = sized-lengths b s.0;
      accepted = ltb-true (get_or b.peers 0 0) accepted_end r.1;
      state = λ p l. (one p l).state;
      user = λ p l. (one p l).user;
      given = λ p l. (one p l).given;
      head = λ p l. omega (arith, (one p l).head);
      len = λ p l. (one p l).short;
    }

pub in-range-back : (b : Bus) → InRange b → sound_ok b ≡ true
unfolding sound_ok ranges_ok
in-range-back b r =
    let one : (p : ℕ) → p < peers → PeerInRange b p =
    λ p l.
    let m : p ≤ 7 = omega arith in
    record { state = r.state p m; user = r.user p m; given = r.given p m; head = omega (arith, r.head p m); short = r.len p m } in
    rw (
      lengths-sized b r.lengths,
      peers-true b one peers (omega arith),
      lt-ltb (get_or b.peers 0 0) accepted_end r.accepted,
    )

pub code-five : CodeFive
unfolding command_of
code-five b f out l = go (look (sound_ok b))
  where
    e : ltb (length out) answer_size ≡ false
    e = le-ltb (length out) answer_size l

    go : Seen (sound_ok b) → FiveUnless (InRange b) (command_of b f out).outcome.number
    go (is_true s) = rw (e, s) record {
      given = λ h. absurd (h (in-range b s));
      only = λ z r. obeyed-not-five b f out e (parse f) (legal f) z;
      another = λ h. in-range b s;
    }
    go (is_false s) = rw (e, s) record {
      given = λ h. refused-number b f out e EIO;
      only = λ z r. clash (sym (in-range-back b r) ∙ s);
      another = λ h. absurd (h (refused-number b f out e EIO));
    }
