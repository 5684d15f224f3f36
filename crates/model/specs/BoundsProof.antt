-- Bounds of the counts and of the given IDs in every run.
-- Assumes nothing.
use Rattle.std.specs.Prelude.{ℕ, suc, ◌+◌, ◌-◌, ◌*◌, ◌≤◌, ◌<◌, ◌≡◌, List, [], ◌∷◌, length, eqb}
use Rattle.std.proofs.Math.Path.{refl}
use Rattle.std.proofs.Common.{◌∙◌, arith}
use Rattle.laws.specs.Tests.{pick, Seen, Seen.is_true, Seen.is_false, look, pick_all}
use Rattle.laws.specs.Tables.{upd, upd_same, upd_other, upd-all}
use Rattle.laws.specs.Weights.{All}
use Rattle.frames.specs.Frame.{most_ids}
use Rattle.model.specs.Numbers.{peers, slots, most_commands}
use Rattle.model.specs.State.{Handle, Handle.none, Handle.some, handle_of, count, Entry, Entry.message, Entry.destroyed, Entry.released, State, start, total, free_place, Seed}
use Rattle.model.specs.Tables.{accept, with_status, with_handles, with_handle, with_given, with_queues, with_charges, with_lives, with_seed}
use Rattle.model.specs.Changes.{push, push_all, take_out, withdraw, shown, given_after, give, give_all, forget, fell, notify, notify_all, destroy_all, valid, settled}
use Rattle.model.specs.Effects.{creates, releases, releases_handle, disconnects, receives}
use Rattle.model.specs.Notices.{Stands, Noted}
use Rattle.model.specs.Occurs.{sum-zero, sum_more}
use Rattle.model.specs.Counts.{put, total-more, count-handle}
use Rattle.model.specs.Bounds.{Bounded}

-- Numbers that a change raises by at most d.
pub record Raised (b c : State) (d : ℕ) : Type 0 where
  pub accepted : c.accepted ≡ b.accepted
  pub sums : (s : ℕ) → total c.handle s ≤ total b.handle s + d
  pub given : (p : ℕ) → c.given p ≤ b.given p + d

raised-trans : (a b c : State) (d e : ℕ) → Raised a b d → Raised b c e → Raised a c (d + e)
raised-trans a b c d e x y =
    record { accepted = y.accepted ∙ x.accepted; sums = λ s. omega (arith, x.sums s, y.sums s); given = λ p. omega (arith, x.given p, y.given p) }

raised-more : (b c : State) (d e : ℕ) → Raised b c d → d ≤ e → Raised b c e
raised-more b c d e x l = record { accepted = x.accepted; sums = λ s. omega (arith, x.sums s); given = λ p. omega (arith, x.given p) }

pub raised-none : (b c : State) → c.accepted ≡ b.accepted → c.handle ≡ b.handle → c.given ≡ b.given → Raised b c 0
raised-none b c e h g = record { accepted = e; sums = λ s. rw h (omega arith); given = λ p. rw g (omega arith) }

given-more : (x : Handle) (n : ℕ) → given_after x n ≤ n + 1
given-more none n = omega arith
given-more (some i c) n = omega arith

pub raised-give : (b : State) (p as_of s : ℕ) → Raised b (give b p as_of s) 1
unfolding give withdraw with_queues with_handles with_given
raised-give b p as_of s = go (look (valid b p as_of s))
  where
    go : Seen (valid b p as_of s) → Raised b (give b p as_of s) 1
    go (is_false e) = rw e (record { accepted = refl; sums = λ s. omega arith; given = λ p. omega arith })
    go (is_true e) =
        rw e
        (record {
          accepted = refl;
          sums = total-more b.handle p s (handle_of (shown b p as_of s) (suc (count (b.handle p s)))) 1 (omega arith);
          given = upd-all (λ q n. n ≤ b.given q + 1) b.given p (given_after (b.handle p s) (b.given p)) (λ q. omega arith) (given-more (b.handle p s) (b.given p));
        })

pub raised-give_all : (b : State) (p as_of : ℕ) (ss : List ℕ) → Raised b (give_all b p as_of ss) (length ss)
raised-give_all b p as_of [] = raised-none b b refl refl refl
raised-give_all b p as_of (s ∷ ss) =
    raised-more b (give_all (give b p as_of s) p as_of ss) (1 + length ss) (suc (length ss))
    (raised-trans b (give b p as_of s) (give_all (give b p as_of s) p as_of ss) 1 (length ss) (raised-give b p as_of s) (raised-give_all (give b p as_of s) p as_of ss)) (omega arith)

pub raised-receive : (b : State) (p : ℕ) (q : List Entry) → Noted b → b.queue p ≡ q → Raised b (receives b p q) most_ids
unfolding take_out with_charges with_queues
raised-receive b p [] n e = raised-more b b 0 most_ids (raised-none b b refl refl refl) (omega arith)
raised-receive b p (destroyed k s ∷ q) n e = raised-more b (take_out b p [] q) 0 most_ids (raised-none b (take_out b p [] q) refl refl refl) (omega arith)
raised-receive b p (released k s ∷ q) n e = raised-more b (take_out b p [] q) 0 most_ids (raised-none b (take_out b p [] q) refl refl refl) (omega arith)
raised-receive b p (message k m ∷ q) n e =
    let a : All (Stands b.handle b.life p) (message k m ∷ q) = rw e at (n.stands p) in
    let c : State = take_out b p (m ∷ []) q in
    let d : State = give_all c p k m.carried in
    raised-more b (settled d p) (0 + length m.carried + 0) most_ids
    (raised-trans b d (settled d p) (0 + length m.carried) 0
    (raised-trans b c d 0 (length m.carried) (raised-none b c refl refl refl) (raised-give_all c p k m.carried))
    (unfold settled in raised-none d _ refl refl refl)) (omega (arith, a.0.2.0))

pub raised-create : (b : State) (p i : ℕ) → Raised b (creates b p i) 1
unfolding creates with_handles with_lives
raised-create b p i =
    record { accepted = refl; given = λ q. omega arith; sums = total-more b.handle p (p * slots + free_place b p) (handle_of i 1) 1 (omega arith) }

raised-notify : (a b : State) (s : ℕ) → Raised b (notify a b s) 0
unfolding notify with_queues
raised-notify a b s =
    pick_all (λ c. Raised b c 0) (fell a b s) (push b _ _) b (record { accepted = refl; sums = λ s. omega arith; given = λ p. omega arith }) (raised-none b b refl refl refl)

raised-release : (b : State) (p s i c : ℕ) → b.handle p s ≡ some i c → Raised b (releases b p s i c) 0
unfolding releases forget take_out with_charges with_queues with_handles
raised-release b p s i c e = raised-trans b now (notify b now s) 0 0 less (raised-notify b now s)
  where
    down : State
    down = with_handle b p s (handle_of i (c - 1))

    now : State
    now = pick (eqb c 1) (forget down p s) down

    under : (t : ℕ) → total (put b.handle p s (handle_of i (c - 1))) t ≤ total b.handle t + 0
    under = total-more b.handle p s (handle_of i (c - 1)) 0 (rw (count-handle, e) (omega arith))

    less : Raised b now 0
    less =
        pick_all (λ x. Raised b x 0) (eqb c 1) (forget down p s) down (record { accepted = refl; sums = under; given = λ p. omega arith })
        (record { accepted = refl; sums = under; given = λ p. omega arith })

pub raised-releases : (b : State) (p s : ℕ) (x : Handle) → b.handle p s ≡ x → Raised b (releases_handle b p s x) 0
raised-releases b p s none e = raised-none b b refl refl refl
raised-releases b p s (some i c) e = raised-release b p s i c e

pub raised-disconnect : (b : State) (p : ℕ) → Raised b (disconnects b p) 0
unfolding disconnects notify_all push_all with_status with_handles take_out with_charges with_queues destroy_all with_lives withdraw
raised-disconnect b p = record { accepted = refl; given = λ q. omega arith; sums = less }
  where
    less : (s : ℕ) → total (upd b.handle p (λ s. none)) s ≤ total b.handle s + 0
    less s =
        unfold total in
        sum_more (λ q. count (upd b.handle p (λ s. none) q s)) (λ q. count (b.handle q s)) p 0 peers
        (λ q z. rw (upd_other b.handle p q (λ s. none) z) (omega arith)) (rw upd_same (omega arith))

pub raised-seed : (b c : State) (p : ℕ) (x : Seed) (d : ℕ) → Raised b c d → Raised b (with_seed c p x) d
unfolding with_seed
raised-seed b c p x d r = record { accepted = r.accepted; sums = r.sums; given = r.given }

-- One more command, that raises the numbers by at most 8.
pub bounded-next : (b c : State) (d : ℕ) → Bounded b → b.accepted < most_commands → Raised (accept b) c d → d ≤ most_ids → Bounded c
unfolding accept
bounded-next b c d n l r m =
    let e : c.accepted ≡ suc b.accepted = r.accepted in
    record { few = omega arith; sums = λ s. rw e (omega (arith, n.sums s, r.sums s)); given = λ p. rw e (omega (arith, n.given p, r.given p)) }

pub bounded-start : Bounded start
unfolding start total
bounded-start = record { few = omega arith; given = λ p. omega arith; sums = λ s. omega (arith, sum-zero peers) }
