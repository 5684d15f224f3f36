-- The theorems that go with specs/BoundsProof.antt and stand on others: each goes by the definitions and the theorems there.
-- Assumes nothing.
use Rattle.model.specs.Founded.{Founded}
use Rattle.std.specs.Prelude.{ℕ, suc, ◌≤◌, ◌<◌, ◌≡◌, false, List, length, eqb}
use Rattle.std.proofs.Math.Path.{refl}
use Rattle.std.proofs.Common.{arith}
use Rattle.laws.specs.Tests.{Seen, Seen.is_true, Seen.is_false, look, clash, pick_all}
use Rattle.frames.specs.declared.Command.{Command}
use Rattle.frames.specs.declared.Command.TheVariants.{Open, Disconnect, Create, Destroy, Release, Transfer, Send, Receive, Quota, Holders, ShowSeed}
use Rattle.frames.specs.Frame.{most_ids}
use Rattle.frames.specs.Legal.{Legal}
use Rattle.model.specs.Numbers.{invalid, next_id}
use Rattle.model.specs.State.{Handle, Handle.none, Handle.some, held, count, slot, total, seed_carries, Seed.unset}
use Rattle.model.specs.Refusals.{refusal}
use Rattle.model.specs.Tables.{accept, with_status, with_user, with_queues, with_charges, with_lives, with_seed}
use Rattle.model.specs.Changes.{push_all, withdraw, destroy_all, deliver}
use Rattle.model.specs.Effects.{opens, destroys, effect}
use Rattle.model.specs.Step.{Call, run}
use Rattle.model.proofs.Tested.{tested}
use Rattle.model.specs.Accepted.{Kept}
use Rattle.model.proofs.Accepted.{induction}
use Rattle.model.specs.Notices.{Noted}
use Rattle.model.specs.Counts.{total-one}
use Rattle.model.specs.NoticesFree.{holder-peer}
use Rattle.model.specs.NoticesProof.{sound-start}
use Rattle.model.proofs.NoticesProof.{noted, sound-kept}
use Rattle.model.specs.Bounds.{Bounded}
use Rattle.model.specs.BoundsProof.{Raised, raised-none, raised-give, raised-give_all, raised-receive, raised-create, raised-releases, raised-disconnect, raised-seed, bounded-next, bounded-start}

bounded-kept : Kept (λ b. (Noted b × Founded b) × Bounded b)
unfolding effect
bounded-kept b f k x g e = (sound-kept b f k x.0 g e, go k g e)
  where
    go : (k : Command) → Legal f k → refusal b f k ≡ 0 → Bounded (effect b f k)
    go (Open p u) g e =
        bounded-next b (opens (accept b) p.0 u.0) 0 x.1 (tested b f (Open p u) e).room
        (unfold opens with_user with_status in raised-none (accept b) _ refl refl refl) (omega arith)
    go (Disconnect p) g e = bounded-next b _ 0 x.1 (tested b f (Disconnect p) e).room (raised-seed (accept b) _ p.0 unset 0 (raised-disconnect (accept b) p.0)) (omega arith)
    go (Create p i) g e = bounded-next b _ 1 x.1 (tested b f (Create p i) e).acting.room (raised-create (accept b) p.0 i.0) (omega arith)
    go (Destroy p i) g e =
        bounded-next b (destroys (accept b) p.0 (slot b p.0 i.0)) 0 x.1 (tested b f (Destroy p i) e).acting.room
        (unfold destroys destroy_all push_all with_queues with_lives withdraw in raised-none (accept b) _ refl refl refl) (omega arith)
    go (Release p i) g e =
        bounded-next b _ 0 x.1 (tested b f (Release p i) e).acting.room
        (raised-releases (accept b) p.0 (slot b p.0 i.0) (b.handle p.0 (slot b p.0 i.0)) (unfold accept in refl)) (omega arith)
    go (Transfer p i q) g e = bounded-next b _ 1 x.1 (tested b f (Transfer p i q) e).acting.room (raised-give (accept b) q.0 (suc b.accepted) (slot b p.0 i.0)) (omega arith)
    go (Send p z) g e =
        bounded-next b (effect b f (Send p z)) 0 x.1 (tested b f (Send p z) e).acting.room
        (pick_all (λ y. Raised (accept b) y 0) (eqb z.nd 0) _ _ (unfold with_seed deliver with_charges push_all with_queues in raised-none (accept b) _ refl refl refl)
        (unfold deliver with_charges push_all with_queues in raised-none (accept b) _ refl refl refl))
        (omega arith)
    go (Receive p room) g e =
        bounded-next b _ most_ids x.1 (tested b f (Receive p room) e).acting.room
        (raised-receive (accept b) p.0 (b.queue p.0) (unfold accept in x.0.0) (unfold accept in refl)) (omega arith)
    go (Quota p u) g e = x.1
    go (Holders p i) g e = x.1
    go (ShowSeed p room) g e =
        bounded-next b _ (length (seed_carries (b.seed p.0))) x.1 (tested b f (ShowSeed p room) e).acting.room
        (raised-give_all (accept b) p.0 (suc b.accepted) (seed_carries (b.seed p.0))) (x.0.0.seeds p.0).0

pub bounded : (cs : List Call) → Bounded (run cs)
bounded cs = (induction (λ b. (Noted b × Founded b) × Bounded b) (sound-start, bounded-start) bounded-kept cs).1

-- In plain numbers: 8 * (2^40 - 1) for a node's sum of counts and for a peer's given IDs, and so for one count; the next ID is below the invalid one.
pub sum_bound : (cs : List Call) (s : ℕ) → total (run cs).handle s ≤ 8796093022200
sum_bound cs s = omega (arith, (bounded cs).few, (bounded cs).sums s)

pub given-bound : (cs : List Call) (p : ℕ) → (run cs).given p ≤ 8796093022200
given-bound cs p = omega (arith, (bounded cs).few, (bounded cs).given p)

pub next-bound : (cs : List Call) (p : ℕ) → next_id ((run cs).given p) < invalid
next-bound cs p = omega (arith, given-bound cs p)

pub count-bound : (cs : List Call) (p s : ℕ) → count ((run cs).handle p s) ≤ 8796093022200
count-bound cs p s = go (look (held ((run cs).handle p s)))
  where
    unheld : (x : Handle) → held x ≡ false → count x ≡ 0
    unheld none e = refl
    unheld (some i c) e = clash e

    go : Seen (held ((run cs).handle p s)) → count ((run cs).handle p s) ≤ 8796093022200
    go (is_false e) = omega (arith, unheld ((run cs).handle p s) e)
    go (is_true e) = omega (arith, total-one (run cs).handle s p (holder-peer (run cs) p s (noted cs) e), sum_bound cs s)
