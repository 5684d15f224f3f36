-- The theorems that go with specs/NoticesLife.antt and stand on others: each goes by the definitions and the theorems there.
-- Assumes nothing.
use Rattle.model.specs.Founded.{Founded}
use Rattle.frames.specs.Frame.{payload_of}
use Rattle.model.specs.Requests.{destinations, attached}
use Rattle.std.specs.Prelude.{ℕ, ◌+◌, ◌*◌, ◌<◌, suc, ◌≡◌, true, false, List, map, eqb}
use Rattle.laws.specs.Tests.{Same, Same.same, Same.other, same?, pick_all}
use Rattle.laws.specs.Tables.{upd_other}
use Rattle.frames.specs.declared.Command.{Command}
use Rattle.frames.specs.declared.Command.TheVariants.{Open, Disconnect, Create, Destroy, Release, Transfer, Send, Receive, Quota, Holders, ShowSeed}
use Rattle.model.specs.Numbers.{slots}
use Rattle.model.specs.State.{Life.live, is_live, State, slot, counts, free_place, seed_carries, Seed.kept}
use Rattle.model.specs.Refusals.{refusal}
use Rattle.model.specs.Tables.{accept, with_status, with_user, with_handles, with_queues, with_charges, with_lives, with_seed}
use Rattle.model.specs.Changes.{push_all, deliver}
use Rattle.model.specs.Effects.{opens, creates, destroys, effect}
use Rattle.model.specs.Step.{Call, step, run}
use Rattle.model.proofs.Tested.{tested}
use Rattle.model.specs.Accepted.{Came, Came.left, Came.done}
use Rattle.model.proofs.Accepted.{came}
use Rattle.model.specs.Notices.{Noted, Unnamed}
use Rattle.model.specs.Occurs.{no}
use Rattle.model.proofs.NoticesFree.{free-unnamed, created-unnamed}
use Rattle.model.proofs.NoticesProof.{noted, founded}
use Rattle.model.specs.NoticesLife.{Ages, ages-give, ages-give_all, ages-receive, ages-release, ages-destroy_all, ages-disconnect}

-- Create: what lives anew is the slot that it takes.
create-life : (b : State) (p i s : ℕ) → Noted b → Founded b → free_place b p < slots → is_live (b.life s) ≡ false → is_live ((creates b p i).life s) ≡ true → Unnamed b s
unfolding creates with_handles with_lives
create-life b p i s n fd f d e = go (same? (p * slots + free_place b p) s)
  where
    go : Same (p * slots + free_place b p) s → Unnamed b s
    go (same z) = rw z at (created-unnamed b p n fd f)
    go (other z) = no d (rw (upd_other b.life (p * slots + free_place b p) s live z) at e)

-- Every accepted command.
pub reborn : (b : State) (f : List ℕ) (k : Command) → Noted b → Founded b → refusal b f k ≡ 0 → (s : ℕ) → is_live (b.life s) ≡ false → is_live ((effect b f k).life s) ≡ true → Unnamed b s
unfolding effect accept
reborn b f (Open p u) n fd r s d e = unfold opens with_user with_status in no d e
reborn b f (Disconnect p) n fd r s d e = unfold with_seed in no d (ages-disconnect (accept b) p.0 s e)
reborn b f (Create p i) n fd r s d e =
    let u = create-life (accept b) p.0 i.0 s n fd (unfold free_place counts in (tested b f (Create p i) r).free) d e in
    record { dead = u.dead; unheld = u.unheld; unqueued = u.unqueued; unseeded = u.unseeded }
reborn b f (Destroy p i) n fd r s d e = unfold destroys in no d (ages-destroy_all (accept b) p.0 (eqb (slot b p.0 i.0)) s e)
reborn b f (Release p i) n fd r s d e = no d (ages-release (accept b) p.0 (slot b p.0 i.0) (b.handle p.0 (slot b p.0 i.0)) s e)
reborn b f (Transfer p i q) n fd r s d e = no d (ages-give (accept b) q.0 (suc b.accepted) (slot b p.0 i.0) s e)
reborn b f (Send p z) n fd r s d e =
    no d (pick_all (Ages b) (eqb z.nd 0)
    (with_seed (deliver (accept b) (b.user p.0) (map (slot b p.0) (destinations f z)) (map (slot b p.0) (attached f z)) (payload_of f)) p.0 (kept (payload_of f) (map (slot b p.0) (attached f z)))) (deliver (accept b) (b.user p.0) (map (slot b p.0) (destinations f z)) (map (slot b p.0) (attached f z)) (payload_of f))
    (unfold with_seed deliver with_charges push_all with_queues in (λ t z. z)) (unfold deliver with_charges push_all with_queues in (λ t z. z)) s e)
reborn b f (Receive p room) n fd r s d e = no d (ages-receive (accept b) p.0 (b.queue p.0) s e)
reborn b f (Quota p u) n fd r s d e = no d e
reborn b f (Holders p i) n fd r s d e = no d e
reborn b f (ShowSeed p room) n fd r s d e = no d (ages-give_all (accept b) p.0 (suc b.accepted) (seed_carries (b.seed p.0)) s e)

-- Every call of every run; and a free slot of a run's bus.
pub slot-stays : (cs : List Call) (c : Call) (s : ℕ) → is_live ((run cs).life s) ≡ false → is_live ((step (run cs) c).state.life s) ≡ true → Unnamed (run cs) s
slot-stays cs c s d e = go (came (run cs) c)
  where
    go : Came (run cs) c → Unnamed (run cs) s
    go (left z y) = no d (rw z at e)
    go (done k a) = reborn (run cs) c.frame k (noted cs) (founded cs) a.unrefused s d (rw a.after at e)

pub free-run : (cs : List Call) (s : ℕ) → counts (run cs) s ≡ false → Unnamed (run cs) s
free-run cs s = free-unnamed (run cs) s (noted cs) (founded cs)
