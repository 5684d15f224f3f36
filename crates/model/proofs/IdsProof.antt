-- The theorems that go with specs/IdsProof.antt and stand on others: each goes by the definitions and the theorems there.
-- Assumes nothing.
use Rattle.model.specs.Founded.{Founded}
use Rattle.std.specs.Prelude.{ℕ, suc, ◌≡◌, refl, List, [], ◌∷◌, eqb}
use Rattle.std.proofs.Common.{arith}
use Rattle.laws.specs.Tests.{pick_all}
use Rattle.laws.specs.Weights.{All}
use Rattle.frames.specs.declared.Command.{Command}
use Rattle.frames.specs.declared.Command.TheVariants.{Open, Disconnect, Create, Destroy, Release, Transfer, Send, Receive, Quota, Holders, ShowSeed}
use Rattle.frames.specs.Legal.{Legal}
use Rattle.model.specs.State.{Entry, Entry.message, Entry.destroyed, Entry.released, State, start, slot, seed_carries}
use Rattle.model.specs.Tables.{accept, with_status, with_user, with_queues, with_charges, with_lives, with_seed}
use Rattle.model.specs.Refusals.{refusal}
use Rattle.model.specs.Changes.{push_all, take_out, withdraw, destroy_all, deliver, settled}
use Rattle.model.specs.Effects.{opens, destroys, receives, effect}
use Rattle.model.specs.Step.{Call, run}
use Rattle.model.proofs.Tested.{tested}
use Rattle.model.specs.Accepted.{Kept}
use Rattle.model.proofs.Accepted.{induction}
use Rattle.model.specs.Notices.{Stands, Noted}
use Rattle.model.specs.NoticesProof.{sound-start}
use Rattle.model.proofs.NoticesProof.{noted, sound-kept}
use Rattle.model.specs.Ids.{Ids, SoundIds}
use Rattle.model.specs.IdsLaws.{Holding}
use Rattle.model.proofs.IdsLaws.{holding-give, holding-gives}
use Rattle.model.specs.IdsProof.{ids-create, no-handles, ids-disconnect, ids-release, holding-out}

ids-receive : (b : State) (p : ℕ) (q : List Entry) → All (Stands b.handle b.life p) q → Holding b → Ids (receives (accept b) p q)
unfolding settled with_queues
ids-receive b p [] a v = unfold accept in v.handles
ids-receive b p (message n m ∷ q) a v =
    (holding-gives (take_out (accept b) p (m ∷ []) q) p n m.carried (holding-out b p (m ∷ []) q v) a.0.2.1).handles
ids-receive b p (destroyed n s ∷ q) a v = (holding-out b p [] q v).handles
ids-receive b p (released n s ∷ q) a v = (holding-out b p [] q v).handles

-- Every accepted command.
pub ids-kept : (b : State) (f : List ℕ) (k : Command) → Holding b → Noted b → Legal f k → refusal b f k ≡ 0 → Ids (effect b f k)
unfolding effect
ids-kept b f (Open p u) v w l e = unfold opens with_user with_status accept in v.handles
ids-kept b f (Disconnect p) v w l e = unfold with_seed in ids-disconnect b p.0 v.handles
ids-kept b f (Create p i) v w l e = ids-create b p.0 i.0 (omega (arith, l.0)) l.1 (tested b f (Create p i) e) v.handles
ids-kept b f (Destroy p i) v w l e = unfold destroys destroy_all push_all with_queues with_lives withdraw accept in v.handles
ids-kept b f (Release p i) v w l e =
    let s = slot b p.0 i.0 in
    ids-release b p.0 s (b.handle p.0 s) refl v.handles
ids-kept b f (Transfer p i q) v w l e =
    (holding-give (accept b) q.0 (suc b.accepted) (slot b p.0 i.0) (unfold accept in record { handles = v.handles; owned = v.owned }) (tested b f (Transfer p i q) e).holds).handles
ids-kept b f (Send p z) v w l e =
    pick_all Ids (eqb z.nd 0) _ _ (unfold with_seed deliver with_charges push_all with_queues accept in v.handles) (unfold deliver with_charges push_all with_queues accept in v.handles)
ids-kept b f (Receive p room) v w l e = ids-receive b p.0 (b.queue p.0) (w.stands p.0) v
ids-kept b f (Quota p u) v w l e = v.handles
ids-kept b f (Holders p i) v w l e = v.handles
ids-kept b f (ShowSeed p room) v w l e =
    (holding-gives (accept b) p.0 (suc b.accepted) (seed_carries (b.seed p.0)) (unfold accept in record { handles = v.handles; owned = v.owned }) (w.seeds p.0).1).handles

both-kept : Kept (λ b. (Noted b × Founded b) × Ids b)
both-kept b f k v l e = (sound-kept b f k v.0 l e, ids-kept b f k (record { handles = v.1; owned = v.0.0.owned }) v.0.0 l e)

pub sound-ids : SoundIds
sound-ids cs = (induction (λ b. (Noted b × Founded b) × Ids b) (sound-start, (λ p. unfold start in no-handles p 0)) both-kept cs).1

-- With what else of a run's bus the laws of handles need.
pub holding : (cs : List Call) → Holding (run cs)
holding cs = record { handles = sound-ids cs; owned = (noted cs).owned }
