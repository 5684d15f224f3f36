-- The theorems that go with specs/SimIds.antt and stand on others: each goes by the definitions and the theorems there.
-- Assumes nothing.
use Rattle.std.specs.Prelude.{ℕ, ◌+◌, ◌*◌, ◌<◌, suc, List, [], ◌∷◌, eqb}
use Rattle.std.proofs.Common.{arith}
use Rattle.laws.specs.Tests.{pick_all}
use Rattle.laws.specs.Weights.{All}
use Rattle.frames.specs.declared.Command.{Command}
use Rattle.frames.specs.declared.Command.TheVariants.{Open, Disconnect, Create, Destroy, Release, Transfer, Send, Receive, Quota, Holders, ShowSeed}
use Rattle.frames.specs.Legal.{Legal}
use Rattle.model.specs.Numbers.{slots}
use Rattle.model.specs.State.{Entry, Entry.message, Entry.destroyed, Entry.released, messages_in, State, slot, free_place, seed_carries}
use Rattle.model.specs.Tables.{accept, with_status, with_user, with_queues, with_charges, with_lives, with_seed}
use Rattle.model.specs.Changes.{push_all, take_out, withdraw, destroy_all, deliver, settled}
use Rattle.model.specs.Effects.{opens, creates, destroys, receives, effect}
use Rattle.model.specs.Tested.{Tested}
use Rattle.model.specs.Notices.{Carried}
use Rattle.model.specs.SimGive.{Ids, enough}
use Rattle.model.proofs.SimGive.{ids-give, ids-gives}
use Rattle.model.specs.SimSend.{held-at-slot}
use Rattle.model.specs.SimStep.{Ready}
use Rattle.model.specs.SimIds.{ids-put, ids-release, ids-disconnect, Small}

ids-receives : (b : State) (p : ℕ) (q : List Entry) → Ids b → b.given p + 8 < enough → All (λ m. Carried m.carried) (messages_in q) → Ids (receives b p q)
unfolding settled take_out with_charges with_queues
ids-receives b p [] ok few a = ok
ids-receives b p (message n m ∷ q) ok few a = ids-gives (take_out b p (m ∷ []) q) p n m.carried ok (omega (arith, a.0.0))
ids-receives b p (destroyed n s ∷ q) ok few a = ok
ids-receives b p (released n s ∷ q) ok few a = ok

pub ids-command : (b : State) (f : List ℕ) (c : Command) → Ready b → Legal f c → Tested b f c → Small c → Ids (effect b f c)
unfolding effect accept
ids-command b f (Open p u) r l t s = unfold opens with_status with_user in r.ids
ids-command b f (Disconnect p) r l t s = unfold with_seed in ids-disconnect (accept b) p.0 r.ids
ids-command b f (Create p i) r l t s =
    unfold creates with_lives in
    ids-put (with_lives (accept b) _) p.0 (p.0 * slots + free_place (accept b) p.0) i.0 1 r.ids (λ j e. absurd (omega (arith, l.1))) (omega (arith, l.1))
ids-command b f (Destroy p i) r l t s = unfold destroys destroy_all push_all withdraw with_lives with_queues in r.ids
ids-command b f (Release p i) r l t s =
    let x = held-at-slot b p.0 i.0 t.holds in
    rw x.1 (ids-release (accept b) p.0 (slot b p.0 i.0) i.0 x.0 r.ids x.1)
ids-command b f (Transfer p i q) r l t s = ids-give (accept b) q.0 (suc b.accepted) (slot b p.0 i.0) r.ids (omega (arith, r.few q.0))
ids-command b f (Send p z) r l t s =
    pick_all Ids (eqb z.nd 0) _ _ (unfold with_seed deliver push_all with_charges with_queues in r.ids) (unfold deliver push_all with_charges with_queues in r.ids)
ids-command b f (Receive p room) r l t s = ids-receives (accept b) p.0 (b.queue p.0) r.ids (r.few p.0) (r.carried p.0)
ids-command b f (Quota p u) r l t s = r.ids
ids-command b f (Holders p i) r l t s = r.ids
ids-command b f (ShowSeed p room) r l t s =
    ids-gives (accept b) p.0 (suc b.accepted) (seed_carries (b.seed p.0)) r.ids (omega (arith, r.few p.0, (r.seeds p.0).0))
