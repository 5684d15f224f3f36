-- The theorems that go with specs/WithinProof.antt and stand on others: each goes by the definitions and the theorems there.
-- Assumes nothing.
use Rattle.std.specs.Prelude.{ℕ, suc, ◌<◌, ◌≡◌, Bool, true, List, ◌++◌, map, eqb, ltb}
use Rattle.std.proofs.Math.Path.{refl}
use Rattle.std.proofs.Common.{ap, ◌∙◌, eqb-true, eq-eqb, ltb-true, lt-ltb}
use Rattle.frames.specs.declared.Command.TheVariants.{Disconnect}
use Rattle.frames.specs.Frame.{payload_of}
use Rattle.model.specs.Numbers.{peers, owner}
use Rattle.model.specs.Lists.{both}
use Rattle.model.specs.State.{is_live, Entry, Entry.destroyed, Entry.released, State, total, slot, by_owner_id, concerned}
use Rattle.model.specs.Requests.{destinations, attached}
use Rattle.model.specs.Tables.{accept, with_status, with_handles, with_queues, with_charges, with_lives, with_seed}
use Rattle.model.specs.Changes.{push_all, take_out, withdraw, fell, release_notices, notify_all, destroy_notices, destroy_all}
use Rattle.model.specs.Effects.{disconnects, effect}
use Rattle.model.specs.Step.{run}
use Rattle.model.specs.Occurs.{both_true}
use Rattle.model.proofs.NoticesProof.{noted, noted-kept, founded}
use Rattle.model.specs.IdsLaws.{Holding}
use Rattle.model.proofs.IdsProof.{ids-kept, holding}
use Rattle.model.specs.Within.{SendOrder, DestroyNoticed, ReleaseNoticed, AtDisconnect, DisconnectOrder, DisconnectEmpties}
use Rattle.model.specs.WithinProof.{send-order-at, seed-queue, by-id, before-release, disconnect-queue, dropped-seed, empties}

pub send-order : SendOrder
unfolding effect
send-order cs c p z a q =
    rw a.after
    (seed-queue _ (eqb z.nd 0) p.0 _ q ∙ send-order-at (run cs) ((run cs).user p.0) (map (slot (run cs) p.0) (destinations c.frame z)) (map (slot (run cs) p.0) (attached c.frame z))
    (payload_of c.frame) q)

at-disconnect : (b : State) (p q : ℕ) → Holding b → Holding (disconnects (accept b) p) → q < peers → (p ≡ q → ⊥) → AtDisconnect b (disconnects (accept b) p) p q
unfolding disconnects notify_all with_status with_handles push_all with_queues
at-disconnect b p q v w l n =
    record {
      destroyed-slots = by_owner_id b.handle p dies;
      released-slots = by_owner_id a.handle q falls;
      queue = disconnect-queue b p q l n ∙ ap (λ (x : List Entry). b.queue q ++ x) notices;
      destroyed-by-id =
          by-id b p dies (DestroyNoticed b p q) v (λ s e o. let x = both_true (is_live (b.life s)) (concerned (b.handle q) (b.queue q) (suc b.accepted) s) e in (o, x.0, x.1))
          (λ s z. (rw (z.1, z.2) refl, z.0)) (λ s e. (both_true (is_live (b.life s)) (concerned (b.handle q) (b.queue q) (suc b.accepted) s) e).0);
      released-by-id = by-id a q falls (ReleaseNoticed b a q) w into out (λ s e. (both_true (is_live (a.life s)) _ e).0);
    }
  where
    a : State
    a = disconnects (accept b) p

    dies : ℕ → Bool
    dies s = both (is_live (b.life s)) (concerned (b.handle q) (b.queue q) (suc b.accepted) s)

    falls : ℕ → Bool
    falls s = both (is_live (a.life s)) (both (ltb 1 (total b.handle s)) (eqb (total a.handle s) 1))

    notices : destroy_notices (accept b) p (λ s. is_live (b.life s)) q ++ release_notices (accept b) (before-release b p) q
        ≡ map (destroyed (suc b.accepted)) (by_owner_id b.handle p dies) ++ map (released (suc b.accepted)) (by_owner_id a.handle q falls)
    notices = unfold destroy_notices release_notices fell take_out with_charges destroy_all with_lives withdraw accept in refl

    into : (s : ℕ) → falls s ≡ true → owner s ≡ q → ReleaseNoticed b a q s
    into s e o =
        let x = both_true (is_live (a.life s)) (both (ltb 1 (total b.handle s)) (eqb (total a.handle s) 1)) e in
        let y = both_true (ltb 1 (total b.handle s)) (eqb (total a.handle s) 1) x.1 in
        (o, x.0, ltb-true 1 (total b.handle s) y.0, eqb-true (total a.handle s) 1 y.1)

    out : (s : ℕ) → ReleaseNoticed b a q s → (falls s ≡ true) × (owner s ≡ q)
    out s z = (rw (z.1, lt-ltb 1 (total b.handle s) z.2, eq-eqb (total a.handle s) 1 z.3) refl, z.0)

pub disconnect-order : DisconnectOrder
unfolding effect
disconnect-order cs c p a q l n =
    let v = holding cs in
    let w : Holding (disconnects (accept (run cs)) p.0) =
    unfold with_seed in record {
      handles = ids-kept (run cs) c.frame (Disconnect p) v (noted cs) a.legal a.unrefused;
      owned = (noted-kept (run cs) c.frame (Disconnect p) (noted cs) (founded cs) a.legal a.unrefused).owned;
    } in
    rw a.after (dropped-seed (run cs) p.0 q (at-disconnect (run cs) p.0 q v w l n))

pub disconnect-empties : DisconnectEmpties
unfolding effect
disconnect-empties cs c p a = rw a.after (unfold with_seed in empties (run cs) p.0)
