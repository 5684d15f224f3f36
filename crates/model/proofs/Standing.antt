-- The theorems that go with specs/Standing.antt and stand on others: each goes by the definitions and the theorems there.
-- Assumes nothing.
use Prim.Native.Nat.{ℕ, suc}
use Rattle.std.specs.Prelude.{◌≡◌, List, [], ◌∷◌, eqb}
use Rattle.std.proofs.Math.Path.{refl, ap}
use Rattle.std.proofs.Common.{◌∙◌, ne_eqb}
use Rattle.laws.specs.Tests.{pick, pick_all}
use Rattle.frames.specs.declared.Command.{Command}
use Rattle.frames.specs.declared.Command.TheVariants.{Open, Disconnect, Create, Destroy, Release, Transfer, Send, Receive, Quota, Holders, ShowSeed}
use Rattle.model.specs.Lists.{both}
use Rattle.model.specs.State.{Status, Status.unopened, Status.opened, Status.disconnected, Entry, Entry.message, Entry.destroyed, Entry.released, State, start, slot, seed_carries}
use Rattle.model.specs.Tables.{accept, with_status, with_user, with_handles, with_queues, with_charges, with_lives, with_seed}
use Rattle.model.specs.Changes.{push_all, take_out, withdraw, give, settled, notify_all, destroy_all, deliver, give_all}
use Rattle.model.specs.Effects.{opens, creates, destroys, disconnects, receives, effect}
use Rattle.model.specs.Step.{Call, step, run_from, run}
use Rattle.model.specs.Claim.{fed, history_from}
use Rattle.model.specs.Accepted.{Came, Came.left, Came.done}
use Rattle.model.proofs.Accepted.{came}
use Rattle.model.specs.Coded.{code, actor, coded}
use Rattle.model.specs.Quiet.{quiet-give}
use Rattle.model.proofs.Quiet.{quiet-give_all}
use Rattle.model.specs.Standing.{stands_after, standing, stood-at, release-status}

-- What each command does to the standing of p.
abbrev stood : Status → Command → ℕ → Status
stood s k p = pick (both (eqb (code k) 2) (eqb (actor k) p)) disconnected (pick (both (eqb (code k) 1) (eqb (actor k) p)) opened s)

receive-status : (b : State) (p : ℕ) (q : List Entry) → (receives (accept b) p q).status ≡ b.status
unfolding settled accept take_out with_charges with_queues
receive-status b p [] = refl
receive-status b p (message n m ∷ q) = (quiet-give_all (take_out (accept b) p (m ∷ []) q) p n m.carried).status
receive-status b p (destroyed n s ∷ q) = refl
receive-status b p (released n s ∷ q) = refl

stood-effect : (b : State) (f : List ℕ) (k : Command) (p : ℕ) → (effect b f k).status p ≡ stood (b.status p) k p
unfolding effect
stood-effect b f (Open q u) p = unfold opens with_user with_status accept in stood-at b.status q.0 p opened
stood-effect b f (Disconnect q) p =
    unfold with_seed disconnects notify_all push_all with_queues with_status with_handles take_out with_charges destroy_all with_lives withdraw accept in stood-at b.status q.0 p disconnected
stood-effect b f (Create q i) p = unfold creates with_handles with_lives accept in refl
stood-effect b f (Destroy q i) p = unfold destroys destroy_all push_all with_queues with_lives withdraw accept in refl
stood-effect b f (Release q i) p = ap (λ (g : ℕ → Status). g p) (release-status b q.0 (slot b q.0 i.0) (b.handle q.0 (slot b q.0 i.0)))
stood-effect b f (Transfer q i t) p =
    let n = suc b.accepted in
    let e : (give (accept b) t.0 n (slot b q.0 i.0)).status ≡ b.status = unfold accept in (quiet-give (accept b) t.0 n (slot b q.0 i.0)).status in
    ap (λ (g : ℕ → Status). g p) e
stood-effect b f (Send q z) p =
    pick_all (λ (y : State). y.status p ≡ b.status p) (eqb z.nd 0) _ _ (unfold with_seed deliver with_charges push_all with_queues accept in refl)
    (unfold deliver with_charges push_all with_queues accept in refl)
stood-effect b f (Receive q room) p = ap (λ (g : ℕ → Status). g p) (receive-status b q.0 (b.queue q.0))
stood-effect b f (Quota q u) p = refl
stood-effect b f (Holders q i) p = refl
stood-effect b f (ShowSeed q room) p =
    let n = suc b.accepted in
    let ss = seed_carries (b.seed q.0) in
    let e : (give_all (accept b) q.0 n ss).status ≡ b.status = unfold accept in (quiet-give_all (accept b) q.0 n ss).status in
    ap (λ (g : ℕ → Status). g p) e

stood_call : (b : State) (c : Call) (p : ℕ) → (step b c).state.status p ≡ stands_after (b.status p) (fed c (step b c)) p
stood_call b c p = go (came b c)
  where
    go : Came b c → (step b c).state.status p ≡ stands_after (b.status p) (fed c (step b c)) p
    go (left e n) = rw (e, ne_eqb (step b c).outcome.number 0 n) refl
    go (done k a) = let d = coded c.frame k a.read in rw (a.after, a.number, d.byte, d.peer) (stood-effect b c.frame k p)

standing-from : (cs : List Call) (b : State) (p : ℕ) → (run_from b cs).status p ≡ standing (b.status p) (history_from b cs) p
unfolding run_from history_from
standing-from [] b p = refl
standing-from (c ∷ cs) b p =
    standing-from cs (step b c).state p ∙ ap (λ (s : Status). standing s (history_from (step b c).state cs) p) (stood_call b c p)

-- A peer stands as its opens and disconnects say, none of them: never opened.
pub stands : (cs : List Call) (p : ℕ) → (run cs).status p ≡ standing unopened (history_from start cs) p
stands cs p = let e : start.status p ≡ unopened = unfold start in refl in standing-from cs start p ∙ ap (λ (s : Status). standing s (history_from start cs) p) e
