-- The theorems that go with specs/SimRelease.antt and stand on others: each goes by the definitions and the theorems there.
-- Assumes nothing.
use Rattle.std.specs.Prelude.{ℕ, [], eqb}
use Rattle.std.proofs.Common.{arith}
use Rattle.model.specs.State.{is_live, Status.disconnected, Handle.none, messages_in, State}
use Rattle.model.specs.Tables.{with_status, with_handles}
use Rattle.model.specs.Changes.{take_out, destroy_all}
use Rattle.model.specs.Effects.{destroys, disconnects}
use Rattle.model.specs.Book.{Book, to_dropped, note_disconnect}
use Rattle.model.specs.Sim.{Sim}
use Rattle.model.proofs.Quiet.{quiet-notify_all, quiet-destroy_all}
use Rattle.model.specs.SimQueues.{sim-quiet, sim-dropped}
use Rattle.model.specs.SimRelease.{destroy-handles, sim-no-handles, sim-status, notify-all-handles}

-- Destroy: the book sees nothing.
pub sim-destroy : {N : ℕ} {name : ℕ → ℕ} {k : Book} (b : State) (p s : ℕ) → Sim N name b k → Sim N name (destroys b p s) k
unfolding destroys
sim-destroy b p s r = sim-quiet b _ r (quiet-destroy_all b p (eqb s)) (destroy-handles b p (eqb s))

pub sim-disconnect : {N : ℕ} (name : ℕ → ℕ) (b : State) (k : Book) (p : ℕ) → Sim N name b k → Sim N name (disconnects b p) (note_disconnect k p)
unfolding disconnects
sim-disconnect {N} name b k p r =
    let died = destroy_all b p (λ s. is_live (b.life s)) in
    let d = sim-quiet b died r (quiet-destroy_all b p (λ s. is_live (b.life s))) (destroy-handles b p (λ s. is_live (b.life s))) in
    let emptied = take_out died p (messages_in (b.queue p)) [] in
    let e : Sim N name emptied (to_dropped k p (k.queue p) [])
    = rw (r.queues p) (sim-dropped name died k p (messages_in (b.queue p)) [] d (λ u w. rw (← r.queues p) (omega arith))) in
    let n = sim-no-handles name emptied (to_dropped k p (k.queue p) []) p e in
    let c = with_status (with_handles emptied p (λ s. none)) p disconnected in
    sim-quiet c _ (sim-status (with_handles emptied p (λ s. none)) p n) (quiet-notify_all b c) (notify-all-handles b c)
