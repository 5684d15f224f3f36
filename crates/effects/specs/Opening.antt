-- Open and create: the state that the tables stand for after them, and that every table keeps its length.
-- Assumes nothing.
use Rattle.std.specs.Prelude.{ℕ, ◌+◌, ◌*◌, ◌<◌, ◌≡◌, refl}
use Rattle.std.proofs.Common.{sym, ap, ◌∙◌, arith}
use Rattle.laws.specs.Tables.{upd}
use Rattle.tables.specs.Peers.{count_command, set_open}
use Rattle.tables.specs.PeersView.{status-open, user-open, given-open, accepted-open, open-length, counted-length}
use Rattle.tables.specs.Nodes.{set_live}
use Rattle.tables.specs.NodesView.{life-live, live-length}
use Rattle.tables.specs.Handles.{put_handle}
use Rattle.tables.specs.HandlesView.{handle-put, put-length}
use Rattle.model.specs.Numbers.{slots, nodes}
use Rattle.model.specs.State.{Life.live, handle_of, State, counts, free_place}
use Rattle.model.specs.Tables.{accept, with_status, with_user, with_handles, with_handle, with_lives}
use Rattle.model.specs.Effects.{opens, creates}
use Rattle.view.specs.View.{Bus, set_peers, set_nodes, set_handles, Shape, shape-peers, shape-nodes, shape-handles, state_of}
use Rattle.effects.specs.Effects.{opened_peers, created}
use Rattle.effects.specs.After.{after_open, after_create}
use Rattle.effects.specs.Good.{Good}
use Rattle.effects.specs.Counting.{counting, shape-counted, counted-view}
use Rattle.ids.specs.Sizes.{peers}

pub shape-open : (b : Bus) (p u : ℕ) → Shape b → Shape (after_open b p u)
unfolding opened_peers
shape-open b p u s = shape-peers s (open-length (count_command b.peers) p u ∙ counted-length b.peers ∙ s.peers)

-- A peer opened, whatever the table.
opened_view : (b : Bus) → Shape b → (p u : ℕ) → p < peers →
    state_of (set_peers b (set_open b.peers p u)) ≡ opens (state_of b) p u
unfolding opens with_status with_user
opened_view b s p u l =
    rw (
      status-open b.peers s.peers p l u,
      user-open b.peers s.peers p l u,
      given-open b.peers s.peers p l u,
      accepted-open b.peers s.peers p l u,
    )

pub open-view : (b : Bus) → Shape b → Good (state_of b) → (p u : ℕ) → p < peers → state_of (after_open b p u) ≡ opens (accept (state_of b)) p u
unfolding opened_peers
open-view b s g p u l = opened_view (counting b) (shape-counted b s) p u l ∙ ap (λ (x : State). opens x p u) (counted-view b s g)

-- The place of a new node is the same once the command is counted.
pub same_place : (b : State) (p : ℕ) → free_place (accept b) p ≡ free_place b p
unfolding free_place counts accept
same_place b p = refl

pub shape-create : (b : Bus) (p i n : ℕ) → Shape b → Shape (after_create b p i n)
unfolding created
shape-create b p i n s =
    shape-handles (shape-nodes (shape-peers s (counted-length b.peers ∙ s.peers)) (live-length b.nodes n ∙ s.nodes)) (put-length b.handles p n i 1 ∙ s.handles)

-- A node made, whatever its slot.
made-view : (b : Bus) → Shape b → (p i n : ℕ) → p < peers → n < nodes →
    state_of (set_handles (set_nodes b (set_live b.nodes n)) (put_handle b.handles p n i 1))
    ≡ with_handle (with_lives (state_of b) (upd (state_of b).life n live)) p n (handle_of i 1)
unfolding with_handles with_lives
made-view b s p i n l m = rw (life-live b.nodes s.nodes n m, handle-put b.handles s.handles p n i 1 l m (omega arith))

pub create-view : (b : Bus) → Shape b → Good (state_of b) → (p i : ℕ) → p < peers → free_place (state_of b) p < slots →
    state_of (after_create b p i (p * slots + free_place (state_of b) p)) ≡ creates (accept (state_of b)) p i
unfolding created creates
create-view b s g p i l free =
    let n = p * slots + free_place (state_of b) p in
    made-view (counting b) (shape-counted b s) p i n l (omega arith)
    ∙ ap (λ (x : State). with_handle (with_lives x (upd x.life n live)) p n (handle_of i 1)) (counted-view b s g)
    ∙ ap (λ (k : ℕ). with_handle (with_lives (accept (state_of b)) (upd (accept (state_of b)).life (p * slots + k) live)) p (p * slots + k) (handle_of i 1)) (sym (same_place (state_of b) p))
