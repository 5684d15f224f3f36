-- Destroy and Disconnect: the state that the tables stand for afterwards is the model's.
-- Assumes nothing.
use Prim.Native.Nat.{ℕ, ◌+◌, ◌*◌, ◌/◌, ◌≤◌, ◌<◌}
use Rattle.std.specs.Prelude.{◌≡◌, refl, Bool, true, false, List, [], map, eqb}
use Rattle.std.proofs.Math.Path.{sym, ap}
use Rattle.std.proofs.Common.{◌∙◌, arith, eqb-true}
use Rattle.std.proofs.Math.ListN.{length}
use Rattle.laws.specs.Tests.{Same, Same.same, Same.other, same?}
use Rattle.laws.specs.Tables.{upd}
use Rattle.quota.specs.Charges.{fresh_charges}
use Rattle.rings.specs.Rings.{released_bit, slots, ring_size, ends_size, Rings, length_of, bit_at, one_slot, cleared}
use Rattle.rings.specs.Laws.{clear-ends, clear-length, clear-lengths}
use Rattle.tables.specs.Peers.{count_command, set_disconnected}
use Rattle.tables.specs.PeersView.{status_v, accepted_v, status-counted, counted-length, disconnected-length, status-disconnected, user-disconnected, given-disconnected, accepted-disconnected, accepted-is}
use Rattle.tables.specs.NodesView.{life_v}
use Rattle.tables.specs.Handles.{clear_peer}
use Rattle.tables.specs.HandlesView.{handle_v, handle-clear}
use Rattle.tables.specs.HandlesView.{clear-length as handles-cleared}
use Rattle.tables.specs.ChargesView.{charges_v, charges-length}
use Rattle.queues.specs.Queues.{Queues, queues_in, set_queued, emptied, emptied_charges}
use Rattle.queues.specs.Carrying.{Unladen, unladen}
use Rattle.queues.specs.Entering.{empty-view, empty-charges, all-discharged}
use Rattle.model.specs.Numbers.{owner}
use Rattle.model.specs.State.{Status, Status.unopened, Status.opened, Status.disconnected, is_live, Handle.none, held, Entry.released, messages_in, Seed.unset, State, by_owner_id}
use Rattle.model.specs.Tables.{accept, with_status, with_handles, with_queues, with_charges, with_seed}
use Rattle.model.specs.Changes.{discharged_all, take_out, push_all, fell, release_notices, notify_all, destroy_all}
use Rattle.model.specs.Effects as model
use Rattle.seeds.specs.SeedsView.{dropped-length}
use Rattle.view.specs.View.{Bus, Shape, queue_v, state_of, set_peers, set_nodes, set_handles, set_charges, set_rings, shape-peers, shape-handles, shape-charges, shape-rings, shape-seeds}
use Rattle.view.specs.Rows.{queue-count}
use Rattle.notices.specs.declared.Asked.TheVariants.{Living}
use Rattle.notices.specs.Rising.{Apart}
use Rattle.notices.specs.Notices.{key_at, set_of, dead_all, Destroyed, destroyed_set, told_owners}
use Rattle.notices.specs.Telling.{More, with_destroyed, own-stands, destroyed-shape, destroyed-lengths, destroyed-view, destroyed-nodes, fallen, owners-more, living-set, one_set, apart-held, none-lives, lived-before}
use Rattle.effects.specs.Effects.{counted, destroys, rings_after, disconnects}
use Rattle.effects.specs.After.{after_destroy, after_disconnect}
use Rattle.effects.specs.Good.{Good}
use Rattle.effects.specs.Counting.{counting, shape-counted, counted-view}
use Rattle.effects.specs.Seeding.{dropped-view}
use Rattle.ids.specs.Sizes.{peers, peers_size}

-- A set of p's nodes that live, destroyed by the command that is counted.
module _ (b : Bus) (shape : Shape b) (g : Good (state_of b)) (p : ℕ) (l : p < peers) where
  short : (o : ℕ) → o < peers → length_of b.rings.ends o ≤ 188
  short o m = omega (arith, queue-count b.rings b.pool o m, g.short o)

  -- A live node is held by its owner.
  owner-holds : (q k : ℕ) → q < peers → k < slots → is_live (life_v b.nodes (q * slots + k)) ≡ true → held (handle_v b.handles q (q * slots + k)) ≡ true
  owner-holds q k m i h =
      let s = q * slots + k in
      let e : owner s ≡ q = omega arith in
      ap (λ (x : ℕ). held (handle_v b.handles x s)) (sym e) ∙ g.noted.owned s h

  module _ (set : ℕ) (test : ℕ → Bool) (agree : (k : ℕ) → k < slots → test (p * slots + k) ≡ bit_at set k)
      (alive : (k : ℕ) → k < slots → bit_at set k ≡ true → is_live (life_v b.nodes (p * slots + k)) ≡ true) where
    abbrev after : Destroyed
    after = destroyed_set b.nodes b.handles b.charges b.rings p set (counted b.peers).number

    holds : (k : ℕ) → k < slots → bit_at set k ≡ true → held (handle_v b.handles p (p * slots + k)) ≡ true
    holds k i h = owner-holds p k l i (alive k i h)

    apart : Apart (bit_at set) (key_at b.handles p) slots
    apart = apart-held b.handles p ((state_of b).given p) set l (g.ids p) holds

    fits : (o : ℕ) → o < peers → length_of b.rings.ends o + slots ≤ ring_size
    fits o m = omega (arith, short o m)

    -- A queue whose charges count no attached handle carries none.
    bare : (o : ℕ) → o < peers → Unladen b.charges b.rings b.pool o
    bare o m = unladen b.charges b.rings b.pool o m (g.charged.at o)

    set-shape : Shape (with_destroyed (counting b) after)
    set-shape = destroyed-shape (counting b) p set (counted b.peers).number test (shape-counted b shape) l fits agree holds apart bare

    set-lengths : (o : ℕ) → o < peers → length_of after.rings.ends o ≤ 204
    set-lengths o m =
        omega (arith, short o m, destroyed-lengths (counting b) p set (counted b.peers).number test (shape-counted b shape) l fits agree holds apart bare o m)

    number_is : (counted b.peers).number ≡ accepted_v (count_command b.peers)
    unfolding counted
    number_is = sym (accepted-is (count_command b.peers))

    set_view : state_of (with_destroyed (counting b) after) ≡ destroy_all (state_of (counting b)) p test
    set_view =
        destroyed-view (counting b) p set (counted b.peers).number test (shape-counted b shape) l fits agree holds apart bare number_is
        (own-stands (handle_v b.handles) (life_v b.nodes) p (queue_v b.rings b.pool p) (g.noted.stands p))

-- Destroy.
module _ (b : Bus) (shape : Shape b) (g : Good (state_of b)) (p s : ℕ) (l : p < peers) (own : s / slots ≡ p) (live : is_live ((state_of b).life s) ≡ true) where
  one-alive : (k : ℕ) → k < slots → bit_at (one_slot released_bit s).mask k ≡ true → is_live (life_v b.nodes (p * slots + k)) ≡ true
  one-alive k i h =
      let e : s ≡ p * slots + k = eqb-true s (p * slots + k) (one_set released_bit s p k own i ∙ h) in
      ap (λ (x : ℕ). is_live (life_v b.nodes x)) (sym e) ∙ live

  pub shape-destroy : Shape (after_destroy b p s)
  unfolding destroys counted
  shape-destroy = set-shape b shape g p l (one_slot released_bit s).mask (eqb s) (λ k i. one_set released_bit s p k own i) one-alive

  pub destroy-view : state_of (after_destroy b p s) ≡ model.destroys (accept (state_of b)) p s
  unfolding destroys counted model.destroys
  destroy-view =
      set_view b shape g p l (one_slot released_bit s).mask (eqb s) (λ k i. one_set released_bit s p k own i) one-alive
      ∙ ap (λ (x : State). destroy_all x p (eqb s)) (counted-view b shape g)

-- An open peer was opened.
never : opened ≡ unopened → ⊥
never e = let z : ◌≡◌ {A = ℕ} 0 1 = cc in absurd (omega arith)

-- The model's Disconnect.
model-disconnects : (a : State) (p : ℕ) →
    model.disconnects a p
    ≡ notify_all a (with_status (with_handles (take_out (destroy_all a p (λ s. is_live (a.life s))) p (messages_in (a.queue p)) []) p (λ s. none)) p disconnected)
unfolding model.disconnects
model-disconnects a p = refl

-- Disconnect: the peer's live nodes destroyed; its queue emptied; its handles gone and its status changed; the owners told.
module _ (b : Bus) (shape : Shape b) (g : Good (state_of b)) (p : ℕ) (l : p < peers) where
  abbrev living : ℕ
  living = set_of b.nodes b.handles p Living

  abbrev lives : ℕ → Bool
  lives s = is_live (life_v b.nodes s)

  agrees : (k : ℕ) → k < slots → lives (p * slots + k) ≡ bit_at living k
  agrees k i = living-set b.nodes b.handles p k l i

  all-alive : (k : ℕ) → k < slots → bit_at living k ≡ true → lives (p * slots + k) ≡ true
  all-alive k i h = agrees k i ∙ h

  abbrev died : Destroyed
  died = destroyed_set b.nodes b.handles b.charges b.rings p living (counted b.peers).number

  -- The buses in between.
  abbrev destroyed_bus : Bus
  destroyed_bus = with_destroyed (counting b) died

  abbrev died_queues : Queues
  died_queues = set_queued (queues_in b) died.rings

  abbrev empty_rings : Rings
  empty_rings = rings_after died.rings (cleared died.rings.ends p)

  abbrev empty_bus : Bus
  empty_bus = set_rings (set_charges destroyed_bus (emptied_charges b.charges p)) empty_rings

  abbrev left_bus : Bus
  left_bus = set_handles (set_peers empty_bus (set_disconnected (count_command b.peers) p)) (clear_peer b.handles p)

  died-shape : Shape destroyed_bus
  died-shape = set-shape b shape g p l living lives agrees all-alive

  died-view : state_of destroyed_bus ≡ destroy_all (state_of (counting b)) p lives
  died-view = set_view b shape g p l living lives agrees all-alive

  -- The queue is emptied, and with it its charges.
  empty-queues : queue_v empty_rings b.pool ≡ upd (queue_v died.rings b.pool) p []
  unfolding emptied
  empty-queues = empty-view died_queues p died-shape.ends l

  empty-charged : charges_v (emptied_charges b.charges p)
      ≡ upd (charges_v b.charges) p (discharged_all (charges_v b.charges p) (messages_in (queue_v b.rings b.pool p)))
  unfolding emptied
  empty-charged =
      empty-charges died_queues p shape.charges l
      ∙ ap (upd (charges_v b.charges) p) (sym (all-discharged (messages_in (queue_v b.rings b.pool p)) (charges_v b.charges p) (g.charged.at p)))

  emptied-view : state_of empty_bus ≡ take_out (state_of destroyed_bus) p (messages_in (queue_v b.rings b.pool p)) []
  unfolding take_out with_charges with_queues
  emptied-view = rw (empty-queues, empty-charged)

  -- The handles go.
  left-view : (status_v b.peers p ≡ unopened → ⊥) → state_of left_bus ≡ with_status (with_handles (state_of empty_bus) p (λ s. none)) p disconnected
  unfolding with_status with_handles
  left-view was =
      let ps = count_command b.peers in
      let size : length ps ≡ peers_size = counted-length b.peers ∙ shape.peers in
      rw (
        status-disconnected ps size p l,
        user-disconnected ps size p l (λ e. was (sym (ap (λ (f : ℕ → Status). f p) (status-counted b.peers)) ∙ e)),
        given-disconnected ps size p l,
        accepted-disconnected ps size p l,
        handle-clear b.handles shape.handles p l,
      )

  -- The owners are told.
  abbrev told_rings : Rings
  told_rings = told_owners died.nodes b.handles p (counted b.peers).number empty_rings peers

  died-nodes : died.nodes ≡ dead_all b.nodes p living (counted b.peers).number slots
  died-nodes = destroyed-nodes b.nodes b.handles b.charges b.rings p living (counted b.peers).number

  none_left : (k : ℕ) → k < slots → is_live (life_v died.nodes (p * slots + k)) ≡ false
  none_left k i = rw died-nodes (none-lives b.nodes b.handles p (counted b.peers).number shape.nodes l k i)

  still-held : (q k : ℕ) → q < peers → k < slots → is_live (life_v died.nodes (q * slots + k)) ≡ true → held (handle_v b.handles q (q * slots + k)) ≡ true
  still-held q k m i h =
      let s = q * slots + k in
      owner-holds b shape g p l q k m i
      (lived-before b.nodes b.handles p (counted b.peers).number shape.nodes l s
      (ap (λ (x : List ℕ). is_live (life_v x s)) (sym died-nodes) ∙ h))

  empty-ended : length empty_rings.ends ≡ ends_size
  empty-ended = clear-ends died.rings p ∙ died-shape.ends

  empty-room : (o : ℕ) → o < peers → length_of empty_rings.ends o + slots ≤ ring_size
  empty-room o m = go (same? p o)
    where
      go : Same p o → length_of (cleared died.rings.ends p) o + slots ≤ ring_size
      go (same e) = rw (← e, clear-length died.rings p died-shape.ends l) (omega arith)
      go (other d) = rw (clear-lengths died.rings p o d) (omega (arith, set-lengths b shape g p l living lives agrees all-alive o m))

  told_more : More empty_rings told_rings b.pool
      (λ q. map (released (counted b.peers).number) (by_owner_id (handle_v (clear_peer b.handles p)) q (fallen died.nodes b.handles (clear_peer b.handles p))))
  told_more =
      owners-more died.nodes b.handles p (counted b.peers).number l shape.handles empty_rings b.pool died-shape.rows empty-ended empty-room still-held none_left

  left-number : (counted b.peers).number ≡ accepted_v (set_disconnected (count_command b.peers) p)
  left-number =
      number_is b shape g p l living lives agrees all-alive
      ∙ sym (accepted-disconnected (count_command b.peers) (counted-length b.peers ∙ shape.peers) p l)

  -- The bus with its seed as it was.
  abbrev told_bus : Bus
  told_bus =
      let x = disconnects b.peers b.nodes b.handles b.charges b.rings p in
      set_rings (set_charges (set_handles (set_nodes (set_peers b x.peers) x.nodes) x.handles) x.charges) x.rings

  told-view : state_of told_bus ≡ notify_all (state_of (counting b)) (state_of left_bus)
  unfolding disconnects counted notify_all push_all with_queues release_notices fell
  told-view = rw (told_more.view, left-number)

  pub disconnect-view : (state_of b).status p ≡ opened → state_of (after_disconnect b p) ≡ with_seed (model.disconnects (accept (state_of b)) p) p unset
  disconnect-view was =
      dropped-view told_bus p shape.seeds l
      ∙ ap (λ (x : State). with_seed x p unset) (counted-so ∙ ap (λ (x : State). model.disconnects x p) (counted-view b shape g))
    where
      present : status_v b.peers p ≡ unopened → ⊥
      present e = never (sym was ∙ e)

      left : state_of left_bus
          ≡ with_status (with_handles (take_out (destroy_all (state_of (counting b)) p lives) p (messages_in (queue_v b.rings b.pool p)) []) p (λ s. none)) p disconnected
      left =
          left-view present
          ∙ ap (λ (x : State). with_status (with_handles x p (λ s. none)) p disconnected)
          (emptied-view ∙ ap (λ (x : State). take_out x p (messages_in (queue_v b.rings b.pool p)) []) died-view)

      counted-so : state_of told_bus ≡ model.disconnects (state_of (counting b)) p
      counted-so = told-view ∙ ap (notify_all (state_of (counting b))) left ∙ sym (model-disconnects (state_of (counting b)) p)

  pub shape-disconnect : Shape (after_disconnect b p)
  unfolding disconnects counted emptied_charges
  shape-disconnect =
      shape-seeds
      (shape-rings
      (shape-charges
      (shape-handles (shape-peers died-shape (disconnected-length (count_command b.peers) p ∙ counted-length b.peers ∙ shape.peers))
      (handles-cleared b.handles p ∙ shape.handles))
      (charges-length b.charges p fresh_charges ∙ shape.charges))
      told_more.ends told_more.sized)
      (dropped-length b.seeds p ∙ shape.seeds)
