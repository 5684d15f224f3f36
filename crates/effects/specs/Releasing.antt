-- What a release does to the state that the tables stand for: it is the model's.
-- Assumes nothing.
use Prim.Native.Nat.{ℕ, zero, suc, ◌+◌, ◌-◌, ◌/◌, ◌≤◌, ◌<◌}
use Rattle.std.specs.Prelude.{◌≡◌, Bool, true, false, eqb, ltb}
use Rattle.std.proofs.Math.Path.{refl, ap}
use Rattle.std.proofs.Common.{sym, ap₂, ◌∙◌, arith}
use mathlib.Core.List.{List, [], ◌∷◌, ◌++◌}
use borrow.Author.Tests.{eqb-true, eqb-false, eq-eqb, ne_eqb, lt-ltb}
use Rattle.laws.specs.Tests.{pick, pick_all, Seen, Seen.is_true, Seen.is_false, look, Same, Same.same, Same.other, same?}
use Rattle.laws.specs.Tables.{upd, upd_same, upd_other}
use Rattle.laws.specs.Weights.{all-imp}
use Rattle.laws.specs.Sums.{sum-at}
use Rattle.rings.specs.Rings.{kind_released, slots, ring_size, Rings, length_of}
use Rattle.tables.specs.Handles.{id_at, count_at, total_at, reduced}
use Rattle.tables.specs.HandlesView.{handle_v, handle-is, handle-reduced, count-is, total-is, reduced-length}
use Rattle.tables.specs.Nodes.{live_at}
use Rattle.tables.specs.NodesView.{live-is}
use Rattle.tables.specs.PeersView.{accepted_v}
use Rattle.model.specs.Numbers.{nodes, peers, owner}
use Rattle.model.specs.State.{Handle, Handle.some, handle_of, count, id_or, Entry, Entry.message, Entry.destroyed, Entry.released, State, total, is_live}
use Rattle.model.specs.Tables.{accept, with_handle, with_handles, with_queues}
use Rattle.model.specs.Changes.{stays, forget, push, fell, notify}
use Rattle.model.specs.Effects as model
use Rattle.model.specs.Counts.{put, count-handle}
use Rattle.model.specs.Notices.{Stands}
use Rattle.view.specs.View.{Bus, Shape, entry_v, queue_v, state_of, set_handles, set_rings, shape-handles, shape-rings}
use Rattle.view.specs.Rows.{queue-count}
use Rattle.queues.specs.Queues.{Queues, is_message, entered, set_queues}
use Rattle.queues.specs.Entering.{Filled, filled-view, enter-view, enter-sized, enter-ends, entry-released, notice-bytes}
use Rattle.notices.specs.Notices.{notice_of}
use Rattle.notices.specs.Telling.{own-stands}
use Rattle.notices.specs.Expiring.{Dated, Others, stands-dated}
use Rattle.effects.specs.Effects.{counted, dropped as lowered, forgotten, left_behind, notified, releases}
use Rattle.effects.specs.After.{queues_in, after_release}
use Rattle.effects.specs.Good.{Good}
use Rattle.effects.specs.Counting.{counting, shape-counted, counted-view}
use Rattle.effects.specs.Forgetting.{Parting, forget-view, shape-forgotten, forgotten-less}

-- What is known of a state, of its tables: no queue is near the end of its ring, and the areas are filled by their queues.
pub good-filled : (b : Bus) → Good (state_of b) → Filled (queues_in b)
good-filled b g = filled-view (queues_in b) (λ o l. g.charged.at o)

pub good-short : (b : Bus) → Good (state_of b) → (o : ℕ) → o < peers → length_of b.rings.ends o ≤ 188
good-short b g o l = omega (arith, queue-count b.rings b.pool o l, g.short o)

-- A handle written.
pub reduce-view : (b : Bus) (p s : ℕ) → Shape b → p < peers → s < nodes →
    state_of (set_handles b (reduced b.handles p s)) ≡ with_handle (state_of b) p s (handle_of (id_at b.handles p s) (count_at b.handles p s - 1))
unfolding with_handles
reduce-view b p s h l m = rw (handle-reduced b.handles h.handles p s l m)

pub shape-reduce : (b : Bus) (p s : ℕ) → Shape b → Shape (set_handles b (reduced b.handles p s))
shape-reduce b p s h = shape-handles h (reduced-length b.handles p s ∙ h.handles)

unchosen : {A : Type 0} (x : Bool) (y z : A) → pick (pick x false false) y z ≡ z
unchosen true y z = refl
unchosen false y z = refl

-- The notice at the owner, of a state a before the command whose sum of counts was above 1 where it is 1 now.
module _ (a : State) (b : Bus) (s n : ℕ) (h : Shape b) (l : s < nodes) (number : n ≡ (state_of b).accepted) (room : length_of b.rings.ends (s / slots) < ring_size)
    (above : total (handle_v b.handles) s ≡ 1 → 1 < total a.handle s) where
  owned : s / slots < peers
  owned = omega arith

  notice-entry : entry_v (record { entry = notice_of kind_released s n; payload = [] }) ≡ released n s
  unfolding notice_of
  notice-entry = entry-released (notice_of kind_released s n) [] refl

  noticed : queue_v (entered b.rings (s / slots) (notice_of kind_released s n)) b.pool
      ≡ upd (queue_v b.rings b.pool) (s / slots) (queue_v b.rings b.pool (s / slots) ++ (released (state_of b).accepted s ∷ []))
  noticed =
      enter-view b.rings b.pool (s / slots) (notice_of kind_released s n) h.rows h.ends owned room (unfold notice_of is_message in notice-bytes (notice_of kind_released s n) refl) (unfold notice_of in refl)
      ∙ ap (λ (e : Entry). upd (queue_v b.rings b.pool) (s / slots) (queue_v b.rings b.pool (s / slots) ++ (e ∷ []))) (notice-entry ∙ ap (λ (k : ℕ). released k s) number)

  pub notify-view : state_of (set_rings b (notified b.nodes b.handles b.rings s n)) ≡ notify a (state_of b) s
  unfolding notified notify fell with_queues
  notify-view = rw (live-is b.nodes s l, total-is b.handles s l) (go (look (is_live ((state_of b).life s))) (same? (total (handle_v b.handles) s) 1))
    where
      go : Seen (is_live ((state_of b).life s)) → Same (total (handle_v b.handles) s) 1 →
          state_of (set_rings b (pick (is_live ((state_of b).life s)) (pick (eqb (total (handle_v b.handles) s) 1) (entered b.rings (s / slots) (notice_of kind_released s n)) b.rings) b.rings))
          ≡ notify a (state_of b) s
      go (is_true e) (same d) = rw (e, d, lt-ltb 1 (total a.handle s) (above d), noticed)
      go (is_true e) (other d) = rw (e, ne_eqb (total (handle_v b.handles) s) 1 d) (sym (unchosen (ltb 1 (total a.handle s)) (push (state_of b) (owner s) (released (state_of b).accepted s ∷ [])) (state_of b)))
      go (is_false e) d = rw e

  pub shape-notified : Shape (set_rings b (notified b.nodes b.handles b.rings s n))
  unfolding notified
  shape-notified =
      pick_all Fit (live_at b.nodes s) (pick (eqb (total_at b.handles s) 1) told b.rings) b.rings
      (pick_all Fit (eqb (total_at b.handles s) 1) told b.rings entered-fit h) h
    where
      told : Rings
      told = entered b.rings (s / slots) (notice_of kind_released s n)

      Fit : Rings → Type 0
      Fit r = Shape (set_rings b r)

      entered-fit : Fit told
      entered-fit = shape-rings h (enter-ends b.rings (s / slots) (notice_of kind_released s n) ∙ h.ends) (enter-sized b.rings (s / slots) (notice_of kind_released s n) h.rows)

-- A count lowered by 1 lowers the sum by 1.
pub total-put : (h : ℕ → ℕ → Handle) (p s : ℕ) (x : Handle) → p < peers → total (put h p s x) s + count (h p s) ≡ total h s + count x
unfolding total
total-put h p s x l =
    rw (upd_same, upd_same) at
    (sum-at (λ q. count (put h p s x q s)) (λ q. count (h q s)) p peers l (λ q m d. ap (λ (f : ℕ → Handle). count (f s)) (upd_other h p q (upd (h p) s x) d)))

-- A release: the count lowered, what goes with the handle, the notice at the owner.
module _ (b : Bus) (p s i c : ℕ) (h : Shape b) (g : Good (state_of b)) (l : p < peers) (m : s < nodes) (holds : (state_of b).handle p s ≡ some i c) where
  abbrev less_handles : List ℕ
  less_handles = reduced b.handles p s

  abbrev less : Bus
  less = set_handles (counting b) less_handles

  abbrev after : Bus
  after = set_queues less (left_behind b.nodes b.handles (queues_in b) p s)

  lowered_is : after_release b p s ≡ set_rings after (notified b.nodes less_handles after.rings s (counted b.peers).number)
  unfolding releases lowered counted
  lowered_is = refl

  count-c : count_at b.handles p s ≡ c
  count-c = count-is b.handles p s l m ∙ ap count holds

  over : 0 < c
  over = (g.ids p).counted s i c holds

  id-i : id_at b.handles p s ≡ i
  id-i =
      let e : id_or 0 (handle_of (id_at b.handles p s) (count_at b.handles p s)) ≡ i = ap (id_or 0) (sym (handle-is b.handles p s l m) ∙ holds) in
      named (id_at b.handles p s) (count_at b.handles p s) (omega (arith, count-c, over)) e
    where
      named : (x k : ℕ) → 0 < k → id_or 0 (handle_of x k) ≡ i → x ≡ i
      named x zero z e = absurd (omega arith)
      named x (suc k) z e = e

  shape-less : Shape less
  shape-less = shape-reduce (counting b) p s (shape-counted b h)

  less-view : state_of less ≡ with_handle (accept (state_of b)) p s (handle_of i (c - 1))
  less-view =
      reduce-view (counting b) p s (shape-counted b h) l m
      ∙ ap (λ (x : State). with_handle x p s (handle_of (id_at b.handles p s) (count_at b.handles p s - 1))) (counted-view b h g)
      ∙ ap₂ (λ (x y : ℕ). with_handle (accept (state_of b)) p s (handle_of x (y - 1))) id-i count-c

  filled : Filled (queues_in b)
  filled = good-filled b g

  short : length_of b.rings.ends p ≤ ring_size
  short = omega (arith, good-short b g p l)

  -- What is left of the handle is of p alone, and of s.
  less-row : (state_of less).handle p ≡ upd ((state_of b).handle p) s (handle_of i (c - 1))
  less-row =
      ap (λ (x : State). x.handle p) less-view
      ∙ (unfold with_handles accept in upd_same (state_of b).handle p (upd ((state_of b).handle p) s (handle_of i (c - 1))))

  parting : c ≡ 1 → Parting less p s
  parting one =
      record {
        sound = g.charged.at p;
        dated = all-imp (Stands (state_of b).handle (state_of b).life p) (Dated (state_of b).life) (stands-dated (state_of b).handle (state_of b).life p) ((state_of b).queue p) (g.noted.stands p);
        own = own-stands (state_of b).handle (state_of b).life p ((state_of b).queue p) (g.noted.stands p);
        unheld = rw (less-row, upd_same ((state_of b).handle p) s (handle_of i (c - 1)), one);
        others = all-imp (λ e. stays ((state_of b).handle p) ((state_of b).queue p) e ≡ true) (Others ((state_of less).handle p) ((state_of b).queue p) s) kept ((state_of b).queue p) (g.founded p);
      }
    where
      kept : (e : Entry) → stays ((state_of b).handle p) ((state_of b).queue p) e ≡ true → Others ((state_of less).handle p) ((state_of b).queue p) s e
      kept (message n m) e = tt
      kept (destroyed n t) e = λ d. rw (less-row, upd_other ((state_of b).handle p) s t (handle_of i (c - 1)) d) e
      kept (released n t) e = tt

  left_is : Seen (eqb c 1) → left_behind b.nodes b.handles (queues_in b) p s ≡ pick (eqb c 1) (forgotten b.nodes less_handles (queues_in b) p s) (queues_in b)
  unfolding left_behind lowered
  left_is (is_true e) =
      let z : count_at b.handles p s - 1 ≡ 0 = omega (arith, count-c, eqb-true c 1 e) in
      rw (e, eq-eqb (count_at b.handles p s - 1) 0 z)
  left_is (is_false e) =
      let d : c ≡ 1 → ⊥ = eqb-false c 1 e in
      let z : count_at b.handles p s - 1 ≡ 0 → ⊥ = λ w. d (omega (arith, count-c, over)) in
      rw (e, ne_eqb (count_at b.handles p s - 1) 0 z)

  after-view : state_of after ≡ pick (eqb c 1) (forget (state_of less) p s) (state_of less)
  after-view = ap (λ (q : Queues). state_of (set_queues less q)) (left_is (look (eqb c 1))) ∙ go (look (eqb c 1))
    where
      go : Seen (eqb c 1) → state_of (set_queues less (pick (eqb c 1) (forgotten b.nodes less_handles (queues_in b) p s) (queues_in b))) ≡ pick (eqb c 1) (forget (state_of less) p s) (state_of less)
      go (is_true e) = rw e (forget-view less p s shape-less l m short filled (parting (eqb-true c 1 e)))
      go (is_false e) = rw e

  shape-after : Shape after
  shape-after =
      rw (left_is (look (eqb c 1)))
      (pick_all (λ (q : Queues). Shape (set_queues less q)) (eqb c 1) (forgotten b.nodes less_handles (queues_in b) p s) (queues_in b) (shape-forgotten less p s shape-less l m short filled) shape-less)

  room : length_of after.rings.ends (s / slots) < ring_size
  room =
      let q : s / slots < peers = omega arith in
      let k : length_of b.rings.ends (s / slots) ≤ 188 = good-short b g (s / slots) q in
      rw (left_is (look (eqb c 1)))
      (pick_all (λ (q : Queues). length_of q.rings.ends (s / slots) < ring_size) (eqb c 1) (forgotten b.nodes less_handles (queues_in b) p s) (queues_in b)
      (omega (arith, forgotten-less less p s shape-less l m short filled (s / slots))) (omega arith))

  above : total (handle_v less_handles) s ≡ 1 → 1 < total (accept (state_of b)).handle s
  unfolding accept
  above one =
      let old = handle_v b.handles in
      let new = handle_of (id_at b.handles p s) (count_at b.handles p s - 1) in
      let made : handle_v less_handles ≡ put old p s new =
      handle-reduced b.handles h.handles p s l m in
      let now : total (put old p s new) s ≡ 1 = ap (λ (f : ℕ → ℕ → Handle). total f s) (sym made) ∙ one in
      let k : count (old p s) ≡ c = ap count holds in
      let j : count new ≡ count_at b.handles p s - 1 = count-handle (id_at b.handles p s) (count_at b.handles p s - 1) in
      omega (arith, total-put old p s new l, now, k, j, count-c, over)

  number : (counted b.peers).number ≡ (state_of after).accepted
  unfolding counted accepted_v
  number = refl

  pub release-view : state_of (after_release b p s) ≡ model.releases (accept (state_of b)) p s i c
  unfolding model.releases
  release-view =
      ap state_of lowered_is
      ∙ notify-view (accept (state_of b)) after s (counted b.peers).number shape-after m number room above
      ∙ ap (λ (x : State). notify (accept (state_of b)) x s) (after-view ∙ ap (λ (x : State). pick (eqb c 1) (forget x p s) x) less-view)

  pub shape-release : Shape (after_release b p s)
  shape-release = rw lowered_is (shape-notified (accept (state_of b)) after s (counted b.peers).number shape-after m number room above)
