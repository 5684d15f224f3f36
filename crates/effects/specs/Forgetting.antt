-- What goes with a peer's last reference to a node, of the state that the tables stand for: the model's.
-- Assumes nothing.
use Prim.Native.Nat.{ℕ, ◌+◌, ◌/◌, ◌≤◌, ◌<◌}
use Rattle.std.specs.Prelude.{◌≡◌, Bool, false, not, List, [], ◌∷◌, eqb}
use Rattle.std.proofs.Math.Path.{refl, sym, ap}
use Rattle.std.proofs.Common.{◌∙◌, arith, eq-eqb, ne_eqb}
use Rattle.std.proofs.Math.Bool.{true}
use Rattle.laws.specs.Tests.{pick_all, Seen, Seen.is_true, Seen.is_false, look, Same, Same.same, Same.other, same?}
use Rattle.laws.specs.Tables.{upd_same, upd-self, upd-twice}
use Rattle.laws.specs.Weights.{All, keep, all-imp, all_keep, load_split}
use Rattle.laws.specs.Loads.{keep-every}
use Rattle.rings.specs.declared.Match.{Match}
use Rattle.rings.specs.Rings.{message_bit, released_bit, all_bits, slots, ring_size, Rings, length_of, matches, one_slot}
use Rattle.pool.specs.Pool.{Pair}
use Rattle.tables.specs.Charges.{charges_at}
use Rattle.tables.specs.ChargesView.{charges_v}
use Rattle.tables.specs.NodesView.{life_v}
use Rattle.tables.specs.HandlesView.{handle_v}
use Rattle.model.specs.Numbers.{nodes, peers, owner}
use Rattle.model.specs.Lists.{both, either, any}
use Rattle.model.specs.State.{Handle, held, Message, Entry, Entry.message, Entry.destroyed, Entry.released, messages_in, earlier, State}
use Rattle.model.specs.Tables.{with_queue, with_queues, with_charges}
use Rattle.model.specs.Changes.{discharged_all, take_out, stays, settle, dropped, remains, forget}
use Rattle.model.specs.Charged.{Fine, Sound}
use Rattle.model.proofs.ChargedProof.{sound-out}
use Rattle.model.specs.Quiet.{messages-keep}
use Rattle.view.specs.View.{Bus, Shape, entry_v, queue_v, state_of}
use Rattle.queues.specs.Queues.{Queues, attached_of, is_message, removed_from, set_queues, set_queued, shape-queues}
use Rattle.queues.specs.Asking.{message_v}
use Rattle.queues.specs.Carrying.{unladen, none-earlier}
use Rattle.queues.specs.Entering.{Filled}
use Rattle.queues.specs.Leaving.{remove-view, remove-charges, remove-rows, remove-ended, remove-less, remove-others, remove-pool, remove-charged, remains-own, dropped-own, outlives, outlives-own, outdropped-own}
use Rattle.notices.specs.Notices.{expired, expired_all}
use Rattle.notices.specs.Telling.{Own, keep-agree}
use Rattle.notices.specs.Expiring.{Dated, Fair, Less, Others, keep-both, less-expired, less-queue, one-view, all-view}
use Rattle.effects.specs.Effects.{forgotten_own, forgotten}
use Rattle.effects.specs.After.{queues_in}

-- What is known of the queue of p when its count for s has fallen to 0: its charges are its messages', notices have their numbers and release notices are of p's own nodes, and only the
-- destroy notice of s may have lost what kept it.
pub record Parting (b : Bus) (p s : ℕ) : Type 0 where
  pub sound : Sound (messages_in ((state_of b).queue p)) ((state_of b).charges p)
  pub dated : All (Dated (state_of b).life) ((state_of b).queue p)
  pub own : All (Own p) ((state_of b).queue p)
  pub unheld : held ((state_of b).handle p s) ≡ false
  pub others : All (Others ((state_of b).handle p) ((state_of b).queue p) s) ((state_of b).queue p)

module _ (b : Bus) (p s : ℕ) (h : Shape b) (l : p < peers) (m : s < nodes) (short : length_of b.rings.ends p ≤ ring_size) (filled : Filled (queues_in b)) where
  abbrev queue : List Entry
  queue = queue_v b.rings b.pool p

  abbrev five : Match
  five = one_slot (message_bit + released_bit) s

  abbrev seven : Match
  seven = one_slot all_bits s

  -- Entries removed with their payloads and charges.
  removed-view : (k : Match) (test : Entry → Bool) → ((x : Pair) → test (entry_v x) ≡ not (matches k x.entry)) →
      ((x : Pair) → is_message x.entry ≡ true → matches k x.entry ≡ dropped p s (message_v x)) →
      state_of (set_queues b (removed_from (queues_in b) p k)) ≡ take_out (state_of b) p (keep (dropped p s) (messages_in queue)) (keep test queue)
  unfolding take_out with_charges with_queues
  removed-view k test stay go =
      rw (
        remove-view (queues_in b) p k test h.rows h.ends h.pool l short filled.within stay,
        remove-charges (queues_in b) p k (dropped p s) h.charges l short go,
      )

  removed-shape : (k : Match) → Shape (set_queues b (removed_from (queues_in b) p k))
  removed-shape k =
      shape-queues h (remove-charged (queues_in b) p k ∙ h.charges) (remove-ended (queues_in b) p k ∙ h.ends) (remove-rows (queues_in b) p k h.rows)
      (remove-pool (queues_in b) p k h.pool l (filled.within p l) ∙ h.pool)

  removed-less : (k : Match) (o : ℕ) → length_of (removed_from (queues_in b) p k).rings.ends o ≤ length_of b.rings.ends o
  removed-less k o = go (same? p o)
    where
      go : Same p o → length_of (removed_from (queues_in b) p k).rings.ends o ≤ length_of b.rings.ends o
      go (same e) = rw (← e) (remove-less (queues_in b) p k h.ends l)
      go (other d) = omega (arith, remove-others (queues_in b) p k o d)

  module _ (z : Parting b p s) where
    -- Another peer's node: no message is dropped, and the notice of s goes that nothing keeps.
    fair : Fair b.nodes b.handles b.charges p b.pool l b.rings
    fair =
        record {
          rows = h.rows;
          ends = h.ends;
          short = short;
          unladen = unladen b.charges b.rings b.pool p l z.sound;
          dated = z.dated;
        }

    other-view : (s / slots ≡ p → ⊥) →
        state_of (set_queues b (set_queued (queues_in b) (expired b.nodes b.handles b.charges p b.rings s))) ≡ forget (state_of b) p s
    unfolding forget take_out with_charges with_queues
    other-view d =
        rw (
          one-view b.nodes b.handles b.charges p b.pool l b.rings s m fair z.others,
          all-remain,
          none_dropped,
          upd-self (charges_v b.charges) p (charges_v b.charges p) refl,
        )
      where
        all-remain : keep (remains p s) queue ≡ queue
        all-remain = keep-agree (remains p s) (λ e. true) queue (all-imp (Own p) (λ e. remains p s e ≡ true) stay queue z.own) ∙ keep-every queue
          where
            stay : (e : Entry) → Own p e → remains p s e ≡ true
            stay (message n k) o = rw (ne_eqb (s / slots) p d)
            stay (destroyed n t) o = refl
            stay (released n t) o = rw (ne_eqb t s (λ e. d (ap owner (sym e) ∙ o)))

        none_dropped : keep (dropped p s) (messages_in queue) ≡ []
        none_dropped = go (messages_in queue)
          where
            go : (ms : List Message) → keep (dropped p s) ms ≡ []
            go [] = refl
            go (k ∷ ms) = rw (ne_eqb (s / slots) p d) (go ms)

    -- The owner's node, in a queue without attached handles: no message keeps a notice.
    bare-view : s / slots ≡ p → eqb (attached_of (charges_at b.charges p)) 0 ≡ true → state_of (set_queues b (removed_from (queues_in b) p seven)) ≡ forget (state_of b) p s
    unfolding forget settle
    bare-view d none =
        removed-view seven (outlives p s) (outlives-own p s d) (outdropped-own p s d)
        ∙ ap (take_out (state_of b) p (keep (dropped p s) (messages_in queue)))
        (keep-agree (outlives p s) (λ e. both (remains p s e) (stays hp rest e)) queue (all-imp (Others (handle_v b.handles p) queue s) _ agree queue z.others)
        ∙ sym (keep-both (remains p s) (stays hp rest) queue))
      where
        hp : ℕ → Handle
        hp = handle_v b.handles p

        rest : List Entry
        rest = keep (remains p s) queue

        bare : All (λ k. k.carried ≡ []) (messages_in queue)
        bare = unladen b.charges b.rings b.pool p l z.sound none

        none_here : (n t : ℕ) → any (earlier n t) queue ≡ false
        none_here n t = none-earlier n t queue bare

        none_left : (n t : ℕ) → any (earlier n t) rest ≡ false
        none_left n t =
            none-earlier n t rest
            (rw (messages-keep (remains p s) (λ k. not (dropped p s k)) (λ n k. refl) queue)
            (all_keep (λ k. k.carried ≡ []) (λ k. not (dropped p s k)) (messages_in queue) bare))

        agree : (e : Entry) → Others (handle_v b.handles p) queue s e → outlives p s e ≡ both (remains p s e) (stays hp rest e)
        agree (message n k) o = refl
        agree (released n t) o = refl
        agree (destroyed n t) o = go (same? s t)
          where
            go : Same s t → not (eqb t s) ≡ either (held (hp t)) (any (earlier n t) rest)
            go (same y) = rw (eq-eqb t s (sym y), none_left n t, ← y, z.unheld)
            go (other y) =
                let k : either (held (hp t)) (any (earlier n t) queue) ≡ true = o y in
                rw (ne_eqb t s (λ e. y (sym e)), none_left n t) (sym (rw (none_here n t) at k))

    -- The owner's node, in another queue: the messages go, and then every notice that nothing keeps.
    abbrev left : Queues
    left = removed_from (queues_in b) p five

    abbrev left_bus : Bus
    left_bus = set_queues b left

    left-view : s / slots ≡ p → state_of left_bus ≡ take_out (state_of b) p (keep (dropped p s) (messages_in queue)) (keep (remains p s) queue)
    left-view d = removed-view five (remains p s) (remains-own p s d) (dropped-own p s d)

    left-queue : s / slots ≡ p → queue_v left.rings left.pool p ≡ keep (remains p s) queue
    left-queue d =
        ap (λ (x : State). x.queue p) (left-view d)
        ∙ (unfold take_out with_charges with_queues in upd_same (queue_v b.rings b.pool) p (keep (remains p s) queue))

    left-charges : s / slots ≡ p → charges_v left.charges p ≡ discharged_all (charges_v b.charges p) (keep (dropped p s) (messages_in queue))
    left-charges d =
        ap (λ (x : State). x.charges p) (left-view d)
        ∙ (unfold take_out with_charges with_queues in upd_same (charges_v b.charges) p (discharged_all (charges_v b.charges p) (keep (dropped p s) (messages_in queue))))

    left-fair : s / slots ≡ p → Fair b.nodes b.handles left.charges p left.pool l left.rings
    left-fair d =
        record {
          rows = (removed-shape five).rows;
          ends = (removed-shape five).ends;
          short = omega (arith, removed-less five p, short);
          unladen = unladen left.charges left.rings left.pool p l (rw (left-queue d, left-charges d, messages) sound);
          dated = rw (left-queue d) (all_keep (Dated (life_v b.nodes)) (remains p s) queue z.dated);
        }
      where
        ms : List Message
        ms = messages_in queue

        stay : Message → Bool
        stay k = not (dropped p s k)

        messages : messages_in (keep (remains p s) queue) ≡ keep stay ms
        messages = messages-keep (remains p s) stay (λ n k. refl) queue

        sound : Sound (keep stay ms) (discharged_all (charges_v b.charges p) (keep (dropped p s) ms))
        sound =
            sound-out ms (keep (dropped p s) ms) (keep stay ms) (charges_v b.charges p) z.sound (λ t w. load_split t w (dropped p s) ms)
            (all_keep Fine stay ms z.sound.fine)

    abbrev settled_rings : Rings
    settled_rings = expired_all b.nodes b.handles left.charges p left.rings

    own_view : s / slots ≡ p → state_of (set_queues b (set_queued left settled_rings)) ≡ forget (state_of b) p s
    unfolding forget take_out with_charges with_queues
    own_view d = settled-bus ∙ ap (λ (x : State). with_queue x p (settle (handle_v b.handles p) (keep (remains p s) queue))) (left-view d) ∙ joined
      where
        settled-bus : state_of (set_queues b (set_queued left settled_rings)) ≡ with_queue (state_of left_bus) p (settle (handle_v b.handles p) (keep (remains p s) queue))
        settled-bus =
            rw (all-view b.nodes b.handles left.charges p left.pool l left.rings (left-fair d), left-queue d)

        joined : with_queue (take_out (state_of b) p (keep (dropped p s) (messages_in queue)) (keep (remains p s) queue)) p (settle (handle_v b.handles p) (keep (remains p s) queue))
            ≡ forget (state_of b) p s
        joined = rw (upd-twice (queue_v b.rings b.pool) p (keep (remains p s) queue) (settle (handle_v b.handles p) (keep (remains p s) queue)))

    pub forget-view : state_of (set_queues b (forgotten b.nodes b.handles (queues_in b) p s)) ≡ forget (state_of b) p s
    unfolding forgotten forgotten_own
    forget-view = go (same? (s / slots) p) (look (eqb (attached_of (charges_at b.charges p)) 0))
      where
        go : Same (s / slots) p → Seen (eqb (attached_of (charges_at b.charges p)) 0) →
            state_of (set_queues b (forgotten b.nodes b.handles (queues_in b) p s)) ≡ forget (state_of b) p s
        go (same d) (is_true e) = rw (eq-eqb (s / slots) p d, e) (bare-view d e)
        go (same d) (is_false e) = rw (eq-eqb (s / slots) p d, e) (own_view d)
        go (other d) e = rw (ne_eqb (s / slots) p d) (other-view d)

  -- The buffers keep their lengths, and no queue grows.
  abbrev Fits : Queues → Type 0
  Fits q = Shape (set_queues b q) × ((o : ℕ) → length_of q.rings.ends o ≤ length_of b.rings.ends o)

  fits-less : (q : Queues) (x : Rings) → Fits q → Less b.nodes b.handles q.charges p q.pool l q.rings x → Fits (set_queued q x)
  fits-less q x f y = (shape-queues h f.0.charges y.ends y.rows f.0.pool, λ o. omega (arith, y.lengths o, f.1 o))

  forgotten-fits : Fits (forgotten b.nodes b.handles (queues_in b) p s)
  unfolding forgotten forgotten_own
  forgotten-fits =
      let a = removed_from (queues_in b) p five in
      let five-fits : Fits a = (removed-shape five, removed-less five) in
      pick_all Fits (eqb (s / slots) p) _ _
      (pick_all Fits (eqb (attached_of (charges_at b.charges p)) 0) _ _
      (removed-shape seven, removed-less seven)
      (fits-less a _ five-fits
      (less-queue b.nodes b.handles a.charges p a.pool l a.rings five-fits.0.rows five-fits.0.ends)))
      (fits-less (queues_in b) _ (h, λ o. omega arith) (less-expired b.nodes b.handles b.charges p b.pool l b.rings s h.rows h.ends))

  pub shape-forgotten : Shape (set_queues b (forgotten b.nodes b.handles (queues_in b) p s))
  shape-forgotten = forgotten-fits.0

  pub forgotten-less : (o : ℕ) → length_of (forgotten b.nodes b.handles (queues_in b) p s).rings.ends o ≤ length_of b.rings.ends o
  forgotten-less o = forgotten-fits.1 o
