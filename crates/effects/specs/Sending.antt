-- Send: the code queues one message after another, the model all of them at once. After each message the queues are those of the model for the destinations so far.
-- Assumes nothing.
use Prim.Native.Nat.{ℕ, zero, suc, ◌+◌, ◌*◌, ◌-◌, ◌/◌, ◌%◌, ◌≤◌, ◌<◌}
use Rattle.std.specs.Prelude.{◌≡◌, Bool, true, false, List, [], ◌∷◌, ◌++◌, map, length, set, take, drop, replicate}
use Rattle.std.proofs.Math.Path.{refl, ap₂, fun_ext}
use Rattle.std.proofs.Common.{sym, ap, ◌∙◌, append_assoc, append-nil, length-append, get_or-set_same, set-set}
use Rattle.std.proofs.lemmas.List.{map-append, length-map, length-replicate}
use native.Mathlib.Omega.{arith}
use Rattle.std.proofs.Math.Nat.{mul-le-mul_left}
use Rattle.std.proofs.Math.ListN.{get_or, get_or-append}
use Rattle.std.proofs.Math.Seq.{length-sets, take-append_seam}
use Rattle.std.proofs.Math.Dec.{eqb}
use borrow.Author.Tests.{eq-eqb, ne_eqb}
use Rattle.laws.specs.Tests.{Seen, Seen.is_true, Seen.is_false, look, Same, Same.same, Same.other, same?, clash}
use Rattle.laws.specs.Tables.{upd, upd_same, upd_other}
use Rattle.laws.specs.Weights.{load, keep, All, load-append, keep_append, keep-le, all-at}
use Rattle.laws.specs.Loads.{all_map}
use Rattle.laws.specs.Build.{build, build-snoc, build-length, build-list}
use Rattle.laws.specs.Stores.{over}
use Rattle.ids.specs.declared.User.{User}
use Rattle.quota.specs.declared.Charge.{Charge}
use Rattle.quota.specs.declared.Charges.{Charges}
use Rattle.quota.specs.Charges.{users, nothing, plus, own, charged}
use Rattle.quota.proofs.Step.{own-at-most-half}
use Rattle.frames.specs.declared.Command.TheVariants.{Send}
use Rattle.frames.specs.declared.Sizes.{Sizes}
use Rattle.frames.specs.Frame.{most_ids, most_bytes, send_id, payload_of}
use Rattle.frames.specs.Legal as legal
use Rattle.frames.specs.Legal.{payload-length}
use Rattle.rings.specs.declared.Entry.{Entry as Row}
use Rattle.rings.specs.Rings.{kind_message, ring_size, ends_size, Sized, length_of, queue_of}
use Rattle.pool.specs.Pool.{area_size, pool_size, sum_of, bytes_in}
use Rattle.tables.specs.Peers.{accepted_at, user_at, count_command}
use Rattle.tables.specs.PeersView.{status_v, user_v, status-counted, user-counted, user-is, counted-length}
use Rattle.tables.specs.ChargesView.{charges_v, charges-four}
use Rattle.judges.specs.Orders.{eight, places_of}
use Rattle.model.specs.Numbers.{slots, nodes, owner}
use Rattle.model.specs.State.{Status, Status.unopened, Status.opened, Status.disconnected, Entry, Message, messages_in, Seed.kept, State, slot}
use Rattle.model.specs.State.Entry.{message}
use Rattle.model.specs.Requests.{destinations, attached}
use Rattle.model.specs.Tables.{accept, with_queues, with_charges}
use Rattle.model.specs.Refusals.{places_at, adds, fits, refuses_send, refusal}
use Rattle.model.specs.Changes.{push_all, arriving, deliver, reseed}
use Rattle.model.proofs.Tested.{tested}
use Rattle.model.specs.Resources.{Resource, limit, amount, share}
use Rattle.model.specs.Resources.Resource.{messages as of_messages, bytes as of_bytes, handles as of_handles}
use Rattle.model.specs.Charged.{weight_of, from_user, queued_by, Charged}
use Rattle.model.specs.Charging.{is-resource, reached-at}
use Rattle.model.specs.ChargedProof.{known-open}
use Rattle.model.proofs.ChargedProof.{charged-deliver}
use Rattle.model.specs.ChargedBounds.{queued_all, sound-within}
use Rattle.model.specs.Sending.{arriving-load}
use Rattle.model.specs.Quiet.{messages-append}
use Rattle.view.specs.View.{Bus, Shape, entry_v, queue_v, state_of, shape-peers, shape-seeds, set_peers}
use Rattle.view.specs.Rows.{queue-count}
use Rattle.queues.specs.Queues.{Queues, is_message, enqueued, charge_in, set_queues, shape-queues}
use Rattle.queues.specs.Entering.{entry-message, Filled, enqueue-sized, enqueue-ends, enqueue-pool, enqueue-size, enqueue-other, enqueue-length, enqueue-lengths, enqueue-charges, enqueue-sum, enqueue-view, filled-enqueued, filled-view, queue-bytes}
use Rattle.judges.specs.declared.Places.{Places}
use Rattle.effects.specs.Effects.{counted, message_to, sent_to, sends}
use Rattle.effects.specs.After.{queues_in, after_send}
use Rattle.effects.specs.Good.{Good}
use Rattle.effects.specs.Counting.{counting, counted-view, counted-number}
use Rattle.effects.specs.Seeding.{replaced-length, replaced-view}
use Rattle.ids.specs.Sizes.{peers, carried_fields}
use Rattle.tables.specs.Charges.{charges_size}

-- Two charges of one user are one; a charge of nothing changes nothing where no number is over 65,535.
plus-more : (o a b c : Charge) → c.messages ≡ a.messages + b.messages → c.bytes ≡ a.bytes + b.bytes → c.handles ≡ a.handles + b.handles →
    plus (plus o a) b ≡ plus o c
plus-more o a b c x y z = three _ _ _ _ _ _ (omega (arith, x)) (omega (arith, y)) (omega (arith, z))
  where
    three : (m n k m' n' k' : ℕ) → m ≡ m' → n ≡ n' → k ≡ k' → ◌≡◌ {A = Charge} (record { messages = m; bytes = n; handles = k }) (record { messages = m'; bytes = n'; handles = k' })
    three m n k m' n' k' e f g = rw (e, f, g)

charged-more : (t : Charges) (u : User) (a b c : Charge) → u.0 < length t.by →
    c.messages ≡ a.messages + b.messages → c.bytes ≡ a.bytes + b.bytes → c.handles ≡ a.handles + b.handles → charged (charged t u a) u b ≡ charged t u c
charged-more t u a b c l x y z =
    ap (λ (s : List Charge). record { by = s })
    (ap (λ (o : Charge). set (set t.by u.0 (plus (own t u) a)) u.0 (plus o b)) (get_or-set_same t.by u.0 (plus (own t u) a) nothing l)
    ∙ set-set t.by u.0 (plus (own t u) a) (plus (plus (own t u) a) b) ∙ ap (set t.by u.0) (plus-more (own t u) a b c x y z))

set_self : {A : Type 0} (l : List A) (i : ℕ) (d y : A) → y ≡ get_or l i d → set l i y ≡ l
set_self [] i d y e = refl
set_self (x ∷ l) zero d y e = ap (λ (v : _). v ∷ l) e
set_self (x ∷ l) (suc i) d y e = ap (◌∷◌ x) (set_self l i d y e)

-- No number of a charge is over 65,535.
abbrev Small : Charge → Type 0
Small c = (c.messages ≤ 65535) × (c.bytes ≤ 65535) × (c.handles ≤ 65535)

plus_none : (o a : Charge) → Small o → a.messages ≡ 0 → a.bytes ≡ 0 → a.handles ≡ 0 → plus o a ≡ o
plus_none o a s x y z = three _ _ _ _ _ _ (omega (arith, x, s.0)) (omega (arith, y, s.1)) (omega (arith, z, s.2))
  where
    three : (m n k m' n' k' : ℕ) → m ≡ m' → n ≡ n' → k ≡ k' → ◌≡◌ {A = Charge} (record { messages = m; bytes = n; handles = k }) (record { messages = m'; bytes = n'; handles = k' })
    three m n k m' n' k' e f g = rw (e, f, g)

charged-none : (t : Charges) (u : User) (a : Charge) → Small (own t u) → a.messages ≡ 0 → a.bytes ≡ 0 → a.handles ≡ 0 → charged t u a ≡ t
charged-none t u a s x y z = ap (λ (l : List Charge). record { by = l }) (set_self t.by u.0 nothing (plus (own t u) a) (plus_none (own t u) a s x y z))

-- One more destination: at its peer one message more, at the others none.
places-here : (q d : ℕ) (xs : List ℕ) → owner d ≡ q → places_at q (xs ++ (d ∷ [])) ≡ places_at q xs + 1
unfolding places_at
places-here q d xs e = rw (keep_append (λ d. eqb (owner d) q) xs (d ∷ []), length-append, eq-eqb (owner d) q e)

places-there : (q d : ℕ) (xs : List ℕ) → (owner d ≡ q → ⊥) → places_at q (xs ++ (d ∷ [])) ≡ places_at q xs
unfolding places_at
places-there q d xs e = rw (keep_append (λ d. eqb (owner d) q) xs (d ∷ []), length-append, ne_eqb (owner d) q e) (omega arith)

places-more : (q d : ℕ) (xs : List ℕ) → places_at q xs ≤ places_at q (xs ++ (d ∷ []))
places-more q d xs = go (same? (owner d) q)
  where
    go : Same (owner d) q → places_at q xs ≤ places_at q (xs ++ (d ∷ []))
    go (same e) = omega (arith, places-here q d xs e)
    go (other e) = omega (arith, places-there q d xs e)

-- The messages for the destinations xs that arrive at a peer.
abbrev message_for : ℕ → ℕ → List ℕ → List ℕ → ℕ → Entry
message_for n u hs bytes d = message n (record { to = d; user = u; payload = bytes; carried = hs })

unfoldable arrivals : ℕ → ℕ → List ℕ → List ℕ → List ℕ → ℕ → List Entry
arrivals n u hs bytes xs q = map (message_for n u hs bytes) (keep (λ d. eqb (owner d) q) xs)

module _ (n u : ℕ) (hs bytes : List ℕ) where
  arrivals-here : (q d : ℕ) (xs : List ℕ) → owner d ≡ q → arrivals n u hs bytes (xs ++ (d ∷ [])) q ≡ arrivals n u hs bytes xs q ++ (message_for n u hs bytes d ∷ [])
  unfolding arrivals
  arrivals-here q d xs e = rw (keep_append (λ d. eqb (owner d) q) xs (d ∷ []), eq-eqb (owner d) q e, map-append)

  arrivals-there : (q d : ℕ) (xs : List ℕ) → (owner d ≡ q → ⊥) → arrivals n u hs bytes (xs ++ (d ∷ [])) q ≡ arrivals n u hs bytes xs q
  unfolding arrivals
  arrivals-there q d xs e = rw (keep_append (λ d. eqb (owner d) q) xs (d ∷ []), ne_eqb (owner d) q e, append-nil)

-- The queues x are those of q with a message for each of the destinations xs.
record Sent (q : Queues) (n u : ℕ) (hs bytes xs : List ℕ) (x : Queues) : Type 0 where
  sized : Sized x.rings.rows
  ends : length x.rings.ends ≡ ends_size
  pool : length x.pool ≡ pool_size
  size : length x.charges ≡ charges_size
  filled : Filled x
  lengths : (o : ℕ) → o < peers → length_of x.rings.ends o ≡ length_of q.rings.ends o + places_at o xs
  sums : (o : ℕ) → o < peers → sum_of (queue_of x.rings o) ≡ sum_of (queue_of q.rings o) + places_at o xs * length bytes
  queue : (o : ℕ) → queue_v x.rings x.pool o ≡ queue_v q.rings q.pool o ++ arrivals n u hs bytes xs o
  charges : (o : ℕ) → charges_v x.charges o ≡ charged (charges_v q.charges o) (record { 0 = u }) (adds o xs (length bytes) (length hs))

-- At first.
sent-none : (q : Queues) (n u : ℕ) (hs bytes : List ℕ) → Sized q.rings.rows → length q.rings.ends ≡ ends_size → length q.pool ≡ pool_size → length q.charges ≡ charges_size →
    Filled q → ((o : ℕ) → Small (own (charges_v q.charges o) (record { 0 = u }))) → Sent q n u hs bytes [] q
unfolding places_at arrivals
sent-none q n u hs bytes s e p c f small =
    record {
      sized = s;
      ends = e;
      pool = p;
      size = c;
      filled = f;
      lengths = λ o l. omega arith;
      sums = λ o l. omega arith;
      queue = λ o. sym (append-nil (queue_v q.rings q.pool o));
      charges = λ o. sym (charged-none (charges_v q.charges o) (record { 0 = u }) (adds o [] (length bytes) (length hs)) (small o) refl (omega arith) (omega arith));
    }

-- The row of a message.
abbrev row_for : ℕ → ℕ → ℕ → List ℕ → List ℕ → ℕ → Row
row_for n u nh c bytes d = record { kind = kind_message; slot = d; user = u; nb = length bytes; nh = nh; carried = c; number = n }

row-message : (n u nh : ℕ) (c bytes : List ℕ) (d : ℕ) → is_message (row_for n u nh c bytes d) ≡ true
unfolding is_message
row-message n u nh c bytes d = refl

row-bytes : (n u nh : ℕ) (c bytes : List ℕ) (d : ℕ) → bytes_in (row_for n u nh c bytes d) ≡ length bytes
unfolding bytes_in
row-bytes n u nh c bytes d = refl

-- One message more.
module _ (q : Queues) (n u : ℕ) (hs bytes xs : List ℕ) (x : Queues) (h : Sent q n u hs bytes xs x) (d : ℕ) (c : List ℕ) (ld : d < nodes) (lu : u < users)
    (lc : length c ≡ carried_fields) (lh : length hs ≤ most_ids) (front : take (length hs) c ≡ hs)
    (fit : sum_of (queue_of q.rings (owner d)) + places_at (owner d) (xs ++ (d ∷ [])) * length bytes ≤ area_size)
    (room : length_of q.rings.ends (owner d) + places_at (owner d) (xs ++ (d ∷ [])) ≤ ring_size) where
  abbrev peer : ℕ
  peer = owner d

  abbrev row : Row
  row = row_for n u (length hs) c bytes d

  abbrev after : Queues
  after = enqueued x peer row bytes

  lp : peer < 8
  lp = omega arith

  one : places_at peer (xs ++ (d ∷ [])) ≡ places_at peer xs + 1
  one = places-here peer d xs refl

  fits-x : sum_of (queue_of x.rings peer) + length bytes ≤ area_size
  fits-x = omega (arith, h.sums peer lp, rw one at fit)

  room-x : length_of x.rings.ends peer < ring_size
  room-x = omega (arith, h.lengths peer lp, one)

  bytes-row : bytes_in row ≡ length bytes
  bytes-row = row-bytes n u (length hs) c bytes d

  lengths-after : (o : ℕ) → o < peers → Same peer o → length_of after.rings.ends o ≡ length_of q.rings.ends o + places_at o (xs ++ (d ∷ []))
  lengths-after o l (same z) = rw (← z) (enqueue-length x peer row bytes h.ends lp room-x ∙ omega (arith, h.lengths peer lp, one))
  lengths-after o l (other z) = enqueue-lengths x peer row bytes o z ∙ omega (arith, h.lengths o l, places-there o d xs z)

  sums-after : (o : ℕ) → o < peers → Same peer o → sum_of (queue_of after.rings o) ≡ sum_of (queue_of q.rings o) + places_at o (xs ++ (d ∷ [])) * length bytes
  sums-after o l (same z) =
      rw (← z) (enqueue-sum x peer row bytes h.sized h.ends h.pool lp h.filled bytes-row lc fits-x room-x ∙ rw one (omega (arith, h.sums peer lp)))
  sums-after o l (other z) = rw (places-there o d xs z) (ap sum_of (enqueue-other x peer row bytes o z) ∙ h.sums o l)

  entry_row : entry_v (record { entry = row; payload = bytes }) ≡ message_for n u hs bytes d
  entry_row =
      entry-message row bytes (row-message n u (length hs) c bytes d)
      ∙ ap (λ (k : List ℕ). message_for n u k bytes d) front

  view-after : queue_v after.rings after.pool ≡ upd (queue_v x.rings x.pool) peer (queue_v x.rings x.pool peer ++ (message_for n u hs bytes d ∷ []))
  view-after =
      enqueue-view x peer row bytes h.sized h.ends h.pool lp h.filled bytes-row lc fits-x room-x
      ∙ ap (λ (m : Entry). upd (queue_v x.rings x.pool) peer (queue_v x.rings x.pool peer ++ (m ∷ []))) entry_row

  queue-after : (o : ℕ) → Same peer o → queue_v after.rings after.pool o ≡ queue_v q.rings q.pool o ++ arrivals n u hs bytes (xs ++ (d ∷ [])) o
  queue-after o (same z) =
      rw (← z)
      (ap (λ (f : ℕ → List Entry). f peer) view-after ∙ upd_same (queue_v x.rings x.pool) peer _
      ∙ ap (λ (l : List Entry). l ++ (message_for n u hs bytes d ∷ [])) (h.queue peer)
      ∙ append_assoc (queue_v q.rings q.pool peer) (arrivals n u hs bytes xs peer) (message_for n u hs bytes d ∷ [])
      ∙ ap (λ (l : List Entry). queue_v q.rings q.pool peer ++ l) (sym (arrivals-here n u hs bytes peer d xs refl)))
  queue-after o (other z) =
      ap (λ (f : ℕ → List Entry). f o) view-after ∙ upd_other (queue_v x.rings x.pool) peer o _ z ∙ h.queue o
      ∙ ap (λ (l : List Entry). queue_v q.rings q.pool o ++ l) (sym (arrivals-there n u hs bytes o d xs z))

  abbrev sender : User
  sender = record { 0 = u }

  charges-after : (o : ℕ) → Same peer o → charges_v after.charges o ≡ charged (charges_v q.charges o) sender (adds o (xs ++ (d ∷ [])) (length bytes) (length hs))
  charges-after o (same z) =
      rw (← z)
      (ap (λ (f : ℕ → Charges). f peer) (enqueue-charges x peer row bytes h.size lp) ∙ upd_same (charges_v x.charges) peer (charged (charges_v x.charges peer) sender (charge_in row))
      ∙ ap (λ (t : Charges). charged t sender (charge_in row)) (h.charges peer)
      ∙ charged-more (charges_v q.charges peer) sender (adds peer xs (length bytes) (length hs)) (charge_in row) (adds peer (xs ++ (d ∷ [])) (length bytes) (length hs))
      (omega (arith, charges-four q.charges peer)) one (rw one (omega arith)) (rw one (omega arith)))
  charges-after o (other z) =
      ap (λ (f : ℕ → Charges). f o) (enqueue-charges x peer row bytes h.size lp) ∙ upd_other (charges_v x.charges) peer o (charged (charges_v x.charges peer) sender (charge_in row)) z
      ∙ h.charges o ∙ rw (places-there o d xs z)

  sent-more : Sent q n u hs bytes (xs ++ (d ∷ [])) after
  sent-more =
      record {
        sized = enqueue-sized x peer row bytes h.sized;
        ends = enqueue-ends x peer row bytes ∙ h.ends;
        pool = enqueue-pool x peer row bytes ∙ h.pool;
        size = enqueue-size x peer row bytes ∙ h.size;
        filled =
            filled-enqueued x peer row bytes h.sized h.ends h.pool lp h.filled bytes-row lc fits-x room-x h.size (row-message n u (length hs) c bytes d) lu;
        lengths = λ o l. lengths-after o l (same? peer o);
        sums = λ o l. sums-after o l (same? peer o);
        queue = λ o. queue-after o (same? peer o);
        charges = λ o. charges-after o (same? peer o);
      }

-- The code's row of a message is this one.
row_is : (s d n u nh : ℕ) (c bytes : List ℕ) → s ≡ d → u < users → length bytes < 65536 → nh < 65536 → message_to s u (length bytes) nh c n ≡ row_for n u nh c bytes d
unfolding message_to
row_is s d n u nh c bytes e lu lb lh =
    let a : u % users ≡ u = omega arith in
    let b : length bytes % 65536 ≡ length bytes = omega arith in
    let f : nh % 65536 ≡ nh = omega arith in
    rw (e, a, b, f)

-- The first k of some destinations.
unfoldable first_of : List ℕ → ℕ → List ℕ
first_of ds k = build (λ j. get_or ds j 0) k

first_more : (ds : List ℕ) (k : ℕ) → first_of ds (suc k) ≡ first_of ds k ++ (get_or ds k 0 ∷ [])
unfolding first_of
first_more ds k = build-snoc (λ j. get_or ds j 0) k

first-all : (ds : List ℕ) → first_of ds (length ds) ≡ ds
unfolding first_of
first-all ds = build-list 0 ds

first-none : (ds : List ℕ) → first_of ds 0 ≡ []
unfolding first_of build
first-none ds = refl

places-grow : (o : ℕ) (ds : List ℕ) (k m : ℕ) → places_at o (first_of ds k) ≤ places_at o (first_of ds (k + m))
places-grow o ds k zero = let e : k + 0 ≡ k = omega arith in rw e (omega arith)
places-grow o ds k (suc m) =
    let e : k + suc m ≡ suc (k + m) = omega arith in
    rw (e, first_more ds (k + m)) (omega (arith, places-grow o ds k m, places-more o (get_or ds (k + m) 0) (first_of ds (k + m))))

places-first : (o : ℕ) (ds : List ℕ) (k : ℕ) → k ≤ length ds → places_at o (first_of ds k) ≤ places_at o ds
places-first o ds k l =
    let e : k + (length ds - k) ≡ length ds = omega arith in
    rw (e, first-all ds) at (places-grow o ds k (length ds - k))

-- A message for each of the first k destinations.
module _ (q : Queues) (n u : ℕ) (ds hs bytes : List ℕ) (w : Places) (base : Sent q n u hs bytes [] q) (lu : u < users) (lw : length w.carried ≡ carried_fields) (lh : length hs ≤ most_ids)
    (lb : length bytes < 65536) (front : take (length hs) w.carried ≡ hs) (to : (k : ℕ) → k < length ds → get_or w.to k 0 ≡ get_or ds k 0)
    (inside : All (λ d. d < nodes) ds) (fit : (o : ℕ) → o < peers → sum_of (queue_of q.rings o) + places_at o ds * length bytes ≤ area_size)
    (room : (o : ℕ) → o < peers → length_of q.rings.ends o + places_at o ds ≤ ring_size) where
  sent-step : (k : ℕ) → suc k ≤ length ds → Sent q n u hs bytes (first_of ds k) (sent_to q u (length hs) w bytes n k) →
      Sent q n u hs bytes (first_of ds (suc k)) (sent_to q u (length hs) w bytes n (suc k))
  unfolding sent_to
  sent-step k l h =
      let d = get_or ds k 0 in
      let s = get_or w.to k 0 % nodes in
      let ld : d < nodes = all-at (λ d. d < nodes) ds k 0 inside l in
      let sd : s ≡ d = omega (arith, to k l) in
      let lo : owner d < 8 = omega arith in
      let more : places_at (owner d) (first_of ds k ++ (d ∷ [])) ≤ places_at (owner d) ds = rw (first_more ds k) at (places-first (owner d) ds (suc k) l) in
      let x = sent_to q u (length hs) w bytes n k in
      let made : enqueued x (s / slots) (message_to s u (length bytes) (length hs) w.carried n) bytes ≡ enqueued x (owner d) (row_for n u (length hs) w.carried bytes d) bytes =
      ap₂ (λ (o : ℕ) (r : Row). enqueued x o r bytes) (ap (λ (j : ℕ). j / slots) sd) (row_is s d n u (length hs) w.carried bytes sd lu lb (omega arith)) in
      rw (first_more ds k, made)
      (sent-more q n u hs bytes (first_of ds k) x h d w.carried ld lu lw lh front
      (omega (arith, fit (owner d) lo, mul-le-mul_left (length bytes) more)) (omega (arith, room (owner d) lo, more)))

  sent-first : (k : ℕ) → k ≤ length ds → Sent q n u hs bytes (first_of ds k) (sent_to q u (length hs) w bytes n k)
  unfolding sent_to
  sent-first zero l = rw (first-none ds) base
  sent-first (suc k) l = sent-step k l (sent-first k (omega arith))

  sent-all : Sent q n u hs bytes ds (sent_to q u (length hs) w bytes n (length ds))
  sent-all = rw (first-all ds) at (sent-first (length ds) (omega arith))

-- Some slots in an array of eight.
eight-over : (ss : List ℕ) → length ss ≤ most_ids → eight ss ≡ ss ++ drop (length ss) (replicate most_ids 0)
unfolding eight
eight-over ss l = over ss (replicate most_ids 0) (omega (arith, length-replicate {A = ℕ} most_ids 0))

pub eight-length : (ss : List ℕ) → length (eight ss) ≡ most_ids
unfolding eight
eight-length ss = length-sets (replicate most_ids 0) 0 ss ∙ length-replicate {A = ℕ} most_ids 0

pub eight-at : (ss : List ℕ) → length ss ≤ most_ids → (k : ℕ) → k < length ss → get_or (eight ss) k 0 ≡ get_or ss k 0
eight-at ss l k h = ap (λ (x : List ℕ). get_or x k 0) (eight-over ss l) ∙ get_or-append ss (drop (length ss) (replicate most_ids 0)) 0 k h

pub eight-front : (ss : List ℕ) → length ss ≤ most_ids → take (length ss) (eight ss) ≡ ss
eight-front ss l = ap (take (length ss)) (eight-over ss l) ∙ take-append_seam ss (drop (length ss) (replicate most_ids 0))

-- The bytes at each peer after a send that fits are within its limit.
load-le : {A : Type 0} (p : A → Bool) (w : A → ℕ) (xs : List A) → load p w xs ≤ load (λ x. true) w xs
load-le p w [] = omega arith
load-le p w (x ∷ xs) = go (look (p x)) (load-le p w xs)
  where
    go : Seen (p x) → load p w xs ≤ load (λ x. true) w xs → load p w (x ∷ xs) ≤ load (λ x. true) w (x ∷ xs)
    go (is_true e) ih = rw e (omega arith)
    go (is_false e) ih = rw e (omega arith)

pub bytes-within : (b : State) → Charged b → (u : ℕ) (ds hs payload : List ℕ) → u < users → All (λ s. s < nodes) ds → All (λ s. s < nodes) hs → length hs ≤ most_ids →
    length payload ≤ most_bytes → fits b u ds (length payload) (length hs) ≡ true → (q : ℕ) →
    queued_all of_bytes (messages_in (b.queue q)) + places_at q ds * length payload ≤ limit of_bytes
unfolding deliver with_charges push_all with_queues
bytes-within b h u ds hs payload lu ld la lh lb ok q =
    let old = messages_in (b.queue q) in
    let new = messages_in (arriving b u ds hs payload q) in
    let all : queued_all of_bytes (messages_in (b.queue q ++ arriving b u ds hs payload q)) + share of_bytes ≤ limit of_bytes =
    sound-within _ _ of_bytes ((charged-deliver b u ds hs payload h lu ld la lh lb ok).at q) in
    let both : queued_all of_bytes (messages_in (b.queue q ++ arriving b u ds hs payload q)) ≡ queued_all of_bytes old + queued_all of_bytes new =
    ap (queued_all of_bytes) (messages-append (b.queue q) (arriving b u ds hs payload q)) ∙ load-append (λ (m : Message). true) (weight_of of_bytes) old new in
    let mine : queued_by of_bytes u new ≡ places_at q ds * length payload = arriving-load b u ds hs payload q of_bytes u ∙ rw (eq-eqb u u refl) in
    omega (arith, all, both, mine, load-le (from_user u) (weight_of of_bytes) new)

-- The queues of a bus after a send that fits.
module _ (b : Bus) (s : Shape b) (g : Good (state_of b)) (n u : ℕ) (ds hs payload : List ℕ) (lu : u < users) (few : length ds ≤ most_ids) (lh : length hs ≤ most_ids) (lb : length payload ≤ most_bytes)
    (inside : All (λ d. d < nodes) ds) (held : All (λ d. d < nodes) hs) (ok : fits (state_of b) u ds (length payload) (length hs) ≡ true) where
  small : (o : ℕ) → Small (own (charges_v b.charges o) (record { 0 = u }))
  small o =
      let c = charges_v b.charges o in
      let half : (r : Resource) → amount r (own c (record { 0 = u })) ≤ limit r / 2 = λ r. own-at-most-half (is-resource r) c (record { 0 = u }) (reached-at c (g.charged.at o).reached r) in
      (omega (arith, half of_messages), omega (arith, half of_bytes), omega (arith, half of_handles))

  fit-bus : (o : ℕ) → o < peers → sum_of (queue_of b.rings o) + places_at o ds * length payload ≤ area_size
  fit-bus o l = omega (arith, bytes-within (state_of b) g.charged u ds hs payload lu inside held lh lb ok o, queue-bytes b.rings b.pool o l)

  room-bus : (o : ℕ) → o < peers → length_of b.rings.ends o + places_at o ds ≤ ring_size
  unfolding places_at
  room-bus o l = omega (arith, g.short o, queue-count b.rings b.pool o l, keep-le (λ d. eqb (owner d) o) ds)

  sent-bus : Sent (queues_in b) n u hs payload ds (sent_to (queues_in b) u (length hs) (record { to = eight ds; carried = eight hs }) payload n (length ds))
  sent-bus =
      sent-all (queues_in b) n u ds hs payload (record { to = eight ds; carried = eight hs })
      (sent-none (queues_in b) n u hs payload s.rows s.ends s.pool s.charges (filled-view (queues_in b) (λ o l. g.charged.at o)) small)
      lu (eight-length hs) lh (omega arith) (eight-front hs lh) (λ k l. eight-at ds few k l) inside fit-bus room-bus

-- Every table keeps its length, whatever the places.
module _ (q : Queues) (u nh : ℕ) (w : Places) (bytes : List ℕ) (n : ℕ) where
  sent-sized : Sized q.rings.rows → (k : ℕ) → Sized (sent_to q u nh w bytes n k).rings.rows
  unfolding sent_to
  sent-sized s zero = s
  sent-sized s (suc k) = enqueue-sized (sent_to q u nh w bytes n k) _ _ bytes (sent-sized s k)

  sent-ends : (k : ℕ) → length (sent_to q u nh w bytes n k).rings.ends ≡ length q.rings.ends
  unfolding sent_to
  sent-ends zero = refl
  sent-ends (suc k) = enqueue-ends (sent_to q u nh w bytes n k) _ _ bytes ∙ sent-ends k

  sent-pool : (k : ℕ) → length (sent_to q u nh w bytes n k).pool ≡ length q.pool
  unfolding sent_to
  sent-pool zero = refl
  sent-pool (suc k) = enqueue-pool (sent_to q u nh w bytes n k) _ _ bytes ∙ sent-pool k

  sent-charges : (k : ℕ) → length (sent_to q u nh w bytes n k).charges ≡ length q.charges
  unfolding sent_to
  sent-charges zero = refl
  sent-charges (suc k) = enqueue-size (sent_to q u nh w bytes n k) _ _ bytes ∙ sent-charges k

pub shape-send : (b : Bus) (p : ℕ) (z : Sizes) (w : Places) (bytes : List ℕ) → Shape b → Shape (after_send b p z w bytes)
unfolding sends counted
shape-send b p z w bytes s =
    let u = user_at (count_command b.peers) p in
    let n = accepted_at (count_command b.peers) in
    shape-seeds
    (shape-queues (shape-peers s (counted-length b.peers ∙ s.peers)) (sent-charges (queues_in b) u z.nh w bytes n z.nd ∙ s.charges)
    (sent-ends (queues_in b) u z.nh w bytes n z.nd ∙ s.ends) (sent-sized (queues_in b) u z.nh w bytes n s.rows z.nd)
    (sent-pool (queues_in b) u z.nh w bytes n z.nd ∙ s.pool))
    (replaced-length b.seeds p z w bytes ∙ s.seeds)

-- The user of a peer that is open, in the table with the command counted.
abbrev is_opened : Status → Bool
is_opened unopened = false
is_opened opened = true
is_opened disconnected = false

pub user-now : (ps : List ℕ) (p : ℕ) → p < peers → status_v ps p ≡ opened → user_at (count_command ps) p ≡ user_v ps p
user-now ps p l o =
    let same-status : status_v (count_command ps) p ≡ opened = ap (λ (f : ℕ → Status). f p) (status-counted ps) ∙ o in
    sym (user-is (count_command ps) p l (λ e. clash (ap is_opened (sym same-status ∙ e)))) ∙ ap (λ (f : ℕ → ℕ). f p) (user-counted ps)

-- Queues and charges changed, the other tables as they were.
with-queues : (b : Bus) (x : Queues) (f : ℕ → List Entry) (c : ℕ → Charges) → queue_v x.rings x.pool ≡ f → charges_v x.charges ≡ c →
    state_of (set_queues b x) ≡ with_charges (with_queues (state_of b) f) c
unfolding with_charges with_queues
with-queues b x f c e g = rw (e, g)

arriving-is : (a : State) (u : ℕ) (ds hs payload : List ℕ) (q : ℕ) → arrivals a.accepted u hs payload ds q ≡ arriving a u ds hs payload q
unfolding arrivals arriving
arriving-is a u ds hs payload q = refl

-- The queues of a bus after a send, as the model has them.
deliver-view : (b : Bus) → Shape b → Good (state_of b) → (u : ℕ) (ds hs payload : List ℕ) → u < users → length ds ≤ most_ids → length hs ≤ most_ids → length payload ≤ most_bytes →
    All (λ d. d < nodes) ds → All (λ d. d < nodes) hs → fits (state_of b) u ds (length payload) (length hs) ≡ true →
    (x : Queues) → x ≡ sent_to (queues_in b) u (length hs) (record { to = eight ds; carried = eight hs }) payload (accept (state_of b)).accepted (length ds) →
    state_of (set_queues (counting b) x) ≡ deliver (accept (state_of b)) u ds hs payload
unfolding deliver push_all accept
deliver-view b s g u ds hs payload lu few lh lb ind inh ok x e =
    let a = accept (state_of b) in
    let h : Sent (queues_in b) a.accepted u hs payload ds x = rw e (sent-bus b s g a.accepted u ds hs payload lu few lh lb ind inh ok) in
    with-queues (counting b) x (λ q. a.queue q ++ arriving a u ds hs payload q) (λ q. charged (a.charges q) (record { 0 = u }) (adds q ds (length payload) (length hs)))
    (fun_ext (λ q. h.queue q ∙ ap (λ (l : List Entry). queue_v b.rings b.pool q ++ l) (arriving-is a u ds hs payload q)))
    (fun_ext (λ q. h.charges q))
    ∙ ap
    (λ (t : State). with_charges (with_queues t (λ q. a.queue q ++ arriving a u ds hs payload q)) (λ q. charged (a.charges q) (record { 0 = u }) (adds q ds (length payload) (length hs))))
    (counted-view b s g)

-- The bus with the messages queued, and the seed as it was.
abbrev sent_bus : Bus → ℕ → Sizes → Places → List ℕ → Bus
sent_bus b p z w bytes =
    let x = sends b.peers (queues_in b) p z w bytes in
    set_queues (set_peers b x.peers) x.queues

sent-view : (b : Bus) → Shape b → Good (state_of b) → (p : ℕ) → p < peers → (f : List ℕ) (z : Sizes) → legal.Sized f z →
    refuses_send (state_of b) p (destinations f z) (attached f z) (length (payload_of f)) ≡ 0 →
    state_of (sent_bus b p z (places_of (slot (state_of b) p) f z) (payload_of f))
    ≡ deliver (accept (state_of b)) ((state_of b).user p) (map (slot (state_of b) p) (destinations f z)) (map (slot (state_of b) p) (attached f z)) (payload_of f)
unfolding sends counted places_of refusal
sent-view b s g p l f z sizes e =
    let st = state_of b in
    let t = tested st f (Send (record { 0 = p }) z) e in
    let ds = map (slot st p) (destinations f z) in
    let hs = map (slot st p) (attached f z) in
    let nd : length ds ≡ z.nd = length-map (destinations f z) (slot st p) ∙ build-length (λ k. (send_id f k).0) z.nd in
    let nh : length hs ≡ z.nh = length-map (attached f z) (slot st p) ∙ build-length (λ k. (send_id f (z.nd + k)).0) z.nh in
    let ok : fits st (st.user p) ds (length (payload_of f)) (length hs) ≡ true = rw (length-map (attached f z) (slot st p)) t.fitting in
    let u : user_at (count_command b.peers) p ≡ st.user p = user-now b.peers p l t.acting.is_open in
    deliver-view b s g (st.user p) ds hs (payload_of f) (known-open st p g.charged t.acting.is_open) (omega (arith, nd, sizes.few)) (omega (arith, nh, sizes.few-attached))
    (omega (arith, payload-length f z sizes, sizes.small))
    (all_map (λ d. d < nodes) (slot st p) (destinations f z) t.holds) (all_map (λ d. d < nodes) (slot st p) (attached f z) t.holds-attached) ok
    (sent_to (queues_in b) (user_at (count_command b.peers) p) z.nh (record { to = eight ds; carried = eight hs }) (payload_of f) (accepted_at (count_command b.peers)) z.nd)
    (rw (u, counted-number b s g, nd, nh))

pub send-view : (b : Bus) → Shape b → Good (state_of b) → (p : ℕ) → p < peers → (f : List ℕ) (z : Sizes) → legal.Sized f z →
    refuses_send (state_of b) p (destinations f z) (attached f z) (length (payload_of f)) ≡ 0 →
    state_of (after_send b p z (places_of (slot (state_of b) p) f z) (payload_of f))
    ≡ reseed (deliver (accept (state_of b)) ((state_of b).user p) (map (slot (state_of b) p) (destinations f z)) (map (slot (state_of b) p) (attached f z)) (payload_of f))
    (eqb z.nd 0) p (kept (payload_of f) (map (slot (state_of b) p) (attached f z)))
unfolding places_of refusal
send-view b s g p l f z sizes e =
    let st = state_of b in
    let t = tested st f (Send (record { 0 = p }) z) e in
    let hs = map (slot st p) (attached f z) in
    let w = places_of (slot st p) f z in
    let nh : length hs ≡ z.nh = length-map (attached f z) (slot st p) ∙ build-length (λ k. (send_id f (z.nd + k)).0) z.nh in
    let least : length hs ≤ most_ids = omega (arith, nh, sizes.few-attached) in
    let inside : All (λ d. d < nodes) hs = all_map (λ d. d < nodes) (slot st p) (attached f z) t.holds-attached in
    replaced-view (sent_bus b p z w (payload_of f)) p z w hs (payload_of f) s.seeds l (omega (arith, payload-length f z sizes, sizes.small)) sizes.few-attached
    (eight-length hs)
    (λ k lk. let m : k < length hs = omega (arith, nh) in rw (eight-at hs least k m) (all-at (λ d. d < nodes) hs k 0 inside m))
    (ap (λ (n : ℕ). take n (eight hs)) (sym nh) ∙ eight-front hs least)
    ∙ ap (λ (x : State). reseed x (eqb z.nd 0) p (kept (payload_of f) hs)) (sent-view b s g p l f z sizes e)
