-- What the queues' functions that put entries in, or drop all of them, do to the state that the tables stand for.
-- Assumes nothing.
use Rattle.std.specs.Prelude.{ℕ, ◌+◌, ◌≤◌, ◌<◌, min, ◌≡◌, Bool, true, false, not, get_or, set, take, drop, replicate, eqb, ltb}
use Rattle.std.proofs.Math.Path.{refl, sym, ap, ap₂}
use Rattle.std.proofs.Common.{◌∙◌, arith, length-drop, length-take-le, ext_get_or}
use mathlib.Core.List.{List, [], ◌∷◌, ◌++◌, map, append-nil}
use Rattle.std.proofs.Math.ListN.{length}
use Rattle.std.proofs.lemmas.List.{length-map, length-replicate, get_or-replicate}
use borrow.Author.Tests.{lt-ltb, ltb-true}
use Rattle.laws.specs.Tests.{pick, pick_all, Seen, Seen.is_true, Seen.is_false, look, Same, Same.same, Same.other, same?, clash}
use Rattle.laws.specs.Tables.{upd, upd_same, upd_other, map-set, map_at}
use Rattle.laws.specs.Weights.{load-append, all-imp}
use Rattle.laws.specs.Sums.{sum_to, sum, sum-ext, sum-set, at-most-sum}
use Rattle.laws.specs.Loads.{load-keys, sum-places}
use Rattle.ids.specs.declared.User.{User}
use Rattle.quota.specs.declared.Charge.{Charge}
use Rattle.quota.specs.declared.Charges.{Charges}
use Rattle.quota.specs.Charges.{users, nothing, plus, own, fresh_charges, charged, discharged}
use Rattle.quota.specs.Step.{each}
use Rattle.rings.specs.declared.Entry.{Entry as Row}
use Rattle.rings.specs.Rings.{kind_destroyed, kind_released, peers, ring_size, ends_size, Rings, Sized, head_of, length_of, queue_of, pushed}
use Rattle.rings.specs.Laws.{push-own, push-other, push-sized, push-ends, push-heads, push-length, push-lengths, after_clear, clear-own, clear-other, clear-ends, clear-length, clear-lengths}
use Rattle.pool.specs.Pool.{area_size, pool_size, Pair, paired, sum_of, bytes_in, appended}
use Rattle.pool.specs.Laws.{append-own, append-other, append-length}
use Rattle.pool.specs.Pairs.{paired-append}
use Rattle.tables.specs.Charges.{charges_size, charges_at, put_charges}
use Rattle.tables.specs.ChargesView.{charges_v, charges-is, charges-four, charges-length, charges-stored, charged-length, discharged-length}
use Rattle.model.specs.Resources.{Resource, Resource.messages, Resource.bytes, Resource.handles, amount}
use Rattle.model.specs.Changes.{charge_of, discharged_all}
use Rattle.model.specs.Charging.{reached-length}
use Rattle.model.proofs.Charging.{discharged-all-at}
use Rattle.model.specs.Charged.{weight_of, queued_by, Fine, Sound}
use Rattle.model.specs.ChargedBounds.{queued_all, sound-within}
use Rattle.model.specs.State.{Entry, Message, messages_in}
use Rattle.model.specs.State.Entry.{message, destroyed, released}
use Rattle.view.specs.View.{entry_v, area_of, rows_v, queue_v}
use Rattle.view.specs.Rows.{queue-own, queue-upd, rows_same, area-length, area-bytes}
use Rattle.queues.specs.Queues.{Queues, is_message, entered, enqueued, emptied, emptied_charges, sum_users, used_of, user_in, charge_in}
use Rattle.ids.specs.Sizes.{carried_fields}

-- A row of each kind as the entry that it stands for.
pub entry-message : (e : Row) (b : List ℕ) → is_message e ≡ true →
    entry_v (record { entry = e; payload = b }) ≡ message e.number (record { to = e.slot; user = e.user; payload = b; carried = take e.nh e.carried })
unfolding entry_v is_message
entry-message e b h = go (eqb e.kind kind_destroyed) (eqb e.kind kind_released) h
  where
    go : (x y : Bool) → pick x false (not y) ≡ true →
        pick x (destroyed e.number e.slot) (pick y (released e.number e.slot) (message e.number (record { to = e.slot; user = e.user; payload = b; carried = take e.nh e.carried })))
        ≡ message e.number (record { to = e.slot; user = e.user; payload = b; carried = take e.nh e.carried })
    go true y z = clash (sym z)
    go false true z = clash (sym z)
    go false false z = refl

pub entry-destroyed : (e : Row) (b : List ℕ) → e.kind ≡ kind_destroyed → entry_v (record { entry = e; payload = b }) ≡ destroyed e.number e.slot
unfolding entry_v
entry-destroyed e b h = rw h

pub entry-released : (e : Row) (b : List ℕ) → e.kind ≡ kind_released → entry_v (record { entry = e; payload = b }) ≡ released e.number e.slot
unfolding entry_v
entry-released e b h = rw h

-- A message has the bytes that its row says, a notice none.
pub message-bytes : (e : Row) → is_message e ≡ true → bytes_in e ≡ e.nb
unfolding is_message bytes_in
message-bytes e h = go (eqb e.kind kind_destroyed) (eqb e.kind kind_released) h
  where
    go : (x y : Bool) → pick x false (not y) ≡ true → pick x 0 (pick y 0 e.nb) ≡ e.nb
    go true y z = clash (sym z)
    go false true z = clash (sym z)
    go false false z = refl

pub notice-bytes : (e : Row) → is_message e ≡ false → bytes_in e ≡ 0
unfolding is_message bytes_in
notice-bytes e h = go (eqb e.kind kind_destroyed) (eqb e.kind kind_released) h
  where
    go : (x y : Bool) → pick x false (not y) ≡ false → pick x 0 (pick y 0 e.nb) ≡ 0
    go true y z = refl
    go false true z = refl
    go false false z = clash z

-- An entry appended to a queue that has room: the rings keep their sizes, and the peer's queue is one longer.
module _ (r : Rings) (p : ℕ) (e : Row) where
  pub enter-made : length_of r.ends p < ring_size → entered r p e ≡ pushed r p e
  unfolding entered
  enter-made room = rw (lt-ltb (length_of r.ends p) ring_size room)

  pub enter-sized : Sized r.rows → Sized (entered r p e).rows
  unfolding entered
  enter-sized s = pick_all (λ (x : Rings). Sized x.rows) (ltb (length_of r.ends p) ring_size) (pushed r p e) r (push-sized r p e s) s

  pub enter-ends : length (entered r p e).ends ≡ length r.ends
  unfolding entered
  enter-ends = pick_all (λ (x : Rings). length x.ends ≡ length r.ends) (ltb (length_of r.ends p) ring_size) (pushed r p e) r (push-ends r p e) refl

  pub enter-heads : (o : ℕ) → head_of (entered r p e).ends o ≡ head_of r.ends o
  unfolding entered
  enter-heads o = pick_all (λ (x : Rings). head_of x.ends o ≡ head_of r.ends o) (ltb (length_of r.ends p) ring_size) (pushed r p e) r (push-heads r p e o) refl

  pub enter-length : length r.ends ≡ ends_size → p < peers → length_of r.ends p < ring_size → length_of (entered r p e).ends p ≡ length_of r.ends p + 1
  enter-length n l room = ap (λ (x : Rings). length_of x.ends p) (enter-made room) ∙ push-length r p e n l

  pub enter-lengths : (o : ℕ) → (p ≡ o → ⊥) → length_of (entered r p e).ends o ≡ length_of r.ends o
  unfolding entered
  enter-lengths o d =
      pick_all (λ (x : Rings). length_of x.ends o ≡ length_of r.ends o) (ltb (length_of r.ends p) ring_size) (pushed r p e) r (push-lengths r p e o d) refl

  -- No queue becomes longer than its ring.
  pub enter-short : length r.ends ≡ ends_size → p < peers → (o : ℕ) → length_of r.ends o ≤ ring_size → length_of (entered r p e).ends o ≤ ring_size
  unfolding entered
  enter-short n l o h = go (look (ltb (length_of r.ends p) ring_size)) (same? p o)
    where
      go : Seen (ltb (length_of r.ends p) ring_size) → Same p o → length_of (pick (ltb (length_of r.ends p) ring_size) (pushed r p e) r).ends o ≤ ring_size
      go (is_true t) (same d) = rw (t, ← d) (omega (arith, push-length r p e n l, ltb-true (length_of r.ends p) ring_size t))
      go (is_true t) (other d) = rw t (omega (arith, push-lengths r p e o d))
      go (is_false t) x = rw t h

  -- As lists.
  pub enter-own : Sized r.rows → length r.ends ≡ ends_size → p < peers → length_of r.ends p < ring_size → length e.carried ≡ carried_fields →
      queue_of (entered r p e) p ≡ queue_of r p ++ (e ∷ [])
  enter-own s n l room c = ap (λ (x : Rings). queue_of x p) (enter-made room) ∙ push-own r p e s n l room c

  pub enter-other : (o : ℕ) → (p ≡ o → ⊥) → queue_of (entered r p e) o ≡ queue_of r o
  unfolding entered
  enter-other o d = pick_all (λ (x : Rings). queue_of x o ≡ queue_of r o) (ltb (length_of r.ends p) ring_size) (pushed r p e) r (push-other r p e o d) refl

map_snoc : (xs : List Pair) (x : Pair) → map entry_v (xs ++ (x ∷ [])) ≡ map entry_v xs ++ (entry_v x ∷ [])
map_snoc [] x = refl
map_snoc (y ∷ xs) x = ap (◌∷◌ (entry_v y)) (map_snoc xs x)

-- One more entry at the end of a queue, its payload behind those before it, as the view shows it.
module _ (r r' : Rings) (t t' : List ℕ) (p : ℕ) (e : Row) (b : List ℕ) (size : length b ≡ bytes_in e)
    (own : queue_of r' p ≡ queue_of r p ++ (e ∷ [])) (area : area_of t' p (sum_of (queue_of r p) + length b) ≡ area_of t p (sum_of (queue_of r p)) ++ b) where
  more-sum : sum_of (queue_of r' p) ≡ sum_of (queue_of r p) + length b
  more-sum = ap sum_of own ∙ load-append (λ (x : Row). true) bytes_in (queue_of r p) (e ∷ []) ∙ omega (arith, size)

  more_rows : rows_v r' t' p ≡ rows_v r t p ++ (record { entry = e; payload = b } ∷ [])
  unfolding rows_v
  more_rows =
      ap₂ paired own (ap (area_of t' p) more-sum ∙ area)
      ∙ paired-append (queue_of r p) e (area_of t p (sum_of (queue_of r p))) b (area-length t p (sum_of (queue_of r p))) size

  more-view : p < peers → ((o : ℕ) → o < peers → (p ≡ o → ⊥) → rows_v r' t' o ≡ rows_v r t o) →
      queue_v r' t' ≡ upd (queue_v r t) p (queue_v r t p ++ (entry_v (record { entry = e; payload = b }) ∷ []))
  more-view l others =
      queue-upd r r' t t' p (queue_v r t p ++ (entry_v (record { entry = e; payload = b }) ∷ [])) l
      (ap (map entry_v) more_rows ∙ map_snoc (rows_v r t p) (record { entry = e; payload = b })
      ∙ ap (λ (x : List Entry). x ++ (entry_v (record { entry = e; payload = b }) ∷ [])) (sym (queue-own r t p l)))
      others

-- A notice appended, as the view shows it.
pub enter-view : (r : Rings) (t : List ℕ) (p : ℕ) (e : Row) → Sized r.rows → length r.ends ≡ ends_size → p < peers → length_of r.ends p < ring_size →
    bytes_in e ≡ 0 → length e.carried ≡ carried_fields →
    queue_v (entered r p e) t ≡ upd (queue_v r t) p (queue_v r t p ++ (entry_v (record { entry = e; payload = [] }) ∷ []))
enter-view r t p e s n l room z c =
    let same_size : sum_of (queue_of r p) + 0 ≡ sum_of (queue_of r p) = omega arith in
    more-view r (entered r p e) t t p e [] (sym z) (enter-own r p e s n l room c)
    (ap (area_of t p) same_size ∙ sym (append-nil (area_of t p (sum_of (queue_of r p))))) l
    (λ o m d. rows_same r (entered r p e) t t o (enter-other r p e o d) refl)

-- The bytes of the messages that the view shows are those of the rows.
notice-left : (e : Row) (b : List ℕ) (q : List Entry) → is_message e ≡ false → messages_in (entry_v (record { entry = e; payload = b }) ∷ q) ≡ messages_in q
unfolding entry_v is_message
notice-left e b q h = go (eqb e.kind kind_destroyed) (eqb e.kind kind_released) h
  where
    go : (x y : Bool) → pick x false (not y) ≡ false →
        messages_in (pick x (destroyed e.number e.slot) (pick y (released e.number e.slot) (message e.number (record { to = e.slot; user = e.user; payload = b; carried = take e.nh e.carried }))) ∷ q)
        ≡ messages_in q
    go true y z = refl
    go false true z = refl
    go false false z = clash z

paired-bytes : (es : List Row) (l : List ℕ) → length l ≡ sum_of es → queued_all bytes (messages_in (map entry_v (paired es l))) ≡ sum_of es
unfolding paired
paired-bytes [] l h = refl
paired-bytes (e ∷ es) l h = go (look (is_message e)) (paired-bytes es (drop (bytes_in e) l) (simp length-drop (omega arith)))
  where
    size : length (take (bytes_in e) l) ≡ bytes_in e
    size = length-take-le (bytes_in e) l (omega arith)

    go : Seen (is_message e) → queued_all bytes (messages_in (map entry_v (paired es (drop (bytes_in e) l)))) ≡ sum_of es →
        queued_all bytes (messages_in (entry_v (record { entry = e; payload = take (bytes_in e) l }) ∷ map entry_v (paired es (drop (bytes_in e) l)))) ≡ bytes_in e + sum_of es
    go (is_true m) ih = rw (entry-message e (take (bytes_in e) l) m) (omega (arith, size, ih))
    go (is_false m) ih = rw (notice-left e (take (bytes_in e) l) (map entry_v (paired es (drop (bytes_in e) l))) m) (omega (arith, notice-bytes e m, ih))

pub queue-bytes : (r : Rings) (t : List ℕ) (p : ℕ) → p < peers → queued_all bytes (messages_in (queue_v r t p)) ≡ sum_of (queue_of r p)
unfolding rows_v
queue-bytes r t p l =
    ap (λ (x : List Entry). queued_all bytes (messages_in x)) (queue-own r t p l)
    ∙ paired-bytes (queue_of r p) (area_of t p (sum_of (queue_of r p))) (area-length t p (sum_of (queue_of r p)))

-- The users' bytes added up are those of the messages.
pub sound-used : (ms : List Message) (c : Charges) → Sound ms c → used_of c ≡ queued_all bytes ms
unfolding used_of
sound-used ms c h =
    let keys : sum_to (λ u. queued_by bytes u ms) users ≡ queued_all bytes ms =
    load-keys (weight_of bytes) (λ (m : Message). m.user) users ms (all-imp Fine (λ m. m.user < users) (λ m f. f.from) ms h.fine) in
    let each : sum_users (λ x. x.bytes) c ≡ sum_to (λ u. queued_by bytes u ms) users =
    sum-ext (λ u. (get_or c.by u nothing).bytes) (λ u. queued_by bytes u ms) users (λ u l. h.sums bytes u l) in
    omega (arith, keys, each, sound-within ms c bytes h)

-- Each peer's area is filled by its queue: what its users are charged is what its rows have, and that fits.
pub record Filled (q : Queues) : Type 0 where
  pub used : (o : ℕ) → o < peers → used_of (charges_at q.charges o) ≡ sum_of (queue_of q.rings o)
  pub within : (o : ℕ) → o < peers → sum_of (queue_of q.rings o) ≤ area_size

pub filled-view : (q : Queues) → ((o : ℕ) → o < peers → Sound (messages_in (queue_v q.rings q.pool o)) (charges_v q.charges o)) → Filled q
filled-view q h =
    record {
      used =
          λ o l.
          ap used_of (sym (charges-is q.charges o l)) ∙ sound-used (messages_in (queue_v q.rings q.pool o)) (charges_v q.charges o) (h o l)
          ∙ queue-bytes q.rings q.pool o l;
      within =
          λ o l. omega (arith, queue-bytes q.rings q.pool o l, sound-within (messages_in (queue_v q.rings q.pool o)) (charges_v q.charges o) bytes (h o l));
    }

-- A message appended with its payload, and charged: every table keeps its size, and the rings are as after any entry.
module _ (q : Queues) (p : ℕ) (e : Row) (b : List ℕ) where
  pub enqueue-rings : (enqueued q p e b).rings ≡ entered q.rings p e
  unfolding enqueued
  enqueue-rings = refl

  pub enqueue-sized : Sized q.rings.rows → Sized (enqueued q p e b).rings.rows
  unfolding enqueued
  enqueue-sized s = enter-sized q.rings p e s

  pub enqueue-ends : length (enqueued q p e b).rings.ends ≡ length q.rings.ends
  unfolding enqueued
  enqueue-ends = enter-ends q.rings p e

  pub enqueue-pool : length (enqueued q p e b).pool ≡ length q.pool
  unfolding enqueued
  enqueue-pool = append-length q.pool b p (used_of (charges_at q.charges p))

  pub enqueue-size : length (enqueued q p e b).charges ≡ length q.charges
  unfolding enqueued
  enqueue-size = charges-length q.charges p (charged (charges_at q.charges p) (user_in e) (charge_in e))

  -- The other peers' queues, and every length.
  pub enqueue-other : (o : ℕ) → (p ≡ o → ⊥) → queue_of (enqueued q p e b).rings o ≡ queue_of q.rings o
  unfolding enqueued
  enqueue-other o d = enter-other q.rings p e o d

  pub enqueue-length : length q.rings.ends ≡ ends_size → p < peers → length_of q.rings.ends p < ring_size →
      length_of (enqueued q p e b).rings.ends p ≡ length_of q.rings.ends p + 1
  unfolding enqueued
  enqueue-length n l room = enter-length q.rings p e n l room

  pub enqueue-lengths : (o : ℕ) → (p ≡ o → ⊥) → length_of (enqueued q p e b).rings.ends o ≡ length_of q.rings.ends o
  unfolding enqueued
  enqueue-lengths o d = enter-lengths q.rings p e o d

  -- The charges as the view shows them.
  pub enqueue-charges : length q.charges ≡ charges_size → p < peers →
      charges_v (enqueued q p e b).charges ≡ upd (charges_v q.charges) p (charged (charges_v q.charges p) (user_in e) (charge_in e))
  unfolding enqueued
  enqueue-charges n l =
      let c = charges_v q.charges p in
      let is : charges_at q.charges p ≡ c = sym (charges-is q.charges p l) in
      ap (λ (x : Charges). charges_v (put_charges q.charges p (charged x (user_in e) (charge_in e)))) is
      ∙ charges-stored q.charges p (charged c (user_in e) (charge_in e)) l n
      (charged-length c (user_in e) (charge_in e) ∙ charges-four q.charges p)

-- The bytes that the users have at a peer, as the sum of a list; one user is charged.
used-sum : (c : Charges) → length c.by ≡ users → used_of c ≡ min (sum (each (λ x. x.bytes) c)) area_size
unfolding used_of
used-sum c n =
    let f : Charge → ℕ = λ x. x.bytes in
    let at : (u : ℕ) → get_or (each f c) u 0 ≡ (get_or c.by u nothing).bytes = map_at f nothing refl c.by in
    let size : length (each f c) ≡ users = length-map c.by f ∙ n in
    let all : sum_to (λ u. get_or (each f c) u 0) users ≡ sum (each f c) = rw size at (sum-places (each f c)) in
    ap (λ (k : ℕ). min k area_size) (sym (sum-ext (λ u. get_or (each f c) u 0) (λ u. (get_or c.by u nothing).bytes) users (λ u l. at u)) ∙ all)

used-charged : (c : Charges) (u : User) (a : Charge) → length c.by ≡ users → u.0 < users → used_of c + a.bytes ≤ area_size →
    used_of (charged c u a) ≡ used_of c + a.bytes
used-charged c u a n l fit =
    let f : Charge → ℕ = λ x. x.bytes in
    let size : length (each f c) ≡ users = length-map c.by f ∙ n in
    let at : get_or (each f c) u.0 0 ≡ (own c u).bytes = map_at f nothing refl c.by u.0 in
    let new : ℕ = min ((own c u).bytes + a.bytes) 65535 in
    let made : each f (charged c u a) ≡ set (each f c) u.0 new = map-set f c.by u.0 (plus (own c u) a) in
    let total : sum (each f (charged c u a)) + get_or (each f c) u.0 0 ≡ sum (each f c) + new = rw made (sum-set (each f c) u.0 new (omega (arith, size))) in
    omega (arith, used-sum c n, used-sum (charged c u a) (charged-length c u a ∙ n), at, total, at-most-sum (each f c) u.0)

-- Such a message, where there is room for it, as the view shows it; and the areas are filled by their queues again.
module _ (q : Queues) (p : ℕ) (e : Row) (b : List ℕ) (s : Sized q.rings.rows) (n : length q.rings.ends ≡ ends_size) (k : length q.pool ≡ pool_size) (l : p < peers)
    (filled : Filled q) (size : bytes_in e ≡ length b) (eight : length e.carried ≡ carried_fields)
    (fit : sum_of (queue_of q.rings p) + length b ≤ area_size) (room : length_of q.rings.ends p < ring_size) where
  stored : (enqueued q p e b).pool ≡ appended q.pool p (sum_of (queue_of q.rings p)) b
  unfolding enqueued
  stored = ap (λ (x : ℕ). appended q.pool p x b) (filled.used p l)

  area-own : area_of (enqueued q p e b).pool p (sum_of (queue_of q.rings p) + length b) ≡ area_of q.pool p (sum_of (queue_of q.rings p)) ++ b
  area-own =
      let m = sum_of (queue_of q.rings p) in
      let t = appended q.pool p m b in
      ap (λ (x : List ℕ). area_of x p (m + length b)) stored ∙ area-bytes t p (m + length b) (omega (arith, append-length q.pool b p m))
      ∙ append-own q.pool b p m k l fit ∙ ap (λ (x : List ℕ). x ++ b) (sym (area-bytes q.pool p m (omega arith)))

  area-other : (o : ℕ) → o < peers → (p ≡ o → ⊥) → area_of (enqueued q p e b).pool o (sum_of (queue_of q.rings o)) ≡ area_of q.pool o (sum_of (queue_of q.rings o))
  area-other o h d =
      let m = sum_of (queue_of q.rings p) in
      let j = sum_of (queue_of q.rings o) in
      let t = appended q.pool p m b in
      ap (λ (x : List ℕ). area_of x o j) stored ∙ area-bytes t o j (omega (arith, append-length q.pool b p m, filled.within o h))
      ∙ append-other q.pool b p o m j d fit (filled.within o h) ∙ sym (area-bytes q.pool o j (omega (arith, filled.within o h)))

  pub enqueue-own : queue_of (enqueued q p e b).rings p ≡ queue_of q.rings p ++ (e ∷ [])
  unfolding enqueued
  enqueue-own = enter-own q.rings p e s n l room eight

  -- What the next message finds: one more entry and its bytes.
  pub enqueue-sum : sum_of (queue_of (enqueued q p e b).rings p) ≡ sum_of (queue_of q.rings p) + length b
  enqueue-sum = more-sum q.rings (enqueued q p e b).rings q.pool (enqueued q p e b).pool p e b (sym size) enqueue-own area-own

  pub enqueue-view : queue_v (enqueued q p e b).rings (enqueued q p e b).pool
      ≡ upd (queue_v q.rings q.pool) p (queue_v q.rings q.pool p ++ (entry_v (record { entry = e; payload = b }) ∷ []))
  enqueue-view =
      more-view q.rings (enqueued q p e b).rings q.pool (enqueued q p e b).pool p e b (sym size) enqueue-own area-own l
      (λ o h d. rows_same q.rings (enqueued q p e b).rings q.pool (enqueued q p e b).pool o (enqueue-other q p e b o d) (area-other o h d))

  pub filled-enqueued : length q.charges ≡ charges_size → is_message e ≡ true → e.user < users → Filled (enqueued q p e b)
  filled-enqueued h m u = record { used = λ o g. used-go o g (same? p o); within = λ o g. within-go o g (same? p o) }
    where
      c : Charges
      c = charges_v q.charges p

      charges : (o : ℕ) → o < peers → charges_at (enqueued q p e b).charges o ≡ upd (charges_v q.charges) p (charged c (user_in e) (charge_in e)) o
      charges o g = sym (charges-is (enqueued q p e b).charges o g) ∙ ap (λ (f : ℕ → Charges). f o) (enqueue-charges q p e b h l)

      used-before : (o : ℕ) → o < peers → used_of (charges_v q.charges o) ≡ sum_of (queue_of q.rings o)
      used-before o g = ap used_of (charges-is q.charges o g) ∙ filled.used o g

      used-go : (o : ℕ) → o < peers → Same p o → used_of (charges_at (enqueued q p e b).charges o) ≡ sum_of (queue_of (enqueued q p e b).rings o)
      used-go o g (same d) =
          rw (← d)
          (ap used_of (charges p l ∙ upd_same (charges_v q.charges) p (charged c (user_in e) (charge_in e)))
          ∙ used-charged c (user_in e) (charge_in e) (charges-four q.charges p) u (omega (arith, used-before p l, size, message-bytes e m))
          ∙ omega (arith, used-before p l, size, message-bytes e m, enqueue-sum))
      used-go o g (other d) =
          ap used_of (charges o g ∙ upd_other (charges_v q.charges) p o (charged c (user_in e) (charge_in e)) d) ∙ used-before o g ∙ ap sum_of (sym (enqueue-other q p e b o d))

      within-go : (o : ℕ) → o < peers → Same p o → sum_of (queue_of (enqueued q p e b).rings o) ≤ area_size
      within-go o g (same d) = rw (← d) (omega (arith, enqueue-sum))
      within-go o g (other d) = rw (enqueue-other q p e b o d) (filled.within o g)

-- No entry, no row.
rows_none : (r : Rings) (t : List ℕ) (p : ℕ) → queue_of r p ≡ [] → rows_v r t p ≡ []
unfolding rows_v paired
rows_none r t p h = rw h

-- All entries dropped, with their charges: every table keeps its size, the peer's queue is empty and nothing is charged there.
module _ (q : Queues) (p : ℕ) where
  pub empty-rows : (emptied q p).rings.rows ≡ q.rings.rows
  unfolding emptied
  empty-rows = refl

  pub empty-pool : (emptied q p).pool ≡ q.pool
  unfolding emptied
  empty-pool = refl

  pub empty-ends : length (emptied q p).rings.ends ≡ length q.rings.ends
  unfolding emptied
  empty-ends = clear-ends q.rings p

  pub empty-size : length (emptied q p).charges ≡ length q.charges
  unfolding emptied emptied_charges
  empty-size = charges-length q.charges p fresh_charges

  pub empty-length : length q.rings.ends ≡ ends_size → p < peers → length_of (emptied q p).rings.ends p ≡ 0
  unfolding emptied
  empty-length n l = clear-length q.rings p n l

  pub empty-lengths : (o : ℕ) → (p ≡ o → ⊥) → length_of (emptied q p).rings.ends o ≡ length_of q.rings.ends o
  unfolding emptied
  empty-lengths o d = clear-lengths q.rings p o d

  pub empty-view : length q.rings.ends ≡ ends_size → p < peers → queue_v (emptied q p).rings (emptied q p).pool ≡ upd (queue_v q.rings q.pool) p []
  unfolding emptied
  empty-view n l =
      queue-upd q.rings (after_clear q.rings p) q.pool q.pool p [] l (ap (map entry_v) none)
      (λ o m d. rows_same q.rings (after_clear q.rings p) q.pool q.pool o (clear-other q.rings p o d) refl)
    where
      none : rows_v (after_clear q.rings p) q.pool p ≡ []
      none = rows_none (after_clear q.rings p) q.pool p (clear-own q.rings p n l)

  pub empty-charges : length q.charges ≡ charges_size → p < peers → charges_v (emptied q p).charges ≡ upd (charges_v q.charges) p fresh_charges
  unfolding emptied emptied_charges
  empty-charges n l = charges-stored q.charges p fresh_charges l n refl

-- What the model makes of the charges where every message leaves: nothing stays.
discharged-all-length : (c : Charges) (ms : List Message) → length (discharged_all c ms).by ≡ length c.by
discharged-all-length c [] = refl
discharged-all-length c (m ∷ ms) =
    discharged-all-length (discharged c (record { 0 = m.user }) (charge_of m)) ms ∙ discharged-length c (record { 0 = m.user }) (charge_of m)

nothing_is : (x : Charge) → x.messages ≡ 0 → x.bytes ≡ 0 → x.handles ≡ 0 → x ≡ nothing
nothing_is x a b c = go x.messages x.bytes x.handles a b c
  where
    go : (m n k : ℕ) → m ≡ 0 → n ≡ 0 → k ≡ 0 → record { messages = m; bytes = n; handles = k } ≡ nothing
    go m n k a b c = rw (a, b, c)

pub all-discharged : (ms : List Message) (c : Charges) → Sound ms c → discharged_all c ms ≡ fresh_charges
all-discharged ms c h = ap (λ (l : List Charge). record { by = l }) (ext_get_or nothing d.by (replicate users nothing) (size ∙ sym (length-replicate users nothing)) each-is)
  where
    four : length c.by ≡ users
    four = reached-length c h.reached

    d : Charges
    d = discharged_all c ms

    size : length d.by ≡ users
    size = discharged-all-length c ms ∙ four

    none : (r : Resource) (u : ℕ) → u < users → amount r (own d (record { 0 = u })) ≡ 0
    none r u l = discharged-all-at r c ms u (omega (arith, four)) ∙ omega (arith, h.sums r u l)

    each-is : (u : ℕ) → u < length d.by → get_or d.by u nothing ≡ get_or (replicate users nothing) u nothing
    each-is u g =
        let l : u < users = omega (arith, size) in
        nothing_is (get_or d.by u nothing) (none messages u l) (none bytes u l) (none handles u l) ∙ sym (get_or-replicate users u nothing nothing l)
