-- What leaves the queues, in the model's words: the oldest entry taken out, notices withdrawn, entries removed with their payloads and charges.
-- Assumes nothing.
use Rattle.std.specs.Prelude.{ℕ, ◌+◌, ◌*◌, ◌-◌, ◌/◌, ◌%◌, min, ◌≤◌, ◌<◌, ◌≡◌, Bool, true, false, not, take, drop, eqb, leb}
use Rattle.std.proofs.Math.Path.{refl, ap}
use Rattle.std.proofs.Common.{sym, ap₂, ◌∙◌, arith, eq-eqb, ne_eqb, le-leb}
use mathlib.Core.List.{List, [], ◌∷◌, map}
use Rattle.std.proofs.Math.ListN.{length}
use Rattle.laws.specs.Tests.{pick, Seen, Seen.is_true, Seen.is_false, look, clash, pick_all, Same, Same.same, Same.other, same?}
use Rattle.laws.specs.Tables.{upd}
use Rattle.laws.specs.Weights.{All, keep, keep-map, load_split}
use Rattle.ids.specs.declared.User.{User}
use Rattle.quota.specs.declared.Charge.{Charge}
use Rattle.quota.specs.declared.Charges.{Charges}
use Rattle.quota.specs.Charges.{users, discharged}
use Rattle.rings.specs.declared.Entry.{Entry as Row}
use Rattle.rings.specs.declared.Match.{Match}
use Rattle.rings.specs.Rings.{message_bit, destroyed_bit, released_bit, all_bits, slots, ring_size, ends_size, Rings, Sized, length_of, queue_of, first_of, bit_at, matches, one_slot, removed}
use Rattle.rings.specs.Laws.{after_pop, pop-ends, pop-length, pop-lengths, pop-own, pop-other, remove-sized, remove-ends, remove-lengths, remove-length as rings-less, remove-own as rings-own, remove-other as rings-other}
use Rattle.rings.specs.Matches.{matches-set, matches-one}
use Rattle.pool.specs.Pool.{area_size, pool_size, bytes_of, closed, bytes_in, Pair, paired, sum_of, kept_pieces}
use Rattle.pool.specs.Laws.{close-own, close_other, close-length}
use Rattle.pool.proofs.Pairs.{remove-place, remove-own as pool-own, remove-other as pool-other, remove-length as pool-length}
use Rattle.tables.specs.Charges.{charges_size, charges_at, put_charges}
use Rattle.tables.specs.ChargesView.{charges_v, charges-is, charges-four, charges-length, charges-stored, discharged-length}
use Rattle.model.specs.Lists.{both}
use Rattle.model.specs.State.{Message, Entry, Entry.message, Entry.destroyed, Entry.released, messages_in}
use Rattle.model.specs.Changes.{charge_of, discharged_all, not_released, dropped, remains}
use Rattle.view.specs.View.{entry_v, area_of, rows_v, queue_v}
use Rattle.view.specs.Rows.{area-bytes, queue-own, queue-upd, rows_same}
use Rattle.queues.specs.Queues.{Queues, set_queued, Short, used_of, is_message, charge_in, user_in, settled_charges, settled_pool, taken_out, lessened, lessened_all, withdrawn, removed_from}
use Rattle.queues.specs.Asking.{message_v, Kind, Kind.is-message, Kind.is-destroyed, Kind.is-released, kind, Whole, rows_whole, charge-view, front_v, rows-front, front-whole}
use Rattle.ids.specs.Sizes.{peers}

-- No queue has more payload bytes than its area.
abbrev pub Within : Rings → Type 0
Within r = (o : ℕ) → o < peers → sum_of (queue_of r o) ≤ area_size

-- The two sides of a test of equality.
eqb-turn : (a b : ℕ) → eqb a b ≡ eqb b a
eqb-turn a b = go (same? a b)
  where
    go : Same a b → eqb a b ≡ eqb b a
    go (same e) = rw e
    go (other d) = rw (ne_eqb a b d, ne_eqb b a (λ e. d (sym e)))

-- Bytes of an area that a change of the pool leaves.
area_same : (t t' : List ℕ) (o n : ℕ) → length t ≡ pool_size → length t' ≡ pool_size → o < peers → n ≤ area_size → bytes_of t' o n ≡ bytes_of t o n → area_of t' o n ≡ area_of t o n
area_same t t' o n a b l h e = area-bytes t' o n (omega arith) ∙ e ∙ sym (area-bytes t o n (omega arith))

-- The charges of a peer stored anew.
stored-view : (t : List ℕ) (p : ℕ) (c d : Charges) → length t ≡ charges_size → p < peers → length c.by ≡ users → c ≡ d → charges_v (put_charges t p c) ≡ upd (charges_v t) p d
stored-view t p c d size l four e = charges-stored t p c l size four ∙ ap (upd (charges_v t) p) e

-- The oldest entry taken out.
module _ (q : Queues) (p : ℕ) (e : Row) where
  pub taken-message : is_message e ≡ true →
      taken_out q p e ≡ record { charges = settled_charges q.charges p e; rings = after_pop q.rings p; pool = settled_pool q.charges q.pool p e }
  unfolding taken_out
  taken-message h = rw h

  pub taken-notice : is_message e ≡ false → taken_out q p e ≡ set_queued q (after_pop q.rings p)
  unfolding taken_out
  taken-notice h = rw h

  pub taken-rings : (taken_out q p e).rings ≡ after_pop q.rings p
  taken-rings = go (look (is_message e))
    where
      go : Seen (is_message e) → (taken_out q p e).rings ≡ after_pop q.rings p
      go (is_true h) = ap (λ (x : Queues). x.rings) (taken-message h)
      go (is_false h) = ap (λ (x : Queues). x.rings) (taken-notice h)

  pub taken-rows : Sized q.rings.rows → Sized (taken_out q p e).rings.rows
  taken-rows s = rw taken-rings s

  pub taken-ends : length (taken_out q p e).rings.ends ≡ length q.rings.ends
  taken-ends = rw taken-rings (pop-ends q.rings p)

  pub taken-length : length q.rings.ends ≡ ends_size → p < peers → length_of (taken_out q p e).rings.ends p ≡ length_of q.rings.ends p - 1
  taken-length size l = rw taken-rings (pop-length q.rings p size l)

  pub taken-lengths : (o : ℕ) → (p ≡ o → ⊥) → length_of (taken_out q p e).rings.ends o ≡ length_of q.rings.ends o
  taken-lengths o ne = rw taken-rings (pop-lengths q.rings p o ne)

  pub taken-short : length q.rings.ends ≡ ends_size → p < peers → Short q.rings.ends → Short (taken_out q p e).rings.ends
  taken-short size l h o k = go (same? p o)
    where
      go : Same p o → length_of (taken_out q p e).rings.ends o ≤ ring_size
      go (same z) = rw (← z) (omega (arith, taken-length size l, h p l))
      go (other z) = omega (arith, taken-lengths o z, h o k)

  pub taken-pool : length (taken_out q p e).pool ≡ length q.pool
  unfolding settled_pool
  taken-pool = go (look (is_message e))
    where
      go : Seen (is_message e) → length (taken_out q p e).pool ≡ length q.pool
      go (is_true h) =
          ap (λ (x : Queues). length x.pool) (taken-message h)
          ∙ close-length q.pool p 0 (min e.nb (used_of (charges_at q.charges p))) (used_of (charges_at q.charges p))
      go (is_false h) = ap (λ (x : Queues). length x.pool) (taken-notice h)

  pub taken-charged : length (taken_out q p e).charges ≡ length q.charges
  unfolding settled_charges
  taken-charged = go (look (is_message e))
    where
      go : Seen (is_message e) → length (taken_out q p e).charges ≡ length q.charges
      go (is_true h) =
          ap (λ (x : Queues). length x.charges) (taken-message h)
          ∙ charges-length q.charges p (discharged (charges_at q.charges p) (user_in e) (charge_in e))
      go (is_false h) = ap (λ (x : Queues). length x.charges) (taken-notice h)

  pub taken-same : is_message e ≡ false → (taken_out q p e).charges ≡ q.charges
  taken-same h = ap (λ (x : Queues). x.charges) (taken-notice h)

  pub taken-charges : length q.charges ≡ charges_size → p < peers → is_message e ≡ true →
      charges_v (taken_out q p e).charges ≡ upd (charges_v q.charges) p (discharged (charges_v q.charges p) (user_in e) (charge_in e))
  unfolding settled_charges
  taken-charges size l h =
      let here : charges_v q.charges p ≡ charges_at q.charges p = charges-is q.charges p l in
      let four : length (discharged (charges_at q.charges p) (user_in e) (charge_in e)).by ≡ users =
      discharged-length (charges_at q.charges p) (user_in e) (charge_in e) ∙ ap (λ (c : Charges). length c.by) (sym here) ∙ charges-four q.charges p in
      ap (λ (x : Queues). charges_v x.charges) (taken-message h)
      ∙ stored-view q.charges p (discharged (charges_at q.charges p) (user_in e) (charge_in e)) (discharged (charges_v q.charges p) (user_in e) (charge_in e)) size l four
      (ap (λ (c : Charges). discharged c (user_in e) (charge_in e)) (sym here))

-- The same, of the message that the oldest entry is.
pub taken-discharged : (q : Queues) (p : ℕ) (e : Row) → length q.rings.ends ≡ ends_size → length q.charges ≡ charges_size → p < peers → 0 < length_of q.rings.ends p →
    e ≡ first_of q.rings p → is_message e ≡ true →
    charges_v (taken_out q p e).charges ≡ upd (charges_v q.charges) p (discharged_all (charges_v q.charges p) (message_v (front_v q.rings q.pool p) ∷ []))
taken-discharged q p e ends size l some is h =
    let x = front_v q.rings q.pool p in
    let w : Whole x = front-whole q.rings q.pool p ends l some in
    let counts : charge_of (message_v x) ≡ charge_in e = charge-view x (ap is_message (sym is) ∙ h) w.size w.eight ∙ ap charge_in (sym is) in
    let whose : user_in e ≡ user_in x.entry = ap user_in is in
    taken-charges q p e size l h
    ∙ ap₂ (λ (u : User) (a : Charge). upd (charges_v q.charges) p (discharged (charges_v q.charges p) u a)) whose (sym counts)

-- What the queue of p is behind its oldest entry: the rows of a pool that holds their bytes from the area's start on, and the other areas as they were.
popped-view : (r : Rings) (t t' : List ℕ) (p : ℕ) → length r.ends ≡ ends_size → length t ≡ pool_size → length t' ≡ pool_size → p < peers → 0 < length_of r.ends p → Within r →
    area_of t' p (sum_of (queue_of (after_pop r p) p)) ≡ drop (bytes_in (first_of r p)) (area_of t p (sum_of (queue_of r p))) →
    ((o n : ℕ) → (p ≡ o → ⊥) → n ≤ area_size → bytes_of t' o n ≡ bytes_of t o n) →
    queue_v (after_pop r p) t' ≡ upd (queue_v r t) p (drop 1 (queue_v r t p))
unfolding rows_v
popped-view r t t' p ends a b l some fit own rest = queue-upd r (after_pop r p) t t' p (drop 1 (queue_v r t p)) l here there
  where
    behind : List Row
    behind = queue_of (after_pop r p) p

    whole : queue_v r t p ≡ entry_v (front_v r t p) ∷ map entry_v (paired behind (drop (bytes_in (first_of r p)) (area_of t p (sum_of (queue_of r p)))))
    whole = queue-own r t p l ∙ ap (map entry_v) (rows-front r t p ends l some)

    here : map entry_v (paired behind (area_of t' p (sum_of behind))) ≡ drop 1 (queue_v r t p)
    here = ap (λ (x : List ℕ). map entry_v (paired behind x)) own ∙ sym (ap (drop 1) whole)

    there : (o : ℕ) → o < peers → (p ≡ o → ⊥) → rows_v (after_pop r p) t' o ≡ rows_v r t o
    there o k ne =
        rows_same r (after_pop r p) t t' o (pop-other r p o ne)
        (area_same t t' o (sum_of (queue_of r o)) a b k (fit o k) (rest o (sum_of (queue_of r o)) ne (fit o k)))

-- The bytes of an area once its first n are taken out.
closed-front : (t : List ℕ) (p n k used : ℕ) → length t ≡ pool_size → p < peers → used ≡ n + k → used ≤ area_size → area_of (closed t p 0 n used) p k ≡ drop n (area_of t p used)
closed-front t p n k used size l e fit =
    let z : used - n ≡ k = omega arith in
    area-bytes (closed t p 0 n used) p k (omega (arith, close-length t p 0 n used))
    ∙ ap (bytes_of (closed t p 0 n used) p) (sym z)
    ∙ close-own t p 0 n used size l (omega arith) fit
    ∙ ap (λ (x : ℕ). drop x (bytes_of t p used)) (zero_left n)
    ∙ ap (drop n) (sym (area-bytes t p used (omega arith)))
  where
    zero_left : (x : ℕ) → 0 + x ≡ x
    zero_left x = omega arith

pub taken-view : (q : Queues) (p : ℕ) (e : Row) → length q.rings.ends ≡ ends_size → length q.pool ≡ pool_size → p < peers → 0 < length_of q.rings.ends p → Within q.rings →
    used_of (charges_at q.charges p) ≡ sum_of (queue_of q.rings p) → e ≡ first_of q.rings p →
    queue_v (taken_out q p e).rings (taken_out q p e).pool ≡ upd (queue_v q.rings q.pool) p (drop 1 (queue_v q.rings q.pool p))
unfolding settled_pool
taken-view q p e ends size l some fit used is = go (kind x)
  where
    x : Pair
    x = record { entry = e; payload = [] }

    behind : List Row
    behind = queue_of (after_pop q.rings p) p

    n : ℕ
    n = bytes_in (first_of q.rings p)

    total : sum_of (queue_of q.rings p) ≡ n + sum_of behind
    total = ap sum_of (pop-own q.rings p ends l some)

    Goal : Queues → Type 0
    Goal y = queue_v y.rings y.pool ≡ upd (queue_v q.rings q.pool) p (drop 1 (queue_v q.rings q.pool p))

    notice : is_message e ≡ false → bytes_in e ≡ 0 → Goal (taken_out q p e)
    notice h b =
        let z : n ≡ 0 = ap bytes_in (sym is) ∙ b in
        let f : sum_of behind ≡ sum_of (queue_of q.rings p) = omega (arith, total, z) in
        rw (taken-notice q p e h)
        (popped-view q.rings q.pool q.pool p ends size size l some fit
        (ap (area_of q.pool p) f ∙ ap (λ (k : ℕ). drop k (area_of q.pool p (sum_of (queue_of q.rings p)))) (sym z))
        (λ o k ne h. refl))

    go : Kind x → Goal (taken_out q p e)
    go (is-message h b k f) =
        let c = used_of (charges_at q.charges p) in
        let z : e.nb ≡ n = sym b ∙ ap bytes_in is in
        let g : min e.nb c ≡ n = omega (arith, used, total, z) in
        let s : c ≤ area_size = omega (arith, used, fit p l) in
        let t' = closed q.pool p 0 n c in
        rw (taken-message q p e h, g)
        (popped-view q.rings q.pool t' p ends size (close-length q.pool p 0 n c ∙ size) l some fit
        (closed-front q.pool p n (sum_of behind) c size l (used ∙ total) s ∙ ap (λ (k : ℕ). drop n (area_of q.pool p k)) used)
        (λ o k ne h. close_other q.pool p o 0 n c k ne size l (omega (arith, used, total)) s h))
    go (is-destroyed h b k f) = notice h b
    go (is-released h b k f) = notice h b

-- A removal of entries that have no payload leaves the bytes as they are.
kept-bytes : (m : Match) (es : List Row) → ((e : Row) → matches m e ≡ true → bytes_in e ≡ 0) → sum_of (keep (λ e. not (matches m e)) es) ≡ sum_of es
kept-bytes m [] h = refl
kept-bytes m (e ∷ es) h = go (look (matches m e)) (kept-bytes m es h)
  where
    go : Seen (matches m e) → sum_of (keep (λ d. not (matches m d)) es) ≡ sum_of es → sum_of (keep (λ d. not (matches m d)) (e ∷ es)) ≡ sum_of (e ∷ es)
    go (is_true z) ih = rw z (omega (arith, ih, h e z))
    go (is_false z) ih = rw z (omega (arith, ih))

kept-pairs : (m : Match) (es : List Row) (l : List ℕ) → ((e : Row) → matches m e ≡ true → bytes_in e ≡ 0) →
    paired (keep (λ e. not (matches m e)) es) l ≡ keep (λ x. not (matches m x.entry)) (paired es l)
unfolding paired
kept-pairs m [] l h = refl
kept-pairs m (e ∷ es) l h = go (look (matches m e)) (kept-pairs m es (drop (bytes_in e) l) h)
  where
    rest : List Row
    rest = keep (λ d. not (matches m d)) es

    after : List Pair
    after = keep (λ x. not (matches m x.entry)) (paired es (drop (bytes_in e) l))

    x : Pair
    x = record { entry = e; payload = take (bytes_in e) l }

    go : Seen (matches m e) → paired rest (drop (bytes_in e) l) ≡ after → paired (pick (not (matches m e)) (e ∷ rest) rest) l ≡ pick (not (matches m e)) (x ∷ after) after
    go (is_true z) ih = rw z (ap (λ (k : ℕ). paired rest (drop k l)) (sym (h e z)) ∙ ih)
    go (is_false z) ih = rw z (ap (◌∷◌ x) ih)

-- What matches withdrawn, where nothing that matches has a payload.
module _ (r : Rings) (p : ℕ) (m : Match) (short : length_of r.ends p ≤ ring_size) where
  pub withdraw-removed : withdrawn r p m ≡ removed r p m
  unfolding withdrawn
  withdraw-removed = rw (le-leb (length_of r.ends p) ring_size short)

  pub withdraw-view : (t : List ℕ) (test : Entry → Bool) → Sized r.rows → length r.ends ≡ ends_size → p < peers →
      ((x : Pair) → test (entry_v x) ≡ not (matches m x.entry)) → ((e : Row) → matches m e ≡ true → bytes_in e ≡ 0) →
      queue_v (withdrawn r p m) t ≡ upd (queue_v r t) p (keep test (queue_v r t p))
  unfolding rows_v
  withdraw-view t test rows ends l agree none = rw withdraw-removed (queue-upd r (removed r p m) t t p (keep test (queue_v r t p)) l here there)
    where
      es : List Row
      es = queue_of r p

      f : Row → Bool
      f e = not (matches m e)

      own : queue_of (removed r p m) p ≡ keep f es
      own = rings-own r p m rows ends l short

      here : map entry_v (paired (queue_of (removed r p m) p) (area_of t p (sum_of (queue_of (removed r p m) p)))) ≡ keep test (queue_v r t p)
      here =
          ap (λ (ds : List Row). map entry_v (paired ds (area_of t p (sum_of ds)))) own
          ∙ ap (λ (k : ℕ). map entry_v (paired (keep f es) (area_of t p k))) (kept-bytes m es none)
          ∙ ap (map entry_v) (kept-pairs m es (area_of t p (sum_of es)) none)
          ∙ sym (keep-map entry_v test (λ x. not (matches m x.entry)) (paired es (area_of t p (sum_of es))) agree)
          ∙ ap (keep test) (sym (queue-own r t p l))

      there : (o : ℕ) → o < peers → (p ≡ o → ⊥) → rows_v (removed r p m) t o ≡ rows_v r t o
      there o k ne = rows_same r (removed r p m) t t o (rings-other r p m o ne) refl

module _ (r : Rings) (p : ℕ) (m : Match) where
  pub withdraw-rows : Sized r.rows → Sized (withdrawn r p m).rows
  unfolding withdrawn
  withdraw-rows s = pick_all (λ (x : Rings). Sized x.rows) (leb (length_of r.ends p) ring_size) (removed r p m) r (remove-sized r p m s) s

  pub withdraw-ends : length (withdrawn r p m).ends ≡ length r.ends
  unfolding withdrawn
  withdraw-ends = pick_all (λ (x : Rings). length x.ends ≡ length r.ends) (leb (length_of r.ends p) ring_size) (removed r p m) r (remove-ends r p m) refl

  pub withdraw-length : length r.ends ≡ ends_size → p < peers → length_of (withdrawn r p m).ends p ≤ length_of r.ends p
  unfolding withdrawn
  withdraw-length ends l =
      pick_all (λ (x : Rings). length_of x.ends p ≤ length_of r.ends p) (leb (length_of r.ends p) ring_size) (removed r p m) r (rings-less r p m ends l) (omega arith)

  pub withdraw-lengths : (o : ℕ) → (p ≡ o → ⊥) → length_of (withdrawn r p m).ends o ≡ length_of r.ends o
  unfolding withdrawn
  withdraw-lengths o ne =
      pick_all (λ (x : Rings). length_of x.ends o ≡ length_of r.ends o) (leb (length_of r.ends p) ring_size) (removed r p m) r (remove-lengths r p m o ne) refl

  pub withdraw-short : length r.ends ≡ ends_size → p < peers → Short r.ends → Short (withdrawn r p m).ends
  withdraw-short ends l h o k = go (same? p o)
    where
      go : Same p o → length_of (withdrawn r p m).ends o ≤ ring_size
      go (same z) = rw (← z) (omega (arith, withdraw-length ends l, h p l))
      go (other z) = omega (arith, withdraw-lengths o z, h o k)

-- The matches of release notices: those of the slots of the owner p in a mask, and that of one slot.
abbrev pub in_mask : ℕ → ℕ → ℕ → Bool
in_mask p mask s = pick (eqb (s / slots) p) (bit_at mask (s % slots)) false

pub release-match : (p mask : ℕ) (x : Pair) → not_released (in_mask p mask) (entry_v x) ≡ not (matches (record { kinds = released_bit; first = p * slots; mask = mask }) x.entry)
release-match p mask x = go (kind x)
  where
    go : Kind x → not_released (in_mask p mask) (entry_v x) ≡ not (matches (record { kinds = released_bit; first = p * slots; mask = mask }) x.entry)
    go (is-message h b k f) = rw (f, matches-set 4 p mask x.entry, k)
    go (is-destroyed h b k f) = rw (f, matches-set 4 p mask x.entry, k)
    go (is-released h b k f) = rw (f, matches-set 4 p mask x.entry, k)

pub release-bytes : (p mask : ℕ) (e : Row) → matches (record { kinds = released_bit; first = p * slots; mask = mask }) e ≡ true → bytes_in e ≡ 0
release-bytes p mask e h = go (kind (record { entry = e; payload = [] }))
  where
    go : Kind (record { entry = e; payload = [] }) → bytes_in e ≡ 0
    go (is-message g b k f) = clash (sym h ∙ matches-set 4 p mask e ∙ rw k refl)
    go (is-destroyed g b k f) = b
    go (is-released g b k f) = b

pub one-match : (s : ℕ) (x : Pair) → not_released (eqb s) (entry_v x) ≡ not (matches (one_slot released_bit s) x.entry)
one-match s x = go (kind x)
  where
    go : Kind x → not_released (eqb s) (entry_v x) ≡ not (matches (one_slot released_bit s) x.entry)
    go (is-message h b k f) = rw (f, matches-one 4 s x.entry, k)
    go (is-destroyed h b k f) = rw (f, matches-one 4 s x.entry, k)
    go (is-released h b k f) = rw (f, matches-one 4 s x.entry, k) (ap not (eqb-turn s x.entry.slot))

pub one-bytes : (s : ℕ) (e : Row) → matches (one_slot released_bit s) e ≡ true → bytes_in e ≡ 0
one-bytes s e h = go (kind (record { entry = e; payload = [] }))
  where
    go : Kind (record { entry = e; payload = [] }) → bytes_in e ≡ 0
    go (is-message g b k f) = clash (sym h ∙ matches-one 4 s e ∙ rw k refl)
    go (is-destroyed g b k f) = b
    go (is-released g b k f) = b

-- What a removal leaves has no more bytes than all had.
kept_less : (m : Match) (es : List Row) → sum_of (keep (λ e. not (matches m e)) es) ≤ sum_of es
kept_less m es = omega (arith, load_split (λ e. true) bytes_in (matches m) es)

-- The charges once the messages that match are taken off.
lessened-four : (m : Match) (es : List Row) (c : Charges) → length (lessened_all c m es).by ≡ length c.by
unfolding lessened_all lessened
lessened-four m [] c = refl
lessened-four m (e ∷ es) c = lessened-four m es (lessened c m e) ∙ go (is_message e) (matches m e)
  where
    go : (a b : Bool) → length (pick a (pick b (discharged c (user_in e) (charge_in e)) c) c).by ≡ length c.by
    go true true = discharged-length c (user_in e) (charge_in e)
    go true false = refl
    go false b = refl

lessened-view : (m : Match) (gone : Message → Bool) → ((x : Pair) → is_message x.entry ≡ true → matches m x.entry ≡ gone (message_v x)) →
    (es : List Row) (l : List ℕ) (c : Charges) → All Whole (paired es l) → lessened_all c m es ≡ discharged_all c (keep gone (messages_in (map entry_v (paired es l))))
unfolding lessened_all lessened paired
lessened-view m gone agree [] l c w = refl
lessened-view m gone agree (e ∷ es) l c w = go (kind x) (λ d. lessened-view m gone agree es (drop (bytes_in e) l) d w.1)
  where
    x : Pair
    x = record { entry = e; payload = take (bytes_in e) l }

    rest : List Entry
    rest = map entry_v (paired es (drop (bytes_in e) l))

    less : Charges
    less = discharged c (user_in e) (charge_in e)

    After : Charges → Type 0
    After d = lessened_all d m es ≡ discharged_all d (keep gone (messages_in rest))

    dropped-one : is_message e ≡ true → (s : Bool) → ((d : Charges) → After d) →
        lessened_all (pick s less c) m es ≡ discharged_all c (pick s (message_v x ∷ keep gone (messages_in rest)) (keep gone (messages_in rest)))
    dropped-one h true ih =
        ih less
        ∙ ap (λ (a : Charge). discharged_all (discharged c (user_in e) a) (keep gone (messages_in rest))) (sym (charge-view x h w.0.size w.0.eight))
    dropped-one h false ih = ih c

    go : Kind x → ((d : Charges) → After d) →
        lessened_all (pick (is_message e) (pick (matches m e) less c) c) m es ≡ discharged_all c (keep gone (messages_in (entry_v x ∷ rest)))
    go (is-message h b k f) ih = rw (h, f, agree x h) (dropped-one h (gone (message_v x)) ih)
    go (is-destroyed h b k f) ih = rw (h, f) (ih c)
    go (is-released h b k f) ih = rw (h, f) (ih c)

-- What matches removed, with payloads and charges.
module _ (q : Queues) (p : ℕ) (m : Match) where
  abbrev pub after_removal : Queues
  after_removal =
      record {
        charges = put_charges q.charges p (lessened_all (charges_at q.charges p) m (queue_of q.rings p));
        rings = removed q.rings p m;
        pool = (kept_pieces q.pool p 0 0 m (queue_of q.rings p)).table;
      }

  pub remove-is : length_of q.rings.ends p ≤ ring_size → removed_from q p m ≡ after_removal
  unfolding removed_from
  remove-is short = rw (le-leb (length_of q.rings.ends p) ring_size short)

  removal-keeps : (P : Queues → Type 0) → P after_removal → P q → P (removed_from q p m)
  unfolding removed_from
  removal-keeps P h k = pick_all P (leb (length_of q.rings.ends p) ring_size) after_removal q h k

  pub remove-rows : Sized q.rings.rows → Sized (removed_from q p m).rings.rows
  remove-rows s = removal-keeps (λ x. Sized x.rings.rows) (remove-sized q.rings p m s) s

  pub remove-ended : length (removed_from q p m).rings.ends ≡ length q.rings.ends
  remove-ended = removal-keeps (λ x. length x.rings.ends ≡ length q.rings.ends) (remove-ends q.rings p m) refl

  pub remove-less : length q.rings.ends ≡ ends_size → p < peers → length_of (removed_from q p m).rings.ends p ≤ length_of q.rings.ends p
  remove-less ends l = removal-keeps (λ x. length_of x.rings.ends p ≤ length_of q.rings.ends p) (rings-less q.rings p m ends l) (omega arith)

  pub remove-others : (o : ℕ) → (p ≡ o → ⊥) → length_of (removed_from q p m).rings.ends o ≡ length_of q.rings.ends o
  remove-others o ne = removal-keeps (λ x. length_of x.rings.ends o ≡ length_of q.rings.ends o) (remove-lengths q.rings p m o ne) refl

  pub remove-short : length q.rings.ends ≡ ends_size → p < peers → Short q.rings.ends → Short (removed_from q p m).rings.ends
  remove-short ends l h o k = go (same? p o)
    where
      go : Same p o → length_of (removed_from q p m).rings.ends o ≤ ring_size
      go (same z) = rw (← z) (omega (arith, remove-less ends l, h p l))
      go (other z) = omega (arith, remove-others o z, h o k)

  pub remove-pool : length q.pool ≡ pool_size → p < peers → sum_of (queue_of q.rings p) ≤ area_size → length (removed_from q p m).pool ≡ length q.pool
  remove-pool size l fit =
      removal-keeps (λ x. length x.pool ≡ length q.pool) (pool-length q.pool p m (queue_of q.rings p) size l fit) refl

  pub remove-charged : length (removed_from q p m).charges ≡ length q.charges
  remove-charged =
      removal-keeps (λ x. length x.charges ≡ length q.charges)
      (charges-length q.charges p (lessened_all (charges_at q.charges p) m (queue_of q.rings p))) refl

  pub remove-view : (test : Entry → Bool) → Sized q.rings.rows → length q.rings.ends ≡ ends_size → length q.pool ≡ pool_size → p < peers →
      length_of q.rings.ends p ≤ ring_size → Within q.rings → ((x : Pair) → test (entry_v x) ≡ not (matches m x.entry)) →
      queue_v (removed_from q p m).rings (removed_from q p m).pool ≡ upd (queue_v q.rings q.pool) p (keep test (queue_v q.rings q.pool p))
  unfolding rows_v
  remove-view test rows ends size l short fit agree =
      rw (remove-is short) (queue-upd r r' t t' p (keep test (queue_v r t p)) l here there)
    where
      r : Rings
      r = q.rings

      r' : Rings
      r' = removed q.rings p m

      t : List ℕ
      t = q.pool

      t' : List ℕ
      t' = (kept_pieces q.pool p 0 0 m (queue_of q.rings p)).table

      es : List Row
      es = queue_of q.rings p

      stay : List Row
      stay = keep (λ e. not (matches m e)) es

      size' : length t' ≡ pool_size
      size' = pool-length t p m es size l (fit p l) ∙ size

      bytes : area_of t' p (sum_of stay) ≡ bytes_of t' p (kept_pieces t p 0 0 m es).place
      bytes =
          area-bytes t' p (sum_of stay) (omega (arith, size', kept_less m es, fit p l))
          ∙ ap (bytes_of t' p) (sym (remove-place t p m es size l (fit p l)))

      before : bytes_of t p (sum_of es) ≡ area_of t p (sum_of es)
      before = sym (area-bytes t p (sum_of es) (omega (arith, size, fit p l)))

      here : map entry_v (paired (queue_of r' p) (area_of t' p (sum_of (queue_of r' p)))) ≡ keep test (queue_v r t p)
      here =
          ap (λ (ds : List Row). map entry_v (paired ds (area_of t' p (sum_of ds)))) (rings-own r p m rows ends l short)
          ∙ ap (λ (b : List ℕ). map entry_v (paired stay b)) bytes
          ∙ ap (map entry_v) (pool-own t p m es size l (fit p l))
          ∙ ap (λ (b : List ℕ). map entry_v (keep (λ x. not (matches m x.entry)) (paired es b))) before
          ∙ sym (keep-map entry_v test (λ x. not (matches m x.entry)) (paired es (area_of t p (sum_of es))) agree)
          ∙ ap (keep test) (sym (queue-own r t p l))

      there : (o : ℕ) → o < peers → (p ≡ o → ⊥) → rows_v r' t' o ≡ rows_v r t o
      there o k ne =
          rows_same r r' t t' o (rings-other r p m o ne)
          (area_same t t' o (sum_of (queue_of r o)) size size' k (fit o k) (pool-other t p m es size l (fit p l) o (sum_of (queue_of r o)) ne (fit o k)))

  pub remove-charges : (gone : Message → Bool) → length q.charges ≡ charges_size → p < peers → length_of q.rings.ends p ≤ ring_size →
      ((x : Pair) → is_message x.entry ≡ true → matches m x.entry ≡ gone (message_v x)) →
      charges_v (removed_from q p m).charges
      ≡ upd (charges_v q.charges) p (discharged_all (charges_v q.charges p) (keep gone (messages_in (queue_v q.rings q.pool p))))
  unfolding rows_v
  remove-charges gone size l short agree =
      ap (λ (x : Queues). charges_v x.charges) (remove-is short)
      ∙ stored-view q.charges p (lessened_all old m es) (discharged_all (charges_v q.charges p) (keep gone (messages_in (queue_v q.rings q.pool p)))) size l four same-charges
    where
      es : List Row
      es = queue_of q.rings p

      old : Charges
      old = charges_at q.charges p

      here : charges_v q.charges p ≡ old
      here = charges-is q.charges p l

      four : length (lessened_all old m es).by ≡ users
      four = lessened-four m es old ∙ ap (λ (c : Charges). length c.by) (sym here) ∙ charges-four q.charges p

      same-charges : lessened_all old m es ≡ discharged_all (charges_v q.charges p) (keep gone (messages_in (queue_v q.rings q.pool p)))
      same-charges =
          lessened-view m gone agree es (area_of q.pool p (sum_of es)) old (rows_whole q.rings q.pool p)
          ∙ ap₂ (λ (c : Charges) (ds : List Entry). discharged_all c (keep gone (messages_in ds))) (sym here) (sym (queue-own q.rings q.pool p l))

-- What goes with the handle of p to its own slot s: its release notice and the messages for it.
module _ (p s : ℕ) (own : s / slots ≡ p) where
  pub remains-own : (x : Pair) → remains p s (entry_v x) ≡ not (matches (one_slot (message_bit + released_bit) s) x.entry)
  remains-own x = go (kind x)
    where
      go : Kind x → remains p s (entry_v x) ≡ not (matches (one_slot (message_bit + released_bit) s) x.entry)
      go (is-message h b k f) = rw (f, matches-one 5 s x.entry, k, eq-eqb (s / slots) p own)
      go (is-destroyed h b k f) = rw (f, matches-one 5 s x.entry, k)
      go (is-released h b k f) = rw (f, matches-one 5 s x.entry, k)

  pub dropped-own : (x : Pair) → is_message x.entry ≡ true → matches (one_slot (message_bit + released_bit) s) x.entry ≡ dropped p s (message_v x)
  dropped-own x h = go (kind x)
    where
      go : Kind x → matches (one_slot (message_bit + released_bit) s) x.entry ≡ dropped p s (message_v x)
      go (is-message g b k f) = rw (matches-one 5 s x.entry, k, eq-eqb (s / slots) p own)
      go (is-destroyed g b k f) = clash (sym h ∙ g)
      go (is-released g b k f) = clash (sym h ∙ g)

-- The destroy notice of a slot.
abbrev pub undestroyed : ℕ → Entry → Bool
undestroyed s (message n m) = true
undestroyed s (destroyed n t) = not (eqb t s)
undestroyed s (released n t) = true

pub destroyed-match : (s : ℕ) (x : Pair) → undestroyed s (entry_v x) ≡ not (matches (one_slot destroyed_bit s) x.entry)
destroyed-match s x = go (kind x)
  where
    go : Kind x → undestroyed s (entry_v x) ≡ not (matches (one_slot destroyed_bit s) x.entry)
    go (is-message h b k f) = rw (f, matches-one 2 s x.entry, k)
    go (is-destroyed h b k f) = rw (f, matches-one 2 s x.entry, k)
    go (is-released h b k f) = rw (f, matches-one 2 s x.entry, k)

pub destroyed-bytes : (s : ℕ) (e : Row) → matches (one_slot destroyed_bit s) e ≡ true → bytes_in e ≡ 0
destroyed-bytes s e h = go (kind (record { entry = e; payload = [] }))
  where
    go : Kind (record { entry = e; payload = [] }) → bytes_in e ≡ 0
    go (is-message g b k f) = clash (sym h ∙ matches-one 2 s e ∙ rw k refl)
    go (is-destroyed g b k f) = b
    go (is-released g b k f) = b

-- What goes with the handle of p to its own slot s where nothing else keeps the destroy notice of s: all notices about it, and the messages for it.
abbrev pub outlives : ℕ → ℕ → Entry → Bool
outlives p s e = both (remains p s e) (undestroyed s e)

module _ (p s : ℕ) (own : s / slots ≡ p) where
  pub outlives-own : (x : Pair) → outlives p s (entry_v x) ≡ not (matches (one_slot all_bits s) x.entry)
  outlives-own x = go (kind x)
    where
      whole : (b : Bool) → both b true ≡ b
      whole true = refl
      whole false = refl

      go : Kind x → outlives p s (entry_v x) ≡ not (matches (one_slot all_bits s) x.entry)
      go (is-message h b k f) = rw (f, matches-one 7 s x.entry, k, eq-eqb (s / slots) p own) (whole (not (eqb x.entry.slot s)))
      go (is-destroyed h b k f) = rw (f, matches-one 7 s x.entry, k)
      go (is-released h b k f) = rw (f, matches-one 7 s x.entry, k) (whole (not (eqb x.entry.slot s)))

  pub outdropped-own : (x : Pair) → is_message x.entry ≡ true → matches (one_slot all_bits s) x.entry ≡ dropped p s (message_v x)
  outdropped-own x h = go (kind x)
    where
      go : Kind x → matches (one_slot all_bits s) x.entry ≡ dropped p s (message_v x)
      go (is-message g b k f) = rw (matches-one 7 s x.entry, k, eq-eqb (s / slots) p own)
      go (is-destroyed g b k f) = clash (sym h ∙ g)
      go (is-released g b k f) = clash (sym h ∙ g)
