-- The queues as lists: what each change makes of the peer's own queue, and that it leaves the others.
-- Assumes nothing.
use Prim.Native.Nat.{ℕ, suc, ◌+◌, ◌*◌, ◌-◌, ◌%◌, ◌≤◌, ◌<◌}
use Rattle.std.specs.Prelude.{◌≡◌, get_or, set}
use Rattle.std.proofs.Math.Path.{refl, ap}
use Rattle.std.proofs.Common.{sym, ap₂, ◌∙◌}
use Rattle.std.proofs.Math.Bool.{Bool, not}
use mathlib.Core.List.{List, [], ◌∷◌, ◌++◌, append-nil, append_assoc}
use native.Mathlib.Omega.{arith}
use Rattle.std.proofs.Math.Numerals.{add-one}
use Rattle.std.proofs.Math.ListN.{length, length-set}
use Rattle.std.proofs.lemmas.List.Edits.{sets}
use Rattle.std.proofs.Math.Seq.{length-sets, get_or-set_same, get_or-set_other}
use Rattle.std.proofs.lemmas.List.{set-get_or}
use Rattle.laws.specs.Weights.{All, all_keep, keep, keep-le}
use Rattle.laws.specs.Build.{build, build-ext, build-snoc, build-length, build-at}
use Rattle.laws.specs.Rows.{row_in, row-length, row-self, row5, row_put, row-put-other, all_build}
use Rattle.rings.specs.Rings.{peers, ring_size, row_count, ends_size, Rows, Rings, set_ends, Sized, fields_of, entry_of, entry_at, put_at, row_of, head_of, length_of, entries_from, queue_of, first_of, pushed, popped, cleared, stored_from, matches, others, removed}
use Rattle.rings.specs.declared.Entry.{Entry}
use Rattle.rings.specs.declared.Match.{Match}
use Rattle.ids.specs.Sizes.{end_fields, entry_fields, carried_fields}

-- One row: its tables keep their sizes, it holds what was put there, another row what it had.
pub put-sized : (t : Rows) (r : ℕ) (e : Entry) → Sized t → Sized (put_at t r e)
unfolding put_at
put-sized t r e s =
    record {
      entries = length-sets t.entries (entry_fields * r) (fields_of e) ∙ s.entries;
      carried = length-sets t.carried (carried_fields * r) (row_in carried_fields e.carried 0) ∙ s.carried;
      numbers = length-set t.numbers r e.number ∙ s.numbers;
    }

fields-length : (e : Entry) → length (fields_of e) ≡ entry_fields
unfolding fields_of
fields-length e = refl

fields_made : (e : Entry) → entry_of (fields_of e) e.carried e.number ≡ e
unfolding fields_of
fields_made e = refl

pub get-put-same : (t : Rows) (r : ℕ) (e : Entry) → Sized t → r < row_count → length e.carried ≡ carried_fields → entry_at (put_at t r e) r ≡ e
unfolding entry_at put_at
get-put-same t r e s h l =
    let a = row_put entry_fields t.entries r (fields_of e) (fields-length e) (omega (arith, s.entries)) in
    let b = row_put carried_fields t.carried r (row_in carried_fields e.carried 0) (row-length carried_fields e.carried 0) (omega (arith, s.carried)) in
    let d = get_or-set_same t.numbers r e.number 0 (omega (arith, s.numbers)) in
    rw (a, b, d, row-self carried_fields e.carried l) (fields_made e)

pub get-put-other : (t : Rows) (r q : ℕ) (e : Entry) → (r ≡ q → ⊥) → entry_at (put_at t r e) q ≡ entry_at t q
unfolding entry_at put_at
get-put-other t r q e ne =
    let a = row-put-other entry_fields t.entries r q (fields_of e) (fields-length e) ne in
    let b = row-put-other carried_fields t.carried r q (row_in carried_fields e.carried 0) (row-length carried_fields e.carried 0) ne in
    let d = get_or-set_other t.numbers r q e.number 0 (λ f. ne (sym f)) in
    rw (a, b, d)

-- What stands at a place, stored there again, changes nothing: in a list, in a row of a table, and for a whole entry.
pub sets-own : (l : List ℕ) (i : ℕ) (vs : List ℕ) → ((k : ℕ) → k < length vs → get_or vs k 0 ≡ get_or l (i + k) 0) → sets l i vs ≡ l
sets-own l i [] h = refl
sets-own l i (v ∷ vs) h =
    let z : i + 0 ≡ i = omega arith in
    let e : v ≡ get_or l i 0 = rw z at (h 0 (omega arith)) in
    let f : set l i v ≡ l = ap (set l i) e ∙ set-get_or l i 0 in
    ap (λ (m : List ℕ). sets m (suc i) vs) f
    ∙ sets-own l (suc i) vs (λ k lt. h (suc k) (omega arith) ∙ (let g : i + suc k ≡ suc i + k = omega arith in ap (λ (n : ℕ). get_or l n 0) g))

pub row_at : (w : ℕ) (l : List ℕ) (r k : ℕ) → k < w → get_or (row_in w l r) k 0 ≡ get_or l (w * r + k) 0
unfolding row_in
row_at w l r k lt = build-at (λ j. get_or l (w * r + j) 0) w k 0 lt

row-own : (w : ℕ) (l : List ℕ) (r : ℕ) → sets l (w * r) (row_in w l r) ≡ l
row-own w l r = sets-own l (w * r) (row_in w l r) (λ k lt. row_at w l r k (omega (arith, row-length w l r)))

fields-row : (l c : List ℕ) (n r : ℕ) → fields_of (entry_of (row_in entry_fields l r) c n) ≡ row_in entry_fields l r
unfolding fields_of
fields-row l c n r = rw row5

pub put-own : (t : Rows) (r : ℕ) → put_at t r (entry_at t r) ≡ t
unfolding entry_at put_at
put-own t r =
    rw (fields-row t.entries (row_in carried_fields t.carried r) (get_or t.numbers r 0) r, row-self carried_fields (row_in carried_fields t.carried r) (row-length carried_fields t.carried r), row-own entry_fields t.entries r, row-own carried_fields t.carried r, set-get_or t.numbers r 0)

-- The places of a ring: no two of one peer's are the same row, nor two of two peers'.
row_apart : (p h i j : ℕ) → i < ring_size → j < ring_size → (i ≡ j → ⊥) → row_of p h i ≡ row_of p h j → ⊥
row_apart p h i j a b ne e = ne (omega arith)

row-peer : (p o h g i j : ℕ) → (p ≡ o → ⊥) → row_of p h i ≡ row_of o g j → ⊥
row-peer p o h g i j ne e = ne (omega arith)

pub row-bound : (p h i : ℕ) → p < peers → row_of p h i < row_count
row-bound p h i l = omega arith

row_next : (p h i : ℕ) → row_of p ((h + 1) % ring_size) i ≡ row_of p h (suc i)
row_next p h i = omega arith

-- Entries read from the rows.
put_other : (t : Rows) (p o h g i n : ℕ) (e : Entry) → (p ≡ o → ⊥) → entries_from (put_at t (row_of p h i) e) o g n ≡ entries_from t o g n
unfolding entries_from
put_other t p o h g i n e ne =
    build-ext (λ j. entry_at (put_at t (row_of p h i) e) (row_of o g j)) (λ j. entry_at t (row_of o g j)) n
    (λ j l. get-put-other t (row_of p h i) (row_of o g j) e (row-peer p o h g i j ne))

put-above : (t : Rows) (p h i n : ℕ) (e : Entry) → n ≤ i → i < ring_size → entries_from (put_at t (row_of p h i) e) p h n ≡ entries_from t p h n
unfolding entries_from
put-above t p h i n e le lt =
    build-ext (λ j. entry_at (put_at t (row_of p h i) e) (row_of p h j)) (λ j. entry_at t (row_of p h j)) n
    (λ j l. get-put-other t (row_of p h i) (row_of p h j) e (row_apart p h i j lt (omega arith) (λ x. absurd (omega arith))))

pub entries-snoc : (t : Rows) (p h n : ℕ) → entries_from t p h (suc n) ≡ entries_from t p h n ++ (entry_at t (row_of p h n) ∷ [])
unfolding entries_from
entries-snoc t p h n = build-snoc (λ i. entry_at t (row_of p h i)) n

entries-cons : (t : Rows) (p h n : ℕ) → entries_from t p h (suc n) ≡ entry_at t (row_of p h 0) ∷ entries_from t p ((h + 1) % ring_size) n
unfolding entries_from build
entries-cons t p h n =
    ap (◌∷◌ (entry_at t (row_of p h 0)))
    (build-ext (λ i. entry_at t (row_of p h (suc i))) (λ i. entry_at t (row_of p ((h + 1) % ring_size) i)) n (λ j l. ap (entry_at t) (sym (row_next p h j))))

pub entries-length : (t : Rows) (p h n : ℕ) → length (entries_from t p h n) ≡ n
unfolding entries_from
entries-length t p h n = build-length _ n

entries-put : (t : Rows) (p h n : ℕ) (e : Entry) → Sized t → p < peers → n < ring_size → length e.carried ≡ carried_fields →
    entries_from (put_at t (row_of p h n) e) p h (suc n) ≡ entries_from t p h n ++ (e ∷ [])
entries-put t p h n e s hp room l =
    entries-snoc (put_at t (row_of p h n) e) p h n
    ∙ ap₂ (λ (x : List Entry) (y : Entry). x ++ (y ∷ [])) (put-above t p h n n e (omega arith) room)
    (get-put-same t (row_of p h n) e s (row-bound p h n hp) l)

-- A queue is as long as its peer's length says, its i-th entry stands in the i-th place of the ring, and every entry carries eight slots.
pub queue-length : (q : Rings) (p : ℕ) → length (queue_of q p) ≡ length_of q.ends p
unfolding queue_of
queue-length q p = entries-length q.rows p (head_of q.ends p) (length_of q.ends p)

pub queue-empty : (q : Rings) (p : ℕ) → length_of q.ends p ≡ 0 → queue_of q p ≡ []
unfolding queue_of entries_from build
queue-empty q p e = rw e

pub queue-at : (q : Rings) (p i : ℕ) (d : Entry) → i < length_of q.ends p → get_or (queue_of q p) i d ≡ entry_at q.rows (row_of p (head_of q.ends p) i)
unfolding queue_of entries_from
queue-at q p i d h = build-at (λ j. entry_at q.rows (row_of p (head_of q.ends p) j)) (length_of q.ends p) i d h

entries-eight : (t : Rows) (p h n : ℕ) → All (λ e. length e.carried ≡ carried_fields) (entries_from t p h n)
unfolding entries_from entry_at
entries-eight t p h n = all_build (λ e. length e.carried ≡ carried_fields) (λ i. entry_at t (row_of p h i)) n (λ j. row-length carried_fields t.carried (row_of p h j))

pub queue-eight : (q : Rings) (p : ℕ) → All (λ e. length e.carried ≡ carried_fields) (queue_of q p)
unfolding queue_of
queue-eight q p = entries-eight q.rows p (head_of q.ends p) (length_of q.ends p)

-- A new length of one peer: every head stays, and every other length.
module _ (d : List ℕ) (p n : ℕ) where
  head-kept : (o : ℕ) → head_of (set d (p * end_fields + 1) n) o ≡ head_of d o
  head-kept o = get_or-set_other d (p * end_fields + 1) (o * end_fields) n 0 (λ x. absurd (omega arith))

  length-kept : (o : ℕ) → (p ≡ o → ⊥) → length_of (set d (p * end_fields + 1) n) o ≡ length_of d o
  length-kept o ne = get_or-set_other d (p * end_fields + 1) (o * end_fields + 1) n 0 (λ x. ne (omega arith))

  length-new : length d ≡ ends_size → p < peers → length_of (set d (p * end_fields + 1) n) p ≡ n
  length-new h hp = get_or-set_same d (p * end_fields + 1) n 0 (omega arith)

-- An entry appended.
module _ (q : Rings) (p : ℕ) (e : Entry) where
  pub push-sized : Sized q.rows → Sized (pushed q p e).rows
  unfolding pushed
  push-sized s = put-sized q.rows _ e s

  pub push-ends : length (pushed q p e).ends ≡ length q.ends
  unfolding pushed
  push-ends = length-set q.ends (p * end_fields + 1) (length_of q.ends p + 1)

  pub push-heads : (o : ℕ) → head_of (pushed q p e).ends o ≡ head_of q.ends o
  unfolding pushed
  push-heads o = head-kept q.ends p (length_of q.ends p + 1) o

  pub push-length : length q.ends ≡ ends_size → p < peers → length_of (pushed q p e).ends p ≡ length_of q.ends p + 1
  unfolding pushed
  push-length hs hp = length-new q.ends p (length_of q.ends p + 1) hs hp

  pub push-lengths : (o : ℕ) → (p ≡ o → ⊥) → length_of (pushed q p e).ends o ≡ length_of q.ends o
  unfolding pushed
  push-lengths o ne = length-kept q.ends p (length_of q.ends p + 1) o ne

  pub push-other : (o : ℕ) → (p ≡ o → ⊥) → queue_of (pushed q p e) o ≡ queue_of q o
  unfolding queue_of pushed
  push-other o ne =
      let n = length_of q.ends p + 1 in
      rw (head-kept q.ends p n o, length-kept q.ends p n o ne)
      (put_other q.rows p o (head_of q.ends p) (head_of q.ends o) _ (length_of q.ends o) e ne)

  pub push-own : Sized q.rows → length q.ends ≡ ends_size → p < peers → length_of q.ends p < ring_size → length e.carried ≡ carried_fields →
      queue_of (pushed q p e) p ≡ queue_of q p ++ (e ∷ [])
  unfolding queue_of pushed
  push-own s hs hp room l =
      let h = head_of q.ends p in
      let n = length_of q.ends p in
      let a : length_of (set q.ends (p * end_fields + 1) (n + 1)) p ≡ suc n = length-new q.ends p (n + 1) hs hp ∙ add-one n in
      rw (head-kept q.ends p (n + 1) p, a) (entries-put q.rows p h n e s hp room l)

-- The first entry dropped.
module _ (q : Rings) (p : ℕ) where
  abbrev pub after_pop : Rings
  after_pop = set_ends q (popped q.ends p)

  pub pop-ends : length (popped q.ends p) ≡ length q.ends
  unfolding popped
  pop-ends = simp length-set

  pub pop-heads : (o : ℕ) → (p ≡ o → ⊥) → head_of (popped q.ends p) o ≡ head_of q.ends o
  unfolding popped
  pop-heads o ne =
      let h = (head_of q.ends p + 1) % ring_size in
      head-kept (set q.ends (p * end_fields) h) p (length_of q.ends p - 1) o ∙ get_or-set_other q.ends (p * end_fields) (o * end_fields) h 0 (λ x. ne (omega arith))

  pub pop-lengths : (o : ℕ) → (p ≡ o → ⊥) → length_of (popped q.ends p) o ≡ length_of q.ends o
  unfolding popped
  pop-lengths o ne =
      let h = (head_of q.ends p + 1) % ring_size in
      length-kept (set q.ends (p * end_fields) h) p (length_of q.ends p - 1) o ne ∙ get_or-set_other q.ends (p * end_fields) (o * end_fields + 1) h 0 (λ x. absurd (omega arith))

  pub pop-head : length q.ends ≡ ends_size → p < peers → head_of (popped q.ends p) p ≡ (head_of q.ends p + 1) % ring_size
  unfolding popped
  pop-head hs hp =
      let h = (head_of q.ends p + 1) % ring_size in
      head-kept (set q.ends (p * end_fields) h) p (length_of q.ends p - 1) p ∙ get_or-set_same q.ends (p * end_fields) h 0 (omega arith)

  pub pop-length : length q.ends ≡ ends_size → p < peers → length_of (popped q.ends p) p ≡ length_of q.ends p - 1
  unfolding popped
  pop-length hs hp =
      let h = (head_of q.ends p + 1) % ring_size in
      length-new (set q.ends (p * end_fields) h) p (length_of q.ends p - 1) (length-set q.ends (p * end_fields) h ∙ hs) hp

  pub pop-other : (o : ℕ) → (p ≡ o → ⊥) → queue_of after_pop o ≡ queue_of q o
  unfolding queue_of
  pop-other o ne = rw (pop-heads o ne, pop-lengths o ne)

  pub pop-own : length q.ends ≡ ends_size → p < peers → 0 < length_of q.ends p → queue_of q p ≡ first_of q p ∷ queue_of after_pop p
  unfolding queue_of first_of
  pop-own hs hp some =
      let h = head_of q.ends p in
      let n = length_of q.ends p in
      let e : n ≡ suc (n - 1) = omega arith in
      rw (pop-head hs hp, pop-length hs hp) (ap (entries_from q.rows p h) e ∙ entries-cons q.rows p h (n - 1))

-- All entries dropped.
module _ (q : Rings) (p : ℕ) where
  abbrev pub after_clear : Rings
  after_clear = set_ends q (cleared q.ends p)

  pub clear-ends : length (cleared q.ends p) ≡ length q.ends
  unfolding cleared
  clear-ends = length-set q.ends (p * end_fields + 1) 0

  pub clear-heads : (o : ℕ) → head_of (cleared q.ends p) o ≡ head_of q.ends o
  unfolding cleared
  clear-heads o = head-kept q.ends p 0 o

  pub clear-length : length q.ends ≡ ends_size → p < peers → length_of (cleared q.ends p) p ≡ 0
  unfolding cleared
  clear-length hs hp = length-new q.ends p 0 hs hp

  pub clear-lengths : (o : ℕ) → (p ≡ o → ⊥) → length_of (cleared q.ends p) o ≡ length_of q.ends o
  unfolding cleared
  clear-lengths o ne = length-kept q.ends p 0 o ne

  pub clear-other : (o : ℕ) → (p ≡ o → ⊥) → queue_of after_clear o ≡ queue_of q o
  unfolding queue_of
  clear-other o ne = rw (clear-heads o, clear-lengths o ne)

  pub clear-own : length q.ends ≡ ends_size → p < peers → queue_of after_clear p ≡ []
  clear-own hs hp = queue-empty after_clear p (clear-length hs hp)

-- A list stored over a queue.
module _ (p h : ℕ) where
  pub store-sized : (t : Rows) (i : ℕ) (es : List Entry) → Sized t → Sized (stored_from t p h i es)
  unfolding stored_from
  store-sized t i [] s = s
  store-sized t i (e ∷ es) s = store-sized (put_at t (row_of p h i) e) (suc i) es (put-sized t (row_of p h i) e s)

  -- rows behind the list are left
  pub store-after : (t : Rows) (i : ℕ) (es : List Entry) (j : ℕ) → i + length es ≤ j → j < ring_size →
      entry_at (stored_from t p h i es) (row_of p h j) ≡ entry_at t (row_of p h j)
  unfolding stored_from
  store-after t i [] j le lt = refl
  store-after t i (e ∷ es) j le lt =
      store-after (put_at t (row_of p h i) e) (suc i) es j (omega arith) lt
      ∙ get-put-other t (row_of p h i) (row_of p h j) e (row_apart p h i j (omega arith) lt (λ x. absurd (omega arith)))

  store_other : (t : Rows) (i : ℕ) (es : List Entry) (o g n : ℕ) → (p ≡ o → ⊥) → entries_from (stored_from t p h i es) o g n ≡ entries_from t o g n
  unfolding stored_from
  store_other t i [] o g n ne = refl
  store_other t i (e ∷ es) o g n ne = store_other (put_at t (row_of p h i) e) (suc i) es o g n ne ∙ put_other t p o h g i n e ne

  store-snoc : (t : Rows) (i : ℕ) (es : List Entry) (e : Entry) →
      stored_from t p h i (es ++ (e ∷ [])) ≡ put_at (stored_from t p h i es) (row_of p h (i + length es)) e
  unfolding stored_from
  store-snoc t i [] e = let z : i + 0 ≡ i = omega arith in rw z
  store-snoc t i (x ∷ es) e =
      let z : i + suc (length es) ≡ suc i + length es = omega arith in
      rw z (store-snoc (put_at t (row_of p h i) x) (suc i) es e)

  pub store-more : (t : Rows) (es : List Entry) (e : Entry) → stored_from t p h 0 (es ++ (e ∷ [])) ≡ put_at (stored_from t p h 0 es) (row_of p h (length es)) e
  store-more t es e = let z : 0 + length es ≡ length es = omega arith in rw z at (store-snoc t 0 es e)

  -- what was stored is what the queue then holds
  store-entries : (t : Rows) (i : ℕ) (es : List Entry) → Sized t → p < peers → i + length es ≤ ring_size → All (λ e. length e.carried ≡ carried_fields) es →
      entries_from (stored_from t p h i es) p h (i + length es) ≡ entries_from t p h i ++ es
  unfolding stored_from
  store-entries t i [] s hp fit l = let z : i + 0 ≡ i = omega arith in rw z (sym (append-nil (entries_from t p h i)))
  store-entries t i (e ∷ es) s hp fit l =
      let z : i + suc (length es) ≡ suc i + length es = omega arith in
      rw z
      (store-entries (put_at t (row_of p h i) e) (suc i) es (put-sized t (row_of p h i) e s) hp (omega arith) l.1
      ∙ ap (λ (x : List Entry). x ++ es) (entries-put t p h i e s hp (omega arith) l.0)
      ∙ append_assoc (entries_from t p h i) (e ∷ []) es)

  store-whole : (t : Rows) (es : List Entry) → Sized t → p < peers → length es ≤ ring_size → All (λ e. length e.carried ≡ carried_fields) es →
      entries_from (stored_from t p h 0 es) p h (length es) ≡ es
  unfolding entries_from build
  store-whole t es s hp fit l = let z : 0 + length es ≡ length es = omega arith in rw z at (store-entries t 0 es s hp (omega arith) l)

-- What matches, taken out.
module _ (q : Rings) (p : ℕ) (m : Match) where
  pub remove-sized : Sized q.rows → Sized (removed q p m).rows
  unfolding removed
  remove-sized s = store-sized p (head_of q.ends p) q.rows 0 (others m (queue_of q p)) s

  pub remove-ends : length (removed q p m).ends ≡ length q.ends
  unfolding removed
  remove-ends = length-set q.ends (p * end_fields + 1) (length (others m (queue_of q p)))

  pub remove-heads : (o : ℕ) → head_of (removed q p m).ends o ≡ head_of q.ends o
  unfolding removed
  remove-heads o = head-kept q.ends p (length (others m (queue_of q p))) o

  pub remove-length : length q.ends ≡ ends_size → p < peers → length_of (removed q p m).ends p ≤ length_of q.ends p
  unfolding removed others
  remove-length hs hp =
      let f : Entry → Bool = λ e. not (matches m e) in
      rw (length-new q.ends p (length (keep f (queue_of q p))) hs hp) (omega (arith, keep-le f (queue_of q p), queue-length q p))

  pub remove-lengths : (o : ℕ) → (p ≡ o → ⊥) → length_of (removed q p m).ends o ≡ length_of q.ends o
  unfolding removed
  remove-lengths o ne = length-kept q.ends p (length (others m (queue_of q p))) o ne

  pub remove-other : (o : ℕ) → (p ≡ o → ⊥) → queue_of (removed q p m) o ≡ queue_of q o
  unfolding queue_of removed
  remove-other o ne =
      let es = others m (queue_of q p) in
      rw (head-kept q.ends p (length es) o, length-kept q.ends p (length es) o ne)
      (store_other p (head_of q.ends p) q.rows 0 es o (head_of q.ends o) (length_of q.ends o) ne)

  pub remove-own : Sized q.rows → length q.ends ≡ ends_size → p < peers → length_of q.ends p ≤ ring_size →
      queue_of (removed q p m) p ≡ keep (λ e. not (matches m e)) (queue_of q p)
  unfolding queue_of removed others
  remove-own s hs hp fit =
      let h = head_of q.ends p in
      let n = length_of q.ends p in
      let f : Entry → Bool = λ e. not (matches m e) in
      let es = keep f (entries_from q.rows p h n) in
      let le : length es ≤ n = omega (arith, keep-le f (entries_from q.rows p h n), entries-length q.rows p h n) in
      rw (head-kept q.ends p (length es) p, length-new q.ends p (length es) hs hp)
      (store-whole p h q.rows es s hp (omega arith) (all_keep _ f (entries_from q.rows p h n) (entries-eight q.rows p h n)))
