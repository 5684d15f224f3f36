-- The list of a peer's given handles on a bus of a run: what it is, that every change keeps it, and that a search by it finds the model's slot.
-- Assumes nothing.
use Prim.Native.Nat.{ℕ, zero, suc, ◌+◌, ◌-◌, ◌*◌, ◌%◌, ◌≤◌, ◌<◌}
use Rattle.std.specs.Prelude.{◌≡◌, true, length, get_or, replicate, eqb, ltb}
use Rattle.std.proofs.Math.Path.{refl, ap}
use Rattle.std.proofs.Common.{sym, ◌∙◌, arith}
use Rattle.std.proofs.Math.Bool.{false}
use mathlib.Core.List.{List}
use Rattle.std.proofs.Math.ListN.{set, length-set}
use Rattle.std.proofs.Math.Seq.{get_or-set_same, get_or-set_other}
use borrow.Author.Tests.{ltb-true, ltb-false, ne_eqb, le-leb, lt-leb}
use Rattle.laws.specs.Tests.{pick, Seen, Seen.is_true, Seen.is_false, look, Same, Same.same, Same.other, same?, pick_all}
use Rattle.laws.specs.Tables.{upd, upd_same, upd_other, upd-map, zeros-at}
use Rattle.laws.specs.Sums.{sum_to, sum-upd}
use Rattle.laws.specs.Search.{first-is}
use Rattle.laws.specs.Halving.{halve-first, keys-rise}
use Rattle.model.specs.Numbers.{peers, nodes}
use Rattle.model.specs.State.{Handle, handle_of, start}
use Rattle.model.specs.State.Handle.{none, some}
use Rattle.tables.specs.Peers.{modulus}
use Rattle.tables.specs.Handles.{list_block, length_block, handles_size, halvings, handle_row, id_at, list_length, listed_id, word_at, listed_slot, at_least, place_in, put_handle, clear_below, clear_peer, enlisted, shifted, unlisted}
use Rattle.tables.specs.HandlesView.{handle_v, handle-put, place, odd, put-length, enlist-handles, shift-length, handle-clear, clear-below-length}
use Rattle.tables.specs.Fresh.{handle-fresh}
use Rattle.ids.specs.Sizes.{slots}

-- A handle that the bus gave: not both low bits of its ID are clear.
abbrev pub is_given : Handle → ℕ
is_given none = 0
is_given (some i c) = pick (eqb (i % 4) 0) 0 1

-- A list of n IDs and slots, ascending, has exactly the given ones of the handles f.
pub record Lists (n : ℕ) (ids slots : ℕ → ℕ) (f : ℕ → Handle) : Type 0 where
  pub number : n ≡ sum_to (λ s. is_given (f s)) nodes
  pub rising : (j k : ℕ) → j < k → k < n → ids j < ids k
  pub sound : (k : ℕ) → k < n → (slots k < nodes) × (eqb (ids k % 4) 0 ≡ false) × ((c : ℕ) × (f (slots k) ≡ some (ids k) c))
  pub complete : (s i c : ℕ) → s < nodes → f s ≡ some i c → (i % 4 ≡ 0 → ⊥) → (k : ℕ) × (k < n) × (slots k ≡ s)

-- The list of the peer p in the table.
abbrev pub Listed : List ℕ → ℕ → Type 0
Listed h p = Lists (id_at h length_block p) (listed_id h p) (listed_slot h p) (handle_v h p)

abbrev pub AllListed : List ℕ → Type 0
AllListed h = (p : ℕ) → p < peers → Listed h p

-- Of handles: the same ID, no other.
pub some_id : {i j c d : ℕ} → some i c ≡ some j d → i ≡ j
some_id e = cc

not_some : {i c : ℕ} → none ≡ some i c → ⊥
not_some {i} {c} e = let z : ◌≡◌ {A = ℕ} 0 1 = cc in absurd (omega arith)

given-one : (x : Handle) (i c : ℕ) → x ≡ some i c → eqb (i % 4) 0 ≡ false → is_given x ≡ 1
given-one x i c e f = rw (e, f)

given-few : (x : Handle) → is_given x ≤ 1
given-few none = omega arith
given-few (some i c) = pick_all (λ (n : ℕ). n ≤ 1) (eqb (i % 4) 0) 0 1 (omega arith) (omega arith)

sum-most : (g : ℕ → ℕ) (k : ℕ) → ((j : ℕ) → g j ≤ 1) → sum_to g k ≤ k
unfolding sum_to
sum-most g zero h = omega arith
sum-most g (suc k) h = omega (arith, h k, sum-most g k h)

none-sum : (k : ℕ) → sum_to (λ s. is_given none) k ≡ 0
unfolding sum_to
none-sum zero = refl
none-sum (suc k) = omega (arith, none-sum k)

-- Nothing is listed where there are no handles.
pub lists-none : (ids slots : ℕ → ℕ) → Lists 0 ids slots (λ s. none)
lists-none ids slots =
    record {
      number = sym (none-sum nodes);
      rising = λ j k l m. absurd (omega arith);
      sound = λ k l. absurd (omega arith);
      complete = λ s i c l e g. absurd (not_some e);
    }

module _ {n : ℕ} {ids slots : ℕ → ℕ} {f : ℕ → Handle} (w : Lists n ids slots f) where
  -- the entries below n alone matter
  pub lists-ext : (ids' slots' : ℕ → ℕ) → ((k : ℕ) → k < n → ids' k ≡ ids k) → ((k : ℕ) → k < n → slots' k ≡ slots k) → Lists n ids' slots' f
  lists-ext ids' slots' a b =
      record {
        number = w.number;
        rising = λ j k l m. rw (a j (omega arith), a k m) (w.rising j k l m);
        sound = λ k l. rw (a k l, b k l) (w.sound k l);
        complete = λ s i c l e g. let x = w.complete s i c l e g in (x.0, x.1, b x.0 x.1 ∙ x.2);
      }

  pub lists-few : n ≤ nodes
  lists-few = omega (arith, w.number, sum-most (λ s. is_given (f s)) nodes (λ j. given-few (f j)))

  sum-changed : (s : ℕ) (x : Handle) → s < nodes → sum_to (λ t. is_given (upd f s x t)) nodes + is_given (f s) ≡ n + is_given x
  sum-changed s x ls =
      ap (λ (g : ℕ → ℕ). sum_to g nodes + is_given (f s)) (upd-map is_given f s x) ∙ sum-upd (λ t. is_given (f t)) s (is_given x) nodes ls ∙ ap (λ (m : ℕ). m + is_given x) (sym w.number)

  -- a slot without a given handle leaves room
  pub lists-room : (s : ℕ) → s < nodes → is_given (f s) ≡ 0 → n < nodes
  lists-room s ls z =
      omega (arith, sum-changed s (some 1 1) ls, z, sum-most (λ t. is_given (upd f s (some 1 1) t)) nodes (λ j. given-few (upd f s (some 1 1) j)))

  -- a change of a handle's count
  pub lists-count : (s i c d : ℕ) → s < nodes → f s ≡ some i c → Lists n ids slots (upd f s (some i d))
  lists-count s i c d ls e =
      record {
        number = omega (arith, sum-changed s (some i d) ls, ap is_given e);
        rising = w.rising;
        sound = λ k l. let x = w.sound k l in (x.0, x.1, here k x.2 (same? s (slots k)));
        complete = λ t j b lt q g. there t j b lt q g (same? s t);
      }
    where
      here : (k : ℕ) → (b : ℕ) × (f (slots k) ≡ some (ids k) b) → Same s (slots k) → (b : ℕ) × (upd f s (some i d) (slots k) ≡ some (ids k) b)
      here k x (same q) =
          let y : i ≡ ids k = some_id (sym e ∙ ap f q ∙ x.1) in
          (d, rw (← q, upd_same) (ap (λ (v : ℕ). some v d) y))
      here k x (other q) = (x.0, upd_other f s (slots k) (some i d) q ∙ x.1)

      there : (t j b : ℕ) → t < nodes → upd f s (some i d) t ≡ some j b → (j % 4 ≡ 0 → ⊥) → Same s t → (k : ℕ) × (k < n) × (slots k ≡ t)
      there t j b lt q g (same y) =
          let z : i ≡ j = some_id (sym (upd_same f s (some i d)) ∙ ap (upd f s (some i d)) y ∙ q) in
          let x = w.complete s i c ls e (rw z g) in
          (x.0, x.1, x.2 ∙ y)
      there t j b lt q g (other y) = w.complete t j b lt (sym (upd_other f s t (some i d) y) ∙ q) g

  -- a change between handles that the bus did not give
  pub lists-chosen : (s : ℕ) (x : Handle) → s < nodes → is_given (f s) ≡ 0 → is_given x ≡ 0 → Lists n ids slots (upd f s x)
  lists-chosen s x ls z v =
      record {
        number = omega (arith, sum-changed s x ls);
        rising = w.rising;
        sound = λ k l. let y = w.sound k l in (y.0, y.1, here k y (same? s (slots k)));
        complete = λ t j b lt q g. there t j b lt q g (same? s t);
      }
    where
      here : (k : ℕ) → (slots k < nodes) × (eqb (ids k % 4) 0 ≡ false) × ((c : ℕ) × (f (slots k) ≡ some (ids k) c)) → Same s (slots k) → (b : ℕ) × (upd f s x (slots k) ≡ some (ids k) b)
      here k y (same q) = absurd (omega (arith, z, ap (λ (t : ℕ). is_given (f t)) q, given-one (f (slots k)) (ids k) y.2.0 y.2.1 y.1))
      here k y (other q) = (y.2.0, upd_other f s (slots k) x q ∙ y.2.1)

      there : (t j b : ℕ) → t < nodes → upd f s x t ≡ some j b → (j % 4 ≡ 0 → ⊥) → Same s t → (k : ℕ) × (k < n) × (slots k ≡ t)
      there t j b lt q g (same y) =
          let u : x ≡ some j b = sym (upd_same f s x) ∙ ap (upd f s x) y ∙ q in
          absurd (omega (arith, v, given-one x j b u (ne_eqb (j % 4) 0 g)))
      there t j b lt q g (other y) = w.complete t j b lt (sym (upd_other f s t x y) ∙ q) g

  -- a new ID above all that are listed
  pub lists-enter : (s i c : ℕ) → s < nodes → f s ≡ none → eqb (i % 4) 0 ≡ false → ((k : ℕ) → k < n → ids k < i) →
      (ids' slots' : ℕ → ℕ) → ((k : ℕ) → k < n → ids' k ≡ ids k) → ids' n ≡ i → ((k : ℕ) → k < n → slots' k ≡ slots k) → slots' n ≡ s →
      Lists (n + 1) ids' slots' (upd f s (some i c))
  lists-enter s i c ls e odd above ids' slots' a a' b b' =
      record {
        number = omega (arith, sum-changed s (some i c) ls, ap is_given e, given-one (some i c) i c refl odd);
        rising = λ j k l m. up j k l m (same? k n);
        sound = λ k m. right k m (same? k n);
        complete = λ t j d lt q g. there t j d lt q g (same? s t);
      }
    where
      up : (j k : ℕ) → j < k → k < n + 1 → Same k n → ids' j < ids' k
      up j k l m (same q) = rw (q, a', a j (omega arith)) (above j (omega arith))
      up j k l m (other q) = let v : k < n = omega (arith, q) in rw (a j (omega arith), a k v) (w.rising j k l v)

      right : (k : ℕ) → k < n + 1 → Same k n → (slots' k < nodes) × (eqb (ids' k % 4) 0 ≡ false) × ((d : ℕ) × (upd f s (some i c) (slots' k) ≡ some (ids' k) d))
      right k m (same q) = rw (q, a', b') (ls, odd, (c, upd_same f s (some i c)))
      right k m (other q) =
          let v : k < n = omega (arith, q) in
          let x = w.sound k v in
          rw (a k v, b k v)
          (x.0, x.1, (x.2.0, upd_other f s (slots k) (some i c) (λ y. not_some (sym e ∙ ap f y ∙ x.2.1)) ∙ x.2.1))

      there : (t j d : ℕ) → t < nodes → upd f s (some i c) t ≡ some j d → (j % 4 ≡ 0 → ⊥) → Same s t → (k : ℕ) × (k < n + 1) × (slots' k ≡ t)
      there t j d lt q g (same y) = (n, omega arith, b' ∙ y)
      there t j d lt q g (other y) =
          let x = w.complete t j d lt (sym (upd_other f s t (some i c) y) ∙ q) g in
          (x.0, omega (arith, x.1), b x.0 x.1 ∙ x.2)

  -- an ID is at one place
  pub lists-one : (j k : ℕ) → j < n → k < n → ids j ≡ ids k → j ≡ k
  lists-one j k l m e = go (look (ltb j k)) (look (ltb k j))
    where
      go : Seen (ltb j k) → Seen (ltb k j) → j ≡ k
      go (is_true x) y = absurd (omega (arith, e, w.rising j k (ltb-true j k x) m))
      go (is_false x) (is_true y) = absurd (omega (arith, e, w.rising k j (ltb-true k j y) l))
      go (is_false x) (is_false y) = omega (arith, ltb-false j k x, ltb-false k j y)

  -- the entry at a place gone with its handle
  pub lists-remove : (k s : ℕ) → k < n → slots k ≡ s →
      (ids' slots' : ℕ → ℕ) → ((j : ℕ) → j < k → ids' j ≡ ids j) → ((j : ℕ) → k ≤ j → j < n - 1 → ids' j ≡ ids (j + 1)) →
      ((j : ℕ) → j < k → slots' j ≡ slots j) → ((j : ℕ) → k ≤ j → j < n - 1 → slots' j ≡ slots (j + 1)) →
      Lists (n - 1) ids' slots' (upd f s none)
  lists-remove k s lk ek ids' slots' a a' b b' =
      record {
        number = omega (arith, sum-changed s none (rw (← ek) (w.sound k lk).0), ap (λ (t : ℕ). is_given (f t)) ek, one, lk);
        rising = λ i j l m. up i j l m (look (ltb i k)) (look (ltb j k));
        sound = λ j m. right j m (look (ltb j k));
        complete = λ t j d lt q g. there t j d lt q g (same? s t);
      }
    where
      one : is_given (f (slots k)) ≡ 1
      one = let x = w.sound k lk in given-one (f (slots k)) (ids k) x.2.0 x.2.1 x.1

      up : (i j : ℕ) → i < j → j < n - 1 → Seen (ltb i k) → Seen (ltb j k) → ids' i < ids' j
      up i j l m (is_true x) (is_true y) = rw (a i (ltb-true i k x), a j (ltb-true j k y)) (w.rising i j l (omega arith))
      up i j l m (is_true x) (is_false y) = rw (a i (ltb-true i k x), a' j (ltb-false j k y) m) (w.rising i (j + 1) (omega arith) (omega arith))
      up i j l m (is_false x) (is_true y) = absurd (omega (arith, ltb-false i k x, ltb-true j k y))
      up i j l m (is_false x) (is_false y) =
          rw (a' i (ltb-false i k x) (omega arith), a' j (ltb-false j k y) m) (w.rising (i + 1) (j + 1) (omega arith) (omega arith))

      -- another entry has another slot, since it has another ID
      apart : (j : ℕ) → j < n → (j ≡ k → ⊥) → s ≡ slots j → ⊥
      apart j l ne q = ne (lists-one j k l lk (some_id (sym (w.sound j l).2.1 ∙ ap f (sym q ∙ sym ek) ∙ (w.sound k lk).2.1)))

      held-still : (j : ℕ) → j < n → (j ≡ k → ⊥) → (d : ℕ) × (upd f s none (slots j) ≡ some (ids j) d)
      held-still j l ne = let x = w.sound j l in (x.2.0, upd_other f s (slots j) none (apart j l ne) ∙ x.2.1)

      right : (j : ℕ) → j < n - 1 → Seen (ltb j k) → (slots' j < nodes) × (eqb (ids' j % 4) 0 ≡ false) × ((d : ℕ) × (upd f s none (slots' j) ≡ some (ids' j) d))
      right j m (is_true x) =
          let l : j < n = omega arith in
          let lt : j < k = ltb-true j k x in
          rw (a j lt, b j lt) ((w.sound j l).0, (w.sound j l).1, held-still j l (λ q. absurd (omega arith)))
      right j m (is_false x) =
          let l : j + 1 < n = omega arith in
          let ge : k ≤ j = ltb-false j k x in
          rw (a' j ge m, b' j ge m) ((w.sound (j + 1) l).0, (w.sound (j + 1) l).1, held-still (j + 1) l (λ q. absurd (omega arith)))

      there : (t j d : ℕ) → t < nodes → upd f s none t ≡ some j d → (j % 4 ≡ 0 → ⊥) → Same s t → (m : ℕ) × (m < n - 1) × (slots' m ≡ t)
      there t j d lt q g (same y) = absurd (not_some (sym (upd_same f s none) ∙ ap (upd f s none) y ∙ q))
      there t j d lt q g (other y) =
          let x = w.complete t j d lt (sym (upd_other f s t none y) ∙ q) g in
          moved x.0 x.1 x.2 (λ z. y (sym ek ∙ ap slots (sym z) ∙ x.2)) (look (ltb x.0 k))
        where
          moved : (m : ℕ) → m < n → slots m ≡ t → (m ≡ k → ⊥) → Seen (ltb m k) → (m : ℕ) × (m < n - 1) × (slots' m ≡ t)
          moved m l z ne (is_true v) = let u : m < k = ltb-true m k v in (m, omega arith, b m u ∙ z)
          moved m l z ne (is_false v) =
              let u : k < m = omega (arith, ltb-false m k v, ne) in
              let e : m - 1 + 1 ≡ m = omega arith in
              (m - 1, omega arith, b' (m - 1) (omega arith) (omega arith) ∙ ap slots e ∙ z)

-- In a list the halving comes to the entry of an ID.
pub place_of : (h : List ℕ) (p i : ℕ) {slots : ℕ → ℕ} {f : ℕ → Handle} → Lists (id_at h length_block p) (listed_id h p) slots f →
    (m k : ℕ) → m ≤ id_at h length_block p → k < m → listed_id h p k ≡ i → place_in h p i m ≡ k
unfolding place_in
place_of h p i l m k lm lk e =
    halve-first (at_least h p i) halvings m (keys-rise (listed_id h p) i m (λ a b c d. l.rising a b c (omega arith))) (omega (arith, lists-few l))
    ∙ sym
    (first-is (at_least h p i) m k (omega arith) (λ j lj. lt-leb i (listed_id h p j) (omega (arith, e, l.rising j k lj (omega arith))))
    (λ _. le-leb i (listed_id h p k) (omega (arith, e))))

-- Stores of one record.
module _ (h : List ℕ) (b k x y : ℕ) (lk : k < nodes) where
  record-else : (a : ℕ) → (handle_row b k ≡ a → ⊥) → (handle_row b k + 1 ≡ a → ⊥) → get_or (put_handle h b k x y) a 0 ≡ get_or h a 0
  unfolding put_handle
  record-else a e f =
      get_or-set_other (set h (handle_row b k) x) (handle_row b k + 1) a y 0 (λ q. f (sym q)) ∙ get_or-set_other h (handle_row b k) a x 0 (λ q. e (sym q))

  pub record-kept : (c j : ℕ) → j < nodes → (b ≡ c → k ≡ j → ⊥) → (id_at (put_handle h b k x y) c j ≡ id_at h c j) × (word_at (put_handle h b k x y) c j ≡ word_at h c j)
  record-kept c j lj ne = (
    record-else (handle_row c j) (λ q. let z = place b k c j lk lj (omega arith) in ne z.0 z.1) (λ q. odd (b * nodes + k) (c * nodes + j) (omega arith)),
    record-else (handle_row c j + 1) (λ q. odd (c * nodes + j) (b * nodes + k) (omega arith)) (λ q. let z = place b k c j lk lj (omega arith) in ne z.0 z.1),
  )

  pub record-put : handle_row b k + 1 < length h → (id_at (put_handle h b k x y) b k ≡ x) × (word_at (put_handle h b k x y) b k ≡ y)
  unfolding put_handle
  record-put l =
      let old = set h (handle_row b k) x in (
        get_or-set_other old (handle_row b k + 1) (handle_row b k) y 0 (λ q. absurd (omega arith)) ∙ get_or-set_same h (handle_row b k) x 0 (omega arith),
        get_or-set_same old (handle_row b k + 1) y 0 (omega (arith, length-set h (handle_row b k) x)),
      )

-- Two tables with the same list of a peer.
pub record SameList (h h' : List ℕ) (q : ℕ) : Type 0 where
  pub size : id_at h' length_block q ≡ id_at h length_block q
  pub entry : (k : ℕ) → k < nodes → (listed_id h' q k ≡ listed_id h q k) × (word_at h' (list_block q) k ≡ word_at h (list_block q) k)

list-refl : (h : List ℕ) (q : ℕ) → SameList h h q
list-refl h q = record { size = refl; entry = λ k l. (refl, refl) }

pub list-then : {h h' h'' : List ℕ} {q : ℕ} → SameList h h' q → SameList h' h'' q → SameList h h'' q
list-then a b = record { size = b.size ∙ a.size; entry = λ k l. ((b.entry k l).0 ∙ (a.entry k l).0, (b.entry k l).1 ∙ (a.entry k l).1) }

pub list-kept : (h : List ℕ) (b k x y : ℕ) → k < nodes → (q : ℕ) → q < peers → (b ≡ list_block q → ⊥) → (b ≡ length_block → k ≡ q → ⊥) → SameList h (put_handle h b k x y) q
list-kept h b k x y lk q lq ne nf =
    record {
      size = (record-kept h b k x y lk length_block q (omega arith) nf).0;
      entry = λ j l. record-kept h b k x y lk (list_block q) j l (λ e d. ne e);
    }

pub listed-from : {h h' : List ℕ} (q : ℕ) → Listed h q → SameList h h' q → handle_v h' q ≡ handle_v h q → Listed h' q
listed-from {h} {h'} q w a e =
    rw (a.size, e)
    (lists-ext w (listed_id h' q) (listed_slot h' q) (λ k l. (a.entry k (omega (arith, lists-few w))).0) (λ k l. ap (λ (x : ℕ). x % nodes) (a.entry k (omega (arith, lists-few w))).1))

-- The other peers' lists.
abbrev pub Others : List ℕ → ℕ → Type 0
Others h p = (q : ℕ) → q < peers → (p ≡ q → ⊥) → Listed h q

pub both-peers : (h : List ℕ) (p : ℕ) → Others h p → Listed h p → AllListed h
both-peers h p o l q lq = go (same? p q)
  where
    go : Same p q → Listed h q
    go (same e) = rw (← e) l
    go (other e) = o q lq e

-- A handle stored: the lists stay.
module _ (h : List ℕ) (size : length h ≡ handles_size) (p s i c : ℕ) (lp : p < peers) (ls : s < nodes) (lc : c < modulus) where
  pub put-list : (q : ℕ) → q < peers → SameList h (put_handle h p s i c) q
  put-list q lq = list-kept h p s i c ls q lq (λ e. absurd (omega arith)) (λ e d. absurd (omega arith))

  pub put-others : AllListed h → Others (put_handle h p s i c) p
  put-others a q lq ne =
      listed-from q (a q lq) (put-list q lq)
      (ap (λ (f : ℕ → ℕ → Handle). f q) (handle-put h size p s i c lp ls lc) ∙ upd_other (handle_v h) p q (upd (handle_v h p) s (handle_of i c)) ne)

  pub put-own : handle_v (put_handle h p s i c) p ≡ upd (handle_v h p) s (handle_of i c)
  put-own = ap (λ (f : ℕ → ℕ → Handle). f p) (handle-put h size p s i c lp ls lc) ∙ upd_same (handle_v h) p (upd (handle_v h p) s (handle_of i c))

  -- the entries of the peer's list in the stored table, over the old handles
  pub put-lists : {f : ℕ → Handle} → Lists (id_at h length_block p) (listed_id h p) (listed_slot h p) f →
      Lists (id_at (put_handle h p s i c) length_block p) (listed_id (put_handle h p s i c) p) (listed_slot (put_handle h p s i c) p) f
  put-lists w =
      let a = put-list p lp in
      rw a.size
      (lists-ext w (listed_id (put_handle h p s i c) p) (listed_slot (put_handle h p s i c) p) (λ k l. (a.entry k (omega (arith, lists-few w))).0)
      (λ k l. ap (λ (x : ℕ). x % nodes) (a.entry k (omega (arith, lists-few w))).1))

  pub listed-put : AllListed h → Lists (id_at h length_block p) (listed_id h p) (listed_slot h p) (upd (handle_v h p) s (handle_of i c)) → AllListed (put_handle h p s i c)
  listed-put a w = both-peers (put_handle h p s i c) p (put-others a) (rw put-own (put-lists w))

-- A new entry.
module _ (h : List ℕ) (size : length h ≡ handles_size) (p : ℕ) (lp : p < peers) (o : Others h p) where
  pub listed-enlisted : {f : ℕ → Handle} → Lists (id_at h length_block p) (listed_id h p) (listed_slot h p) f → (s i c : ℕ) → s < nodes → f s ≡ none → eqb (i % 4) 0 ≡ false →
      ((k : ℕ) → k < id_at h length_block p → listed_id h p k < i) → handle_v h p ≡ upd f s (some i c) → AllListed (enlisted h p i s)
  unfolding enlisted
  listed-enlisted {f} w s i c ls e odd above v = both-peers h₂ p others own
    where
      n : ℕ
      n = list_length h p

      h₁ : List ℕ
      h₁ = put_handle h (list_block p) n i s

      h₂ : List ℕ
      h₂ = put_handle h₁ length_block p (n + 1) i

      room : id_at h length_block p < nodes
      room = lists-room w s ls (ap is_given e)

      whole : n ≡ id_at h length_block p
      whole = omega (arith, room)

      ln : n < nodes
      ln = omega (arith, room, whole)

      far : handle_v h₂ ≡ handle_v h
      far = enlist-handles h p i s

      others : Others h₂ p
      others q lq ne =
          listed-from q (o q lq ne)
          (list-then (list-kept h (list_block p) n i s ln q lq (λ z. ne (omega arith)) (λ z y. absurd (omega arith))) (list-kept h₁ length_block p (n + 1) i (omega arith) q lq (λ z. absurd (omega arith)) (λ z y. ne y)))
          (ap (λ (g : ℕ → ℕ → Handle). g q) far)

      inside : handle_row length_block p + 1 < length h₁
      inside = omega (arith, size, put-length h (list_block p) n i s)

      older : (k : ℕ) → k < nodes → (n ≡ k → ⊥) → (listed_id h₂ p k ≡ listed_id h p k) × (word_at h₂ (list_block p) k ≡ word_at h (list_block p) k)
      older k lk ne =
          let a = record-kept h₁ length_block p (n + 1) i (omega arith) (list_block p) k lk (λ z y. absurd (omega arith)) in
          let b = record-kept h (list_block p) n i s ln (list_block p) k lk (λ z y. ne y) in
          (a.0 ∙ b.0, a.1 ∙ b.1)

      newest : (listed_id h₂ p n ≡ i) × (word_at h₂ (list_block p) n ≡ s)
      newest =
          let a = record-kept h₁ length_block p (n + 1) i (omega arith) (list_block p) n ln (λ z y. absurd (omega arith)) in
          let b = record-put h (list_block p) n i s ln (omega (arith, size, ln)) in
          (a.0 ∙ b.0, a.1 ∙ b.1)

      own : Listed h₂ p
      own =
          let z : id_at h₂ length_block p ≡ id_at h length_block p + 1 = (record-put h₁ length_block p (n + 1) i (omega arith) inside).0 ∙ ap (λ (m : ℕ). m + 1) whole in
          let y : handle_v h₂ p ≡ upd f s (some i c) = ap (λ (g : ℕ → ℕ → Handle). g p) far ∙ v in
          rw (z, y)
          (lists-enter w s i c ls e odd above (listed_id h₂ p) (listed_slot h₂ p) (λ k l. (older k (omega (arith, room)) (λ q. absurd (omega (arith, whole)))).0)
          (ap (listed_id h₂ p) (sym whole) ∙ newest.0)
          (λ k l. ap (λ (x : ℕ). x % nodes) (older k (omega (arith, room)) (λ q. absurd (omega (arith, whole)))).1)
          (ap (listed_slot h₂ p) (sym whole) ∙ ap (λ (x : ℕ). x % nodes) newest.1 ∙ small))
        where
          small : s % nodes ≡ s
          small = omega (arith, ls)

-- Entries shifted down.
module _ (h : List ℕ) (size : length h ≡ handles_size) (p k : ℕ) (lp : p < peers) where
  abbrev Entry : List ℕ → ℕ → ℕ → Type 0
  Entry g j i = (listed_id g p j ≡ listed_id h p i) × (word_at g (list_block p) j ≡ word_at h (list_block p) i)

  pub shift-before : (m : ℕ) → k + m < nodes → (j : ℕ) → j < k → Entry (shifted h p k m) j j
  unfolding shifted
  shift-before zero l j lj = (refl, refl)
  shift-before (suc m) l j lj =
      let g = shifted h p k m in
      let a = record-kept g (list_block p) (k + m) (id_at g (list_block p) (k + m + 1)) (word_at g (list_block p) (k + m + 1)) (omega arith) (list_block p) j (omega arith) (λ x y. absurd (omega arith)) in
      let b = shift-before m (omega arith) j lj in
      (a.0 ∙ b.0, a.1 ∙ b.1)

  shift-after : (m : ℕ) → k + m < nodes → (j : ℕ) → j < nodes → k + m ≤ j → Entry (shifted h p k m) j j
  unfolding shifted
  shift-after zero l j lj le = (refl, refl)
  shift-after (suc m) l j lj le =
      let g = shifted h p k m in
      let a = record-kept g (list_block p) (k + m) (id_at g (list_block p) (k + m + 1)) (word_at g (list_block p) (k + m + 1)) (omega arith) (list_block p) j lj (λ x y. absurd (omega arith)) in
      let b = shift-after m (omega arith) j lj (omega arith) in
      (a.0 ∙ b.0, a.1 ∙ b.1)

  pub shift-moved : (m : ℕ) → k + m < nodes → (j : ℕ) → k ≤ j → j < k + m → Entry (shifted h p k m) j (j + 1)
  unfolding shifted
  shift-moved zero l j ge lt = absurd (omega arith)
  shift-moved (suc m) l j ge lt = go (same? (k + m) j) (shift-moved m)
    where
      g : List ℕ
      g = shifted h p k m

      go : Same (k + m) j → (k + m < nodes → (j : ℕ) → k ≤ j → j < k + m → Entry (shifted h p k m) j (j + 1)) → Entry (shifted h p k (suc m)) j (j + 1)
      go (same e) ih =
          let a = record-put g (list_block p) (k + m) (id_at g (list_block p) (k + m + 1)) (word_at g (list_block p) (k + m + 1)) (omega arith) (omega (arith, size, shift-length h p k m)) in
          let b = shift-after m (omega arith) (k + m + 1) (omega arith) (omega arith) in
          rw (← e) (a.0 ∙ b.0, a.1 ∙ b.1)
      go (other e) ih =
          let a = record-kept g (list_block p) (k + m) (id_at g (list_block p) (k + m + 1)) (word_at g (list_block p) (k + m + 1)) (omega arith) (list_block p) j (omega arith) (λ x y. e y) in
          let b = ih (omega arith) j ge (omega (arith, e)) in
          (a.0 ∙ b.0, a.1 ∙ b.1)

  pub shift-list : (m : ℕ) → k + m < nodes → (q : ℕ) → q < peers → (p ≡ q → ⊥) → SameList h (shifted h p k m) q
  unfolding shifted
  shift-list zero l q lq ne = list-refl h q
  shift-list (suc m) l q lq ne =
      let g = shifted h p k m in
      list-then (shift-list m (omega arith) q lq ne)
      (list-kept g (list_block p) (k + m) (id_at g (list_block p) (k + m + 1)) (word_at g (list_block p) (k + m + 1)) (omega arith) q lq (λ x. ne (omega arith)) (λ x y. absurd (omega arith)))

pub unlisted-chosen : (h : List ℕ) (p i : ℕ) → eqb (i % 4) 0 ≡ true → unlisted h p i ≡ h
unfolding unlisted
unlisted-chosen h p i e = rw e

-- All handles of a peer gone.
module _ (h : List ℕ) (size : length h ≡ handles_size) (p : ℕ) (lp : p < peers) (a : AllListed h) where
  clear-list : (n : ℕ) → n ≤ nodes → (q : ℕ) → q < peers → SameList h (clear_below h p n) q
  unfolding clear_below
  clear-list zero l q lq = list-refl h q
  clear-list (suc n) l q lq =
      list-then (clear-list n (omega arith) q lq) (list-kept (clear_below h p n) p n 0 0 (omega arith) q lq (λ e. absurd (omega arith)) (λ e d. absurd (omega arith)))

  cleared-list : (q : ℕ) → q < peers → (p ≡ q → ⊥) → SameList h (clear_peer h p) q
  unfolding clear_peer
  cleared-list q lq ne = list-then (clear-list nodes (omega arith) q lq) (list-kept (clear_below h p nodes) length_block p 0 0 (omega arith) q lq (λ e. absurd (omega arith)) (λ e d. ne d))

  cleared-empty : id_at (clear_peer h p) length_block p ≡ 0
  unfolding clear_peer
  cleared-empty = (record-put (clear_below h p nodes) length_block p 0 0 (omega arith) (omega (arith, size, clear-below-length h p nodes))).0

  pub listed-cleared : AllListed (clear_peer h p)
  listed-cleared = both-peers (clear_peer h p) p others own
    where
      seen : handle_v (clear_peer h p) ≡ upd (handle_v h) p (λ s. none)
      seen = handle-clear h size p lp

      others : Others (clear_peer h p) p
      others q lq ne = listed-from q (a q lq) (cleared-list q lq ne) (ap (λ (f : ℕ → ℕ → Handle). f q) seen ∙ upd_other (handle_v h) p q (λ s. none) ne)

      own : Listed (clear_peer h p) p
      own =
          let y : handle_v (clear_peer h p) p ≡ (λ s. none) = ap (λ (f : ℕ → ℕ → Handle). f p) seen ∙ upd_same (handle_v h) p (λ s. none) in
          rw (cleared-empty, y) (lists-none (listed_id (clear_peer h p) p) (listed_slot (clear_peer h p) p))

-- A table of zeros.
none-fresh : (n : ℕ) → handle_v (replicate n 0) ≡ (λ p s. none)
unfolding start
none-fresh n = handle-fresh n

pub listed-fresh : (n : ℕ) → AllListed (replicate n 0)
listed-fresh n p lp =
    let e : id_at (replicate n 0) length_block p ≡ 0 = zeros-at n (handle_row length_block p) in
    let y : handle_v (replicate n 0) p ≡ (λ s. none) = ap (λ (f : ℕ → ℕ → Handle). f p) (none-fresh n) in
    rw (e, y) (lists-none (listed_id (replicate n 0) p) (listed_slot (replicate n 0) p))
