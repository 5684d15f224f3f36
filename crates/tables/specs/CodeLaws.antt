-- The laws that the functions' proofs cite, one for each return or turn of a loop, over plain variables: each is shaped like what the callee ensures.
-- Assumes nothing.
use Rattle.std.specs.Prelude.{ℕ, zero, suc, ◌+◌, ◌-◌, ◌*◌, ◌/◌, ◌%◌, ◌^◌, ◌≤◌, ◌<◌, min, ◌≡◌, List, length, get_or, eqb, leb, Option, Some, None, set, take, drop, replicate, Bool, [], ◌∷◌}
use Rattle.std.proofs.Math.Path.{refl}
use Rattle.std.proofs.Common.{sym, ap, ◌∙◌, ltb, eqb-true, add-zero, pow_mono}
use Rattle.std.proofs.Math.Bool.{true, false, not}
use native.Mathlib.Omega.{arith}
use Rattle.std.proofs.Math.Numerals.{add-one}
use Rattle.std.proofs.Math.Pow.{pow-lt}
use Rattle.std.proofs.Math.Nat.{div-eq_of_lt}
use Rattle.std.specs.Int.Bits.{bit_or}
use Rattle.std.proofs.lemmas.Nat.{or_disjoint}
use Rattle.std.proofs.lemmas.Nat.Bits.{and_pow}
use Rattle.std.proofs.Math.Seq.{paste, get_or-set_other}
use Rattle.std.proofs.lemmas.List.{get_or-drop, get_or-replicate, length-take, length-drop, length-replicate}
use Rattle.std.proofs.lemmas.List.Edits.{paste_none, paste_more}
use Rattle.std.proofs.lemmas.Slice.{put_mid-paste}
use Rattle.std.specs.Option.{option_map}
use Rattle.std.proofs.lemmas.Bool.{eqb-false}
use borrow.Rule.Slice.PartMut.{put_mid}
use borrow.Author.Tests.{ne_eqb, lt-ltb, le-ltb, le-leb, lt-leb, leb-true, leb-false, eq-eqb}
use Rattle.laws.specs.Tests.{Seen, Seen.is_true, Seen.is_false, look, pick}
use Rattle.laws.specs.Sums.{sum_to}
use Rattle.laws.specs.Search.{first, first-is}
use Rattle.laws.specs.Halving.{halve, halve-down, halve-up, halve-done}
use Rattle.tables.specs.declared.Entry.{Entry}
use Rattle.laws.specs.Build.{build, build-ext, build-list}
use Rattle.quota.specs.declared.Charge.{Charge}
use Rattle.quota.specs.Charges.{users, nothing}
use Rattle.laws.specs.Bits.{bits}
use Rattle.model.specs.Numbers.{nodes}
use Rattle.tables.specs.Handles.{own_step, handle_row, list_block, length_block, block_size, handles_size, halvings, list_reads, id_at, count_at, has_in, has_at, found_by, found_own, list_length, listed_id, word_at, guess, guessed, at_least, place_in, spot, found_among, found_listed, entry_of, lookup, holders_below, holders_at, put_handle, clear_below, clear_peer, shifted, most_reads, total_below, total_at, bit_at, enlisted, taken_out, unlisted, raised, reduced}
use Rattle.tables.specs.Charges.{charge_at, charges_at, put_charge, put_below, put_charges}
use Rattle.ids.specs.Sizes.{peers, slots, handle_fields}
use Rattle.ids.specs.declared.HandleId.{HandleId}
use Rattle.quota.specs.declared.Charges.{Charges}
use Rattle.ids.specs.Refusals.{EBADF, ESHUTDOWN}
use Rattle.tables.specs.Peers.{peer_row, modulus, status_at, standing_at}

-- standing
module _ (ps : List ℕ) (p : ℕ) where
  pub standing-open : get_or ps (peer_row p) 0 ≡ 1 → 0 ≡ standing_at ps p
  unfolding standing_at status_at
  standing-open e = rw e

  module _ (ne : get_or ps (peer_row p) 0 ≡ 1 → ⊥) where
    pub standing-left : get_or ps (peer_row p) 0 ≡ 2 → ESHUTDOWN ≡ standing_at ps p
    unfolding standing_at status_at
    standing-left e = rw e

    pub standing-none : (get_or ps (peer_row p) 0 ≡ 2 → ⊥) → EBADF ≡ standing_at ps p
    unfolding standing_at status_at
    standing-none nf = rw (ne_eqb (get_or ps (peer_row p) 0) 1 ne, ne_eqb (get_or ps (peer_row p) 0) 2 nf)

-- holds, find
module _ (h : List ℕ) (i at : ℕ) where
  holds-other : (get_or h at 0 ≡ i → ⊥) → false ≡ has_in h i at
  unfolding has_in
  holds-other ne = rw (ne_eqb (get_or h at 0) i ne) (go (eqb (get_or h (at + 1) 0 % modulus) 0))
    where
      go : (b : Bool) → false ≡ pick b false false
      go true = refl
      go false = refl

  holds-some : get_or h at 0 ≡ i → not (eqb (get_or h (at + 1) 0 % modulus) 0) ≡ has_in h i at
  unfolding has_in
  holds-some e = rw (eq-eqb (get_or h at 0) i e) (go (eqb (get_or h (at + 1) 0 % modulus) 0))
    where
      go : (b : Bool) → not b ≡ pick b false true
      go true = refl
      go false = refl

  module _ {v x c : ℕ} (r : ℕ) (e : (v ≡ get_or h at 0) × (x ≡ get_or h (at + 1) 0) × (c ≡ r + 1)) where
    pub holds_not : (v ≡ i → ⊥) → (false ≡ has_in h i at) × (c ≡ r + 1)
    holds_not ne = (holds-other (λ q. ne (e.0 ∙ q)), e.2)

    pub holds-this : v ≡ i → (not (eqb (x % modulus) 0) ≡ has_in h i at) × (c ≡ r + 1)
    holds-this q = (ap (λ (y : ℕ). not (eqb (y % modulus) 0)) e.1 ∙ holds-some (sym e.0 ∙ q), e.2)

-- the place of an own slot's handle
pub own_row : (h : List ℕ) (p i k : ℕ) → has_in h i (p * own_step + handle_fields * k) ≡ has_at h p i (p * slots + k)
unfolding has_at
own_row h p i k = let e : p * own_step + handle_fields * k ≡ handle_row p (p * slots + k) = omega arith in ap (has_in h i) e

module _ (h : List ℕ) (p i : ℕ) (at : ℕ → ℕ) (n : ℕ) where
  pub found_at : (k : ℕ) → k < n → ((j : ℕ) → j < k → has_at h p i (at j) ≡ false) → has_at h p i (at k) ≡ true → Some (at k) ≡ found_by h p i at n
  unfolding found_by
  found_at k l before here =
      let e : k ≡ first (λ j. has_at h p i (at j)) n = first-is (λ j. has_at h p i (at j)) n k (omega arith) before (λ _. here) in
      rw (← e, lt-ltb k n l)

  pub found_nothing : ((j : ℕ) → j < n → has_at h p i (at j) ≡ false) → None ≡ found_by h p i at n
  unfolding found_by
  found_nothing before =
      let e : n ≡ first (λ j. has_at h p i (at j)) n = first-is (λ j. has_at h p i (at j)) n n (omega arith) before (λ l. absurd (omega arith)) in
      rw (← e, le-ltb n n (omega arith))

-- seek_own
module _ (h : List ℕ) (p i : ℕ) where
  pub own_at : (k : ℕ) → k < slots → ((j : ℕ) → j < k → has_at h p i (p * slots + j) ≡ false) → has_at h p i (p * slots + k) ≡ true → Some (p * slots + k) ≡ found_own h p i
  unfolding found_own
  own_at k l before here = found_at h p i (λ j. p * slots + j) slots k l before here

  pub own-nothing : ((j : ℕ) → j < slots → has_at h p i (p * slots + j) ≡ false) → None ≡ found_own h p i
  unfolding found_own
  own-nothing before = found_nothing h p i (λ j. p * slots + j) slots before

-- find
module _ (h : List ℕ) (p i : ℕ) {r : Option ℕ} where
  pub found-own : i % 4 ≡ 0 → r ≡ found_own h p i → r ≡ lookup h p i
  unfolding lookup
  found-own e f = rw (eq-eqb (i % 4) 0 e) f

  pub found-listed : (i % 4 ≡ 0 → ⊥) → r ≡ found_listed h p i → r ≡ lookup h p i
  unfolding lookup
  found-listed ne f = rw (ne_eqb (i % 4) 0 ne) f

-- place_in
-- A span of places, and the half of it in which an ID is, by the ID that stands in its middle.
pub record Span : Type 0 where
  pub low : ℕ
  pub high : ℕ

abbrev pub narrowed : ℕ → ℕ → ℕ → ℕ → ℕ → Span
narrowed low mid high i v = pick (leb i v) (record { low = low; high = mid }) (record { low = mid + 1; high = high })

pub narrowed-less : (low high i v : ℕ) {x : Span} → low < high → x ≡ narrowed low ((low + high) / 2) high i v → x.high - x.low < high - low
narrowed-less low high i v {x} l ex = rw ex (go (look (leb i v)))
  where
    go : Seen (leb i v) → (narrowed low ((low + high) / 2) high i v).high - (narrowed low ((low + high) / 2) high i v).low < high - low
    go (is_true e) = rw e (omega arith)
    go (is_false e) = rw e (omega arith)

pub narrow-down : (low mid high i v : ℕ) → i ≤ v → record { low = low; high = mid } ≡ narrowed low mid high i v
narrow-down low mid high i v l = rw (le-leb i v l)

pub narrow-up : (low mid high i v : ℕ) → v < i → record { low = mid + 1; high = high } ≡ narrowed low mid high i v
narrow-up low mid high i v l = rw (lt-leb i v l)

-- The span in which the place is, with the reads of records that are left for it.
pub record Halving (h : List ℕ) (p i n r low high c : ℕ) : Type 0 where
  pub order : low ≤ high
  pub inside : high ≤ n
  pub first : r ≤ c
  pub last : c ≤ r + halvings
  pub few : high - low < 2 ^ (r + halvings - c)
  pub place : place_in h p i n ≡ halve (at_least h p i) (r + halvings - c) low high

module _ (h : List ℕ) (p i n r : ℕ) where
  pub halving-starts : n ≤ nodes → Halving h p i n r 0 n r
  unfolding place_in
  halving-starts l =
      let e : r + halvings - r ≡ halvings = omega arith in
      record { order = omega arith; inside = omega arith; first = omega arith; last = omega arith; few = rw e (omega arith); place = rw e }

  some_left : (low high f : ℕ) → low < high → high - low < 2 ^ f → 0 < f
  some_left low high zero l few = absurd (omega arith)
  some_left low high (suc f) l few = omega arith

  pub halving-reads : (low high c : ℕ) → Halving h p i n r low high c → low < high → c < r + halvings
  halving-reads low high c w l = omega (arith, some_left low high (r + halvings - c) l w.few)

  module _ (low high c v d : ℕ) (w : Halving h p i n r low high c) (l : low < high) (ev : v ≡ listed_id h p ((low + high) / 2)) (ed : d ≡ c + 1) where
    left : c < r + halvings
    left = halving-reads low high c w l

    fuel : r + halvings - c ≡ suc (r + halvings - d)
    fuel = omega (arith, left, ed)

    half : 2 ^ (r + halvings - c) ≡ 2 * 2 ^ (r + halvings - d)
    half = rw fuel (omega arith)

    pub halving-low : i ≤ v → Halving h p i n r low ((low + high) / 2) d
    halving-low e =
        record {
          order = omega arith;
          inside = omega (arith, w.inside);
          first = omega (arith, w.first);
          last = omega (arith, left);
          few = omega (arith, half, w.few, w.order);
          place = w.place ∙ ap (λ (f : ℕ). halve (at_least h p i) f low high) fuel ∙ halve-down (at_least h p i) (r + halvings - d) low high l (ap (leb i) (sym ev) ∙ le-leb i v e);
        }

    pub halving-high : v < i → Halving h p i n r ((low + high) / 2 + 1) high d
    halving-high e =
        record {
          order = omega arith;
          inside = w.inside;
          first = omega (arith, w.first);
          last = omega (arith, left);
          few = omega (arith, half, w.few, w.order);
          place = w.place ∙ ap (λ (f : ℕ). halve (at_least h p i) f low high) fuel ∙ halve-up (at_least h p i) (r + halvings - d) low high l (ap (leb i) (sym ev) ∙ lt-leb i v e);
        }

  pub halving-turn : (low high c v d : ℕ) {x : Span} → Halving h p i n r low high c → low < high → v ≡ listed_id h p ((low + high) / 2) → d ≡ c + 1 →
      x ≡ narrowed low ((low + high) / 2) high i v → Halving h p i n r x.low x.high d
  halving-turn low high c v d {x} w l ev ed ex = rw ex (go (look (leb i v)))
    where
      mid : ℕ
      mid = (low + high) / 2

      go : Seen (leb i v) → Halving h p i n r (narrowed low mid high i v).low (narrowed low mid high i v).high d
      go (is_true e) = rw e (halving-low low high c v d w l ev ed (leb-true i v e))
      go (is_false e) = rw e (halving-high low high c v d w l ev ed (leb-false i v e))

  pub halving-done : (low high c : ℕ) → Halving h p i n r low high c → high ≤ low → (low ≡ place_in h p i n) × (c ≤ r + halvings)
  halving-done low high c w l = (sym (w.place ∙ halve-done (at_least h p i) (r + halvings - c) low high l), w.last)

-- among the entries of a list: where the halving ends
module _ (h : List ℕ) (p i n r : ℕ) {k c : ℕ} (ek : (k ≡ place_in h p i n) × (c ≤ r + halvings)) where
  pub among-past : n ≤ k → (None ≡ found_among h p i n) × (c ≤ r + (halvings + 1))
  unfolding found_among
  among-past l = (rw (← ek.0, le-ltb k n l), omega (arith, ek.1))

  module _ (l : k < n) {v x d : ℕ} (e : (v ≡ listed_id h p k) × (x ≡ word_at h (list_block p) k) × (d ≡ c + 1)) where
    pub among-other : (v ≡ i → ⊥) → (None ≡ found_among h p i n) × (d ≤ r + (halvings + 1))
    unfolding found_among
    among-other ne = (rw (← ek.0, lt-ltb k n l, ← e.0, ne_eqb v i ne), omega (arith, ek.1, e.2))

    pub among-this : v ≡ i → (Some (x % nodes) ≡ found_among h p i n) × (d ≤ r + (halvings + 1))
    unfolding found_among
    among-this q = (rw (← ek.0, lt-ltb k n l, ← e.0, eq-eqb v i q, e.1), omega (arith, ek.1, e.2))

-- in a list: at the guessed place, or else among the entries
long : (h : List ℕ) (p : ℕ) {a : ℕ} → a ≡ id_at h length_block p → {n : ℕ} → n ≡ min a nodes → list_length h p ≡ n
long h p ea en = sym (en ∙ ap (λ (x : ℕ). min x nodes) ea)

module _ (h : List ℕ) (p i : ℕ) {a v c : ℕ} (e : (a ≡ id_at h length_block p) × (v ≡ word_at h length_block p) × (c ≡ 0 + 1)) {n : ℕ} (en : n ≡ min a nodes) where
  pub listed-none : n ≡ 0 → (None ≡ found_listed h p i) × (c ≤ list_reads)
  unfolding found_listed
  listed-none z = (rw (long h p e.0 en, z), omega (arith, e.2))

  module _ (some : n ≡ 0 → ⊥) {k : ℕ} (ek : (k ≡ guess v i n) × (k < n)) {w y m : ℕ} (f : (w ≡ listed_id h p k) × (y ≡ word_at h (list_block p) k) × (m ≡ c + 1)) where
    pub listed-there : w ≡ i → (Some (y % nodes) ≡ found_listed h p i) × (m ≤ list_reads)
    unfolding found_listed
    listed-there q = (rw (long h p e.0 en, ne_eqb n 0 some, ← e.1, ← ek.0, ← f.0, eq-eqb w i q, f.1), omega (arith, e.2, f.2))

    pub listed-else : (w ≡ i → ⊥) → {r : Option ℕ} {o : ℕ} → (r ≡ found_among h p i n) × (o ≤ m + (halvings + 1)) → (r ≡ found_listed h p i) × (o ≤ list_reads)
    unfolding found_listed
    listed-else q {r} {o} t = (rw (long h p e.0 en, ne_eqb n 0 some, ← e.1, ← ek.0, ← f.0, ne_eqb w i q) t.0, omega (arith, e.2, f.2, t.1))

-- seek: what is found in the list is the slot of the entry
entry-slot : (h : List ℕ) (p i : ℕ) → option_map (λ (e : Entry). e.slot) (entry_of h p i) ≡ found_listed h p i
unfolding entry_of found_listed found_among spot
entry-slot h p i = go (look (eqb n 0)) (look (eqb (listed_id h p g) i)) (look (ltb k n)) (look (eqb (listed_id h p k) i))
  where
    n : ℕ
    n = list_length h p

    g : ℕ
    g = guessed h p i

    k : ℕ
    k = place_in h p i n

    go : Seen (eqb n 0) → Seen (eqb (listed_id h p g) i) → Seen (ltb k n) → Seen (eqb (listed_id h p k) i) →
        option_map (λ (e : Entry). e.slot) (entry_of h p i) ≡ found_listed h p i
    go (is_true x) y z w = let e = eqb-true n 0 x in rw (e, le-ltb (spot h p i 0) 0 (omega arith))
    go (is_false x) (is_true y) z w = let l : g < n = omega (arith, eqb-false n 0 x) in rw (x, y, lt-ltb g n l, y)
    go (is_false x) (is_false y) (is_false z) w = rw (x, y, z)
    go (is_false x) (is_false y) (is_true z) (is_true w) = rw (x, y, z, w)
    go (is_false x) (is_false y) (is_true z) (is_false w) = rw (x, y, z, w)

module _ (h : List ℕ) (p i : ℕ) {r : Option ℕ} where
  pub found-entry : (i % 4 ≡ 0 → ⊥) → r ≡ option_map (λ (e : Entry). e.slot) (entry_of h p i) → r ≡ lookup h p i
  unfolding lookup
  found-entry ne f = rw (ne_eqb (i % 4) 0 ne) (f ∙ entry-slot h p i)

-- spot
module _ (h : List ℕ) (p i n : ℕ) {a v c : ℕ} (e : (a ≡ id_at h length_block p) × (v ≡ word_at h length_block p) × (c ≡ 0 + 1)) {k : ℕ} (ek : (k ≡ guess v i n) × (k < n))
    {w y d : ℕ} (f : (w ≡ listed_id h p k) × (y ≡ word_at h (list_block p) k) × (d ≡ 0 + 1)) where
  spot-there : w ≡ i → k ≡ spot h p i n
  unfolding spot
  spot-there q = rw (← e.1, ← ek.0, ← f.0, eq-eqb w i q)

  spot-else : (w ≡ i → ⊥) → {j m : ℕ} → (j ≡ place_in h p i n) × (m ≤ 0 + halvings) → j ≡ spot h p i n
  unfolding spot
  spot-else q g = rw (← e.1, ← ek.0, ← f.0, ne_eqb w i q) g.0

-- enlist, shift, take_out
module _ (h : List ℕ) (p : ℕ) where
  pub enlist-done : (i s : ℕ) {n : ℕ} → n ≡ list_length h p → {h₁ h₂ : List ℕ} → h₁ ≡ put_handle h (list_block p) n i s → h₂ ≡ put_handle h₁ length_block p (n + 1) i → h₂ ≡ enlisted h p i s
  unfolding enlisted
  enlist-done i s e f g = rw (← e, ← f) g

  module _ (k : ℕ) where
    pub shift_none : h ≡ shifted h p k 0
    unfolding shifted
    shift_none = refl

    pub shift-more : (m : ℕ) {h₁ h₂ : List ℕ} {x y d : ℕ} → h₁ ≡ shifted h p k m → (x ≡ listed_id h₁ p (k + m + 1)) × (y ≡ word_at h₁ (list_block p) (k + m + 1)) × (d ≡ 0 + 1) →
        h₂ ≡ put_handle h₁ (list_block p) (k + m) x y → h₂ ≡ shifted h p k (m + 1)
    unfolding shifted
    shift-more m e f g = rw (add-one, ← e, ← f.0, ← f.1) g

    pub shift-all : (m n : ℕ) {h₁ : List ℕ} → h₁ ≡ shifted h p k m → m ≡ n - 1 - k → h₁ ≡ shifted h p k (n - 1 - k)
    shift-all m n e f = rw (← f) e

    pub take-out-done : (n : ℕ) {h₁ h₂ : List ℕ} {l x y d : ℕ} → h₁ ≡ shifted h p k (n - 1 - k) → l ≡ n - 1 - 1 →
        (x ≡ listed_id h₁ p l) × (y ≡ word_at h₁ (list_block p) l) × (d ≡ 0 + 1) → h₂ ≡ put_handle h₁ length_block p (n - 1) x → h₂ ≡ taken_out h p k n
    unfolding taken_out
    take-out-done n e el f g = rw (← e, ← el, ← f.0) g

-- a record written where a list is copied to
record-pasted : (h s : List ℕ) (to m : ℕ) {g : List ℕ} {at x y : ℕ} → to + (handle_fields * m + 1) < length h → handle_fields * m + 1 < length s → at ≡ to + handle_fields * m →
    x ≡ get_or s (handle_fields * m) 0 → y ≡ get_or s (handle_fields * m + 1) 0 → g ≡ paste h to s (handle_fields * m) → set (set g at x) (at + 1) y ≡ paste h to s (handle_fields * suc m)
record-pasted h s to m {g} {at} {x} {y} lh ls ea ex ey eg =
    let n = handle_fields * m in
    let at-2 : at + 1 ≡ to + (n + 1) = omega (arith, ea) in
    let end : n + 1 + 1 ≡ handle_fields * suc m = omega arith in
    let one : set g at x ≡ paste h to s (n + 1) = rw (eg, ea, ex) (paste_more h to s n 0 (omega arith) (omega arith)) in
    let two : set (paste h to s (n + 1)) (to + (n + 1)) (get_or s (n + 1) 0) ≡ paste h to s (n + 1 + 1) = paste_more h to s (n + 1) 0 lh ls in
    rw (one, at-2, ey) (two ∙ ap (paste h to s) end)

-- shift by one copy
module _ (h : List ℕ) (p k : ℕ) where
  -- behind the entries that were shifted nothing is changed
  shifted-behind : (m j : ℕ) → handle_row (list_block p) (k + m) ≤ j → get_or (shifted h p k m) j 0 ≡ get_or h j 0
  unfolding shifted put_handle
  shifted-behind zero j l = refl
  shifted-behind (suc m) j l =
      let g = shifted h p k m in
      let at = handle_row (list_block p) (k + m) in
      let x = id_at g (list_block p) (k + m + 1) in
      let y = word_at g (list_block p) (k + m + 1) in
      get_or-set_other (set g at x) (at + 1) j y 0 (λ e. absurd (omega (arith, e))) ∙ get_or-set_other g at j x 0 (λ e. absurd (omega (arith, e))) ∙ shifted-behind m j (omega arith)

  -- the entries shifted are one copy
  shifted-copy : (m : ℕ) → handle_row (list_block p) (k + 1) + handle_fields * m ≤ length h →
      shifted h p k m ≡ paste h (handle_row (list_block p) k) (drop (handle_row (list_block p) (k + 1)) h) (handle_fields * m)
  unfolding shifted put_handle
  shifted-copy zero l = paste_none h (handle_row (list_block p) k) (drop (handle_row (list_block p) (k + 1)) h)
  shifted-copy (suc m) l =
      let g = shifted h p k m in
      let to = handle_row (list_block p) k in
      let from = handle_row (list_block p) (k + 1) in
      let s = drop from h in
      let n = handle_fields * m in
      let at : handle_row (list_block p) (k + m) ≡ to + n = omega arith in
      let in-2 : handle_row (list_block p) (k + m + 1) + 1 ≡ from + (n + 1) = omega arith in
      let in-1 : handle_row (list_block p) (k + m + 1) ≡ from + n = omega arith in
      let x : id_at g (list_block p) (k + m + 1) ≡ get_or s n 0 =
      shifted-behind m (handle_row (list_block p) (k + m + 1)) (omega arith) ∙ ap (λ (j : ℕ). get_or h j 0) in-1 ∙ sym (get_or-drop from h n 0) in
      let y : word_at g (list_block p) (k + m + 1) ≡ get_or s (n + 1) 0 =
      shifted-behind m (handle_row (list_block p) (k + m + 1) + 1) (omega arith) ∙ ap (λ (j : ℕ). get_or h j 0) in-2 ∙ sym (get_or-drop from h (n + 1) 0) in
      let long : length s ≡ length h - from = length-drop from h in
      record-pasted h s to m (omega arith) (omega (arith, long)) at x y (shifted-copy m (omega arith))

  pub shift-done : (n : ℕ) {h₁ : List ℕ} {to from end : ℕ} → (length h ≡ handles_size) × (p < peers) × (k < n) × (n ≤ nodes) →
      to ≡ handle_row (list_block p) k → from ≡ handle_row (list_block p) (k + 1) → end ≡ handle_row (list_block p) n → h₁ ≡ paste h to (drop from h) (end - from) →
      h₁ ≡ shifted h p k (n - 1 - k)
  shift-done n {h₁} {to} {from} {end} r et ef ee e =
      let m : end - from ≡ handle_fields * (n - 1 - k) = omega (arith, r, ef, ee) in
      e ∙ rw (m, et, ef) (sym (shifted-copy (n - 1 - k) (omega (arith, r))))

-- unlist, raise, reduce
module _ (h : List ℕ) (p i : ℕ) where
  pub unlist-chosen : i % 4 ≡ 0 → h ≡ unlisted h p i
  unfolding unlisted
  unlist-chosen e = rw (eq-eqb (i % 4) 0 e)

  module _ (ne : i % 4 ≡ 0 → ⊥) {a v c : ℕ} (e : (a ≡ id_at h length_block p) × (v ≡ word_at h length_block p) × (c ≡ 0 + 1)) {n : ℕ} (en : n ≡ min a nodes) where
    pub unlist-empty : n ≡ 0 → h ≡ unlisted h p i
    unfolding unlisted
    unlist-empty z = rw (ne_eqb (i % 4) 0 ne, long h p e.0 en, z, le-ltb (spot h p i 0) 0 (omega arith))

    module _ {g : ℕ} (eg : (g ≡ guess v i n) × (g < n)) {w y d : ℕ} (f : (w ≡ listed_id h p g) × (y ≡ word_at h (list_block p) g) × (d ≡ 0 + 1)) where
      pub unlist-there : w ≡ i → {h₁ : List ℕ} → h₁ ≡ taken_out h p g n → h₁ ≡ unlisted h p i
      unfolding unlisted
      unlist-there q t = rw (ne_eqb (i % 4) 0 ne, long h p e.0 en, ← spot-there h p i n e eg f q, lt-ltb g n eg.1, ← f.0, eq-eqb w i q) t

      module _ (other : w ≡ i → ⊥) {k m : ℕ} (ek : (k ≡ place_in h p i n) × (m ≤ 0 + halvings)) where
        pub unlist-past : n ≤ k → h ≡ unlisted h p i
        unfolding unlisted
        unlist-past l = rw (ne_eqb (i % 4) 0 ne, long h p e.0 en, ← spot-else h p i n e eg f other ek, le-ltb k n l)

        module _ (l : k < n) {u x o : ℕ} (z : (u ≡ listed_id h p k) × (x ≡ word_at h (list_block p) k) × (o ≡ 0 + 1)) where
          pub unlist-other : (u ≡ i → ⊥) → h ≡ unlisted h p i
          unfolding unlisted
          unlist-other q = rw (ne_eqb (i % 4) 0 ne, long h p e.0 en, ← spot-else h p i n e eg f other ek, lt-ltb k n l, ← z.0, ne_eqb u i q)

          pub unlist-this : u ≡ i → {h₁ : List ℕ} → h₁ ≡ taken_out h p k n → h₁ ≡ unlisted h p i
          unfolding unlisted
          unlist-this q t = rw (ne_eqb (i % 4) 0 ne, long h p e.0 en, ← spot-else h p i n e eg f other ek, lt-ltb k n l, ← z.0, eq-eqb u i q) t

module _ (h : List ℕ) (p s i : ℕ) {c : ℕ} (ec : c ≡ count_at h p s) {h₁ : List ℕ} (e₁ : h₁ ≡ put_handle h p s i (c + 1)) where
  pub raise-more : (c ≡ 0 → ⊥) → h₁ ≡ raised h p s i
  unfolding raised
  raise-more z = rw (← ec, ne_eqb c 0 z) e₁

  pub raise-first : c ≡ 0 → {h₂ : List ℕ} → h₂ ≡ enlisted h₁ p i s → h₂ ≡ raised h p s i
  unfolding raised
  raise-first z e₂ = rw (← ec, eq-eqb c 0 z, ← e₁) e₂

module _ (h : List ℕ) (p s : ℕ) {c l : ℕ} (ec : c ≡ count_at h p s) (el : l ≡ c - 1) {i : HandleId} (ei : i ≡ record { 0 = id_at h p s }) {h₁ : List ℕ} (e₁ : h₁ ≡ put_handle h p s i.0 l) where
  left_is : l ≡ count_at h p s - 1
  left_is = rw (el, ec)

  put_is : h₁ ≡ put_handle h p s (id_at h p s) l
  put_is = rw ei at e₁

  pub reduce-more : (l ≡ 0 → ⊥) → (l ≡ count_at h p s - 1) × (h₁ ≡ reduced h p s)
  unfolding reduced
  reduce-more z = (left_is, rw (← left_is, ne_eqb l 0 z) put_is)

  pub reduce-last : l ≡ 0 → {h₂ : List ℕ} → h₂ ≡ unlisted h₁ p i.0 → (0 ≡ count_at h p s - 1) × (h₂ ≡ reduced h p s)
  unfolding reduced
  reduce-last z e₂ = (sym z ∙ left_is, rw (← left_is, eq-eqb l 0 z, ← put_is) (rw ei at e₂))

-- find, with the number of reads
module _ (h : List ℕ) (p i : ℕ) {r : Option ℕ} {c : ℕ} where
  pub sought-own : i % 4 ≡ 0 → (r ≡ found_own h p i) × (c ≤ most_reads) → (r ≡ lookup h p i) × (c ≤ most_reads)
  sought-own e f = (found-own h p i e f.0, f.1)

  pub sought-listed : (i % 4 ≡ 0 → ⊥) → (r ≡ found_listed h p i) × (c ≤ list_reads) → (r ≡ lookup h p i) × (c ≤ most_reads)
  sought-listed e f = (found-listed h p i e f.0, omega (arith, f.1))

-- total
module _ (h : List ℕ) (s : ℕ) where
  pub total-none : 0 ≡ total_below h s 0
  unfolding total_below sum_to
  total-none = refl

  pub total-more : (q : ℕ) {c t : ℕ} → c ≡ count_at h q s → t ≡ total_below h s q → c + t ≡ total_below h s (q + 1)
  unfolding total_below sum_to
  total-more q e f = rw (add-one, e, f)

  pub total-all : (q : ℕ) {t : ℕ} → t ≡ total_below h s q → q ≡ peers → t ≡ total_at h s
  unfolding total_at
  total-all q e f = rw (← f) e

-- holders, by a bit that is doubled
module _ (h : List ℕ) (s q bit : ℕ) {c : ℕ} (e : c ≡ count_at h q s) where
  pub bit-none : c ≡ 0 → (0 ≡ bit_at h s q bit) × (0 ≤ bit)
  bit-none z = (rw (← e, z), omega arith)

  pub bit-some : (c ≡ 0 → ⊥) → (bit ≡ bit_at h s q bit) × (bit ≤ bit)
  bit-some z = (rw (← e, ne_eqb c 0 z), omega arith)

byte-bit : (q : ℕ) → q ≤ 8 → 2 ^ q ≤ 256
byte-bit q l = let m : 2 ^ q ≤ 2 ^ 8 = pow_mono l in omega arith

-- the bit of the peer q, and the bits of the peers below it
pub record Holders (h : List ℕ) (s q bit set : ℕ) : Type 0 where
  pub peers : q ≤ 8
  pub power : bit ≡ 2 ^ q
  pub byte : bit ≤ 256
  pub below : set < bit
  pub sum : set ≡ holders_below h s q

module _ (h : List ℕ) (s : ℕ) where
  pub holders-none : Holders h s 0 1 0
  unfolding holders_below bits sum_to
  holders-none = record { peers = omega arith; power = refl; byte = omega arith; below = omega arith; sum = refl }

  pub holders-more : (q bit set : ℕ) {b : ℕ} → Holders h s q bit set → q < peers → (b ≡ bit_at h s q bit) × (b ≤ bit) → Holders h s (q + 1) (2 * bit) (b + set)
  unfolding holders_below bits sum_to
  holders-more q bit set {b} g l e =
      let x : 2 ^ (q + 1) ≡ 2 * 2 ^ q = rw add-one (omega arith) in
      let y : 2 * bit ≡ 2 ^ (q + 1) = rw (x, g.power) in
      record {
        peers = omega arith;
        power = y;
        byte = rw y (byte-bit (q + 1) (omega arith));
        below = omega (arith, g.below, e.1);
        sum = rw (add-one, e.0, g.power, g.sum);
      }

  pub holders-all : (q : ℕ) {bit set : ℕ} → Holders h s q bit set → q ≡ peers → set ≡ holders_at h s
  unfolding holders_at
  holders-all q g f = rw (← f) g.sum

-- without, holders
pub byte-shift : (q : ℕ) → q < 8 → 1 * 2 ^ q % 256 ≡ 2 ^ q
byte-shift q l = let m : 2 ^ q < 2 ^ 8 = pow-lt l in omega arith

-- holders
-- the bits of the peers below q, which are below the next bit
pub record HolderBits (h : List ℕ) (s q b : ℕ) : Type 0 where
  pub below : b < 2 ^ q
  pub sum : b ≡ holders_below h s q

-- the next bit is not in the set
next_bit : (q b : ℕ) → b < 2 ^ q → bit_or b (2 ^ q) ≡ b + 2 ^ q
next_bit q b l = or_disjoint b (2 ^ q) (and_pow b q ∙ rw (div-eq_of_lt l) (omega arith))

module _ (h : List ℕ) (s : ℕ) where
  pub holder-bits-none : HolderBits h s 0 0
  unfolding holders_below bits sum_to
  holder-bits-none = record { below = omega arith; sum = refl }

  module _ (q b : ℕ) {c : ℕ} (w : HolderBits h s q b) (e : c ≡ count_at h q s) where
    next : 2 ^ (q + 1) ≡ 2 * 2 ^ q
    next = rw add-one (omega arith)

    pub holder-bits-skip : c ≡ 0 → HolderBits h s (q + 1) b
    unfolding holders_below bits sum_to
    holder-bits-skip z = record { below = omega (arith, next, w.below); sum = rw (add-one, ← e, z) (omega (arith, w.sum)) }

    pub holder-bits-more : q < peers → (c ≡ 0 → ⊥) → HolderBits h s (q + 1) (bit_or b (1 * 2 ^ q % 256))
    unfolding holders_below bits sum_to
    holder-bits-more l z =
        rw (byte-shift q l, next_bit q b w.below)
        (record { below = omega (arith, next, w.below); sum = rw (add-one, ← e, ne_eqb c 0 z) (omega (arith, w.sum)) })

  pub holder-bits-all : (q : ℕ) {b : ℕ} → HolderBits h s q b → q ≡ peers → b ≡ holders_at h s
  unfolding holders_at
  holder-bits-all q g f = rw (← f) g.sum

-- clear_peer
module _ (h : List ℕ) (p : ℕ) where
  pub clear_none : h ≡ clear_below h p 0
  unfolding clear_below
  clear_none = refl

  pub clear-more : (s : ℕ) {h₁ h₂ : List ℕ} → h₁ ≡ clear_below h p s → h₂ ≡ put_handle h₁ p s 0 0 → h₂ ≡ clear_below h p (s + 1)
  unfolding clear_below
  clear-more s e f = rw (add-one, ← e) f

  pub clear-all : (s : ℕ) {h₁ h₂ : List ℕ} → h₁ ≡ clear_below h p s → s ≡ nodes → h₂ ≡ put_handle h₁ length_block p 0 0 → h₂ ≡ clear_peer h p
  unfolding clear_peer
  clear-all s e f g = rw (← f, ← e) g

  -- the handles gone are one fill of the block
  cleared-fill : (l : List ℕ) → length l ≡ block_size → ((j : ℕ) → j < block_size → 0 ≡ get_or l j 0) → (n : ℕ) → n ≤ nodes → handle_row p nodes ≤ length h →
      clear_below h p n ≡ paste h (handle_row p 0) l (handle_fields * n)
  unfolding clear_below put_handle
  cleared-fill l long z zero ln r = paste_none h (handle_row p 0) l
  cleared-fill l long z (suc n) ln r =
      record-pasted h l (handle_row p 0) n (omega arith) (omega (arith, long)) (omega arith) (z (handle_fields * n) (omega arith)) (z (handle_fields * n + 1) (omega arith))
      (cleared-fill l long z n (omega arith) r)

  pub clear-done : {a k : ℕ} {l h₁ h₂ : List ℕ} → (length h ≡ handles_size) × (p < peers) → a ≡ handle_row p 0 → k ≡ block_size → l ≡ replicate (length (take k (drop a h))) 0 →
      h₁ ≡ put_mid a k h l → h₂ ≡ put_handle h₁ length_block p 0 0 → h₂ ≡ clear_peer h p
  unfolding clear_peer
  clear-done {a} {k} {l} {h₁} {h₂} r ea ek el e f =
      let part : ℕ = length (take k (drop a h)) in
      let whole : part ≡ block_size = omega (arith, r, ea, ek, length-take k (drop a h), length-drop a h) in
      let none : ℕ = 0 in
      let long : length l ≡ block_size = ap (λ (x : List ℕ). length x) el ∙ length-replicate part none ∙ whole in
      let zeros : (j : ℕ) → j < block_size → 0 ≡ get_or l j 0 = λ j lj. sym (ap (λ (x : List ℕ). get_or x j 0) el ∙ get_or-replicate part j none none (omega (arith, lj, whole))) in
      let filled : h₁ ≡ paste h a l block_size = e ∙ put_mid-paste a k h l l block_size refl (sym ek) (sym long) in
      let all : clear_below h p nodes ≡ h₁ = cleared-fill l long zeros nodes (omega arith) (omega (arith, r)) ∙ ap (λ (x : ℕ). paste h x l block_size) (sym ea) ∙ sym filled in
      rw all f

-- load, store
pub loaded : (t : List ℕ) (p : ℕ) {a b c d : Charge} →
    a ≡ charge_at t (users * p) → b ≡ charge_at t (users * p + 1) → c ≡ charge_at t (users * p + 2) → d ≡ charge_at t (users * p + 3) →
    record { by = a ∷ b ∷ c ∷ d ∷ [] } ≡ charges_at t p
unfolding charges_at build
loaded t p ea eb ec ed = rw (ea, eb, ec, ed, add-zero)

pub stored : (t : List ℕ) (p : ℕ) (c : Charges) {t₁ t₂ t₃ t₄ : List ℕ} →
    t₁ ≡ put_charge t (users * p) (get_or c.by 0 nothing) → t₂ ≡ put_charge t₁ (users * p + 1) (get_or c.by 1 nothing) →
    t₃ ≡ put_charge t₂ (users * p + 2) (get_or c.by 2 nothing) → t₄ ≡ put_charge t₃ (users * p + 3) (get_or c.by 3 nothing) → t₄ ≡ put_charges t p c
unfolding put_charges put_below
stored t p c e₁ e₂ e₃ e₄ = rw (add-zero, ← e₁, ← e₂, ← e₃) e₄

-- load: the rows as one list
pub loaded-list : (t : List ℕ) (p : ℕ) (l : List Charge) → length l ≡ users → get_or l 0 nothing ≡ charge_at t (users * p + 0) → get_or l 1 nothing ≡ charge_at t (users * p + 1) →
    get_or l 2 nothing ≡ charge_at t (users * p + 2) → get_or l 3 nothing ≡ charge_at t (users * p + 3) → record { by = l } ≡ charges_at t p
unfolding charges_at
loaded-list t p l n e₀ e₁ e₂ e₃ =
    ap (λ (x : List Charge). record { by = x })
    (sym (build-list nothing l) ∙ ap (build (λ u. get_or l u nothing)) n ∙ build-ext (λ u. get_or l u nothing) (λ u. charge_at t (users * p + u)) users each)
  where
    each : (u : ℕ) → u < users → get_or l u nothing ≡ charge_at t (users * p + u)
    each zero _ = e₀
    each (suc zero) _ = e₁
    each (suc (suc zero)) _ = e₂
    each (suc (suc (suc zero))) _ = e₃
    each (suc (suc (suc (suc u)))) m = absurd (omega arith)
