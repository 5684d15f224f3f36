-- One law for each return of the code that a definition does not say at once, over plain variables: what the calls left makes what the definition says.
-- Assumes nothing.
use Rattle.std.specs.Prelude.{ℕ, ◌+◌, ◌*◌, ◌-◌, ◌/◌, ◌%◌, ◌^◌, ◌≤◌, ◌<◌, ◌≡◌, refl, Bool, true, false, List, [], ◌∷◌, get_or, set}
use Rattle.std.proofs.Common.{◌∙◌}
use native.Mathlib.Omega.{arith}
use Rattle.std.proofs.lemmas.List.Edits.{sets}
use Rattle.std.proofs.Math.Pow.{pow-lt}
use borrow.Author.Tests.{lt-ltb, le-ltb, le-leb, lt-leb}
use Rattle.laws.specs.Tests.{pick, pick_all}
use Rattle.laws.specs.Rows.{row_in, row5, row8, stores5}
use Rattle.rings.specs.Rings.{kind_message, kind_count, ring_size, slots, Rows, rows_of, rings_of, fields_of, entry_at, put_at, row_of, head_of, length_of, first_of, pushed, popped, cleared, bit_at, kind_bit, slot_in, matches_of, matches, one_slot, swept, kept_entry}
use Rattle.rings.specs.declared.Entry.{Entry}
use Rattle.rings.specs.declared.Match.{Match}
use Rattle.ids.specs.Sizes.{end_fields, entry_fields, carried_fields}
-- The return of `remove`.
pub use Rattle.rings.specs.Search.{remove-made}

pub entry_read : (e c n : List ℕ) (r : ℕ) →
    record {
      kind = get_or e (entry_fields * r) 0;
      slot = get_or e (entry_fields * r + 1) 0;
      user = get_or e (entry_fields * r + 2) 0;
      nb = get_or e (entry_fields * r + 3) 0;
      nh = get_or e (entry_fields * r + 4) 0;
      carried =
          get_or c (carried_fields * r) 0 ∷ get_or c (carried_fields * r + 1) 0 ∷ get_or c (carried_fields * r + 2) 0 ∷ get_or c (carried_fields * r + 3) 0 ∷ get_or c (carried_fields * r + 4) 0 ∷ get_or c (carried_fields * r + 5) 0 ∷ get_or c (carried_fields * r + 6) 0
          ∷ get_or c (carried_fields * r + 7) 0 ∷ [];
      number = get_or n r 0;
    }
    ≡ entry_at (rows_of e c n) r
unfolding entry_at
entry_read e c n r = rw (row5, row8)

pub fields-put : (b : List ℕ) (t : ℕ) (e : Entry) →
    set (set (set (set (set b t e.kind) (t + 1) e.slot) (t + 2) e.user) (t + 3) e.nb) (t + 4) e.nh ≡ sets b t (fields_of e)
unfolding fields_of
fields-put b t e = stores5 b t _ _ _ _ _

pub entry-put : (e c n : List ℕ) (r : ℕ) (x : Entry) {e' c' : List ℕ} → e' ≡ sets e (entry_fields * r) (fields_of x) → c' ≡ sets c (carried_fields * r) (row_in carried_fields x.carried 0) →
    rows_of e' c' (set n r x.number) ≡ put_at (rows_of e c n) r x
unfolding put_at
entry-put e c n r x p q = rw (p, q)

pub push-made : (d e c n : List ℕ) (p : ℕ) (x : Entry) {h k r : ℕ} {e' c' n' : List ℕ} → h ≡ head_of d p → k ≡ length_of d p → r ≡ row_of p h k →
    rows_of e' c' n' ≡ put_at (rows_of e c n) r x → rings_of (set d (p * end_fields + 1) (k + 1)) e' c' n' ≡ pushed (rings_of d e c n) p x
unfolding pushed
push-made d e c n p x eh ek er t = rw (← eh, ← ek, ← er, ← t)

pub pop-made : (d : List ℕ) (p : ℕ) {h k l : ℕ} → h ≡ head_of d p → k ≡ length_of d p → l ≡ k - 1 → set (set d (p * end_fields) ((h + 1) % ring_size)) (p * end_fields + 1) l ≡ popped d p
unfolding popped
pop-made d p eh ek el = rw (← eh, ← ek, el)

pub first_made : (d e c n : List ℕ) (p : ℕ) {h r : ℕ} {x : Entry} → h ≡ head_of d p → r ≡ row_of p h 0 → x ≡ entry_at (rows_of e c n) r → x ≡ first_of (rings_of d e c n) p
unfolding first_of
first_made d e c n p eh er ex = rw (← eh, ← er) ex

pub clear-made : (d : List ℕ) (p : ℕ) → set d (p * end_fields + 1) 0 ≡ cleared d p
unfolding cleared
clear-made d p = refl

-- The test of a removal, by its returns.
pub kind-own : (k : ℕ) → k < kind_count → (k ≡ kind_bit k) × (k < kind_count)
kind-own k h = (rw (lt-ltb k kind_count h), h)

pub kind-message : (k : ℕ) → kind_count ≤ k → (kind_message ≡ kind_bit k) × (kind_message < kind_count)
kind-message k h = (rw (le-ltb k kind_count h), omega arith)

module _ (first mask s : ℕ) where
  pub slot-before : s < first → false ≡ slot_in first mask s
  unfolding slot_in
  slot-before h = rw (lt-leb first s h)

  pub slot-behind : first ≤ s → slots ≤ s - first → false ≡ slot_in first mask s
  unfolding slot_in
  slot-behind h k = let j : first + slots ≤ s = omega arith in rw (le-leb first s h, le-ltb s (first + slots) j)

  pub slot-among : first ≤ s → s - first < slots → {b : Bool} → b ≡ bit_at mask (s - first) → b ≡ slot_in first mask s
  unfolding slot_in
  slot-among h k e = let j : s < first + slots = omega arith in rw (le-leb first s h, lt-ltb s (first + slots) j) e

both_first : (b : Bool) → b ≡ pick b true false
both_first true = refl
both_first false = refl

module _ (m : Match) (kind slot : ℕ) {y z : ℕ} {b : Bool} (ey : y ≡ m.mask) (ez : z ≡ slot) (eb : b ≡ slot_in m.first y z) where
  slot-tested : b ≡ slot_in m.first m.mask slot
  slot-tested = rw (← ey, ← ez) eb

  pub match-slot : b ≡ false → false ≡ matches_of m kind slot
  match-slot n = rw (← slot-tested, n) (pick_all (λ (x : Bool). false ≡ x) (bit_at m.kinds (kind_bit kind)) false false refl refl)

  pub match-kind : b ≡ true → {k : ℕ} → k ≡ kind_bit kind → {x : ℕ} → x ≡ m.kinds → {r : Bool} → r ≡ bit_at x k → r ≡ matches_of m kind slot
  match-kind n {k} ek {x} ex er = rw (← slot-tested, n, ← ek, ← ex) (er ∙ both_first (bit_at x k))

pub match-entry : (m : Match) (e : Entry) {b : Bool} → b ≡ matches_of m e.kind e.slot → b ≡ matches m e
unfolding matches
match-entry m e h = h

pub match-row : (m : Match) (e : List ℕ) (r : ℕ) {b : Bool} → b ≡ matches_of m (get_or e (entry_fields * r) 0) (get_or e (entry_fields * r + 1) 0) → (c n : List ℕ) → b ≡ matches m (entry_at (rows_of e c n) r)
unfolding matches entry_at
match-row m e r h c n = rw row5 h

-- A shifted 1 is a power, and fits the mask.
pub shift_small : (k : ℕ) → k < 16 → 1 * 2 ^ k % 18446744073709551616 < 65536
shift_small k h = let b : 2 ^ k < 65536 = pow-lt h in omega arith

pub one-made : (k s : ℕ) → record { kinds = k; first = s / slots * slots; mask = 1 * 2 ^ (s % slots) % 18446744073709551616 } ≡ one_slot k s
unfolding one_slot
one-made k s =
    let h : s % slots < 16 = omega arith in
    let b : 2 ^ (s % slots) < 65536 = pow-lt h in
    let e : 1 * 2 ^ (s % slots) % 18446744073709551616 ≡ 2 ^ (s % slots) = omega arith in
    rw e

-- One entry of a sweep.
module _ (t : Rows) (p h i w : ℕ) (m : Match) {from : ℕ} {e : Entry} {b : Bool} (ef : from ≡ row_of p h i) (ee : e ≡ entry_at t from) (eb : b ≡ matches m e) where
  tested : b ≡ matches m (entry_at t (row_of p h i))
  tested = rw (← ef, ← ee) eb

  pub entry_gone : b ≡ true → swept w t ≡ kept_entry t p h i w m
  unfolding kept_entry
  entry_gone y = rw (← tested, y)

  pub entry_kept : b ≡ false → {to : ℕ} {t' : Rows} → to ≡ row_of p h w → t' ≡ put_at t to e → swept (w + 1) t' ≡ kept_entry t p h i w m
  unfolding kept_entry
  entry_kept n et eq = rw (← tested, n, eq, et, ee, ef)
