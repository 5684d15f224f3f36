-- The search for the first entry of a queue that a removal takes out, and a removal that starts there.
-- Assumes nothing.
use Rattle.std.specs.Prelude.{ℕ, ◌+◌, ◌*◌, ◌≤◌, ◌<◌, ◌≡◌, refl, Bool, true, false, List, set}
use Rattle.std.proofs.Common.{sym, ap, ◌∙◌, arith, below_more}
use Rattle.std.proofs.lemmas.List.{set-get_or}
use Rattle.laws.specs.Search.{first, first-le, first-before, first-is}
use Rattle.rings.specs.Rings.{ring_size, rows_of, rings_of, Sized, entry_at, row_of, head_of, length_of, queue_of, matches, removed, Swept, swept, kept_entries}
use Rattle.rings.specs.Sweep.{sweep-from, sweep-done}
use Rattle.rings.specs.declared.Match.{Match}
use Rattle.ids.specs.Sizes.{end_fields}

-- Of the n entries i are read, and none of these matches.
pub record Passing (e : List ℕ) (p h n : ℕ) (m : Match) (i : ℕ) : Type 0 where
  pub read : i ≤ n
  pub none : (c k : List ℕ) (j : ℕ) → j < i → matches m (entry_at (rows_of e c k) (row_of p h j)) ≡ false

module _ (e : List ℕ) (p h n : ℕ) (m : Match) where
  pub passing-start : Passing e p h n m 0
  passing-start = record { read = omega arith; none = λ c k j l. absurd (omega arith) }

  module _ (i : ℕ) (v : Passing e p h n m i) where
    pub passing-end : n ≤ i → (c k : List ℕ) → n ≡ first (λ j. matches m (entry_at (rows_of e c k) (row_of p h j))) n
    passing-end le c k = first-is (λ j. matches m (entry_at (rows_of e c k) (row_of p h j))) n n (omega arith) (λ j l. v.none c k j (omega arith)) (λ l. absurd (omega arith))

    module _ (lt : i < n) {row : ℕ} (er : row ≡ row_of p h i) {b : Bool} (eb : (c k : List ℕ) → b ≡ matches m (entry_at (rows_of e c k) row)) where
      tested : (c k : List ℕ) → matches m (entry_at (rows_of e c k) (row_of p h i)) ≡ b
      tested c k = rw (← er) (sym (eb c k))

      pub passing-found : b ≡ true → (c k : List ℕ) → i ≡ first (λ j. matches m (entry_at (rows_of e c k) (row_of p h j))) n
      passing-found y c k = first-is (λ j. matches m (entry_at (rows_of e c k) (row_of p h j))) n i (omega arith) (v.none c k) (λ l. tested c k ∙ y)

      pub passing-next : b ≡ false → Passing e p h n m (i + 1)
      passing-next y =
          record { read = omega arith; none = λ c k. below_more (λ j. matches m (entry_at (rows_of e c k) (row_of p h j)) ≡ false) i (v.none c k) (tested c k ∙ y) }

-- remove: a swept queue with its new length, what is before the place found, and a queue in which nothing is found.
pub remove-made : (d e c n : List ℕ) (p : ℕ) (m : Match) {h k w : ℕ} {e' c' n' : List ℕ} → h ≡ head_of d p → k ≡ length_of d p →
    swept w (rows_of e' c' n') ≡ kept_entries (rows_of e c n) p h k m → rings_of (set d (p * end_fields + 1) w) e' c' n' ≡ removed (rings_of d e c n) p m
unfolding removed queue_of kept_entries
remove-made d e c n p m eh ek s =
    let a = ap (λ (z : Swept). z.count) s in
    let b = ap (λ (z : Swept). z.rows) s in
    rw (← eh, ← ek, ← a, ← b)

module _ (e c n : List ℕ) (p h k : ℕ) (m : Match) {f : ℕ} (ef : (c n : List ℕ) → f ≡ first (λ i. matches m (entry_at (rows_of e c n) (row_of p h i))) k) where
  pub found_within : f ≤ k
  found_within = rw (ef c n) (first-le (λ i. matches m (entry_at (rows_of e c n) (row_of p h i))) k)

  pub found_before : (j : ℕ) → j < f → matches m (entry_at (rows_of e c n) (row_of p h j)) ≡ false
  found_before j l = first-before (λ i. matches m (entry_at (rows_of e c n) (row_of p h i))) k j (rw (← ef c n) l)

  pub remove-none : (d : List ℕ) → Sized (rows_of e c n) → k ≤ ring_size → h ≡ head_of d p → k ≡ length_of d p → f ≡ k → rings_of d e c n ≡ removed (rings_of d e c n) p m
  remove-none d s fit eh ek all =
      let v = sweep-from (rows_of e c n) p h k m k s (omega arith) fit (λ j l. found_before j (omega arith)) in
      let same : set d (p * end_fields + 1) k ≡ d = ap (set d (p * end_fields + 1)) ek ∙ set-get_or d (p * end_fields + 1) 0 in
      ap (λ (x : List ℕ). rings_of x e c n) (sym same) ∙ remove-made d e c n p m eh ek (sweep-done v refl).0
