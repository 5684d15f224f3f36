-- The sweep of a removal, entry by entry: after i entries those of them that stay are stored from the head on, and the rest of the ring is untouched.
-- Assumes nothing.
use Rattle.std.specs.Prelude.{ℕ, zero, suc, ◌+◌, ◌≤◌, ◌<◌, ◌≡◌, true, false, not, length}
use Rattle.std.proofs.Math.Path.{refl}
use Rattle.std.proofs.Common.{sym, ap, ◌∙◌, arith, add-one, length-append}
use mathlib.Core.List.{List, [], ◌∷◌, ◌++◌, append-nil}
use Rattle.laws.specs.Tests.{Seen, Seen.is_true, Seen.is_false, look}
use Rattle.laws.specs.Weights.{keep_append}
use Rattle.laws.specs.Build.{build}
use Rattle.rings.specs.Rings.{ring_size, Rows, Sized, entry_at, put_at, row_of, entries_from, stored_from, matches, others, Swept, swept, kept_entry, kept_entries}
use Rattle.rings.specs.Laws.{put-sized, put-own, entries-snoc, store-after, store-more}
use Rattle.rings.specs.declared.Entry.{Entry}
use Rattle.rings.specs.declared.Match.{Match}

others-append : (m : Match) (xs ys : List Entry) → others m (xs ++ ys) ≡ others m xs ++ others m ys
unfolding others
others-append m xs ys = keep_append (λ e. not (matches m e)) xs ys

others-hit : (m : Match) (e : Entry) → matches m e ≡ true → others m (e ∷ []) ≡ []
unfolding others
others-hit m e h = rw h

others-miss : (m : Match) (e : Entry) → matches m e ≡ false → others m (e ∷ []) ≡ e ∷ []
unfolding others
others-miss m e h = rw h

-- Of the n entries i are read, and w of these kept.
pub record Sweeping (t₀ : Rows) (p h n : ℕ) (m : Match) (t : Rows) (w i : ℕ) : Type 0 where
  pub read : i ≤ n
  pub low : w ≤ i
  pub sized : Sized t
  pub count : w ≡ length (others m (entries_from t₀ p h i))
  pub rows : t ≡ stored_from t₀ p h 0 (others m (entries_from t₀ p h i))

module _ (t₀ : Rows) (p h n : ℕ) (m : Match) where
  sweep-start : Sized t₀ → Sweeping t₀ p h n m t₀ 0 0
  unfolding entries_from build others stored_from
  sweep-start s = record { read = omega arith; low = omega arith; sized = s; count = refl; rows = refl }

  pub sweep-next : {t : Rows} {w i : ℕ} → Sweeping t₀ p h n m t w i → i < n → n ≤ ring_size → {t' : Rows} {w' : ℕ} →
      swept w' t' ≡ kept_entry t p h i w m → Sweeping t₀ p h n m t' w' (i + 1)
  unfolding kept_entry
  sweep-next {t} {w} {i} s lt fit {t'} {w'} eq = go (look (matches m x))
    where
      kept : List Entry
      kept = others m (entries_from t₀ p h i)

      x₀ : Entry
      x₀ = entry_at t₀ (row_of p h i)

      x : Entry
      x = entry_at t (row_of p h i)

      -- the entry is read from a row that no store has reached
      same : x ≡ x₀
      same = ap (λ (u : Rows). entry_at u (row_of p h i)) s.rows ∙ store-after p h t₀ 0 kept i (omega (arith, s.low, s.count)) (omega arith)

      step : others m (entries_from t₀ p h (i + 1)) ≡ kept ++ others m (x₀ ∷ [])
      step =
          ap (λ (k : ℕ). others m (entries_from t₀ p h k)) (add-one i) ∙ ap (others m) (entries-snoc t₀ p h i)
          ∙ others-append m (entries_from t₀ p h i) (x₀ ∷ [])

      go : Seen (matches m x) → Sweeping t₀ p h n m t' w' (i + 1)
      go (is_true e) =
          let g : swept w' t' ≡ swept w t = rw e at eq in
          let k : others m (entries_from t₀ p h (i + 1)) ≡ kept =
          step ∙ ap (λ (l : List Entry). kept ++ l) (others-hit m x₀ (ap (matches m) (sym same) ∙ e)) ∙ append-nil kept in
          let ew : w' ≡ w = ap (λ (z : Swept). z.count) g in
          let et : t' ≡ t = ap (λ (z : Swept). z.rows) g in
          record { read = omega arith; low = omega (arith, s.low); sized = rw et s.sized; count = rw (ew, k) s.count; rows = rw (et, k) s.rows }
      go (is_false e) =
          let g : swept w' t' ≡ swept (w + 1) (put_at t (row_of p h w) x) = rw e at eq in
          let k : others m (entries_from t₀ p h (i + 1)) ≡ kept ++ (x₀ ∷ []) =
          step ∙ ap (λ (l : List Entry). kept ++ l) (others-miss m x₀ (ap (matches m) (sym same) ∙ e)) in
          let ew : w' ≡ w + 1 = ap (λ (z : Swept). z.count) g in
          let et : t' ≡ put_at t (row_of p h w) x = ap (λ (z : Swept). z.rows) g in
          record {
            read = omega arith;
            low = omega (arith, s.low);
            sized = rw et (put-sized t (row_of p h w) x s.sized);
            count = rw (ew, k, s.count) (sym (length-append kept (x₀ ∷ [])));
            rows =
                rw (et, k, same, s.count)
                (ap (λ (u : Rows). put_at u (row_of p h (length kept)) x₀) s.rows ∙ sym (store-more p h t₀ kept x₀));
          }

-- An entry that is read where it would be stored leaves the rows; so a sweep may start at a place before which no entry matches.
kept-own : (t : Rows) (p h i : ℕ) (m : Match) → matches m (entry_at t (row_of p h i)) ≡ false → swept (i + 1) t ≡ kept_entry t p h i i m
unfolding kept_entry
kept-own t p h i m f = rw (f, put-own t (row_of p h i))

pub sweep-from : (t : Rows) (p h n : ℕ) (m : Match) (i : ℕ) → Sized t → i ≤ n → n ≤ ring_size → ((j : ℕ) → j < i → matches m (entry_at t (row_of p h j)) ≡ false) →
    Sweeping t p h n m t i i
sweep-from t p h n m zero s le fit none = sweep-start t p h n m s
sweep-from t p h n m (suc i) s le fit none =
    rw (← add-one i)
    (sweep-next t p h n m (sweep-from t p h n m i s (omega arith) fit (λ j lt. none j (omega arith))) (omega arith) fit (kept-own t p h i m (none i (omega arith))))

pub sweep-done : {t₀ : Rows} {p h n : ℕ} {m : Match} {t : Rows} {w i : ℕ} → Sweeping t₀ p h n m t w i → i ≡ n → (swept w t ≡ kept_entries t₀ p h n m) × (w ≤ n)
unfolding kept_entries
sweep-done s e = (rw (← e, ← s.count, ← s.rows), omega (arith, s.low))
