-- The theorems that go with specs/HandlesView.antt and stand on others: each goes by the definitions and the theorems there.
-- Assumes nothing.
use Prim.Native.Nat.{ℕ, ◌+◌, ◌*◌, ◌%◌, ◌≤◌, ◌<◌}
use Rattle.std.specs.Prelude.{◌≡◌, true, false, eqb, ltb, Some, None}
use Rattle.std.proofs.Math.Path.{ap}
use Rattle.std.proofs.Common.{◌∙◌, ltb-true, ltb-false}
use Rattle.std.proofs.Math.Bool.{Bool}
use mathlib.Core.List.{List}
use native.Mathlib.Omega.{arith}
use Rattle.laws.specs.Tests.{Seen, Seen.is_true, Seen.is_false, look}
use Rattle.laws.specs.Search.{first, first_found, first-before}
use Rattle.model.specs.Numbers.{peers, nodes}
use Rattle.tables.specs.Handles.{list_block, has_at, found_by, found_own, list_length, listed_id, word_at, guessed, place_in, found_among, found_listed, lookup, find_at}
use Rattle.ids.specs.Sizes.{slots}
use Rattle.tables.specs.HandlesView.{not-nothing, not_at}

module _ (h : List ℕ) (p i : ℕ) where
  by-some : (at : ℕ → ℕ) (n s : ℕ) → found_by h p i at n ≡ Some s → (j : ℕ) × (j < n) × (s ≡ at j) × (has_at h p i s ≡ true)
  unfolding found_by
  by-some at n s e = go (look (ltb k n))
    where
      t : ℕ → Bool
      t j = has_at h p i (at j)

      k : ℕ
      k = first t n

      go : Seen (ltb k n) → (j : ℕ) × (j < n) × (s ≡ at j) × (has_at h p i s ≡ true)
      go (is_true f) =
          let x : Some (at k) ≡ Some s = rw f at e in
          let y : s ≡ at k = cc in
          let l : k < n = ltb-true k n f in
          (k, l, y, ap (has_at h p i) y ∙ first_found t n l)
      go (is_false f) = absurd (not-nothing (rw f at e))

  by-none : (at : ℕ → ℕ) (n : ℕ) → found_by h p i at n ≡ None → (j : ℕ) → j < n → has_at h p i (at j) ≡ false
  unfolding found_by
  by-none at n e j l = go (look (ltb k n))
    where
      t : ℕ → Bool
      t j = has_at h p i (at j)

      k : ℕ
      k = first t n

      go : Seen (ltb k n) → has_at h p i (at j) ≡ false
      go (is_true f) = absurd (not_at (rw f at e))
      go (is_false f) = let m : n ≤ k = ltb-false k n f in first-before t n j (omega (arith, m))

  pub own-some : p < peers → (s : ℕ) → found_own h p i ≡ Some s → (s < nodes) × (has_at h p i s ≡ true)
  unfolding found_own
  own-some lp s e = let x = by-some (λ k. p * slots + k) slots s e in (omega (arith, x.1, x.2), x.3)

  pub own-none : found_own h p i ≡ None → (k : ℕ) → k < slots → has_at h p i (p * slots + k) ≡ false
  unfolding found_own
  own-none e = by-none (λ k. p * slots + k) slots e

  listed_small : (s : ℕ) → found_listed h p i ≡ Some s → s < nodes
  unfolding found_listed found_among
  listed_small s e = go (look (eqb n 0)) (look (eqb (listed_id h p g) i)) (look (ltb k n)) (look (eqb (listed_id h p k) i))
    where
      n : ℕ
      n = list_length h p

      g : ℕ
      g = guessed h p i

      k : ℕ
      k = place_in h p i n

      small : (x : ℕ) → Some (x % nodes) ≡ Some s → s < nodes
      small x q = let y : x % nodes ≡ s = cc in omega arith

      go : Seen (eqb n 0) → Seen (eqb (listed_id h p g) i) → Seen (ltb k n) → Seen (eqb (listed_id h p k) i) → s < nodes
      go (is_true z) x y w = absurd (not-nothing (rw z at e))
      go (is_false z) (is_true x) y w = small (word_at h (list_block p) g) (rw (z, x) at e)
      go (is_false z) (is_false x) (is_false y) w = absurd (not-nothing (rw (z, x, y) at e))
      go (is_false z) (is_false x) (is_true y) (is_true w) = small (word_at h (list_block p) k) (rw (z, x, y, w) at e)
      go (is_false z) (is_false x) (is_true y) (is_false w) = absurd (not-nothing (rw (z, x, y, w) at e))

  lookup-small : p < peers → (s : ℕ) → lookup h p i ≡ Some s → s < nodes
  unfolding lookup
  lookup-small lp s e = go (look (eqb (i % 4) 0))
    where
      go : Seen (eqb (i % 4) 0) → s < nodes
      go (is_true f) = (own-some lp s (rw f at e)).0
      go (is_false f) = listed_small s (rw f at e)

  pub lookup-at : p < peers → (s : ℕ) → lookup h p i ≡ Some s → (s ≡ find_at h p i) × (s < nodes)
  unfolding find_at
  lookup-at lp s e = (rw e, lookup-small lp s e)

  pub lookup-nothing : lookup h p i ≡ None → find_at h p i ≡ nodes
  unfolding find_at
  lookup-nothing e = rw e
