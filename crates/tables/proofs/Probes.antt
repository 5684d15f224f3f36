-- The theorems that go with specs/Probes.antt and stand on others: each goes by the definitions and the theorems there.
-- Assumes nothing.
use Rattle.std.specs.Prelude.{ℕ, ◌+◌, ◌*◌, ◌%◌, ◌<◌, ◌≡◌, List, eqb, leb}
use Rattle.std.proofs.Common.{arith}
use Rattle.std.proofs.Math.Path.{ap}
use Rattle.laws.specs.Tests.{Seen, Seen.is_true, Seen.is_false, look}
use Rattle.laws.specs.Weights.{All, all-imp, all-at}
use Rattle.laws.specs.Build.{build-length, build-at}
use Rattle.laws.specs.Search.{first-ext}
use Rattle.laws.specs.Halving.{halve, asked, halve-same}
use Rattle.tables.specs.Handles.{list_block, length_block, halvings, handle_row, has_in, has_at, found_by, found_own, list_length, guessed, at_least, place_in, found_among, found_listed, lookup}
use Rattle.ids.specs.Sizes.{slots}
use Rattle.tables.specs.Probes.{probes_own, probes_among, probes, Agree, unmap}

module _ (g h : List ℕ) (p i : ℕ) where
  has_same : (s : ℕ) → Agree g h (handle_row p s) → has_at g p i s ≡ has_at h p i s
  unfolding has_at has_in
  has_same s a = rw (a.0, a.1)

  own_same : All (Agree g h) (probes_own p) → found_own g p i ≡ found_own h p i
  unfolding found_own found_by
  own_same a = rw (first-ext (λ k. has_at g p i (p * slots + k)) (λ k. has_at h p i (p * slots + k)) slots (λ k l. has_same (p * slots + k) (at k l)))
    where
      at : (k : ℕ) → k < slots → Agree g h (handle_row p (p * slots + k))
      at k l =
          let x = all-at (Agree g h) (probes_own p) k 0 a (omega (arith, build-length (λ j. handle_row p (p * slots + j)) slots)) in
          rw (build-at (λ j. handle_row p (p * slots + j)) slots k 0 l) at x

  among_same : (n : ℕ) → All (Agree g h) (probes_among h p i n) → found_among g p i n ≡ found_among h p i n
  unfolding found_among place_in
  among_same n a =
      let asks = all-imp (λ j. Agree g h (handle_row (list_block p) j)) (λ j. at_least g p i j ≡ at_least h p i j) (λ j b. ap (leb i) b.0) (asked (at_least h p i) halvings 0 n)
      (unmap (Agree g h) (handle_row (list_block p)) (asked (at_least h p i) halvings 0 n) a.1) in
      let k : halve (at_least g p i) halvings 0 n ≡ halve (at_least h p i) halvings 0 n = halve-same (at_least h p i) (at_least g p i) halvings 0 n asks in
      rw (k, a.0.0, a.0.1)

  pub lookup-same : All (Agree g h) (probes h p i) → lookup g p i ≡ lookup h p i
  unfolding lookup probes found_listed
  lookup-same a = go (look (eqb (i % 4) 0)) (look (eqb (list_length h p) 0))
    where
      go : Seen (eqb (i % 4) 0) → Seen (eqb (list_length h p) 0) → lookup g p i ≡ lookup h p i
      go (is_true e) q = let b : All (Agree g h) (probes_own p) = rw e at a in rw e (own_same b)
      go (is_false e) (is_true q) =
          let b : Agree g h (handle_row length_block p) × Unit {0} = rw (e, q) at a in
          rw (e, b.0.0, q)
      go (is_false e) (is_false q) =
          let n = list_length h p in
          let b : Agree g h (handle_row length_block p) × (Agree g h (handle_row (list_block p) (guessed h p i)) × All (Agree g h) (probes_among h p i n)) = rw (e, q) at a in
          rw (e, b.0.0, q, b.0.1, b.1.0.0, b.1.0.1, among_same n b.1.1)
