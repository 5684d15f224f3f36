-- Handles given to a peer keep the lists of given handles: a new ID is above every one that the bus gave the peer before.
-- Assumes nothing.
use Prim.Native.Nat.{ℕ, zero, suc, ◌+◌, ◌*◌, ◌/◌, ◌%◌, ◌≤◌, ◌<◌}
use Rattle.std.specs.Prelude.{◌≡◌, refl, Bool, true, false, List, take, eqb}
use Rattle.std.proofs.Common.{sym, ◌∙◌, eq-eqb, ne_eqb}
use Rattle.std.proofs.Math.Path.{ap}
use native.Mathlib.Omega.{arith}
use Rattle.std.proofs.Math.ListN.{length, get_or}
use Rattle.std.proofs.Math.Seq.{length-take-le}
use Rattle.std.proofs.lemmas.Bool.{eqb-false}
use Rattle.laws.specs.Tests.{Seen, Seen.is_true, Seen.is_false, look, Same, Same.same, Same.other, same?}
use Rattle.laws.specs.Weights.{All, all_of}
use Rattle.rings.specs.Rings.{ring_size, length_of}
use Rattle.tables.specs.Peers.{modulus, given_at}
use Rattle.tables.specs.PeersView.{given_v, given_is}
use Rattle.tables.specs.Handles.{length_block, id_at, count_at, listed_id, listed_slot}
use Rattle.tables.specs.HandlesView.{handle_v, count-is}
use Rattle.tables.specs.Listed.{Listed, AllListed}
use Rattle.tables.proofs.Listed.{listed-raised}
use Rattle.model.specs.Numbers.{nodes, owner, next_id}
use Rattle.model.specs.State.{State, Handle, Handle.some, count}
use Rattle.model.specs.Changes.{give_all}
use Rattle.model.specs.Ids.{Handles}
use Rattle.model.specs.IdsLaws.{Holding}
use Rattle.model.proofs.IdsLaws.{holding-gives}
use Rattle.view.specs.View.{Bus, Shape, state_of, queue_v}
use Rattle.queues.specs.Queues.{Short}
use Rattle.grants.specs.Grants.{Given, numbered, shown_to, referenced, valid_at, given_to, Gives, gives_to}
use Rattle.grants.specs.Giving.{Lone, given_bus, given_on, gives_bus, gives_on, Handed, gives-view, count_gives}
use Rattle.ids.specs.Sizes.{peers, most_ids}

module _ (ps hs : List ℕ) (p s : ℕ) where
  shown-new : count_at hs p s ≡ 0 → (shown_to ps hs p s).id ≡ next_id (given_at ps p)
  unfolding shown_to numbered
  shown-new e = rw (eq-eqb (count_at hs p s) 0 e)

  shown-old : (count_at hs p s ≡ 0 → ⊥) → (shown_to ps hs p s).id ≡ id_at hs p s
  unfolding shown_to
  shown-old e = rw (ne_eqb (count_at hs p s) 0 e)

-- Every listed ID was given.
listed_below : (hs : List ℕ) (p g : ℕ) → Handles p g (handle_v hs p) → Listed hs p → (k : ℕ) → k < id_at hs length_block p → listed_id hs p k < next_id g
listed_below hs p g v w k l = go (same? (owner (listed_slot hs p k)) p)
  where
    go : Same (owner (listed_slot hs p k)) p → listed_id hs p k < next_id g
    go (same e) =
        let x = w.sound k l in
        absurd (eqb-false (listed_id hs p k % 4) 0 x.1 (v.chosen (listed_slot hs p k) (listed_id hs p k) x.2.0 x.2.1 e))
    go (other e) =
        let x = w.sound k l in
        let y = v.given (listed_slot hs p k) (listed_id hs p k) x.2.0 x.2.1 e in
        omega (arith, y.1, y.2)

pub listed-given : (b : Bus) → Shape b → (p as_of s : ℕ) → p < peers → s < nodes → Handles p ((state_of b).given p) ((state_of b).handle p) → count_at b.handles p s + 1 < modulus →
    AllListed b.handles → AllListed (given_on b p as_of s).handles
unfolding given_to referenced
listed-given b shape p as_of s lp ls v lc a = go (look (valid_at b.nodes b.handles as_of p s))
  where
    g : ℕ
    g = given_at b.peers p

    new : count_at b.handles p s ≡ 0 →
        (eqb ((shown_to b.peers b.handles p s).id % 4) 0 ≡ false) × ((k : ℕ) → k < id_at b.handles length_block p → listed_id b.handles p k < (shown_to b.peers b.handles p s).id)
    new e =
        let i : (shown_to b.peers b.handles p s).id ≡ next_id g = shown-new b.peers b.handles p s e in (
          ne_eqb ((shown_to b.peers b.handles p s).id % 4) 0 (λ z. absurd (omega (arith, i, z))),
          λ k l. omega (arith, i, given_is b.peers p lp, listed_below b.handles p ((state_of b).given p) v (a p lp) k l),
        )

    go : Seen (valid_at b.nodes b.handles as_of p s) → AllListed (given_on b p as_of s).handles
    go (is_false e) = rw e a
    go (is_true e) =
        rw e
        (listed-raised b.handles shape.handles p s lp ls a (shown_to b.peers b.handles p s).id lc new (λ z. shown-old b.peers b.handles p s z))

-- Several handles.
module _ (b : Bus) (shape : Shape b) (p as_of : ℕ) (ss : List ℕ) (lp : p < peers) (size : length ss ≡ 8) (lone : Lone (handle_v b.handles) (queue_v b.rings b.pool))
    (short : Short b.rings.ends) (hold : Holding (state_of b)) (a : AllListed b.handles) where
  pub listed-gives : (n : ℕ) → n ≤ most_ids → ((j : ℕ) → j < n → get_or ss j 0 < nodes) → ((q s : ℕ) → count ((state_of b).handle q s) + n < modulus) → (state_of b).given p + n < modulus →
      AllListed (gives_on b p as_of ss n).handles
  unfolding gives_to
  listed-gives zero ln low counts ids = a
  listed-gives (suc n) ln low counts ids =
      let ih = listed-gives n (omega arith) (λ j l. low j (omega arith)) (λ q s. omega (arith, counts q s)) (omega arith) in
      let g = gives_on b p as_of ss n in
      let s = get_or ss n 0 in
      let ls : s < nodes = low n (omega arith) in
      let slot : s % nodes ≡ s = omega arith in
      let below : All (λ s. s < nodes) (take n ss) = all_of (λ s. s < nodes) ss n 0 (λ j l. low j (omega arith)) in
      let h : Handed b p as_of ss n g = gives-view b shape p as_of ss lp size lone short n (omega arith) below (λ q s. omega (arith, counts q s)) (omega arith) in
      let v : Holding (state_of (gives_bus b g)) = rw h.state (holding-gives (state_of b) p as_of (take n ss) hold below) in
      let fewer : length (take n ss) ≡ n = length-take-le n ss (omega arith) in
      let many : count_at g.handles p s + 1 < modulus
      = omega (arith, count-is g.handles p s lp ls, ap (λ (a : State). count (a.handle p s)) h.state, count_gives (state_of b) p as_of (take n ss) p s, fewer, counts p s) in
      rw slot (listed-given (gives_bus b g) h.shape p as_of s lp ls (v.handles p) many ih)
