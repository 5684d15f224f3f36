-- The theorems that go with specs/RowsCounted.antt and stand on others: each goes by the definitions and the theorems there.
-- Assumes nothing.
use Rattle.std.specs.Prelude.{ℕ, ◌+◌, ◌*◌, ◌%◌, ◌<◌, ◌≡◌, refl, true, ◌⊎◌, map, eqb, ltb, leb}
use Rattle.std.proofs.Common.{sym, ◌∙◌, arith, eqb-true, eq-eqb}
use Rattle.std.proofs.Math.Path.{ap}
use Rattle.std.proofs.Math.Bool.{not}
use Rattle.std.proofs.Math.Logic.◌⊎◌.{inl, inr}
use Rattle.model.specs.Numbers.{peers, slots, owner}
use Rattle.model.specs.Lists.{both, either, any, any_below}
use Rattle.model.specs.State.{is_live, held, messages_in, State, held_by_any, names, named, counts, free_place, seed_carries, seeded}
use Rattle.model.specs.Occurs.{both_true}
use Rattle.model.specs.Counting.{OneToOne, as_many, found-fewer}
use Rattle.model.specs.Sim.{called}
use Rattle.model.specs.Ledger.{Ledger, seed_nodes}
use Rattle.model.specs.LedgerSim.{Follows, lives-entered, held-entered, seed-nodes}
use Rattle.model.specs.Rows.{is_node, names_node, counts_node, counted_nodes}
use Rattle.model.specs.RowsCounted.{either_true, below_true, below-same, carried_same, names_same, carried-place, item-place}

-- Counted at a bus that the ledger follows, where what a message names was entered.
module _ (name : ℕ → ℕ) (apart : (s t : ℕ) → name s ≡ name t → s ≡ t) (b : State) (l : Ledger) (r : Follows name l.book.entered b l)
    (entered : (q s : ℕ) → any (names s) (messages_in (b.queue q)) ≡ true → name s < l.book.entered)
    (entered-seed : (q s : ℕ) → q < peers → any (eqb s) (seed_carries (b.seed q)) ≡ true → name s < l.book.entered) where
  seed-is : (q : ℕ) → q < peers → seed_nodes (l.seed q) ≡ map (called name) (seed_carries (b.seed q))
  seed-is q m = ap seed_nodes (r.seeds q m) ∙ seed-nodes name (b.seed q)

  counts_same : (s : ℕ) → counts_node l (name s) ≡ counts b s
  unfolding counts held_by_any named seeded
  counts_same s =
      rw (
        r.lives.same s,
        below-same (λ q. held (l.handle q (name s))) (λ q. held (b.handle q s)) peers (λ q m. ap held (r.handles.same q s)),
        below-same (λ q. any (names_node (name s)) (l.queue q)) (λ q. any (names s) (messages_in (b.queue q))) peers
            (λ q m. ap (any (names_node (name s))) (r.queues q) ∙ names_same name apart s (b.queue q)),
        below-same (λ q. any (is_node (name s)) (seed_nodes (l.seed q))) (λ q. any (eqb s) (seed_carries (b.seed q))) peers
            (λ q m. ap (any (is_node (name s))) (seed-is q m) ∙ carried_same name apart s (seed_carries (b.seed q))),
      )

  -- A slot that counts was entered.
  counts-entered : (s : ℕ) → counts b s ≡ true → name s < l.book.entered
  unfolding counts held_by_any named seeded
  counts-entered s e = go (either_true (is_live (b.life s)) _ e)
    where
      by : ((any_below (λ q. any (names s) (messages_in (b.queue q))) peers) ≡ true) ⊎ ((any_below (λ q. any (eqb s) (seed_carries (b.seed q))) peers) ≡ true) → name s < l.book.entered
      by (inl x) = let y = below_true (λ q. any (names s) (messages_in (b.queue q))) peers x in entered y.0 s y.2
      by (inr x) = let y = below_true (λ q. any (eqb s) (seed_carries (b.seed q))) peers x in entered-seed y.0 s y.1 y.2

      on : (any_below (λ q. held (b.handle q s)) peers ≡ true) ⊎ (either (any_below (λ q. any (names s) (messages_in (b.queue q))) peers) (any_below (λ q. any (eqb s) (seed_carries (b.seed q))) peers) ≡ true) → name s < l.book.entered
      on (inl x) = let y = below_true (λ q. held (b.handle q s)) peers x in held-entered r.handles y.0 s y.2
      on (inr x) = by (either_true (any_below (λ q. any (names s) (messages_in (b.queue q))) peers) (any_below (λ q. any (eqb s) (seed_carries (b.seed q))) peers) x)

      go : (is_live (b.life s) ≡ true) ⊎ (either (any_below (λ q. held (b.handle q s)) peers) (either (any_below (λ q. any (names s) (messages_in (b.queue q))) peers) (any_below (λ q. any (eqb s) (seed_carries (b.seed q))) peers)) ≡ true) → name s < l.book.entered
      go (inl x) = lives-entered r.lives s x
      go (inr x) = on (either_true (any_below (λ q. held (b.handle q s)) peers) _ x)

  -- A node that counts sits in a slot.
  counts-place : (n : ℕ) → counts_node l n ≡ true → (s : ℕ) × (name s ≡ n)
  counts-place n e = go (either_true (l.lives n) _ e)
    where
      by : ((any_below (λ q. any (names_node n) (l.queue q)) peers) ≡ true) ⊎ ((any_below (λ q. any (is_node n) (seed_nodes (l.seed q))) peers) ≡ true) → (s : ℕ) × (name s ≡ n)
      by (inl x) = let y = below_true (λ q. any (names_node n) (l.queue q)) peers x in item-place name n (b.queue y.0) (ap (any (names_node n)) (sym (r.queues y.0)) ∙ y.2)
      by (inr x) =
          let y = below_true (λ q. any (is_node n) (seed_nodes (l.seed q))) peers x in
          carried-place name n (seed_carries (b.seed y.0)) (ap (any (is_node n)) (sym (seed-is y.0 y.1)) ∙ y.2)

      on : (any_below (λ q. held (l.handle q n)) peers ≡ true) ⊎ (either (any_below (λ q. any (names_node n) (l.queue q)) peers) (any_below (λ q. any (is_node n) (seed_nodes (l.seed q))) peers) ≡ true) → (s : ℕ) × (name s ≡ n)
      on (inl x) = let y = below_true (λ q. held (l.handle q n)) peers x in r.handles.placed y.0 n y.2
      on (inr x) = by (either_true (any_below (λ q. any (names_node n) (l.queue q)) peers) (any_below (λ q. any (is_node n) (seed_nodes (l.seed q))) peers) x)

      go : (l.lives n ≡ true) ⊎ (either (any_below (λ q. held (l.handle q n)) peers) (either (any_below (λ q. any (names_node n) (l.queue q)) peers) (any_below (λ q. any (is_node n) (seed_nodes (l.seed q))) peers)) ≡ true) → (s : ℕ) × (name s ≡ n)
      go (inl x) = r.lives.placed n x
      go (inr x) = on (either_true (any_below (λ q. held (l.handle q n)) peers) _ x)

  one-to-one : (p : ℕ) → OneToOne (λ n. both (eqb (l.maker n) p) (counts_node l n)) (λ k. counts b (p * slots + k)) l.book.entered slots (λ k. name (p * slots + k))
  one-to-one p =
      record {
        apart = λ i j e. let z = apart (p * slots + i) (p * slots + j) e in omega arith;
        there = λ i lt e.
            let s = p * slots + i in
            let n = counts-entered s e in
            let o : l.maker (name s) ≡ p = r.lives.makers s n ∙ omega arith in
            (n, rw (o, eq-eqb p p refl, counts_same s) e);
        back = λ j lt e.
            let z = both_true (eqb (l.maker j) p) (counts_node l j) e in
            let y = counts-place j z.1 in
            let s = y.0 in
            let o : owner s ≡ p = sym (r.lives.makers s (rw y.1 lt)) ∙ ap l.maker y.1 ∙ eqb-true (l.maker j) p z.0 in
            let at-s : p * slots + (s % slots) ≡ s = omega (arith, o) in
            (s % slots, omega arith, rw at-s (sym (counts_same s) ∙ ap (counts_node l) y.1 ∙ z.1), ap name at-s ∙ y.1);
      }

  -- "create with 16 nodes counted".
  pub counted-row : (p : ℕ) → ltb (free_place b p) slots ≡ not (leb slots (counted_nodes l p))
  unfolding free_place
  counted-row p =
      found-fewer (λ k. counts b (p * slots + k)) slots
      ∙ ap (λ (n : ℕ). not (leb slots n)) (sym (as_many _ _ l.book.entered slots (λ k. name (p * slots + k)) (one-to-one p)))
