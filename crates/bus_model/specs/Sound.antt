-- What the tests of a bus say: of the lengths, and of the stored numbers.
-- Assumes nothing.
use Prim.Native.Nat.{ℕ, zero, suc, ◌<◌}
use Rattle.std.specs.Prelude.{◌≡◌, false, List, length, eqb}
use Rattle.std.proofs.Common.{sym, ◌∙◌, arith, eqb-true, eq-eqb, ne_eqb}
use Rattle.std.proofs.Math.Path.{ap}
use Rattle.std.proofs.Math.Bool.{true}
use Rattle.laws.specs.Tests.{Same, same, other, same?}
use Rattle.model.specs.Occurs.{both_true}
use Rattle.view.specs.View.{Bus, Shape}
use Rattle.bus_model.specs.Command.{sized_nodes, sized_handles, sized_charges, sized_ends, sized_entries, sized_carried, sized_numbers, sized_pool, sized_seeds, sized_ok, peer_ok, peers_ok}
use Rattle.ids.specs.Sizes.{peers_size, nodes_size, handles_size, ends_size, entries_size, carried_size, numbers_size, pool_size, seeds_size}
use Rattle.tables.specs.Charges.{charges_size}

-- The lengths, by the test that fails; then the test that all have passed.
module _ (b : Bus) where
  pub wrong-peers : (length b.peers ≡ peers_size → ⊥) → false ≡ sized_ok b
  unfolding sized_ok
  wrong-peers h = rw (ne_eqb (length b.peers) peers_size h)

  module _ (e0 : length b.peers ≡ peers_size) where
    to-nodes : sized_ok b ≡ sized_nodes b
    unfolding sized_ok
    to-nodes = rw (eq-eqb (length b.peers) peers_size e0)

    pub wrong-nodes : (length b.nodes ≡ nodes_size → ⊥) → false ≡ sized_ok b
    wrong-nodes h = rw (to-nodes, ne_eqb (length b.nodes) nodes_size h)

    module _ (e1 : length b.nodes ≡ nodes_size) where
      to-handles : sized_ok b ≡ sized_handles b
      to-handles = rw (to-nodes, eq-eqb (length b.nodes) nodes_size e1)

      pub wrong-handles : (length b.handles ≡ handles_size → ⊥) → false ≡ sized_ok b
      wrong-handles h = rw (to-handles, ne_eqb (length b.handles) handles_size h)

      module _ (e2 : length b.handles ≡ handles_size) where
        to-charges : sized_ok b ≡ sized_charges b
        to-charges = rw (to-handles, eq-eqb (length b.handles) handles_size e2)

        pub wrong-charges : (length b.charges ≡ charges_size → ⊥) → false ≡ sized_ok b
        wrong-charges h = rw (to-charges, ne_eqb (length b.charges) charges_size h)

        module _ (e3 : length b.charges ≡ charges_size) where
          to-ends : sized_ok b ≡ sized_ends b
          to-ends = rw (to-charges, eq-eqb (length b.charges) charges_size e3)

          pub wrong-ends : (length b.rings.ends ≡ ends_size → ⊥) → false ≡ sized_ok b
          wrong-ends h = rw (to-ends, ne_eqb (length b.rings.ends) ends_size h)

          module _ (e4 : length b.rings.ends ≡ ends_size) where
            to-entries : sized_ok b ≡ sized_entries b
            to-entries = rw (to-ends, eq-eqb (length b.rings.ends) ends_size e4)

            pub wrong-entries : (length b.rings.rows.entries ≡ entries_size → ⊥) → false ≡ sized_ok b
            wrong-entries h = rw (to-entries, ne_eqb (length b.rings.rows.entries) entries_size h)

            module _ (e5 : length b.rings.rows.entries ≡ entries_size) where
              to-carried : sized_ok b ≡ sized_carried b
              to-carried = rw (to-entries, eq-eqb (length b.rings.rows.entries) entries_size e5)

              pub wrong-carried : (length b.rings.rows.carried ≡ carried_size → ⊥) → false ≡ sized_ok b
              wrong-carried h = rw (to-carried, ne_eqb (length b.rings.rows.carried) carried_size h)

              module _ (e6 : length b.rings.rows.carried ≡ carried_size) where
                to-numbers : sized_ok b ≡ sized_numbers b
                to-numbers = rw (to-carried, eq-eqb (length b.rings.rows.carried) carried_size e6)

                pub wrong-numbers : (length b.rings.rows.numbers ≡ numbers_size → ⊥) → false ≡ sized_ok b
                wrong-numbers h = rw (to-numbers, ne_eqb (length b.rings.rows.numbers) numbers_size h)

                module _ (e7 : length b.rings.rows.numbers ≡ numbers_size) where
                  to-pool : sized_ok b ≡ sized_pool b
                  to-pool = rw (to-numbers, eq-eqb (length b.rings.rows.numbers) numbers_size e7)

                  pub wrong-pool : (length b.pool ≡ pool_size → ⊥) → false ≡ sized_ok b
                  wrong-pool h = rw (to-pool, ne_eqb (length b.pool) pool_size h)

                  module _ (e8 : length b.pool ≡ pool_size) where
                    to-seeds : sized_ok b ≡ sized_seeds b
                    to-seeds = rw (to-pool, eq-eqb (length b.pool) pool_size e8)

                    pub all-but-seeds : eqb (length b.seeds) seeds_size ≡ sized_ok b
                    all-but-seeds = sym to-seeds

-- What the test says: every buffer has its length.
pub sized-shape : (b : Bus) → sized_ok b ≡ true → Shape b
unfolding sized_ok
sized-shape b h =
    let h0 = both_true (eqb (length b.peers) peers_size) (sized_nodes b) h in
    let h1 = both_true (eqb (length b.nodes) nodes_size) (sized_handles b) h0.1 in
    let h2 = both_true (eqb (length b.handles) handles_size) (sized_charges b) h1.1 in
    let h3 = both_true (eqb (length b.charges) charges_size) (sized_ends b) h2.1 in
    let h4 = both_true (eqb (length b.rings.ends) ends_size) (sized_entries b) h3.1 in
    let h5 = both_true (eqb (length b.rings.rows.entries) entries_size) (sized_carried b) h4.1 in
    let h6 = both_true (eqb (length b.rings.rows.carried) carried_size) (sized_numbers b) h5.1 in
    let h7 = both_true (eqb (length b.rings.rows.numbers) numbers_size) (sized_pool b) h6.1 in
    let h8 = both_true (eqb (length b.pool) pool_size) (sized_seeds b) h7.1 in
    record {
      peers = eqb-true (length b.peers) peers_size h0.0;
      nodes = eqb-true (length b.nodes) nodes_size h1.0;
      handles = eqb-true (length b.handles) handles_size h2.0;
      charges = eqb-true (length b.charges) charges_size h3.0;
      ends = eqb-true (length b.rings.ends) ends_size h4.0;
      rows = record { entries = eqb-true (length b.rings.rows.entries) entries_size h5.0; carried = eqb-true (length b.rings.rows.carried) carried_size h6.0; numbers = eqb-true (length b.rings.rows.numbers) numbers_size h7.0 };
      pool = eqb-true (length b.pool) pool_size h8.0;
      seeds = eqb-true (length b.seeds) seeds_size h8.1;
    }

-- All peers.
module _ (ps ends : List ℕ) where
  pub each-peer : (n : ℕ) → peers_ok ps ends n ≡ true → (p : ℕ) → p < n → peer_ok ps ends p ≡ true
  unfolding peers_ok
  each-peer zero h p l = absurd (omega arith)
  each-peer (suc n) h p l = let t = both_true (peers_ok ps ends n) (peer_ok ps ends n) h in go t (same? p n) (each-peer n t.0 p)
    where
      go : (peers_ok ps ends n ≡ true) × (peer_ok ps ends n ≡ true) → Same p n → (p < n → peer_ok ps ends p ≡ true) → peer_ok ps ends p ≡ true
      go t (same e) ih = ap (peer_ok ps ends) e ∙ t.1
      go t (other d) ih = ih (omega (arith, d))
