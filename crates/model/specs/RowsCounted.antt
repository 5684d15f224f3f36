-- The row of 28: a search of the owner's 16 places finds none that is free exactly where 16 of the nodes that it created count, by the ledger.
-- Assumes nothing.
use Rattle.std.specs.Prelude.{ℕ, zero, suc, ◌<◌, ◌≡◌, refl, Bool, true, false, ◌⊎◌, List, [], ◌∷◌, map, eqb}
use Rattle.std.proofs.Common.{sym, arith, eqb-true}
use Rattle.std.proofs.Math.Logic.◌⊎◌.{inl, inr}
use Rattle.laws.specs.Tests.{clash}
use Rattle.model.specs.Lists.{either, any, any_below}
use Rattle.model.specs.State.{Entry, Entry.message, Entry.destroyed, Entry.released, messages_in, names}
use Rattle.model.specs.Sim.{called}
use Rattle.model.specs.SimRelease.{eqb_apart}
use Rattle.model.specs.LedgerSim.{item_of}
use Rattle.model.specs.Rows.{is_node, names_node}

-- Tests that pass somewhere.
pub either_true : (a b : Bool) → either a b ≡ true → (a ≡ true) ⊎ (b ≡ true)
either_true true b e = inl refl
either_true false b e = inr e

pub below_true : (t : ℕ → Bool) (n : ℕ) → any_below t n ≡ true → (i : ℕ) × (i < n) × (t i ≡ true)
below_true t zero e = clash (sym e)
below_true t (suc n) e = go (either_true (t n) (any_below t n) e) (below_true t n)
  where
    go : (t n ≡ true) ⊎ (any_below t n ≡ true) → (any_below t n ≡ true → (i : ℕ) × (i < n) × (t i ≡ true)) → (i : ℕ) × (i < suc n) × (t i ≡ true)
    go (inl x) ih = (n, omega arith, x)
    go (inr x) ih = let y = ih x in (y.0, omega (arith, y.1), y.2)

pub below-same : (t u : ℕ → Bool) (n : ℕ) → ((i : ℕ) → i < n → t i ≡ u i) → any_below t n ≡ any_below u n
below-same t u zero h = refl
below-same t u (suc n) h = rw (h n (omega arith), below-same t u n (λ i l. h i (omega arith))) refl

-- A node that a message names is the node of a slot; and it is the same test.
module _ (name : ℕ → ℕ) (apart : (s t : ℕ) → name s ≡ name t → s ≡ t) where
  pub carried_same : (s : ℕ) (ts : List ℕ) → any (is_node (name s)) (map (called name) ts) ≡ any (eqb s) ts
  carried_same s [] = refl
  carried_same s (t ∷ ts) = rw (eqb_apart name apart s t, carried_same s ts) refl

  pub names_same : (s : ℕ) (q : List Entry) → any (names_node (name s)) (map (item_of name) q) ≡ any (names s) (messages_in q)
  names_same s [] = refl
  names_same s (message n m ∷ q) = rw (eqb_apart name apart s m.to, carried_same s m.carried, names_same s q) refl
  names_same s (destroyed n t ∷ q) = names_same s q
  names_same s (released n t ∷ q) = names_same s q

pub carried-place : (name : ℕ → ℕ) (n : ℕ) (ts : List ℕ) → any (is_node n) (map (called name) ts) ≡ true → (s : ℕ) × (name s ≡ n)
carried-place name n [] e = clash (sym e)
carried-place name n (t ∷ ts) e = go (either_true (eqb n (name t)) _ e) (carried-place name n ts)
  where
    go : (eqb n (name t) ≡ true) ⊎ (any (is_node n) (map (called name) ts) ≡ true) → (any (is_node n) (map (called name) ts) ≡ true → (s : ℕ) × (name s ≡ n)) → (s : ℕ) × (name s ≡ n)
    go (inl x) ih = (t, sym (eqb-true n (name t) x))
    go (inr x) ih = ih x

pub item-place : (name : ℕ → ℕ) (n : ℕ) (q : List Entry) → any (names_node n) (map (item_of name) q) ≡ true → (s : ℕ) × (name s ≡ n)
item-place name n [] e = clash (sym e)
item-place name n (message k m ∷ q) e = go (either_true (names_node n (item_of name (message k m))) _ e) (item-place name n q)
  where
    on : (eqb n (name m.to) ≡ true) ⊎ (any (is_node n) (map (called name) m.carried) ≡ true) → (s : ℕ) × (name s ≡ n)
    on (inl x) = (m.to, sym (eqb-true n (name m.to) x))
    on (inr x) = carried-place name n m.carried x

    go : (names_node n (item_of name (message k m)) ≡ true) ⊎ (any (names_node n) (map (item_of name) q) ≡ true) → (any (names_node n) (map (item_of name) q) ≡ true → (s : ℕ) × (name s ≡ n)) →
        (s : ℕ) × (name s ≡ n)
    go (inl x) ih = on (either_true (eqb n (name m.to)) (any (is_node n) (map (called name) m.carried)) x)
    go (inr x) ih = ih x
item-place name n (destroyed k t ∷ q) e = item-place name n q e
item-place name n (released k t ∷ q) e = item-place name n q e
