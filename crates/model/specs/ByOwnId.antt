-- Document 01, "by ascending owner ID": the bus's list of slots, in the book's names, is the ledger's list of nodes.
-- Both ascend by the same IDs and have the same elements.
-- Assumes nothing.
use Rattle.std.specs.Prelude.{ℕ, ◌<◌, ◌≡◌, refl, Bool, true, List, [], ◌∷◌, map, eqb}
use Rattle.std.proofs.Common.{sym, ◌∙◌, eqb-true, eq-eqb}
use Rattle.std.proofs.Math.Path.{ap}
use Rattle.laws.specs.Loads.{all_map}
use Rattle.laws.specs.Weights.{All, all-imp}
use Rattle.model.specs.Numbers.{owner}
use Rattle.model.specs.Lists.{both, any, rising}
use Rattle.model.specs.State.{is_live, id_or, State, owner_id, by_owner_id}
use Rattle.model.specs.Sim.{called}
use Rattle.model.specs.Occurs.{both_true}
use Rattle.model.specs.Rising.{Sorted, rising-pass, rising-sorted, sorted-map, sorted-same, ascending-same, owner-pass, owner-sorted}
use Rattle.model.specs.RisingAll.{passing-le, rising-all, any-map, owner-all}
use Rattle.model.specs.IdsLaws.{Holding}
use Rattle.model.specs.WithinProof.{live-apart}
use Rattle.model.specs.Ledger.{Ledger, by_own_id}

-- Two slots of an owner that pass a test of live nodes have two owner IDs: on any bus whose live nodes are held by their owners, and on that of a run.
pub live-distinct : (b : State) (p : ℕ) (t : ℕ → Bool) → Holding b → ((s : ℕ) → t s ≡ true → is_live (b.life s) ≡ true) →
    (r s : ℕ) → owner r ≡ p → owner s ≡ p → t r ≡ true → t s ≡ true → owner_id b.handle r ≡ owner_id b.handle s → r ≡ s
live-distinct b p t v live r s o k e f = live-apart b p r s v o k (live r e) (live s f)

-- The same on a bus x that has p's handles of b, for nodes that live on b: the bus of a disconnect of another peer, before its release notices.
pub later-distinct : (b x : State) (p : ℕ) (t : ℕ → Bool) → Holding b → x.handle p ≡ b.handle p → ((s : ℕ) → t s ≡ true → is_live (b.life s) ≡ true) →
    (r s : ℕ) → owner r ≡ p → owner s ≡ p → t r ≡ true → t s ≡ true → owner_id x.handle r ≡ owner_id x.handle s → r ≡ s
later-distinct b x p t v same live r s o k e f z =
    let y : id_or 0 (b.handle p r) ≡ id_or 0 (b.handle p s) = rw (o, k, same) at z in
    live-distinct b p t v live r s o k e f (rw (o, k) y)

-- The book's node of a slot of p is p's node of that name.
called-own : (name : ℕ → ℕ) (p : ℕ) (ss : List ℕ) → All (λ s. owner s ≡ p) ss →
    map (called name) ss ≡ map (λ n. record { owner = p; number = n }) (map name ss)
called-own name p [] h = refl
called-own name p (s ∷ ss) h = rw (h.0, called-own name p ss h.1) refl

-- The slots of p that pass t and the nodes that p made and that pass u, the same under the names: each such slot's node is one of them, entered, and each of them sits in such a slot.
module _ (name : ℕ → ℕ) (b : State) (l : Ledger) (p : ℕ) (t u : ℕ → Bool)
    (handles : (s : ℕ) → l.handle p (name s) ≡ b.handle p s)
    (inside : (s : ℕ) → owner s ≡ p → t s ≡ true → (l.maker (name s) ≡ p) × (u (name s) ≡ true) × (name s < l.book.entered))
    (sits : (n : ℕ) → l.maker n ≡ p → u n ≡ true → (s : ℕ) × (owner s ≡ p) × (t s ≡ true) × (name s ≡ n))
    (distinct : (r s : ℕ) → owner r ≡ p → owner s ≡ p → t r ≡ true → t s ≡ true → owner_id b.handle r ≡ owner_id b.handle s → r ≡ s) where
  abbrev all : ℕ
  all = l.book.entered

  abbrev passes : ℕ → Bool
  passes n = both (eqb (l.maker n) p) (u n)

  abbrev key : ℕ → ℕ
  key n = id_or 0 (l.handle p n)

  abbrev slots-by-id : List ℕ
  slots-by-id = by_owner_id b.handle p t

  abbrev nodes-by-id : List ℕ
  nodes-by-id = rising passes key all all

  -- the two keys are one
  same_key : (s : ℕ) → owner s ≡ p → key (name s) ≡ owner_id b.handle s
  same_key s o = rw (o, handles s) refl

  -- the bus's names ascend by the ledger's key
  names-sorted : Sorted key (map name slots-by-id)
  names-sorted =
      sorted-map key name slots-by-id
      (sorted-same (owner_id b.handle) (λ s. key (name s)) slots-by-id
      (all-imp (λ s. (t s ≡ true) × (owner s ≡ p)) (λ s. owner_id b.handle s ≡ key (name s)) (λ s z. sym (same_key s z.1)) slots-by-id (owner-pass b.handle p t))
      (owner-sorted b.handle p t))

  -- of the nodes that pass no two have one ID
  nodes-apart : (n m : ℕ) → passes n ≡ true → passes m ≡ true → key n ≡ key m → n ≡ m
  nodes-apart n m e f z =
      let x = both_true (eqb (l.maker n) p) (u n) e in
      let y = both_true (eqb (l.maker m) p) (u m) f in
      let r = sits n (eqb-true (l.maker n) p x.0) x.1 in
      let s = sits m (eqb-true (l.maker m) p y.0) y.1 in
      let k : owner_id b.handle r.0 ≡ owner_id b.handle s.0 = sym (same_key r.0 r.1) ∙ ap key r.3 ∙ z ∙ ap key (sym s.3) ∙ same_key s.0 s.1 in
      sym r.3 ∙ ap name (distinct r.0 s.0 r.1 s.1 r.2 s.2 k) ∙ s.3

  -- every slot's node is listed
  slot-listed : (s : ℕ) → owner s ≡ p → t s ≡ true → any (eqb (name s)) nodes-by-id ≡ true
  slot-listed s o e =
      let x = inside s o e in
      let y : passes (name s) ≡ true = rw (eq-eqb (l.maker (name s)) p x.0, x.1) refl in
      rising-all passes key all all (passing-le passes all) (name s) x.2 y (λ i _ f z. nodes-apart i (name s) f y z)

  -- every node's slot is listed
  node-listed : (n : ℕ) → passes n ≡ true → any (eqb n) (map name slots-by-id) ≡ true
  node-listed n e =
      let x = both_true (eqb (l.maker n) p) (u n) e in
      let s = sits n (eqb-true (l.maker n) p x.0) x.1 in
      rw s.3 at
      (any-map name s.0 slots-by-id (owner-all b.handle p t s.0 s.1 s.2 (λ r o f z. distinct r s.0 o s.1 f s.2 z)))

  same_names : map name slots-by-id ≡ nodes-by-id
  same_names =
      ascending-same key (map name slots-by-id) nodes-by-id names-sorted (rising-sorted passes key all all)
      (all_map (λ n. any (eqb n) nodes-by-id ≡ true) name slots-by-id
      (all-imp (λ s. (t s ≡ true) × (owner s ≡ p)) (λ s. any (eqb (name s)) nodes-by-id ≡ true) (λ s z. slot-listed s z.1 z.0) slots-by-id (owner-pass b.handle p t)))
      (all-imp (λ n. (passes n ≡ true) × (n < all)) (λ n. any (eqb n) (map name slots-by-id) ≡ true) (λ n z. node-listed n z.0) nodes-by-id (rising-pass passes key all all))

  pub by-own-id : map (called name) (by_owner_id b.handle p t) ≡ by_own_id l p u
  unfolding by_own_id
  by-own-id =
      called-own name p slots-by-id (all-imp (λ s. (t s ≡ true) × (owner s ≡ p)) (λ s. owner s ≡ p) (λ s z. z.1) slots-by-id (owner-pass b.handle p t))
      ∙ ap (map (λ n. record { owner = p; number = n })) same_names
