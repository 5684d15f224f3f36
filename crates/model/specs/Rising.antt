-- The places by ascending key: each passes, no two have one key. Two such lists with the same elements are one. The slots of an owner by ascending owner ID.
-- Assumes nothing.
use Rattle.std.specs.Prelude.{ℕ, zero, suc, ◌+◌, ◌*◌, ◌≤◌, ◌<◌, ◌≡◌, refl, Bool, true, false, List, [], ◌∷◌, map, eqb, ltb}
use Rattle.std.proofs.Common.{sym, ap, ap₂, subst, arith, ltb-true, eqb-true, ne_eqb}
use Rattle.laws.specs.Tests.{pick, Seen, Seen.is_true, Seen.is_false, look, Same, Same.same, Same.other, same?, clash}
use Rattle.laws.specs.Loads.{all_map}
use Rattle.laws.specs.Weights.{All, all-imp}
use Rattle.model.specs.Numbers.{slots, owner}
use Rattle.model.specs.Lists.{both, any, Found, Found.nowhere, Found.at, lower, least, follow, rising}
use Rattle.model.specs.State.{Handle, owner_id, by_owner_id}
use Rattle.model.specs.Notices.{times}
use Rattle.model.specs.Occurs.{both_true, all_both, load-none}

-- the least place found passes and is below n
abbrev Inside : (ℕ → Bool) → ℕ → Found → Type 0
Inside t n nowhere = Unit {0}
Inside t n (at i) = (t i ≡ true) × (i < n)

least-inside : (t : ℕ → Bool) (key : ℕ → ℕ) (n : ℕ) → Inside t n (least t key n)
unfolding least
least-inside t key zero = tt
least-inside t key (suc i) = go (look (t i)) (least t key i) (least-inside t key i)
  where
    go : Seen (t i) → (x : Found) → Inside t i x → Inside t (suc i) (pick (t i) (lower key i x) x)
    go (is_false e) nowhere h = rw e tt
    go (is_false e) (at k) h = rw e (h.0, omega (arith, h.1))
    go (is_true e) nowhere h = rw e (e, omega arith)
    go (is_true e) (at k) h = rw e (on (look (ltb (key i) (key k))))
      where
        on : Seen (ltb (key i) (key k)) → Inside t (suc i) (pick (ltb (key i) (key k)) (at i) (at k))
        on (is_true g) = rw g (e, omega arith)
        on (is_false g) = rw g (h.0, omega (arith, h.1))

-- every listed place passes
pub rising-pass : (t : ℕ → Bool) (key : ℕ → ℕ) (n f : ℕ) → All (λ j. (t j ≡ true) × (j < n)) (rising t key n f)
unfolding rising
rising-pass t key n zero = tt
rising-pass t key n (suc f) = go (least t key n) (least-inside t key n) (λ t'. rising-pass t' key n f)
  where
    go : (x : Found) → Inside t n x → ((t' : ℕ → Bool) → All (λ j. (t' j ≡ true) × (j < n)) (rising t' key n f)) →
        All (λ j. (t j ≡ true) × (j < n)) (follow x (λ i. rising (λ j. both (t j) (ltb (key i) (key j))) key n f))
    go nowhere h ih = tt
    go (at i) h ih =
        let t' : ℕ → Bool = λ j. both (t j) (ltb (key i) (key j)) in
        (h, all-imp (λ j. (t' j ≡ true) × (j < n)) (λ j. (t j ≡ true) × (j < n)) (λ j z. ((both_true (t j) (ltb (key i) (key j)) z.0).0, z.1)) (rising t' key n f) (ih t'))

-- in ascending order
abbrev pub Sorted : (ℕ → ℕ) → List ℕ → Type 0
Sorted key [] = Unit {0}
Sorted key (x ∷ xs) = All (λ j. key x < key j) xs × Sorted key xs

pub rising-sorted : (t : ℕ → Bool) (key : ℕ → ℕ) (n f : ℕ) → Sorted key (rising t key n f)
unfolding rising
rising-sorted t key n zero = tt
rising-sorted t key n (suc f) = go (least t key n) (λ t'. rising-sorted t' key n f)
  where
    go : (x : Found) → ((t' : ℕ → Bool) → Sorted key (rising t' key n f)) → Sorted key (follow x (λ i. rising (λ j. both (t j) (ltb (key i) (key j))) key n f))
    go nowhere ih = tt
    go (at i) ih =
        let t' : ℕ → Bool = λ j. both (t j) (ltb (key i) (key j)) in (
          all-imp (λ j. (t' j ≡ true) × (j < n)) (λ j. key i < key j) (λ j z. ltb-true (key i) (key j) (both_true (t j) (ltb (key i) (key j)) z.0).1)
              (rising t' key n f) (rising-pass t' key n f),
          ih t',
        )

pub sorted-map : (key : ℕ → ℕ) (f : ℕ → ℕ) (xs : List ℕ) → Sorted (λ k. key (f k)) xs → Sorted key (map f xs)
sorted-map key f [] h = tt
sorted-map key f (x ∷ xs) h = (all_map (λ j. key (f x) < key j) f xs h.0, sorted-map key f xs h.1)

-- what is in ascending order is there at most once
pub sorted-once : (key : ℕ → ℕ) (xs : List ℕ) → Sorted key xs → (s : ℕ) → times s xs ≤ 1
sorted-once key [] h s = omega arith
sorted-once key (x ∷ xs) h s = go (look (eqb x s)) (sorted-once key xs h.1 s)
  where
    go : Seen (eqb x s) → times s xs ≤ 1 → times s (x ∷ xs) ≤ 1
    go (is_false e) ih = rw e (omega arith)
    go (is_true e) ih =
        let z : x ≡ s = eqb-true x s e in
        let none : times s xs ≡ 0 = load-none (λ t. eqb t s) (λ t. 1) xs (all-imp (λ j. key x < key j) (λ j. eqb j s ≡ false) (λ j l. above j l (look (eqb j s))) xs h.0) in
        rw e (omega arith)
      where
        above : (j : ℕ) → key x < key j → Seen (eqb j s) → eqb j s ≡ false
        above j l (is_false y) = y
        above j l (is_true y) = absurd (omega (arith, ap key (eqb-true j s y), ap key (eqb-true x s e)))

-- what every element has, one that is in the list has
among-all : (P : ℕ → Type 0) (z : ℕ) (xs : List ℕ) → All P xs → any (eqb z) xs ≡ true → P z
among-all P z [] h e = clash (sym e)
among-all P z (x ∷ xs) h e = go (look (eqb z x)) (among-all P z xs h.1)
  where
    go : Seen (eqb z x) → (any (eqb z) xs ≡ true → P z) → P z
    go (is_true y) ih = rw (eqb-true z x y) h.0
    go (is_false y) ih = ih (rw y at e)

-- an element that is among the rest is above the first
sorted-above : (key : ℕ → ℕ) (x : ℕ) (xs : List ℕ) (z : ℕ) → Sorted key (x ∷ xs) → any (eqb z) (x ∷ xs) ≡ true → (z ≡ x → ⊥) → key x < key z
sorted-above key x xs z h e n = among-all (λ j. key x < key j) z xs h.0 (rw (ne_eqb z x n) at e)

-- what is above the first of a list and in it is among its rest
among-rest : (key : ℕ → ℕ) (x : ℕ) (xs ys : List ℕ) → All (λ z. key x < key z) xs → All (λ z. any (eqb z) (x ∷ ys) ≡ true) xs → All (λ z. any (eqb z) ys ≡ true) xs
among-rest key x [] ys h k = tt
among-rest key x (z ∷ xs) ys h k = (rw (ne_eqb z x (λ e. absurd (omega (arith, h.0, ap key e)))) at k.0, among-rest key x xs ys h.1 k.1)

-- two lists in ascending order, each element of one in the other, are one list
pub ascending-same : (key : ℕ → ℕ) (xs ys : List ℕ) → Sorted key xs → Sorted key ys →
    All (λ x. any (eqb x) ys ≡ true) xs → All (λ y. any (eqb y) xs ≡ true) ys → xs ≡ ys
ascending-same key [] [] h k i j = refl
ascending-same key [] (y ∷ ys) h k i j = clash (sym j.0)
ascending-same key (x ∷ xs) [] h k i j = clash (sym i.0)
ascending-same key (x ∷ xs) (y ∷ ys) h k i j = go (same? x y) (ascending-same key xs ys h.1 k.1)
  where
    go : Same x y → (All (λ z. any (eqb z) ys ≡ true) xs → All (λ z. any (eqb z) xs ≡ true) ys → xs ≡ ys) → x ∷ xs ≡ y ∷ ys
    go (other n) ih = absurd (omega (arith, sorted-above key y ys x k i.0 n, sorted-above key x xs y h j.0 (λ e. n (sym e))))
    go (same e) ih =
        let among-ys : ℕ → Type 0 = λ w. All (λ z. any (eqb z) (w ∷ ys) ≡ true) xs in
        let among-xs : ℕ → Type 0 = λ w. All (λ z. any (eqb z) (w ∷ xs) ≡ true) ys in
        let a : All (λ z. any (eqb z) ys ≡ true) xs = among-rest key x xs ys h.0 (subst among-ys (sym e) i.1) in
        let b : All (λ z. any (eqb z) xs ≡ true) ys = among-rest key y ys xs k.0 (subst among-xs e j.1) in
        ap₂ ◌∷◌ e (ih a b)

-- a key that is the same on every element
pub sorted-same : (key key' : ℕ → ℕ) (xs : List ℕ) → All (λ x. key x ≡ key' x) xs → Sorted key xs → Sorted key' xs
sorted-same key key' [] h k = tt
sorted-same key key' (x ∷ xs) h k = (
  all-imp (λ j. (key j ≡ key' j) × (key x < key j)) (λ j. key' x < key' j) (λ j z. omega (arith, z.0, z.1, h.0)) xs
      (all_both (λ j. key j ≡ key' j) (λ j. key x < key j) xs h.1 k.0),
  sorted-same key key' xs h.1 k.1,
)

-- the slots of an owner by ascending owner ID: each passes and is the owner's; none is there twice
pub owner-pass : (h : ℕ → ℕ → Handle) (p : ℕ) (t : ℕ → Bool) → All (λ s. (t s ≡ true) × (owner s ≡ p)) (by_owner_id h p t)
unfolding by_owner_id
owner-pass h p t =
    let xs : List ℕ = rising (λ k. t (p * slots + k)) (λ k. owner_id h (p * slots + k)) slots slots in
    all_map (λ s. (t s ≡ true) × (owner s ≡ p)) (λ k. p * slots + k) xs
    (all-imp (λ k. (t (p * slots + k) ≡ true) × (k < slots)) (λ k. (t (p * slots + k) ≡ true) × (owner (p * slots + k) ≡ p)) (λ k z. (z.0, omega (arith, z.1))) xs
    (rising-pass (λ k. t (p * slots + k)) (λ k. owner_id h (p * slots + k)) slots slots))

pub owner-sorted : (h : ℕ → ℕ → Handle) (p : ℕ) (t : ℕ → Bool) → Sorted (owner_id h) (by_owner_id h p t)
unfolding by_owner_id
owner-sorted h p t =
    sorted-map (owner_id h) (λ k. p * slots + k) (rising (λ k. t (p * slots + k)) (λ k. owner_id h (p * slots + k)) slots slots)
    (rising-sorted (λ k. t (p * slots + k)) (λ k. owner_id h (p * slots + k)) slots slots)

pub owner-once : (h : ℕ → ℕ → Handle) (p : ℕ) (t : ℕ → Bool) (s : ℕ) → times s (by_owner_id h p t) ≤ 1
owner-once h p t s = sorted-once (owner_id h) (by_owner_id h p t) (owner-sorted h p t) s
