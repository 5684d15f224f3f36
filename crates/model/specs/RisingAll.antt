-- Places by ascending key, complete: `rising` lists every passing place whose key no other passing place has. (Rising: it lists passing places alone, by ascending key.)
-- Assumes nothing.
use Prim.Native.Nat.{ℕ, zero, suc, ◌+◌, ◌*◌, ◌%◌, ◌≤◌, ◌<◌}
use Rattle.std.specs.Prelude.{◌≡◌, refl, Bool, true, false, List, [], ◌∷◌, map, eqb, ltb}
use Rattle.std.proofs.Common.{sym, ◌∙◌, eqb-true, eq-eqb, ltb-true, ltb-false, le-ltb, lt-ltb}
use Rattle.std.proofs.Math.Path.{ap}
use native.Mathlib.Omega.{arith}
use Rattle.std.proofs.lemmas.Bool.{eqb-false}
use Rattle.laws.specs.Tests.{pick, Seen, Seen.is_true, Seen.is_false, look, Same, Same.same, Same.other, same?}
use Rattle.laws.specs.Sums.{sum_to}
use Rattle.model.specs.Numbers.{slots, owner}
use Rattle.model.specs.Lists.{both, any, Found, Found.nowhere, Found.at, lower, least, follow, rising}
use Rattle.model.specs.State.{Handle, owner_id, by_owner_id}
use Rattle.model.specs.Occurs.{no, both_true}

-- The least.
record Best (t : ℕ → Bool) (key : ℕ → ℕ) (n i : ℕ) : Type 0 where
  inside : i < n
  pass : t i ≡ true
  low : (j : ℕ) → j < n → t j ≡ true → key i ≤ key j

abbrev Least : (ℕ → Bool) → (ℕ → ℕ) → ℕ → Found → Type 0
Least t key n nowhere = (j : ℕ) → j < n → t j ≡ false
Least t key n (at i) = Best t key n i

one_more : (P : ℕ → Type 0) (i : ℕ) → ((j : ℕ) → j < i → P j) → P i → (j : ℕ) → j < suc i → P j
one_more P i h k j l = go (same? i j)
  where
    go : Same i j → P j
    go (same e) = rw (← e) k
    go (other e) = h j (omega arith)

least-is : (t : ℕ → Bool) (key : ℕ → ℕ) (n : ℕ) → Least t key n (least t key n)
unfolding least
least-is t key zero = λ j l. absurd (omega arith)
least-is t key (suc i) = go (look (t i)) (least t key i) (least-is t key i)
  where
    go : Seen (t i) → (x : Found) → Least t key i x → Least t key (suc i) (pick (t i) (lower key i x) x)
    go (is_false e) nowhere h = rw e (one_more (λ j. t j ≡ false) i h e)
    go (is_false e) (at k) h =
        rw e
        (record {
          inside = omega (arith, h.inside);
          pass = h.pass;
          low = one_more (λ j. t j ≡ true → key k ≤ key j) i h.low (λ f. no e f);
        })
    go (is_true e) nowhere h =
        rw e
        (record {
          inside = omega arith;
          pass = e;
          low = one_more (λ j. t j ≡ true → key i ≤ key j) i (λ j l f. no (h j l) f) (λ f. omega arith);
        })
    go (is_true e) (at k) h = rw e (on (look (ltb (key i) (key k))))
      where
        on : Seen (ltb (key i) (key k)) → Least t key (suc i) (pick (ltb (key i) (key k)) (at i) (at k))
        on (is_true g) =
            rw g
            (record {
              inside = omega arith;
              pass = e;
              low = one_more (λ j. t j ≡ true → key i ≤ key j) i (λ j l f. omega (arith, h.low j l f, ltb-true (key i) (key k) g)) (λ f. omega arith);
            })
        on (is_false g) =
            rw g
            (record {
              inside = omega (arith, h.inside);
              pass = h.pass;
              low = one_more (λ j. t j ≡ true → key k ≤ key j) i h.low (λ f. ltb-false (key i) (key k) g);
            })

-- The places that are left once i was listed.
abbrev above : (ℕ → Bool) → (ℕ → ℕ) → ℕ → ℕ → Bool
above t key i j = both (t j) (ltb (key i) (key j))

-- How many places pass.
abbrev pub passing : (ℕ → Bool) → ℕ → ℕ
passing t n = sum_to (λ j. pick (t j) 1 0) n

sum-le : (f g : ℕ → ℕ) (n : ℕ) → ((j : ℕ) → f j ≤ g j) → sum_to f n ≤ sum_to g n
unfolding sum_to
sum-le f g zero h = omega arith
sum-le f g (suc n) h = omega (arith, h n, sum-le f g n h)

sum_less : (f g : ℕ → ℕ) (i n : ℕ) → i < n → ((j : ℕ) → f j ≤ g j) → f i < g i → sum_to f n < sum_to g n
unfolding sum_to
sum_less f g i zero l h k = absurd (omega arith)
sum_less f g i (suc n) l h k = go (same? i n) (λ m. sum_less f g i n m h k)
  where
    go : Same i n → (i < n → sum_to f n < sum_to g n) → sum_to f (suc n) < sum_to g (suc n)
    go (same e) ih = omega (arith, sum-le f g n h, rw e at k)
    go (other e) ih = omega (arith, h n, ih (omega arith))

narrow : (a b : Bool) → pick (both a b) 1 0 ≤ pick a 1 0
narrow true true = omega arith
narrow true false = omega arith
narrow false b = omega arith

at_most_one : (a : Bool) → pick a 1 0 ≤ 1
at_most_one true = omega arith
at_most_one false = omega arith

pub passing-le : (t : ℕ → Bool) (n : ℕ) → passing t n ≤ n
unfolding sum_to
passing-le t zero = omega arith
passing-le t (suc n) = omega (arith, at_most_one (t n), passing-le t n)

-- No other passing place has j's key.
abbrev pub Unique : (ℕ → Bool) → (ℕ → ℕ) → ℕ → ℕ → Type 0
Unique t key n j = (i : ℕ) → i < n → t i ≡ true → key i ≡ key j → i ≡ j

pub rising-all : (t : ℕ → Bool) (key : ℕ → ℕ) (n f : ℕ) → passing t n ≤ f → (j : ℕ) → j < n → t j ≡ true → Unique t key n j → any (eqb j) (rising t key n f) ≡ true
unfolding rising
rising-all t key n zero h j l e d =
    absurd (omega (arith, sum_less (λ _. 0) (λ j. pick (t j) 1 0) j n l (λ _. omega arith) (rw e (omega arith)), sum-le (λ _. 0) (λ _. 0) n (λ j. omega arith)))
rising-all t key n (suc f) h j l e d = go (least t key n) (least-is t key n) (λ u. rising-all u key n f)
  where
    go : (x : Found) → Least t key n x →
        ((u : ℕ → Bool) → passing u n ≤ f → (j : ℕ) → j < n → u j ≡ true → Unique u key n j → any (eqb j) (rising u key n f) ≡ true) →
        any (eqb j) (follow x (λ i. rising (above t key i) key n f)) ≡ true
    go nowhere b ih = no (b j l) e
    go (at i) b ih = on (look (eqb j i))
      where
        on : Seen (eqb j i) → any (eqb j) (i ∷ rising (above t key i) key n f) ≡ true
        on (is_true z) = rw z refl
        on (is_false z) =
            let lt : key i < key j = up (same? (key i) (key j)) in
            rw z
            (ih (above t key i)
            (omega (
              arith,
              sum_less (λ k. pick (above t key i k) 1 0) (λ k. pick (t k) 1 0) i n b.inside (λ k. narrow (t k) (ltb (key i) (key k)))
                  (rw (b.pass, le-ltb (key i) (key i) (omega arith)) (omega arith)),
            ))
            j l (rw (e, lt-ltb (key i) (key j) lt) refl)
            (λ k m u. d k m (both_true (t k) (ltb (key i) (key k)) u).0))
          where
            up : Same (key i) (key j) → key i < key j
            up (same y) = absurd (eqb-false j i z (sym (d i b.inside b.pass y)))
            up (other y) = omega (arith, b.low j l e)

-- The slots of an owner.
pub any-map : (g : ℕ → ℕ) (k : ℕ) (xs : List ℕ) → any (eqb k) xs ≡ true → any (eqb (g k)) (map g xs) ≡ true
any-map g k [] h = h
any-map g k (x ∷ xs) h = go (look (eqb k x)) (any-map g k xs)
  where
    go : Seen (eqb k x) → (any (eqb k) xs ≡ true → any (eqb (g k)) (map g xs) ≡ true) → any (eqb (g k)) (g x ∷ map g xs) ≡ true
    go (is_true z) ih = rw (eq-eqb (g k) (g x) (ap g (eqb-true k x z))) refl
    go (is_false z) ih = on (look (eqb (g k) (g x)))
      where
        on : Seen (eqb (g k) (g x)) → any (eqb (g k)) (g x ∷ map g xs) ≡ true
        on (is_true y) = rw y refl
        on (is_false y) = rw y (ih (rw z at h))

module _ (h : ℕ → ℕ → Handle) (p : ℕ) (t : ℕ → Bool) where
  pub owner-all : (s : ℕ) → owner s ≡ p → t s ≡ true → ((r : ℕ) → owner r ≡ p → t r ≡ true → owner_id h r ≡ owner_id h s → r ≡ s) →
      any (eqb s) (by_owner_id h p t) ≡ true
  unfolding by_owner_id
  owner-all s o e d =
      let k : ℕ = s % slots in
      let at-s : p * slots + k ≡ s = omega arith in
      let xs = rising (λ k. t (p * slots + k)) (λ k. owner_id h (p * slots + k)) slots slots in
      rw at-s at
      (any-map (λ k. p * slots + k) k xs
      (rising-all (λ k. t (p * slots + k)) (λ k. owner_id h (p * slots + k)) slots slots (passing-le (λ k. t (p * slots + k)) slots) k (omega arith) (rw at-s e)
      (λ i l u z. let q : p * slots + i ≡ s = d (p * slots + i) (omega arith) u (z ∙ ap (owner_id h) at-s) in omega arith)))
