-- What the code's proofs cite: one law for each return and each turn of a loop, over plain variables.
-- Assumes nothing.
use Rattle.std.specs.Prelude.{ℕ, zero, suc, ◌+◌, ◌-◌, ◌/◌, ◌%◌, ◌≤◌, ◌<◌, min, ◌≡◌, refl, Bool, true, false, List, [], ◌∷◌, length, get_or, set, take, drop, eqb}
use Rattle.std.proofs.Common.{sym, ap, ◌∙◌, arith, not-suc-le-zero, length-drop, ext_get_or, get_or-take, get_or-drop, length-take-le, eq-eqb, ne_eqb, below_more}
use Rattle.std.proofs.lemmas.List.Edits.{sets}
use Rattle.laws.specs.Tests.{Seen, Seen.is_true, Seen.is_false, look, clash}
use Rattle.laws.specs.Guards.{upto-at}
use Rattle.laws.specs.Build.{build, build-at, build-length}
use Rattle.laws.specs.Rows.{row_in}
use Rattle.ids.specs.Sizes.{most_ids, most_bytes, seeds_size}
use Rattle.model.specs.Numbers.{peers, nodes}
use Rattle.model.specs.Lists.{either, any, any_below}
use Rattle.model.specs.Occurs.{any_below_lem}
use Rattle.model.specs.State.{Seed.unset, seed_carries, seeded}
use Rattle.seeds.specs.Seeds.{row_at, area_at, set_at, count_at, slots_at, piece_at, head_of, stored, seed_at, seed_v}

-- slots_of: eight reads, each modulo the slots of all peers
pub slots-are : (t : List ℕ) (p : ℕ) →
    get_or t (row_at p + 4) 0 % 128 ∷ get_or t (row_at p + 4 + 1) 0 % 128 ∷ get_or t (row_at p + 4 + 2) 0 % 128 ∷ get_or t (row_at p + 4 + 3) 0 % 128
    ∷ get_or t (row_at p + 4 + 4) 0 % 128 ∷ get_or t (row_at p + 4 + 5) 0 % 128 ∷ get_or t (row_at p + 4 + 6) 0 % 128 ∷ get_or t (row_at p + 4 + 7) 0 % 128 ∷ []
    ≡ slots_at t p
unfolding slots_at build
slots-are t p = let e : row_at p + 4 + 0 ≡ row_at p + 4 = omega arith in rw e

pub slots_length : (t : List ℕ) (p : ℕ) → length (slots_at t p) ≡ most_ids
unfolding slots_at
slots_length t p = build-length (λ k. get_or t (row_at p + 4 + k) 0 % nodes) most_ids

pub slots_at_lem : (t : List ℕ) (p k : ℕ) → k < most_ids → get_or (slots_at t p) k 0 ≡ get_or t (row_at p + 4 + k) 0 % nodes
unfolding slots_at
slots_at_lem t p k h = build-at (λ k. get_or t (row_at p + 4 + k) 0 % nodes) most_ids k 0 h

-- piece: a part of the table
pub piece_is : (t : List ℕ) (p n : ℕ) → length t ≡ seeds_size → p < peers → n ≤ most_bytes → take (area_at p + n - area_at p) (drop (area_at p) t) ≡ piece_at t p n
unfolding piece_at
piece_is t p n size h k = ap (λ (x : ℕ). take x (drop (area_at p) t)) same ∙ ext_get_or 0 _ _ (len ∙ sym made) each
  where
    same : area_at p + n - area_at p ≡ n
    same = omega arith

    made : length (build (λ k. get_or t (area_at p + k) 0) n) ≡ n
    made = build-length (λ k. get_or t (area_at p + k) 0) n

    len : length (take n (drop (area_at p) t)) ≡ n
    len = length-take-le n (drop (area_at p) t) (rw length-drop (omega arith))

    each : (i : ℕ) → i < length (take n (drop (area_at p) t)) → get_or (take n (drop (area_at p) t)) i 0 ≡ get_or (build (λ k. get_or t (area_at p + k) 0) n) i 0
    each i l =
        let m : i < n = omega (arith, len) in
        get_or-take n (drop (area_at p) t) i 0 m ∙ get_or-drop (area_at p) t i 0 ∙ sym (build-at (λ k. get_or t (area_at p + k) 0) n i 0 m)

-- put_head: four stores in a row
pub stores4 : (b : List ℕ) (t x0 x1 x2 x3 : ℕ) → set (set (set (set b t x0) (t + 1) x1) (t + 2) x2) (t + 3) x3 ≡ sets b t (x0 ∷ x1 ∷ x2 ∷ x3 ∷ [])
stores4 b t x0 x1 x2 x3 =
    let e1 : t + 1 ≡ suc t = omega arith in
    let e2 : t + 2 ≡ suc (suc t) = omega arith in
    let e3 : t + 3 ≡ suc (suc (suc t)) = omega arith in
    rw (e1, e2, e3)

pub head-put : (b : List ℕ) (p nh nb : ℕ) {n h l : ℕ} → n ≡ min nh most_ids → h ≡ nb / 256 → l ≡ nb % 256 →
    set (set (set (set b (row_at p) 1) (row_at p + 1) n) (row_at p + 2) h) (row_at p + 3) l ≡ sets b (row_at p) (head_of nh nb)
head-put b p nh nb {n} {h} {l} e f g = rw (← e, ← f, ← g) (stores4 b (row_at p) 1 n h l)

-- put: the row's head, its slots, the payload
pub put_is : (t : List ℕ) (p nh : ℕ) (slots payload : List ℕ) {nb : ℕ} {a b c : List ℕ} → nb ≡ min (length payload) most_bytes → a ≡ sets t (row_at p) (head_of nh nb) →
    b ≡ sets a (row_at p + 4) (row_in most_ids slots 0) → c ≡ sets b (area_at p) (take (nb - 0) (drop 0 payload)) → c ≡ stored t p nh slots payload
unfolding stored
put_is t p nh slots payload {nb} {b = b} en ea eb ec =
    let whole : nb - 0 ≡ nb = omega arith in
    rw (← en, ← ea, ← eb) (ec ∙ ap (λ (n : ℕ). sets b (area_at p) (take n payload)) whole)

-- is_among: no slot before k is s
module _ (f : ℕ → Bool) where
  any_none : (l : List ℕ) (n : ℕ) → n ≤ length l → ((j : ℕ) → j < n → f (get_or l j 0) ≡ false) → any f (take n l) ≡ false
  any_none [] zero h g = refl
  any_none [] (suc n) h g = absurd (not-suc-le-zero h)
  any_none (x ∷ l) zero h g = refl
  any_none (x ∷ l) (suc n) h g = rw (g zero (omega arith)) (any_none l n (omega arith) (λ j m. g (suc j) (omega arith)))

  any_found : (l : List ℕ) (n k : ℕ) → n ≤ length l → k < n → f (get_or l k 0) ≡ true → any f (take n l) ≡ true
  any_found l zero k h lt e = absurd (not-suc-le-zero lt)
  any_found [] (suc n) k h lt e = absurd (not-suc-le-zero h)
  any_found (x ∷ l) (suc n) zero h lt e = rw e
  any_found (x ∷ l) (suc n) (suc k) h lt e = go (f x) (any_found l n k (omega arith) (omega arith) e)
    where
      go : (b : Bool) → any f (take n l) ≡ true → either b (any f (take n l)) ≡ true
      go true ih = refl
      go false ih = ih

abbrev pub Before : List ℕ → ℕ → ℕ → ℕ → Type 0
Before t a s k = (j : ℕ) → j < k → eqb s (get_or t (a + j) 0 % nodes) ≡ false

module _ (t : List ℕ) (p s n : ℕ) (fit : n ≤ most_ids) where
  pub among_none : (k : ℕ) → n ≤ k → Before t (row_at p + 4) s k → false ≡ any (eqb s) (take n (slots_at t p))
  among_none k h v =
      sym (any_none (eqb s) (slots_at t p) n (omega (arith, slots_length t p)) (λ j l. rw (slots_at_lem t p j (omega arith)) (v j (omega arith))))

  pub among-found : (k : ℕ) → k < n → {b : ℕ} → b ≡ get_or t (row_at p + 4 + k) 0 → b % nodes ≡ s → true ≡ any (eqb s) (take n (slots_at t p))
  among-found k lt {b} eb e =
      let here : get_or (slots_at t p) k 0 ≡ b % nodes = rw eb (slots_at_lem t p k (omega arith)) in
      sym (any_found (eqb s) (slots_at t p) n k (omega (arith, slots_length t p)) lt (eq-eqb s (get_or (slots_at t p) k 0) (sym e ∙ sym here)))

pub among_next : (t : List ℕ) (a s k : ℕ) {b : ℕ} → b ≡ get_or t (a + k) 0 → (b % nodes ≡ s → ⊥) → Before t a s k → Before t a s (k + 1)
among_next t a s k {b} eb ne v =
    below_more (λ j. eqb s (get_or t (a + j) 0 % nodes) ≡ false) k v (ne_eqb s (get_or t (a + k) 0 % nodes) (λ x. ne (rw eb (sym x))))

-- names_at: of a peer without a seed, and of one with it
module _ (t : List ℕ) (p s : ℕ) (h : p < peers) {b : Bool} (eb : b ≡ set_at t p) where
  pub names-unset : b ≡ false → false ≡ any (eqb s) (seed_carries (seed_v t p))
  unfolding seed_v seed_at
  names-unset f = rw (upto-at peers unset (seed_at t) p h, ← eb, f)

  pub names-set : b ≡ true → {n : ℕ} → n ≡ count_at t p → {r : Bool} → r ≡ any (eqb s) (take n (slots_at t p)) → r ≡ any (eqb s) (seed_carries (seed_v t p))
  unfolding seed_v seed_at
  names-set e en er = rw (upto-at peers unset (seed_at t) p h, ← eb, e, ← en) er

-- names: no peer before q names s
abbrev pub naming : List ℕ → ℕ → ℕ → Bool
naming t s q = any (eqb s) (seed_carries (seed_v t q))

pub naming-next : (t : List ℕ) (s q : ℕ) {b : Bool} → b ≡ naming t s q → b ≡ false → any_below (naming t s) q ≡ false → any_below (naming t s) (q + 1) ≡ false
naming-next t s q eb f v = let e : q + 1 ≡ suc q = omega arith in rw (e, ← eb, f) v

pub naming-found : (t : List ℕ) (s q : ℕ) → q < peers → {b : Bool} → b ≡ naming t s q → b ≡ true → true ≡ seeded (seed_v t) s
unfolding seeded
naming-found t s q l eb e = go (look (any_below (naming t s) peers))
  where
    go : Seen (any_below (naming t s) peers) → true ≡ any_below (naming t s) peers
    go (is_true f) = sym f
    go (is_false f) = clash (sym e ∙ eb ∙ any_below_lem (naming t s) peers q l f)

pub naming-none : (t : List ℕ) (s q : ℕ) → q ≤ peers → peers ≤ q → any_below (naming t s) q ≡ false → false ≡ seeded (seed_v t) s
unfolding seeded
naming-none t s q h g v = let e : peers ≡ q = omega arith in sym (ap (any_below (naming t s)) e ∙ v)
