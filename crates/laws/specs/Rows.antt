-- Tables of rows of one width, which runs of stores write.
-- Assumes nothing.
use Rattle.std.specs.Prelude.{ℕ, zero, suc, ◌+◌, ◌*◌, ◌-◌, ◌≤◌, ◌<◌, ◌≡◌, List, [], ◌∷◌, ◌++◌, length, get_or, take, drop, set, ltb}
use Rattle.std.specs.Simd.{first_chunks}
use Rattle.std.proofs.Common.{sym, ap, ◌∙◌, arith, mul-le-mul_left, ltb-true, ltb-false, not-suc-le-zero, drop-drop, length-drop, length-take-le, ext_get_or, get_or-take, get_or-drop}
use Rattle.std.proofs.lemmas.List.Edits.{sets, sets-eq}
use mathlib.Core.List.{append_assoc}
use Rattle.laws.specs.Tests.{Seen, Seen.is_true, Seen.is_false, look}
use Rattle.laws.specs.Weights.{All}
use Rattle.laws.specs.Stores.{sets-before, sets-past, sets-in}
use Rattle.laws.specs.Build.{build, build-ext, build-length, build-list, build-at}

-- not below and not equal is above
pub above : (q r : ℕ) → q ≤ r → (r ≡ q → ⊥) → q < r
above q r h ne = go (look (ltb q r))
  where
    go : Seen (ltb q r) → q < r
    go (is_true t) = ltb-true q r t
    go (is_false t) = let k : r ≤ q = ltb-false q r t in absurd (ne (omega arith))

module _ {A : Type 0} where
  -- a store of the row r of w numbers leaves the other rows
  row_apart : (w : ℕ) (l : List A) (r q : ℕ) (vs : List A) (k : ℕ) (d : A) → length vs ≡ w → k < w → (r ≡ q → ⊥) →
      get_or (sets l (w * r) vs) (w * q + k) d ≡ get_or l (w * q + k) d
  row_apart w l r q vs k d e h ne = go (look (ltb r q))
    where
      go : Seen (ltb r q) → get_or (sets l (w * r) vs) (w * q + k) d ≡ get_or l (w * q + k) d
      go (is_true t) =
          let lt : suc r ≤ q = ltb-true r q t in
          sets-past l vs (w * r) (w * q + k) d (omega (arith, mul-le-mul_left w lt))
      go (is_false t) =
          let ge : q ≤ r = ltb-false r q t in
          let lt : suc q ≤ r = omega (arith, above q r ge ne) in
          sets-before l vs (w * r) (w * q + k) d (omega (arith, mul-le-mul_left w lt))

-- the row r of a table of rows of w numbers
unfoldable pub row_in : ℕ → List ℕ → ℕ → List ℕ
row_in w l r = build (λ k. get_or l (w * r + k) 0) w

pub row-length : (w : ℕ) (l : List ℕ) (r : ℕ) → length (row_in w l r) ≡ w
unfolding row_in
row-length w l r = build-length _ w

-- a list of w numbers is its own row 0
pub row-self : (w : ℕ) (l : List ℕ) → length l ≡ w → row_in w l 0 ≡ l
unfolding row_in
row-self w l h =
    let z : w * 0 ≡ 0 = omega arith in
    build-ext (λ k. get_or l (w * 0 + k) 0) (λ k. get_or l k 0) w (λ k lt. let e : w * 0 + k ≡ k = omega arith in rw e)
    ∙ ap (build (λ k. get_or l k 0)) (sym h) ∙ build-list 0 l

-- what a store of a row leaves in that row, and in another
pub row_put : (w : ℕ) (l : List ℕ) (r : ℕ) (vs : List ℕ) → length vs ≡ w → w * r + w ≤ length l → row_in w (sets l (w * r) vs) r ≡ vs
unfolding row_in
row_put w l r vs h g =
    build-ext (λ k. get_or (sets l (w * r) vs) (w * r + k) 0) (λ k. get_or vs k 0) w (λ k lt. sets-in l vs (w * r) k 0 (omega arith) (omega arith))
    ∙ ap (build (λ k. get_or vs k 0)) (sym h) ∙ build-list 0 vs

pub row-put-other : (w : ℕ) (l : List ℕ) (r q : ℕ) (vs : List ℕ) → length vs ≡ w → (r ≡ q → ⊥) → row_in w (sets l (w * r) vs) q ≡ row_in w l q
unfolding row_in
row-put-other w l r q vs h ne =
    build-ext (λ k. get_or (sets l (w * r) vs) (w * q + k) 0) (λ k. get_or l (w * q + k) 0) w (λ k lt. row_apart w l r q vs k 0 h lt ne)

-- a fact of every element that is built
pub all_build : {A : Type 0} (P : A → Type 0) (f : ℕ → A) (n : ℕ) → ((j : ℕ) → P (f j)) → All P (build f n)
unfolding build
all_build P f zero h = tt
all_build P f (suc n) h = (h zero, all_build P (λ j. f (suc j)) n (λ j. h (suc j)))

-- a row read as one of the table's arrays of w numbers, and a row written at once
chunk-at : (w n : ℕ) (l : List ℕ) (r : ℕ) → r < n → get_or (first_chunks w n l) r [] ≡ take w (drop (w * r) l)
chunk-at w zero l r h = absurd (not-suc-le-zero h)
chunk-at w (suc n) l zero h = let z : w * 0 ≡ 0 = omega arith in rw z
chunk-at w (suc n) l (suc r) h =
    let e : w + w * r ≡ w * suc r = omega arith in
    chunk-at w n (drop w l) r (omega arith) ∙ ap (take w) (drop-drop (w * r) w l ∙ ap (λ (k : ℕ). drop k l) e)

part-row : (w : ℕ) (l : List ℕ) (r : ℕ) → w * r + w ≤ length l → take w (drop (w * r) l) ≡ row_in w l r
unfolding row_in
part-row w l r h = ext_get_or 0 _ _ (len ∙ sym (build-length (λ k. get_or l (w * r + k) 0) w)) each
  where
    len : length (take w (drop (w * r) l)) ≡ w
    len = length-take-le w (drop (w * r) l) (rw length-drop (omega arith))

    each : (k : ℕ) → k < length (take w (drop (w * r) l)) → get_or (take w (drop (w * r) l)) k 0 ≡ get_or (build (λ k. get_or l (w * r + k) 0) w) k 0
    each k lt =
        let m : k < w = omega (arith, len) in
        get_or-take w (drop (w * r) l) k 0 m ∙ get_or-drop (w * r) l k 0 ∙ sym (build-at (λ k. get_or l (w * r + k) 0) w k 0 m)

pub chunk_row : (w n : ℕ) (l : List ℕ) (r : ℕ) {cs : List (List ℕ)} → cs ≡ first_chunks w n l → r < n → w * r + w ≤ length l → get_or cs r [] ≡ row_in w l r
chunk_row w n l r e h fit = rw e (chunk-at w n l r h ∙ part-row w l r fit)

pub run_stored : (l vs : List ℕ) (i w : ℕ) {ws : List ℕ} → ws ≡ vs → length vs ≡ w → i + w ≤ length l → take i l ++ (ws ++ drop (i + w - i) (drop i l)) ≡ sets l i vs
run_stored l vs i w e size fit =
    let k : i + (i + w - i) ≡ i + length vs = omega (arith, size) in
    rw e (ap (λ (m : List ℕ). take i l ++ (vs ++ m)) (drop-drop (i + w - i) i l ∙ ap (λ (m : ℕ). drop m l) k) ∙ sym (append_assoc (take i l) vs (drop (i + length vs) l)) ∙ sym (sets-eq vs l i (omega (arith, size))))

pub array_stored : (l v : List ℕ) (i w : ℕ) {ws : List ℕ} → ws ≡ v → length ws ≡ length (take (i + w - i) (drop i l)) → i + w ≤ length l →
    take i l ++ (ws ++ drop (i + w - i) (drop i l)) ≡ sets l i (row_in w v 0)
array_stored l v i w {ws} e size fit =
    let part : length (take (i + w - i) (drop i l)) ≡ i + w - i = length-take-le (i + w - i) (drop i l) (rw length-drop (omega arith)) in
    let whole : length v ≡ w = ap length (sym e) ∙ size ∙ part ∙ omega arith in
    run_stored l (row_in w v 0) i w (e ∙ sym (row-self w v whole)) (row-length w v 0) fit

-- what straight-line code reads and stores: rows of 5 and of 8
pub row5 : (l : List ℕ) (r : ℕ) → row_in 5 l r ≡ get_or l (5 * r) 0 ∷ get_or l (5 * r + 1) 0 ∷ get_or l (5 * r + 2) 0 ∷ get_or l (5 * r + 3) 0 ∷ get_or l (5 * r + 4) 0 ∷ []
unfolding row_in build
row5 l r = let e : 5 * r + 0 ≡ 5 * r = omega arith in rw e

pub row8 : (l : List ℕ) (r : ℕ) →
    row_in 8 l r
    ≡ get_or l (8 * r) 0 ∷ get_or l (8 * r + 1) 0 ∷ get_or l (8 * r + 2) 0 ∷ get_or l (8 * r + 3) 0 ∷ get_or l (8 * r + 4) 0 ∷ get_or l (8 * r + 5) 0 ∷ get_or l (8 * r + 6) 0
    ∷ get_or l (8 * r + 7) 0 ∷ []
unfolding row_in build
row8 l r = let e : 8 * r + 0 ≡ 8 * r = omega arith in rw e

pub stores5 : (b : List ℕ) (t x0 x1 x2 x3 x4 : ℕ) →
    set (set (set (set (set b t x0) (t + 1) x1) (t + 2) x2) (t + 3) x3) (t + 4) x4 ≡ sets b t (x0 ∷ x1 ∷ x2 ∷ x3 ∷ x4 ∷ [])
stores5 b t x0 x1 x2 x3 x4 =
    let e1 : t + 1 ≡ suc t = omega arith in
    let e2 : t + 2 ≡ suc (suc t) = omega arith in
    let e3 : t + 3 ≡ suc (suc (suc t)) = omega arith in
    let e4 : t + 4 ≡ suc (suc (suc (suc t))) = omega arith in
    rw (e1, e2, e3, e4)

pub stores8 : (b : List ℕ) (t : ℕ) (v : List ℕ) →
    set
    (set
    (set
    (set (set (set (set (set b t (get_or v 0 0)) (t + 1) (get_or v 1 0)) (t + 2) (get_or v 2 0)) (t + 3) (get_or v 3 0)) (t + 4) (get_or v 4 0))
    (t + 5)
    (get_or v 5 0))
    (t + 6)
    (get_or v 6 0))
    (t + 7)
    (get_or v 7 0)
    ≡ sets b t (row_in 8 v 0)
unfolding row_in build
stores8 b t v =
    let e1 : t + 1 ≡ suc t = omega arith in
    let e2 : t + 2 ≡ suc (suc t) = omega arith in
    let e3 : t + 3 ≡ suc (suc (suc t)) = omega arith in
    let e4 : t + 4 ≡ suc (suc (suc (suc t))) = omega arith in
    let e5 : t + 5 ≡ suc (suc (suc (suc (suc t)))) = omega arith in
    let e6 : t + 6 ≡ suc (suc (suc (suc (suc (suc t))))) = omega arith in
    let e7 : t + 7 ≡ suc (suc (suc (suc (suc (suc (suc t)))))) = omega arith in
    rw (e1, e2, e3, e4, e5, e6, e7)
