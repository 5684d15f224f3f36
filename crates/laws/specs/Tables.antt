-- Tables as functions of a place, a change of one place, and stores in lists seen as such changes.
-- Assumes nothing.
use Rattle.std.specs.Prelude.{ℕ, zero, suc, ◌≤◌, ◌<◌, ◌≡◌, refl, List, [], ◌∷◌, map, length, get_or, set, replicate, eqb}
use Rattle.std.proofs.Common.{sym, ap, ◌∙◌, arith, get_or-set_same, get_or-set_other, eqb-true, eq-eqb, ne_eqb}
use Rattle.std.proofs.Math.Path.{fun_ext}
use Rattle.std.proofs.Math.ListN.{get_or-map}
use Rattle.laws.specs.Tests.{pick, Seen, Seen.is_true, Seen.is_false, look, Same, Same.same, Same.other, same?}

-- f with v at the place i
unfoldable pub upd : {A : Type 0} → (ℕ → A) → ℕ → A → ℕ → A
upd f i v j = pick (eqb i j) v (f j)

pub upd_same : {A : Type 0} (f : ℕ → A) (i : ℕ) (v : A) → upd f i v i ≡ v
unfolding upd
upd_same f i v = rw (eq-eqb i i refl)

pub upd_other : {A : Type 0} (f : ℕ → A) (i j : ℕ) (v : A) → (i ≡ j → ⊥) → upd f i v j ≡ f j
unfolding upd
upd_other f i j v h = rw (ne_eqb i j h)

-- a relation of two tables, place by place, is kept by a change of both at one place
pub upd-rel : {A B : Type 0} (R : ℕ → A → B → Type 0) (f : ℕ → A) (g : ℕ → B) (i : ℕ) (v : A) (w : B) → ((j : ℕ) → R j (f j) (g j)) → R i v w →
    (j : ℕ) → R j (upd f i v j) (upd g i w j)
unfolding upd
upd-rel R f g i v w h r j = go (look (eqb i j))
  where
    go : Seen (eqb i j) → R j (upd f i v j) (upd g i w j)
    go (is_true e) = rw (e, ← eqb-true i j e) r
    go (is_false e) = rw e (h j)

-- a fact of every place of one table, likewise
pub upd-all : {A : Type 0} (P : ℕ → A → Type 0) (f : ℕ → A) (i : ℕ) (v : A) → ((j : ℕ) → P j (f j)) → P i v → (j : ℕ) → P j (upd f i v j)
upd-all P f i v h r = upd-rel (λ j a b. P j a) f f i v v h r

-- a change to what stood there, two changes of one place, and a change under a function
pub upd-self : {A : Type 0} (f : ℕ → A) (i : ℕ) (v : A) → v ≡ f i → upd f i v ≡ f
upd-self f i v h = fun_ext (λ j. go j (same? i j))
  where
    go : (j : ℕ) → Same i j → upd f i v j ≡ f j
    go j (same e) = rw (← e, upd_same) h
    go j (other e) = upd_other f i j v e

pub upd-twice : {A : Type 0} (f : ℕ → A) (i : ℕ) (v w : A) → upd (upd f i v) i w ≡ upd f i w
upd-twice f i v w = fun_ext (λ j. go j (same? i j))
  where
    go : (j : ℕ) → Same i j → upd (upd f i v) i w j ≡ upd f i w j
    go j (same e) = rw (← e, upd_same, upd_same)
    go j (other e) = rw (upd_other (upd f i v) i j w e, upd_other f i j v e, upd_other f i j w e)

pub upd-map : {A B : Type 0} (g : A → B) (f : ℕ → A) (i : ℕ) (v : A) → (λ (j : ℕ). g (upd f i v j)) ≡ upd (λ j. g (f j)) i (g v)
upd-map {B = B} g f i v = fun_ext (λ j. go j (same? i j))
  where
    go : (j : ℕ) → Same i j → g (upd f i v j) ≡ upd {A = B} (λ j. g (f j)) i (g v) j
    go j (same e) = rw (← e, upd_same, upd_same)
    go j (other e) = rw (upd_other f i j v e, upd_other {A = B} (λ j. g (f j)) i j (g v) e)

-- a list read as a table, and a store as a change of it
abbrev pub tab : {A : Type 0} → A → List A → ℕ → A
tab d l i = get_or l i d

pub tab-set : {A : Type 0} (d : A) (l : List A) (i : ℕ) (v : A) → i < length l → tab d (set l i v) ≡ upd (tab d l) i v
tab-set d l i v h = fun_ext (λ j. go j (same? i j))
  where
    go : (j : ℕ) → Same i j → get_or (set l i v) j d ≡ upd (tab d l) i v j
    go j (same e) = rw (← e, upd_same, get_or-set_same)
    go j (other e) = rw (upd_other (tab d l) i j v e, get_or-set_other l i j v d (λ f. e (sym f)))

-- a list of zeros, past its end too
pub zeros-at : (n i : ℕ) → get_or {A = ℕ} (replicate n 0) i 0 ≡ 0
zeros-at zero i = refl
zeros-at (suc n) zero = refl
zeros-at (suc n) (suc i) = zeros-at n i

-- a store under a function of the elements
pub map-set : {A B : Type 0} (f : A → B) (l : List A) (i : ℕ) (v : A) → map f (set l i v) ≡ set (map f l) i (f v)
map-set f [] i v = refl
map-set f (x ∷ xs) zero v = refl
map-set f (x ∷ xs) (suc i) v = ap (◌∷◌ (f x)) (map-set f xs i v)

-- a read under a function of the elements, past the end too
pub map_at : {A B : Type 0} (f : A → B) (d : A) {e : B} → f d ≡ e → (l : List A) (i : ℕ) → get_or (map f l) i e ≡ f (get_or l i d)
map_at f d h l i = ap (get_or (map f l) i) (sym h) ∙ get_or-map f l i d

-- a store of no more than was there leaves no place higher
pub set-le : (l : List ℕ) (i v : ℕ) → v ≤ get_or l i 0 → (j : ℕ) → get_or (set l i v) j 0 ≤ get_or l j 0
set-le [] i v h j = omega arith
set-le (x ∷ xs) zero v h zero = h
set-le (x ∷ xs) zero v h (suc j) = omega arith
set-le (x ∷ xs) (suc i) v h zero = omega arith
set-le (x ∷ xs) (suc i) v h (suc j) = set-le xs i v h j
