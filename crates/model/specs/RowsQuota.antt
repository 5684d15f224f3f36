-- The row of 122: the bus's quota test is the one that the book's numbers give.
-- Assumes nothing.
use Prim.Native.Nat.{ℕ}
use Rattle.std.specs.Prelude.{◌≡◌, refl, Bool, true, false, not, List, [], ◌∷◌, map, ltb, leb}
use Rattle.std.proofs.Common.{ltb-true, ltb-false, le-leb}
use Rattle.std.proofs.lemmas.Bool.{lt-leb}
use Rattle.laws.specs.Tests.{pick, Seen, Seen.is_true, Seen.is_false, look}
use Rattle.model.specs.Lists.{either, any, every}

-- At most, or over.
pub leb-not : (x y : ℕ) → leb x y ≡ not (ltb y x)
leb-not x y = go (look (ltb y x))
  where
    go : Seen (ltb y x) → leb x y ≡ not (ltb y x)
    go (is_true e) = rw (e, lt-leb x y (ltb-true y x e)) refl
    go (is_false e) = rw (e, le-leb x y (ltb-false y x e)) refl

-- "for each resource".
three : (a b c : Bool) → pick (not a) (pick (not b) (not c) false) false ≡ not (either a (either b (either c false)))
three true b c = refl
three false true c = refl
three false false true = refl
three false false false = refl

pub three-at-most : (x y x' y' x'' y'' : ℕ) → pick (leb x y) (pick (leb x' y') (leb x'' y'') false) false ≡ not (either (ltb y x) (either (ltb y' x') (either (ltb y'' x'') false)))
three-at-most x y x' y' x'' y'' = rw (leb-not x y, leb-not x' y', leb-not x'' y'') (three (ltb y x) (ltb y' x') (ltb y'' x''))

pub every-not : {A B : Type 0} (f : A → B) (t : A → Bool) (u : B → Bool) (xs : List A) → ((x : A) → t x ≡ not (u (f x))) → every t xs ≡ not (any u (map f xs))
every-not f t u [] h = refl
every-not f t u (x ∷ xs) h = go (look (u (f x))) (every-not f t u xs h)
  where
    go : Seen (u (f x)) → every t xs ≡ not (any u (map f xs)) → every t (x ∷ xs) ≡ not (any u (f x ∷ map f xs))
    go (is_true e) ih = rw (h x, e) refl
    go (is_false e) ih = rw (h x, e) ih
