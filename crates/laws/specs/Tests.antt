-- Tests and case splits: a choice by a Bool, what a test came out as, and chains of tests taken apart.
-- Assumes nothing.
use Rattle.std.specs.Prelude.{ℕ, ◌≡◌, refl, Bool, true, false, eqb}
use Rattle.std.proofs.Common.{arith, eqb-true, eq-eqb, ne_eqb, le-ltb, lt-ltb, le-leb}
use Rattle.std.proofs.lemmas.Bool.{eqb-false, lt-leb}

-- the first where the test holds, else the second
abbrev pub pick : {A : Type 0} → Bool → A → A → A
pick true a b = a
pick false a b = b

-- the value of a test from the fact that decides it
pub ruleset tests = (ne_eqb, eq-eqb, le-ltb, lt-ltb, le-leb, lt-leb)

-- a Bool with the equation that says which it is
pub data Seen (b : Bool) : Type 0 where
  is_true : b ≡ true → Seen b
  is_false : b ≡ false → Seen b

pub look : (b : Bool) → Seen b
look true = is_true refl
look false = is_false refl

-- two numbers, equal or not
pub data Same (a b : ℕ) : Type 0 where
  same : a ≡ b → Same a b
  other : (a ≡ b → ⊥) → Same a b

pub same? : (a b : ℕ) → Same a b
same? a b = go (look (eqb a b))
  where
    go : Seen (eqb a b) → Same a b
    go (is_true e) = same (eqb-true a b e)
    go (is_false e) = other (eqb-false a b e)

pub clash : {A : Type 0} → ◌≡◌ {A = Bool} true false → A
clash e = let z : ◌≡◌ {A = ℕ} 0 1 = cc in absurd (omega arith)

-- a choice that came out as y, where one of its sides is not y, took the other
pub pick-then : {A : Type 0} (s : Bool) {t : A} (x y : A) → (x ≡ y → ⊥) → pick s t x ≡ y → (s ≡ true) × (t ≡ y)
pick-then true x y h e = (refl, e)
pick-then false x y h e = absurd (h e)

pub pick-else : {A : Type 0} (s : Bool) {t : A} (x y : A) → (x ≡ y → ⊥) → pick s x t ≡ y → (s ≡ false) × (t ≡ y)
pick-else false x y h e = (refl, e)
pick-else true x y h e = absurd (h e)

-- what both sides have, the choice has
pub pick_all : {A : Type 0} (P : A → Type 0) (s : Bool) (x y : A) → P x → P y → P (pick s x y)
pick_all P true x y h k = h
pick_all P false x y h k = k

-- the same, where each side may use what the test said
pub pick-cases : {A : Type 0} (P : A → Type 0) (s : Bool) (x y : A) → (s ≡ true → P x) → (s ≡ false → P y) → P (pick s x y)
pick-cases P true x y h k = h refl
pick-cases P false x y h k = k refl
