-- The refusal table holds of every run: the number of each call is that of the first row that applies to it after the history of the calls before, and 0 exactly where none does.
-- Assumes nothing.
use Rattle.std.specs.Prelude.{ℕ, ◌≡◌, Bool, not, ltb, leb}
use Rattle.std.proofs.Math.Path.{refl}
use Rattle.std.proofs.Common.{ltb-true, ltb-false, le-leb}
use Rattle.std.proofs.Math.Bool.{true, false}
use Rattle.std.proofs.lemmas.Bool.{lt-leb}
use Rattle.laws.specs.Tests.{pick, Seen, Seen.is_true, Seen.is_false, look}

-- A row passed over, or not: what is behind it counts only where it does not apply.
pub passes : (t : Bool) (a r s : ℕ) → (t ≡ true → r ≡ s) → pick t r a ≡ pick (not t) a s
passes true a r s e = e refl
passes false a r s e = refl

pub applies : (t : Bool) (a r s : ℕ) → (t ≡ false → r ≡ s) → pick t a r ≡ pick t a s
applies true a r s e = refl
applies false a r s e = e refl

pub ltb-not : (x y : ℕ) → ltb x y ≡ not (leb y x)
ltb-not x y = go (look (ltb x y))
  where
    go : Seen (ltb x y) → ltb x y ≡ not (leb y x)
    go (is_true e) = rw (e, lt-leb y x (ltb-true x y e)) refl
    go (is_false e) = rw (e, le-leb y x (ltb-false x y e)) refl
