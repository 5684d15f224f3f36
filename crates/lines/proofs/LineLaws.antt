-- The theorems that go with specs/LineLaws.antt and stand on others: each goes by the definitions and the theorems there.
-- Assumes nothing.
use Prim.Native.Nat.{ℕ, ◌-◌, ◌≤◌, ◌<◌}
use Rattle.std.specs.Prelude.{◌≡◌, true}
use Rattle.std.proofs.Common.{arith}
use borrow.Author.Tests.{le-ltb}
use Rattle.lines.specs.Line.{is_digit, digit_value}
use Rattle.lines.specs.LineLaws.{digit-high}

pub value-high : (c : ℕ) → is_digit c ≡ true → 58 ≤ c → (c - 87 ≡ digit_value c) × (c - 87 < 16)
value-high c d h = (rw (le-ltb c 58 h), omega (arith, digit-high c d h))
