-- A text as its characters' numbers, so that an example can be read.
-- Assumes nothing.
use Rattle.std.specs.Prelude.{ℕ}
use Prim.Native.Char.{code}
use Prim.Native.String.{String, [], ◌∷◌}
use mathlib.Core.List as lists

abbrev pub text : String → lists.List ℕ
text [] = lists.[]
text (c ∷ s) = lists.◌∷◌ (code c) (text s)
