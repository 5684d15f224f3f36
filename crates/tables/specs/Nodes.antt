-- The table of nodes, 256 numbers: for each slot whether its node lives (1), and the number of the command that destroyed it.
-- Assumes nothing.
use Rattle.std.specs.Prelude.{ℕ, ◌+◌, ◌*◌, Bool, List, get_or, set, eqb}
use Rattle.ids.specs.Sizes.{node_fields}

abbrev pub live_at : List ℕ → ℕ → Bool
live_at ns s = eqb (get_or ns (node_fields * s) 0) 1

abbrev pub died_at : List ℕ → ℕ → ℕ
died_at ns s = get_or ns (node_fields * s + 1) 0

unfoldable pub set_live : List ℕ → ℕ → List ℕ
set_live ns s = set ns (node_fields * s) 1

unfoldable pub set_dead : List ℕ → ℕ → ℕ → List ℕ
set_dead ns s n = set (set ns (node_fields * s) 0) (node_fields * s + 1) n
