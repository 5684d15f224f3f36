-- An accepted 0c shows the last seed that was set: the proof.
-- Assumes nothing.
use Prim.Native.Nat.{ℕ}
use Rattle.std.specs.Prelude.{◌≡◌}
use Rattle.model.specs.Book.{Node, Noted.noted, Book}

-- The nodes of IDs are those that the book has noted.
abbrev pub NotedAs : Book → ℕ → Node → Type 0
NotedAs k p n = (j : ℕ) × (c : ℕ) × (k.handle p j ≡ noted n c)
