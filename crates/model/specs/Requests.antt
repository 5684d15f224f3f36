-- A send's contents as lists: its destination IDs, its attached IDs and its payload, read from the frame by frames' definitions.
-- Assumes nothing.
use Rattle.std.specs.Prelude.{ℕ, ◌+◌, List}
use Rattle.laws.specs.Build.{build}
use Rattle.frames.specs.declared.Sizes.{Sizes}
use Rattle.frames.specs.Frame.{send_id}

-- "07 send: nd (1), nh (1), nb (2), nd IDs, nh IDs, nb payload bytes."
abbrev pub destinations : List ℕ → Sizes → List ℕ
destinations f z = build (λ k. (send_id f k).0) z.nd

abbrev pub attached : List ℕ → Sizes → List ℕ
attached f z = build (λ k. (send_id f (z.nd + k)).0) z.nh
