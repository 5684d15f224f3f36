-- The seeds of the eight peers in one lent table of 4,192 bytes: of each peer a row of 12 bytes (1 where a seed is set, how many slots it carries, its payload's length in two bytes, eight
-- slots), and behind the rows 512 bytes for the payload of each peer. Any contents have a meaning: a greater number of slots or of bytes counts as the most, and a slot is read modulo 128.
-- Assumes nothing.
use Rattle.std.specs.Prelude.{ℕ, ◌+◌, ◌*◌, ◌/◌, ◌%◌, min, Bool, List, [], ◌∷◌, length, get_or, set, take, eqb}
use Rattle.std.proofs.lemmas.List.Edits.{sets}
use Rattle.laws.specs.Tests.{pick}
use Rattle.laws.specs.Guards.{upto}
use Rattle.laws.specs.Build.{build}
use Rattle.laws.specs.Rows.{row_in}
use Rattle.ids.specs.Sizes.{most_ids, most_bytes, seed_fields}
use Rattle.model.specs.Numbers.{peers, nodes}
use Rattle.model.specs.State.{Seed, Seed.unset, Seed.kept}

-- Where the row of a peer begins, and where its payload does.
abbrev pub row_at : ℕ → ℕ
row_at p = seed_fields * p

abbrev pub area_at : ℕ → ℕ
area_at p = seed_fields * peers + most_bytes * p

-- Whether a seed is set, how many slots it carries, how many bytes of payload it has.
abbrev pub set_at : List ℕ → ℕ → Bool
set_at t p = eqb (get_or t (row_at p) 0) 1

abbrev pub count_at : List ℕ → ℕ → ℕ
count_at t p = min (get_or t (row_at p + 1) 0) most_ids

abbrev pub bytes_at : List ℕ → ℕ → ℕ
bytes_at t p = min (get_or t (row_at p + 2) 0 * 256 + get_or t (row_at p + 3) 0) most_bytes

-- The eight slots of a row, of which it carries the first, and the first n bytes of a payload.
unfoldable pub slots_at : List ℕ → ℕ → List ℕ
slots_at t p = build (λ k. get_or t (row_at p + 4 + k) 0 % nodes) most_ids

unfoldable pub piece_at : List ℕ → ℕ → ℕ → List ℕ
piece_at t p n = build (λ k. get_or t (area_at p + k) 0) n

-- A seed stored, and one dropped: its slots and its payload stay where they are, unseen.
abbrev pub head_of : ℕ → ℕ → List ℕ
head_of nh nb = 1 ∷ min nh most_ids ∷ nb / 256 ∷ nb % 256 ∷ []

unfoldable pub stored : List ℕ → ℕ → ℕ → List ℕ → List ℕ → List ℕ
stored t p nh slots payload =
    let nb = min (length payload) most_bytes in
    sets (sets (sets t (row_at p) (head_of nh nb)) (row_at p + 4) (row_in most_ids slots 0)) (area_at p) (take nb payload)

unfoldable pub dropped : List ℕ → ℕ → List ℕ
dropped t p = set t (row_at p) 0

-- The seed of each peer, as the model has it; none past the last peer.
unfoldable pub seed_at : List ℕ → ℕ → Seed
seed_at t p = pick (set_at t p) (kept (piece_at t p (bytes_at t p)) (take (count_at t p) (slots_at t p))) unset

unfoldable pub seed_v : List ℕ → ℕ → Seed
seed_v t = upto peers unset (seed_at t)
