-- The payloads of the queued messages in one table of bytes: of each peer an area, in which they stand one behind another from its start, in the order of its queue.
-- Assumes nothing.
use Rattle.std.specs.Prelude.{ℕ, ◌+◌, ◌*◌, ◌-◌, List, [], ◌∷◌, true, take, drop, eqb}
use Rattle.std.proofs.lemmas.List.Edits.{sets}
use Rattle.laws.specs.Tests.{pick}
use Rattle.laws.specs.Weights.{load}
use Rattle.rings.specs.declared.Entry.{Entry}
use Rattle.rings.specs.declared.Match.{Match}
use Rattle.rings.specs.Rings.{kind_destroyed, kind_released, matches}
pub use Rattle.ids.specs.Sizes.{area_size, pool_size}

-- The first n bytes of the peer's area, and n bytes from a place of it on.
unfoldable pub bytes_of : List ℕ → ℕ → ℕ → List ℕ
bytes_of t p n = take n (drop (p * area_size) t)

unfoldable pub piece_of : List ℕ → ℕ → ℕ → ℕ → List ℕ
piece_of t p at n = take n (drop (p * area_size + at) t)

-- A payload stored behind the n bytes that are used; n bytes at a place taken out of those used: what stands behind them moves down.
unfoldable pub appended : List ℕ → ℕ → ℕ → List ℕ → List ℕ
appended t p n bs = sets t (p * area_size + n) bs

unfoldable pub closed : List ℕ → ℕ → ℕ → ℕ → ℕ → List ℕ
closed t p at n used = sets t (p * area_size + at) (piece_of t p (at + n) (used - (at + n)))

-- The payload bytes of an entry: a notice has none.
unfoldable pub bytes_in : Entry → ℕ
bytes_in e = pick (eqb e.kind kind_destroyed) 0 (pick (eqb e.kind kind_released) 0 e.nb)

-- An entry with its payload.
pub record Pair : Type 0 where
  pub entry : Entry
  pub payload : List ℕ

unfoldable pub paired : List Entry → List ℕ → List Pair
paired [] l = []
paired (e ∷ es) l = record { entry = e; payload = take (bytes_in e) l } ∷ paired es (drop (bytes_in e) l)

-- The payload bytes of all entries.
abbrev pub sum_of : List Entry → ℕ
sum_of es = load (λ e. true) bytes_in es

-- A removal over the payloads: the place behind those that stay, and the table.
pub record Kept : Type 0 where
  pub place : ℕ
  pub table : List ℕ

abbrev pub kept : ℕ → List ℕ → Kept
kept k t = record { place = k; table = t }

-- The payload of an entry, which stands at the place r, moves to the place k, unless the entry is taken out; so for each entry of a queue.
unfoldable pub kept_piece : List ℕ → ℕ → ℕ → ℕ → Match → Entry → Kept
kept_piece t p r k m e = pick (matches m e) (kept k t) (kept (k + bytes_in e) (sets t (p * area_size + k) (piece_of t p r (bytes_in e))))

unfoldable pub kept_pieces : List ℕ → ℕ → ℕ → ℕ → Match → List Entry → Kept
kept_pieces t p r k m [] = kept k t
kept_pieces t p r k m (e ∷ es) = kept_pieces (kept_piece t p r k m e).table p (r + bytes_in e) (kept_piece t p r k m e).place m es
