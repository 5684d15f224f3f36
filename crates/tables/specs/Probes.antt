-- The records that a search reads: a list of at most 16 places, on which alone its answer depends. A place is that of a record's first number.
-- Assumes nothing.
use Rattle.std.specs.Prelude.{ℕ, suc, ◌+◌, ◌*◌, ◌%◌, ◌≤◌, ◌≡◌, refl, List, [], ◌∷◌, map, length, get_or, eqb}
use Rattle.std.proofs.Common.{arith}
use Rattle.std.proofs.Math.Path.{ap}
use Rattle.laws.specs.Tests.{pick, Seen, Seen.is_true, Seen.is_false, look}
use Rattle.laws.specs.Weights.{All}
use Rattle.laws.specs.Build.{build, build-length}
use Rattle.laws.specs.Halving.{asked, asked-few}
use Rattle.tables.specs.Handles.{list_block, length_block, most_reads, halvings, handle_row, list_length, guessed, at_least, place_in}
use Rattle.ids.specs.Sizes.{slots}

-- of a chosen ID the own slots; of any other the length of the list, the entry at the guessed place, the entries that the halving asks and the one that it comes to
abbrev pub probes_own : ℕ → List ℕ
probes_own p = build (λ k. handle_row p (p * slots + k)) slots

abbrev pub probes_among : List ℕ → ℕ → ℕ → ℕ → List ℕ
probes_among h p i n = handle_row (list_block p) (place_in h p i n) ∷ map (handle_row (list_block p)) (asked (at_least h p i) halvings 0 n)

unfoldable pub probes : List ℕ → ℕ → ℕ → List ℕ
probes h p i =
    pick (eqb (i % 4) 0) (probes_own p)
    (handle_row length_block p ∷ pick (eqb (list_length h p) 0) [] (handle_row (list_block p) (guessed h p i) ∷ probes_among h p i (list_length h p)))

map-length : {A B : Type 0} (f : A → B) (xs : List A) → length (map f xs) ≡ length xs
map-length f [] = refl
map-length f (x ∷ xs) = ap suc (map-length f xs)

pub probes-few : (h : List ℕ) (p i : ℕ) → length (probes h p i) ≤ most_reads
unfolding probes
probes-few h p i = go (look (eqb (i % 4) 0)) (look (eqb (list_length h p) 0))
  where
    go : Seen (eqb (i % 4) 0) → Seen (eqb (list_length h p) 0) → length (probes h p i) ≤ most_reads
    go (is_true e) q = rw e (omega (arith, build-length (λ k. handle_row p (p * slots + k)) slots))
    go (is_false e) (is_true q) = rw (e, q) (omega arith)
    go (is_false e) (is_false q) =
        let n = list_length h p in
        rw (e, q) (omega (arith, map-length (handle_row (list_block p)) (asked (at_least h p i) halvings 0 n), asked-few (at_least h p i) halvings 0 n))

-- two tables with the same record at a place
abbrev pub Agree : List ℕ → List ℕ → ℕ → Type 0
Agree g h a = (get_or g a 0 ≡ get_or h a 0) × (get_or g (a + 1) 0 ≡ get_or h (a + 1) 0)

pub unmap : {A B : Type 0} (P : B → Type 0) (f : A → B) (xs : List A) → All P (map f xs) → All (λ x. P (f x)) xs
unmap P f [] h = tt
unmap P f (x ∷ xs) h = (h.0, unmap P f xs h.1)
