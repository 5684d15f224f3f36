-- The entries of a queue with their payloads, cut from the area's bytes one behind another: what an append and a removal do to them.
-- Assumes nothing.
use Rattle.std.specs.Prelude.{ℕ, ◌+◌, ◌*◌, ◌-◌, ◌≤◌, ◌<◌, ◌≡◌, refl, Bool, true, false, length, drop}
use Rattle.std.proofs.Common.{ap₂, ◌∙◌, length-append, length-take, length-drop, take_at, drop_at, take-take, drop-drop, length-take-le}
use Rattle.std.proofs.Math.Path.{ap}
use Rattle.std.proofs.Math.Bool.{not}
use mathlib.Core.List.{List, [], ◌∷◌, ◌++◌}
use native.Mathlib.Omega.{arith}
use Rattle.std.proofs.Math.ListN.{take}
use Rattle.std.proofs.lemmas.List.Edits.{sets}
use Rattle.std.proofs.Math.Seq.{length-sets, take-length}
use Rattle.std.proofs.lemmas.List.{take-append-le, drop-append-le}
use Rattle.laws.specs.Tests.{pick}
use Rattle.laws.specs.Weights.{keep}
use Rattle.laws.specs.Stores.{sets-past}
use Rattle.rings.specs.declared.Entry.{Entry}
use Rattle.rings.specs.declared.Match.{Match}
use Rattle.rings.specs.Rings.{peers, matches}
use Rattle.pool.specs.Pool.{area_size, pool_size, piece_of, bytes_in, paired, sum_of}
use Rattle.pool.specs.Laws.{part_length, part_same, part-of-front}

-- One more at the end.
pub paired-append : (es : List Entry) (e : Entry) (l b : List ℕ) → length l ≡ sum_of es → length b ≡ bytes_in e →
    paired (es ++ (e ∷ [])) (l ++ b) ≡ paired es l ++ (record { entry = e; payload = b } ∷ [])
unfolding paired
paired-append [] e [] b h k = ap (λ (x : List ℕ). record { entry = e; payload = x } ∷ []) (rw (← k) (take-length b))
paired-append [] e (x ∷ l) b h k = absurd (omega arith)
paired-append (d ∷ es) e l b h k =
    let n : bytes_in d ≤ length l = omega arith in
    ap₂ ◌∷◌ (ap (λ (x : List ℕ). record { entry = d; payload = x }) (take-append-le (bytes_in d) l b n))
    (ap (paired (es ++ (e ∷ []))) (drop-append-le (bytes_in d) l b n) ∙ paired-append es e (drop (bytes_in d) l) b (simp length-drop (omega arith)) k)

-- The bytes of the entries that a removal leaves, from the bytes of all.
unfoldable pub joined : Match → List Entry → List ℕ → List ℕ
joined m [] l = []
joined m (e ∷ es) l = pick (matches m e) (joined m es (drop (bytes_in e) l)) (take (bytes_in e) l ++ joined m es (drop (bytes_in e) l))

-- pieces of pieces, and a piece behind a run of stores
pub piece-length : (t : List ℕ) (p r n : ℕ) → length t ≡ pool_size → p < peers → r + n ≤ area_size → length (piece_of t p r n) ≡ n
unfolding piece_of
piece-length t p r n e h k = part_length t (p * area_size + r) n (omega arith)

pub take-piece : (t : List ℕ) (p r n s : ℕ) → take n (piece_of t p r (n + s)) ≡ piece_of t p r n
unfolding piece_of
take-piece t p r n s = take-take n (n + s) (drop (p * area_size + r) t) (omega arith)

pub drop-piece : (t : List ℕ) (p r n s : ℕ) → drop n (piece_of t p r (n + s)) ≡ piece_of t p (r + n) s
unfolding piece_of
drop-piece t p r n s =
    let e : n + s - n ≡ s = omega arith in
    let f : p * area_size + r + n ≡ p * area_size + (r + n) = omega arith in
    part-of-front (drop (p * area_size + r) t) n (n + s) (omega arith) ∙ ap₂ take e (drop-drop n (p * area_size + r) t ∙ ap (λ (x : ℕ). drop x t) f)

pub piece-behind : (t vs : List ℕ) (p r n i : ℕ) → i + length vs ≤ p * area_size + r → piece_of (sets t i vs) p r n ≡ piece_of t p r n
unfolding piece_of
piece-behind t vs p r n i h = part_same (sets t i vs) t (p * area_size + r) n (length-sets t i vs) (λ j lt. sets-past t vs i (p * area_size + r + j) 0 (omega arith))

-- The entries that stay, with their payloads.
pub joined_length : (m : Match) (es : List Entry) (l : List ℕ) → length l ≡ sum_of es → length (joined m es l) ≤ length l
unfolding joined
joined_length m [] l h = omega arith
joined_length m (e ∷ es) l h = go (matches m e) (joined_length m es (drop (bytes_in e) l) (simp length-drop (omega arith)))
  where
    after : length (drop (bytes_in e) l) ≡ sum_of es
    after = simp length-drop (omega arith)

    go : (s : Bool) → length (joined m es (drop (bytes_in e) l)) ≤ length (drop (bytes_in e) l) → length (pick s (joined m es (drop (bytes_in e) l)) (take (bytes_in e) l ++ joined m es (drop (bytes_in e) l))) ≤ length l
    go true less = omega (arith, after)
    go false less = rw (length-append, length-take) (omega (arith, after))

pub paired-joined : (m : Match) (es : List Entry) (l : List ℕ) → length l ≡ sum_of es →
    paired (keep (λ e. not (matches m e)) es) (joined m es l) ≡ keep (λ x. not (matches m x.entry)) (paired es l)
unfolding paired joined
paired-joined m [] l h = refl
paired-joined m (e ∷ es) l h = go (matches m e) (paired-joined m es (drop (bytes_in e) l) (simp length-drop (omega arith)))
  where
    n : ℕ
    n = bytes_in e

    Rest : Type 0
    Rest = paired (keep (λ d. not (matches m d)) es) (joined m es (drop n l)) ≡ keep (λ x. not (matches m x.entry)) (paired es (drop n l))

    size : length (take n l) ≡ n
    size = length-take-le n l (omega arith)

    go : (s : Bool) → Rest → paired (pick (not s) (e ∷ keep (λ d. not (matches m d)) es) (keep (λ d. not (matches m d)) es)) (pick s (joined m es (drop n l)) (take n l ++ joined m es (drop n l)))
        ≡ pick (not s) (record { entry = e; payload = take n l } ∷ keep (λ x. not (matches m x.entry)) (paired es (drop n l))) (keep (λ x. not (matches m x.entry)) (paired es (drop n l)))
    go true ih = ih
    go false ih =
        ap₂ ◌∷◌ (ap (λ (x : List ℕ). record { entry = e; payload = x }) (take_at (take n l) (joined m es (drop n l)) n size))
        (ap (paired (keep (λ d. not (matches m d)) es)) (drop_at (take n l) (joined m es (drop n l)) n size) ∙ ih)

pub joined-sum : (m : Match) (es : List Entry) (l : List ℕ) → length l ≡ sum_of es → length (joined m es l) ≡ sum_of (keep (λ e. not (matches m e)) es)
unfolding joined
joined-sum m [] l h = refl
joined-sum m (e ∷ es) l h = go (matches m e) (joined-sum m es (drop (bytes_in e) l) (simp length-drop (omega arith)))
  where
    size : length (take (bytes_in e) l) ≡ bytes_in e
    size = length-take-le (bytes_in e) l (omega arith)

    go : (s : Bool) → length (joined m es (drop (bytes_in e) l)) ≡ sum_of (keep (λ d. not (matches m d)) es) →
        length (pick s (joined m es (drop (bytes_in e) l)) (take (bytes_in e) l ++ joined m es (drop (bytes_in e) l)))
        ≡ sum_of (pick (not s) (e ∷ keep (λ d. not (matches m d)) es) (keep (λ d. not (matches m d)) es))
    go true ih = ih
    go false ih = rw (length-append, size, ih) refl
