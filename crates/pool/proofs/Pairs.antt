-- The theorems that go with specs/Pairs.antt and stand on others: each goes by the definitions and the theorems there.
-- Assumes nothing.
use Rattle.std.specs.Prelude.{ℕ, ◌+◌, ◌*◌, ◌≤◌, ◌<◌, ◌≡◌, refl, Bool, true, false, length, drop}
use Rattle.std.proofs.Common.{sym, ap₂, ◌∙◌, length-append}
use Rattle.std.proofs.Math.Path.{ap}
use Rattle.std.proofs.Math.Bool.{not}
use mathlib.Core.List.{List, [], ◌∷◌, ◌++◌}
use native.Mathlib.Omega.{arith}
use Rattle.std.proofs.Math.ListN.{take}
use Rattle.std.proofs.lemmas.List.Edits.{sets}
use Rattle.std.proofs.Math.Seq.{length-sets}
use Rattle.laws.specs.Tests.{pick}
use Rattle.laws.specs.Weights.{keep}
use Rattle.laws.specs.Stores.{sets-append}
use Rattle.rings.specs.declared.Entry.{Entry}
use Rattle.rings.specs.declared.Match.{Match}
use Rattle.rings.specs.Rings.{peers, matches}
use Rattle.pool.specs.Pool.{area_size, pool_size, bytes_of, piece_of, bytes_in, Kept, kept, kept_piece, kept_pieces, paired, sum_of, appended}
use Rattle.pool.specs.Laws.{append-own, append-other, append-length}
use Rattle.pool.specs.Pairs.{joined, piece-length, take-piece, drop-piece, piece-behind, joined_length, paired-joined, joined-sum}

-- The table after a removal: the bytes that stay, stored at the place k.
pub pieces-joined : (m : Match) (p : ℕ) (es : List Entry) (t : List ℕ) (r k : ℕ) → length t ≡ pool_size → p < peers → k ≤ r → r + sum_of es ≤ area_size →
    kept_pieces t p r k m es ≡ kept (k + length (joined m es (piece_of t p r (sum_of es)))) (sets t (p * area_size + k) (joined m es (piece_of t p r (sum_of es))))
unfolding kept_pieces kept_piece joined
pieces-joined m p [] t r k size in-range low fit = let e : k + 0 ≡ k = omega arith in rw e refl
pieces-joined m p (e ∷ es) t r k size in-range low fit =
    go (matches m e) (pieces-joined m p es t (r + bytes_in e) k size in-range (omega arith) (omega arith))
    (pieces-joined m p es (sets t (p * area_size + k) (piece_of t p r (bytes_in e))) (r + bytes_in e) (k + bytes_in e)
    (length-sets t (p * area_size + k) (piece_of t p r (bytes_in e)) ∙ size) in-range (omega arith) (omega arith))
  where
    n : ℕ
    n = bytes_in e

    all : List ℕ
    all = piece_of t p r (n + sum_of es)

    rest : drop n all ≡ piece_of t p (r + n) (sum_of es)
    rest = drop-piece t p r n (sum_of es)

    piece : List ℕ
    piece = piece_of t p r n

    front : take n all ≡ piece
    front = take-piece t p r n (sum_of es)

    piece-size : length piece ≡ n
    piece-size = piece-length t p r n size in-range (omega arith)

    t' : List ℕ
    t' = sets t (p * area_size + k) piece

    behind : piece_of t' p (r + n) (sum_of es) ≡ piece_of t p (r + n) (sum_of es)
    behind = piece-behind t piece p (r + n) (sum_of es) (p * area_size + k) (omega (arith, piece-size))

    After : List ℕ → ℕ → Type 0
    After x j = kept_pieces x p (r + n) j m es ≡ kept (j + length (joined m es (piece_of x p (r + n) (sum_of es)))) (sets x (p * area_size + j) (joined m es (piece_of x p (r + n) (sum_of es))))

    go : (s : Bool) → After t k → After t' (k + n) → kept_pieces (pick s (kept k t) (kept (k + n) t')).table p (r + n) (pick s (kept k t) (kept (k + n) t')).place m es
        ≡ kept (k + length (pick s (joined m es (drop n all)) (take n all ++ joined m es (drop n all))))
        (sets t (p * area_size + k) (pick s (joined m es (drop n all)) (take n all ++ joined m es (drop n all))))
    go true same moved = rw rest same
    go false same moved = rw (rest, front) (again ∙ ap₂ kept places stores)
      where
        js : List ℕ
        js = joined m es (piece_of t p (r + n) (sum_of es))

        again : kept_pieces t' p (r + n) (k + n) m es ≡ kept (k + n + length js) (sets t' (p * area_size + (k + n)) js)
        again =
            moved ∙ ap (λ (x : List ℕ). kept (k + n + length (joined m es x)) (sets t' (p * area_size + (k + n)) (joined m es x))) behind

        places : k + n + length js ≡ k + length (piece ++ js)
        places = rw (length-append, piece-size) (omega arith)

        stores : sets t' (p * area_size + (k + n)) js ≡ sets t (p * area_size + k) (piece ++ js)
        stores = let e : p * area_size + (k + n) ≡ p * area_size + k + length piece = omega (arith, piece-size) in rw e (sym (sets-append t (p * area_size + k) piece js))

-- A removal from a peer's area: the entries that stay have their payloads, and every other area stays.
module _ (t : List ℕ) (p : ℕ) (m : Match) (es : List Entry) (size : length t ≡ pool_size) (in-range : p < peers) (fit : sum_of es ≤ area_size) where
  abbrev bytes : List ℕ
  bytes = piece_of t p 0 (sum_of es)

  whole : bytes ≡ bytes_of t p (sum_of es)
  unfolding piece_of bytes_of
  whole = let e : p * area_size + 0 ≡ p * area_size = omega arith in ap (λ (x : ℕ). take (sum_of es) (drop x t)) e

  all : length bytes ≡ sum_of es
  all = piece-length t p 0 (sum_of es) size in-range (omega arith)

  short : 0 + length (joined m es bytes) ≤ area_size
  short = omega (arith, joined_length m es bytes all, all)

  made : kept_pieces t p 0 0 m es ≡ kept (0 + length (joined m es bytes)) (appended t p 0 (joined m es bytes))
  unfolding appended
  made = pieces-joined m p es t 0 0 size in-range (omega arith) (omega arith)

  pub remove-place : (kept_pieces t p 0 0 m es).place ≡ sum_of (keep (λ e. not (matches m e)) es)
  remove-place = rw made (omega (arith, joined-sum m es bytes all))

  pub remove-own : paired (keep (λ e. not (matches m e)) es) (bytes_of (kept_pieces t p 0 0 m es).table p (kept_pieces t p 0 0 m es).place)
      ≡ keep (λ x. not (matches m x.entry)) (paired es (bytes_of t p (sum_of es)))
  unfolding bytes_of
  remove-own =
      ap (λ (k : Kept). paired (keep (λ e. not (matches m e)) es) (bytes_of k.table p k.place)) made
      ∙ ap (paired (keep (λ e. not (matches m e)) es)) (append-own t (joined m es bytes) p 0 size in-range short)
      ∙ paired-joined m es bytes all ∙ ap (λ (l : List ℕ). keep (λ x. not (matches m x.entry)) (paired es l)) whole

  pub remove-other : (q n : ℕ) → (p ≡ q → ⊥) → n ≤ area_size → bytes_of (kept_pieces t p 0 0 m es).table q n ≡ bytes_of t q n
  remove-other q n ne h = ap (λ (k : Kept). bytes_of k.table q n) made ∙ append-other t (joined m es bytes) p q 0 n ne short h

  pub remove-length : length (kept_pieces t p 0 0 m es).table ≡ length t
  remove-length = ap (λ (k : Kept). length k.table) made ∙ append-length t (joined m es bytes) p 0
