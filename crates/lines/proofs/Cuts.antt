-- The theorems that go with specs/Cuts.antt and stand on others: each goes by the definitions and the theorems there.
-- Assumes nothing.
use Rattle.std.specs.Prelude.{ℕ, suc, ◌+◌, ◌*◌, ◌-◌, ◌/◌, ◌%◌, ◌≤◌, ◌<◌, ◌≡◌, refl, false, length, get_or, take, eqb, ltb}
use Rattle.std.proofs.Common.{sym, ap, ap₂, ◌∙◌, arith, length-append, ltb-true, ltb-false, eq-eqb}
use mathlib.Core.List.{List, [], ◌∷◌, ◌++◌, map, flatten, append_assoc}
use Rattle.std.proofs.Math.Seq.{append_snoc, take-append-add, take-nil}
use Rattle.std.proofs.lemmas.List.{take-append-le}
use Rattle.laws.specs.Tests.{Seen, Seen.is_true, Seen.is_false, look}
use Rattle.laws.specs.Weights.{All, all-at, all_take}
use Rattle.laws.specs.Build.{build-ext, build-list}
use Rattle.lines.specs.Line.{lf, fault_place, bytes_of, pair_at, digit_value, digits_of, answer_line}
use Rattle.lines.specs.LineLaws.{digits-length}
use Rattle.lines.specs.Chunks.{parts, split, Found, Found.frame, found, reading_all, NoLf}
use Rattle.lines.specs.ChunkLaws.{one_line, split-piece, reads_all}
use Rattle.lines.specs.RoundTrip.{Byte, digit-back, digits-fault, digits-high, digits-lower}
use Rattle.lines.proofs.RoundTrip.{digits-all, digits-plain}
use Rattle.lines.specs.Cuts.{text_of, lfs, OneLineLong, Kept, CutAnywhere, lfs-none, lfs-line, split-longer, KeptBefore}

-- A frame's digits are read back as that frame.
pair-back : (f : List ℕ) → All Byte f → (j : ℕ) → j < length f → pair_at (digits_of f) j ≡ get_or f j 0
pair-back f all j k =
    let b : get_or f j 0 < 256 = all-at Byte f j 0 all k in
    let x : digit_value (get_or (digits_of f) (2 * j) 0) ≡ get_or f j 0 / 16 =
    ap digit_value (digits-high f j k) ∙ (digit-back (get_or f j 0 / 16) (omega arith)).value in
    let y : digit_value (get_or (digits_of f) (2 * j + 1) 0) ≡ get_or f j 0 % 16 =
    ap digit_value (digits-lower f j k) ∙ (digit-back (get_or f j 0 % 16) (omega arith)).value in
    rw (x, y) (omega arith)

pub found_back : (f : List ℕ) → OneLineLong f → found (digits_of f) ≡ frame f
unfolding found bytes_of
found_back f h =
    let n : length (digits_of f) ≡ 2 * length f = digits-length f in
    let e : fault_place (digits_of f) ≡ length (digits_of f) = digits-fault (digits_of f) [] (digits-all f h.1) (omega (arith, n, h.0)) in
    let m : length (digits_of f) / 2 ≡ length f = omega (arith, n) in
    let z : length (digits_of f) % 2 ≡ 0 = omega (arith, n) in
    rw (e, eq-eqb (length (digits_of f)) (length (digits_of f)) refl, eq-eqb (length (digits_of f) % 2) 0 z, m)
    (ap frame (build-ext (pair_at (digits_of f)) (λ j. get_or f j 0) (length f) (pair-back f h.1) ∙ build-list 0 f))

-- Cut in the first line.
cut-first : (f : List ℕ) (fs : List (List ℕ)) (k : ℕ) → OneLineLong f → k ≤ 2 * length f → Kept (f ∷ fs) (take k (text_of (f ∷ fs)))
unfolding flatten
cut-first f fs k h l =
    let d : List ℕ = digits_of f in
    let p : NoLf (take k d) = all_take (λ c. eqb c lf ≡ false) k d (digits-plain f h.1) in
    let e : take k (answer_line f ++ text_of fs) ≡ take k d =
    ap (take k) (append_snoc d lf (text_of fs)) ∙ take-append-le k d (lf ∷ text_of fs) (omega (arith, digits-length f)) in
    let z : lfs (take k d) ≡ 0 = lfs-none (take k d) p in
    let s : split (take k d) ≡ parts [] (take k d) = split-piece (take k d) p in
    rw e record { few = rw z (omega arith); lines = rw (z, s); before = rw (z, s) }

-- Cut behind it.
cut-behind : (f : List ℕ) (fs : List (List ℕ)) (r : List ℕ) → OneLineLong f → Kept fs r → Kept (f ∷ fs) (answer_line f ++ r)
unfolding flatten
cut-behind f fs r h c =
    let d : List ℕ = digits_of f in
    let p : NoLf d = digits-plain f h.1 in
    let z : lfs (d ++ lf ∷ r) ≡ suc (lfs r) = lfs-line d r p in
    let s : split (d ++ lf ∷ r) ≡ parts (d ∷ (split r).whole) (split r).rest = one_line d r p in
    rw (append_snoc d lf r) record {
      few = rw z (omega (arith, c.few));
      lines = rw (z, s) (ap₂ (λ (x : Found) (y : List Found). x ∷ y) (found_back f h) c.lines);
      before = rw (z, s) (append_assoc (answer_line f) (text_of (take (lfs r) fs)) (split r).rest ∙ ap (◌++◌ (answer_line f)) c.before ∙ append_snoc d lf r);
    }

pub cut-anywhere : CutAnywhere
unfolding flatten split
cut-anywhere [] k h = let e : take {A = ℕ} k [] ≡ [] = take-nil k in rw e record { few = omega arith; lines = refl; before = refl }
cut-anywhere (f ∷ fs) k h = go (look (ltb (2 * length f) k)) (λ m. cut-anywhere fs m h.1)
  where
    go : Seen (ltb (2 * length f) k) → ((m : ℕ) → Kept fs (take m (text_of fs))) → Kept (f ∷ fs) (take k (text_of (f ∷ fs)))
    go (is_false e) c = cut-first f fs k h.0 (ltb-false (2 * length f) k e)
    go (is_true e) c =
        let l : 2 * length f < k = ltb-true (2 * length f) k e in
        let m : ℕ = k - (2 * length f + 1) in
        let z : k ≡ length (answer_line f) + m = rw length-append (omega (arith, digits-length f)) in
        let t : take k (text_of (f ∷ fs)) ≡ answer_line f ++ take m (text_of fs) =
        ap (λ (n : ℕ). take n (text_of (f ∷ fs))) z ∙ take-append-add (answer_line f) (text_of fs) m in
        rw t (cut-behind f fs (take m (text_of fs)) h.0 (c m))

-- So the code's readings of what was kept, into any frame buffer, give these frames.
pub cut-read : (fs : List (List ℕ)) (k : ℕ) (b : List ℕ) → All OneLineLong fs →
    (reading_all (take k (text_of fs)) b).lines ≡ map frame (take (lfs (take k (text_of fs))) fs)
cut-read fs k b h = (reads_all (take k (text_of fs)) b).lines ∙ (cut-anywhere fs k h).lines

pub cut-before : (fs : List (List ℕ)) (k : ℕ) (t : List ℕ) → All OneLineLong fs → NoLf t → KeptBefore fs (take k (text_of fs)) t
cut-before fs k t h n =
    let s : List ℕ = take k (text_of fs) in
    let c = cut-anywhere fs k h in
    let e = split-longer s t n in
    record {
      few = c.few;
      lines = rw e c.lines;
      before = rw e (sym (append_assoc (text_of (take (lfs s) fs)) (split s).rest t) ∙ ap (λ (x : List ℕ). x ++ t) c.before);
    }
