-- A part of a list written at once is the same as its elements stored one after another.
-- Assumes nothing.
use Rattle.std.specs.Prelude.{ℕ, ◌+◌, ◌≤◌, min, ◌≡◌, List, ◌++◌, length, take, drop, leb}
use Rattle.std.proofs.Common.{refl, sym, ap, ◌∙◌, arith, length-take-le}
use Rattle.std.proofs.Math.Seq.{paste, take-length}
use Rattle.std.proofs.lemmas.List.Edits.{sets, sets-eq}
use Rattle.std.proofs.lemmas.Slice.{put_mid-paste}
use borrow.Rule.Slice.PartMut.{put_mid}
use Rattle.laws.specs.Tests.{Seen, Seen.is_true, Seen.is_false, look}
use Rattle.laws.specs.Stores.{sets-out}
use borrow.Author.Tests.{leb-true, leb-false}

module _ {A : Type 0} where
  pub paste-sets : (l vs : List A) (i n : ℕ) → i + n ≤ length l → n ≤ length vs → paste l i vs n ≡ sets l i (take n vs)
  paste-sets l vs i n h k =
      let e : length (take n vs) ≡ n = length-take-le n vs k in
      sym (sets-eq (take n vs) l i (rw e h) ∙ ap (λ (m : ℕ). take i l ++ take n vs ++ drop (i + m) l) e)

  pub part-sets : (l vs : List A) (i k : ℕ) → length vs ≡ k → i + k ≤ length l → put_mid i k l vs ≡ sets l i vs
  part-sets l vs i k e h =
      put_mid-paste i k l vs vs (length vs) refl e refl ∙ paste-sets l vs i (length vs) (omega (arith, e)) (omega arith) ∙ ap (sets l i) (take-length vs)

  -- from the buffer's end on nothing is stored, wherever the first place is
  pub sets-start : (l vs : List A) (i : ℕ) → sets l (min i (length l)) vs ≡ sets l i vs
  sets-start l vs i = go (look (leb i (length l)))
    where
      go : Seen (leb i (length l)) → sets l (min i (length l)) vs ≡ sets l i vs
      go (is_true e) = let h = leb-true i (length l) e in ap (λ (j : ℕ). sets l j vs) (omega arith)
      go (is_false e) = let h = leb-false i (length l) e in sets-out l vs (min i (length l)) (omega arith) ∙ sym (sets-out l vs i (omega arith))
