-- Runs of stores in a list, one after another, and the front of a list.
-- Assumes nothing.
use Rattle.std.specs.Prelude.{ℕ, zero, suc, ◌+◌, ◌-◌, ◌≤◌, ◌<◌, min, ◌≡◌, refl, List, [], ◌∷◌, ◌++◌, length, get_or, take, drop, set, leb}
use Rattle.std.proofs.Common.{sym, ap, ◌∙◌, arith, zero-add, not-suc-le-zero, add-one, length-drop, length-set, take-append-drop, get_or-set_same, get_or-set_other, get_or-drop, take-suc, take_all, length-take-le, leb-true, leb-false}
use Rattle.std.proofs.Math.Seq.{set_out, length-sets, take-length}
use Rattle.std.proofs.lemmas.List.Edits.{sets, sets-eq}
use Rattle.laws.specs.Tests.{Seen, Seen.is_true, Seen.is_false, look}

module _ {A : Type 0} where
  -- as many as there are, at most k
  pub take_min : (k : ℕ) (l : List A) → take (min (length l) k) l ≡ take k l
  take_min k l = go (look (leb (length l) k))
    where
      go : Seen (leb (length l) k) → take (min (length l) k) l ≡ take k l
      go (is_true e) =
          let h : length l ≤ k = leb-true (length l) k e in
          let m : min (length l) k ≡ length l = omega arith in
          ap (λ (n : ℕ). take n l) m ∙ take-length l ∙ sym (take_all k l h)
      go (is_false e) =
          let h : k < length l = leb-false (length l) k e in
          let m : min (length l) k ≡ k = omega arith in
          ap (λ (n : ℕ). take n l) m

  -- two runs of stores, one behind the other
  pub sets-append : (l : List A) (i : ℕ) (vs ws : List A) → sets l i (vs ++ ws) ≡ sets (sets l i vs) (i + length vs) ws
  sets-append l i [] ws = let e : i + 0 ≡ i = omega arith in rw e
  sets-append l i (v ∷ vs) ws = let e : i + suc (length vs) ≡ suc i + length vs = omega arith in rw e (sets-append (set l i v) (suc i) vs ws)

  -- xs stored from i on, then ys behind them
  pub sets_then : (l l₁ l₂ : List A) (i j : ℕ) (xs ys : List A) → l₁ ≡ sets l i xs → j ≡ i + length xs → l₂ ≡ sets l₁ j ys → l₂ ≡ sets l i (xs ++ ys)
  sets_then l l₁ l₂ i j xs ys e f g = g ∙ rw (e, f) (sym (sets-append l i xs ys))

  -- stores from the start of a list
  pub over : (xs l : List A) → length xs ≤ length l → sets l 0 xs ≡ xs ++ drop (length xs) l
  over xs l h = sets-eq xs l 0 (rw zero-add h) ∙ ap (λ (n : ℕ). xs ++ drop n l) (zero-add (length xs))

  -- a loop that copies xs element by element: the next turn
  pub sets-next : (l xs : List A) (i k : ℕ) (d : A) → k < length xs → set (sets l i (take k xs)) (i + k) (get_or xs k d) ≡ sets l i (take (k + 1) xs)
  sets-next l xs i k d h =
      let n : length (take k xs) ≡ k = length-take-le k xs (omega arith) in
      let e : take (k + 1) xs ≡ take k xs ++ (get_or xs k d ∷ []) = rw add-one (take-suc xs k d h) in
      sym (ap (sets l i) e ∙ (sets-append l i (take k xs) (get_or xs k d ∷ [])) ∙ rw n)

  -- a place before a run of stores, and one in it
  pub sets-before : (l vs : List A) (i j : ℕ) (d : A) → j < i → get_or (sets l i vs) j d ≡ get_or l j d
  sets-before l [] i j d h = refl
  sets-before l (v ∷ vs) i j d h = sets-before (set l i v) vs (suc i) j d (omega arith) ∙ get_or-set_other l i j v d (λ e. absurd (omega arith))

  pub sets-in : (l vs : List A) (i k : ℕ) (d : A) → k < length vs → i + length vs ≤ length l → get_or (sets l i vs) (i + k) d ≡ get_or vs k d
  sets-in l [] i k d h g = absurd (not-suc-le-zero h)
  sets-in l (v ∷ vs) i zero d h g =
      let e : i + zero ≡ i = omega arith in
      let in-l : i < length l = omega arith in
      rw e (sets-before (set l i v) vs (suc i) i d (omega arith) ∙ get_or-set_same l i v d in-l)
  sets-in l (v ∷ vs) i (suc k) d h g =
      let e : i + suc k ≡ suc i + k = omega arith in
      rw e (sets-in (set l i v) vs (suc i) k d (omega arith) (omega (arith, length-set l i v)))

  -- behind a run of stores stands what stood there before
  pub sets-past : (l vs : List A) (i j : ℕ) (d : A) → i + length vs ≤ j → get_or (sets l i vs) j d ≡ get_or l j d
  sets-past l [] i j d h = refl
  sets-past l (v ∷ vs) i j d h = sets-past (set l i v) vs (suc i) j d (omega arith) ∙ get_or-set_other l i j v d (λ e. omega arith)

  -- a loop that moves elements down within a list: the next turn
  pub sets_down : (l m : List A) (to from i : ℕ) (d : A) → to ≤ from → from + i < length l → m ≡ sets l to (take i (drop from l)) →
      set m (to + i) (get_or m (from + i) d) ≡ sets l to (take (i + 1) (drop from l))
  sets_down l m to from i d h k e =
      let n : length (take i (drop from l)) ≡ i = length-take-le i (drop from l) (rw length-drop (omega arith)) in
      let p : get_or m (from + i) d ≡ get_or (drop from l) i d = rw e (sets-past l (take i (drop from l)) to (from + i) d (rw n (omega arith)) ∙ sym (get_or-drop from l i d)) in
      let b : i < length (drop from l) = rw length-drop (omega arith) in
      rw (p, e) (sets-next l (drop from l) to i d b)

  -- stores past the end change nothing
  pub sets-out : (l vs : List A) (i : ℕ) → length l ≤ i → sets l i vs ≡ l
  sets-out l [] i h = refl
  sets-out l (v ∷ vs) i h =
      let e : set l i v ≡ l = set_out l i v h in
      ap (λ (m : List A). sets m (suc i) vs) e ∙ sets-out l vs (suc i) (omega arith)

  -- so as many as there is room for are all
  pub sets-fit : (l vs : List A) (i n : ℕ) → n ≡ min (length vs) (length l - i) → sets l i (take n vs) ≡ sets l i vs
  sets-fit l vs i n e = go (look (leb (length vs) n))
    where
      go : Seen (leb (length vs) n) → sets l i (take n vs) ≡ sets l i vs
      go (is_true f) = ap (sets l i) (take_all n vs (leb-true (length vs) n f))
      go (is_false f) =
          let g : n < length vs = leb-false (length vs) n f in
          let k : length (take n vs) ≡ n = length-take-le n vs (omega arith) in
          let o : length (sets l i (take n vs)) ≤ i + length (take n vs) = rw (length-sets l i (take n vs), k) (omega arith) in
          sym (ap (sets l i) (sym (take-append-drop n vs)) ∙ sets-append l i (take n vs) (drop n vs) ∙ sets-out (sets l i (take n vs)) (drop n vs) (i + length (take n vs)) o)
