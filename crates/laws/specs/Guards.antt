-- Tables guarded at their end, with a value of their own past it, and changes of one place seen through them.
-- Assumes nothing.
use Rattle.std.specs.Prelude.{ℕ, ◌<◌, ◌≡◌, Bool, ltb}
use Rattle.std.proofs.Math.Path.{refl, fun_ext}
use Rattle.std.proofs.Math.Bool.{true, false}
use borrow.Author.Tests.{ltb-true, lt-ltb}
use Rattle.laws.specs.Tests.{pick, Seen, Seen.is_true, Seen.is_false, look, Same, Same.same, Same.other, same?}
use Rattle.laws.specs.Tables.{upd, upd_same, upd_other}

-- f below n, and d from there on
unfoldable pub upto : {A : Type 0} → ℕ → A → (ℕ → A) → ℕ → A
upto n d f j = pick (ltb j n) (f j) d

module _ {A : Type 0} where
  pub upto-at : (n : ℕ) (d : A) (f : ℕ → A) (j : ℕ) → j < n → upto n d f j ≡ f j
  unfolding upto
  upto-at n d f j h = rw (lt-ltb j n h)

  -- equal below n, equal everywhere
  pub upto-ext : (n : ℕ) (d : A) (f g : ℕ → A) → ((j : ℕ) → j < n → f j ≡ g j) → upto n d f ≡ upto n d g
  unfolding upto
  upto-ext n d f g h = fun_ext (λ j. go j (look (ltb j n)))
    where
      go : (j : ℕ) → Seen (ltb j n) → pick (ltb j n) (f j) d ≡ pick (ltb j n) (g j) d
      go j (is_true e) = rw e (h j (ltb-true j n e))
      go j (is_false e) = rw e

  pub upto-upd : (n : ℕ) (d : A) (f : ℕ → A) (i : ℕ) (v : A) → i < n → upto n d (upd f i v) ≡ upd (upto n d f) i v
  unfolding upto
  upto-upd n d f i v h = fun_ext (λ j. go j (same? i j))
    where
      go : (j : ℕ) → Same i j → pick (ltb j n) (upd f i v j) d ≡ upd (upto n d f) i v j
      go j (same e) = rw (← e, upd_same, upd_same, lt-ltb i n h)
      go j (other e) = rw (upd_other (upto n d f) i j v e, upd_other f i j v e)

  pub upto-const : (n : ℕ) (d : A) → upto n d (λ j. d) ≡ (λ j. d)
  unfolding upto
  upto-const n d = fun_ext (λ j. go (ltb j n))
    where
      go : (b : Bool) → pick b d d ≡ d
      go true = refl
      go false = refl
