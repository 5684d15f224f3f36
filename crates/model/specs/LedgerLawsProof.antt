-- What an accepted destroy, release, send or disconnect does to the queues: the proof, of histories.
-- Assumes nothing.
use Rattle.std.specs.Prelude.{ℕ, ◌≡◌, refl, Bool, true, false, get_or}
use Rattle.std.proofs.Common.{ap, ap₂, ◌∙◌}
use mathlib.Core.List.{List, [], ◌∷◌, map}
use Rattle.frames.specs.declared.Sizes.{Sizes}
use Rattle.frames.specs.Legal.{Sized}
use Rattle.model.specs.Book.{sizes_of}

-- A test that cannot hold.
pub never : (t : Bool) → (t ≡ true → ⊥) → t ≡ false
never true h = absurd (h refl)
never false h = refl

-- Send. Its sizes are those of the frame.
pub same-sizes : (f : List ℕ) (z : Sizes) → Sized f z → z ≡ sizes_of f
same-sizes f z s = ap₂ (λ (d h : ℕ). record { nd = d; nh = h; nb = z.nb }) s.destinations s.attached ∙ ap (λ (b : ℕ). record { nd = get_or f 2 0; nh = get_or f 3 0; nb = b }) s.bytes

pub map-twice : {A B C : Type 0} (f : B → C) (g : A → B) (xs : List A) → map f (map g xs) ≡ map (λ x. f (g x)) xs
map-twice f g [] = refl
map-twice f g (x ∷ xs) = ap (◌∷◌ (f (g x))) (map-twice f g xs)
