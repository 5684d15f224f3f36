-- What is shown is what was sent: the proof.
-- Assumes nothing.
use Prim.Native.Nat.{ℕ}
use Rattle.std.specs.Prelude.{◌≡◌, ◌⊎◌, List, [], ◌∷◌, ◌++◌}
use Rattle.std.proofs.Math.Path.{sym, ap}
use Rattle.std.proofs.Common.{◌∙◌}
use Rattle.std.proofs.Math.Logic.◌⊎◌.{inl, inr}
use Rattle.laws.specs.Bytes.{be}
use Rattle.answers.specs.Answer.{id_bytes}
use Rattle.model.specs.Numbers.{invalid}
use Rattle.model.specs.Book.{Node, Noted.noted, Book}
use Rattle.model.specs.Named.{ShownFor}
use Rattle.model.specs.Shows.{AtOnePlace}

-- Where the parts of a message stand in its bytes; a seed's have another kind.
module _ (kind to user flag nb nh : ℕ) (ids payload : List ℕ) where
  abbrev pub bytes : List ℕ
  bytes = 0 ∷ kind ∷ be 8 to ++ (user ∷ flag ∷ be 2 nb ++ (nh ∷ id_bytes ids ++ payload))

-- One of the IDs that come to stand for their nodes.
pub named-at : (k : Book) (p i : ℕ) (n : Node) (is : List ℕ) (ns : List Node) → ShownFor k p is ns → AtOnePlace i n is ns → (i ≡ invalid → ⊥) → (c : ℕ) × (k.handle p i ≡ noted n c)
named-at k p i n [] ns s a v = absurd a
named-at k p i n (j ∷ is) [] s a v = absurd a
named-at k p i n (j ∷ is) (m ∷ ns) s (inr a) v = named-at k p i n is ns s.1 a v
named-at k p i n (j ∷ is) (m ∷ ns) s (inl a) v = go s.0
  where
    go : (j ≡ invalid) ⊎ ((c : ℕ) × (k.handle p j ≡ noted m c)) → (c : ℕ) × (k.handle p i ≡ noted n c)
    go (inl z) = absurd (v (sym a.0 ∙ z))
    go (inr z) = (z.0, ap (λ (r : ℕ). k.handle p r) (sym a.0) ∙ z.1 ∙ ap (λ (w : Node). noted w z.0) a.1)
