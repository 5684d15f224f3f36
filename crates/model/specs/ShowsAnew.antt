-- An ID that a peer chose is shown at it for another node only where the peer created that node anew: by then the first node was destroyed and the peer's own handle to it gone, and from
-- then on no answer at that peer shows anything of the first node. "At 0 the handle is gone; an owner ID may then be chosen again". Of histories.
-- Assumes nothing.
use Rattle.std.specs.Prelude.{ℕ, ◌%◌, ◌≡◌, refl, ◌⊎◌, List, [], ◌∷◌, ◌++◌}
use Rattle.std.proofs.Common.{ap}
use Rattle.std.proofs.Math.Logic.◌⊎◌.{inl, inr}
use Rattle.laws.specs.Tests.{Same, Same.same, Same.other, same?}
use Rattle.laws.specs.Weights.{All}
use Rattle.frames.specs.Frame.{opcode, id_at}
use Rattle.model.specs.Book.{Node, Noted.noted, Fed, acting_peer}
use Rattle.model.specs.Rows.{book_of}
use Rattle.model.specs.OneNode.{Creates}

-- The first create of p under i, or none.
pub creates? : (p i : ℕ) (x : Fed) → Creates p i x ⊎ (Creates p i x → ⊥)
creates? p i x = go (same? x.number 0) (same? (opcode x.frame) 3) (same? (acting_peer x.frame) p) (same? (id_at x.frame 2).0 i)
  where
    go : Same x.number 0 → Same (opcode x.frame) 3 → Same (acting_peer x.frame) p → Same (id_at x.frame 2).0 i → Creates p i x ⊎ (Creates p i x → ⊥)
    go (same a) (same b) (same c) (same d) = inl (record { number = a; byte = b; peer = c; id = d })
    go (other a) b c d = inr (λ z. a z.number)
    go (same a) (other b) c d = inr (λ z. b z.byte)
    go (same a) (same b) (other c) d = inr (λ z. c z.peer)
    go (same a) (same b) (same c) (other d) = inr (λ z. d z.id)

pub record FirstCreate (p i : ℕ) (ys : List Fed) : Type 0 where
  pub before : List Fed
  pub create : Fed
  pub after : List Fed
  pub place : ys ≡ before ++ (create ∷ after)
  pub creates : Creates p i create

pub first-create : (p i : ℕ) (ys : List Fed) → FirstCreate p i ys ⊎ All (λ y. Creates p i y → ⊥) ys
first-create p i [] = inr tt
first-create p i (y ∷ ys) = go (creates? p i y) (first-create p i ys)
  where
    go : Creates p i y ⊎ (Creates p i y → ⊥) → FirstCreate p i ys ⊎ All (λ y. Creates p i y → ⊥) ys → FirstCreate p i (y ∷ ys) ⊎ All (λ y. Creates p i y → ⊥) (y ∷ ys)
    go (inl c) r = inl (record { before = []; create = y; after = ys; place = refl; creates = c })
    go (inr c) (inl k) = inl (record { before = y ∷ k.before; create = k.create; after = k.after; place = ap (◌∷◌ y) k.place; creates = k.creates })
    go (inr c) (inr a) = inr (c, a)

-- "EINVAL .. create with ID bit 0 or 1 set"; "EEXIST .. create with an ID the peer holds".
abbrev pub Fresh : List Fed → ℕ → ℕ → Type 0
Fresh xs p i = (i % 4 ≡ 0) × ((n : Node) (d : ℕ) → (book_of xs).handle p i ≡ noted n d → ⊥)
