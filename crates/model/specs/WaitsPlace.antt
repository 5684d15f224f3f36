-- Document 01, "Rules of order and quota": "Counting accepted receives of its peer only, and k entries being ahead of it, an entry comes out at or before receive k + 1,
-- or has been dropped or withdrawn." Of histories alone, each item followed from place to place, so that of two items that are the same to the byte each has its own end.
-- Assumes nothing.
use Rattle.std.specs.Prelude.{ℕ, ◌≤◌, ◌<◌, ◌≡◌, refl, ◌⊎◌, length, get_or, drop}
use Rattle.std.proofs.Math.Path.{sym, ap}
use Rattle.std.proofs.Common.{ap₂, arith}
use Rattle.std.proofs.Math.Logic.◌⊎◌.{inl, inr}
use mathlib.Core.List.{List, [], ◌∷◌, ◌++◌}
use Rattle.laws.specs.Weights.{All}
use Rattle.model.specs.Book.{Fed}
use Rattle.model.specs.Queues.{Later, Later.behind, Later.stays, Later.leaves}
use Rattle.model.specs.InPlace.{Never, CameOut}
use Rattle.model.specs.Ledger.{Item}
use Rattle.model.specs.Rows.{ledger_of}
use Rattle.model.specs.Happened.{Happened}
use Rattle.model.specs.Waits.{receives_in, taken_in, LapsedIn, LostIn}

-- Dropped or withdrawn by one of the exchanges ys, from its place. What the receives before that took out, and what stood ahead of it then,
-- are those of the items that were ahead of it and are not lost, in their order, and nothing else: it had not come out.
pub record LostAt (xs ys : List Fed) (p : ℕ) (ahead : List Item) (e : Item) : Type 0 where
  pub before : List Fed
  pub exchange : Fed
  pub after : List Fed
  pub place : ys ≡ before ++ (exchange ∷ after)
  pub ahead-then : List Item
  pub behind-then : List Item
  pub waits : (ledger_of (xs ++ before)).queue p ≡ ahead-then ++ (e ∷ behind-then)
  pub ahead-only : Later (LostIn xs before p) Never ahead (taken_in xs before p ++ ahead-then)
  pub lapses : LapsedIn (ledger_of (xs ++ before)) (ledger_of ((xs ++ before) ++ (exchange ∷ []))) p e

-- It waits after them.
pub record StillAt (xs ys : List Fed) (p : ℕ) (ahead : List Item) (e : Item) : Type 0 where
  pub ahead-then : List Item
  pub behind-then : List Item
  pub waits : (ledger_of (xs ++ ys)).queue p ≡ ahead-then ++ (e ∷ behind-then)
  pub ahead-only : Later (LostIn xs ys p) Never ahead (taken_in xs ys p ++ ahead-then)

pub data Fate (xs ys : List Fed) (p : ℕ) (ahead : List Item) (e : Item) : Type 0 where
  lost : LostAt xs ys p ahead e → Fate xs ys p ahead e
  came-out : CameOut (LostIn xs ys p) ahead e (taken_in xs ys p) → Fate xs ys p ahead e
  waits : StillAt xs ys p ahead e → Fate xs ys p ahead e

-- Whatever the exchanges are.
abbrev pub FateIn : Type 0
FateIn =
    (xs ys : List Fed) → Happened (xs ++ ys) → (p : ℕ) (ahead behind-it : List Item) (e : Item) → (ledger_of xs).queue p ≡ ahead ++ (e ∷ behind-it) → Fate xs ys p ahead e

-- More accepted receives of its peer than items ahead of it.
abbrev pub InTimeAt : Type 0
InTimeAt =
    (xs ys : List Fed) → Happened (xs ++ ys) → (p : ℕ) (ahead behind-it : List Item) (e : Item) → (ledger_of xs).queue p ≡ ahead ++ (e ∷ behind-it) →
    length ahead < receives_in p ys → LostAt xs ys p ahead e ⊎ CameOut (LostIn xs ys p) ahead e (taken_in xs ys p)

-- An element of two lists, one behind the other: in the first, or in the second.
pub split_at : {A : Type 0} (e : A) (xs ys t₁ t₂ : List A) → xs ++ ys ≡ t₁ ++ (e ∷ t₂) →
    ((r : List A) × (xs ≡ t₁ ++ (e ∷ r))) ⊎ ((t : List A) × (t₁ ≡ xs ++ t) × (ys ≡ t ++ (e ∷ t₂)))
split_at e [] ys t₁ t₂ h = inr (t₁, refl, h)
split_at {A = A} e (x ∷ xs) ys [] t₂ h = inl (xs, ap (λ (y : A). y ∷ xs) (ap (λ (z : List A). get_or z 0 x) h))
split_at {A = A} e (x ∷ xs) ys (y ∷ t₁) t₂ h = go (split_at e xs ys t₁ t₂ (ap (drop 1) h))
  where
    first : x ≡ y
    first = ap (λ (z : List A). get_or z 0 x) h

    go : ((r : List A) × (xs ≡ t₁ ++ (e ∷ r))) ⊎ ((t : List A) × (t₁ ≡ xs ++ t) × (ys ≡ t ++ (e ∷ t₂))) →
        ((r : List A) × (x ∷ xs ≡ (y ∷ t₁) ++ (e ∷ r))) ⊎ ((t : List A) × (y ∷ t₁ ≡ (x ∷ xs) ++ t) × (ys ≡ t ++ (e ∷ t₂)))
    go (inl r) = inl (r.0, ap₂ ◌∷◌ first r.1)
    go (inr t) = inr (t.0, ap₂ ◌∷◌ (sym first) t.1, t.2)

-- What is not gone is no more than there was.
none-new : (r : List Item) → All Never r → length r ≤ 0
none-new [] a = omega arith
none-new (d ∷ r) a = absurd a.0

pub later-length : {gone : Item → Type 0} {q r : List Item} → Later gone Never q r → length r ≤ length q
later-length (behind {r} a) = none-new r a
later-length (stays l) = omega (arith, later-length l)
later-length (leaves g l) = omega (arith, later-length l)
