-- Document 01, "Rules of order and quota": "Counting accepted receives of its peer only, and k entries being ahead of it, an entry comes out at or before receive k + 1,
-- or has been dropped or withdrawn." Of the entry at its place, also where another one in the queue is the same to the byte: two messages of one send to one node are.
-- Assumes nothing.
use Rattle.std.specs.Prelude.{◌≤◌, ◌<◌, ◌≡◌, refl, ◌⊎◌, List, [], ◌∷◌, ◌++◌, length, get_or, drop}
use Rattle.std.proofs.Common.{ap, ap₂, arith}
use Rattle.std.proofs.Math.Logic.◌⊎◌.{inl, inr}
use Rattle.model.specs.Queues.{Later, Later.behind, Later.stays, Later.leaves}

-- No entry.
abbrev pub Never : {A : Type 0} → A → Type 0
Never e = ⊥

-- The entry e came out among those taken; before it came those of the entries ahead of it that are not lost, in their order, and nothing else.
pub record CameOut {A : Type 0} (gone : A → Type 0) (ahead : List A) (e : A) (taken : List A) : Type 0 where
  pub before : List A
  pub after : List A
  pub split : taken ≡ before ++ (e ∷ after)
  pub ahead-only : Later gone Never ahead before
  pub in-time : length before ≤ length ahead

module _ {A : Type 0} {gone new : A → Type 0} (e : A) (q₂ : List A) where
  pub find : (q₁ r : List A) → Later gone new (q₁ ++ (e ∷ q₂)) r → gone e ⊎ CameOut gone q₁ e r
  find [] _ (stays {r = r} l) = inr (record { before = []; after = r; split = refl; ahead-only = behind tt; in-time = omega arith })
  find [] _ (leaves g l) = inl g
  find (x ∷ q₁) _ (stays {r = r} l) = go (find q₁ r l)
    where
      go : gone e ⊎ CameOut gone q₁ e r → gone e ⊎ CameOut gone (x ∷ q₁) e (x ∷ r)
      go (inl g) = inl g
      go (inr c) = inr (record { before = x ∷ c.before; after = c.after; split = ap (◌∷◌ x) c.split; ahead-only = stays c.ahead-only; in-time = omega (arith, c.in-time) })
  find (x ∷ q₁) r (leaves g l) = go (find q₁ r l)
    where
      go : gone e ⊎ CameOut gone q₁ e r → gone e ⊎ CameOut gone (x ∷ q₁) e r
      go (inl h) = inl h
      go (inr c) = inr (record { before = c.before; after = c.after; split = c.split; ahead-only = leaves g c.ahead-only; in-time = omega (arith, c.in-time) })

-- What stands so near the front of two lists stands in the first.
cut : {A : Type 0} (e : A) (t₂ ys xs t₁ : List A) → xs ++ ys ≡ t₁ ++ (e ∷ t₂) → length t₁ < length xs → (t : List A) × (xs ≡ t₁ ++ (e ∷ t))
cut e t₂ ys [] t₁ h l = absurd (omega arith)
cut {A = A} e t₂ ys (x ∷ xs) [] h l = (xs, ap (λ (y : A). y ∷ xs) (ap (λ (z : List A). get_or z 0 x) h))
cut {A = A} e t₂ ys (x ∷ xs) (y ∷ t₁) h l =
    let z = cut e t₂ ys xs t₁ (ap (drop 1) h) (omega arith) in
    (z.0, ap₂ ◌∷◌ (ap (λ (w : List A). get_or w 0 x) h) z.1)

-- An entry followed to what was taken out, where more was taken out than stood ahead of it.
pub placed : {A : Type 0} {gone new : A → Type 0} (e : A) (behind-it ahead taken rest : List A) → Later gone new (ahead ++ (e ∷ behind-it)) (taken ++ rest) →
    length ahead < length taken → gone e ⊎ CameOut gone ahead e taken
placed {A = A} {gone = gone} e behind-it ahead taken rest l enough = go (find e behind-it ahead _ l)
  where
    go : gone e ⊎ CameOut gone ahead e (taken ++ rest) → gone e ⊎ CameOut gone ahead e taken
    go (inl g) = inl g
    go (inr c) =
        let z = cut e c.after rest taken c.before c.split (omega (arith, c.in-time)) in
        inr (record { before = c.before; after = z.0; split = z.1; ahead-only = c.ahead-only; in-time = c.in-time })
