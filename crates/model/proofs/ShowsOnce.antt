-- The theorems that go with specs/ShowsOnce.antt and stand on others: each goes by the definitions and the theorems there.
-- Assumes nothing.
use Rattle.std.specs.Prelude.{ℕ, ◌≡◌, ◌⊎◌, List, [], ◌∷◌, ◌++◌}
use Rattle.std.proofs.Common.{sym, ◌∙◌, append_assoc}
use Rattle.std.proofs.Math.Logic.◌⊎◌.{inl, inr}
use Rattle.laws.specs.Weights.{All, all_append}
use Rattle.model.specs.Book.{Node, Fed}
use Rattle.model.specs.OneNode.{Creates}
use Rattle.model.proofs.OneNode.{one-node, given-one-node}
use Rattle.model.specs.Happened.{Happened, happened-front, of_cut}
use Rattle.model.specs.Shows.{Shows, GivenForOne}
use Rattle.model.specs.ShowsNames.{NamedIn}
use Rattle.model.proofs.ShowsNames.{shows-names}
use Rattle.model.specs.ShowsOnce.{no-create}

-- From one moment of a history to a later one.
module _ (P : Fed → Type 0) (p i : ℕ) (n m : Node)
    (stays : (xs ys : List Fed) → Happened (xs ++ ys) → All P ys → NamedIn xs p i n → NamedIn (xs ++ ys) p i m → n ≡ m) where
  two-moments : (xs ys zs : List Fed) (x z : Fed) → Happened ((xs ++ (x ∷ ys)) ++ (z ∷ zs)) → P x → All P ys → P z →
      NamedIn xs p i n ⊎ NamedIn (xs ++ (x ∷ [])) p i n → NamedIn (xs ++ (x ∷ ys)) p i m ⊎ NamedIn ((xs ++ (x ∷ ys)) ++ (z ∷ [])) p i m → n ≡ m
  two-moments xs ys zs x z h px pys pz = go
    where
      middle : Happened (xs ++ (x ∷ ys))
      middle = happened-front (xs ++ (x ∷ ys)) (z ∷ zs) h

      shift : ((xs ++ (x ∷ ys)) ++ (z ∷ [])) ++ zs ≡ (xs ++ (x ∷ ys)) ++ (z ∷ zs)
      shift = append_assoc (xs ++ (x ∷ ys)) (z ∷ []) zs

      last : Happened ((xs ++ (x ∷ ys)) ++ (z ∷ []))
      last = happened-front ((xs ++ (x ∷ ys)) ++ (z ∷ [])) zs (rw shift h)

      from-x : (xs ++ (x ∷ [])) ++ ys ≡ xs ++ (x ∷ ys)
      from-x = append_assoc xs (x ∷ []) ys

      to-z : xs ++ ((x ∷ ys) ++ (z ∷ [])) ≡ (xs ++ (x ∷ ys)) ++ (z ∷ [])
      to-z = sym (append_assoc xs (x ∷ ys) (z ∷ []))

      both-on : (xs ++ (x ∷ [])) ++ (ys ++ (z ∷ [])) ≡ (xs ++ (x ∷ ys)) ++ (z ∷ [])
      both-on = append_assoc xs (x ∷ []) (ys ++ (z ∷ [])) ∙ to-z

      go : NamedIn xs p i n ⊎ NamedIn (xs ++ (x ∷ [])) p i n → NamedIn (xs ++ (x ∷ ys)) p i m ⊎ NamedIn ((xs ++ (x ∷ ys)) ++ (z ∷ [])) p i m → n ≡ m
      go (inl a) (inl b) = stays xs (x ∷ ys) middle (px, pys) a b
      go (inl a) (inr b) = stays xs ((x ∷ ys) ++ (z ∷ [])) (rw to-z last) (px, all_append P ys (z ∷ []) pys (pz, tt)) a (rw to-z b)
      go (inr a) (inl b) = stays (xs ++ (x ∷ [])) ys (rw from-x middle) pys a (rw from-x b)
      go (inr a) (inr b) = stays (xs ++ (x ∷ [])) (ys ++ (z ∷ [])) (rw both-on last) (all_append P ys (z ∷ []) pys (pz, tt)) a (rw both-on b)

  shown-twice : (xs ys zs : List Fed) (x z : Fed) → Happened ((xs ++ (x ∷ ys)) ++ (z ∷ zs)) → P x → All P ys → P z → Shows xs x p i n → Shows (xs ++ (x ∷ ys)) z p i m → n ≡ m
  shown-twice xs ys zs x z h px pys pz s t =
      let k = happened-front (xs ++ (x ∷ ys)) (z ∷ zs) h in
      two-moments xs ys zs x z h px pys pz (shows-names xs ys x k p i n s) (shows-names (xs ++ (x ∷ ys)) zs z h p i m t)

-- Where the peer created no node under the ID in between.
pub uncreated-for-one : (xs ys zs : List Fed) (x z : Fed) → Happened ((xs ++ (x ∷ ys)) ++ (z ∷ zs)) → (p i : ℕ) (n m : Node) → All (λ y. Creates p i y → ⊥) ys →
    Shows xs x p i n → Shows (xs ++ (x ∷ ys)) z p i m → n ≡ m
uncreated-for-one xs ys zs x z h p i n m uncreated s t =
    shown-twice (λ y. Creates p i y → ⊥) p i n m stays xs ys zs x z h (no-create xs x p i i p n s) uncreated (no-create (xs ++ (x ∷ ys)) z p i i p m t) s t
  where
    stays : (us vs : List Fed) → Happened (us ++ vs) → All (λ y. Creates p i y → ⊥) vs → NamedIn us p i n → NamedIn (us ++ vs) p i m → n ≡ m
    stays =
        of_cut (λ us vs ws. All (λ y. Creates p i y → ⊥) vs → NamedIn us p i n → NamedIn ws p i m → n ≡ m)
        (λ cs ds none a b. one-node cs ds p i n m a.0 b.0 a.1 b.1 none)

-- (a)
pub given-for-one : GivenForOne
given-for-one xs ys zs x z h p i n m g s t = shown-twice (λ y. Unit {0}) p i n m stays xs ys zs x z h tt (trivial ys) tt s t
  where
    trivial : (ys : List Fed) → All (λ y. Unit {0}) ys
    trivial [] = tt
    trivial (y ∷ ys) = (tt, trivial ys)

    stays : (us vs : List Fed) → Happened (us ++ vs) → All (λ y. Unit {0}) vs → NamedIn us p i n → NamedIn (us ++ vs) p i m → n ≡ m
    stays =
        of_cut (λ us vs ws. All (λ y. Unit {0}) vs → NamedIn us p i n → NamedIn ws p i m → n ≡ m)
        (λ cs ds all a b. given-one-node cs ds p i n m a.0 b.0 g a.1 b.1)
