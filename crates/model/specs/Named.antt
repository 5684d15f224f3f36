-- What the IDs of a received message come to stand for: "Each attached ID shown, save the invalid one, names the node at its place".
-- Assumes nothing.
use Rattle.std.specs.Prelude.{ℕ, suc, ◌≡◌, refl, true, ◌⊎◌}
use Rattle.std.proofs.Math.Logic.◌⊎◌.{inl, inr}
use mathlib.Core.List.{List, [], ◌∷◌, map}
use Rattle.laws.specs.Tests.{Seen, Seen.is_true, Seen.is_false, look, Same, Same.same, Same.other, same?}
use Rattle.laws.specs.Tables.{upd_same, upd_other}
use Rattle.model.specs.Numbers.{invalid}
use Rattle.model.specs.State.{Handle, Handle.some, count, State}
use Rattle.model.specs.Tables.{with_given, with_handles, with_queues}
use Rattle.model.specs.Changes.{withdraw, valid, shown, shown_all, give, give_all}
use Rattle.model.specs.Book.{Node, Noted.noted, Book}
use Rattle.model.specs.Sim.{called, Handles}

-- The IDs shown to p, each the invalid one or, in the book k, an ID of p for the node at its place.
abbrev pub ShownFor : Book → ℕ → List ℕ → List Node → Type 0
ShownFor k p [] [] = Unit {0}
ShownFor k p [] (n ∷ ns) = ⊥
ShownFor k p (i ∷ is) [] = ⊥
ShownFor k p (i ∷ is) (n ∷ ns) = ((i ≡ invalid) ⊎ ((c : ℕ) × (k.handle p i ≡ noted n c))) × ShownFor k p is ns

-- The handles after each was given: the ID shown is the handle's.
abbrev pub GivenFor : (ℕ → Handle) → List ℕ → List ℕ → Type 0
GivenFor h [] [] = Unit {0}
GivenFor h [] (s ∷ ss) = ⊥
GivenFor h (i ∷ is) [] = ⊥
GivenFor h (i ∷ is) (s ∷ ss) = ((i ≡ invalid) ⊎ ((c : ℕ) × (h s ≡ some i c))) × GivenFor h is ss

keeps-id : (b : State) (p k t s i c : ℕ) → b.handle p s ≡ some i c → (d : ℕ) × ((give b p k t).handle p s ≡ some i d)
unfolding give shown withdraw with_given with_handles with_queues
keeps-id b p k t s i c e = go (look (valid b p k t)) (same? t s)
  where
    go : Seen (valid b p k t) → Same t s → (d : ℕ) × ((give b p k t).handle p s ≡ some i d)
    go (is_false z) w = (c, rw z e)
    go (is_true z) (same w) = let y : valid b p k s ≡ true = rw (← w) z in (suc c, rw (w, y, upd_same, upd_same, e) refl)
    go (is_true z) (other w) = (c, rw (z, upd_same, upd_other (b.handle p) t s _ w) e)

keeps-all : (b : State) (p k : ℕ) (ts : List ℕ) (s i c : ℕ) → b.handle p s ≡ some i c → (d : ℕ) × ((give_all b p k ts).handle p s ≡ some i d)
keeps-all b p k [] s i c e = (c, e)
keeps-all b p k (t ∷ ts) s i c e = let x = keeps-id b p k t s i c e in keeps-all (give b p k t) p k ts s i x.0 x.1

given-one : (b : State) (p k s : ℕ) → (shown b p k s ≡ invalid) ⊎ ((c : ℕ) × ((give b p k s).handle p s ≡ some (shown b p k s) c))
unfolding give shown withdraw with_given with_handles with_queues
given-one b p k s = go (look (valid b p k s))
  where
    go : Seen (valid b p k s) → (shown b p k s ≡ invalid) ⊎ ((c : ℕ) × ((give b p k s).handle p s ≡ some (shown b p k s) c))
    go (is_false z) = inl (rw z refl)
    go (is_true z) = inr (suc (count (b.handle p s)), rw (z, upd_same, upd_same) refl)

pub given-for : (b : State) (p k : ℕ) (ss : List ℕ) → GivenFor ((give_all b p k ss).handle p) (shown_all b p k ss) ss
given-for b p k [] = tt
given-for b p k (s ∷ ss) = (go (given-one b p k s), given-for (give b p k s) p k ss)
  where
    go : (shown b p k s ≡ invalid) ⊎ ((c : ℕ) × ((give b p k s).handle p s ≡ some (shown b p k s) c)) →
        (shown b p k s ≡ invalid) ⊎ ((c : ℕ) × ((give_all (give b p k s) p k ss).handle p s ≡ some (shown b p k s) c))
    go (inl z) = inl z
    go (inr z) = inr (keeps-all (give b p k s) p k ss s (shown b p k s) z.0 z.1)

pub shown-for : (name : ℕ → ℕ) (h : ℕ → Handle) (k : Book) (p : ℕ) → Handles name h (k.handle p) → (is ss : List ℕ) → GivenFor h is ss → ShownFor k p is (map (called name) ss)
shown-for name h k p r [] [] g = tt
shown-for name h k p r [] (s ∷ ss) g = g
shown-for name h k p r (i ∷ is) [] g = g
shown-for name h k p r (i ∷ is) (s ∷ ss) g = (go g.0, shown-for name h k p r is ss g.1)
  where
    go : (i ≡ invalid) ⊎ ((c : ℕ) × (h s ≡ some i c)) → (i ≡ invalid) ⊎ ((c : ℕ) × (k.handle p i ≡ noted (called name s) c))
    go (inl z) = inl z
    go (inr z) = inr (z.0, r.noted-at s i z.0 z.1)
