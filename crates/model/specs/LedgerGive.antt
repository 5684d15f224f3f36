-- Handles given and entries taken out, by transfer and receive, alike on the bus and in the ledger; and the IDs that they show.
-- Assumes nothing.
use Rattle.std.specs.Prelude.{ℕ, ◌≡◌, not, eqb, ltb}
use Rattle.std.proofs.Math.Path.{refl}
use Rattle.std.proofs.Common.{ap, ap₂}
use mathlib.Core.List.{List, [], ◌∷◌, map}
use Rattle.laws.specs.Weights.{keep-map}
use Rattle.model.specs.Lists.{both, either, any}
use Rattle.model.specs.State.{Handle, held, Entry, Entry.message, Entry.destroyed, Entry.released, earlier, concerned}
use Rattle.model.specs.Changes.{not_released, stays, settle}
use Rattle.model.specs.Book.{Node}
use Rattle.model.specs.Sim.{called}
use Rattle.model.specs.SimRelease.{eqb_apart}
use Rattle.model.specs.Ledger.{no_release, brings, is_told, lasts, cleared}
use Rattle.model.specs.LedgerSim.{item_of}

-- The release notices of a node.
pub released-named : (name : ℕ → ℕ) → ((s t : ℕ) → name s ≡ name t → s ≡ t) → (s : ℕ) (e : Entry) → no_release (called name s) (item_of name e) ≡ not_released (eqb s) e
released-named name apart s (message k m) = refl
released-named name apart s (destroyed k t) = refl
released-named name apart s (released k t) = ap not (eqb_apart name apart s t)

-- The earlier messages that carry a node, the peers that are told, and the notices that stay.
carried-named : (name : ℕ → ℕ) → ((s t : ℕ) → name s ≡ name t → s ≡ t) → (s : ℕ) (ss : List ℕ) → any (λ (x : Node). eqb (name s) x.number) (map (called name) ss) ≡ any (eqb s) ss
carried-named name apart s [] = refl
carried-named name apart s (t ∷ ss) = ap₂ either (eqb_apart name apart s t) (carried-named name apart s ss)

pub brings-named : (name : ℕ → ℕ) → ((s t : ℕ) → name s ≡ name t → s ≡ t) → (k s : ℕ) (es : List Entry) → any (brings k (name s)) (map (item_of name) es) ≡ any (earlier k s) es
brings-named name apart k s [] = refl
brings-named name apart k s (message j m ∷ es) = ap₂ either (ap (both (ltb j k)) (carried-named name apart s m.carried)) (brings-named name apart k s es)
brings-named name apart k s (destroyed j t ∷ es) = brings-named name apart k s es
brings-named name apart k s (released j t ∷ es) = brings-named name apart k s es

pub told_named : (name : ℕ → ℕ) → ((s t : ℕ) → name s ≡ name t → s ≡ t) → (h g : ℕ → Handle) → ((s : ℕ) → h (name s) ≡ g s) → (k s : ℕ) (es : List Entry) →
    is_told h (map (item_of name) es) k (name s) ≡ concerned g es k s
told_named name apart h g e k s es = ap₂ either (ap held (e s)) (brings-named name apart k s es)

pub cleared-named : (name : ℕ → ℕ) → ((s t : ℕ) → name s ≡ name t → s ≡ t) → (h g : ℕ → Handle) → ((s : ℕ) → h (name s) ≡ g s) → (es : List Entry) →
    cleared h (map (item_of name) es) ≡ map (item_of name) (settle g es)
unfolding cleared settle
cleared-named name apart h g e es = keep-map (item_of name) (lasts h (map (item_of name) es)) (stays g es) es go
  where
    go : (x : Entry) → lasts h (map (item_of name) es) (item_of name x) ≡ stays g es x
    go (message k m) = refl
    go (destroyed k s) = told_named name apart h g e k s es
    go (released k s) = refl
