-- "peer never opened", "that peer disconnected", "open of an open peer": how a peer stands, by the frames that came back with 0 and nothing else.
-- Assumes nothing.
use Prim.Native.Nat.{ℕ, ◌-◌}
use Rattle.std.specs.Prelude.{◌≡◌, Bool, List, [], ◌∷◌, eqb}
use Rattle.std.proofs.Math.Path.{refl}
use Rattle.std.proofs.Common.{◌∙◌, eq-eqb, ne_eqb}
use Rattle.laws.specs.Tests.{pick, pick_all, Same, Same.same, Same.other, same?}
use Rattle.laws.specs.Tables.{upd, upd_same, upd_other}
use Rattle.frames.specs.Frame.{opcode}
use Rattle.model.specs.Lists.{both}
use Rattle.model.specs.State.{Status, Status.opened, Status.disconnected, Handle, Handle.none, Handle.some, handle_of, State}
use Rattle.model.specs.Tables.{accept, with_handles, with_handle, with_queues, with_charges}
use Rattle.model.specs.Changes.{take_out, forget}
use Rattle.model.specs.Effects.{releases, releases_handle}
use Rattle.model.specs.Book.{Fed, acting_peer}
use Rattle.model.specs.Quiet.{quiet-notify}

-- The command of this byte came back with 0, its acting peer p.
abbrev pub did : ℕ → ℕ → Fed → Bool
did op p x = both (eqb x.number 0) (both (eqb (opcode x.frame) op) (eqb (acting_peer x.frame) p))

-- The last of its opens and disconnects says how a peer stands.
abbrev pub stands_after : Status → Fed → ℕ → Status
stands_after s x p = pick (did 2 p x) disconnected (pick (did 1 p x) opened s)

abbrev pub standing : Status → List Fed → ℕ → Status
standing s [] p = s
standing s (x ∷ xs) p = standing (stands_after s x p) xs p

pub stood-at : (f : ℕ → Status) (q p : ℕ) (x : Status) → upd f q x p ≡ pick (eqb q p) x (f p)
stood-at f q p x = go (same? q p)
  where
    go : Same q p → upd f q x p ≡ pick (eqb q p) x (f p)
    go (same e) = rw (e, upd_same, eq-eqb p p refl) refl
    go (other e) = rw (upd_other f q p x e, ne_eqb q p e) refl

pub release-status : (b : State) (p s : ℕ) (h : Handle) → (releases_handle (accept b) p s h).status ≡ b.status
unfolding releases accept
release-status b p s none = refl
release-status b p s (some i c) =
    let less = with_handle (accept b) p s (handle_of i (c - 1)) in
    (quiet-notify (accept b) (pick (eqb c 1) (forget less p s) less) s).status
    ∙ pick_all (λ (y : State). y.status ≡ b.status) (eqb c 1) (forget less p s) less (unfold forget take_out with_charges with_queues with_handles in refl) (unfold with_handles in refl)
