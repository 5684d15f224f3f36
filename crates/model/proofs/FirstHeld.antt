-- The theorems that go with specs/FirstHeld.antt and stand on others: each goes by the definitions and the theorems there.
-- Assumes nothing.
use Rattle.std.specs.Prelude.{ℕ, ◌≤◌, ◌≡◌, refl, Bool, true, false, List, ◌∷◌}
use Rattle.std.proofs.Common.{sym}
use Rattle.laws.specs.Tests.{clash}
use Rattle.laws.specs.Weights.{All}
use Rattle.model.specs.Lists.{either, any}
use Rattle.model.specs.State.{held, Entry, Entry.destroyed, earlier}
use Rattle.model.specs.Changes.{stays}
use Rattle.model.specs.Step.{Call, run}
use Rattle.model.specs.Queues.{stamp}
use Rattle.model.proofs.OrderProof.{order}
use Rattle.model.proofs.NoticesProof.{founded}
use Rattle.model.specs.FirstHeld.{none-earlier}

pub notice-held : (cs : List Call) (p n s : ℕ) (q : List Entry) → (run cs).queue p ≡ destroyed n s ∷ q → held ((run cs).handle p s) ≡ true
notice-held cs p n s q e =
    let f : stays ((run cs).handle p) (destroyed n s ∷ q) (destroyed n s) ≡ true = (rw e at (founded cs p)).0 in
    let o : All (λ d. n ≤ stamp d) q = (rw e at (order cs p)).in_order.0 in
    left (held ((run cs).handle p s)) (any (earlier n s) q) (none-earlier n s q o) f
  where
    left : (a b : Bool) → b ≡ false → either a b ≡ true → a ≡ true
    left true b z y = refl
    left false b z y = clash (sym (rw z at y))
