-- A message is shown under the ID by which the peer holds, at that moment, the node to which it was sent. Of histories.
-- Assumes nothing.
use Rattle.std.specs.Prelude.{ℕ, ◌≡◌, refl, List, [], ◌∷◌, get_or}
use Rattle.std.proofs.Common.{sym, ap, ◌∙◌, arith}
use Rattle.model.specs.State.{start}
use Rattle.model.specs.Step.{Call, step, run}
use Rattle.model.specs.Claim.{fed, history_from}
use Rattle.model.specs.Ledger.{Item, Item.message, Item.destroyed, Item.released, due_item, ledger_after}
use Rattle.model.specs.Happened.{of-next}
use Rattle.model.specs.Shows.{Takes, ShownAsHeld, MessagesAsHeld}
use Rattle.model.proofs.ShowsNames.{takes-due, first-named}

shown-as-held : (cs : List Call) (c : Call) (p : ℕ) → Takes p 1 (fed c (step (run cs) c)) → ShownAsHeld (history_from start cs) (fed c (step (run cs) c)) p
shown-as-held cs c p t = go ((ledger_after cs).queue p) refl
  where
    kind : (q : List Item) → (ledger_after cs).queue p ≡ q → get_or (due_item (ledger_after cs) p q) 1 0 ≡ 1
    kind q e = ap (λ (a : List ℕ). get_or a 1 0) (sym (takes-due cs c p 1 t ∙ ap (due_item (ledger_after cs) p) e)) ∙ t.says

    go : (q : List Item) → (ledger_after cs).queue p ≡ q → ShownAsHeld (history_from start cs) (fed c (step (run cs) c)) p
    go [] e = absurd (omega (arith, kind [] e))
    go (message k m ∷ rest) e =
        let h = first-named cs c p 1 (message k m) rest t e in
        record { number = k; letter = m; rest = rest; first = e; count = h.count; named = h.named }
    go (destroyed k n ∷ rest) e = absurd (omega (arith, kind (destroyed k n ∷ rest) e))
    go (released k n ∷ rest) e = absurd (omega (arith, kind (released k n ∷ rest) e))

-- (c)
pub messages-as-held : MessagesAsHeld
messages-as-held = of-next (λ us y vs. (p : ℕ) → Takes p 1 y → ShownAsHeld us y p) shown-as-held
