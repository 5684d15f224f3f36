-- The theorems that go with specs/LedgerSeeds.antt and stand on others: each goes by the definitions and the theorems there.
-- Assumes nothing.
use Rattle.std.specs.Prelude.{ℕ, ◌≤◌}
use Rattle.std.proofs.Common.{arith}
use mathlib.Core.List.{List, [], ◌∷◌, ◌++◌}
use Rattle.std.proofs.Math.ListN.{length}
use Rattle.frames.specs.declared.Command.{Command}
use Rattle.frames.specs.Frame.{most_bytes}
use Rattle.model.specs.Step.{Call, run}
use Rattle.model.specs.Claim.{history_from}
use Rattle.model.specs.Accepted.{Accepted}
use Rattle.model.specs.Ledger.{blank_ledger, feed_ledger_all, ledger_after}
use Rattle.model.proofs.LedgerPassed.{ledger-kept}
use Rattle.model.specs.LedgerSeeds.{seeds-kept, seeds-next, seed_payload, small-set}

pub seeds-small : (cs : List Call) (p : ℕ) → length (seed_payload ((ledger_after cs).seed p)) ≤ most_bytes
seeds-small cs = ledger-kept (λ l. (p : ℕ) → length (seed_payload (l.seed p)) ≤ most_bytes) next [] cs (unfold history_from feed_ledger_all blank_ledger in λ p. omega arith)
  where
    next : (cs : List Call) (c : Call) (d : Command) → Accepted (run cs) c d → ((p : ℕ) → length (seed_payload ((ledger_after cs).seed p)) ≤ most_bytes) →
        (p : ℕ) → length (seed_payload ((ledger_after (cs ++ (c ∷ []))).seed p)) ≤ most_bytes
    next cs c d a h p =
        rw (seeds-next cs c d a)
        (seeds-kept (λ x. length (seed_payload x) ≤ most_bytes) (ledger_after cs) c.frame d h (omega arith) (λ q z e. small-set c.frame d a.legal q z e) p)
