-- The theorems that go with specs/LedgerPassed.antt and stand on others: each goes by the definitions and the theorems there.
-- Assumes nothing.
use Rattle.std.specs.Prelude.{List, [], ◌∷◌, ◌++◌, length}
use Rattle.std.proofs.Common.{◌∙◌, append_assoc, append-nil, arith}
use Rattle.frames.specs.declared.Command.{Command}
use Rattle.model.specs.Step.{Call, step, run}
use Rattle.model.specs.Claim.{fed}
use Rattle.model.specs.Accepted.{Accepted, Came, Came.left, Came.done}
use Rattle.model.proofs.Accepted.{came}
use Rattle.model.proofs.Tested.{tested}
use Rattle.model.proofs.IdsProof.{holding}
use Rattle.model.specs.Sim.{Sim}
use Rattle.model.specs.History.{ledger-next, ledger-book, ledger-left}
use Rattle.model.proofs.Sources.{story}
use Rattle.model.specs.Ledger.{Ledger, ledger_after}
use Rattle.model.specs.LedgerPassed.{Passed, passed-bus}

pub passed : (cs : List Call) (c : Call) (d : Command) → Accepted (run cs) c d → Passed (ledger_after cs) c.frame d
passed cs c d a =
    let b = run cs in
    let w = story (length cs) cs (omega arith) in
    let s : Sim (length cs) w.name b (ledger_after cs).book = rw (ledger-book cs) w.sim in
    passed-bus w.name b (ledger_after cs) s w.follows (holding cs) c.frame d (tested b c.frame d a.unrefused)

-- What every accepted call keeps of the ledger, every list of calls keeps.
pub ledger-kept : (P : Ledger → Type 0) →
    ((cs : List Call) (c : Call) (d : Command) → Accepted (run cs) c d → P (ledger_after cs) → P (ledger_after (cs ++ (c ∷ [])))) →
    (cs ds : List Call) → P (ledger_after cs) → P (ledger_after (cs ++ ds))
ledger-kept P keep cs [] h = rw (append-nil cs) h
ledger-kept P keep cs (c ∷ ds) h = rw (append_assoc cs (c ∷ []) ds) at (ledger-kept P keep (cs ++ (c ∷ [])) ds (go (came (run cs) c)))
  where
    go : Came (run cs) c → P (ledger_after (cs ++ (c ∷ [])))
    go (left e n) = rw (ledger-next cs c ∙ ledger-left (ledger_after cs) (fed c (step (run cs) c)) n) h
    go (done d a) = keep cs c d a h
