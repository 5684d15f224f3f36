-- Runs of calls of the functions with a journal, `eikelzwier_fresh`, `eikelzwier_command_with_journal` and `eikelzwier_recover`, that `export_c`, `export_journal_c` and `export_recovery_c` export for C and
-- Rust to link: of each call nothing is known but what the function's own contract ensures. Such a run is a run of calls of the journal's functions, so every theorem over those (crates/recovery/proofs/Calls.antt) holds of it.
-- Assumes nothing.
use Prim.Native.Nat.{ℕ, ◌≤◌}
use mathlib.Core.Path.{◌≡◌, refl, sym, ap, ◌∙◌}
use mathlib.Core.Bool.{true}
use mathlib.Core.List.{List, [], ◌∷◌, ◌++◌}
use native.Mathlib.Omega.{arith}
use lib.ListN.{length, take}
use contract.Lifetimes
use borrow.Fn.World
use borrow.Fn.Kinds as Kinds'
use denote.Triple.Clauses
use Rattle.view.specs.View.{Bus}
use Rattle.bus_model.specs.Command.{sized_ok, fresh_bus}
use Rattle.bus_model.specs.Ran.{Exchange}
use Rattle.bus.proofs.Calls.{old_in, made_out}
use Rattle.journal_model.specs.declared.JournalOutcome.{JournalOutcome}
use Rattle.journal_model.specs.declared.Recovered.{Recovered}
use Rattle.journal_model.specs.declared.Recovered.TheVariants as found
use Rattle.journal_model.specs.Journal.{lines_in, Recovery, recovery_from, recovered, number_in, line_in, used_in, Told, told_from, told_of}
use Rattle.journal_model.specs.Runs.{replay_history}
use Rattle.recovery.proofs.Calls.{bus_in, bus_out, journal_in, journal_out, used_in as used_lent, exchanged as core-exchanged, old_bus, found_bus, kept_in, Calls}
use Rattle.recovery.proofs.Calls.Calls.{made as core-made, resumed as core-resumed, call as core-call}
use Rattle.export.proofs.Exported.{FreshArguments, FreshReturned, FreshLeft}
use Rattle.export.proofs.eikelzwier_fresh.Reads as fresh-reads
use Rattle.export_journal.specs.contracts.eikelzwier_command_with_journal as command
use Rattle.export_journal.proofs.eikelzwier_command_with_journal.Kinds as command-kinds
use Rattle.export_journal.proofs.eikelzwier_command_with_journal.Reads as command-reads
use Rattle.export_recovery.specs.contracts.eikelzwier_recover as recover
use Rattle.export_recovery.proofs.eikelzwier_recover.Kinds as recover-kinds
use Rattle.export_recovery.proofs.eikelzwier_recover.Reads as recover-reads

-- A call of `eikelzwier_command_with_journal`: its arguments, its result, and the buffers when it returns.
module _ (κs : Lifetimes.Lfts 13) where
  abbrev pub Arguments : Type 0
  Arguments = World.ArgsD command.signature κs

  abbrev pub Returned : Type 0
  Returned = World.ResD command.signature κs

  abbrev pub Left : Type 0
  Left = Clauses.AtExit (Kinds'.ended_of 13 command-kinds.ps command-kinds.r) κs

  -- The result as the journal's: the same number, length and used length.
  abbrev pub outcome_in : Returned → JournalOutcome
  outcome_in r = record { number = r.number; len = r.len; used = r.used }

  abbrev pub exchanged : Arguments → Returned → Left → Exchange
  exchanged a r s = core-exchanged κs a (outcome_in r) s

  pub free : (a : Arguments) → command-reads.Asked κs a
  free a = tt

-- A call of `eikelzwier_recover`, over bus buffers and bytes of any contents.
module _ (κs : Lifetimes.Lfts 11) where
  abbrev pub RecoverArguments : Type 0
  RecoverArguments = World.ArgsD recover.signature κs

  abbrev pub RecoverReturned : Type 0
  RecoverReturned = World.ResD recover.signature κs

  abbrev pub RecoverLeft : Type 0
  RecoverLeft = Clauses.AtExit (Kinds'.ended_of 11 recover-kinds.ps recover-kinds.r) κs

  pub found-free : (a : RecoverArguments) → recover-reads.Asked κs a
  found-free a = tt

  -- What the contract of `eikelzwier_recover` says of it: the number, the line, the place and the used length of the recovery, and its bus.
  pub told-said : (a : RecoverArguments) (r : RecoverReturned) (s : RecoverLeft) → recover-reads.Learnt κs a r s →
      told_from r.number r.line r.place r.used (found_bus κs s) ≡ told_of (recovered (old_bus κs a) (kept_in κs a))
  told-said a r s l = l

-- A run: a fresh bus and any journal, nothing of it used; or a recovery that returned 0, and a journal that holds its used part in front; then calls of `eikelzwier_command_with_journal`, each
-- with the bus, the journal and the used length as the one before left them, any frame and any answer buffer.
pub data ExportedCalls : List Exchange → Bus → List ℕ → ℕ → Type 0 where
  made : (κs : Lifetimes.Lfts 10) (a : FreshArguments κs) (r : FreshReturned κs) (s : FreshLeft κs) → sized_ok (old_in κs a) ≡ true → fresh-reads.Learnt κs a r s → (j : List ℕ) →
      ExportedCalls [] (made_out κs s) j 0
  resumed : (κs : Lifetimes.Lfts 11) (a : RecoverArguments κs) (r : RecoverReturned κs) (s : RecoverLeft κs) → sized_ok (old_bus κs a) ≡ true → recover-reads.Learnt κs a r s →
      r.number ≡ 0 → (j : List ℕ) → r.used ≤ length j → take r.used j ≡ take r.used (kept_in κs a) →
      ExportedCalls (replay_history fresh_bus (lines_in (kept_in κs a))) (found_bus κs s) j r.used
  call : {xs : List Exchange} {b : Bus} {j : List ℕ} {u : ℕ} (κs : Lifetimes.Lfts 13) (a : Arguments κs) (r : Returned κs) (s : Left κs) → ExportedCalls xs b j u →
      bus_in κs a ≡ b → journal_in κs a ≡ j → used_lent κs a ≡ u → command-reads.Learnt κs a r s →
      ExportedCalls (xs ++ (exchanged κs a r s ∷ [])) (bus_out κs s) (journal_out κs s) r.used

-- A recovery whose number is 0 was whole.
told-whole : (x : Recovered) → number_in x ≡ 0 → x ≡ found.Whole (line_in x) (used_in x)
told-whole (found.Whole n u) e = refl
told-whole (found.Stopped n) e = absurd (omega arith)
told-whole (found.Unread n p) e = absurd (omega arith)
told-whole found.WrongLength e = absurd (omega arith)

-- Each is a run of calls of the journal's functions.
pub exported-calls : {xs : List Exchange} {b : Bus} {j : List ℕ} {u : ℕ} → ExportedCalls xs b j u → Calls xs b j u
exported-calls (made κs a r s z l j) = core-made κs a r s z l j
exported-calls (resumed κs a r s z l e j h t) =
    let x : Recovery = recovered (old_bus κs a) (kept_in κs a) in
    let q = told-said κs a r s l in
    let bus : found_bus κs s ≡ x.bus = ap (λ (y : Told). y.bus) q in
    let whole : x.result ≡ found.Whole (line_in x.result) (used_in x.result) = told-whole x.result (sym (ap (λ (y : Told). y.number) q) ∙ e) in
    let used : r.used ≡ used_in x.result = ap (λ (y : Told). y.used) q in
    core-resumed κs a x.result s z (ap (recovery_from x.result) bus) (line_in x.result) r.used (whole ∙ ap (found.Whole (line_in x.result)) (sym used)) j h t
exported-calls (call κs a r s t e f g l) = core-call κs a (outcome_in κs r) s (exported-calls t) e f g l

-- So what holds of every run of calls of the journal's functions holds of every run of calls of the exported ones.
pub carries_over : (P : List Exchange → Bus → List ℕ → ℕ → Type 0) → ((xs : List Exchange) (b : Bus) (j : List ℕ) (u : ℕ) → Calls xs b j u → P xs b j u) →
    (xs : List Exchange) (b : Bus) (j : List ℕ) (u : ℕ) → ExportedCalls xs b j u → P xs b j u
carries_over P h xs b j u t = h xs b j u (exported-calls t)
