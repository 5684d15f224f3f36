-- A call of `eikelzwier_command_with_journal` as C and Rust link it: what its contract ensures is what that of the function of `export_journal` under it ensures, and the other way round. So a run of such
-- calls is one of those, and every theorem over those (crates/export_recovery/proofs/Exported.antt) holds of it.
-- Assumes nothing.
use contract.Lifetimes
use borrow.Fn.World
use borrow.Fn.Kinds as Kinds'
use denote.Triple.Clauses
use Rattle.export_journal.proofs.eikelzwier_command_with_journal.Reads as under-reads
use Rattle.export_journal_c.specs.contracts.eikelzwier_command_with_journal as command
use Rattle.export_journal_c.proofs.eikelzwier_command_with_journal.Kinds as command-kinds
use Rattle.export_journal_c.proofs.eikelzwier_command_with_journal.Reads as command-reads

module _ (κs : Lifetimes.Lfts 13) where
  abbrev pub Arguments : Type 0
  Arguments = World.ArgsD command.signature κs

  abbrev pub Returned : Type 0
  Returned = World.ResD command.signature κs

  abbrev pub Left : Type 0
  Left = Clauses.AtExit (Kinds'.ended_of 13 command-kinds.ps command-kinds.r) κs

  -- It asks for nothing.
  pub free : (a : Arguments) → command-reads.Asked κs a
  free a = tt

  pub linked-exported : (a : Arguments) (r : Returned) (s : Left) → command-reads.Learnt κs a r s → under-reads.Learnt κs a r s
  linked-exported a r s l = l

  pub exported-linked : (a : Arguments) (r : Returned) (s : Left) → under-reads.Learnt κs a r s → command-reads.Learnt κs a r s
  exported-linked a r s l = l
