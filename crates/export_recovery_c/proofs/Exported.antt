-- A call of `eikelzwier_recover` as C and Rust link it: what its contract ensures is what that of the function of `export_recovery` under it ensures, and the other way round. So a run of such calls is one
-- of those, and every theorem over those (crates/export_recovery/proofs/Exported.antt) holds of it.
-- Assumes nothing.
use contract.Lifetimes
use borrow.Fn.World
use borrow.Fn.Kinds as Kinds'
use denote.Triple.Clauses
use Rattle.export_recovery.proofs.eikelzwier_recover.Reads as under-reads
use Rattle.export_recovery_c.specs.contracts.eikelzwier_recover as recover
use Rattle.export_recovery_c.proofs.eikelzwier_recover.Kinds as recover-kinds
use Rattle.export_recovery_c.proofs.eikelzwier_recover.Reads as recover-reads

module _ (κs : Lifetimes.Lfts 11) where
  abbrev pub Arguments : Type 0
  Arguments = World.ArgsD recover.signature κs

  abbrev pub Returned : Type 0
  Returned = World.ResD recover.signature κs

  abbrev pub Left : Type 0
  Left = Clauses.AtExit (Kinds'.ended_of 11 recover-kinds.ps recover-kinds.r) κs

  -- It asks for nothing.
  pub free : (a : Arguments) → recover-reads.Asked κs a
  free a = tt

  pub linked-exported : (a : Arguments) (r : Returned) (s : Left) → recover-reads.Learnt κs a r s → under-reads.Learnt κs a r s
  linked-exported a r s l = l

  pub exported-linked : (a : Arguments) (r : Returned) (s : Left) → under-reads.Learnt κs a r s → recover-reads.Learnt κs a r s
  exported-linked a r s l = l
