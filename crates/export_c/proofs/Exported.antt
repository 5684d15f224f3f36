-- Runs of calls of the functions that C and Rust link, `eikelzwier_fresh` and `eikelzwier_command`: of each call nothing is known but what the exported function's own contract ensures. Such a run is a
-- run of calls of the functions of `export` under them, and the other way round, so every theorem over those (crates/export/proofs/Exported.antt) holds of it.
-- Assumes nothing.
use mathlib.Core.Path.{◌≡◌}
use mathlib.Core.Bool.{true}
use mathlib.Core.List.{List, [], ◌∷◌, ◌++◌}
use contract.Lifetimes
use borrow.Fn.World
use borrow.Fn.Kinds as Kinds'
use denote.Triple.Clauses
use Rattle.view.specs.View.{Bus}
use Rattle.bus_model.specs.Command.{sized_ok}
use Rattle.bus_model.specs.Ran.{Exchange}
use Rattle.bus.proofs.Calls.{bus_in, bus_out, old_in, made_out}
use Rattle.export.proofs.Exported.{exchanged, ExportedCalls, DemandThree, demand-three-of-exported-calls}
use Rattle.export.proofs.Exported.ExportedCalls.{made as under-made, call as under-call}
use Rattle.export_c.specs.contracts.eikelzwier_command as command
use Rattle.export_c.proofs.eikelzwier_command.Kinds as command-kinds
use Rattle.export_c.proofs.eikelzwier_command.Reads as command-reads
use Rattle.export_c.specs.contracts.eikelzwier_fresh as fresh
use Rattle.export_c.proofs.eikelzwier_fresh.Kinds as fresh-kinds
use Rattle.export_c.proofs.eikelzwier_fresh.Reads as fresh-reads

-- A call of `eikelzwier_command`: its arguments, its result, and the buffers when it returns. It asks for nothing.
module _ (κs : Lifetimes.Lfts 12) where
  abbrev pub Arguments : Type 0
  Arguments = World.ArgsD command.signature κs

  abbrev pub Returned : Type 0
  Returned = World.ResD command.signature κs

  abbrev pub Left : Type 0
  Left = Clauses.AtExit (Kinds'.ended_of 12 command-kinds.ps command-kinds.r) κs

  pub free : (a : Arguments) → command-reads.Asked κs a
  free a = tt

-- A call of `eikelzwier_fresh`, over buffers of any contents.
module _ (κs : Lifetimes.Lfts 10) where
  abbrev pub FreshArguments : Type 0
  FreshArguments = World.ArgsD fresh.signature κs

  abbrev pub FreshReturned : Type 0
  FreshReturned = World.ResD fresh.signature κs

  abbrev pub FreshLeft : Type 0
  FreshLeft = Clauses.AtExit (Kinds'.ended_of 10 fresh-kinds.ps fresh-kinds.r) κs

  pub made-free : (a : FreshArguments) → fresh-reads.Asked κs a
  made-free a = tt

-- A run: a fresh bus in buffers of exact length, then calls of `eikelzwier_command`, each with the bus buffers as the one before left them, any frame and any answer buffer.
pub data LinkedCalls : List Exchange → Bus → Type 0 where
  made : (κs : Lifetimes.Lfts 10) (a : FreshArguments κs) (r : FreshReturned κs) (s : FreshLeft κs) → sized_ok (old_in κs a) ≡ true → fresh-reads.Learnt κs a r s →
      LinkedCalls [] (made_out κs s)
  call : {xs : List Exchange} {b : Bus} (κs : Lifetimes.Lfts 12) (a : Arguments κs) (r : Returned κs) (s : Left κs) → LinkedCalls xs b → bus_in κs a ≡ b →
      command-reads.Learnt κs a r s → LinkedCalls (xs ++ (exchanged κs a r s ∷ [])) (bus_out κs s)

-- Each is a run of calls of the functions under them, and each of those is one.
pub linked-exported : {xs : List Exchange} {b : Bus} → LinkedCalls xs b → ExportedCalls xs b
linked-exported (made κs a r s z l) = under-made κs a r s z l
linked-exported (call κs a r s t e l) = under-call κs a r s (linked-exported t) e l

pub exported-linked : {xs : List Exchange} {b : Bus} → ExportedCalls xs b → LinkedCalls xs b
exported-linked (under-made κs a r s z l) = made κs a r s z l
exported-linked (under-call κs a r s t e l) = call κs a r s (exported-linked t) e l

-- So the third demand holds of any run of calls of the exported functions, and of every next call.
pub demand-three-of-linked-calls : (xs : List Exchange) (b : Bus) → LinkedCalls xs b → DemandThree xs b
demand-three-of-linked-calls xs b t = demand-three-of-exported-calls xs b (linked-exported t)
