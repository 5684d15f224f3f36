-- Runs of calls of the two functions, `eikelzwier_fresh` and `eikelzwier_command`, that `export_c` exports for C and Rust to link: of each call nothing is known but what the function's own contract
-- ensures. Such a run is a run of calls of the core's two functions, and the other way round, so every theorem over those (crates/bus/proofs/Whole.antt) holds of it; the third
-- demand and the number 5 are written out.
-- Assumes nothing.
use Prim.Native.Nat.{◌≤◌}
use mathlib.Core.Path.{◌≡◌}
use mathlib.Core.Bool.{true}
use mathlib.Core.List.{List, [], ◌∷◌, ◌++◌, map}
use lib.ListN.{length}
use contract.Lifetimes
use borrow.Fn.World
use borrow.Fn.Kinds as Kinds'
use denote.Triple.Clauses
use Rattle.answers.specs.declared.Outcome.{Outcome}
use Rattle.model.specs.Step.{Call}
use Rattle.view.specs.View.{Bus}
use Rattle.bus_model.specs.Command.{sized_ok}
use Rattle.bus_model.specs.Ran.{Exchange, Ran}
use Rattle.bus_model.specs.Third.{Demanded, Next}
use Rattle.bus_model.specs.Ranges.{Lengths, InRange, FiveUnless}
use Rattle.bus.proofs.Calls.{bus_in, bus_out, call_in, old_in, made_out, exchanged as core-exchanged, Calls, calls-ran, calls-exist}
use Rattle.bus.proofs.Calls.Calls.{made as core-made, call as core-call}
use Rattle.bus.proofs.Whole.{demand-three-of-calls}
use Rattle.bus.proofs.AnyBus.{five-of-calls, fresh-five-of-calls}
use Rattle.export.specs.contracts.eikelzwier_command as command
use Rattle.export.proofs.eikelzwier_command.Kinds as command-kinds
use Rattle.export.proofs.eikelzwier_command.Reads as command-reads
use Rattle.export.specs.contracts.eikelzwier_fresh as fresh
use Rattle.export.proofs.eikelzwier_fresh.Kinds as fresh-kinds
use Rattle.export.proofs.eikelzwier_fresh.Reads as fresh-reads

-- A call of `eikelzwier_command`: its arguments, its result, and the buffers when it returns.
module _ (κs : Lifetimes.Lfts 12) where
  abbrev pub Arguments : Type 0
  Arguments = World.ArgsD command.signature κs

  abbrev pub Returned : Type 0
  Returned = World.ResD command.signature κs

  abbrev pub Left : Type 0
  Left = Clauses.AtExit (Kinds'.ended_of 12 command-kinds.ps command-kinds.r) κs

  -- The result as the core's: the same number and the same length.
  abbrev pub outcome_in : Returned → Outcome
  outcome_in r = record { number = r.number; len = r.len }

  abbrev pub exchanged : Arguments → Returned → Left → Exchange
  exchanged a r s = core-exchanged κs a (outcome_in r) s

  -- It asks for nothing.
  pub free : (a : Arguments) → command-reads.Asked κs a
  free a = tt

-- A call of `eikelzwier_fresh`, over buffers of any contents.
module _ (κs : Lifetimes.Lfts 10) where
  abbrev pub FreshArguments : Type 0
  FreshArguments = World.ArgsD fresh.signature κs

  abbrev pub FreshReturned : Type 0
  FreshReturned = World.ResD fresh.signature κs

  abbrev pub FreshLeft : Type 0
  FreshLeft = Clauses.AtExit (Kinds'.ended_of 10 fresh-kinds.ps fresh-kinds.r) κs

  pub made-free : (a : FreshArguments) → fresh-reads.Asked κs a
  made-free a = tt

-- A run: a fresh bus in buffers of exact length, then calls of `eikelzwier_command`, each with the bus buffers as the one before left them, any frame and any answer buffer.
pub data ExportedCalls : List Exchange → Bus → Type 0 where
  made : (κs : Lifetimes.Lfts 10) (a : FreshArguments κs) (r : FreshReturned κs) (s : FreshLeft κs) → sized_ok (old_in κs a) ≡ true → fresh-reads.Learnt κs a r s →
      ExportedCalls [] (made_out κs s)
  call : {xs : List Exchange} {b : Bus} (κs : Lifetimes.Lfts 12) (a : Arguments κs) (r : Returned κs) (s : Left κs) → ExportedCalls xs b → bus_in κs a ≡ b →
      command-reads.Learnt κs a r s → ExportedCalls (xs ++ (exchanged κs a r s ∷ [])) (bus_out κs s)

-- Each is a run of calls of the core's functions, and so of the definitions.
pub exported-calls : {xs : List Exchange} {b : Bus} → ExportedCalls xs b → Calls xs b
exported-calls (made κs a r s z l) = core-made κs a r s z l
exported-calls (call κs a r s t e l) = core-call κs a (outcome_in κs r) s (exported-calls t) e l

pub exported-ran : {xs : List Exchange} {b : Bus} → ExportedCalls xs b → Ran xs b
exported-ran t = calls-ran (exported-calls t)

-- So what holds of every run of calls of the core's functions holds of every run of calls of the exported ones.
pub carries_over : (P : List Exchange → Bus → Type 0) → ((xs : List Exchange) (b : Bus) → Calls xs b → P xs b) → (xs : List Exchange) (b : Bus) → ExportedCalls xs b → P xs b
carries_over P h xs b t = h xs b (exported-calls t)

-- There is such a run for every list of calls and any old contents of exact length.
pub calls-exported : {xs : List Exchange} {b : Bus} → Calls xs b → ExportedCalls xs b
calls-exported (core-made κs a r s z l) = made κs a r s z l
calls-exported (core-call κs a r s t e l) = call κs a (record { number = r.number; len = r.len }) s (calls-exported t) e l

pub exported-calls-exist : (old : Bus) → sized_ok old ≡ true → (cs : List Call) → (xs : List Exchange) × (b : Bus) × ExportedCalls xs b × (map (λ x. x.call) xs ≡ cs)
exported-calls-exist old s cs =
    let z = calls-exist old s cs in
    (z.0, z.1, calls-exported z.2, z.3)

-- The third demand, whole: of any list of calls, of the book that is fed them, and of every next call.
pub record DemandThree (xs : List Exchange) (b : Bus) : Type 0 where
  pub run : Demanded xs b
  pub next : (κs : Lifetimes.Lfts 12) (a : Arguments κs) (r : Returned κs) (s : Left κs) → bus_in κs a ≡ b → command-reads.Learnt κs a r s → Next xs (exchanged κs a r s)

pub demand-three-of-exported-calls : (xs : List Exchange) (b : Bus) → ExportedCalls xs b → DemandThree xs b
demand-three-of-exported-calls xs b t =
    let d = demand-three-of-calls xs b (exported-calls t) in
    record { run = d.run; next = λ κs a r s e l. d.next κs a (outcome_in κs r) s e l }

-- 5 is returned exactly where a buffer lacks its length or, by `eikelzwier_command` with an answer buffer of at least 591 bytes, a number is beyond its range (docs/BUFFERS.md).
pub five-of-exported-calls : (κs : Lifetimes.Lfts 12) (a : Arguments κs) (r : Returned κs) (s : Left κs) → command-reads.Learnt κs a r s → 591 ≤ length (call_in κs a).buffer →
    FiveUnless (InRange (bus_in κs a)) r.number
five-of-exported-calls κs a r s l h = five-of-calls κs a (outcome_in κs r) s l h

pub fresh-five-of-exported-calls : (κs : Lifetimes.Lfts 10) (a : FreshArguments κs) (r : FreshReturned κs) (s : FreshLeft κs) → fresh-reads.Learnt κs a r s →
    FiveUnless (Lengths (old_in κs a)) r
fresh-five-of-exported-calls κs a r s l = fresh-five-of-calls κs a r s l
