-- `answers::put_ids` meets its contract: each turn stores one ID behind those before it. Assumes nothing.
use Prim.Native.Nat.{◌+◌, ◌*◌}
use mathlib.Core.Path.{◌≡◌}
use lib.ListN.{take}
use lib.Seq.{sets}
use Rattle.answers.specs.Answer.{id_bytes}
use Rattle.answers.proofs.put_ids.Given as goal

abbrev pub invariant-loop-id : goal.invariant-loop-id
invariant-loop-id l = (l.end ≡ l.at + 8 * l.id-index) × (l.out ≡ sets l.initial.out l.at (id_bytes (take l.id-index l.ids)))
