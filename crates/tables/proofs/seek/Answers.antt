-- `tables::seek` meets its contract: what is found in the list is the slot of the entry. Assumes nothing.
use Rattle.tables.specs.CodeLaws.{found-entry}
use Rattle.tables.specs.declared.Entry.{Entry}
use Rattle.std.specs.Option.{option_map}
use Rattle.std.proofs.Common.{rules, ◌≡◌, ◌∙◌, ap}
use native.Mathlib.Omega.{arith}
use Rattle.tables.proofs.seek.Goals as goal

pub returns-else-id-eq0 : goal.returns-else-id-eq0
returns-else-id-eq0 c =
    let m : c.map-found.result ≡ option_map (λ (e : Entry). e.slot) c.find_entry.result = search rules in
    (found-entry _ _ _ c.if-id-eq0.false (m ∙ ap (option_map (λ (e : Entry). e.slot)) c.find_entry.ensures.0), omega (arith, c.find_entry.ensures.1))
