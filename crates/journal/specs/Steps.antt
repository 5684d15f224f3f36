-- What the functions of a command with a journal give, step by step.
-- Assumes nothing.
use Rattle.std.specs.Prelude.{ℕ, ◌+◌, ◌*◌, List, length, Option, Some}
use Rattle.laws.specs.Tests.{pick}
use Rattle.ids.specs.Refusals.{EFBIG}
use Rattle.lines.specs.Line.{room_for, lines_after, line_written}
use Rattle.view.specs.View.{Bus}
use Rattle.judges.specs.declared.Order.{Order}
use Rattle.judges.specs.declared.Ruling.{Ruling}
use Rattle.bus_model.specs.Command.{refused_by, carried_out}
use Rattle.journal_model.specs.Journal.{WithJournal, with_journal}
use Rattle.journal_model.specs.Counted.{changing}

-- The line of an order that changes the bus, written, and the journal after it; of any other order nothing is written.
abbrev pub append_written : Order → List ℕ → ℕ → List ℕ → Option ℕ
append_written o j u f = pick (changing o) (line_written j u f) (Some u)

abbrev pub journal_after : Order → List ℕ → ℕ → List ℕ → List ℕ
journal_after o j u f = pick (changing o) (lines_after j u f) j

-- What comes of a ruling with a journal.
unfoldable pub executed_with : Bus → List ℕ → List ℕ → Ruling → List ℕ → ℕ → WithJournal
executed_with b f out r j u =
    pick (changing r.order)
    (pick (room_for j u f) (with_journal (carried_out b f out r) (lines_after j u f) (u + (2 * length f + 1))) (with_journal (refused_by EFBIG b out) j u))
    (with_journal (carried_out b f out r) j u)
