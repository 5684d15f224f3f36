-- The theorems that go with specs/Stops.antt and stand on others: each goes by the definitions and the theorems there.
-- Assumes nothing.
use Rattle.std.specs.Prelude.{suc, ◌≡◌, refl, ◌∷◌}
use Rattle.std.proofs.Common.{ap, ◌∙◌}
use Rattle.lines.specs.Chunks.{Found.frame, Found.bad}
use Rattle.bus_model.specs.Command.{fresh_bus}
use Rattle.journal_model.specs.Journal.{Replayed.stopped, Replayed.unread, replay, lines_in, recovered}
use Rattle.journal_model.specs.Stops.{LineStops, UnreadStops, replay-behind}

pub line-stops : LineStops
unfolding recovered replay
line-stops old s f ls ks d n z e h k = let q : replay 0 fresh_bus (lines_in s) ≡ stopped d (suc n) = ap (replay 0 fresh_bus) e ∙ replay-behind ls (frame f ∷ ks) 0 n fresh_bus d h ∙ rw k refl in rw (z, q) refl

pub unread-stops : UnreadStops
unfolding recovered replay
unread-stops old s place ls ks d n z e h = let q : replay 0 fresh_bus (lines_in s) ≡ unread d (suc n) place = ap (replay 0 fresh_bus) e ∙ replay-behind ls (bad place ∷ ks) 0 n fresh_bus d h in rw (z, q) refl
