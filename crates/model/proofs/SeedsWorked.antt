-- The theorems that go with specs/SeedsWorked.antt and stand on others: each goes by the definitions and the theorems there.
-- Assumes nothing.
use Rattle.std.specs.Prelude.{[]}
use Rattle.std.proofs.Math.Path.{refl}
use Rattle.laws.specs.Bytes.{be, num_at}
use Rattle.frames.specs.Frame.{id_at}
use Rattle.model.specs.Book.{Node, shown_ids}
use Rattle.model.specs.Shows.{AtOnePlace}
use Rattle.model.specs.Seeds.{nodes_then, SeedShown}
use Rattle.model.proofs.SeedsProof.{shows-last-seed}
use Rattle.model.specs.SeedsWorked.{ends, anew, history, reading, happened, last}

pub shown-whole : SeedShown history reading 0 last
shown-whole = (shows-last-seed history [] reading happened refl refl).1 last

-- The ID that was chosen again.
pub never-eight : (n : Node) → AtOnePlace 8 n (shown_ids reading.answer) (nodes_then history 0 last) → ⊥
never-eight n at = shown-whole.chosen-again 8 n at ends [] anew refl (record { number = refl; byte = refl; peer = refl; id = unfold id_at num_at be in refl })
