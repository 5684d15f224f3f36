-- 02 No. 2: "such a message installs the handle, and the notice follows it". A destroy notice that stands first is for a node that its peer holds: nothing stands before it, so no earlier
-- message that carries the node is left, and only the handle keeps the notice.
-- Assumes nothing.
use Rattle.std.specs.Prelude.{ℕ, ◌≤◌, ◌≡◌, refl, false, List, [], ◌∷◌}
use Rattle.std.proofs.Common.{le-ltb}
use Rattle.laws.specs.Weights.{All}
use Rattle.model.specs.Lists.{any}
use Rattle.model.specs.State.{Entry, Entry.message, Entry.destroyed, Entry.released, earlier}
use Rattle.model.specs.Queues.{stamp}

-- "Each queue is in the order of accepted commands": behind an entry nothing is earlier.
pub none-earlier : (n s : ℕ) (q : List Entry) → All (λ d. n ≤ stamp d) q → any (earlier n s) q ≡ false
none-earlier n s [] a = refl
none-earlier n s (message k m ∷ q) a = rw (le-ltb k n a.0) (none-earlier n s q a.1)
none-earlier n s (destroyed k t ∷ q) a = none-earlier n s q a.1
none-earlier n s (released k t ∷ q) a = none-earlier n s q a.1
