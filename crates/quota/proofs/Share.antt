-- The theorems that go with specs/Share.antt and stand on others: each goes by the definitions and the theorems there.
-- Assumes nothing.
use Rattle.std.specs.Prelude.{ℕ, ◌+◌, ◌/◌, ◌^◌, ◌≤◌, ◌<◌, ◌≡◌, true, List, length, get_or}
use Rattle.quota.specs.Rule.{others, allowed}
use Rattle.quota.specs.ShareProof.{bounded-allows}
use Rattle.quota.specs.Share.{Reach, bounded, reach-length}

-- No user is refused what keeps it within its share, the limit halved once for each user.
pub share-allowed : {L k : ℕ} {c : List ℕ} → Reach L k c → (u a : ℕ) → u < k → get_or c u 0 + a ≤ L / 2 ^ k → allowed L (others c u) (get_or c u 0) a ≡ true
share-allowed {L} {k} {c} r u a h s = let n : length c ≡ k = reach-length r in bounded-allows L c (bounded r) u a (rw n h) (rw n s)
