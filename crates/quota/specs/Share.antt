-- The share theorem, for any number of users k and any limit L: over every list of charges that charging within the rule and any lowering can reach,
-- no user is over half of the limit, the sum never exceeds the limit, and what stays within the limit halved once for each user, rounded down, is never refused.
-- Assumes nothing. The proof is in ShareProof.antt.
use Rattle.std.specs.Prelude.{ℕ, ◌+◌, ◌/◌, ◌^◌, ◌≤◌, ◌≡◌, true, List, length, get_or, set, replicate}
use Rattle.std.proofs.Common.{◌∙◌, length-set}
use Rattle.std.proofs.lemmas.List.{length-replicate}
use Rattle.laws.specs.Sums.{sum}
use Rattle.quota.specs.Rule.{others, allowed}
use Rattle.quota.specs.ShareProof.{Bounded, bounded-fresh, bounded-charge, bounded-lower, bounded-half, bounded-sum, bounded-rest}

-- The lists of charges, a number for each user, that can be reached: no charge at all; one user's charge within the rule; any charges taken off.
pub data Reach (L k : ℕ) : List ℕ → Type 0 where
  fresh : Reach L k (replicate k 0)
  charge : {c : List ℕ} (u a : ℕ) → Reach L k c → allowed L (others c u) (get_or c u 0) a ≡ true → Reach L k (set c u (get_or c u 0 + a))
  lower : {c : List ℕ} (d : List ℕ) → Reach L k c → length d ≡ length c → ((u : ℕ) → get_or d u 0 ≤ get_or c u 0) → Reach L k d

-- The invariant of ShareProof.antt holds of every such list.
pub bounded : {L k : ℕ} {c : List ℕ} → Reach L k c → Bounded L c
bounded {L} {k} fresh = bounded-fresh L k
bounded (charge u a r h) = bounded-charge _ _ u a (bounded r) h
bounded (lower d r e h) = bounded-lower _ d _ (bounded r) e h

-- There is a number for each user.
pub reach-length : {L k : ℕ} {c : List ℕ} → Reach L k c → length c ≡ k
reach-length {k = k} fresh = length-replicate k 0
reach-length (charge u a r h) = simp length-set (reach-length r)
reach-length (lower d r e h) = e ∙ reach-length r

-- No user is over half of the limit.
pub at-most-half : {L k : ℕ} {c : List ℕ} → Reach L k c → (u : ℕ) → get_or c u 0 ≤ L / 2
at-most-half {L} {c = c} r u = bounded-half L c (bounded r) u

-- The users together are never over the limit.
pub at-most-limit : {L k : ℕ} {c : List ℕ} → Reach L k c → sum c ≤ L
at-most-limit {L} {c = c} r = bounded-sum L c (bounded r)

-- One share of the limit is never queued by all of them together.
pub share-unused : {L k : ℕ} {c : List ℕ} → Reach L k c → sum c + L / 2 ^ k ≤ L
share-unused {L} {k} {c} r = let n : length c ≡ k = reach-length r in rw n at (bounded-rest L c (bounded r))
