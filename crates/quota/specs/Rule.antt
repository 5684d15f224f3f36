-- Document 01, "Rules of order and quota": the rule over any limit, from what the others have queued, what the user has queued and what is added.
-- Assumes nothing.
use Rattle.std.specs.Prelude.{ℕ, ◌+◌, ◌-◌, ◌/◌, ◌%◌, Bool, List, set, leb}
use Rattle.laws.specs.Sums.{sum}

-- "what the other users have queued", of a list with a number for each user.
abbrev pub others : List ℕ → ℕ → ℕ
others c u = sum (set c u 0)

-- "half, rounded down, of the limit less what the other users have queued".
abbrev pub half : ℕ → ℕ → ℕ
half limit others = (limit - others) / 2

-- "what the sender's user has queued there plus all this send adds there must be at most half, ..".
abbrev pub allowed : ℕ → ℕ → ℕ → ℕ → Bool
allowed limit others own add = leb (own + add) (half limit others)

-- "\"Left\" is that half less what is queued", in two bytes, two's complement.
abbrev pub left : ℕ → ℕ → ℕ → ℕ
left limit others own = (half limit others + 65536 - own) % 65536
