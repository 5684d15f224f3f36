-- Each queue is in the order of accepted commands: the proof.
-- Assumes nothing.
use Rattle.std.specs.Prelude.{ℕ, ◌≤◌, ◌≡◌, List, [], ◌∷◌, ◌++◌}
use Rattle.std.proofs.Common.{arith}
use Rattle.laws.specs.Weights.{All, all-imp}
use Rattle.model.specs.State.{Entry}
use Rattle.model.specs.Queues.{stamp, Later, Later.behind, Later.stays, Later.leaves}
use Rattle.model.specs.QueuesLaws.{later-all}
use Rattle.model.specs.Order.{InOrder}

-- Entries of one command are in order.
one_number : (n : ℕ) (q : List Entry) → All (λ e. stamp e ≡ n) q → InOrder q
one_number n [] a = tt
one_number n (e ∷ q) a =
    let h : stamp e ≡ n = a.0 in
    (all-imp (λ d. stamp d ≡ n) (λ d. stamp e ≤ stamp d) (λ d z. omega arith) q a.1, one_number n q a.1)

-- A queue in order, of numbers up to n, stays so when entries leave it and entries of the command n come behind it.
pub later-order : {gone : Entry → Type 0} (n : ℕ) {q r : List Entry} → Later gone (λ e. stamp e ≡ n) q r → All (λ e. stamp e ≤ n) q → InOrder q → InOrder r
later-order n (behind {r} a) b o = one_number n r a
later-order n (stays {e} l) b o =
    let h : stamp e ≤ n = b.0 in
    (later-all (λ d. stamp e ≤ stamp d) (λ d z. omega arith) l o.0, later-order n l b.1 o.1)
later-order n (leaves g l) b o = later-order n l b.1 o.1

pub behind-order : (t q : List Entry) → InOrder (t ++ q) → InOrder q
behind-order [] q o = o
behind-order (e ∷ t) q o = behind-order t q o.1
