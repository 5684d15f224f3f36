-- The first half of the third demand, of the book alone and of every number for a user: it needs no next call.
-- Assumes nothing.
use Rattle.std.specs.Prelude.{ℕ, ◌+◌, ◌≤◌, ◌≡◌, refl, false, List, [], ◌∷◌, eqb}
use Rattle.std.proofs.Common.{arith, ne_eqb}
use Rattle.laws.specs.Weights.{All}
use Rattle.quota.specs.Charges.{users}
use Rattle.model.specs.Resources.{Resource, most}
use Rattle.model.specs.State.{Message}
use Rattle.model.specs.Step.{Call}
use Rattle.model.specs.Book.{queued}
use Rattle.model.specs.Claim.{book_after}
use Rattle.model.specs.Charged.{Fine, queued_by}

-- After every list of calls, at every peer, whoever is asked for.
pub record AfterAny (cs : List Call) : Type 0 where
  pub bounded : (q u : ℕ) (r : Resource) → queued (book_after cs) q u r ≤ most r
  pub sums : (q u : ℕ) (r : Resource) → (book_after cs).received q u r + (book_after cs).dropped q u r ≤ (book_after cs).sent q u r

pub nobody : (r : Resource) (u : ℕ) (ms : List Message) → users ≤ u → All Fine ms → queued_by r u ms ≡ 0
nobody r u [] l a = refl
nobody r u (m ∷ ms) l a =
    let e : eqb m.user u ≡ false = ne_eqb m.user u (λ z. omega (arith, a.0.from)) in
    rw e (omega (arith, nobody r u ms l a.1))
