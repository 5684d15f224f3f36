-- "one order for everyone", over two peers, of histories alone: of what each peer's accepted receives took out, with the number of the command that queued it, two commands that both peers
-- took from came out in the same order. That the answer shows just that item is `due-of-history` (Due.antt).
-- Assumes nothing.
use Rattle.std.specs.Prelude.{ℕ, ◌≤◌, ◌≡◌, List, [], ◌∷◌, ◌++◌}
use Rattle.std.proofs.Common.{arith}
use Rattle.laws.specs.Weights.{All}
use Rattle.frames.specs.Frame.{opcode}
use Rattle.model.specs.Book.{Fed, acting_peer}
use Rattle.model.specs.Ledger.{Item, item_number}
use Rattle.model.specs.Rows.{ledger_of}
use Rattle.model.specs.Happened.{Happened}
use Rattle.model.specs.HandlesIn.{ItemsInOrder}

-- The first of some items was queued by the command n.
abbrev pub FirstFrom : ℕ → List Item → Type 0
FirstFrom n [] = ⊥
FirstFrom n (e ∷ q) = item_number e ≡ n

-- After the history xs, x is an accepted receive of p, and what it takes out was queued by the accepted command n.
pub record Took (xs : List Fed) (x : Fed) (p n : ℕ) : Type 0 where
  pub number : x.number ≡ 0
  pub byte : opcode x.frame ≡ 8
  pub peer : acting_peer x.frame ≡ p
  pub first : FirstFrom n ((ledger_of xs).queue p)

-- At one peer: "Each queue is in the order of accepted commands."
abbrev pub TookInOrder : Type 0
TookInOrder = (xs ys zs : List Fed) (x y : Fed) → Happened ((xs ++ (x ∷ ys)) ++ (y ∷ zs)) → (p n m : ℕ) → Took xs x p n → Took (xs ++ (x ∷ ys)) y p m → n ≤ m

-- At two peers, in one history: p takes something of n, then something of m; q something of m, then something of n. Then n and m are one command.
abbrev pub TookOneOrder : Type 0
TookOneOrder =
    (hs : List Fed) → Happened hs → (xs ys zs us vs ws : List Fed) (x y z w : Fed) (p q n m : ℕ) → hs ≡ (xs ++ (x ∷ ys)) ++ (y ∷ zs) → hs ≡ (us ++ (z ∷ vs)) ++ (w ∷ ws) →
    Took xs x p n → Took (xs ++ (x ∷ ys)) y p m → Took us z q m → Took (us ++ (z ∷ vs)) w q n → n ≡ m

-- Every item of a queue whose first one is of the command n is of n or of a later one.
pub from_first : (n : ℕ) (q : List Item) → FirstFrom n q → ItemsInOrder q → All (λ e. n ≤ item_number e) q
from_first n [] f o = absurd f
from_first n (e ∷ q) f o = (omega (arith, f), below q o.0)
  where
    below : (q : List Item) → All (λ d. item_number e ≤ item_number d) q → All (λ d. n ≤ item_number d) q
    below [] a = tt
    below (d ∷ q) a = (omega (arith, a.0, f), below q a.1)

pub first-number : (n : ℕ) (q : List Item) → FirstFrom n q → (t : ℕ) → All (λ e. item_number e ≤ t) q → n ≤ t
first-number n [] f t a = absurd f
first-number n (e ∷ q) f t a = omega (arith, f, a.0)

pub first-at-least : (n m : ℕ) (q : List Item) → FirstFrom m q → All (λ e. n ≤ item_number e) q → n ≤ m
first-at-least n m [] f a = absurd f
first-at-least n m (e ∷ q) f a = omega (arith, f, a.0)
