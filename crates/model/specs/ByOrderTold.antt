-- Invalid handles by order: the proof of (c), and the command that destroyed a node.
-- Assumes nothing.
use Rattle.std.specs.Prelude.{ℕ, ◌≡◌, Bool, false}
use Rattle.std.proofs.Math.Path.{refl, ap}
use Rattle.std.proofs.Common.{◌∙◌}
use Rattle.std.proofs.Math.Bool.{true}
use mathlib.Core.List.{List, [], ◌∷◌, ◌++◌, append_assoc}
use Rattle.laws.specs.Tests.{clash}
use Rattle.laws.specs.Weights.{All}
use Rattle.model.specs.Lists.{either, any}
use Rattle.model.specs.State.{Handle, Handle.none, Handle.some, held}
use Rattle.model.specs.Book.{Node, Fed}
use Rattle.model.specs.Occurs.{either-false}
use Rattle.model.specs.Ledger.{Item, Item.destroyed}
use Rattle.model.specs.ByOrder.{BeenTold}

-- Tests.
pub off : (a b : Bool) → a ≡ false → b ≡ false → either a b ≡ false
off a b e f = rw (e, f) refl

pub unheld : (x : Handle) → held x ≡ false → x ≡ none
unheld none e = refl
unheld (some i c) e = clash e

pub all-off : (t : Item → Bool) (q : List Item) → any t q ≡ false → All (λ x. t x ≡ false) q
all-off t [] e = tt
all-off t (x ∷ q) e = let y = either-false (t x) (any t q) e in (y.0, all-off t q y.1)

pub any-off : (t : Item → Bool) (q : List Item) → All (λ x. t x ≡ false) q → any t q ≡ false
any-off t [] a = refl
any-off t (x ∷ q) a = off (t x) (any t q) a.0 (any-off t q a.1)

pub any_append : (t : Item → Bool) (q r : List Item) → any t (q ++ r) ≡ either (any t q) (any t r)
any_append t [] r = refl
any_append t (x ∷ q) r = ap (either (t x)) (any_append t q r) ∙ go (t x) (any t q) (any t r)
  where
    go : (a b c : Bool) → either a (either b c) ≡ either (either a b) c
    go true b c = refl
    go false b c = refl

-- A notice that was shown stays shown.
pub longer : (xs : List Fed) (x : Fed) (p N : ℕ) → BeenTold xs p N → BeenTold (xs ++ (x ∷ [])) p N
longer xs x p N b =
    record {
      before = b.before;
      receive = b.receive;
      after = b.after ++ (x ∷ []);
      place = ap (λ (z : List Fed). z ++ (x ∷ [])) b.place ∙ append_assoc b.before (b.receive ∷ b.after) (x ∷ []);
      command = b.command;
      node = b.node;
      told = b.told;
      number = b.number;
    }

-- Two notices that stand at one place are of one node.
pub same-notice : (a b : ℕ) (n m : Node) (r s : List Item) → destroyed a n ∷ r ≡ destroyed b m ∷ s → n ≡ m
same-notice a b n m r s e = cc e
