-- Invalid handles by order: the proofs of (a), (b) and (d).
-- Assumes nothing.
use Rattle.std.specs.Prelude.{suc, ◌≤◌, ◌≡◌, Bool, true, not}
use Rattle.std.proofs.Math.Path.{refl}
use Rattle.std.proofs.Common.{arith}
use Rattle.std.proofs.Math.Bool.{false}
use mathlib.Core.List.{List, [], ◌∷◌}
use Rattle.laws.specs.Tests.{pick, clash}
use Rattle.laws.specs.Weights.{load, All}
use Rattle.frames.specs.Frame.{opcode}
use Rattle.model.specs.Lists.{both}
use Rattle.model.specs.State.{Handle, Handle.none, Handle.some, held}
use Rattle.model.specs.Book.{Fed}
use Rattle.model.specs.Tally.{is_counted, tally}
use Rattle.model.specs.Ledger.{Item}
use Rattle.model.specs.Queues.{Later, Later.behind, Later.stays, Later.leaves}

pub one-counted : (x : Fed) → tally (x ∷ []) ≤ 1
one-counted x = go (is_counted x)
  where
    go : (t : Bool) → pick t (suc 0) 0 ≤ 1
    go true = omega arith
    go false = omega arith

-- Tests.
pub not_on : (t : Bool) → not t ≡ false → t ≡ true
not_on true e = refl
not_on false e = clash e

pub nothing : (t : Bool) → both t false ≡ false
nothing true = refl
nothing false = refl

pub unheld : (x : Handle) → held x ≡ false → x ≡ none
unheld none e = refl
unheld (some i c) e = clash e

pub counted-send : (x : Fed) → x.number ≡ 0 → opcode x.frame ≡ 7 → tally (x ∷ []) ≡ 1
counted-send x z e = rw (z, e) refl

-- No more of them come.
pub later-few : {gone new : Item → Type 0} (t : Item → Bool) → ((e : Item) → new e → t e ≡ false) → {q r : List Item} → Later gone new q r → load t (λ e. 1) r ≤ load t (λ e. 1) q
later-few {gone} {new} t f (behind {r} a) = none-new r a
  where
    none-new : (r : List Item) → All new r → load t (λ e. 1) r ≤ 0
    none-new [] a = omega arith
    none-new (e ∷ r) a = let ih = none-new r a.1 in rw (f e a.0) (omega (arith, ih))
later-few t f (stays {e} l) = let ih = later-few t f l in omega (arith, ih)
later-few t f (leaves {e} g l) = let ih = later-few t f l in omega (arith, ih)
