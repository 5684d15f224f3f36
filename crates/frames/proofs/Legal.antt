-- The theorems that go with specs/Legal.antt and stand on others: each goes by the definitions and the theorems there.
-- Assumes nothing.
use Rattle.std.specs.Prelude.{ℕ, ◌≡◌, refl, List, length, eqb, Ok, Err}
use Rattle.std.proofs.Math.Logic.◌⊎◌.{inl, inr}
use Rattle.ids.specs.declared.Refusal.TheVariants.{ENOTTY}
use Rattle.laws.specs.Tests.{pick_all}
use Rattle.frames.specs.declared.Command.{Command}
use Rattle.frames.specs.Frame.{opcode, known, parse_send, parse_other, parse}
use Rattle.frames.specs.Legal.{Legal, Outcome, unless, legal-send, legal-other}

-- Every frame.
pub legal : (f : List ℕ) → Outcome f (parse f)
unfolding parse
legal f =
    unless f (eqb (length f) 0) _ (λ e.
    pick_all (Outcome f) (known (opcode f)) _ (Err ENOTTY)
    (pick_all (Outcome f) (eqb (opcode f) 7) (parse_send f) (parse_other f) (legal-send f) (legal-other f))
    (inr (inl refl)))

-- A frame that was read.
pub legal-command : (f : List ℕ) (c : Command) → parse f ≡ Ok c → Legal f c
legal-command f c e = rw e at (legal f)
