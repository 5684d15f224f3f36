-- The theorems that go with specs/Lengths.antt and stand on others: each goes by the definitions and the theorems there.
-- Assumes nothing.
use Rattle.std.specs.Prelude.{ℕ, ◌≤◌, ◌≡◌, List, length, eqb, Ok, Err}
use Rattle.ids.specs.declared.Refusal.TheVariants.{EINVAL, ENOTTY}
use Rattle.laws.specs.Tests.{pick_all}
use Rattle.frames.specs.declared.Command.{Command}
use Rattle.frames.specs.Frame.{opcode, known, parse_send, parse_other, parse}
use Rattle.frames.specs.Lengths.{longest_frame, Short, short-other, short-send}

short : (f : List ℕ) → Short f (parse f)
unfolding parse
short f =
    pick_all (Short f) (eqb (length f) 0) (Err EINVAL) _ tt
    (pick_all (Short f) (known (opcode f)) _ (Err ENOTTY)
    (pick_all (Short f) (eqb (opcode f) 7) (parse_send f) (parse_other f) (short-send f) (short-other f))
    tt)

-- Every frame that was read.
pub read_short : (f : List ℕ) (c : Command) → parse f ≡ Ok c → length f ≤ longest_frame
read_short f c e = rw e at (short f)
