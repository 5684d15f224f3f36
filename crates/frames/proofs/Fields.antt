-- The theorems that go with specs/Fields.antt and stand on others: each goes by the definitions and the theorems there.
-- Assumes nothing.
use Rattle.std.specs.Prelude.{ℕ, ◌≡◌, true, false, List, length, get_or, eqb, ltb, Ok, Err}
use Rattle.std.proofs.Common.{sym, eqb-true, leb-true}
use Rattle.std.proofs.lemmas.Bool.{eqb-false}
use Rattle.ids.specs.declared.Refusal.TheVariants.{EINVAL, ENOTTY}
use Rattle.laws.specs.Tests.{pick-cases, pick_all, pick-else, clash}
use Rattle.frames.specs.declared.Command.{Command}
use Rattle.frames.specs.Frame.{last_peer, opcode, known, frame_length, parse_send, parse_other, parse}
use Rattle.frames.specs.Fields.{Fields, InFrame, unless, fields-send, fields-rest}

-- Every frame.
pub fields : (f : List ℕ) → InFrame f (parse f)
unfolding parse parse_other
fields f =
    unless f (eqb (length f) 0) _
    (pick-cases (InFrame f) (known (opcode f)) _ (Err ENOTTY)
    (λ k.
    let x = pick-else (eqb (opcode f) 0) false true (λ z. clash (sym z)) k in
    let y = pick-else (eqb (opcode f) 11) false true (λ z. clash (sym z)) x.1 in
    pick-cases (InFrame f) (eqb (opcode f) 7) (parse_send f) (parse_other f)
    (λ e. fields-send f (eqb-true (opcode f) 7 e))
    (λ e.
    pick_all (InFrame f) (eqb (length f) (frame_length (opcode f))) _ (Err EINVAL)
    (unless f (ltb last_peer (get_or f 1 0)) _ (fields-rest f (eqb-false (opcode f) 0 x.0) (eqb-false (opcode f) 11 y.0) (leb-true (opcode f) 12 y.1) (eqb-false (opcode f) 7 e)))
    tt))
    (λ k. tt))

-- A frame that was read.
pub fields-command : (f : List ℕ) (c : Command) → parse f ≡ Ok c → Fields f c
fields-command f c e = rw e at (fields f)
