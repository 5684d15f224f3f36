-- `frames::frame_length` meets its contract: each arm of the match is the definition at its command bytes. Assumes nothing.
use Rattle.std.specs.Prelude.{◌≡◌, ◌⊎◌}
use Rattle.std.proofs.Math.Logic.◌⊎◌.{inl, inr}
use native.Mathlib.Omega.{arith}
use Rattle.frames.specs.Frame.{frame_length}
use Rattle.frames.proofs.Laws.{length_else}
use Rattle.frames.proofs.frame_length.Goals as goal

pub returns-in-2 : goal.returns-in-2
unfolding frame_length
returns-in-2 c = rw c.in-2.is

pub returns-in-1 : goal.returns-in-1
unfolding frame_length
returns-in-1 c = go c.in-1.is
  where
    go : (c.args.op ≡ 1) ⊎ (c.args.op ≡ 9) → 3 ≡ frame_length c.args.op
    go (inl e) = rw e
    go (inr e) = rw e

pub returns-in-8 : goal.returns-in-8
unfolding frame_length
returns-in-8 c = go c.in-8.is
  where
    go : (c.args.op ≡ 8) ⊎ (c.args.op ≡ 12) → 4 ≡ frame_length c.args.op
    go (inl e) = rw e
    go (inr e) = rw e

pub returns-in-6 : goal.returns-in-6
unfolding frame_length
returns-in-6 c = rw c.in-6.is

pub returns-in_default : goal.returns-in_default
returns-in_default c = length_else c.args.op (grind arith) (omega arith) (omega arith) (grind arith) (grind arith) (grind arith)
