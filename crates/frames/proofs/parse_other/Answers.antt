-- `frames::parse_other` meets its contract: the length and the acting peer are the definition's first two choices. Assumes nothing.
use native.Mathlib.Omega.{arith}
use mathlib.Core.Path.{◌≡◌, ◌∙◌}
use Rattle.frames.proofs.Laws.{passed, other_length, other-peer, other-rest, two_bytes}
use Rattle.frames.proofs.parse_other.Goals as goal

pub returns-then-f-frame_length : goal.returns-then-f-frame_length
returns-then-f-frame_length c = other_length c.args.f.now _ c.frame_length.ensures c.if-f-frame_length.true

pub bounds-f-1 : goal.bounds-f-1
bounds-f-1 c = let n : _ ≡ _ = c.if-f-frame_length.false in omega (arith, two_bytes _ _ c.frame_length.ensures)

pub returns-in_err-try_from : goal.returns-in_err-try_from
returns-in_err-try_from c =
    let e = c.in_err-try_from.ensures in other-peer c.args.f.now _ c.frame_length.ensures c.if-f-frame_length.false e.1 (passed _ _ c.from_residual.ensures.1 e.0)

pub parse_rest-requires : goal.parse_rest-requires
parse_rest-requires c = c.if-f-frame_length.false ∙ c.frame_length.ensures

pub returns : goal.returns
returns c = other-rest c.args.f.now _ _ _ c.frame_length.ensures c.if-f-frame_length.false c.in_ok-try_from.ensures c.parse_rest.ensures
