-- `frames::parse_rest` meets its contract: each arm of the match is the definition at that command byte, and the frame's length makes its reads lie within. Assumes nothing.
use lib.ListN.{length}
use native.Mathlib.Omega.{arith}
use Rattle.frames.specs.Frame.{frame_length, parse_rest}
use Rattle.frames.proofs.Laws.{passed, sized, sized-else, rest-open, rest-open-user, rest-transfer, rest-transfer-peer, rest-quota, rest-quota-user, rest-else}
use Rattle.frames.proofs.parse_rest.Goals as goal

pub bounds-f-2 : goal.bounds-f-2
unfolding frame_length
bounds-f-2 c = omega (arith, sized _ _ 1 c.requires c.in-1.is)

pub id_at-requires : goal.id_at-requires
unfolding frame_length
id_at-requires c = omega (arith, sized _ _ 3 c.requires c.in-3.is)

pub id_at-requires-in-4 : goal.id_at-requires-in-4
unfolding frame_length
id_at-requires-in-4 c = omega (arith, sized _ _ 4 c.requires c.in-4.is)

pub id_at-requires-in-5 : goal.id_at-requires-in-5
unfolding frame_length
id_at-requires-in-5 c = omega (arith, sized _ _ 5 c.requires c.in-5.is)

pub id_at-requires-in-6 : goal.id_at-requires-in-6
unfolding frame_length
id_at-requires-in-6 c = omega (arith, sized _ _ 6 c.requires c.in-6.is)

pub bounds-f-10 : goal.bounds-f-10
unfolding frame_length
bounds-f-10 c = omega (arith, sized _ _ 6 c.requires c.in-6.is)

pub short_at-requires : goal.short_at-requires
unfolding frame_length
short_at-requires c = omega (arith, sized _ _ 8 c.requires c.in-8.is)

pub bounds-f-2-in-9 : goal.bounds-f-2-in-9
unfolding frame_length
bounds-f-2-in-9 c = omega (arith, sized _ _ 9 c.requires c.in-9.is)

pub short_at-requires-in-12 : goal.short_at-requires-in-12
unfolding frame_length
short_at-requires-in-12 c = omega (arith, sized _ _ 12 c.requires c.in-12.is)

pub id_at-requires-in_default : goal.id_at-requires-in_default
unfolding frame_length
id_at-requires-in_default c = omega (arith, sized-else (length c.args.f.now) c.args.op c.requires (omega arith) (omega arith) (omega arith) (omega arith) (omega arith) (omega arith))

pub returns-in_err-try_from-in-1 : goal.returns-in_err-try_from-in-1
returns-in_err-try_from-in-1 c = let e = c.in_err-try_from-in-1.ensures in rest-open-user c.args.p c.args.f.now c.in-1.is e.1 (passed _ _ c.from_residual.ensures.1 e.0)

pub returns-in_err-try_from-in-6 : goal.returns-in_err-try_from-in-6
returns-in_err-try_from-in-6 c = let e = c.in_err-try_from-in-6.ensures in rest-transfer-peer c.args.p c.args.f.now c.in-6.is e.1 (passed _ _ c.from_residual-in_err-try_from-in-6.ensures.1 e.0)

pub returns-in_err-try_from-in-9 : goal.returns-in_err-try_from-in-9
returns-in_err-try_from-in-9 c = let e = c.in_err-try_from-in-9.ensures in rest-quota-user c.args.p c.args.f.now c.in-9.is e.1 (passed _ _ c.from_residual-in_err-try_from-in-9.ensures.1 e.0)

pub returns-in_ok-try_from-in-1 : goal.returns-in_ok-try_from-in-1
returns-in_ok-try_from-in-1 c = rest-open c.args.p c.args.f.now c.in-1.is _ c.in_ok-try_from-in-1.ensures

pub returns-in_ok-try_from-in-6 : goal.returns-in_ok-try_from-in-6
returns-in_ok-try_from-in-6 c = rest-transfer c.args.p c.args.f.now c.in-6.is _ _ c.id_at-in-6.ensures c.in_ok-try_from-in-6.ensures

pub returns-in_ok-try_from-in-9 : goal.returns-in_ok-try_from-in-9
returns-in_ok-try_from-in-9 c = rest-quota c.args.p c.args.f.now c.in-9.is _ c.in_ok-try_from-in-9.ensures

pub returns-in-2 : goal.returns-in-2
unfolding parse_rest
returns-in-2 c = rw c.in-2.is

pub returns-in-3 : goal.returns-in-3
unfolding parse_rest
returns-in-3 c = rw (c.in-3.is, ← c.id_at.ensures) c.parse_create.ensures

pub returns-in-4 : goal.returns-in-4
unfolding parse_rest
returns-in-4 c = rw (c.in-4.is, ← c.id_at-in-4.ensures)

pub returns-in-5 : goal.returns-in-5
unfolding parse_rest
returns-in-5 c = rw (c.in-5.is, ← c.id_at-in-5.ensures)

pub returns-in-8 : goal.returns-in-8
unfolding parse_rest
returns-in-8 c = rw (c.in-8.is, ← c.short_at.ensures.0)

pub returns-in-12 : goal.returns-in-12
unfolding parse_rest
returns-in-12 c = rw (c.in-12.is, ← c.short_at-in-12.ensures.0)

pub returns-in_default : goal.returns-in_default
returns-in_default c = rest-else c.args.op c.args.p c.args.f.now (omega arith) (omega arith) (omega arith) (omega arith) (omega arith) (omega arith) (omega arith) (omega arith) (omega arith) _ c.id_at-in_default.ensures
