-- `rings::remove` meets its contract: a queue of which nothing matches stays as it is; else the sweep, from the first that matches on, has stored what stays, and the length is its number. Assumes nothing.
use Rattle.rings.specs.Search.{remove-made}
use Rattle.rings.specs.Search.{found_within, found_before, remove-none}
use native.Mathlib.Omega.{arith}
use Rattle.rings.proofs.lent.RingTables.remove.Goals as goal

pub first_match-from-requires : goal.first_match-from-requires
first_match-from-requires c = let z = c.args.self.now.sized in (c.requires.0, c.head-head.ensures.1, omega (arith, c.requires.1, c.len-len.ensures.0))

pub returns-then-from-len-clause-done : goal.returns-then-from-len-clause-done
returns-then-from-len-clause-done c = let a = c.args in let t = a.self.now in remove-none t.entries.now t.carried.now t.numbers.now a.p.0 _ _ a.m c.first_match-from.ensures t.ends.now t.sized.rows (omega (arith, c.requires.1, c.len-len.ensures)) c.head-head.ensures.0 c.len-len.ensures.0 c.if-from-len.true

pub sweep-kept-requires : goal.sweep-kept-requires
sweep-kept-requires c = let a = c.args in let t = a.self.now in let f = c.first_match-from.ensures in (t.sized.rows, c.requires.0, c.head-head.ensures.1, omega (arith, c.requires.1, c.len-len.ensures), found_within t.entries.now t.carried.now t.numbers.now a.p.0 _ _ a.m f, found_before t.entries.now t.carried.now t.numbers.now a.p.0 _ _ a.m f)

pub returns-clause-done : goal.returns-clause-done
returns-clause-done c = let a = c.args in let t = a.self.now in remove-made t.ends.now t.entries.now t.carried.now t.numbers.now a.p.0 a.m c.head-head.ensures.0 c.len-len.ensures.0 c.sweep-kept.ensures.0
