-- `grants::valid` meets its contract: the tests are the definition's choices, in its order. Assumes nothing.
use Rattle.grants.specs.Code.{valid-live, valid-before, valid-other, valid-own}
use borrow.Author.Rules.{rules}
use Rattle.grants.proofs.valid.Goals as goal

pub returns-then-is_live : goal.returns-then-is_live
returns-then-is_live c = let a = c.args in valid-live a.nodes.now a.handles.now a.n a.p.0 a.s c.is_live.ensures c.if-is_live.true

pub returns-then-died_at-n : goal.returns-then-died_at-n
returns-then-died_at-n c = let a = c.args in valid-before a.nodes.now a.handles.now a.n a.p.0 a.s c.is_live.ensures c.if-is_live.false c.died_at.ensures c.if-died_at-n.true

pub returns-then-s-p : goal.returns-then-s-p
returns-then-s-p c = let a = c.args in valid-other a.nodes.now a.handles.now a.n a.p.0 a.s c.is_live.ensures c.if-is_live.false c.died_at.ensures c.if-died_at-n.false c.if-s-p.true

pub returns : goal.returns
returns c = let a = c.args in valid-own a.nodes.now a.handles.now a.n a.p.0 a.s c.is_live.ensures c.if-is_live.false c.died_at.ensures c.if-died_at-n.false c.if-s-p.false c.count_of.ensures.0
