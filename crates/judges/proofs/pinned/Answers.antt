-- `judges::pinned` meets its contract: the three tests are the model's, in its order. Assumes nothing.
use Rattle.judges.specs.CodeOrders.{pinned-dead, pinned-foreign, pinned-own}
use Rattle.std.proofs.Common.{sym, ◌∙◌}
use borrow.Author.Rules.{rules}
use Rattle.judges.proofs.pinned.Goals as goal
use Rattle.judges.proofs.pinned.Goals.{then-is_live, else-is_live}

pub returns-then-s-p : goal.returns-then-s-p
returns-then-s-p c =
    elim c.if-is_live.branch [
      | then-is_live w ↦ pinned-own c.args.nodes.now c.args.handles.now c.args.p.0 c.args.s c.requires.2 c.requires.3 c.is_live.ensures w.if-is_live.true (sym w.value-is ∙ c.if-s-p.true) c.count_of.ensures.0
      | else-is_live w ↦ search rules
    ]

pub returns-else-s-p : goal.returns-else-s-p
returns-else-s-p c =
    elim c.if-is_live.branch [
      | then-is_live w ↦ c.if-s-p.false ∙ pinned-foreign c.args.nodes.now c.args.handles.now c.args.p.0 c.args.s c.requires.2 c.requires.3 c.is_live.ensures w.if-is_live.true (sym w.value-is ∙ c.if-s-p.false)
      | else-is_live w ↦ c.if-s-p.false ∙ pinned-dead c.args.nodes.now c.args.handles.now c.args.p.0 c.args.s c.requires.2 c.requires.3 c.is_live.ensures w.if-is_live.false
    ]
