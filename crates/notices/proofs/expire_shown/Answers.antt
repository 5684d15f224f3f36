-- `notices::expire_shown` meets its contract: the loop's invariant is the rings after the places passed. Assumes nothing.
use Prim.Native.Nat.{ℕ, ◌%◌}
use mathlib.Core.Path.{ap, sym, subst, ◌∙◌}
use lib.ListN.{get_or}
use Rattle.rings.specs.Rings.{rings_of}
use Rattle.rings.specs.Lent.{lent, SameTables, same-self, same-again}
use Rattle.notices.specs.Notices.{own_invalid}
use Rattle.notices.specs.Code.{expiring-start, expiring-in, expiring-out, expiring-all, shown-valid, shown-own, shown-other}
use Rattle.model.specs.Numbers.{nodes as node_count}
use Rattle.notices.proofs.expire_shown.Goals as goal
use Rattle.notices.proofs.expire_shown.Goals.{then-ids-k+then-s-p, then-ids-k+else-s-p, else-ids-k}

pub loop-k-init : goal.loop-k-init
loop-k-init c = record { same = same-self; done = expiring-start c.args.nodes.now c.args.handles.now c.args.charges.now c.args.p.0 (own_invalid c.args.p.0 c.args.slots c.args.ids) (λ k. get_or c.args.slots k 0 % node_count) (lent c.args.rings.now) c.args.nh c.args.rings.now.sized.ends c.args.rings.now.sized.rows }

pub loop-k-preserved : goal.loop-k-preserved
loop-k-preserved c =
    let a = c.args in
    let before = lent a.rings.now in
    let here = own_invalid a.p.0 a.slots a.ids in
    let slot_at : ℕ → ℕ = λ k. get_or a.slots k 0 % node_count in
    let v = c.loop-k.invariant in
    let l = c.loop-k-test.true in
    elim c.if-ids-k.branch [
      | then-ids-k+then-s-p w ↦
          record {
            same = same-again v.same (subst (SameTables c.loop-k.rings) (sym w.rings-is) w.expire.ensures.same);
            done = expiring-in a.nodes.now a.handles.now a.charges.now a.p.0 here slot_at before a.nh v.done l
                (shown-own a.p.0 a.slots a.ids c.loop-k.k w.if-ids-k.true w.from-s.ensures w.if-s-p.true)
                (ap (λ (x : ℕ). x % node_count) w.from-s.ensures)
                (ap lent w.rings-is ∙ w.expire.ensures.done);
          }
      | then-ids-k+else-s-p w ↦
          record {
            same = subst (SameTables a.rings.now) (sym w.rings-is) v.same;
            done = expiring-out a.nodes.now a.handles.now a.charges.now a.p.0 here slot_at before a.nh v.done l
                (shown-other a.p.0 a.slots a.ids c.loop-k.k w.if-ids-k.true w.from-s.ensures w.if-s-p.false)
                (ap lent w.rings-is);
          }
      | else-ids-k w ↦
          record {
            same = subst (SameTables a.rings.now) (sym w.rings-is) v.same;
            done = expiring-out a.nodes.now a.handles.now a.charges.now a.p.0 here slot_at before a.nh v.done l
                (shown-valid a.p.0 a.slots a.ids c.loop-k.k w.if-ids-k.false)
                (ap lent w.rings-is);
          }
    ]

pub returns-clause-done : goal.returns-clause-done
returns-clause-done c = expiring-all c.args.nodes.now c.args.handles.now c.args.charges.now c.args.p.0 (own_invalid c.args.p.0 c.args.slots c.args.ids) (λ k. get_or c.args.slots k 0 % node_count) (lent c.args.rings.now) c.args.nh c.loop-k.invariant.done c.loop-k-test.false
