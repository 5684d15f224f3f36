-- `notices::expire_shown` meets its contract: the loop's invariant is the rings after the places passed. Assumes nothing.
use Prim.Native.Nat.{◌%◌}
use lib.ListN.{get_or}
use Rattle.rings.specs.Rings.{rings_of}
use Rattle.rings.specs.Lent.{lent, SameTables}
use Rattle.notices.specs.Notices.{own_invalid}
use Rattle.notices.specs.Code.{Expiring}
use Rattle.model.specs.Numbers.{nodes as node_count}
use Rattle.notices.proofs.expire_shown.Given as goal

abbrev pub invariant-loop-k : goal.invariant-loop-k
invariant-loop-k l = record { same : SameTables l.initial.rings l.rings; done : Expiring l.nodes l.handles l.charges l.p.0 (own_invalid l.p.0 l.slots l.ids) (λ j. get_or l.slots j 0 % node_count) (lent l.initial.rings) (lent l.rings) l.k l.nh }
