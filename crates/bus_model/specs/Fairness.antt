-- The numbers of an order that was judged are in their bounds, whatever the judgement went by.
-- Assumes nothing.
use Rattle.std.specs.Prelude.{ℕ, ◌<◌, ◌≡◌, List, eqb, ltb}
use Rattle.std.proofs.Common.{eqb-true, ltb-true}
use native.Mathlib.Omega.{arith}
use Rattle.laws.specs.Tests.{pick, pick-then, pick-else, Seen, Seen.is_true, Seen.is_false, look}
use Rattle.ids.specs.Refusals.{EEXIST, ENOSPC}
use Rattle.frames.specs.declared.Command.{Command}
use Rattle.frames.specs.declared.Command.TheVariants.{Open, Disconnect, Create, Destroy, Release, Transfer, Send, Receive, Quota, Holders, ShowSeed}
use Rattle.frames.specs.Legal.{Legal}
use Rattle.model.specs.Numbers.{slots, nodes}
use Rattle.model.specs.Refusals.{refusal_by}
use Rattle.model.specs.Tested.{present-in, held_in}
use Rattle.model.proofs.Tested.{acting-in}
use Rattle.judges.specs.Orders.{Sight, resolved, places_in, unless_at, ruling_of}
use Rattle.bus_model.specs.Command.{Fair}

module _ (v : Sight) where
  free-below : (p i : ℕ) → pick (ltb (v.find p i) nodes) EEXIST (pick (ltb (v.free p) slots) 0 ENOSPC) ≡ 0 → v.free p < slots
  free-below p i e =
      let x = pick-else {A = ℕ} (ltb (v.find p i) nodes) EEXIST 0 (λ z. omega arith) e in
      let y = pick-then {A = ℕ} (ltb (v.free p) slots) ENOSPC 0 (λ z. omega arith) x.1 in
      ltb-true (v.free p) slots y.0

  fair-resolved : (f : List ℕ) (c : Command) → Legal f c → refusal_by v.find v.free v.state f c ≡ 0 → Fair (resolved v c)
  unfolding refusal_by
  fair-resolved f (Open p u) l e = omega arith
  fair-resolved f (Disconnect p) l e = omega arith
  fair-resolved f (Create p i) l e = (omega arith, omega (arith, free-below p.0 i.0 (acting-in v.state p.0 _ e).1))
  fair-resolved f (Destroy p i) l e = omega arith
  fair-resolved f (Release p i) l e = (omega arith, (held_in (v.find p.0) i.0 _ (acting-in v.state p.0 _ e).1).0)
  fair-resolved f (Transfer p i q) l e =
      let x = acting-in v.state p.0 _ e in
      (omega arith, (held_in (v.find p.0) i.0 _ (present-in (v.state.status q.0) _ x.1).1).0)
  fair-resolved f (Send p z) l e = (omega arith, l.1.few)
  fair-resolved f (Receive p room) l e = omega arith
  fair-resolved f (ShowSeed p room) l e = omega arith
  fair-resolved f (Quota p u) l e = omega arith
  fair-resolved f (Holders p i) l e = (held_in (v.find p.0) i.0 _ (present-in (v.state.status p.0) _ e).1).0

  pub fair : (f : List ℕ) (c : Command) → Legal f c → Fair (ruling_of v f c).order
  unfolding ruling_of
  fair f c l = go (look (eqb (refusal_by v.find v.free v.state f c) 0))
    where
      go : Seen (eqb (refusal_by v.find v.free v.state f c) 0) → Fair (unless_at (refusal_by v.find v.free v.state f c) (resolved v c) (places_in v f c)).order
      go (is_true e) = rw e (fair-resolved f c l (eqb-true (refusal_by v.find v.free v.state f c) 0 e))
      go (is_false e) = rw e tt
