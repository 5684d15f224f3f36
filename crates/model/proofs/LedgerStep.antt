-- The theorems that go with specs/LedgerStep.antt and stand on others: each goes by the definitions and the theorems there.
-- Assumes nothing.
use Rattle.std.specs.Prelude.{ℕ, suc, ◌+◌, ◌*◌, ◌<◌, ◌≡◌, List, map, eqb}
use Rattle.std.proofs.Math.Path.{refl}
use Rattle.std.proofs.Common.{sym, ap, subst, arith}
use Rattle.frames.specs.declared.Command.{Command}
use Rattle.frames.specs.declared.Command.TheVariants.{Open, Disconnect, Create, Destroy, Release, Transfer, Send, Receive, Quota, Holders, ShowSeed}
use Rattle.frames.specs.Frame.{payload_of}
use Rattle.frames.specs.Legal.{Legal}
use Rattle.model.specs.Numbers.{slots}
use Rattle.model.specs.Requests.{destinations, attached}
use Rattle.model.specs.State.{held, State, slot, free_place, Seed.kept, seed_carries}
use Rattle.model.specs.Tables.{accept}
use Rattle.model.specs.Changes.{give, give_all}
use Rattle.model.specs.Effects.{effect}
use Rattle.model.specs.Book.{Book}
use Rattle.model.specs.Tested.{Tested}
use Rattle.model.specs.IdsLaws.{Holding}
use Rattle.model.specs.Sim.{called, Sim}
use Rattle.model.specs.SimSend.{held-at-slot, noted-at-slot, nodes-of-slots}
use Rattle.model.specs.SimStep.{Ready, renamed, taken-unnamed}
use Rattle.model.specs.Ledger.{Ledger, ledger_give, ledger_give_all, ledger_counted, enter, with_book}
use Rattle.model.specs.LedgerSim.{Follows, held-entered, follows-book, follows-accept, follows-open, follows-seed, seed-nodes}
use Rattle.model.proofs.LedgerGive.{follows-give, follows-receive, follows-gives}
use Rattle.model.specs.LedgerQueues.{follows-send}
use Rattle.model.proofs.LedgerQueues.{follows-destroy, follows-release}
use Rattle.model.specs.LedgerCreate.{follows-create}
use Rattle.model.proofs.LedgerDisconnect.{follows-disconnect}
use Rattle.model.specs.LedgerStep.{entered_after, holding-accept}

module _ {N : ℕ} (name : ℕ → ℕ) (b : State) (f : List ℕ) (l : Ledger) (w : Sim N name b l.book) (r : Follows name l.book.entered b l) (ready : Ready b) (v : Holding b)
    (more : l.book.entered < N) where
  counted : Follows name l.book.entered (accept b) (ledger_counted l)
  counted = follows-accept b l r

  -- Create's number is no slot's name yet.
  unused : (t : ℕ) → name t ≡ l.book.entered → ⊥
  unused t e = let z = w.known t (rw e more) in omega arith

  pub follows-command : (c : Command) → Legal f c → Tested b f c → Follows (renamed name b l.book c) (entered_after l.book.entered c) (effect b f c) (enter l f c)
  unfolding effect enter
  follows-command (Open p u) legal tested = follows-open (accept b) (ledger_counted l) p.0 u.0 counted
  follows-command (Disconnect p) legal tested = unfold ledger_counted in follows-disconnect (accept b) (ledger_counted l) p.0 counted (holding-accept b v) w.apart
  follows-command (Create p i) legal tested =
      let x = taken-unnamed b p.0 ready tested.free in
      follows-create name l.book.entered (p.0 * slots + free_place (accept b) p.0) w.apart unused (accept b) (ledger_counted l) p.0 i.0 refl (omega (arith, x.0))
      (unfold ledger_counted in refl) counted x.1
  follows-command (Destroy p i) legal tested =
      let x = held-at-slot b p.0 i.0 tested.holds in
      rw (noted-at-slot name b l.book w p.0 i.0 tested.holds).1
      (follows-destroy b l p.0 (slot b p.0 i.0) r w.apart tested.owns (held-entered r.handles p.0 (slot b p.0 i.0) (ap held x.1)))
  follows-command (Release p i) legal tested =
      let x = held-at-slot b p.0 i.0 tested.holds in
      rw (x.1, (w.handles p.0).noted-at (slot b p.0 i.0) i.0 x.0 x.1) (follows-release b l p.0 (slot b p.0 i.0) i.0 x.0 r w.apart x.1)
  follows-command (Transfer p i q) legal tested =
      let s = slot b p.0 i.0 in
      rw (noted-at-slot name b l.book w p.0 i.0 tested.holds).1
      (subst (λ (j : ℕ). Follows name l.book.entered (give (accept b) q.0 (suc b.accepted) s) (ledger_give (ledger_counted l) q.0 (suc j) (called name s))) (sym r.accepted)
      (follows-give w.apart (accept b) (ledger_counted l) q.0 (suc b.accepted) s counted))
  follows-command (Send p z) legal tested =
      rw (nodes-of-slots name b l.book w p.0 (destinations f z) tested.holds, nodes-of-slots name b l.book w p.0 (attached f z) tested.holds-attached, w.users p.0)
      (follows-seed _ _ (eqb z.nd 0) p.0 (kept (payload_of f) (map (slot b p.0) (attached f z)))
      (follows-send (accept b) (ledger_counted l) (b.user p.0) (map (slot b p.0) (destinations f z)) (map (slot b p.0) (attached f z)) (payload_of f) counted))
  follows-command (Receive p room) legal tested =
      rw (r.queues p.0) (follows-receive w.apart (accept b) (ledger_counted l) p.0 (b.queue p.0) counted)
  follows-command (Quota p u) legal tested = r
  follows-command (Holders p i) legal tested = r
  follows-command (ShowSeed p room) legal tested =
      let ss = seed_carries (b.seed p.0) in
      rw (r.seeds p.0 (omega (arith, legal)), seed-nodes name (b.seed p.0))
      (subst (λ (j : ℕ). Follows name l.book.entered (give_all (accept b) p.0 (suc b.accepted) ss) (ledger_give_all (ledger_counted l) p.0 (suc j) (map (called name) ss))) (sym r.accepted)
      (follows-gives w.apart (accept b) (ledger_counted l) p.0 (suc b.accepted) ss counted))

-- The same with the book k that the ledger has, and the book after the command beside it.
pub follows_next : {N : ℕ} (name : ℕ → ℕ) (b : State) (f : List ℕ) (l : Ledger) (k : Book) → l.book ≡ k → Sim N name b k → Follows name k.entered b l → Ready b → Holding b → k.entered < N →
    (c : Command) → Legal f c → Tested b f c → (k' : Book) (E : ℕ) → E ≡ entered_after k.entered c → Follows (renamed name b k c) E (effect b f c) (with_book (enter l f c) k')
follows_next name b f l k e w r ready v more c legal tested k' E g =
    rw (g, ← e)
    (follows-book (effect b f c) (enter l f c) k' (follows-command name b f l (rw (← e) at w) (rw (← e) at r) ready v (rw (← e) at more) c legal tested))
