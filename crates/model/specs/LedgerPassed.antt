-- What an accepted command passed, in the ledger's words: the rows of the table that speak of IDs and nodes. And induction over the ledgers of a run.
-- Assumes nothing.
use Rattle.std.specs.Prelude.{ℕ, ◌<◌, ◌≡◌, refl, List, map}
use Rattle.std.proofs.Math.Path.{sym}
use Rattle.std.proofs.Common.{ap, ◌∙◌}
use Rattle.std.proofs.Math.Bool.{true}
use borrow.Author.Tests.{eq-eqb}
use Rattle.laws.specs.Tests.{clash}
use Rattle.laws.specs.Weights.{All, all-imp}
use Rattle.laws.specs.Loads.{all_map}
use Rattle.frames.specs.declared.Command.{Command}
use Rattle.frames.specs.declared.Command.TheVariants.{Open, Disconnect, Create, Destroy, Release, Transfer, Send, Receive, Quota, Holders, ShowSeed}
use Rattle.model.specs.Numbers.{nodes, owner}
use Rattle.model.specs.Requests.{destinations}
use Rattle.model.specs.State.{is_live, Handle.some, held, State, slot}
use Rattle.model.specs.Book.{Node, Noted.noted, nodes_of}
use Rattle.model.specs.Tested.{Tested}
use Rattle.model.specs.IdsLaws.{Holding}
use Rattle.model.specs.Sim.{called, Sim}
use Rattle.model.specs.SimSend.{held-at-slot, nodes-of-slots}
use Rattle.model.specs.Ledger.{Ledger}
use Rattle.model.specs.LedgerSim.{Follows, held-entered}

-- An ID that the peer holds: in the book it names a node, and the ledger has the handle under that node.
pub record Names (l : Ledger) (p i : ℕ) : Type 0 where
  pub node : Node
  pub count : ℕ
  pub named : l.book.handle p i ≡ noted node count
  pub handle : l.handle p node.number ≡ some i count
  pub counted : 0 < count
  pub maker : l.maker node.number ≡ node.owner

-- "ENXIO an ID the acting peer does not hold"; "EPERM destroy .. by a peer not the owner; release of a live node's owner handle at count 1"; "EHOSTUNREACH destroy of, transfer of, or
-- send to a node already destroyed".
abbrev pub Passed : Ledger → List ℕ → Command → Type 0
Passed l f (Open p u) = Unit {0}
Passed l f (Disconnect p) = Unit {0}
Passed l f (Create p i) = Unit {0}
Passed l f (Destroy p i) = (x : Names l p.0 i.0) × (x.node.owner ≡ p.0) × (l.lives x.node.number ≡ true)
Passed l f (Release p i) = (x : Names l p.0 i.0) × (x.node.owner ≡ p.0 → l.lives x.node.number ≡ true → x.count ≡ 1 → ⊥)
Passed l f (Transfer p i q) = (x : Names l p.0 i.0) × (l.lives x.node.number ≡ true)
Passed l f (Send p z) = All (λ n. l.lives n.number ≡ true) (nodes_of l.book p.0 (destinations f z))
Passed l f (Receive p room) = Unit {0}
Passed l f (Quota p u) = Unit {0}
Passed l f (Holders p i) = (x : Names l p.0 i.0) × (x.node.owner ≡ p.0)
Passed l f (ShowSeed p room) = Unit {0}

module _ {N : ℕ} (name : ℕ → ℕ) {E : ℕ} (b : State) (l : Ledger) (w : Sim N name b l.book) (r : Follows name E b l) (v : Holding b) where
  names : (p i : ℕ) → slot b p i < nodes → (x : Names l p i) × (b.handle p (slot b p i) ≡ some i x.count)
  names p i h =
      let s = slot b p i in
      let x = held-at-slot b p i h in (
        record {
          node = called name s;
          count = x.0;
          named = (w.handles p).noted-at s i x.0 x.1;
          handle = r.handles.same p s ∙ x.1;
          counted = (v.handles p).counted s i x.0 x.1;
          maker = r.lives.makers s (held-entered r.handles p s (ap held x.1));
        },
        x.1,
      )

  lives_at : (s : ℕ) → is_live (b.life s) ≡ true → l.lives (name s) ≡ true
  lives_at s e = r.lives.same s ∙ e

  pub passed-bus : (f : List ℕ) (c : Command) → Tested b f c → Passed l f c
  unfolding names
  passed-bus f (Open p u) t = tt
  passed-bus f (Disconnect p) t = tt
  passed-bus f (Create p i) t = tt
  passed-bus f (Destroy p i) t = let x = names p.0 i.0 t.holds in (x.0, t.owns, lives_at (slot b p.0 i.0) t.lives)
  passed-bus f (Release p i) t =
      let s = slot b p.0 i.0 in
      let x = names p.0 i.0 t.holds in (
        x.0,
        λ o v e.
            let z : is_live (b.life s) ≡ true = sym (r.lives.same s) ∙ v in
            clash (sym (rw (z, eq-eqb (owner s) p.0 o, x.1, eq-eqb x.0.count 1 e) refl) ∙ t.unpinned),
      )
  passed-bus f (Transfer p i q) t = let x = names p.0 i.0 t.holds in (x.0, lives_at (slot b p.0 i.0) t.lives)
  passed-bus f (Send p z) t =
      rw (nodes-of-slots name b l.book w p.0 (destinations f z) t.holds)
      (all_map (λ n. l.lives n.number ≡ true) (called name) (map (slot b p.0) (destinations f z))
      (all-imp (λ s. is_live (b.life s) ≡ true) (λ s. l.lives (name s) ≡ true) lives_at (map (slot b p.0) (destinations f z)) t.lives))
  passed-bus f (Receive p room) t = tt
  passed-bus f (Quota p u) t = tt
  passed-bus f (Holders p i) t = let x = names p.0 i.0 t.holds in (x.0, t.owns)
  passed-bus f (ShowSeed p room) t = tt
