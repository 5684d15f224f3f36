-- The theorems that go with specs/HandlesIn.antt and stand on others: each goes by the definitions and the theorems there.
-- Assumes nothing.
use Rattle.std.specs.Prelude.{ℕ, ◌≤◌, ◌≡◌, refl, true, List, length}
use Rattle.std.proofs.Common.{sym, ap, ◌∙◌, arith}
use Rattle.laws.specs.Tests.{clash}
use Rattle.laws.specs.Weights.{all-imp}
use Rattle.laws.specs.Loads.{all_map}
use Rattle.model.specs.Numbers.{owner}
use Rattle.model.specs.State.{is_live, Handle.some, held, start}
use Rattle.model.specs.Step.{Call, run}
use Rattle.model.specs.Book.{Node}
use Rattle.model.specs.Claim.{history_from, book_after}
use Rattle.model.specs.Queues.{stamp}
use Rattle.model.proofs.OrderProof.{order}
use Rattle.model.specs.NoticesFree.{holder-peer}
use Rattle.model.proofs.NoticesProof.{noted as always-noted}
use Rattle.model.proofs.IdsProof.{sound-ids, holding}
use Rattle.model.specs.Sim.{called}
use Rattle.model.specs.Sources.{Story}
use Rattle.model.proofs.Sources.{story}
use Rattle.model.specs.Ledger.{ledger_after, item_number}
use Rattle.model.specs.LedgerSim.{item_of, below, lives-entered, held-entered}
use Rattle.model.specs.Tally.{tally}
use Rattle.model.proofs.Tally.{tallied}
use Rattle.model.specs.HandlesIn.{HandlesOf, NodesOf, OrderedIn, HandlesIn, NodesIn, OrderIn, entry-number, items-in-order}

-- An ID that the book has noted, at its slot.
module _ (cs : List Call) where
  w : Story (length cs) cs
  w = story (length cs) cs (omega arith)

  handles-of : (p : ℕ) → HandlesOf (book_after cs) (ledger_after cs) p
  handles-of p =
      let b = run cs in
      let at_slot = (w.sim.handles p).held_at in
      let ids = sound-ids cs p in
      record {
        one-id = λ i j n m c d e f z.
            let x = at_slot i n c e in
            let y = at_slot j m d f in
            let s : x.0 ≡ y.0 = w.sim.apart x.0 y.0 (sym (ap (λ (k : Node). k.number) x.3) ∙ z ∙ ap (λ (k : Node). k.number) y.3) in
            let t : some i c ≡ some j d = sym x.2 ∙ ap (b.handle p) s ∙ y.2 in
            cc t;
        counted = λ i n c e. let x = at_slot i n c e in ids.counted x.0 i c x.2;
        chosen = λ i n c e o. let x = at_slot i n c e in ids.chosen x.0 i c x.2 (sym (ap (λ (k : Node). k.owner) x.3) ∙ o);
        given = λ i n c e o.
            let x = at_slot i n c e in
            let g = ids.given x.0 i c x.2 (λ z. o (ap (λ (k : Node). k.owner) x.3 ∙ z)) in
            (g.0, omega (arith, g.1, w.follows.given p), g.2);
        to-ledger = λ i n c e. let x = at_slot i n c e in rw x.3 (w.follows.handles.same p x.0 ∙ x.2);
        to-book = λ m i c e.
            let x = w.follows.handles.placed p m (rw e refl) in
            let z : b.handle p x.0 ≡ some i c = sym (w.follows.handles.same p x.0) ∙ ap ((ledger_after cs).handle p) x.1 ∙ e in
            (called w.name x.0, x.1, (w.sim.handles p).noted-at x.0 i c z);
        one-node = λ n m i c d e f.
            let x = w.follows.handles.placed p n (rw e refl) in
            let y = w.follows.handles.placed p m (rw f refl) in
            let u : b.handle p x.0 ≡ some i c = sym (w.follows.handles.same p x.0) ∙ ap ((ledger_after cs).handle p) x.1 ∙ e in
            let v : b.handle p y.0 ≡ some i d = sym (w.follows.handles.same p y.0) ∙ ap ((ledger_after cs).handle p) y.1 ∙ f in
            sym x.1 ∙ ap w.name (ids.distinct x.0 y.0 i c d u v) ∙ y.1;
        holder = λ n e.
            let x = w.follows.handles.placed p n e in
            holder-peer b p x.0 (always-noted cs) (ap held (sym (w.follows.handles.same p x.0) ∙ ap ((ledger_after cs).handle p) x.1) ∙ e);
      }

  alive-held : (s n : ℕ) → w.name s ≡ n → (ledger_after cs).lives n ≡ true → held ((ledger_after cs).handle ((ledger_after cs).maker n) n) ≡ true
  alive-held s n z e =
      let alive : is_live ((run cs).life s) ≡ true = sym (w.follows.lives.same s) ∙ ap (ledger_after cs).lives z ∙ e in
      let made : (ledger_after cs).maker (w.name s) ≡ owner s = w.follows.lives.makers s (lives-entered w.follows.lives s alive) in
      rw (← z, made, w.follows.handles.same (owner s) s) ((holding cs).owned s alive)

  nodes-of : NodesOf (book_after cs) (ledger_after cs)
  nodes-of =
      record {
        one-node = λ p q i j n m c d e f z.
            let x = (w.sim.handles p).held_at i n c e in
            let y = (w.sim.handles q).held_at j m d f in
            let s : x.0 ≡ y.0 = w.sim.apart x.0 y.0 (sym (ap (λ (k : Node). k.number) x.3) ∙ z ∙ ap (λ (k : Node). k.number) y.3) in
            x.3 ∙ ap (called w.name) s ∙ sym y.3;
        makers = λ p i n c e.
            let x = (w.sim.handles p).held_at i n c e in
            rw x.3 (w.follows.lives.makers x.0 (held-entered w.follows.handles p x.0 (ap held x.2)));
        entered = λ p i n c e.
            let x = (w.sim.handles p).held_at i n c e in
            rw x.3 (held-entered w.follows.handles p x.0 (ap held x.2));
        living-entered = λ n e. below n (book_after cs).entered (λ z. clash (sym e ∙ w.follows.lives.fresh n z));
        living-held = λ n e. let x = w.follows.lives.placed n e in alive-held x.0 n x.1 e;
      }

ordered_of : (cs : List Call) (p : ℕ) → OrderedIn (history_from start cs) ((ledger_after cs).queue p)
ordered_of cs p =
    let v = story (length cs) cs (omega arith) in
    let o = order cs p in
    rw (v.follows.queues p)
    (record {
      in_order = items-in-order v.name ((run cs).queue p) o.in_order;
      numbered =
          all_map (λ e. item_number e ≤ tally (history_from start cs)) (item_of v.name) ((run cs).queue p)
          (all-imp (λ e. stamp e ≤ (run cs).accepted) (λ e. item_number (item_of v.name e) ≤ tally (history_from start cs)) (λ e z. omega (arith, entry-number v.name e, tallied cs))
          ((run cs).queue p) o.numbered);
    })

pub handles-in : HandlesIn
handles-in xs h p = rw h.same at (handles-of h.calls p)

pub nodes-in : NodesIn
nodes-in xs h = rw h.same at (nodes-of h.calls)

pub order-in : OrderIn
order-in xs h p = rw h.same at (ordered_of h.calls p)
