-- The theorems that go with specs/ShowsNames.antt and stand on others: each goes by the definitions and the theorems there.
-- Assumes nothing.
use Rattle.std.specs.Prelude.{ℕ, suc, ◌^◌, ◌<◌, ◌≡◌, true, ◌⊎◌, length, get_or}
use Rattle.std.proofs.Math.Path.{refl, sym, ap, ap₂}
use Rattle.std.proofs.Common.{subst, ◌∙◌, arith, eq-eqb}
use Rattle.std.proofs.Math.Logic.◌⊎◌.{inl, inr}
use mathlib.Core.List.{List, [], ◌∷◌, ◌++◌, map, append-nil}
use Rattle.laws.specs.Tables.{upd_same}
use Rattle.laws.specs.Bytes.{be, num_at}
use Rattle.ids.specs.declared.HandleId.{HandleId}
use Rattle.frames.specs.declared.Command.{Command}
use Rattle.frames.specs.declared.Command.TheVariants.{Open, Disconnect, Create, Destroy, Release, Transfer, Send, Receive, Quota, Holders, ShowSeed}
use Rattle.frames.specs.Frame.{opcode, id_at}
use Rattle.frames.proofs.Fields.{fields-command}
use Rattle.model.specs.Numbers.{invalid, peers}
use Rattle.model.specs.State.{Handle.some, held, id_or, Entry, Entry.message, Entry.destroyed, Entry.released, start, seed_carries}
use Rattle.model.specs.Step.{Call, step, run, answer_of}
use Rattle.model.specs.Book.{Node, Noted, Noted.noted, count_of, Book, put_handle, note_transfer, Fed, note, answered_id, shown_ids, acting_peer}
use Rattle.model.specs.Claim.{fed, history_from, book_after}
use Rattle.model.specs.Accepted.{Accepted}
use Rattle.model.proofs.Accepted.{accepted-call}
use Rattle.model.specs.Coded.{coded, destination as transfer-peer}
use Rattle.model.specs.Notices.{Stands}
use Rattle.model.proofs.NoticesProof.{noted as always-noted}
use Rattle.model.proofs.FirstHeld.{notice-held}
use Rattle.model.specs.Sim.{called}
use Rattle.model.specs.Sources.{Story, book-noted}
use Rattle.model.proofs.Sources.{story}
use Rattle.model.specs.Ledger.{Letter, Item, Item.message as message_item, Item.destroyed as destroyed_item, Item.released as released_item, Ledger, own_name, due_item, ledger_after, LedgerSeed.kept as kept_seed, seed_nodes}
use Rattle.model.specs.LedgerSim.{item_of, seed-nodes}
use Rattle.model.specs.History.{history-append}
use Rattle.model.specs.SimHandles.{some_of}
use Rattle.model.specs.DeliveredProof.{named-at}
use Rattle.model.proofs.DeliveredProof.{delivers}
use Rattle.model.proofs.Due.{answers-due}
use Rattle.model.specs.Named.{ShownFor}
use Rattle.model.proofs.Named.{seed-shown}
use Rattle.model.specs.Exchanges.{is-show}
use Rattle.model.specs.Rows.{book_of}
use Rattle.model.specs.Happened.{Happened, of-next}
use Rattle.model.specs.Shows.{Takes, AtOnePlace, Shows, Shows.destination, Shows.attached, Shows.destruction, Shows.release, Shows.transferred, Shows.seeded}
use Rattle.model.specs.ShowsNames.{HoldsAs, node_of, id-at, NamedIn}

module _ (cs : List Call) (p : ℕ) where
  abbrev k : Book
  k = book_after cs

  abbrev l : Ledger
  l = ledger_after cs

  at_slot : (w : Story (length cs) cs) (s i c : ℕ) → (run cs).handle p s ≡ some i c → HoldsAs k l p i (called w.name s)
  at_slot w s i c e = record { count = c; named = (w.sim.handles p).noted-at s i c e; handle = w.follows.handles.same p s ∙ e; valid = (w.ids p s i c e).1 }

  -- What the book has noted, the ledger holds; and the other way.
  pub named-held : (i : ℕ) (n : Node) (c : ℕ) → k.handle p i ≡ noted n c → HoldsAs k l p i n
  named-held i n c e =
      let w = story (length cs) cs (omega arith) in
      let x = (w.sim.handles p).held_at i n c e in
      subst (HoldsAs k l p i) (sym x.3) (at_slot w x.0 i c x.2)

  pub held-named : (n i c : ℕ) → l.handle p n ≡ some i c → (m : Node) × (k.handle p i ≡ noted m c)
  held-named n i c e =
      let w = story (length cs) cs (omega arith) in
      let x = w.follows.handles.placed p n (ap held e) in
      let f : (run cs).handle p x.0 ≡ some i c = sym (w.follows.handles.same p x.0) ∙ ap (l.handle p) x.1 ∙ e in
      (called w.name x.0, (w.sim.handles p).noted-at x.0 i c f)

  -- A peer holds the node of the item that stands first.
  pub first-held : (x : Item) (rest : List Item) → l.queue p ≡ x ∷ rest → (i : ℕ) × HoldsAs k l p i (node_of x)
  first-held x rest e = let w = story (length cs) cs (omega arith) in go w ((run cs).queue p) refl (sym (w.follows.queues p) ∙ e)
    where
      slot_held : (w : Story (length cs) cs) (s : ℕ) → held ((run cs).handle p s) ≡ true → (i : ℕ) × HoldsAs k l p i (called w.name s)
      slot_held w s h = let y = some_of ((run cs).handle p s) h in (y.0, at_slot w s y.0 y.1 y.2)

      entry-held : (w : Story (length cs) cs) (d : Entry) (q : List Entry) → (run cs).queue p ≡ d ∷ q → Stands (run cs).handle (run cs).life p d → (i : ℕ) × HoldsAs k l p i (node_of (item_of w.name d))
      entry-held w (message n m) q z st = slot_held w m.to st.1
      entry-held w (destroyed n s) q z st = slot_held w s (notice-held cs p n s q z)
      entry-held w (released n s) q z st = slot_held w s (rw st.1 at ((always-noted cs).owned s st.0))

      go : (w : Story (length cs) cs) (q : List Entry) → (run cs).queue p ≡ q → map (item_of w.name) q ≡ x ∷ rest → (i : ℕ) × HoldsAs k l p i (node_of x)
      go w [] z y = absurd (omega (arith, ap length y))
      go w (d ∷ q) z y =
          let f : item_of w.name d ≡ x = cc y in
          subst (λ (u : Item). (i : ℕ) × HoldsAs k l p i (node_of u)) f (entry-held w d q z (rw z at ((always-noted cs).stands p)).0)

due-id : (l : Ledger) (p i : ℕ) (x : Item) (rest : List Item) → own_name l p (node_of x) ≡ i → i < 256 ^ 8 → num_at (due_item l p (x ∷ rest)) 2 8 ≡ i
due-id l p i (message_item k m) rest e small = rw e (id-at 1 i _ small)
due-id l p i (destroyed_item k n) rest e small = rw (e, sym (append-nil (be 8 i))) (id-at 2 i [] small)
due-id l p i (released_item k n) rest e small = rw (e, sym (append-nil (be 8 i))) (id-at 3 i [] small)

-- What a call gives, and the bytes of its answer.
abbrev given : List Call → Call → Fed
given cs c = fed c (step (run cs) c)

abbrev bytes : List Call → Call → List ℕ
bytes cs c = answer_of (step (run cs) c)

-- One receive of p that came back with 0.
module _ (cs : List Call) (c : Call) (p : ℕ) where
  -- What is due of the first item.
  pub takes-due : (kind : ℕ) → Takes p kind (given cs c) → bytes cs c ≡ due_item (ledger_after cs) p ((ledger_after cs).queue p)
  takes-due kind t = let y = accepted-call (run cs) c t.number in go y.0 y.1
    where
      go : (d : Command) → Accepted (run cs) c d → bytes cs c ≡ due_item (ledger_after cs) p ((ledger_after cs).queue p)
      go (Open q u) a = absurd (omega (arith, t.byte, (coded c.frame (Open q u) a.read).byte))
      go (Disconnect q) a = absurd (omega (arith, t.byte, (coded c.frame (Disconnect q) a.read).byte))
      go (Create q j) a = absurd (omega (arith, t.byte, (coded c.frame (Create q j) a.read).byte))
      go (Destroy q j) a = absurd (omega (arith, t.byte, (coded c.frame (Destroy q j) a.read).byte))
      go (Release q j) a = absurd (omega (arith, t.byte, (coded c.frame (Release q j) a.read).byte))
      go (Transfer q j r) a = absurd (omega (arith, t.byte, (coded c.frame (Transfer q j r) a.read).byte))
      go (Send q z) a = absurd (omega (arith, t.byte, (coded c.frame (Send q z) a.read).byte))
      go (Quota q u) a = absurd (omega (arith, t.byte, (coded c.frame (Quota q u) a.read).byte))
      go (Holders q j) a = absurd (omega (arith, t.byte, (coded c.frame (Holders q j) a.read).byte))
      go (ShowSeed q room) a = absurd (omega (arith, t.byte, (coded c.frame (ShowSeed q room) a.read).byte))
      go (Receive q room) a =
          let f : q.0 ≡ p = sym (coded c.frame (Receive q room) a.read).peer ∙ t.peer in
          answers-due cs c (Receive q room) a.read t.number ∙ ap (λ (r : ℕ). due_item (ledger_after cs) r ((ledger_after cs).queue r)) f

  -- As the ID of the first item's node.
  pub first-named : (kind : ℕ) (x : Item) (rest : List Item) → Takes p kind (given cs c) → (ledger_after cs).queue p ≡ x ∷ rest → HoldsAs (book_after cs) (ledger_after cs) p (num_at (bytes cs c) 2 8) (node_of x)
  first-named kind x rest t q =
      let h = first-held cs p x rest q in
      let j = h.0 in
      let e : own_name (ledger_after cs) p (node_of x) ≡ j = ap (id_or invalid) h.1.handle in
      let f : bytes cs c ≡ due_item (ledger_after cs) p (x ∷ rest) = takes-due kind t ∙ ap (due_item (ledger_after cs) p) q in
      let g : num_at (bytes cs c) 2 8 ≡ j = rw f (due-id (ledger_after cs) p j x rest e (omega (arith, h.1.valid))) in
      rw g h.1

-- One call that shows something.
module _ (cs : List Call) (c : Call) (p i : ℕ) (n : Node) where
  abbrev Named : List Call → Type 0
  Named ds = (d : ℕ) × ((book_after ds).handle p i ≡ noted n d)

  first-shown : (kind : ℕ) (x : Item) (rest : List Item) → Takes p kind (given cs c) → (ledger_after cs).queue p ≡ x ∷ rest → node_of x ≡ n → num_at (bytes cs c) 2 8 ≡ i → Named cs
  first-shown kind x rest t q e f =
      let h = first-named cs c p kind x rest t q in
      (h.count, ap ((book_after cs).handle p) (sym f) ∙ h.named ∙ ap (λ (m : Node). noted m h.count) e)

  -- As an attached ID.
  attached-shown : (k : ℕ) (m : Letter) (rest : List Item) → Takes p 1 (given cs c) → (ledger_after cs).queue p ≡ message_item k m ∷ rest → AtOnePlace i n (shown_ids (bytes cs c)) m.carried →
      (i ≡ invalid → ⊥) → Named (cs ++ (c ∷ []))
  attached-shown k m rest t q a v =
      let xs = history_from start cs in
      let next : history_from start (cs ++ (c ∷ [])) ≡ xs ++ (given cs c ∷ []) = history-append cs (c ∷ []) start ∙ unfold history_from in refl in
      let d = delivers xs [] (given cs c) (record { calls = cs ++ (c ∷ []); same = next }) t.number t.byte (eq-eqb _ _ t.says) in
      let f : message_item k m ∷ rest ≡ message_item d.number d.letter ∷ d.rest = sym q ∙ ap (ledger_after cs).queue (sym t.peer) ∙ d.first in
      let g : m ≡ d.letter = cc f in
      let y = d.named i n (subst (λ (l : Letter). AtOnePlace i n (shown_ids (bytes cs c)) l.carried) g a) v in
      (y.0, ap (λ (l : List Fed). (book_of l).handle p i) next ∙ ap (λ (r : ℕ). (book_of (xs ++ (given cs c ∷ []))).handle r i) (sym t.peer) ∙ y.1)

  -- As the answer of a transfer.
  raised : (k : Book) (h : Noted) (c q j : ℕ) → h ≡ noted n c → (d : ℕ) × ((note_transfer k h q j).handle q j ≡ noted n d)
  unfolding put_handle
  raised k h c q j e = (suc (count_of (k.handle q j)), rw (e, upd_same, upd_same) refl)

  transfer-shown : (d : ℕ) → (given cs c).number ≡ 0 → opcode c.frame ≡ 6 → get_or c.frame 10 0 ≡ p →
      (book_after cs).handle (acting_peer c.frame) (id_at c.frame 2).0 ≡ noted n d → answered_id (bytes cs c) ≡ i → Named (cs ++ (c ∷ []))
  transfer-shown d zero six to source shown = let y = accepted-call (run cs) c zero in go y.0 y.1
    where
      go : (k : Command) → Accepted (run cs) c k → Named (cs ++ (c ∷ []))
      go (Open q u) a = absurd (omega (arith, six, (coded c.frame (Open q u) a.read).byte))
      go (Disconnect q) a = absurd (omega (arith, six, (coded c.frame (Disconnect q) a.read).byte))
      go (Create q j) a = absurd (omega (arith, six, (coded c.frame (Create q j) a.read).byte))
      go (Destroy q j) a = absurd (omega (arith, six, (coded c.frame (Destroy q j) a.read).byte))
      go (Release q j) a = absurd (omega (arith, six, (coded c.frame (Release q j) a.read).byte))
      go (Send q z) a = absurd (omega (arith, six, (coded c.frame (Send q z) a.read).byte))
      go (Receive q room) a = absurd (omega (arith, six, (coded c.frame (Receive q room) a.read).byte))
      go (Quota q u) a = absurd (omega (arith, six, (coded c.frame (Quota q u) a.read).byte))
      go (Holders q j) a = absurd (omega (arith, six, (coded c.frame (Holders q j) a.read).byte))
      go (ShowSeed q room) a = absurd (omega (arith, six, (coded c.frame (ShowSeed q room) a.read).byte))
      go (Transfer q j t) a =
          let f = fields-command c.frame (Transfer q j t) a.read in
          let k = book_after cs in
          let acts : q.0 ≡ acting_peer c.frame = f.0.peer in
          let id : j.0 ≡ (id_at c.frame 2).0 = ap (λ (v : HandleId). v.0) f.1 in
          let source-held : k.handle q.0 j.0 ≡ noted n d = ap₂ (λ (v u : ℕ). k.handle v u) acts id ∙ source in
          let peer : t.0 ≡ p = sym (transfer-peer c.frame q j t a.read) ∙ to in
          let e : book_after (cs ++ (c ∷ [])) ≡ note_transfer k (k.handle q.0 j.0) t.0 (answered_id (bytes cs c)) = book-noted cs c (Transfer q j t) a ∙ unfold note in refl in
          let z = raised k (k.handle q.0 j.0) d t.0 (answered_id (bytes cs c)) source-held in (
            z.0,
            ap (λ (v : Book). v.handle p i) e
                ∙ ap₂ (λ (v u : ℕ). (note_transfer k (k.handle q.0 j.0) t.0 (answered_id (bytes cs c))).handle v u) (sym peer) (sym shown)
                ∙ z.1,
          )

  -- As an attached ID of a seed.
  seed-named : (payload : List ℕ) (ns : List Node) → (given cs c).number ≡ 0 → opcode c.frame ≡ 12 → acting_peer c.frame ≡ p → (ledger_after cs).seed p ≡ kept_seed payload ns →
      AtOnePlace i n (shown_ids (bytes cs c)) ns → (i ≡ invalid → ⊥) → Named (cs ++ (c ∷ []))
  seed-named payload ns zero twelve acts e at v =
      let y = accepted-call (run cs) c zero in
      let k = coded c.frame y.0 y.1.read in
      let d = is-show y.0 (sym k.byte ∙ twelve) in
      let a : Accepted (run cs) c (ShowSeed d.0 d.1) = subst (Accepted (run cs) c) d.2 y.1 in
      let f : d.0.0 ≡ p = sym (coded c.frame (ShowSeed d.0 d.1) a.read).peer ∙ acts in
      let w = story (suc (length cs)) cs (omega arith) in
      let m : d.0.0 < peers = omega (arith, a.legal) in
      let g : map (called w.name) (seed_carries ((run cs).seed d.0.0)) ≡ ns =
      sym (seed-nodes w.name ((run cs).seed d.0.0)) ∙ ap seed_nodes (sym (w.follows.seeds d.0.0 m)) ∙ ap (λ (q : ℕ). seed_nodes ((ledger_after cs).seed q)) f ∙ ap seed_nodes e in
      let s : ShownFor (book_after (cs ++ (c ∷ []))) p (shown_ids (bytes cs c)) ns = rw (← f, ← g) (seed-shown cs c d.0 d.1 a w) in
      named-at (book_after (cs ++ (c ∷ []))) p i n (shown_ids (bytes cs c)) ns s at v

  shown-named : Shows (history_from start cs) (given cs c) p i n → Named cs ⊎ Named (cs ++ (c ∷ []))
  shown-named (destination k m rest t q e f) = inl (first-shown 1 (message_item k m) rest t q e f)
  shown-named (attached k m rest t q a v) = inr (attached-shown k m rest t q a v)
  shown-named (destruction k rest t q f) = inl (first-shown 2 (destroyed_item k n) rest t q refl f)
  shown-named (release k rest t q f) = inl (first-shown 3 (released_item k n) rest t q refl f)
  shown-named (transferred d zero six to source shown) = inr (transfer-shown d zero six to source shown)
  shown-named (seeded payload ns zero twelve acts e at v) = inr (seed-named payload ns zero twelve acts e at v)

pub shows-names : (xs ys : List Fed) (x : Fed) → Happened (xs ++ (x ∷ ys)) → (p i : ℕ) (n : Node) → Shows xs x p i n → NamedIn xs p i n ⊎ NamedIn (xs ++ (x ∷ [])) p i n
shows-names = of-next (λ us y vs. (p i : ℕ) (n : Node) → Shows us y p i n → NamedIn us p i n ⊎ NamedIn vs p i n) shown-named
