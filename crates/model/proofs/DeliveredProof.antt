-- The theorems that go with specs/DeliveredProof.antt and stand on others: each goes by the definitions and the theorems there.
-- Assumes nothing.
use Prim.Native.Nat.{ℕ, suc, ◌+◌, ◌*◌, ◌^◌, ◌≤◌, ◌<◌}
use Rattle.std.specs.Prelude.{◌≡◌, refl, true, false, List, [], ◌∷◌, ◌++◌, map, length, get_or, drop, eqb}
use Rattle.std.proofs.Math.Path.{sym, ap}
use Rattle.std.proofs.Common.{ap₂, ◌∙◌, append_assoc, arith, length-append}
use Rattle.std.proofs.lemmas.List.{length-map}
use Rattle.std.proofs.Math.Seq.{drop-append_seam}
use borrow.Author.Tests.{eq-eqb}
use Rattle.laws.specs.Tests.{Seen, Seen.is_true, Seen.is_false, look, clash}
use Rattle.laws.specs.Tables.{upd}
use Rattle.laws.specs.Bytes.{be, num_at, be-length, be-two, be-eight, num-two, num-at}
use Rattle.laws.specs.Weights.{All}
use Rattle.ids.specs.declared.Peer.{Peer}
use Rattle.frames.specs.declared.Sizes.{Sizes}
use Rattle.frames.specs.declared.Command.{Command}
use Rattle.frames.specs.declared.Command.TheVariants.{Open, Disconnect, Create, Destroy, Release, Transfer, Send, Receive, Quota, Holders, ShowSeed}
use Rattle.frames.specs.Frame.{opcode}
use Rattle.answers.specs.Answer.{bit, id_bytes}
use Rattle.answers.specs.AnswerLaws.{ids-length}
use Rattle.model.specs.Numbers.{invalid, next_id}
use Rattle.model.specs.Lists.{any}
use Rattle.model.specs.Requests.{destinations, attached}
use Rattle.model.specs.State.{Handle, Handle.none, Handle.some, held, id_or, Message, Entry, Entry.message, Entry.destroyed, Entry.released, State, start}
use Rattle.model.specs.Changes.{take_out}
use Rattle.model.specs.Step.{Call, step, run, answer_of}
use Rattle.model.specs.Book.{Node, Noted.noted, Book, nodes_of, Fed, answers_message, shown_ids, acting_peer, sizes_of}
use Rattle.model.specs.Claim.{fed, history_from, book_after}
use Rattle.model.proofs.Tally.{tallied}
use Rattle.model.specs.Accepted.{Accepted}
use Rattle.model.proofs.Accepted.{accepted-call}
use Rattle.model.proofs.Tested.{tested}
use Rattle.model.specs.Coded.{coded}
use Rattle.model.specs.Charged.{Fine}
use Rattle.model.proofs.ChargedProof.{always-charged}
use Rattle.model.specs.Notices.{Stands}
use Rattle.model.proofs.NoticesProof.{noted as always-noted}
use Rattle.model.specs.SimHandles.{some_of}
use Rattle.model.specs.SimGive.{enough}
use Rattle.model.specs.SimStep.{ReceiveShows}
use Rattle.model.proofs.SimRun.{ready, shows}
use Rattle.model.proofs.Shown.{receive-destroyed, receive-released}
use Rattle.model.specs.Ledger.{Letter, Item, Item.message as message_item, Ledger, valid_at, ledger_queues, of_command, own_name, due_ids, due_item, ledger_after}
use Rattle.model.specs.LedgerSim.{letter_of, item_of}
use Rattle.model.proofs.LedgerGive.{shown-all-due, follows-out}
use Rattle.model.specs.History.{history-append}
use Rattle.model.specs.Sources.{Source, Sourced, Story}
use Rattle.model.proofs.Sources.{story}
use Rattle.model.proofs.Named.{attached-shown as attached-named}
use Rattle.model.proofs.Due.{answers-due}
use Rattle.model.specs.Rows.{book_of}
use Rattle.model.specs.Happened.{happened-at}
use Rattle.model.specs.Shows.{AtOnePlace}
use Rattle.model.specs.Delivered.{Sent, SentItem, LettersSent, new_nodes, ahead, attached_id, AttachedShown, Delivered, Delivers}
use Rattle.model.specs.Attached.{ahead-le, new-front, live-id, at_map}
use Rattle.model.proofs.Attached.{due_all}
use Rattle.model.specs.DeliveredProof.{bytes as parts, named-at}

-- A source, in the words of the history.
sent-of : (cs : List Call) (name : ℕ → ℕ) (n : ℕ) (m : Message) → Source cs name n m → Sent (history_from start cs) n (letter_of name m)
sent-of cs name n m s =
    let f = s.call.frame in
    let b = run s.before in
    let x = coded f (Send s.peer s.sizes) s.accepted.read in
    let z = s.accepted.legal.1 in
    let acting : acting_peer f ≡ s.peer.0 = x.peer in
    let sized : s.sizes ≡ sizes_of f = λ j. record { nd = z.destinations j; nh = z.attached j; nb = z.bytes j } in
    record {
      before = history_from start s.before;
      send = fed s.call (step b s.call);
      after = history_from (step b s.call).state s.after;
      place = ap (history_from start) s.place ∙ history-append s.before (s.call ∷ s.after) start ∙ unfold history_from in refl;
      accepted = s.accepted.number;
      sends = eq-eqb (opcode f) 7 x.byte;
      number = s.number ∙ ap suc (tallied s.before);
      id = s.id;
      among = ap (λ (y : Sizes). any (eqb s.id) (destinations f y)) (sym sized) ∙ s.among;
      count = s.count;
      to = ap (λ (q : ℕ). (book_after s.before).handle q s.id) acting ∙ s.to;
      user = s.user ∙ ap (λ (q : ℕ). (book_after s.before).user q) (sym acting);
      payload = s.payload;
      carried = sym (ap₂ (λ (q : ℕ) (y : Sizes). nodes_of (book_after s.before) q (attached f y)) acting (sym sized) ∙ s.carried);
    }

sent-all : (cs : List Call) (name : ℕ → ℕ) (es : List Entry) → All (Sourced cs name) es → All (SentItem (history_from start cs)) (map (item_of name) es)
sent-all cs name [] a = tt
sent-all cs name (message n m ∷ es) a = (sent-of cs name n m a.0, sent-all cs name es a.1)
sent-all cs name (destroyed n s ∷ es) a = (tt, sent-all cs name es a.1)
sent-all cs name (released n s ∷ es) a = (tt, sent-all cs name es a.1)

pub letters-sent : LettersSent
letters-sent xs h p =
    let cs = h.calls in
    let w = story (length cs) cs (omega arith) in
    let a : All (SentItem (history_from start cs)) ((ledger_after cs).queue p) = rw (w.follows.queues p) (sent-all cs w.name ((run cs).queue p) (w.sources p)) in
    rw h.same at a

-- Where the parts of a message stand in its bytes; a seed's have another kind.
module _ (kind to user flag nb nh : ℕ) (ids payload : List ℕ) where
  abbrev bytes : List ℕ
  bytes = parts kind to user flag nb nh ids payload

  pub bytes-to : to < 256 ^ 8 → num_at bytes 2 8 ≡ to
  bytes-to l = num-at (0 ∷ kind ∷ []) _ 2 8 to refl l

  pub bytes-user : get_or bytes 10 0 ≡ user
  bytes-user = rw (be-eight to) refl

  pub bytes-flag : get_or bytes 11 0 ≡ flag
  bytes-flag = rw (be-eight to) refl

  pub bytes-nb : nb < 65536 → num_at bytes 12 2 ≡ nb
  bytes-nb l = rw (num-two, be-eight to, be-two nb) (omega arith)

  pub bytes-nh : get_or bytes 14 0 ≡ nh
  bytes-nh = rw (be-eight to, be-two nb) refl

  pub bytes-payload : drop (15 + 8 * length ids) bytes ≡ payload
  bytes-payload =
      let front = 0 ∷ kind ∷ be 8 to ++ (user ∷ flag ∷ be 2 nb ++ (nh ∷ id_bytes ids)) in
      let n : length front ≡ 15 + 8 * length ids = simp (length-append, be-length) (omega (arith, ids-length ids)) in
      let e : bytes ≡ front ++ payload = simp append_assoc in
      rw (e, ← n) (drop-append_seam front payload)

-- The IDs of a message, by the ledger l and the book k of a run.
module _ (l : Ledger) (k : Book) (p : ℕ) (small : (n i c : ℕ) → l.handle p n ≡ some i c → i < invalid) (few : l.given p + 8 < enough)
    (same : (n : Node) (j c : ℕ) → k.handle p j ≡ noted n c → l.handle p n.number ≡ some j c) (as_of : ℕ) (ns : List Node) (most : length ns ≤ 8) where
  id-valid : (n : Node) (x : Handle) → l.handle p n.number ≡ x → id_or (next_id (l.given p + ahead n.number (new_nodes l p as_of ns))) x ≡ invalid → ⊥
  id-valid n none e z = let y = new-front l p as_of [] ns in let w : length (new_nodes l p as_of ns) ≡ length y.0 = ap length y.1 in omega (arith, ahead-le n.number (new_nodes l p as_of ns), w, y.2)
  id-valid n (some i c) e z = omega (arith, small n.number i c e)

  pub attached-shown : (ids : List ℕ) → ids ≡ map (attached_id l p as_of (new_nodes l p as_of ns)) ns → AttachedShown l k p as_of ids ns
  attached-shown ids e =
      let at : (i : ℕ) (n : Node) → AtOnePlace i n ids ns → i ≡ attached_id l p as_of (new_nodes l p as_of ns) n = λ i n a. at_map (attached_id l p as_of (new_nodes l p as_of ns)) i n ns (rw e at a) in
      record {
        each = e;
        one_each = ap length e ∙ length-map ns (attached_id l p as_of (new_nodes l p as_of ns));
        destroyed-invalid = λ i n a z. at i n a ∙ rw z refl;
        invalid-destroyed = λ i n a z. dead i n (at i n a) z (look (valid_at l p as_of n.number));
        existing = λ i n a z j c y. at i n a ∙ live-id l p as_of (new_nodes l p as_of ns) n z ∙ ap (id_or _) (same n j c y);
        new = λ i n a z y. at i n a ∙ live-id l p as_of (new_nodes l p as_of ns) n z ∙ ap (id_or _) y;
        one-id = λ i j n a b. at i n a ∙ sym (at j n b);
      }
    where
      dead : (i : ℕ) (n : Node) → i ≡ attached_id l p as_of (new_nodes l p as_of ns) n → i ≡ invalid → Seen (valid_at l p as_of n.number) → valid_at l p as_of n.number ≡ false
      dead i n e z (is_false y) = y
      dead i n e z (is_true y) = absurd (id-valid n (l.handle p n.number) refl (sym (live-id l p as_of (new_nodes l p as_of ns) n y) ∙ sym e ∙ z))

-- What the ledger of a run has of a peer's handles.
module _ (cs : List Call) (w : Story (suc (length cs)) cs) (p : ℕ) where
  pub ledger-small : (n i c : ℕ) → (ledger_after cs).handle p n ≡ some i c → i < invalid
  ledger-small n i c e =
      let x = w.follows.handles.placed p n (ap held e) in
      (w.ids p x.0 i c (sym (w.follows.handles.same p x.0) ∙ ap ((ledger_after cs).handle p) x.1 ∙ e)).1

  pub ledger-few : (ledger_after cs).given p + 8 < enough
  ledger-few = omega (arith, w.follows.given p, (ready cs w.ids).few p)

  pub ledger-same : (n : Node) (j c : ℕ) → (book_after cs).handle p j ≡ noted n c → (ledger_after cs).handle p n.number ≡ some j c
  ledger-same n j c e =
      let x = (w.sim.handles p).held_at j n c e in
      ap (λ (y : Node). (ledger_after cs).handle p y.number) x.3 ∙ w.follows.handles.same p x.0 ∙ x.2

-- An accepted receive of which a message is the first entry.
module _ (cs : List Call) (c : Call) (p : Peer) (room : ℕ) (a : Accepted (run cs) c (Receive p room)) (w : Story (suc (length cs)) cs) where
  abbrev b : State
  b = run cs

  abbrev l : Ledger
  l = ledger_after cs

  abbrev answer : List ℕ
  answer = answer_of (step (run cs) c)

  module _ (n : ℕ) (m : Message) (q : List Entry) (e : b.queue p.0 ≡ message n m ∷ q) where
    abbrev letter : Letter
    letter = letter_of w.name m

    abbrev rest : List Item
    rest = map (item_of w.name) q

    abbrev due : List ℕ
    due = due_ids (ledger_queues l (upd l.queue p.0 rest)) p.0 n letter.carried

    in-queue : l.queue p.0 ≡ message_item n letter ∷ rest
    in-queue = w.follows.queues p.0 ∙ ap (map (item_of w.name)) e

    message-due : answer ≡ bytes 1 (own_name l p.0 letter.to) m.user (bit (any (of_command n) rest)) (length m.payload) (length letter.carried) due m.payload
    message-due = answers-due cs c (Receive p room) a.read a.number ∙ ap (due_item l p.0) in-queue

    ids-due : shown_ids answer ≡ due
    ids-due =
        let y : ReceiveShows b p.0 (message n m ∷ q) answer = rw e at (shows b c (Receive p room) a (ready cs w.ids)) in
        y.1 ∙ sym (shown-all-due w.sim.apart (take_out b p.0 (m ∷ []) q) _ p.0 n m.carried (follows-out w.sim.apart b l p.0 (m ∷ []) q w.follows))

    due-each : due ≡ map (attached_id l p.0 n (new_nodes l p.0 n letter.carried)) letter.carried
    due-each = due_all l (upd l.queue p.0 rest) p.0 n letter.carried

    shows-letter : acting_peer c.frame ≡ p.0 → Delivered (history_from start cs) (fed c (step b c))
    shows-letter acts =
        let st : Stands b.handle b.life p.0 (message n m) = (rw e at ((always-noted cs).stands p.0)).0 in
        let fine : Fine m = (rw e at ((always-charged cs).at p.0).fine).0 in
        let source : Source cs w.name n m = (rw e at (w.sources p.0)).0 in
        let y = some_of (b.handle p.0 m.to) st.1 in
        let to : own_name l p.0 letter.to ≡ y.0 = ap (id_or invalid) (w.follows.handles.same p.0 m.to ∙ y.2) in
        let small : y.0 < invalid = (w.ids p.0 m.to y.0 y.1 y.2).1 in
        let shown : num_at answer 2 8 ≡ y.0 = rw message-due (bytes-to 1 _ _ _ _ _ _ _ (rw to (omega (arith, small)))) ∙ to in
        let nh : get_or answer 14 0 ≡ length letter.carried = rw message-due (bytes-nh 1 _ _ _ _ _ _ _) in
        let long : length due ≡ length letter.carried = ap length due-each ∙ length-map letter.carried _ in
        let most : length letter.carried ≤ 8 = rw length-map fine.few in
        let h : book_of (history_from start cs ++ (fed c (step b c) ∷ [])) ≡ book_after (cs ++ (c ∷ [])) = sym (ap book_of (history-append cs (c ∷ []) start ∙ unfold history_from in refl)) in
        record {
          number = n;
          letter = letter;
          rest = rest;
          first = rw acts in-queue;
          sent = sent-of cs w.name n m source;
          count = y.1;
          to = rw (shown, acts) ((w.sim.handles p.0).noted-at m.to y.0 y.1 y.2);
          user = rw message-due (bytes-user 1 _ _ _ _ _ _ _);
          flag = rw message-due (bytes-flag 1 _ _ _ _ _ _ _);
          nb = rw message-due (bytes-nb 1 _ _ _ _ _ _ _ (omega (arith, fine.small)));
          nh = nh;
          ids =
              rw acts
              (attached-shown l (book_after cs) p.0 (ledger-small cs w p.0) (ledger-few cs w p.0) (ledger-same cs w p.0) n letter.carried most (shown_ids answer)
              (ids-due ∙ due-each));
          named = λ i k z v. rw (h, acts) (named-at (book_after (cs ++ (c ∷ []))) p.0 i k (shown_ids answer) letter.carried (attached-named cs c p room a n m q e w) z v);
          payload =
              rw (nh, ← long)
              (rw message-due
              (bytes-payload 1 (own_name l p.0 letter.to) m.user (bit (any (of_command n) rest)) (length m.payload) (length letter.carried) due m.payload));
        }

  received : acting_peer c.frame ≡ p.0 → (q : List Entry) → b.queue p.0 ≡ q → answers_message answer ≡ true → Delivered (history_from start cs) (fed c (step b c))
  received acts [] e z = absurd (omega (arith, rw e at (tested b c.frame (Receive p room) a.unrefused).next))
  received acts (message n m ∷ q) e z = shows-letter n m q e acts
  received acts (destroyed n s ∷ q) e z = clash (sym z ∙ receive-destroyed b c p room a n s q e)
  received acts (released n s ∷ q) e z = clash (sym z ∙ receive-released b c p room a n s q e)

delivers-call : (cs : List Call) (c : Call) → (step (run cs) c).outcome.number ≡ 0 → opcode c.frame ≡ 8 → answers_message (answer_of (step (run cs) c)) ≡ true →
    Delivered (history_from start cs) (fed c (step (run cs) c))
delivers-call cs c zero eight says = let y = accepted-call (run cs) c zero in go y.0 y.1
  where
    go : (k : Command) → Accepted (run cs) c k → Delivered (history_from start cs) (fed c (step (run cs) c))
    go (Open p u) a = absurd (omega (arith, (coded c.frame (Open p u) a.read).byte))
    go (Disconnect p) a = absurd (omega (arith, (coded c.frame (Disconnect p) a.read).byte))
    go (Create p i) a = absurd (omega (arith, (coded c.frame (Create p i) a.read).byte))
    go (Destroy p i) a = absurd (omega (arith, (coded c.frame (Destroy p i) a.read).byte))
    go (Release p i) a = absurd (omega (arith, (coded c.frame (Release p i) a.read).byte))
    go (Transfer p i q) a = absurd (omega (arith, (coded c.frame (Transfer p i q) a.read).byte))
    go (Send p z) a = absurd (omega (arith, (coded c.frame (Send p z) a.read).byte))
    go (Receive p room) a = received cs c p room a (story (suc (length cs)) cs (omega arith)) (coded c.frame (Receive p room) a.read).peer ((run cs).queue p.0) refl says
    go (Quota p u) a = absurd (omega (arith, (coded c.frame (Quota p u) a.read).byte))
    go (Holders p i) a = absurd (omega (arith, (coded c.frame (Holders p i) a.read).byte))
    go (ShowSeed p room) a = absurd (omega (arith, (coded c.frame (ShowSeed p room) a.read).byte))

pub delivers : Delivers
delivers xs ys x h zero eight says =
    let t = happened-at xs ys x h in
    let d : Delivered (history_from start t.before) (fed t.call (step (run t.before) t.call)) =
    delivers-call t.before t.call (ap (λ (y : Fed). y.number) t.gives ∙ zero) (ap (λ (y : Fed). opcode y.frame) t.gives ∙ eight)
    (ap (λ (y : Fed). answers_message y.answer) t.gives ∙ says) in
    on-history d t.first t.gives
  where
    on-history : {us vs : List Fed} {u v : Fed} → Delivered us u → us ≡ vs → u ≡ v → Delivered vs v
    on-history d e f = rw (← e, ← f) d
