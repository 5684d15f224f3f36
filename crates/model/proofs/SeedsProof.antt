-- The theorems that go with specs/SeedsProof.antt and stand on others: each goes by the definitions and the theorems there.
-- Assumes nothing.
use Prim.Native.Nat.{ℕ, suc, ◌%◌, ◌≤◌, ◌<◌}
use Rattle.std.specs.Prelude.{◌≡◌, Bool, true, false, not, ◌⊎◌, List, [], ◌∷◌, ◌++◌, map, length, get_or, eqb}
use Rattle.std.proofs.Math.Path.{refl, sym, ap, ap₂}
use Rattle.std.proofs.Common.{subst, ◌∙◌, append_assoc, append-nil, arith, eqb-true, le-ltb}
use Rattle.std.proofs.Math.Logic.◌⊎◌.{inl, inr}
use Rattle.std.proofs.lemmas.List.{length-map}
use Rattle.laws.specs.Tests.{clash, Same, Same.same, Same.other, same?}
use Rattle.laws.specs.Tables.{upd_same}
use Rattle.laws.specs.Weights.{All, all_append}
use Rattle.ids.specs.declared.HandleId.{HandleId}
use Rattle.ids.specs.declared.Peer.{Peer}
use Rattle.frames.specs.declared.Command.TheVariants.{Create, Send, ShowSeed}
use Rattle.frames.specs.Frame.{opcode, short_at, payload_of}
use Rattle.frames.proofs.Fields.{fields-command}
use Rattle.frames.specs.Legal.{payload-length}
use Rattle.model.specs.Numbers.{invalid}
use Rattle.model.specs.Lists.{both, either}
use Rattle.model.specs.State.{Seed, Seed.unset as unset_slots, Seed.kept as kept_slots, seed_carries, start}
use Rattle.model.specs.Requests.{attached}
use Rattle.model.specs.Step.{Call, step, run, answer_of}
use Rattle.model.specs.Book.{Node, Noted, Noted.blank, Noted.noted, node_in, Book, nodes_of, Fed, note, note_create, shown_ids, is_seed, acting_peer, sizes_of}
use Rattle.model.specs.Claim.{fed, history_from, book_after}
use Rattle.model.specs.Refusals.{showable}
use Rattle.model.proofs.Tested.{tested}
use Rattle.model.specs.Accepted.{Accepted}
use Rattle.model.proofs.Accepted.{accepted-call}
use Rattle.model.specs.Coded.{coded}
use Rattle.model.specs.Occurs.{both_true}
use Rattle.model.proofs.NoticesProof.{noted as always-noted}
use Rattle.model.specs.Sim.{called}
use Rattle.model.proofs.SimRun.{ready, shows}
use Rattle.model.specs.History.{history-append, book-noted, ledger-book}
use Rattle.model.specs.Sources.{Story}
use Rattle.model.proofs.Sources.{story}
use Rattle.model.specs.Ledger.{LedgerSeed.unset, LedgerSeed.kept, seed_nodes, Ledger, valid_at, due_ids, due_seed, ledger_after}
use Rattle.model.specs.LedgerSim.{seed_of, seed-nodes}
use Rattle.model.proofs.LedgerGive.{shown-all-due}
use Rattle.model.proofs.LedgerSeeds.{seeds-small}
use Rattle.model.specs.Rows.{book_of, ledger_of, is_unset}
use Rattle.model.proofs.RowsRun.{noted-entered, entered-grows, entered-next}
use Rattle.model.specs.OneNode.{Creates, Named}
use Rattle.model.proofs.OneNode.{named-call, one-node}
use Rattle.model.specs.Named.{ShownFor}
use Rattle.model.proofs.Named.{seed-shown}
use Rattle.model.proofs.Due.{answers-due}
use Rattle.model.specs.Happened.{Happened, happened-front, of_cut, of-next}
use Rattle.model.specs.Shows.{AtOnePlace}
use Rattle.model.specs.Delivered.{AttachedShown}
use Rattle.model.proofs.Attached.{due-each}
use Rattle.model.specs.DeliveredProof.{bytes, named-at}
use Rattle.model.proofs.DeliveredProof.{bytes-to, bytes-user, bytes-flag, bytes-nb, bytes-nh, bytes-payload, attached-shown, ledger-small, ledger-few, ledger-same}
use Rattle.model.specs.Exchanges.{Entered, is-create, is-send, is-show}
use Rattle.model.proofs.Exchanges.{entered}
use Rattle.model.proofs.HandlesIn.{nodes-in}
use Rattle.model.specs.LedgerLaws.{attached_nodes}
use Rattle.model.proofs.LedgerLawsProof.{send-in}
use Rattle.model.specs.Lives.{ended_in}
use Rattle.model.proofs.Lives.{made-lives}
use Rattle.model.proofs.ShowsNames.{named-held}
use Rattle.model.specs.ShowsAnew.{creates?}
use Rattle.model.proofs.ShowsAnew.{create-fresh}
use Rattle.model.specs.Seeds.{sets_seed, LastSeed, nodes_then, ended_since, lived_then, SeedShown, ShowsLastSeed}
use Rattle.model.proofs.LedgerGone.{died-before}
use Rattle.model.proofs.SeedsLast.{seed-is-last, last-or-unset}
use Rattle.model.specs.SeedsProof.{NotedAs}

-- As of a command that is not yet accepted a node is shown exactly if it lives.
pub valid-live : (l : Ledger) (p n : ℕ) → l.died n ≤ l.accepted → valid_at l p (suc l.accepted) n ≡ l.lives n
unfolding valid_at
valid-live l p n past = rw (le-ltb (suc l.accepted) (l.died n) (omega (arith, past))) (go (l.lives n))
  where
    go : (x : Bool) → either x false ≡ x
    go true = refl
    go false = refl

-- A place of two lists.
pub at_all : (P : Node → Type 0) (i : ℕ) (n : Node) (is : List ℕ) (ns : List Node) → AtOnePlace i n is ns → All P ns → P n
at_all P i n [] ns a h = absurd a
at_all P i n (j ∷ is) [] a h = absurd a
at_all P i n (j ∷ is) (m ∷ ns) (inl z) h = subst P z.1 h.0
at_all P i n (j ∷ is) (m ∷ ns) (inr z) h = at_all P i n is ns z h.1

pub nodes-noted : (k : Book) (p : ℕ) (is : List ℕ) → All (NotedAs k p) (nodes_of k p is)
nodes-noted k p [] = tt
nodes-noted k p (i ∷ is) = all_append (NotedAs k p) (node_in (k.handle p i)) (nodes_of k p is) (one (k.handle p i) refl) (nodes-noted k p is)
  where
    one : (x : Noted) → k.handle p i ≡ x → All (NotedAs k p) (node_in x)
    one blank e = tt
    one (noted n c) e = ((i, c, e), tt)

-- A node that an ID named lives where it did and was not ended since.
lives-since : (p i : ℕ) (n : Node) (c : ℕ) (xs ys : List Fed) → Happened (xs ++ ys) → (book_of xs).handle p i ≡ noted n c →
    (ledger_of (xs ++ ys)).lives n.number ≡ both ((ledger_of xs).lives n.number) (not (ended_in xs ys n.owner n.number))
lives-since p i n c =
    of_cut (λ us vs ws. (book_of us).handle p i ≡ noted n c → (ledger_of ws).lives n.number ≡ both ((ledger_of us).lives n.number) (not (ended_in us vs n.owner n.number)))
    (λ cs ds e.
    made-lives cs ds n.owner n.number
    (record { entered = noted-entered cs p i n c e; maker = (nodes-in (history_from start cs) (record { calls = cs; same = refl })).makers p i n c e }))

-- The 07, as its frame says it.
set-frame : (xs : List Fed) (x : Fed) → Happened (xs ++ (x ∷ [])) → (p : ℕ) → sets_seed p x ≡ true →
    (length (payload_of x.frame) ≡ short_at x.frame 4) × (length (attached_nodes (book_of xs) p x.frame) ≡ get_or x.frame 3 0)
set-frame xs x h p s =
    let a = both_true (eqb x.number 0) (both (is_seed x.frame) (eqb (acting_peer x.frame) p)) s in
    let b = both_true (is_seed x.frame) (eqb (acting_peer x.frame) p) a.1 in
    let c = both_true (eqb (opcode x.frame) 7) (eqb (get_or x.frame 2 0) 0) b.0 in
    let zero : x.number ≡ 0 = eqb-true x.number 0 a.0 in
    let seven : opcode x.frame ≡ 7 = eqb-true (opcode x.frame) 7 c.0 in
    let acts : acting_peer x.frame ≡ p = eqb-true (acting_peer x.frame) p b.1 in
    let y = entered xs x h zero in
    let d = is-send y.0 (sym (coded x.frame y.0 y.1.read).byte ∙ seven) in
    let e : Entered xs x (Send d.0 d.1) = subst (Entered xs x) d.2 y.1 in
    (payload-length x.frame d.1 e.legal.1 ∙ e.legal.1.bytes, (send-in xs x h p (record { number = zero; byte = seven; peer = acts })).each-attached)

-- What an accepted create of p under i enters is the book's next node.
created-number : (cs : List Call) (c : Call) (p i : ℕ) → Creates p i (fed c (step (run cs) c)) → (m : Node) (d : ℕ) → (book_after (cs ++ (c ∷ []))).handle p i ≡ noted m d →
    m.number ≡ (book_after cs).entered
created-number cs c p i k m d e =
    let y = accepted-call (run cs) c k.number in
    let g = is-create y.0 (sym (coded c.frame y.0 y.1.read).byte ∙ k.byte) in
    let a : Accepted (run cs) c (Create g.0 g.1) = subst (Accepted (run cs) c) g.2 y.1 in
    let f = fields-command c.frame (Create g.0 g.1) a.read in
    let q : g.0.0 ≡ p = f.0.peer ∙ k.peer in
    let j : g.1.0 ≡ i = ap (λ (v : HandleId). v.0) f.1 ∙ k.id in
    let b : book_after (cs ++ (c ∷ [])) ≡ note_create (book_after cs) g.0.0 g.1.0 = book-noted cs c (Create g.0 g.1) a ∙ unfold note in refl in
    let n : (note_create (book_after cs) p i).handle p i ≡ noted m d =
    ap₂ (λ (v u : ℕ). (note_create (book_after cs) v u).handle p i) (sym q) (sym j) ∙ ap (λ (v : Book). v.handle p i) (sym b) ∙ e in
    sym (ap (λ (x : Noted). number_or x) (sym (entered-as (book_after cs)) ∙ n))
  where
    number_or : Noted → ℕ
    number_or blank = 0
    number_or (noted x c) = x.number

    entered-as : (k : Book) → (note_create k p i).handle p i ≡ noted (record { owner = p; number = k.entered }) 1
    entered-as k = unfold note_create in rw (upd_same, upd_same) refl

-- So from then on the ID names no node that was entered before that create.
module _ (p i E : ℕ) (chosen : i % 4 ≡ 0) where
  abbrev NoOlder : List Call → Type 0
  NoOlder cs = (E ≤ (book_after cs).entered) × ((m : Node) (d : ℕ) → (book_after cs).handle p i ≡ noted m d → E ≤ m.number)

  older-next : (cs : List Call) (c : Call) → NoOlder cs → NoOlder (cs ++ (c ∷ []))
  older-next cs c h = (omega (arith, h.0, entered-next cs c), λ m d e. go m d e (creates? p i (fed c (step (run cs) c))))
    where
      old : (m : Node) → Named (run cs) (book_after cs) p i m → E ≤ m.number
      old m (inl y) = h.1 m y.0 y.1
      old m (inr y) = absurd (omega (arith, y.1, chosen))

      go : (m : Node) (d : ℕ) → (book_after (cs ++ (c ∷ []))).handle p i ≡ noted m d → Creates p i (fed c (step (run cs) c)) ⊎ (Creates p i (fed c (step (run cs) c)) → ⊥) → E ≤ m.number
      go m d e (inl k) = omega (arith, h.0, created-number cs c p i k m d e)
      go m d e (inr k) = old m (named-call cs c p i k m d e)

  older-run : (cs ds : List Call) → NoOlder cs → NoOlder (cs ++ ds)
  older-run cs [] h = subst NoOlder (sym (append-nil cs)) h
  older-run cs (c ∷ ds) h = subst NoOlder (append_assoc cs (c ∷ []) ds) (older-run (cs ++ (c ∷ [])) ds (older-next cs c h))

first_of : Fed → List Fed → Fed
first_of x [] = x
first_of x (y ∷ ys) = y

is-empty : List Fed → Bool
is-empty [] = true
is-empty (y ∷ ys) = false

abbrev NamesNewer : ℕ → ℕ → List Fed → List Fed → List Fed → Type 0
NamesNewer p i us vs ws = (y : Fed) (ys : List Fed) → vs ≡ y ∷ ys → Creates p i y → (m : Node) (d : ℕ) → (book_of ws).handle p i ≡ noted m d → (book_of us).entered ≤ m.number

newer-calls : (p i : ℕ) (cs ds : List Call) → NamesNewer p i (history_from start cs) (history_from (run cs) ds) (history_from start (cs ++ ds))
unfolding history_from first_of is-empty
newer-calls p i cs [] y ys e k m d h = clash (ap is-empty e)
newer-calls p i cs (c ∷ ds) y ys e k m d h =
    let g : fed c (step (run cs) c) ≡ y = ap (first_of y) e in
    let j : Creates p i (fed c (step (run cs) c)) = subst (Creates p i) (sym g) k in
    let E = (book_after cs).entered in
    let start-here : NoOlder p i E (create-fresh cs c p i j).0 (cs ++ (c ∷ [])) = (entered-next cs c, λ m d e. omega (arith, created-number cs c p i j m d e)) in
    let r = older-run p i E (create-fresh cs c p i j).0 (cs ++ (c ∷ [])) ds start-here in
    r.1 m d (ap (λ (l : List Call). (book_after l).handle p i) (append_assoc cs (c ∷ []) ds) ∙ h)

names-newer : (p i : ℕ) (xs ys : List Fed) (y : Fed) → Happened (xs ++ (y ∷ ys)) → Creates p i y → (m : Node) (d : ℕ) → (book_of (xs ++ (y ∷ ys))).handle p i ≡ noted m d → (book_of xs).entered ≤ m.number
names-newer p i xs ys y h k m d e = of_cut (NamesNewer p i) (newer-calls p i) xs (y ∷ ys) h y ys refl k m d e

history-grows : (xs ys : List Fed) → Happened (xs ++ ys) → (book_of xs).entered ≤ (book_of (xs ++ ys)).entered
history-grows = of_cut (λ us vs ws. (book_of us).entered ≤ (book_of ws).entered) entered-grows

create-chosen : (p i : ℕ) (xs ys : List Fed) (y : Fed) → Happened (xs ++ (y ∷ ys)) → Creates p i y → i % 4 ≡ 0
create-chosen p i xs ys y h = of-next (λ us z vs. Creates p i z → i % 4 ≡ 0) (λ cs c k. (create-fresh cs c p i k).0) xs ys y h

-- Tests.
either-dead : (s t : Bool) → both s (not t) ≡ false → (s ≡ false) ⊎ (t ≡ true)
either-dead false t e = inl refl
either-dead true true e = inr refl
either-dead true false e = clash e

dead-first : (s t : Bool) → s ≡ false → both s (not t) ≡ false
dead-first s t e = rw e refl

dead-second : (s t : Bool) → t ≡ true → both s (not t) ≡ false
dead-second false t e = refl
dead-second true t e = rw e refl

-- An accepted 0c of a peer whose last seed is s.
module _ (cs : List Call) (c : Call) (p : Peer) (room : ℕ) (a : Accepted (run cs) c (ShowSeed p room)) (w : Story (suc (length cs)) cs) (s : LastSeed (history_from start cs) p.0) where
  abbrev hs : List Fed
  hs = history_from start cs

  abbrev x : Fed
  x = fed c (step (run cs) c)

  abbrev l : Ledger
  l = ledger_after cs

  abbrev answer : List ℕ
  answer = answer_of (step (run cs) c)

  abbrev ns : List Node
  ns = nodes_then (history_from start cs) p.0 s

  abbrev body : List ℕ
  body = payload_of s.set.frame

  abbrev ss : List ℕ
  ss = seed_carries ((run cs).seed p.0)

  here : Happened hs
  here = record { calls = cs; same = refl }

  next : history_from start (cs ++ (c ∷ [])) ≡ hs ++ (x ∷ [])
  next = history-append cs (c ∷ []) start ∙ unfold history_from in refl

  cut : Happened (s.before ++ (s.set ∷ s.after))
  cut = subst Happened s.place here

  when-set : Happened (s.before ++ (s.set ∷ []))
  when-set = happened-front (s.before ++ (s.set ∷ [])) s.after (subst Happened (sym (append_assoc s.before (s.set ∷ []) s.after)) cut)

  is_set : l.seed p.0 ≡ kept body ns
  is_set = seed-is-last hs here p.0 s

  ns-are : map (called w.name) ss ≡ ns
  ns-are = sym (seed-nodes w.name ((run cs).seed p.0)) ∙ ap seed_nodes (sym (w.follows.seeds p.0 (omega (arith, a.legal))) ∙ is_set)

  few : length ns ≤ 8
  few = rw (← ns-are, length-map) ((always-noted cs).seeds p.0).0

  small : length body ≤ 512
  small = rw is_set at (seeds-small cs p.0)

  shown-bytes : answer ≡ bytes 4 invalid (l.book.user p.0) 0 (length body) (length ns) (due_ids l p.0 (suc l.accepted) ns) body
  shown-bytes = answers-due cs c (ShowSeed p room) a.read a.number ∙ ap (due_seed l p.0) is_set

  ids-due : shown_ids answer ≡ due_ids l p.0 (suc l.accepted) ns
  ids-due =
      shows (run cs) c (ShowSeed p room) a (ready cs w.ids)
      ∙ sym (shown-all-due w.sim.apart (run cs) l p.0 (suc (run cs).accepted) ss w.follows)
      ∙ ap₂ (λ (j : ℕ) (z : List Node). due_ids l p.0 (suc j) z) (sym w.follows.accepted) ns-are

  shown : AttachedShown l (book_after cs) p.0 (suc l.accepted) (shown_ids answer) ns
  shown =
      attached-shown l (book_after cs) p.0 (ledger-small cs w p.0) (ledger-few cs w p.0) (ledger-same cs w p.0) (suc l.accepted) ns few (shown_ids answer)
      (ids-due ∙ due-each l p.0 (suc l.accepted) ns)

  abbrev AtPlace : ℕ → Node → Type 0
  AtPlace i n = AtOnePlace i n (shown_ids (answer_of (step (run cs) c))) (nodes_then (history_from start cs) p.0 s)

  noted-then : (i : ℕ) (n : Node) → AtPlace i n → NotedAs (book_of s.before) p.0 n
  noted-then i n at = at_all (NotedAs (book_of s.before) p.0) i n (shown_ids answer) ns at (nodes-noted (book_of s.before) p.0 (attached s.set.frame (sizes_of s.set.frame)))

  lives-now : (i : ℕ) (n : Node) → AtPlace i n → l.lives n.number ≡ both (lived_then hs p.0 s n) (not (ended_since hs p.0 s n))
  lives-now i n at =
      let t = noted-then i n at in
      ap (λ (z : List Fed). (ledger_of z).lives n.number) s.place ∙ lives-since p.0 t.0 n t.1 s.before (s.set ∷ s.after) cut t.2

  -- "a seed shows it from the destruction on"
  valid-now : (i : ℕ) (n : Node) → AtPlace i n → valid_at l p.0 (suc l.accepted) n.number ≡ both (lived_then hs p.0 s n) (not (ended_since hs p.0 s n))
  valid-now i n at = valid-live l p.0 n.number (died-before cs n.number) ∙ lives-now i n at

  book-then : book_of (hs ++ (x ∷ [])) ≡ book_after (cs ++ (c ∷ []))
  book-then = sym (ap book_of next)

  shown-named : (i : ℕ) (n : Node) → AtPlace i n → (i ≡ invalid → ⊥) → (d : ℕ) × ((book_after (cs ++ (c ∷ []))).handle p.0 i ≡ noted n d)
  shown-named i n at v =
      named-at (book_after (cs ++ (c ∷ []))) p.0 i n (shown_ids answer) ns (subst (ShownFor (book_after (cs ++ (c ∷ []))) p.0 (shown_ids answer)) ns-are (seed-shown cs c p room a w)) at v

  no-create : (i : ℕ) → All (λ y. Creates p.0 i y → ⊥) (history_from (run cs) (c ∷ []))
  no-create i = unfold history_from in ((λ k. omega (arith, k.byte, (coded c.frame (ShowSeed p room) a.read).byte)), tt)

  never_other : (i d : ℕ) (n m : Node) → AtPlace i n → (book_of hs).handle p.0 i ≡ noted m d → m ≡ n
  never_other i d n m at e = go (same? i invalid)
    where
      go : Same i invalid → m ≡ n
      go (same z) = let v = (named-held cs p.0 i m d e).valid in absurd (omega (arith, v, z))
      go (other z) = let y = shown-named i n at z in one-node cs (c ∷ []) p.0 i m n d y.0 e y.1 (no-create i)

  never-chosen : (i : ℕ) (n : Node) → AtPlace i n → (us vs : List Fed) (y : Fed) → s.after ≡ us ++ (y ∷ vs) → Creates p.0 i y → ⊥
  never-chosen i n at us vs y e k = go (same? i invalid)
    where
      early : List Fed
      early = s.before ++ (s.set ∷ us)

      whole : early ++ (y ∷ (vs ++ (x ∷ []))) ≡ hs ++ (x ∷ [])
      whole =
          append_assoc s.before (s.set ∷ us) (y ∷ (vs ++ (x ∷ [])))
          ∙ ap (λ (z : List Fed). s.before ++ (s.set ∷ z)) (sym (append_assoc us (y ∷ vs) (x ∷ [])))
          ∙ ap (λ (z : List Fed). s.before ++ (s.set ∷ (z ++ (x ∷ [])))) (sym e)
          ∙ sym (append_assoc s.before (s.set ∷ s.after) (x ∷ []))
          ∙ ap (λ (z : List Fed). z ++ (x ∷ [])) (sym s.place)

      all : Happened (early ++ (y ∷ (vs ++ (x ∷ []))))
      all = subst Happened (sym whole) (record { calls = cs ++ (c ∷ []); same = next })

      go : Same i invalid → ⊥
      go (same z) = omega (arith, z, create-chosen p.0 i early (vs ++ (x ∷ [])) y all k)
      go (other z) =
          let t = noted-then i n at in
          let b = shown-named i n at z in
          let old : n.number < (book_of s.before).entered = (nodes-in s.before (happened-front s.before (s.set ∷ s.after) cut)).entered p.0 t.0 n t.1 t.2 in
          let more = history-grows s.before (s.set ∷ us) (happened-front early (y ∷ (vs ++ (x ∷ []))) all) in
          let new =
          names-newer p.0 i early (vs ++ (x ∷ [])) y all k n b.0
          (ap (λ (z : List Fed). (book_of z).handle p.0 i) whole ∙ ap (λ (z : Book). z.handle p.0 i) book-then ∙ b.1) in
          omega (arith, old, more, new)

  seed-shown-whole : SeedShown hs x p.0 s
  seed-shown-whole =
      let f = set-frame s.before s.set when-set p.0 s.sets in
      let nh : get_or answer 14 0 ≡ length ns = rw shown-bytes (bytes-nh 4 _ _ _ _ _ _ _) in
      let long : length (due_ids l p.0 (suc l.accepted) ns) ≡ length ns = ap length (due-each l p.0 (suc l.accepted) ns) ∙ length-map ns _ in
      record {
        kind = rw shown-bytes refl;
        destination = rw shown-bytes (bytes-to 4 _ _ _ _ _ _ _ (omega arith));
        user = rw shown-bytes (bytes-user 4 _ _ _ _ _ _ _) ∙ ap (λ (k : Book). k.user p.0) (ledger-book cs);
        flag = rw shown-bytes (bytes-flag 4 _ _ _ _ _ _ _);
        nb = rw shown-bytes (bytes-nb 4 _ _ _ _ _ _ _ (omega (arith, small))) ∙ f.0;
        nh = nh ∙ f.1;
        payload = rw (nh, ← long) (rw shown-bytes (bytes-payload 4 invalid (l.book.user p.0) 0 (length body) (length ns) (due_ids l p.0 (suc l.accepted) ns) body));
        ids = shown;
        dead-then = λ i n at z. shown.destroyed-invalid i n at (valid-now i n at ∙ dead-first (lived_then hs p.0 s n) (ended_since hs p.0 s n) z);
        ended-since = λ i n at z. shown.destroyed-invalid i n at (valid-now i n at ∙ dead-second (lived_then hs p.0 s n) (ended_since hs p.0 s n) z);
        all_ones = λ i n at z. either-dead (lived_then hs p.0 s n) (ended_since hs p.0 s n) (sym (valid-now i n at) ∙ shown.invalid-destroyed i n at z);
        named = λ i n at v. let y = shown-named i n at v in (y.0, ap (λ (k : Book). k.handle p.0 i) book-then ∙ y.1);
        never-another = λ i d n m at e. never_other i d n m at e;
        chosen-again = λ i n at us vs y e k. never-chosen i n at us vs y e k;
      }

-- None is set: then it is refused.
unset-refused : (name : ℕ → ℕ) (room : ℕ) (y : Seed) → seed_of name y ≡ unset → showable room y ≡ 0 → ⊥
unset-refused name room unset_slots e z = omega arith
unset-refused name room (kept_slots payload carried) e z = clash (sym (ap is_unset e))

shows-call : (cs : List Call) (c : Call) → (step (run cs) c).outcome.number ≡ 0 → opcode c.frame ≡ 12 →
    LastSeed (history_from start cs) (acting_peer c.frame)
    × ((s : LastSeed (history_from start cs) (acting_peer c.frame)) → SeedShown (history_from start cs) (fed c (step (run cs) c)) (acting_peer c.frame) s)
shows-call cs c zero twelve =
    let y = accepted-call (run cs) c zero in
    let d = is-show y.0 (sym (coded c.frame y.0 y.1.read).byte ∙ twelve) in
    go d.0 d.1 (subst (Accepted (run cs) c) d.2 y.1)
  where
    go : (p : Peer) (room : ℕ) → Accepted (run cs) c (ShowSeed p room) →
        LastSeed (history_from start cs) (acting_peer c.frame)
        × ((s : LastSeed (history_from start cs) (acting_peer c.frame)) → SeedShown (history_from start cs) (fed c (step (run cs) c)) (acting_peer c.frame) s)
    go p room a =
        let w = story (suc (length cs)) cs (omega arith) in
        subst
        (λ (q : ℕ). LastSeed (history_from start cs) q × ((s : LastSeed (history_from start cs) q) → SeedShown (history_from start cs) (fed c (step (run cs) c)) q s))
        (sym (coded c.frame (ShowSeed p room) a.read).peer) (there w (last-or-unset (history_from start cs) (record { calls = cs; same = refl }) p.0), λ s. seed-shown-whole cs c p room a w s)
      where
        there : (w : Story (suc (length cs)) cs) → LastSeed (history_from start cs) p.0 ⊎ ((ledger_of (history_from start cs)).seed p.0 ≡ unset) → LastSeed (history_from start cs) p.0
        there w (inl s) = s
        there w (inr e) =
            absurd
            (unset-refused w.name room ((run cs).seed p.0) (sym (w.follows.seeds p.0 (omega (arith, a.legal))) ∙ e)
            (tested (run cs) c.frame (ShowSeed p room) a.unrefused).next)

pub shows-last-seed : ShowsLastSeed
shows-last-seed =
    of-next
    (λ us y vs. y.number ≡ 0 → opcode y.frame ≡ 12 → LastSeed us (acting_peer y.frame) × ((s : LastSeed us (acting_peer y.frame)) → SeedShown us y (acting_peer y.frame) s))
    shows-call
