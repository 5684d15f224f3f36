-- The theorems that go with specs/LedgerLawsProof.antt and stand on others: each goes by the definitions and the theorems there.
-- Assumes nothing.
use Rattle.std.specs.Prelude.{ℕ, suc, ◌-◌, ◌<◌, ◌≡◌, refl, Bool, true, false, not, length, eqb, ltb}
use Rattle.std.proofs.Common.{sym, ap, ap₂, subst, ◌∙◌}
use mathlib.Core.List.{List, [], ◌∷◌, ◌++◌, map, append-nil}
use borrow.Author.Tests.{eqb-true, eq-eqb, ne_eqb, ltb-true, lt-ltb}
use Rattle.laws.specs.Tests.{pick, clash}
use Rattle.laws.specs.Tables.{upd, upd_same, upd_other}
use Rattle.laws.specs.Weights.{All, all-imp, keep}
use Rattle.ids.specs.declared.HandleId.{HandleId}
use Rattle.ids.specs.declared.Peer.{Peer}
use Rattle.frames.specs.declared.Sizes.{Sizes}
use Rattle.frames.specs.declared.Command.TheVariants.{Disconnect, Destroy, Release, Send}
use Rattle.frames.proofs.Fields.{fields-command}
use Rattle.model.specs.Numbers.{peers}
use Rattle.model.specs.Lists.{both, either, any, rising}
use Rattle.model.specs.State.{Handle, Handle.none, Handle.some, handle_of, held, id_or, total}
use Rattle.model.specs.Requests.{destinations, attached}
use Rattle.model.specs.Book.{Node, Book, owned_by, nodes_of, Fed, feed, sizes_of}
use Rattle.model.specs.Coded.{coded}
use Rattle.model.specs.Occurs.{both_true}
use Rattle.model.specs.Rising.{rising-pass, rising-sorted}
use Rattle.model.specs.RisingAll.{passing-le, rising-all}
use Rattle.model.specs.Ledger.{Item, Item.destroyed, Item.released, Ledger, brings, is_told, ledger_destroy, outlasts, cleared, fallen, ledger_release, ledger_queues, by_own_id, ledger_disconnect, ledger_counted, enter, with_book, ledger_seed}
use Rattle.model.specs.LedgerPassed.{Names}
use Rattle.model.specs.LedgerGone.{cell_other}
use Rattle.model.specs.Tally.{tally}
use Rattle.model.specs.Rows.{book_of, ledger_of}
use Rattle.model.specs.Happened.{Happened, happened-front}
use Rattle.model.specs.Exchanges.{book-in-ledger, Entered, is-disconnect, is-destroy, is-release, is-send}
use Rattle.model.proofs.Exchanges.{ledger-tally, entered}
use Rattle.model.specs.HandlesIn.{HandlesOf, NodesOf}
use Rattle.model.proofs.HandlesIn.{handles-in, nodes-in}
use Rattle.model.specs.LedgerLaws.{id_in, DestroyDoes, DestroyIn, ReleaseDoes, ReleaseIn, destination_nodes, attached_nodes, SendDoes, SendIn, ByIdOf, DestroyedAt, ReleasedAt, DisconnectDoes, DisconnectIn}
use Rattle.model.specs.LedgerLawsProof.{never, same-sizes, map-twice}

-- Destroy.
destroy-does : (l : Ledger) (f : List ℕ) (g : Book) (p : Peer) (i : HandleId) (x : Names l p.0 i.0) → x.node.owner ≡ p.0 → l.lives x.node.number ≡ true →
    ((q n : ℕ) → held (l.handle q n) ≡ true → q < peers) → DestroyDoes l.book l (with_book (enter l f (Destroy p i)) g) (suc l.accepted) p.0 i.0
unfolding enter with_book ledger_destroy ledger_counted
destroy-does l f g p i x o v peer =
    let n = x.node in
    let k = with_book (ledger_destroy (ledger_counted l) n) g in
    let holds : held (l.handle p.0 n.number) ≡ true = rw x.handle refl in
    rw x.named
    (record {
      node = n;
      count = x.count;
      named = x.named;
      own = o;
      lived = v;
      dead = upd_same l.lives n.number false;
      date = upd_same l.died n.number (suc l.accepted);
      others = λ m z. upd_other l.lives n.number m false z;
      handles = refl;
      seeds = refl;
      at-owner = rw (eq-eqb n.owner p.0 o, lt-ltb p.0 peers (peer p.0 n.number holds), holds) refl;
      at-holder = λ q z h. rw (ne_eqb n.owner q (λ y. z (sym o ∙ y)), lt-ltb q peers (peer q n.number h), h) refl;
      at-carrier = λ q z m h. rw (ne_eqb n.owner q (λ y. z (sym o ∙ y)), lt-ltb q peers m, brought q h) refl;
      elsewhere = λ q z h c. rw (ne_eqb n.owner q (λ y. z (sym o ∙ y)), h, c) (nothing (ltb q peers) (l.queue q));
    })
  where
    brought : (q : ℕ) → any (brings (suc l.accepted) x.node.number) (l.queue q) ≡ true → is_told (l.handle q) (l.queue q) (suc l.accepted) x.node.number ≡ true
    brought q h = rw h (last (held (l.handle q x.node.number)))
      where
        last : (t : Bool) → either t true ≡ true
        last true = refl
        last false = refl

    nothing : (t : Bool) (q : List Item) → q ++ pick (both t false) (destroyed (suc l.accepted) x.node ∷ []) [] ≡ q
    nothing true q = append-nil q
    nothing false q = append-nil q

-- What `fallen` says.
fallen-facts : (lives : ℕ → Bool) (h g : ℕ → ℕ → Handle) (n : ℕ) → fallen lives h g n ≡ true → (lives n ≡ true) × (1 < total h n) × (total g n ≡ 1)
fallen-facts lives h g n e =
    let x = both_true (lives n) (both (ltb 1 (total h n)) (eqb (total g n) 1)) e in
    let y = both_true (ltb 1 (total h n)) (eqb (total g n) 1) x.1 in
    (x.0, ltb-true 1 (total h n) y.0, eqb-true (total g n) 1 y.1)

facts-fallen : (lives : ℕ → Bool) (h g : ℕ → ℕ → Handle) (n : ℕ) → lives n ≡ true → 1 < total h n → total g n ≡ 1 → fallen lives h g n ≡ true
facts-fallen lives h g n v m e = rw (v, lt-ltb 1 (total h n) m, eq-eqb (total g n) 1 e) refl

-- Release.
module _ (l : Ledger) (f : List ℕ) (g : Book) (p : Peer) (i : HandleId) (x : Names l p.0 i.0)
    (unpinned : x.node.owner ≡ p.0 → l.lives x.node.number ≡ true → x.count ≡ 1 → ⊥) where
  abbrev n : Node
  n = x.node

  abbrev less : ℕ → ℕ → Handle
  less = upd l.handle p.0 (upd (l.handle p.0) n.number (handle_of i.0 (x.count - 1)))

  abbrev goes : ℕ → Bool
  goes q = both (eqb p.0 q) (eqb x.count 1)

  abbrev told : ℕ → Bool
  told q = both (owned_by q n) (fallen l.lives l.handle less n.number)

  abbrev queued : ℕ → List Item
  queued q = pick (goes q) (cleared (less q) (keep (outlasts p.0 n) (l.queue q))) (l.queue q) ++ pick (told q) (released (suc l.accepted) n ∷ []) []

  release-fell : l.lives n.number ≡ true → 1 < total l.handle n.number → total less n.number ≡ 1 →
      queued n.owner ≡ l.queue n.owner ++ (released (suc l.accepted) n ∷ [])
  release-fell v m e =
      let stays : goes n.owner ≡ false = never (goes n.owner) (λ z.
      let y = both_true (eqb p.0 n.owner) (eqb x.count 1) z in
      unpinned (sym (eqb-true p.0 n.owner y.0)) v (eqb-true x.count 1 y.1)) in
      rw (stays, eq-eqb n.owner n.owner refl, facts-fallen l.lives l.handle less n.number v m e) refl

  release-gone : x.count ≡ 1 → queued p.0 ≡ cleared (less p.0) (keep (outlasts p.0 n) (l.queue p.0))
  release-gone e =
      let silent : told p.0 ≡ false = never (told p.0) (λ z.
      let y = both_true (owned_by p.0 n) (fallen l.lives l.handle less n.number) z in
      unpinned (eqb-true n.owner p.0 y.0) (fallen-facts l.lives l.handle less n.number y.1).0 e) in
      rw (silent, eq-eqb p.0 p.0 refl, eq-eqb x.count 1 e) (append-nil (cleared (less p.0) (keep (outlasts p.0 n) (l.queue p.0))))

  release-elsewhere : (q : ℕ) → (p.0 ≡ q → x.count ≡ 1 → ⊥) →
      (n.owner ≡ q → l.lives n.number ≡ true → 1 < total l.handle n.number → total less n.number ≡ 1 → ⊥) → queued q ≡ l.queue q
  release-elsewhere q h k =
      let stays : goes q ≡ false = never (goes q) (λ z.
      let y = both_true (eqb p.0 q) (eqb x.count 1) z in
      h (eqb-true p.0 q y.0) (eqb-true x.count 1 y.1)) in
      let silent : told q ≡ false = never (told q) (λ z.
      let y = both_true (owned_by q n) (fallen l.lives l.handle less n.number) z in
      let u = fallen-facts l.lives l.handle less n.number y.1 in
      k (eqb-true n.owner q y.0) u.0 u.1 u.2) in
      rw (stays, silent) (append-nil (l.queue q))

  release-does : ReleaseDoes l.book l (with_book (enter l f (Release p i)) g) (suc l.accepted) p.0 i.0
  unfolding enter with_book ledger_release ledger_counted
  release-does =
      rw x.named
      (record {
        node = n;
        count = x.count;
        named = x.named;
        counted = x.counted;
        less = rw (upd_same, upd_same) refl;
        others = λ q m z. cell_other l.handle p.0 n.number (handle_of i.0 (x.count - 1)) q m z;
        lives = refl;
        seeds = refl;
        fell = release-fell;
        gone = release-gone;
        elsewhere = release-elsewhere;
      })

send-does : (l : Ledger) (f : List ℕ) (g : Book) (p : Peer) (z : Sizes) → z ≡ sizes_of f → length (destination_nodes l.book p.0 f) ≡ (sizes_of f).nd →
    length (attached_nodes l.book p.0 f) ≡ (sizes_of f).nh → All (λ (n : Node). l.lives n.number ≡ true) (destination_nodes l.book p.0 f) →
    SendDoes l.book l (with_book (enter l f (Send p z)) g) (suc l.accepted) p.0 f
unfolding enter with_book ledger_seed ledger_queues ledger_counted
send-does l f g p z e to with-them alive =
    rw e (record { to-each = to; each-attached = with-them; living = alive; queue = λ q. refl; handles = refl; lives = refl; seeds = refl })

-- Disconnect: the nodes that a peer made and that pass, by their ascending IDs.
abbrev listed : Ledger → ℕ → (ℕ → Bool) → List ℕ
listed l p t = rising (λ n. both (eqb (l.maker n) p) (t n)) (λ n. id_or 0 (l.handle p n)) l.book.entered l.book.entered

module _ (l : Ledger) (nodes : NodesOf l.book l) (p : ℕ) (handles : HandlesOf l.book l p) (t : ℕ → Bool) (live : (n : ℕ) → t n ≡ true → l.lives n ≡ true) where
  abbrev passes : ℕ → Bool
  passes n = both (eqb (l.maker n) p) (t n)

  abbrev id : ℕ → ℕ
  id n = id_or 0 (l.handle p n)

  -- two of them have two IDs
  held-id : (n : ℕ) → passes n ≡ true → (i : ℕ) × (c : ℕ) × (l.handle p n ≡ some i c)
  held-id n e = let x = both_true (eqb (l.maker n) p) (t n) e in go (l.handle p n) refl (rw (eqb-true (l.maker n) p x.0) at (nodes.living-held n (live n x.1)))
    where
      go : (h : Handle) → l.handle p n ≡ h → held (l.handle p n) ≡ true → (i : ℕ) × (c : ℕ) × (l.handle p n ≡ some i c)
      go none z y = clash (sym y ∙ ap held z)
      go (some i c) z y = (i, c, z)

  apart : (n m : ℕ) → passes n ≡ true → passes m ≡ true → id n ≡ id m → n ≡ m
  apart n m e f z =
      let x = held-id n e in
      let y = held-id m f in
      let same : x.0 ≡ y.0 = sym (ap (id_or 0) x.2) ∙ z ∙ ap (id_or 0) y.2 in
      handles.one-node n m x.0 x.1 y.1 x.2 (rw same y.2)

  by-id : ByIdOf id (λ n. (l.maker n ≡ p) × (t n ≡ true)) (listed l p t)
  by-id =
      record {
        ascending = rising-sorted passes id l.book.entered l.book.entered;
        sound =
            all-imp (λ n. (passes n ≡ true) × (n < l.book.entered)) (λ n. (l.maker n ≡ p) × (t n ≡ true))
            (λ n z. let x = both_true (eqb (l.maker n) p) (t n) z.0 in (eqb-true (l.maker n) p x.0, x.1)) (listed l p t)
            (rising-pass passes id l.book.entered l.book.entered);
        complete = λ n z.
            let e : passes n ≡ true = rw (eq-eqb (l.maker n) p z.0, z.1) refl in
            rising-all passes id l.book.entered l.book.entered (passing-le passes l.book.entered) n
            (nodes.living-entered n (live n z.1)) e (λ m _ f y. apart m n f e y);
      }

by-id-as : (id : ℕ → ℕ) (P Q : ℕ → Type 0) (ns : List ℕ) → ((n : ℕ) → P n → Q n) → ((n : ℕ) → Q n → P n) → ByIdOf id P ns → ByIdOf id Q ns
by-id-as id P Q ns f g h = record { ascending = h.ascending; sound = all-imp P Q f ns h.sound; complete = λ n z. h.complete n (g n z) }

module _ (l : Ledger) (f : List ℕ) (g : Book) (p : Peer) where
  abbrev left : ℕ → ℕ → Handle
  left = upd l.handle p.0 (λ n. none)

  abbrev living : ℕ → Bool
  living n = both (not (eqb (l.maker n) p.0)) (l.lives n)

  abbrev dies : ℕ → ℕ → Bool
  dies q n = both (l.lives n) (is_told (l.handle q) (l.queue q) (suc l.accepted) n)

  abbrev fell : ℕ → Bool
  fell = fallen living l.handle left

  queue-at : (q : ℕ) → q < peers → (p.0 ≡ q → ⊥) →
      (with_book (enter l f (Disconnect p)) g).queue q
      ≡ l.queue q
      ++ (map (λ n. destroyed (suc l.accepted) (record { owner = p.0; number = n })) (listed l p.0 (dies q))
      ++ map (λ n. released (suc l.accepted) (record { owner = q; number = n })) (listed l q fell))
  unfolding enter with_book ledger_disconnect ledger_counted by_own_id
  queue-at q b z =
      rw (ne_eqb p.0 q z, lt-ltb q peers b)
      (ap₂ (λ (u v : List Item). l.queue q ++ (u ++ v))
      (map-twice (destroyed (suc l.accepted)) (λ n. record { owner = p.0; number = n }) (listed l p.0 (dies q)))
      (map-twice (released (suc l.accepted)) (λ n. record { owner = q; number = n }) (listed l q fell)))

  module _ (nodes : NodesOf l.book l) (handles : (q : ℕ) → HandlesOf l.book l q) where
    died-by-id : (q : ℕ) → ByIdOf (λ n. id_or 0 (l.handle p.0 n)) (DestroyedAt l (suc l.accepted) p.0 q) (listed l p.0 (dies q))
    died-by-id q =
        by-id-as (λ n. id_or 0 (l.handle p.0 n)) (λ n. (l.maker n ≡ p.0) × (dies q n ≡ true)) (DestroyedAt l (suc l.accepted) p.0 q) (listed l p.0 (dies q))
        (λ n z. let x = both_true (l.lives n) (is_told (l.handle q) (l.queue q) (suc l.accepted) n) z.1 in (z.0, x.0, x.1))
        (λ n z. (z.0, rw (z.1, z.2) refl))
        (by-id l nodes p.0 (handles p.0) (dies q) (λ n e. (both_true (l.lives n) (is_told (l.handle q) (l.queue q) (suc l.accepted) n) e).0))

    still-lives : (n : ℕ) → fell n ≡ true → l.lives n ≡ true
    still-lives n e = (both_true (not (eqb (l.maker n) p.0)) (l.lives n) (fallen-facts living l.handle left n e).0).1

    fell-by-id : (q : ℕ) → ByIdOf (λ n. id_or 0 (l.handle q n)) (ReleasedAt l (with_book (enter l f (Disconnect p)) g) q) (listed l q fell)
    unfolding enter with_book ledger_disconnect ledger_counted
    fell-by-id q =
        by-id-as (λ n. id_or 0 (l.handle q n)) (λ n. (l.maker n ≡ q) × (fell n ≡ true)) (ReleasedAt l (with_book (enter l f (Disconnect p)) g) q) (listed l q fell)
        (λ n z. let x = fallen-facts living l.handle left n z.1 in (z.0, x.0, x.1, x.2))
        (λ n z. (z.0, facts-fallen living l.handle left n z.1 z.2 z.3))
        (by-id l nodes q (handles q) fell still-lives)

    disconnect-does : DisconnectDoes l (with_book (enter l f (Disconnect p)) g) (suc l.accepted) p.0
    unfolding enter with_book ledger_disconnect ledger_counted
    disconnect-does =
        record {
          own = rw (eq-eqb p.0 p.0 refl) refl;
          dead = λ n e. rw (eq-eqb (l.maker n) p.0 e) refl;
          date = λ n e v. rw (eq-eqb (l.maker n) p.0 e, v) refl;
          others-live = λ n e. rw (ne_eqb (l.maker n) p.0 e) refl;
          handles = λ n. rw upd_same refl;
          seeds = refl;
          others = λ q z. upd_other l.handle p.0 q (λ n. none) z;
          at_others = λ q b z.
              record {
                destroyed-nodes = listed l p.0 (dies q);
                released-nodes = listed l q fell;
                queue = queue-at q b z;
                destroyed-by-id = died-by-id q;
                released-by-id = fell-by-id q;
              };
        }

-- Of histories: the ledger's book is the book, and it counts what was accepted.
module _ (xs : List Fed) (x : Fed) (h : Happened (xs ++ (x ∷ []))) where
  before : Happened xs
  before = happened-front xs (x ∷ []) h

  nodes-before : NodesOf (ledger_of xs).book (ledger_of xs)
  nodes-before = subst (λ (b : Book). NodesOf b (ledger_of xs)) (sym (book-in-ledger xs)) (nodes-in xs before)

  handles-before : (q : ℕ) → HandlesOf (ledger_of xs).book (ledger_of xs) q
  handles-before q = subst (λ (b : Book). HandlesOf b (ledger_of xs) q) (sym (book-in-ledger xs)) (handles-in xs before q)

  number : suc (ledger_of xs).accepted ≡ suc (tally xs)
  number = ap suc (ledger-tally xs before)

  abbrev after : Ledger
  after = ledger_of (xs ++ (x ∷ []))

  -- Each in the history's words, from what the ledger enters.
  as-destroy : (p : Peer) (i : HandleId) → Entered xs x (Destroy p i) → DestroyDoes (book_of xs) (ledger_of xs) after (suc (tally xs)) p.0 i.0
  as-destroy p i e =
      subst (λ (b : Book). DestroyDoes b (ledger_of xs) after (suc (tally xs)) p.0 i.0) (book-in-ledger xs)
      (subst (λ (k : Ledger). DestroyDoes (ledger_of xs).book (ledger_of xs) k (suc (tally xs)) p.0 i.0) (sym e.after)
      (subst (λ (j : ℕ). DestroyDoes (ledger_of xs).book (ledger_of xs) (with_book (enter (ledger_of xs) x.frame (Destroy p i)) (feed (ledger_of xs).book x)) j p.0 i.0) number
      (destroy-does (ledger_of xs) x.frame (feed (ledger_of xs).book x) p i e.passes.0 e.passes.1 e.passes.2 (λ q n z. (handles-before q).holder n z))))

  as-release : (p : Peer) (i : HandleId) → Entered xs x (Release p i) → ReleaseDoes (book_of xs) (ledger_of xs) after (suc (tally xs)) p.0 i.0
  as-release p i e =
      subst (λ (b : Book). ReleaseDoes b (ledger_of xs) after (suc (tally xs)) p.0 i.0) (book-in-ledger xs)
      (subst (λ (k : Ledger). ReleaseDoes (ledger_of xs).book (ledger_of xs) k (suc (tally xs)) p.0 i.0) (sym e.after)
      (subst (λ (j : ℕ). ReleaseDoes (ledger_of xs).book (ledger_of xs) (with_book (enter (ledger_of xs) x.frame (Release p i)) (feed (ledger_of xs).book x)) j p.0 i.0) number
      (release-does (ledger_of xs) x.frame (feed (ledger_of xs).book x) p i e.passes.0 e.passes.1)))

  as-send : (p : Peer) (z : Sizes) → Entered xs x (Send p z) → SendDoes (book_of xs) (ledger_of xs) after (suc (tally xs)) p.0 x.frame
  as-send p z e =
      let f = x.frame in
      let b = book-in-ledger xs in
      let sizes : z ≡ sizes_of f = same-sizes f z e.legal.1 in
      let named : (length (destination_nodes (book_of xs) p.0 f) ≡ (sizes_of f).nd) × (length (attached_nodes (book_of xs) p.0 f) ≡ (sizes_of f).nh) =
      subst (λ (y : Sizes). (length (nodes_of (book_of xs) p.0 (destinations f y)) ≡ y.nd) × (length (nodes_of (book_of xs) p.0 (attached f y)) ≡ y.nh)) sizes e.named in
      let alive : All (λ (n : Node). (ledger_of xs).lives n.number ≡ true) (destination_nodes (ledger_of xs).book p.0 f) =
      subst (λ (y : Sizes). All (λ (n : Node). (ledger_of xs).lives n.number ≡ true) (nodes_of (ledger_of xs).book p.0 (destinations f y))) sizes e.passes in
      subst (λ (k : Book). SendDoes k (ledger_of xs) after (suc (tally xs)) p.0 f) b
      (subst (λ (k : Ledger). SendDoes (ledger_of xs).book (ledger_of xs) k (suc (tally xs)) p.0 f) (sym e.after)
      (subst (λ (j : ℕ). SendDoes (ledger_of xs).book (ledger_of xs) (with_book (enter (ledger_of xs) f (Send p z)) (feed (ledger_of xs).book x)) j p.0 f) number
      (send-does (ledger_of xs) f (feed (ledger_of xs).book x) p z sizes
      (ap (λ (k : Book). length (destination_nodes k p.0 f)) b ∙ named.0)
      (ap (λ (k : Book). length (attached_nodes k p.0 f)) b ∙ named.1) alive)))

  as-disconnect : (p : Peer) → Entered xs x (Disconnect p) → DisconnectDoes (ledger_of xs) after (suc (tally xs)) p.0
  as-disconnect p e =
      subst (λ (k : Ledger). DisconnectDoes (ledger_of xs) k (suc (tally xs)) p.0) (sym e.after)
      (subst (λ (j : ℕ). DisconnectDoes (ledger_of xs) (with_book (enter (ledger_of xs) x.frame (Disconnect p)) (feed (ledger_of xs).book x)) j p.0) number
      (disconnect-does (ledger_of xs) x.frame (feed (ledger_of xs).book x) p nodes-before handles-before))

pub destroy-in : DestroyIn
destroy-in xs x h p d =
    let y = entered xs x h d.number in
    let k = coded x.frame y.0 y.1.read in
    let c = is-destroy y.0 (sym k.byte ∙ d.byte) in
    let e : Entered xs x (Destroy c.0 c.1) = subst (Entered xs x) c.2 y.1 in
    let f = fields-command x.frame (Destroy c.0 c.1) e.read in
    let same-peer : c.0.0 ≡ p = f.0.peer ∙ d.peer in
    let same_id : c.1.0 ≡ id_in x = ap (λ (i : HandleId). i.0) f.1 in
    subst (λ (q : ℕ). DestroyDoes (book_of xs) (ledger_of xs) (ledger_of (xs ++ (x ∷ []))) (suc (tally xs)) q (id_in x)) same-peer
    (subst (λ (i : ℕ). DestroyDoes (book_of xs) (ledger_of xs) (ledger_of (xs ++ (x ∷ []))) (suc (tally xs)) c.0.0 i) same_id (as-destroy xs x h c.0 c.1 e))

pub release-in : ReleaseIn
release-in xs x h p d =
    let y = entered xs x h d.number in
    let k = coded x.frame y.0 y.1.read in
    let c = is-release y.0 (sym k.byte ∙ d.byte) in
    let e : Entered xs x (Release c.0 c.1) = subst (Entered xs x) c.2 y.1 in
    let f = fields-command x.frame (Release c.0 c.1) e.read in
    let same-peer : c.0.0 ≡ p = f.0.peer ∙ d.peer in
    let same_id : c.1.0 ≡ id_in x = ap (λ (i : HandleId). i.0) f.1 in
    subst (λ (q : ℕ). ReleaseDoes (book_of xs) (ledger_of xs) (ledger_of (xs ++ (x ∷ []))) (suc (tally xs)) q (id_in x)) same-peer
    (subst (λ (i : ℕ). ReleaseDoes (book_of xs) (ledger_of xs) (ledger_of (xs ++ (x ∷ []))) (suc (tally xs)) c.0.0 i) same_id (as-release xs x h c.0 c.1 e))

pub disconnect-in : DisconnectIn
disconnect-in xs x h p d =
    let y = entered xs x h d.number in
    let k = coded x.frame y.0 y.1.read in
    let c = is-disconnect y.0 (sym k.byte ∙ d.byte) in
    let e : Entered xs x (Disconnect c.0) = subst (Entered xs x) c.1 y.1 in
    let same-peer : c.0.0 ≡ p = (fields-command x.frame (Disconnect c.0) e.read).peer ∙ d.peer in
    subst (DisconnectDoes (ledger_of xs) (ledger_of (xs ++ (x ∷ []))) (suc (tally xs))) same-peer (as-disconnect xs x h c.0 e)

pub send-in : SendIn
send-in xs x h p d =
    let y = entered xs x h d.number in
    let k = coded x.frame y.0 y.1.read in
    let c = is-send y.0 (sym k.byte ∙ d.byte) in
    let e : Entered xs x (Send c.0 c.1) = subst (Entered xs x) c.2 y.1 in
    let same-peer : c.0.0 ≡ p = (fields-command x.frame (Send c.0 c.1) e.read).peer ∙ d.peer in
    subst (λ (q : ℕ). SendDoes (book_of xs) (ledger_of xs) (ledger_of (xs ++ (x ∷ []))) (suc (tally xs)) q x.frame) same-peer (as-send xs x h c.0 c.1 e)
