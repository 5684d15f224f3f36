-- The theorems that go with specs/ByOrderTold.antt and stand on others: each goes by the definitions and the theorems there.
-- Assumes nothing.
use Rattle.std.specs.Prelude.{ℕ, suc, ◌+◌, ◌≤◌, ◌<◌, ◌≡◌, Bool, false, ◌⊎◌, get_or, eqb, ltb, Ok}
use Rattle.std.proofs.Math.Path.{refl, ap, subst}
use Rattle.std.proofs.Common.{sym, ap₂, ◌∙◌, arith, eqb-true, eq-eqb, ltb-true, ltb-false}
use Rattle.std.proofs.Math.Bool.{true}
use Rattle.std.proofs.Math.Logic.◌⊎◌.{inl, inr}
use mathlib.Core.List.{List, [], ◌∷◌, ◌++◌, map, append_assoc, append-nil}
use Rattle.laws.specs.Tests.{pick, Seen, Seen.is_true, Seen.is_false, look, clash, Same, Same.same, Same.other, same?}
use Rattle.laws.specs.Tables.{upd, upd_same}
use Rattle.laws.specs.Weights.{load, load-append, keep, All, all-imp}
use Rattle.ids.specs.declared.Peer.{Peer}
use Rattle.frames.specs.declared.Command.{Command}
use Rattle.frames.specs.declared.Command.TheVariants.{Open, Disconnect, Create, Destroy, Release, Transfer, Send, Receive, Quota, Holders, ShowSeed}
use Rattle.frames.specs.Frame.{opcode, parse}
use Rattle.frames.specs.Legal.{Legal}
use Rattle.model.specs.Numbers.{peers}
use Rattle.model.specs.Lists.{any}
use Rattle.model.specs.State.{Handle, held, start}
use Rattle.model.specs.Step.{Call, step, run}
use Rattle.model.specs.Book.{Node, Noted.noted, Book, Fed, note, empty, feed, feed_all, acting_peer}
use Rattle.model.specs.Claim.{fed, history_from}
use Rattle.model.specs.Occurs.{either-false}
use Rattle.model.specs.Coded.{coded}
use Rattle.model.specs.Tally.{tally}
use Rattle.model.specs.History.{history-append, ledger-left, fed-enters}
use Rattle.model.specs.Queues.{front, Later, Later.behind, Later.stays, Later.leaves}
use Rattle.model.specs.Ledger.{Item, Item.message, Item.destroyed, Item.released, Ledger, no_release, brings, is_told, ledger_create, ledger_counted, enter, with_book, due_item}
use Rattle.model.specs.LedgerStep.{entered_after, note-enters}
use Rattle.model.specs.LedgerPassed.{Passed}
use Rattle.model.specs.LedgerMoves.{taken_of, moved_by}
use Rattle.model.specs.LedgerGone.{Unbrought, unheld-command, unbrought-command, died-command, dies-command, maker-command, EndsNode, ends-command}
use Rattle.model.proofs.LedgerGone.{died-before}
use Rattle.model.specs.LedgerLaws.{id_in, DestroyDoes, DisconnectDoes, NoticesAt}
use Rattle.model.proofs.LedgerLawsProof.{destroy-in, disconnect-in}
use Rattle.model.specs.Exchanges.{Exchange, Exchange.refused, Exchange.accepted, ledger-more, book-in-ledger}
use Rattle.model.proofs.Exchanges.{exchange, ledger-tally}
use Rattle.model.specs.Rows.{book_of, ledger_of}
use Rattle.model.specs.Happened.{Happened, happened-front, happened-at, of-history}
use Rattle.model.proofs.Due.{due-of-history}
use Rattle.model.specs.Waits.{LapsedIn}
use Rattle.model.specs.Waiting.{StandsIn, notice_of, notices_of}
use Rattle.model.proofs.Waiting.{waiting-in}
use Rattle.model.specs.Lives.{ends}
use Rattle.model.proofs.HandlesIn.{nodes-in}
use Rattle.model.proofs.Noticed.{notices-tell}
use Rattle.model.specs.ByOrder.{Destruction, BeenTold, NobodyUntold, DiedBy, ToldOfIt}
use Rattle.model.specs.ByOrderTold.{off, unheld, all-off, any-off, any_append, longer, same-notice}

-- Calls one after another.
by-calls : (P : List Call → Type 0) → ((cs : List Call) (c : Call) → P cs → P (cs ++ (c ∷ []))) → (cs ds : List Call) → P cs → P (cs ++ ds)
by-calls P next cs [] h = rw (append-nil cs) h
by-calls P next cs (c ∷ ds) h = rw (append_assoc cs (c ∷ []) ds) at (by-calls P next (cs ++ (c ∷ [])) ds (next cs c h))

-- What holds of the empty history, and of one more exchange where it held before, holds of every history.
by-exchanges : (P : List Fed → Type 0) → P [] → ((xs : List Fed) (x : Fed) → Happened (xs ++ (x ∷ [])) → P xs → P (xs ++ (x ∷ []))) → (xs : List Fed) → Happened xs → P xs
by-exchanges P first next = of-history P (λ cs. by-calls (λ ds. P (history_from start ds)) more [] cs (unfold history_from in first))
  where
    more : (cs : List Call) (c : Call) → P (history_from start cs) → P (history_from start (cs ++ (c ∷ [])))
    more cs c h =
        let e : history_from start (cs ++ (c ∷ [])) ≡ history_from start cs ++ (fed c (step (run cs) c) ∷ []) = history-append cs (c ∷ []) start ∙ unfold history_from in refl in
        subst P (sym e) (next (history_from start cs) (fed c (step (run cs) c)) (record { calls = cs ++ (c ∷ []); same = e }) h)

-- A node that a command enters lives after it.
new-lives : (l : Ledger) (f : List ℕ) (d : Command) (N : ℕ) → N < entered_after l.book.entered d → (N < l.book.entered → ⊥) → (enter l f d).lives N ≡ true
unfolding enter ledger_counted ledger_create
new-lives l f (Create p i) N less old = go (same? l.book.entered N)
  where
    go : Same l.book.entered N → upd l.lives l.book.entered true N ≡ true
    go (same z) = rw (z, upd_same) refl
    go (other z) = absurd (old (omega (arith, less, z)))
new-lives l f (Open p u) N less old = absurd (old less)
new-lives l f (Disconnect p) N less old = absurd (old less)
new-lives l f (Destroy p i) N less old = absurd (old less)
new-lives l f (Release p i) N less old = absurd (old less)
new-lives l f (Transfer p i q) N less old = absurd (old less)
new-lives l f (Send p z) N less old = absurd (old less)
new-lives l f (Receive p room) N less old = absurd (old less)
new-lives l f (Quota p u) N less old = absurd (old less)
new-lives l f (Holders p i) N less old = absurd (old less)
new-lives l f (ShowSeed p room) N less old = absurd (old less)

feed-noted : (k : Book) (x : Fed) (d : Command) → x.number ≡ 0 → parse x.frame ≡ Ok d → feed k x ≡ note k x.frame x.answer d
unfolding feed
feed-noted k x d e f = rw (e, f) refl

-- One more exchange, accepted: the ledger before it and what the command makes of it.
module _ (xs : List Fed) (x : Fed) (hap : Happened (xs ++ (x ∷ []))) (d : Command) (zero : x.number ≡ 0) (read : parse x.frame ≡ Ok d) (legal : Legal x.frame d)
    (passed : Passed (ledger_of xs) x.frame d) (p N : ℕ) where
  abbrev l : Ledger
  l = ledger_of xs

  abbrev k : Ledger
  k = enter (ledger_of xs) x.frame d

  from : Happened xs
  from = happened-front xs (x ∷ []) hap

  pub is-entered : ledger_of (xs ++ (x ∷ [])) ≡ with_book (enter (ledger_of xs) x.frame d) (feed (ledger_of xs).book x)
  is-entered = ledger-more xs x ∙ fed-enters (ledger_of xs) x d zero read

  pub was-entered : N < (book_of (xs ++ (x ∷ []))).entered → k.lives N ≡ false → N < l.book.entered
  was-entered less dead = go (look (ltb N l.book.entered))
    where
      e : (book_of (xs ++ (x ∷ []))).entered ≡ entered_after l.book.entered d
      e =
          let a : (with_book k (feed l.book x)).book ≡ feed l.book x = unfold with_book in refl in
          ap (λ (b : Book). b.entered) (sym (book-in-ledger (xs ++ (x ∷ []))) ∙ ap (λ (m : Ledger). m.book) is-entered ∙ a ∙ feed-noted l.book x d zero read)
          ∙ note-enters l.book x.frame x.answer d

      go : Seen (ltb N l.book.entered) → N < l.book.entered
      go (is_true z) = ltb-true N l.book.entered z
      go (is_false z) =
          let o = ltb-false N l.book.entered z in
          clash (sym (new-lives l x.frame d N (omega (arith, less, e)) (λ y. absurd (omega (arith, y, o)))) ∙ dead)

  pub past : l.died N ≤ l.accepted
  past = rw from.same at (died-before from.calls N)

  -- Whom the destruction concerns after the command it concerned before.
  told_back : N < l.book.entered → l.lives N ≡ false → is_told (k.handle p) (k.queue p) (k.died N) N ≡ true → is_told (l.handle p) (l.queue p) (l.died N) N ≡ true
  told_back less dead told = go (look (is_told (l.handle p) (l.queue p) (l.died N) N))
    where
      go : Seen (is_told (l.handle p) (l.queue p) (l.died N) N) → is_told (l.handle p) (l.queue p) (l.died N) N ≡ true
      go (is_true z) = z
      go (is_false z) =
          let y = either-false (held (l.handle p N)) (any (brings (l.died N) N) (l.queue p)) z in
          let none-held = unheld (l.handle p N) y.0 in
          let none-brought : Unbrought l p N = all-off (brings (l.died N) N) (l.queue p) y.1 in
          let a = unheld-command N p l x.frame d passed less dead none-held past (inr none-brought) in
          let b = unbrought-command N p l x.frame d legal passed dead past none-brought in
          clash (sym told ∙ off (held (k.handle p N)) (any (brings (k.died N) N) (k.queue p)) (ap held a) (any-off (brings (k.died N) N) (k.queue p) b))

  -- A notice of it stays, or is taken out.
  not-lapsed : l.lives N ≡ false → is_told (k.handle p) (k.queue p) (k.died N) N ≡ true → (e : Item) → StandsIn l p e → LapsedIn l k p e → notice_of N e ≡ true → ⊥
  not-lapsed dead told (message j m) s z y = clash (sym y)
  not-lapsed dead told (destroyed j n) s z y =
      let same : n.number ≡ N = eqb-true n.number N y in
      let date : k.died N ≡ j = died-command N l x.frame d passed dead ∙ ap l.died (sym same) ∙ s.1 in
      clash
      (sym told
      ∙ off (held (k.handle p N)) (any (brings (k.died N) N) (k.queue p)) (ap (λ (v : ℕ). held (k.handle p v)) (sym same) ∙ z.0)
      (ap₂ (λ (v u : ℕ). any (brings v u) (k.queue p)) date (sym same) ∙ z.1))
  not-lapsed dead told (released j n) s z y = clash (sym s.0 ∙ ap l.lives (eqb-true n.number N y) ∙ dead)

-- Items that are not gone are as many.
later_more : {gone new : Item → Type 0} (t : Item → Bool) {q r : List Item} → All (λ e. gone e → t e ≡ true → ⊥) q → Later gone new q r → load t (λ e. 1) q ≤ load t (λ e. 1) r
later_more t a (behind b) = omega arith
later_more t a (stays {e} l) = let ih = later_more t a.1 l in omega (arith, ih)
later_more t a (leaves {e} {q} {r} g l) = go (look (t e)) (later_more t a.1 l)
  where
    go : Seen (t e) → load t (λ e. 1) q ≤ load t (λ e. 1) r → pick (t e) 1 0 + load t (λ e. 1) q ≤ load t (λ e. 1) r
    go (is_true z) ih = absurd (a.0 g z)
    go (is_false z) ih = rw z (omega (arith, ih))

-- The destruction itself. A notice behind a queue is there.
notice-behind : (N k : ℕ) (n : Node) (q r : List Item) → n.number ≡ N → r ≡ q ++ (destroyed k n ∷ []) → 1 ≤ notices_of N r
notice-behind N k n q r e z =
    rw z
    (let a = load-append (notice_of N) (λ e. 1) q (destroyed k n ∷ []) in
    let b : load (notice_of N) (λ e. 1) (destroyed k n ∷ []) ≡ 1 = rw (eq-eqb n.number N e) refl in
    omega (arith, a, b))

listed-notice : (N k q : ℕ) (ns : List ℕ) → any (eqb N) ns ≡ true → 1 ≤ notices_of N (map (λ n. destroyed k (record { owner = q; number = n })) ns)
listed-notice N k q [] e = clash (sym e)
listed-notice N k q (n ∷ ns) e = go (look (eqb N n)) (listed-notice N k q ns)
  where
    go : Seen (eqb N n) → (any (eqb N) ns ≡ true → 1 ≤ notices_of N (map (λ n. destroyed k (record { owner = q; number = n })) ns)) →
        1 ≤ notices_of N (map (λ n. destroyed k (record { owner = q; number = n })) (n ∷ ns))
    go (is_true z) ih = rw (eq-eqb n N (sym (eqb-true N n z))) (omega arith)
    go (is_false z) ih = let y = ih (rw z at e) in omega (arith, y)

none-brings : (j N k q : ℕ) (ns : List ℕ) → any (brings j N) (map (λ n. destroyed k (record { owner = q; number = n })) ns) ≡ false
none-brings j N k q [] = refl
none-brings j N k q (n ∷ ns) = none-brings j N k q ns

none-brings-released : (j N k q : ℕ) (ns : List ℕ) → any (brings j N) (map (λ n. released k (record { owner = q; number = n })) ns) ≡ false
none-brings-released j N k q [] = refl
none-brings-released j N k q (n ∷ ns) = none-brings-released j N k q ns

-- By a destroy of q: l before, k after.
destroy-tells : {b : Book} (l k : Ledger) (number q i p N : ℕ) → DestroyDoes b l k number q i → p < peers → l.lives N ≡ true → k.lives N ≡ false →
    is_told (k.handle p) (k.queue p) (k.died N) N ≡ true → 1 ≤ notices_of N (k.queue p)
destroy-tells l k number q i p N d m lived dead told = go (same? d.node.number N) (same? q p)
  where
    elsewhere : d.node.number ≡ N → (q ≡ p → ⊥) → Seen (held (l.handle p d.node.number)) → Seen (any (brings number d.node.number) (l.queue p)) → 1 ≤ notices_of N (k.queue p)
    elsewhere z y (is_true u) v = notice-behind N number d.node (l.queue p) (k.queue p) z (d.at-holder p y u)
    elsewhere z y (is_false u) (is_true v) = notice-behind N number d.node (l.queue p) (k.queue p) z (d.at-carrier p y m v)
    elsewhere z y (is_false u) (is_false v) =
        clash
        (sym told
        ∙ off (held (k.handle p N)) (any (brings (k.died N) N) (k.queue p)) (ap₂ (λ (h : ℕ → ℕ → Handle) (n : ℕ). held (h p n)) d.handles (sym z) ∙ u)
        (ap₂ (λ (n : ℕ) (w : List Item). any (brings n N) w) (ap k.died (sym z) ∙ d.date) (d.elsewhere p y u v) ∙ ap (λ (n : ℕ). any (brings number n) (l.queue p)) (sym z) ∙ v))

    go : Same d.node.number N → Same q p → 1 ≤ notices_of N (k.queue p)
    go (other z) y = clash (sym lived ∙ sym (d.others N z) ∙ dead)
    go (same z) (same y) = notice-behind N number d.node (keep (no_release d.node) (l.queue q)) (k.queue p) z (ap k.queue (sym y) ∙ d.at-owner)
    go (same z) (other y) = elsewhere z y (look (held (l.handle p d.node.number))) (look (any (brings number d.node.number) (l.queue p)))

-- By a disconnect of q.
disconnect-tells : (l k : Ledger) (number q p N : ℕ) → DisconnectDoes l k number q → p < peers → l.lives N ≡ true → k.lives N ≡ false →
    is_told (k.handle p) (k.queue p) (k.died N) N ≡ true → 1 ≤ notices_of N (k.queue p)
disconnect-tells l k number q p N d m lived dead told = go (same? (l.maker N) q) (same? q p)
  where
    elsewhere : l.maker N ≡ q → (q ≡ p → ⊥) → (a : NoticesAt l k number q p) → Seen (is_told (l.handle p) (l.queue p) number N) → 1 ≤ notices_of N (k.queue p)
    elsewhere z y a (is_true u) =
        let ds = map (λ n. destroyed number (record { owner = q; number = n })) a.destroyed-nodes in
        let rs = map (λ n. released number (record { owner = p; number = n })) a.released-nodes in
        let one = listed-notice N number q a.destroyed-nodes (a.destroyed-by-id.complete N (z, lived, u)) in
        rw a.queue (omega (arith, load-append (notice_of N) (λ e. 1) (l.queue p) (ds ++ rs), load-append (notice_of N) (λ e. 1) ds rs, one))
    elsewhere z y a (is_false u) =
        let ds = map (λ n. destroyed number (record { owner = q; number = n })) a.destroyed-nodes in
        let rs = map (λ n. released number (record { owner = p; number = n })) a.released-nodes in
        let w = either-false (held (l.handle p N)) (any (brings number N) (l.queue p)) u in
        let none-new : any (brings number N) (ds ++ rs) ≡ false =
        any_append (brings number N) ds rs ∙ off _ _ (none-brings number N number q a.destroyed-nodes) (none-brings-released number N number p a.released-nodes) in
        clash
        (sym told
        ∙ off (held (k.handle p N)) (any (brings (k.died N) N) (k.queue p)) (ap (λ (h : ℕ → Handle). held (h N)) (d.others p y) ∙ w.0)
        (ap₂ (λ (n : ℕ) (v : List Item). any (brings n N) v) (d.date N z lived) a.queue ∙ any_append (brings number N) (l.queue p) (ds ++ rs) ∙ off _ _ w.1 none-new))

    go : Same (l.maker N) q → Same q p → 1 ≤ notices_of N (k.queue p)
    go (other z) y = clash (sym lived ∙ sym (d.others-live N z) ∙ dead)
    go (same z) (same y) =
        clash
        (sym told
        ∙ off (held (k.handle p N)) (any (brings (k.died N) N) (k.queue p)) (ap held (ap (λ (r : ℕ). k.handle r N) (sym y) ∙ d.handles N))
        (ap (λ (v : List Item). any (brings (k.died N) N) v) (ap k.queue (sym y) ∙ d.own)))
    go (same z) (other y) = elsewhere z y (d.at_others p m y) (look (is_told (l.handle p) (l.queue p) number N))

-- A notice that a receive of p takes out is shown.
first-shown : (xs : List Fed) (x : Fed) (hap : Happened (xs ++ (x ∷ []))) (q : Peer) (room p N : ℕ) → x.number ≡ 0 → parse x.frame ≡ Ok (Receive q room) → q.0 ≡ p →
    (ledger_of xs).lives N ≡ false → (es : List Item) → (ledger_of xs).queue p ≡ es → All (StandsIn (ledger_of xs) p) es → 1 ≤ notices_of N (front es) → BeenTold (xs ++ (x ∷ [])) p N
first-shown xs x hap q room p N zero read own dead [] e s one = absurd (omega (arith, one))
first-shown xs x hap q room p N zero read own dead (message j m ∷ es) e s one = absurd (omega (arith, one))
first-shown xs x hap q room p N zero read own dead (released j n ∷ es) e s one = go (look (eqb n.number N))
  where
    go : Seen (eqb n.number N) → BeenTold (xs ++ (x ∷ [])) p N
    go (is_true z) = clash (sym s.0.0 ∙ ap (ledger_of xs).lives (eqb-true n.number N z) ∙ dead)
    go (is_false z) = let y : 1 ≤ 0 = rw z at one in absurd (omega (arith, y))
first-shown xs x hap q room p N zero read own dead (destroyed j n ∷ es) e s one = go (look (eqb n.number N))
  where
    due : x.answer ≡ due_item (ledger_of xs) p (destroyed j n ∷ es)
    due = due-of-history xs [] x (Receive q room) hap zero read ∙ ap (λ (r : ℕ). due_item (ledger_of xs) r ((ledger_of xs).queue r)) own ∙ ap (due_item (ledger_of xs) p) e

    go : Seen (eqb n.number N) → BeenTold (xs ++ (x ∷ [])) p N
    go (is_false z) = let y : 1 ≤ 0 = rw z at one in absurd (omega (arith, y))
    go (is_true z) =
        let c = coded x.frame (Receive q room) read in
        record {
          before = xs;
          receive = x;
          after = [];
          place = refl;
          command = j;
          node = n;
          told = record { takes = record { number = zero; byte = c.byte; peer = c.peer ∙ own; says = ap (λ (a : List ℕ). get_or a 1 0) due }; rest = es; first = e };
          number = eqb-true n.number N z;
        }

taken-shown : (xs : List Fed) (x : Fed) (hap : Happened (xs ++ (x ∷ []))) (d : Command) (p N : ℕ) → x.number ≡ 0 → parse x.frame ≡ Ok d → (ledger_of xs).lives N ≡ false →
    1 ≤ notices_of N (taken_of (ledger_of xs) p d) → BeenTold (xs ++ (x ∷ [])) p N
taken-shown xs x hap (Receive q room) p N zero read dead one = go (look (eqb q.0 p))
  where
    go : Seen (eqb q.0 p) → BeenTold (xs ++ (x ∷ [])) p N
    go (is_false z) = let y : 1 ≤ 0 = rw z at one in absurd (omega (arith, y))
    go (is_true z) =
        first-shown xs x hap q room p N zero read (eqb-true q.0 p z) dead ((ledger_of xs).queue p) refl (waiting-in xs (happened-front xs (x ∷ []) hap) p).stands (rw z at one)
taken-shown xs x hap (Open q u) p N zero read dead one = absurd (omega (arith, one))
taken-shown xs x hap (Disconnect q) p N zero read dead one = absurd (omega (arith, one))
taken-shown xs x hap (Create q i) p N zero read dead one = absurd (omega (arith, one))
taken-shown xs x hap (Destroy q i) p N zero read dead one = absurd (omega (arith, one))
taken-shown xs x hap (Release q i) p N zero read dead one = absurd (omega (arith, one))
taken-shown xs x hap (Transfer q i r) p N zero read dead one = absurd (omega (arith, one))
taken-shown xs x hap (Send q z) p N zero read dead one = absurd (omega (arith, one))
taken-shown xs x hap (Quota q u) p N zero read dead one = absurd (omega (arith, one))
taken-shown xs x hap (Holders q i) p N zero read dead one = absurd (omega (arith, one))
taken-shown xs x hap (ShowSeed q room) p N zero read dead one = absurd (omega (arith, one))

-- (c), one exchange more.
abbrev Untold : ℕ → ℕ → List Fed → Type 0
Untold p N xs =
    N < (book_of xs).entered → (ledger_of xs).lives N ≡ false → is_told ((ledger_of xs).handle p) ((ledger_of xs).queue p) ((ledger_of xs).died N) N ≡ true →
    (1 ≤ notices_of N ((ledger_of xs).queue p)) ⊎ BeenTold xs p N

module _ (p N : ℕ) (m : p < peers) (xs : List Fed) (x : Fed) (hap : Happened (xs ++ (x ∷ []))) (u : Untold p N xs) where
  -- the destruction
  ends_now : (d : Command) → EndsNode N d → x.number ≡ 0 → parse x.frame ≡ Ok d → (ledger_of xs).lives N ≡ true → (ledger_of (xs ++ (x ∷ []))).lives N ≡ false →
      is_told ((ledger_of (xs ++ (x ∷ []))).handle p) ((ledger_of (xs ++ (x ∷ []))).queue p) ((ledger_of (xs ++ (x ∷ []))).died N) N ≡ true → 1 ≤ notices_of N ((ledger_of (xs ++ (x ∷ []))).queue p)
  ends_now (Destroy q i) t zero read lived dead told =
      let c = coded x.frame (Destroy q i) read in
      destroy-tells (ledger_of xs) (ledger_of (xs ++ (x ∷ []))) (suc (tally xs)) q.0 (id_in x) p N
      (destroy-in xs x hap q.0 (record { number = zero; byte = c.byte; peer = c.peer })) m lived dead told
  ends_now (Disconnect q) t zero read lived dead told =
      let c = coded x.frame (Disconnect q) read in
      disconnect-tells (ledger_of xs) (ledger_of (xs ++ (x ∷ []))) (suc (tally xs)) q.0 p N
      (disconnect-in xs x hap q.0 (record { number = zero; byte = c.byte; peer = c.peer })) m lived dead told
  ends_now (Open q i) t zero read lived dead told = absurd t
  ends_now (Create q i) t zero read lived dead told = absurd t
  ends_now (Release q i) t zero read lived dead told = absurd t
  ends_now (Transfer q i r) t zero read lived dead told = absurd t
  ends_now (Send q z) t zero read lived dead told = absurd t
  ends_now (Receive q room) t zero read lived dead told = absurd t
  ends_now (Quota q i) t zero read lived dead told = absurd t
  ends_now (Holders q i) t zero read lived dead told = absurd t
  ends_now (ShowSeed q room) t zero read lived dead told = absurd t

  -- a notice that waited before
  waited : (d : Command) → x.number ≡ 0 → parse x.frame ≡ Ok d → Legal x.frame d → Passed (ledger_of xs) x.frame d → (ledger_of xs).lives N ≡ false →
      is_told ((enter (ledger_of xs) x.frame d).handle p) ((enter (ledger_of xs) x.frame d).queue p) ((enter (ledger_of xs) x.frame d).died N) N ≡ true →
      1 ≤ notices_of N ((ledger_of xs).queue p) → (1 ≤ notices_of N ((enter (ledger_of xs) x.frame d).queue p)) ⊎ BeenTold (xs ++ (x ∷ [])) p N
  waited d zero read legal passed dead told one = go (look (ltb 0 (notices_of N (k.queue p))))
    where
      l : Ledger
      l = ledger_of xs

      k : Ledger
      k = enter (ledger_of xs) x.frame d

      stay : All (λ e. LapsedIn l k p e → notice_of N e ≡ true → ⊥) (l.queue p)
      stay =
          all-imp (StandsIn l p) (λ e. LapsedIn l k p e → notice_of N e ≡ true → ⊥) (not-lapsed xs x hap d zero read legal passed p N dead told) (l.queue p)
          (waiting-in xs (happened-front xs (x ∷ []) hap) p).stands

      as_many : notices_of N (l.queue p) ≤ notices_of N (taken_of l p d) + notices_of N (k.queue p)
      as_many =
          omega (arith, later_more (notice_of N) stay (moved_by l x.frame d legal p), load-append (notice_of N) (λ e. 1) (taken_of l p d) (k.queue p))

      go : Seen (ltb 0 (notices_of N (k.queue p))) → (1 ≤ notices_of N (k.queue p)) ⊎ BeenTold (xs ++ (x ∷ [])) p N
      go (is_true e) = inl (ltb-true 0 (notices_of N (k.queue p)) e)
      go (is_false e) = inr (taken-shown xs x hap d p N zero read dead (omega (arith, as_many, one, ltb-false 0 (notices_of N (k.queue p)) e)))

  next : Untold p N (xs ++ (x ∷ []))
  unfolding with_book
  next less dead told = go (exchange xs x (happened-at xs [] x hap))
    where
      go : Exchange xs x → (1 ≤ notices_of N ((ledger_of (xs ++ (x ∷ []))).queue p)) ⊎ BeenTold (xs ++ (x ∷ [])) p N
      go (refused n) = same (u (subst (λ (b : Book). N < b.entered) books less) (ap (λ (y : Ledger). y.lives N) (sym e) ∙ dead) (subst Concerned e told))
        where
          Concerned : Ledger → Type 0
          Concerned y = is_told (y.handle p) (y.queue p) (y.died N) N ≡ true

          e : ledger_of (xs ++ (x ∷ [])) ≡ ledger_of xs
          e = ledger-more xs x ∙ ledger-left (ledger_of xs) x n

          books : book_of (xs ++ (x ∷ [])) ≡ book_of xs
          books = sym (book-in-ledger (xs ++ (x ∷ []))) ∙ ap (λ (y : Ledger). y.book) e ∙ book-in-ledger xs

          same : (1 ≤ notices_of N ((ledger_of xs).queue p)) ⊎ BeenTold xs p N → (1 ≤ notices_of N ((ledger_of (xs ++ (x ∷ []))).queue p)) ⊎ BeenTold (xs ++ (x ∷ [])) p N
          same (inl w) = inl (subst (λ (y : Ledger). 1 ≤ notices_of N (y.queue p)) (sym e) w)
          same (inr b) = inr (longer xs x p N b)
      go (accepted d zero read legal passed named) = lived (look ((ledger_of xs).lives N))
        where
          e : ledger_of (xs ++ (x ∷ [])) ≡ with_book (enter (ledger_of xs) x.frame d) (feed (ledger_of xs).book x)
          e = is-entered xs x hap d zero read legal passed p N

          dead-then : (enter (ledger_of xs) x.frame d).lives N ≡ false
          dead-then = ap (λ (y : Ledger). y.lives N) (sym e) ∙ dead

          told-then : is_told ((enter (ledger_of xs) x.frame d).handle p) ((enter (ledger_of xs) x.frame d).queue p) ((enter (ledger_of xs) x.frame d).died N) N ≡ true
          told-then = ap (λ (y : Ledger). is_told (y.handle p) (y.queue p) (y.died N) N) (sym e) ∙ told

          from-before : (ledger_of xs).lives N ≡ false → (1 ≤ notices_of N ((ledger_of xs).queue p)) ⊎ BeenTold xs p N →
              (1 ≤ notices_of N ((enter (ledger_of xs) x.frame d).queue p)) ⊎ BeenTold (xs ++ (x ∷ [])) p N
          from-before z (inl w) = waited d zero read legal passed z told-then w
          from-before z (inr b) = inr (longer xs x p N b)

          into : (1 ≤ notices_of N ((enter (ledger_of xs) x.frame d).queue p)) ⊎ BeenTold (xs ++ (x ∷ [])) p N →
              (1 ≤ notices_of N ((ledger_of (xs ++ (x ∷ []))).queue p)) ⊎ BeenTold (xs ++ (x ∷ [])) p N
          into (inl w) = inl (subst (λ (y : Ledger). 1 ≤ notices_of N (y.queue p)) (sym e) w)
          into (inr b) = inr b

          lived : Seen ((ledger_of xs).lives N) → (1 ≤ notices_of N ((ledger_of (xs ++ (x ∷ []))).queue p)) ⊎ BeenTold (xs ++ (x ∷ [])) p N
          lived (is_true z) = inl (ends_now d (ends-command N (ledger_of xs) x.frame d passed z dead-then) zero read z dead told)
          lived (is_false z) =
              let old = was-entered xs x hap d zero read legal passed p N less dead-then in
              let told-before = told_back xs x hap d zero read legal passed p N old z told-then in
              into (from-before z (u (subst (λ (b : Book). N < b.entered) (book-in-ledger xs) old) z told-before))

pub nobody-untold : NobodyUntold
nobody-untold xs h p m N less dead told = go (by-exchanges (Untold p N) none_yet (λ ys y hap u. next p N m ys y hap u) xs h less dead told)
  where
    none_yet : Untold p N []
    none_yet = unfold feed_all empty in λ l d t. absurd (omega (arith, l))

    go : (1 ≤ notices_of N ((ledger_of xs).queue p)) ⊎ BeenTold xs p N → (notices_of N ((ledger_of xs).queue p) ≡ 1) ⊎ BeenTold xs p N
    go (inl w) = let o = (waiting-in xs h p).once N in inl (omega (arith, w, o))
    go (inr b) = inr b

-- The command that destroyed a node.
further : (xs : List Fed) (x : Fed) (k : ℕ) (n : Node) → Destruction xs k n → Destruction (xs ++ (x ∷ [])) k n
further xs x k n b =
    record {
      before = b.before;
      destroy = b.destroy;
      after = b.after ++ (x ∷ []);
      place = ap (λ (z : List Fed). z ++ (x ∷ [])) b.place ∙ append_assoc b.before (b.destroy ∷ b.after) (x ∷ []);
      number = b.number;
      lived = b.lived;
      ends = b.ends;
    }

abbrev Died : Node → List Fed → Type 0
Died n xs =
    n.number < (book_of xs).entered → (ledger_of xs).maker n.number ≡ n.owner → (ledger_of xs).lives n.number ≡ false → Destruction xs ((ledger_of xs).died n.number) n

module _ (n : Node) (xs : List Fed) (x : Fed) (hap : Happened (xs ++ (x ∷ []))) (u : Died n xs) where
  by-this : (d : Command) → EndsNode n.number d → x.number ≡ 0 → parse x.frame ≡ Ok d → (ledger_of xs).maker n.number ≡ n.owner → (ledger_of xs).lives n.number ≡ true →
      (ledger_of (xs ++ (x ∷ []))).lives n.number ≡ false → ends xs x n.owner n.number ≡ true
  by-this (Destroy q i) t zero read made lived dead =
      let c = coded x.frame (Destroy q i) read in
      let d = destroy-in xs x hap q.0 (record { number = zero; byte = c.byte; peer = c.peer }) in
      go c.byte c.peer d.node d.count d.named (same? d.node.number n.number) (λ z. clash (sym lived ∙ sym (d.others n.number z) ∙ dead))
    where
      go : opcode x.frame ≡ 4 → acting_peer x.frame ≡ q.0 → (m : Node) (count : ℕ) → (book_of xs).handle q.0 (id_in x) ≡ noted m count → Same m.number n.number →
          ((m.number ≡ n.number → ⊥) → ⊥) → ends xs x n.owner n.number ≡ true
      go byte peer m count named (same z) must = rw (zero, byte, peer, named) (eq-eqb m.number n.number z)
      go byte peer m count named (other z) must = absurd (must z)
  by-this (Disconnect q) t zero read made lived dead =
      let c = coded x.frame (Disconnect q) read in
      let d = disconnect-in xs x hap q.0 (record { number = zero; byte = c.byte; peer = c.peer }) in
      go c.byte c.peer (same? ((ledger_of xs).maker n.number) q.0) (λ z. clash (sym lived ∙ sym (d.others-live n.number z) ∙ dead))
    where
      go : opcode x.frame ≡ 2 → acting_peer x.frame ≡ q.0 → Same ((ledger_of xs).maker n.number) q.0 → (((ledger_of xs).maker n.number ≡ q.0 → ⊥) → ⊥) →
          ends xs x n.owner n.number ≡ true
      go byte peer (same z) must = rw (zero, byte, peer, eq-eqb q.0 n.owner (sym z ∙ made)) refl
      go byte peer (other z) must = absurd (must z)
  by-this (Open q i) t zero read made lived dead = absurd t
  by-this (Create q i) t zero read made lived dead = absurd t
  by-this (Release q i) t zero read made lived dead = absurd t
  by-this (Transfer q i r) t zero read made lived dead = absurd t
  by-this (Send q z) t zero read made lived dead = absurd t
  by-this (Receive q room) t zero read made lived dead = absurd t
  by-this (Quota q i) t zero read made lived dead = absurd t
  by-this (Holders q i) t zero read made lived dead = absurd t
  by-this (ShowSeed q room) t zero read made lived dead = absurd t

  died-next : Died n (xs ++ (x ∷ []))
  unfolding with_book
  died-next less made dead = go (exchange xs x (happened-at xs [] x hap))
    where
      from : Happened xs
      from = happened-front xs (x ∷ []) hap

      go : Exchange xs x → Destruction (xs ++ (x ∷ [])) ((ledger_of (xs ++ (x ∷ []))).died n.number) n
      go (refused z) =
          subst (λ (y : Ledger). Destruction (xs ++ (x ∷ [])) (y.died n.number) n) (sym e)
          (further xs x ((ledger_of xs).died n.number) n
          (u (subst (λ (b : Book). n.number < b.entered) books less) (ap (λ (y : Ledger). y.maker n.number) (sym e) ∙ made) (ap (λ (y : Ledger). y.lives n.number) (sym e) ∙ dead)))
        where
          e : ledger_of (xs ++ (x ∷ [])) ≡ ledger_of xs
          e = ledger-more xs x ∙ ledger-left (ledger_of xs) x z

          books : book_of (xs ++ (x ∷ [])) ≡ book_of xs
          books = sym (book-in-ledger (xs ++ (x ∷ []))) ∙ ap (λ (y : Ledger). y.book) e ∙ book-in-ledger xs
      go (accepted d zero read legal passed named) = lived (look ((ledger_of xs).lives n.number))
        where
          e : ledger_of (xs ++ (x ∷ [])) ≡ with_book (enter (ledger_of xs) x.frame d) (feed (ledger_of xs).book x)
          e = is-entered xs x hap d zero read legal passed 0 n.number

          dead-then : (enter (ledger_of xs) x.frame d).lives n.number ≡ false
          dead-then = ap (λ (y : Ledger). y.lives n.number) (sym e) ∙ dead

          old : n.number < (ledger_of xs).book.entered
          old = was-entered xs x hap d zero read legal passed 0 n.number less dead-then

          made-before : (ledger_of xs).maker n.number ≡ n.owner
          made-before = sym (maker-command n.number (ledger_of xs) x.frame d passed old) ∙ ap (λ (y : Ledger). y.maker n.number) (sym e) ∙ made

          lived : Seen ((ledger_of xs).lives n.number) → Destruction (xs ++ (x ∷ [])) ((ledger_of (xs ++ (x ∷ []))).died n.number) n
          lived (is_false z) =
              subst (λ (k : ℕ). Destruction (xs ++ (x ∷ [])) k n) (sym (ap (λ (y : Ledger). y.died n.number) e ∙ died-command n.number (ledger_of xs) x.frame d passed z))
              (further xs x ((ledger_of xs).died n.number) n (u (subst (λ (b : Book). n.number < b.entered) (book-in-ledger xs) old) made-before z))
          lived (is_true z) =
              record {
                before = xs;
                destroy = x;
                after = [];
                place = refl;
                number = ap (λ (y : Ledger). y.died n.number) e ∙ dies-command n.number (ledger_of xs) x.frame d passed z dead-then ∙ ap suc (ledger-tally xs from);
                lived = z;
                ends = by-this d (ends-command n.number (ledger_of xs) x.frame d passed z dead-then) zero read made-before z dead;
              }

pub died-by : DiedBy
died-by xs h n less made dead = by-exchanges (Died n) (unfold feed_all empty in λ l m d. absurd (omega (arith, l))) (died-next n) xs h less made dead

pub told-of-it : ToldOfIt
told-of-it xs ys x h p k n t =
    let from = happened-front xs (x ∷ ys) h in
    let s : StandsIn (ledger_of xs) p (destroyed k n) = (subst (All (StandsIn (ledger_of xs) p)) t.first (waiting-in xs from p).stands).0 in
    let w = (notices-tell xs ys x h t.takes.number t.takes.byte).destruction t.takes.says in
    let same : w.notice.node ≡ n = same-notice _ _ _ _ _ _ (sym w.notice.first ∙ ap (ledger_of xs).queue t.takes.peer ∙ t.first) in
    let less = (nodes-in xs from).entered (acting_peer x.frame) _ w.notice.node w.notice.count w.notice.named in
    let made = (nodes-in xs from).makers (acting_peer x.frame) _ w.notice.node w.notice.count w.notice.named in
    subst (λ (j : ℕ). Destruction xs j n) s.1
    (died-by xs from n (subst (λ (v : Node). v.number < (book_of xs).entered) same less) (subst (λ (v : Node). (ledger_of xs).maker v.number ≡ v.owner) same made) s.0)
