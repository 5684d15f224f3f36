-- The theorems that go with specs/Lives.antt and stand on others: each goes by the definitions and the theorems there.
-- Assumes nothing.
use Rattle.std.specs.Prelude.{ℕ, suc, ◌<◌, ◌≡◌, Bool, not, length, get_or, drop, eqb, Ok}
use Rattle.std.proofs.Math.Path.{refl, ap, ap₂}
use Rattle.std.proofs.Common.{sym, ◌∙◌, arith}
use Rattle.std.proofs.Math.Bool.{true, false}
use mathlib.Core.List.{List, [], ◌∷◌, ◌++◌, append_assoc, append-nil}
use borrow.Author.Tests.{eq-eqb, ne_eqb}
use Rattle.laws.specs.Tests.{pick_all, Same, Same.same, Same.other, same?}
use Rattle.laws.specs.Tables.{upd, upd_same, upd_other}
use Rattle.frames.specs.declared.Command.{Command}
use Rattle.frames.specs.declared.Command.TheVariants.{Open, Disconnect, Create, Destroy, Release, Transfer, Send, Receive, Quota, Holders, ShowSeed}
use Rattle.frames.specs.Frame.{opcode, parse}
use Rattle.frames.specs.Fields.{Fields}
use Rattle.frames.proofs.Fields.{fields-command}
use Rattle.model.specs.Lists.{both, either}
use Rattle.model.specs.State.{State, start}
use Rattle.model.specs.Step.{Call, step, run, answer_of}
use Rattle.model.specs.Book.{Node, Noted, Noted.blank, Noted.noted, Book, Fed, acting_peer}
use Rattle.model.specs.Claim.{fed, history_from, book_after}
use Rattle.model.specs.Accepted.{Accepted, Came, Came.left, Came.done}
use Rattle.model.proofs.Accepted.{came, accepted-call}
use Rattle.model.specs.Coded.{code, actor, coded}
use Rattle.model.specs.History.{history-append, run-next, book-next, book-left, book-noted, ledger-next, ledger-left, ledger-book, ledger-entered}
use Rattle.model.specs.Ledger.{Item, Item.message, Item.destroyed, Item.released, Ledger, ledger_create, ledger_destroy, ledger_release, valid_at, ledger_give, ledger_give_all, ledger_queues, ledger_receive, ledger_disconnect, ledger_counted, on_node, enter, with_book, ledger_after, seed_nodes, ledger_seed}
use Rattle.model.specs.LedgerStep.{note-enters}
use Rattle.model.proofs.RowsRun.{entered-next}
use Rattle.model.specs.Rows.{book_of, ledger_of}
use Rattle.model.specs.Happened.{happened-cut}
use Rattle.model.specs.Lives.{names_number, ends, ended_in, LivesByFrames, both_yes, both-not, beside-book, create-lives, Made}

-- Of the ledger m that l became: the node n has its maker, and lives where it did unless t.
record Lasts (l m : Ledger) (n : ℕ) (t : Bool) : Type 0 where
  maker : m.maker n ≡ l.maker n
  lives : m.lives n ≡ both (l.lives n) (not t)

module _ (n : ℕ) where
  lasts-same : (l m : Ledger) → m.maker ≡ l.maker → m.lives ≡ l.lives → Lasts l m n false
  lasts-same l m e f = record { maker = ap (λ (g : ℕ → ℕ). g n) e; lives = ap (λ (g : ℕ → Bool). g n) f ∙ both_yes (l.lives n) }

  give-same : (l : Ledger) (p k : ℕ) (x : Node) → ((ledger_give l p k x).maker ≡ l.maker) × ((ledger_give l p k x).lives ≡ l.lives)
  unfolding ledger_give
  give-same l p k x = pick_all (λ (m : Ledger). (m.maker ≡ l.maker) × (m.lives ≡ l.lives)) (valid_at l p k x.number) _ l (refl, refl) (refl, refl)

  gives_same : (l : Ledger) (p k : ℕ) (xs : List Node) → ((ledger_give_all l p k xs).maker ≡ l.maker) × ((ledger_give_all l p k xs).lives ≡ l.lives)
  gives_same l p k [] = (refl, refl)
  gives_same l p k (x ∷ xs) =
      let y = give-same l p k x in
      let z = gives_same (ledger_give l p k x) p k xs in
      (z.0 ∙ y.0, z.1 ∙ y.1)

  receive-same : (l : Ledger) (p : ℕ) (xs : List Item) → ((ledger_receive l p xs).maker ≡ l.maker) × ((ledger_receive l p xs).lives ≡ l.lives)
  receive-same l p [] = (refl, refl)
  receive-same l p (message k m ∷ xs) = let y = gives_same (ledger_queues l (upd l.queue p xs)) p k m.carried in unfold ledger_queues in (y.0, y.1)
  receive-same l p (destroyed k x ∷ xs) = unfold ledger_queues in (refl, refl)
  receive-same l p (released k x ∷ xs) = unfold ledger_queues in (refl, refl)

  -- Destroy: the node that the ID names.
  lasts-destroy : (l : Ledger) (x : Node) → Lasts l (ledger_destroy l x) n (eqb x.number n)
  unfolding ledger_destroy
  lasts-destroy l x = record { maker = refl; lives = go (same? x.number n) }
    where
      go : Same x.number n → upd l.lives x.number false n ≡ both (l.lives n) (not (eqb x.number n))
      go (same e) = rw (e, upd_same, eq-eqb n n refl) (never (l.lives n))
        where
          never : (t : Bool) → false ≡ both t false
          never true = refl
          never false = refl
      go (other e) = rw (upd_other l.lives x.number n false e, ne_eqb x.number n e) (both_yes (l.lives n))

  -- Disconnect: the nodes that the peer created.
  lasts-disconnect : (l : Ledger) (q p : ℕ) → l.maker n ≡ p → Lasts l (ledger_disconnect l q) n (eqb q p)
  unfolding ledger_disconnect
  lasts-disconnect l q p e = record { maker = refl; lives = rw e (go (same? q p)) }
    where
      swap : (t : Bool) → both true t ≡ both t true
      swap true = refl
      swap false = refl

      never : (t : Bool) → both false t ≡ both t false
      never true = refl
      never false = refl

      go : Same q p → both (not (eqb p q)) (l.lives n) ≡ both (l.lives n) (not (eqb q p))
      go (same z) = rw (z, eq-eqb p p refl) (never (l.lives n))
      go (other z) = rw (ne_eqb q p z, ne_eqb p q (λ y. z (sym y))) (swap (l.lives n))

  -- Create: another number.
  lasts-create : (l : Ledger) (q i : ℕ) → n < l.book.entered → Lasts l (ledger_create l q i) n false
  unfolding ledger_create
  lasts-create l q i less =
      record {
        maker = upd_other l.maker l.book.entered n q (λ z. absurd (omega arith));
        lives = upd_other l.lives l.book.entered n true (λ z. absurd (omega arith)) ∙ both_yes (l.lives n);
      }

  -- Whether a command ends the node n, which p created.
  abbrev ends_by : Ledger → Command → ℕ → Bool
  ends_by l (Disconnect q) p = eqb q.0 p
  ends_by l (Destroy q i) p = names_number n (l.book.handle q.0 i.0)
  ends_by l (Open q u) p = false
  ends_by l (Create q i) p = false
  ends_by l (Release q i) p = false
  ends_by l (Transfer q i r) p = false
  ends_by l (Send q z) p = false
  ends_by l (Receive q room) p = false
  ends_by l (Quota q u) p = false
  ends_by l (Holders q i) p = false
  ends_by l (ShowSeed q room) p = false

  lasts-command : (l : Ledger) (f : List ℕ) (c : Command) (p : ℕ) → n < l.book.entered → l.maker n ≡ p → Lasts l (enter l f c) n (ends_by l c p)
  unfolding enter ledger_counted
  lasts-command l f (Open q u) p less e = lasts-same l _ refl refl
  lasts-command l f (Disconnect q) p less e = let x = lasts-disconnect (ledger_counted l) q.0 p e in record { maker = x.maker; lives = x.lives }
  lasts-command l f (Create q i) p less e = let x = lasts-create (ledger_counted l) q.0 i.0 less in record { maker = x.maker; lives = x.lives }
  lasts-command l f (Destroy q i) p less e = go (l.book.handle q.0 i.0)
    where
      go : (x : Noted) → Lasts l (on_node (ledger_counted l) x (λ n c. ledger_destroy (ledger_counted l) n)) n (names_number n x)
      go blank = lasts-same l _ refl refl
      go (noted x c) = let y = lasts-destroy (ledger_counted l) x in record { maker = y.maker; lives = y.lives }
  lasts-command l f (Release q i) p less e = go (l.book.handle q.0 i.0)
    where
      go : (x : Noted) → Lasts l (on_node (ledger_counted l) x (λ n c. ledger_release (ledger_counted l) q.0 i.0 n c)) n false
      go blank = lasts-same l _ refl refl
      go (noted x c) = unfold ledger_release in lasts-same l _ refl refl
  lasts-command l f (Transfer q i r) p less e = go (l.book.handle q.0 i.0)
    where
      go : (x : Noted) → Lasts l (on_node (ledger_counted l) x (λ n c. ledger_give (ledger_counted l) r.0 (suc l.accepted) n)) n false
      go blank = lasts-same l _ refl refl
      go (noted x c) = let y = give-same (ledger_counted l) r.0 (suc l.accepted) x in lasts-same l _ y.0 y.1
  lasts-command l f (Send q z) p less e = unfold ledger_seed ledger_queues in lasts-same l _ refl refl
  lasts-command l f (Receive q room) p less e = let y = receive-same (ledger_counted l) q.0 (l.queue q.0) in lasts-same l _ y.0 y.1
  lasts-command l f (Quota q u) p less e = lasts-same l l refl refl
  lasts-command l f (Holders q i) p less e = lasts-same l l refl refl
  lasts-command l f (ShowSeed q room) p less e = let y = gives_same (ledger_counted l) q.0 (suc l.accepted) (seed_nodes (l.seed q.0)) in lasts-same l _ y.0 y.1

-- The frame says what the command is.
ends-frame : (l : Ledger) (xs : List Fed) (x : Fed) (d : Command) (p n : ℕ) → l.book ≡ book_of xs → x.number ≡ 0 → parse x.frame ≡ Ok d → ends xs x p n ≡ ends_by n l d p
ends-frame l xs x d p n e z r = let y = coded x.frame d r in go d y.byte y.peer (fields-command x.frame d r)
  where
    go : (d : Command) → opcode x.frame ≡ code d → acting_peer x.frame ≡ actor d → Fields x.frame d → ends xs x p n ≡ ends_by n l d p
    go (Open q u) o a h = rw (z, o) refl
    go (Disconnect q) o a h = rw (z, o, a) (or_no (eqb q.0 p))
      where
        or_no : (t : Bool) → either t false ≡ t
        or_no true = refl
        or_no false = refl
    go (Create q i) o a h = rw (z, o) refl
    go (Destroy q i) o a h = rw (z, o, a, e, h.1) refl
    go (Release q i) o a h = rw (z, o) refl
    go (Transfer q i r) o a h = rw (z, o) refl
    go (Send q s) o a h = rw (z, o) refl
    go (Receive q room) o a h = rw (z, o) refl
    go (Quota q u) o a h = rw (z, o) refl
    go (Holders q i) o a h = rw (z, o) refl
    go (ShowSeed q room) o a h = rw (z, o) refl

ends-refused : (xs : List Fed) (x : Fed) (p n : ℕ) → (x.number ≡ 0 → ⊥) → ends xs x p n ≡ false
ends-refused xs x p n h = rw (ne_eqb x.number 0 h) refl

-- One call more.
module _ (cs : List Call) (c : Call) (p n : ℕ) (m : Made cs p n) where
  abbrev x : Fed
  x = fed c (step (run cs) c)

  made-next : Made (cs ++ (c ∷ [])) p n × ((ledger_after (cs ++ (c ∷ []))).lives n ≡ both ((ledger_after cs).lives n) (not (ends (history_from start cs) x p n)))
  made-next = go (came (run cs) c)
    where
      go : Came (run cs) c → Made (cs ++ (c ∷ [])) p n × ((ledger_after (cs ++ (c ∷ []))).lives n ≡ both ((ledger_after cs).lives n) (not (ends (history_from start cs) x p n)))
      go (left e z) =
          let f : ledger_after (cs ++ (c ∷ [])) ≡ ledger_after cs = ledger-next cs c ∙ ledger-left (ledger_after cs) x z in
          let g : book_after (cs ++ (c ∷ [])) ≡ book_after cs = book-next cs c ∙ book-left (book_after cs) x z in (
            record { entered = rw g m.entered; maker = ap (λ (l : Ledger). l.maker n) f ∙ m.maker },
            ap (λ (l : Ledger). l.lives n) f ∙ both_yes ((ledger_after cs).lives n) ∙ ap (λ (t : Bool). both ((ledger_after cs).lives n) (not t)) (sym (ends-refused (history_from start cs) x p n z)),
          )
      go (done d a) =
          let l = ledger_after cs in
          let less : n < l.book.entered = rw (ledger-book cs) m.entered in
          let y = lasts-command n l c.frame d p less m.maker in
          let f : ledger_after (cs ++ (c ∷ [])) ≡ with_book (enter l c.frame d) (book_after (cs ++ (c ∷ []))) = ledger-entered cs c d a in
          let e : ends (history_from start cs) x p n ≡ ends_by n l d p = ends-frame l (history_from start cs) x d p n (ledger-book cs) a.number a.read in (
            record { entered = omega (arith, m.entered, entered-next cs c); maker = ap (λ (l : Ledger). l.maker n) f ∙ (beside-book _ _ n).0 ∙ y.maker ∙ m.maker },
            ap (λ (l : Ledger). l.lives n) f ∙ (beside-book _ _ n).1 ∙ y.lives ∙ ap (λ (t : Bool). both (l.lives n) (not t)) (sym e),
          )

-- Any further calls.
pub made-lives : (cs ds : List Call) (p n : ℕ) → Made cs p n →
    (ledger_after (cs ++ ds)).lives n ≡ both ((ledger_after cs).lives n) (not (ended_in (history_from start cs) (history_from (run cs) ds) p n))
made-lives cs [] p n m = ap (λ (l : List Call). (ledger_after l).lives n) (append-nil cs) ∙ both_yes ((ledger_after cs).lives n) ∙ unfold history_from in refl
made-lives cs (c ∷ ds) p n m =
    let y = made-next cs c p n m in
    let x = fed c (step (run cs) c) in
    let h : history_from start (cs ++ (c ∷ [])) ≡ history_from start cs ++ (x ∷ []) = history-append cs (c ∷ []) start ∙ unfold history_from in refl in
    let ih = made-lives (cs ++ (c ∷ [])) ds p n y.0 in
    ap (λ (l : List Call). (ledger_after l).lives n) (sym (append_assoc cs (c ∷ []) ds))
    ∙ ih
    ∙ ap₂ (λ (t u : Bool). both t (not u)) y.1 (ap₂ (λ (xs ys : List Fed). ended_in xs ys p n) h (ap (λ (b : State). history_from b ds) (run-next cs c)))
    ∙ both-not ((ledger_after cs).lives n) (ends (history_from start cs) x p n) (ended_in (history_from start cs ++ (x ∷ [])) (history_from (step (run cs) c).state ds) p n)
    ∙ unfold history_from in refl

-- The create.
module _ (cs : List Call) (c : Call) (zero : (step (run cs) c).outcome.number ≡ 0) (three : opcode c.frame ≡ 3) where
  created : Made (cs ++ (c ∷ [])) (acting_peer c.frame) (book_after cs).entered × ((ledger_after (cs ++ (c ∷ []))).lives (book_after cs).entered ≡ true)
  created = let y = accepted-call (run cs) c zero in go y.0 y.1
    where
      go : (d : Command) → Accepted (run cs) c d → Made (cs ++ (c ∷ [])) (acting_peer c.frame) (book_after cs).entered × ((ledger_after (cs ++ (c ∷ []))).lives (book_after cs).entered ≡ true)
      go (Open p u) a = absurd (omega (arith, three, (coded c.frame (Open p u) a.read).byte))
      go (Disconnect p) a = absurd (omega (arith, three, (coded c.frame (Disconnect p) a.read).byte))
      go (Create p i) a =
          let n = (book_after cs).entered in
          let l = ledger_after cs in
          let f : ledger_after (cs ++ (c ∷ [])) ≡ with_book (enter l c.frame (Create p i)) (book_after (cs ++ (c ∷ []))) = ledger-entered cs c (Create p i) a in
          let y = create-lives l c.frame p i n (ap (λ (k : Book). k.entered) (ledger-book cs)) in
          let g : (book_after (cs ++ (c ∷ []))).entered ≡ suc n
          = ap (λ (k : Book). k.entered) (book-noted cs c (Create p i) a) ∙ note-enters (book_after cs) c.frame (answer_of (step (run cs) c)) (Create p i) in (
            record {
              entered = omega (arith, g);
              maker = ap (λ (l : Ledger). l.maker n) f ∙ (beside-book _ _ n).0 ∙ y.0 ∙ sym (coded c.frame (Create p i) a.read).peer;
            },
            ap (λ (l : Ledger). l.lives n) f ∙ (beside-book _ _ n).1 ∙ y.1,
          )
      go (Destroy p i) a = absurd (omega (arith, three, (coded c.frame (Destroy p i) a.read).byte))
      go (Release p i) a = absurd (omega (arith, three, (coded c.frame (Release p i) a.read).byte))
      go (Transfer p i q) a = absurd (omega (arith, three, (coded c.frame (Transfer p i q) a.read).byte))
      go (Send p z) a = absurd (omega (arith, three, (coded c.frame (Send p z) a.read).byte))
      go (Receive p room) a = absurd (omega (arith, three, (coded c.frame (Receive p room) a.read).byte))
      go (Quota p u) a = absurd (omega (arith, three, (coded c.frame (Quota p u) a.read).byte))
      go (Holders p i) a = absurd (omega (arith, three, (coded c.frame (Holders p i) a.read).byte))
      go (ShowSeed p room) a = absurd (omega (arith, three, (coded c.frame (ShowSeed p room) a.read).byte))

  lives-call : (ds : List Call) →
      (ledger_of (history_from start cs ++ history_from (run cs) (c ∷ ds))).lives (book_after cs).entered
      ≡ not (ended_in (history_from start cs ++ (fed c (step (run cs) c) ∷ [])) (history_from (step (run cs) c).state ds) (acting_peer c.frame) (book_after cs).entered)
  lives-call ds =
      let n = (book_after cs).entered in
      let p = acting_peer c.frame in
      let x = fed c (step (run cs) c) in
      let h : history_from start (cs ++ (c ∷ [])) ≡ history_from start cs ++ (x ∷ []) = history-append cs (c ∷ []) start ∙ unfold history_from in refl in
      ap (λ (xs : List Fed). (ledger_of xs).lives n) (sym (history-append cs (c ∷ ds) start))
      ∙ ap (λ (l : List Call). (ledger_after l).lives n) (sym (append_assoc cs (c ∷ []) ds))
      ∙ made-lives (cs ++ (c ∷ [])) ds p n created.0
      ∙ ap₂ (λ (t u : Bool). both t (not u)) created.1 (ap₂ (λ (xs ys : List Fed). ended_in xs ys p n) h (ap (λ (b : State). history_from b ds) (run-next cs c)))

on-history : {us xs vs zs ws ys : List Fed} {u x : Fed} → us ≡ xs → vs ≡ zs → ws ≡ ys → u ≡ x →
    (ledger_of (us ++ vs)).lives (book_of us).entered ≡ not (ended_in (us ++ (u ∷ [])) ws (acting_peer u.frame) (book_of us).entered) →
    (ledger_of (xs ++ zs)).lives (book_of xs).entered ≡ not (ended_in (xs ++ (x ∷ [])) ys (acting_peer x.frame) (book_of xs).entered)
on-history a b c d e = rw (← a, ← b, ← c, ← d) e

pub lives-by-frames : LivesByFrames
unfolding history_from
lives-by-frames xs ys x h zero three = let k = happened-cut xs (x ∷ ys) h in go k.before k.after k.first k.second
  where
    go : (before after : List Call) → history_from start before ≡ xs → history_from (run before) after ≡ x ∷ ys →
        (ledger_of (xs ++ (x ∷ ys))).lives (book_of xs).entered ≡ not (ended_in (xs ++ (x ∷ [])) ys (acting_peer x.frame) (book_of xs).entered)
    go before [] e f = let z : 0 ≡ suc (length ys) = ap length f in absurd (omega arith)
    go before (c ∷ ds) e f =
        let same : fed c (step (run before) c) ≡ x = ap (λ (l : List Fed). get_or l 0 x) f in
        on-history e f (ap (drop 1) f) same
        (lives-call before c (ap (λ (y : Fed). y.number) same ∙ zero) (ap (λ (y : Fed). opcode y.frame) same ∙ three) ds)
