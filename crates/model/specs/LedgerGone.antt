-- What is over stays over. A destroyed node never lives again. And where a peer has no handle to a destroyed node, and no message that waits for it was sent before the destruction and
-- carries the node, that node is gone for it for good: whatever calls follow, no ID of the peer comes to stand for it, and nothing of it waits for the peer. 02 No. 2: "invalid only if the
-- destruction came before the message"; "withdrawn as soon as the peer holds no handle and no earlier message carrying the node is left".
-- Assumes nothing.
use Prim.Native.Nat.{ℕ, suc, ◌-◌, ◌≤◌, ◌<◌}
use Rattle.std.specs.Prelude.{◌≡◌, Bool, not, ◌⊎◌, eqb, ltb}
use Rattle.std.proofs.Math.Path.{refl, sym, ap, ap₂}
use Rattle.std.proofs.Common.{◌∙◌}
use Rattle.std.proofs.Math.Bool.{true, false}
use Rattle.std.proofs.Math.Logic.◌⊎◌.{inl, inr}
use mathlib.Core.List.{List, [], ◌∷◌, ◌++◌}
use native.Mathlib.Omega.{arith}
use borrow.Author.Tests.{eq-eqb, le-ltb}
use Rattle.laws.specs.Tests.{pick, pick_all, Seen, Seen.is_true, Seen.is_false, look, clash, Same, Same.same, Same.other, same?}
use Rattle.laws.specs.Tables.{upd, upd_same, upd_other, upd-all}
use Rattle.laws.specs.Weights.{All}
use Rattle.frames.specs.declared.Command.{Command}
use Rattle.frames.specs.declared.Command.TheVariants.{Open, Disconnect, Create, Destroy, Release, Transfer, Send, Receive, Quota, Holders, ShowSeed}
use Rattle.frames.specs.Legal.{Legal}
use Rattle.model.specs.Lists.{both, either, any}
use Rattle.model.specs.State.{Handle, Handle.none, handle_of}
use Rattle.model.specs.Step.{Call}
use Rattle.model.specs.Book.{Node}
use Rattle.model.specs.Claim.{book_after}
use Rattle.model.specs.QueuesLaws.{later-all, all-behind}
use Rattle.model.specs.SimHandles.{some-none}
use Rattle.model.specs.Ledger.{Item, Item.message as message_item, Item.destroyed as destroyed_item, Item.released as released_item, Ledger, brings, ledger_create, ledger_destroy, ledger_release, valid_at, ledger_give, ledger_give_all, ledger_queues, ledger_receive, ledger_disconnect, ledger_counted, enter, ledger_after, item_number, seed_nodes, ledger_seed}
use Rattle.model.specs.LedgerMoves.{taken_of, moved_by}
use Rattle.model.specs.LedgerStep.{entered_after}
use Rattle.model.specs.LedgerPassed.{Passed}

-- An item that is about a node: a message to it, or a notice of it.
abbrev pub about : ℕ → Item → Bool
about n (message_item k m) = eqb m.to.number n
about n (destroyed_item k x) = eqb x.number n
about n (released_item k x) = eqb x.number n

-- No message that waits for p was sent before the node n was destroyed and carries it.
abbrev pub Unbrought : Ledger → ℕ → ℕ → Type 0
Unbrought l p n = All (λ x. brings (l.died n) n x ≡ false) (l.queue p)

-- The node n is gone for p.
pub record Gone (l : Ledger) (p n : ℕ) : Type 0 where
  pub dead : l.lives n ≡ false
  pub unheld : l.handle p n ≡ none
  pub unbrought : Unbrought l p n
  pub unqueued : All (λ x. about n x ≡ false) (l.queue p)

-- For every list of calls, and any that follow: of a node that was created.
abbrev pub DeadForGood : Type 0
DeadForGood = (cs ds : List Call) (n : ℕ) → n < (book_after cs).entered → (ledger_after cs).lives n ≡ false → (ledger_after (cs ++ ds)).lives n ≡ false

abbrev pub GoneForGood : Type 0
GoneForGood =
    (cs ds : List Call) (p n : ℕ) → n < (book_after cs).entered → (ledger_after cs).lives n ≡ false → (ledger_after cs).handle p n ≡ none → Unbrought (ledger_after cs) p n →
    Gone (ledger_after (cs ++ ds)) p n

-- "An owner whose own handle is gone is still shown the invalid ID": whatever waits for the owner, no ID of it comes to stand for the node.
pub record OwnGone (l : Ledger) (p n : ℕ) : Type 0 where
  pub maker : l.maker n ≡ p
  pub dead : l.lives n ≡ false
  pub unheld : l.handle p n ≡ none

abbrev pub OwnGoneForGood : Type 0
OwnGoneForGood = (cs ds : List Call) (p n : ℕ) → n < (book_after cs).entered → OwnGone (ledger_after cs) p n → OwnGone (ledger_after (cs ++ ds)) p n

-- A handle of another node, or of another peer.
pub cell_other : (h : ℕ → ℕ → Handle) (q m : ℕ) (x : Handle) (p n : ℕ) → (q ≡ p → m ≡ n → ⊥) → upd h q (upd (h q) m x) p n ≡ h p n
cell_other h q m x p n ne = go (same? q p)
  where
    go : Same q p → upd h q (upd (h q) m x) p n ≡ h p n
    go (other z) = rw (upd_other h q p (upd (h q) m x) z) refl
    go (same z) = rw (← z, upd_same, upd_other (h q) m n x (ne z)) refl

-- A handle given, and a receive, leave what is known of the nodes alone, and the number of commands.
abbrev Beside : Ledger → Ledger → Type 0
Beside l m = (m.lives ≡ l.lives) × (m.died ≡ l.died) × (m.accepted ≡ l.accepted) × (m.maker ≡ l.maker)

give-beside : (l : Ledger) (q k : ℕ) (m : Node) → Beside l (ledger_give l q k m)
unfolding ledger_give
give-beside l q k m = pick_all (λ (x : Ledger). Beside l x) (valid_at l q k m.number) _ l (refl, refl, refl, refl) (refl, refl, refl, refl)

gives-beside : (l : Ledger) (q k : ℕ) (ms : List Node) → Beside l (ledger_give_all l q k ms)
gives-beside l q k [] = (refl, refl, refl, refl)
gives-beside l q k (m ∷ ms) =
    let x = gives-beside (ledger_give l q k m) q k ms in
    let y = give-beside l q k m in
    (x.0 ∙ y.0, x.1 ∙ y.1, x.2 ∙ y.2, x.3 ∙ y.3)

receive-beside : (l : Ledger) (q : ℕ) (xs : List Item) → Beside l (ledger_receive l q xs)
unfolding ledger_queues
receive-beside l q [] = (refl, refl, refl, refl)
receive-beside l q (message_item k m ∷ xs) = gives-beside (ledger_queues l (upd l.queue q xs)) q k m.carried
receive-beside l q (destroyed_item k m ∷ xs) = (refl, refl, refl, refl)
receive-beside l q (released_item k m ∷ xs) = (refl, refl, refl, refl)

module _ (n : ℕ) where
  destroyed-dead : (l : Ledger) (m : Node) → l.lives n ≡ false → (ledger_destroy l m).lives n ≡ false
  unfolding ledger_destroy
  destroyed-dead l m e = go (same? m.number n)
    where
      go : Same m.number n → upd l.lives m.number false n ≡ false
      go (same z) = rw (z, upd_same) refl
      go (other z) = upd_other l.lives m.number n false z ∙ e

  disconnected-dead : (l : Ledger) (q : ℕ) → l.lives n ≡ false → (ledger_disconnect l q).lives n ≡ false
  unfolding ledger_disconnect
  disconnected-dead l q e = rw e (nothing (not (eqb (l.maker n) q)))
    where
      nothing : (x : Bool) → both x false ≡ false
      nothing true = refl
      nothing false = refl

  -- Every accepted command: create alone makes a node live, one that was not entered yet.
  pub dead-command : (l : Ledger) (f : List ℕ) (c : Command) → Passed l f c → n < l.book.entered → l.lives n ≡ false → (enter l f c).lives n ≡ false
  unfolding enter ledger_counted
  dead-command l f (Open q u) t less e = e
  dead-command l f (Disconnect q) t less e = disconnected-dead (ledger_counted l) q.0 e
  dead-command l f (Create q i) t less e = unfold ledger_create in upd_other l.lives l.book.entered n true (λ z. absurd (omega arith)) ∙ e
  dead-command l f (Destroy q i) t less e = rw t.0.named (destroyed-dead (ledger_counted l) t.0.node e)
  dead-command l f (Release q i) t less e = rw t.0.named (unfold ledger_release in e)
  dead-command l f (Transfer q i r) t less e = rw t.0.named (ap (λ (x : ℕ → Bool). x n) (give-beside (ledger_counted l) r.0 (suc l.accepted) t.0.node).0 ∙ e)
  dead-command l f (Send q z) t less e = unfold ledger_seed ledger_queues in e
  dead-command l f (Receive q room) t less e = ap (λ (x : ℕ → Bool). x n) (receive-beside (ledger_counted l) q.0 (l.queue q.0)).0 ∙ e
  dead-command l f (Quota q u) t less e = e
  dead-command l f (Holders q i) t less e = e
  dead-command l f (ShowSeed q room) t less e = ap (λ (x : ℕ → Bool). x n) (gives-beside (ledger_counted l) q.0 (suc l.accepted) (seed_nodes (l.seed q.0))).0 ∙ e

  -- The command that destroyed a node stays the one.
  pub died-command : (l : Ledger) (f : List ℕ) (c : Command) → Passed l f c → l.lives n ≡ false → (enter l f c).died n ≡ l.died n
  unfolding enter ledger_counted
  died-command l f (Open q u) t d = refl
  died-command l f (Disconnect q) t d = unfold ledger_disconnect in rw d (aside (eqb (l.maker n) q.0))
    where
      aside : (x : Bool) → pick (both x false) (suc l.accepted) (l.died n) ≡ l.died n
      aside true = refl
      aside false = refl
  died-command l f (Create q i) t d = unfold ledger_create in refl
  died-command l f (Destroy q i) t d =
      rw t.0.named (unfold ledger_destroy in upd_other l.died t.0.node.number n (suc l.accepted) (λ z. clash (sym t.2 ∙ ap l.lives z ∙ d)))
  died-command l f (Release q i) t d = rw t.0.named (unfold ledger_release in refl)
  died-command l f (Transfer q i r) t d = rw t.0.named (ap (λ (x : ℕ → ℕ). x n) (give-beside (ledger_counted l) r.0 (suc l.accepted) t.0.node).1)
  died-command l f (Send q z) t d = unfold ledger_seed ledger_queues in refl
  died-command l f (Receive q room) t d = ap (λ (x : ℕ → ℕ). x n) (receive-beside (ledger_counted l) q.0 (l.queue q.0)).1
  died-command l f (Quota q u) t d = refl
  died-command l f (Holders q i) t d = refl
  died-command l f (ShowSeed q room) t d = ap (λ (x : ℕ → ℕ). x n) (gives-beside (ledger_counted l) q.0 (suc l.accepted) (seed_nodes (l.seed q.0))).1

  -- The number under which a node dies.
  destroy-date : (l : Ledger) (m : Node) → l.lives n ≡ true → (ledger_destroy l m).lives n ≡ false → (ledger_destroy l m).died n ≡ l.accepted
  unfolding ledger_destroy
  destroy-date l m v e = go (same? m.number n)
    where
      go : Same m.number n → upd l.died m.number l.accepted n ≡ l.accepted
      go (same z) = rw (z, upd_same) refl
      go (other z) = clash (sym v ∙ sym (upd_other l.lives m.number n false z) ∙ e)

  disconnect-date : (l : Ledger) (q : ℕ) → l.lives n ≡ true → (ledger_disconnect l q).lives n ≡ false → (ledger_disconnect l q).died n ≡ l.accepted
  unfolding ledger_disconnect
  disconnect-date l q v e = go (look (eqb (l.maker n) q))
    where
      go : Seen (eqb (l.maker n) q) → pick (both (eqb (l.maker n) q) (l.lives n)) l.accepted (l.died n) ≡ l.accepted
      go (is_true z) = rw (z, v) refl
      go (is_false z) = let y : true ≡ false = rw (z, v) at e in clash y

  create-lives : (l : Ledger) (q i : ℕ) → l.lives n ≡ true → (ledger_create l q i).lives n ≡ true
  unfolding ledger_create
  create-lives l q i v = go (same? l.book.entered n)
    where
      go : Same l.book.entered n → upd l.lives l.book.entered true n ≡ true
      go (same z) = rw (z, upd_same) refl
      go (other z) = upd_other l.lives l.book.entered n true z ∙ v

  released-lives : (k : Ledger) (q i : ℕ) (m : Node) (c : ℕ) → (ledger_release k q i m c).lives n ≡ false → k.lives n ≡ false
  unfolding ledger_release
  released-lives k q i m c z = z

  -- Only a destroy and a disconnect end a node.
  abbrev pub EndsNode : Command → Type 0
  EndsNode (Destroy q i) = Unit {0}
  EndsNode (Disconnect q) = Unit {0}
  EndsNode (Open q u) = ⊥
  EndsNode (Create q i) = ⊥
  EndsNode (Release q i) = ⊥
  EndsNode (Transfer q i r) = ⊥
  EndsNode (Send q z) = ⊥
  EndsNode (Receive q room) = ⊥
  EndsNode (Quota q u) = ⊥
  EndsNode (Holders q i) = ⊥
  EndsNode (ShowSeed q room) = ⊥

  pub ends-command : (l : Ledger) (f : List ℕ) (c : Command) → Passed l f c → l.lives n ≡ true → (enter l f c).lives n ≡ false → EndsNode c
  unfolding enter ledger_counted
  ends-command l f (Open q u) t v e = clash (sym v ∙ e)
  ends-command l f (Disconnect q) t v e = tt
  ends-command l f (Create q i) t v e = clash (sym (create-lives (ledger_counted l) q.0 i.0 v) ∙ e)
  ends-command l f (Destroy q i) t v e = tt
  ends-command l f (Release q i) t v e = clash (sym v ∙ released-lives (ledger_counted l) q.0 i.0 t.0.node t.0.count (rw t.0.named at e))
  ends-command l f (Transfer q i r) t v e =
      clash (sym v ∙ sym (ap (λ (x : ℕ → Bool). x n) (give-beside (ledger_counted l) r.0 (suc l.accepted) t.0.node).0) ∙ (rw t.0.named at e))
  ends-command l f (Send q z) t v e = clash (sym v ∙ (unfold ledger_seed ledger_queues in e))
  ends-command l f (Receive q room) t v e = clash (sym v ∙ sym (ap (λ (x : ℕ → Bool). x n) (receive-beside (ledger_counted l) q.0 (l.queue q.0)).0) ∙ e)
  ends-command l f (Quota q u) t v e = clash (sym v ∙ e)
  ends-command l f (Holders q i) t v e = clash (sym v ∙ e)
  ends-command l f (ShowSeed q room) t v e =
      clash (sym v ∙ sym (ap (λ (x : ℕ → Bool). x n) (gives-beside (ledger_counted l) q.0 (suc l.accepted) (seed_nodes (l.seed q.0))).0) ∙ e)

  -- It is the command under whose number the node died.
  pub dies-command : (l : Ledger) (f : List ℕ) (c : Command) → Passed l f c → l.lives n ≡ true → (enter l f c).lives n ≡ false → (enter l f c).died n ≡ suc l.accepted
  unfolding enter ledger_counted
  dies-command l f (Disconnect q) t v e = disconnect-date (ledger_counted l) q.0 v e
  dies-command l f (Destroy q i) t v e = rw t.0.named (destroy-date (ledger_counted l) t.0.node v (rw t.0.named at e))
  dies-command l f (Open q u) t v e = absurd (ends-command l f (Open q u) t v e)
  dies-command l f (Create q i) t v e = absurd (ends-command l f (Create q i) t v e)
  dies-command l f (Release q i) t v e = absurd (ends-command l f (Release q i) t v e)
  dies-command l f (Transfer q i r) t v e = absurd (ends-command l f (Transfer q i r) t v e)
  dies-command l f (Send q z) t v e = absurd (ends-command l f (Send q z) t v e)
  dies-command l f (Receive q room) t v e = absurd (ends-command l f (Receive q room) t v e)
  dies-command l f (Quota q u) t v e = absurd (ends-command l f (Quota q u) t v e)
  dies-command l f (Holders q i) t v e = absurd (ends-command l f (Holders q i) t v e)
  dies-command l f (ShowSeed q room) t v e = absurd (ends-command l f (ShowSeed q room) t v e)

  -- And its maker.
  pub maker-command : (l : Ledger) (f : List ℕ) (c : Command) → Passed l f c → n < l.book.entered → (enter l f c).maker n ≡ l.maker n
  unfolding enter ledger_counted
  maker-command l f (Open q u) t less = refl
  maker-command l f (Disconnect q) t less = unfold ledger_disconnect in refl
  maker-command l f (Create q i) t less = unfold ledger_create in upd_other l.maker l.book.entered n q.0 (λ z. absurd (omega arith))
  maker-command l f (Destroy q i) t less = rw t.0.named (unfold ledger_destroy in refl)
  maker-command l f (Release q i) t less = rw t.0.named (unfold ledger_release in refl)
  maker-command l f (Transfer q i r) t less = rw t.0.named (ap (λ (x : ℕ → ℕ). x n) (give-beside (ledger_counted l) r.0 (suc l.accepted) t.0.node).3)
  maker-command l f (Send q z) t less = unfold ledger_seed ledger_queues in refl
  maker-command l f (Receive q room) t less = ap (λ (x : ℕ → ℕ). x n) (receive-beside (ledger_counted l) q.0 (l.queue q.0)).3
  maker-command l f (Quota q u) t less = refl
  maker-command l f (Holders q i) t less = refl
  maker-command l f (ShowSeed q room) t less = ap (λ (x : ℕ → ℕ). x n) (gives-beside (ledger_counted l) q.0 (suc l.accepted) (seed_nodes (l.seed q.0))).3

  module _ (p : ℕ) where
    -- What the command k queued shows p the node no more: p made it, or it died before.
    abbrev Shut : Ledger → ℕ → Type 0
    Shut l k = (l.maker n ≡ p) ⊎ (ltb k (l.died n) ≡ false)

    shut-invalid : (l : Ledger) (k : ℕ) → l.lives n ≡ false → l.handle p n ≡ none → Shut l k → valid_at l p k n ≡ false
    unfolding valid_at
    shut-invalid l k d e (inl z) = rw (d, e, z, eq-eqb p p refl) (nothing (ltb k (l.died n)))
      where
        nothing : (x : Bool) → both x false ≡ false
        nothing true = refl
        nothing false = refl
    shut-invalid l k d e (inr z) = rw (d, z) refl

    shut-beside : (l m : Ledger) (k : ℕ) → Beside l m → Shut l k → Shut m k
    shut-beside l m k b (inl z) = inl (ap (λ (x : ℕ → ℕ). x n) b.3 ∙ z)
    shut-beside l m k b (inr z) = inr (ap (λ (x : ℕ → ℕ). ltb k (x n)) b.1 ∙ z)

    -- So no handle to it is given.
    unheld-give : (l : Ledger) (q k : ℕ) (m : Node) → l.lives n ≡ false → l.handle p n ≡ none → (q ≡ p → n ≡ m.number → Shut l k) → (ledger_give l q k m).handle p n ≡ none
    unfolding ledger_give
    unheld-give l q k m d e shut = go (look (valid_at l q k m.number))
      where
        go : Seen (valid_at l q k m.number) → (ledger_give l q k m).handle p n ≡ none
        go (is_false z) = rw z e
        go (is_true z) =
            rw z
            (cell_other l.handle q m.number _ p n
            (λ x y. clash (sym z ∙ ap₂ (λ (r t : ℕ). valid_at l r k t) x y ∙ shut-invalid l k d e (shut x (sym y))))
            ∙ e)

    unheld-gives : (l : Ledger) (q k : ℕ) (ms : List Node) → l.lives n ≡ false → l.handle p n ≡ none → (q ≡ p → any (λ (x : Node). eqb n x.number) ms ≡ true → Shut l k) →
        (ledger_give_all l q k ms).handle p n ≡ none
    unheld-gives l q k [] d e shut = e
    unheld-gives l q k (m ∷ ms) d e shut =
        let b = give-beside l q k m in
        unheld-gives (ledger_give l q k m) q k ms (ap (λ (x : ℕ → Bool). x n) b.0 ∙ d) (unheld-give l q k m d e (λ x y. shut x (rw (eq-eqb n m.number y) refl)))
        (λ x y. shut-beside l (ledger_give l q k m) k b (shut x (rw y (last (eqb n m.number)))))
      where
        last : (x : Bool) → either x true ≡ true
        last true = refl
        last false = refl

    unheld-receive : (l : Ledger) (q : ℕ) (xs : List Item) → l.lives n ≡ false → l.handle p n ≡ none →
        (l.maker n ≡ p) ⊎ (q ≡ p → All (λ x. brings (l.died n) n x ≡ false) xs) → (ledger_receive l q xs).handle p n ≡ none
    unfolding ledger_queues
    unheld-receive l q [] d e shut = e
    unheld-receive l q (message_item k m ∷ xs) d e shut = unheld-gives (ledger_queues l (upd l.queue q xs)) q k m.carried d e (λ x y. go shut x y)
      where
        earlier-not : (a b : Bool) → both a b ≡ false → b ≡ true → a ≡ false
        earlier-not true b z y = clash (sym y ∙ z)
        earlier-not false b z y = refl

        go : (l.maker n ≡ p) ⊎ (q ≡ p → All (λ x. brings (l.died n) n x ≡ false) (message_item k m ∷ xs)) → q ≡ p → any (λ (x : Node). eqb n x.number) m.carried ≡ true →
            (l.maker n ≡ p) ⊎ (ltb k (l.died n) ≡ false)
        go (inl z) x y = inl z
        go (inr z) x y = inr (earlier-not (ltb k (l.died n)) _ (z x).0 y)
    unheld-receive l q (destroyed_item k m ∷ xs) d e shut = e
    unheld-receive l q (released_item k m ∷ xs) d e shut = e

    unheld-disconnect : (l : Ledger) (q : ℕ) → l.handle p n ≡ none → (ledger_disconnect l q).handle p n ≡ none
    unfolding ledger_disconnect
    unheld-disconnect l q e = go (same? q p)
      where
        go : Same q p → upd l.handle q (λ m. none) p n ≡ none
        go (same z) = rw (z, upd_same) refl
        go (other z) = rw (upd_other l.handle q p (λ m. none) z) e

    pub unheld-command : (l : Ledger) (f : List ℕ) (c : Command) → Passed l f c → n < l.book.entered → l.lives n ≡ false → l.handle p n ≡ none → l.died n ≤ l.accepted →
        (l.maker n ≡ p) ⊎ Unbrought l p n → (enter l f c).handle p n ≡ none
    unfolding enter ledger_counted
    unheld-command l f (Open q u) t less d e past shut = e
    unheld-command l f (Disconnect q) t less d e past shut = unheld-disconnect (ledger_counted l) q.0 e
    unheld-command l f (Create q i) t less d e past shut =
        unfold ledger_create in cell_other l.handle q.0 l.book.entered (handle_of i.0 1) p n (λ _ z. absurd (omega arith)) ∙ e
    unheld-command l f (Destroy q i) t less d e past shut = rw t.0.named (unfold ledger_destroy in e)
    unheld-command l f (Release q i) t less d e past shut =
        rw t.0.named
        (unfold ledger_release in
        cell_other l.handle q.0 t.0.node.number (handle_of i.0 (t.0.count - 1)) p n (λ y z. some-none (sym t.0.handle ∙ rw (y, z) e)) ∙ e)
    unheld-command l f (Transfer q i r) t less d e past shut =
        rw t.0.named (unheld-give (ledger_counted l) r.0 (suc l.accepted) t.0.node d e (λ x y. inr (le-ltb (suc l.accepted) (l.died n) (omega (arith, past)))))
    unheld-command l f (Send q z) t less d e past shut = unfold ledger_seed ledger_queues in e
    unheld-command l f (Receive q room) t less d e past shut = unheld-receive (ledger_counted l) q.0 (l.queue q.0) d e (go shut)
      where
        go : (l.maker n ≡ p) ⊎ Unbrought l p n → (l.maker n ≡ p) ⊎ (q.0 ≡ p → All (λ x. brings (l.died n) n x ≡ false) (l.queue q.0))
        go (inl z) = inl z
        go (inr z) = inr (λ x. rw x z)
    unheld-command l f (Quota q u) t less d e past shut = e
    unheld-command l f (Holders q i) t less d e past shut = e
    unheld-command l f (ShowSeed q room) t less d e past shut =
        unheld-gives (ledger_counted l) q.0 (suc l.accepted) (seed_nodes (l.seed q.0)) d e (λ x y. inr (le-ltb (suc l.accepted) (l.died n) (omega (arith, past))))

    -- What comes to wait is no earlier message.
    pub unbrought-command : (l : Ledger) (f : List ℕ) (c : Command) → Legal f c → Passed l f c → l.lives n ≡ false → l.died n ≤ l.accepted → Unbrought l p n → Unbrought (enter l f c) p n
    unbrought-command l f c g t d past u =
        rw (died-command l f c t d)
        (all-behind (λ x. brings (l.died n) n x ≡ false) (taken_of l p c) ((enter l f c).queue p)
        (later-all (λ x. brings (l.died n) n x ≡ false) (λ x z. new x z) (moved_by l f c g p) u))
      where
        new : (x : Item) → item_number x ≡ suc l.accepted → brings (l.died n) n x ≡ false
        new (message_item k m) z = rw (le-ltb k (l.died n) (omega (arith, past, z))) refl
        new (destroyed_item k m) z = refl
        new (released_item k m) z = refl

-- The number of accepted commands never falls.
pub counts-command : (l : Ledger) (f : List ℕ) (c : Command) → Passed l f c → l.accepted ≤ (enter l f c).accepted
unfolding enter ledger_counted
counts-command l f (Open q u) t = omega arith
counts-command l f (Disconnect q) t = unfold ledger_disconnect in omega arith
counts-command l f (Create q i) t = unfold ledger_create in omega arith
counts-command l f (Destroy q i) t = rw t.0.named (unfold ledger_destroy in omega arith)
counts-command l f (Release q i) t = rw t.0.named (unfold ledger_release in omega arith)
counts-command l f (Transfer q i r) t = rw t.0.named (let b = give-beside (ledger_counted l) r.0 (suc l.accepted) t.0.node in rw b.2 (omega arith))
counts-command l f (Send q z) t = unfold ledger_seed ledger_queues in omega arith
counts-command l f (Receive q room) t = let b = receive-beside (ledger_counted l) q.0 (l.queue q.0) in rw b.2 (omega arith)
counts-command l f (Quota q u) t = omega arith
counts-command l f (Holders q i) t = omega arith
counts-command l f (ShowSeed q room) t = let b = gives-beside (ledger_counted l) q.0 (suc l.accepted) (seed_nodes (l.seed q.0)) in rw b.2 (omega arith)

-- The destroying command of every node was accepted before.
pub past-command : (l : Ledger) (f : List ℕ) (c : Command) → Passed l f c → ((n : ℕ) → l.died n ≤ l.accepted) → (n : ℕ) → (enter l f c).died n ≤ (enter l f c).accepted
unfolding enter ledger_counted
past-command l f (Open q u) t h n = omega (arith, h n)
past-command l f (Disconnect q) t h n =
    unfold ledger_disconnect in pick_all (λ (x : ℕ). x ≤ suc l.accepted) (both (eqb (l.maker n) q.0) (l.lives n)) (suc l.accepted) (l.died n) (omega arith) (omega (arith, h n))
past-command l f (Create q i) t h n = unfold ledger_create in omega (arith, h n)
past-command l f (Destroy q i) t h n =
    rw t.0.named
    (unfold ledger_destroy in upd-all (λ m (x : ℕ). x ≤ suc l.accepted) l.died t.0.node.number (suc l.accepted) (λ m. omega (arith, h m)) (omega arith) n)
past-command l f (Release q i) t h n = rw t.0.named (unfold ledger_release in omega (arith, h n))
past-command l f (Transfer q i r) t h n =
    rw t.0.named (let b = give-beside (ledger_counted l) r.0 (suc l.accepted) t.0.node in rw (b.1, b.2) (omega (arith, h n)))
past-command l f (Send q z) t h n = unfold ledger_seed ledger_queues in omega (arith, h n)
past-command l f (Receive q room) t h n = let b = receive-beside (ledger_counted l) q.0 (l.queue q.0) in rw (b.1, b.2) (omega (arith, h n))
past-command l f (Quota q u) t h n = h n
past-command l f (Holders q i) t h n = h n
past-command l f (ShowSeed q room) t h n =
    let b = gives-beside (ledger_counted l) q.0 (suc l.accepted) (seed_nodes (l.seed q.0)) in rw (b.1, b.2) (omega (arith, h n))

-- The book never enters fewer nodes.
pub entered-more : (e : ℕ) (c : Command) → e ≤ entered_after e c
entered-more e (Open p u) = omega arith
entered-more e (Disconnect p) = omega arith
entered-more e (Create p i) = omega arith
entered-more e (Destroy p i) = omega arith
entered-more e (Release p i) = omega arith
entered-more e (Transfer p i q) = omega arith
entered-more e (Send p z) = omega arith
entered-more e (Receive p room) = omega arith
entered-more e (Quota p u) = omega arith
entered-more e (Holders p i) = omega arith
entered-more e (ShowSeed p room) = omega arith

-- What is kept of a node that is over for p.
abbrev pub Over : Ledger → ℕ → ℕ → Type 0
Over l p n = (l.lives n ≡ false) × (l.handle p n ≡ none) × ((m : ℕ) → l.died m ≤ l.accepted)

pub over-command : (p n : ℕ) (l : Ledger) (f : List ℕ) (c : Command) → Passed l f c → n < l.book.entered → (l.maker n ≡ p) ⊎ Unbrought l p n → Over l p n → Over (enter l f c) p n
over-command p n l f c t m shut h = (dead-command n l f c t m h.0, unheld-command n p l f c t m h.0 h.1 (h.2 n) shut, past-command l f c t h.2)
