-- The ID under which a peer holds a node of its own stays that node's ID until the node is destroyed and the handle is gone: "Owner IDs are chosen"; "At 0 the handle is gone; an owner ID
-- may then be chosen again", and "release of a live node's owner handle at count 1" is refused.
-- Assumes nothing.
use Prim.Native.Nat.{ℕ, zero, suc, ◌-◌, ◌<◌}
use Rattle.std.specs.Prelude.{◌≡◌, not, ◌⊎◌, List, [], ◌∷◌, ◌++◌, eqb, ltb}
use Rattle.std.proofs.Math.Path.{refl}
use Rattle.std.proofs.Common.{sym, ap, ap₂, ◌∙◌, arith}
use Rattle.std.proofs.Math.Bool.{Bool, true, false}
use Rattle.std.proofs.Math.Logic.◌⊎◌.{inl, inr}
use borrow.Author.Tests.{eq-eqb}
use Rattle.laws.specs.Tests.{Seen, Seen.is_true, Seen.is_false, look, clash, Same, Same.same, Same.other, same?}
use Rattle.laws.specs.Tables.{upd, upd_same, upd_other}
use Rattle.frames.specs.declared.Command.{Command}
use Rattle.frames.specs.declared.Command.TheVariants.{Open, Disconnect, Create, Destroy, Release, Transfer, Send, Receive, Quota, Holders, ShowSeed}
use Rattle.model.specs.Numbers.{next_id}
use Rattle.model.specs.Lists.{both}
use Rattle.model.specs.State.{Handle, Handle.none, Handle.some, handle_of, count, id_or}
use Rattle.model.specs.Step.{Call}
use Rattle.model.specs.Book.{Node, Book}
use Rattle.model.specs.SimHandles.{some-none}
use Rattle.model.specs.Ledger.{Item, Item.message as message_item, Item.destroyed as destroyed_item, Item.released as released_item, Ledger, ledger_create, ledger_destroy, ledger_release, valid_at, due_id, ledger_give, ledger_give_all, ledger_queues, ledger_receive, ledger_disconnect, ledger_counted, enter, with_book, ledger_after, LedgerSeed, seed_nodes, ledger_seed}
use Rattle.model.specs.LedgerPassed.{Passed}
use Rattle.model.specs.LedgerGone.{cell_other}

-- p holds its node n under the ID i, or the node is destroyed and the handle gone.
abbrev pub StillOr : Ledger → ℕ → ℕ → ℕ → Type 0
StillOr l p n i = ((c : ℕ) × (l.handle p n ≡ some i c)) ⊎ ((l.lives n ≡ false) × (l.handle p n ≡ none))

-- For every list of calls, and any that follow.
abbrev pub OwnKeeps : Type 0
OwnKeeps = (cs ds : List Call) (p n i c : ℕ) → (ledger_after cs).maker n ≡ p → (ledger_after cs).handle p n ≡ some i c → StillOr (ledger_after (cs ++ ds)) p n i

pub record Owns (l : Ledger) (p n i : ℕ) : Type 0 where
  pub maker : l.maker n ≡ p
  pub holds : StillOr l p n i

module _ (p n i : ℕ) where
  owns-counted : (l : Ledger) → Owns l p n i → Owns (ledger_counted l) p n i
  unfolding ledger_counted
  owns-counted l h = record { maker = h.maker; holds = h.holds }

  pub owns-book : (l : Ledger) (k : Book) → Owns l p n i → Owns (with_book l k) p n i
  unfolding with_book
  owns-book l k h = record { maker = h.maker; holds = h.holds }

  owns-queues : (l : Ledger) (f : ℕ → List Item) → Owns l p n i → Owns (ledger_queues l f) p n i
  unfolding ledger_queues
  owns-queues l f h = record { maker = h.maker; holds = h.holds }

  owns-seed : (l : Ledger) (t : Bool) (q : ℕ) (x : LedgerSeed) → Owns l p n i → Owns (ledger_seed l t q x) p n i
  unfolding ledger_seed
  owns-seed l t q x h = record { maker = h.maker; holds = h.holds }

  -- A ledger whose handle of p to n is the same, and in which n is not live again.
  still : (l : Ledger) (lives : Bool) (x : Handle) → StillOr l p n i → (l.lives n ≡ false → lives ≡ false) → x ≡ l.handle p n → ((c : ℕ) × (x ≡ some i c)) ⊎ ((lives ≡ false) × (x ≡ none))
  still l lives x (inl y) d e = inl (y.0, e ∙ y.1)
  still l lives x (inr y) d e = inr (d y.0, e ∙ y.1)

  -- Create: another number.
  owns-create : (l : Ledger) (q j : ℕ) → n < l.book.entered → Owns l p n i → Owns (ledger_create l q j) p n i
  unfolding ledger_create
  owns-create l q j less h =
      record {
        maker = upd_other l.maker l.book.entered n q (λ z. absurd (omega arith)) ∙ h.maker;
        holds =
            still l (upd l.lives l.book.entered true n) _ h.holds (λ d. upd_other l.lives l.book.entered n true (λ z. absurd (omega arith)) ∙ d)
            (cell_other l.handle q l.book.entered (handle_of j 1) p n (λ _ z. absurd (omega arith)));
      }

  -- Destroy "leaves counts alone".
  owns-destroy : (l : Ledger) (m : Node) → Owns l p n i → Owns (ledger_destroy l m) p n i
  unfolding ledger_destroy
  owns-destroy l m h =
      record {
        maker = h.maker;
        holds = still l (upd l.lives m.number false n) (l.handle p n) h.holds (λ d. dead d (same? m.number n)) refl;
      }
    where
      dead : l.lives n ≡ false → Same m.number n → upd l.lives m.number false n ≡ false
      dead d (same z) = rw (z, upd_same) refl
      dead d (other z) = upd_other l.lives m.number n false z ∙ d

  -- Release: at count 1 the node is not live.
  owns-release : (l : Ledger) (q j : ℕ) (m : Node) (c : ℕ) → l.handle q m.number ≡ some j c → 0 < c → (l.maker m.number ≡ q → l.lives m.number ≡ true → c ≡ 1 → ⊥) →
      Owns l p n i → Owns (ledger_release l q j m c) p n i
  unfolding ledger_release
  owns-release l q j m c e more unpinned h = record { maker = h.maker; holds = go (same? q p) (same? m.number n) }
    where
      after : ℕ → ℕ → Handle
      after = upd l.handle q (upd (l.handle q) m.number (handle_of j (c - 1)))

      one_less : (d : ℕ) → c ≡ suc d → j ≡ i → q ≡ p → m.number ≡ n → Seen (l.lives n) → ((c : ℕ) × (handle_of j d ≡ some i c)) ⊎ ((l.lives n ≡ false) × (handle_of j d ≡ none))
      one_less (suc d) f g z y v = inl (suc d, rw g refl)
      one_less zero f g z y (is_false v) = inr (v, refl)
      one_less zero f g z y (is_true v) = absurd (unpinned (ap l.maker y ∙ h.maker ∙ sym z) (ap l.lives y ∙ v) f)

      here : q ≡ p → m.number ≡ n → after p n ≡ handle_of j (c - 1)
      here z y = rw (← z, ← y, upd_same, upd_same) refl

      held-before : q ≡ p → m.number ≡ n → l.handle p n ≡ some j c
      held-before z y = rw (← z, ← y) e

      at : q ≡ p → m.number ≡ n → StillOr l p n i → ((c : ℕ) × (after p n ≡ some i c)) ⊎ ((l.lives n ≡ false) × (after p n ≡ none))
      at z y (inr x) = some-none (sym (held-before z y) ∙ x.1)
      at z y (inl x) =
          let k : some j c ≡ some i x.0 = sym (held-before z y) ∙ x.1 in
          let g : j ≡ i = cc k in
          rw (here z y) (one_less (c - 1) (omega arith) g z y (look (l.lives n)))

      go : Same q p → Same m.number n → ((c : ℕ) × (after p n ≡ some i c)) ⊎ ((l.lives n ≡ false) × (after p n ≡ none))
      go (same z) (same y) = at z y h.holds
      go (same z) (other y) = still l (l.lives n) (after p n) h.holds (λ d. d) (cell_other l.handle q m.number (handle_of j (c - 1)) p n (λ _ x. y x))
      go (other z) y = still l (l.lives n) (after p n) h.holds (λ d. d) (cell_other l.handle q m.number (handle_of j (c - 1)) p n (λ x _. z x))

  -- A handle given: "the receiver's existing handle".
  owns-give : (l : Ledger) (q k : ℕ) (m : Node) → Owns l p n i → Owns (ledger_give l q k m) p n i
  unfolding ledger_give due_id
  owns-give l q k m h = go (look (valid_at l q k m.number))
    where
      new : Handle
      new = handle_of (id_or (next_id (l.given q)) (l.handle q m.number)) (suc (count (l.handle q m.number)))

      after : ℕ → ℕ → Handle
      after = upd l.handle q (upd (l.handle q) m.number new)

      -- "An owner whose own handle is gone is still shown the invalid ID"
      shut : (l.lives n ≡ false) × (l.handle p n ≡ none) → valid_at l p k n ≡ false
      shut x = unfold valid_at in rw (x.0, x.1, h.maker, eq-eqb p p refl) (nothing (ltb k (l.died n)))
        where
          nothing : (t : Bool) → both t false ≡ false
          nothing true = refl
          nothing false = refl

      at : valid_at l q k m.number ≡ true → q ≡ p → m.number ≡ n → StillOr l p n i → ((c : ℕ) × (after p n ≡ some i c)) ⊎ ((l.lives n ≡ false) × (after p n ≡ none))
      at e z y (inr x) = clash (sym e ∙ ap₂ (λ (r t : ℕ). valid_at l r k t) z y ∙ shut x)
      at e z y (inl x) =
          let f : l.handle q m.number ≡ some i x.0 = rw (z, y) x.1 in
          inl (suc x.0, rw (← z, ← y, upd_same, upd_same, f) refl)

      shared : valid_at l q k m.number ≡ true → Same q p → Same m.number n → ((c : ℕ) × (after p n ≡ some i c)) ⊎ ((l.lives n ≡ false) × (after p n ≡ none))
      shared e (same z) (same y) = at e z y h.holds
      shared e (same z) (other y) = still l (l.lives n) (after p n) h.holds (λ d. d) (cell_other l.handle q m.number new p n (λ _ x. y x))
      shared e (other z) y = still l (l.lives n) (after p n) h.holds (λ d. d) (cell_other l.handle q m.number new p n (λ x _. z x))

      go : Seen (valid_at l q k m.number) → Owns (ledger_give l q k m) p n i
      go (is_false e) = rw e h
      go (is_true e) = rw e (record { maker = h.maker; holds = shared e (same? q p) (same? m.number n) })

  owns-gives : (l : Ledger) (q k : ℕ) (ms : List Node) → Owns l p n i → Owns (ledger_give_all l q k ms) p n i
  owns-gives l q k [] h = h
  owns-gives l q k (m ∷ ms) h = owns-gives (ledger_give l q k m) q k ms (owns-give l q k m h)

  owns-receive : (l : Ledger) (q : ℕ) (xs : List Item) → Owns l p n i → Owns (ledger_receive l q xs) p n i
  owns-receive l q [] h = h
  owns-receive l q (message_item k m ∷ xs) h = owns-queues _ _ (owns-gives _ q k m.carried (owns-queues l (upd l.queue q xs) h))
  owns-receive l q (destroyed_item k m ∷ xs) h = owns-queues l (upd l.queue q xs) h
  owns-receive l q (released_item k m ∷ xs) h = owns-queues l (upd l.queue q xs) h

  -- "Disconnect: drop the queue, destroy live nodes, release all handles."
  owns-disconnect : (l : Ledger) (q : ℕ) → Owns l p n i → Owns (ledger_disconnect l q) p n i
  unfolding ledger_disconnect
  owns-disconnect l q h = record { maker = h.maker; holds = go (same? q p) }
    where
      living : Bool
      living = both (not (eqb (l.maker n) q)) (l.lives n)

      nothing : (x : Bool) → both x false ≡ false
      nothing true = refl
      nothing false = refl

      go : Same q p → ((c : ℕ) × (upd l.handle q (λ m. none) p n ≡ some i c)) ⊎ ((living ≡ false) × (upd l.handle q (λ m. none) p n ≡ none))
      go (same z) = inr (rw (h.maker, z, eq-eqb p p refl) refl, rw (z, upd_same) refl)
      go (other z) = still l living _ h.holds (λ d. rw d (nothing (not (eqb (l.maker n) q)))) (ap (λ (g : ℕ → Handle). g n) (upd_other l.handle q p (λ m. none) z))

  -- Every accepted command.
  pub owns-command : (l : Ledger) (f : List ℕ) (c : Command) → Passed l f c → n < l.book.entered → Owns l p n i → Owns (enter l f c) p n i
  unfolding enter
  owns-command l f (Open q u) t less h = owns-counted l h
  owns-command l f (Disconnect q) t less h = owns-disconnect (ledger_counted l) q.0 (owns-counted l h)
  owns-command l f (Create q j) t less h = owns-create (ledger_counted l) q.0 j.0 (unfold ledger_counted in less) (owns-counted l h)
  owns-command l f (Destroy q j) t less h = rw t.0.named (owns-destroy (ledger_counted l) t.0.node (owns-counted l h))
  owns-command l f (Release q j) t less h =
      rw t.0.named
      (owns-release (ledger_counted l) q.0 j.0 t.0.node t.0.count (unfold ledger_counted in t.0.handle) t.0.counted
      (unfold ledger_counted in λ z v e. t.1 (sym t.0.maker ∙ z) v e) (owns-counted l h))
  owns-command l f (Transfer q j r) t less h = rw t.0.named (owns-give (ledger_counted l) r.0 (suc l.accepted) t.0.node (owns-counted l h))
  owns-command l f (Send q z) t less h = owns-seed _ (eqb z.nd 0) q.0 _ (owns-queues (ledger_counted l) _ (owns-counted l h))
  owns-command l f (Receive q room) t less h = owns-receive (ledger_counted l) q.0 (l.queue q.0) (owns-counted l h)
  owns-command l f (Quota q u) t less h = h
  owns-command l f (Holders q j) t less h = h
  owns-command l f (ShowSeed q room) t less h = owns-gives (ledger_counted l) q.0 (suc l.accepted) (seed_nodes (l.seed q.0)) (owns-counted l h)
