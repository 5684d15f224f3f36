-- The theorems that go with specs/LedgerGone.antt and stand on others: each goes by the definitions and the theorems there.
-- Assumes nothing.
use Prim.Native.Nat.{ℕ, ◌≤◌, ◌<◌}
use Rattle.std.specs.Prelude.{◌≡◌, ◌⊎◌}
use Rattle.std.proofs.Math.Path.{refl, sym, ap}
use Rattle.std.proofs.Common.{◌∙◌}
use Rattle.std.proofs.Math.Bool.{true, false}
use Rattle.std.proofs.Math.Logic.◌⊎◌.{inl, inr}
use mathlib.Core.List.{List, [], ◌∷◌, ◌++◌}
use native.Mathlib.Omega.{arith}
use borrow.Author.Tests.{ne_eqb}
use Rattle.laws.specs.Tests.{Seen, Seen.is_true, Seen.is_false, look, clash}
use Rattle.laws.specs.Weights.{All, all-imp}
use Rattle.frames.specs.declared.Command.{Command}
use Rattle.frames.specs.Legal.{Legal}
use Rattle.model.specs.Lists.{any}
use Rattle.model.specs.State.{Handle.none, held, start}
use Rattle.model.specs.Step.{Call, step, run, answer_of}
use Rattle.model.specs.Book.{Book}
use Rattle.model.specs.Claim.{history_from, book_after}
use Rattle.model.specs.Accepted.{Accepted}
use Rattle.model.specs.History.{book-noted, ledger-book, ledger-entered}
use Rattle.model.specs.Ledger.{Item, Item.message as message_item, Item.destroyed as destroyed_item, Item.released as released_item, Ledger, blank_ledger, feed_ledger_all, brings, enter, with_book, ledger_after}
use Rattle.model.specs.Waiting.{StandsIn}
use Rattle.model.proofs.Waiting.{waiting-in}
use Rattle.model.specs.LedgerStep.{entered_after, note-enters}
use Rattle.model.specs.LedgerPassed.{Passed}
use Rattle.model.proofs.LedgerPassed.{passed, ledger-kept}
use Rattle.model.specs.LedgerGone.{about, Unbrought, DeadForGood, GoneForGood, OwnGoneForGood, dead-command, died-command, dies-command, maker-command, unbrought-command, counts-command, past-command, entered-more, Over, over-command}

pub died-before : (cs : List Call) (n : ℕ) → (ledger_after cs).died n ≤ (ledger_after cs).accepted
died-before cs =
    ledger-kept (λ l. (n : ℕ) → l.died n ≤ l.accepted)
    (λ cs c d a h. rw (ledger-entered cs c d a) (unfold with_book in past-command (ledger_after cs) c.frame d (passed cs c d a) h)) [] cs
    (unfold history_from feed_ledger_all blank_ledger in λ n. omega arith)

-- What stands in a queue is for a node that the peer holds, or for a live one, or a notice of one that an earlier message brings.
unheld-unqueued : (cs : List Call) (p n : ℕ) → (ledger_after cs).lives n ≡ false → (ledger_after cs).handle p n ≡ none → Unbrought (ledger_after cs) p n →
    All (λ x. about n x ≡ false) ((ledger_after cs).queue p)
unheld-unqueued cs p n d e u = all-imp (StandsIn l p) (λ x. about n x ≡ false) clear (l.queue p) (waiting-in (history_from start cs) (record { calls = cs; same = refl }) p).stands
  where
    l : Ledger
    l = ledger_after cs

    unbrought : (q : List Item) → All (λ x. brings (l.died n) n x ≡ false) q → any (brings (l.died n) n) q ≡ false
    unbrought [] a = refl
    unbrought (x ∷ q) a = rw a.0 (unbrought q a.1)

    held-not : (m : ℕ) → m ≡ n → held (l.handle p m) ≡ false
    held-not m z = ap held (ap (l.handle p) z ∙ e)

    clear : (x : Item) → StandsIn l p x → about n x ≡ false
    clear (message_item k m) h = ne_eqb m.to.number n (λ z. clash (sym h.1 ∙ held-not m.to.number z))
    clear (destroyed_item k m) h =
        ne_eqb m.number n
        (λ z. clash (sym h.2 ∙ rw (held-not m.number z, sym h.1, z) (unbrought (l.queue p) u)))
    clear (released_item k m) h = ne_eqb m.number n (λ z. clash (sym h.0 ∙ ap l.lives z ∙ d))

-- What holds of the ledger of a created node n and is kept by every command that the ledger enters, is kept by all calls; the book beside it does not show.
pub kept-of-node : (P : Ledger → Type 0) (n : ℕ) → ((l : Ledger) (k : Book) → P l → P (with_book l k)) →
    ((l : Ledger) (f : List ℕ) (c : Command) → Legal f c → Passed l f c → n < l.book.entered → P l → P (enter l f c)) →
    (cs ds : List Call) → n < (book_after cs).entered → P (ledger_after cs) → P (ledger_after (cs ++ ds))
kept-of-node P n beside keep cs ds less h = (ledger-kept (λ l. (n < l.book.entered) × P l) next cs ds (omega (arith, less, entered-is cs), h)).1
  where
    entered-is : (cs : List Call) → (ledger_after cs).book.entered ≡ (book_after cs).entered
    entered-is cs = ap (λ (k : Book). k.entered) (ledger-book cs)

    next : (cs : List Call) (c : Call) (d : Command) → Accepted (run cs) c d → (n < (ledger_after cs).book.entered) × P (ledger_after cs) →
        (n < (ledger_after (cs ++ (c ∷ []))).book.entered) × P (ledger_after (cs ++ (c ∷ [])))
    next cs c d a x =
        let e : (book_after (cs ++ (c ∷ []))).entered ≡ entered_after (book_after cs).entered d
        = ap (λ (k : Book). k.entered) (book-noted cs c d a) ∙ note-enters (book_after cs) c.frame (answer_of (step (run cs) c)) d in (
          omega (arith, x.0, e, entered-is cs, entered-is (cs ++ (c ∷ [])), entered-more (book_after cs).entered d),
          rw (ledger-entered cs c d a) (beside (enter (ledger_after cs) c.frame d) (book_after (cs ++ (c ∷ []))) (keep (ledger_after cs) c.frame d a.legal (passed cs c d a) x.0 x.1)),
        )

pub dead-for-good : DeadForGood
dead-for-good cs ds n less d = kept-of-node (λ l. l.lives n ≡ false) n (λ l k h. unfold with_book in h) (λ l f c g. dead-command n l f c) cs ds less d

pub maker-for-good : (cs ds : List Call) (p n : ℕ) → n < (book_after cs).entered → (ledger_after cs).maker n ≡ p → (ledger_after (cs ++ ds)).maker n ≡ p
maker-for-good cs ds p n less e =
    kept-of-node (λ l. l.maker n ≡ p) n (λ l k h. unfold with_book in h) (λ l f c g t m h. maker-command n l f c t m ∙ h) cs ds less e

pub gone-for-good : GoneForGood
gone-for-good cs ds p n less d e u =
    let x =
    kept-of-node (λ l. Over l p n × Unbrought l p n) n (λ l k h. unfold with_book in h)
    (λ l f c g t m h. (over-command p n l f c t m (inr h.1) h.0, unbrought-command n p l f c g t h.0.0 (h.0.2 n) h.1)) cs ds less ((d, e, died-before cs), u) in
    record { dead = x.0.0; unheld = x.0.1; unbrought = x.1; unqueued = unheld-unqueued (cs ++ ds) p n x.0.0 x.0.1 x.1 }

pub own-gone-for-good : OwnGoneForGood
own-gone-for-good cs ds p n less h =
    let x =
    kept-of-node (λ l. Over l p n × (l.maker n ≡ p)) n (λ l k h. unfold with_book in h)
    (λ l f c g t m h. (over-command p n l f c t m (inl h.1) h.0, maker-command n l f c t m ∙ h.1)) cs ds less ((h.dead, h.unheld, died-before cs), h.maker) in
    record { maker = x.1; dead = x.0.0; unheld = x.0.1 }

-- The number under which a node died stays; and a node that lived died under a later number than the commands before.
pub died-for-good : (cs ds : List Call) (n : ℕ) → n < (book_after cs).entered → (ledger_after cs).lives n ≡ false → (ledger_after (cs ++ ds)).died n ≡ (ledger_after cs).died n
died-for-good cs ds n less d =
    (kept-of-node (λ l. (l.lives n ≡ false) × (l.died n ≡ (ledger_after cs).died n)) n (λ l k h. unfold with_book in h)
    (λ l f c g t m h. (dead-command n l f c t m h.0, died-command n l f c t h.0 ∙ h.1)) cs ds less (d, refl)).1

abbrev Since : ℕ → ℕ → Ledger → Type 0
Since n k l = ((l.lives n ≡ true) × (k ≤ l.accepted)) ⊎ ((l.lives n ≡ false) × (k < l.died n))

pub died-since : (cs ds : List Call) (n : ℕ) → n < (book_after cs).entered → (ledger_after cs).lives n ≡ true → (ledger_after (cs ++ ds)).lives n ≡ false →
    (ledger_after cs).accepted < (ledger_after (cs ++ ds)).died n
died-since cs ds n less v d = last (kept-of-node (Since n k) n (λ l b h. unfold with_book in h) (λ l f c g t m h. next l f c t m h) cs ds less (inl (v, omega arith)))
  where
    k : ℕ
    k = (ledger_after cs).accepted

    next : (l : Ledger) (f : List ℕ) (c : Command) → Passed l f c → n < l.book.entered → Since n k l → Since n k (enter l f c)
    next l f c t m (inr h) = inr (dead-command n l f c t m h.0, omega (arith, died-command n l f c t h.0, h.1))
    next l f c t m (inl h) = go (look ((enter l f c).lives n))
      where
        go : Seen ((enter l f c).lives n) → Since n k (enter l f c)
        go (is_true z) = inl (z, omega (arith, counts-command l f c t, h.1))
        go (is_false z) = inr (z, omega (arith, dies-command n l f c t h.0 z, h.1))

    last : Since n k (ledger_after (cs ++ ds)) → k < (ledger_after (cs ++ ds)).died n
    last (inl h) = clash (sym h.0 ∙ d)
    last (inr h) = h.1
