-- The theorems that go with specs/ShowsAnew.antt and stand on others: each goes by the definitions and the theorems there.
-- Assumes nothing.
use Rattle.std.specs.Prelude.{ℕ, ◌%◌, ◌<◌, ◌≡◌, false, ◌⊎◌, List, [], ◌∷◌, ◌++◌, length}
use Rattle.std.proofs.Common.{sym, ap, subst, ◌∙◌, append_assoc, arith}
use Rattle.std.proofs.Math.Logic.◌⊎◌.{inl, inr}
use Rattle.laws.specs.Tests.{Same, Same.same, Same.other, same?}
use Rattle.laws.specs.Weights.{All}
use Rattle.ids.specs.declared.HandleId.{HandleId}
use Rattle.frames.specs.declared.Command.{Command}
use Rattle.frames.specs.declared.Command.TheVariants.{Open, Disconnect, Create, Destroy, Release, Transfer, Send, Receive, Quota, Holders, ShowSeed}
use Rattle.frames.proofs.Fields.{fields-command}
use Rattle.model.specs.Numbers.{owner}
use Rattle.model.specs.State.{Handle.none, Handle.some, held, start}
use Rattle.model.specs.Step.{Call, step, run}
use Rattle.model.specs.Book.{Node, Noted.noted, Fed}
use Rattle.model.specs.Claim.{fed, history_from, book_after}
use Rattle.model.specs.Accepted.{Accepted}
use Rattle.model.proofs.Accepted.{accepted-call}
use Rattle.model.proofs.Tested.{tested}
use Rattle.model.specs.Coded.{coded}
use Rattle.model.proofs.IdsProof.{holding}
use Rattle.model.specs.SimHandles.{some-none}
use Rattle.model.specs.SimCreate.{not-held}
use Rattle.model.proofs.Sources.{story}
use Rattle.model.specs.Ledger.{ledger_after}
use Rattle.model.specs.LedgerSim.{held-entered}
use Rattle.model.proofs.LedgerGone.{maker-for-good, own-gone-for-good}
use Rattle.model.specs.LedgerOwn.{StillOr}
use Rattle.model.proofs.LedgerOwn.{own-keeps}
use Rattle.model.specs.Rows.{book_of, ledger_of}
use Rattle.model.proofs.RowsRun.{noted-entered, entered-grows}
use Rattle.model.specs.OneNode.{Creates}
use Rattle.model.specs.Happened.{Happened, happened-front, of-history, of_cut, of-next}
use Rattle.model.specs.Shows.{Shows, CreatedAnew, ChosenForAnother}
use Rattle.model.specs.ShowsNames.{NamedIn}
use Rattle.model.proofs.ShowsNames.{named-held, held-named, shows-names}
use Rattle.model.proofs.ShowsOnce.{uncreated-for-one}
use Rattle.model.specs.ShowsAnew.{FirstCreate, first-create, Fresh}

pub create-fresh : (cs : List Call) (c : Call) (p i : ℕ) → Creates p i (fed c (step (run cs) c)) → Fresh (history_from start cs) p i
create-fresh cs c p i x = let y = accepted-call (run cs) c x.number in go y.0 y.1
  where
    go : (k : Command) → Accepted (run cs) c k → Fresh (history_from start cs) p i
    go (Open q u) a = absurd (omega (arith, x.byte, (coded c.frame (Open q u) a.read).byte))
    go (Disconnect q) a = absurd (omega (arith, x.byte, (coded c.frame (Disconnect q) a.read).byte))
    go (Destroy q j) a = absurd (omega (arith, x.byte, (coded c.frame (Destroy q j) a.read).byte))
    go (Release q j) a = absurd (omega (arith, x.byte, (coded c.frame (Release q j) a.read).byte))
    go (Transfer q j t) a = absurd (omega (arith, x.byte, (coded c.frame (Transfer q j t) a.read).byte))
    go (Send q z) a = absurd (omega (arith, x.byte, (coded c.frame (Send q z) a.read).byte))
    go (Receive q room) a = absurd (omega (arith, x.byte, (coded c.frame (Receive q room) a.read).byte))
    go (Quota q u) a = absurd (omega (arith, x.byte, (coded c.frame (Quota q u) a.read).byte))
    go (Holders q j) a = absurd (omega (arith, x.byte, (coded c.frame (Holders q j) a.read).byte))
    go (ShowSeed q room) a = absurd (omega (arith, x.byte, (coded c.frame (ShowSeed q room) a.read).byte))
    go (Create q j) a =
        let f = fields-command c.frame (Create q j) a.read in
        let id : j.0 ≡ i = ap (λ (v : HandleId). v.0) f.1 ∙ x.id in
        let peer : q.0 ≡ p = f.0.peer ∙ x.peer in
        let t = tested (run cs) c.frame (Create q j) a.unrefused in
        let w = story (length cs) cs (omega arith) in (
          omega (arith, id, a.legal.1),
          λ n d e.
              let y = (w.sim.handles p).held_at i n d e in
              not-held w.name (run cs) (book_after cs) p i w.sim (rw (← peer, ← id) t.unheld) y.0 d y.2,
        )

-- The node of an ID that the bus did not give is the peer's own: "Owner IDs are chosen"; "IDs the bus gives are 4n + 3".
chosen-own : (cs : List Call) (p i : ℕ) (n : Node) (c : ℕ) → (book_after cs).handle p i ≡ noted n c → i % 4 ≡ 0 → (ledger_after cs).maker n.number ≡ p
chosen-own cs p i n c e low =
    let w = story (length cs) cs (omega arith) in
    let x = (w.sim.handles p).held_at i n c e in
    let s = x.0 in
    let made : (ledger_after cs).maker (w.name s) ≡ owner s = w.follows.lives.makers s (held-entered w.follows.handles p s (ap held x.2)) in
    go s x.2 (ap (λ (m : Node). (ledger_after cs).maker m.number) x.3 ∙ made) (same? (owner s) p)
  where
    go : (s : ℕ) → (run cs).handle p s ≡ some i c → (ledger_after cs).maker n.number ≡ owner s → Same (owner s) p → (ledger_after cs).maker n.number ≡ p
    go s h made (same z) = made ∙ z
    go s h made (other z) =
        let g = ((holding cs).handles p).given s i c h z in
        absurd (omega (arith, low, g.2))

-- Once an ID that named a node may be created, the node is destroyed and the handle gone.
freed : (cs ds : List Call) (p i : ℕ) (n : Node) (c : ℕ) → (book_after cs).handle p i ≡ noted n c → Fresh (history_from start (cs ++ ds)) p i →
    ((ledger_after (cs ++ ds)).lives n.number ≡ false) × ((ledger_after (cs ++ ds)).handle p n.number ≡ none)
freed cs ds p i n c e fresh =
    let h = named-held cs p i n c e in
    go (own-keeps cs ds p n.number i h.count (chosen-own cs p i n c e fresh.0) h.handle)
  where
    go : StillOr (ledger_after (cs ++ ds)) p n.number i → ((ledger_after (cs ++ ds)).lives n.number ≡ false) × ((ledger_after (cs ++ ds)).handle p n.number ≡ none)
    go (inl y) = let z = held-named (cs ++ ds) p n.number i y.0 y.1 in absurd (fresh.1 z.0 y.0 z.1)
    go (inr y) = y

-- The node was created by p and destroyed, and p has no handle to it; so it stays.
record Ended (xs : List Fed) (p : ℕ) (n : Node) : Type 0 where
  entered : n.number < (book_of xs).entered
  maker : (ledger_of xs).maker n.number ≡ p
  dead : (ledger_of xs).lives n.number ≡ false
  unheld : (ledger_of xs).handle p n.number ≡ none

ended : (p i : ℕ) (n : Node) (xs ys : List Fed) → Happened (xs ++ ys) → NamedIn xs p i n → Fresh (xs ++ ys) p i → Ended (xs ++ ys) p n
ended p i n =
    of_cut (λ us vs ws. NamedIn us p i n → Fresh ws p i → Ended ws p n)
    (λ cs ds a fresh.
    let f = freed cs ds p i n a.0 a.1 fresh in
    let e = noted-entered cs p i n a.0 a.1 in
    record {
      entered = omega (arith, e, entered-grows cs ds);
      maker = maker-for-good cs ds p n.number e (chosen-own cs p i n a.0 a.1 fresh.0);
      dead = f.0;
      unheld = f.1;
    })

ended-stays : (p : ℕ) (n : Node) (xs ys : List Fed) → Happened (xs ++ ys) → Ended xs p n → Ended (xs ++ ys) p n
ended-stays p n =
    of_cut (λ us vs ws. Ended us p n → Ended ws p n)
    (λ cs ds h.
    let g = own-gone-for-good cs ds p n.number h.entered (record { maker = h.maker; dead = h.dead; unheld = h.unheld }) in
    record { entered = omega (arith, h.entered, entered-grows cs ds); maker = g.maker; dead = g.dead; unheld = g.unheld })

-- No ID of the peer names it.
ended-unnamed : (p i : ℕ) (n : Node) (xs : List Fed) → Happened xs → Ended xs p n → NamedIn xs p i n → ⊥
ended-unnamed p i n = of-history (λ us. Ended us p n → NamedIn us p i n → ⊥) (λ cs h a. some-none (sym (named-held cs p i n a.0 a.1).handle ∙ h.unheld))

-- So nothing of it is shown.
never-shown : (p j : ℕ) (n : Node) (xs us vs : List Fed) (y : Fed) → Happened ((xs ++ us) ++ (y ∷ vs)) → Ended xs p n → Shows (xs ++ us) y p j n → ⊥
never-shown p j n xs us vs y h ends s = go (shows-names (xs ++ us) vs y h p j n s)
  where
    next : Happened ((xs ++ us) ++ (y ∷ []))
    next = happened-front ((xs ++ us) ++ (y ∷ [])) vs (rw (append_assoc (xs ++ us) (y ∷ []) vs) h)

    now : Ended (xs ++ us) p n
    now = ended-stays p n xs us (happened-front (xs ++ us) (y ∷ vs) h) ends

    go : NamedIn (xs ++ us) p j n ⊎ NamedIn ((xs ++ us) ++ (y ∷ [])) p j n → ⊥
    go (inl a) = ended-unnamed p j n (xs ++ us) (happened-front (xs ++ us) (y ∷ vs) h) now a
    go (inr a) = ended-unnamed p j n ((xs ++ us) ++ (y ∷ [])) next (ended-stays p n (xs ++ us) (y ∷ []) next now) a

-- (b)
module _ (xs ys zs : List Fed) (x z : Fed) (p i : ℕ) (n : Node) (k : FirstCreate p i ys) (h : Happened ((xs ++ (x ∷ ys)) ++ (z ∷ zs))) (s : Shows xs x p i n) where
  abbrev then : List Fed
  then = xs ++ (x ∷ k.before)

  again : Happened (then ++ ((k.create ∷ k.after) ++ (z ∷ zs)))
  again =
      let e : (xs ++ (x ∷ ys)) ++ (z ∷ zs) ≡ (then ++ (k.create ∷ k.after)) ++ (z ∷ zs) =
      ap (λ (l : List Fed). (xs ++ (x ∷ l)) ++ (z ∷ zs)) k.place ∙ ap (λ (l : List Fed). l ++ (z ∷ zs)) (sym (append_assoc xs (x ∷ k.before) (k.create ∷ k.after))) in
      subst Happened (e ∙ append_assoc then (k.create ∷ k.after) (z ∷ zs)) h

  fresh : Fresh then p i
  fresh = of-next (λ us y vs. Creates p i y → Fresh us p i) (λ cs c. create-fresh cs c p i) then (k.after ++ (z ∷ zs)) k.create again k.creates

  ends : Ended then p n
  ends = go (shows-names xs ys x (happened-front (xs ++ (x ∷ ys)) (z ∷ zs) h) p i n s)
    where
      here : Happened then
      here = happened-front then ((k.create ∷ k.after) ++ (z ∷ zs)) again

      from-x : (xs ++ (x ∷ [])) ++ k.before ≡ then
      from-x = append_assoc xs (x ∷ []) k.before

      go : NamedIn xs p i n ⊎ NamedIn (xs ++ (x ∷ [])) p i n → Ended then p n
      go (inl a) = ended p i n xs (x ∷ k.before) here a fresh
      go (inr a) =
          subst (λ (l : List Fed). Ended l p n) from-x
          (ended p i n (xs ++ (x ∷ [])) k.before (subst Happened (sym from-x) here) a (subst (λ (l : List Fed). Fresh l p i) (sym from-x) fresh))

  created-anew : CreatedAnew xs x ys z zs p i n
  created-anew =
      record {
        before = k.before;
        create = k.create;
        after = k.after;
        place = k.place;
        creates = k.creates;
        dead = ends.dead;
        gone = ends.unheld;
        never = λ us vs y e j t.
            never-shown p j n then us vs y (subst Happened (ap (λ (l : List Fed). then ++ l) e ∙ sym (append_assoc then us (y ∷ vs))) again) ends t;
      }

pub chosen-for-another : ChosenForAnother
chosen-for-another xs ys zs x z h p i n m s t apart = go (first-create p i ys)
  where
    go : FirstCreate p i ys ⊎ All (λ y. Creates p i y → ⊥) ys → CreatedAnew xs x ys z zs p i n
    go (inl k) = created-anew xs ys zs x z p i n k h s
    go (inr uncreated) = absurd (apart (uncreated-for-one xs ys zs x z h p i n m uncreated s t))
