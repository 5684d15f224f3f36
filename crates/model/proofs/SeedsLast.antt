-- The theorems that go with specs/SeedsLast.antt and stand on others: each goes by the definitions and the theorems there.
-- Assumes nothing.
use Rattle.std.specs.Prelude.{ℕ, ◌-◌, ◌^◌, ◌≤◌, ◌<◌, ◌≡◌, refl, Bool, true, false, not, ◌⊎◌, List, [], ◌∷◌, ◌++◌, length, eqb, ltb, leb, Ok}
use Rattle.std.proofs.Common.{sym, ap, ap₂, subst, ◌∙◌, append_assoc, append-nil, arith, ne_eqb, ltb-true, ltb-false, lt-ltb, le-ltb}
use Rattle.std.proofs.Math.Logic.◌⊎◌.{inl, inr}
use Rattle.std.proofs.lemmas.Bool.{lt-leb}
use Rattle.laws.specs.Tests.{pick, Seen, Seen.is_true, Seen.is_false, look}
use Rattle.laws.specs.Weights.{All, all_append}
use Rattle.laws.specs.Build.{build}
use Rattle.ids.specs.Refusals.{EINVAL, EOVERFLOW, EBADF, ESHUTDOWN, ENXIO, EAGAIN, ERANGE}
use Rattle.ids.specs.declared.Peer.{Peer}
use Rattle.frames.specs.declared.Command.{Command}
use Rattle.frames.specs.declared.Command.TheVariants.{Send, ShowSeed}
use Rattle.frames.specs.Frame.{parse}
use Rattle.model.specs.Lists.{every}
use Rattle.model.specs.State.{Status.opened, start}
use Rattle.model.specs.Requests.{attached}
use Rattle.model.specs.Step.{Call, step, run}
use Rattle.model.specs.Book.{Fed, feed}
use Rattle.model.specs.Claim.{history_from}
use Rattle.model.specs.Coded.{coded}
use Rattle.model.specs.Tally.{tally}
use Rattle.model.specs.Standing.{did}
use Rattle.model.specs.History.{ledger-left, fed-enters}
use Rattle.model.specs.Ledger.{LedgerSeed, LedgerSeed.unset, Ledger, blank_ledger, feed_ledger_all, enter}
use Rattle.model.specs.LedgerSeeds.{enter-seeds}
use Rattle.model.specs.Rows.{book_of, ledger_of, stands_in, is_unopened, is_gone, is_unset, seed_over_room, frame_rows, command_rows, first_number, is_noted}
use Rattle.model.specs.RowsFrame.{number_in, frame-exactly}
use Rattle.model.specs.RowsRun.{first-append, frames-over}
use Rattle.model.proofs.RowsRun.{exact}
use Rattle.model.specs.Happened.{Happened, happened-front, happened-at, of-next}
use Rattle.model.specs.Exchanges.{Exchange, Exchange.refused, Exchange.accepted, ledger-more}
use Rattle.model.proofs.Exchanges.{exchange}
use Rattle.model.specs.Seeds.{sets_seed, leaves_seed, LastSeed, SeedIsLast, UnsetWithoutLast, NoneGivesEleven, ShowNumbers, SetNumbers}
use Rattle.model.specs.SeedsLast.{seed_where, seed_by, command-seed, beside, not-either, set-number}

seed-next : (xs : List Fed) (x : Fed) → Happened (xs ++ (x ∷ [])) → (p : ℕ) → (ledger_of (xs ++ (x ∷ []))).seed p ≡ seed_by xs x p
seed-next xs x h p = ap (λ (k : Ledger). k.seed p) (ledger-more xs x) ∙ go (exchange xs x (happened-at xs [] x h))
  where
    go : Exchange xs x → (Rattle.model.specs.Ledger.feed_ledger (ledger_of xs) x).seed p ≡ seed_by xs x p
    go (refused n) = rw (ledger-left (ledger_of xs) x n, ne_eqb x.number 0 n) refl
    go (accepted c e g legal t m) =
        let k = coded x.frame c g in
        ap (λ (k : Ledger). k.seed p) (fed-enters (ledger_of xs) x c e g)
        ∙ ap (λ (s : ℕ → LedgerSeed). s p) (beside (enter (ledger_of xs) x.frame c) (feed (ledger_of xs).book x) ∙ enter-seeds (ledger_of xs) x.frame c)
        ∙ command-seed xs x p e c legal k.byte k.peer

leaves-one : (xs : List Fed) (x : Fed) → Happened (xs ++ (x ∷ [])) → (p : ℕ) → leaves_seed p x ≡ true → (ledger_of (xs ++ (x ∷ []))).seed p ≡ (ledger_of xs).seed p
leaves-one xs x h p e =
    let y = not-either (sets_seed p x) (did 2 p x) e in
    seed-next xs x h p ∙ ap₂ (seed_where xs x p) y.0 y.1

leaves_all : (xs ys : List Fed) → Happened (xs ++ ys) → (p : ℕ) → All (λ x. leaves_seed p x ≡ true) ys → (ledger_of (xs ++ ys)).seed p ≡ (ledger_of xs).seed p
leaves_all xs [] h p a = ap (λ (l : List Fed). (ledger_of l).seed p) (append-nil xs)
leaves_all xs (y ∷ ys) h p a =
    let e : (xs ++ (y ∷ [])) ++ ys ≡ xs ++ (y ∷ ys) = append_assoc xs (y ∷ []) ys in
    let k : Happened ((xs ++ (y ∷ [])) ++ ys) = subst Happened (sym e) h in
    ap (λ (l : List Fed). (ledger_of l).seed p) (sym e)
    ∙ leaves_all (xs ++ (y ∷ [])) ys k p a.1
    ∙ leaves-one xs y (happened-front (xs ++ (y ∷ [])) ys k) p a.0

pub seed-is-last : SeedIsLast
seed-is-last xs h p s =
    let e : (s.before ++ (s.set ∷ [])) ++ s.after ≡ xs = append_assoc s.before (s.set ∷ []) s.after ∙ sym s.place in
    let k : Happened ((s.before ++ (s.set ∷ [])) ++ s.after) = subst Happened (sym e) h in
    ap (λ (l : List Fed). (ledger_of l).seed p) (sym e)
    ∙ leaves_all (s.before ++ (s.set ∷ [])) s.after k p s.last
    ∙ seed-next s.before s.set (happened-front (s.before ++ (s.set ∷ [])) s.after k) p
    ∙ ap (λ (t : Bool). seed_where s.before s.set p t (did 2 p s.set)) s.sets

-- Either there is a last one, or none is set.
abbrev LastOr : List Fed → ℕ → Type 0
LastOr xs p = LastSeed xs p ⊎ ((ledger_of xs).seed p ≡ unset)

last-next : (xs : List Fed) (x : Fed) → Happened (xs ++ (x ∷ [])) → (p : ℕ) → LastOr xs p → LastOr (xs ++ (x ∷ [])) p
last-next xs x h p s = go (look (sets_seed p x)) (look (did 2 p x)) s
  where
    stays : sets_seed p x ≡ false → did 2 p x ≡ false → leaves_seed p x ≡ true
    stays e d = rw (e, d) refl

    go : Seen (sets_seed p x) → Seen (did 2 p x) → LastOr xs p → LastOr (xs ++ (x ∷ [])) p
    go (is_true e) d s = inl (record { before = xs; set = x; after = []; place = refl; sets = e; last = tt })
    go (is_false e) (is_true d) s =
        inr (seed-next xs x h p ∙ ap₂ (seed_where xs x p) e d)
    go (is_false e) (is_false d) (inr s) = inr (leaves-one xs x h p (stays e d) ∙ s)
    go (is_false e) (is_false d) (inl s) =
        inl
        (record {
          before = s.before;
          set = s.set;
          after = s.after ++ (x ∷ []);
          place = ap (λ (l : List Fed). l ++ (x ∷ [])) s.place ∙ append_assoc s.before (s.set ∷ s.after) (x ∷ []);
          sets = s.sets;
          last = all_append (λ y. leaves_seed p y ≡ true) s.after (x ∷ []) s.last (stays e d, tt);
        })

last-all : (xs ys : List Fed) → Happened (xs ++ ys) → (p : ℕ) → LastOr xs p → LastOr (xs ++ ys) p
last-all xs [] h p s = subst (λ (l : List Fed). LastOr l p) (sym (append-nil xs)) s
last-all xs (y ∷ ys) h p s =
    let e : (xs ++ (y ∷ [])) ++ ys ≡ xs ++ (y ∷ ys) = append_assoc xs (y ∷ []) ys in
    let k : Happened ((xs ++ (y ∷ [])) ++ ys) = subst Happened (sym e) h in
    subst (λ (l : List Fed). LastOr l p) e (last-all (xs ++ (y ∷ [])) ys k p (last-next xs y (happened-front (xs ++ (y ∷ [])) ys k) p s))

pub last-or-unset : (xs : List Fed) → Happened xs → (p : ℕ) → LastSeed xs p ⊎ ((ledger_of xs).seed p ≡ unset)
last-or-unset xs h p = last-all [] xs h p (inr (unfold feed_ledger_all blank_ledger in refl))

pub unset-without-last : UnsetWithoutLast
unset-without-last xs h p n = go (last-or-unset xs h p)
  where
    go : LastSeed xs p ⊎ ((ledger_of xs).seed p ≡ unset) → (ledger_of xs).seed p ≡ unset
    go (inl s) = absurd (n s)
    go (inr e) = e

-- A frame that is read, and an answer buffer that is long enough: the number is that of the command's rows.
read_number : (cs : List Call) (c : Call) (k : Command) → parse c.frame ≡ Ok k → 591 ≤ length c.buffer →
    (step (run cs) c).outcome.number ≡ first_number command_rows (history_from start cs) c
read_number cs c k e long =
    let xs = history_from start cs in
    let n : first_number frame_rows xs c ≡ 0 = sym (frame-exactly xs c) ∙ ap number_in e in
    (exact cs c).first
    ∙ ap (λ (t : Bool). pick t EINVAL (first_number (frame_rows ++ command_rows) xs c)) (le-ltb (length c.buffer) 591 long)
    ∙ first-append frame_rows command_rows xs c frames-over
    ∙ ap (λ (m : ℕ). pick (eqb m 0) (first_number command_rows xs c) m) n

short-number : (cs : List Call) (c : Call) → length c.buffer < 591 → (step (run cs) c).outcome.number ≡ EINVAL
short-number cs c less =
    let xs = history_from start cs in
    (exact cs c).first ∙ ap (λ (t : Bool). pick t EINVAL (first_number (frame_rows ++ command_rows) xs c)) (lt-ltb (length c.buffer) 591 less)

-- It is long enough where the number is not 22.
long-buffer : (cs : List Call) (c : Call) → ((step (run cs) c).outcome.number ≡ EINVAL → ⊥) → 591 ≤ length c.buffer
long-buffer cs c h = go (look (ltb (length c.buffer) 591))
  where
    go : Seen (ltb (length c.buffer) 591) → 591 ≤ length c.buffer
    go (is_true t) = absurd (h (short-number cs c (ltb-true (length c.buffer) 591 t)))
    go (is_false t) = ltb-false (length c.buffer) 591 t

pub show-numbers : ShowNumbers
show-numbers xs ys x h p room =
    of-next
    (λ us y vs. parse y.frame ≡ Ok (ShowSeed p room) → (y.number ≡ EINVAL → ⊥) →
    y.number
    ≡ pick (leb (2 ^ 40 - 1) (tally us)) EOVERFLOW
    (pick (is_unopened (stands_in us p.0)) EBADF
    (pick (is_gone (stands_in us p.0)) ESHUTDOWN (pick (is_unset ((ledger_of us).seed p.0)) EAGAIN (pick (seed_over_room room ((ledger_of us).seed p.0)) ERANGE 0)))))
    (λ cs c e n. read_number cs c (ShowSeed p room) e (long-buffer cs c n) ∙ rw e refl) xs ys x h

pub set-numbers : SetNumbers
unfolding build
set-numbers xs ys x h p z e none n =
    of-next
    (λ us y vs. parse y.frame ≡ Ok (Send p z) → (y.number ≡ EINVAL → ⊥) →
    y.number
    ≡ pick (leb (2 ^ 40 - 1) (tally us)) EOVERFLOW
    (pick (is_unopened (stands_in us p.0)) EBADF
    (pick (is_gone (stands_in us p.0)) ESHUTDOWN (pick (not (every (λ i. is_noted ((book_of us).handle p.0 i)) (attached y.frame z))) ENXIO 0))))
    (λ cs c e n. read_number cs c (Send p z) e (long-buffer cs c n) ∙ rw (e, none) refl) xs ys x h e n

module _ (cs : List Call) (c : Call) (p : Peer) (room : ℕ) (e : parse c.frame ≡ Ok (ShowSeed p room)) where
  abbrev hs : List Fed
  hs = history_from start cs

  here : Happened hs
  here = record { calls = cs; same = refl }

  numbered : ((step (run cs) c).outcome.number ≡ EINVAL → ⊥) →
      (step (run cs) c).outcome.number
      ≡ pick (leb (2 ^ 40 - 1) (tally hs)) EOVERFLOW
      (pick (is_unopened (stands_in hs p.0)) EBADF
      (pick (is_gone (stands_in hs p.0)) ESHUTDOWN (pick (is_unset ((ledger_of hs).seed p.0)) EAGAIN (pick (seed_over_room room ((ledger_of hs).seed p.0)) ERANGE 0))))
  numbered n = read_number cs c (ShowSeed p room) e (long-buffer cs c n) ∙ rw e refl

  eleven-none : (step (run cs) c).outcome.number ≡ EAGAIN → LastSeed hs p.0 → ⊥
  eleven-none n s =
      set-number (leb (2 ^ 40 - 1) (tally hs)) (is_unopened (stands_in hs p.0)) (is_gone (stands_in hs p.0)) room ((ledger_of hs).seed p.0) _ _ (seed-is-last hs here p.0 s)
      (sym (numbered (λ z. omega (arith, n, z))) ∙ n)

  none-eleven : (LastSeed hs p.0 → ⊥) → ((step (run cs) c).outcome.number ≡ EINVAL → ⊥) → tally hs < 2 ^ 40 - 1 → stands_in hs p.0 ≡ opened → (step (run cs) c).outcome.number ≡ EAGAIN
  none-eleven without long few stands = numbered long ∙ rw (lt-leb (2 ^ 40 - 1) (tally hs) few, stands, unset-without-last hs here p.0 without) refl

pub none-gives-eleven : NoneGivesEleven
none-gives-eleven xs ys x h p room =
    of-next
    (λ us y vs. parse y.frame ≡ Ok (ShowSeed p room) →
    (y.number ≡ EAGAIN → LastSeed us p.0 → ⊥) × ((LastSeed us p.0 → ⊥) → (y.number ≡ EINVAL → ⊥) → tally us < 2 ^ 40 - 1 → stands_in us p.0 ≡ opened → y.number ≡ EAGAIN))
    (λ cs c e. (eleven-none cs c p room e, none-eleven cs c p room e)) xs ys x h
