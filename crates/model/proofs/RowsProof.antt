-- The theorems that go with specs/RowsProof.antt and stand on others: each goes by the definitions and the theorems there.
-- Assumes nothing.
use Rattle.std.specs.Prelude.{ℕ, ◌+◌, ◌-◌, ◌*◌, ◌^◌, ◌<◌, ◌≡◌, Bool, not, eqb, ltb, leb}
use Rattle.std.proofs.Math.Path.{refl}
use Rattle.std.proofs.Common.{sym, ap, ◌∙◌, arith, eq-eqb, ltb-true, ltb-false}
use Rattle.std.proofs.Math.Bool.{true, false}
use mathlib.Core.List.{List, [], ◌∷◌, ◌++◌, map}
use Rattle.std.proofs.Math.ListN.{length}
use Rattle.std.proofs.lemmas.List.{length-map}
use Rattle.laws.specs.Tests.{pick, Seen, Seen.is_true, Seen.is_false, look, clash}
use Rattle.laws.specs.Weights.{All}
use Rattle.laws.specs.Search.{first-before}
use Rattle.laws.specs.Build.{build-length}
use Rattle.ids.specs.Refusals.{EOVERFLOW, EBADF, ESHUTDOWN, EEXIST, ENXIO, EPERM, EHOSTUNREACH, ENOSPC, EDQUOT, EAGAIN, ERANGE}
use Rattle.frames.specs.declared.Command.{Command}
use Rattle.frames.specs.declared.Command.TheVariants.{Open, Disconnect, Create, Destroy, Release, Transfer, Send, Receive, Quota, Holders, ShowSeed}
use Rattle.frames.specs.Frame.{send_id, payload_of}
use Rattle.frames.specs.Legal.{Legal, payload-length}
use Rattle.model.specs.Numbers.{slots, nodes, owner, most_commands}
use Rattle.model.specs.Lists.{every}
use Rattle.model.specs.State.{Status, Status.unopened, Status.opened, Status.disconnected, is_live, has_id, Entry, Entry.message, Entry.destroyed, Entry.released, State, slot, slot_of, free_place, Seed, Seed.unset, Seed.kept}
use Rattle.model.specs.Requests.{destinations, attached}
use Rattle.model.specs.Refusals.{present, openable, holding, owning, pinned, living, fits, takeable, refuses_open, refuses_disconnect, refuses_create, refuses_destroy, refuses_release, refuses_transfer, refuses_send, refuses_receive, refuses_quota, refuses_holders, refusal, showable, refuses_seed}
use Rattle.model.specs.Book.{Node, Noted, Noted.blank, Noted.noted, Book, nodes_of, Fed}
use Rattle.model.specs.Tested.{every-all}
use Rattle.model.specs.Charged.{Charged}
use Rattle.model.specs.ChargedProof.{known-open}
use Rattle.model.specs.Sim.{called, Sim}
use Rattle.model.specs.SimSend.{held-at-slot, noted-at-slot, nodes-of-slots}
use Rattle.model.specs.Tally.{tally}
use Rattle.model.specs.LedgerSim.{item_of, Follows, seed_of}
use Rattle.model.specs.Rows.{book_of, ledger_of, stands_in, is_unopened, is_opened, is_gone, is_noted, of_other, is_pinned, counted_nodes, over_quota, nothing_in, over_room, row75, row9, row108, row9-destination, row108-destination, row17, row6, row1, row113, row28, row122, row11, row34, is_unset, seed_over_room}
use Rattle.model.specs.RowsQuota.{leb-not}
use Rattle.model.proofs.RowsQuota.{fits-row}
use Rattle.model.specs.RowsProof.{passes, applies, ltb-not}

-- 17, 6: the search finds the IDs that the book has noted.
pub held-noted : {N : ℕ} (name : ℕ → ℕ) (b : State) (k : Book) → Sim N name b k → (p i : ℕ) → is_noted (k.handle p i) ≡ ltb (slot b p i) nodes
unfolding slot_of
held-noted name b k w p i = go (look (ltb (slot b p i) nodes)) (k.handle p i) refl
  where
    go : Seen (ltb (slot b p i) nodes) → (x : Noted) → k.handle p i ≡ x → is_noted x ≡ ltb (slot b p i) nodes
    go (is_true e) blank z = clash (sym (ap is_noted (sym z ∙ (noted-at-slot name b k w p i (ltb-true (slot b p i) nodes e)).1)))
    go (is_true e) (noted n c) z = rw e refl
    go (is_false e) blank z = rw e refl
    go (is_false e) (noted n c) z =
        let y = (w.handles p).held_at i n c z in
        let f = first-before (λ s. has_id i (b.handle p s)) nodes y.0 (omega (arith, y.1, ltb-false (slot b p i) nodes e)) in
        clash (rw (y.2, eq-eqb i i refl) at f)

-- The bus b, the history xs that led to it, and the book and the ledger of that history.
module _ {N : ℕ} (name : ℕ → ℕ) (b : State) (xs : List Fed) (w : Sim N name b (book_of xs)) (r : Follows name (book_of xs).entered b (ledger_of xs)) (h : Charged b)
    (accepted : b.accepted ≡ tally xs) (standing : (p : ℕ) → b.status p ≡ stands_in xs p) (room : (p : ℕ) → ltb (free_place b p) slots ≡ not (leb slots (counted_nodes (ledger_of xs) p))) where
  abbrev k : Book
  k = book_of xs

  -- 75, 9, 108.
  count-row : (s t : ℕ) → s ≡ t → pick (ltb b.accepted most_commands) s EOVERFLOW ≡ pick (leb (2 ^ 40 - 1) (tally xs)) EOVERFLOW t
  count-row s t e = rw (ltb-not b.accepted most_commands, accepted) (back (leb most_commands (tally xs)))
    where
      back : (x : Bool) → pick (not x) s EOVERFLOW ≡ pick x EOVERFLOW t
      back true = refl
      back false = e

  present-row : (p s t : ℕ) → (b.status p ≡ opened → s ≡ t) → present (b.status p) s ≡ pick (is_unopened (stands_in xs p)) EBADF (pick (is_gone (stands_in xs p)) ESHUTDOWN t)
  present-row p s t e = rw (← standing p) (go (b.status p) refl)
    where
      go : (x : Status) → b.status p ≡ x → present x s ≡ pick (is_unopened x) EBADF (pick (is_gone x) ESHUTDOWN t)
      go unopened z = refl
      go opened z = e z
      go disconnected z = refl

  openable-row : (p : ℕ) → openable (b.status p) ≡ pick (is_gone (stands_in xs p)) ESHUTDOWN (pick (is_opened (stands_in xs p)) EEXIST 0)
  openable-row p = rw (← standing p) (go (b.status p))
    where
      go : (x : Status) → openable x ≡ pick (is_gone x) ESHUTDOWN (pick (is_opened x) EEXIST 0)
      go unopened = refl
      go opened = refl
      go disconnected = refl

  -- 17, 6.
  every_held : (p : ℕ) (is : List ℕ) → every (λ i. is_noted ((book_of xs).handle p i)) is ≡ every (λ i. ltb (slot b p i) nodes) is
  every_held p [] = refl
  every_held p (i ∷ is) = rw (held-noted name b (book_of xs) w p i, every_held p is) refl

  held-row : (p : ℕ) (is : List ℕ) (s t : ℕ) → (All (λ i. slot b p i < nodes) is → s ≡ t) → holding (slot b p) is s ≡ pick (not (every (λ i. is_noted ((book_of xs).handle p i)) is)) ENXIO t
  held-row p is s t e =
      rw (every_held p is)
      (passes (every (λ i. ltb (slot b p i) nodes) is) ENXIO s t (λ z. e (below is (every-all (λ i. ltb (slot b p i) nodes) is z))))
    where
      below : (is : List ℕ) → All (λ i. ltb (slot b p i) nodes ≡ true) is → All (λ i. slot b p i < nodes) is
      below [] a = tt
      below (i ∷ is) a = (ltb-true (slot b p i) nodes a.0, below is a.1)

  -- 1.
  owner-row : (p i s t : ℕ) → slot b p i < nodes → s ≡ t → owning p (slot b p i) s ≡ pick (of_other p ((book_of xs).handle p i)) EPERM t
  owner-row p i s t l e = rw (noted-at-slot name b (book_of xs) w p i l).1 (passes (eqb (owner (slot b p i)) p) EPERM s t (λ z. e))

  pinned-row : (p i : ℕ) → slot b p i < nodes → pinned b p (slot b p i) ≡ is_pinned (ledger_of xs) p ((book_of xs).handle p i)
  pinned-row p i l =
      let y = held-at-slot b p i l in
      let n = (w.handles p).noted-at (slot b p i) i y.0 y.1 in
      rw (n, y.1, r.lives.same (slot b p i)) refl

  -- 113.
  every-lives : (ss : List ℕ) → every (λ (n : Node). (ledger_of xs).lives n.number) (map (called name) ss) ≡ every (λ s. is_live (b.life s)) ss
  every-lives [] = refl
  every-lives (s ∷ ss) = rw (r.lives.same s, every-lives ss) refl

  living-row : (p : ℕ) (is : List ℕ) (s t : ℕ) → All (λ i. slot b p i < nodes) is → s ≡ t →
      living b (map (slot b p) is) s ≡ pick (not (every (λ (n : Node). (ledger_of xs).lives n.number) (nodes_of (book_of xs) p is))) EHOSTUNREACH t
  living-row p is s t a e =
      rw (nodes-of-slots name b (book_of xs) w p is a, every-lives (map (slot b p) is)) (passes (every (λ s. is_live (b.life s)) (map (slot b p) is)) EHOSTUNREACH s t (λ z. e))

  -- 122.
  quota-row : (p : ℕ) (is : List ℕ) (nb nh : ℕ) → b.status p ≡ opened → All (λ i. slot b p i < nodes) is →
      pick (fits b (b.user p) (map (slot b p) is) nb nh) 0 EDQUOT
      ≡ pick (over_quota k (k.user p) (nodes_of k p is) nb nh) EDQUOT 0
  quota-row p is nb nh o a =
      rw (nodes-of-slots name b (book_of xs) w p is a, w.users p, fits-row name b (book_of xs) w h (b.user p) (map (slot b p) is) nb nh (known-open b p h o)) (back (over_quota k (b.user p) (map (called name) (map (slot b p) is)) nb nh))
    where
      back : (x : Bool) → pick (not x) 0 EDQUOT ≡ pick x EDQUOT 0
      back true = refl
      back false = refl

  -- 11, 34.
  takeable-row : (space : ℕ) (q : List Entry) → takeable space q ≡ pick (nothing_in (map (item_of name) q)) EAGAIN (pick (over_room space (map (item_of name) q)) ERANGE 0)
  takeable-row space [] = refl
  takeable-row space (message n m ∷ q) =
      rw (length-map m.carried (called name), leb-not (length m.payload + 8 * length m.carried) space) (back (ltb space (length m.payload + 8 * length m.carried)))
    where
      back : (x : Bool) → pick (not x) 0 ERANGE ≡ pick x ERANGE 0
      back true = refl
      back false = refl
  takeable-row space (destroyed n t ∷ q) = refl
  takeable-row space (released n t ∷ q) = refl

  showable-row : (space : ℕ) (x : Seed) → showable space x ≡ pick (is_unset (seed_of name x)) EAGAIN (pick (seed_over_room space (seed_of name x)) ERANGE 0)
  showable-row space unset = refl
  showable-row space (kept payload carried) =
      rw (length-map carried (called name), leb-not (length payload + 8 * length carried) space) (back (ltb space (length payload + 8 * length carried)))
    where
      back : (x : Bool) → pick (not x) 0 ERANGE ≡ pick x ERANGE 0
      back true = refl
      back false = refl

  -- The cascade of each command.
  abbrev cascade : List ℕ → Command → ℕ
  cascade f c =
      pick (row75 xs f c) EOVERFLOW
      (pick (row9 xs f c) EBADF
      (pick (row108 xs f c) ESHUTDOWN
      (pick (row9-destination xs f c) EBADF
      (pick (row108-destination xs f c) ESHUTDOWN
      (pick (row17 xs f c) EEXIST
      (pick (row6 xs f c) ENXIO
      (pick (row1 xs f c) EPERM
      (pick (row113 xs f c) EHOSTUNREACH
      (pick (row28 xs f c) ENOSPC
      (pick (row122 xs f c) EDQUOT
      (pick (row11 xs f c) EAGAIN
      (pick (row34 xs f c) ERANGE 0))))))))))))

  pub refusal-rows : (f : List ℕ) (c : Command) → Legal f c → refusal b f c ≡ cascade f c
  unfolding refusal refuses_open refuses_disconnect refuses_create refuses_destroy refuses_release refuses_transfer refuses_send refuses_receive refuses_quota refuses_holders refuses_seed
  refusal-rows f (Open p u) l = count-row _ _ (openable-row p.0)
  refusal-rows f (Disconnect p) l = count-row _ _ (present-row p.0 0 0 (λ o. refl))
  refusal-rows f (Create p i) l =
      count-row _ _
      (present-row p.0 _ _
      (λ o. rw (held-noted name b (book_of xs) w p.0 i.0, room p.0) (applies (ltb (slot b p.0 i.0) nodes) EEXIST _ _ (λ z. back (leb slots (counted_nodes (ledger_of xs) p.0))))))
    where
      back : (x : Bool) → pick (not x) 0 ENOSPC ≡ pick x ENOSPC 0
      back true = refl
      back false = refl
  refusal-rows f (Destroy p i) l =
      count-row _ _
      (present-row p.0 _ _ (λ o. held-row p.0 (i.0 ∷ []) _ _ (λ a. owner-row p.0 i.0 _ _ a.0 (living-row p.0 (i.0 ∷ []) 0 0 a refl))))
  refusal-rows f (Release p i) l =
      count-row _ _
      (present-row p.0 _ _ (λ o. held-row p.0 (i.0 ∷ []) _ _ (λ a. rw (pinned-row p.0 i.0 a.0) refl)))
  refusal-rows f (Transfer p i q) l =
      count-row _ _
      (present-row p.0 _ _ (λ o. present-row q.0 _ _ (λ e. held-row p.0 (i.0 ∷ []) _ _ (λ a. living-row p.0 (i.0 ∷ []) 0 0 a refl))))
  refusal-rows f (Send p z) l =
      let nb : length (payload_of f) ≡ z.nb = payload-length f z l.1 in
      let nh : length (attached f z) ≡ z.nh = build-length (λ j. (send_id f (z.nd + j)).0) z.nh in
      rw (nb, nh)
      (count-row _ _
      (present-row p.0 _ _
      (λ o. held-row p.0 (destinations f z ++ attached f z) _ _
      (λ a. let d = front (destinations f z) (attached f z) a in living-row p.0 (destinations f z) _ _ d (quota-row p.0 (destinations f z) z.nb z.nh o d)))))
    where
      front : (is hs : List ℕ) → All (λ i. slot b p.0 i < nodes) (is ++ hs) → All (λ i. slot b p.0 i < nodes) is
      front [] hs a = tt
      front (i ∷ is) hs a = (a.0, front is hs a.1)
  refusal-rows f (Receive p space) l = count-row _ _ (present-row p.0 _ _ (λ o. rw (r.queues p.0) (takeable-row space (b.queue p.0))))
  refusal-rows f (Quota p u) l = present-row p.0 0 0 (λ o. refl)
  refusal-rows f (Holders p i) l = present-row p.0 _ _ (λ o. held-row p.0 (i.0 ∷ []) _ _ (λ a. owner-row p.0 i.0 0 0 a.0 refl))
  refusal-rows f (ShowSeed p space) l = count-row _ _ (present-row p.0 _ _ (λ o. rw (r.seeds p.0 (omega (arith, l))) (showable-row space (b.seed p.0))))
