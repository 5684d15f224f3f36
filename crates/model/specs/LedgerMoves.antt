-- How the queues of the ledger change by one accepted command: the items of a queue stay in their order, some leave it for the reasons of document 01, a receive of its peer takes the first,
-- and new ones, with the command's number, come behind.
-- Assumes nothing.
use Prim.Native.Nat.{ℕ, suc, ◌-◌, ◌≤◌, ◌<◌}
use Rattle.std.specs.Prelude.{◌≡◌, Bool, true, false, not, eqb, ltb}
use Rattle.std.proofs.Math.Path.{refl}
use Rattle.std.proofs.Common.{sym, ap, subst, ◌∙◌, arith}
use Rattle.std.proofs.Math.Logic.◌⊎◌.{inl, inr}
use mathlib.Core.List.{List, [], ◌∷◌, ◌++◌, map}
use borrow.Author.Tests.{eqb-true, eq-eqb, ne_eqb}
use Rattle.laws.specs.Tests.{pick, pick_all, pick-cases, Seen, Seen.is_true, Seen.is_false, look, clash, Same, Same.same, Same.other, same?}
use Rattle.laws.specs.Tables.{upd, upd_same, upd_other, upd-all}
use Rattle.laws.specs.Weights.{All, all_append, keep}
use Rattle.frames.specs.declared.Command.{Command}
use Rattle.frames.specs.declared.Command.TheVariants.{Open, Disconnect, Create, Destroy, Release, Transfer, Send, Receive, Quota, Holders, ShowSeed}
use Rattle.frames.specs.Frame.{payload_of}
use Rattle.frames.specs.Legal.{Legal}
use Rattle.model.specs.Numbers.{peers}
use Rattle.model.specs.Lists.{both, either, any}
use Rattle.model.specs.Requests.{destinations, attached}
use Rattle.model.specs.State.{Handle, Handle.none, handle_of, held, count, total}
use Rattle.model.specs.Book.{Node, same_node, Noted, Noted.blank, Noted.noted, owned_by, nodes_of}
use Rattle.model.specs.Occurs.{both_true}
use Rattle.model.specs.Counts.{total-other, count-handle}
use Rattle.model.specs.Queues.{Later, front}
use Rattle.model.specs.QueuesLaws.{later_refl, later-append, later-keep, later-empty, later_trans, later-front, map-new, total-set}
use Rattle.model.specs.Ledger.{Letter, Item, Item.message, Item.destroyed, Item.released, Ledger, ledger_create, no_release, brings, is_told, ledger_destroy, outlasts, lasts, cleared, fallen, ledger_release, valid_at, due_id, ledger_give, ledger_give_all, ledger_queues, ledger_cleared, letters, ledger_send, ledger_receive, by_own_id, ledger_disconnect, ledger_counted, on_node, enter, item_number, LedgerSeed, LedgerSeed.kept, seed_nodes, ledger_seed}
use Rattle.model.specs.Waits.{LapsedIn}

-- What an accepted command takes out of the queue of p for its answer: a receive of p the first item.
abbrev pub taken_of : Ledger → ℕ → Command → List Item
taken_of l p (Open q u) = []
taken_of l p (Disconnect q) = []
taken_of l p (Create q i) = []
taken_of l p (Destroy q i) = []
taken_of l p (Release q i) = []
taken_of l p (Transfer q i t) = []
taken_of l p (Send q z) = []
taken_of l p (Receive q room) = pick (eqb q.0 p) (front (l.queue p)) []
taken_of l p (Quota q u) = []
taken_of l p (Holders q i) = []
taken_of l p (ShowSeed q room) = []

-- What a command queues has its own number, the next one.
abbrev pub NextIn : Ledger → Item → Type 0
NextIn l e = item_number e ≡ suc l.accepted

abbrev pub MovedIn : Ledger → Ledger → ℕ → List Item → Type 0
MovedIn l k p taken = Later (LapsedIn l k p) (NextIn l) (l.queue p) (taken ++ k.queue p)

-- A handle is given: the sum rises, and with it the release notice goes.
module _ (x : Ledger) (q k : ℕ) (n : Node) where
  abbrev more : Handle
  more = handle_of (due_id x q k n) (suc (count (x.handle q n.number)))

  give-handle : valid_at x q k n.number ≡ true → (ledger_give x q k n).handle ≡ upd x.handle q (upd (x.handle q) n.number more)
  unfolding ledger_give
  give-handle e = rw e refl

  give-queue : valid_at x q k n.number ≡ true → (ledger_give x q k n).queue ≡ upd x.queue n.owner (keep (no_release n) (x.queue n.owner))
  unfolding ledger_give
  give-queue e = rw e refl

  give-dead : valid_at x q k n.number ≡ false → ledger_give x q k n ≡ x
  unfolding ledger_give
  give-dead e = rw e refl

  give-raises : q < peers → valid_at x q k n.number ≡ true → total x.handle n.number < total (ledger_give x q k n).handle n.number
  give-raises l e =
      rw (give-handle e)
      (omega (arith, total-set x.handle q n.number more l, count-handle (due_id x q k n) (suc (count (x.handle q n.number)))))

  give-total : (t : ℕ) → q < peers → total x.handle t ≤ total (ledger_give x q k n).handle t
  give-total t l = go (look (valid_at x q k n.number)) (same? n.number t)
    where
      go : Seen (valid_at x q k n.number) → Same n.number t → total x.handle t ≤ total (ledger_give x q k n).handle t
      go (is_false e) z = rw (give-dead e) (omega arith)
      go (is_true e) (same z) = rw (← z) (omega (arith, give-raises l e))
      go (is_true e) (other z) = rw (give-handle e) (omega (arith, total-other x.handle q n.number more t z))

gives-total : (x : Ledger) (q k : ℕ) (ns : List Node) (t : ℕ) → q < peers → total x.handle t ≤ total (ledger_give_all x q k ns).handle t
gives-total x q k [] t l = omega arith
gives-total x q k (n ∷ ns) t l = omega (arith, give-total x q k n t l, gives-total (ledger_give x q k n) q k ns t l)

-- A release notice of the node, and nothing else.
not-kept : (gone : Item → Type 0) (n : Node) → ((j : ℕ) (m : Node) → n.number ≡ m.number → gone (released j m)) → (e : Item) → no_release n e ≡ false → gone e
not-kept gone n h (message j m) f = clash f
not-kept gone n h (destroyed j m) f = clash f
not-kept gone n h (released j m) f = go (look (same_node n m))
  where
    go : Seen (same_node n m) → gone (released j m)
    go (is_true z) = h j m (eqb-true n.number m.number z)
    go (is_false z) = clash (sym (ap not z) ∙ f)

module _ (l : Ledger) (new : Item → Type 0) where
  moved-give : (k x : Ledger) (q as_of : ℕ) (n : Node) → q < peers → ((t : ℕ) → total l.handle t ≤ total x.handle t) →
      ((t : ℕ) → total (ledger_give x q as_of n).handle t ≤ total k.handle t) → (p : ℕ) → Later (LapsedIn l k p) new (x.queue p) ((ledger_give x q as_of n).queue p)
  moved-give k x q as_of n b low high p = go (look (valid_at x q as_of n.number))
    where
      go : Seen (valid_at x q as_of n.number) → Later (LapsedIn l k p) new (x.queue p) ((ledger_give x q as_of n).queue p)
      go (is_false e) = rw (give-dead x q as_of n e) (later_refl (x.queue p))
      go (is_true e) =
          let up : total l.handle n.number < total k.handle n.number = omega (arith, low n.number, give-raises x q as_of n b e, high n.number) in
          rw (give-queue x q as_of n e)
          (upd-all (λ r (z : List Item). Later (LapsedIn l k r) new (x.queue r) z) x.queue n.owner (keep (no_release n) (x.queue n.owner)) (λ r. later_refl (x.queue r))
          (later-keep (no_release n) (not-kept (LapsedIn l k n.owner) n (λ j m z. inr (inl (rw (← z) up)))) (x.queue n.owner)) p)

  -- k is any ledger with at least the counts that are left.
  moved-gives : (k x : Ledger) (q as_of : ℕ) (ns : List Node) → q < peers → ((t : ℕ) → total l.handle t ≤ total x.handle t) →
      ((t : ℕ) → total (ledger_give_all x q as_of ns).handle t ≤ total k.handle t) → (p : ℕ) → Later (LapsedIn l k p) new (x.queue p) ((ledger_give_all x q as_of ns).queue p)
  moved-gives k x q as_of [] b low high p = later_refl (x.queue p)
  moved-gives k x q as_of (n ∷ ns) b low high p =
      later_trans (moved-give k x q as_of n b low (λ t. omega (arith, gives-total (ledger_give x q as_of n) q as_of ns t b, high t)) p)
      (moved-gives k (ledger_give x q as_of n) q as_of ns b (λ t. omega (arith, low t, give-total x q as_of n t b)) high p)

-- 02 No. 2: a destroy notice that does not last has neither a handle nor an earlier message left, and a queue that is cleared keeps its messages.
pub brings-kept : (t : Item → Bool) → ((k : ℕ) (m : Letter) → t (message k m) ≡ true) → (q : List Item) (k n : ℕ) → any (brings k n) (keep t q) ≡ any (brings k n) q
brings-kept t h [] k n = refl
brings-kept t h (e ∷ q) k n = go (look (t e)) e refl (brings-kept t h q k n)
  where
    go : Seen (t e) → (x : Item) → e ≡ x → any (brings k n) (keep t q) ≡ any (brings k n) q → any (brings k n) (keep t (e ∷ q)) ≡ any (brings k n) (e ∷ q)
    go (is_true z) x y ih = rw z (ap (either (brings k n e)) ih)
    go (is_false z) (message j m) y ih = clash (sym (h j m) ∙ ap t (sym y) ∙ z)
    go (is_false z) (destroyed j m) y ih = rw (z, y) ih
    go (is_false z) (released j m) y ih = rw (z, y) ih

brings-behind : (k n : ℕ) (q : List Item) (t : Bool) (j : ℕ) (m : Node) → any (brings k n) (q ++ pick t (released j m ∷ []) []) ≡ any (brings k n) q
brings-behind k n [] true j m = refl
brings-behind k n [] false j m = refl
brings-behind k n (e ∷ q) t j m = ap (either (brings k n e)) (brings-behind k n q t j m)

not-lasting : (h : ℕ → Handle) (q : List Item) (gone : Item → Type 0) →
    ((j : ℕ) (n : Node) → held (h n.number) ≡ false → any (brings j n.number) (cleared h q) ≡ false → gone (destroyed j n)) → (e : Item) → lasts h q e ≡ false → gone e
unfolding cleared
not-lasting h q gone g (message j m) f = clash f
not-lasting h q gone g (released j n) f = clash f
not-lasting h q gone g (destroyed j n) f =
    let x = neither (held (h n.number)) (any (brings j n.number) q) f in
    g j n x.0 (brings-kept (lasts h q) (λ k m. refl) q j n.number ∙ x.1)
  where
    neither : (a b : Bool) → either a b ≡ false → (a ≡ false) × (b ≡ false)
    neither true b z = clash z
    neither false b z = (refl, z)

-- Receive: the first item comes out, and the handles that a message carries are given.
first_out : (l : Ledger) (q : ℕ) (e : Item) (rest : List Item) → l.queue q ≡ e ∷ rest → (p : ℕ) →
    l.queue p ≡ pick (eqb q p) (front (l.queue p)) [] ++ upd l.queue q rest p
first_out l q e rest h p = go (same? q p)
  where
    go : Same q p → l.queue p ≡ pick (eqb q p) (front (l.queue p)) [] ++ upd l.queue q rest p
    go (same z) = rw (← z, eq-eqb q q refl, upd_same, h) refl
    go (other z) = rw (ne_eqb q p z, upd_other l.queue q p rest z) refl

module _ (l : Ledger) where
  abbrev counted : Ledger
  counted = ledger_counted l

  abbrev out : ℕ → List Item → Ledger
  out q rest = ledger_queues (ledger_counted l) (upd l.queue q rest)

  -- Behind what came out, all that stands there moves on.
  moved_out : (k : Ledger) (q : ℕ) (e : Item) (rest : List Item) → l.queue q ≡ e ∷ rest → (p : ℕ) →
      Later (LapsedIn l k p) (NextIn l) (upd l.queue q rest p) (k.queue p) → MovedIn l k p (pick (eqb q p) (front (l.queue p)) [])
  moved_out k q e rest h p m =
      subst (λ (z : List Item). Later (LapsedIn l k p) (NextIn l) z (pick (eqb q p) (front (l.queue p)) [] ++ k.queue p)) (sym (first_out l q e rest h p))
      (later-front (pick (eqb q p) (front (l.queue p)) []) m)

  -- The notices that nothing keeps are withdrawn.
  moved-cleared : (new : Item → Type 0) (x : Ledger) (q p : ℕ) → Later (LapsedIn l (ledger_cleared x q) p) new (x.queue p) ((ledger_cleared x q).queue p)
  unfolding ledger_queues cleared
  moved-cleared new x q p = go (same? q p)
    where
      k : Ledger
      k = ledger_cleared x q

      go : Same q p → Later (LapsedIn l k p) new (x.queue p) (upd x.queue q (keep (lasts (x.handle q) (x.queue q)) (x.queue q)) p)
      go (same z) =
          rw (← z, upd_same)
          (later-keep (lasts (x.handle q) (x.queue q)) (not-lasting (x.handle q) (x.queue q) (LapsedIn l k q) (λ j n u v. (u, rw upd_same v))) (x.queue q))
      go (other z) = rw (upd_other x.queue q p _ z) (later_refl (x.queue p))

  moved-receive : (q : ℕ) → q < peers → (es : List Item) → l.queue q ≡ es → (p : ℕ) →
      MovedIn l (ledger_receive counted q es) p (pick (eqb q p) (front (l.queue p)) [])
  unfolding ledger_queues ledger_counted
  moved-receive q b [] h p = go (same? q p)
    where
      go : Same q p → MovedIn l (ledger_counted l) p (pick (eqb q p) (front (l.queue p)) [])
      go (same z) = rw (← z, eq-eqb q q refl, h) (later_refl [])
      go (other z) = rw (ne_eqb q p z) (later_refl (l.queue p))
  moved-receive q b (message j m ∷ rest) h p =
      let x = ledger_give_all (out q rest) q j m.carried in
      moved_out (ledger_cleared x q) q (message j m) rest h p
      (later_trans (moved-gives l (NextIn l) (ledger_cleared x q) (out q rest) q j m.carried b (λ t. omega arith) (λ t. omega arith) p) (moved-cleared (NextIn l) x q p))
  moved-receive q b (destroyed j n ∷ rest) h p = moved_out (out q rest) q (destroyed j n) rest h p (later_refl (upd l.queue q rest p))
  moved-receive q b (released j n ∷ rest) h p = moved_out (out q rest) q (released j n) rest h p (later_refl (upd l.queue q rest p))

  -- Destroy: the node's release notice goes, and each peer that is told has a notice behind.
  moved-destroy : (n : Node) (p : ℕ) → MovedIn l (ledger_destroy counted n) p []
  unfolding ledger_destroy ledger_counted
  moved-destroy n p =
      let k = ledger_destroy counted n in
      let old = pick (owned_by p n) (keep (no_release n) (l.queue p)) (l.queue p) in
      later_trans
      (pick_all (λ (z : List Item). Later (LapsedIn l k p) (NextIn l) (l.queue p) z) (owned_by p n) (keep (no_release n) (l.queue p)) (l.queue p)
      (later-keep (no_release n) (not-kept (LapsedIn l k p) n (λ j m z. inr (inr (rw (← z, upd_same) refl)))) (l.queue p))
      (later_refl (l.queue p)))
      (later-append old (pick (both (ltb p peers) (is_told (l.handle p) (l.queue p) (suc l.accepted) n.number)) (destroyed (suc l.accepted) n ∷ []) [])
      (pick_all (All (NextIn l)) (both (ltb p peers) (is_told (l.handle p) (l.queue p) (suc l.accepted) n.number)) (destroyed (suc l.accepted) n ∷ []) [] (refl, tt) tt))

  -- What does not outlast a handle that went.
  not-outlasting : (k : Ledger) (p : ℕ) (n : Node) → held (k.handle p n.number) ≡ false → (e : Item) → outlasts p n e ≡ false → LapsedIn l k p e
  not-outlasting k p n h e = go e
    where
      is-it : (m : Node) → Seen (same_node m n) → not (same_node m n) ≡ false → held (k.handle p m.number) ≡ false
      is-it m (is_true z) f = rw (eqb-true m.number n.number z) h
      is-it m (is_false z) f = clash (sym (ap not z) ∙ f)

      narrow : (x y : Bool) → not (both x y) ≡ false → not y ≡ false
      narrow true y f = f
      narrow false y f = clash f

      go : (e : Item) → outlasts p n e ≡ false → LapsedIn l k p e
      go (message j m) f = is-it m.to (look (same_node m.to n)) (narrow (owned_by p n) (same_node m.to n) f)
      go (destroyed j m) f = clash f
      go (released j m) f = inl (is-it m (look (same_node m n)) f)

  -- Release: where the last reference goes, so does what does not outlast the handle; where the sum fell to 1, a notice comes behind.
  moved-release : (q i : ℕ) (n : Node) (c p : ℕ) → MovedIn l (ledger_release counted q i n c) p []
  unfolding ledger_release ledger_counted cleared
  moved-release q i n c p =
      let k = ledger_release counted q i n c in
      let kept = cleared (k.handle p) (keep (outlasts q n) (l.queue p)) in
      let old = pick (both (eqb q p) (eqb c 1)) kept (l.queue p) in
      let falls = both (owned_by p n) (fallen l.lives l.handle k.handle n.number) in
      later_trans
      (pick-cases (λ (z : List Item). Later (LapsedIn l k p) (NextIn l) (l.queue p) z) (both (eqb q p) (eqb c 1)) kept (l.queue p)
      (λ z. let t = both_true (eqb q p) (eqb c 1) z in goes (eqb-true q p t.0) (eqb-true c 1 t.1))
      (λ z. later_refl (l.queue p)))
      (later-append old (pick falls (released (suc l.accepted) n ∷ []) [])
      (pick_all (All (NextIn l)) falls (released (suc l.accepted) n ∷ []) [] (refl, tt) tt))
    where
      after : ℕ → Handle
      after = upd l.handle q (upd (l.handle q) n.number (handle_of i (c - 1))) q

      rest : List Item
      rest = keep (outlasts q n) (l.queue q)

      falls : Bool
      falls = both (owned_by q n) (fallen l.lives l.handle (upd l.handle q (upd (l.handle q) n.number (handle_of i (c - 1)))) n.number)

      goes : q ≡ p → c ≡ 1 → Later (LapsedIn l (ledger_release counted q i n c) p) (NextIn l) (l.queue p) (cleared ((ledger_release counted q i n c).handle p) (keep (outlasts q n) (l.queue p)))
      goes e f =
          rw (← e)
          (later_trans (later-keep (outlasts q n) (not-outlasting (ledger_release counted q i n c) q n (rw (f, upd_same, upd_same) refl)) (l.queue q))
          (later-keep (lasts after rest)
          (not-lasting after rest (LapsedIn l (ledger_release counted q i n c) q)
          (λ j m u v. (u, rw (eq-eqb q q refl, eq-eqb c 1 f) (brings-behind j m.number (keep (lasts after rest) rest) falls (suc l.accepted) n ∙ v))))
          rest))

  -- Disconnect: all that waits at the peer goes; elsewhere the notices come behind.
  moved-disconnect : (q p : ℕ) → MovedIn l (ledger_disconnect counted q) p []
  unfolding ledger_disconnect ledger_counted
  moved-disconnect q p = go (same? q p)
    where
      k : Ledger
      k = ledger_disconnect counted q

      none_left : (e : Item) → LapsedIn l k q e
      none_left (message j m) = rw upd_same refl
      none_left (destroyed j n) = (rw upd_same refl, rw (eq-eqb q q refl) refl)
      none_left (released j n) = inl (rw upd_same refl)

      go : Same q p → MovedIn l k p []
      go (same z) = rw (← z, eq-eqb q q refl) (later-empty none_left (l.queue q))
      go (other z) =
          let ds : List Node = by_own_id counted q (λ n. both (l.lives n) (is_told (l.handle p) (l.queue p) (suc l.accepted) n)) in
          let rs : List Node = by_own_id counted p (fallen (λ n. both (not (eqb (l.maker n) q)) (l.lives n)) l.handle (upd l.handle q (λ n. none))) in
          rw (ne_eqb q p z)
          (later-append (l.queue p) (pick (ltb p peers) (map (destroyed (suc l.accepted)) ds ++ map (released (suc l.accepted)) rs) [])
          (pick_all (All (NextIn l)) (ltb p peers) (map (destroyed (suc l.accepted)) ds ++ map (released (suc l.accepted)) rs) []
          (all_append (NextIn l) (map (destroyed (suc l.accepted)) ds) (map (released (suc l.accepted)) rs)
          (map-new (NextIn l) (destroyed (suc l.accepted)) (λ n. refl) ds) (map-new (NextIn l) (released (suc l.accepted)) (λ n. refl) rs))
          tt))

  on-node : (x : Noted) (f : Node → ℕ → Ledger) (p : ℕ) → MovedIn l counted p [] → ((n : Node) (c : ℕ) → MovedIn l (f n c) p []) → MovedIn l (on_node counted x f) p []
  on-node blank f p h g = h
  on-node (noted n c) f p h g = g n c

  still : (p : ℕ) → MovedIn l counted p []
  unfolding ledger_counted
  still p = later_refl (l.queue p)

  moved-send : (u : ℕ) (ds hs : List Node) (payload : List ℕ) (t : Bool) (q : ℕ) (x : LedgerSeed) (p : ℕ) → MovedIn l (ledger_seed (ledger_send counted u ds hs payload) t q x) p []
  unfolding ledger_queues ledger_counted ledger_seed
  moved-send u ds hs payload t q x p =
      later-append (l.queue p) (letters (suc l.accepted) u payload hs (keep (owned_by p) ds))
      (map-new (NextIn l) (λ n. message (suc l.accepted) (record { user = u; to = n; payload = payload; carried = hs })) (λ n. refl) (keep (owned_by p) ds))

  moved-transfer : (q : ℕ) (n : Node) → q < peers → (p : ℕ) → MovedIn l (ledger_give counted q (suc l.accepted) n) p []
  moved-transfer q n b p =
      unfold ledger_counted in (moved-give l (NextIn l) (ledger_give counted q (suc l.accepted) n) counted q (suc l.accepted) n b (λ t. omega arith) (λ t. omega arith) p)

  -- Every accepted command.
  pub moved_by : (f : List ℕ) (c : Command) → Legal f c → (p : ℕ) → MovedIn l (enter l f c) p (taken_of l p c)
  unfolding enter
  moved_by f (Open q u) h p = still p
  moved_by f (Disconnect q) h p = moved-disconnect q.0 p
  moved_by f (Create q i) h p = unfold ledger_create ledger_counted in (later_refl (l.queue p))
  moved_by f (Destroy q i) h p = on-node (l.book.handle q.0 i.0) (λ n c. ledger_destroy counted n) p (still p) (λ n c. moved-destroy n p)
  moved_by f (Release q i) h p =
      on-node (l.book.handle q.0 i.0) (λ n c. ledger_release counted q.0 i.0 n c) p (still p) (λ n c. moved-release q.0 i.0 n c p)
  moved_by f (Transfer q i t) h p =
      on-node (l.book.handle q.0 i.0) (λ n c. ledger_give counted t.0 (suc l.accepted) n) p (still p) (λ n c. moved-transfer t.0 n (omega (arith, h.1)) p)
  moved_by f (Send q z) h p =
      let hs = nodes_of l.book q.0 (attached f z) in
      moved-send (l.book.user q.0) (nodes_of l.book q.0 (destinations f z)) hs (payload_of f) (eqb z.nd 0) q.0 (kept (payload_of f) hs) p
  moved_by f (Receive q room) h p = moved-receive q.0 (omega (arith, h)) (l.queue q.0) refl p
  moved_by f (Quota q u) h p = later_refl (l.queue p)
  moved_by f (Holders q i) h p = later_refl (l.queue p)
  moved_by f (ShowSeed q room) h p =
      let ns = seed_nodes (l.seed q.0) in
      let n = suc l.accepted in
      unfold ledger_counted in
      (moved-gives l (NextIn l) (ledger_give_all (ledger_counted l) q.0 n ns) (ledger_counted l) q.0 n ns (omega (arith, h)) (λ t. omega arith) (λ t. omega arith) p)
