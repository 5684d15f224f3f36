-- The theorems that go with specs/LedgerDisconnect.antt and stand on others: each goes by the definitions and the theorems there.
-- Assumes nothing.
use Rattle.std.specs.Prelude.{ℕ, ◌<◌, ◌≡◌, Bool, true, not, eqb, ltb}
use Rattle.std.proofs.Math.Path.{refl, ap}
use Rattle.std.proofs.Common.{sym, ◌∙◌}
use mathlib.Core.List.{◌++◌, map, map-append}
use borrow.Author.Tests.{eqb-true, eqb-false}
use Rattle.laws.specs.Tests.{Seen, Seen.is_true, Seen.is_false, look}
use Rattle.laws.specs.Tables.{upd, upd_other, upd-rel}
use Rattle.model.specs.Numbers.{peers}
use Rattle.model.specs.Lists.{both}
use Rattle.model.specs.State.{is_live, Handle, Handle.none, concerned, State, by_owner_id, Seed.unset}
use Rattle.model.specs.Tables.{with_status, with_handles, with_queues, with_charges, with_lives, with_seed}
use Rattle.model.specs.Changes.{push_all, take_out, withdraw, fell, release_notices, notify_all, destroy_notices, destroy_all}
use Rattle.model.specs.Effects.{disconnects}
use Rattle.model.specs.Occurs.{both_true}
use Rattle.model.specs.Sim.{called}
use Rattle.model.specs.IdsLaws.{Holding}
use Rattle.model.specs.Ledger.{Ledger, is_told, fallen, by_own_id, ledger_disconnect, LedgerSeed.unset as unset_seed}
use Rattle.model.specs.LedgerGive.{told_named}
use Rattle.model.specs.ByOwnId.{later-distinct, by-own-id}
use Rattle.model.specs.LedgerSim.{item_of, Handled, Lived, Follows, lives-entered, handled-none, total-named, seed_of}
use Rattle.model.specs.LedgerDisconnect.{lived-disconnect, dated-disconnect, leaving, queue-own, queue-other, none-released, notices-named}

-- The slots of q by ascending owner ID, of a bus x that has q's handles of b, and the ledger's nodes: where the tests are one and pass only what lives.
listed : {name : ℕ → ℕ} (b x : State) (l : Ledger) (q : ℕ) (t u : ℕ → Bool) → Follows name l.book.entered b l → Holding b → x.handle q ≡ b.handle q →
    ((s : ℕ) → u (name s) ≡ t s) → ((n : ℕ) → u n ≡ true → l.lives n ≡ true) → by_own_id l q u ≡ map (called name) (by_owner_id x.handle q t)
listed {name} b x l q t u r v h one live =
    sym
    (by-own-id name x l q t u (λ s. rw h (r.handles.same q s))
    (λ s o e. (r.lives.makers s (entered s e) ∙ o, one s ∙ e, entered s e))
    (λ n m e.
    let y = r.lives.placed n (live n e) in
    let s = y.0 in
    let f : t s ≡ true = sym (one s) ∙ ap u y.1 ∙ e in
    (s, sym (r.lives.makers s (entered s f)) ∙ ap l.maker y.1 ∙ m, f, y.1))
    (later-distinct b x q t v h living))
  where
    living : (s : ℕ) → t s ≡ true → is_live (b.life s) ≡ true
    living s e = sym (r.lives.same s) ∙ live (name s) (one s ∙ e)

    entered : (s : ℕ) → t s ≡ true → name s < l.book.entered
    entered s e = lives-entered r.lives s (living s e)

module _ {name : ℕ → ℕ} (b : State) (l : Ledger) (p : ℕ) (r : Follows name l.book.entered b l) (v : Holding b)
    (apart : (s t : ℕ) → name s ≡ name t → s ≡ t) where
  abbrev after : ℕ → ℕ → Handle
  after = upd l.handle p (λ n. none)

  abbrev living : ℕ → Bool
  living n = both (not (eqb (l.maker n) p)) (l.lives n)

  lived : Lived name l.book.entered living l.maker (leaving b p).life
  unfolding take_out with_status with_handles with_charges with_queues destroy_all push_all with_lives withdraw
  lived = lived-disconnect p b.accepted r.lives

  handled : Handled name l.book.entered after (leaving b p).handle
  unfolding take_out with_status with_handles with_charges with_queues destroy_all push_all with_lives withdraw
  handled = handled-none p r.handles

  -- who is told
  abbrev tells : ℕ → ℕ → Bool
  tells q s = both (is_live (b.life s)) (concerned (b.handle q) (b.queue q) b.accepted s)

  abbrev told : ℕ → ℕ → Bool
  told q n = both (l.lives n) (is_told (l.handle q) (l.queue q) l.accepted n)

  destroyed-listed : (q : ℕ) → by_own_id l p (told q) ≡ map (called name) (by_owner_id b.handle p (tells q))
  destroyed-listed q =
      listed b b l p (tells q) (told q) r v refl
      (λ s. rw (r.lives.same s, r.accepted, r.queues q, told_named name apart (l.handle q) (b.handle q) (r.handles.same q) b.accepted s (b.queue q)) refl)
      (λ n e. (both_true (l.lives n) _ e).0)

  released-listed : (q : ℕ) → (p ≡ q → ⊥) → by_own_id l q (fallen living l.handle after) ≡ map (called name) (by_owner_id (leaving b p).handle q (fell b (leaving b p)))
  released-listed q ne =
      listed b (leaving b p) l q (fell b (leaving b p)) (fallen living l.handle after) r v
      (unfold take_out with_status with_handles with_charges with_queues destroy_all push_all with_lives withdraw in upd_other b.handle p q _ ne)
      (λ s. unfold fell in rw (lived.same s, total-named r.handles s, total-named handled s) refl)
      (λ n e. (both_true (not (eqb (l.maker n) p)) (l.lives n) (both_true (living n) _ e).0).1)

  queue-at : (q : ℕ) → Seen (eqb p q) → (ledger_disconnect l p).queue q ≡ map (item_of name) ((disconnects b p).queue q)
  unfolding with_status with_handles take_out with_charges with_queues destroy_all push_all with_lives withdraw
  queue-at q (is_true e) =
      unfold ledger_disconnect in rw (e, ← eqb-true p q e, queue-own b p, none-released b p) refl
  queue-at q (is_false e) =
      let ne = eqb-false p q e in
      unfold ledger_disconnect destroy_notices release_notices in
      rw (e, destroyed-listed q, released-listed q ne, queue-other b p q ne, map-append, r.queues q, r.accepted)
      (ap (◌++◌ (map (item_of name) (b.queue q)))
      (notices-named name b.accepted (by_owner_id b.handle p (tells q)) (by_owner_id (leaving b p).handle q (fell b (leaving b p))) (ltb q peers)))

  pub follows-disconnect : Follows name l.book.entered (with_seed (disconnects b p) p unset) (ledger_disconnect l p)
  unfolding with_seed
  follows-disconnect =
      record {
        accepted = unfold disconnects notify_all ledger_disconnect take_out with_status with_handles with_charges with_queues destroy_all push_all with_lives withdraw in r.accepted;
        given = unfold disconnects notify_all ledger_disconnect take_out with_status with_handles with_charges with_queues destroy_all push_all with_lives withdraw in r.given;
        seeds =
            unfold disconnects notify_all ledger_disconnect take_out with_status with_handles with_charges with_queues destroy_all push_all with_lives withdraw in
            upd-rel (λ q x y. q < peers → x ≡ seed_of name y) l.seed b.seed p unset_seed unset r.seeds (λ m. refl);
        handles = unfold disconnects notify_all ledger_disconnect push_all with_queues in handled;
        lives = unfold disconnects notify_all ledger_disconnect push_all with_queues in lived;
        dates =
            unfold disconnects notify_all ledger_disconnect take_out with_status with_handles with_charges with_queues destroy_all push_all with_lives withdraw in
            rw r.accepted (dated-disconnect p b.accepted r.lives r.dates);
        queues = λ q. queue-at q (look (eqb p q));
      }
