-- Notices kept by every change of handles, lives and statuses.
-- Assumes nothing.
use Rattle.std.specs.Prelude.{ℕ, suc, ◌<◌, ◌≡◌, refl, true, false, eqb}
use Rattle.std.proofs.Common.{sym, ap, ◌∙◌, arith, eq-eqb}
use Rattle.std.proofs.lemmas.Bool.{eqb-false, not-true}
use Rattle.laws.specs.Tests.{Seen, Seen.is_true, Seen.is_false, look, Same, Same.same, Same.other, same?, clash}
use Rattle.laws.specs.Tables.{upd, upd_other, upd-all}
use Rattle.laws.specs.Weights.{All, all-imp, all_keep, keep}
use Rattle.model.specs.Numbers.{nodes, owner}
use Rattle.model.specs.State.{Status.opened, Life.live, is_live, Handle, Handle.none, handle_of, held, count, Entry, Entry.message, Entry.destroyed, Entry.released, State, total}
use Rattle.model.specs.Tables.{with_given, with_handles, with_handle, with_queues, with_lives}
use Rattle.model.specs.Changes.{withdraw, shown, give, dropped, remains, valid, stays, settle}
use Rattle.model.specs.Notices.{notice_for, Stands, Noted}
use Rattle.model.specs.Occurs.{no, keep-imp, all_both}
use Rattle.model.specs.Counts.{put, put_all, put_other, total-other}
use Rattle.model.specs.NoticesQueues.{noted-withdraw, Without, withdraw-without}

-- No release notice stands for the node s.
abbrev pub Unreleased : ℕ → Entry → Type 0
Unreleased s (message n m) = Unit {0}
Unreleased s (destroyed n t) = Unit {0}
Unreleased s (released n t) = s ≡ t → ⊥

-- A handle whose count is not 0.
pub noted-put : (b : State) (p s i c : ℕ) → Noted b → b.status p ≡ opened → s < nodes → ((q : ℕ) → All (Unreleased s) (b.queue q)) →
    Noted (with_handle b p s (handle_of i (suc c)))
unfolding with_handles
noted-put b p s i c n op ls u =
    record {
      present = n.present;
      absent = n.absent;
      holders = put_all (λ q t y. held y ≡ true → (b.status q ≡ opened) × (t < nodes) × (0 < count y)) b.handle p s x n.holders (λ e. (op, ls, omega arith));
      seeds = n.seeds;
      owned = λ t e. grows (owner t) t (n.owned t e);
      stands = λ q. all-imp (λ e. Stands b.handle b.life q e × Unreleased s e) (Stands (put b.handle p s x) b.life q) (one q) (b.queue q)
          (all_both (Stands b.handle b.life q) (Unreleased s) (b.queue q) (n.stands q) (u q));
      once = n.once;
    }
  where
    x : Handle
    x = handle_of i (suc c)

    grows : (q t : ℕ) → held (b.handle q t) ≡ true → held (put b.handle p s x q t) ≡ true
    grows q t e = put_all (λ q t y. held (b.handle q t) ≡ true → held y ≡ true) b.handle p s x (λ q t e. e) (λ e. refl) q t e

    one : (q : ℕ) (e : Entry) → Stands b.handle b.life q e × Unreleased s e → Stands (put b.handle p s x) b.life q e
    one q (message k m) z = (z.0.0, grows q m.to z.0.1, z.0.2)
    one q (destroyed k t) z = z.0
    one q (released k t) z = (z.0.0, z.0.1, total-other b.handle p s x t z.1 ∙ z.0.2)

-- No release notice for a dead node, or for one whose sum is not 1; none that was withdrawn.
pub unreleased : (b : State) (s : ℕ) → Noted b → (is_live (b.life s) ≡ true → total b.handle s ≡ 1 → ⊥) → (q : ℕ) → All (Unreleased s) (b.queue q)
unreleased b s n d q = all-imp (Stands b.handle b.life q) (Unreleased s) one (b.queue q) (n.stands q)
  where
    one : (e : Entry) → Stands b.handle b.life q e → Unreleased s e
    one (message k m) z = tt
    one (destroyed k t) z = tt
    one (released k t) z = λ y. d (rw y z.0) (rw y z.2)

pub unreleased-withdraw : (b : State) (s : ℕ) → Noted b → (q : ℕ) → All (Unreleased s) ((withdraw b (owner s) (eqb s)).queue q)
unreleased-withdraw b s n q = all-imp (Without (owner s) (eqb s)) (Unreleased s) one ((withdraw b (owner s) (eqb s)).queue q) (withdraw-without b (owner s) (eqb s) n q)
  where
    one : (e : Entry) → Without (owner s) (eqb s) e → Unreleased s e
    one (message k m) z = tt
    one (destroyed k t) z = tt
    one (released k t) z = λ y. z (ap owner (sym y)) (eq-eqb s t y)

-- A handle is given.
pub noted-give : (b : State) (p as_of s : ℕ) → Noted b → b.status p ≡ opened → s < nodes → Noted (give b p as_of s)
unfolding give withdraw with_queues with_handles with_given
noted-give b p as_of s n op ls = go (look (valid b p as_of s))
  where
    go : Seen (valid b p as_of s) → Noted (give b p as_of s)
    go (is_false e) = rw e n
    go (is_true e) =
        rw e (noted-put (withdraw b (owner s) (eqb s)) p s (shown b p as_of s) (count (b.handle p s)) (noted-withdraw b (owner s) (eqb s) n) op ls (unreleased-withdraw b s n))

-- No entry at the peer needs its handle to s.
abbrev pub Needless : ℕ → Entry → Type 0
Needless s (message n m) = s ≡ m.to → ⊥
Needless s (destroyed n t) = Unit {0}
Needless s (released n t) = Unit {0}

pub forget-needless : (b : State) (p s : ℕ) (h : ℕ → Handle) → Noted b → All (Needless s) (settle h (keep (remains p s) (b.queue p)))
unfolding settle
forget-needless b p s h n =
    let q = keep (remains p s) (b.queue p) in
    all_keep (Needless s) (stays h q) q (keep-imp (Stands b.handle b.life p) (Needless s) (remains p s) one (b.queue p) (n.stands p))
  where
    one : (e : Entry) → remains p s e ≡ true → Stands b.handle b.life p e → Needless s e
    one (message k m) z a = λ y. no (not-true (dropped p s m) z) (rw (eq-eqb (owner s) p (ap owner y ∙ a.0), eq-eqb m.to s (sym y)))
    one (destroyed k t) z a = tt
    one (released k t) z a = tt

-- A handle goes.
pub noted-drop : (b : State) (p s : ℕ) → Noted b → (is_live (b.life s) ≡ true → owner s ≡ p → ⊥) → All (Needless s) (b.queue p) → ((q : ℕ) → All (Unreleased s) (b.queue q)) →
    Noted (with_handle b p s none)
unfolding with_handles
noted-drop b p s n d a u =
    record {
      present = n.present;
      absent = n.absent;
      holders = put_all (λ q t y. held y ≡ true → (b.status q ≡ opened) × (t < nodes) × (0 < count y)) b.handle p s none n.holders (λ e. clash (sym e));
      seeds = n.seeds;
      owned = λ t e. own t e (same? s t);
      stands = λ q. st q (same? p q);
      once = n.once;
    }
  where
    own : (t : ℕ) → is_live (b.life t) ≡ true → Same s t → held (put b.handle p s none (owner t) t) ≡ true
    own t e (other z) = rw (put_other b.handle p s none (owner t) t z) (n.owned t e)
    own t e (same z) = rw (upd_other b.handle p (owner t) (upd (b.handle p) s none) (λ y. d (rw z e) (rw z (sym y)))) (n.owned t e)

    lone : (q : ℕ) (t : ℕ) → (is_live (b.life t) ≡ true) × (owner t ≡ q) × (total b.handle t ≡ 1) → (s ≡ t → ⊥) →
        (is_live (b.life t) ≡ true) × (owner t ≡ q) × (total (put b.handle p s none) t ≡ 1)
    lone q t z y = (z.0, z.1, total-other b.handle p s none t y ∙ z.2)

    here : (e : Entry) → Stands b.handle b.life p e × (Needless s e × Unreleased s e) → Stands (put b.handle p s none) b.life p e
    here (message k m) z = (z.0.0, rw (put_other b.handle p s none p m.to z.1.0) z.0.1, z.0.2)
    here (destroyed k t) z = z.0
    here (released k t) z = lone p t z.0 z.1.1

    there : (q : ℕ) → (p ≡ q → ⊥) → (e : Entry) → Stands b.handle b.life q e × Unreleased s e → Stands (put b.handle p s none) b.life q e
    there q y (message k m) z = (z.0.0, rw (upd_other b.handle p q (upd (b.handle p) s none) y) z.0.1, z.0.2)
    there q y (destroyed k t) z = z.0
    there q y (released k t) z = lone q t z.0 z.1

    st : (q : ℕ) → Same p q → All (Stands (put b.handle p s none) b.life q) (b.queue q)
    st q (same y) =
        rw (← y) (all-imp (λ e. Stands b.handle b.life p e × (Needless s e × Unreleased s e)) (Stands (put b.handle p s none) b.life p) here (b.queue p)
        (all_both (Stands b.handle b.life p) (λ e. Needless s e × Unreleased s e) (b.queue p) (n.stands p) (all_both (Needless s) (Unreleased s) (b.queue p) a (u p))))
    st q (other y) =
        all-imp (λ e. Stands b.handle b.life q e × Unreleased s e) (Stands (put b.handle p s none) b.life q) (there q y) (b.queue q)
        (all_both (Stands b.handle b.life q) (Unreleased s) (b.queue q) (n.stands q) (u q))

-- A node is made.
pub noted-born : (b : State) (s : ℕ) → Noted b → held (b.handle (owner s) s) ≡ true → ((q : ℕ) → All (λ e. notice_for s e ≡ false) (b.queue q)) →
    Noted (with_lives b (upd b.life s live))
unfolding with_lives
noted-born b s n h a =
    record {
      present = n.present;
      absent = n.absent;
      holders = n.holders;
      seeds = n.seeds;
      owned = upd-all (λ t x. is_live x ≡ true → held (b.handle (owner t) t) ≡ true) b.life s live n.owned (λ e. h);
      stands = λ q. all-imp (λ e. Stands b.handle b.life q e × (notice_for s e ≡ false)) (Stands b.handle (upd b.life s live) q) (one q) (b.queue q)
          (all_both (Stands b.handle b.life q) (λ e. notice_for s e ≡ false) (b.queue q) (n.stands q) (a q));
      once = n.once;
    }
  where
    one : (q : ℕ) (e : Entry) → Stands b.handle b.life q e × (notice_for s e ≡ false) → Stands b.handle (upd b.life s live) q e
    one q (message k m) z = z.0
    one q (destroyed k t) z = (rw (upd_other b.life s t live (λ y. eqb-false t s z.1 (sym y))) z.0.0, z.0.1)
    one q (released k t) z = (rw (upd_other b.life s t live (λ y. eqb-false t s z.1 (sym y))) z.0.0, z.0.1, z.0.2)
