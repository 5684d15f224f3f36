-- Notices kept where nodes are destroyed and where a peer opens or leaves.
-- Assumes nothing.
use Rattle.std.specs.Prelude.{ℕ, ◌<◌, ◌≡◌, Bool, true, false, [], eqb}
use Rattle.std.proofs.Math.Path.{refl}
use Rattle.std.proofs.Common.{sym, ◌∙◌, arith, eqb-true, eq-eqb}
use Rattle.laws.specs.Tests.{pick, Seen, Seen.is_true, Seen.is_false, look, Same, Same.same, Same.other, same?, clash}
use Rattle.laws.specs.Tables.{upd, upd_same, upd_other, upd-all, upd-rel}
use Rattle.laws.specs.Weights.{All, all-imp}
use Rattle.quota.specs.Charges.{users}
use Rattle.model.specs.Numbers.{peers, nodes, owner}
use Rattle.model.specs.Lists.{both}
use Rattle.model.specs.State.{Status, Status.unopened, Status.opened, Status.disconnected, Life, Life.dead, is_live, Handle, Handle.none, held, count, Entry, Entry.message, Entry.destroyed, Entry.released, State, no_user, total}
use Rattle.model.specs.Tables.{with_status, with_user, with_handles, with_lives}
use Rattle.model.specs.Notices.{notice_for, notices_for, Stands, Noted}
use Rattle.model.specs.Occurs.{no, both_true, all_both, load-none}
use Rattle.model.specs.NoticesQueues.{Without}
use Rattle.model.specs.Counts.{total_ext, total-two}

pub unopened-opened : {A : Type 0} → ◌≡◌ {A = Status} unopened opened → A
unopened-opened e = let z : ◌≡◌ {A = ℕ} 0 1 = cc in absurd (omega arith)

unopened-disconnected : {A : Type 0} → ◌≡◌ {A = Status} disconnected unopened → A
unopened-disconnected e = let z : ◌≡◌ {A = ℕ} 0 1 = cc in absurd (omega arith)

-- Nodes of the owner p die whose release notices were withdrawn.
module _ (b : State) (p : ℕ) (t : ℕ → Bool) (k : ℕ) where
  -- the lives afterwards
  abbrev pub lives : ℕ → Life
  lives s = pick (both (eqb (owner s) p) (t s)) (dead k) (b.life s)

  pub lives-live : (s : ℕ) → is_live (lives s) ≡ true → is_live (b.life s) ≡ true
  lives-live s e = go (look (both (eqb (owner s) p) (t s)))
    where
      go : Seen (both (eqb (owner s) p) (t s)) → is_live (b.life s) ≡ true
      go (is_true z) = clash (sym (rw z at e))
      go (is_false z) = rw z at e

  pub lives-dead : (s : ℕ) → owner s ≡ p → t s ≡ true → is_live (lives s) ≡ false
  lives-dead s o e = rw (eq-eqb (owner s) p o, e)

  lives-stays : (s : ℕ) → is_live (b.life s) ≡ false → is_live (lives s) ≡ false
  lives-stays s e = go (look (is_live (lives s)))
    where
      go : Seen (is_live (lives s)) → is_live (lives s) ≡ false
      go (is_true z) = no e (lives-live s z)
      go (is_false z) = z

  lives-kept : (s : ℕ) → (owner s ≡ p → t s ≡ true → ⊥) → lives s ≡ b.life s
  lives-kept s d = go (look (both (eqb (owner s) p) (t s)))
    where
      go : Seen (both (eqb (owner s) p) (t s)) → lives s ≡ b.life s
      go (is_true z) = let x = both_true (eqb (owner s) p) (t s) z in absurd (d (eqb-true (owner s) p x.0) x.1)
      go (is_false z) = rw z

  pub noted-lives : Noted b → ((s : ℕ) → owner s ≡ p → t s ≡ true → is_live (b.life s) ≡ true) → ((q : ℕ) → All (Without p t) (b.queue q)) → Noted (with_lives b lives)
  unfolding with_lives
  noted-lives n alive a =
      record {
        present = n.present;
        absent = n.absent;
        holders = n.holders;
        seeds = n.seeds;
        owned = λ s e. n.owned s (lives-live s e);
        stands = λ q. all-imp (λ e. Stands b.handle b.life q e × Without p t e) (Stands b.handle lives q) (one q) (b.queue q)
            (all_both (Stands b.handle b.life q) (Without p t) (b.queue q) (n.stands q) (a q));
        once = n.once;
      }
    where
      one : (q : ℕ) (e : Entry) → Stands b.handle b.life q e × Without p t e → Stands b.handle lives q e
      one q (message j m) z = z.0
      one q (destroyed j s) z = (lives-kept s (λ o e. no (rw z.0.0) (alive s o e)) ∙ z.0.0, z.0.1)
      one q (released j s) z = (rw (lives-kept s z.1) z.0.0, z.0.1, z.0.2)

-- No notice stands for a live node whose release notice was withdrawn.
pub none-stands : (b : State) (p : ℕ) (t : ℕ → Bool) (q s : ℕ) → Noted b → All (Without p t) (b.queue q) → is_live (b.life s) ≡ true → owner s ≡ p →
    t s ≡ true → notices_for s (b.queue q) ≡ 0
none-stands b p t q s n a l o e =
    load-none (notice_for s) (λ x. 1) (b.queue q)
    (all-imp (λ x. Stands b.handle b.life q x × Without p t x) (λ x. notice_for s x ≡ false) (λ x z. one x z (look (notice_for s x))) (b.queue q)
    (all_both (Stands b.handle b.life q) (Without p t) (b.queue q) (n.stands q) a))
  where
    one : (x : Entry) → Stands b.handle b.life q x × Without p t x → Seen (notice_for s x) → notice_for s x ≡ false
    one x z (is_false y) = y
    one (message j m) z (is_true y) = clash (sym y)
    one (destroyed j u) z (is_true y) = no (rw (← eqb-true u s y) (rw z.0.0)) l
    one (released j u) z (is_true y) = let v : u ≡ s = eqb-true u s y in absurd (z.1 (rw v o) (rw v e))

-- A peer with an empty queue and no live node of its own leaves.
pub noted-leave : (b : State) (p : ℕ) → Noted b → b.status p ≡ opened → b.queue p ≡ [] → ((s : ℕ) → is_live (b.life s) ≡ true → owner s ≡ p → ⊥) →
    Noted (with_status (with_handles b p (λ s. none)) p disconnected)
unfolding with_status with_handles
noted-leave b p n op empty d =
    record {
      present = upd-all (λ q x. (x ≡ unopened → ⊥) → (q < peers) × (b.user q < users)) b.status p disconnected n.present
          (λ e. n.present p (λ z. unopened-opened (sym z ∙ op)));
      absent = upd-all (λ q x. x ≡ unopened → b.user q ≡ no_user) b.status p disconnected n.absent (λ e. unopened-disconnected e);
      holders = upd-rel (λ q x g. (s : ℕ) → held (g s) ≡ true → (x ≡ opened) × (s < nodes) × (0 < count (g s))) b.status b.handle p disconnected (λ s. none) n.holders
          (λ s e. clash (sym e));
      seeds = n.seeds;
      owned = λ s e. rw (upd_other b.handle p (owner s) (λ s. none) (λ z. d s e (sym z))) (n.owned s e);
      stands = λ q. st q (same? p q);
      once = n.once;
    }
  where
    g : ℕ → ℕ → Handle
    g = upd b.handle p (λ s. none)

    same_total : (q s : ℕ) → (p ≡ q → ⊥) → is_live (b.life s) ≡ true → owner s ≡ q → total b.handle s ≡ 1 → total g s ≡ total b.handle s
    same_total q s z l o e = total_ext g b.handle s (λ r. same_count r (same? p r))
      where
        hold : held (b.handle q s) ≡ true
        hold = rw o at (n.owned s l)

        zero-count : count (b.handle p s) ≡ 0
        zero-count =
            let x = n.holders q s hold in
            let y = n.present q (λ u. unopened-opened (sym u ∙ x.0)) in
            let w = n.present p (λ u. unopened-opened (sym u ∙ op)) in
            omega (arith, total-two b.handle s p q w.0 y.0 z, x.2)

        same_count : (r : ℕ) → Same p r → count (g r s) ≡ count (b.handle r s)
        same_count r (same y) = rw (← y, upd_same) (sym zero-count)
        same_count r (other y) = rw (upd_other b.handle p r (λ s. none) y)

    one : (q : ℕ) → (p ≡ q → ⊥) → (e : Entry) → Stands b.handle b.life q e → Stands g b.life q e
    one q z (message k m) a = (a.0, rw (upd_other b.handle p q (λ s. none) z) a.1, a.2)
    one q z (destroyed k s) a = a
    one q z (released k s) a = (a.0, a.1, same_total q s z a.0 a.1 a.2 ∙ a.2)

    st : (q : ℕ) → Same p q → All (Stands g b.life q) (b.queue q)
    st q (same z) = rw (← z, empty) tt
    st q (other z) = all-imp (Stands b.handle b.life q) (Stands g b.life q) (one q z) (b.queue q) (n.stands q)

-- A peer opens.
pub noted-open : (b : State) (p u : ℕ) → Noted b → p < peers → u < users → Noted (with_user (with_status b p opened) p u)
unfolding with_user with_status
noted-open b p u n l m =
    record {
      present = upd-rel (λ q x v. (x ≡ unopened → ⊥) → (q < peers) × (v < users)) b.status b.user p opened u n.present (λ e. (l, m));
      absent = upd-rel (λ q x v. x ≡ unopened → v ≡ no_user) b.status b.user p opened u n.absent (λ e. unopened-opened (sym e));
      holders = upd-all (λ q x. (s : ℕ) → held (b.handle q s) ≡ true → (x ≡ opened) × (s < nodes) × (0 < count (b.handle q s))) b.status p opened n.holders
          (λ s e. (refl, (n.holders p s e).1, (n.holders p s e).2));
      seeds = n.seeds;
      owned = n.owned;
      stands = n.stands;
      once = n.once;
    }
