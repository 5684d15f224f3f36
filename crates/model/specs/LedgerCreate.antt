-- Create, alike on the bus and in the ledger: a slot that nothing names gets the book's next number for its name.
-- Assumes nothing.
use Rattle.std.specs.Prelude.{ℕ, suc, ◌+◌, ◌*◌, ◌<◌, ◌≡◌, refl, Bool, true, false, eqb}
use Rattle.std.proofs.Common.{sym, ap, ◌∙◌, arith}
use Rattle.std.proofs.lemmas.Bool.{eqb-false}
use Rattle.laws.specs.Tests.{clash, Same, Same.same, Same.other, same?}
use Rattle.laws.specs.Tables.{upd, upd_same, upd_other, upd-all}
use Rattle.laws.specs.Weights.{all-imp, map-all}
use Rattle.model.specs.Numbers.{slots, owner, peers}
use Rattle.model.specs.State.{Life, Life.live, Life.dead, is_live, Handle, Handle.none, Handle.some, held, Entry, Entry.message, Entry.destroyed, Entry.released, State, free_place, Seed, Seed.unset, Seed.kept, seed_carries, seeded}
use Rattle.model.specs.Tables.{with_handles, with_lives}
use Rattle.model.specs.Lists.{any}
use Rattle.model.specs.Occurs.{any_below_lem}
use Rattle.model.specs.Effects.{creates}
use Rattle.model.specs.Notices.{mentions, Unnamed}
use Rattle.model.specs.Sim.{called}
use Rattle.model.specs.SimCreate.{absent-message, called-other, unheld-none, upd-apart, absent-list}
use Rattle.model.specs.Ledger.{Ledger, Item.destroyed as destroyed_item, Item.released as released_item, ledger_create, LedgerSeed.kept as kept_seed}
use Rattle.model.specs.LedgerSim.{item_of, Handled, Lived, Dated, Follows, handled-put, seed_of}

-- An entry that does not name the slot.
item-other : (name : ℕ → ℕ) (s x : ℕ) (e : Entry) → mentions s e ≡ false → item_of name e ≡ item_of (upd name s x) e
item-other name s x (message k m) e =
    let a = absent-message s m e in
    rw (called-other name s x m.to a.0, map-all (called name) (called (upd name s x)) m.carried (all-imp _ _ (λ t z. called-other name s x t z) m.carried a.1))
item-other name s x (destroyed k t) e = ap (destroyed_item k) (called-other name s x t (eqb-false s t e))
item-other name s x (released k t) e = ap (released_item k) (called-other name s x t (eqb-false s t e))

-- A seed that does not name it.
seed-other : (name : ℕ → ℕ) (s x : ℕ) (y : Seed) → any (eqb s) (seed_carries y) ≡ false → seed_of name y ≡ seed_of (upd name s x) y
seed-other name s x unset e = refl
seed-other name s x (kept payload carried) e =
    ap (kept_seed payload) (map-all (called name) (called (upd name s x)) carried (all-imp _ _ (λ t z. called-other name s x t z) carried (absent-list s carried e)))

module _ (name : ℕ → ℕ) (E s : ℕ) (apart : (s t : ℕ) → name s ≡ name t → s ≡ t) (new : (t : ℕ) → name t ≡ E → ⊥) where
  -- The handles: the slot, which nobody held, has the new name; then its owner's handle.
  handled-renamed : {h g : ℕ → ℕ → Handle} → Handled name E h g → ((q : ℕ) → g q s ≡ none) → Handled (upd name s E) (suc E) h g
  handled-renamed {h} {g} r free =
      record {
        same = λ q t. at q t (same? s t);
        fresh = λ q n l. r.fresh q n (omega arith);
        placed = λ q n e. let x = r.placed q n e in (x.0, upd_other name s x.0 E (λ z. clash (sym e ∙ ap held (ap (h q) (sym x.1) ∙ r.same q x.0 ∙ ap (g q) (sym z) ∙ free q))) ∙ x.1);
      }
    where
      at : (q t : ℕ) → Same s t → h q (upd name s E t) ≡ g q t
      at q t (same z) = rw (← z, upd_same, r.fresh q E (omega arith), free q)
      at q t (other z) = rw (upd_other name s t E z) (r.same q t)

  handled-create : {h g : ℕ → ℕ → Handle} (p : ℕ) (x : Handle) → Handled name E h g → ((q : ℕ) → g q s ≡ none) →
      Handled (upd name s E) (suc E) (upd h p (upd (h p) E x)) (upd g p (upd (g p) s x))
  handled-create {h} {g} p x r free =
      let named : upd name s E s ≡ E = upd_same name s E in
      rw named at (handled-put p s x (handled-renamed r free) (upd-apart name s E apart new) (rw named (omega arith)))

  -- The lives.
  lived-create : {lives : ℕ → Bool} {maker : ℕ → ℕ} {life : ℕ → Life} (p : ℕ) → Lived name E lives maker life → is_live (life s) ≡ false → owner s ≡ p →
      Lived (upd name s E) (suc E) (upd lives E true) (upd maker E p) (upd life s live)
  lived-create {lives} {maker} {life} p r free o =
      record {
        same = λ t. at t (same? s t);
        fresh = λ n l. rw (upd_other lives E n true (λ z. absurd (omega arith))) (r.fresh n (omega arith));
        placed = upd-all (λ n x. x ≡ true → (t : ℕ) × (upd name s E t ≡ n)) lives E true old (λ e. (s, upd_same name s E));
        makers = λ t l. made t (same? s t) l;
      }
    where
      at : (t : ℕ) → Same s t → upd lives E true (upd name s E t) ≡ is_live (upd life s live t)
      at t (same z) = rw (← z, upd_same, upd_same, upd_same)
      at t (other z) = rw (upd_other name s t E z, upd_other lives E (name t) true (λ y. new t (sym y)), upd_other life s t live z) (r.same t)

      old : (n : ℕ) → lives n ≡ true → (t : ℕ) × (upd name s E t ≡ n)
      old n e = let x = r.placed n e in (x.0, upd_other name s x.0 E (λ z. clash (sym e ∙ ap lives (sym x.1) ∙ r.same x.0 ∙ ap (λ (t : ℕ). is_live (life t)) (sym z) ∙ free)) ∙ x.1)

      made : (t : ℕ) → Same s t → upd name s E t < suc E → upd maker E p (upd name s E t) ≡ owner t
      made t (same z) l = rw (← z, upd_same, upd_same) (sym o)
      made t (other z) l =
          let m : name t < suc E = rw (upd_other name s t E z) at l in
          rw (upd_other name s t E z, upd_other maker E (name t) p (λ y. new t (sym y))) (r.makers t (below (same? (name t) E) m))
        where
          below : Same (name t) E → name t < suc E → name t < E
          below (same y) m = absurd (new t y)
          below (other y) m = omega (arith, y)

  dated-create : {died : ℕ → ℕ} {life : ℕ → Life} → Dated name E died life → Dated (upd name s E) (suc E) died (upd life s live)
  dated-create {died} {life} r = record { same = λ t k e. at t (same? s t) k e; entered = λ t k e. here t (same? s t) k e }
    where
      lives-now : (t k : ℕ) → s ≡ t → upd life s live t ≡ dead k → ⊥
      lives-now t k z e =
          let d : live ≡ dead k = rw (← z, upd_same) at e in
          clash (ap is_live d)

      at : (t : ℕ) → Same s t → (k : ℕ) → upd life s live t ≡ dead k → died (upd name s E t) ≡ k
      at t (same z) k e = absurd (lives-now t k z e)
      at t (other z) k e = rw (upd_other name s t E z) (r.same t k (rw (upd_other life s t live z) at e))

      here : (t : ℕ) → Same s t → (k : ℕ) → upd life s live t ≡ dead (suc k) → upd name s E t < suc E
      here t (same z) k e = absurd (lives-now t (suc k) z e)
      here t (other z) k e = rw (upd_other name s t E z) (omega (arith, r.entered t k (rw (upd_other life s t live z) at e)))

  pub follows-create : (b : State) (l : Ledger) (p i : ℕ) → s ≡ p * slots + free_place b p → owner s ≡ p → l.book.entered ≡ E → Follows name E b l → Unnamed b s →
      Follows (upd name s E) (suc E) (creates b p i) (ledger_create l p i)
  unfolding creates ledger_create with_handles with_lives
  follows-create b l p i e o f r free =
      rw (← e, f)
      (record {
        accepted = r.accepted;
        given = r.given;
        handles = handled-create p (some i 1) r.handles (λ q. unheld-none (b.handle q s) (free.unheld q));
        lives = lived-create p r.lives free.dead o;
        dates = dated-create r.dates;
        seeds = λ q m. r.seeds q m ∙ seed-other name s E (b.seed q) (any_below_lem (λ q. any (eqb s) (seed_carries (b.seed q))) peers q m (unfold seeded in free.unseeded));
        queues = λ q. r.queues q ∙ map-all (item_of name) (item_of (upd name s E)) (b.queue q) (all-imp _ _ (λ x z. item-other name s E x z) (b.queue q) (free.unqueued q));
      })
