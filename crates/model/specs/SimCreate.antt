-- Create, alike on the bus and in the book: a slot that nothing names gets the book's next number for its name.
-- Assumes nothing.
use Prim.Native.Nat.{ℕ, suc, ◌+◌, ◌*◌, ◌≤◌, ◌<◌}
use Rattle.std.specs.Prelude.{◌≡◌, refl, true, false, List, [], ◌∷◌, eqb}
use Rattle.std.proofs.Common.{sym, ◌∙◌, arith}
use borrow.Author.Tests.{eqb-true, eqb-false}
use Rattle.laws.specs.Tests.{Seen, Seen.is_true, Seen.is_false, look, Same, Same.same, Same.other, same?, clash, pick-else}
use Rattle.laws.specs.Tables.{upd, upd_same, upd_other, upd-rel}
use Rattle.laws.specs.Weights.{All, all-imp, map-all}
use Rattle.laws.specs.Search.{first-before}
use Rattle.model.specs.Numbers.{slots, nodes, owner, peers}
use Rattle.model.specs.Lists.{any}
use Rattle.model.specs.State.{Handle, Handle.none, Handle.some, handle_of, held, has_id, Message, Entry, Entry.message, Entry.destroyed, Entry.released, messages_in, State, slot_of, slot, names, free_place, seed_carries, seeded}
use Rattle.model.specs.Tables.{with_handles, with_lives}
use Rattle.model.specs.Effects.{creates}
use Rattle.model.specs.Book.{Noted, noted_of, Book, note_create}
use Rattle.model.specs.Notices.{mentions, Unnamed}
use Rattle.model.specs.Occurs.{any_below_lem}
use Rattle.model.specs.Sim.{called, told, Handles, Sim}
use Rattle.model.specs.SimHandles.{some-none, handles-set}

-- What a message does not name.
abbrev Absent : ℕ → Message → Type 0
Absent s m = (s ≡ m.to → ⊥) × All (λ t. s ≡ t → ⊥) m.carried

pub absent-list : (s : ℕ) (ts : List ℕ) → any (eqb s) ts ≡ false → All (λ t. s ≡ t → ⊥) ts
absent-list s [] e = tt
absent-list s (t ∷ ts) e =
    let r = pick-else (eqb s t) true false (λ z. clash z) e in
    (eqb-false s t r.0, absent-list s ts r.1)

pub absent-message : (s : ℕ) (m : Message) → names s m ≡ false → Absent s m
absent-message s m e =
    let r = pick-else (eqb s m.to) true false (λ z. clash z) e in
    (eqb-false s m.to r.0, absent-list s m.carried r.1)

absent-messages : (s : ℕ) (q : List Entry) → All (λ e. mentions s e ≡ false) q → All (Absent s) (messages_in q)
absent-messages s [] a = tt
absent-messages s (message n m ∷ q) a = (absent-message s m a.0, absent-messages s q a.1)
absent-messages s (destroyed n t ∷ q) a = absent-messages s q a.1
absent-messages s (released n t ∷ q) a = absent-messages s q a.1

pub unheld-none : (x : Handle) → held x ≡ false → x ≡ none
unheld-none none e = refl
unheld-none (some i c) e = clash e

-- A new name for a slot that nothing names.
module _ (name : ℕ → ℕ) (s x : ℕ) where
  pub called-other : (t : ℕ) → (s ≡ t → ⊥) → called name t ≡ called (upd name s x) t
  called-other t e = rw (upd_other name s t x e)

  pub told-other : (m : Message) → Absent s m → told name m ≡ told (upd name s x) m
  told-other m a =
      rw (called-other m.to a.0, map-all (called name) (called (upd name s x)) m.carried (all-imp _ _ (λ t e. called-other t e) m.carried a.1))

  handles-other : (h : ℕ → Handle) (g : ℕ → Noted) → h s ≡ none → Handles name h g → Handles (upd name s x) h g
  handles-other h g e r =
      record {
        noted-at = λ t i c f. r.noted-at t i c f ∙ rw (called-other t (λ z. some-none (sym f ∙ rw (← z) e)));
        held_at = λ i n c f.
            let y = r.held_at i n c f in
            (y.0, y.1, y.2, y.3 ∙ called-other y.0 (λ z. some-none (sym y.2 ∙ rw (← z) e)));
      }

pub upd-apart : (f : ℕ → ℕ) (t x : ℕ) → ((n m : ℕ) → f n ≡ f m → n ≡ m) → ((n : ℕ) → f n ≡ x → ⊥) → (n m : ℕ) → upd f t x n ≡ upd f t x m → n ≡ m
unfolding upd
upd-apart f t x apart new n m = go (look (eqb t n)) (look (eqb t m))
  where
    go : Seen (eqb t n) → Seen (eqb t m) → upd f t x n ≡ upd f t x m → n ≡ m
    go (is_true e) (is_true g) h = sym (eqb-true t n e) ∙ eqb-true t m g
    go (is_true e) (is_false g) h = absurd (new m (sym (rw (e, g) at h)))
    go (is_false e) (is_true g) h = absurd (new n (rw (e, g) at h))
    go (is_false e) (is_false g) h = apart n m (rw (e, g) at h)

-- An ID that the search does not find is at no slot.
has-id : (x : Handle) (i d : ℕ) → x ≡ some i d → has_id i x ≡ true
has-id x i d e = rw e (borrow.Author.Tests.eq-eqb i i refl)

pub not-held : {N : ℕ} (name : ℕ → ℕ) (b : State) (k : Book) (p i : ℕ) → Sim N name b k → nodes ≤ slot b p i → (t d : ℕ) → b.handle p t ≡ some i d → ⊥
unfolding slot_of
not-held name b k p i r l t d e =
    let y = (r.handles p).held_at i (called name t) d ((r.handles p).noted-at t i d e) in
    clash (sym (has-id (b.handle p y.0) i d y.2) ∙ first-before (λ s. has_id i (b.handle p s)) nodes y.0 (omega (arith, y.1)))

module _ {N : ℕ} (name : ℕ → ℕ) (b : State) (k : Book) (p i : ℕ) (r : Sim N name b k) (l : p * slots + free_place b p < nodes) (o : free_place b p < slots)
    (free : Unnamed b (p * slots + free_place b p)) (unheld : nodes ≤ slot b p i) (more : k.entered < N) where
  s : ℕ
  s = p * slots + free_place b p

  pub sim-create : Sim N (upd name (p * slots + free_place b p) k.entered) (creates b p i) (note_create k p i)
  unfolding creates note_create with_handles with_lives s
  sim-create =
      record {
        apart = upd-apart name s k.entered r.apart (λ n e. absurd (omega (arith, e, r.known n (rw e more))));
        known = λ n. known n (same? s n);
        users = r.users;
        sums = r.sums;
        seeds = λ q m. r.seeds q m ∙ map-all _ _ (seed_carries (b.seed q)) (all-imp _ _ (λ t e. called-other name s k.entered t e) (seed_carries (b.seed q)) (absent-list s (seed_carries (b.seed q)) (any_below_lem (λ q. any (eqb s) (seed_carries (b.seed q))) peers q m (unfold seeded in free.unseeded))));
        queues = λ q.
            r.queues q
            ∙ map-all _ _ (messages_in (b.queue q))
            (all-imp _ _ (λ m a. told-other name s k.entered m a) (messages_in (b.queue q)) (absent-messages s (b.queue q) (free.unqueued q)));
        handles = upd-rel (λ _ h g. Handles (upd name s k.entered) h g) b.handle k.handle p _ _ old new;
      }
    where
      known : (n : ℕ) → Same s n → upd name s k.entered n < N → upd name s k.entered n < suc k.entered
      known n (same e) h = rw (← e, upd_same) (omega arith)
      known n (other e) h =
          rw (upd_other name s n k.entered e) (omega (arith, r.known n (rw (upd_other name s n k.entered e) at h)))

      none-at : (q : ℕ) → b.handle q s ≡ none
      none-at q = unheld-none (b.handle q s) (free.unheld q)

      old : (q : ℕ) → Handles (upd name s k.entered) (b.handle q) (k.handle q)
      old q = handles-other name s k.entered (b.handle q) (k.handle q) (none-at q) (r.handles q)

      called-new : called (upd name s k.entered) s ≡ record { owner = p; number = k.entered }
      called-new = let e : owner s ≡ p = omega arith in rw (upd_same, e)

      new : Handles (upd name s k.entered) (upd (b.handle p) s (handle_of i 1)) (upd (k.handle p) i (noted_of (record { owner = p; number = k.entered }) 1))
      new =
          rw (← called-new)
          (handles-set (upd name s k.entered) (b.handle p) (k.handle p) s i 1 (old p) l (λ j d f. some-none (sym f ∙ none-at p))
          (λ t d f. absurd (not-held name b k p i r unheld t d f)))
