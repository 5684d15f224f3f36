-- Of a message that is taken out, which destroy notices it alone had kept: those of the receiver's own nodes for which the invalid ID is shown. Every other node that it carries and that an
-- earlier message may install is held afterwards.
-- Assumes nothing.
use Rattle.std.specs.Prelude.{ℕ, suc, ◌<◌, ◌≡◌, refl, Bool, true, false, not, List, [], ◌∷◌, length, get_or, eqb, ltb}
use Rattle.std.proofs.Common.{sym, ap, ◌∙◌, arith, eqb-true, ne_eqb, lt-ltb, ltb-true}
use Rattle.laws.specs.Tests.{pick_all, Seen, Seen.is_true, Seen.is_false, look, Same, Same.same, Same.other, same?, clash}
use Rattle.laws.specs.Tables.{upd, upd_same, upd_other}
use Rattle.laws.specs.Weights.{All, keep, all_keep}
use Rattle.model.specs.Numbers.{owner, invalid}
use Rattle.model.specs.Lists.{both, either, any}
use Rattle.model.specs.Occurs.{no, both_true, either-false}
use Rattle.model.specs.State.{Life, Life.dead, Handle, handle_of, held, count, Message, Entry, Entry.message, earlier, concerned, State}
use Rattle.model.specs.Tables.{with_given, with_handles, with_queues}
use Rattle.model.specs.Changes.{not_released, withdraw, valid, shown, give, give_all, shown_all}
use Rattle.model.specs.Founded.{carries-keep}

-- What is given to p leaves the lives, the handles that p has, and the earlier messages.
record Grows (p : ℕ) (b x : State) : Type 0 where
  life : x.life ≡ b.life
  holds : (t : ℕ) → held (b.handle p t) ≡ true → held (x.handle p t) ≡ true
  carriers : (q n t : ℕ) → any (earlier n t) (x.queue q) ≡ any (earlier n t) (b.queue q)

grows-give : (b : State) (p n s : ℕ) → Grows p b (give b p n s)
unfolding give withdraw with_queues with_handles with_given
grows-give b p n s =
    pick_all (Grows p b) (valid b p n s) _ b (record { life = refl; holds = more; carriers = λ q k t. same-carriers q k t (same? (owner s) q) })
    (record { life = refl; holds = λ t e. e; carriers = λ q k t. refl })
  where
    h : Handle
    h = handle_of (shown b p n s) (suc (count (b.handle p s)))

    more : (t : ℕ) → held (b.handle p t) ≡ true → held (upd b.handle p (upd (b.handle p) s h) p t) ≡ true
    more t e = rw (upd_same b.handle p (upd (b.handle p) s h)) (go (same? s t))
      where
        go : Same s t → held (upd (b.handle p) s h t) ≡ true
        go (same d) = rw (← d, upd_same (b.handle p) s h)
        go (other d) = rw (upd_other (b.handle p) s t h d) e

    left : List Entry
    left = keep (not_released (eqb s)) (b.queue (owner s))

    same-carriers : (q k t : ℕ) → Same (owner s) q → any (earlier k t) (upd b.queue (owner s) left q) ≡ any (earlier k t) (b.queue q)
    same-carriers q k t (same d) = rw (← d, upd_same b.queue (owner s) left) (carries-keep (not_released (eqb s)) (λ j m. refl) (b.queue (owner s)) k t)
    same-carriers q k t (other d) = rw (upd_other b.queue (owner s) q left d)

grows-gives : (b : State) (p n : ℕ) (ss : List ℕ) → Grows p b (give_all b p n ss)
grows-gives b p n [] = record { life = refl; holds = λ t e. e; carriers = λ q k t. refl }
grows-gives b p n (s ∷ ss) =
    let x = grows-give b p n s in
    let y = grows-gives (give b p n s) p n ss in
    record { life = y.life ∙ x.life; holds = λ t e. y.holds t (x.holds t e); carriers = λ q k t. y.carriers q k t ∙ x.carriers q k t }

-- What is known of the entries holds of those that are left.
entries-give : (P : Entry → Type 0) (b : State) (p n s q : ℕ) → All P (b.queue q) → All P ((give b p n s).queue q)
unfolding give withdraw with_queues with_handles with_given
entries-give P b p n s q a = pick_all (λ (x : State). All P (x.queue q)) (valid b p n s) _ b (go (same? (owner s) q)) a
  where
    left : List Entry
    left = keep (not_released (eqb s)) (b.queue (owner s))

    go : Same (owner s) q → All P (upd b.queue (owner s) left q)
    go (same d) = rw (← d, upd_same b.queue (owner s) left) (all_keep P (not_released (eqb s)) (b.queue (owner s)) (rw (← d) at a))
    go (other d) = rw (upd_other b.queue (owner s) q left d) a

pub entries-gives : (P : Entry → Type 0) (b : State) (p n : ℕ) (ss : List ℕ) (q : ℕ) → All P (b.queue q) → All P ((give_all b p n ss).queue q)
entries-gives P b p n [] q a = a
entries-gives P b p n (s ∷ ss) q a = entries-gives P (give b p n s) p n ss q (entries-give P b p n s q a)

-- A node shown as valid is held then.
given-held : (b : State) (p n s : ℕ) → valid b p n s ≡ true → held ((give b p n s).handle p s) ≡ true
unfolding give withdraw with_queues with_handles with_given
given-held b p n s e =
    rw (
      e,
      upd_same b.handle p (upd (b.handle p) s (handle_of (shown b p n s) (suc (count (b.handle p s))))),
      upd_same (b.handle p) s (handle_of (shown b p n s) (suc (count (b.handle p s)))),
    )

-- A node that was destroyed after n, and is not valid all the same, is the owner's.
invalid-own : (b : State) (p n s k : ℕ) → b.life s ≡ dead k → n < k → valid b p n s ≡ false → owner s ≡ p
unfolding valid
invalid-own b p n s k d l e = go (look (eqb (owner s) p)) (rw (d, lt-ltb n k l) at e)
  where
    go : Seen (eqb (owner s) p) → either (not (eqb (owner s) p)) (held (b.handle p s)) ≡ false → owner s ≡ p
    go (is_true z) y = eqb-true (owner s) p z
    go (is_false z) y = clash (rw z at y)

invalid-shown : (b : State) (p n s : ℕ) → valid b p n s ≡ false → shown b p n s ≡ invalid
unfolding shown
invalid-shown b p n s e = rw e

-- The place at which a node that is not held afterwards was shown.
abbrev Shown : List ℕ → List ℕ → ℕ → ℕ → Type 0
Shown ss is p t = (j : ℕ) × (j < length ss) × (get_or ss j 0 ≡ t) × (get_or is j 0 ≡ invalid) × (owner t ≡ p)

unheld-shown : (b : State) (p n : ℕ) (ss : List ℕ) (t k : ℕ) → b.life t ≡ dead k → n < k → any (eqb t) ss ≡ true → held ((give_all b p n ss).handle p t) ≡ false →
    Shown ss (shown_all b p n ss) p t
unheld-shown b p n [] t k d l e u = clash (sym e)
unheld-shown b p n (s ∷ ss) t k d l e u = go (same? t s) (look (valid b p n s)) (unheld-shown (give b p n s) p n ss t k (ap (λ (f : ℕ → Life). f t) (grows-give b p n s).life ∙ d) l)
  where
    further : Shown ss (shown_all (give b p n s) p n ss) p t → Shown (s ∷ ss) (shown_all b p n (s ∷ ss)) p t
    further x = (suc x.0, omega (arith, x.1), x.2, x.3, x.4)

    go : Same t s → Seen (valid b p n s) →
        (any (eqb t) ss ≡ true → held ((give_all (give b p n s) p n ss).handle p t) ≡ false → Shown ss (shown_all (give b p n s) p n ss) p t) →
        Shown (s ∷ ss) (shown_all b p n (s ∷ ss)) p t
    go (same y) (is_true v) ih = no u ((grows-gives (give b p n s) p n ss).holds t (rw y (given-held b p n s v)))
    go (same y) (is_false v) ih =
        (0, omega arith, sym y, invalid-shown b p n s v, ap owner y ∙ invalid-own b p n s k (ap b.life (sym y) ∙ d) l v)
    go (other y) v ih = further (ih (rw (ne_eqb t s y) at e) u)

-- A notice of t that the messages in the queue of p kept, the first of them a message of the command n that carries ss: where nothing keeps it once what the message carries is given, it is
-- shown to the owner as invalid.
pub unkept : (h : ℕ → Handle) (b : State) (p n : ℕ) (m : Message) (t k : ℕ) → b.life t ≡ dead k → ((s : ℕ) → held (h s) ≡ true → held (b.handle p s) ≡ true) →
    concerned h (message n m ∷ b.queue p) k t ≡ true →
    concerned ((give_all b p n m.carried).handle p) ((give_all b p n m.carried).queue p) k t ≡ false →
    (j : ℕ) × (j < length m.carried) × (get_or m.carried j 0 ≡ t) × (get_or (shown_all b p n m.carried) j 0 ≡ invalid) × (owner t ≡ p)
unkept h b p n m t k d more was now =
    let x = give_all b p n m.carried in
    let g = grows-gives b p n m.carried in
    let z = either-false (held (x.handle p t)) (any (earlier k t) (x.queue p)) now in
    let none : any (earlier k t) (b.queue p) ≡ false = sym (g.carriers p k t) ∙ z.1 in
    go (look (held (h t))) z none
  where
    x : State
    x = give_all b p n m.carried

    go : Seen (held (h t)) → (held (x.handle p t) ≡ false) × (any (earlier k t) (x.queue p) ≡ false) → any (earlier k t) (b.queue p) ≡ false →
        Shown m.carried (shown_all b p n m.carried) p t
    go (is_true e) z none = no z.0 ((grows-gives b p n m.carried).holds t (more t e))
    go (is_false e) z none =
        let w : either (both (ltb n k) (any (eqb t) m.carried)) false ≡ true = rw (e, none) at was in
        let y = both_true (ltb n k) (any (eqb t) m.carried) (right-false (both (ltb n k) (any (eqb t) m.carried)) w) in
        unheld-shown b p n m.carried t k d (ltb-true n k y.0) y.1 z.0
      where
        right-false : (a : Bool) → either a false ≡ true → a ≡ true
        right-false true v = refl
        right-false false v = v
