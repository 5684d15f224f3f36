-- The theorems that go with specs/Attached.antt and stand on others: each goes by the definitions and the theorems there.
-- Assumes nothing.
use Rattle.std.specs.Prelude.{ℕ, suc, ◌+◌, ◌≡◌, Bool, not, length, eqb, ltb}
use Rattle.std.proofs.Math.Path.{refl, sym, ap}
use Rattle.std.proofs.Common.{ap₂, ◌∙◌, arith, length-append, eq-eqb, ne_eqb}
use Rattle.std.proofs.Math.Bool.{true, false}
use mathlib.Core.List.{List, [], ◌∷◌, ◌++◌, map}
use Rattle.laws.specs.Tests.{pick, Seen, Seen.is_true, Seen.is_false, look, clash, Same, Same.same, Same.other, same?}
use Rattle.laws.specs.Tables.{upd, upd_same, upd_other}
use Rattle.model.specs.Numbers.{invalid, next_id}
use Rattle.model.specs.Lists.{both, either, any}
use Rattle.model.specs.State.{Handle, Handle.none, Handle.some, held, id_or}
use Rattle.model.specs.Book.{Node}
use Rattle.model.specs.Ledger.{Item, Ledger, valid_at, due_id, ledger_give, due_ids, ledger_queues}
use Rattle.model.specs.Delivered.{with_new, new_after, new_nodes, ahead, attached_id}
use Rattle.model.specs.Attached.{any-behind, ahead_in, ahead-last, new-front, live-id, unheld, more-held, or_no}

-- m is the ledger l after handles were given to p as of the command k, of which those to the nodes new were new.
record Gave (l m : Ledger) (p k : ℕ) (new : List ℕ) : Type 0 where
  lives : (n : ℕ) → m.lives n ≡ l.lives n
  died : (n : ℕ) → m.died n ≡ l.died n
  maker : (n : ℕ) → m.maker n ≡ l.maker n
  sound : (n : ℕ) → any (eqb n) new ≡ true → valid_at l p k n ≡ true
  given : m.given p ≡ l.given p + length new
  holds : (n : ℕ) → held (m.handle p n) ≡ either (held (l.handle p n)) (any (eqb n) new)
  named : (n d : ℕ) → id_or d (m.handle p n) ≡ id_or (pick (any (eqb n) new) (next_id (l.given p + ahead n new)) d) (l.handle p n)

either-false : (s t : Bool) → either s t ≡ false → (s ≡ false) × (t ≡ false)
either-false true t e = clash e
either-false false t e = (refl, e)

module _ (l m : Ledger) (p k : ℕ) (new : List ℕ) (g : Gave l m p k new) (n : Node) where
  abbrev s : ℕ
  s = n.number

  valid_same : valid_at m p k s ≡ valid_at l p k s
  unfolding valid_at
  valid_same =
      rw (g.lives s, g.died s, g.maker s, g.holds s)
      (more-held (l.lives s) (ltb k (l.died s)) (not (eqb (l.maker s) p)) (held (l.handle p s)) (any (eqb s) new) (g.sound s))

  -- The node's handle is there already.
  gave-held : valid_at m p k s ≡ true → (i c : ℕ) → m.handle p s ≡ some i c → Gave l (ledger_give m p k n) p k (with_new l p k new s)
  unfolding ledger_give due_id
  gave-held a i c e =
      let h : either (held (l.handle p s)) (any (eqb s) new) ≡ true = sym (g.holds s) ∙ ap held e in
      let w : with_new l p k new s ≡ new = rw (sym valid_same ∙ a) (kept (held (l.handle p s)) (any (eqb s) new) (new ++ (s ∷ [])) new h) in
      rw (w, a, e)
      (record {
        lives = g.lives;
        died = g.died;
        maker = g.maker;
        sound = g.sound;
        given = rw upd_same g.given;
        holds = λ t. rw upd_same (held_at t (same? s t));
        named = λ t d. rw upd_same (named-at t d (same? s t));
      })
    where
      kept : (x y : Bool) (u v : List ℕ) → either x y ≡ true → pick (both (not x) (not y)) u v ≡ v
      kept true y u v z = refl
      kept false true u v z = refl
      kept false false u v z = clash (sym z)

      held_at : (t : ℕ) → Same s t → held (upd (m.handle p) s (some i (suc c)) t) ≡ either (held (l.handle p t)) (any (eqb t) new)
      held_at t (same z) = rw (← z, upd_same) (ap held (sym e) ∙ g.holds s)
      held_at t (other z) = rw (upd_other (m.handle p) s t _ z) (g.holds t)

      named-at : (t d : ℕ) → Same s t → id_or d (upd (m.handle p) s (some i (suc c)) t) ≡ id_or (pick (any (eqb t) new) (next_id (l.given p + ahead t new)) d) (l.handle p t)
      named-at t d (same z) = rw (← z, upd_same) (ap (id_or d) (sym e) ∙ g.named s d)
      named-at t d (other z) = rw (upd_other (m.handle p) s t _ z) (g.named t d)

  -- It is new.
  gave-new : valid_at m p k s ≡ true → m.handle p s ≡ none → Gave l (ledger_give m p k n) p k (with_new l p k new s)
  unfolding ledger_give due_id
  gave-new a e =
      let h = either-false (held (l.handle p s)) (any (eqb s) new) (sym (g.holds s) ∙ ap held e) in
      let v : valid_at l p k s ≡ true = sym valid_same ∙ a in
      let w : with_new l p k new s ≡ new ++ (s ∷ []) = rw (v, h.0, h.1) refl in
      rw (w, a, e)
      (record {
        lives = g.lives;
        died = g.died;
        maker = g.maker;
        sound = λ t z. sound-at t (same? t s) (rw (any-behind t s new) at z) v;
        given = rw (upd_same, length-append) (omega (arith, g.given));
        holds = λ t. rw (upd_same, any-behind t s new) (held_at t (same? s t));
        named = λ t d. rw (upd_same, any-behind t s new) (named-at t d (same? s t));
      })
    where
      sound-at : (t : ℕ) → Same t s → either (any (eqb t) new) (eqb t s) ≡ true → valid_at l p k s ≡ true → valid_at l p k t ≡ true
      sound-at t (same y) z v = rw y v
      sound-at t (other y) z v = g.sound t (sym (or_no (any (eqb t) new)) ∙ (rw (ne_eqb t s y) at z))
        where
          or_no : (x : Bool) → either x false ≡ x
          or_no true = refl
          or_no false = refl

      held_at : (t : ℕ) → Same s t → held (upd (m.handle p) s (some (next_id (m.given p)) 1) t) ≡ either (held (l.handle p t)) (either (any (eqb t) new) (eqb t s))
      held_at t (same z) = rw (← z, upd_same, eq-eqb s s refl) (sym (last (held (l.handle p s)) (any (eqb s) new)))
        where
          last : (x y : Bool) → either x (either y true) ≡ true
          last true y = refl
          last false true = refl
          last false false = refl
      held_at t (other z) = rw (upd_other (m.handle p) s t _ z, ne_eqb t s (λ y. z (sym y))) (g.holds t ∙ ap (either (held (l.handle p t))) (sym (or_no (any (eqb t) new))))
        where
          or_no : (x : Bool) → either x false ≡ x
          or_no true = refl
          or_no false = refl

      named-at : (t d : ℕ) → Same s t → id_or d (upd (m.handle p) s (some (next_id (m.given p)) 1) t)
          ≡ id_or (pick (either (any (eqb t) new) (eqb t s)) (next_id (l.given p + ahead t (new ++ (s ∷ [])))) d) (l.handle p t)
      named-at t d (same z) =
          let h = either-false (held (l.handle p s)) (any (eqb s) new) (sym (g.holds s) ∙ ap held e) in
          rw (← z, upd_same, eq-eqb s s refl, h.1, unheld (l.handle p s) h.0, ahead-last s new h.1) (omega (arith, g.given))
      named-at t d (other z) = rw (upd_other (m.handle p) s t _ z, ne_eqb t s (λ y. z (sym y))) (g.named t d ∙ go (look (any (eqb t) new)))
        where
          go : Seen (any (eqb t) new) → id_or (pick (any (eqb t) new) (next_id (l.given p + ahead t new)) d) (l.handle p t)
              ≡ id_or (pick (either (any (eqb t) new) false) (next_id (l.given p + ahead t (new ++ (s ∷ [])))) d) (l.handle p t)
          go (is_true y) = rw (y, ahead_in t new (s ∷ []) y) refl
          go (is_false y) = rw y refl

  gave_one : Gave l (ledger_give m p k n) p k (with_new l p k new s)
  gave_one = go (look (valid_at m p k s)) (m.handle p s) refl
    where
      off : valid_at m p k s ≡ false → valid_at l p k s ≡ false
      off a = sym valid_same ∙ a

      go : Seen (valid_at m p k s) → (x : Handle) → m.handle p s ≡ x → Gave l (ledger_give m p k n) p k (with_new l p k new s)
      go (is_false a) x e = unfold ledger_give in rw (a, off a) g
      go (is_true a) none e = gave-new a e
      go (is_true a) (some i c) e = gave-held a i c e

  -- The ID due next is one of those given all at once.
  due-live : valid_at m p k s ≡ true → (ks : List ℕ) (x : Handle) → l.handle p s ≡ x → Seen (any (eqb s) new) →
      id_or (next_id (m.given p)) (m.handle p s) ≡ id_or (next_id (l.given p + ahead s (with_new l p k new s ++ ks))) x
  due-live a ks (some i c) e z = g.named s _ ∙ ap (id_or _) e
  due-live a ks none e (is_true z) =
      let v : valid_at l p k s ≡ true = sym valid_same ∙ a in
      let w : with_new l p k new s ≡ new = rw (v, e, z) refl in
      g.named s _ ∙ rw (w, z, e, ahead_in s new ks z) refl
  due-live a ks none e (is_false z) =
      let v : valid_at l p k s ≡ true = sym valid_same ∙ a in
      let w : with_new l p k new s ≡ new ++ (s ∷ []) = rw (v, e, z) refl in
      let y : any (eqb s) (new ++ (s ∷ [])) ≡ true = rw (any-behind s s new, z) (eq-eqb s s refl) in
      g.named s _ ∙ rw (w, z, e, ahead_in s (new ++ (s ∷ [])) ks y, ahead-last s new z) (omega (arith, g.given))

  due-one : (ks : List ℕ) → due_id m p k n ≡ attached_id l p k (with_new l p k new s ++ ks) n
  unfolding due_id
  due-one ks = go (look (valid_at m p k s))
    where
      go : Seen (valid_at m p k s) → pick (valid_at m p k s) (id_or (next_id (m.given p)) (m.handle p s)) invalid ≡ attached_id l p k (with_new l p k new s ++ ks) n
      go (is_false a) = let v : valid_at l p k s ≡ false = sym valid_same ∙ a in rw (a, v) refl
      go (is_true a) = rw a (due-live a ks (l.handle p s) refl (look (any (eqb s) new)) ∙ sym (live-id l p k (with_new l p k new s ++ ks) n (sym valid_same ∙ a)))

due-from : (l m : Ledger) (p k : ℕ) (new : List ℕ) (ns : List Node) → Gave l m p k new → due_ids m p k ns ≡ map (attached_id l p k (new_after l p k new ns)) ns
due-from l m p k new [] g = refl
due-from l m p k new (n ∷ ns) g =
    let x = new-front l p k (with_new l p k new n.number) ns in
    ap₂ ◌∷◌ (due-one l m p k new g n x.0 ∙ ap (λ (z : List ℕ). attached_id l p k z n) (sym x.1))
    (due-from l (ledger_give m p k n) p k (with_new l p k new n.number) ns (gave_one l m p k new g n))

pub due-each : (l : Ledger) (p k : ℕ) (ns : List Node) → due_ids l p k ns ≡ map (attached_id l p k (new_nodes l p k ns)) ns
due-each l p k ns =
    due-from l l p k [] ns
    (record {
      lives = λ n. refl;
      died = λ n. refl;
      maker = λ n. refl;
      sound = λ n z. clash (sym z);
      given = omega arith;
      holds = λ n. sym (or_no (held (l.handle p n)));
      named = λ n d. refl;
    })

-- The queues have no part in it.
pub due_all : (l : Ledger) (f : ℕ → List Item) (p k : ℕ) (ns : List Node) → due_ids (ledger_queues l f) p k ns ≡ map (attached_id l p k (new_nodes l p k ns)) ns
unfolding ledger_queues
due_all l f p k ns =
    due-from l (ledger_queues l f) p k [] ns
    (record {
      lives = λ n. refl;
      died = λ n. refl;
      maker = λ n. refl;
      sound = λ n z. clash (sym z);
      given = omega arith;
      holds = λ n. sym (or_no (held (l.handle p n)));
      named = λ n d. refl;
    })
