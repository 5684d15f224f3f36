-- The theorems that go with specs/Listed.antt and stand on others: each goes by the definitions and the theorems there.
-- Assumes nothing.
use Prim.Native.Nat.{ℕ, ◌+◌, ◌-◌, ◌*◌, ◌/◌, ◌%◌, ◌≤◌, ◌<◌}
use Rattle.std.specs.Prelude.{◌≡◌, true, length, eqb, ltb, Option, Some, None}
use Rattle.std.proofs.Math.Path.{refl, ap}
use Rattle.std.proofs.Common.{sym, ◌∙◌, arith}
use Rattle.std.proofs.Math.Bool.{false}
use mathlib.Core.List.{List}
use borrow.Author.Tests.{ltb-true, eqb-true, eqb-false, ne_eqb, eq-eqb, lt-ltb}
use Rattle.laws.specs.Tests.{pick, Seen, Seen.is_true, Seen.is_false, look, Same, Same.same, Same.other, same?, clash}
use Rattle.laws.specs.Tables.{upd}
use Rattle.laws.specs.Search.{first-is}
use Rattle.model.specs.Numbers.{peers, nodes}
use Rattle.model.specs.State.{Handle, handle_of, has_id, slot_of}
use Rattle.model.specs.State.Handle.{none, some}
use Rattle.model.specs.Ids.{Handles}
use Rattle.tables.specs.Peers.{modulus}
use Rattle.tables.specs.Handles.{list_block, length_block, handles_size, id_at, count_at, has_in, has_at, found_own, list_length, listed_id, word_at, listed_slot, guess, guessed, place_in, spot, found_among, found_listed, lookup, slot_found, find_at, put_handle, enlisted, shifted, taken_out, unlisted, raised, reduced}
use Rattle.tables.specs.HandlesView.{handle_v, handle-is, handle-far, of-has, odd, put-length, shift-handles, shift-length, not-nothing, not_at, of_some}
use Rattle.tables.proofs.HandlesView.{own-some, own-none}
use Rattle.ids.specs.Sizes.{slots}
use Rattle.tables.specs.Listed.{is_given, Lists, Listed, AllListed, some_id, lists-few, lists-count, lists-chosen, lists-one, lists-remove, place_of, record-kept, record-put, list-then, list-kept, listed-from, Others, both-peers, put-list, put-others, put-own, put-lists, listed-put, listed-enlisted, shift-before, shift-moved, shift-list, unlisted-chosen}

spot_of : (h : List ℕ) (p i : ℕ) {slots : ℕ → ℕ} {f : ℕ → Handle} → Lists (id_at h length_block p) (listed_id h p) slots f →
    (k : ℕ) → k < id_at h length_block p → listed_id h p k ≡ i → spot h p i (id_at h length_block p) ≡ k
unfolding spot
spot_of h p i l k lk e = go (look (eqb (listed_id h p g) i))
  where
    g : ℕ
    g = guess (word_at h length_block p) i (id_at h length_block p)

    go : Seen (eqb (listed_id h p g) i) → spot h p i (id_at h length_block p) ≡ k
    go (is_true x) = rw x (lists-one l g k (omega arith) lk (eqb-true (listed_id h p g) i x ∙ sym e))
    go (is_false x) = rw x (place_of h p i l (id_at h length_block p) k (omega arith) lk e)

-- On a bus of a run the lookup is the model's: two handles of a peer have two IDs, an ID with its two low bits clear is that of an own node, and any other is listed.
module _ (h : List ℕ) (p g : ℕ) (lp : p < peers) (w : Handles p g (handle_v h p)) (l : Listed h p) (i : ℕ) where
  has-is : (s : ℕ) → s < nodes → has_at h p i s ≡ has_id i (handle_v h p s)
  unfolding has_at has_in
  has-is s ls = rw (handle-is h p s lp ls) (sym (of-has (id_at h p s) (count_at h p s) i))

  -- what holds the ID
  has_some : (x : Handle) → has_id i x ≡ true → (c : ℕ) × (x ≡ some i c)
  has_some none e = clash (sym e)
  has_some (some j c) e = let y : j ≡ i = eqb-true j i e in (c, rw y)

  -- the slot of the ID, if it is held
  slot_is : (s : ℕ) → s < nodes → has_id i (handle_v h p s) ≡ true → s ≡ slot_of (handle_v h p) i
  unfolding slot_of
  slot_is s ls e = first-is (λ t. has_id i (handle_v h p t)) nodes s (omega arith) (λ t lt. go t lt (look (has_id i (handle_v h p t)))) (λ _. e)
    where
      go : (t : ℕ) → t < s → Seen (has_id i (handle_v h p t)) → has_id i (handle_v h p t) ≡ false
      go t lt (is_true f) =
          let x = has_some (handle_v h p s) e in
          let y = has_some (handle_v h p t) f in
          absurd (omega (arith, w.distinct s t i x.0 y.0 x.1 y.1))
      go t lt (is_false f) = f

  -- no slot has it
  slot-none : ((s : ℕ) → s < nodes → has_id i (handle_v h p s) ≡ false) → nodes ≡ slot_of (handle_v h p) i
  unfolding slot_of
  slot-none none_has = first-is (λ t. has_id i (handle_v h p t)) nodes nodes (omega arith) none_has (λ l. absurd (omega arith))

  -- a chosen ID is that of an own node
  own-place : i % 4 ≡ 0 → (s : ℕ) → has_id i (handle_v h p s) ≡ true → s / slots ≡ p
  own-place e s f = go (same? (s / slots) p)
    where
      go : Same (s / slots) p → s / slots ≡ p
      go (same o) = o
      go (other ne) =
          let x = has_some (handle_v h p s) f in
          let y = w.given s i x.0 x.1 ne in
          absurd (omega (arith, y.2))

  all-of-it : list_length h p ≡ id_at h length_block p
  all-of-it = omega (arith, lists-few l)

  -- the slot of an entry has its ID
  entry_has : (k : ℕ) → k < id_at h length_block p → listed_id h p k ≡ i → (listed_slot h p k < nodes) × (has_id i (handle_v h p (listed_slot h p k)) ≡ true)
  entry_has k lk e = let x = l.sound k lk in (x.0, ap (has_id i) x.2.1 ∙ eq-eqb (listed_id h p k) i e)

  place_is : (m k : ℕ) → m ≤ id_at h length_block p → k < m → listed_id h p k ≡ i → place_in h p i m ≡ k
  place_is = place_of h p i l

  listed-some : (s : ℕ) → found_listed h p i ≡ Some s → (s < nodes) × (has_id i (handle_v h p s) ≡ true)
  unfolding found_listed found_among
  listed-some s e = go (look (eqb n 0)) (look (eqb (listed_id h p x) i)) (look (ltb k n)) (look (eqb (listed_id h p k) i))
    where
      n : ℕ
      n = list_length h p

      x : ℕ
      x = guessed h p i

      k : ℕ
      k = place_in h p i n

      entry : (j : ℕ) → j < n → eqb (listed_id h p j) i ≡ true → Some (listed_slot h p j) ≡ Some s → (s < nodes) × (has_id i (handle_v h p s) ≡ true)
      entry j lj f q =
          let y : listed_slot h p j ≡ s = cc in
          let v = entry_has j (omega (arith, all-of-it)) (eqb-true (listed_id h p j) i f) in
          rw (← y) v

      go : Seen (eqb n 0) → Seen (eqb (listed_id h p x) i) → Seen (ltb k n) → Seen (eqb (listed_id h p k) i) → (s < nodes) × (has_id i (handle_v h p s) ≡ true)
      go (is_true z) q y w = absurd (not-nothing (rw z at e))
      go (is_false z) (is_true q) y w = entry x (omega (arith, eqb-false n 0 z)) q (rw (z, q) at e)
      go (is_false z) (is_false q) (is_false y) w = absurd (not-nothing (rw (z, q, y) at e))
      go (is_false z) (is_false q) (is_true y) (is_true w) = entry k (ltb-true k n y) w (rw (z, q, y, w) at e)
      go (is_false z) (is_false q) (is_true y) (is_false w) = absurd (not-nothing (rw (z, q, y, w) at e))

  listed-none : found_listed h p i ≡ None → (j : ℕ) → j < id_at h length_block p → listed_id h p j ≡ i → ⊥
  unfolding found_listed found_among
  listed-none e j lj q = go (look (eqb n 0)) (look (eqb (listed_id h p (guessed h p i)) i))
    where
      n : ℕ
      n = list_length h p

      go : Seen (eqb n 0) → Seen (eqb (listed_id h p (guessed h p i)) i) → ⊥
      go (is_true z) x = absurd (omega (arith, eqb-true n 0 z, all-of-it))
      go (is_false z) (is_true x) = not_at (rw (z, x) at e)
      go (is_false z) (is_false x) =
          let m : j < n = omega (arith, all-of-it) in
          let c : place_in h p i n ≡ j = place_is n j (omega (arith, all-of-it)) m q in
          not_at (rw (z, x, c, lt-ltb j n m, eq-eqb (listed_id h p j) i q) at e)

  missed-own : i % 4 ≡ 0 → found_own h p i ≡ None → (s : ℕ) → s < nodes → Seen (has_id i (handle_v h p s)) → has_id i (handle_v h p s) ≡ false
  missed-own c n s ls (is_false f) = f
  missed-own c n s ls (is_true f) =
      let o : s / slots ≡ p = own-place c s f in
      let y : p * slots + s % slots ≡ s = omega arith in
      let x : has_at h p i s ≡ false = rw y at (own-none h p i n (s % slots) (omega arith)) in
      sym (has-is s ls) ∙ x

  missed-listed : (i % 4 ≡ 0 → ⊥) → found_listed h p i ≡ None → (s : ℕ) → s < nodes → Seen (has_id i (handle_v h p s)) → has_id i (handle_v h p s) ≡ false
  missed-listed c n s ls (is_false f) = f
  missed-listed c n s ls (is_true f) =
      let x = has_some (handle_v h p s) f in
      let y = l.complete s i x.0 ls x.1 c in
      let z = l.sound y.0 y.1 in
      absurd (listed-none n y.0 y.1 (some_id (sym z.2.1 ∙ ap (handle_v h p) y.2 ∙ x.1)))

  pub find-is : find_at h p i ≡ slot_of (handle_v h p) i
  unfolding find_at lookup
  find-is = go (look (eqb (i % 4) 0)) (found_own h p i) refl (found_listed h p i) refl
    where
      go : Seen (eqb (i % 4) 0) → (x : Option ℕ) → found_own h p i ≡ x → (y : Option ℕ) → found_listed h p i ≡ y → slot_found (pick (eqb (i % 4) 0) (found_own h p i) (found_listed h p i)) ≡ slot_of (handle_v h p) i
      go (is_true f) (Some s) e y d = let x = own-some h p i lp s e in rw (f, e) (slot_is s x.0 (sym (has-is s x.0) ∙ x.1))
      go (is_true f) None e y d = rw (f, e) (slot-none (λ s ls. missed-own (eqb-true (i % 4) 0 f) e s ls (look (has_id i (handle_v h p s)))))
      go (is_false f) x d (Some s) e = let y = listed-some s e in rw (f, e) (slot_is s y.0 y.1)
      go (is_false f) x d None e = rw (f, e) (slot-none (λ s ls. missed-listed (eqb-false (i % 4) 0 f) e s ls (look (has_id i (handle_v h p s)))))

-- An entry gone.
module _ (h : List ℕ) (size : length h ≡ handles_size) (p : ℕ) (lp : p < peers) (o : Others h p) {f : ℕ → Handle} (w : Lists (id_at h length_block p) (listed_id h p) (listed_slot h p) f) where
  taken-listed : (k s : ℕ) → k < id_at h length_block p → listed_slot h p k ≡ s → handle_v h p ≡ upd f s none → AllListed (taken_out h p k (id_at h length_block p))
  unfolding taken_out
  taken-listed k s lk e v = both-peers h₂ p others own
    where
      n : ℕ
      n = id_at h length_block p

      few : n ≤ nodes
      few = lists-few w

      m : ℕ
      m = n - 1 - k

      h₁ : List ℕ
      h₁ = shifted h p k m

      newest : ℕ
      newest = listed_id h₁ p (n - 1 - 1)

      h₂ : List ℕ
      h₂ = put_handle h₁ length_block p (n - 1) newest

      lm : k + m < nodes
      lm = omega (arith, few, lk)

      far : handle_v h₂ ≡ handle_v h
      far = handle-far h₁ length_block p (n - 1) newest (omega arith) ∙ shift-handles h p k m

      others : Others h₂ p
      others q lq ne =
          listed-from q (o q lq ne)
          (list-then (shift-list h size p k lp m lm q lq ne) (list-kept h₁ length_block p (n - 1) newest (omega arith) q lq (λ z. absurd (omega arith)) (λ z y. ne y)))
          (ap (λ (g : ℕ → ℕ → Handle). g q) far)

      last : (j : ℕ) → j < nodes → (listed_id h₂ p j ≡ listed_id h₁ p j) × (word_at h₂ (list_block p) j ≡ word_at h₁ (list_block p) j)
      last j lj = record-kept h₁ length_block p (n - 1) newest (omega arith) (list_block p) j lj (λ z y. absurd (omega arith))

      low : (j : ℕ) → j < k → (listed_id h₂ p j ≡ listed_id h p j) × (word_at h₂ (list_block p) j ≡ word_at h (list_block p) j)
      low j lj =
          let a = last j (omega (arith, lm)) in
          let b = shift-before h size p k lp m lm j lj in
          (a.0 ∙ b.0, a.1 ∙ b.1)

      high : (j : ℕ) → k ≤ j → j < n - 1 → (listed_id h₂ p j ≡ listed_id h p (j + 1)) × (word_at h₂ (list_block p) j ≡ word_at h (list_block p) (j + 1))
      high j ge lt =
          let a = last j (omega (arith, few)) in
          let b = shift-moved h size p k lp m lm j ge (omega arith) in
          (a.0 ∙ b.0, a.1 ∙ b.1)

      own : Listed h₂ p
      own =
          let z : id_at h₂ length_block p ≡ n - 1 = (record-put h₁ length_block p (n - 1) newest (omega arith) (omega (arith, size, shift-length h p k m))).0 in
          let y : handle_v h₂ p ≡ upd f s none = ap (λ (g : ℕ → ℕ → Handle). g p) far ∙ v in
          rw (z, y)
          (lists-remove w k s lk e (listed_id h₂ p) (listed_slot h₂ p) (λ j l. (low j l).0) (λ j a b. (high j a b).0) (λ j l. ap (λ (x : ℕ). x % nodes) (low j l).1)
          (λ j a b. ap (λ (x : ℕ). x % nodes) (high j a b).1))

  pub listed-unlisted : (s i c : ℕ) → s < nodes → f s ≡ some i c → (i % 4 ≡ 0 → ⊥) → handle_v h p ≡ upd f s none → AllListed (unlisted h p i)
  unfolding unlisted
  listed-unlisted s i c ls e odd v =
      let n = id_at h length_block p in
      let x = w.complete s i c ls e odd in
      let k = x.0 in
      let z = w.sound k x.1 in
      let q : listed_id h p k ≡ i = some_id (sym z.2.1 ∙ ap f x.2 ∙ e) in
      let whole : list_length h p ≡ n = omega (arith, lists-few w) in
      let there : spot h p i n ≡ k = spot_of h p i w k x.1 q in
      rw (ne_eqb (i % 4) 0 odd, whole, there, lt-ltb k n x.1, eq-eqb (listed_id h p k) i q) (taken-listed k s x.1 x.2 v)

-- What a command does to the handles keeps the lists.
module _ (h : List ℕ) (size : length h ≡ handles_size) (p s : ℕ) (lp : p < peers) (ls : s < nodes) (a : AllListed h) where
  -- the handle of a new node
  pub listed-made : (i : ℕ) → is_given (handle_v h p s) ≡ 0 → i % 4 ≡ 0 → AllListed (put_handle h p s i 1)
  listed-made i z e = listed-put h size p s i 1 lp ls (omega arith) a (lists-chosen (a p lp) s (some i 1) ls z (rw (eq-eqb (i % 4) 0 e)))

  held-as : 0 < count_at h p s → handle_v h p s ≡ some (id_at h p s) (count_at h p s)
  held-as l = handle-is h p s lp ls ∙ of_some (id_at h p s) (count_at h p s) (λ z. absurd (omega arith))

  -- one reference more
  pub listed-raised : (i : ℕ) → count_at h p s + 1 < modulus → (count_at h p s ≡ 0 → (eqb (i % 4) 0 ≡ false) × ((k : ℕ) → k < id_at h length_block p → listed_id h p k < i)) →
      ((count_at h p s ≡ 0 → ⊥) → i ≡ id_at h p s) → AllListed (raised h p s i)
  unfolding raised
  listed-raised i lc new old = go (look (eqb (count_at h p s) 0))
    where
      c : ℕ
      c = count_at h p s

      g : List ℕ
      g = put_handle h p s i (c + 1)

      some_more : handle_of i (c + 1) ≡ some i (c + 1)
      some_more = of_some i (c + 1) (λ z. absurd (omega arith))

      go : Seen (eqb c 0) → AllListed (pick (eqb c 0) (enlisted g p i s) g)
      go (is_true e) =
          let z : c ≡ 0 = eqb-true c 0 e in
          let n : handle_v h p s ≡ none = handle-is h p s lp ls ∙ ap (handle_of (id_at h p s)) z in
          let t = put-list h size p s i (c + 1) lp ls lc p lp in
          let few : id_at h length_block p ≤ nodes = lists-few (a p lp) in
          rw e
          (listed-enlisted g (put-length h p s i (c + 1) ∙ size) p lp (put-others h size p s i (c + 1) lp ls lc a) (put-lists h size p s i (c + 1) lp ls lc (a p lp)) s i (c + 1) ls n
          (new z).0
          (λ k l. let lk : k < id_at h length_block p = omega (arith, t.size) in omega (arith, (t.entry k (omega (arith, few))).0, (new z).1 k lk))
          (put-own h size p s i (c + 1) lp ls lc ∙ ap (upd (handle_v h p) s) some_more))
      go (is_false e) =
          let z : c ≡ 0 → ⊥ = eqb-false c 0 e in
          let v : handle_v h p s ≡ some i c = held-as (omega (arith, z)) ∙ ap (λ (j : ℕ). some j c) (sym (old z)) in
          rw e (listed-put h size p s i (c + 1) lp ls lc a (rw some_more (lists-count (a p lp) s i c (c + 1) ls v)))

  -- one reference less
  pub listed-reduced : 0 < count_at h p s → AllListed (reduced h p s)
  unfolding reduced
  listed-reduced some-held = go (look (eqb (c - 1) 0)) (look (eqb (i % 4) 0))
    where
      c : ℕ
      c = count_at h p s

      i : ℕ
      i = id_at h p s

      g : List ℕ
      g = put_handle h p s i (c - 1)

      lc : c - 1 < modulus
      lc = omega arith

      v : handle_v h p s ≡ some i c
      v = held-as some-held

      go : Seen (eqb (c - 1) 0) → Seen (eqb (i % 4) 0) → AllListed (pick (eqb (c - 1) 0) (unlisted g p i) g)
      go (is_false e) q =
          let some_left : handle_of i (c - 1) ≡ some i (c - 1) = of_some i (c - 1) (eqb-false (c - 1) 0 e) in
          rw e (listed-put h size p s i (c - 1) lp ls lc a (rw some_left (lists-count (a p lp) s i c (c - 1) ls v)))
      go (is_true e) (is_true q) =
          let gone : handle_of i (c - 1) ≡ none = ap (handle_of i) (eqb-true (c - 1) 0 e) in
          let z : is_given (handle_v h p s) ≡ 0 = ap is_given v ∙ rw q in
          rw (e, unlisted-chosen g p i q) ((listed-put h size p s i (c - 1) lp ls lc a (rw gone (lists-chosen (a p lp) s none ls z refl))))
      go (is_true e) (is_false q) =
          let gone : handle_of i (c - 1) ≡ none = ap (handle_of i) (eqb-true (c - 1) 0 e) in
          rw e
          (listed-unlisted g (put-length h p s i (c - 1) ∙ size) p lp (put-others h size p s i (c - 1) lp ls lc a) (put-lists h size p s i (c - 1) lp ls lc (a p lp)) s i c ls v
          (eqb-false (i % 4) 0 q)
          (put-own h size p s i (c - 1) lp ls lc ∙ ap (upd (handle_v h p) s) gone))
