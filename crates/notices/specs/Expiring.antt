-- What the withdrawal of destroy notices that nothing keeps does to the state that the tables stand for: where it looks at every slot that may have lost what kept its notice, the queue is the
-- model's settled one.
-- Assumes nothing.
use Prim.Native.Nat.{ℕ, zero, suc, ◌%◌, ◌≤◌, ◌<◌}
use Rattle.std.specs.Prelude.{◌≡◌, Bool, true, not, length, get_or, drop, eqb, leb}
use Rattle.std.proofs.Math.Path.{refl, sym, ap, ap₂, fun_ext}
use Rattle.std.proofs.Common.{◌∙◌, drop_of_length-le, eqb-true, eq-eqb, ne_eqb, le-leb}
use Rattle.std.proofs.Math.Bool.{false}
use mathlib.Core.List.{List, [], ◌∷◌, map}
use native.Mathlib.Omega.{arith}
use Rattle.laws.specs.Tests.{pick, Seen, Seen.is_true, Seen.is_false, look, Same, Same.same, Same.other, same?, clash, pick_all}
use Rattle.laws.specs.Tables.{upd, upd_same, upd-self, upd-twice}
use Rattle.laws.specs.Weights.{All, keep, all-imp, all_keep}
use Rattle.laws.specs.Loads.{keep-every}
use Rattle.laws.specs.Build.{build, build-at, build-length}
use Rattle.rings.specs.declared.Entry.{Entry as Row}
use Rattle.rings.specs.declared.Match.{Match}
use Rattle.rings.specs.Rings.{kind_destroyed, kind_released, destroyed_bit, ring_size, ends_size, Rings, Sized, entry_at, row_of, head_of, length_of, entries_from, queue_of, one_slot}
use Rattle.pool.specs.Pool.{Pair, paired, sum_of, bytes_in}
use Rattle.tables.specs.Nodes.{live_at, died_at}
use Rattle.tables.specs.NodesView.{life_v, live-is, died-is}
use Rattle.tables.specs.HandlesView.{handle_v}
use Rattle.model.specs.Numbers.{nodes, peers}
use Rattle.model.specs.Lists.{both, either}
use Rattle.model.specs.Occurs.{either-false}
use Rattle.model.specs.State.{Life, is_live, Handle, Message, Entry, concerned}
use Rattle.model.specs.State.Life.{dead}
use Rattle.model.specs.State.Entry.{message, destroyed, released}
use Rattle.model.specs.Changes.{stays, settle}
use Rattle.model.specs.Notices.{Stands}
use Rattle.model.specs.Founded.{carries-keep, settle-founded}
use Rattle.model.specs.SimQueues.{messages-kept}
use Rattle.view.specs.View.{entry_v, area_of, rows_v, queue_v}
use Rattle.view.specs.Rows.{queue-own, queue-count}
use Rattle.queues.specs.Queues.{withdrawn}
use Rattle.queues.specs.Carrying.{Unladen}
use Rattle.queues.specs.Leaving.{withdraw-view, withdraw-rows, withdraw-ends, withdraw-length, withdraw-lengths, undestroyed, destroyed-match, destroyed-bytes}
use Rattle.notices.specs.Notices.{tells_at, expired, expired_at, expired_place, expired_below, expired_all}
use Rattle.notices.specs.Telling.{tells_is, keep-agree}

-- A destroy notice has the number of the command that destroyed its node.
abbrev pub Dated : (ℕ → Life) → Entry → Type 0
Dated l (message n m) = Unit {0}
Dated l (destroyed n s) = (l s ≡ dead n) × (s < nodes)
Dated l (released n s) = Unit {0}

pub stands-dated : (h : ℕ → ℕ → Handle) (l : ℕ → Life) (q : ℕ) (e : Entry) → Stands h l q e → Dated l e
stands-dated h l q (message n m) z = tt
stands-dated h l q (destroyed n s) z = z
stands-dated h l q (released n s) z = tt

-- A destroy notice in the queue q of a peer with the handles h is of the slot s, or something keeps it.
abbrev pub Others : (ℕ → Handle) → List Entry → ℕ → Entry → Type 0
Others h q s (message n m) = Unit {0}
Others h q s (destroyed n t) = (s ≡ t → ⊥) → concerned h q n t ≡ true
Others h q s (released n t) = Unit {0}

-- The entries that pass where the notice of s goes unless c keeps it: c n s where the command n destroyed s.
abbrev passes : (ℕ → ℕ → Bool) → ℕ → Entry → Bool
passes c s (message n m) = true
passes c s (destroyed n t) = pick (eqb t s) (c n t) true
passes c s (released n t) = true

-- The same for the slots f 0, f 1, .. below the place k that pass the test t.
abbrev passes_at : (ℕ → ℕ → Bool) → (ℕ → Bool) → (ℕ → ℕ) → ℕ → Entry → Bool
passes_at c t f zero e = true
passes_at c t f (suc k) e = both (passes_at c t f k e) (pick (t k) (passes c (f k) e) true)

pick_true : (b : Bool) → pick b true true ≡ true
pick_true true = refl
pick_true false = refl

none : (b : Bool) → both b false ≡ false
none true = refl
none false = refl

passes-message : (c : ℕ → ℕ → Bool) (t : ℕ → Bool) (f : ℕ → ℕ) (k n : ℕ) (m : Message) → passes_at c t f k (message n m) ≡ true
passes-message c t f zero n m = refl
passes-message c t f (suc k) n m = rw (passes-message c t f k n m) (pick_true (t k))

passes-released : (c : ℕ → ℕ → Bool) (t : ℕ → Bool) (f : ℕ → ℕ) (k n s : ℕ) → passes_at c t f k (released n s) ≡ true
passes-released c t f zero n s = refl
passes-released c t f (suc k) n s = rw (passes-released c t f k n s) (pick_true (t k))

passes_kept : (c : ℕ → ℕ → Bool) (t : ℕ → Bool) (f : ℕ → ℕ) (k n s : ℕ) → c n s ≡ true → passes_at c t f k (destroyed n s) ≡ true
passes_kept c t f zero n s e = refl
passes_kept c t f (suc k) n s e = rw (passes_kept c t f k n s e, e, pick_true (eqb s (f k))) (pick_true (t k))

passes-gone : (c : ℕ → ℕ → Bool) (t : ℕ → Bool) (f : ℕ → ℕ) (k n s : ℕ) → c n s ≡ false → (j : ℕ) → j < k → t j ≡ true → f j ≡ s → passes_at c t f k (destroyed n s) ≡ false
passes-gone c t f zero n s e j l a b = absurd (omega arith)
passes-gone c t f (suc k) n s e j l a b = go (same? j k) (passes-gone c t f k n s e j)
  where
    go : Same j k → (j < k → t j ≡ true → f j ≡ s → passes_at c t f k (destroyed n s) ≡ false) → passes_at c t f (suc k) (destroyed n s) ≡ false
    go (same d) ih =
        let x : t k ≡ true = ap t (sym d) ∙ a in
        let y : eqb s (f k) ≡ true = eq-eqb s (f k) (sym b ∙ ap f d) in
        rw (x, y, e) (none (passes_at c t f k (destroyed n s)))
    go (other d) ih = rw (ih (omega arith) a b)

-- What is kept twice.
pub keep-both : {A : Type 0} (t u : A → Bool) (xs : List A) → keep u (keep t xs) ≡ keep (λ x. both (t x) (u x)) xs
keep-both t u [] = refl
keep-both t u (x ∷ xs) = go (look (t x)) (look (u x)) (keep-both t u xs)
  where
    go : Seen (t x) → Seen (u x) → keep u (keep t xs) ≡ keep (λ x. both (t x) (u x)) xs → keep u (keep t (x ∷ xs)) ≡ keep (λ x. both (t x) (u x)) (x ∷ xs)
    go (is_true a) (is_true b) ih = rw (a, b) (ap (◌∷◌ x) ih)
    go (is_true a) (is_false b) ih = rw (a, b) ih
    go (is_false a) b ih = rw a ih

-- Where notices went that do not stay, the same entries stay.
module _ (h : ℕ → Handle) (t : Entry → Bool) (messages : (n : ℕ) (m : Message) → t (message n m) ≡ true) (q : List Entry) where
  stays-kept : (e : Entry) → stays h (keep t q) e ≡ stays h q e
  stays-kept (message n m) = refl
  stays-kept (destroyed n s) = rw (carries-keep t messages q n s)
  stays-kept (released n s) = refl

  settle-kept : ((e : Entry) → stays h q e ≡ true → t e ≡ true) → settle h (keep t q) ≡ settle h q
  unfolding settle
  settle-kept spares = keep-both t (stays h (keep t q)) q ∙ ap (λ (g : Entry → Bool). keep g q) (fun_ext (λ e. go e (look (stays h q e))))
    where
      go : (e : Entry) → Seen (stays h q e) → both (t e) (stays h (keep t q) e) ≡ stays h q e
      go e (is_true z) = rw (stays-kept e, z, spares e z)
      go e (is_false z) = rw (stays-kept e, z) (none (t e))

-- What holds of the entries from a place on that pass a test holds from that place on of those that it keeps.
module _ {A : Type 0} (t : A → Bool) (P : A → Type 0) where
  drop_more : (k : ℕ) (xs : List A) → All P (drop k xs) → All P (drop (suc k) xs)
  drop_more zero [] a = tt
  drop_more zero (x ∷ xs) a = a.1
  drop_more (suc k) [] a = tt
  drop_more (suc k) (x ∷ xs) a = drop_more k xs a

  drop-keep : (k : ℕ) (xs : List A) → All (λ x. t x ≡ true → P x) (drop k xs) → All P (drop k (keep t xs))
  drop-keep zero [] a = tt
  drop-keep (suc k) [] a = tt
  drop-keep zero (x ∷ xs) a = go (look (t x)) (drop-keep zero xs a.1)
    where
      go : Seen (t x) → All P (keep t xs) → All P (keep t (x ∷ xs))
      go (is_true e) ih = rw e (a.0 e, ih)
      go (is_false e) ih = rw e ih
  drop-keep (suc k) (x ∷ xs) a = go (look (t x)) (drop-keep k xs a)
    where
      go : Seen (t x) → All P (drop k (keep t xs)) → All P (drop (suc k) (keep t (x ∷ xs)))
      go (is_true e) ih = rw e ih
      go (is_false e) ih = rw e (drop_more k (keep t xs) ih)

-- The entry that a row stands for, where it is a destroy notice, and where it is none.
entry-destroyed : (x : Pair) → x.entry.kind ≡ kind_destroyed → entry_v x ≡ destroyed x.entry.number x.entry.slot
unfolding entry_v
entry-destroyed x e = rw (eq-eqb x.entry.kind kind_destroyed e)

entry-stays : (h : ℕ → Handle) (q : List Entry) (x : Pair) → eqb x.entry.kind kind_destroyed ≡ false → stays h q (entry_v x) ≡ true
unfolding entry_v
entry-stays h q x e = go (look (eqb x.entry.kind kind_released))
  where
    go : Seen (eqb x.entry.kind kind_released) → stays h q (entry_v x) ≡ true
    go (is_true f) = rw (e, f)
    go (is_false f) = rw (e, f)

-- What holds of the entries behind a place and of the one there, which its row stands for, holds from that place on.
module _ (P D : Entry → Type 0) where
  from_row : (k : ℕ) (es : List Row) (b : List ℕ) (d : Row) → All P (drop (suc k) (map entry_v (paired es b))) → All D (map entry_v (paired es b)) →
      ((x : Pair) → k < length es → x.entry ≡ get_or es k d → D (entry_v x) → P (entry_v x)) → All P (drop k (map entry_v (paired es b)))
  unfolding paired
  from_row zero [] b d a c f = tt
  from_row (suc k) [] b d a c f = tt
  from_row zero (e ∷ es) b d a c f = (f _ (omega arith) refl c.0, a)
  from_row (suc k) (e ∷ es) b d a c f = from_row k es (drop (bytes_in e) b) d a c.1 (λ x m. f x (omega arith))

  from_place : (r : Rings) (t : List ℕ) (p k : ℕ) → p < peers → All P (drop (suc k) (queue_v r t p)) → All D (queue_v r t p) →
      ((x : Pair) → x.entry ≡ entry_at r.rows (row_of p (head_of r.ends p) k) → D (entry_v x) → P (entry_v x)) → All P (drop k (queue_v r t p))
  unfolding rows_v queue_of entries_from
  from_place r t p k l a c f =
      let at : ℕ → Row = λ i. entry_at r.rows (row_of p (head_of r.ends p) i) in
      let n = length_of r.ends p in
      rw (queue-own r t p l)
      (from_row k (build at n) (area_of t p (sum_of (build at n))) (at k) (rw (queue-own r t p l) at a) (rw (queue-own r t p l) at c)
      (λ x m e. f x (e ∙ build-at at n k (at k) (omega (arith, build-length at n)))))

-- One slot.
module _ (ns hs cs : List ℕ) (p : ℕ) (pool : List ℕ) (l : p < peers) where
  abbrev Queue : Rings → List Entry
  Queue r = queue_v r pool p

  -- The rings as a queue without attached handles, and with dated notices, has them.
  pub record Fair (r : Rings) : Type 0 where
    pub rows : Sized r.rows
    pub ends : length r.ends ≡ ends_size
    pub short : length_of r.ends p ≤ ring_size
    pub unladen : Unladen cs r pool p
    pub dated : All (Dated (life_v ns)) (Queue r)

  module _ (c : ℕ → ℕ → Bool) (r : Rings) (z : Fair r) (same_test : (n s : ℕ) → concerned (handle_v hs p) (Queue r) n s ≡ c n s) (s : ℕ) (m : s < nodes) where
    abbrev test : Bool
    test = either (live_at ns s) (tells_at hs cs r s (died_at ns s) p)

    told_is : (n : ℕ) → tells_at hs cs r s n p ≡ c n s
    told_is n = tells_is hs cs r pool n s p m l z.short z.unladen ∙ same_test n s

    dead_not : (n : ℕ) → life_v ns s ≡ dead n → live_at ns s ≡ false
    dead_not n e = live-is ns s m ∙ ap is_live e

    -- the notice of s has what keeps it
    stay : test ≡ true → (e : Entry) → Dated (life_v ns) e → passes c s e ≡ true
    stay x (message n k) d = refl
    stay x (released n t) d = refl
    stay x (destroyed n t) d = go (same? t s)
      where
        go : Same t s → pick (eqb t s) (c n t) true ≡ true
        go (other y) = rw (ne_eqb t s y)
        go (same y) =
            let life : life_v ns s ≡ dead n = ap (life_v ns) (sym y) ∙ d.0 in
            let kept : either (live_at ns s) (c (died_at ns s) s) ≡ true = ap (either (live_at ns s)) (sym (told_is (died_at ns s))) ∙ x in
            rw (eq-eqb t s y, y) (rw (dead_not n life, died-is ns n s m life) at kept)

    -- it has nothing
    leave : test ≡ false → (e : Entry) → Dated (life_v ns) e → undestroyed s e ≡ passes c s e
    leave x (message n k) d = refl
    leave x (released n t) d = refl
    leave x (destroyed n t) d = go (same? t s)
      where
        go : Same t s → not (eqb t s) ≡ pick (eqb t s) (c n t) true
        go (other y) = rw (ne_eqb t s y)
        go (same y) =
            let life : life_v ns s ≡ dead n = ap (life_v ns) (sym y) ∙ d.0 in
            let gone : c (died_at ns s) s ≡ false = sym (told_is (died_at ns s)) ∙ (either-false (live_at ns s) (tells_at hs cs r s (died_at ns s) p) x).1 in
            rw (eq-eqb t s y, y) (sym (rw (died-is ns n s m life) at gone))

    all_pass : {A : Type 0} (t : A → Bool) (xs : List A) → All (λ x. t x ≡ true) xs → keep t xs ≡ xs
    all_pass t [] a = refl
    all_pass t (x ∷ xs) a = rw a.0 (ap (◌∷◌ x) (all_pass t xs a.1))

    pub expire-view : queue_v (expired ns hs cs p r s) pool ≡ upd (queue_v r pool) p (keep (passes c s) (Queue r))
    unfolding expired
    expire-view = go (look test)
      where
        go : Seen test → queue_v (pick test r (withdrawn r p (one_slot destroyed_bit s))) pool ≡ upd (queue_v r pool) p (keep (passes c s) (Queue r))
        go (is_true x) =
            rw x
            (sym
            (upd-self (queue_v r pool) p (keep (passes c s) (Queue r))
            (all_pass (passes c s) (Queue r) (all-imp (Dated (life_v ns)) (λ e. passes c s e ≡ true) (stay x) (Queue r) z.dated))))
        go (is_false x) =
            rw x
            (withdraw-view r p (one_slot destroyed_bit s) z.short pool (undestroyed s) z.rows z.ends l (destroyed-match s) (destroyed-bytes s)
            ∙ ap (upd (queue_v r pool) p)
            (keep-agree (undestroyed s) (passes c s) (Queue r)
            (all-imp (Dated (life_v ns)) (λ e. undestroyed s e ≡ passes c s e) (leave x) (Queue r) z.dated)))

  -- What is left of the rings.
  pub record Less (r x : Rings) : Type 0 where
    pub rows : Sized x.rows
    pub ends : length x.ends ≡ ends_size
    pub lengths : (o : ℕ) → length_of x.ends o ≤ length_of r.ends o

  pub less-expired : (r : Rings) (s : ℕ) → Sized r.rows → length r.ends ≡ ends_size → Less r (expired ns hs cs p r s)
  unfolding expired
  less-expired r s h e =
      pick_all (Less r) (either (live_at ns s) (tells_at hs cs r s (died_at ns s) p)) r (withdrawn r p m)
      (record { rows = h; ends = e; lengths = λ o. omega arith })
      (record { rows = withdraw-rows r p m h; ends = withdraw-ends r p m ∙ e; lengths = λ o. go o (same? p o) })
    where
      m : Match
      m = one_slot destroyed_bit s

      go : (o : ℕ) → Same p o → length_of (withdrawn r p m).ends o ≤ length_of r.ends o
      go o (same d) = rw (← d) (withdraw-length r p m e l)
      go o (other d) = omega (arith, withdraw-lengths r p m o d)

  -- What is known of the queue holds where notices went.
  fair-kept : (t : Entry → Bool) → ((n : ℕ) (m : Message) → t (message n m) ≡ true) → (r x : Rings) → Fair r → Less r x → Queue x ≡ keep t (Queue r) → Fair x
  fair-kept t f r x z y e =
      record {
        rows = y.rows;
        ends = y.ends;
        short = omega (arith, y.lengths p, z.short);
        unladen = λ a. rw (e, messages-kept t f (Queue r)) (z.unladen a);
        dated = rw e (all_keep (Dated (life_v ns)) t (Queue r) z.dated);
      }

  -- Some slots, one after another.
  module _ (t : ℕ → Bool) (f : ℕ → ℕ) (r : Rings) where
    pub less-all : Sized r.rows → length r.ends ≡ ends_size → (k : ℕ) → Less r (expired_at ns hs cs p t f r k)
    unfolding expired_at
    less-all h e zero = record { rows = h; ends = e; lengths = λ o. omega arith }
    less-all h e (suc k) =
        let x = expired_at ns hs cs p t f r k in
        let y = less-all h e k in
        let z = less-expired x (f k) y.rows y.ends in
        pick_all (Less r) (t k) (expired ns hs cs p x (f k)) x
        (record { rows = z.rows; ends = z.ends; lengths = λ o. omega (arith, z.lengths o, y.lengths o) })
        y

    module _ (z : Fair r) where
      abbrev kept : ℕ → ℕ → Bool
      kept n s = concerned (handle_v hs p) (Queue r) n s

      abbrev left : ℕ → List Entry
      left k = keep (passes_at kept t f k) (Queue r)

      kept-left : (k : ℕ) (x : Rings) → Queue x ≡ left k → (n s : ℕ) → concerned (handle_v hs p) (Queue x) n s ≡ kept n s
      kept-left k x e n s = rw (e, carries-keep (passes_at kept t f k) (passes-message kept t f k) (Queue r) n s)

      at-view : (k : ℕ) → ((j : ℕ) → j < k → f j < nodes) → queue_v (expired_at ns hs cs p t f r k) pool ≡ upd (queue_v r pool) p (left k)
      unfolding expired_at
      at-view zero h = sym (upd-self (queue_v r pool) p (left 0) (keep-every (Queue r)))
      at-view (suc k) h = go (look (t k)) (at-view k (λ j i. h j (omega arith)))
        where
          x : Rings
          x = expired_at ns hs cs p t f r k

          one : (b : Bool) → both b true ≡ b
          one true = refl
          one false = refl

          next : {g : Entry → Bool} → ((d : Entry) → g d ≡ passes_at kept t f (suc k) d) → upd (queue_v r pool) p (keep g (Queue r)) ≡ upd (queue_v r pool) p (left (suc k))
          next e = ap (λ (g : Entry → Bool). upd (queue_v r pool) p (keep g (Queue r))) (fun_ext e)

          go : Seen (t k) → queue_v x pool ≡ upd (queue_v r pool) p (left k) → queue_v (pick (t k) (expired ns hs cs p x (f k)) x) pool ≡ upd (queue_v r pool) p (left (suc k))
          go (is_false e) ih =
              ap (λ (b : Bool). queue_v (pick b (expired ns hs cs p x (f k)) x) pool) e ∙ ih
              ∙ next (λ d. sym (one (passes_at kept t f k d)) ∙ ap (λ (b : Bool). both (passes_at kept t f k d) (pick b (passes kept (f k) d) true)) (sym e))
          go (is_true e) ih =
              let here : Queue x ≡ left k = ap (λ (qs : ℕ → List Entry). qs p) ih ∙ upd_same (queue_v r pool) p (left k) in
              ap (λ (b : Bool). queue_v (pick b (expired ns hs cs p x (f k)) x) pool) e
              ∙ expire-view kept x (fair-kept (passes_at kept t f k) (passes-message kept t f k) r x z (less-all z.rows z.ends k) here) (kept-left k x here) (f k) (h k (omega arith))
              ∙ ap₂ (λ (qs : ℕ → List Entry) (q : List Entry). upd qs p (keep (passes kept (f k)) q)) ih here
              ∙ upd-twice (queue_v r pool) p (left k) (keep (passes kept (f k)) (left k))
              ∙ ap (upd (queue_v r pool) p) (keep-both (passes_at kept t f k) (passes kept (f k)) (Queue r))
              ∙ next (λ d. ap (λ (b : Bool). both (passes_at kept t f k d) (pick b (passes kept (f k) d) true)) (sym e))

      -- Each notice that nothing keeps is of a slot that was looked at.
      abbrev pub Sought : ℕ → Entry → Type 0
      Sought k (message n m) = Unit {0}
      Sought k (destroyed n s) = kept n s ≡ false → (j : ℕ) × (j < k) × (t j ≡ true) × (f j ≡ s)
      Sought k (released n s) = Unit {0}

      sought-settled : (k : ℕ) → All (Sought k) (Queue r) → left k ≡ settle (handle_v hs p) (Queue r)
      unfolding settle
      sought-settled k a =
          keep-agree (passes_at kept t f k) (stays (handle_v hs p) (Queue r)) (Queue r)
          (all-imp (Sought k) (λ e. passes_at kept t f k e ≡ stays (handle_v hs p) (Queue r) e) agree (Queue r) a)
        where
          agree : (e : Entry) → Sought k e → passes_at kept t f k e ≡ stays (handle_v hs p) (Queue r) e
          agree (message n m) y = passes-message kept t f k n m
          agree (released n s) y = passes-released kept t f k n s
          agree (destroyed n s) y = go (look (kept n s))
            where
              go : Seen (kept n s) → passes_at kept t f k (destroyed n s) ≡ kept n s
              go (is_true e) = rw e (passes_kept kept t f k n s e)
              go (is_false e) = let w = y e in rw e (passes-gone kept t f k n s e w.0 w.1 w.2 w.3)

      pub sought-view : (k : ℕ) → ((j : ℕ) → j < k → f j < nodes) → All (Sought k) (Queue r) →
          queue_v (expired_at ns hs cs p t f r k) pool ≡ upd (queue_v r pool) p (settle (handle_v hs p) (Queue r))
      sought-view k h a = at-view k h ∙ ap (upd (queue_v r pool) p) (sought-settled k a)

  -- One slot, where every other notice is kept.
  pub one-view : (r : Rings) (s : ℕ) → s < nodes → Fair r → All (Others (handle_v hs p) (Queue r) s) (Queue r) →
      queue_v (expired ns hs cs p r s) pool ≡ upd (queue_v r pool) p (settle (handle_v hs p) (Queue r))
  unfolding expired_at
  one-view r s m z a = sought-view (λ k. true) (λ k. s) r z 1 (λ j i. m) (all-imp (Others (handle_v hs p) (Queue r) s) (Sought (λ k. true) (λ k. s) r z 1) found (Queue r) a)
    where
      found : (e : Entry) → Others (handle_v hs p) (Queue r) s e → Sought (λ k. true) (λ k. s) r z 1 e
      found (message n k) d = tt
      found (destroyed n t) d = λ e. go e (same? s t)
        where
          go : concerned (handle_v hs p) (Queue r) n t ≡ false → Same s t → (j : ℕ) × (j < 1) × (true ≡ true) × (s ≡ t)
          go e (same y) = (0, omega arith, refl, y)
          go e (other y) = clash (sym (d y) ∙ e)
      found (released n t) d = tt

  -- The notices of a queue, the last first: those from a place on have what keeps them.
  module _ (r : Rings) (k : ℕ) where
    abbrev row : Row
    row = entry_at r.rows (row_of p (head_of r.ends p) k)

    less-place : Sized r.rows → length r.ends ≡ ends_size → Less r (expired_place ns hs cs p r k)
    unfolding expired_place
    less-place h e =
        pick_all (Less r) (eqb row.kind kind_destroyed) (expired ns hs cs p r (row.slot % nodes)) r
        (less-expired r (row.slot % nodes) h e)
        (record { rows = h; ends = e; lengths = λ o. omega arith })

    -- one place: what goes nothing keeps, and its notice goes if nothing keeps it
    record Turn (x : Rings) : Type 0 where
      pub test : Entry → Bool
      pub messages : (n : ℕ) (m : Message) → test (message n m) ≡ true
      pub spares : (e : Entry) → stays (handle_v hs p) (Queue r) e ≡ true → test e ≡ true
      pub view : queue_v x pool ≡ upd (queue_v r pool) p (keep test (Queue r))
      pub here : (e : Pair) → e.entry ≡ row → Dated (life_v ns) (entry_v e) → test (entry_v e) ≡ true → stays (handle_v hs p) (Queue r) (entry_v e) ≡ true

    turn : Fair r → Turn (expired_place ns hs cs p r k)
    unfolding expired_place
    turn z = go (look (eqb row.kind kind_destroyed))
      where
        s : ℕ
        s = row.slot % nodes

        c : ℕ → ℕ → Bool
        c n t = concerned (handle_v hs p) (Queue r) n t

        within : s < nodes
        within = omega arith

        spared : (e : Entry) → stays (handle_v hs p) (Queue r) e ≡ true → passes c s e ≡ true
        spared (message n m) y = refl
        spared (released n t) y = refl
        spared (destroyed n t) y = rw y (pick_true (eqb t s))

        gone : row.kind ≡ kind_destroyed → (e : Pair) → e.entry ≡ row → Dated (life_v ns) (entry_v e) → passes c s (entry_v e) ≡ true → stays (handle_v hs p) (Queue r) (entry_v e) ≡ true
        gone y e i d t =
            let f : entry_v e ≡ destroyed e.entry.number e.entry.slot = entry-destroyed e (ap (λ (x : Row). x.kind) i ∙ y) in
            let m : e.entry.slot < nodes = (rw f at d).1 in
            let j : e.entry.slot ≡ row.slot = ap (λ (x : Row). x.slot) i in
            let w : e.entry.slot ≡ s = omega arith in
            rw f (rw (eq-eqb e.entry.slot s w) at (rw f at t))

        go : Seen (eqb row.kind kind_destroyed) → Turn (pick (eqb row.kind kind_destroyed) (expired ns hs cs p r s) r)
        go (is_true y) =
            rw y
            record {
              test = passes c s;
              messages = λ n m. refl;
              spares = spared;
              view = expire-view c r z (λ n t. refl) s within;
              here = gone (eqb-true row.kind kind_destroyed y);
            }
        go (is_false y) =
            rw y
            record {
              test = λ e. true;
              messages = λ n m. refl;
              spares = λ e d. refl;
              view = sym (upd-self (queue_v r pool) p (keep (λ e. true) (Queue r)) (keep-every (Queue r)));
              here = λ e i d t. entry-stays (handle_v hs p) (Queue r) e (ap (λ (x : Row). eqb x.kind kind_destroyed) i ∙ y);
            }

  less-below : (k : ℕ) (r : Rings) → Sized r.rows → length r.ends ≡ ends_size → Less r (expired_below ns hs cs p r k)
  unfolding expired_below
  less-below zero r h e = record { rows = h; ends = e; lengths = λ o. omega arith }
  less-below (suc k) r h e =
      let y = less-place r k h e in
      let z = less-below k (expired_place ns hs cs p r k) y.rows y.ends in
      record { rows = z.rows; ends = z.ends; lengths = λ o. omega (arith, z.lengths o, y.lengths o) }

  pub less-queue : (r : Rings) → Sized r.rows → length r.ends ≡ ends_size → Less r (expired_all ns hs cs p r)
  less-queue r h e =
      pick_all (Less r) (leb (length_of r.ends p) ring_size) (expired_below ns hs cs p r (length_of r.ends p)) r
      (less-below (length_of r.ends p) r h e)
      (record { rows = h; ends = e; lengths = λ o. omega arith })

  below-view : (k : ℕ) (r : Rings) → Fair r → All (λ e. stays (handle_v hs p) (Queue r) e ≡ true) (drop k (Queue r)) →
      queue_v (expired_below ns hs cs p r k) pool ≡ upd (queue_v r pool) p (settle (handle_v hs p) (Queue r))
  unfolding expired_below
  below-view zero r z a = sym (upd-self (queue_v r pool) p (settle (handle_v hs p) (Queue r)) (settle-founded (handle_v hs p) (Queue r) a))
  below-view (suc k) r z a =
      below-view k x (fair-kept y.test y.messages r x z (less-place r k z.rows z.ends) now) (rw now late)
      ∙ ap₂ (λ (qs : ℕ → List Entry) (q : List Entry). upd qs p q) y.view (ap (settle h) now ∙ settle-kept h y.test y.messages (Queue r) y.spares)
      ∙ upd-twice (queue_v r pool) p (keep y.test (Queue r)) (settle h (Queue r))
    where
      h : ℕ → Handle
      h = handle_v hs p

      x : Rings
      x = expired_place ns hs cs p r k

      y : Turn r k x
      y = turn r k z

      now : Queue x ≡ keep y.test (Queue r)
      now = ap (λ (qs : ℕ → List Entry). qs p) y.view ∙ upd_same (queue_v r pool) p (keep y.test (Queue r))

      at_least : All (λ e. y.test e ≡ true → stays h (Queue r) e ≡ true) (drop k (Queue r))
      at_least =
          from_place (λ e. y.test e ≡ true → stays h (Queue r) e ≡ true) (Dated (life_v ns)) r pool p k l
          (all-imp (λ e. stays h (Queue r) e ≡ true) (λ e. y.test e ≡ true → stays h (Queue r) e ≡ true) (λ e d t. d) (drop (suc k) (Queue r)) a)
          z.dated y.here

      late : All (λ e. stays h (keep y.test (Queue r)) e ≡ true) (drop k (keep y.test (Queue r)))
      late =
          drop-keep y.test (λ e. stays h (keep y.test (Queue r)) e ≡ true) k (Queue r)
          (all-imp (λ e. y.test e ≡ true → stays h (Queue r) e ≡ true) (λ e. y.test e ≡ true → stays h (keep y.test (Queue r)) e ≡ true)
          (λ e d t. stays-kept h y.test y.messages (Queue r) e ∙ d t) (drop k (Queue r)) at_least)

  -- Every destroy notice in the queue.
  pub all-view : (r : Rings) → Fair r → queue_v (expired_all ns hs cs p r) pool ≡ upd (queue_v r pool) p (settle (handle_v hs p) (Queue r))
  all-view r z =
      rw (le-leb (length_of r.ends p) ring_size z.short)
      (below-view (length_of r.ends p) r z
      (rw (drop_of_length-le (Queue r) {i = length_of r.ends p} (omega (arith, queue-count r pool p l))) tt))
