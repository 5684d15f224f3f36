-- The laws that the proofs of a create's judgement cite, one for each return, over plain variables.
-- Assumes nothing.
use Rattle.std.specs.Prelude.{ℕ, ◌+◌, ◌*◌, ◌≤◌, ◌<◌, ◌≡◌, refl, Bool, false, List, [], ltb, Option, Some, None, is_some}
use Rattle.std.proofs.Common.{sym, ap, ◌∙◌, arith, below_more}
use Rattle.std.proofs.Math.Bool.{true, not}
use borrow.Author.Tests.{ne_eqb, lt-ltb}
use Rattle.laws.specs.Tests.{Seen, Seen.is_true, Seen.is_false, look}
use Rattle.laws.specs.Search.{first, first-is}
use Rattle.ids.specs.Refusals.{EEXIST, ENOSPC}
use Rattle.ids.specs.declared.Peer.{Peer}
use Rattle.ids.specs.declared.HandleId.{HandleId}
use Rattle.rings.specs.Rings.{Rings}
use Rattle.tables.specs.Nodes.{live_at}
use Rattle.tables.specs.Handles.{lookup, find_at, holders_at}
use Rattle.seeds.specs.Seeds.{seed_v}
use Rattle.queues.specs.Queues.{named_in}
use Rattle.model.specs.Numbers.{nodes, slots}
use Rattle.model.specs.State.{seeded}
use Rattle.model.specs.Refusals.{create_by}
use Rattle.judges.specs.declared.Order.TheVariants as order
use Rattle.judges.specs.Orders.{unless, seen, no_rings, counts_at, free_at, starts_at, place_found}
use Rattle.judges.specs.CodeOrders.{refused, granted, missing, found, stop, pass}
use Rattle.ids.specs.Sizes.{peers}

-- counts
module _ (ns hs cs : List ℕ) (rs : Rings) (sd : List ℕ) (s : ℕ) {a : Bool} (ea : a ≡ live_at ns s) where
  pub counts-live : a ≡ true → true ≡ counts_at ns hs cs rs sd s
  unfolding counts_at
  counts-live f = rw (← ea, f)

  module _ (f : a ≡ false) {h : ℕ} (eh : h ≡ holders_at hs s) where
    pub counts-held : (h ≡ 0 → ⊥) → true ≡ counts_at ns hs cs rs sd s
    unfolding counts_at
    counts-held ne = rw (← ea, f, ← eh, ne_eqb h 0 ne)

    module _ (z : h ≡ 0) {b : Bool} (eb : b ≡ named_in cs rs s) where
      pub counts-named : b ≡ true → true ≡ counts_at ns hs cs rs sd s
      unfolding counts_at
      counts-named g = rw (← ea, f, ← eh, z, ← eb, g)

      pub counts-seeded : b ≡ false → {d : Bool} → d ≡ seeded (seed_v sd) s → d ≡ counts_at ns hs cs rs sd s
      unfolding counts_at
      counts-seeded g ed = rw (← ea, f, ← eh, z, ← eb, g) ed

-- free_slot
pub record Taken (ns hs cs : List ℕ) (rs : Rings) (sd : List ℕ) (p k : ℕ) : Type 0 where
  pub some : k ≤ slots
  pub before : (j : ℕ) → j < k → not (counts_at ns hs cs rs sd (p * slots + j)) ≡ false

module _ (ns hs cs : List ℕ) (rs : Rings) (sd : List ℕ) (p : ℕ) where
  pub taken_start : Taken ns hs cs rs sd p 0
  taken_start = record { some = omega arith; before = λ j l. absurd (omega arith) }

  module _ (k : ℕ) (w : Taken ns hs cs rs sd p k) where
    module _ (h : k < slots) {b : Bool} (eb : b ≡ counts_at ns hs cs rs sd (p * slots + k)) where
      pub taken_free : b ≡ false → Some (p * slots + k) ≡ place_found p (free_at ns hs cs rs sd p)
      unfolding free_at
      taken_free f =
          let here : not (counts_at ns hs cs rs sd (p * slots + k)) ≡ true = rw (← eb, f) in
          let e : k ≡ first (λ j. not (counts_at ns hs cs rs sd (p * slots + j))) slots =
          first-is (λ j. not (counts_at ns hs cs rs sd (p * slots + j))) slots k (omega arith) w.before (λ _. here) in
          rw (← e, lt-ltb k slots h)

      pub taken_more : b ≡ true → Taken ns hs cs rs sd p (k + 1)
      taken_more f = record {
        some = omega arith;
        before = below_more (λ j. not (counts_at ns hs cs rs sd (p * slots + j)) ≡ false) k w.before (rw (← eb, f));
      }

    pub taken-all : slots ≤ k → None ≡ place_found p (free_at ns hs cs rs sd p)
    unfolding free_at
    taken-all h =
        let z : slots ≡ k = omega (arith, w.some) in
        let e : slots ≡ first (λ j. not (counts_at ns hs cs rs sd (p * slots + j))) slots =
        first-is (λ j. not (counts_at ns hs cs rs sd (p * slots + j))) slots slots (omega arith) (λ j l. w.before j (omega arith)) (λ l. absurd (omega arith)) in
        rw (← e)

-- judge_create
some-is : (x : Option ℕ) → is_some x ≡ true → (s : ℕ) × (x ≡ Some s)
some-is (Some s) e = (s, refl)
some-is None e = let z : ◌≡◌ {A = ℕ} 0 1 = cc in absurd (omega arith)

none-is : (x : Option ℕ) → is_some x ≡ false → x ≡ None
none-is (Some s) e = let z : ◌≡◌ {A = ℕ} 0 1 = cc in absurd (omega arith)
none-is None e = refl

place_none : (p k : ℕ) → None ≡ place_found p k → ltb k slots ≡ false
place_none p k e = go (look (ltb k slots))
  where
    go : Seen (ltb k slots) → ltb k slots ≡ false
    go (is_true f) =
        let x : place_found p k ≡ Some (p * slots + k) = rw f in
        let y : None ≡ Some (p * slots + k) = e ∙ x in
        let z : ◌≡◌ {A = ℕ} 0 1 = cc in
        absurd (omega arith)
    go (is_false f) = f

place_at : (p k s : ℕ) → Some s ≡ place_found p k → (ltb k slots ≡ true) × (s ≡ p * slots + k)
place_at p k s e = go (look (ltb k slots))
  where
    go : Seen (ltb k slots) → (ltb k slots ≡ true) × (s ≡ p * slots + k)
    go (is_true f) =
        let x : place_found p k ≡ Some (p * slots + k) = rw f in
        let y : Some s ≡ Some (p * slots + k) = e ∙ x in
        let z : s ≡ p * slots + k = cc in
        (f, z)
    go (is_false f) =
        let x : place_found p k ≡ None = rw f in
        let y : Some s ≡ None = e ∙ x in
        let z : ◌≡◌ {A = ℕ} 0 1 = cc in
        absurd (omega arith)

module _ (ps : List ℕ) (p : Peer) (l : p.0 < peers) {n : ℕ} (e : n ≡ starts_at ps p.0) (ns hs cs : List ℕ) (rs : Rings) (sd : List ℕ) (i : HandleId) where
  pub create-refused : (n ≡ 0 → ⊥) → order.Refuse n ≡ unless (create_by (find_at hs p.0) (free_at ns hs cs rs sd p.0) (seen ps [] [] [] no_rings) p.0 i.0) (order.Create p i (p.0 * slots + free_at ns hs cs rs sd p.0))
  create-refused ne = refused _ (stop ps p l e ne _) ne

  module _ (z : n ≡ 0) {x : Option ℕ} (ex : x ≡ lookup hs p.0 i.0) where
    pub create-held : is_some x ≡ true → order.Refuse EEXIST ≡ unless (create_by (find_at hs p.0) (free_at ns hs cs rs sd p.0) (seen ps [] [] [] no_rings) p.0 i.0) (order.Create p i (p.0 * slots + free_at ns hs cs rs sd p.0))
    create-held g =
        let f = some-is x g in
        let w = found hs p.0 l i.0 ex f.0 f.1 in
        refused _ (pass ps p l e z _ ∙ rw (← w.0, lt-ltb f.0 nodes w.1)) (λ y. absurd (omega arith))

    module _ (nothing : is_some x ≡ false) {y : Option ℕ} (ey : y ≡ place_found p.0 (free_at ns hs cs rs sd p.0)) where
      f : x ≡ None
      f = none-is x nothing

      pub create-full : y ≡ None → order.Refuse ENOSPC ≡ unless (create_by (find_at hs p.0) (free_at ns hs cs rs sd p.0) (seen ps [] [] [] no_rings) p.0 i.0) (order.Create p i (p.0 * slots + free_at ns hs cs rs sd p.0))
      create-full g =
          let b : ltb (free_at ns hs cs rs sd p.0) slots ≡ false = place_none p.0 (free_at ns hs cs rs sd p.0) (sym g ∙ ey) in
          refused _ (pass ps p l e z _ ∙ rw (missing hs p.0 l i.0 ex f, b)) (λ y. absurd (omega arith))

      pub create-granted : (s : ℕ) → y ≡ Some s → order.Create p i s ≡ unless (create_by (find_at hs p.0) (free_at ns hs cs rs sd p.0) (seen ps [] [] [] no_rings) p.0 i.0) (order.Create p i (p.0 * slots + free_at ns hs cs rs sd p.0))
      create-granted s g =
          let b = place_at p.0 (free_at ns hs cs rs sd p.0) s (sym g ∙ ey) in
          ap (order.Create p i) b.1
          ∙ granted _ (pass ps p l e z _ ∙ rw (missing hs p.0 l i.0 ex f, b.0))
