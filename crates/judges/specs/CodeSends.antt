-- The laws that the proofs of a send's judgement cite: the slots of its IDs, the walks over them, and one law for each return, over plain variables.
-- Assumes nothing.
use Prim.Native.Nat.{ℕ, zero, suc, ◌+◌, ◌-◌, ◌*◌, ◌/◌, ◌%◌, ◌≤◌, ◌<◌}
use Rattle.std.specs.Prelude.{◌≡◌, Bool, List, [], ◌∷◌, ◌++◌, map, length, get_or, set, take, drop, replicate, eqb, ltb, cond, ◌&&◌, Option, Some, None, Ok, Err}
use Rattle.std.specs.List.{filter, list_all}
use Rattle.std.proofs.Math.Path.{refl, sym, ap}
use Rattle.std.proofs.Common.{ap₂, ◌∙◌, arith, zero-add, mul-le-mul_left, add-one, length-append, take_at, drop-cons}
use Rattle.std.proofs.Math.Bool.{true, false}
use Rattle.std.proofs.lemmas.List.{length-replicate, set_at}
use Rattle.std.proofs.lemmas.List.Sums.{length-filter, count_by-le-length}
use Rattle.std.proofs.lemmas.List.Edits.{sets-eq}
use Rattle.std.proofs.Math.Seq.{append_snoc}
use borrow.Author.Tests.{ne_eqb, eq-eqb, lt-ltb}
use Rattle.laws.specs.Tests.{pick}
use Rattle.laws.specs.Weights.{All, keep}
use Rattle.laws.specs.Build.{build, build-snoc, build-length}
use Rattle.ids.specs.declared.Refusal.TheVariants as refusal
use Rattle.ids.specs.declared.User.{User}
use Rattle.ids.specs.declared.HandleId.{HandleId}
use Rattle.frames.specs.Frame.{send_id}
use Rattle.quota.specs.declared.Charges.{Charges}
use Rattle.quota.specs.Charges.{allows_all}
use Rattle.tables.specs.Nodes.{live_at}
use Rattle.tables.specs.Handles.{lookup, find_at}
use Rattle.tables.specs.Charges.{charges_at}
use Rattle.model.specs.Lists.{both, every}
use Rattle.model.specs.Refusals.{places_at}
use Rattle.judges.specs.Orders.{eight, ids_from, slots_at, living_at, allowed_at, affordable_at}
use Rattle.judges.specs.CodeOrders.{missing, found}
use Rattle.ids.specs.Sizes.{peers, slots, most_ids, most_bytes}
use Rattle.model.specs.Numbers.{nodes}

-- Tests of every element.
module _ {A : Type 0} where
  pub every_append : (t : A → Bool) (xs ys : List A) → every t (xs ++ ys) ≡ both (every t xs) (every t ys)
  every_append t [] ys = refl
  every_append t (x ∷ xs) ys = go (t x) (every_append t xs ys)
    where
      go : (b : Bool) → every t (xs ++ ys) ≡ both (every t xs) (every t ys) → both b (every t (xs ++ ys)) ≡ both (both b (every t xs)) (every t ys)
      go true ih = ih
      go false ih = refl

  pub every-same : (t u : A → Bool) (xs : List A) → All (λ x. t x ≡ u x) xs → every t xs ≡ every u xs
  every-same t u [] h = refl
  every-same t u (x ∷ xs) h = ap₂ both h.0 (every-same t u xs h.1)

  every-broken : (t : A → Bool) (f : ℕ → A) (n k : ℕ) → k < n → t (f k) ≡ false → every t (build f n) ≡ false
  unfolding build
  every-broken t f zero k l e = absurd (omega arith)
  every-broken t f (suc n) zero l e = rw e
  every-broken t f (suc n) (suc k) l e = go (t (f zero)) (every-broken t (λ j. f (suc j)) n k (omega arith) e)
    where
      go : (b : Bool) → every t (build (λ j. f (suc j)) n) ≡ false → both b (every t (build (λ j. f (suc j)) n)) ≡ false
      go true ih = ih
      go false ih = refl

  map_snoc : {B : Type 0} (f : A → B) (xs : List A) (x : A) → map f (xs ++ (x ∷ [])) ≡ map f xs ++ (f x ∷ [])
  map_snoc f [] x = refl
  map_snoc f (y ∷ xs) x = ap (◌∷◌ (f y)) (map_snoc f xs x)

  pub map-length : {B : Type 0} (f : A → B) (xs : List A) → length (map f xs) ≡ length xs
  map-length f [] = refl
  map-length f (x ∷ xs) = ap suc (map-length f xs)

-- Eight places.
abbrev zeros : List ℕ
zeros = replicate most_ids 0

zeros-length : length zeros ≡ most_ids
zeros-length = length-replicate {A = ℕ} most_ids 0

pub eight_is : (l : List ℕ) → length l ≤ most_ids → eight l ≡ l ++ drop (length l) zeros
unfolding eight
eight_is l h = sets-eq l zeros 0 (omega (arith, zeros-length)) ∙ rw zero-add

pub eight-take : (l : List ℕ) (n : ℕ) → length l ≡ n → n ≤ most_ids → take n (eight l) ≡ l
eight-take l n e h = ap (take n) (eight_is l (omega arith)) ∙ take_at l (drop (length l) zeros) n e

eight-snoc : (l : List ℕ) (n v : ℕ) → length l ≡ n → n < most_ids → set (eight l) n v ≡ eight (l ++ (v ∷ []))
eight-snoc l n v e h =
    let z : length l < length zeros = omega (arith, zeros-length) in
    let m : length (l ++ (v ∷ [])) ≡ suc (length l) = length-append l (v ∷ []) ∙ add-one (length l) in
    ap (λ (x : List ℕ). set x n v) (eight_is l (omega arith) ∙ ap (λ (x : List ℕ). l ++ x) (drop-cons zeros (length l) 0 z))
    ∙ set_at l (get_or zeros (length l) 0) (drop (suc (length l)) zeros) v n e
    ∙ sym (append_snoc l v (drop (suc (length l)) zeros))
    ∙ ap (λ (x : ℕ). (l ++ (v ∷ [])) ++ drop x zeros) (sym m)
    ∙ sym (eight_is (l ++ (v ∷ [])) (omega arith))

-- slots_of
abbrev pub held_by : List ℕ → ℕ → ℕ → Bool
held_by hs p i = ltb (find_at hs p i) nodes

pub record Looked (hs f : List ℕ) (p from n : ℕ) (at : List ℕ) (k : ℕ) : Type 0 where
  pub some : k ≤ n
  pub held : every (held_by hs p) (ids_from f from k) ≡ true
  pub slots : at ≡ eight (map (find_at hs p) (ids_from f from k))

module _ (hs f : List ℕ) (p from n : ℕ) where
  pub looked-start : Looked hs f p from n (replicate most_ids 0) 0
  unfolding build eight
  looked-start = record { some = omega arith; held = refl; slots = refl }

  module _ (l : p < peers) {at : List ℕ} (k : ℕ) (w : Looked hs f p from n at k) where
    module _ (h : k < n) {i : HandleId} (ei : i ≡ send_id f (from + k)) {x : Option ℕ} (ex : x ≡ lookup hs p i.0) where
      id : i.0 ≡ (send_id f (from + k)).0
      id = ap (λ (j : HandleId). j.0) ei

      pub looked-missing : x ≡ None → Err refusal.ENXIO ≡ slots_at hs p (ids_from f from n)
      unfolding slots_at
      looked-missing g =
          let m : find_at hs p (send_id f (from + k)).0 ≡ nodes = ap (find_at hs p) (sym id) ∙ missing hs p l i.0 ex g in
          let b : held_by hs p (send_id f (from + k)).0 ≡ false = rw m in
          rw (every-broken (held_by hs p) (λ j. (send_id f (from + j)).0) n k h b)

      pub looked-more : n ≤ most_ids → (s : ℕ) → x ≡ Some s → Looked hs f p from n (set at k s) (k + 1)
      looked-more small s g =
          let m = found hs p l i.0 ex s g in
          let y : s ≡ find_at hs p (send_id f (from + k)).0 = m.0 ∙ ap (find_at hs p) id in
          let b : held_by hs p (send_id f (from + k)).0 ≡ true = rw (← y) (lt-ltb s nodes m.1) in
          let more : ids_from f from (k + 1) ≡ ids_from f from k ++ ((send_id f (from + k)).0 ∷ []) = rw add-one (build-snoc (λ j. (send_id f (from + j)).0) k) in
          let long : length (map (find_at hs p) (ids_from f from k)) ≡ k = map-length (find_at hs p) (ids_from f from k) ∙ build-length (λ j. (send_id f (from + j)).0) k in
          record {
            some = omega arith;
            held = rw (more, every_append (held_by hs p) (ids_from f from k) ((send_id f (from + k)).0 ∷ []), w.held, b);
            slots =
                ap (λ (a : List ℕ). set a k s) w.slots
                ∙ eight-snoc (map (find_at hs p) (ids_from f from k)) k s long (omega arith)
                ∙ rw (more, map_snoc (find_at hs p) (ids_from f from k) (send_id f (from + k)).0, ← y);
          }

    pub looked-end : n ≤ k → Ok at ≡ slots_at hs p (ids_from f from n)
    unfolding slots_at
    looked-end h = let e : n ≡ k = omega (arith, w.some) in rw (e, w.held, ← w.slots)

-- What the iterators answer over a list of slots is the model's.
all-every : {A : Type 0} (t : A → Bool) (xs : List A) → list_all t xs ≡ every t xs
all-every t [] = refl
all-every t (x ∷ xs) = go (t x) (all-every t xs)
  where
    go : (b : Bool) → list_all t xs ≡ every t xs → b && list_all t xs ≡ both b (every t xs)
    go true ih = ih
    go false ih = refl

filter-keep : {A : Type 0} (t : A → Bool) (xs : List A) → filter t xs ≡ keep t xs
filter-keep t [] = refl
filter-keep t (x ∷ xs) = go (t x) (filter-keep t xs)
  where
    go : (b : Bool) → filter t xs ≡ keep t xs → cond b (x ∷ filter t xs) (filter t xs) ≡ pick b (x ∷ keep t xs) (keep t xs)
    go true ih = ap (◌∷◌ x) ih
    go false ih = ih

-- living
pub living-is : (ns ss : List ℕ) {b : Bool} → b ≡ list_all (λ s. live_at ns (s % nodes)) ss → b ≡ living_at ns ss
unfolding living_at
living-is ns ss e = e ∙ all-every (λ s. live_at ns (s % nodes)) ss

-- places_at
pub places-few : (l : List ℕ) (p : ℕ) → length l ≤ most_ids → length (filter (λ s. eqb (s / slots) p) l) ≤ most_ids
places-few l p h = omega (arith, length-filter (λ s. eqb (s / slots) p) l, count_by-le-length (λ s. eqb (s / slots) p) l)

pub places-is : (l : List ℕ) (p : ℕ) {m : ℕ} → m ≡ length (filter (λ s. eqb (s / slots) p) l) → m ≡ places_at p l
unfolding places_at
places-is l p e = e ∙ ap length (filter-keep (λ s. eqb (s / slots) p) l)

-- allowed_at
pub product : (m n : ℕ) → m ≤ most_ids → n ≤ most_bytes → m * n ≤ 4096
product m n l h = omega (arith, mul-le-mul_left m h)

pub allowed-is : (cs : List ℕ) (u : User) (ds : List ℕ) (nb nh p : ℕ) {m : ℕ} {c : Charges} {b : Bool} → m ≡ places_at p ds → c ≡ charges_at cs p →
    b ≡ allows_all c u (record { messages = m; bytes = m * nb; handles = m * nh }) → b ≡ allowed_at cs u ds nb nh p
unfolding allowed_at
allowed-is cs u ds nb nh p em ec eb = eb ∙ rw (em, ec)

-- affordable
pub affordable-is : (cs : List ℕ) (u : User) (ds : List ℕ) (nb nh : ℕ) {b : Bool} → b ≡ list_all (λ d. allowed_at cs u ds nb nh (d / slots % peers)) ds →
    b ≡ affordable_at cs u ds nb nh
unfolding affordable_at
affordable-is cs u ds nb nh e = e ∙ all-every (λ d. allowed_at cs u ds nb nh (d / slots % peers)) ds

-- The same facts for a walk element by element, over the first n of some slots: what is left of them from the place k on.
abbrev pub rest : List ℕ → ℕ → ℕ → List ℕ
rest l n k = take (n - k) (drop k l)

module _ (l : List ℕ) (n : ℕ) where
  rest-start : rest l n 0 ≡ take n l
  rest-start = let e : n - 0 ≡ n = omega arith in rw e

  rest-next : (k : ℕ) → k < n → n ≤ length l → rest l n k ≡ get_or l k 0 ∷ rest l n (k + 1)
  rest-next k h z =
      let e : n - k ≡ suc (n - (k + 1)) = omega arith in
      ap₂ (λ (m : ℕ) (x : List ℕ). take m x) e (drop-cons l k 0 (omega arith)) ∙ rw add-one

  rest_end : (k : ℕ) → n ≤ k → rest l n k ≡ []
  rest_end k h = let e : n - k ≡ 0 = omega arith in rw e

-- living
pub record Living (ns l : List ℕ) (n k : ℕ) : Type 0 where
  pub some : k ≤ n
  pub same : living_at ns (take n l) ≡ living_at ns (rest l n k)

module _ (ns l : List ℕ) (n : ℕ) where
  pub living-start : Living ns l n 0
  living-start = record { some = omega arith; same = ap (living_at ns) (sym (rest-start l n)) }

  module _ (k : ℕ) (w : Living ns l n k) where
    module _ (h : k < n) (z : n ≤ length l) {b : Bool} (e : b ≡ live_at ns (get_or l k 0 % nodes)) where
      pub living-dead : b ≡ false → false ≡ living_at ns (take n l)
      unfolding living_at
      living-dead g = sym (w.same ∙ rw (rest-next l n k h z, ← e, g))

      pub living-more : b ≡ true → Living ns l n (k + 1)
      unfolding living_at
      living-more g = record { some = omega arith; same = w.same ∙ rw (rest-next l n k h z, ← e, g) }

    pub living-end : n ≤ k → true ≡ living_at ns (take n l)
    unfolding living_at
    living-end h = sym (w.same ∙ rw (rest_end l n k h))

-- places_at
pub record Counted (l : List ℕ) (n p k m : ℕ) : Type 0 where
  pub some : k ≤ n
  pub few : m ≤ k
  pub same : places_at p (take n l) ≡ m + places_at p (rest l n k)

module _ (l : List ℕ) (n p : ℕ) where
  pub counted_start : Counted l n p 0 0
  counted_start = record { some = omega arith; few = omega arith; same = ap (places_at p) (sym (rest-start l n)) ∙ sym (zero-add _) }

  module _ (k m : ℕ) (w : Counted l n p k m) where
    module _ (h : k < n) (z : n ≤ length l) where
      pub counted-own : {m₁ : ℕ} → get_or l k 0 / slots ≡ p → m₁ ≡ m + 1 → Counted l n p (k + 1) m₁
      unfolding places_at
      counted-own {m₁} e g =
          let x : places_at p (rest l n k) ≡ suc (places_at p (rest l n (k + 1))) = rw (rest-next l n k h z, eq-eqb (get_or l k 0 / slots) p e) in
          record { some = omega arith; few = omega (arith, w.few, g); same = w.same ∙ omega (arith, x, g) }

      pub counted-other : {m₁ : ℕ} → (get_or l k 0 / slots ≡ p → ⊥) → m₁ ≡ m → Counted l n p (k + 1) m₁
      unfolding places_at
      counted-other {m₁} e g =
          let x : places_at p (rest l n k) ≡ places_at p (rest l n (k + 1)) = rw (rest-next l n k h z, ne_eqb (get_or l k 0 / slots) p e) in
          record { some = omega arith; few = omega (arith, w.few, g); same = w.same ∙ omega (arith, x, g) }

    pub counted-end : n ≤ k → n ≤ most_ids → (m ≡ places_at p (take n l)) × (m ≤ most_ids)
    unfolding places_at
    counted-end h z =
        let x : places_at p (rest l n k) ≡ 0 = rw (rest_end l n k h) in
        (omega (arith, w.same, x), omega (arith, w.some, w.few))

-- affordable
pub record Affordable (cs : List ℕ) (u : User) (l : List ℕ) (n nb nh k : ℕ) : Type 0 where
  pub some : k ≤ n
  pub same : affordable_at cs u (take n l) nb nh ≡ every (λ d. allowed_at cs u (take n l) nb nh (d / slots % peers)) (rest l n k)

module _ (cs : List ℕ) (u : User) (l : List ℕ) (n nb nh : ℕ) where
  pub affordable-start : Affordable cs u l n nb nh 0
  unfolding affordable_at
  affordable-start = record { some = omega arith; same = ap (every (λ d. allowed_at cs u (take n l) nb nh (d / slots % peers))) (sym (rest-start l n)) }

  module _ (k : ℕ) (w : Affordable cs u l n nb nh k) where
    module _ (h : k < n) (z : n ≤ length l) {b : Bool} (e : b ≡ allowed_at cs u (take n l) nb nh (get_or l k 0 / slots % peers)) where
      pub affordable-over : b ≡ false → false ≡ affordable_at cs u (take n l) nb nh
      affordable-over g = sym (w.same ∙ rw (rest-next l n k h z, ← e, g))

      pub affordable-more : b ≡ true → Affordable cs u l n nb nh (k + 1)
      affordable-more g = record { some = omega arith; same = w.same ∙ rw (rest-next l n k h z, ← e, g) }

    pub affordable-end : n ≤ k → true ≡ affordable_at cs u (take n l) nb nh
    affordable-end h = sym (w.same ∙ rw (rest_end l n k h))
