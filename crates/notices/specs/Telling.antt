-- What the functions of the notices do to the state that the tables stand for: notices queued, by ascending ID, and nodes destroyed.
-- Assumes nothing.
use Prim.Native.Nat.{ℕ, zero, suc, ◌+◌, ◌*◌, ◌-◌, ◌/◌, ◌%◌, ◌^◌, ◌≤◌, ◌<◌}
use Rattle.std.specs.Prelude.{◌≡◌, not, length, get_or, eqb, ltb, Option, Some, None}
use Rattle.std.proofs.Math.Path.{refl, ap, ap₂, fun_ext}
use Rattle.std.proofs.Common.{sym, ◌∙◌, length-append, eqb-true, eq-eqb, ne_eqb, ltb-true, ltb-false, lt-ltb, le-ltb}
use Rattle.std.proofs.Math.Bool.{Bool, true, false}
use mathlib.Core.List.{List, [], ◌∷◌, ◌++◌, map, append-nil, append_assoc}
use native.Mathlib.Omega.{arith}
use Rattle.std.proofs.Math.ListN.{length-map}
use Rattle.std.proofs.lemmas.List.{get_or-replicate}
use Rattle.std.specs.Int.Count.{count_trailing_zeros}
use Rattle.std.proofs.lemmas.Bool.{not-true}
use Rattle.laws.specs.Tests.{pick, Seen, Seen.is_true, Seen.is_false, look, Same, Same.same, Same.other, same?, clash, pick_all}
use Rattle.laws.specs.Tables.{upd, upd_same, upd_other}
use Rattle.laws.specs.Weights.{All, keep, all-imp}
use Rattle.laws.specs.Loads.{keep-every}
use Rattle.laws.specs.Sums.{sum-at}
use Rattle.laws.specs.Bits.{bits, bits-ext, bits_none, Walked, bits-walk}
use Rattle.laws.specs.Build.{build-at}
use Rattle.rings.specs.declared.Entry.{Entry as Row}
use Rattle.rings.specs.Rings.{kind_destroyed, kind_released, slots, ring_size, ends_size, Rings, Sized, length_of, bit_at, one_slot}
use Rattle.rings.specs.Matches.{bit-one}
use Rattle.pool.specs.Pool.{bytes_in}
use Rattle.tables.specs.PeersView.{accepted_v}
use Rattle.tables.specs.Nodes.{set_dead}
use Rattle.tables.specs.NodesView.{life_v, life-dead, live-is, dead-length}
use Rattle.tables.specs.Handles.{handles_size, id_at, count_at, total_at, clear_peer}
use Rattle.tables.specs.HandlesView.{handle_v, handle-is, held-is, id-is, count-is, total-is, handle-clear}
use Rattle.model.specs.Numbers.{nodes, peers, owner}
use Rattle.model.specs.Lists.{both, either, any, Found, lower, least, follow, rising}
use Rattle.model.specs.Lists.Found.{nowhere, at}
use Rattle.model.specs.State.{Life, is_live, Handle, handle_of, held, count, Entry, earlier, concerned, owner_id, total, by_owner_id}
use Rattle.model.specs.State.Handle.{none, some}
use Rattle.model.specs.State.Life.{dead}
use Rattle.model.specs.State.Entry.{message, destroyed, released}
use Rattle.model.specs.Tables.{with_queues, with_lives}
use Rattle.model.specs.Changes.{push_all, at_peers, not_released, withdraw, destroy_notices, destroy_all}
use Rattle.model.specs.Notices.{Stands}
use Rattle.model.specs.Ids.{Handles}
use Rattle.model.specs.Occurs.{no, both_true}
use Rattle.model.specs.Rising.{rising-pass}
use Rattle.view.specs.View.{Bus, set_nodes, set_rings, Shape, shape-nodes, shape-rings, state_of, entry_v, queue_v}
use Rattle.view.specs.Rows.{queue-count}
use Rattle.queues.specs.Queues.{Short, entered, withdrawn}
use Rattle.queues.specs.Carrying.{Unladen, before-view}
use Rattle.queues.specs.Entering.{entry-destroyed, entry-released, enter-sized, enter-ends, enter-view}
use Rattle.queues.specs.Leaving.{withdraw-view, withdraw-rows, withdraw-ends, withdraw-length, withdraw-lengths, in_mask, release-match, release-bytes}
use Rattle.notices.specs.declared.Asked.TheVariants.{Living, Falling}
use Rattle.notices.specs.Notices.{notice_of, key_at, above_at, lower_of, least_at, posted_to, tells_at, addressees, addressees_at, addressees_of, owner_alone, following, told, dead_all, Destroyed, released_in, destroyed_set, falls_at, asks, set_of, told_owners}
use Rattle.notices.specs.Rising.{bit-bits, bits-one, Inside, least-inside, rising-ext, rising-length, Apart, keep-rising}
use Rattle.ids.specs.Sizes.{carried_fields, nodes_size}

-- The place with the least ID, in the model's words.
abbrev pub spot : Found → Option ℕ
spot nowhere = None
spot (at j) = Some j

pub least-is : (hs : List ℕ) (q set n : ℕ) → n ≤ slots → least_at hs q set n ≡ spot (least (bit_at set) (key_at hs q) n)
unfolding least_at least
least-is hs q set zero l = refl
least-is hs q set (suc k) l =
    go (look (bit_at set k)) (least (bit_at set) (key_at hs q) k) (least-inside (bit_at set) (key_at hs q) k) (least-is hs q set k (omega arith))
  where
    on : (b : Bool) (j : ℕ) → pick b (Some k) (Some j) ≡ spot (pick b (at k) (at j))
    on true j = refl
    on false j = refl

    go : Seen (bit_at set k) → (x : Found) → Inside (bit_at set) k x → least_at hs q set k ≡ spot x →
        pick (bit_at set k) (lower_of hs q (least_at hs q set k) k) (least_at hs q set k) ≡ spot (pick (bit_at set k) (lower (key_at hs q) k x) x)
    go (is_false e) x g z = rw e z
    go (is_true e) nowhere g z = rw (e, z) refl
    go (is_true e) (at j) g z = let m : j % slots ≡ j = omega (arith, g.1) in rw (e, z, m) (on (ltb (key_at hs q k) (key_at hs q j)) j)

-- The notices of some places, one after another.
unfoldable pub post_all : List ℕ → ℕ → ℕ → ℕ → Rings → List ℕ → Rings
post_all to q kind n r [] = r
post_all to q kind n r (j ∷ js) = post_all to q kind n (posted_to r (notice_of kind (q * slots + j) n) (get_or to j 0) peers) js

above-is : (hs : List ℕ) (q set j k : ℕ) → j < slots → above_at hs q set j k ≡ both (bit_at set k) (ltb (key_at hs q j) (key_at hs q k))
unfolding above_at
above-is hs q set j k l = let m : j % slots ≡ j = omega arith in rw m

pub told-posts : (hs to : List ℕ) (q kind n : ℕ) (r : Rings) (set f : ℕ) → told hs to q kind n r set f ≡ post_all to q kind n r (rising (bit_at set) (key_at hs q) slots f)
unfolding told post_all rising
told-posts hs to q kind n r set zero = refl
told-posts hs to q kind n r set (suc f) =
    ap (λ (x : Option ℕ). following x more r) (least-is hs q set slots (omega arith))
    ∙ go (least (bit_at set) (key_at hs q) slots) (least-inside (bit_at set) (key_at hs q) slots) (λ r set. told-posts hs to q kind n r set f)
  where
    more : ℕ → Rings
    more j = told hs to q kind n (posted_to r (notice_of kind (q * slots + j % slots) n) (get_or to (j % slots) 0) peers) (bits (above_at hs q set j) slots) f

    go : (x : Found) → Inside (bit_at set) slots x → ((r : Rings) (set : ℕ) → told hs to q kind n r set f ≡ post_all to q kind n r (rising (bit_at set) (key_at hs q) slots f)) →
        following (spot x) more r ≡ post_all to q kind n r (follow x (λ i. rising (λ j. both (bit_at set j) (ltb (key_at hs q i) (key_at hs q j))) (key_at hs q) slots f))
    go nowhere g ih = refl
    go (at j) g ih =
        let m : j % slots ≡ j = omega (arith, g.1) in
        let r' = posted_to r (notice_of kind (q * slots + j) n) (get_or to j 0) peers in
        let set' = bits (above_at hs q set j) slots in
        ap (λ (i : ℕ). told hs to q kind n (posted_to r (notice_of kind (q * slots + i) n) (get_or to i 0) peers) set' f) m
        ∙ ih r' set'
        ∙ ap (post_all to q kind n r')
        (rising-ext (bit_at set') (λ k. both (bit_at set k) (ltb (key_at hs q j) (key_at hs q k))) (key_at hs q) (key_at hs q) slots f
        (λ k l. bit-bits (above_at hs q set j) slots k l ∙ above-is hs q set j k g.1) (λ k l e. refl))

-- Rings that have more entries than others: the sizes are right, and at each peer new ones stand behind the old.
pub record More (r r' : Rings) (t : List ℕ) (new : ℕ → List Entry) : Type 0 where
  pub sized : Sized r'.rows
  pub ends : length r'.ends ≡ ends_size
  pub view : queue_v r' t ≡ (λ o. queue_v r t o ++ at_peers new o)

pub more-at : {r r' : Rings} {t : List ℕ} {new : ℕ → List Entry} → More r r' t new → (o : ℕ) → queue_v r' t o ≡ queue_v r t o ++ at_peers new o
more-at m o = ap (λ (f : ℕ → List Entry). f o) m.view

pub more-length : {r r' : Rings} {t : List ℕ} {new : ℕ → List Entry} → More r r' t new → (o : ℕ) → o < peers → length_of r'.ends o ≡ length_of r.ends o + length (new o)
more-length {r = r} {r' = r'} {t = t} {new = new} m o l =
    let e : length (queue_v r t o ++ at_peers new o) ≡ length (queue_v r t o) + length (new o) = rw (lt-ltb o peers l) (length-append (queue_v r t o) (new o)) in
    omega (arith, queue-count r t o l, queue-count r' t o l, ap length (more-at m o), e)

more-none : (r : Rings) (t : List ℕ) → Sized r.rows → length r.ends ≡ ends_size → More r r t (λ o. [])
more-none r t s n = record { sized = s; ends = n; view = fun_ext (λ o. go (queue_v r t o) (ltb o peers)) }
  where
    go : (xs : List Entry) (b : Bool) → xs ≡ xs ++ pick b [] []
    go xs true = sym (append-nil xs)
    go xs false = sym (append-nil xs)

more-ext : {r r' : Rings} {t : List ℕ} {new : ℕ → List Entry} (new' : ℕ → List Entry) → More r r' t new → ((o : ℕ) → o < peers → new o ≡ new' o) → More r r' t new'
more-ext {r = r} {r' = r'} {t = t} {new = new} new' m h = record { sized = m.sized; ends = m.ends; view = fun_ext (λ o. more-at m o ∙ go o (look (ltb o peers))) }
  where
    go : (o : ℕ) → Seen (ltb o peers) → queue_v r t o ++ at_peers new o ≡ queue_v r t o ++ at_peers new' o
    go o (is_true e) = rw e (ap (λ (x : List Entry). queue_v r t o ++ x) (h o (ltb-true o peers e)))
    go o (is_false e) = rw e

more-then : {r r' r'' : Rings} {t : List ℕ} {new new' : ℕ → List Entry} → More r r' t new → More r' r'' t new' → More r r'' t (λ o. new o ++ new' o)
more-then {r = r} {t = t} {new = new} {new' = new'} m k =
    record { sized = k.sized; ends = k.ends; view = fun_ext (λ o. more-at k o ∙ ap (λ (x : List Entry). x ++ at_peers new' o) (more-at m o) ∙ go o (ltb o peers)) }
  where
    go : (o : ℕ) (b : Bool) → (queue_v r t o ++ pick b (new o) []) ++ pick b (new' o) [] ≡ queue_v r t o ++ pick b (new o ++ new' o) []
    go o true = append_assoc (queue_v r t o) (new o) (new' o)
    go o false = append-nil (queue_v r t o ++ [])

nothing : (b : Bool) → pick {A = List Entry} b [] [] ≡ []
nothing true = refl
nothing false = refl

keep-none : (js : List ℕ) → keep (λ j. false) js ≡ []
keep-none [] = refl
keep-none (j ∷ js) = keep-none js

-- A notice entered at one peer.
abbrev pub seen_as : Row → Entry
seen_as e = entry_v (record { entry = e; payload = [] })

enter-more : (r : Rings) (t : List ℕ) (p : ℕ) (e : Row) → Sized r.rows → length r.ends ≡ ends_size → p < peers → length_of r.ends p < ring_size →
    bytes_in e ≡ 0 → length e.carried ≡ carried_fields → More r (entered r p e) t (λ o. pick (eqb p o) (seen_as e ∷ []) [])
enter-more r t p e s n l room z c =
    record {
      sized = enter-sized r p e s;
      ends = enter-ends r p e ∙ n;
      view = enter-view r t p e s n l room z c ∙ fun_ext (λ o. go o (same? p o) (ltb o peers));
    }
  where
    go : (o : ℕ) → Same p o → (b : Bool) → upd (queue_v r t) p (queue_v r t p ++ (seen_as e ∷ [])) o ≡ queue_v r t o ++ at_peers (λ o. pick (eqb p o) (seen_as e ∷ []) []) o
    go o (same d) b = rw (← d, upd_same, eq-eqb p p refl, lt-ltb p peers l)
    go o (other d) b = rw (upd_other (queue_v r t) p o (queue_v r t p ++ (seen_as e ∷ [])) d, ne_eqb p o d, nothing (ltb o peers)) (sym (append-nil (queue_v r t o)))

at_most_one : (b : Bool) (x : Entry) → length (pick b (x ∷ []) []) ≤ 1
at_most_one true x = omega arith
at_most_one false x = omega arith

-- An entry queued at each peer of a set.
module _ (t : List ℕ) (e : Row) (z : bytes_in e ≡ 0) (c : length e.carried ≡ carried_fields) where
  at_set : (u : ℕ → Bool) (q o : ℕ) → u q ≡ true → pick (eqb q o) (seen_as e ∷ []) [] ++ pick (upd u q false o) (seen_as e ∷ []) [] ≡ pick (u o) (seen_as e ∷ []) []
  at_set u q o h = go (same? q o)
    where
      go : Same q o → pick (eqb q o) (seen_as e ∷ []) [] ++ pick (upd u q false o) (seen_as e ∷ []) [] ≡ pick (u o) (seen_as e ∷ []) []
      go (same d) = rw (← d, eq-eqb q q refl, upd_same, h)
      go (other d) = rw (ne_eqb q o d, upd_other u q o false d)

  posted : (f : ℕ) (r : Rings) (set : ℕ) (u : ℕ → Bool) → Sized r.rows → length r.ends ≡ ends_size → set ≡ bits u peers → ((j : ℕ) → j < peers → j + f < peers → u j ≡ false) →
      ((o : ℕ) → o < peers → u o ≡ true → length_of r.ends o < ring_size) → More r (posted_to r e set f) t (λ o. pick (u o) (seen_as e ∷ []) [])
  unfolding posted_to
  posted zero r set u s n h low room = more-ext (λ o. pick (u o) (seen_as e ∷ []) []) (more-none r t s n) (λ o l. rw (low o l (omega arith)))
  posted (suc f) r set u s n h low room = go (same? set 0) (λ r set u. posted f r set u)
    where
      Goal : Rings → Type 0
      Goal r' = More r r' t (λ o. pick (u o) (seen_as e ∷ []) [])

      q : ℕ
      q = count_trailing_zeros 8 set

      go : Same set 0 →
          ((r : Rings) (set : ℕ) (u : ℕ → Bool) → Sized r.rows → length r.ends ≡ ends_size → set ≡ bits u peers → ((j : ℕ) → j < peers → j + f < peers → u j ≡ false) →
          ((o : ℕ) → o < peers → u o ≡ true → length_of r.ends o < ring_size) → More r (posted_to r e set f) t (λ o. pick (u o) (seen_as e ∷ []) [])) →
          Goal (pick (eqb set 0) r (posted_to (entered r (count_trailing_zeros 8 set % peers) e) e (set - 2 ^ (count_trailing_zeros 8 set % peers)) f))
      go (same d) ih = rw (eq-eqb set 0 d) (more-ext (λ o. pick (u o) (seen_as e ∷ []) []) (more-none r t s n) (λ o l. rw (bits_none u peers (sym h ∙ d) o l)))
      go (other d) ih =
          let w : Walked u peers q (set - 2 ^ q) = bits-walk u peers set q (set - 2 ^ q) h d refl refl in
          let l : q < peers = w.inside in
          let k : q % peers ≡ q = omega arith in
          let m = enter-more r t q e s n l (room q l w.passes) z c in
          rw (ne_eqb set 0 d, k)
          (more-ext (λ o. pick (u o) (seen_as e ∷ []) [])
          (more-then m
          (ih (entered r q e) (set - 2 ^ q) (upd u q false) m.sized m.ends w.left (λ j a b. gone w j a b (same? q j)) (λ o a b. left m o a b (same? q o))))
          (λ o a. at_set u q o w.passes))
        where
          gone : Walked u peers q (set - 2 ^ q) → (j : ℕ) → j < peers → j + f < peers → Same q j → upd u q false j ≡ false
          gone w j a b (same x) = rw (← x, upd_same)
          gone w j a b (other x) = upd_other u q j false x ∙ on (look (ltb j q))
            where
              on : Seen (ltb j q) → u j ≡ false
              on (is_true y) = w.before j (ltb-true j q y)
              on (is_false y) = let v : q ≤ j = ltb-false j q y in no (low q w.inside (omega arith)) w.passes

          left : More r (entered r q e) t (λ o. pick (eqb q o) (seen_as e ∷ []) []) → (o : ℕ) → o < peers → upd u q false o ≡ true → Same q o → length_of (entered r q e).ends o < ring_size
          left m o a b (same x) = no (rw (← x, upd_same) refl) b
          left m o a b (other x) =
              let y : length (pick (eqb q o) (seen_as e ∷ []) []) ≡ 0 = rw (ne_eqb q o x) in
              omega (arith, more-length m o a, y, room o a (sym (upd_other u q o false x) ∙ b))

  pub posted-more : (r : Rings) (set : ℕ) (u : ℕ → Bool) → Sized r.rows → length r.ends ≡ ends_size → set ≡ bits u peers →
      ((o : ℕ) → o < peers → u o ≡ true → length_of r.ends o < ring_size) → More r (posted_to r e set peers) t (λ o. pick (u o) (seen_as e ∷ []) [])
  posted-more r set u s n h room = posted peers r set u s n h (λ j l m. absurd (omega arith)) room

  pub posted-view : (r : Rings) (set : ℕ) (u : ℕ → Bool) → Sized r.rows → length r.ends ≡ ends_size → set ≡ bits u peers →
      ((o : ℕ) → o < peers → length_of r.ends o < ring_size) →
      queue_v (posted_to r e set peers) t ≡ (λ o. queue_v r t o ++ pick (both (ltb o peers) (u o)) (entry_v (record { entry = e; payload = [] }) ∷ []) [])
  posted-view r set u s n h room =
      (posted-more r set u s n h (λ o l _. room o l)).view ∙ fun_ext (λ o. ap (λ (x : List Entry). queue_v r t o ++ x) (go (ltb o peers) (u o)))
    where
      go : (a b : Bool) → pick a (pick b (seen_as e ∷ []) []) [] ≡ pick (both a b) (seen_as e ∷ []) []
      go true b = refl
      go false b = refl

  -- Each queue is at most one longer.
  pub posted-length : (r : Rings) (set : ℕ) (u : ℕ → Bool) → Sized r.rows → length r.ends ≡ ends_size → set ≡ bits u peers →
      ((o : ℕ) → o < peers → u o ≡ true → length_of r.ends o < ring_size) → (o : ℕ) → o < peers → length_of (posted_to r e set peers).ends o ≤ length_of r.ends o + 1
  posted-length r set u s n h room o l = omega (arith, more-length (posted-more r set u s n h room) o l, at_most_one (u o) (seen_as e))

-- A notice's row.
notice-empty : (kind s n : ℕ) → bytes_in (notice_of kind s n) ≡ 0
unfolding notice_of bytes_in
notice-empty kind s n = go (eqb kind kind_destroyed) (eqb kind 2)
  where
    go : (a b : Bool) → ◌≡◌ {A = ℕ} (pick a 0 (pick b 0 0)) 0
    go true b = refl
    go false true = refl
    go false false = refl

notice-eight : (kind s n : ℕ) → length (notice_of kind s n).carried ≡ carried_fields
unfolding notice_of
notice-eight kind s n = refl

pub notice-destroyed : (s n : ℕ) → seen_as (notice_of kind_destroyed s n) ≡ destroyed n s
unfolding notice_of
notice-destroyed s n = entry-destroyed (notice_of kind_destroyed s n) [] refl

pub notice-released : (s n : ℕ) → seen_as (notice_of kind_released s n) ≡ released n s
unfolding notice_of
notice-released s n = entry-released (notice_of kind_released s n) [] refl

-- The notices about some places of the peer q, where a test u says who is told of each.
abbrev notice_v : ℕ → ℕ → ℕ → ℕ → Entry
notice_v q kind n j = seen_as (notice_of kind (q * slots + j) n)

module _ (hs to : List ℕ) (q kind n : ℕ) (t : List ℕ) (u : ℕ → ℕ → Bool) where
  join : (b : Bool) (j : ℕ) (js : List ℕ) → pick b (notice_v q kind n j ∷ []) [] ++ map (notice_v q kind n) js ≡ map (notice_v q kind n) (pick b (j ∷ js) js)
  join true j js = refl
  join false j js = refl

  posts : (js : List ℕ) (r : Rings) → All (λ j. get_or to j 0 ≡ bits (u j) peers) js → Sized r.rows → length r.ends ≡ ends_size →
      ((o j : ℕ) → o < peers → u j o ≡ true → length_of r.ends o + length js ≤ ring_size) → More r (post_all to q kind n r js) t (λ o. map (notice_v q kind n) (keep (λ j. u j o) js))
  unfolding post_all
  posts [] r a s size room = more-none r t s size
  posts (j ∷ js) r a s size room =
      let e = notice_of kind (q * slots + j) n in
      let r' = posted_to r e (get_or to j 0) peers in
      let m : More r r' t (λ o. pick (u j o) (seen_as e ∷ []) []) =
      posted-more t e (notice-empty kind (q * slots + j) n) (notice-eight kind (q * slots + j) n) r (get_or to j 0) (u j) s size a.0
      (λ o l z. omega (arith, room o j l z)) in
      more-ext (λ o. map (notice_v q kind n) (keep (λ i. u i o) (j ∷ js)))
      (more-then m (posts js r' a.1 m.sized m.ends (λ o i l z. omega (arith, more-length m o l, at_most_one (u j o) (seen_as e), room o i l z))))
      (λ o l. join (u j o) j (keep (λ i. u i o) js))

  told_more : (r : Rings) (set : ℕ) → ((j : ℕ) → (bit_at set j ≡ true) × (j < slots) → get_or to j 0 ≡ bits (u j) peers) → Sized r.rows → length r.ends ≡ ends_size → ((o j : ℕ) → o < peers → u j o ≡ true → length_of r.ends o + slots ≤ ring_size) →
      More r (told hs to q kind n r set slots) t (λ o. map (notice_v q kind n) (keep (λ j. u j o) (rising (bit_at set) (key_at hs q) slots slots)))
  told_more r set goes s size room =
      let js = rising (bit_at set) (key_at hs q) slots slots in
      rw (told-posts hs to q kind n r set slots)
      (posts js r (all-imp (λ j. (bit_at set j ≡ true) × (j < slots)) (λ j. get_or to j 0 ≡ bits (u j) peers) goes js (rising-pass (bit_at set) (key_at hs q) slots slots)) s size
      (λ o j l z. omega (arith, room o j l z, rising-length (bit_at set) (key_at hs q) slots slots)))

-- A handle that is held, as the table has it.
handle-some : (hs : List ℕ) (q s : ℕ) → q < peers → s < nodes → held (handle_v hs q s) ≡ true → handle_v hs q s ≡ some (id_at hs q s) (count_at hs q s)
handle-some hs q s l m h = handle-is hs q s l m ∙ go (count_at hs q s) (ap held (sym (handle-is hs q s l m)) ∙ h)
  where
    go : (c : ℕ) → held (handle_of (id_at hs q s) c) ≡ true → handle_of (id_at hs q s) c ≡ some (id_at hs q s) c
    go zero e = clash (sym e)
    go (suc c) e = refl

-- The ID at a place is the owner's, where it holds the node.
key-is : (hs : List ℕ) (q k : ℕ) → q < peers → k < slots → held (handle_v hs q (q * slots + k)) ≡ true → key_at hs q k ≡ owner_id (handle_v hs) (q * slots + k)
key-is hs q k l m h =
    let s = q * slots + k in
    let ls : s < nodes = omega arith in
    let e : s / slots ≡ q = omega arith in
    let z : eqb (count_at hs q s) 0 ≡ false = not-true (eqb (count_at hs q s) 0) (sym (held-is hs q s l ls) ∙ h) in
    rw e (sym (id-is hs q s l ls 0 ∙ rw z refl))

map-places : (f : ℕ → Entry) (g : ℕ → Entry) (h : ℕ → ℕ) → ((j : ℕ) → f j ≡ g (h j)) → (js : List ℕ) → map f js ≡ map g (map h js)
map-places f g h e [] = refl
map-places f g h e (j ∷ js) = ap₂ ◌∷◌ (e j) (map-places f g h e js)

-- Places by ascending ID are the owner's slots by ascending owner ID.
owned : (hs : List ℕ) (q : ℕ) (b test : ℕ → Bool) (f g : ℕ → Entry) → q < peers → ((k : ℕ) → k < slots → b k ≡ test (q * slots + k)) →
    ((k : ℕ) → k < slots → b k ≡ true → held (handle_v hs q (q * slots + k)) ≡ true) → ((j : ℕ) → f j ≡ g (q * slots + j)) →
    map f (rising b (key_at hs q) slots slots) ≡ map g (by_owner_id (handle_v hs) q test)
unfolding by_owner_id
owned hs q b test f g l agree holds e =
    map-places f g (λ k. q * slots + k) e (rising b (key_at hs q) slots slots)
    ∙ ap (λ (x : List ℕ). map g (map (λ k. q * slots + k) x))
    (rising-ext b (λ k. test (q * slots + k)) (key_at hs q) (λ k. owner_id (handle_v hs) (q * slots + k)) slots slots agree (λ k m z. key-is hs q k l m (holds k m z)))

-- Of a destruction those are told whom it concerns.
pub tells_is : (hs cs : List ℕ) (r : Rings) (t : List ℕ) (n s o : ℕ) → s < nodes → o < peers → length_of r.ends o ≤ ring_size → Unladen cs r t o →
    tells_at hs cs r s n o ≡ concerned (handle_v hs o) (queue_v r t o) n s
tells_is hs cs r t n s o l m short bare =
    rw (held-is hs o s m l, before-view cs r t s n o m short bare) (go (eqb (count_at hs o s) 0) (any (earlier n s) (queue_v r t o)))
  where
    go : (b x : Bool) → pick b x true ≡ either (not b) x
    go true x = refl
    go false x = refl

module _ (hs cs : List ℕ) (r : Rings) (t : List ℕ) (n : ℕ) (short : Short r.ends) (bare : (o : ℕ) → o < peers → Unladen cs r t o) where
  to-concerned : (s : ℕ) → s < nodes → addressees hs cs r s n ≡ bits (λ o. concerned (handle_v hs o) (queue_v r t o) n s) peers
  unfolding addressees
  to-concerned s l =
      bits-ext (tells_at hs cs r s n) (λ o. concerned (handle_v hs o) (queue_v r t o) n s) peers (λ o m. tells_is hs cs r t n s o l m (short o m) (bare o m))

  to-places : (p set k : ℕ) → p < peers → (bit_at set k ≡ true) × (k < slots) →
      get_or (addressees_of hs cs r p set n) k 0 ≡ bits (λ o. concerned (handle_v hs o) (queue_v r t o) n (p * slots + k)) peers
  unfolding addressees_of
  to-places p set k lp z =
      build-at (addressees_at hs cs r p set n) slots k 0 z.1
      ∙ ap (λ (b : Bool). pick b (addressees hs cs r (p * slots + k) n) 0) z.0
      ∙ to-concerned (p * slots + k) (omega (arith, z.1))

-- Of a release the owner.
to-owner : (q j : ℕ) → q < peers → j < slots → get_or (owner_alone q) j 0 ≡ bits (eqb q) peers
to-owner q j l m = get_or-replicate slots j (2 ^ q) 0 m ∙ sym (bits-one q peers l)

module _ (hs : List ℕ) (q n : ℕ) (r : Rings) (t : List ℕ) (set : ℕ) (test : ℕ → Bool) (lq : q < peers) (rows : Sized r.rows) (ends : length r.ends ≡ ends_size)
    (agree : (k : ℕ) → k < slots → test (q * slots + k) ≡ bit_at set k)
    (holds : (k : ℕ) → k < slots → bit_at set k ≡ true → held (handle_v hs q (q * slots + k)) ≡ true) where
  -- A test says of each peer and slot whether the peer is told.
  module _ (to : List ℕ) (tells : ℕ → ℕ → Bool) (goes : (k : ℕ) → (bit_at set k ≡ true) × (k < slots) → get_or to k 0 ≡ bits (λ o. tells o (q * slots + k)) peers)
      (room : (o : ℕ) → o < peers → length_of r.ends o + slots ≤ ring_size) (apart : Apart (bit_at set) (key_at hs q) slots) where
    pub destroyed-more : More r (told hs to q kind_destroyed n r set slots) t (λ o. map (destroyed n) (by_owner_id (handle_v hs) q (λ s. both (test s) (tells o s))))
    destroyed-more =
        more-ext (λ o. map (destroyed n) (by_owner_id (handle_v hs) q (λ s. both (test s) (tells o s))))
        (told_more hs to q 1 n t (λ j o. tells o (q * slots + j)) r set goes rows ends (λ o j l z. room o l))
        (λ o l.
        ap (map (notice_v q 1 n)) (keep-rising (bit_at set) (λ j. tells o (q * slots + j)) (key_at hs q) slots apart)
        ∙ owned hs q (λ j. both (bit_at set j) (tells o (q * slots + j))) (λ s. both (test s) (tells o s)) (notice_v q 1 n) (destroyed n) lq
        (λ k m. rw (agree k m)) (λ k m z. holds k m (both_true (bit_at set k) (tells o (q * slots + k)) z).0) (λ j. notice-destroyed (q * slots + j) n))

    pub told-destroyed : queue_v (told hs to q kind_destroyed n r set slots) t
        ≡ (λ o. queue_v r t o ++ at_peers (λ o. map (destroyed n) (by_owner_id (handle_v hs) q (λ s. both (test s) (tells o s)))) o)
    told-destroyed = destroyed-more.view

  -- A release is told to the owner alone: only there is room needed.
  pub released-more : length_of r.ends q + slots ≤ ring_size → More r (told hs (owner_alone q) q kind_released n r set slots) t (λ o. pick (eqb q o) (map (released n) (by_owner_id (handle_v hs) q test)) [])
  released-more room =
      more-ext (λ o. pick (eqb q o) (map (released n) (by_owner_id (handle_v hs) q test)) [])
      (told_more hs (owner_alone q) q 2 n t (λ j. eqb q) r set (λ j z. to-owner q j lq z.1) rows ends
      (λ o j l z. rw (eqb-true q o z) at room))
      (λ o l. go (eqb q o))
    where
      js : List ℕ
      js = rising (bit_at set) (key_at hs q) slots slots

      go : (b : Bool) → map (notice_v q 2 n) (keep (λ j. b) js) ≡ pick b (map (released n) (by_owner_id (handle_v hs) q test)) []
      go true =
          ap (map (notice_v q 2 n)) (keep-every js)
          ∙ owned hs q (bit_at set) test (notice_v q 2 n) (released n) lq (λ k m. sym (agree k m)) holds (λ j. notice-released (q * slots + j) n)
      go false = ap (map (notice_v q 2 n)) (keep-none js)

  pub told-released : length_of r.ends q + slots ≤ ring_size → queue_v (told hs (owner_alone q) q kind_released n r set slots) t ≡ upd (queue_v r t) q (queue_v r t q ++ map (released n) (by_owner_id (handle_v hs) q test))
  told-released room = (released-more room).view ∙ fun_ext (λ o. go o (same? q o))
    where
      new : List Entry
      new = map (released n) (by_owner_id (handle_v hs) q test)

      go : (o : ℕ) → Same q o → queue_v r t o ++ at_peers (λ o. pick (eqb q o) new []) o ≡ upd (queue_v r t) q (queue_v r t q ++ new) o
      go o (same d) = rw (← d, upd_same, eq-eqb q q refl, lt-ltb q peers lq)
      go o (other d) = rw (upd_other (queue_v r t) q o (queue_v r t q ++ new) d, ne_eqb q o d, nothing (ltb o peers)) (append-nil (queue_v r t o))

-- The test of a set, at a slot of its owner.
own-test : (p set : ℕ) (test : ℕ → Bool) → ((k : ℕ) → k < slots → test (p * slots + k) ≡ bit_at set k) → (s : ℕ) → owner s ≡ p → test s ≡ bit_at set (s % slots)
own-test p set test agree s e = let z : s ≡ p * slots + s % slots = omega arith in ap test z ∙ agree (s % slots) (omega arith)

-- The nodes of a set dead: those at the places below k, and all.
abbrev struck : ℕ → ℕ → ℕ → ℕ → Bool
struck p set k s = both (eqb (owner s) p) (both (ltb (s % slots) k) (bit_at set (s % slots)))

struck-next : (p set k s : ℕ) → (owner s ≡ p → s % slots ≡ k → bit_at set k ≡ false) → struck p set k s ≡ struck p set (suc k) s
struck-next p set k s h = go (look (eqb (owner s) p)) (same? (s % slots) k)
  where
    never : (a b : Bool) → both a false ≡ both b false
    never true true = refl
    never true false = refl
    never false true = refl
    never false false = refl

    below : (s % slots ≡ k → ⊥) → ltb (s % slots) k ≡ ltb (s % slots) (suc k)
    below d = on (look (ltb (s % slots) k))
      where
        on : Seen (ltb (s % slots) k) → ltb (s % slots) k ≡ ltb (s % slots) (suc k)
        on (is_true x) = let y : s % slots < k = ltb-true (s % slots) k x in x ∙ sym (lt-ltb (s % slots) (suc k) (omega arith))
        on (is_false x) = let y : k ≤ s % slots = ltb-false (s % slots) k x in x ∙ sym (le-ltb (s % slots) (suc k) (omega arith))

    go : Seen (eqb (owner s) p) → Same (s % slots) k → struck p set k s ≡ struck p set (suc k) s
    go (is_false e) y = rw e
    go (is_true e) (same d) =
        let f : bit_at set (s % slots) ≡ false = ap (bit_at set) d ∙ h (eqb-true (owner s) p e) d in
        rw (e, f) (never (ltb (s % slots) k) (ltb (s % slots) (suc k)))
    go (is_true e) (other d) = rw (e, below d)

dead-size : (ns : List ℕ) (p set n k : ℕ) → length (dead_all ns p set n k) ≡ length ns
unfolding dead_all
dead-size ns p set n zero = refl
dead-size ns p set n (suc k) =
    let d = dead_all ns p set n k in
    let e : length d ≡ length ns = dead-size ns p set n k in
    pick_all (λ (x : List ℕ). length x ≡ length ns) (bit_at set k) (set_dead d (p * slots + k) n) d (dead-length d (p * slots + k) n ∙ e) e

module _ (ns : List ℕ) (p set n : ℕ) (size : length ns ≡ nodes_size) (l : p < peers) where
  life-below : (k : ℕ) → k ≤ slots → life_v (dead_all ns p set n k) ≡ (λ s. pick (struck p set k s) (dead n) (life_v ns s))
  unfolding dead_all
  life-below zero m = fun_ext (λ s. rw (le-ltb (s % slots) 0 (omega arith)) (go (eqb (owner s) p) (dead n) (life_v ns s)))
    where
      go : (b : Bool) (x y : Life) → y ≡ pick (both b false) x y
      go true x y = refl
      go false x y = refl
  life-below (suc k) m = go (look (bit_at set k)) (life-below k (omega arith))
    where
      d : List ℕ
      d = dead_all ns p set n k

      go : Seen (bit_at set k) → life_v d ≡ (λ s. pick (struck p set k s) (dead n) (life_v ns s)) →
          life_v (pick (bit_at set k) (set_dead d (p * slots + k) n) d) ≡ (λ s. pick (struck p set (suc k) s) (dead n) (life_v ns s))
      go (is_false e) ih = rw e (ih ∙ fun_ext (λ s. rw (struck-next p set k s (λ a b. e))))
      go (is_true e) ih =
          rw e (life-dead d (dead-size ns p set n k ∙ size) (p * slots + k) (omega arith) n ∙ fun_ext (λ s. on s (same? (p * slots + k) s)))
        where
          on : (s : ℕ) → Same (p * slots + k) s → upd (life_v d) (p * slots + k) (dead n) s ≡ pick (struck p set (suc k) s) (dead n) (life_v ns s)
          on s (same z) =
              let a : owner s ≡ p = omega arith in
              let b : s % slots ≡ k = omega arith in
              let c : bit_at set (s % slots) ≡ true = ap (bit_at set) b ∙ e in
              ap (upd (life_v d) (p * slots + k) (dead n)) (sym z) ∙ upd_same (life_v d) (p * slots + k) (dead n)
              ∙ rw (eq-eqb (owner s) p a, c, lt-ltb (s % slots) (suc k) (omega arith)) refl
          on s (other z) =
              upd_other (life_v d) (p * slots + k) s (dead n) z ∙ ap (λ (f : ℕ → Life). f s) ih
              ∙ ap (λ (b : Bool). pick b (dead n) (life_v ns s)) (struck-next p set k s (λ a b. absurd (z (omega arith))))

  pub life-all : (test : ℕ → Bool) → ((k : ℕ) → k < slots → test (p * slots + k) ≡ bit_at set k) →
      life_v (dead_all ns p set n slots) ≡ (λ s. pick (both (eqb (owner s) p) (test s)) (dead n) (life_v ns s))
  life-all test agree = life-below slots (omega arith) ∙ fun_ext (λ s. go s (look (eqb (owner s) p)))
    where
      go : (s : ℕ) → Seen (eqb (owner s) p) → pick (struck p set slots s) (dead n) (life_v ns s) ≡ pick (both (eqb (owner s) p) (test s)) (dead n) (life_v ns s)
      go s (is_false e) = rw e
      go s (is_true e) = rw (e, lt-ltb (s % slots) slots (omega arith), own-test p set test agree s (eqb-true (owner s) p e))

  pub life-length : length (dead_all ns p set n slots) ≡ nodes_size
  life-length = dead-size ns p set n slots ∙ size

-- The nodes of a set destroyed, as the model does it.
abbrev pub with_destroyed : Bus → Destroyed → Bus
with_destroyed b d = set_rings (set_nodes b d.nodes) d.rings

-- In the queue of p, release notices are about p's own nodes.
abbrev pub Own : ℕ → Entry → Type 0
Own p (message n m) = Unit {0}
Own p (destroyed n s) = Unit {0}
Own p (released n s) = owner s ≡ p

pub own-stands : (h : ℕ → ℕ → Handle) (l : ℕ → Life) (p : ℕ) (es : List Entry) → All (Stands h l p) es → All (Own p) es
own-stands h l p es = all-imp (Stands h l p) (Own p) go es
  where
    go : (e : Entry) → Stands h l p e → Own p e
    go (message n m) z = tt
    go (destroyed n s) z = tt
    go (released n s) z = z.1

pub keep-agree : (f g : Entry → Bool) (es : List Entry) → All (λ e. f e ≡ g e) es → keep f es ≡ keep g es
keep-agree f g [] h = refl
keep-agree f g (e ∷ es) h = rw (h.0, keep-agree f g es h.1)

in-mask : (p set : ℕ) (test : ℕ → Bool) → ((k : ℕ) → k < slots → test (p * slots + k) ≡ bit_at set k) → (s : ℕ) → owner s ≡ p → in_mask p set s ≡ test s
in-mask p set test agree s e = rw (eq-eqb (owner s) p e) (sym (own-test p set test agree s e))

-- The release notices of a set withdrawn, and the rings kept in shape.
module _ (r : Rings) (t : List ℕ) (p set : ℕ) (test : ℕ → Bool) (lp : p < peers) (rows : Sized r.rows) (ends : length r.ends ≡ ends_size)
    (agree : (k : ℕ) → k < slots → test (p * slots + k) ≡ bit_at set k) where
  pub withdrawn-set : length_of r.ends p ≤ ring_size → All (Own p) (queue_v r t p) →
      queue_v (withdrawn r p (released_in p set)) t ≡ upd (queue_v r t) p (keep (not_released test) (queue_v r t p))
  withdrawn-set short own =
      withdraw-view r p (released_in p set) short t (not_released (in_mask p set)) rows ends lp (release-match p set) (release-bytes p set)
      ∙ ap (upd (queue_v r t) p)
      (keep-agree (not_released (in_mask p set)) (not_released test) (queue_v r t p)
      (all-imp (Own p) (λ e. not_released (in_mask p set) e ≡ not_released test e) go (queue_v r t p) own))
    where
      go : (e : Entry) → Own p e → not_released (in_mask p set) e ≡ not_released test e
      go (message n m) z = refl
      go (destroyed n s) z = refl
      go (released n s) z = ap not (in-mask p set test agree s z)

  withdrawn-lengths : (o : ℕ) → length_of (withdrawn r p (released_in p set)).ends o ≤ length_of r.ends o
  withdrawn-lengths o = go (same? p o)
    where
      go : Same p o → length_of (withdrawn r p (released_in p set)).ends o ≤ length_of r.ends o
      go (same z) = rw (← z) (withdraw-length r p (released_in p set) ends lp)
      go (other z) = omega (arith, withdraw-lengths r p (released_in p set) o z)

owner-length : (h : ℕ → ℕ → Handle) (p : ℕ) (test : ℕ → Bool) → length (by_owner_id h p test) ≤ slots
unfolding by_owner_id
owner-length h p test =
    let js = rising (λ k. test (p * slots + k)) (λ k. owner_id h (p * slots + k)) slots slots in
    omega (arith, length-map js (λ k. p * slots + k), rising-length (λ k. test (p * slots + k)) (λ k. owner_id h (p * slots + k)) slots slots)

module _ (b : Bus) (p set n : ℕ) (test : ℕ → Bool) (shape : Shape b) (lp : p < peers) (room : (o : ℕ) → o < peers → length_of b.rings.ends o + slots ≤ ring_size)
    (agree : (k : ℕ) → k < slots → test (p * slots + k) ≡ bit_at set k)
    (holds : (k : ℕ) → k < slots → bit_at set k ≡ true → held (handle_v b.handles p (p * slots + k)) ≡ true) (apart : Apart (bit_at set) (key_at b.handles p) slots)
    (bare : (o : ℕ) → o < peers → Unladen b.charges b.rings b.pool o) where
  -- Who is told, on the bus as the command finds it.
  abbrev tells : ℕ → ℕ → Bool
  tells o s = concerned (handle_v b.handles o) (queue_v b.rings b.pool o) n s

  abbrev to : List ℕ
  to = addressees_of b.handles b.charges b.rings p set n

  short : Short b.rings.ends
  short o l = omega (arith, room o l)

  after_more : let r = withdrawn b.rings p (released_in p set) in
      More r (told b.handles to p kind_destroyed n r set slots) b.pool
      (λ o. map (destroyed n) (by_owner_id (handle_v b.handles) p (λ s. both (test s) (tells o s))))
  after_more =
      destroyed-more b.handles p n (withdrawn b.rings p (released_in p set)) b.pool set test lp (withdraw-rows b.rings p (released_in p set) shape.rows)
      (withdraw-ends b.rings p (released_in p set) ∙ shape.ends) agree holds to tells
      (λ k z. to-places b.handles b.charges b.rings b.pool n short bare p set k lp z)
      (λ o l. omega (arith, room o l, withdrawn-lengths b.rings b.pool p set test lp shape.rows shape.ends agree o)) apart

  pub destroyed-shape : Shape (with_destroyed b (destroyed_set b.nodes b.handles b.charges b.rings p set n))
  unfolding destroyed_set
  destroyed-shape =
      shape-rings (shape-nodes shape (life-length b.nodes p set n shape.nodes lp)) after_more.ends after_more.sized

  -- Each queue is at most 16 longer.
  pub destroyed-lengths : (o : ℕ) → o < peers → length_of (destroyed_set b.nodes b.handles b.charges b.rings p set n).rings.ends o ≤ length_of b.rings.ends o + slots
  unfolding destroyed_set
  destroyed-lengths o l =
      let test' : ℕ → Bool = λ s. both (test s) (tells o s) in
      omega (
        arith,
        more-length after_more o l,
        length-map (by_owner_id (handle_v b.handles) p test') (destroyed n),
        owner-length (handle_v b.handles) p test',
        withdrawn-lengths b.rings b.pool p set test lp shape.rows shape.ends agree o,
      )

  pub destroyed-view : n ≡ accepted_v b.peers → All (Own p) (queue_v b.rings b.pool p) →
      state_of (with_destroyed b (destroyed_set b.nodes b.handles b.charges b.rings p set n)) ≡ destroy_all (state_of b) p test
  unfolding destroyed_set destroy_all push_all with_queues with_lives withdraw destroy_notices
  destroyed-view e own =
      ap₂
      (λ (x : ℕ → List Entry) (y : ℕ → Life). with_lives (with_queues (state_of b) x) y)
      queues lives
    where
      qs : ℕ → List Entry
      qs = queue_v b.rings b.pool

      new : ℕ → ℕ → List Entry
      new n o = map (destroyed n) (by_owner_id (handle_v b.handles) p (λ s. both (test s) (concerned (handle_v b.handles o) (qs o) n s)))

      queues : queue_v (told b.handles to p kind_destroyed n (withdrawn b.rings p (released_in p set)) set slots) b.pool
          ≡ (λ o. upd qs p (keep (not_released test) (qs p)) o ++ at_peers (new (accepted_v b.peers)) o)
      queues =
          after_more.view
          ∙ ap₂ {C = ℕ → List Entry} (λ f m o. f o ++ at_peers (new m) o)
          (withdrawn-set b.rings b.pool p set test lp shape.rows shape.ends agree (omega (arith, room p lp)) own) e

      lives : life_v (dead_all b.nodes p set n slots) ≡ (λ s. pick (both (eqb (owner s) p) (test s)) (dead (accepted_v b.peers)) (life_v b.nodes s))
      lives =
          life-all b.nodes p set n shape.nodes lp test agree
          ∙ ap {B = ℕ → Life} (λ m s. pick (both (eqb (owner s) p) (test s)) (dead m) (life_v b.nodes s)) e

-- The sum of counts of a node falls to 1 when a handle goes: in numbers, the sum T, of which the handle has c and T' is left.
falls-so : (l : Bool) (c T T' : ℕ) → T' + c ≡ T → pick l (pick (eqb c 0) false (eqb T (c + 1))) false ≡ both l (both (ltb 1 T) (eqb T' 1))
falls-so false c T T' e = refl
falls-so true c T T' e = go (same? c 0) (same? T' 1)
  where
    never : (b : Bool) → false ≡ both b false
    never true = refl
    never false = refl

    go : Same c 0 → Same T' 1 → pick (eqb c 0) false (eqb T (c + 1)) ≡ both (ltb 1 T) (eqb T' 1)
    go (same x) (same y) = rw (eq-eqb c 0 x, le-ltb 1 T (omega arith))
    go (same x) (other y) = rw (eq-eqb c 0 x, ne_eqb T' 1 y) (never (ltb 1 T))
    go (other x) (same y) = rw (ne_eqb c 0 x, eq-eqb T (c + 1) (omega arith), lt-ltb 1 T (omega arith), eq-eqb T' 1 y)
    go (other x) (other y) = rw (ne_eqb c 0 x, ne_eqb T (c + 1) (λ z. y (omega arith)), ne_eqb T' 1 y) (never (ltb 1 T))

-- The sum without the handles of a peer.
total-clear : (h : ℕ → ℕ → Handle) (p s : ℕ) → p < peers → total (upd h p (λ s. none)) s + count (h p s) ≡ total h s
unfolding total
total-clear h p s l =
    let g : ℕ → ℕ = λ q. count (upd h p (λ s. none) q s) in
    let z : g p ≡ 0 = ap (λ (f : ℕ → Handle). count (f s)) (upd_same {A = ℕ → Handle} h p (λ s. none)) in
    omega (arith, z, sum-at (λ q. count (h q s)) g p peers l (λ j m d. ap (λ (f : ℕ → Handle). count (f s)) (sym (upd_other {A = ℕ → Handle} h p j (λ s. none) d))))

-- The slots of an owner that pass, under handles that have the same IDs there.
owner-ext : (h h' : ℕ → ℕ → Handle) (q : ℕ) (test : ℕ → Bool) → ((k : ℕ) → k < slots → test (q * slots + k) ≡ true → owner_id h (q * slots + k) ≡ owner_id h' (q * slots + k)) →
    by_owner_id h q test ≡ by_owner_id h' q test
unfolding by_owner_id
owner-ext h h' q test e =
    ap (map (λ k. q * slots + k))
    (rising-ext (λ k. test (q * slots + k)) (λ k. test (q * slots + k)) (λ k. owner_id h (q * slots + k)) (λ k. owner_id h' (q * slots + k)) slots slots (λ k l. refl) e)

-- A place of the set of what falls.
set_at : (ns hs : List ℕ) (p q k : ℕ) → k < slots → bit_at (set_of ns hs q (Falling (record { 0 = p }))) k ≡ falls_at ns hs p (q * slots + k)
unfolding set_of
set_at ns hs p q k l = bit-bits (asks ns hs q (Falling (record { 0 = p }))) slots k l

-- All handles of the peer p go: each owner is told of its nodes whose sum of counts falls to 1.
abbrev pub fallen : List ℕ → List ℕ → List ℕ → ℕ → Bool
fallen ns hs hs' s = both (is_live (life_v ns s)) (both (ltb 1 (total (handle_v hs) s)) (eqb (total (handle_v hs') s) 1))

module _ (ns hs : List ℕ) (p n : ℕ) (lp : p < peers) (size : length hs ≡ handles_size) where
  pub falls-is : (s : ℕ) → s < nodes → falls_at ns hs p s ≡ fallen ns hs (clear_peer hs p) s
  unfolding falls_at
  falls-is s l =
      let e : total (handle_v (clear_peer hs p)) s + count_at hs p s ≡ total_at hs s =
      rw (handle-clear hs size p lp, count-is hs p s lp l, total-is hs s l) (total-clear (handle_v hs) p s lp) in
      rw (live-is ns s l, ← total-is hs s l) (falls-so (is_live (life_v ns s)) (count_at hs p s) (total_at hs s) (total (handle_v (clear_peer hs p)) s) e)

  module _ (r : Rings) (t : List ℕ) (rows : Sized r.rows) (ends : length r.ends ≡ ends_size) (room : (o : ℕ) → o < peers → length_of r.ends o + slots ≤ ring_size)
      (holds : (q k : ℕ) → q < peers → k < slots → is_live (life_v ns (q * slots + k)) ≡ true → held (handle_v hs q (q * slots + k)) ≡ true) where
    abbrev new_at : ℕ → List Entry
    new_at o = map (released n) (by_owner_id (handle_v hs) o (fallen ns hs (clear_peer hs p)))

    owners-below : (q : ℕ) → q ≤ peers → More r (told_owners ns hs p n r q) t (λ o. pick (ltb o q) (new_at o) [])
    unfolding told_owners
    owners-below zero l = more-ext (λ o. pick (ltb o 0) (new_at o) []) (more-none r t rows ends) (λ o m. rw (le-ltb o 0 (omega arith)))
    owners-below (suc q) l = go (owners-below q (omega arith))
      where
        lq : q < peers
        lq = omega arith

        set : ℕ
        set = set_of ns hs q (Falling (record { 0 = p }))

        go : More r (told_owners ns hs p n r q) t (λ o. pick (ltb o q) (new_at o) []) →
            More r (told hs (owner_alone q) q kind_released n (told_owners ns hs p n r q) set slots) t (λ o. pick (ltb o (suc q)) (new_at o) [])
        go m =
            more-ext (λ o. pick (ltb o (suc q)) (new_at o) [])
            (more-then m
            (released-more hs q n (told_owners ns hs p n r q) t set (fallen ns hs (clear_peer hs p)) lq m.sized m.ends (λ k i. sym (bit k i)) (λ k i z. have k i z)
            (omega (arith, more-length m q lq, none_yet, room q lq))))
            (λ o i. join-at o (same? q o))
          where
            none_yet : length (pick (ltb q q) (new_at q) []) ≡ 0
            none_yet = rw (le-ltb q q (omega arith))

            bit : (k : ℕ) → k < slots → bit_at set k ≡ fallen ns hs (clear_peer hs p) (q * slots + k)
            bit k i = set_at ns hs p q k i ∙ falls-is (q * slots + k) (omega arith)

            have : (k : ℕ) → k < slots → bit_at set k ≡ true → held (handle_v hs q (q * slots + k)) ≡ true
            have k i z =
                let s = q * slots + k in
                holds q k lq i
                (both_true (is_live (life_v ns s)) (both (ltb 1 (total (handle_v hs) s)) (eqb (total (handle_v (clear_peer hs p)) s) 1)) (sym (bit k i) ∙ z)).0

            join-at : (o : ℕ) → Same q o → pick (ltb o q) (new_at o) [] ++ pick (eqb q o) (new_at q) [] ≡ pick (ltb o (suc q)) (new_at o) []
            join-at o (same d) = rw (← d, le-ltb q q (omega arith), eq-eqb q q refl, lt-ltb q (suc q) (omega arith))
            join-at o (other d) = rw (ne_eqb q o d) (append-nil (pick (ltb o q) (new_at o) []) ∙ ap (λ (b : Bool). pick b (new_at o) []) (up (look (ltb o q))))
              where
                up : Seen (ltb o q) → ltb o q ≡ ltb o (suc q)
                up (is_true x) = let y : o < q = ltb-true o q x in x ∙ sym (lt-ltb o (suc q) (omega arith))
                up (is_false x) = let y : q ≤ o = ltb-false o q x in x ∙ sym (le-ltb o (suc q) (omega arith))

    pub owners-more : ((k : ℕ) → k < slots → is_live (life_v ns (p * slots + k)) ≡ false) →
        More r (told_owners ns hs p n r peers) t (λ q. map (released n) (by_owner_id (handle_v (clear_peer hs p)) q (fallen ns hs (clear_peer hs p))))
    owners-more gone =
        more-ext (λ q. map (released n) (by_owner_id (handle_v (clear_peer hs p)) q (fallen ns hs (clear_peer hs p)))) (owners-below peers (omega arith))
        (λ o l.
        rw (lt-ltb o peers l)
        (ap (map (released n))
        (owner-ext (handle_v hs) (handle_v (clear_peer hs p)) o (fallen ns hs (clear_peer hs p)) (λ k i z. go o k l i z (same? p o)))))
      where
        go : (o k : ℕ) → o < peers → k < slots → fallen ns hs (clear_peer hs p) (o * slots + k) ≡ true → Same p o →
            owner_id (handle_v hs) (o * slots + k) ≡ owner_id (handle_v (clear_peer hs p)) (o * slots + k)
        go o k l i z (same d) =
            let s = o * slots + k in
            no (rw d at (gone k i)) (both_true (is_live (life_v ns s)) (both (ltb 1 (total (handle_v hs) s)) (eqb (total (handle_v (clear_peer hs p)) s) 1)) z).0
        go o k l i z (other d) =
            let s = o * slots + k in
            let e : s / slots ≡ o = omega arith in
            rw (e, handle-clear hs size p lp, upd_other {A = ℕ → Handle} (handle_v hs) p o (λ s. none) d)

    pub owners-view : ((k : ℕ) → k < slots → is_live (life_v ns (p * slots + k)) ≡ false) →
        queue_v (told_owners ns hs p n r peers) t
        ≡ (λ q.
        queue_v r t q
        ++ at_peers
        (λ q.
        map (released n)
        (by_owner_id (handle_v (clear_peer hs p)) q
        (λ s. both (is_live (life_v ns s)) (both (ltb 1 (total (handle_v hs) s)) (eqb (total (handle_v (clear_peer hs p)) s) 1)))))
        q)
    owners-view gone = (owners-more gone).view

-- The premises of these laws, where a caller has them: the set of what lives, the set of one slot, and IDs apart.
pub living-set : (ns hs : List ℕ) (q k : ℕ) → q < peers → k < slots → is_live (life_v ns (q * slots + k)) ≡ bit_at (set_of ns hs q Living) k
unfolding set_of
living-set ns hs q k l m = sym (bit-bits (asks ns hs q Living) slots k m ∙ live-is ns (q * slots + k) (omega arith))

pub one_set : (kinds s p k : ℕ) → owner s ≡ p → k < slots → eqb s (p * slots + k) ≡ bit_at (one_slot kinds s).mask k
unfolding one_slot
one_set kinds s p k e l = go (same? k (s % slots)) ∙ sym (bit-one (s % slots) k)
  where
    go : Same k (s % slots) → eqb s (p * slots + k) ≡ eqb k (s % slots)
    go (same z) = rw (eq-eqb k (s % slots) z, eq-eqb s (p * slots + k) (omega arith))
    go (other z) = rw (ne_eqb k (s % slots) z, ne_eqb s (p * slots + k) (λ x. z (omega arith)))

pub apart-held : (hs : List ℕ) (q g set : ℕ) → q < peers → Handles q g (handle_v hs q) →
    ((k : ℕ) → k < slots → bit_at set k ≡ true → held (handle_v hs q (q * slots + k)) ≡ true) → Apart (bit_at set) (key_at hs q) slots
apart-held hs q g set l ids holds j k lj lk a b e =
    let c = count_at hs q (q * slots + j) in
    let d = count_at hs q (q * slots + k) in
    let z : q * slots + j ≡ q * slots + k =
    ids.distinct (q * slots + j) (q * slots + k) (key_at hs q j) c d (handle-some hs q (q * slots + j) l (omega arith) (holds j lj a))
    (handle-some hs q (q * slots + k) l (omega arith) (holds k lk b) ∙ ap (λ (i : ℕ). some i d) (sym e)) in
    omega (arith, z)

-- What was destroyed: its nodes are those of dead_all; no node of p lives once all that lived are destroyed, and what lives then lived before.
pub destroyed-nodes : (ns hs cs : List ℕ) (r : Rings) (p set n : ℕ) → (destroyed_set ns hs cs r p set n).nodes ≡ dead_all ns p set n slots
unfolding destroyed_set
destroyed-nodes ns hs cs r p set n = refl

module _ (ns hs : List ℕ) (p n : ℕ) (size : length ns ≡ nodes_size) (lp : p < peers) where
  lives-after : (s : ℕ) →
      life_v (dead_all ns p (set_of ns hs p Living) n slots) s ≡ pick (both (eqb (owner s) p) (is_live (life_v ns s))) (dead n) (life_v ns s)
  lives-after s = ap (λ (f : ℕ → Life). f s) (life-all ns p (set_of ns hs p Living) n size lp (λ s. is_live (life_v ns s)) (λ k l. living-set ns hs p k lp l))

  pub none-lives : (k : ℕ) → k < slots → is_live (life_v (dead_all ns p (set_of ns hs p Living) n slots) (p * slots + k)) ≡ false
  none-lives k l =
      let s = p * slots + k in
      ap is_live (lives-after s) ∙ rw (eq-eqb (owner s) p (omega arith)) (go (life_v ns s) (look (is_live (life_v ns s))))
    where
      go : (x : Life) → Seen (is_live x) → is_live (pick (is_live x) (dead n) x) ≡ false
      go x (is_true e) = rw e refl
      go x (is_false e) = rw e e

  pub lived-before : (s : ℕ) → is_live (life_v (dead_all ns p (set_of ns hs p Living) n slots) s) ≡ true → is_live (life_v ns s) ≡ true
  lived-before s h = go (both (eqb (owner s) p) (is_live (life_v ns s))) (sym (ap is_live (lives-after s)) ∙ h)
    where
      go : (b : Bool) → is_live (pick b (dead n) (life_v ns s)) ≡ true → is_live (life_v ns s) ≡ true
      go true e = clash (sym e)
      go false e = e
