-- What the table shows: a seed stored is the one of its peer, a seed dropped is none, every other peer's stays, and a table of zeros has none.
-- Assumes nothing.
use Rattle.std.specs.Prelude.{ℕ, ◌+◌, ◌*◌, ◌/◌, ◌%◌, ◌≤◌, ◌<◌, min, ◌≡◌, true, false, List, set, take, replicate, ltb}
use Rattle.std.proofs.Common.{sym, ◌∙◌, length-take, length-set, ext_get_or, get_or-take, get_or-set_same, get_or-set_other, length-take-le, take_all, ltb-true, ltb-false}
use Rattle.std.proofs.Math.Path.{ap}
use native.Mathlib.Omega.{arith}
use Rattle.std.proofs.Math.ListN.{length, get_or}
use Rattle.std.proofs.lemmas.List.Edits.{sets}
use Rattle.std.proofs.Math.Seq.{length-sets}
use Rattle.laws.specs.Tests.{pick_all, Seen, Seen.is_true, Seen.is_false, look, Same, Same.same, Same.other, same?}
use Rattle.laws.specs.Tables.{upd, upd_same, upd_other, zeros-at}
use Rattle.laws.specs.Guards.{upto, upto-at, upto-ext, upto-upd, upto-const}
use Rattle.laws.specs.Weights.{all_take}
use Rattle.laws.specs.Stores.{take_min, sets-before, sets-in, sets-past}
use Rattle.laws.specs.Build.{build, build-ext, build-at, build-length, build-list}
use Rattle.laws.specs.Rows.{above, row_in, row-length, all_build}
use Rattle.ids.specs.Sizes.{most_ids, most_bytes, seed_fields, seeds_size}
use Rattle.model.specs.Numbers.{peers, nodes}
use Rattle.model.specs.Notices.{Carried}
use Rattle.model.specs.State.{Seed, Seed.unset, Seed.kept, seed_carries}
use Rattle.seeds.specs.Seeds.{row_at, area_at, set_at, count_at, bytes_at, slots_at, piece_at, head_of, stored, dropped, seed_at, seed_v}

-- the leaves together are the view: of a peer with a seed, and of one without
pub seed-set : (t : List ℕ) (p : ℕ) → p < peers → set_at t p ≡ true → seed_v t p ≡ kept (piece_at t p (bytes_at t p)) (take (count_at t p) (slots_at t p))
unfolding seed_v seed_at
seed-set t p h e = rw (upto-at peers unset (seed_at t) p h, e)

pub seed-unset : (t : List ℕ) (p : ℕ) → p < peers → set_at t p ≡ false → seed_v t p ≡ unset
unfolding seed_v seed_at
seed-unset t p h e = rw (upto-at peers unset (seed_at t) p h, e)

-- a table in which one peer's seed changed and every other peer's stayed
seed-changed : (t u : List ℕ) (p : ℕ) (x : Seed) → p < peers → seed_at u p ≡ x → ((q : ℕ) → q < peers → (p ≡ q → ⊥) → seed_at u q ≡ seed_at t q) →
    seed_v u ≡ upd (seed_v t) p x
unfolding seed_v
seed-changed t u p x h own others =
    upto-ext peers unset (seed_at u) (upd (seed_at t) p x) (λ q l. go q l (same? p q)) ∙ upto-upd peers unset (seed_at t) p x h
  where
    go : (q : ℕ) → q < peers → Same p q → seed_at u q ≡ upd (seed_at t) p x q
    go q l (same e) = rw (← e, upd_same) own
    go q l (other e) = rw (upd_other (seed_at t) p q x e) (others q l e)

-- tables that agree on a peer's row and payload show the same seed of it
record Alike (t u : List ℕ) (p : ℕ) : Type 0 where
  row : (k : ℕ) → k < seed_fields → get_or u (row_at p + k) 0 ≡ get_or t (row_at p + k) 0
  area : (k : ℕ) → k < most_bytes → get_or u (area_at p + k) 0 ≡ get_or t (area_at p + k) 0

module _ (t u : List ℕ) (p : ℕ) (a : Alike t u p) where
  alike-slots : slots_at u p ≡ slots_at t p
  unfolding slots_at
  alike-slots = build-ext (λ k. get_or u (row_at p + 4 + k) 0 % nodes) (λ k. get_or t (row_at p + 4 + k) 0 % nodes) most_ids each
    where
      each : (k : ℕ) → k < most_ids → get_or u (row_at p + 4 + k) 0 % nodes ≡ get_or t (row_at p + 4 + k) 0 % nodes
      each k l = let e : row_at p + 4 + k ≡ row_at p + (4 + k) = omega arith in rw e (ap (λ (x : ℕ). x % nodes) (a.row (4 + k) (omega arith)))

  alike-piece : (n : ℕ) → n ≤ most_bytes → piece_at u p n ≡ piece_at t p n
  unfolding piece_at
  alike-piece n h = build-ext (λ k. get_or u (area_at p + k) 0) (λ k. get_or t (area_at p + k) 0) n (λ k l. a.area k (omega arith))

  alike-seed : seed_at u p ≡ seed_at t p
  unfolding seed_at
  alike-seed =
      let z : row_at p + 0 ≡ row_at p = omega arith in
      let r0 : get_or u (row_at p) 0 ≡ get_or t (row_at p) 0 = rw z at (a.row 0 (omega arith)) in
      rw (r0, a.row 1 (omega arith), a.row 2 (omega arith), a.row 3 (omega arith), alike-slots, alike-piece (bytes_at t p) (omega arith))

-- a row that has the numbers of a seed, with its slots and its payload
seed-is : (u : List ℕ) (p nh nb : ℕ) (xs ys : List ℕ) → get_or u (row_at p) 0 ≡ 1 → get_or u (row_at p + 1) 0 ≡ min nh most_ids → get_or u (row_at p + 2) 0 ≡ nb / 256 →
    get_or u (row_at p + 3) 0 ≡ nb % 256 → nb ≤ most_bytes → piece_at u p nb ≡ xs → slots_at u p ≡ ys → seed_at u p ≡ kept xs (take (min nh most_ids) ys)
unfolding seed_at
seed-is u p nh nb xs ys e0 e1 e2 e3 h ex ey =
    let b : min (nb / 256 * 256 + nb % 256) most_bytes ≡ nb = omega arith in
    let c : min (min nh most_ids) most_ids ≡ min nh most_ids = omega arith in
    rw (e0, e1, e2, e3, b, c, ex, ey)

-- the slots as they are read back
unfoldable pub reduced : List ℕ → List ℕ
reduced slots = build (λ k. get_or slots k 0 % nodes) most_ids

-- the three runs of stores that set a seed
abbrev headed : List ℕ → ℕ → ℕ → ℕ → List ℕ
headed t p nh nb = sets t (row_at p) (head_of nh nb)

abbrev slotted : List ℕ → ℕ → ℕ → ℕ → List ℕ → List ℕ
slotted t p nh nb slots = sets (headed t p nh nb) (row_at p + 4) (row_in most_ids slots 0)

abbrev filled : List ℕ → ℕ → ℕ → ℕ → List ℕ → List ℕ → List ℕ
filled t p nh nb slots payload = sets (slotted t p nh nb slots) (area_at p) (take nb payload)

module _ (t : List ℕ) (p nh nb : ℕ) (slots payload : List ℕ) (size : length t ≡ seeds_size) (h : p < peers) (few : nb ≤ most_bytes) (fit : nb ≤ length payload) where
  bytes-length : length (take nb payload) ≡ nb
  bytes-length = length-take-le nb payload fit

  head_at : (k : ℕ) → k < 4 → get_or (filled t p nh nb slots payload) (row_at p + k) 0 ≡ get_or (head_of nh nb) k 0
  head_at k l =
      let room : row_at p + 4 ≤ length t = omega arith in
      sets-before (slotted t p nh nb slots) (take nb payload) (area_at p) (row_at p + k) 0 (omega arith)
      ∙ sets-before (headed t p nh nb) (row_in most_ids slots 0) (row_at p + 4) (row_at p + k) 0 (omega arith) ∙ sets-in t (head_of nh nb) (row_at p) k 0 l room

  slot_at : (k : ℕ) → k < most_ids → get_or (filled t p nh nb slots payload) (row_at p + 4 + k) 0 ≡ get_or slots k 0
  unfolding row_in
  slot_at k l =
      let made : length (build (λ j. get_or slots (most_ids * 0 + j) 0) most_ids) ≡ most_ids = build-length (λ j. get_or slots (most_ids * 0 + j) 0) most_ids in
      let z : most_ids * 0 + k ≡ k = omega arith in
      sets-before (slotted t p nh nb slots) (take nb payload) (area_at p) (row_at p + 4 + k) 0 (omega arith)
      ∙ sets-in (headed t p nh nb) (row_in most_ids slots 0) (row_at p + 4) k 0 (omega (arith, made)) (omega (arith, made, length-sets t (row_at p) (head_of nh nb)))
      ∙ build-at (λ j. get_or slots (most_ids * 0 + j) 0) most_ids k 0 l ∙ ap (λ (x : ℕ). get_or slots x 0) z

  byte_at : (k : ℕ) → k < nb → get_or (filled t p nh nb slots payload) (area_at p + k) 0 ≡ get_or (take nb payload) k 0
  byte_at k l =
      let n1 = length-sets (headed t p nh nb) (row_at p + 4) (row_in most_ids slots 0) in
      let n2 = length-sets t (row_at p) (head_of nh nb) in
      sets-in (slotted t p nh nb slots) (take nb payload) (area_at p) k 0 (omega (arith, bytes-length)) (omega (arith, bytes-length, n1, n2))

  own-slots : slots_at (filled t p nh nb slots payload) p ≡ reduced slots
  unfolding slots_at reduced
  own-slots =
      build-ext (λ k. get_or (filled t p nh nb slots payload) (row_at p + 4 + k) 0 % nodes) (λ k. get_or slots k 0 % nodes) most_ids (λ k l. ap (λ (x : ℕ). x % nodes) (slot_at k l))

  own-piece : piece_at (filled t p nh nb slots payload) p nb ≡ take nb payload
  unfolding piece_at
  own-piece =
      build-ext (λ k. get_or (filled t p nh nb slots payload) (area_at p + k) 0) (λ k. get_or (take nb payload) k 0) nb byte_at
      ∙ ap (build (λ k. get_or (take nb payload) k 0)) (sym bytes-length) ∙ build-list 0 (take nb payload)

  own-seed : seed_at (filled t p nh nb slots payload) p ≡ kept (take nb payload) (take (min nh most_ids) (reduced slots))
  own-seed =
      let z : row_at p ≡ row_at p + 0 = omega arith in
      seed-is (filled t p nh nb slots payload) p nh nb (take nb payload) (reduced slots)
      (ap (λ (x : ℕ). get_or (filled t p nh nb slots payload) x 0) z ∙ head_at 0 (omega arith))
      (head_at 1 (omega arith))
      (head_at 2 (omega arith))
      (head_at 3 (omega arith))
      few
      own-piece
      own-slots

  -- every other peer's row lies before or behind the stores, and so does its payload
  module _ (q : ℕ) (l : q < peers) (ne : p ≡ q → ⊥) where
    row-length8 : length (row_in most_ids slots 0) ≡ most_ids
    row-length8 = row-length most_ids slots 0

    other_row : (k : ℕ) → k < seed_fields → Seen (ltb q p) → get_or (filled t p nh nb slots payload) (row_at q + k) 0 ≡ get_or t (row_at q + k) 0
    other_row k m (is_true e) =
        let lt : q < p = ltb-true q p e in
        sets-before (slotted t p nh nb slots) (take nb payload) (area_at p) (row_at q + k) 0 (omega arith)
        ∙ sets-before (headed t p nh nb) (row_in most_ids slots 0) (row_at p + 4) (row_at q + k) 0 (omega arith)
        ∙ sets-before t (head_of nh nb) (row_at p) (row_at q + k) 0 (omega arith)
    other_row k m (is_false e) =
        let gt : p < q = above p q (ltb-false q p e) (λ x. ne (sym x)) in
        let past : row_at p + 4 ≤ row_at q + k = omega arith in
        sets-before (slotted t p nh nb slots) (take nb payload) (area_at p) (row_at q + k) 0 (omega arith)
        ∙ sets-past (headed t p nh nb) (row_in most_ids slots 0) (row_at p + 4) (row_at q + k) 0 (omega (arith, row-length8)) ∙ sets-past t (head_of nh nb) (row_at p) (row_at q + k) 0 past

    other-area : (k : ℕ) → k < most_bytes → Seen (ltb q p) → get_or (filled t p nh nb slots payload) (area_at q + k) 0 ≡ get_or t (area_at q + k) 0
    other-area k m s =
        let past : row_at p + 4 ≤ area_at q + k = omega arith in
        go s
        ∙ sets-past (headed t p nh nb) (row_in most_ids slots 0) (row_at p + 4) (area_at q + k) 0 (omega (arith, row-length8)) ∙ sets-past t (head_of nh nb) (row_at p) (area_at q + k) 0 past
      where
        go : Seen (ltb q p) → get_or (filled t p nh nb slots payload) (area_at q + k) 0 ≡ get_or (slotted t p nh nb slots) (area_at q + k) 0
        go (is_true e) =
            let lt : q < p = ltb-true q p e in
            sets-before (slotted t p nh nb slots) (take nb payload) (area_at p) (area_at q + k) 0 (omega arith)
        go (is_false e) =
            let gt : p < q = above p q (ltb-false q p e) (λ x. ne (sym x)) in
            sets-past (slotted t p nh nb slots) (take nb payload) (area_at p) (area_at q + k) 0 (omega (arith, bytes-length))

    other-seed : seed_at (filled t p nh nb slots payload) q ≡ seed_at t q
    other-seed = alike-seed t (filled t p nh nb slots payload) q (record { row = λ k m. other_row k m (look (ltb q p)); area = λ k m. other-area k m (look (ltb q p)) })

-- Whatever is stored: at most 512 bytes and 8 slots of it are kept.
pub put_view : (t : List ℕ) (p nh : ℕ) (slots payload : List ℕ) → length t ≡ seeds_size → p < peers →
    seed_v (stored t p nh slots payload) ≡ upd (seed_v t) p (kept (take most_bytes payload) (take (min nh most_ids) (reduced slots)))
unfolding stored
put_view t p nh slots payload size h =
    let nb = min (length payload) most_bytes in
    seed-changed t (filled t p nh nb slots payload) p (kept (take nb payload) (take (min nh most_ids) (reduced slots))) h
    (own-seed t p nh nb slots payload size h (omega arith) (omega arith))
    (λ q l ne. other-seed t p nh nb slots payload size h (omega arith) (omega arith) q l ne)
    ∙ ap (λ (x : List ℕ). upd (seed_v t) p (kept x (take (min nh most_ids) (reduced slots)))) (take_min most_bytes payload)

-- A seed within the sizes of a send is kept as it is.
reduced-front : (nh : ℕ) (slots : List ℕ) → nh ≤ most_ids → length slots ≡ most_ids → ((k : ℕ) → k < nh → get_or slots k 0 < nodes) → take (min nh most_ids) (reduced slots) ≡ take nh slots
unfolding reduced
reduced-front nh slots h size low = ap (λ (n : ℕ). take n made) fits ∙ ext_get_or 0 (take nh made) (take nh slots) (lengthy ∙ sym long) each
  where
    made : List ℕ
    made = build (λ k. get_or slots k 0 % nodes) most_ids

    fits : min nh most_ids ≡ nh
    fits = omega arith

    lengthy : length (take nh made) ≡ nh
    lengthy = length-take-le nh made (omega (arith, build-length (λ k. get_or slots k 0 % nodes) most_ids))

    long : length (take nh slots) ≡ nh
    long = length-take-le nh slots (omega arith)

    each : (k : ℕ) → k < length (take nh made) → get_or (take nh made) k 0 ≡ get_or (take nh slots) k 0
    each k l =
        let m : k < nh = omega (arith, lengthy) in
        let small : get_or slots k 0 % nodes ≡ get_or slots k 0 = omega (arith, low k m) in
        get_or-take nh made k 0 m ∙ build-at (λ k. get_or slots k 0 % nodes) most_ids k 0 (omega arith) ∙ small ∙ sym (get_or-take nh slots k 0 m)

pub put-message : (t : List ℕ) (p nh : ℕ) (slots payload : List ℕ) → length t ≡ seeds_size → p < peers → length payload ≤ most_bytes → nh ≤ most_ids → length slots ≡ most_ids →
    ((k : ℕ) → k < nh → get_or slots k 0 < nodes) → seed_v (stored t p nh slots payload) ≡ upd (seed_v t) p (kept payload (take nh slots))
put-message t p nh slots payload size h few least eight low =
    put_view t p nh slots payload size h ∙ rw (take_all most_bytes payload few, reduced-front nh slots least eight low)

-- A seed dropped is none.
dropped-own : (t : List ℕ) (p : ℕ) → row_at p < length t → seed_at (set t (row_at p) 0) p ≡ unset
unfolding seed_at
dropped-own t p h = rw (get_or-set_same t (row_at p) 0 0 h)

dropped-other : (t : List ℕ) (p q : ℕ) → p < peers → (p ≡ q → ⊥) → seed_at (set t (row_at p) 0) q ≡ seed_at t q
dropped-other t p q h ne = alike-seed t (set t (row_at p) 0) q (record { row = row; area = area })
  where
    row : (k : ℕ) → k < seed_fields → get_or (set t (row_at p) 0) (row_at q + k) 0 ≡ get_or t (row_at q + k) 0
    row k m = get_or-set_other t (row_at p) (row_at q + k) 0 0 (λ e. ne (omega arith))

    area : (k : ℕ) → k < most_bytes → get_or (set t (row_at p) 0) (area_at q + k) 0 ≡ get_or t (area_at q + k) 0
    area k m = get_or-set_other t (row_at p) (area_at q + k) 0 0 (λ e. absurd (omega arith))

pub drop-view : (t : List ℕ) (p : ℕ) → length t ≡ seeds_size → p < peers → seed_v (dropped t p) ≡ upd (seed_v t) p unset
unfolding dropped
drop-view t p size h = seed-changed t (set t (row_at p) 0) p unset h (dropped-own t p (omega arith)) (λ q l ne. dropped-other t p q h ne)

-- The table keeps its length.
pub stored-length : (t : List ℕ) (p nh : ℕ) (slots payload : List ℕ) → length (stored t p nh slots payload) ≡ length t
unfolding stored
stored-length t p nh slots payload =
    let nb = min (length payload) most_bytes in
    length-sets (slotted t p nh nb slots) (area_at p) (take nb payload)
    ∙ length-sets (headed t p nh nb) (row_at p + 4) (row_in most_ids slots 0) ∙ length-sets t (row_at p) (head_of nh nb)

pub dropped-length : (t : List ℕ) (p : ℕ) → length (dropped t p) ≡ length t
unfolding dropped
dropped-length t p = length-set t (row_at p) 0

-- No seed in a table of zeros.
none-at : (n p : ℕ) → seed_at (replicate n 0) p ≡ unset
unfolding seed_at
none-at n p = rw (zeros-at n (row_at p))

pub zeros-unset : (n : ℕ) → seed_v (replicate n 0) ≡ (λ p. unset)
unfolding seed_v
zeros-unset n = upto-ext peers unset (seed_at (replicate n 0)) (λ p. unset) (λ p l. none-at n p) ∙ upto-const peers unset

-- Whatever the table holds, a seed carries at most 8 slots, below 128, and has at most 512 bytes.
front-carried : (t : List ℕ) (p : ℕ) → Carried (take (count_at t p) (slots_at t p))
unfolding slots_at
front-carried t p =
    let made : ℕ → ℕ = λ k. get_or t (row_at p + 4 + k) 0 % nodes in
    (omega (arith, length-take (count_at t p) (build made most_ids)), all_take (λ s. s < nodes) (count_at t p) (build made most_ids) (all_build (λ s. s < nodes) made most_ids (λ j. omega arith)))

pub seed-carried : (t : List ℕ) (p : ℕ) → Carried (seed_carries (seed_v t p))
unfolding seed_v upto seed_at
seed-carried t p =
    pick_all (λ x. Carried (seed_carries x)) (ltb p peers) (seed_at t p) unset
    (pick_all (λ x. Carried (seed_carries x)) (set_at t p) (kept (piece_at t p (bytes_at t p)) (take (count_at t p) (slots_at t p))) unset (front-carried t p) (omega arith, tt))
    (omega arith, tt)

abbrev pub seed_bytes : Seed → ℕ
seed_bytes unset = 0
seed_bytes (kept payload carried) = length payload

pub seed-bytes : (t : List ℕ) (p : ℕ) → seed_bytes (seed_v t p) ≤ most_bytes
unfolding seed_v upto seed_at piece_at
seed-bytes t p =
    pick_all (λ x. seed_bytes x ≤ most_bytes) (ltb p peers) (seed_at t p) unset
    (pick_all (λ x. seed_bytes x ≤ most_bytes) (set_at t p) (kept (piece_at t p (bytes_at t p)) (take (count_at t p) (slots_at t p))) unset
    (omega (arith, build-length (λ k. get_or t (area_at p + k) 0) (bytes_at t p)))
    (omega arith))
    (omega arith)
