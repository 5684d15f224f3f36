-- The laws that the functions' proofs cite, one for each return or turn of a loop, over plain variables: each is shaped like what the callee ensures.
-- Assumes nothing.
use Prim.Native.Nat.{ℕ, zero, suc, ◌+◌, ◌*◌, ◌-◌, ◌/◌, ◌%◌, ◌^◌, ◌≤◌, ◌<◌}
use Rattle.std.specs.Prelude.{◌≡◌, Bool, true, get_or, replicate, set as set_at, eqb, ltb, Option, Some, None}
use Rattle.std.proofs.Math.Path.{refl, sym, ap}
use Rattle.std.proofs.Common.{ap₂, ◌∙◌, length-set, get_or-set_same, get_or-set_other, pow_mono}
use Rattle.std.proofs.Math.Bool.{false}
use mathlib.Core.List.{List}
use native.Mathlib.Omega.{arith}
use Rattle.std.proofs.Math.Numerals.{add-one}
use Rattle.std.proofs.Math.ListN.{length}
use Rattle.std.proofs.Math.Seq.{ext_get_or}
use Rattle.std.specs.Int.Count.{count_trailing_zeros}
use borrow.Author.Tests.{eq-eqb, ne_eqb, ltb-true, ltb-false, lt-ltb, le-ltb, le-leb, lt-leb}
use Rattle.laws.specs.Tests.{pick, pick_all, Seen, Seen.is_true, Seen.is_false, look, Same, Same.same, Same.other, same?}
use Rattle.laws.specs.Sums.{sum_to}
use Rattle.laws.specs.Bits.{bits}
use Rattle.laws.specs.Build.{build, build-at, build-length}
use Rattle.ids.specs.declared.HandleId.{HandleId}
use Rattle.ids.specs.declared.Peer.{Peer}
use Rattle.rings.specs.declared.Entry.{Entry}
use Rattle.rings.specs.declared.Match.{Match}
use Rattle.rings.specs.Rings.{kind_destroyed, kind_released, destroyed_bit, released_bit, slots, ring_size, ends_size, Rings, rings_of, Sized, entry_at, row_of, head_of, length_of, bit_at, one_slot}
use Rattle.rings.specs.Matches.{bit-one}
use Rattle.tables.specs.Nodes.{live_at, died_at, set_dead}
use Rattle.tables.specs.Handles.{count_at, total_at}
use Rattle.tables.specs.NodesView.{dead-length}
use Rattle.tables.specs.CodeLaws.{byte-shift}
use Rattle.queues.specs.Queues.{entered, withdrawn, carried_before}
use Rattle.queues.specs.Entering.{enter-sized, enter-ends}
use Rattle.queues.specs.Leaving.{withdraw-ends, withdraw-rows}
use Rattle.notices.specs.declared.Asked.{Asked}
use Rattle.notices.specs.declared.Asked.TheVariants.{Living, Falling, Above}
use Rattle.notices.specs.Notices.{notice_of, falls_at, key_at, above_at, Fair, asks, set_of, lower_of, least_at, posted_to, tells_at, addressees, addressees_at, addressees_of, following, told, dead_all, destroyed_of, released_in, destroyed_set, told_owners, expired, expired_at, own_invalid, expired_place, expired_below, expired_all}
use Rattle.notices.specs.Rising.{bit-bits}
use Rattle.ids.specs.Sizes.{peers}
use Rattle.model.specs.Numbers.{nodes, invalid}
use Rattle.model.specs.Lists.{either}

-- falls
module _ (ns hs : List ℕ) (p s : ℕ) {a : Bool} (ea : a ≡ live_at ns s) where
  pub falls-dead : a ≡ false → false ≡ falls_at ns hs p s
  unfolding falls_at
  falls-dead f = rw (← ea, f)

  module _ (t : a ≡ true) {c : ℕ} (ec : c ≡ count_at hs p s) where
    pub falls-none : c ≡ 0 → false ≡ falls_at ns hs p s
    unfolding falls_at
    falls-none z = rw (← ea, t, ← ec, z)

    pub falls-some : (c ≡ 0 → ⊥) → {n : ℕ} → n ≡ total_at hs s → eqb n (c + 1) ≡ falls_at ns hs p s
    unfolding falls_at
    falls-some z en = rw (← ea, t, ← ec, ne_eqb c 0 z, en)

-- is_above
module _ (hs : List ℕ) (q set j k : ℕ) {w : ℕ} (ew : w ≡ set) {b : Bool} (eb : b ≡ bit_at w k) where
  pub above-out : b ≡ false → false ≡ above_at hs q set j k
  unfolding above_at
  above-out f = rw (← ew, ← eb, f)

  pub above_in : b ≡ true → {x y : HandleId} → x ≡ record { 0 = key_at hs q (j % slots) } → y ≡ record { 0 = key_at hs q k } → ltb x.0 y.0 ≡ above_at hs q set j k
  unfolding above_at
  above_in t ex ey = rw (← ew, ← eb, t, ex, ey)

-- is_asked
module _ (ns hs : List ℕ) (q : ℕ) (a : Asked) (k : ℕ) {b : Bool} where
  pub asks-living : a ≡ Living → b ≡ live_at ns (q * slots + k) → b ≡ asks ns hs q a k
  asks-living f e = rw f e

  pub asks-falling : {p : Peer} → a ≡ Falling p → b ≡ falls_at ns hs p.0 (q * slots + k) → b ≡ asks ns hs q a k
  asks-falling f e = rw f e

  pub asks-above : {set j : ℕ} → a ≡ Above set j → b ≡ above_at hs q set j k → b ≡ asks ns hs q a k
  asks-above f e = rw f e

pub fair-falling : (a : Asked) {p : Peer} → Fair a → a ≡ Falling p → p.0 < peers
fair-falling a f e = rw e at f

-- a bit, or none
module _ (a : Bool) (bit : ℕ) {b : Bool} (eb : b ≡ a) where
  pub bit-some : b ≡ true → (bit ≡ pick a bit 0) × (bit ≤ bit)
  bit-some t = (rw (← eb, t), omega arith)

  pub bit-none : b ≡ false → (0 ≡ pick a bit 0) × (0 ≤ bit)
  bit-none f = (rw (← eb, f), omega arith)

word-bit : (k : ℕ) → k ≤ slots → 2 ^ k ≤ 65536
word-bit k l = let m : 2 ^ k ≤ 2 ^ slots = pow_mono l in omega arith

-- set_of, by a bit that is doubled: the bit of the place k, and the bits of the places below it
pub record Asking (ns hs : List ℕ) (q : ℕ) (a : Asked) (k bit set : ℕ) : Type 0 where
  pub places : k ≤ slots
  pub power : bit ≡ 2 ^ k
  pub word : bit ≤ 65536
  pub below : set < bit
  pub sum : set ≡ bits (asks ns hs q a) k

module _ (ns hs : List ℕ) (q : ℕ) (a : Asked) where
  pub asking-none : Asking ns hs q a 0 1 0
  unfolding bits sum_to
  asking-none = record { places = omega arith; power = refl; word = omega arith; below = omega arith; sum = refl }

  pub asking-more : (k bit set : ℕ) {b : ℕ} → Asking ns hs q a k bit set → k < slots → (b ≡ pick (asks ns hs q a k) bit 0) × (b ≤ bit) → Asking ns hs q a (k + 1) (2 * bit) (b + set)
  unfolding bits sum_to
  asking-more k bit set {b} g l e =
      let x : 2 ^ (k + 1) ≡ 2 * 2 ^ k = rw add-one (omega arith) in
      let y : 2 * bit ≡ 2 ^ (k + 1) = rw (x, g.power) in
      record {
        places = omega arith;
        power = y;
        word = rw y (word-bit (k + 1) (omega arith));
        below = omega (arith, g.below, e.1);
        sum = rw (add-one, e.0, g.power, g.sum);
      }

  pub asking-all : (k : ℕ) {bit set : ℕ} → Asking ns hs q a k bit set → k ≡ slots → set ≡ set_of ns hs q a
  unfolding set_of
  asking-all k g f = rw (← f) g.sum

-- set_where: the bits of the places passed, of each test that the calls answered as
pub record Setting (answers : ℕ → Bool → Type 0) (k set : ℕ) : Type 0 where
  pub below : set < 2 ^ k
  pub sum : (t : ℕ → Bool) → ((j : ℕ) → j < k → (b : Bool) → answers j b → b ≡ t j) → set ≡ bits t k

module _ {answers : ℕ → Bool → Type 0} where
  pub setting-none : Setting answers 0 0
  unfolding bits sum_to
  setting-none = record { below = omega arith; sum = λ t h. refl }

  module _ {k set : ℕ} (v : Setting answers k set) (l : k < slots) where
    fits-word : 2 * 2 ^ k ≤ 65536
    fits-word = let x : 2 ^ (k + 1) ≡ 2 * 2 ^ k = rw add-one (omega arith) in omega (arith, x, word-bit (k + 1) (omega arith))

    shifted : 1 * 2 ^ k % 65536 ≡ 2 ^ k
    shifted = omega (arith, fits-word)

    pub setting-fits : set + 1 * 2 ^ k % 65536 < 65536
    setting-fits = omega (arith, shifted, fits-word, v.below)

    module _ {b : Bool} (a : answers k b) where
      pub setting-in : b ≡ true → {w : ℕ} → w ≡ set + 1 * 2 ^ k % 65536 → Setting answers (k + 1) w
      unfolding bits sum_to
      setting-in e {w} ew =
          let x : 2 ^ (k + 1) ≡ 2 * 2 ^ k = rw add-one (omega arith) in
          record {
            below = omega (arith, x, ew, shifted, v.below);
            sum = λ t h. let y = v.sum t (λ j m. h j (omega arith)) in rw (add-one, ← h k (omega arith) b a, e, ← y) (omega (arith, ew, shifted));
          }

      pub setting-out : b ≡ false → {w : ℕ} → w ≡ set → Setting answers (k + 1) w
      unfolding bits sum_to
      setting-out e {w} ew =
          let x : 2 ^ (k + 1) ≡ 2 * 2 ^ k = rw add-one (omega arith) in
          record {
            below = omega (arith, x, ew, v.below);
            sum = λ t h. let y = v.sum t (λ j m. h j (omega arith)) in rw (add-one, ← h k (omega arith) b a, e, ← y) (omega (arith, ew));
          }

  pub setting-all : {k set n : ℕ} → Setting answers k set → k ≡ n → (t : ℕ → Bool) → ((j : ℕ) → j < n → (b : Bool) → answers j b → b ≡ t j) → set ≡ bits t n
  setting-all v e t h = v.sum t (λ j l. h j (omega (arith, e, l))) ∙ ap (bits t) e

-- lower
module _ (hs : List ℕ) (q : ℕ) (found : Option ℕ) (k : ℕ) where
  pub lower-first : found ≡ None → Some k ≡ lower_of hs q found k
  lower-first f = rw f

  module _ {j : ℕ} (f : found ≡ Some j) {x y : HandleId} (ex : x ≡ record { 0 = key_at hs q (j % slots) }) (ey : y ≡ record { 0 = key_at hs q k }) where
    low : x.0 ≡ key_at hs q (j % slots)
    low = ap (λ (z : HandleId). z.0) ex

    own : y.0 ≡ key_at hs q k
    own = ap (λ (z : HandleId). z.0) ey

    pub lower-new : y.0 < x.0 → Some k ≡ lower_of hs q found k
    lower-new l = rw (f, ← low, ← own, lt-ltb y.0 x.0 l)

    pub lower-old : x.0 ≤ y.0 → Some j ≡ lower_of hs q found k
    lower-old l = rw (f, ← low, ← own, le-ltb y.0 x.0 l)

-- least_id, bury: the bit that the code reads
bit_is : (k : ℕ) {set w : ℕ} → w ≡ set → {b : Bool} → b ≡ bit_at w k → {c : Bool} → b ≡ c → bit_at set k ≡ c
bit_is k ew eb t = ap (λ (y : ℕ). bit_at y k) (sym ew) ∙ sym eb ∙ t

module _ (hs : List ℕ) (q set : ℕ) where
  pub least-none : None ≡ least_at hs q set 0
  unfolding least_at
  least-none = refl

  module _ (k : ℕ) {x : Option ℕ} (ex : x ≡ least_at hs q set k) {w : ℕ} (ew : w ≡ set) {b : Bool} (eb : b ≡ bit_at w k) where
    pub least-in : b ≡ true → {y : Option ℕ} → y ≡ lower_of hs q x k → {z : Option ℕ} → z ≡ y → z ≡ least_at hs q set (k + 1)
    unfolding least_at
    least-in t ey ez = rw (add-one, bit_is k ew eb t, ← ex) (ez ∙ ey)

    pub least-out : b ≡ false → {z : Option ℕ} → z ≡ x → z ≡ least_at hs q set (k + 1)
    unfolding least_at
    least-out f ez = rw (add-one, bit_is k ew eb f, ← ex) ez

  pub least-all : (k : ℕ) {x : Option ℕ} → x ≡ least_at hs q set k → k ≡ slots → x ≡ least_at hs q set slots
  least-all k e f = rw (← f) e

-- The rings have their sizes, and keep them where entries are queued.
pub record Fit (r : Rings) : Type 0 where
  pub ends : length r.ends ≡ ends_size
  pub rows : Sized r.rows

enter-fit : (r : Rings) (p : ℕ) (e : Entry) → Fit r → Fit (entered r p e)
enter-fit r p e f = record { ends = enter-ends r p e ∙ f.ends; rows = enter-sized r p e f.rows }

pub post-fit : (r : Rings) (e : Entry) (set n : ℕ) → Fit r → Fit (posted_to r e set n)
unfolding posted_to
post-fit r e set zero f = f
post-fit r e set (suc n) f =
    pick_all Fit (eqb set 0) r (posted_to (entered r (count_trailing_zeros 8 set % peers) e) e (set - 2 ^ (count_trailing_zeros 8 set % peers)) n)
    f
    (post-fit (entered r (count_trailing_zeros 8 set % peers) e) e (set - 2 ^ (count_trailing_zeros 8 set % peers)) n (enter-fit r (count_trailing_zeros 8 set % peers) e f))

-- post: what is left to do gives what the whole gives.
posted-zero : (r : Rings) (e : Entry) (set : ℕ) → posted_to r e set 0 ≡ r
unfolding posted_to
posted-zero r e set = refl

posted-none : (r : Rings) (e : Entry) (n : ℕ) → posted_to r e 0 n ≡ r
unfolding posted_to
posted-none r e zero = refl
posted-none r e (suc n) = refl

posted-some : (r : Rings) (e : Entry) (set n : ℕ) → (set ≡ 0 → ⊥) →
    posted_to r e set (suc n) ≡ posted_to (entered r (count_trailing_zeros 8 set % peers) e) e (set - 2 ^ (count_trailing_zeros 8 set % peers)) n
unfolding posted_to
posted-some r e set n d = rw (ne_eqb set 0 d)

pub record Posting (r₀ : Rings) (e : Entry) (set : ℕ) (r : Rings) (rest k : ℕ) : Type 0 where
  pub turns : k ≤ peers
  pub fit : Fit r
  pub same : posted_to r₀ e set peers ≡ posted_to r e rest (peers - k)

module _ (r₀ : Rings) (e : Entry) (set : ℕ) where
  pub posting-start : length r₀.ends ≡ ends_size → Sized r₀.rows → Posting r₀ e set r₀ set 0
  posting-start n s = record { turns = omega arith; fit = record { ends = n; rows = s }; same = refl }

  module _ {r : Rings} {rest k : ℕ} (v : Posting r₀ e set r rest k) where
    pub posting-none : rest ≡ 0 → r ≡ posted_to r₀ e set peers
    posting-none z = sym (v.same ∙ ap (λ (x : ℕ). posted_to r e x (peers - k)) z ∙ posted-none r e (peers - k))

    pub posting-all : peers ≤ k → r ≡ posted_to r₀ e set peers
    posting-all l = let z : peers - k ≡ 0 = omega arith in sym (v.same ∙ ap (posted_to r e rest) z ∙ posted-zero r e rest)

    pub posting-next : k < peers → (rest ≡ 0 → ⊥) → {low : ℕ} → low ≡ count_trailing_zeros 8 rest → {r' : Rings} → r' ≡ entered r (low % peers) e →
        {rest' : ℕ} → rest' ≡ rest - 2 ^ (low % peers) → Posting r₀ e set r' rest' (k + 1)
    posting-next l d {low} el {r'} er {rest'} es =
        let z : peers - k ≡ suc (peers - (k + 1)) = omega arith in
        record {
          turns = omega arith;
          fit = rw er (enter-fit r (low % peers) e v.fit);
          same = v.same ∙ ap (posted_to r e rest) z ∙ posted-some r e rest (peers - (k + 1)) d ∙ rw (er, es, el) refl;
        }

-- concerns
module _ (hs cs : List ℕ) (r : Rings) (s n o : ℕ) {c : ℕ} (ec : c ≡ count_at hs o s) where
  pub concerns-holder : (c ≡ 0 → ⊥) → true ≡ tells_at hs cs r s n o
  concerns-holder d = rw (← ec, ne_eqb c 0 d)

  pub concerns-carrier : c ≡ 0 → {b : Bool} → b ≡ carried_before cs r s n o → b ≡ tells_at hs cs r s n o
  concerns-carrier z eb = rw (← ec, z) eb

byte-bit : (o : ℕ) → o ≤ peers → 2 ^ o ≤ 256
byte-bit o l = let m : 2 ^ o ≤ 2 ^ peers = pow_mono l in omega arith

-- addressees, by a bit that is doubled: the bit of the peer o, and the bits of the peers below it
pub record Addressing (hs cs : List ℕ) (r : Rings) (s n o bit set : ℕ) : Type 0 where
  pub passed : o ≤ peers
  pub power : bit ≡ 2 ^ o
  pub byte : bit ≤ 256
  pub below : set < bit
  pub sum : set ≡ bits (tells_at hs cs r s n) o

module _ (hs cs : List ℕ) (r : Rings) (s n : ℕ) where
  pub addressing-none : Addressing hs cs r s n 0 1 0
  unfolding bits sum_to
  addressing-none = record { passed = omega arith; power = refl; byte = omega arith; below = omega arith; sum = refl }

  pub addressing-more : (o bit set : ℕ) {b : ℕ} → Addressing hs cs r s n o bit set → o < peers → (b ≡ pick (tells_at hs cs r s n o) bit 0) × (b ≤ bit) →
      Addressing hs cs r s n (o + 1) (2 * bit) (b + set)
  unfolding bits sum_to
  addressing-more o bit set {b} v l e =
      let x : 2 ^ (o + 1) ≡ 2 * 2 ^ o = rw add-one (omega arith) in
      let y : 2 * bit ≡ 2 ^ (o + 1) = rw (x, v.power) in
      record {
        passed = omega arith;
        power = y;
        byte = rw y (byte-bit (o + 1) (omega arith));
        below = omega (arith, v.below, e.1);
        sum = rw (add-one, e.0, v.power, v.sum);
      }

  pub addressing-all : (o : ℕ) {bit set : ℕ} → Addressing hs cs r s n o bit set → o ≡ peers → set ≡ addressees hs cs r s n
  unfolding addressees
  addressing-all o v f = rw (← f) v.sum

-- addressees_at
module _ (hs cs : List ℕ) (r : Rings) (p set n k : ℕ) {w : ℕ} (ew : w ≡ set) {b : Bool} (eb : b ≡ bit_at w k) where
  pub place_out : b ≡ false → 0 ≡ addressees_at hs cs r p set n k
  place_out f = rw (← ew, ← eb, f)

  pub place_in : b ≡ true → {x : ℕ} → x ≡ addressees hs cs r (p * slots + k) n → x ≡ addressees_at hs cs r p set n k
  place_in t ex = rw (← ew, ← eb, t) ex

below_next : (n k : ℕ) → k < suc n → (n ≡ k → ⊥) → k < n
below_next n k l d = go (look (ltb k n))
  where
    go : Seen (ltb k n) → k < n
    go (is_true e) = ltb-true k n e
    go (is_false e) = let m : n ≤ k = ltb-false k n e in absurd (d (omega arith))

-- addressees_of: the places below k are stored
pub record Placing (hs cs : List ℕ) (r : Rings) (p set n : ℕ) (to : List ℕ) (k : ℕ) : Type 0 where
  pub places : k ≤ slots
  pub size : length to ≡ slots
  pub stored : (j : ℕ) → j < k → get_or to j 0 ≡ addressees_at hs cs r p set n j

module _ (hs cs : List ℕ) (r : Rings) (p set n : ℕ) where
  pub placing-start : Placing hs cs r p set n (replicate slots 0) 0
  placing-start = record { places = omega arith; size = refl; stored = λ j l. absurd (omega arith) }

  pub placing-next : {to : List ℕ} {k : ℕ} → Placing hs cs r p set n to k → k < slots → {x : ℕ} → x ≡ addressees_at hs cs r p set n k →
      Placing hs cs r p set n (set_at to k x) (k + 1)
  placing-next {to} {k} v l {x} ex =
      record { places = omega arith; size = length-set to k x ∙ v.size; stored = λ j m. go j m (same? k j) }
    where
      go : (j : ℕ) → j < k + 1 → Same k j → get_or (set_at to k x) j 0 ≡ addressees_at hs cs r p set n j
      go j m (same e) = rw (← e) (get_or-set_same to k x 0 (omega (arith, v.size)) ∙ ex)
      go j m (other d) = get_or-set_other to k j x 0 (λ e. d (sym e)) ∙ v.stored j (below_next k j (omega arith) d)

  pub placing-all : {to : List ℕ} {k : ℕ} → Placing hs cs r p set n to k → slots ≤ k → to ≡ addressees_of hs cs r p set n
  unfolding addressees_of
  placing-all {to} {k} v l =
      ext_get_or 0 to (build (addressees_at hs cs r p set n) slots) (v.size ∙ sym (build-length (addressees_at hs cs r p set n) slots))
      (λ j m. let i : j < slots = omega (arith, v.size) in
      v.stored j (omega arith) ∙ sym (build-at (addressees_at hs cs r p set n) slots j 0 i))

-- tell: what is left to do gives what the whole gives.
module _ (hs to : List ℕ) (q kind n : ℕ) where
  pub tell-fit : (r : Rings) (set f : ℕ) → Fit r → Fit (told hs to q kind n r set f)
  unfolding told
  tell-fit r set zero x = x
  tell-fit r set (suc f) x = go (least_at hs q set slots) (λ s y z. tell-fit s y f z)
    where
      go : (y : Option ℕ) → ((s : Rings) (y : ℕ) → Fit s → Fit (told hs to q kind n s y f)) →
          Fit
          (following y
          (λ j. told hs to q kind n (posted_to r (notice_of kind (q * slots + j % slots) n) (get_or to (j % slots) 0) peers) (bits (above_at hs q set j) slots) f)
          r)
      go None ih = x
      go (Some j) ih =
          ih (posted_to r (notice_of kind (q * slots + j % slots) n) (get_or to (j % slots) 0) peers) (bits (above_at hs q set j) slots)
          (post-fit r (notice_of kind (q * slots + j % slots) n) (get_or to (j % slots) 0) peers x)

  told-zero : (r : Rings) (set : ℕ) → told hs to q kind n r set 0 ≡ r
  unfolding told
  told-zero r set = refl

  told_none : (r : Rings) (set f : ℕ) → least_at hs q set slots ≡ None → told hs to q kind n r set f ≡ r
  unfolding told
  told_none r set zero e = refl
  told_none r set (suc f) e = rw e

  told-some : (r : Rings) (set f j : ℕ) → least_at hs q set slots ≡ Some j →
      told hs to q kind n r set (suc f)
      ≡ told hs to q kind n (posted_to r (notice_of kind (q * slots + j % slots) n) (get_or to (j % slots) 0) peers) (bits (above_at hs q set j) slots) f
  unfolding told
  told-some r set f j e = rw e

pub record Telling (hs to : List ℕ) (q kind n : ℕ) (r₀ : Rings) (set : ℕ) (r : Rings) (rest k : ℕ) : Type 0 where
  pub turns : k ≤ slots
  pub fit : Fit r
  pub same : told hs to q kind n r₀ set slots ≡ told hs to q kind n r rest (slots - k)

module _ (ns hs to : List ℕ) (q kind n : ℕ) (r₀ : Rings) (set : ℕ) where
  pub telling-start : length r₀.ends ≡ ends_size → Sized r₀.rows → Telling hs to q kind n r₀ set r₀ set 0
  telling-start m s = record { turns = omega arith; fit = record { ends = m; rows = s }; same = refl }

  module _ {r : Rings} {rest k : ℕ} (v : Telling hs to q kind n r₀ set r rest k) where
    pub telling-all : slots ≤ k → r ≡ told hs to q kind n r₀ set slots
    telling-all l = let z : slots - k ≡ 0 = omega arith in sym (v.same ∙ ap (told hs to q kind n r rest) z ∙ told-zero hs to q kind n r rest)

    module _ {x : Option ℕ} (ex : x ≡ least_at hs q rest slots) where
      pub telling-none : x ≡ None → r ≡ told hs to q kind n r₀ set slots
      telling-none f = sym (v.same ∙ told_none hs to q kind n r rest (slots - k) (sym ex ∙ f))

      pub telling-next : k < slots → {j : ℕ} → x ≡ Some j → {a : ℕ} → a ≡ get_or to (j % slots) 0 → {e : Entry} → e ≡ notice_of kind (q * slots + j % slots) n →
          {r' : Rings} → r' ≡ posted_to r e a peers → {rest' : ℕ} → rest' ≡ set_of ns hs q (Above rest j) → Telling hs to q kind n r₀ set r' rest' (k + 1)
      unfolding set_of
      telling-next l {j} f {a} et {e} ee {r'} er {rest'} es =
          let z : slots - k ≡ suc (slots - (k + 1)) = omega arith in
          record {
            turns = omega arith;
            fit = rw er (post-fit r e a peers v.fit);
            same = v.same ∙ ap (told hs to q kind n r rest) z ∙ told-some hs to q kind n r rest (slots - (k + 1)) j (sym ex ∙ f) ∙ rw (er, es, et, ee) refl;
          }

-- bury
module _ (ns : List ℕ) (p set n : ℕ) where
  pub bury-length : (k : ℕ) → length (dead_all ns p set n k) ≡ length ns
  unfolding dead_all
  bury-length zero = refl
  bury-length (suc k) =
      pick_all (λ (x : List ℕ). length x ≡ length ns) (bit_at set k) (set_dead (dead_all ns p set n k) (p * slots + k) n) (dead_all ns p set n k)
      (dead-length (dead_all ns p set n k) (p * slots + k) n ∙ bury-length k)
      (bury-length k)

  pub bury-none : ns ≡ dead_all ns p set n 0
  unfolding dead_all
  bury-none = refl

  module _ (k : ℕ) {x : List ℕ} (ex : x ≡ dead_all ns p set n k) {w : ℕ} (ew : w ≡ set) {b : Bool} (eb : b ≡ bit_at w k) where
    pub bury-in : b ≡ true → {y : List ℕ} → y ≡ set_dead x (p * slots + k) n → {z : List ℕ} → z ≡ y → z ≡ dead_all ns p set n (k + 1)
    unfolding dead_all
    bury-in t ey ez = rw (add-one, bit_is k ew eb t, ← ex) (ez ∙ ey)

    pub bury-out : b ≡ false → {z : List ℕ} → z ≡ x → z ≡ dead_all ns p set n (k + 1)
    unfolding dead_all
    bury-out f ez = rw (add-one, bit_is k ew eb f) (ez ∙ ex)

  pub bury-all : (k : ℕ) {x : List ℕ} → x ≡ dead_all ns p set n k → k ≡ slots → x ≡ dead_all ns p set n slots
  bury-all k e f = rw (← f) e

-- destroy_set
pub destroy-done : (ns hs cs : List ℕ) (r : Rings) (p set n : ℕ) {to : List ℕ} → to ≡ addressees_of hs cs r p set n → {r₁ : Rings} → r₁ ≡ withdrawn r p (released_in p set) → {ns' : List ℕ} → ns' ≡ dead_all ns p set n slots →
    {r₂ : Rings} → r₂ ≡ told hs to p kind_destroyed n r₁ set slots → destroyed_of ns' r₂ ≡ destroyed_set ns hs cs r p set n
unfolding destroyed_set
destroy-done ns hs cs r p set n ea ew en et = rw (en, et, ew, ea)

-- destroy_one: in the set of one bit the least ID is that place's and none is above it, so one notice is queued; and one node is dead.
module _ (hs : List ℕ) (q : ℕ) where
  least-empty : (set n : ℕ) → ((j : ℕ) → j < n → bit_at set j ≡ false) → least_at hs q set n ≡ None
  unfolding least_at
  least-empty set zero h = refl
  least-empty set (suc n) h = rw (h n (omega arith)) (least-empty set n (λ j l. h j (omega arith)))

  least-one : (k n : ℕ) → k < n → least_at hs q (2 ^ k) n ≡ Some k
  unfolding least_at
  least-one k zero l = absurd (omega arith)
  least-one k (suc n) l = rw (bit-one k n) (go (same? n k) (least-one k n))
    where
      go : Same n k → (k < n → least_at hs q (2 ^ k) n ≡ Some k) → pick (eqb n k) (lower_of hs q (least_at hs q (2 ^ k) n) n) (least_at hs q (2 ^ k) n) ≡ Some k
      go (same d) ih = rw (eq-eqb n k d, least-empty (2 ^ k) n (λ j m. bit-one k j ∙ ne_eqb j k (λ e. absurd (omega arith)))) (ap Some d)
      go (other d) ih = rw (ne_eqb n k d) (ih (below_next n k l d))

  above-one : (k j : ℕ) → k < slots → above_at hs q (2 ^ k) k j ≡ false
  unfolding above_at
  above-one k j l = rw (bit-one k j) (go (same? j k))
    where
      go : Same j k → pick (eqb j k) (ltb (key_at hs q (k % slots)) (key_at hs q j)) false ≡ false
      go (same d) = let e : k % slots ≡ k = omega arith in rw (eq-eqb j k d, e, d) (le-ltb (key_at hs q k) (key_at hs q k) (omega arith))
      go (other d) = rw (ne_eqb j k d)

  told-one : (to : List ℕ) (kind n : ℕ) (r : Rings) (k : ℕ) → k < slots →
      told hs to q kind n r (2 ^ k) slots ≡ posted_to r (notice_of kind (q * slots + k) n) (get_or to k 0) peers
  told-one to kind n r k l =
      let e : k % slots ≡ k = omega arith in
      let r' = posted_to r (notice_of kind (q * slots + k) n) (get_or to k 0) peers in
      let set' = bits (above_at hs q (2 ^ k) k) slots in
      told-some hs to q kind n r (2 ^ k) 15 k (least-one k slots l)
      ∙ ap (λ (i : ℕ). told hs to q kind n (posted_to r (notice_of kind (q * slots + i) n) (get_or to i 0) peers) set' 15) e
      ∙ told_none hs to q kind n r' set' 15 (least-empty set' slots (λ j m. bit-bits (above_at hs q (2 ^ k) k) slots j m ∙ above-one k j l))

dead-none : (ns : List ℕ) (p set n k : ℕ) → ((j : ℕ) → j < k → bit_at set j ≡ false) → dead_all ns p set n k ≡ ns
unfolding dead_all
dead-none ns p set n zero h = refl
dead-none ns p set n (suc k) h = rw (h k (omega arith)) (dead-none ns p set n k (λ j l. h j (omega arith)))

dead-one : (ns : List ℕ) (p n k m : ℕ) → k < m → dead_all ns p (2 ^ k) n m ≡ set_dead ns (p * slots + k) n
unfolding dead_all
dead-one ns p n k zero l = absurd (omega arith)
dead-one ns p n k (suc m) l = rw (bit-one k m) (go (same? m k) (dead-one ns p n k m))
  where
    go : Same m k → (k < m → dead_all ns p (2 ^ k) n m ≡ set_dead ns (p * slots + k) n) →
        pick (eqb m k) (set_dead (dead_all ns p (2 ^ k) n m) (p * slots + m) n) (dead_all ns p (2 ^ k) n m) ≡ set_dead ns (p * slots + k) n
    go (same d) ih = rw (eq-eqb m k d, dead-none ns p (2 ^ k) n m (λ j i. bit-one k j ∙ ne_eqb j k (λ e. absurd (omega arith))), d)
    go (other d) ih = rw (ne_eqb m k d) (ih (below_next m k l d))

-- In the set of one bit its place has its addressees.
place-one : (hs cs : List ℕ) (r : Rings) (p n k : ℕ) → k < slots → get_or (addressees_of hs cs r p (2 ^ k) n) k 0 ≡ addressees hs cs r (p * slots + k) n
unfolding addressees_of
place-one hs cs r p n k l =
    build-at (addressees_at hs cs r p (2 ^ k) n) slots k 0 l
    ∙ ap (λ (b : Bool). pick b (addressees hs cs r (p * slots + k) n) 0) (bit-one k k ∙ eq-eqb k k refl)

pub destroy-one : (ns hs cs : List ℕ) (r : Rings) (p s n : ℕ) {to : ℕ} → to ≡ addressees hs cs r (p * slots + s % slots) n →
    {m : Match} → m ≡ one_slot released_bit (p * slots + s % slots) → {r₁ : Rings} → r₁ ≡ withdrawn r p m → {ns' : List ℕ} → ns' ≡ set_dead ns (p * slots + s % slots) n →
    {e : Entry} → e ≡ notice_of kind_destroyed (p * slots + s % slots) n → {r₂ : Rings} → r₂ ≡ posted_to r₁ e to peers → destroyed_of ns' r₂ ≡ destroyed_set ns hs cs r p (one_slot released_bit s).mask n
unfolding destroyed_set one_slot
destroy-one ns hs cs r p s n {to} et {m} em {r₁} ew {ns'} en {e} ee {r₂} er =
    let k = s % slots in
    let l : k < slots = omega arith in
    let f : (p * slots + k) / slots * slots ≡ p * slots = omega arith in
    let g : (p * slots + k) % slots ≡ k = omega arith in
    let w : r₁ ≡ withdrawn r p (released_in p (2 ^ k)) = ew ∙ ap (withdrawn r p) (rw (f, g) at em) in
    let all = addressees_of hs cs r p (2 ^ k) n in
    let t : to ≡ get_or all k 0 = et ∙ sym (place-one hs cs r p n k l) in
    ap₂ destroyed_of (en ∙ sym (dead-one ns p n k slots l)) (rw (told-one hs p all 1 n (withdrawn r p (released_in p (2 ^ k))) k l, ← w, ← t, ← ee) er)

-- tell_owners
pub record Owning (ns hs : List ℕ) (p n : ℕ) (r₀ r : Rings) (q : ℕ) : Type 0 where
  pub owners : q ≤ peers
  pub fit : Fit r
  pub so : r ≡ told_owners ns hs p n r₀ q

module _ (ns hs : List ℕ) (p n : ℕ) (r₀ : Rings) where
  pub owning-start : length r₀.ends ≡ ends_size → Sized r₀.rows → Owning ns hs p n r₀ r₀ 0
  unfolding told_owners
  owning-start m s = record { owners = omega arith; fit = record { ends = m; rows = s }; so = refl }

  pub owning-next : {r : Rings} {q : ℕ} → Owning ns hs p n r₀ r q → q < peers → {set : ℕ} → set ≡ set_of ns hs q (Falling (record { 0 = p })) →
      {r' : Rings} → r' ≡ told hs (replicate slots (1 * 2 ^ q % 256)) q kind_released n r set slots → Owning ns hs p n r₀ r' (q + 1)
  unfolding told_owners
  owning-next {r} {q} v l {set} es {r'} er =
      record { owners = omega arith; fit = rw er (tell-fit hs (replicate slots (1 * 2 ^ q % 256)) q 2 n r set slots v.fit); so = rw (add-one, er, byte-shift q l, es, ← v.so) }

  pub owning-all : {r : Rings} {q : ℕ} → Owning ns hs p n r₀ r q → peers ≤ q → r ≡ told_owners ns hs p n r₀ peers
  owning-all {r} {q} v l = let z : q ≡ peers = omega (arith, v.owners) in rw (← z) v.so

-- expire
module _ (ns hs cs : List ℕ) (p : ℕ) (r : Rings) (s : ℕ) where
  module _ {a : Bool} (ea : a ≡ live_at ns s) where
    pub expire-live : a ≡ true → r ≡ expired ns hs cs p r s
    unfolding expired
    expire-live t = rw (← ea, t)

    module _ (f : a ≡ false) {n : ℕ} (en : n ≡ died_at ns s) {b : Bool} (eb : b ≡ tells_at hs cs r s n p) where
      kept : tells_at hs cs r s (died_at ns s) p ≡ b
      kept = ap (λ (x : ℕ). tells_at hs cs r s x p) (sym en) ∙ sym eb

      pub expire-kept : b ≡ true → r ≡ expired ns hs cs p r s
      unfolding expired
      expire-kept t = rw (← ea, f, kept, t)

      pub expire-gone : b ≡ false → {m : Match} → m ≡ one_slot destroyed_bit s → {r' : Rings} → r' ≡ withdrawn r p m → r' ≡ expired ns hs cs p r s
      unfolding expired
      expire-gone g em er = rw (← ea, f, kept, g, ← em) er

  expire-fit : Fit r → Fit (expired ns hs cs p r s)
  unfolding expired
  expire-fit x =
      let m = one_slot destroyed_bit s in
      pick_all Fit (either (live_at ns s) (tells_at hs cs r s (died_at ns s) p)) r (withdrawn r p m) x
      record { ends = withdraw-ends r p m ∙ x.ends; rows = withdraw-rows r p m x.rows }

-- expire_shown: the rings after the places below k of n
pub record Expiring (ns hs cs : List ℕ) (p : ℕ) (t : ℕ → Bool) (f : ℕ → ℕ) (r₀ r : Rings) (k n : ℕ) : Type 0 where
  pub within : k ≤ n
  pub fit : Fit r
  pub so : r ≡ expired_at ns hs cs p t f r₀ k

module _ (ns hs cs : List ℕ) (p : ℕ) (t : ℕ → Bool) (f : ℕ → ℕ) (r₀ : Rings) (n : ℕ) where
  pub expiring-start : length r₀.ends ≡ ends_size → Sized r₀.rows → Expiring ns hs cs p t f r₀ r₀ 0 n
  unfolding expired_at
  expiring-start m s = record { within = omega arith; fit = record { ends = m; rows = s }; so = refl }

  module _ {r : Rings} {k : ℕ} (v : Expiring ns hs cs p t f r₀ r k n) where
    pub expiring-in : k < n → t k ≡ true → {s : ℕ} → s ≡ f k → {r' : Rings} → r' ≡ expired ns hs cs p r s → Expiring ns hs cs p t f r₀ r' (k + 1) n
    unfolding expired_at
    expiring-in l y {s} es er = record { within = omega arith; fit = rw er (expire-fit ns hs cs p r s v.fit); so = rw (add-one, y, ← v.so, ← es) er }

    pub expiring-out : k < n → t k ≡ false → {r' : Rings} → r' ≡ r → Expiring ns hs cs p t f r₀ r' (k + 1) n
    unfolding expired_at
    expiring-out l y er = record { within = omega arith; fit = rw er v.fit; so = rw (add-one, y) (er ∙ v.so) }

    pub expiring-all : n ≤ k → r ≡ expired_at ns hs cs p t f r₀ n
    expiring-all l = let z : k ≡ n = omega (arith, v.within) in v.so ∙ ap (expired_at ns hs cs p t f r₀) z

-- expire_shown: the two tests of a place, and the rings where the branches meet
module _ (p : ℕ) (ss is : List ℕ) (k : ℕ) where
  pub shown-valid : (get_or is k 0 ≡ invalid → ⊥) → own_invalid p ss is k ≡ false
  shown-valid d = rw (ne_eqb (get_or is k 0) invalid d)

  module _ (e : get_or is k 0 ≡ invalid) where
    module _ {s : ℕ} (es : s ≡ get_or ss k 0) where
      pub shown-own : s % nodes / slots ≡ p → own_invalid p ss is k ≡ true
      shown-own o = rw (eq-eqb (get_or is k 0) invalid e, ← es, eq-eqb (s % nodes / slots) p o)

      pub shown-other : (s % nodes / slots ≡ p → ⊥) → own_invalid p ss is k ≡ false
      shown-other d = rw (eq-eqb (get_or is k 0) invalid e, ← es, ne_eqb (s % nodes / slots) p d)

pub rings-same : {a a' b b' c c' d d' : List ℕ} → a ≡ a' → b ≡ b' → c ≡ c' → d ≡ d' → rings_of a b c d ≡ rings_of a' b' c' d'
rings-same ea eb ec ed = rw (ea, eb, ec, ed)

-- expire_at
module _ (ns hs cs : List ℕ) (p : ℕ) (r : Rings) (i : ℕ) {h : ℕ} (eh : h ≡ head_of r.ends p) {x : ℕ} (ex : x ≡ row_of p h i) {e : Entry} (ee : e ≡ entry_at r.rows x) where
  place-entry : entry_at r.rows (row_of p (head_of r.ends p) i) ≡ e
  place-entry = rw (← eh, ← ex) (sym ee)

  pub place_other : (e.kind ≡ kind_destroyed → ⊥) → r ≡ expired_place ns hs cs p r i
  unfolding expired_place
  place_other d = rw (place-entry, ne_eqb e.kind kind_destroyed d)

  pub place-notice : e.kind ≡ kind_destroyed → {s : ℕ} → s ≡ e.slot → {r' : Rings} → r' ≡ expired ns hs cs p r (s % nodes) → r' ≡ expired_place ns hs cs p r i
  unfolding expired_place
  place-notice k es er = rw (place-entry, eq-eqb e.kind kind_destroyed k, ← es) er

place-fit : (ns hs cs : List ℕ) (p : ℕ) (r : Rings) (i : ℕ) → Fit r → Fit (expired_place ns hs cs p r i)
unfolding expired_place
place-fit ns hs cs p r i x =
    let e = entry_at r.rows (row_of p (head_of r.ends p) i) in
    pick_all Fit (eqb e.kind kind_destroyed) (expired ns hs cs p r (e.slot % nodes)) r (expire-fit ns hs cs p r (e.slot % nodes) x) x

-- expire_all: what is left to do gives what the whole gives.
pub record Passing (ns hs cs : List ℕ) (p : ℕ) (r₀ r : Rings) (i : ℕ) : Type 0 where
  pub short : length_of r₀.ends p ≤ ring_size
  pub places : i ≤ ring_size
  pub fit : Fit r
  pub same : expired_below ns hs cs p r₀ (length_of r₀.ends p) ≡ expired_below ns hs cs p r i

module _ (ns hs cs : List ℕ) (p : ℕ) (r₀ : Rings) where
  pub passing-long : {n : ℕ} → n ≡ length_of r₀.ends p → ring_size < n → r₀ ≡ expired_all ns hs cs p r₀
  passing-long {n} e l = rw (← e, lt-leb n ring_size l)

  pub passing-start : length r₀.ends ≡ ends_size → Sized r₀.rows → {n : ℕ} → n ≡ length_of r₀.ends p → n ≤ ring_size → Passing ns hs cs p r₀ r₀ n
  passing-start m s e l = record { short = omega arith; places = l; fit = record { ends = m; rows = s }; same = ap (expired_below ns hs cs p r₀) (sym e) }

  module _ {r : Rings} {i : ℕ} (v : Passing ns hs cs p r₀ r i) where
    pub passing-next : 0 < i → {r' : Rings} → r' ≡ expired_place ns hs cs p r (i - 1) → Passing ns hs cs p r₀ r' (i - 1)
    unfolding expired_below
    passing-next l er =
        let z : i ≡ suc (i - 1) = omega arith in
        record {
          short = v.short;
          places = omega (arith, v.places);
          fit = rw er (place-fit ns hs cs p r (i - 1) v.fit);
          same = v.same ∙ ap (expired_below ns hs cs p r) z ∙ ap (λ (x : Rings). expired_below ns hs cs p x (i - 1)) (sym er);
        }

    pub passing-all : i ≤ 0 → r ≡ expired_all ns hs cs p r₀
    unfolding expired_below
    passing-all l =
        let z : i ≡ 0 = omega arith in
        rw (le-leb (length_of r₀.ends p) ring_size v.short) (sym (v.same ∙ ap (expired_below ns hs cs p r) z))
