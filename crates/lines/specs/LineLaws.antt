-- Laws of lines: what the code's loops add up to, and the first line of an input by its fault's place.
-- Assumes nothing.
use Prim.Native.Nat.{ℕ, zero, suc, ◌+◌, ◌*◌, ◌-◌, ◌/◌, ◌%◌, ◌≤◌, ◌<◌, min}
use Rattle.std.specs.Prelude.{◌≡◌, Bool, true, false, not, ◌&&◌, List, [], ◌∷◌, ◌++◌, get_or, set, take, drop, eqb, ltb, leb, Some, None}
use Rattle.std.specs.Simd.{first_chunks}
use Rattle.std.proofs.Math.Path.{refl, sym}
use Rattle.std.proofs.Common.{ap, ◌∙◌, add-one, arith, length-append, length-drop, drop_of_length-le, take-suc, length-take-le, get_or-take, get_or-drop, ext_get_or}
use Rattle.std.proofs.Math.ListN.{length, length-take}
use Rattle.std.proofs.lemmas.List.Edits.{sets}
use Rattle.std.proofs.Math.Seq.{take-length}
use borrow.Author.Count.{below_more}
use borrow.Author.Tests.{ltb-true, ltb-false, eqb-true, eq-eqb, ne_eqb, lt-ltb, le-ltb, leb-true, leb-false, le-leb, lt-leb, not-false}
use Rattle.laws.specs.Tests.{pick, pick-cases, Seen, Seen.is_true, Seen.is_false, look, clash, pick-then}
use Rattle.laws.specs.Search.{first, first-le, first_found, first-before, first-is, first-from}
use Rattle.laws.specs.Build.{build, build-length, build-store}
use Rattle.laws.specs.Stores.{sets-append, over}
use Rattle.lines.specs.Line.{lf, most_digits, most_carried, is_digit, digits_from, fault_place, line_length, digit_value, pair_at, line_read, read_line, after_read, frame_after, digit_of, digits_of, answer_line, room_for, line_written, lines_after, carried_of}
use Rattle.lines.specs.declared.LineRead.{LineRead}
use Rattle.lines.specs.declared.LineRead.TheVariants.{Frame, Bad, Piece}

-- a character that is no digit
abbrev pub bad_at : List ℕ → ℕ → Bool
bad_at l j = not (is_digit (get_or l j 0))

abbrev pub lf_at : List ℕ → ℕ → Bool
lf_at l j = eqb (get_or l j 0) lf

-- a place of the first 1,292 is the fault's if all before it are digits and it is none, or these end
pub fault-is : (l : List ℕ) (n r : ℕ) → n ≡ min most_digits (length l) → r ≤ n → ((j : ℕ) → j < r → bad_at l j ≡ false) → (r < n → bad_at l r ≡ true) → r ≡ fault_place l
unfolding fault_place
fault-is l n r e h before at = rw (← e) (first-is (bad_at l) n r h before at)

pub fault-le : (l : List ℕ) → fault_place l ≤ min most_digits (length l)
unfolding fault_place
fault-le l = first-le (bad_at l) (min most_digits (length l))

pub fault-before : (l : List ℕ) (j : ℕ) → j < fault_place l → bad_at l j ≡ false
unfolding fault_place
fault-before l j h = first-before (bad_at l) (min most_digits (length l)) j h

pub fault-found : (l : List ℕ) → fault_place l < min most_digits (length l) → bad_at l (fault_place l) ≡ true
unfolding fault_place
fault-found l h = first_found (bad_at l) (min most_digits (length l)) h

-- digits from a place on: the turns of the loop, and each of them
both_true : (a b : Bool) → a && b ≡ true → (a ≡ true) × (b ≡ true)
both_true true b e = (refl, e)
both_true false b e = clash (sym e)

module _ (l : List ℕ) (i : ℕ) where
  pub from-none : true ≡ digits_from l i 0
  unfolding digits_from
  from-none = refl

  pub from_next : (k : ℕ) {a b : Bool} → a ≡ digits_from l i k → b ≡ is_digit (get_or l (i + k) 0) → a && b ≡ digits_from l i (k + 1)
  unfolding digits_from
  from_next k e f = rw (add-one, e, f)

  pub from_all : (k : ℕ) {a : Bool} → a ≡ digits_from l i k → k ≡ 8 → a ≡ digits_from l i 8
  from_all k e f = rw (← f) e

  from_at : (n : ℕ) → digits_from l i n ≡ true → (j : ℕ) → j < n → is_digit (get_or l (i + j) 0) ≡ true
  unfolding digits_from
  from_at zero e = λ j h. absurd (omega arith)
  from_at (suc n) e =
      let p = both_true (digits_from l i n) (is_digit (get_or l (i + n) 0)) e in
      λ j h. below_more (λ j. is_digit (get_or l (i + j) 0) ≡ true) n (from_at n p.0) p.1 j (omega arith)

  pub ahead-next : ((j : ℕ) → j < i → is_digit (get_or l j 0) ≡ true) → digits_from l i 8 ≡ true → (j : ℕ) → j < i + 8 → is_digit (get_or l j 0) ≡ true
  ahead-next before e j h = go (look (ltb j i))
    where
      go : Seen (ltb j i) → is_digit (get_or l j 0) ≡ true
      go (is_true f) = before j (ltb-true j i f)
      go (is_false f) =
          let m : i ≤ j = ltb-false j i f in
          let k : i + (j - i) ≡ j = omega arith in
          rw k at (from_at 8 e (j - i) (omega arith))

-- digits in eights are digits
pub eights-digits : (q k : ℕ) (s : List ℕ) → q * 8 ≤ length s → k ≤ q → ((j : ℕ) → j < k → digits_from (get_or (first_chunks 8 q s) j []) 0 8 ≡ true) →
    (j : ℕ) → j < 8 * k → is_digit (get_or s j 0) ≡ true
eights-digits zero k s l h e j i = absurd (omega arith)
eights-digits (suc q) zero s l h e j i = absurd (omega arith)
eights-digits (suc q) (suc k) s l h e j i = go (eights-digits q k (drop 8 s) (rw length-drop (omega arith)) (omega arith) (λ n o. e (suc n) (omega arith)) (j - 8)) (look (ltb j 8))
  where
    go : (j - 8 < 8 * k → is_digit (get_or (drop 8 s) (j - 8) 0) ≡ true) → Seen (ltb j 8) → is_digit (get_or s j 0) ≡ true
    go rest (is_true f) =
        let m = ltb-true j 8 f in
        let z : 0 + j ≡ j = omega arith in
        ap is_digit (sym (ap (λ (n : ℕ). get_or (take 8 s) n 0) z ∙ get_or-take 8 s j 0 m)) ∙ from_at (take 8 s) 0 8 (e 0 (omega arith)) j m
    go rest (is_false f) =
        let m : 8 ≤ j = ltb-false j 8 f in
        let p : 8 + (j - 8) ≡ j = omega arith in
        ap is_digit (sym (get_or-drop 8 s (j - 8) 0 ∙ ap (λ (n : ℕ). get_or s n 0) p)) ∙ rest (omega arith)

-- the search for an LF from a place on
pub end_is : (s : List ℕ) (at i : ℕ) → at ≤ i → i ≤ length s → ((k : ℕ) → k < i → at ≤ k → lf_at s k ≡ false) → (i < length s → lf_at s i ≡ true) →
    i ≡ at + first (λ j. lf_at s (at + j)) (length s - at)
end_is s at i h l before here =
    let e : at + (i - at) ≡ i = omega arith in
    let q : i - at ≡ first (λ j. lf_at s (at + j)) (length s - at) =
    first-is (λ j. lf_at s (at + j)) (length s - at) (i - at) (omega arith) (λ j m. before (at + j) (omega arith) (omega arith))
    (λ m. ap (lf_at s) e ∙ here (omega arith)) in
    sym e ∙ ap (◌+◌ at) q

-- the part of s from a place on
module _ (s : List ℕ) (at : ℕ) where
  abbrev part : List ℕ
  part = take (length s - at) (drop at s)

  pub part-length : length part ≡ length s - at
  part-length = length-take-le (length s - at) (drop at s) (rw length-drop (omega arith))

  part-at : (j : ℕ) → j < length s - at → get_or part j 0 ≡ get_or s (at + j) 0
  part-at j h = get_or-take (length s - at) (drop at s) j 0 h ∙ get_or-drop at s j 0

  -- the search for an LF in it
  pub end-is : (k : ℕ) → k ≤ length part → ((j : ℕ) → j < k → get_or part j 0 ≡ lf → ⊥) → (k < length part → get_or part k 0 ≡ lf) →
      at + k ≡ at + first (λ j. lf_at s (at + j)) (length s - at)
  end-is k h before here =
      let l = part-length in
      ap (◌+◌ at) (first-is (λ j. lf_at s (at + j)) (length s - at) k (omega (arith, l))
      (λ j m. ne_eqb (get_or s (at + j) 0) lf (λ e. before j m (part-at j (omega (arith, l)) ∙ e)))
      (λ m. eq-eqb (get_or s (at + k) 0) lf (sym (part-at k m) ∙ here (omega (arith, l)))))

-- the search for a character that is no digit in the first characters of s, from a place on before which all are digits
module _ (s : List ℕ) (m a : ℕ) (e : m ≡ min (length s) most_digits) (within : a ≤ length (take m s)) (before : (j : ℕ) → j < a → is_digit (get_or (take m s) j 0) ≡ true) where
  pub fault-from : (k : ℕ) → k ≤ length (part (take m s) a) → ((j : ℕ) → j < k → is_digit (get_or (part (take m s) a) j 0) ≡ true) →
      (k < length (part (take m s) a) → is_digit (get_or (part (take m s) a) k 0) ≡ false) → a + k ≡ fault_place s
  fault-from k h behind here =
      fault-is s m (a + k) (omega (arith, e)) (omega (arith, l, w)) (λ j i. ap not (digit j i))
      (λ i. ap not (ap is_digit (sym (at-place k (omega arith))) ∙ here (omega (arith, l, w))))
    where
      w : length (take m s) ≡ m
      w = length-take-le m s (omega (arith, e))

      l : length (part (take m s) a) ≡ length (take m s) - a
      l = part-length (take m s) a

      at-place : (j : ℕ) → a + j < m → get_or (part (take m s) a) j 0 ≡ get_or s (a + j) 0
      at-place j i = part-at (take m s) a j (omega (arith, w)) ∙ get_or-take m s (a + j) 0 i

      digit : (j : ℕ) → j < a + k → is_digit (get_or s j 0) ≡ true
      digit j i = go (look (ltb j a))
        where
          go : Seen (ltb j a) → is_digit (get_or s j 0) ≡ true
          go (is_true f) =
              let n : j < a = ltb-true j a f in
              ap is_digit (sym (get_or-take m s j 0 (omega (arith, w)))) ∙ before j n
          go (is_false f) =
              let n : a ≤ j = ltb-false j a f in
              let p : a + (j - a) ≡ j = omega arith in
              ap is_digit (sym (at-place (j - a) (omega (arith, l, w)) ∙ ap (λ (i : ℕ). get_or s i 0) p)) ∙ behind (j - a) (omega arith)

-- an LF is no digit
pub lf-bad : (s : List ℕ) (j : ℕ) → lf_at s j ≡ true → bad_at s j ≡ true
lf-bad s j e = let h : get_or s j 0 ≡ 10 = eqb-true (get_or s j 0) 10 e in rw h

pub digit-no-lf : (s : List ℕ) (j : ℕ) → bad_at s j ≡ false → lf_at s j ≡ false
digit-no-lf s j h = go (look (lf_at s j))
  where
    go : Seen (lf_at s j) → lf_at s j ≡ false
    go (is_true e) = clash (sym (lf-bad s j e) ∙ h)
    go (is_false e) = e

pub line-le : (s : List ℕ) → line_length s ≤ length s
unfolding line_length
line-le s = first-le (lf_at s) (length s)

-- the line ends where the first LF from its fault's place on stands
pub line-from : (s : List ℕ) → fault_place s + first (λ j. lf_at s (fault_place s + j)) (length s - fault_place s) ≡ line_length s
unfolding line_length
line-from s = first-from (lf_at s) (length s) (fault_place s) (omega (arith, fault-le s)) (λ j h. digit-no-lf s j (fault-before s j h))

-- what stands behind the fault's place does not matter
pub fault-cut : (s : List ℕ) (n : ℕ) → fault_place s ≤ n → fault_place (take n s) ≡ fault_place s
fault-cut s n le = sym (fault-is (take n s) (min most_digits (length (take n s))) (fault_place s) refl low same here)
  where
    low : fault_place s ≤ min most_digits (length (take n s))
    low = rw length-take (omega (arith, fault-le s))

    char : (j : ℕ) → j < n → bad_at (take n s) j ≡ bad_at s j
    char j h = ap (λ (c : ℕ). not (is_digit c)) (get_or-take n s j 0 h)

    same : (j : ℕ) → j < fault_place s → bad_at (take n s) j ≡ false
    same j h = char j (omega arith) ∙ fault-before s j h

    here : fault_place s < min most_digits (length (take n s)) → bad_at (take n s) (fault_place s) ≡ true
    here h =
        let k : fault_place s < min most_digits (min n (length s)) = rw length-take at h in
        char (fault_place s) (omega arith) ∙ fault-found s (omega arith)

-- so it is the line's own
pub fault-line : (s : List ℕ) → fault_place (take (line_length s) s) ≡ fault_place s
fault-line s = fault-cut s (line_length s) (omega (arith, line-from s))

-- the line that the code finds, by its fault's place and the search from there
module _ (s : List ℕ) {d n : ℕ} (ed : d ≡ fault_place s) (en : n ≡ d + first (λ j. lf_at s (d + j)) (length s - d)) where
  line-is : line_length s ≡ n
  line-is = sym (rw ed at en ∙ line-from s)

  pub line-found : (d ≤ n) × (n ≤ length s) × (d ≤ 1292)
  line-found = (omega arith, omega (arith, line-le s, line-is), omega (arith, fault-le s))

  read_is : read_line s ≡ pick (ltb n (length s)) (pick (pick (eqb d n) (eqb (n % 2) 0) false) (Frame (n / 2) (n + 1)) (Bad d (n + 1))) (Piece d)
  unfolding read_line line_read
  read_is =
      let f : fault_place (take n s) ≡ d = rw line-is at (fault-line s) ∙ sym ed in
      let l : length (take n s) ≡ n = rw length-take (omega (arith, line-found)) in
      rw (line-is, f, l)

  pub read-piece : (b : List ℕ) → n ≡ length s → (Piece d ≡ read_line s) × (b ≡ frame_after s b)
  unfolding frame_after
  read-piece b h = let e : read_line s ≡ Piece d = rw (read_is, le-ltb n (length s) (omega arith)) in (sym e, rw e)

  pub read-bad : (b : List ℕ) → (n ≡ length s → ⊥) → (d ≡ n → ⊥) → (Bad d (n + 1) ≡ read_line s) × (b ≡ frame_after s b)
  unfolding frame_after
  read-bad b h x =
      let e : read_line s ≡ Bad d (n + 1) = rw (read_is, lt-ltb n (length s) (omega (arith, line-found)), ne_eqb d n x) in (sym e, rw e)

  pub read-odd : (b : List ℕ) → (n ≡ length s → ⊥) → d ≡ n → (n % 2 ≡ 0 → ⊥) → (Bad d (n + 1) ≡ read_line s) × (b ≡ frame_after s b)
  unfolding frame_after
  read-odd b h x o =
      let e : read_line s ≡ Bad d (n + 1) = rw (read_is, lt-ltb n (length s) (omega (arith, line-found)), eq-eqb d n x, ne_eqb (n % 2) 0 o) in (sym e, rw e)

  pub read-frame : (b g : List ℕ) → (n ≡ length s → ⊥) → d ≡ n → n % 2 ≡ 0 → g ≡ build (pair_at s) (n / 2) ++ drop (n / 2) b →
      (Frame (n / 2) (n + 1) ≡ read_line s) × (g ≡ frame_after s b)
  unfolding frame_after
  read-frame b g h x o q =
      let e : read_line s ≡ Frame (n / 2) (n + 1) = rw (read_is, lt-ltb n (length s) (omega (arith, line-found)), eq-eqb d n x, eq-eqb (n % 2) 0 o) in
      (sym e, rw e q)

  -- all before the fault are digits
  pub digits-before : (j : ℕ) → j < d → is_digit (get_or s j 0) ≡ true
  digits-before j h = not-false (is_digit (get_or s j 0)) (fault-before s j (omega arith))

-- the digits that are written
pub digits-length : (a : List ℕ) → length (digits_of a) ≡ 2 * length a
unfolding digits_of
digits-length [] = refl
digits-length (x ∷ a) = omega (arith, digits-length a)

pub digits_append : (a b : List ℕ) → digits_of (a ++ b) ≡ digits_of a ++ digits_of b
unfolding digits_of
digits_append [] b = refl
digits_append (x ∷ a) b = ap (λ (l : List ℕ). digit_of (x / 16) ∷ digit_of (x % 16) ∷ l) (digits_append a b)

pub put_next : (o l a : List ℕ) (at k x y : ℕ) → k < length a → l ≡ sets o at (digits_of (take k a)) → x ≡ digit_of (get_or a k 0 / 16) → y ≡ digit_of (get_or a k 0 % 16) →
    set (set l (at + 2 * k) x) (at + 2 * k + 1) y ≡ sets o at (digits_of (take (k + 1) a))
unfolding digits_of
put_next o l a at k x y h e ex ey =
    let z : length (digits_of (take k a)) ≡ 2 * k = digits-length (take k a) ∙ rw length-take (omega arith) in
    rw (add-one k, take-suc a k 0, digits_append (take k a) (get_or a k 0 ∷ []), sets-append o at (digits_of (take k a)) (digits_of (get_or a k 0 ∷ [])), z, ← e, add-one (at + 2 * k), ex, ey)

pub put_whole : (o l a : List ℕ) (at k : ℕ) → k ≡ length a → l ≡ sets o at (digits_of (take k a)) → l ≡ sets o at (digits_of a)
put_whole o l a at k h e = e ∙ ap (λ (x : List ℕ). sets o at (digits_of x)) (rw h (take-length a))

-- the LF behind them
pub put-lf : (o l a : List ℕ) (at : ℕ) → l ≡ sets o at (digits_of a) → set l (at + 2 * length a) lf ≡ sets o at (answer_line a)
put-lf o l a at e = rw (sets-append o at (digits_of a) (lf ∷ []), digits-length, ← e)

-- characters moved to the front
pub moved_front : (b : List ℕ) (at n : ℕ) → n ≤ length b - at → sets b 0 (take n (drop at b)) ≡ take n (drop at b) ++ drop n b
moved_front b at n h =
    let e : length (take n (drop at b)) ≡ n = length-take-le n (drop at b) (rw length-drop (omega arith)) in
    over (take n (drop at b)) b (rw e (omega arith)) ∙ ap (λ (k : ℕ). take n (drop at b) ++ drop k b) e

pub decode-next : (s b l : List ℕ) (k v w : ℕ) → k < length b → l ≡ build (pair_at s) k ++ drop k b → v ≡ digit_value (get_or s (2 * k) 0) → w ≡ digit_value (get_or s (2 * k + 1) 0) →
    set l k (16 * v + w) ≡ build (pair_at s) (k + 1) ++ drop (k + 1) b
decode-next s b l k v w h e ev ew = rw (e, ev, ew, add-one k) (build-store (pair_at s) k b h)

-- the test for a digit, by the side of it that is tested, and what it says of a character
pub test_low : (c : ℕ) → c < 58 → leb 48 c ≡ is_digit c
test_low c h = rw (lt-ltb c 58 h)

pub test-high : (c : ℕ) → 58 ≤ c → c < 103 → leb 97 c ≡ is_digit c
test-high c h k = rw (le-ltb c 58 h, lt-ltb c 103 k)

pub digit_low : (c : ℕ) → is_digit c ≡ true → c < 58 → 48 ≤ c
digit_low c d h = leb-true 48 c (rw (lt-ltb c 58 h) at d)

pub digit-high : (c : ℕ) → is_digit c ≡ true → 58 ≤ c → (97 ≤ c) × (c < 103)
digit-high c d h =
    let p = pick-then (ltb c 103) false true (λ e. clash (sym e)) (rw (le-ltb c 58 h) at d) in
    (leb-true 97 c p.1, ltb-true c 103 p.0)

pub value_low : (c : ℕ) → is_digit c ≡ true → c < 58 → (c - 48 ≡ digit_value c) × (c - 48 < 16)
value_low c d h = (rw (lt-ltb c 58 h), omega arith)

-- room for a line, tested without a sum that may not fit
pub room-same : (n at m : ℕ) → at < n → leb m ((n - at - 1) / 2) ≡ leb (at + (2 * m + 1)) n
room-same n at m h = go (look (leb m ((n - at - 1) / 2)))
  where
    go : Seen (leb m ((n - at - 1) / 2)) → leb m ((n - at - 1) / 2) ≡ leb (at + (2 * m + 1)) n
    go (is_true e) = let l = leb-true m ((n - at - 1) / 2) e in e ∙ sym (le-leb (at + (2 * m + 1)) n (omega arith))
    go (is_false e) = let l = leb-false m ((n - at - 1) / 2) e in e ∙ sym (lt-leb (at + (2 * m + 1)) n (omega arith))

-- a line written, or no room for it
pub write-full : (o a : List ℕ) (at : ℕ) {r : Bool} → r ≡ room_for o at a → r ≡ false → (None ≡ line_written o at a) × (o ≡ lines_after o at a)
unfolding line_written lines_after
write-full o a at e f = let z : room_for o at a ≡ false = sym e ∙ f in (rw z, rw z)

pub write-next : (o l a : List ℕ) (at : ℕ) {r : Bool} → r ≡ room_for o at a → r ≡ true → l ≡ sets o at (digits_of a) →
    (Some (at + 2 * length a + 1) ≡ line_written o at a) × (set l (at + 2 * length a) lf ≡ lines_after o at a)
unfolding line_written lines_after
write-next o l a at e f h =
    let z : room_for o at a ≡ true = sym e ∙ f in
    let k : at + 2 * length a + 1 ≡ at + (2 * length a + 1) = omega arith in
    (rw (z, k), rw z (put-lf o l a at h))

pub room-length : (o a : List ℕ) (at : ℕ) {r : Bool} → r ≡ room_for o at a → r ≡ true → at + (2 * length a + 1) ≤ length o
room-length o a at e f = leb-true (at + (2 * length a + 1)) (length o) (sym e ∙ f)

-- what is carried over
pub carry-none : (b : List ℕ) (at end : ℕ) {e : ℕ} → e ≡ min end (length b) → e ≤ at →
    (0 ≡ length (carried_of b at end)) × (b ≡ carried_of b at end ++ drop (length (carried_of b at end)) b)
unfolding carried_of
carry-none b at end q h =
    let n : length (take end b) ≤ at = rw length-take (omega arith) in
    let z : drop at (take end b) ≡ [] = drop_of_length-le (take end b) n in
    (rw z, rw z)

pub carry-some : (b l : List ℕ) (at end : ℕ) {e n : ℕ} → e ≡ min end (length b) → at < e → n ≡ min most_carried (e - at) → l ≡ pick (leb 0 at) (sets b 0 (take n (drop at b))) b →
    (n ≡ length (carried_of b at end)) × (l ≡ carried_of b at end ++ drop (length (carried_of b at end)) b)
unfolding carried_of
carry-some b l at end {e} {n} q h m k = (sym size, rw (size, same) (k ∙ below ∙ moved_front b at n (omega arith)))
  where
    below : pick (leb 0 at) (sets b 0 (take n (drop at b))) b ≡ sets b 0 (take n (drop at b))
    below = rw (le-leb 0 at (omega arith))

    size : length (take most_carried (drop at (take end b))) ≡ n
    size = simp (length-take, length-drop) (omega arith)

    front : length (take n (drop at b)) ≡ n
    front = simp (length-take, length-drop) (omega arith)

    char : (i : ℕ) → i < n → get_or (take most_carried (drop at (take end b))) i 0 ≡ get_or (take n (drop at b)) i 0
    char i j =
        get_or-take most_carried (drop at (take end b)) i 0 (omega arith) ∙ get_or-drop at (take end b) i 0 ∙ get_or-take end b (at + i) 0 (omega arith)
        ∙ sym (get_or-take n (drop at b) i 0 j ∙ get_or-drop at b i 0)

    same : take most_carried (drop at (take end b)) ≡ take n (drop at b)
    same = ext_get_or 0 (take most_carried (drop at (take end b))) (take n (drop at b)) (size ∙ sym front) (λ i j. char i (rw size at j))

pub carry-all : (b l : List ℕ) (at end : ℕ) {n : ℕ} → n ≡ min (min end (length b) - at) most_carried → l ≡ pick (leb 0 at) (sets b 0 (take n (drop at b))) b →
    (n ≡ length (carried_of b at end)) × (l ≡ carried_of b at end ++ drop (length (carried_of b at end)) b)
unfolding carried_of
carry-all b l at end {n} m k = (sym size, rw (size, same) (k ∙ below ∙ moved_front b at n (omega arith)))
  where
    below : pick (leb 0 at) (sets b 0 (take n (drop at b))) b ≡ sets b 0 (take n (drop at b))
    below = rw (le-leb 0 at (omega arith))

    size : length (take most_carried (drop at (take end b))) ≡ n
    size = simp (length-take, length-drop) (omega arith)

    front : length (take n (drop at b)) ≡ n
    front = simp (length-take, length-drop) (omega arith)

    char : (i : ℕ) → i < n → get_or (take most_carried (drop at (take end b))) i 0 ≡ get_or (take n (drop at b)) i 0
    char i j =
        get_or-take most_carried (drop at (take end b)) i 0 (omega arith) ∙ get_or-drop at (take end b) i 0 ∙ get_or-take end b (at + i) 0 (omega arith)
        ∙ sym (get_or-take n (drop at b) i 0 j ∙ get_or-drop at b i 0)

    same : take most_carried (drop at (take end b)) ≡ take n (drop at b)
    same = ext_get_or 0 (take most_carried (drop at (take end b))) (take n (drop at b)) (size ∙ sym front) (λ i j. char i (rw size at j))

-- What is read fits: a frame in 646 bytes, the place of a fault in 1,292, and a line with its LF in the input.
abbrev pub Fits : List ℕ → LineRead → Type 0
Fits s (Frame m next) = (m ≤ 646) × (0 < next) × (next ≤ length s)
Fits s (Bad place next) = (place ≤ most_digits) × (0 < next) × (next ≤ length s)
Fits s (Piece place) = place ≤ most_digits

pub read_fits : (s : List ℕ) → Fits s (read_line s)
unfolding read_line line_read
read_fits s =
    let l = take (line_length s) s in
    let e : length l ≡ line_length s = rw length-take (omega (arith, line-le s)) in
    let p : fault_place l ≤ most_digits = omega (arith, fault-le l) in
    pick-cases (Fits s) (ltb (line_length s) (length s)) _ (Piece (fault_place l))
    (λ t.
    let h = ltb-true (line_length s) (length s) t in
    pick-cases (Fits s) (pick (eqb (fault_place l) (length l)) (eqb (length l % 2) 0) false) _ (Bad (fault_place l) (line_length s + 1))
    (λ w. let q = eqb-true (fault_place l) (length l) (pick-then (eqb (fault_place l) (length l)) false true (λ z. clash (sym z)) w).0 in (omega arith, omega arith, omega arith))
    (λ w. (p, omega arith, omega arith)))
    (λ t. p)

-- The frame buffer keeps its length.
pub after-length : (s b : List ℕ) → length b ≡ 646 → length (frame_after s b) ≡ 646
unfolding frame_after
after-length s b h = go (read_line s) (read_fits s)
  where
    go : (r : LineRead) → Fits s r → length (after_read r s b) ≡ 646
    go (Frame m next) f = rw (length-append, build-length (pair_at s) m, length-drop) (omega (arith, f.0))
    go (Bad place next) f = h
    go (Piece place) f = h

-- As much is carried over as tells an overlong line, at most.
pub carried-length : (b : List ℕ) (at end : ℕ) → length (carried_of b at end) ≤ most_carried
unfolding carried_of
carried-length b at end = rw length-take (omega arith)
