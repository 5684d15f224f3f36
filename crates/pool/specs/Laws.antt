-- Laws of the payload areas: what is stored in one area is seen there and nowhere else.
-- Assumes nothing.
use Rattle.std.specs.Prelude.{ℕ, ◌+◌, ◌*◌, ◌-◌, ◌≤◌, ◌<◌, ◌≡◌, List, ◌++◌, length, get_or, take, drop, ltb, leb, Bool}
use Rattle.std.proofs.Common.{sym, ap, ap₂, ◌∙◌, arith, length-append, length-take, length-drop, get_or-take, get_or-drop, get_or-append-add, ext_get_or, take-take, drop-drop, ltb-true, ltb-false, le-leb}
use Rattle.std.proofs.Math.ListN.{get_or-append}
use Rattle.std.proofs.lemmas.List.Edits.{sets}
use Rattle.std.proofs.Math.Seq.{length-sets}
use Rattle.laws.specs.Tests.{pick, Seen, Seen.is_true, Seen.is_false, look}
use Rattle.laws.specs.Rows.{above}
use Rattle.laws.specs.Stores.{sets-before, sets-past, sets-in}
use Rattle.rings.specs.Rings.{peers}
use Rattle.pool.specs.Pool.{area_size, pool_size, bytes_of, piece_of, appended, closed}

-- a part of a list by its places
part_at : (l : List ℕ) (a n i : ℕ) → i < n → get_or (take n (drop a l)) i 0 ≡ get_or l (a + i) 0
part_at l a n i h = get_or-take n (drop a l) i 0 h ∙ get_or-drop a l i 0

pub part_length : (l : List ℕ) (a n : ℕ) → a + n ≤ length l → length (take n (drop a l)) ≡ n
part_length l a n h = simp (length-take, length-drop) (omega arith)

-- a run of stores behind the first n places of a part is seen behind them
part-stored : (l vs : List ℕ) (a n : ℕ) → a + n + length vs ≤ length l → take (n + length vs) (drop a (sets l (a + n) vs)) ≡ take n (drop a l) ++ vs
part-stored l vs a n h = ext_get_or 0 _ _ (whole ∙ sym both) each
  where
    front : length (take n (drop a l)) ≡ n
    front = part_length l a n (omega arith)

    whole : length (take (n + length vs) (drop a (sets l (a + n) vs))) ≡ n + length vs
    whole = part_length (sets l (a + n) vs) a (n + length vs) (omega (arith, length-sets l (a + n) vs))

    both : length (take n (drop a l) ++ vs) ≡ n + length vs
    both = simp (length-append) (ap (λ (x : ℕ). x + length vs) front)

    go : (i : ℕ) → i < n + length vs → Seen (ltb i n) → get_or (sets l (a + n) vs) (a + i) 0 ≡ get_or (take n (drop a l) ++ vs) i 0
    go i g (is_true t) =
        let lt : i < n = ltb-true i n t in
        sets-before l vs (a + n) (a + i) 0 (omega arith) ∙ sym (part_at l a n i lt) ∙ sym (get_or-append (take n (drop a l)) vs 0 i (omega (arith, front)))
    go i g (is_false t) =
        let ge : n ≤ i = ltb-false i n t in
        let e : a + n + (i - n) ≡ a + i = omega arith in
        let f : length (take n (drop a l)) + (i - n) ≡ i = omega (arith, front) in
        ap (λ (x : ℕ). get_or (sets l (a + n) vs) x 0) (sym e) ∙ sets-in l vs (a + n) (i - n) 0 (omega arith) (omega arith)
        ∙ sym (get_or-append-add (take n (drop a l)) vs (i - n) 0) ∙ ap (λ (x : ℕ). get_or (take n (drop a l) ++ vs) x 0) f

    each : (i : ℕ) → i < length (take (n + length vs) (drop a (sets l (a + n) vs))) → get_or (take (n + length vs) (drop a (sets l (a + n) vs))) i 0 ≡ get_or (take n (drop a l) ++ vs) i 0
    each i g = let lt : i < n + length vs = omega (arith, whole) in part_at (sets l (a + n) vs) a (n + length vs) i lt ∙ go i lt (look (ltb i n))

-- parts whose places agree
pub part_same : (l m : List ℕ) (a n : ℕ) → length l ≡ length m → ((k : ℕ) → k < n → get_or l (a + k) 0 ≡ get_or m (a + k) 0) → take n (drop a l) ≡ take n (drop a m)
part_same l m a n e h = ext_get_or 0 _ _ (simp (length-take, length-drop, e)) each
  where
    each : (k : ℕ) → k < length (take n (drop a l)) → get_or (take n (drop a l)) k 0 ≡ get_or (take n (drop a m)) k 0
    each k lt = let in-n : k < n = omega (arith, length-take n (drop a l)) in part_at l a n k in-n ∙ h k in-n ∙ sym (part_at m a n k in-n)

-- a part of a front of a list
pub part-of-front : (l : List ℕ) (n used : ℕ) → n ≤ used → drop n (take used l) ≡ take (used - n) (drop n l)
part-of-front l n used h = ext_get_or 0 _ _ (simp (length-take, length-drop) (omega arith)) each
  where
    each : (k : ℕ) → k < length (drop n (take used l)) → get_or (drop n (take used l)) k 0 ≡ get_or (take (used - n) (drop n l)) k 0
    each k lt =
        let size : length (drop n (take used l)) ≤ used - n = simp (length-drop, length-take) (omega arith) in
        get_or-drop n (take used l) k 0 ∙ get_or-take used l (n + k) 0 (omega arith) ∙ sym (part_at l n (used - n) k (omega arith))

-- what is stored in one area is not seen in another
stored_other : (t bs : List ℕ) (p q n m : ℕ) → (p ≡ q → ⊥) → n + length bs ≤ area_size → m ≤ area_size →
    take m (drop (q * area_size) (sets t (p * area_size + n) bs)) ≡ take m (drop (q * area_size) t)
stored_other t bs p q n m ne h k = part_same _ t (q * area_size) m (length-sets t (p * area_size + n) bs) (λ j lt. go j lt (look (ltb q p)))
  where
    go : (j : ℕ) → j < m → Seen (ltb q p) → get_or (sets t (p * area_size + n) bs) (q * area_size + j) 0 ≡ get_or t (q * area_size + j) 0
    go j lt (is_true s) = let below : q < p = ltb-true q p s in sets-before t bs (p * area_size + n) (q * area_size + j) 0 (omega arith)
    go j lt (is_false s) =
        let up : p ≤ q = ltb-false q p s in
        let over : p < q = above p q up (λ x. ne (sym x)) in
        sets-past t bs (p * area_size + n) (q * area_size + j) 0 (omega arith)

-- A payload is appended: behind those before it, and every other area stays.
pub append-own : (t bs : List ℕ) (p n : ℕ) → length t ≡ pool_size → p < peers → n + length bs ≤ area_size → bytes_of (appended t p n bs) p (n + length bs) ≡ bytes_of t p n ++ bs
unfolding bytes_of appended
append-own t bs p n e h k = part-stored t bs (p * area_size) n (omega arith)

pub append-other : (t bs : List ℕ) (p q n m : ℕ) → (p ≡ q → ⊥) → n + length bs ≤ area_size → m ≤ area_size → bytes_of (appended t p n bs) q m ≡ bytes_of t q m
unfolding bytes_of appended
append-other t bs p q n m ne h k = stored_other t bs p q n m ne h k

pub append-length : (t bs : List ℕ) (p n : ℕ) → length (appended t p n bs) ≡ length t
unfolding appended
append-length t bs p n = length-sets t (p * area_size + n) bs

-- A payload is taken out: what stood before and behind it, joined.
moved_length : (t : List ℕ) (p at n used : ℕ) → length t ≡ pool_size → p < peers → at + n ≤ used → used ≤ area_size → length (piece_of t p (at + n) (used - (at + n))) ≡ used - (at + n)
unfolding piece_of
moved_length t p at n used e h k m = part_length t (p * area_size + (at + n)) (used - (at + n)) (omega arith)

pub close-own : (t : List ℕ) (p at n used : ℕ) → length t ≡ pool_size → p < peers → at + n ≤ used → used ≤ area_size →
    bytes_of (closed t p at n used) p (used - n) ≡ take at (bytes_of t p used) ++ drop (at + n) (bytes_of t p used)
unfolding bytes_of closed piece_of
close-own t p at n used e h k m =
    ap (λ (x : ℕ). take x (drop (p * area_size) (sets t (p * area_size + at) rest))) (sym sum) ∙ part-stored t rest (p * area_size) at (omega (arith, size)) ∙ ap₂ ◌++◌ first_part last-part
  where
    rest : List ℕ
    rest = piece_of t p (at + n) (used - (at + n))

    size : length rest ≡ used - (at + n)
    size = moved_length t p at n used e h k m

    sum : at + length rest ≡ used - n
    sum = omega (arith, size)

    first_part : take at (drop (p * area_size) t) ≡ take at (take used (drop (p * area_size) t))
    first_part = sym (take-take at used (drop (p * area_size) t) (omega arith))

    last-part : rest ≡ drop (at + n) (take used (drop (p * area_size) t))
    last-part = ap (take (used - (at + n))) (sym (drop-drop (at + n) (p * area_size) t)) ∙ sym (part-of-front (drop (p * area_size) t) (at + n) used k)

pub close_other : (t : List ℕ) (p q at n used m : ℕ) → (p ≡ q → ⊥) → length t ≡ pool_size → p < peers → at + n ≤ used → used ≤ area_size → m ≤ area_size →
    bytes_of (closed t p at n used) q m ≡ bytes_of t q m
unfolding bytes_of closed
close_other t p q at n used m ne e h k g l = stored_other t (piece_of t p (at + n) (used - (at + n))) p q at m ne (omega (arith, moved_length t p at n used e h k g)) l

pub close-length : (t : List ℕ) (p at n used : ℕ) → length (closed t p at n used) ≡ length t
unfolding closed
close-length t p at n used = length-sets t (p * area_size + at) (piece_of t p (at + n) (used - (at + n)))

-- A piece of what is used.
pub piece-of : (t : List ℕ) (p at n used : ℕ) → at + n ≤ used → piece_of t p at n ≡ take n (drop at (bytes_of t p used))
unfolding piece_of bytes_of
piece-of t p at n used h =
    ap (take n) (sym (drop-drop at (p * area_size) t)) ∙ sym (take-take n (used - at) _ (omega arith)) ∙ ap (take n) (sym (part-of-front (drop (p * area_size) t) at used (omega arith)))

-- What the functions give, in their own terms: a move down to a lower place, and a part of the table.
pub close-is : (t l : List ℕ) (p at n used : ℕ) → at + n ≤ used →
    l ≡ pick (leb (p * area_size + at) (p * area_size + at + n)) (sets t (p * area_size + at) (take (used - (at + n)) (drop (p * area_size + at + n) t))) t → l ≡ closed t p at n used
unfolding closed piece_of
close-is t l p at n used h e =
    let same : p * area_size + at + n ≡ p * area_size + (at + n) = omega arith in
    e ∙ ap (λ (s : Bool). pick s (sets t (p * area_size + at) (take (used - (at + n)) (drop (p * area_size + at + n) t))) t) (le-leb (p * area_size + at) (p * area_size + at + n) (omega arith))
    ∙ ap (λ (x : ℕ). sets t (p * area_size + at) (take (used - (at + n)) (drop x t))) same

pub piece_is : (t : List ℕ) (p at n : ℕ) → take (p * area_size + at + n - (p * area_size + at)) (drop (p * area_size + at) t) ≡ piece_of t p at n
unfolding piece_of
piece_is t p at n = let same : p * area_size + at + n - (p * area_size + at) ≡ n = omega arith in ap (λ (x : ℕ). take x (drop (p * area_size + at) t)) same
