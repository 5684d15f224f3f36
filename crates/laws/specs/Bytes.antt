-- Numbers as bytes, big-endian, over the number of bytes.
-- Assumes nothing.
use Rattle.std.specs.Prelude.{ℕ, zero, suc, ◌+◌, ◌*◌, ◌/◌, ◌%◌, ◌^◌, ◌<◌, ◌≡◌, refl, List, [], ◌∷◌, ◌++◌, length, get_or}
use Rattle.std.proofs.Common.{ap, ◌∙◌, append_assoc, arith, add-zero, zero-add, length-append, get_or-append-add}
use Rattle.std.proofs.lemmas.List.{get_or_at}

-- the w lowest bytes of x, highest first
unfoldable pub be : ℕ → ℕ → List ℕ
be zero x = []
be (suc w) x = be w (x / 256) ++ (x % 256 ∷ [])

-- the number in the w bytes of l from the place at on
unfoldable pub num_at : List ℕ → ℕ → ℕ → ℕ
num_at l at zero = 0
num_at l at (suc w) = num_at l at w * 256 + get_or l (at + w) 0

pub be-length : (w x : ℕ) → length (be w x) ≡ w
unfolding be
be-length zero x = refl
be-length (suc w) x = rw length-append (omega (arith, be-length w (x / 256)))

-- the number in v + w bytes is that in the first v, and that in the w behind them
pub num-add : (l : List ℕ) (at v w : ℕ) → num_at l at (v + w) ≡ num_at l at v * 256 ^ w + num_at l (at + v) w
unfolding num_at
num-add l at v zero = rw (add-zero v) (omega arith)
num-add l at v (suc w) =
    let e : v + suc w ≡ suc (v + w) = omega arith in
    let f : at + (v + w) ≡ at + v + w = omega arith in
    let p : 256 ^ suc w ≡ 256 * 256 ^ w = omega arith in
    rw (e, f, num-add l at v w, p) (omega arith)

pub num-one : (l : List ℕ) (at : ℕ) → num_at l at 1 ≡ get_or l at 0
unfolding num_at
num-one l at = rw (add-zero at) (omega arith)

pub num-two : (l : List ℕ) (at : ℕ) → num_at l at 2 ≡ get_or l at 0 * 256 + get_or l (at + 1) 0
num-two l at = num-add l at 1 1 ∙ rw (num-one l at, num-one l (at + 1))

pub num-four : (l : List ℕ) (at : ℕ) → num_at l at 4 ≡ ((get_or l at 0 * 256 + get_or l (at + 1) 0) * 256 + get_or l (at + 2) 0) * 256 + get_or l (at + 3) 0
num-four l at =
    let e : at + 2 + 1 ≡ at + 3 = omega arith in
    num-add l at 2 2 ∙ rw (num-two l at, num-two l (at + 2), e) (omega arith)

pub num-eight : (l : List ℕ) (at : ℕ) → num_at l at 8 ≡ num_at l at 4 * 4294967296 + num_at l (at + 4) 4
num-eight l at = num-add l at 4 4

-- bytes in order: each below 256, so a number of w bytes is below 256 ^ w
pub num-below : (l : List ℕ) (at w : ℕ) → ((i : ℕ) → get_or l i 0 < 256) → num_at l at w < 256 ^ w
unfolding num_at
num-below l at zero h = omega arith
num-below l at (suc w) h =
    let p : 256 ^ suc w ≡ 256 * 256 ^ w = omega arith in
    rw p (omega (arith, h (at + w), num-below l at w h))

-- the bytes at the widths that the formats have
pub be-two : (x : ℕ) → be 2 x ≡ x / 256 % 256 ∷ x % 256 ∷ []
unfolding be
be-two x = refl

pub be-eight : (x : ℕ) →
    be 8 x
    ≡ x / 72057594037927936 % 256 ∷ x / 281474976710656 % 256 ∷ x / 1099511627776 % 256 ∷ x / 4294967296 % 256 ∷ x / 16777216 % 256 ∷ x / 65536 % 256 ∷ x / 256 % 256
    ∷ x % 256 ∷ []
unfolding be
be-eight x =
    let d2 : x / 256 / 256 ≡ x / 65536 = omega arith in
    let d3 : x / 65536 / 256 ≡ x / 16777216 = omega arith in
    let d4 : x / 16777216 / 256 ≡ x / 4294967296 = omega arith in
    let d5 : x / 4294967296 / 256 ≡ x / 1099511627776 = omega arith in
    let d6 : x / 1099511627776 / 256 ≡ x / 281474976710656 = omega arith in
    let d7 : x / 281474976710656 / 256 ≡ x / 72057594037927936 = omega arith in
    rw (d2, d3, d4, d5, d6, d7)

-- behind a front stands what stood there without it
pub num-past : (xs ys : List ℕ) (i w : ℕ) → num_at (xs ++ ys) (length xs + i) w ≡ num_at ys i w
unfolding num_at
num-past xs ys i zero = refl
num-past xs ys i (suc w) =
    let e : length xs + i + w ≡ length xs + (i + w) = omega arith in
    rw (e, num-past xs ys i w, get_or-append-add xs ys (i + w) 0)

-- a number below 256 ^ w comes back from its w bytes
num-front : (w x : ℕ) (ys : List ℕ) → x < 256 ^ w → num_at (be w x ++ ys) 0 w ≡ x
unfolding be num_at
num-front zero x ys h = omega arith
num-front (suc w) x ys h =
    let p : 256 ^ suc w ≡ 256 * 256 ^ w = omega arith in
    let l : x / 256 < 256 ^ w = omega arith in
    let e : get_or (be w (x / 256) ++ x % 256 ∷ ys) w 0 ≡ x % 256 = get_or_at (be w (x / 256)) (x % 256) ys 0 w (be-length w (x / 256)) in
    let s : be (suc w) x ++ ys ≡ be w (x / 256) ++ x % 256 ∷ ys = append_assoc (be w (x / 256)) (x % 256 ∷ []) ys in
    let n : num_at (be (suc w) x ++ ys) 0 w ≡ x / 256 = ap (λ b. num_at b 0 w) s ∙ num-front w (x / 256) (x % 256 ∷ ys) l in
    rw (n, s, zero-add, e) (omega arith)

pub num-at : (xs ys : List ℕ) (n w x : ℕ) → length xs ≡ n → x < 256 ^ w → num_at (xs ++ (be w x ++ ys)) n w ≡ x
num-at xs ys n w x e h =
    let f : n ≡ length xs + 0 = omega arith in
    rw (f, num-past xs (be w x ++ ys) 0 w) (num-front w x ys h)
