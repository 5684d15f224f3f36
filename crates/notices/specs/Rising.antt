-- Places by ascending key, once more: equal tests and keys list the same places; what is kept of a list is the list of the narrower test. The bits of a set, read.
-- Assumes nothing.
use Rattle.std.specs.Prelude.{ℕ, zero, suc, ◌+◌, ◌*◌, ◌/◌, ◌%◌, ◌^◌, ◌≤◌, ◌<◌, ◌≡◌, refl, Bool, true, false, List, [], ◌∷◌, length, eqb, ltb}
use Rattle.std.proofs.Common.{sym, ap, ap₂, ◌∙◌, arith, shr-shr, eqb-true, eq-eqb, ne_eqb, ltb-true, lt-ltb}
use Rattle.laws.specs.Tests.{pick, Seen, Seen.is_true, Seen.is_false, look, Same, Same.same, Same.other, same?, clash}
use Rattle.laws.specs.Sums.{sum_to, sum-at}
use Rattle.laws.specs.Loads.{sum-front}
use Rattle.laws.specs.Weights.{All, keep, all_keep}
use Rattle.laws.specs.Bits.{bit, bits}
use Rattle.rings.specs.Rings.{bit_at}
use Rattle.model.specs.Lists.{both, any, Found, lower, least, follow, rising}
use Rattle.model.specs.Lists.Found.{nowhere, at}
use Rattle.model.specs.Occurs.{no, both_true, sum_ones, sum-zero}
use Rattle.model.specs.Rising.{rising-pass, Sorted, rising-sorted}
use Rattle.model.specs.RisingAll.{rising-all}

-- The bits of the places that pass: the lowest apart, and each of them.
double : (f g : ℕ → ℕ) (n : ℕ) → ((q : ℕ) → f q ≡ 2 * g q) → sum_to f n ≡ 2 * sum_to g n
unfolding sum_to
double f g zero h = refl
double f g (suc n) h = omega (arith, h n, double f g n h)

bits-lowest : (t : ℕ → Bool) (n : ℕ) → bits t (suc n) ≡ pick (t 0) 1 0 + 2 * bits (λ q. t (suc q)) n
unfolding bits
bits-lowest t n = sum-front (bit t) n ∙ ap (λ (x : ℕ). pick (t 0) 1 0 + x) (double (λ q. bit t (suc q)) (bit (λ q. t (suc q))) n each)
  where
    each : (q : ℕ) → bit t (suc q) ≡ 2 * bit (λ q. t (suc q)) q
    each q = go (t (suc q))
      where
        go : (b : Bool) → pick b (2 ^ suc q) 0 ≡ 2 * pick b (2 ^ q) 0
        go true = let p : 2 ^ suc q ≡ 2 * 2 ^ q = omega arith in p
        go false = refl

half : (b : Bool) (x : ℕ) → (pick b 1 0 + 2 * x) / 2 ≡ x
half true x = omega arith
half false x = omega arith

odd_is : (b : Bool) (x : ℕ) → eqb ((pick b 1 0 + 2 * x) / 1 % 2) 1 ≡ b
odd_is true x = let e : (1 + 2 * x) / 1 % 2 ≡ 1 = omega arith in rw e
odd_is false x = let e : (0 + 2 * x) / 1 % 2 ≡ 0 = omega arith in rw e

pub bit-bits : (t : ℕ → Bool) (n k : ℕ) → k < n → bit_at (bits t n) k ≡ t k
bit-bits t zero k l = absurd (omega arith)
bit-bits t (suc n) zero l = rw (bits-lowest t n) (odd_is (t 0) (bits (λ q. t (suc q)) n))
bit-bits t (suc n) (suc k) l =
    let x = bits (λ q. t (suc q)) n in
    let one : suc k ≡ 1 + k = omega arith in
    let e : bits t (suc n) / 2 ^ suc k ≡ x / 2 ^ k =
    ap (λ (y : ℕ). bits t (suc n) / 2 ^ y) one ∙ sym (shr-shr (bits t (suc n)) 1 k) ∙ ap (λ (y : ℕ). y / 2 ^ k) (ap (λ (y : ℕ). y / 2) (bits-lowest t n) ∙ half (t 0) x) in
    rw e (bit-bits (λ q. t (suc q)) n k (omega arith))

-- One bit alone.
pub bits-one : (p n : ℕ) → p < n → bits (eqb p) n ≡ 2 ^ p
unfolding bits
bits-one p n l =
    let a : bit (eqb p) p ≡ 2 ^ p = rw (eq-eqb p p refl) in
    omega (arith, sum-at (bit (eqb p)) (λ q. 0) p n l (λ j m d. rw (ne_eqb p j d)), sum-zero n)

-- The least place found passes and is below n.
abbrev pub Inside : (ℕ → Bool) → ℕ → Found → Type 0
Inside t n nowhere = Unit {0}
Inside t n (at i) = (t i ≡ true) × (i < n)

pub least-inside : (t : ℕ → Bool) (key : ℕ → ℕ) (n : ℕ) → Inside t n (least t key n)
unfolding least
least-inside t key zero = tt
least-inside t key (suc i) = go (look (t i)) (least t key i) (least-inside t key i)
  where
    go : Seen (t i) → (x : Found) → Inside t i x → Inside t (suc i) (pick (t i) (lower key i x) x)
    go (is_false e) nowhere h = rw e tt
    go (is_false e) (at k) h = rw e (h.0, omega (arith, h.1))
    go (is_true e) nowhere h = rw e (e, omega arith)
    go (is_true e) (at k) h = rw e (on (look (ltb (key i) (key k))))
      where
        on : Seen (ltb (key i) (key k)) → Inside t (suc i) (pick (ltb (key i) (key k)) (at i) (at k))
        on (is_true g) = rw g (e, omega arith)
        on (is_false g) = rw g (h.0, omega (arith, h.1))

-- Tests that are equal below n, and keys that are equal where they pass.
pub least-ext : (t u : ℕ → Bool) (key key' : ℕ → ℕ) (n : ℕ) → ((j : ℕ) → j < n → t j ≡ u j) → ((j : ℕ) → j < n → t j ≡ true → key j ≡ key' j) →
    least t key n ≡ least u key' n
unfolding least
least-ext t u key key' zero h k = refl
least-ext t u key key' (suc i) h k =
    go (look (t i)) (least t key i) (least-inside t key i) (least-ext t u key key' i (λ j l. h j (omega arith)) (λ j l. k j (omega arith)))
  where
    go : Seen (t i) → (x : Found) → Inside t i x → x ≡ least u key' i → pick (t i) (lower key i x) x ≡ pick (u i) (lower key' i (least u key' i)) (least u key' i)
    go (is_false e) x g z = let f : u i ≡ false = sym (h i (omega arith)) ∙ e in rw (e, f) z
    go (is_true e) nowhere g z = let f : u i ≡ true = sym (h i (omega arith)) ∙ e in rw (e, f, ← z)
    go (is_true e) (at j) g z =
        let f : u i ≡ true = sym (h i (omega arith)) ∙ e in
        let a : key i ≡ key' i = k i (omega arith) e in
        let b : key j ≡ key' j = k j (omega (arith, g.1)) g.0 in
        rw (e, f, ← z, a, b)

both-ext : (a b c d : Bool) → a ≡ b → (a ≡ true → c ≡ d) → both a c ≡ both b d
both-ext true b c d e f = rw (← e) (f refl)
both-ext false b c d e f = rw (← e)

pub rising-ext : (t u : ℕ → Bool) (key key' : ℕ → ℕ) (n f : ℕ) → ((j : ℕ) → j < n → t j ≡ u j) → ((j : ℕ) → j < n → t j ≡ true → key j ≡ key' j) →
    rising t key n f ≡ rising u key' n f
unfolding rising
rising-ext t u key key' n zero h k = refl
rising-ext t u key key' n (suc f) h k =
    ap (λ (x : Found). follow x (λ i. rising (λ j. both (t j) (ltb (key i) (key j))) key n f)) (least-ext t u key key' n h k)
    ∙ go (least u key' n) (least-inside u key' n) (λ t u. rising-ext t u key key' n f)
  where
    go : (x : Found) → Inside u n x →
        ((t u : ℕ → Bool) → ((j : ℕ) → j < n → t j ≡ u j) → ((j : ℕ) → j < n → t j ≡ true → key j ≡ key' j) → rising t key n f ≡ rising u key' n f) →
        follow x (λ i. rising (λ j. both (t j) (ltb (key i) (key j))) key n f) ≡ follow x (λ i. rising (λ j. both (u j) (ltb (key' i) (key' j))) key' n f)
    go nowhere g ih = refl
    go (at i) g ih =
        let a : key i ≡ key' i = k i g.1 (h i g.1 ∙ g.0) in
        ap (◌∷◌ i)
        (ih (λ j. both (t j) (ltb (key i) (key j))) (λ j. both (u j) (ltb (key' i) (key' j)))
        (λ j l. both-ext (t j) (u j) (ltb (key i) (key j)) (ltb (key' i) (key' j)) (h j l) (λ e. ap₂ ltb a (k j l e)))
        (λ j l e. k j l (both_true (t j) (ltb (key i) (key j)) e).0))

-- At most as many as asked for.
pub rising-length : (t : ℕ → Bool) (key : ℕ → ℕ) (n f : ℕ) → length (rising t key n f) ≤ f
unfolding rising
rising-length t key n zero = omega arith
rising-length t key n (suc f) = go (least t key n) (λ t. rising-length t key n f)
  where
    go : (x : Found) → ((t : ℕ → Bool) → length (rising t key n f) ≤ f) → length (follow x (λ i. rising (λ j. both (t j) (ltb (key i) (key j))) key n f)) ≤ suc f
    go nowhere ih = omega arith
    go (at i) ih = omega (arith, ih (λ j. both (t j) (ltb (key i) (key j))))

-- Two lists in ascending order with the same members.
member : (P : ℕ → Type 0) (xs : List ℕ) (s : ℕ) → All P xs → any (eqb s) xs ≡ true → P s
member P [] s h e = clash (sym e)
member P (x ∷ xs) s h e = go (look (eqb s x)) (member P xs s h.1)
  where
    go : Seen (eqb s x) → (any (eqb s) xs ≡ true → P s) → P s
    go (is_true z) ih = rw (eqb-true s x z) h.0
    go (is_false z) ih = ih (rw z at e)

absent : (P : ℕ → Type 0) (xs : List ℕ) (s : ℕ) → All P xs → (P s → ⊥) → any (eqb s) xs ≡ false
absent P xs s h d = go (look (any (eqb s) xs))
  where
    go : Seen (any (eqb s) xs) → any (eqb s) xs ≡ false
    go (is_true e) = absurd (d (member P xs s h e))
    go (is_false e) = e

behind : (key : ℕ → ℕ) (x y : ℕ) (ys : List ℕ) → Sorted key (y ∷ ys) → any (eqb x) (y ∷ ys) ≡ true → (x ≡ y → ⊥) → key y < key x
behind key x y ys b e d = member (λ j. key y < key j) ys x b.0 (rw (ne_eqb x y d) at e)

pub sorted-same : (key : ℕ → ℕ) (xs ys : List ℕ) → Sorted key xs → Sorted key ys → ((s : ℕ) → any (eqb s) xs ≡ any (eqb s) ys) → xs ≡ ys
sorted-same key [] [] a b h = refl
sorted-same key [] (y ∷ ys) a b h = clash (sym (h y ∙ rw (eq-eqb y y refl) refl))
sorted-same key (x ∷ xs) [] a b h = clash (sym (rw (eq-eqb x x refl) refl) ∙ h x)
sorted-same key (x ∷ xs) (y ∷ ys) a b h = ap₂ ◌∷◌ (front (same? x y)) (sorted-same key xs ys a.1 b.1 (λ s. rest s (same? s x)))
  where
    front : Same x y → x ≡ y
    front (same e) = e
    front (other d) =
        let f : any (eqb x) (x ∷ xs) ≡ true = rw (eq-eqb x x refl) refl in
        let g : any (eqb y) (y ∷ ys) ≡ true = rw (eq-eqb y y refl) refl in
        absurd (omega (arith, behind key x y ys b (sym (h x) ∙ f) d, behind key y x xs a (h y ∙ g) (λ e. d (sym e))))

    rest : (s : ℕ) → Same s x → any (eqb s) xs ≡ any (eqb s) ys
    rest s (same e) =
        let f : s ≡ y = e ∙ front (same? x y) in
        absent (λ j. key x < key j) xs s a.0 (λ l. absurd (omega (arith, ap key e, l)))
        ∙ sym (absent (λ j. key y < key j) ys s b.0 (λ l. absurd (omega (arith, ap key f, l))))
    rest s (other d) =
        let f : s ≡ y → ⊥ = λ e. d (e ∙ sym (front (same? x y))) in
        rw (ne_eqb s x d, ne_eqb s y f) at (h s)

-- What is kept of such a list.
keep-sorted : (key : ℕ → ℕ) (v : ℕ → Bool) (xs : List ℕ) → Sorted key xs → Sorted key (keep v xs)
keep-sorted key v [] h = tt
keep-sorted key v (x ∷ xs) h = go (look (v x)) (keep-sorted key v xs h.1)
  where
    go : Seen (v x) → Sorted key (keep v xs) → Sorted key (keep v (x ∷ xs))
    go (is_true e) ih = rw e (all_keep (λ j. key x < key j) v xs h.0, ih)
    go (is_false e) ih = rw e ih

keep-any : (v : ℕ → Bool) (xs : List ℕ) (s : ℕ) → any (eqb s) (keep v xs) ≡ both (v s) (any (eqb s) xs)
keep-any v [] s = go (v s)
  where
    go : (b : Bool) → false ≡ both b false
    go true = refl
    go false = refl
keep-any v (x ∷ xs) s = go (look (v x)) (look (v s)) (same? s x) (keep-any v xs s)
  where
    go : Seen (v x) → Seen (v s) → Same s x → any (eqb s) (keep v xs) ≡ both (v s) (any (eqb s) xs) → any (eqb s) (keep v (x ∷ xs)) ≡ both (v s) (any (eqb s) (x ∷ xs))
    go (is_true e) (is_true f) (same d) ih = rw (e, f, eq-eqb s x d)
    go (is_true e) (is_false f) (same d) ih = clash (sym e ∙ ap v (sym d) ∙ f)
    go (is_false e) (is_true f) (same d) ih = clash (sym f ∙ ap v d ∙ e)
    go (is_false e) (is_false f) (same d) ih = rw (e, f) (rw f at ih)
    go (is_true e) y (other d) ih = rw (e, ne_eqb s x d) ih
    go (is_false e) y (other d) ih = rw (e, ne_eqb s x d) ih

-- The list of all passing places has each of them, where no two have one key.
abbrev pub Apart : (ℕ → Bool) → (ℕ → ℕ) → ℕ → Type 0
Apart t key n = (j k : ℕ) → j < n → k < n → t j ≡ true → t k ≡ true → key j ≡ key k → j ≡ k

rising-has : (t : ℕ → Bool) (key : ℕ → ℕ) (n : ℕ) → Apart t key n → (s : ℕ) → any (eqb s) (rising t key n n) ≡ both (ltb s n) (t s)
rising-has t key n d s = go (look (ltb s n)) (look (t s))
  where
    few : (b : Bool) → pick b 1 0 ≤ 1
    few true = omega arith
    few false = omega arith

    go : Seen (ltb s n) → Seen (t s) → any (eqb s) (rising t key n n) ≡ both (ltb s n) (t s)
    go (is_true l) (is_true e) =
        let m : s < n = ltb-true s n l in
        rising-all t key n n (sum_ones (λ j. pick (t j) 1 0) (λ j. few (t j)) n) s m e (λ i k f z. d i s k m f e z) ∙ rw (l, e) refl
    go (is_true l) (is_false e) = absent (λ j. (t j ≡ true) × (j < n)) (rising t key n n) s (rising-pass t key n n) (λ z. no e z.0) ∙ rw (l, e) refl
    go (is_false l) y = absent (λ j. (t j ≡ true) × (j < n)) (rising t key n n) s (rising-pass t key n n) (λ z. no l (lt-ltb s n z.1)) ∙ rw l refl

turn : (a b c : Bool) → both c (both a b) ≡ both a (both b c)
turn true true true = refl
turn true true false = refl
turn true false true = refl
turn true false false = refl
turn false b true = refl
turn false b false = refl

pub keep-rising : (t v : ℕ → Bool) (key : ℕ → ℕ) (n : ℕ) → Apart t key n → keep v (rising t key n n) ≡ rising (λ j. both (t j) (v j)) key n n
keep-rising t v key n d =
    let w : ℕ → Bool = λ j. both (t j) (v j) in
    sorted-same key (keep v (rising t key n n)) (rising w key n n) (keep-sorted key v (rising t key n n) (rising-sorted t key n n)) (rising-sorted w key n n)
    (λ s.
    keep-any v (rising t key n n) s ∙ ap (both (v s)) (rising-has t key n d s) ∙ turn (ltb s n) (t s) (v s)
    ∙ sym (rising-has w key n (λ j k l m e f. d j k l m (both_true (t j) (v j) e).0 (both_true (t k) (v k) f).0) s))
