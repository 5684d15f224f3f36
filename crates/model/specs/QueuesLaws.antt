-- Laws of `Later`, and what the small changes do to the queues.
-- Assumes nothing.
use Rattle.std.specs.Prelude.{ℕ, ◌+◌, ◌<◌, ◌≡◌, refl, Bool, List, [], ◌∷◌, ◌++◌, map}
use Rattle.std.proofs.Common.{ap}
use Rattle.std.proofs.Math.Bool.{false}
use Rattle.laws.specs.Tests.{Seen, Seen.is_true, Seen.is_false, look}
use Rattle.laws.specs.Tables.{upd, upd_same, upd_other}
use Rattle.laws.specs.Sums.{sum-at}
use Rattle.laws.specs.Weights.{keep, All, all-imp}
use Rattle.model.specs.Numbers.{peers}
use Rattle.model.specs.State.{Handle, count, Entry, State, total}
use Rattle.model.specs.Queues.{Later, Later.behind, Later.stays, Later.leaves}

module _ {A : Type 0} {gone new : A → Type 0} where
  pub later_refl : (q : List A) → Later gone new q q
  later_refl [] = behind tt
  later_refl (e ∷ q) = stays (later_refl q)

  pub later-append : (q xs : List A) → All new xs → Later gone new q (q ++ xs)
  later-append [] xs a = behind a
  later-append (e ∷ q) xs a = stays (later-append q xs a)

  pub later-keep : (t : A → Bool) → ((e : A) → t e ≡ false → gone e) → (q : List A) → Later gone new q (keep t q)
  later-keep t h [] = behind tt
  later-keep t h (e ∷ q) = go (look (t e)) (later-keep t h q)
    where
      go : Seen (t e) → Later gone new q (keep t q) → Later gone new (e ∷ q) (keep t (e ∷ q))
      go (is_true z) l = rw z (stays l)
      go (is_false z) l = rw z (leaves (h e z) l)

  pub later-empty : ((e : A) → gone e) → (q : List A) → Later gone new q []
  later-empty h [] = behind tt
  later-empty h (e ∷ q) = leaves (h e) (later-empty h q)

  -- what every entry has, and every new one
  pub later-all : (P : A → Type 0) → ((e : A) → new e → P e) → {q r : List A} → Later gone new q r → All P q → All P r
  later-all P n (behind {r} a) h = all-imp new P n r a
  later-all P n (stays l) h = (h.0, later-all P n l h.1)
  later-all P n (leaves g l) h = later-all P n l h.1

  pub later_trans : {q r s : List A} → Later gone new q r → Later gone new r s → Later gone new q s
  later_trans (behind a) m = behind (later-all new (λ e h. h) m a)
  later_trans (stays l) (stays m) = stays (later_trans l m)
  later_trans (stays l) (leaves g m) = leaves g (later_trans l m)
  later_trans (leaves g l) m = leaves g (later_trans l m)

  -- behind entries that came out before
  pub later-front : (t : List A) {q r : List A} → Later gone new q r → Later gone new (t ++ q) (t ++ r)
  later-front [] l = l
  later-front (e ∷ t) l = stays (later-front t l)

  -- what leaves the queue stood in it
  pub later-with : (P : A → Type 0) {q r : List A} → Later gone new q r → All P q → Later (λ e. P e × gone e) new q r
  later-with P (behind a) h = behind a
  later-with P (stays l) h = stays (later-with P l h.1)
  later-with P (leaves g l) h = leaves (h.0, g) (later-with P l h.1)

-- An element at some place of a list; every element is at one.
abbrev pub In : {A : Type 0} → A → List A → Type 0
In {A} e q = (before : List A) × (after : List A) × (q ≡ before ++ (e ∷ after))

pub all_in : {A : Type 0} (q : List A) → All (λ e. In e q) q
all_in [] = tt
all_in (x ∷ q) = (([], q, refl), all-imp (λ e. In e q) (λ e. In e (x ∷ q)) (λ e z. (x ∷ z.0, z.1, ap (◌∷◌ x) z.2)) q (all_in q))

-- Weaker reasons.
pub later-imp : {A : Type 0} {gone new far late : A → Type 0} → ((e : A) → gone e → far e) → ((e : A) → new e → late e) →
    {q r : List A} → Later gone new q r → Later far late q r
later-imp {new = new} {late = late} f g (behind {r} a) = behind (all-imp new late g r a)
later-imp f g (stays l) = stays (later-imp f g l)
later-imp f g (leaves x l) = leaves (f _ x) (later-imp f g l)

-- Every queue, from the state x to the state y.
abbrev pub Each : (ℕ → Entry → Type 0) → (Entry → Type 0) → State → State → Type 0
Each gone new x y = (q : ℕ) → Later (gone q) new (x.queue q) (y.queue q)

pub map-new : {A B : Type 0} (new : B → Type 0) (f : A → B) → ((s : A) → new (f s)) → (ss : List A) → All new (map f ss)
map-new new f h [] = tt
map-new new f h (s ∷ ss) = (h s, map-new new f h ss)

pub map-all-of : {A B : Type 0} (P : B → Type 0) (f : A → B) (xs : List A) → All P (map f xs) → All (λ x. P (f x)) xs
map-all-of P f [] h = tt
map-all-of P f (x ∷ xs) h = (h.0, map-all-of P f xs h.1)

pub all-behind : {A : Type 0} (P : A → Type 0) (xs ys : List A) → All P (xs ++ ys) → All P ys
all-behind P [] ys a = a
all-behind P (x ∷ xs) ys a = all-behind P xs ys a.1

-- The sum of the counts of a node after one handle of it changed.
pub total-set : (h : ℕ → ℕ → Handle) (p s : ℕ) (y : Handle) → p < peers → total (upd h p (upd (h p) s y)) s + count (h p s) ≡ total h s + count y
unfolding total
total-set h p s y l =
    let g : ℕ → ℕ → Handle = upd h p (upd (h p) s y) in
    let e : g p s ≡ y = rw upd_same (upd_same (h p) s y) in
    rw e at (sum-at (λ q. count (g q s)) (λ q. count (h q s)) p peers l (λ q m n. rw (upd_other h p q (upd (h p) s y) n)))
