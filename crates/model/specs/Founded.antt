-- Every destroy notice is founded: its peer holds the node, or an earlier queued message carries it (02 No. 2: "withdrawn as soon as the peer holds no handle and no
-- earlier message carrying the node is left"). Each change of the state keeps this.
-- Assumes nothing.
use Prim.Native.Nat.{ℕ}
use Rattle.std.specs.Prelude.{◌≡◌, refl, true, false, ltb}
use Rattle.std.proofs.Common.{sym, ap, ◌∙◌}
use Rattle.std.proofs.Math.Bool.{Bool}
use mathlib.Core.List.{List, [], ◌∷◌, ◌++◌, map}
use Rattle.laws.specs.Tests.{Seen, Seen.is_true, Seen.is_false, look, Same, Same.same, Same.other, same?, clash, pick_all}
use Rattle.laws.specs.Tables.{upd, upd_same, upd_other, upd-all}
use Rattle.laws.specs.Weights.{keep, All}
use Rattle.model.specs.Numbers.{peers}
use Rattle.model.specs.Lists.{either, any}
use Rattle.model.specs.State.{Handle, held, Message, Seed, Entry, Entry.message, Entry.destroyed, Entry.released, State, earlier, concerned}
use Rattle.model.specs.Tables.{accept, with_queues, with_charges, with_seed}
use Rattle.model.specs.Changes.{at_peers, take_out, stays, settle}

abbrev pub FoundedAt : (ℕ → Handle) → List Entry → Type 0
FoundedAt h q = All (λ e. stays h q e ≡ true) q

abbrev pub Founded : State → Type 0
Founded b = (q : ℕ) → FoundedAt (b.handle q) (b.queue q)

-- More handles, and as many carriers.
abbrev pub Holds : (ℕ → Handle) → (ℕ → Handle) → Type 0
Holds h g = (s : ℕ) → held (h s) ≡ true → held (g s) ≡ true

abbrev pub Carries : List Entry → List Entry → Type 0
Carries q r = (n s : ℕ) → any (earlier n s) q ≡ true → any (earlier n s) r ≡ true

either_left : (a b : Bool) → a ≡ true → either a b ≡ true
either_left a b e = rw e

either-right : (a b : Bool) → b ≡ true → either a b ≡ true
either-right true b e = refl
either-right false b e = e

either-more : (a b c d : Bool) → (a ≡ true → c ≡ true) → (b ≡ true → d ≡ true) → either a b ≡ true → either c d ≡ true
either-more true b c d f g e = either_left c d (f refl)
either-more false b c d f g e = either-right c d (g e)

pub stays-more : (h g : ℕ → Handle) (q r : List Entry) → Holds h g → Carries q r → (e : Entry) → stays h q e ≡ true → stays g r e ≡ true
stays-more h g q r f c (message n m) z = refl
stays-more h g q r f c (destroyed n s) z = either-more (held (h s)) (any (earlier n s) q) (held (g s)) (any (earlier n s) r) (f s) (c n s) z
stays-more h g q r f c (released n s) z = refl

-- A test that every message passes leaves the carriers.
pub carries-keep : (t : Entry → Bool) → ((n : ℕ) (m : Message) → t (message n m) ≡ true) → (q : List Entry) (n s : ℕ) → any (earlier n s) (keep t q) ≡ any (earlier n s) q
carries-keep t h [] n s = refl
carries-keep t h (e ∷ q) n s = go (look (t e)) e refl (carries-keep t h q n s)
  where
    go : Seen (t e) → (x : Entry) → e ≡ x → any (earlier n s) (keep t q) ≡ any (earlier n s) q → any (earlier n s) (keep t (e ∷ q)) ≡ any (earlier n s) (e ∷ q)
    go (is_true z) x y ih = rw z (ap (either (earlier n s e)) ih)
    go (is_false z) (message k m) y ih = clash (sym (h k m) ∙ ap t (sym y) ∙ z)
    go (is_false z) (destroyed k u) y ih = rw (z, y) ih
    go (is_false z) (released k u) y ih = rw (z, y) ih

pub carries-append : (q r : List Entry) → Carries q (q ++ r)
carries-append [] r n s e = clash (sym e)
carries-append (x ∷ q) r n s e = either-more (earlier n s x) (any (earlier n s) q) (earlier n s x) (any (earlier n s) (q ++ r)) (λ z. z) (carries-append q r n s) e

pub keep-passes : (t : Entry → Bool) (q : List Entry) → All (λ e. t e ≡ true) (keep t q)
keep-passes t [] = tt
keep-passes t (e ∷ q) = go (look (t e)) (keep-passes t q)
  where
    go : Seen (t e) → All (λ e. t e ≡ true) (keep t q) → All (λ e. t e ≡ true) (keep t (e ∷ q))
    go (is_true z) ih = rw z (z, ih)
    go (is_false z) ih = rw z ih

-- What is founded is settled already: code that does not look there leaves the same queue.
pub settle-founded : (h : ℕ → Handle) (q : List Entry) → FoundedAt h q → settle h q ≡ q
unfolding settle
settle-founded h q a = go q a
  where
    go : (r : List Entry) → All (λ e. stays h q e ≡ true) r → keep (stays h q) r ≡ r
    go [] a = refl
    go (e ∷ r) a = rw a.0 (ap (◌∷◌ e) (go r a.1))

pub held-upd : (h : ℕ → Handle) (s : ℕ) (x : Handle) → held x ≡ true → Holds h (upd h s x)
held-upd h s x z t e = go (same? s t)
  where
    go : Same s t → held (upd h s x t) ≡ true
    go (same y) = rw (← y, upd_same) z
    go (other y) = rw (upd_other h s t x y) e

-- Nodes destroyed: each new notice is founded, and the release notices that go carry nothing.
pub concerned-keep : (h : ℕ → Handle) (t : Entry → Bool) → ((n : ℕ) (m : Message) → t (message n m) ≡ true) → (q : List Entry) (n s : ℕ) → concerned h q n s ≡ true → concerned h (keep t q) n s ≡ true
concerned-keep h t k q n s z = either-more (held (h s)) (any (earlier n s) q) (held (h s)) (any (earlier n s) (keep t q)) (λ y. y) (λ y. carries-keep t k q n s ∙ y) z

pub map-stays : (h : ℕ → Handle) (q : List Entry) (n : ℕ) (ss : List ℕ) → All (λ s. concerned h q n s ≡ true) ss → All (λ e. stays h q e ≡ true) (map (destroyed n) ss)
map-stays h q n [] a = tt
map-stays h q n (s ∷ ss) a = (a.0, map-stays h q n ss a.1)

pub map-released : (h : ℕ → Handle) (q : List Entry) (n : ℕ) (ss : List ℕ) → All (λ e. stays h q e ≡ true) (map (released n) ss)
map-released h q n [] = tt
map-released h q n (s ∷ ss) = (refl, map-released h q n ss)

pub at-peers : (P : ℕ → Entry → Type 0) (new : ℕ → List Entry) → ((q : ℕ) → All (P q) (new q)) → (q : ℕ) → All (P q) (at_peers new q)
at-peers P new a q = pick_all (All (P q)) (ltb q peers) (new q) [] (a q) tt

pub founded-accept : (b : State) → Founded b → Founded (accept b)
unfolding accept
founded-accept b f = f

pub founded-out : (b : State) (p : ℕ) (out : List Message) (rest : List Entry) → Founded b → FoundedAt (b.handle p) rest → Founded (take_out b p out rest)
unfolding take_out with_charges with_queues
founded-out b p out rest f a = upd-all (λ q x. FoundedAt (b.handle q) x) b.queue p rest f a

pub map-messages : (h : ℕ → Handle) (q : List Entry) (n : ℕ) (make : ℕ → Message) (ds : List ℕ) → All (λ e. stays h q e ≡ true) (map (λ d. message n (make d)) ds)
map-messages h q n make [] = tt
map-messages h q n make (d ∷ ds) = (refl, map-messages h q n make ds)

pub founded-seed : (b : State) (p : ℕ) (x : Seed) → Founded b → Founded (with_seed b p x)
unfolding with_seed
founded-seed b p x f = f
