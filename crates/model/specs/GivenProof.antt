-- The IDs that the bus gives to a peer are 7, 11, 15, ..: the proof.
-- Assumes nothing.
use Rattle.std.specs.Prelude.{ℕ, zero, suc, ◌-◌, ◌<◌, ◌≡◌, Bool, true, false, eqb}
use Rattle.std.proofs.Math.Path.{refl}
use Rattle.std.proofs.Common.{sym, ap, ap₂, ◌∙◌, arith}
use mathlib.Core.List.{List, [], ◌∷◌, ◌++◌, append-nil}
use Rattle.laws.specs.Tests.{pick, pick_all, Seen, Seen.is_true, Seen.is_false, look}
use Rattle.laws.specs.Tables.{upd_other}
use Rattle.laws.specs.Weights.{All}
use Rattle.laws.specs.Build.{build}
use Rattle.frames.specs.Frame.{opcode}
use Rattle.model.specs.Numbers.{next_id}
use Rattle.model.specs.Lists.{both}
use Rattle.model.specs.State.{Handle, Handle.none, Handle.some, handle_of, Entry, Entry.message, Entry.destroyed, Entry.released, State, Seed}
use Rattle.model.specs.Tables.{accept, with_given, with_handles, with_handle, with_queues, with_charges, with_seed}
use Rattle.model.specs.Changes.{take_out, withdraw, shown, shown_all, give, give_all, forget, given_after, reseed, valid, settled}
use Rattle.model.specs.Effects.{releases, releases_handle, receives}
use Rattle.model.specs.Unchanged.{notify-apart}
use Rattle.model.specs.Step.{Call, step}
use Rattle.model.specs.Rising.{Sorted}
use Rattle.model.specs.Given.{shown_to, holds_id, new_of}

-- What is shown does not depend on how many commands were accepted.
give-accept : (x : State) (p as_of s : ℕ) → give (accept x) p as_of s ≡ accept (give x p as_of s)
unfolding give valid withdraw with_handles with_given with_queues shown accept
give-accept x p as_of s = go (look (valid x p as_of s))
  where
    go : Seen (valid x p as_of s) → give (accept x) p as_of s ≡ accept (give x p as_of s)
    go (is_true e) = rw e refl
    go (is_false e) = rw e refl

pub shown-accept : (x : State) (p as_of : ℕ) (ss : List ℕ) → shown_all (accept x) p as_of ss ≡ shown_all x p as_of ss
shown-accept x p as_of [] = refl
shown-accept x p as_of (s ∷ ss) =
    ap₂ ◌∷◌ (unfold shown valid accept in refl) (ap (λ (y : State). shown_all y p as_of ss) (give-accept x p as_of s) ∙ shown-accept (give x p as_of s) p as_of ss)

-- A handle given to another peer.
pub given-other : (x : State) (q as_of s p : ℕ) → (q ≡ p → ⊥) → (give x q as_of s).given p ≡ x.given p
unfolding give withdraw with_handles with_given with_queues
given-other x q as_of s p n = go (look (valid x q as_of s))
  where
    go : Seen (valid x q as_of s) → (give x q as_of s).given p ≡ x.given p
    go (is_true e) = rw e (upd_other x.given q p (given_after (x.handle q s) (x.given q)) n)
    go (is_false e) = rw e refl

pub givens-other : (x : State) (q as_of : ℕ) (ss : List ℕ) (p : ℕ) → (q ≡ p → ⊥) → (give_all x q as_of ss).given p ≡ x.given p
givens-other x q as_of [] p n = refl
givens-other x q as_of (s ∷ ss) p n = givens-other (give x q as_of s) q as_of ss p n ∙ given-other x q as_of s p n

-- The IDs given to p before, and the new ones among those shown.
abbrev pub Grown : State → State → ℕ → List ℕ → Type 0
Grown b a p is = build next_id (b.given p) ++ new_of (holds_id b p) is ≡ build next_id (a.given p)

pub none-new : (b a : State) (p : ℕ) → a.given p ≡ b.given p → Grown b a p []
none-new b a p e = append-nil (build next_id (b.given p)) ∙ ap (build next_id) (sym e)

pub receive_other : (b : State) (q p : ℕ) (es : List Entry) → (q ≡ p → ⊥) → (receives (accept b) q es).given p ≡ b.given p
unfolding settled take_out with_charges with_queues accept
receive_other b q p [] n = refl
receive_other b q p (message k m ∷ rest) n = givens-other (take_out (accept b) q (m ∷ []) rest) q k m.carried p n
receive_other b q p (destroyed k s ∷ rest) n = refl
receive_other b q p (released k s ∷ rest) n = refl

pub release-given : (b : State) (p s : ℕ) (h : Handle) → (releases_handle (accept b) p s h).given ≡ b.given
unfolding releases
release-given b p s none = unfold accept in refl
release-given b p s (some i c) =
    let less = with_handle (accept b) p s (handle_of i (c - 1)) in
    let x = pick (eqb c 1) (forget less p s) less in
    (notify-apart (accept b) x s).given
    ∙ pick_all (λ y. y.given ≡ b.given) (eqb c 1) (forget less p s) less (unfold forget take_out with_charges with_queues with_handles accept in refl)
    (unfold with_handles accept in refl)

-- A seed that is set gives nothing; one that is shown, as a message.
pub seed-given : (a : State) (t : Bool) (q : ℕ) (x : Seed) (p : ℕ) → (reseed a t q x).given p ≡ a.given p
unfolding with_seed
seed-given a true q x p = refl
seed-given a false q x p = refl

pub both_true : {A : Type 0} (t : Bool) (x y : A) → pick (both t true) x y ≡ pick t x y
both_true true x y = refl
both_true false x y = refl

pub both_false : {A : Type 0} (t : Bool) (x y : A) → pick (both t false) x y ≡ pick t y y
both_false true x y = refl
both_false false x y = refl

-- A command of another kind shows no ID.
pub no-ids : (b : State) (c : Call) (p n : ℕ) → opcode c.frame ≡ n → eqb n 6 ≡ false → eqb n 8 ≡ false → eqb n 12 ≡ false → shown_to p c (step b c) ≡ []
no-ids b c p n e f g h = go (look (eqb (step b c).outcome.number 0))
  where
    go : Seen (eqb (step b c).outcome.number 0) → shown_to p c (step b c) ≡ []
    go (is_true z) = rw (z, e, f, g, h) refl
    go (is_false z) = rw z refl

-- What 7, 11, 15, .. have.
pub all_build : {A : Type 0} (P : A → Type 0) (f : ℕ → A) (n : ℕ) → ((j : ℕ) → j < n → P (f j)) → All P (build f n)
unfolding build
all_build P f zero h = tt
all_build P f (suc n) h = (h zero (omega arith), all_build P (λ j. f (suc j)) n (λ j l. h (suc j) (omega arith)))

pub build-ascends : (f : ℕ → ℕ) (n : ℕ) → ((i j : ℕ) → i < j → f i < f j) → Sorted (λ i. i) (build f n)
unfolding build
build-ascends f zero h = tt
build-ascends f (suc n) h = (
  all_build (λ i. f zero < i) (λ j. f (suc j)) n (λ j l. h zero (suc j) (omega arith)),
  build-ascends (λ j. f (suc j)) n (λ i j l. h (suc i) (suc j) (omega arith)),
)
