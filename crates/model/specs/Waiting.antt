-- What waits in a queue, of histories alone: messages for nodes that their peer owns and holds, notices that still tell the truth, and at most one notice of a node.
-- So what lapses by an exchange is gone after it: the reasons for which an item leaves unreceived are exact.
-- Assumes nothing.
use Rattle.std.specs.Prelude.{ℕ, ◌≤◌, ◌≡◌, refl, Bool, true, false, List, [], ◌∷◌, ◌++◌, length, eqb}
use Rattle.std.proofs.Common.{sym, subst, ◌∙◌, arith}
use Rattle.std.proofs.Math.Logic.◌⊎◌.{inl, inr}
use Rattle.laws.specs.Tests.{clash}
use Rattle.laws.specs.Weights.{All, load}
use Rattle.frames.specs.Frame.{most_ids}
use Rattle.model.specs.State.{held, total}
use Rattle.model.specs.Book.{Fed}
use Rattle.model.specs.QueuesLaws.{In, all-behind}
use Rattle.model.specs.Ledger.{Item, Item.message, Item.destroyed, Item.released, Ledger, is_told}
use Rattle.model.specs.Rows.{ledger_of}
use Rattle.model.specs.Happened.{Happened}
use Rattle.model.specs.Waits.{LapsedIn}

-- A message: its destination is the peer's own node, and the peer holds it ("until the owner's handle is gone; then they are dropped"); "0 to 8 attached handles".
-- A destroy notice: the command that queued it destroyed the node, and the peer holds it or an earlier message that waits carries it ("a destruction also queues a notice at each peer with an
-- earlier queued message that carries the node"; "withdrawn as soon as the peer holds no handle and no earlier message carrying the node is left").
-- A release notice: the node is the peer's own, held, it lives, and its sum of counts is 1 ("It is withdrawn if the sum rises or the node is destroyed").
abbrev pub StandsIn : Ledger → ℕ → Item → Type 0
StandsIn l p (message k m) = (m.to.owner ≡ p) × (held (l.handle p m.to.number) ≡ true) × (length m.carried ≤ most_ids)
StandsIn l p (destroyed k n) = (l.lives n.number ≡ false) × (l.died n.number ≡ k) × (is_told (l.handle p) (l.queue p) k n.number ≡ true)
StandsIn l p (released k n) = (l.lives n.number ≡ true) × (n.owner ≡ p) × (total l.handle n.number ≡ 1) × (held (l.handle p n.number) ≡ true)

-- The notices of a node, of either kind.
abbrev pub notice_of : ℕ → Item → Bool
notice_of n (message k m) = false
notice_of n (destroyed k x) = eqb x.number n
notice_of n (released k x) = eqb x.number n

abbrev pub notices_of : ℕ → List Item → ℕ
notices_of n q = load (notice_of n) (λ e. 1) q

pub record WaitingAt (l : Ledger) (p : ℕ) : Type 0 where
  pub stands : All (StandsIn l p) (l.queue p)
  pub once : (n : ℕ) → notices_of n (l.queue p) ≤ 1

abbrev pub WaitingIn : Type 0
WaitingIn = (xs : List Fed) → Happened xs → (p : ℕ) → WaitingAt (ledger_of xs) p

-- An item that waits and lapses by an exchange does not wait after it.
abbrev pub LapsedLeaves : Type 0
LapsedLeaves =
    (xs : List Fed) (x : Fed) → Happened (xs ++ (x ∷ [])) → (p : ℕ) (e : Item) → In e ((ledger_of xs).queue p) →
    LapsedIn (ledger_of xs) (ledger_of (xs ++ (x ∷ []))) p e → In e ((ledger_of (xs ++ (x ∷ []))).queue p) → ⊥

pub all-imp2 : {A : Type 0} (P Q R : A → Type 0) → ((x : A) → P x → Q x → R x) → (xs : List A) → All P xs → All Q xs → All R xs
all-imp2 P Q R h [] a b = tt
all-imp2 P Q R h (x ∷ xs) a b = (h x a.0 b.0, all-imp2 P Q R h xs a.1 b.1)

-- What lapsed does not stand.
pub lapsed-falls : (l k : Ledger) (p : ℕ) (e : Item) → StandsIn l p e → LapsedIn l k p e → StandsIn k p e → ⊥
lapsed-falls l k p (message j m) s z t = clash (sym t.1 ∙ z)
lapsed-falls l k p (destroyed j n) s z t = clash (sym t.2 ∙ rw (z.0, z.1) refl)
lapsed-falls l k p (released j n) s (inl z) t = clash (sym t.3 ∙ z)
lapsed-falls l k p (released j n) s (inr (inl z)) t = omega (arith, s.2, t.2)
lapsed-falls l k p (released j n) s (inr (inr z)) t = clash (sym t.0 ∙ z)

pub standing : (l : Ledger) (p : ℕ) (e : Item) → WaitingAt l p → In e (l.queue p) → StandsIn l p e
standing l p e v i = (all-behind (StandsIn l p) i.0 (e ∷ i.1) (subst (All (StandsIn l p)) i.2 v.stands)).0
