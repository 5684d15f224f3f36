-- Handles with one of them changed, and the sum of counts of a node.
-- Assumes nothing.
use Rattle.std.specs.Prelude.{ℕ, zero, suc, ◌+◌, ◌≤◌, ◌<◌, ◌≡◌, refl}
use Rattle.std.proofs.Common.{ap, arith}
use Rattle.laws.specs.Tests.{Same, Same.same, Same.other, same?}
use Rattle.laws.specs.Tables.{upd, upd_same, upd_other, upd-all}
use Rattle.laws.specs.Sums.{sum-ext}
use Rattle.model.specs.Numbers.{peers}
use Rattle.model.specs.State.{Handle, handle_of, count, total}
use Rattle.model.specs.Occurs.{sum_one, sum-two, sum_more}

-- A sum of counts reads the counts of one slot.
pub total_ext : (h g : ℕ → ℕ → Handle) (s : ℕ) → ((q : ℕ) → count (h q s) ≡ count (g q s)) → total h s ≡ total g s
unfolding total
total_ext h g s e = sum-ext (λ q. count (h q s)) (λ q. count (g q s)) peers (λ q l. e q)

-- The handles with p's handle to s changed.
abbrev pub put : (ℕ → ℕ → Handle) → ℕ → ℕ → Handle → ℕ → ℕ → Handle
put h p s x = upd h p (upd (h p) s x)

pub put_all : (P : ℕ → ℕ → Handle → Type 0) (h : ℕ → ℕ → Handle) (p s : ℕ) (x : Handle) → ((q t : ℕ) → P q t (h q t)) → P p s x → (q t : ℕ) → P q t (put h p s x q t)
put_all P h p s x a e = upd-all (λ q g. (t : ℕ) → P q t (g t)) h p (upd (h p) s x) a (upd-all (P p) (h p) s x (a p) e)

pub put_other : (h : ℕ → ℕ → Handle) (p s : ℕ) (x : Handle) (q t : ℕ) → (s ≡ t → ⊥) → put h p s x q t ≡ h q t
put_other h p s x q t d = go (same? p q)
  where
    go : Same p q → put h p s x q t ≡ h q t
    go (same e) = rw (← e, upd_same, upd_other (h p) s t x d)
    go (other e) = rw (upd_other h p q (upd (h p) s x) e)

pub total-other : (h : ℕ → ℕ → Handle) (p s : ℕ) (x : Handle) (t : ℕ) → (s ≡ t → ⊥) → total (put h p s x) t ≡ total h t
total-other h p s x t d = total_ext (put h p s x) h t (λ q. ap count (put_other h p s x q t d))

-- A peer's count, and two peers' counts, are within the sum.
pub total-one : (h : ℕ → ℕ → Handle) (s p : ℕ) → p < peers → count (h p s) ≤ total h s
unfolding total
total-one h s p l = sum_one (λ q. count (h q s)) p peers l

pub total-two : (h : ℕ → ℕ → Handle) (s p q : ℕ) → p < peers → q < peers → (p ≡ q → ⊥) → count (h p s) + count (h q s) ≤ total h s
unfolding total
total-two h s p q l m d = sum-two (λ q. count (h q s)) p q peers l m d

-- One handle changed.
pub total-more : (h : ℕ → ℕ → Handle) (p s : ℕ) (x : Handle) (d : ℕ) → count x ≤ count (h p s) + d → (t : ℕ) → total (put h p s x) t ≤ total h t + d
unfolding total
total-more h p s x d l t = sum_more (λ q. count (put h p s x q t)) (λ q. count (h q t)) p d peers elsewhere here
  where
    elsewhere : (q : ℕ) → (p ≡ q → ⊥) → count (put h p s x q t) ≤ count (h q t)
    elsewhere q z = rw (upd_other h p q (upd (h p) s x) z) (omega arith)

    here : count (put h p s x p t) ≤ count (h p t) + d
    here = rw upd_same (upd-all (λ t y. count y ≤ count (h p t) + d) (h p) s x (λ t. omega arith) l t)

pub count-handle : (i c : ℕ) → count (handle_of i c) ≡ c
count-handle i zero = refl
count-handle i (suc c) = refl
