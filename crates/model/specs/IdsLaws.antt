-- What the changes of handles do to `Handles` and `Holding`.
-- Assumes nothing.
use Rattle.std.proofs.Common.{eq-eqb, sym, ap, ◌∙◌, arith}
use Rattle.std.specs.Prelude.{ℕ, zero, suc, ◌%◌, ◌≤◌, ◌<◌, ◌≡◌, refl, Bool, true, false}
use Rattle.laws.specs.Tests.{Seen, Seen.is_true, Seen.is_false, look, clash, Same, Same.same, Same.other, same?}
use Rattle.laws.specs.Tables.{upd, upd_same, upd_other}
use Rattle.model.specs.Numbers.{nodes, owner, next_id}
use Rattle.model.specs.State.{is_live, Handle, Handle.none, Handle.some, handle_of, held, count, id_or, State, lived_at}
use Rattle.model.specs.Changes.{given_after, valid}
use Rattle.model.specs.Counts.{put_all}
use Rattle.model.specs.SimHandles.{some-none}
use Rattle.model.specs.Ids.{Handles, Ids}

pub same_id : {i j c d : ℕ} → some i c ≡ some j d → i ≡ j
same_id e = cc

pub same_count : {i j c d : ℕ} → some i c ≡ some j d → c ≡ d
same_count e = cc

-- The handle of an ID and a count.
pub handle-some : (i c j d : ℕ) → handle_of i c ≡ some j d → (i ≡ j) × (0 < d)
handle-some i zero j d e = some-none (sym e)
handle-some i (suc c) j d e = let z : suc c ≡ d = same_count e in (same_id e, omega arith)

-- The handles after one of them changed.
pub data Changed (h : ℕ → Handle) (s i t j d : ℕ) : Type 0 where
  here : s ≡ t → i ≡ j → 0 < d → Changed h s i t j d
  there : (s ≡ t → ⊥) → h t ≡ some j d → Changed h s i t j d

pub changed : (h : ℕ → Handle) (s i c t j d : ℕ) → upd h s (handle_of i c) t ≡ some j d → Changed h s i t j d
changed h s i c t j d e = go (same? s t)
  where
    go : Same s t → Changed h s i t j d
    go (same z) =
        let f : handle_of i c ≡ some j d = sym (upd_same h s (handle_of i c)) ∙ ap (upd h s (handle_of i c)) z ∙ e in
        let r = handle-some i c j d f in
        here z r.0 r.1
    go (other z) = there z (sym (upd_other h s t (handle_of i c) z) ∙ e)

-- An ID that the handle of p to s may have, g IDs being given.
pub record Fit (p g s i : ℕ) : Type 0 where
  pub chosen : owner s ≡ p → i % 4 ≡ 0
  pub given : (owner s ≡ p → ⊥) → (n : ℕ) × (n < g) × (i ≡ next_id n)

pub fit_of : (p g : ℕ) (h : ℕ → Handle) (s i c : ℕ) → Handles p g h → h s ≡ some i c → Fit p g s i
fit_of p g h s i c v e = record { chosen = v.chosen s i c e; given = v.given s i c e }

-- One handle changes: it has an ID that fits and that no other handle has.
pub handles-set : (p g g' : ℕ) (h : ℕ → Handle) (s i c : ℕ) → Handles p g h → g ≤ g' → s < nodes → Fit p g' s i → ((t d : ℕ) → h t ≡ some i d → t ≡ s) →
    Handles p g' (upd h s (handle_of i c))
handles-set p g g' h s i c v le l fit only = record { within = within; counted = counted; distinct = distinct; chosen = chosen; given = given }
  where
    within : (t j d : ℕ) → upd h s (handle_of i c) t ≡ some j d → t < nodes
    within t j d e = go (changed h s i c t j d e)
      where
        go : Changed h s i t j d → t < nodes
        go (here z y k) = omega arith
        go (there z y) = v.within t j d y

    counted : (t j d : ℕ) → upd h s (handle_of i c) t ≡ some j d → 0 < d
    counted t j d e = go (changed h s i c t j d e)
      where
        go : Changed h s i t j d → 0 < d
        go (here z y k) = k
        go (there z y) = v.counted t j d y

    distinct : (t u j d k : ℕ) → upd h s (handle_of i c) t ≡ some j d → upd h s (handle_of i c) u ≡ some j k → t ≡ u
    distinct t u j d k e f = go (changed h s i c t j d e) (changed h s i c u j k f)
      where
        go : Changed h s i t j d → Changed h s i u j k → t ≡ u
        go (here z y m) (here z' y' m') = sym z ∙ z'
        go (here z y m) (there z' y') = sym z ∙ sym (only u k (rw (← y) at y'))
        go (there z y) (here z' y' m') = only t d (rw (← y') at y) ∙ z'
        go (there z y) (there z' y') = v.distinct t u j d k y y'

    chosen : (t j d : ℕ) → upd h s (handle_of i c) t ≡ some j d → owner t ≡ p → j % 4 ≡ 0
    chosen t j d e o = go (changed h s i c t j d e)
      where
        go : Changed h s i t j d → j % 4 ≡ 0
        go (here z y m) = rw (← y) (fit.chosen (rw z o))
        go (there z y) = v.chosen t j d y o

    given : (t j d : ℕ) → upd h s (handle_of i c) t ≡ some j d → (owner t ≡ p → ⊥) → (n : ℕ) × (n < g') × (j ≡ next_id n)
    given t j d e o = go (changed h s i c t j d e)
      where
        go : Changed h s i t j d → (n : ℕ) × (n < g') × (j ≡ next_id n)
        go (here z y m) = rw (← y) (fit.given (λ x. o (rw (← z) x)))
        go (there z y) = let r = v.given t j d y o in (r.0, omega (arith, r.1), r.2)

-- The next ID that the bus gives is at no handle.
pub next-free : (p g : ℕ) (h : ℕ → Handle) (t d : ℕ) → Handles p g h → h t ≡ some (next_id g) d → ⊥
next-free p g h t d v e = go (same? (owner t) p)
  where
    go : Same (owner t) p → ⊥
    go (same z) = omega (arith, v.chosen t (next_id g) d e z)
    go (other z) = let r = v.given t (next_id g) d e z in omega (arith, r.1, r.2)

-- A handle changes and none goes: what is held stays held.
pub held_of : (i c : ℕ) → held (handle_of i (suc c)) ≡ true
held_of i c = refl

pub held_kept : (h : ℕ → ℕ → Handle) (p s : ℕ) (y : Handle) → held y ≡ true → (q t : ℕ) → held (h q t) ≡ true → held (upd h p (upd (h p) s y) q t) ≡ true
held_kept h p s y k = put_all (λ q t r. held (h q t) ≡ true → held r ≡ true) h p s y (λ q t e. e) (λ e. k)

-- The handles of every peer; and the owner of a live node holds it.
pub record Holding (b : State) : Type 0 where
  pub handles : Ids b
  pub owned : (s : ℕ) → is_live (b.life s) ≡ true → held (b.handle (owner s) s) ≡ true

-- A handle to a live node is given: the one that stands there, or a new one with the next ID.
pub give-one : (p g : ℕ) (h : ℕ → Handle) (s : ℕ) → Handles p g h → s < nodes → (held (h s) ≡ false → owner s ≡ p → ⊥) → (x : Handle) → h s ≡ x →
    Handles p (given_after x g) (upd h s (handle_of (id_or (next_id g) x) (suc (count x))))
give-one p g h s v l strange none e =
    handles-set p g (suc g) h s (next_id g) 1 v (omega arith) l
    (record { chosen = λ o. absurd (strange (ap held e) o); given = λ o. (g, omega arith, refl) })
    (λ t d f. absurd (next-free p g h t d v f))
give-one p g h s v l strange (some i c) e =
    handles-set p g g h s i (suc c) v (omega arith) l (fit_of p g h s i c v e) (λ t d f. v.distinct t s i d c f e)

-- What is shown to the owner of its own node, it holds.
pub valid-held : (x : State) (p as_of s : ℕ) → (is_live (x.life s) ≡ true → held (x.handle (owner s) s) ≡ true) → valid x p as_of s ≡ true → held (x.handle p s) ≡ false → owner s ≡ p → ⊥
unfolding valid
valid-held x p as_of s v e f o = go (look (is_live (x.life s))) (look (lived_at as_of (x.life s)))
  where
    go : Seen (is_live (x.life s)) → Seen (lived_at as_of (x.life s)) → ⊥
    go (is_true z) y = let w : ◌≡◌ {A = Bool} true false = sym (rw o at (v z)) ∙ f in clash w
    go (is_false z) (is_false y) = clash (sym (rw y at e))
    go (is_false z) (is_true y) = clash (sym (rw (y, z, eq-eqb (owner s) p o, f) at e))
