-- Handles that change alike on the bus and in the book.
-- Assumes nothing.
use Rattle.std.specs.Prelude.{ℕ, zero, suc, ◌<◌, ◌≡◌, refl, true}
use Rattle.std.proofs.Common.{sym, ap, ◌∙◌, arith}
use Rattle.laws.specs.Tests.{clash, Same, Same.same, Same.other, same?}
use Rattle.laws.specs.Tables.{upd, upd_same, upd_other}
use Rattle.model.specs.Numbers.{nodes}
use Rattle.model.specs.State.{Handle, Handle.none, Handle.some, handle_of, held}
use Rattle.model.specs.Book.{Node, Noted, Noted.blank, Noted.noted, noted_of}
use Rattle.model.specs.Sim.{called, Handles}

pub some-none : {B : Type 0} {i c : ℕ} → ◌≡◌ {A = Handle} (some i c) none → B
some-none e = let z : ◌≡◌ {A = ℕ} 0 1 = cc in absurd (omega arith)

-- A handle that is held.
pub some_of : (x : Handle) → held x ≡ true → (i : ℕ) × (c : ℕ) × (x ≡ some i c)
some_of none e = clash (sym e)
some_of (some i c) e = (i, c, refl)

noted-blank : {B : Type 0} {n : Node} {c : ℕ} → ◌≡◌ {A = Noted} (noted n c) blank → B
noted-blank e = let z : ◌≡◌ {A = ℕ} 0 1 = cc in absurd (omega arith)

-- The handle to s with ID i gets the count c, new, changed or gone: the slot has no other ID, and the ID is at no other slot.
pub handles-set : (name : ℕ → ℕ) (h : ℕ → Handle) (g : ℕ → Noted) (s i c : ℕ) → Handles name h g → s < nodes →
    ((j d : ℕ) → h s ≡ some j d → j ≡ i) → ((t d : ℕ) → h t ≡ some i d → t ≡ s) →
    Handles name (upd h s (handle_of i c)) (upd g i (noted_of (called name s) c))
handles-set name h g s i c r l one-id one-slot =
    record {
      noted-at = λ t j d. fwd t j d (same? s t) c;
      held_at = λ j n d. bwd j n d (same? i j) c;
    }
  where
    fwd : (t j d : ℕ) → Same s t → (c : ℕ) → upd h s (handle_of i c) t ≡ some j d → upd g i (noted_of (called name s) c) j ≡ noted (called name t) d
    fwd t j d (same e) zero f = some-none (sym (rw (← e, upd_same) at f))
    fwd t j d (same e) (suc c) f =
        let x : some i (suc c) ≡ some j d = rw (← e, upd_same) at f in
        let y : i ≡ j = cc x in
        let z : suc c ≡ d = cc x in
        rw (← y, upd_same, z, e)
    fwd t j d (other e) c f =
        let x : h t ≡ some j d = rw (upd_other h s t (handle_of i c) e) at f in
        rw (upd_other g i j (noted_of (called name s) c) (λ z. e (sym (one-slot t d (rw z x))))) (r.noted-at t j d x)

    bwd : (j : ℕ) (n : Node) (d : ℕ) → Same i j → (c : ℕ) → upd g i (noted_of (called name s) c) j ≡ noted n d →
        (t : ℕ) × (t < nodes) × (upd h s (handle_of i c) t ≡ some j d) × (n ≡ called name t)
    bwd j n d (same e) zero f = noted-blank (sym (rw (← e, upd_same) at f))
    bwd j n d (same e) (suc c) f =
        let x : noted (called name s) (suc c) ≡ noted n d = rw (← e, upd_same) at f in
        let y : n ≡ called name s = cc x in
        let z : suc c ≡ d = cc x in
        (s, l, rw (upd_same, e, z), y)
    bwd j n d (other e) c f =
        let x = r.held_at j n d (rw (upd_other g i j (noted_of (called name s) c) e) at f) in
        (x.0, x.1, rw (upd_other h s x.0 (handle_of i c) (λ z. e (sym (one-id j d (rw z x.2))))) x.2, x.3)

-- An ID is at one slot.
pub one-slot : (name : ℕ → ℕ) → ((s t : ℕ) → name s ≡ name t → s ≡ t) → (h : ℕ → Handle) (g : ℕ → Noted) → Handles name h g →
    (s t i c d : ℕ) → h s ≡ some i c → h t ≡ some i d → t ≡ s
one-slot name apart h g r s t i c d e f =
    let x = r.noted-at s i c e in
    let y = r.noted-at t i d f in
    let z : noted (called name t) d ≡ noted (called name s) c = sym y ∙ x in
    let w : called name t ≡ called name s = cc z in
    apart t s (ap (λ (n : Node). n.number) w)

pub handles-none : (name : ℕ → ℕ) → Handles name (λ s. none) (λ i. blank)
handles-none name = record { noted-at = λ s i c e. some-none (sym e); held_at = λ i n c e. noted-blank (sym e) }
