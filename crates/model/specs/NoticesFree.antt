-- A peer that is not open has an empty queue; a slot that does not count is named by nothing, and a created node takes such a slot.
-- Assumes nothing.
use Rattle.model.specs.Changes.{stays}
use Rattle.std.specs.Prelude.{ℕ, ◌+◌, ◌*◌, ◌≤◌, ◌<◌, ◌≡◌, refl, true, false, not, List, [], ◌∷◌, eqb, ltb}
use Rattle.std.proofs.Common.{sym, ◌∙◌, arith}
use Rattle.std.proofs.lemmas.Bool.{not-true}
use Rattle.laws.specs.Tests.{Seen, Seen.is_true, Seen.is_false, look, clash}
use Rattle.laws.specs.Search.{first, first_found}
use Rattle.laws.specs.Weights.{All}
use Rattle.model.specs.Numbers.{peers, slots}
use Rattle.model.specs.Lists.{any, both}
use Rattle.model.specs.State.{Status, Status.unopened, Status.opened, held, Entry, Entry.message, Entry.destroyed, Entry.released, messages_in, State, names, counts, free_place, earlier}
use Rattle.model.specs.Notices.{Stands, Noted}
use Rattle.model.specs.Occurs.{no, either-false, both_true}
use Rattle.model.specs.NoticesEnds.{unopened-opened}

-- A holder is a peer.
pub holder-peer : (b : State) (p s : ℕ) → Noted b → held (b.handle p s) ≡ true → p < peers
holder-peer b p s n h = (n.present p (λ z. unopened-opened (sym z ∙ (n.holders p s h).0))).0

-- The destination of a carrier is held; and a carrier names what it carries.
carrier-held : (b : State) (q k s : ℕ) (es : List Entry) → All (Stands b.handle b.life q) es → any (earlier k s) es ≡ true → (s : ℕ) × (held (b.handle q s) ≡ true)
carrier-held b q k s [] a f = clash (sym f)
carrier-held b q k s (message j m ∷ es) a f = (m.to, a.0.1)
carrier-held b q k s (destroyed j t ∷ es) a f = carrier-held b q k s es a.1 f
carrier-held b q k s (released j t ∷ es) a f = carrier-held b q k s es a.1 f

pub carrier-names : (k s : ℕ) (es : List Entry) → any (earlier k s) es ≡ true → any (names s) (messages_in es) ≡ false → ⊥
carrier-names k s [] f g = clash (sym f)
carrier-names k s (message j m ∷ es) f g = go (look (both (ltb j k) (any (eqb s) m.carried))) (either-false (names s m) (any (names s) (messages_in es)) g) (carrier-names k s es)
  where
    go : Seen (both (ltb j k) (any (eqb s) m.carried)) → (names s m ≡ false) × (any (names s) (messages_in es) ≡ false) → (any (earlier k s) es ≡ true → any (names s) (messages_in es) ≡ false → ⊥) → ⊥
    go (is_true z) r ih = no (either-false (eqb s m.to) (any (eqb s) m.carried) r.0).1 (both_true (ltb j k) (any (eqb s) m.carried) z).1
    go (is_false z) r ih = ih (rw z at f) r.1
carrier-names k s (destroyed j t ∷ es) f g = carrier-names k s es f g
carrier-names k s (released j t ∷ es) f g = carrier-names k s es f g

-- An entry stands at an open peer.
pub stands-held : (b : State) (q : ℕ) (e : Entry) → Noted b → Stands b.handle b.life q e → stays (b.handle q) (b.queue q) e ≡ true → (s : ℕ) × (held (b.handle q s) ≡ true)
stands-held b q (message k m) n a f = (m.to, a.1)
stands-held b q (destroyed k s) n a f = go (look (held (b.handle q s)))
  where
    go : Seen (held (b.handle q s)) → (s : ℕ) × (held (b.handle q s) ≡ true)
    go (is_true z) = (s, z)
    go (is_false z) = carrier-held b q k s (b.queue q) (n.stands q) (rw z at f)
stands-held b q (released k s) n a f = (s, rw a.1 at (n.owned s a.0))

-- "a peer never opened or disconnected has no handles and an empty queue"; nor has a number past the last peer.
pub closed-unheld : (b : State) (p : ℕ) → Noted b → (b.status p ≡ opened → ⊥) → (s : ℕ) → held (b.handle p s) ≡ false
closed-unheld b p n c s = go (look (held (b.handle p s)))
  where
    go : Seen (held (b.handle p s)) → held (b.handle p s) ≡ false
    go (is_true e) = absurd (c (n.holders p s e).0)
    go (is_false e) = e

pub past-unopened : (b : State) (p : ℕ) → Noted b → peers ≤ p → b.status p ≡ unopened
past-unopened b p n l = go (b.status p) refl
  where
    go : (x : Status) → b.status p ≡ x → b.status p ≡ unopened
    go Status.unopened e = e
    go Status.opened e = absurd (omega (arith, (n.present p (λ z. unopened-opened (sym z ∙ e))).0))
    go Status.disconnected e = absurd (omega (arith, (n.present p (λ z. let y : ◌≡◌ {A = ℕ} 0 1 = cc in absurd (omega arith))).0))

pub past-unheld : (b : State) (p : ℕ) → Noted b → peers ≤ p → (s : ℕ) → held (b.handle p s) ≡ false
past-unheld b p n l = closed-unheld b p n (λ z. unopened-opened (sym (past-unopened b p n l) ∙ z))

-- The slot that create takes.
pub free-slot : (b : State) (p : ℕ) → free_place b p < slots → counts b (p * slots + free_place b p) ≡ false
unfolding free_place
free-slot b p l = not-true (counts b (p * slots + first (λ k. not (counts b (p * slots + k))) slots)) (first_found (λ k. not (counts b (p * slots + k))) slots l)
