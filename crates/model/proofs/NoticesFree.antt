-- The theorems that go with specs/NoticesFree.antt and stand on others: each goes by the definitions and the theorems there.
-- Assumes nothing.
use Rattle.model.specs.Founded.{Founded}
use Rattle.model.specs.Changes.{stays}
use Rattle.std.specs.Prelude.{ℕ, ◌+◌, ◌*◌, ◌≤◌, ◌<◌, ◌≡◌, refl, true, false, List, [], ◌∷◌, eqb, ltb}
use Rattle.std.proofs.Common.{sym, ◌∙◌, eqb-true, ltb-true, ltb-false}
use Rattle.laws.specs.Tests.{Seen, Seen.is_true, Seen.is_false, look}
use Rattle.laws.specs.Weights.{All}
use Rattle.model.specs.Numbers.{peers, slots}
use Rattle.model.specs.Lists.{either, any}
use Rattle.model.specs.State.{Status.opened, is_live, held, Entry, Entry.message, Entry.destroyed, Entry.released, messages_in, State, held_by_any, names, named, seeded, counts, free_place}
use Rattle.model.specs.Notices.{Stands, Noted, mentions, Unnamed}
use Rattle.model.specs.Occurs.{no, either-false, any_below_lem}
use Rattle.model.specs.NoticesEnds.{unopened-opened}
use Rattle.model.specs.NoticesFree.{holder-peer, carrier-names, stands-held, past-unopened, free-slot}

-- A queue of which no entry can stand.
pub quiet : (b : State) (q : ℕ) → Noted b → Founded b → ((s : ℕ) → held (b.handle q s) ≡ true → ⊥) → b.queue q ≡ []
quiet b q n d h = go (b.queue q) (n.stands q) (d q)
  where
    go : (x : List Entry) → All (Stands b.handle b.life q) x → All (λ e. stays (b.handle q) (b.queue q) e ≡ true) x → x ≡ []
    go [] a f = refl
    go (e ∷ x) a f = let z = stands-held b q e n a.0 f.0 in absurd (h z.0 z.1)

pub closed-empty : (b : State) (p : ℕ) → Noted b → Founded b → (b.status p ≡ opened → ⊥) → b.queue p ≡ []
closed-empty b p n d c = quiet b p n d (λ s e. c (n.holders p s e).0)

pub past-empty : (b : State) (p : ℕ) → Noted b → Founded b → peers ≤ p → b.queue p ≡ []
past-empty b p n d l = closed-empty b p n d (λ z. unopened-opened (sym (past-unopened b p n l) ∙ z))

-- A slot that does not count.
pub free-unnamed : (b : State) (s : ℕ) → Noted b → Founded b → counts b s ≡ false → Unnamed b s
unfolding counts held_by_any named
free-unnamed b s n d e = record { dead = x.0; unheld = un; unqueued = λ q. go q (look (ltb q peers)); unseeded = w.1 }
  where
    x : (is_live (b.life s) ≡ false) × (either (held_by_any b.handle s) (either (named b.queue s) (seeded b.seed s)) ≡ false)
    x = either-false (is_live (b.life s)) (either (held_by_any b.handle s) (either (named b.queue s) (seeded b.seed s))) e

    y : (held_by_any b.handle s ≡ false) × (either (named b.queue s) (seeded b.seed s) ≡ false)
    y = either-false (held_by_any b.handle s) (either (named b.queue s) (seeded b.seed s)) x.1

    w : (named b.queue s ≡ false) × (seeded b.seed s ≡ false)
    w = either-false (named b.queue s) (seeded b.seed s) y.1

    un : (p : ℕ) → held (b.handle p s) ≡ false
    un p = at (look (held (b.handle p s)))
      where
        at : Seen (held (b.handle p s)) → held (b.handle p s) ≡ false
        at (is_false z) = z
        at (is_true z) = any_below_lem (λ q. held (b.handle q s)) peers p (holder-peer b p s n z) y.0

    each : (q : ℕ) (xs : List Entry) → any (names s) (messages_in (b.queue q)) ≡ false → any (names s) (messages_in xs) ≡ false → All (Stands b.handle b.life q) xs → All (λ e. stays (b.handle q) (b.queue q) e ≡ true) xs → All (λ z. mentions s z ≡ false) xs
    each q [] w f a c = tt
    each q (message k m ∷ xs) w f a c = let r = either-false (names s m) (any (names s) (messages_in xs)) f in (r.0, each q xs w r.1 a.1 c.1)
    each q (destroyed k t ∷ xs) w f a c = (on (look (eqb s t)), each q xs w f a.1 c.1)
      where
        on : Seen (eqb s t) → eqb s t ≡ false
        on (is_false z) = z
        on (is_true z) = absurd (carrier-names k s (b.queue q) (rw (un q) at (rw (← eqb-true s t z) at c.0)) w)
    each q (released k t ∷ xs) w f a c = (on (look (eqb s t)), each q xs w f a.1 c.1)
      where
        on : Seen (eqb s t) → eqb s t ≡ false
        on (is_false z) = z
        on (is_true z) = no x.0 (rw (← eqb-true s t z) at a.0.0)

    go : (q : ℕ) → Seen (ltb q peers) → All (λ z. mentions s z ≡ false) (b.queue q)
    go q (is_true z) = let f = any_below_lem (λ q. any (names s) (messages_in (b.queue q))) peers q (ltb-true q peers z) w.0 in each q (b.queue q) f f (n.stands q) (d q)
    go q (is_false z) = rw (past-empty b q n d (ltb-false q peers z)) tt

pub created-unnamed : (b : State) (p : ℕ) → Noted b → Founded b → free_place b p < slots → Unnamed b (p * slots + free_place b p)
created-unnamed b p n d l = free-unnamed b (p * slots + free_place b p) n d (free-slot b p l)
