-- A removal over the payloads, entry by entry: what is left to do gives what the whole gives.
-- Assumes nothing.
use Rattle.std.specs.Prelude.{ℕ, suc, ◌+◌, ◌*◌, ◌≤◌, ◌<◌, ◌≡◌, refl, Bool, true, false, List, [], ◌∷◌, length, take, drop, leb}
use Rattle.std.proofs.Common.{sym, ap, ◌∙◌, arith, drop-cons, le-leb, eq-eqb, ne_eqb}
use Rattle.std.proofs.lemmas.List.Edits.{sets}
use Rattle.std.proofs.Math.Seq.{length-sets, drop-length}
use Rattle.laws.specs.Tests.{pick}
use Rattle.rings.specs.declared.Entry.{Entry}
use Rattle.rings.specs.declared.Match.{Match}
use Rattle.rings.specs.Rings.{kind_destroyed, kind_released, Rings, queue_of, length_of, head_of, entry_at, row_of, matches}
use Rattle.rings.specs.Laws.{queue-length, queue-at}
use Rattle.pool.specs.Pool.{area_size, piece_of, bytes_in, Kept, kept, kept_piece, kept_pieces}

-- After i entries of the queue q.
pub record Moving (t₀ : List ℕ) (p : ℕ) (m : Match) (q : List Entry) (t : List ℕ) (r k i : ℕ) : Type 0 where
  pub within : i ≤ length q
  pub low : k ≤ r
  pub small : r ≤ i * 65535
  pub size : length t ≡ length t₀
  pub rest : kept_pieces t p r k m (drop i q) ≡ kept_pieces t₀ p 0 0 m q

pub moving-start : (t₀ : List ℕ) (p : ℕ) (m : Match) (q : List Entry) → Moving t₀ p m q t₀ 0 0 0
moving-start t₀ p m q = record { within = omega arith; low = omega arith; small = omega arith; size = refl; rest = refl }

piece-low : (t : List ℕ) (p r k : ℕ) (m : Match) (e : Entry) → k ≤ r → (kept_piece t p r k m e).place ≤ r + bytes_in e
unfolding kept_piece
piece-low t p r k m e h = go (matches m e)
  where
    go : (s : Bool) → (pick s (kept k t) (kept (k + bytes_in e) (sets t (p * area_size + k) (piece_of t p r (bytes_in e))))).place ≤ r + bytes_in e
    go true = omega arith
    go false = omega arith

piece-size : (t : List ℕ) (p r k : ℕ) (m : Match) (e : Entry) → length (kept_piece t p r k m e).table ≡ length t
unfolding kept_piece
piece-size t p r k m e = go (matches m e)
  where
    go : (s : Bool) → length (pick s (kept k t) (kept (k + bytes_in e) (sets t (p * area_size + k) (piece_of t p r (bytes_in e))))).table ≡ length t
    go true = refl
    go false = length-sets t (p * area_size + k) (piece_of t p r (bytes_in e))

pub moving-next : {t₀ : List ℕ} {p : ℕ} {m : Match} (g : Rings) {t : List ℕ} {r k i : ℕ} → Moving t₀ p m (queue_of g p) t r k i → i < length_of g.ends p →
    {e : Entry} → e ≡ entry_at g.rows (row_of p (head_of g.ends p) i) → {w : ℕ} {t' : List ℕ} → kept w t' ≡ kept_piece t p r k m e → {n : ℕ} → n ≡ bytes_in e → n < 65536 →
    Moving t₀ p m (queue_of g p) t' (r + n) w (i + 1)
unfolding kept_pieces
moving-next {t₀} {p} {m} g {t} {r} {k} {i} s lt {e} same {w} {t'} eq {n} size small =
    record { within = omega (arith, queue-length g p); low = rw (place, size) (piece-low t p r k m e s.low); small = omega (arith, s.small); size = ap length table ∙ piece-size t p r k m e ∙ s.size; rest = on ∙ s.rest }
  where
    place : w ≡ (kept_piece t p r k m e).place
    place = ap (λ (x : Kept). x.place) eq

    table : t' ≡ (kept_piece t p r k m e).table
    table = ap (λ (x : Kept). x.table) eq

    next : drop i (queue_of g p) ≡ e ∷ drop (suc i) (queue_of g p)
    next = drop-cons (queue_of g p) i e (omega (arith, queue-length g p)) ∙ ap (λ (x : Entry). x ∷ drop (suc i) (queue_of g p)) (queue-at g p i e lt ∙ sym same)

    on : kept_pieces t' p (r + n) w m (drop (i + 1) (queue_of g p)) ≡ kept_pieces t p r k m (drop i (queue_of g p))
    on = let step : i + 1 ≡ suc i = omega arith in rw (step, next, table, place, size) refl

pub moving-done : {t₀ : List ℕ} {p : ℕ} {m : Match} (g : Rings) {t : List ℕ} {r k i : ℕ} → Moving t₀ p m (queue_of g p) t r k i → length_of g.ends p ≤ i →
    kept k t ≡ kept_pieces t₀ p 0 0 m (queue_of g p)
unfolding kept_pieces
moving-done {t₀} {p} {m} g {t} {r} {k} {i} s h =
    let e : i ≡ length (queue_of g p) = omega (arith, s.within, queue-length g p) in
    let none : drop i (queue_of g p) ≡ [] = rw e (drop-length (queue_of g p)) in
    ap (kept_pieces t p r k m) (sym none) ∙ s.rest

-- What the functions give, in their own terms.
pub moving-turn : {t₀ : List ℕ} {p : ℕ} {m : Match} (g : Rings) {t : List ℕ} {r k i : ℕ} → Moving t₀ p m (queue_of g p) t r k i →
    {h n row : ℕ} → h ≡ head_of g.ends p → n ≡ length_of g.ends p → i < n → row ≡ row_of p h i →
    {e : Entry} → e ≡ entry_at g.rows row → {w : ℕ} {t' : List ℕ} → kept w t' ≡ kept_piece t p r k m e → {x : ℕ} → x ≡ bytes_in e → x < 65536 →
    Moving t₀ p m (queue_of g p) t' (r + x) w (i + 1)
moving-turn {t₀} {p} g {i = i} s head len lt at same eq size small =
    moving-next g s (omega arith) (same ∙ ap (entry_at g.rows) (at ∙ ap (λ (y : ℕ). row_of p y i) head)) eq size small

pub bytes-destroyed : (e : Entry) → e.kind ≡ kind_destroyed → 0 ≡ bytes_in e
unfolding bytes_in
bytes-destroyed e h = rw (eq-eqb e.kind kind_destroyed h) refl

pub bytes-released : (e : Entry) → (e.kind ≡ kind_destroyed → ⊥) → e.kind ≡ kind_released → 0 ≡ bytes_in e
unfolding bytes_in
bytes-released e n h = rw (ne_eqb e.kind kind_destroyed n, eq-eqb e.kind kind_released h) refl

pub bytes-message : (e : Entry) → (e.kind ≡ kind_destroyed → ⊥) → (e.kind ≡ kind_released → ⊥) → e.nb ≡ bytes_in e
unfolding bytes_in
bytes-message e n h = rw (ne_eqb e.kind kind_destroyed n, ne_eqb e.kind kind_released h) refl

pub piece-out : (t : List ℕ) (p r k : ℕ) (m : Match) (e : Entry) → matches m e ≡ true → kept k t ≡ kept_piece t p r k m e
unfolding kept_piece
piece-out t p r k m e h = rw h refl

pub piece-moved : (t l : List ℕ) (p r k n : ℕ) (m : Match) (e : Entry) → matches m e ≡ false → n ≡ bytes_in e → k ≤ r →
    l ≡ pick (leb (p * area_size + k) (p * area_size + r)) (sets t (p * area_size + k) (take n (drop (p * area_size + r) t))) t → kept (k + n) l ≡ kept_piece t p r k m e
unfolding kept_piece piece_of
piece-moved t l p r k n m e h size low eq = rw (h, ← size) (ap (kept (k + n)) (eq ∙ down))
  where
    down : pick (leb (p * area_size + k) (p * area_size + r)) (sets t (p * area_size + k) (take n (drop (p * area_size + r) t))) t ≡ sets t (p * area_size + k) (take n (drop (p * area_size + r) t))
    down = rw (le-leb (p * area_size + k) (p * area_size + r) (omega arith))
