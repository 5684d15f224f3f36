-- Laws of the accessor of the queues: what it reads of one peer, and how a change of one peer's rows is seen.
-- Assumes nothing.
use Rattle.std.specs.Prelude.{ℕ, suc, ◌+◌, ◌*◌, ◌≤◌, ◌<◌, ◌≡◌, refl, List, [], ◌∷◌, map, length, get_or, take, drop}
use Rattle.std.proofs.Common.{sym, ap, ◌∙◌, arith, ext_get_or, get_or-take, get_or-drop}
use Rattle.laws.specs.Tests.{Same, Same.same, Same.other, same?}
use Rattle.laws.specs.Tables.{upd, upd_same, upd_other}
use Rattle.laws.specs.Build.{build, build-length, build-at}
use Rattle.laws.specs.Guards.{upto-at, upto-upd, upto-ext}
use Rattle.rings.specs.declared.Entry.{Entry as Row}
use Rattle.rings.specs.Rings.{Rings, length_of, queue_of}
use Rattle.rings.specs.Laws.{queue-length}
use Rattle.pool.specs.Pool.{area_size, bytes_of, Pair, paired, sum_of, bytes_in}
use Rattle.pool.specs.Laws.{part_length}
use Rattle.model.specs.State.{Entry}
use Rattle.view.specs.View.{entry_v, area_of, rows_v, queue_v}
use Rattle.ids.specs.Sizes.{peers}

-- An area's bytes: as many as asked for, and those of the pool where it has them.
pub area-length : (t : List ℕ) (p n : ℕ) → length (area_of t p n) ≡ n
unfolding area_of
area-length t p n = build-length (λ i. get_or t (p * area_size + i) 0) n

pub area-bytes : (t : List ℕ) (p n : ℕ) → p * area_size + n ≤ length t → area_of t p n ≡ bytes_of t p n
unfolding area_of bytes_of
area-bytes t p n h = ext_get_or 0 _ _ (build-length (λ i. get_or t (p * area_size + i) 0) n ∙ sym size) each
  where
    size : length (take n (drop (p * area_size) t)) ≡ n
    size = part_length t (p * area_size) n h

    each : (i : ℕ) → i < length (build (λ i. get_or t (p * area_size + i) 0) n) → get_or (build (λ i. get_or t (p * area_size + i) 0) n) i 0 ≡ get_or (take n (drop (p * area_size) t)) i 0
    each i l =
        let m : i < n = omega (arith, build-length (λ i. get_or t (p * area_size + i) 0) n) in
        build-at (λ i. get_or t (p * area_size + i) 0) n i 0 m ∙ sym (get_or-take n (drop (p * area_size) t) i 0 m ∙ get_or-drop (p * area_size) t i 0)

-- The queue of one of the eight peers.
pub queue-own : (r : Rings) (t : List ℕ) (p : ℕ) → p < peers → queue_v r t p ≡ map entry_v (rows_v r t p)
unfolding queue_v
queue-own r t p l = upto-at peers [] (λ p. map entry_v (rows_v r t p)) p l

-- The rows of one peer change, those of the others stay.
pub queue-upd : (r r' : Rings) (t t' : List ℕ) (p : ℕ) (new : List Entry) → p < peers → map entry_v (rows_v r' t' p) ≡ new →
    ((o : ℕ) → o < peers → (p ≡ o → ⊥) → rows_v r' t' o ≡ rows_v r t o) → queue_v r' t' ≡ upd (queue_v r t) p new
unfolding queue_v
queue-upd r r' t t' p new l own others =
    upto-ext peers [] (λ o. map entry_v (rows_v r' t' o)) (upd (λ o. map entry_v (rows_v r t o)) p new) (λ o m. go o m (same? p o))
    ∙ upto-upd peers [] (λ o. map entry_v (rows_v r t o)) p new l
  where
    go : (o : ℕ) → o < peers → Same p o → map entry_v (rows_v r' t' o) ≡ upd (λ o. map entry_v (rows_v r t o)) p new o
    go o m (same e) = rw (← e, upd_same) own
    go o m (other d) = rw (upd_other (λ o. map entry_v (rows_v r t o)) p o new d) (ap (map entry_v) (others o m d))

-- All rows stay.
pub queue-same : (r r' : Rings) (t t' : List ℕ) → ((o : ℕ) → o < peers → rows_v r' t' o ≡ rows_v r t o) → queue_v r' t' ≡ queue_v r t
unfolding queue_v
queue-same r r' t t' h = upto-ext peers [] (λ o. map entry_v (rows_v r' t' o)) (λ o. map entry_v (rows_v r t o)) (λ o l. ap (map entry_v) (h o l))

-- The rows of a peer depend on its entries and the bytes of its area.
pub rows_same : (r r' : Rings) (t t' : List ℕ) (o : ℕ) → queue_of r' o ≡ queue_of r o → area_of t' o (sum_of (queue_of r o)) ≡ area_of t o (sum_of (queue_of r o)) → rows_v r' t' o ≡ rows_v r t o
unfolding rows_v
rows_same r r' t t' o e f = rw (e, f)

-- As many entries as the queue has rows.
paired-length : (es : List Row) (l : List ℕ) → length (paired es l) ≡ length es
unfolding paired
paired-length [] l = refl
paired-length (e ∷ es) l = ap suc (paired-length es (drop (bytes_in e) l))

map-length : (xs : List Pair) → length (map entry_v xs) ≡ length xs
map-length [] = refl
map-length (x ∷ xs) = ap suc (map-length xs)

pub queue-count : (r : Rings) (t : List ℕ) (p : ℕ) → p < peers → length (queue_v r t p) ≡ length_of r.ends p
unfolding rows_v
queue-count r t p l = ap length (queue-own r t p l) ∙ map-length (rows_v r t p) ∙ paired-length (queue_of r p) (area_of t p (sum_of (queue_of r p))) ∙ queue-length r p
