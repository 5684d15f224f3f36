-- What the questions about the queues answer, in the model's words: the messages that name a slot, the oldest entry, whether a receive may take it, what follows it, and what a message counts.
-- Assumes nothing.
use Rattle.std.specs.Prelude.{ℕ, zero, suc, ◌+◌, ◌*◌, min, ◌≤◌, ◌<◌, ◌≡◌, refl, Bool, true, false, List, [], ◌∷◌, map, length, get_or, take, drop, eqb, leb}
use Rattle.std.proofs.Common.{sym, ap, ap₂, ◌∙◌, arith, length-take, length-drop, length-take-le, eqb-true, ne_eqb}
use Rattle.std.proofs.lemmas.Bool.{eqb-false}
use Rattle.laws.specs.Tests.{pick, Seen, Seen.is_true, Seen.is_false, look, clash}
use Rattle.laws.specs.Weights.{All, all-imp}
use Rattle.laws.specs.Build.{build}
use Rattle.ids.specs.Refusals.{EAGAIN, ERANGE}
use Rattle.rings.specs.declared.Entry.{Entry as Row}
use Rattle.rings.specs.Rings.{kind_message, kind_destroyed, kind_released, peers, ends_size, Rings, length_of, queue_of, first_of, kind_bit}
use Rattle.rings.specs.Laws.{queue-empty, queue-eight, pop-own, after_pop}
use Rattle.rings.specs.Matches.{kind-other}
use Rattle.pool.specs.Pool.{area_size, bytes_of, piece_of, bytes_in, Pair, paired, sum_of}
use Rattle.model.specs.Lists.{either, any, any_below}
use Rattle.model.specs.State.{Message, Entry, Entry.message, Entry.destroyed, Entry.released, messages_in, names, named}
use Rattle.model.specs.Changes.{charge_of}
use Rattle.model.specs.Refusals.{takeable}
use Rattle.model.specs.Replies.{of_send}
use Rattle.model.specs.Queues.{stamp}
use Rattle.model.specs.Order.{InOrder}
use Rattle.tables.specs.Charges.{charges_at}
use Rattle.view.specs.View.{entry_v, area_of, rows_v, queue_v}
use Rattle.view.specs.Rows.{area-length, area-bytes, queue-own}
use Rattle.queues.specs.Queues.{is_message, charge_in, leads, follows_in, names_in, attached_of, carries_in, named_in}
use Rattle.ids.specs.Sizes.{most_ids, carried_fields}

-- What a row stands for, by its kind.
abbrev pub message_v : Pair → Message
message_v x = record { to = x.entry.slot; user = x.entry.user; payload = x.payload; carried = take x.entry.nh x.entry.carried }

pub data Kind (x : Pair) : Type 0 where
  is-message : is_message x.entry ≡ true → bytes_in x.entry ≡ x.entry.nb → kind_bit x.entry.kind ≡ kind_message → entry_v x ≡ message x.entry.number (message_v x) → Kind x
  is-destroyed : is_message x.entry ≡ false → bytes_in x.entry ≡ 0 → kind_bit x.entry.kind ≡ kind_destroyed → entry_v x ≡ destroyed x.entry.number x.entry.slot → Kind x
  is-released : is_message x.entry ≡ false → bytes_in x.entry ≡ 0 → kind_bit x.entry.kind ≡ kind_released → entry_v x ≡ released x.entry.number x.entry.slot → Kind x

pub kind : (x : Pair) → Kind x
unfolding entry_v is_message bytes_in
kind x = go (look (eqb x.entry.kind kind_destroyed)) (look (eqb x.entry.kind kind_released))
  where
    go : Seen (eqb x.entry.kind kind_destroyed) → Seen (eqb x.entry.kind kind_released) → Kind x
    go (is_true a) b = is-destroyed (rw a) (rw a) (ap kind_bit (eqb-true x.entry.kind kind_destroyed a)) (rw a)
    go (is_false a) (is_true b) = is-released (rw (a, b)) (rw (a, b)) (ap kind_bit (eqb-true x.entry.kind kind_released b)) (rw (a, b))
    go (is_false a) (is_false b) =
        is-message (rw (a, b)) (rw (a, b)) (kind-other x.entry.kind (eqb-false x.entry.kind kind_destroyed a) (eqb-false x.entry.kind kind_released b)) (rw (a, b))

pub stamp-view : (x : Pair) → stamp (entry_v x) ≡ x.entry.number
stamp-view x = go (kind x)
  where
    go : Kind x → stamp (entry_v x) ≡ x.entry.number
    go (is-message a b k e) = ap stamp e
    go (is-destroyed a b k e) = ap stamp e
    go (is-released a b k e) = ap stamp e

-- A message's charge, in the table's words.
pub charge-view : (x : Pair) → is_message x.entry ≡ true → length x.payload ≡ bytes_in x.entry → length x.entry.carried ≡ carried_fields →
    charge_of (message_v x) ≡ charge_in x.entry
charge-view x h size eight = go (kind x)
  where
    handles : length (take x.entry.nh x.entry.carried) ≡ min x.entry.nh most_ids
    handles = length-take x.entry.nh x.entry.carried ∙ ap (min x.entry.nh) eight

    go : Kind x → charge_of (message_v x) ≡ charge_in x.entry
    go (is-message a b k e) = rw (size, b, handles)
    go (is-destroyed a b k e) = clash (sym h ∙ a)
    go (is-released a b k e) = clash (sym h ∙ a)

pub message-view : (x : Pair) → is_message x.entry ≡ true → entry_v x ≡ message x.entry.number (message_v x)
message-view x h = go (kind x)
  where
    go : Kind x → entry_v x ≡ message x.entry.number (message_v x)
    go (is-message a b k e) = e
    go (is-destroyed a b k e) = clash (sym h ∙ a)
    go (is-released a b k e) = clash (sym h ∙ a)

-- The rows of a queue have the payloads that they say, and eight slots.
pub record Whole (x : Pair) : Type 0 where
  pub size : length x.payload ≡ bytes_in x.entry
  pub eight : length x.entry.carried ≡ carried_fields

pub paired-whole : (es : List Row) (l : List ℕ) → length l ≡ sum_of es → All (λ e. length e.carried ≡ carried_fields) es → All Whole (paired es l)
unfolding paired
paired-whole [] l h k = tt
paired-whole (e ∷ es) l h k = (
  record { size = length-take-le (bytes_in e) l (omega arith); eight = k.0 },
  paired-whole es (drop (bytes_in e) l) (simp length-drop (omega arith)) k.1,
)

pub rows_whole : (r : Rings) (t : List ℕ) (p : ℕ) → All Whole (rows_v r t p)
unfolding rows_v
rows_whole r t p = paired-whole (queue_of r p) (area_of t p (sum_of (queue_of r p))) (area-length t p (sum_of (queue_of r p))) (queue-eight r p)

-- A slot that a queued message names.
names-view : (s : ℕ) (es : List Row) (l : List ℕ) → any (names_in s) es ≡ any (names s) (messages_in (map entry_v (paired es l)))
unfolding paired names_in
names-view s [] l = refl
names-view s (e ∷ es) l = go (kind x) (names-view s es (drop (bytes_in e) l))
  where
    x : Pair
    x = record { entry = e; payload = take (bytes_in e) l }

    rest : List Entry
    rest = map entry_v (paired es (drop (bytes_in e) l))

    go : Kind x → any (names_in s) es ≡ any (names s) (messages_in rest) → any (names_in s) (e ∷ es) ≡ any (names s) (messages_in (entry_v x ∷ rest))
    go (is-message a b k f) ih = rw (a, f, ih)
    go (is-destroyed a b k f) ih = rw (a, f) ih
    go (is-released a b k f) ih = rw (a, f) ih

below-same : (f g : ℕ → Bool) (n : ℕ) → ((j : ℕ) → j < n → f j ≡ g j) → any_below f n ≡ any_below g n
below-same f g zero h = refl
below-same f g (suc n) h = ap₂ either (h n (omega arith)) (below-same f g n (λ j l. h j (omega arith)))

pub names_at : (r : Rings) (t : List ℕ) (s q : ℕ) → q < peers → any (names_in s) (queue_of r q) ≡ any (names s) (messages_in (queue_v r t q))
unfolding rows_v
names_at r t s q l =
    names-view s (queue_of r q) (area_of t q (sum_of (queue_of r q))) ∙ ap (λ (es : List Entry). any (names s) (messages_in es)) (sym (queue-own r t q l))

-- Where each queue's answer is that of all its messages, the slot is named as the model says.
pub named-view : (cs : List ℕ) (r : Rings) (t : List ℕ) (s : ℕ) → ((q : ℕ) → q < peers → eqb (attached_of (charges_at cs q)) 0 ≡ true → any (names s) (messages_in (queue_v r t q)) ≡ false) →
    named_in cs r s ≡ named (queue_v r t) s
unfolding named_in named carries_in
named-view cs r t s none =
    below-same (carries_in cs r s) (λ q. any (names s) (messages_in (queue_v r t q))) peers
    (λ q l. go q l (look (eqb (attached_of (charges_at cs q)) 0)))
  where
    go : (q : ℕ) → q < peers → Seen (eqb (attached_of (charges_at cs q)) 0) → carries_in cs r s q ≡ any (names s) (messages_in (queue_v r t q))
    go q l (is_true e) = rw e (sym (none q l e))
    go q l (is_false e) = rw e (names_at r t s q l)

-- The front of an area, and a piece of the pool from its start.
build-front : (f : ℕ → ℕ) (n k : ℕ) → take n (build f (n + k)) ≡ build f n
unfolding build
build-front f zero k = refl
build-front f (suc n) k =
    let e : suc n + k ≡ suc (n + k) = omega arith in
    ap (λ (m : ℕ). take (suc n) (build f m)) e ∙ ap (◌∷◌ (f zero)) (build-front (λ j. f (suc j)) n k)

pub area-front : (t : List ℕ) (p n k : ℕ) → take n (area_of t p (n + k)) ≡ area_of t p n
unfolding area_of
area-front t p n k = build-front (λ i. get_or t (p * area_size + i) 0) n k

pub area-piece : (t : List ℕ) (p n : ℕ) → p * area_size + n ≤ length t → area_of t p n ≡ piece_of t p 0 n
unfolding bytes_of piece_of
area-piece t p n h = let e : p * area_size ≡ p * area_size + 0 = omega arith in area-bytes t p n h ∙ ap (λ (x : ℕ). take n (drop x t)) e

-- The oldest entry, with its payload.
abbrev pub front_v : Rings → List ℕ → ℕ → Pair
front_v r t p = record { entry = first_of r p; payload = area_of t p (bytes_in (first_of r p)) }

pub rows-front : (r : Rings) (t : List ℕ) (p : ℕ) → length r.ends ≡ ends_size → p < peers → 0 < length_of r.ends p →
    rows_v r t p ≡ front_v r t p ∷ paired (queue_of (after_pop r p) p) (drop (bytes_in (first_of r p)) (area_of t p (sum_of (queue_of r p))))
unfolding rows_v paired
rows-front r t p size l some =
    let e : queue_of r p ≡ first_of r p ∷ queue_of (after_pop r p) p = pop-own r p size l some in
    let f : sum_of (queue_of r p) ≡ bytes_in (first_of r p) + sum_of (queue_of (after_pop r p) p) = ap sum_of e in
    ap (λ (es : List Row). paired es (area_of t p (sum_of (queue_of r p)))) e
    ∙ ap (λ (b : List ℕ). record { entry = first_of r p; payload = b } ∷ paired (queue_of (after_pop r p) p) (drop (bytes_in (first_of r p)) (area_of t p (sum_of (queue_of r p)))))
    (ap (λ (n : ℕ). take (bytes_in (first_of r p)) (area_of t p n)) f ∙ area-front t p (bytes_in (first_of r p)) (sum_of (queue_of (after_pop r p) p)))

pub front-view : (r : Rings) (t : List ℕ) (p : ℕ) → length r.ends ≡ ends_size → p < peers → 0 < length_of r.ends p →
    queue_v r t p ≡ entry_v (front_v r t p) ∷ drop 1 (queue_v r t p)
front-view r t p size l some =
    let e : queue_v r t p ≡ map entry_v (front_v r t p ∷ paired (queue_of (after_pop r p) p) (drop (bytes_in (first_of r p)) (area_of t p (sum_of (queue_of r p))))) =
    queue-own r t p l ∙ ap (map entry_v) (rows-front r t p size l some) in
    e ∙ ap (λ (es : List Entry). entry_v (front_v r t p) ∷ drop 1 es) (sym e)

pub front-whole : (r : Rings) (t : List ℕ) (p : ℕ) → length r.ends ≡ ends_size → p < peers → 0 < length_of r.ends p → Whole (front_v r t p)
front-whole r t p size l some = (rw (rows-front r t p size l some) at (rows_whole r t p)).0

-- No entry.
pub empty-view : (r : Rings) (t : List ℕ) (p : ℕ) → p < peers → length_of r.ends p ≡ 0 → queue_v r t p ≡ []
unfolding rows_v paired
empty-view r t p l none = queue-own r t p l ∙ ap (λ (es : List Row). map entry_v (paired es (area_of t p (sum_of (queue_of r p))))) (queue-empty r p none)

-- Whether a receive may take the oldest entry.
pub takeable-view : (r : Rings) (t : List ℕ) (p room : ℕ) → length r.ends ≡ ends_size → p < peers →
    takeable room (queue_v r t p)
    ≡ pick (eqb (length_of r.ends p) 0) EAGAIN
    (pick (is_message (first_of r p)) (pick (leb ((first_of r p).nb + 8 * min (first_of r p).nh 8) room) 0 ERANGE) 0)
takeable-view r t p room size l = go (look (eqb (length_of r.ends p) 0))
  where
    x : Pair
    x = front_v r t p

    front : Kind x → Whole x → takeable room (entry_v x ∷ drop 1 (queue_v r t p)) ≡ pick (is_message x.entry) (pick (leb (x.entry.nb + 8 * min x.entry.nh most_ids) room) 0 ERANGE) 0
    front (is-message a b k e) w =
        let f : length (take x.entry.nh x.entry.carried) ≡ min x.entry.nh most_ids = length-take x.entry.nh x.entry.carried ∙ ap (min x.entry.nh) w.eight in
        let g : length x.payload ≡ x.entry.nb = w.size ∙ b in
        rw (a, e, f, g)
    front (is-destroyed a b k e) w = rw (a, e)
    front (is-released a b k e) w = rw (a, e)

    go : Seen (eqb (length_of r.ends p) 0) → takeable room (queue_v r t p) ≡ pick (eqb (length_of r.ends p) 0) EAGAIN (pick (is_message x.entry) (pick (leb (x.entry.nb + 8 * min x.entry.nh most_ids) room) 0 ERANGE) 0)
    go (is_true z) = rw z (ap (takeable room) (empty-view r t p l (eqb-true (length_of r.ends p) 0 z)))
    go (is_false z) =
        let d : length_of r.ends p ≡ 0 → ⊥ = eqb-false (length_of r.ends p) 0 z in
        let some : 0 < length_of r.ends p = omega arith in
        rw z (ap (takeable room) (front-view r t p size l some) ∙ front (kind x) (front-whole r t p size l some))

-- Whether another message of the same send stands behind the oldest entry: numbers never fall along a queue, so those of one send stand together.
later-none : (n : ℕ) (es : List Row) (l : List ℕ) → All (λ d. n < stamp d) (map entry_v (paired es l)) → any (of_send n) (map entry_v (paired es l)) ≡ false
unfolding paired
later-none n [] l h = refl
later-none n (e ∷ es) l h = go (kind x) (later-none n es (drop (bytes_in e) l) h.1)
  where
    x : Pair
    x = record { entry = e; payload = take (bytes_in e) l }

    rest : List Entry
    rest = map entry_v (paired es (drop (bytes_in e) l))

    over : n < e.number
    over = rw (stamp-view x) at h.0

    go : Kind x → any (of_send n) rest ≡ false → any (of_send n) (entry_v x ∷ rest) ≡ false
    go (is-message a b k f) ih = rw (f, ne_eqb e.number n (λ z. absurd (omega (arith, over, z)))) ih
    go (is-destroyed a b k f) ih = rw f ih
    go (is-released a b k f) ih = rw f ih

leads-view : (n : ℕ) (es : List Row) (l : List ℕ) → InOrder (map entry_v (paired es l)) → All (λ d. n ≤ stamp d) (map entry_v (paired es l)) →
    leads n es ≡ any (of_send n) (map entry_v (paired es l))
unfolding paired leads
leads-view n [] l o h = refl
leads-view n (e ∷ es) l o h = go (look (eqb e.number n)) (kind x) (leads-view n es (drop (bytes_in e) l) o.1 h.1)
  where
    x : Pair
    x = record { entry = e; payload = take (bytes_in e) l }

    rest : List Entry
    rest = map entry_v (paired es (drop (bytes_in e) l))

    low : n ≤ e.number
    low = rw (stamp-view x) at h.0

    go : Seen (eqb e.number n) → Kind x → leads n es ≡ any (of_send n) rest →
        pick (eqb e.number n) (either (is_message e) (leads n es)) false ≡ any (of_send n) (entry_v x ∷ rest)
    go (is_true s) (is-message a b k f) ih = rw (f, s, a)
    go (is_true s) (is-destroyed a b k f) ih = rw (f, s, a) ih
    go (is_true s) (is-released a b k f) ih = rw (f, s, a) ih
    go (is_false s) m ih =
        let d : e.number ≡ n → ⊥ = eqb-false e.number n s in
        let over : n < stamp (entry_v x) = rw (stamp-view x) (omega (arith, low)) in
        rw s (sym (later-none n (e ∷ es) l (over, all-imp (λ d. stamp (entry_v x) ≤ stamp d) (λ d. n < stamp d) (λ d le. omega (arith, over, le)) rest o.0)))

pub follows-view : (r : Rings) (t : List ℕ) (p n : ℕ) → length r.ends ≡ ends_size → p < peers → 0 < length_of r.ends p → InOrder (queue_v r t p) → n ≡ (first_of r p).number →
    follows_in r p n ≡ any (of_send n) (drop 1 (queue_v r t p))
unfolding follows_in
follows-view r t p n size l some o e =
    ap (λ (es : List Row). leads n (drop 1 es)) (pop-own r p size l some)
    ∙ leads-view n behind bytes ordered.1
    (all-imp (λ d. stamp (entry_v (front_v r t p)) ≤ stamp d) (λ d. n ≤ stamp d) (λ d le. omega (arith, stamp-view (front_v r t p), e, le)) (map entry_v (paired behind bytes)) ordered.0)
    ∙ sym (ap (λ (es : List Entry). any (of_send n) (drop 1 es)) whole)
  where
    behind : List Row
    behind = queue_of (after_pop r p) p

    bytes : List ℕ
    bytes = drop (bytes_in (first_of r p)) (area_of t p (sum_of (queue_of r p)))

    whole : queue_v r t p ≡ entry_v (front_v r t p) ∷ map entry_v (paired behind bytes)
    whole = queue-own r t p l ∙ ap (map entry_v) (rows-front r t p size l some)

    ordered : InOrder (entry_v (front_v r t p) ∷ map entry_v (paired behind bytes))
    ordered = rw whole at o
