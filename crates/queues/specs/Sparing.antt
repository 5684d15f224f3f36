-- A removal that takes out no message: the charges and the payloads stay as they are.
-- Assumes nothing.
use Rattle.std.specs.Prelude.{ℕ, zero, suc, ◌+◌, ◌*◌, ◌/◌, ◌%◌, ◌^◌, ◌≤◌, ◌<◌, ◌≡◌, refl, Bool, true, false, List, [], ◌∷◌, length, get_or, take, drop}
use Rattle.std.proofs.Common.{sym, ap, ◌∙◌, arith, length-take, get_or-take, get_or-drop}
use Rattle.std.proofs.lemmas.List.Edits.{sets}
use Rattle.std.proofs.lemmas.List.{set-get_or}
use Rattle.std.proofs.Math.Seq.{take-length}
use Rattle.laws.specs.Tests.{pick_all, Seen, Seen.is_true, Seen.is_false, look, clash}
use Rattle.laws.specs.Weights.{All, all_of}
use Rattle.laws.specs.Build.{build-at}
use Rattle.laws.specs.Search.{first}
use Rattle.quota.specs.declared.Charges.{Charges}
use Rattle.quota.specs.Charges.{nothing}
use Rattle.rings.specs.declared.Entry.{Entry as Row}
use Rattle.rings.specs.declared.Match.{Match}
use Rattle.rings.specs.Rings.{kind_message, message_bit, Rings, rows_of, rings_of, entry_at, row_of, head_of, length_of, queue_of, first_of, bit_at, kind_bit, slot_in, matches}
use Rattle.rings.specs.Laws.{sets-own, queue-length, queue-at}
use Rattle.rings.specs.Search.{found_before}
use Rattle.pool.specs.Pool.{area_size, piece_of, bytes_in, Kept, kept, kept_piece, kept_pieces}
use Rattle.tables.specs.Charges.{charge_at, charges_at, put_charge, put_below, put_charges}
use Rattle.queues.specs.Queues.{is_message, lessened, lessened_all, lessened_charges}
use Rattle.queues.specs.Entering.{notice-bytes}
use Rattle.queues.specs.Asking.{Kind, Kind.is-message, Kind.is-destroyed, Kind.is-released, kind}

-- A message has the bit 0 among the kinds.
message-kind : (e : Row) → is_message e ≡ true → kind_bit e.kind ≡ kind_message
message-kind e h = go (kind (record { entry = e; payload = [] }))
  where
    go : Kind (record { entry = e; payload = [] }) → kind_bit e.kind ≡ kind_message
    go (is-message a b k f) = k
    go (is-destroyed a b k f) = clash (sym h ∙ a)
    go (is-released a b k f) = clash (sym h ∙ a)

-- If it is a message, it stays.
abbrev Spared : Match → Row → Type 0
Spared m e = is_message e ≡ true → matches m e ≡ false

-- So it is where no message's bit is set, and where no message of the slots is there.
spared-kind : (m : Match) (e : Row) → m.kinds % 2 ≡ 0 → Spared m e
unfolding matches
spared-kind m e z h = let even : m.kinds / 2 ^ 0 % 2 ≡ 0 = omega arith in rw (message-kind e h, even)

spared-slot : (m : Match) (e : Row) → matches (record { kinds = message_bit; first = m.first; mask = m.mask }) e ≡ false → Spared m e
unfolding matches
spared-slot m e f h =
    let no : slot_in m.first m.mask e.slot ≡ false = rw (message-kind e h) at f in
    rw no (pick_all (λ (x : Bool). x ≡ false) (bit_at m.kinds (kind_bit e.kind)) false false refl refl)

-- One entry and all of them: the charges.
lessened-spared : (c : Charges) (m : Match) (e : Row) → Spared m e → lessened c m e ≡ c
unfolding lessened
lessened-spared c m e s = go (look (is_message e))
  where
    go : Seen (is_message e) → lessened c m e ≡ c
    go (is_true h) = rw (h, s h)
    go (is_false h) = rw h

charges-spared : (c : Charges) (m : Match) (es : List Row) → All (Spared m) es → lessened_all c m es ≡ c
unfolding lessened_all
charges-spared c m [] s = refl
charges-spared c m (e ∷ es) s = rw (lessened-spared c m e s.0) (charges-spared c m es s.1)

-- What was loaded, stored again, leaves the table.
put-loaded : (t : List ℕ) (k : ℕ) → put_charge t k (charge_at t k) ≡ t
unfolding put_charge
put-loaded t k = rw (set-get_or t (3 * k) 0, set-get_or t (3 * k + 1) 0, set-get_or t (3 * k + 2) 0)

below-loaded : (t : List ℕ) (p n : ℕ) → n ≤ 4 → put_below t p (charges_at t p) n ≡ t
unfolding put_below charges_at
below-loaded t p zero l = refl
below-loaded t p (suc n) l =
    rw (below-loaded t p n (omega arith), build-at (λ u. charge_at t (4 * p + u)) 4 n nothing (omega arith)) (put-loaded t (4 * p + n))

charges-loaded : (t : List ℕ) (p : ℕ) → put_charges t p (charges_at t p) ≡ t
unfolding put_charges
charges-loaded t p = below-loaded t p 4 (omega arith)

-- The payloads: each moves onto its own place.
piece-own : (t : List ℕ) (p r n : ℕ) → sets t (p * area_size + r) (piece_of t p r n) ≡ t
unfolding piece_of
piece-own t p r n = sets-own t (p * area_size + r) (take n (drop (p * area_size + r) t)) each
  where
    each : (k : ℕ) → k < length (take n (drop (p * area_size + r) t)) → get_or (take n (drop (p * area_size + r) t)) k 0 ≡ get_or t (p * area_size + r + k) 0
    each k l =
        let lt : k < n = omega (arith, length-take n (drop (p * area_size + r) t)) in
        get_or-take n (drop (p * area_size + r) t) k 0 lt ∙ get_or-drop (p * area_size + r) t k 0

piece-spared : (t : List ℕ) (p r : ℕ) (m : Match) (e : Row) → Spared m e → kept_piece t p r r m e ≡ kept (r + bytes_in e) t
unfolding kept_piece
piece-spared t p r m e s = go (look (matches m e)) (look (is_message e))
  where
    go : Seen (matches m e) → Seen (is_message e) → kept_piece t p r r m e ≡ kept (r + bytes_in e) t
    go (is_false f) b = rw (f, piece-own t p r (bytes_in e))
    go (is_true f) (is_true b) = clash (sym f ∙ s b)
    go (is_true f) (is_false b) = let z : r + bytes_in e ≡ r = omega (arith, notice-bytes e b) in rw (f, z)

pieces-spared : (t : List ℕ) (p r : ℕ) (m : Match) (es : List Row) → All (Spared m) es → (kept_pieces t p r r m es).table ≡ t
unfolding kept_pieces
pieces-spared t p r m [] s = refl
pieces-spared t p r m (e ∷ es) s =
    ap (λ (x : Kept). (kept_pieces x.table p (r + bytes_in e) x.place m es).table) (piece-spared t p r m e s.0) ∙ pieces-spared t p (r + bytes_in e) m es s.1

-- A fact of every place of a queue is one of every entry.
all-queue : (P : Row → Type 0) (g : Rings) (p : ℕ) → ((i : ℕ) → i < length_of g.ends p → P (entry_at g.rows (row_of p (head_of g.ends p) i))) → All P (queue_of g p)
all-queue P g p h =
    rw take-length at
    (all_of P (queue_of g p) (length (queue_of g p)) (first_of g p)
    (λ j l. let lt : j < length_of g.ends p = omega (arith, queue-length g p) in rw (queue-at g p j (first_of g p) lt) (h j lt)))

-- remove_messages, by its returns without a store.
module _ (g : Rings) (t pool : List ℕ) (p : ℕ) (m : Match) where
  both-stay : All (Spared m) (queue_of g p) → (t ≡ lessened_charges t p m (queue_of g p)) × (pool ≡ (kept_pieces pool p 0 0 m (queue_of g p)).table)
  both-stay s =
      (sym (ap (put_charges t p) (charges-spared (charges_at t p) m (queue_of g p) s) ∙ charges-loaded t p), sym (pieces-spared pool p 0 m (queue_of g p) s))

  pub messages-no-kind : m.kinds % 2 ≡ 0 → (t ≡ lessened_charges t p m (queue_of g p)) × (pool ≡ (kept_pieces pool p 0 0 m (queue_of g p)).table)
  messages-no-kind z = both-stay (all-queue (Spared m) g p (λ i l. spared-kind m (entry_at g.rows (row_of p (head_of g.ends p) i)) z))

module _ (d e c n : List ℕ) (t pool : List ℕ) (p : ℕ) (m : Match) where
  pub messages-none : {h k f : ℕ} → h ≡ head_of d p → k ≡ length_of d p →
      ((c n : List ℕ) → f ≡ first (λ i. matches (record { kinds = message_bit; first = m.first; mask = m.mask }) (entry_at (rows_of e c n) (row_of p h i))) k) → f ≡ k →
      (t ≡ lessened_charges t p m (queue_of (rings_of d e c n) p)) × (pool ≡ (kept_pieces pool p 0 0 m (queue_of (rings_of d e c n) p)).table)
  messages-none {h} {k} eh ek ef all =
      both-stay (rings_of d e c n) t pool p m
      (all-queue (Spared m) (rings_of d e c n) p
      (λ i l.
      rw (← eh)
      (spared-slot m (entry_at (rows_of e c n) (row_of p h i))
      (found_before e c n p h k (record { kinds = message_bit; first = m.first; mask = m.mask }) ef i (omega arith)))))
