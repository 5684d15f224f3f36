-- The queues of all peers in four tables: of each peer a ring of rows, in which its queue stands from its head on, oldest first.
-- Assumes nothing.
use Rattle.std.specs.Prelude.{ℕ, suc, ◌+◌, ◌*◌, ◌-◌, ◌/◌, ◌%◌, ◌^◌, ◌≡◌, refl, Bool, false, not, List, [], ◌∷◌, get_or, length, set, eqb, ltb, leb}
use Rattle.std.proofs.lemmas.List.Edits.{sets}
use Rattle.laws.specs.Tests.{pick}
use Rattle.laws.specs.Weights.{keep}
use Rattle.laws.specs.Build.{build}
use Rattle.laws.specs.Rows.{row_in}
use Rattle.rings.specs.declared.Entry.{Entry}
use Rattle.rings.specs.declared.Match.{Match}
pub use Rattle.ids.specs.Sizes.{peers, slots, ring_size, row_count, end_fields, entry_fields, carried_fields, ends_size, entries_size, carried_size, numbers_size}

-- The kinds of entry: a message (so is any other number), a destroy notice, a release notice. The code's constants stand in src/lib.rt.
abbrev pub kind_message : ℕ
kind_message = 0

abbrev pub kind_destroyed : ℕ
kind_destroyed = 1

abbrev pub kind_released : ℕ
kind_released = 2

abbrev pub kind_count : ℕ
kind_count = 3

-- The bit of each kind among those that a removal takes out; those of the notices, and all.
abbrev pub message_bit : ℕ
message_bit = 2 ^ kind_message

abbrev pub destroyed_bit : ℕ
destroyed_bit = 2 ^ kind_destroyed

abbrev pub released_bit : ℕ
released_bit = 2 ^ kind_released

abbrev pub notice_bits : ℕ
notice_bits = destroyed_bit + released_bit

abbrev pub all_bits : ℕ
all_bits = message_bit + notice_bits

pub kind-bits : (message_bit ≡ 1) × (destroyed_bit ≡ 2) × (released_bit ≡ 4) × (notice_bits ≡ 6) × (all_bits ≡ 7)
kind-bits = (refl, refl, refl, refl, refl)

-- Of a row five numbers (kind, slot, user, payload bytes, attached handles), the eight slots that it carries, and the number of the command that queued it.
pub record Rows : Type 0 where
  pub entries : List ℕ
  pub carried : List ℕ
  pub numbers : List ℕ

-- Of a peer the place of its head in its ring and the length of its queue; and the rows.
pub record Rings : Type 0 where
  pub ends : List ℕ
  pub rows : Rows

abbrev pub rows_of : List ℕ → List ℕ → List ℕ → Rows
rows_of e c n = record { entries = e; carried = c; numbers = n }

abbrev pub rings_of : List ℕ → List ℕ → List ℕ → List ℕ → Rings
rings_of d e c n = record { ends = d; rows = rows_of e c n }

-- The rings with other heads and lengths.
abbrev pub set_ends : Rings → List ℕ → Rings
set_ends q d = record { ends = d; rows = q.rows }

-- The tables of the rows have their lengths; so have the four tables of the queues.
pub record Sized (t : Rows) : Type 0 where
  pub entries : length t.entries ≡ entries_size
  pub carried : length t.carried ≡ carried_size
  pub numbers : length t.numbers ≡ numbers_size

pub record QueueTables (d e c n : List ℕ) : Type 0 where
  pub ends : length d ≡ ends_size
  pub rows : Sized (rows_of e c n)

-- The entry in a row, and a row written anew.
unfoldable pub fields_of : Entry → List ℕ
fields_of e = e.kind ∷ e.slot ∷ e.user ∷ e.nb ∷ e.nh ∷ []

abbrev pub entry_of : List ℕ → List ℕ → ℕ → Entry
entry_of l c n = record { kind = get_or l 0 0; slot = get_or l 1 0; user = get_or l 2 0; nb = get_or l 3 0; nh = get_or l 4 0; carried = c; number = n }

unfoldable pub entry_at : Rows → ℕ → Entry
entry_at t r = entry_of (row_in entry_fields t.entries r) (row_in carried_fields t.carried r) (get_or t.numbers r 0)

unfoldable pub put_at : Rows → ℕ → Entry → Rows
put_at t r e =
    record {
      entries = sets t.entries (entry_fields * r) (fields_of e);
      carried = sets t.carried (carried_fields * r) (row_in carried_fields e.carried 0);
      numbers = set t.numbers r e.number;
    }

-- The row of the i-th entry of the peer p, whose head is h; the head; the length.
abbrev pub row_of : ℕ → ℕ → ℕ → ℕ
row_of p h i = p * ring_size + (h + i) % ring_size

abbrev pub head_of : List ℕ → ℕ → ℕ
head_of d p = get_or d (p * end_fields) 0

abbrev pub length_of : List ℕ → ℕ → ℕ
length_of d p = get_or d (p * end_fields + 1) 0

-- A peer's queue, oldest first.
unfoldable pub entries_from : Rows → ℕ → ℕ → ℕ → List Entry
entries_from t p h n = build (λ i. entry_at t (row_of p h i)) n

unfoldable pub queue_of : Rings → ℕ → List Entry
queue_of q p = entries_from q.rows p (head_of q.ends p) (length_of q.ends p)

unfoldable pub first_of : Rings → ℕ → Entry
first_of q p = entry_at q.rows (row_of p (head_of q.ends p) 0)

-- An entry appended; the first one dropped: the head goes on by one; all dropped: the head stays.
unfoldable pub pushed : Rings → ℕ → Entry → Rings
pushed q p e =
    record {
      ends = set q.ends (p * end_fields + 1) (length_of q.ends p + 1);
      rows = put_at q.rows (row_of p (head_of q.ends p) (length_of q.ends p)) e;
    }

unfoldable pub popped : List ℕ → ℕ → List ℕ
popped d p = set (set d (p * end_fields) ((head_of d p + 1) % ring_size)) (p * end_fields + 1) (length_of d p - 1)

unfoldable pub cleared : List ℕ → ℕ → List ℕ
cleared d p = set d (p * end_fields + 1) 0

-- Which entries a removal takes out: by kind, each kind a bit of `kinds`,
-- and by slot, each of the slots from `first` on a bit of `mask`.
abbrev pub bit_at : ℕ → ℕ → Bool
bit_at x k = eqb (x / 2 ^ k % 2) 1

abbrev pub kind_bit : ℕ → ℕ
kind_bit k = pick (ltb k kind_count) k kind_message

unfoldable pub slot_in : ℕ → ℕ → ℕ → Bool
slot_in first mask s = pick (leb first s) (pick (ltb s (first + slots)) (bit_at mask (s - first)) false) false

abbrev pub matches_of : Match → ℕ → ℕ → Bool
matches_of m kind slot = pick (bit_at m.kinds (kind_bit kind)) (slot_in m.first m.mask slot) false

unfoldable pub matches : Match → Entry → Bool
matches m e = matches_of m e.kind e.slot

-- The match of one slot: of its owner's slots that one.
unfoldable pub one_slot : ℕ → ℕ → Match
one_slot kinds s = record { kinds = kinds; first = s / slots * slots; mask = 2 ^ (s % slots) }

unfoldable pub others : Match → List Entry → List Entry
others m es = keep (λ e. not (matches m e)) es

-- The list es stored from the i-th place of a queue on; every other row stays.
unfoldable pub stored_from : Rows → ℕ → ℕ → ℕ → List Entry → Rows
stored_from t p h i [] = t
stored_from t p h i (e ∷ es) = stored_from (put_at t (row_of p h i) e) p h (suc i) es

-- What does not match, stored over the queue; the rows behind it keep what they had.
unfoldable pub removed : Rings → ℕ → Match → Rings
removed q p m =
    record {
      ends = set q.ends (p * end_fields + 1) (length (others m (queue_of q p)));
      rows = stored_from q.rows p (head_of q.ends p) 0 (others m (queue_of q p));
    }

-- A sweep over the first entries: how many it has kept, and the rows.
pub record Swept : Type 0 where
  pub count : ℕ
  pub rows : Rows

abbrev pub swept : ℕ → Rows → Swept
swept w t = record { count = w; rows = t }

-- The i-th entry goes to the w-th place, unless it matches.
unfoldable pub kept_entry : Rows → ℕ → ℕ → ℕ → ℕ → Match → Swept
kept_entry t p h i w m =
    pick (matches m (entry_at t (row_of p h i))) (swept w t) (swept (w + 1) (put_at t (row_of p h w) (entry_at t (row_of p h i))))

unfoldable pub kept_entries : Rows → ℕ → ℕ → ℕ → Match → Swept
kept_entries t p h n m = swept (length (others m (entries_from t p h n))) (stored_from t p h 0 (others m (entries_from t p h n)))
