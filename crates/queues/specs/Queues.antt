-- What the functions of the queues do to the rings, the pool and the table of charges.
-- Assumes nothing.
use Rattle.std.specs.Prelude.{ℕ, min, ◌≤◌, ◌<◌, ◌≡◌, Bool, false, not, List, [], ◌∷◌, length, get_or, take, drop, eqb, ltb, leb}
use Rattle.laws.specs.Tests.{pick}
use Rattle.laws.specs.Sums.{sum_to}
use Rattle.ids.specs.declared.User.{User}
use Rattle.quota.specs.declared.Charge.{Charge}
use Rattle.quota.specs.declared.Charges.{Charges}
use Rattle.quota.specs.Charges.{users, nothing, fresh_charges, charged, discharged}
use Rattle.rings.specs.declared.Entry.{Entry}
use Rattle.rings.specs.declared.Match.{Match}
use Rattle.ids.specs.Sizes.{most_ids}
use Rattle.rings.specs.Rings.{peers, ring_size, ends_size, kind_destroyed, kind_released, Rings, rings_of, set_ends, Sized, length_of, queue_of, matches, pushed, popped, removed}
use Rattle.rings.specs.Rings.{cleared as cleared_ends}
use Rattle.pool.specs.Pool.{area_size, pool_size, appended, closed, kept_pieces}
use Rattle.tables.specs.Charges.{charges_size, charges_at, put_charges}
use Rattle.view.specs.View.{Bus, set_charges, set_rings, set_pool, Shape, shape-charges, shape-rings, shape-pool}
use Rattle.model.specs.Lists.{either, any, any_below}

-- The queues with what belongs to their messages: the users' charges and the payloads.
pub record Queues : Type 0 where
  pub charges : List ℕ
  pub rings : Rings
  pub pool : List ℕ

abbrev pub queues_of : List ℕ → List ℕ → List ℕ → List ℕ → List ℕ → List ℕ → Queues
queues_of charges ends entries carried numbers pool = record { charges = charges; rings = rings_of ends entries carried numbers; pool = pool }

-- The queues of a bus with what belongs to their messages; and a bus whose queues have changed.
abbrev pub queues_in : Bus → Queues
queues_in b = record { charges = b.charges; rings = b.rings; pool = b.pool }

abbrev pub set_queues : Bus → Queues → Bus
set_queues b q = set_pool (set_rings (set_charges b q.charges) q.rings) q.pool

-- The buffers keep their lengths.
pub shape-queues : {b : Bus} {q : Queues} → Shape b → length q.charges ≡ charges_size → length q.rings.ends ≡ ends_size → Sized q.rings.rows → length q.pool ≡ pool_size →
    Shape (set_queues b q)
shape-queues s c e r t = shape-pool (shape-rings (shape-charges s c) e r) t

-- The queues with other rings, with other charges.
abbrev pub set_queued : Queues → Rings → Queues
set_queued q r = record { charges = q.charges; rings = r; pool = q.pool }

abbrev pub set_charged : Queues → List ℕ → Queues
set_charged q t = record { charges = t; rings = q.rings; pool = q.pool }

-- No queue is longer than its ring.
abbrev pub Short : List ℕ → Type 0
Short ends = (q : ℕ) → q < peers → length_of ends q ≤ ring_size

-- The sum over the users of what each has queued at a peer, of one resource.
abbrev pub sum_users : (Charge → ℕ) → Charges → ℕ
sum_users f c = sum_to (λ u. f (get_or c.by u nothing)) users

-- The payload bytes that a peer's area uses: the sum of what its users have queued there, at most the area.
unfoldable pub used_of : Charges → ℕ
used_of c =
    min (sum_users (λ x. x.bytes) c) area_size

-- A kind that is no notice's is a message's.
abbrev pub message_kind : ℕ → Bool
message_kind k = pick (eqb k kind_destroyed) false (not (eqb k kind_released))

unfoldable pub is_message : Entry → Bool
is_message e = message_kind e.kind

-- What a message counts, of the eight slots of its row at most eight handles, and whom it is counted under.
abbrev pub charge_in : Entry → Charge
charge_in e = record { messages = 1; bytes = e.nb; handles = min e.nh most_ids }

abbrev pub user_in : Entry → User
user_in e = record { 0 = e.user }

-- An entry appended; to a full queue, nothing.
unfoldable pub entered : Rings → ℕ → Entry → Rings
entered r p e = pick (ltb (length_of r.ends p) ring_size) (pushed r p e) r

-- A message appended with its payload, and charged.
unfoldable pub enqueued : Queues → ℕ → Entry → List ℕ → Queues
enqueued q p e bytes =
    record {
      charges = put_charges q.charges p (charged (charges_at q.charges p) (user_in e) (charge_in e));
      rings = entered q.rings p e;
      pool = appended q.pool p (used_of (charges_at q.charges p)) bytes;
    }

-- The charge of a message taken off; the payload of the oldest message taken out of the pool.
unfoldable pub settled_charges : List ℕ → ℕ → Entry → List ℕ
settled_charges t p e = put_charges t p (discharged (charges_at t p) (user_in e) (charge_in e))

unfoldable pub settled_pool : List ℕ → List ℕ → ℕ → Entry → List ℕ
settled_pool t pool p e = closed pool p 0 (min e.nb (used_of (charges_at t p))) (used_of (charges_at t p))

-- The oldest entry taken out of a queue: a message with its payload and its charge, a notice alone.
unfoldable pub taken_out : Queues → ℕ → Entry → Queues
taken_out q p e =
    let after = set_ends q.rings (popped q.rings.ends p) in
    pick (is_message e)
    (record { charges = settled_charges q.charges p e; rings = after; pool = settled_pool q.charges q.pool p e })
    (set_queued q after)

-- The charges after a message that a removal takes out; after all those of some entries.
unfoldable pub lessened : Charges → Match → Entry → Charges
lessened c m e = pick (is_message e) (pick (matches m e) (discharged c (user_in e) (charge_in e)) c) c

unfoldable pub lessened_all : Charges → Match → List Entry → Charges
lessened_all c m [] = c
lessened_all c m (e ∷ es) = lessened_all (lessened c m e) m es

-- The same in the table, for a peer with these entries.
abbrev pub lessened_charges : List ℕ → ℕ → Match → List Entry → List ℕ
lessened_charges t p m es = put_charges t p (lessened_all (charges_at t p) m es)

-- What matches is taken out of a queue: no payload and no charge with it; with both.
unfoldable pub withdrawn : Rings → ℕ → Match → Rings
withdrawn r p m = pick (leb (length_of r.ends p) ring_size) (removed r p m) r

unfoldable pub removed_from : Queues → ℕ → Match → Queues
removed_from q p m =
    pick (leb (length_of q.rings.ends p) ring_size)
    (record {
      charges = lessened_charges q.charges p m (queue_of q.rings p);
      rings = removed q.rings p m;
      pool = (kept_pieces q.pool p 0 0 m (queue_of q.rings p)).table;
    })
    q

-- All entries dropped, with their charges; the payloads are those of no message then.
unfoldable pub emptied_charges : List ℕ → ℕ → List ℕ
emptied_charges t p = put_charges t p fresh_charges

unfoldable pub emptied : Queues → ℕ → Queues
emptied q p =
    set_charged (set_queued q (set_ends q.rings (cleared_ends q.rings.ends p))) (emptied_charges q.charges p)

-- Of the entries from the front that the command n queued, is one a message?
unfoldable pub leads : ℕ → List Entry → Bool
leads n [] = false
leads n (e ∷ es) = pick (eqb e.number n) (either (is_message e) (leads n es)) false

-- Behind the oldest entry of a queue.
unfoldable pub follows_in : Rings → ℕ → ℕ → Bool
follows_in r p n = leads n (drop 1 (queue_of r p))

-- A message names a slot, as destination or attached.
unfoldable pub names_in : ℕ → Entry → Bool
names_in s e = pick (is_message e) (either (eqb s e.slot) (any (eqb s) (take e.nh e.carried))) false

-- The attached handles that are queued at a peer: the sum of what its users have there.
unfoldable pub attached_of : Charges → ℕ
attached_of c = sum_users (λ x. x.handles) c

-- A message in a queue with attached handles names a slot.
unfoldable pub carries_in : List ℕ → Rings → ℕ → ℕ → Bool
carries_in cs r s q = pick (eqb (attached_of (charges_at cs q)) 0) false (any (names_in s) (queue_of r q))

-- One of any peer does. On a bus of a run this is "a queued message names it", of a slot that nobody holds: a message for a node stands only where its owner holds it.
unfoldable pub named_in : List ℕ → Rings → ℕ → Bool
named_in cs r s = any_below (carries_in cs r s) peers

-- "an earlier queued message that carries the node": a message that was queued before the command n has the slot attached.
unfoldable pub brings_in : ℕ → ℕ → Entry → Bool
brings_in n s e = pick (is_message e) (pick (ltb e.number n) (any (eqb s) (take e.nh e.carried)) false) false

-- One in a peer's queue does. A queue without attached handles has none, and one longer than its ring is not looked through.
unfoldable pub carried_before : List ℕ → Rings → ℕ → ℕ → ℕ → Bool
carried_before cs r s n p =
    let found = pick (eqb (attached_of (charges_at cs p)) 0) false (any (brings_in n s) (queue_of r p)) in
    pick (leb (length_of r.ends p) ring_size) found false
