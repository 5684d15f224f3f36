-- What each order does to the tables, in the order in which the code does it. The command is counted first.
-- Assumes nothing.
use Rattle.std.specs.Prelude.{ℕ, zero, suc, ◌+◌, ◌-◌, ◌/◌, ◌%◌, min, Bool, false, List, [], length, get_or, take, eqb}
use Rattle.laws.specs.Tests.{pick}
use Rattle.ids.specs.declared.HandleId.{HandleId}
use Rattle.frames.specs.declared.Sizes.{Sizes}
use Rattle.answers.specs.declared.Answer.{Answer}
use Rattle.answers.specs.declared.Answer.TheVariants.{Received as is_received}
use Rattle.answers.specs.declared.Received.TheVariants.{Message, Destroyed, Released, Seed}
use Rattle.answers.specs.declared.Outcome.{Outcome}
use Rattle.answers.specs.Answer.{answer_after, outcome_of}
use Rattle.rings.specs.declared.Entry.{Entry}
use Rattle.rings.specs.Rings.{kind_message, kind_destroyed, kind_released, message_bit, released_bit, all_bits, slots, Rings, set_ends, popped, first_of, cleared, one_slot}
use Rattle.pool.specs.Pool.{piece_of}
use Rattle.tables.specs.Peers.{accepted_at, user_at, count_command, set_open, set_disconnected}
use Rattle.tables.specs.Nodes.{live_at, set_live}
use Rattle.tables.specs.Handles.{count_at, total_at, put_handle, reduced, clear_peer}
use Rattle.tables.specs.Charges.{charges_at}
use Rattle.quota.specs.Charges.{users}
use Rattle.queues.specs.Queues.{Queues, used_of, is_message, attached_of, entered, enqueued, settled_charges, settled_pool, removed_from, emptied_charges, follows_in, set_queued}
use Rattle.judges.specs.declared.Places.{Places}
use Rattle.notices.specs.declared.Asked.TheVariants.{Living}
use Rattle.notices.specs.Notices.{notice_of, set_of, destroyed_set, told_owners, expired, expired_shown, expired_all}
use Rattle.grants.specs.Grants.{Given, given_to, gives_to, id_or_invalid}
use Rattle.ids.specs.Sizes.{peers, most_ids}
use Rattle.model.specs.Numbers.{nodes, invalid}
use Rattle.seeds.specs.Seeds.{bytes_at, slots_at, piece_at, stored}
use Rattle.seeds.specs.Seeds.{count_at as carried_at}

-- A command is counted: its number, and the table of peers.
pub record Counted : Type 0 where
  pub number : ℕ
  pub peers : List ℕ

abbrev pub counted_of : ℕ → List ℕ → Counted
counted_of n ps = record { number = n; peers = ps }

unfoldable pub counted : List ℕ → Counted
counted ps = counted_of (accepted_at (count_command ps)) (count_command ps)

-- Open.
unfoldable pub opened_peers : List ℕ → ℕ → ℕ → List ℕ
opened_peers ps p u = set_open (count_command ps) p u

-- Create.
pub record Created : Type 0 where
  pub peers : List ℕ
  pub nodes : List ℕ
  pub handles : List ℕ

abbrev pub created_of : List ℕ → List ℕ → List ℕ → Created
created_of ps ns hs = record { peers = ps; nodes = ns; handles = hs }

unfoldable pub created : List ℕ → List ℕ → List ℕ → ℕ → ℕ → ℕ → Created
created ps ns hs p i s = created_of (count_command ps) (set_live ns s) (put_handle hs p s i 1)

-- Destroy.
pub record Destroys : Type 0 where
  pub peers : List ℕ
  pub nodes : List ℕ
  pub rings : Rings

abbrev pub destroys_of : List ℕ → List ℕ → Rings → Destroys
destroys_of ps ns r = record { peers = ps; nodes = ns; rings = r }

unfoldable pub destroys : List ℕ → List ℕ → List ℕ → List ℕ → Rings → ℕ → ℕ → Destroys
destroys ps ns hs cs r p s =
    let d = destroyed_set ns hs cs r p (one_slot released_bit s).mask (counted ps).number in
    destroys_of (counted ps).peers d.nodes d.rings

-- Release: one reference less; at 0 the destroy notice goes that nothing keeps, with the owner's handle the messages for the node, and what they alone kept; then the notice at the owner.
pub record Dropped : Type 0 where
  pub left : ℕ
  pub handles : List ℕ

abbrev pub dropped_of : ℕ → List ℕ → Dropped
dropped_of c hs = record { left = c; handles = hs }

unfoldable pub dropped : List ℕ → ℕ → ℕ → Dropped
dropped hs p s = dropped_of (count_at hs p s - 1) (reduced hs p s)

-- The owner's handle is gone: in a queue without attached handles every notice about the node goes with the messages for it.
unfoldable pub forgotten_own : List ℕ → List ℕ → Queues → ℕ → ℕ → Queues
forgotten_own ns hs q p s =
    let a = removed_from q p (one_slot (message_bit + released_bit) s) in
    pick (eqb (attached_of (charges_at q.charges p)) 0)
    (removed_from q p (one_slot all_bits s))
    (set_queued a (expired_all ns hs a.charges p a.rings))

unfoldable pub forgotten : List ℕ → List ℕ → Queues → ℕ → ℕ → Queues
forgotten ns hs q p s = pick (eqb (s / slots) p) (forgotten_own ns hs q p s) (set_queued q (expired ns hs q.charges p q.rings s))

unfoldable pub notified : List ℕ → List ℕ → Rings → ℕ → ℕ → Rings
notified ns hs r s n = pick (live_at ns s) (pick (eqb (total_at hs s) 1) (entered r (s / slots) (notice_of kind_released s n)) r) r

pub record Releases : Type 0 where
  pub peers : List ℕ
  pub handles : List ℕ
  pub queues : Queues

abbrev pub releases_of : List ℕ → List ℕ → Queues → Releases
releases_of ps hs q = record { peers = ps; handles = hs; queues = q }

-- The queues after the reference is dropped.
unfoldable pub left_behind : List ℕ → List ℕ → Queues → ℕ → ℕ → Queues
left_behind ns hs q p s = pick (eqb (dropped hs p s).left 0) (forgotten ns (dropped hs p s).handles q p s) q

unfoldable pub releases : List ℕ → List ℕ → List ℕ → Queues → ℕ → ℕ → Releases
releases ps ns hs q p s =
    let d = dropped hs p s in
    let a = left_behind ns hs q p s in
    releases_of (counted ps).peers d.handles
    (set_queued a (notified ns d.handles a.rings s (counted ps).number))

-- Transfer: as of its own number.
unfoldable pub transfers : List ℕ → List ℕ → List ℕ → Rings → ℕ → ℕ → Given
transfers ps ns hs r q s = given_to ns (counted ps).peers hs r q (counted ps).number s

-- Send: a message for each of the first k destinations.
unfoldable pub message_to : ℕ → ℕ → ℕ → ℕ → List ℕ → ℕ → Entry
message_to s u nb nh carried n = record { kind = kind_message; slot = s; user = u % users; nb = nb % 65536; nh = nh % 65536; carried = carried; number = n }

unfoldable pub sent_to : Queues → ℕ → ℕ → Places → List ℕ → ℕ → ℕ → Queues
sent_to q u nh w bytes n zero = q
sent_to q u nh w bytes n (suc k) =
    let s = get_or w.to k 0 % nodes in
    enqueued (sent_to q u nh w bytes n k) (s / slots) (message_to s u (length bytes) nh w.carried n) bytes

pub record Sends : Type 0 where
  pub peers : List ℕ
  pub queues : Queues

abbrev pub sends_of : List ℕ → Queues → Sends
sends_of ps q = record { peers = ps; queues = q }

unfoldable pub sends : List ℕ → Queues → ℕ → Sizes → Places → List ℕ → Sends
sends ps q p z w bytes = sends_of (counted ps).peers (sent_to q (user_at (counted ps).peers p) z.nh w bytes (counted ps).number z.nd)

-- A send with no destinations replaces the peer's own seed; another leaves it.
unfoldable pub replaced : List ℕ → ℕ → Sizes → Places → List ℕ → List ℕ
replaced t p z w bytes = pick (eqb z.nd 0) (stored t p z.nh w.carried bytes) t

-- Disconnect: the live nodes are destroyed, the queue is emptied, the owners are told, the handles go.
pub record Disconnects : Type 0 where
  pub peers : List ℕ
  pub nodes : List ℕ
  pub handles : List ℕ
  pub charges : List ℕ
  pub rings : Rings

abbrev pub disconnects_of : List ℕ → List ℕ → List ℕ → List ℕ → Rings → Disconnects
disconnects_of ps ns hs cs r = record { peers = ps; nodes = ns; handles = hs; charges = cs; rings = r }

abbrev pub rings_after : Rings → List ℕ → Rings
rings_after r ends = set_ends r ends

unfoldable pub disconnects : List ℕ → List ℕ → List ℕ → List ℕ → Rings → ℕ → Disconnects
disconnects ps ns hs cs r p =
    let n = (counted ps).number in
    let d = destroyed_set ns hs cs r p (set_of ns hs p Living) n in
    disconnects_of (set_disconnected (counted ps).peers p) d.nodes (clear_peer hs p) (emptied_charges cs p)
    (told_owners d.nodes hs p n (rings_after d.rings (cleared d.rings.ends p)) peers)

-- Receive: the answer that shows a message, with its IDs and its payload.
unfoldable pub message_answer : List ℕ → ℕ → HandleId → Bool → Entry → Answer
message_answer cs p to flag e =
    is_received
    (Message (record { to = to; user = record { 0 = e.user }; flag = flag; nb = min e.nb (used_of (charges_at cs p)); nh = min e.nh most_ids }))

unfoldable pub shown_ids : Entry → List ℕ → List ℕ
shown_ids e ids = take (min e.nh most_ids) ids

unfoldable pub shown_bytes : List ℕ → List ℕ → ℕ → Entry → List ℕ
shown_bytes cs pool p e = piece_of pool p 0 (min e.nb (used_of (charges_at cs p)))

pub record Taken : Type 0 where
  pub outcome : Outcome
  pub out : List ℕ
  pub peers : List ℕ
  pub handles : List ℕ
  pub queues : Queues

abbrev pub received_of : Outcome → List ℕ → List ℕ → List ℕ → Queues → Taken
received_of o out ps hs q = record { outcome = o; out = out; peers = ps; handles = hs; queues = q }

-- A message is taken out, and what it carries is given as of its own number. Where its owner is shown the invalid ID for a node, the notice goes that nothing keeps then.
unfoldable pub received_message : List ℕ → List ℕ → List ℕ → Queues → ℕ → Entry → List ℕ → Taken
received_message ps ns hs q p e out =
    let nh = min e.nh most_ids in
    let g = gives_to ns ps hs (rings_after q.rings (popped q.rings.ends p)) p e.number e.carried nh in
    let a = message_answer q.charges p (record { 0 = id_or_invalid hs p (e.slot % nodes) }) (follows_in q.rings p e.number) e in
    let bytes = shown_bytes q.charges q.pool p e in
    let cs = settled_charges q.charges p e in
    received_of (outcome_of a (shown_ids e g.ids) bytes out) (answer_after a (shown_ids e g.ids) bytes out) g.peers g.handles
    (record { charges = cs; rings = expired_shown ns g.handles cs p e.carried g.ids g.rings nh; pool = settled_pool q.charges q.pool p e })

-- A notice is taken out.
pub record NoticeTaken : Type 0 where
  pub outcome : Outcome
  pub out : List ℕ
  pub ends : List ℕ

abbrev pub notice_taken_of : Outcome → List ℕ → List ℕ → NoticeTaken
notice_taken_of o out ends = record { outcome = o; out = out; ends = ends }

unfoldable pub notice_answer : List ℕ → ℕ → Entry → Answer
notice_answer hs p e =
    is_received (pick (eqb e.kind kind_destroyed) (Destroyed (record { 0 = id_or_invalid hs p (e.slot % nodes) })) (Released (record { 0 = id_or_invalid hs p (e.slot % nodes) })))

unfoldable pub notice_taken : List ℕ → List ℕ → ℕ → Entry → List ℕ → NoticeTaken
notice_taken hs ends p e out = notice_taken_of (outcome_of (notice_answer hs p e) [] [] out) (answer_after (notice_answer hs p e) [] [] out) (popped ends p)

-- The oldest entry is taken out.
unfoldable pub received : List ℕ → List ℕ → List ℕ → Queues → ℕ → List ℕ → Taken
received ps ns hs q p out =
    let e = first_of q.rings p in
    let x = notice_taken hs q.rings.ends p e out in
    pick (is_message e)
    (received_message (count_command ps) ns hs q p e out)
    (received_of x.outcome x.out (count_command ps) hs (set_queued q (rings_after q.rings x.ends)))

-- Show the seed, which stays: what it carries is given as of this command. The answer has no destination, the user u and no flag.
unfoldable pub seed_answer : ℕ → ℕ → ℕ → Answer
seed_answer u nb nh = is_received (Seed (record { to = record { 0 = invalid }; user = record { 0 = u }; flag = false; nb = nb; nh = nh }))

pub record Shown : Type 0 where
  pub outcome : Outcome
  pub out : List ℕ
  pub peers : List ℕ
  pub handles : List ℕ
  pub rings : Rings

abbrev pub shown_of : Outcome → List ℕ → List ℕ → List ℕ → Rings → Shown
shown_of o out ps hs r = record { outcome = o; out = out; peers = ps; handles = hs; rings = r }

-- The peer p is shown its seed, with its own user.
unfoldable pub shows : List ℕ → List ℕ → List ℕ → Rings → List ℕ → ℕ → List ℕ → Shown
shows ps ns hs r sd p out =
    let g = gives_to ns (counted ps).peers hs r p (counted ps).number (slots_at sd p) (carried_at sd p) in
    let a = seed_answer (user_at (counted ps).peers p) (bytes_at sd p) (carried_at sd p) in
    let ids = take (carried_at sd p) g.ids in
    let bytes = piece_at sd p (bytes_at sd p) in
    shown_of (outcome_of a ids bytes out) (answer_after a ids bytes out) g.peers g.handles g.rings
