-- Document 01, "When the bus says no": for each command the number of its refusal, 0 where there is none, from EOVERFLOW on, in the order of the paragraph "Order":
-- "EOVERFLOW; acting peer; destination peer; then the table's order downwards, each for all IDs of the frame before the next".
-- 22, 25 and 90 come from the frame alone (frames' parse).
-- Assumes nothing.
use Rattle.std.specs.Prelude.{ℕ, ◌+◌, ◌*◌, Bool, List, [], ◌∷◌, ◌++◌, map, length, eqb, ltb, leb}
use Rattle.laws.specs.Tests.{pick}
use Rattle.laws.specs.Weights.{keep}
use Rattle.ids.specs.Refusals.{EOVERFLOW, EBADF, ESHUTDOWN, EEXIST, ENXIO, EPERM, EHOSTUNREACH, ENOSPC, EDQUOT, EAGAIN, ERANGE}
use Rattle.frames.specs.declared.Command.{Command}
use Rattle.frames.specs.declared.Command.TheVariants.{Open, Disconnect, Create, Destroy, Release, Transfer, Send, Receive, Quota, Holders, ShowSeed}
use Rattle.frames.specs.Frame.{payload_of}
use Rattle.quota.specs.declared.Charge.{Charge}
use Rattle.quota.specs.Charges.{allows_all}
use Rattle.model.specs.Numbers.{slots, nodes, owner, most_commands}
use Rattle.model.specs.Lists.{both, every}
use Rattle.model.specs.State.{Status, Status.unopened, Status.opened, Status.disconnected, is_live, count, Entry, Entry.message, Entry.destroyed, Entry.released, Seed, Seed.unset, Seed.kept, State, slot, free_place}
use Rattle.model.specs.Requests.{destinations, attached}

-- Each row takes the rest of the cascade, r.

-- "2^40 - 1 commands accepted already; not for questions".
abbrev pub countable : State → ℕ → ℕ
countable b r = pick (ltb b.accepted most_commands) r EOVERFLOW

-- "peer never opened (acting, save in open; or destination of a transfer)"; "that peer disconnected".
abbrev pub present : Status → ℕ → ℕ
present unopened r = EBADF
present opened r = r
present disconnected r = ESHUTDOWN

-- Open: "that peer disconnected; also open of it"; "open of an open peer".
abbrev pub openable : Status → ℕ
openable unopened = 0
openable opened = EEXIST
openable disconnected = ESHUTDOWN

-- "create with an ID the peer holds": s is the ID's slot.
abbrev pub unheld : ℕ → ℕ → ℕ
unheld s r = pick (ltb s nodes) EEXIST r

-- "an ID the acting peer does not hold": find gives the slot of an ID.
abbrev pub holding : (ℕ → ℕ) → List ℕ → ℕ → ℕ
holding find is r = pick (every (λ i. ltb (find i) nodes) is) r ENXIO

-- "destroy or holders question by a peer not the owner".
abbrev pub owning : ℕ → ℕ → ℕ → ℕ
owning p s r = pick (eqb (owner s) p) r EPERM

-- "release of a live node's owner handle at count 1".
abbrev pub pinned : State → ℕ → ℕ → Bool
pinned b p s = both (is_live (b.life s)) (both (eqb (owner s) p) (eqb (count (b.handle p s)) 1))

-- "destroy of, transfer of, or send to a node already destroyed".
abbrev pub living : State → List ℕ → ℕ → ℕ
living b ss r = pick (every (λ s. is_live (b.life s)) ss) r EHOSTUNREACH

-- "create with 16 nodes counted": k is the first place whose node does not count.
abbrev pub roomy : ℕ → ℕ → ℕ
roomy k r = pick (ltb k slots) r ENOSPC

-- How many of the destination slots the peer q owns; what a send adds there, of each resource: "Each destination entry makes its own message, also when two name one peer."
unfoldable pub places_at : ℕ → List ℕ → ℕ
places_at q ds = length (keep (λ d. eqb (owner d) q) ds)

abbrev pub adds : ℕ → List ℕ → ℕ → ℕ → Charge
adds q ds nb nh = record { messages = places_at q ds; bytes = places_at q ds * nb; handles = places_at q ds * nh }

-- "Quota, for each resource at each destination peer: what the sender's user has queued there plus all this send adds there must be at most half, rounded down,
-- of the limit less what the other users have queued."
unfoldable pub fits : State → ℕ → List ℕ → ℕ → ℕ → Bool
fits b u ds nb nh = every (λ d. allows_all (b.charges (owner d)) (record { 0 = u }) (adds (owner d) ds nb nh)) ds

abbrev pub affordable : State → ℕ → List ℕ → ℕ → ℕ → ℕ → ℕ
affordable b u ds nb nh r = pick (fits b u ds nb nh) r EDQUOT

-- "receive, nothing queued"; "next is a message with nb + 8 x nh over the room".
abbrev pub takeable : ℕ → List Entry → ℕ
takeable room [] = EAGAIN
takeable room (message n m ∷ q) = pick (leb (length m.payload + 8 * length m.carried) room) 0 ERANGE
takeable room (destroyed n s ∷ q) = 0
takeable room (released n s ∷ q) = 0

-- 0c: "reading with none set gives 11"; "laid out as 08 and with its room test".
abbrev pub showable : ℕ → Seed → ℕ
showable room unset = EAGAIN
showable room (kept payload carried) = pick (leb (length payload + 8 * length carried) room) 0 ERANGE

-- The cascade of each command. Where it names IDs, find gives their slots, and for a create k is the free place.
abbrev pub create_by : (ℕ → ℕ) → ℕ → State → ℕ → ℕ → ℕ
create_by find k b p i = countable b (present (b.status p) (unheld (find i) (roomy k 0)))

abbrev pub destroy_by : (ℕ → ℕ) → State → ℕ → ℕ → ℕ
destroy_by find b p i = countable b (present (b.status p) (holding find (i ∷ []) (owning p (find i) (living b (find i ∷ []) 0))))

abbrev pub release_by : (ℕ → ℕ) → State → ℕ → ℕ → ℕ
release_by find b p i = countable b (present (b.status p) (holding find (i ∷ []) (pick (pinned b p (find i)) EPERM 0)))

abbrev pub transfer_by : (ℕ → ℕ) → State → ℕ → ℕ → ℕ → ℕ
transfer_by find b p i q = countable b (present (b.status p) (present (b.status q) (holding find (i ∷ []) (living b (find i ∷ []) 0))))

-- Destination IDs is, attached IDs hs, nb payload bytes.
abbrev pub send_by : (ℕ → ℕ) → State → ℕ → List ℕ → List ℕ → ℕ → ℕ
send_by find b p is hs nb =
    countable b
    (present (b.status p)
    (holding find (is ++ hs)
    (living b (map find is)
    (affordable b (b.user p) (map find is) nb (length hs) 0))))

abbrev pub holders_by : (ℕ → ℕ) → State → ℕ → ℕ → ℕ
holders_by find b p i = present (b.status p) (holding find (i ∷ []) (owning p (find i) 0))

unfoldable pub refuses_open : State → ℕ → ℕ
refuses_open b p = countable b (openable (b.status p))

unfoldable pub refuses_disconnect : State → ℕ → ℕ
refuses_disconnect b p = countable b (present (b.status p) 0)

unfoldable pub refuses_create : State → ℕ → ℕ → ℕ
refuses_create b p i = create_by (slot b p) (free_place b p) b p i

unfoldable pub refuses_destroy : State → ℕ → ℕ → ℕ
refuses_destroy b p i = destroy_by (slot b p) b p i

unfoldable pub refuses_release : State → ℕ → ℕ → ℕ
refuses_release b p i = release_by (slot b p) b p i

unfoldable pub refuses_transfer : State → ℕ → ℕ → ℕ → ℕ
refuses_transfer b p i q = transfer_by (slot b p) b p i q

unfoldable pub refuses_send : State → ℕ → List ℕ → List ℕ → ℕ → ℕ
refuses_send b p is hs nb = send_by (slot b p) b p is hs nb

unfoldable pub refuses_receive : State → ℕ → ℕ → ℕ
refuses_receive b p room = countable b (present (b.status p) (takeable room (b.queue p)))

unfoldable pub refuses_quota : State → ℕ → ℕ
refuses_quota b p = present (b.status p) 0

unfoldable pub refuses_holders : State → ℕ → ℕ → ℕ
refuses_holders b p i = holders_by (slot b p) b p i

unfoldable pub refuses_seed : State → ℕ → ℕ → ℕ
refuses_seed b p room = countable b (present (b.status p) (showable room (b.seed p)))

-- The refusal of a command that its frame f gave.
unfoldable pub refusal : State → List ℕ → Command → ℕ
refusal b f (Open p u) = refuses_open b p.0
refusal b f (Disconnect p) = refuses_disconnect b p.0
refusal b f (Create p i) = refuses_create b p.0 i.0
refusal b f (Destroy p i) = refuses_destroy b p.0 i.0
refusal b f (Release p i) = refuses_release b p.0 i.0
refusal b f (Transfer p i q) = refuses_transfer b p.0 i.0 q.0
refusal b f (Send p z) = refuses_send b p.0 (destinations f z) (attached f z) (length (payload_of f))
refusal b f (Receive p room) = refuses_receive b p.0 room
refusal b f (Quota p u) = refuses_quota b p.0
refusal b f (Holders p i) = refuses_holders b p.0 i.0
refusal b f (ShowSeed p room) = refuses_seed b p.0 room

-- The same where a search of one's own gives the slots of IDs, by peer, and the free places: the core's judgement is this one, with the search that its code makes.
unfoldable pub refusal_by : (ℕ → ℕ → ℕ) → (ℕ → ℕ) → State → List ℕ → Command → ℕ
refusal_by find free b f (Open p u) = refuses_open b p.0
refusal_by find free b f (Disconnect p) = refuses_disconnect b p.0
refusal_by find free b f (Create p i) = create_by (find p.0) (free p.0) b p.0 i.0
refusal_by find free b f (Destroy p i) = destroy_by (find p.0) b p.0 i.0
refusal_by find free b f (Release p i) = release_by (find p.0) b p.0 i.0
refusal_by find free b f (Transfer p i q) = transfer_by (find p.0) b p.0 i.0 q.0
refusal_by find free b f (Send p z) = send_by (find p.0) b p.0 (destinations f z) (attached f z) (length (payload_of f))
refusal_by find free b f (Receive p room) = refuses_receive b p.0 room
refusal_by find free b f (Quota p u) = refuses_quota b p.0
refusal_by find free b f (Holders p i) = holders_by (find p.0) b p.0 i.0
refusal_by find free b f (ShowSeed p room) = refuses_seed b p.0 room
