-- Document 01, "When the bus says no": the table and the paragraph Order, each row a test in the row's own words over the history of a bus, which is the frames, numbers and answers
-- of the calls before. Nothing else of the bus is asked. 5 has no row: no run gives it.
-- Assumes nothing.
use Rattle.std.specs.Prelude.{ℕ, ◌+◌, ◌-◌, ◌*◌, ◌/◌, ◌%◌, ◌^◌, ◌≡◌, Bool, true, false, not, List, [], ◌∷◌, ◌++◌, length, get_or, eqb, ltb, leb, Ok, Err}
use Rattle.laws.specs.Tests.{pick}
use Rattle.laws.specs.Sums.{sum_to}
use Rattle.laws.specs.Weights.{keep, All}
use Rattle.ids.specs.Refusals.{EINVAL, ENOTTY, EMSGSIZE, EOVERFLOW, EBADF, ESHUTDOWN, EEXIST, ENXIO, EPERM, EHOSTUNREACH, ENOSPC, EDQUOT, EAGAIN, ERANGE}
use Rattle.frames.specs.declared.Command.{Command}
use Rattle.frames.specs.declared.Command.TheVariants.{Open, Disconnect, Create, Destroy, Release, Transfer, Send, Receive, Quota, Holders, ShowSeed}
use Rattle.frames.specs.Frame.{opcode, id_at, short_at, frame_length, parse, Parsed}
use Rattle.model.specs.Numbers.{peers}
use Rattle.model.specs.Lists.{both, either, any, every, any_below}
use Rattle.model.specs.Resources.{Resource, limit, weigh, resources}
use Rattle.model.specs.State.{Status, Status.unopened, Status.opened, Status.disconnected, held}
use Rattle.model.specs.Requests.{destinations, attached}
use Rattle.model.specs.Step.{Call}
use Rattle.model.specs.Book.{Node, Noted, Noted.blank, Noted.noted, Book, owned_by, nodes_of, Fed, empty, feed_all, queued, others_queued, is_send}
use Rattle.model.specs.Ledger.{Item, Item.message, Item.destroyed, Item.released, LedgerSeed, LedgerSeed.unset, LedgerSeed.kept, seed_nodes, Ledger, blank_ledger, feed_ledger_all}
use Rattle.model.specs.Tally.{tally}
use Rattle.model.specs.Standing.{standing}
use Rattle.model.specs.Coded.{code, actor}

-- THE FRAME'S ROWS: 22, 25, 90

-- 22 EINVAL: "answer buffer under 591 bytes"
abbrev pub short_buffer : Call → Bool
short_buffer c = ltb (length c.buffer) 591

-- 22: "empty frame"
abbrev pub empty_frame : List ℕ → Bool
empty_frame f = eqb (length f) 0

-- 25 ENOTTY: "command byte unknown": 01 to 0a are known, and 0c (02 No. 1)
abbrev pub unknown_byte : List ℕ → Bool
unknown_byte f = either (ltb (opcode f) 1) (either (eqb (opcode f) 11) (ltb 12 (opcode f)))

-- 22: "for send, a frame under 6 bytes, then peer". "then nd 0" is no more: 02 No. 1, "EINVAL for nd 0 no longer covers this form".
abbrev pub short_send : List ℕ → Bool
short_send f = both (is_send f) (ltb (length f) 6)

abbrev pub send_peer : List ℕ → Bool
send_peer f = both (is_send f) (ltb 7 (get_or f 1 0))

-- 90 EMSGSIZE: "send with nd over 8, nh over 8 or nb over 512"
abbrev pub too_large : List ℕ → Bool
too_large f = both (is_send f) (either (ltb 8 (get_or f 2 0)) (either (ltb 8 (get_or f 3 0)) (ltb 512 (short_at f 4))))

-- 22: "wrong length": a send has 6 bytes, 8 for each ID, and its payload
abbrev pub wrong_length : List ℕ → Bool
wrong_length f = not (eqb (length f) (pick (is_send f) (6 + 8 * (get_or f 2 0 + get_or f 3 0) + short_at f 4) (frame_length (opcode f))))

-- 22: "peer over 7; user over 3; .. create with ID bit 0 or 1 set"
abbrev pub peer_over : List ℕ → Bool
peer_over f = ltb 7 (get_or f 1 0)

abbrev pub user_over : List ℕ → Bool
user_over f = both (either (eqb (opcode f) 1) (eqb (opcode f) 9)) (ltb 3 (get_or f 2 0))

abbrev pub destination_over : List ℕ → Bool
destination_over f = both (eqb (opcode f) 6) (ltb 7 (get_or f 10 0))

abbrev pub low_bits : List ℕ → Bool
low_bits f = both (eqb (opcode f) 3) (not (eqb ((id_at f 2).0 % 4) 0))

-- THE COMMAND'S ROWS, by the history xs

abbrev pub book_of : List Fed → Book
book_of xs = feed_all empty xs

abbrev pub ledger_of : List Fed → Ledger
ledger_of xs = feed_ledger_all blank_ledger xs

-- How a peer stands: never opened, open, disconnected.
abbrev pub stands_in : List Fed → ℕ → Status
stands_in xs p = standing unopened xs p

abbrev pub is_unopened : Status → Bool
is_unopened unopened = true
is_unopened opened = false
is_unopened disconnected = false

abbrev pub is_opened : Status → Bool
is_opened opened = true
is_opened unopened = false
is_opened disconnected = false

abbrev pub is_gone : Status → Bool
is_gone disconnected = true
is_gone unopened = false
is_gone opened = false

-- "not for questions": 09 and 0a.
abbrev pub is_question : Command → Bool
is_question c = either (eqb (code c) 9) (eqb (code c) 10)

abbrev pub is_open : Command → Bool
is_open c = eqb (code c) 1

-- The IDs that the acting peer must hold: all of the frame but those of create and open, which name an ID that the peer is to hold, and none.
abbrev pub ids_of : List ℕ → Command → List ℕ
ids_of f (Destroy p i) = i.0 ∷ []
ids_of f (Release p i) = i.0 ∷ []
ids_of f (Transfer p i q) = i.0 ∷ []
ids_of f (Send p z) = destinations f z ++ attached f z
ids_of f (Holders p i) = i.0 ∷ []
ids_of f (ShowSeed p room) = []
ids_of f (Open p u) = []
ids_of f (Disconnect p) = []
ids_of f (Create p i) = []
ids_of f (Receive p room) = []
ids_of f (Quota p u) = []

-- Those of them whose node must live.
abbrev pub living_of : List ℕ → Command → List ℕ
living_of f (Destroy p i) = i.0 ∷ []
living_of f (Transfer p i q) = i.0 ∷ []
living_of f (Send p z) = destinations f z
living_of f (Open p u) = []
living_of f (Disconnect p) = []
living_of f (Create p i) = []
living_of f (Release p i) = []
living_of f (Receive p room) = []
living_of f (Quota p u) = []
living_of f (Holders p i) = []
living_of f (ShowSeed p room) = []

-- 75 EOVERFLOW: "2^40 - 1 commands accepted already; not for questions"
abbrev pub row75 : List Fed → List ℕ → Command → Bool
row75 xs f c = both (not (is_question c)) (leb (2 ^ 40 - 1) (tally xs))

-- 9 EBADF: "peer never opened (acting, save in open; or destination of a transfer)"; 108 ESHUTDOWN: "that peer disconnected; also open of it"
abbrev pub row9 : List Fed → List ℕ → Command → Bool
row9 xs f c = both (not (is_open c)) (is_unopened (stands_in xs (actor c)))

abbrev pub row108 : List Fed → List ℕ → Command → Bool
row108 xs f c = is_gone (stands_in xs (actor c))

abbrev pub at_destination : (Status → Bool) → List Fed → Command → Bool
at_destination t xs (Transfer p i q) = t (stands_in xs q.0)
at_destination t xs (Open p u) = false
at_destination t xs (Disconnect p) = false
at_destination t xs (Create p i) = false
at_destination t xs (Destroy p i) = false
at_destination t xs (Release p i) = false
at_destination t xs (Send p z) = false
at_destination t xs (Receive p room) = false
at_destination t xs (Quota p u) = false
at_destination t xs (Holders p i) = false
at_destination t xs (ShowSeed p room) = false

abbrev pub row9-destination : List Fed → List ℕ → Command → Bool
row9-destination xs f c = at_destination is_unopened xs c

abbrev pub row108-destination : List Fed → List ℕ → Command → Bool
row108-destination xs f c = at_destination is_gone xs c

abbrev pub is_noted : Noted → Bool
is_noted blank = false
is_noted (noted n c) = true

-- 17 EEXIST: "open of an open peer; create with an ID the peer holds"
abbrev pub row17 : List Fed → List ℕ → Command → Bool
row17 xs f (Open p u) = is_opened (stands_in xs p.0)
row17 xs f (Create p i) = is_noted ((book_of xs).handle p.0 i.0)
row17 xs f (Disconnect p) = false
row17 xs f (Destroy p i) = false
row17 xs f (Release p i) = false
row17 xs f (Transfer p i q) = false
row17 xs f (Send p z) = false
row17 xs f (Receive p room) = false
row17 xs f (Quota p u) = false
row17 xs f (Holders p i) = false
row17 xs f (ShowSeed p room) = false

-- 6 ENXIO: "an ID the acting peer does not hold"
abbrev pub row6 : List Fed → List ℕ → Command → Bool
row6 xs f c = not (every (λ i. is_noted ((book_of xs).handle (actor c) i)) (ids_of f c))

-- 1 EPERM: "destroy or holders question by a peer not the owner; release of a live node's owner handle at count 1"
abbrev pub of_other : ℕ → Noted → Bool
of_other p blank = false
of_other p (noted n c) = not (owned_by p n)

abbrev pub is_pinned : Ledger → ℕ → Noted → Bool
is_pinned l p blank = false
is_pinned l p (noted n c) = both (l.lives n.number) (both (owned_by p n) (eqb c 1))

abbrev pub row1 : List Fed → List ℕ → Command → Bool
row1 xs f (Destroy p i) = of_other p.0 ((book_of xs).handle p.0 i.0)
row1 xs f (Holders p i) = of_other p.0 ((book_of xs).handle p.0 i.0)
row1 xs f (Release p i) = is_pinned (ledger_of xs) p.0 ((book_of xs).handle p.0 i.0)
row1 xs f (Open p u) = false
row1 xs f (Disconnect p) = false
row1 xs f (Create p i) = false
row1 xs f (Transfer p i q) = false
row1 xs f (Send p z) = false
row1 xs f (Receive p room) = false
row1 xs f (Quota p u) = false
row1 xs f (ShowSeed p room) = false

-- 113 EHOSTUNREACH: "destroy of, transfer of, or send to a node already destroyed"
abbrev pub row113 : List Fed → List ℕ → Command → Bool
row113 xs f c = not (every (λ n. (ledger_of xs).lives n.number) (nodes_of (book_of xs) (actor c) (living_of f c)))

-- 28 ENOSPC: "create with 16 nodes counted". "A node counts against its owner while it lives, while any peer holds a handle to it, or while a queued message names it". 02 No. 1: "A node
-- named by a seed counts against its owner as if by a queued message".
abbrev pub is_node : ℕ → Node → Bool
is_node n x = eqb n x.number

abbrev pub names_node : ℕ → Item → Bool
names_node n (message k m) = either (is_node n m.to) (any (is_node n) m.carried)
names_node n (destroyed k x) = false
names_node n (released k x) = false

abbrev pub counts_node : Ledger → ℕ → Bool
counts_node l n =
    either (l.lives n)
    (either (any_below (λ q. held (l.handle q n)) peers)
    (either (any_below (λ q. any (names_node n) (l.queue q)) peers) (any_below (λ q. any (is_node n) (seed_nodes (l.seed q))) peers)))

abbrev pub counted_nodes : Ledger → ℕ → ℕ
counted_nodes l p = sum_to (λ n. pick (both (eqb (l.maker n) p) (counts_node l n)) 1 0) l.book.entered

abbrev pub row28 : List Fed → List ℕ → Command → Bool
row28 xs f (Create p i) = leb 16 (counted_nodes (ledger_of xs) p.0)
row28 xs f (Open p u) = false
row28 xs f (Disconnect p) = false
row28 xs f (Destroy p i) = false
row28 xs f (Release p i) = false
row28 xs f (Transfer p i q) = false
row28 xs f (Send p z) = false
row28 xs f (Receive p room) = false
row28 xs f (Quota p u) = false
row28 xs f (Holders p i) = false
row28 xs f (ShowSeed p room) = false

-- 122 EDQUOT: "Quota, for each resource at each destination peer: what the sender's user has queued there plus all this send adds there must be at most half, rounded down, of the
-- limit less what the other users have queued."
abbrev pub over_half : Book → ℕ → List Node → ℕ → ℕ → ℕ → Resource → Bool
over_half k u ds nb nh q r = ltb ((limit r - others_queued k q u r) / 2) (queued k q u r + length (keep (owned_by q) ds) * weigh r nb nh)

abbrev pub over_quota : Book → ℕ → List Node → ℕ → ℕ → Bool
over_quota k u ds nb nh = any (λ n. any (over_half k u ds nb nh n.owner) resources) ds

abbrev pub row122 : List Fed → List ℕ → Command → Bool
row122 xs f (Send p z) = let k = book_of xs in over_quota k (k.user p.0) (nodes_of k p.0 (destinations f z)) z.nb z.nh
row122 xs f (Open p u) = false
row122 xs f (Disconnect p) = false
row122 xs f (Create p i) = false
row122 xs f (Destroy p i) = false
row122 xs f (Release p i) = false
row122 xs f (Transfer p i q) = false
row122 xs f (Receive p room) = false
row122 xs f (Quota p u) = false
row122 xs f (Holders p i) = false
row122 xs f (ShowSeed p room) = false

-- 11 EAGAIN: "receive, nothing queued"; 34 ERANGE: "next is a message with nb + 8 x nh over the room"
abbrev pub nothing_in : List Item → Bool
nothing_in [] = true
nothing_in (x ∷ q) = false

abbrev pub over_room : ℕ → List Item → Bool
over_room room (message k m ∷ q) = ltb room (length m.payload + 8 * length m.carried)
over_room room [] = false
over_room room (destroyed k n ∷ q) = false
over_room room (released k n ∷ q) = false

-- 02 No. 1: "command 0c, laid out as 08 and with its room test"; "reading with none set gives 11".
abbrev pub is_unset : LedgerSeed → Bool
is_unset unset = true
is_unset (kept payload ns) = false

abbrev pub seed_over_room : ℕ → LedgerSeed → Bool
seed_over_room room (kept payload ns) = ltb room (length payload + 8 * length ns)
seed_over_room room unset = false

abbrev pub row11 : List Fed → List ℕ → Command → Bool
row11 xs f (Receive p room) = nothing_in ((ledger_of xs).queue p.0)
row11 xs f (ShowSeed p room) = is_unset ((ledger_of xs).seed p.0)
row11 xs f (Open p u) = false
row11 xs f (Disconnect p) = false
row11 xs f (Create p i) = false
row11 xs f (Destroy p i) = false
row11 xs f (Release p i) = false
row11 xs f (Transfer p i q) = false
row11 xs f (Send p z) = false
row11 xs f (Quota p u) = false
row11 xs f (Holders p i) = false

abbrev pub row34 : List Fed → List ℕ → Command → Bool
row34 xs f (Receive p room) = over_room room ((ledger_of xs).queue p.0)
row34 xs f (ShowSeed p room) = seed_over_room room ((ledger_of xs).seed p.0)
row34 xs f (Open p u) = false
row34 xs f (Disconnect p) = false
row34 xs f (Create p i) = false
row34 xs f (Destroy p i) = false
row34 xs f (Release p i) = false
row34 xs f (Transfer p i q) = false
row34 xs f (Send p z) = false
row34 xs f (Quota p u) = false
row34 xs f (Holders p i) = false

-- THE TABLE

pub record Row : Type 0 where
  pub number : ℕ
  pub applies : List Fed → Call → Bool

abbrev pub of_buffer : ℕ → (Call → Bool) → Row
of_buffer n t = record { number = n; applies = λ xs c. t c }

abbrev pub of_frame : ℕ → (List ℕ → Bool) → Row
of_frame n t = record { number = n; applies = λ xs c. t c.frame }

abbrev pub on_read : (Command → Bool) → Parsed → Bool
on_read t (Ok k) = t k
on_read t (Err r) = false

abbrev pub of_command : ℕ → (List Fed → List ℕ → Command → Bool) → Row
of_command n t = record { number = n; applies = λ xs c. on_read (t xs c.frame) (parse c.frame) }

-- "Order: answer buffer; EIO; empty frame; ENOTTY; for send, a frame under 6 bytes, then peer, .. then EMSGSIZE, then length; for others length, then the rest of EINVAL;" The row
-- of nd 0 is gone: 02 No. 1, "Same sizes as a send".
abbrev pub frame_rows : List Row
frame_rows =
    of_frame EINVAL empty_frame ∷ of_frame ENOTTY unknown_byte ∷ of_frame EINVAL short_send ∷ of_frame EINVAL send_peer ∷ of_frame EMSGSIZE too_large
    ∷ of_frame EINVAL wrong_length ∷ of_frame EINVAL peer_over ∷ of_frame EINVAL user_over ∷ of_frame EINVAL destination_over ∷ of_frame EINVAL low_bits ∷ []

-- "EOVERFLOW; acting peer; destination peer; then the table's order downwards"
abbrev pub command_rows : List Row
command_rows =
    of_command EOVERFLOW row75 ∷ of_command EBADF row9 ∷ of_command ESHUTDOWN row108 ∷ of_command EBADF row9-destination ∷ of_command ESHUTDOWN row108-destination
    ∷ of_command EEXIST row17 ∷ of_command ENXIO row6 ∷ of_command EPERM row1 ∷ of_command EHOSTUNREACH row113 ∷ of_command ENOSPC row28 ∷ of_command EDQUOT row122
    ∷ of_command EAGAIN row11 ∷ of_command ERANGE row34 ∷ []

abbrev pub rows : List Row
rows = of_buffer EINVAL short_buffer ∷ frame_rows ++ command_rows

-- The number of the first row that applies; 0 where none does.
abbrev pub first_number : List Row → List Fed → Call → ℕ
first_number [] xs c = 0
first_number (r ∷ rs) xs c = pick (r.applies xs c) r.number (first_number rs xs c)

-- "Given exactly when": n is the number of the first row that applies to the call c after the history xs, and 0 exactly where none does.
pub record Exact (xs : List Fed) (c : Call) (n : ℕ) : Type 0 where
  pub first : n ≡ first_number rows xs c
  pub none-applies : n ≡ 0 → All (λ r. r.applies xs c ≡ false) rows
  pub accepted : All (λ r. r.applies xs c ≡ false) rows → n ≡ 0
