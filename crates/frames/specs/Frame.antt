-- Document 01, "Commands, one frame a line", and of "When the bus says no" the rows that a frame alone decides, in the order of its paragraph "Order".
-- Assumes nothing.
use Rattle.std.specs.Prelude.{ℕ, ◌+◌, ◌*◌, ◌%◌, ◌^◌, Bool, true, false, List, length, get_or, drop, eqb, ltb, leb, Result, Ok, Err}
use Rattle.laws.specs.Tests.{pick}
use Rattle.laws.specs.Bytes.{num_at}
use Rattle.ids.specs.declared.Refusal.TheVariants.{EINVAL, ENOTTY, EMSGSIZE}
pub use Rattle.ids.specs.Sizes.{most_ids, most_bytes}
use Rattle.ids.specs.declared.HandleId.{HandleId}
use Rattle.ids.specs.declared.Peer.{Peer}
use Rattle.ids.specs.declared.Refusal.{Refusal}
use Rattle.frames.specs.declared.Command.{Command}
use Rattle.frames.specs.declared.Command.TheVariants.{Open, Disconnect, Create, Destroy, Release, Transfer, Send, Receive, Quota, Holders, ShowSeed}

-- "Peers 0 to 7. Users 0 to 3."
abbrev pub last_peer : ℕ
last_peer = 7

abbrev pub last_user : ℕ
last_user = 3

-- The invalid ID, all ones.
abbrev pub invalid_id : HandleId
invalid_id = record { 0 = 18446744073709551615 }

-- "First byte the command, second the acting peer".
abbrev pub opcode : List ℕ → ℕ
opcode f = get_or f 0 0

abbrev pub peer_at : List ℕ → ℕ → Peer
peer_at f at = record { 0 = get_or f at 0 }

-- "Numbers are big-endian; an ID has 8 bytes." (Of bytes the number is below 256 ^ 8 as it is; of a list of any numbers it is read so.)
unfoldable pub id_at : List ℕ → ℕ → HandleId
id_at f at = record { 0 = num_at f at 8 % 256 ^ 8 }

unfoldable pub short_at : List ℕ → ℕ → ℕ
short_at f at = num_at f at 2

-- What a frame says: a command, or its refusal.
abbrev pub Parsed : Type 0
Parsed = Result Command Refusal

-- "Given exactly when": EINVAL where the test holds.
abbrev pub invalid_if : Bool → Parsed → Parsed
invalid_if bad r = pick bad (Err EINVAL) r

-- EMSGSIZE: "send with nd over 8, nh over 8 or nb over 512".
abbrev pub oversized : ℕ → ℕ → ℕ → Bool
oversized nd nh nb = pick (ltb most_ids nd) true (pick (ltb most_ids nh) true (ltb most_bytes nb))

-- The bytes of a send with these numbers.
abbrev pub send_length : ℕ → ℕ → ℕ → ℕ
send_length nd nh nb = 6 + 8 * (nd + nh) + nb

-- "then peer, .. then EMSGSIZE, then length", of a frame of n bytes. nd 0 is a seed (02 No. 1).
unfoldable pub parse_sizes : ℕ → ℕ → ℕ → ℕ → ℕ → Parsed
parse_sizes n p nd nh nb =
    invalid_if (ltb last_peer p)
    (pick (oversized nd nh nb) (Err EMSGSIZE)
    (pick (eqb n (send_length nd nh nb)) (Ok (Send (record { 0 = p }) (record { nd = nd; nh = nh; nb = nb }))) (Err EINVAL)))

-- 07: nd (1), nh (1), nb (2), nd IDs, nh IDs, nb payload bytes. "for send, a frame under 6 bytes, then ..".
unfoldable pub parse_send : List ℕ → Parsed
parse_send f = invalid_if (ltb (length f) 6) (parse_sizes (length f) (get_or f 1 0) (get_or f 2 0) (get_or f 3 0) (short_at f 4))

-- The length of every other frame.
unfoldable pub frame_length : ℕ → ℕ
frame_length op =
    pick (eqb op 1) 3
    (pick (eqb op 2) 2
    (pick (eqb op 6) 11
    (pick (eqb op 8) 4
    (pick (eqb op 9) 3
    (pick (eqb op 12) 4 10)))))

-- 01 open: user (1).
unfoldable pub parse_open : Peer → ℕ → Parsed
parse_open p u = invalid_if (ltb last_user u) (Ok (Open p (record { 0 = u })))

-- 03 create node: ID. EINVAL: "create with ID bit 0 or 1 set".
unfoldable pub parse_create : Peer → HandleId → Parsed
parse_create p i = pick (eqb (i.0 % 4) 0) (Ok (Create p i)) (Err EINVAL)

-- 06 transfer: ID, destination peer (1).
unfoldable pub parse_transfer : Peer → HandleId → ℕ → Parsed
parse_transfer p i q = invalid_if (ltb last_peer q) (Ok (Transfer p i (record { 0 = q })))

-- 09 quota question: user (1).
unfoldable pub parse_quota : Peer → ℕ → Parsed
parse_quota p u = invalid_if (ltb last_user u) (Ok (Quota p (record { 0 = u })))

-- What stands behind the acting peer p in a frame of the right length.
unfoldable pub parse_rest : ℕ → Peer → List ℕ → Parsed
parse_rest op p f =
    pick (eqb op 1) (parse_open p (get_or f 2 0))
    (pick (eqb op 2) (Ok (Disconnect p))
    (pick (eqb op 3) (parse_create p (id_at f 2))
    (pick (eqb op 4) (Ok (Destroy p (id_at f 2)))
    (pick (eqb op 5) (Ok (Release p (id_at f 2)))
    (pick (eqb op 6) (parse_transfer p (id_at f 2) (get_or f 10 0))
    (pick (eqb op 8) (Ok (Receive p (short_at f 2)))
    (pick (eqb op 9) (parse_quota p (get_or f 2 0))
    (pick (eqb op 12) (Ok (ShowSeed p (short_at f 2)))
    (Ok (Holders p (id_at f 2)))))))))))

-- "for others length, then the rest of EINVAL".
unfoldable pub parse_other : List ℕ → Parsed
parse_other f =
    pick (eqb (length f) (frame_length (opcode f)))
    (invalid_if (ltb last_peer (get_or f 1 0)) (parse_rest (opcode f) (peer_at f 1) f))
    (Err EINVAL)

-- ENOTTY: "command byte unknown"; the known ones are 01 to 0a and 0c.
abbrev pub known : ℕ → Bool
known op = pick (eqb op 0) false (pick (eqb op 11) false (leb op 12))

-- "empty frame; ENOTTY; for send, ..; for others ..".
unfoldable pub parse : List ℕ → Parsed
parse f =
    invalid_if (eqb (length f) 0)
    (pick (known (opcode f)) (pick (eqb (opcode f) 7) (parse_send f) (parse_other f)) (Err ENOTTY))

-- The ID at the place k of a send's two lists, destinations first; the invalid ID where the frame ends before it.
unfoldable pub send_id : List ℕ → ℕ → HandleId
send_id f k = pick (leb (14 + 8 * k) (length f)) (id_at f (6 + 8 * k)) invalid_id

-- A send's payload: what stands behind its two lists.
unfoldable pub payload_of : List ℕ → List ℕ
payload_of f = drop (6 + 8 * (get_or f 2 0 + get_or f 3 0)) f
