-- The refusal numbers of document 01's table, "Given exactly when"; and 27 of document 02.
-- Assumes nothing.
use Rattle.std.specs.Prelude.{ℕ, Result, Ok, Err}
use Rattle.ids.specs.declared.Refusal.{Refusal}
use Rattle.ids.specs.declared.Refusal.TheVariants as refusal

-- destroy or holders question by a peer not the owner; release of a live node's owner handle at count 1
abbrev pub EPERM : ℕ
EPERM = 1

-- a lent bus buffer lacks its exact length, or a number stored there is out of its range
abbrev pub EIO : ℕ
EIO = 5

-- an ID the acting peer does not hold
abbrev pub ENXIO : ℕ
ENXIO = 6

-- peer never opened
abbrev pub EBADF : ℕ
EBADF = 9

-- receive, nothing queued
abbrev pub EAGAIN : ℕ
EAGAIN = 11

-- open of an open peer; create with an ID the peer holds
abbrev pub EEXIST : ℕ
EEXIST = 17

-- answer buffer under 591 bytes; empty frame; wrong length; a number out of its range
abbrev pub EINVAL : ℕ
EINVAL = 22

-- command byte unknown
abbrev pub ENOTTY : ℕ
ENOTTY = 25

-- document 02, No. 4: the line of an accepted command has no room in the journal
abbrev pub EFBIG : ℕ
EFBIG = 27

-- create with 16 nodes counted
abbrev pub ENOSPC : ℕ
ENOSPC = 28

-- next is a message with nb + 8 x nh over the room
abbrev pub ERANGE : ℕ
ERANGE = 34

-- 2^40 - 1 commands accepted already
abbrev pub EOVERFLOW : ℕ
EOVERFLOW = 75

-- send with nd over 8, nh over 8 or nb over 512
abbrev pub EMSGSIZE : ℕ
EMSGSIZE = 90

-- that peer disconnected; also open of it
abbrev pub ESHUTDOWN : ℕ
ESHUTDOWN = 108

-- destroy of, transfer of, or send to a node already destroyed
abbrev pub EHOSTUNREACH : ℕ
EHOSTUNREACH = 113

-- quota
abbrev pub EDQUOT : ℕ
EDQUOT = 122

-- The number of a refusal, an answer's first byte.
abbrev pub refusal_number : Refusal → ℕ
refusal_number refusal.EPERM = EPERM
refusal_number refusal.EIO = EIO
refusal_number refusal.ENXIO = ENXIO
refusal_number refusal.EBADF = EBADF
refusal_number refusal.EAGAIN = EAGAIN
refusal_number refusal.EEXIST = EEXIST
refusal_number refusal.EINVAL = EINVAL
refusal_number refusal.ENOTTY = ENOTTY
refusal_number refusal.EFBIG = EFBIG
refusal_number refusal.ENOSPC = ENOSPC
refusal_number refusal.ERANGE = ERANGE
refusal_number refusal.EOVERFLOW = EOVERFLOW
refusal_number refusal.EMSGSIZE = EMSGSIZE
refusal_number refusal.ESHUTDOWN = ESHUTDOWN
refusal_number refusal.EHOSTUNREACH = EHOSTUNREACH
refusal_number refusal.EDQUOT = EDQUOT

-- The number of what was done or refused: 0 where it was done.
abbrev pub refused : {A : Type 0} → Result A Refusal → ℕ
refused (Ok x) = 0
refused (Err r) = refusal_number r
