-- The bytes of a frame that say what its command is: "First byte the command, second the acting peer", and of a transfer the destination peer, byte 10.
-- Assumes nothing.
use Rattle.std.specs.Prelude.{ℕ, ◌%◌, ◌≡◌, refl, List, length, get_or, eqb, ltb, Ok, Err}
use Rattle.std.proofs.Common.{sym}
use Rattle.laws.specs.Tests.{pick_all}
use Rattle.ids.specs.declared.HandleId.{HandleId}
use Rattle.ids.specs.declared.Peer.{Peer}
use Rattle.frames.specs.declared.Command.{Command}
use Rattle.frames.specs.declared.Command.TheVariants.{Open, Disconnect, Create, Destroy, Release, Transfer, Send, Receive, Quota, Holders, ShowSeed}
use Rattle.ids.specs.declared.Refusal.TheVariants.{EINVAL, ENOTTY, EMSGSIZE}
use Rattle.frames.specs.Frame.{last_peer, last_user, peer_at, opcode, id_at, short_at, oversized, known, send_length, frame_length, parse_sizes, parse_send, parse_open, parse_create, parse_transfer, parse_quota, parse_rest, parse_other, parse, Parsed}
use Rattle.frames.specs.Fields.{Fields}
use Rattle.frames.proofs.Fields.{fields-command}

-- The byte of each command, and its acting peer.
abbrev pub code : Command → ℕ
code (Open p u) = 1
code (Disconnect p) = 2
code (Create p i) = 3
code (Destroy p i) = 4
code (Release p i) = 5
code (Transfer p i q) = 6
code (Send p z) = 7
code (Receive p r) = 8
code (Quota p u) = 9
code (Holders p i) = 10
code (ShowSeed p r) = 12

abbrev pub actor : Command → ℕ
actor (Open p u) = p.0
actor (Disconnect p) = p.0
actor (Create p i) = p.0
actor (Destroy p i) = p.0
actor (Release p i) = p.0
actor (Transfer p i q) = p.0
actor (Send p z) = p.0
actor (Receive p r) = p.0
actor (Quota p u) = p.0
actor (Holders p i) = p.0
actor (ShowSeed p r) = p.0

pub record Coded (f : List ℕ) (k : Command) : Type 0 where
  pub byte : opcode f ≡ code k
  pub peer : get_or f 1 0 ≡ actor k

of_fields : (f : List ℕ) (k : Command) → Fields f k → Coded f k
of_fields f (Open p u) h = record { byte = h.0.command; peer = sym h.0.peer }
of_fields f (Disconnect p) h = record { byte = h.command; peer = sym h.peer }
of_fields f (Create p i) h = record { byte = h.0.command; peer = sym h.0.peer }
of_fields f (Destroy p i) h = record { byte = h.0.command; peer = sym h.0.peer }
of_fields f (Release p i) h = record { byte = h.0.command; peer = sym h.0.peer }
of_fields f (Transfer p i q) h = record { byte = h.0.command; peer = sym h.0.peer }
of_fields f (Send p z) h = record { byte = h.command; peer = sym h.peer }
of_fields f (Receive p r) h = record { byte = h.command; peer = sym h.peer }
of_fields f (Quota p u) h = record { byte = h.0.command; peer = sym h.0.peer }
of_fields f (Holders p i) h = record { byte = h.0.command; peer = sym h.0.peer }
of_fields f (ShowSeed p r) h = record { byte = h.command; peer = sym h.peer }

-- A frame that was read.
pub coded : (f : List ℕ) (k : Command) → parse f ≡ Ok k → Coded f k
coded f k e = of_fields f k (fields-command f k e)

-- The destination peer of a transfer.
abbrev To : List ℕ → Parsed → Type 0
To f (Ok (Open p u)) = Unit {0}
To f (Ok (Disconnect p)) = Unit {0}
To f (Ok (Create p i)) = Unit {0}
To f (Ok (Destroy p i)) = Unit {0}
To f (Ok (Release p i)) = Unit {0}
To f (Ok (Transfer p i q)) = get_or f 10 0 ≡ q.0
To f (Ok (Send p z)) = Unit {0}
To f (Ok (Receive p r)) = Unit {0}
To f (Ok (Quota p u)) = Unit {0}
To f (Ok (Holders p i)) = Unit {0}
To f (Ok (ShowSeed p r)) = Unit {0}
To f (Err r) = Unit {0}

to-send : (f : List ℕ) → To f (parse_send f)
unfolding parse_send parse_sizes
to-send f =
    let nd = get_or f 2 0 in
    let nh = get_or f 3 0 in
    let nb = short_at f 4 in
    pick_all (To f) (ltb (length f) 6) (Err EINVAL) _ tt
    (pick_all (To f) (ltb last_peer (get_or f 1 0)) (Err EINVAL) _ tt
    (pick_all (To f) (oversized nd nh nb) (Err EMSGSIZE) _ tt (pick_all (To f) (eqb (length f) (send_length nd nh nb)) _ (Err EINVAL) tt tt)))

to-rest : (f : List ℕ) (op : ℕ) (p : Peer) → To f (parse_rest op p f)
unfolding parse_rest parse_open parse_create parse_transfer parse_quota
to-rest f op p =
    pick_all (To f) (eqb op 1) _ _ (pick_all (To f) (ltb last_user (get_or f 2 0)) (Err EINVAL) _ tt tt)
    (pick_all (To f) (eqb op 2) _ _ tt
    (pick_all (To f) (eqb op 3) _ _ (pick_all (To f) (eqb ((id_at f 2).0 % 4) 0) _ (Err EINVAL) tt tt)
    (pick_all (To f) (eqb op 4) _ _ tt
    (pick_all (To f) (eqb op 5) _ _ tt
    (pick_all (To f) (eqb op 6) _ _ (pick_all (To f) (ltb last_peer (get_or f 10 0)) (Err EINVAL) _ tt refl)
    (pick_all (To f) (eqb op 8) _ _ tt
    (pick_all (To f) (eqb op 9) _ _ (pick_all (To f) (ltb last_user (get_or f 2 0)) (Err EINVAL) _ tt tt)
    (pick_all (To f) (eqb op 12) _ _ tt tt))))))))

to-frame : (f : List ℕ) → To f (parse f)
unfolding parse parse_other
to-frame f =
    pick_all (To f) (eqb (length f) 0) (Err EINVAL) _ tt
    (pick_all (To f) (known (opcode f)) _ (Err ENOTTY)
    (pick_all (To f) (eqb (opcode f) 7) (parse_send f) (parse_other f) (to-send f)
    (pick_all (To f) (eqb (length f) (frame_length (opcode f))) _ (Err EINVAL)
    (pick_all (To f) (ltb last_peer (get_or f 1 0)) (Err EINVAL) _ tt (to-rest f (opcode f) (peer_at f 1)))
    tt))
    tt)

pub destination : (f : List ℕ) (p : Peer) (i : HandleId) (q : Peer) → parse f ≡ Ok (Transfer p i q) → get_or f 10 0 ≡ q.0
destination f p i q e = rw e at (to-frame f)
