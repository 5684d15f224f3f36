-- What holds of every command that the frame reader hands on, and that it refuses with no other number than 22, 25 and 90.
-- Callers use this law and never the text of `parse`.
-- Assumes nothing.
use Rattle.std.specs.Prelude.{ℕ, ◌%◌, ◌≤◌, ◌≡◌, refl, Bool, true, false, ◌⊎◌, List, length, get_or, eqb, ltb, Ok, Err}
use Rattle.std.proofs.Math.Logic.◌⊎◌.{inl, inr}
use Rattle.std.proofs.Common.{arith, length-drop, ltb-false, eqb-true}
use Rattle.ids.specs.declared.Refusal.TheVariants.{EINVAL, EMSGSIZE, ENOTTY}
use Rattle.laws.specs.Tests.{pick, pick-cases, pick_all, pick-else, clash}
use Rattle.ids.specs.declared.Peer.{Peer}
use Rattle.frames.specs.declared.Command.{Command}
use Rattle.frames.specs.declared.Command.TheVariants.{Open, Disconnect, Create, Destroy, Release, Transfer, Send, Receive, Quota, Holders, ShowSeed}
use Rattle.frames.specs.declared.Sizes.{Sizes}
use Rattle.frames.specs.Frame.{last_peer, last_user, most_ids, most_bytes, peer_at, opcode, id_at, short_at, oversized, send_length, frame_length, parse_sizes, parse_send, parse_open, parse_create, parse_transfer, parse_quota, parse_rest, parse_other, payload_of, Parsed}

-- The sizes of a send: as the frame has them, in document 01's bounds, and the frame is as long as they say.
pub record Sized (f : List ℕ) (z : Sizes) : Type 0 where
  pub destinations : z.nd ≡ get_or f 2 0
  pub attached : z.nh ≡ get_or f 3 0
  pub bytes : z.nb ≡ short_at f 4
  pub few : z.nd ≤ most_ids
  pub few-attached : z.nh ≤ most_ids
  pub small : z.nb ≤ most_bytes
  pub whole : length f ≡ send_length z.nd z.nh z.nb

-- Peers and users in their ranges, a chosen ID with its two low bits clear.
abbrev pub Legal : List ℕ → Command → Type 0
Legal f (Open p u) = (p.0 ≤ last_peer) × (u.0 ≤ last_user)
Legal f (Disconnect p) = p.0 ≤ last_peer
Legal f (Create p i) = (p.0 ≤ last_peer) × (i.0 % 4 ≡ 0)
Legal f (Destroy p i) = p.0 ≤ last_peer
Legal f (Release p i) = p.0 ≤ last_peer
Legal f (Transfer p i q) = (p.0 ≤ last_peer) × (q.0 ≤ last_peer)
Legal f (Send p z) = (p.0 ≤ last_peer) × Sized f z
Legal f (Receive p r) = p.0 ≤ last_peer
Legal f (Quota p u) = (p.0 ≤ last_peer) × (u.0 ≤ last_user)
Legal f (Holders p i) = p.0 ≤ last_peer
Legal f (ShowSeed p r) = p.0 ≤ last_peer

abbrev pub Outcome : List ℕ → Parsed → Type 0
Outcome f (Ok c) = Legal f c
Outcome f (Err r) = (r ≡ EINVAL) ⊎ ((r ≡ ENOTTY) ⊎ (r ≡ EMSGSIZE))

-- A choice between a refusal with EINVAL and what is left where its test failed.
invalid : (f : List ℕ) → Outcome f (Err EINVAL)
invalid f = inl refl

pub unless : (f : List ℕ) (bad : Bool) (r : Parsed) → (bad ≡ false → Outcome f r) → Outcome f (pick bad (Err EINVAL) r)
unless f bad r h = pick-cases (Outcome f) bad (Err EINVAL) r (λ e. invalid f) h

-- Numbers that are not oversized are in their bounds.
pub in_bounds : (nd nh nb : ℕ) → oversized nd nh nb ≡ false → (nd ≤ most_ids) × (nh ≤ most_ids) × (nb ≤ most_bytes)
in_bounds nd nh nb e =
    let a = pick-else (ltb most_ids nd) true false (λ z. clash z) e in
    let b = pick-else (ltb most_ids nh) true false (λ z. clash z) a.1 in
    (ltb-false most_ids nd a.0, ltb-false most_ids nh b.0, ltb-false most_bytes nb b.1)

pub legal-send : (f : List ℕ) → Outcome f (parse_send f)
unfolding parse_send parse_sizes
legal-send f =
    let p = get_or f 1 0 in
    let nd = get_or f 2 0 in
    let nh = get_or f 3 0 in
    let nb = short_at f 4 in
    unless f (ltb (length f) 6) _ (λ long.
    unless f (ltb last_peer p) _ (λ peer.
    pick-cases (Outcome f) (oversized nd nh nb) (Err EMSGSIZE) _ (λ over. inr (inr refl)) (λ sizes.
    pick-cases (Outcome f) (eqb (length f) (send_length nd nh nb)) _ (Err EINVAL) (λ whole.
    let b = in_bounds nd nh nb sizes in (
      ltb-false last_peer p peer,
      record {
        destinations = refl;
        attached = refl;
        bytes = refl;
        few = b.0;
        few-attached = b.1;
        small = b.2;
        whole = eqb-true (length f) (send_length nd nh nb) whole;
      },
    ))
    (λ other. invalid f))))

legal-rest : (f : List ℕ) (op : ℕ) (p : Peer) → p.0 ≤ last_peer → Outcome f (parse_rest op p f)
unfolding parse_rest parse_open parse_create parse_transfer parse_quota
legal-rest f op p h =
    pick_all (Outcome f) (eqb op 1) _ _ (unless f (ltb last_user (get_or f 2 0)) _ (λ e. (h, ltb-false last_user (get_or f 2 0) e)))
    (pick_all (Outcome f) (eqb op 2) _ _ h
    (pick_all (Outcome f) (eqb op 3) _ _ (pick-cases (Outcome f) (eqb ((id_at f 2).0 % 4) 0) _ (Err EINVAL) (λ e. (h, eqb-true ((id_at f 2).0 % 4) 0 e)) (λ e. invalid f))
    (pick_all (Outcome f) (eqb op 4) _ _ h
    (pick_all (Outcome f) (eqb op 5) _ _ h
    (pick_all (Outcome f) (eqb op 6) _ _ (unless f (ltb last_peer (get_or f 10 0)) _ (λ e. (h, ltb-false last_peer (get_or f 10 0) e)))
    (pick_all (Outcome f) (eqb op 8) _ _ h
    (pick_all (Outcome f) (eqb op 9) _ _ (unless f (ltb last_user (get_or f 2 0)) _ (λ e. (h, ltb-false last_user (get_or f 2 0) e)))
    (pick_all (Outcome f) (eqb op 12) _ _ h h))))))))

pub legal-other : (f : List ℕ) → Outcome f (parse_other f)
unfolding parse_other
legal-other f =
    pick_all (Outcome f) (eqb (length f) (frame_length (opcode f))) _ (Err EINVAL)
    (unless f (ltb last_peer (get_or f 1 0)) _ (λ e. legal-rest f (opcode f) (peer_at f 1) (ltb-false last_peer (get_or f 1 0) e)))
    (invalid f)

-- A send's payload has as many bytes as it says.
pub payload-length : (f : List ℕ) (z : Sizes) → Sized f z → length (payload_of f) ≡ z.nb
unfolding payload_of
payload-length f z s = rw (length-drop, ← s.destinations, ← s.attached) (omega (arith, s.whole))
