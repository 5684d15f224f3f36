-- A frame that is read has at most 646 bytes, those of the longest send: so its line has at most the 1,292 digits that a line may have.
-- Assumes nothing.
use Rattle.std.specs.Prelude.{ℕ, ◌≤◌, ◌≡◌, refl, List, length, get_or, eqb, ltb, Ok, Err}
use Rattle.std.proofs.Common.{arith, eqb-true}
use Rattle.ids.specs.declared.Refusal.TheVariants.{EINVAL, EMSGSIZE}
use Rattle.laws.specs.Tests.{pick-cases, pick_all}
use Rattle.frames.specs.Frame.{invalid_if, last_peer, most_ids, most_bytes, peer_at, opcode, short_at, oversized, send_length, frame_length, parse_sizes, parse_send, parse_rest, parse_other, Parsed}
use Rattle.frames.specs.Legal.{in_bounds}

-- "One send: 1 to 8 destinations, 0 to 8 attached handles, 0 to 512 payload bytes", and by 02 No. 1 a seed with none: the bytes of the longest.
abbrev pub longest_frame : ℕ
longest_frame = send_length most_ids most_ids most_bytes

pub longest-is : longest_frame ≡ 646
longest-is = refl

-- What is read of a frame has a frame of at most these bytes; a refusal says nothing of it.
abbrev pub Short : List ℕ → Parsed → Type 0
Short f (Ok c) = length f ≤ longest_frame
Short f (Err n) = Unit {0}

short-any : (f : List ℕ) → length f ≤ longest_frame → (r : Parsed) → Short f r
short-any f h (Ok c) = h
short-any f h (Err n) = tt

short-length : (op : ℕ) → frame_length op ≤ longest_frame
unfolding frame_length
short-length op =
    pick_all (λ (n : ℕ). n ≤ longest_frame) (eqb op 1) 3 _ (omega arith)
    (pick_all (λ (n : ℕ). n ≤ longest_frame) (eqb op 2) 2 _ (omega arith)
    (pick_all (λ (n : ℕ). n ≤ longest_frame) (eqb op 6) 11 _ (omega arith)
    (pick_all (λ (n : ℕ). n ≤ longest_frame) (eqb op 8) 4 _ (omega arith)
    (pick_all (λ (n : ℕ). n ≤ longest_frame) (eqb op 9) 3 _ (omega arith)
    (pick_all (λ (n : ℕ). n ≤ longest_frame) (eqb op 12) 4 10 (omega arith) (omega arith))))))

pub short-other : (f : List ℕ) → Short f (parse_other f)
unfolding parse_other
short-other f =
    pick-cases (Short f) (eqb (length f) (frame_length (opcode f))) _ (Err EINVAL)
    (λ e.
    let h : length f ≤ longest_frame = omega (arith, eqb-true (length f) (frame_length (opcode f)) e, short-length (opcode f)) in
    short-any f h (invalid_if (ltb last_peer (get_or f 1 0)) (parse_rest (opcode f) (peer_at f 1) f)))
    (λ e. tt)

pub short-send : (f : List ℕ) → Short f (parse_send f)
unfolding parse_send parse_sizes
short-send f =
    let nd = get_or f 2 0 in
    let nh = get_or f 3 0 in
    let nb = short_at f 4 in
    pick_all (Short f) (ltb (length f) 6) (Err EINVAL) _ tt
    (pick_all (Short f) (ltb last_peer (get_or f 1 0)) (Err EINVAL) _ tt
    (pick-cases (Short f) (oversized nd nh nb) (Err EMSGSIZE) _ (λ over. tt) (λ sizes.
    pick-cases (Short f) (eqb (length f) (send_length nd nh nb)) _ (Err EINVAL)
    (λ whole. let b = in_bounds nd nh nb sizes in omega (arith, b.0, b.1, b.2, eqb-true (length f) (send_length nd nh nb) whole))
    (λ other. tt))))
