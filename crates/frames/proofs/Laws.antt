-- The frame reader's definitions from what its functions have tested: one law for each way out of a function that calls others.
-- Assumes nothing.
use Prim.Native.Nat.{ℕ, ◌+◌, ◌*◌, ◌-◌, ◌%◌, ◌^◌, ◌≤◌, ◌<◌, min}
use mathlib.Core.Path.{◌≡◌, sym, ◌∙◌}
use mathlib.Core.Bool.{Bool, true, false}
use mathlib.Core.List.{List}
use native.Mathlib.Omega.{arith}
use lib.ListN.{length, get_or, take, drop, length-drop, drop_of_length-le}
use lib.Seq.{take_all, drop-length, get_or-take, get_or-drop}
use lib.Dec.{eqb, ltb}
use borrow.Author.Tests.{ne_eqb, eq-eqb, le-ltb, lt-ltb, le-leb, lt-leb}
use Rattle.std.specs.Prelude.{Ok, Err, IsErrAnd}
use Rattle.std.specs.Int.{w64, from_be_bytes}
use Rattle.std.proofs.Common.{add-zero, ltb-true, ltb-false}
use Rattle.std.proofs.lemmas.Result.{err_from_is_err_and}
use Rattle.std.proofs.Math.Nat.{min-eq_left, min-eq_right}
use Rattle.ids.specs.declared.Refusal.{Refusal}
use Rattle.ids.specs.declared.Refusal.TheVariants.{EINVAL, EMSGSIZE, ENOTTY}
use Rattle.laws.specs.Bytes.{num_at, num-four, num-eight}
use Rattle.laws.specs.Tests.{pick_all, Seen, Seen.is_true, Seen.is_false, look}
use Rattle.ids.specs.declared.Peer.{Peer}
use Rattle.ids.specs.declared.HandleId.{HandleId}
use Rattle.ids.specs.declared.User.{User}
use Rattle.frames.specs.declared.Sizes.{Sizes}
use Rattle.frames.specs.declared.Command.TheVariants.{Open, Transfer, Send, Quota, Holders}
use Rattle.frames.specs.Frame.{oversized, invalid_id, id_at, short_at, parse_sizes, parse_send, frame_length, parse_open, parse_transfer, parse_quota, parse_rest, parse_other, known, parse, send_id, payload_of, Parsed}

-- What a `?` hands on: the refusal that it got.
pub passed : (r : Parsed) (e : Refusal) → IsErrAnd r (λ y. y ≡ e) → e ≡ EINVAL → r ≡ Err EINVAL
passed r e h k = let p = err_from_is_err_and r h in rw (p.1, p.2, k)

-- The eight bytes of a part of the frame are those of the frame from its beginning on.
id-byte : (f ys : List ℕ) (at i : ℕ) → ys ≡ take (at + 8 - at) (drop at f) → i < 8 → get_or ys i 0 ≡ get_or f (at + i) 0
id-byte f ys at i e h = rw e (get_or-take (at + 8 - at) (drop at f) i 0 (omega arith) ∙ get_or-drop at f i 0)

pub id-of : (f : List ℕ) (at : ℕ) (ys : List ℕ) (n : ℕ) → ys ≡ take (at + 8 - at) (drop at f) → n ≡ from_be_bytes w64 ys → n < 18446744073709551616 → ◌≡◌ {A = HandleId} (record { 0 = n }) (id_at f at)
unfolding id_at
id-of f at ys n e b l =
    let x0 = id-byte f ys at 0 e (omega arith) in
    let x1 = id-byte f ys at 1 e (omega arith) in
    let x2 = id-byte f ys at 2 e (omega arith) in
    let x3 = id-byte f ys at 3 e (omega arith) in
    let x4 = id-byte f ys at 4 e (omega arith) in
    let x5 = id-byte f ys at 5 e (omega arith) in
    let x6 = id-byte f ys at 6 e (omega arith) in
    let x7 = id-byte f ys at 7 e (omega arith) in
    let y5 : at + 4 + 1 ≡ at + 5 = omega arith in
    let y6 : at + 4 + 2 ≡ at + 6 = omega arith in
    let y7 : at + 4 + 3 ≡ at + 7 = omega arith in
    let low : num_at f (at + 4) 4 ≡ ((get_or f (at + 4) 0 * 256 + get_or f (at + 5) 0) * 256 + get_or f (at + 6) 0) * 256 + get_or f (at + 7) 0 = num-four f (at + 4) ∙ rw (y5, y6, y7) in
    let same : n ≡ num_at f at 8 = omega (arith, b, num-eight f at, num-four f at, low, rw (add-zero at) at x0, x1, x2, x3, x4, x5, x6, x7) in
    let small : num_at f at 8 % 256 ^ 8 ≡ num_at f at 8 = omega (arith, same, l) in
    rw (small, same)

-- A send's numbers, from what was tested of them.
module _ (n p nd nh nb : ℕ) (over : Bool) (e : over ≡ oversized nd nh nb) where
  pub sizes-peer : 7 < p → Err EINVAL ≡ parse_sizes n p nd nh nb
  unfolding parse_sizes
  sizes-peer h = rw (lt-ltb 7 p h)

  pub sizes-over : p ≤ 7 → over ≡ true → Err EMSGSIZE ≡ parse_sizes n p nd nh nb
  unfolding parse_sizes
  sizes-over h t = rw (le-ltb 7 p h, ← e, t)

  pub sizes-length : p ≤ 7 → over ≡ false → (n ≡ 6 + 8 * (nd + nh) + nb → ⊥) → Err EINVAL ≡ parse_sizes n p nd nh nb
  unfolding parse_sizes
  sizes-length h t l = rw (le-ltb 7 p h, ← e, t, ne_eqb n (6 + 8 * (nd + nh) + nb) l)

  pub sizes-read : p ≤ 7 → over ≡ false → n ≡ 6 + 8 * (nd + nh) + nb →
      Ok (Send (record { 0 = p }) (record { nd = nd; nh = nh; nb = nb })) ≡ parse_sizes n p nd nh nb
  unfolding parse_sizes
  sizes-read h t l = rw (le-ltb 7 p h, ← e, t, eq-eqb n (6 + 8 * (nd + nh) + nb) l)

module _ (f : List ℕ) where
  pub send-short : length f < 6 → Err EINVAL ≡ parse_send f
  unfolding parse_send
  send-short h = rw (lt-ltb _ _ h)

  pub send-sizes : (r : Parsed) (nb : ℕ) → 6 ≤ length f → nb ≡ short_at f 4 → r ≡ parse_sizes (length f) (get_or f 1 0) (get_or f 2 0) (get_or f 3 0) nb → r ≡ parse_send f
  unfolding parse_send
  send-sizes r nb h e k = rw (le-ltb _ _ h, ← e) k

  pub send-peer : {r : Parsed} → 6 ≤ length f → 7 < get_or f 1 0 → r ≡ Err EINVAL → r ≡ parse_send f
  unfolding parse_send parse_sizes
  send-peer l h e = rw (le-ltb _ _ l, lt-ltb 7 (get_or f 1 0) h) e

  -- of a frame that is long enough, from a peer of the bus, with these numbers
  module _ (p : Peer) (z : Sizes) (l : 6 ≤ length f) (at : (p.0 ≡ get_or f 1 0) × (get_or f 1 0 ≤ 7)) (nd : z.nd ≡ get_or f 2 0) (nh : z.nh ≡ get_or f 3 0) (nb : z.nb ≡ short_at f 4) where
    pub send-over : oversized z.nd z.nh z.nb ≡ true → Err EMSGSIZE ≡ parse_send f
    unfolding parse_send parse_sizes
    send-over o = rw (le-ltb _ _ l, le-ltb 7 (get_or f 1 0) at.1, ← nd, ← nh, ← nb, o)

    pub send-length : oversized z.nd z.nh z.nb ≡ false → (length f ≡ 6 + 8 * (z.nd + z.nh) + z.nb → ⊥) → Err EINVAL ≡ parse_send f
    unfolding parse_send parse_sizes
    send-length o h = rw (le-ltb _ _ l, le-ltb 7 (get_or f 1 0) at.1, ← nd, ← nh, ← nb, o, ne_eqb (length f) (6 + 8 * (z.nd + z.nh) + z.nb) h)

    pub send-read : oversized z.nd z.nh z.nb ≡ false → length f ≡ 6 + 8 * (z.nd + z.nh) + z.nb → Ok (Send p z) ≡ parse_send f
    unfolding parse_send parse_sizes
    send-read o h = rw (le-ltb _ _ l, le-ltb 7 (get_or f 1 0) at.1, ← nd, ← nh, ← nb, ← at.0, o, eq-eqb (length f) (6 + 8 * (z.nd + z.nh) + z.nb) h)

  pub other_length : (n : ℕ) → n ≡ frame_length (get_or f 0 0) → (length f ≡ n → ⊥) → Err EINVAL ≡ parse_other f
  unfolding parse_other
  other_length n e h = rw (← e, ne_eqb (length f) n h)

  pub other-peer : {r : Parsed} (n : ℕ) → n ≡ frame_length (get_or f 0 0) → length f ≡ n → 7 < get_or f 1 0 → r ≡ Err EINVAL → r ≡ parse_other f
  unfolding parse_other
  other-peer n e h k t = rw (← e, eq-eqb (length f) n h, lt-ltb 7 (get_or f 1 0) k) t

  pub other-rest : (n : ℕ) (p : Peer) (r : Parsed) → n ≡ frame_length (get_or f 0 0) → length f ≡ n → (p.0 ≡ get_or f 1 0) × (get_or f 1 0 ≤ 7) → r ≡ parse_rest (get_or f 0 0) p f → r ≡ parse_other f
  unfolding parse_other
  other-rest n p r e h at t = rw (← e, eq-eqb (length f) n h, le-ltb 7 (get_or f 1 0) at.1, ← at.0) t

-- The length of a frame of a known command.
pub sized : (n op k : ℕ) → n ≡ frame_length op → op ≡ k → n ≡ frame_length k
sized n op k h e = rw (← e) h

pub sized-else : (n op : ℕ) → n ≡ frame_length op → (op ≡ 1 → ⊥) → (op ≡ 2 → ⊥) → (op ≡ 6 → ⊥) → (op ≡ 8 → ⊥) → (op ≡ 9 → ⊥) → (op ≡ 12 → ⊥) → n ≡ 10
unfolding frame_length
sized-else n op h a b c d e g = rw (ne_eqb op 1 a, ne_eqb op 2 b, ne_eqb op 6 c, ne_eqb op 8 d, ne_eqb op 9 e, ne_eqb op 12 g) at h

pub length_else : (op : ℕ) → (op ≡ 1 → ⊥) → (op ≡ 2 → ⊥) → (op ≡ 6 → ⊥) → (op ≡ 8 → ⊥) → (op ≡ 9 → ⊥) → (op ≡ 12 → ⊥) → 10 ≡ frame_length op
unfolding frame_length
length_else op a b c d e g = rw (ne_eqb op 1 a, ne_eqb op 2 b, ne_eqb op 6 c, ne_eqb op 8 d, ne_eqb op 9 e, ne_eqb op 12 g)

pub two_bytes : (n op : ℕ) → n ≡ frame_length op → 2 ≤ n
unfolding frame_length
two_bytes n op e =
    let least : ℕ → Type 0 = λ m. 2 ≤ m in
    rw e
    (pick_all least (eqb op 1) 3 _ (omega arith)
    (pick_all least (eqb op 2) 2 _ (omega arith)
    (pick_all least (eqb op 6) 11 _ (omega arith)
    (pick_all least (eqb op 8) 4 _ (omega arith)
    (pick_all least (eqb op 9) 3 _ (omega arith)
    (pick_all least (eqb op 12) 4 10 (omega arith) (omega arith)))))))

-- The commands with a user or a second peer: in its range, and past it.
module _ {op : ℕ} (p : Peer) (f : List ℕ) where
  pub rest-open-user : {r : Parsed} → op ≡ 1 → 3 < get_or f 2 0 → r ≡ Err EINVAL → r ≡ parse_rest op p f
  unfolding parse_rest parse_open
  rest-open-user e h t = rw (e, lt-ltb 3 (get_or f 2 0) h) t

  pub rest-open : op ≡ 1 → (u : User) → (u.0 ≡ get_or f 2 0) × (get_or f 2 0 ≤ 3) → Ok (Open p u) ≡ parse_rest op p f
  unfolding parse_rest parse_open
  rest-open e u h = rw (e, le-ltb 3 (get_or f 2 0) h.1, ← h.0)

  pub rest-transfer-peer : {r : Parsed} → op ≡ 6 → 7 < get_or f 10 0 → r ≡ Err EINVAL → r ≡ parse_rest op p f
  unfolding parse_rest parse_transfer
  rest-transfer-peer e h t = rw (e, lt-ltb 7 (get_or f 10 0) h) t

  pub rest-transfer : op ≡ 6 → (i : HandleId) (q : Peer) → i ≡ id_at f 2 → (q.0 ≡ get_or f 10 0) × (get_or f 10 0 ≤ 7) → Ok (Transfer p i q) ≡ parse_rest op p f
  unfolding parse_rest parse_transfer
  rest-transfer e i q a h = rw (e, le-ltb 7 (get_or f 10 0) h.1, ← h.0, ← a)

  pub rest-quota-user : {r : Parsed} → op ≡ 9 → 3 < get_or f 2 0 → r ≡ Err EINVAL → r ≡ parse_rest op p f
  unfolding parse_rest parse_quota
  rest-quota-user e h t = rw (e, lt-ltb 3 (get_or f 2 0) h) t

  pub rest-quota : op ≡ 9 → (u : User) → (u.0 ≡ get_or f 2 0) × (get_or f 2 0 ≤ 3) → Ok (Quota p u) ≡ parse_rest op p f
  unfolding parse_rest parse_quota
  rest-quota e u h = rw (e, le-ltb 3 (get_or f 2 0) h.1, ← h.0)

-- The holders question is what is left of the commands.
pub rest-else : (op : ℕ) (p : Peer) (f : List ℕ) → (op ≡ 1 → ⊥) → (op ≡ 2 → ⊥) → (op ≡ 3 → ⊥) → (op ≡ 4 → ⊥) → (op ≡ 5 → ⊥) → (op ≡ 6 → ⊥) → (op ≡ 8 → ⊥) →
    (op ≡ 9 → ⊥) → (op ≡ 12 → ⊥) → (i : HandleId) → i ≡ id_at f 2 → Ok (Holders p i) ≡ parse_rest op p f
unfolding parse_rest
rest-else op p f a b c d e g h j k i t =
    rw (ne_eqb op 1 a, ne_eqb op 2 b, ne_eqb op 3 c, ne_eqb op 4 d, ne_eqb op 5 e, ne_eqb op 6 g, ne_eqb op 8 h, ne_eqb op 9 j, ne_eqb op 12 k, ← t)

module _ (f : List ℕ) where
  pub parse-empty : true ≡ eqb (length f) 0 → Err EINVAL ≡ parse f
  unfolding parse
  parse-empty h = rw (← h)

  pub parse-unknown : false ≡ eqb (length f) 0 → false ≡ known (get_or f 0 0) → Err ENOTTY ≡ parse f
  unfolding parse
  parse-unknown h k = rw (← h, ← k)

  pub parse-send : (r : Parsed) → false ≡ eqb (length f) 0 → true ≡ known (get_or f 0 0) → get_or f 0 0 ≡ 7 → r ≡ parse_send f → r ≡ parse f
  unfolding parse
  parse-send r h k e t = rw (← h, ← k, eq-eqb (get_or f 0 0) 7 e) t

  pub parse-zero : (length f ≡ 0 → ⊥) → get_or f 0 0 ≡ 0 → Err ENOTTY ≡ parse f
  unfolding parse
  parse-zero h e = rw (ne_eqb (length f) 0 h, e)

  pub parse-eleven : (length f ≡ 0 → ⊥) → get_or f 0 0 ≡ 11 → Err ENOTTY ≡ parse f
  unfolding parse
  parse-eleven h e = rw (ne_eqb (length f) 0 h, e)

  pub parse-over : (length f ≡ 0 → ⊥) → (get_or f 0 0 ≡ 0 → ⊥) → (get_or f 0 0 ≡ 11 → ⊥) → 12 < get_or f 0 0 → Err ENOTTY ≡ parse f
  unfolding parse
  parse-over h z y e = rw (ne_eqb (length f) 0 h, ne_eqb (get_or f 0 0) 0 z, ne_eqb (get_or f 0 0) 11 y, lt-leb (get_or f 0 0) 12 e)

  pub parse-other : (r : Parsed) → false ≡ eqb (length f) 0 → true ≡ known (get_or f 0 0) → (get_or f 0 0 ≡ 7 → ⊥) → r ≡ parse_other f → r ≡ parse f
  unfolding parse
  parse-other r h k e t = rw (← h, ← k, ne_eqb (get_or f 0 0) 7 e) t

  pub id-past : (k : ℕ) → length f < 14 + 8 * k → invalid_id ≡ send_id f k
  unfolding send_id
  id-past k h = rw (lt-leb (14 + 8 * k) (length f) h)

  pub id-within : (k : ℕ) (i : HandleId) → 14 + 8 * k ≤ length f → i ≡ id_at f (6 + 8 * k) → i ≡ send_id f k
  unfolding send_id
  id-within k i h e = rw (le-leb (14 + 8 * k) (length f) h) e

  -- a part of the frame from a to its end
  to_end : (a : ℕ) → take (length f - a) (drop a f) ≡ drop a f
  to_end a = take_all (length f - a) (drop a f) (rw length-drop (omega arith))

  pub payload-none : length f < 6 + 8 * (get_or f 2 0 + get_or f 3 0) → take (length f - length f) (drop (length f) f) ≡ payload_of f
  unfolding payload_of
  payload-none h =
      let l : length f ≤ 6 + 8 * (get_or f 2 0 + get_or f 3 0) = omega arith in
      to_end (length f) ∙ drop-length f ∙ sym (drop_of_length-le f l)

  -- from the end of the lists, or from the frame's end where that comes first
  pub payload-part : (d h a : ℕ) → d ≡ get_or f 2 0 → h ≡ get_or f 3 0 → a ≡ min (6 + 8 * (d + h)) (length f) → take (length f - a) (drop a f) ≡ payload_of f
  unfolding payload_of
  payload-part d h a e k m = rw (← e, ← k) (go (look (ltb (length f) (6 + 8 * (d + h)))))
    where
      go : Seen (ltb (length f) (6 + 8 * (d + h))) → take (length f - a) (drop a f) ≡ drop (6 + 8 * (d + h)) f
      go (is_true t) =
          let l : length f ≤ 6 + 8 * (d + h) = omega (arith, ltb-true (length f) (6 + 8 * (d + h)) t) in
          rw (m, min-eq_right l) (to_end (length f) ∙ drop-length f ∙ sym (drop_of_length-le f l))
      go (is_false t) = rw (m, min-eq_left (ltb-false (length f) (6 + 8 * (d + h)) t)) (to_end (6 + 8 * (d + h)))
