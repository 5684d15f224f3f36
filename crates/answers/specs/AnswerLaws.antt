-- How long the parts of an answer are, and what stands where in its bytes: an ID, the kind of what was received, the attached IDs, the queued numbers.
-- Assumes nothing.
use Prim.Native.Nat.{ℕ, suc, ◌+◌, ◌*◌, ◌^◌, ◌≤◌, ◌<◌, min}
use Rattle.std.specs.Prelude.{◌≡◌, get_or, take}
use Rattle.std.proofs.Math.Path.{refl, ap}
use Rattle.std.proofs.Common.{sym, ap₂, ◌∙◌, arith, length-append, length-take, take_all}
use mathlib.Core.List.{List, [], ◌∷◌, ◌++◌, append_assoc, append-nil}
use Rattle.std.proofs.Math.ListN.{length}
use Rattle.laws.specs.Build.{build, build-ext}
use Rattle.laws.specs.Bytes.{be, num_at, be-length, be-two, be-eight, num-at}
use Rattle.laws.specs.Weights.{All}
use Rattle.ids.specs.declared.HandleId.{HandleId}
use Rattle.quota.specs.declared.Charge.{Charge}
use Rattle.quota.specs.declared.Balance.{Balance}
use Rattle.answers.specs.declared.Header.{Header}
use Rattle.answers.specs.declared.Received.{Received}
use Rattle.answers.specs.declared.Received.TheVariants.{Message, Destroyed, Released, Seed}
use Rattle.answers.specs.declared.Answer.{Answer}
use Rattle.answers.specs.declared.Answer.TheVariants.{Refused, Done, Transferred, Received as received, Quota, Holders}
use Rattle.answers.specs.Answer.{id_bytes, header_bytes, message_bytes, notice_bytes, received_bytes, charge_bytes, balance_bytes, holder_bytes, contents_of, answer_bytes, most_ids, most_bytes}

-- IDs, one after another
pub ids-length : (is : List ℕ) → length (id_bytes is) ≡ 8 * length is
unfolding id_bytes
ids-length [] = refl
ids-length (i ∷ is) = rw (length-append, be-length 8 i) (omega (arith, ids-length is))

pub ids-append : (is js : List ℕ) → id_bytes (is ++ js) ≡ id_bytes is ++ id_bytes js
unfolding id_bytes
ids-append [] js = refl
ids-append (i ∷ is) js = ap (λ (r : List ℕ). be 8 i ++ r) (ids-append is js) ∙ sym (append_assoc (be 8 i) (id_bytes is) (id_bytes js))

-- The parts' lengths
pub charge-length : (c : Charge) → length (charge_bytes c) ≡ 6
unfolding charge_bytes
charge-length c = rw (length-append, length-append, be-length 2 c.messages, be-length 2 c.bytes, be-length 2 c.handles)

pub balance-length : (b : Balance) → length (balance_bytes b) ≡ 12
unfolding balance_bytes
balance-length b = rw (length-append, charge-length b.queued, charge-length b.left)

pub header-length : (kind : ℕ) (h : Header) → length (header_bytes kind h) ≡ 14
unfolding header_bytes
header-length kind h = rw (length-append, length-append, be-length 8 h.to.0, be-length 2 h.nb)

pub message-length : (kind : ℕ) (h : Header) (is bs : List ℕ) → length (message_bytes kind h is bs) ≡ 14 + (8 * min most_ids (length is) + min most_bytes (length bs))
unfolding message_bytes
message-length kind h is bs = rw (length-append, length-append, header-length kind h, ids-length (take most_ids is), length-take, length-take)

pub notice-length : (kind : ℕ) (i : HandleId) → length (notice_bytes kind i) ≡ 9
unfolding notice_bytes
notice-length kind i = rw (be-length 8 i.0)

-- the longest is a message with 8 IDs and 512 bytes
pub received-size : (r : Received) (is bs : List ℕ) → length (received_bytes r is bs) ≤ 590
unfolding received_bytes
received-size (Message h) is bs = omega (arith, message-length 1 h is bs)
received-size (Destroyed i) is bs = omega (arith, notice-length 2 i)
received-size (Released i) is bs = omega (arith, notice-length 3 i)
received-size (Seed h) is bs = omega (arith, message-length 4 h is bs)

pub contents-size : (a : Answer) (is bs : List ℕ) → length (contents_of a is bs) ≤ 590
unfolding contents_of holder_bytes
contents-size (Refused n) is bs = omega arith
contents-size Done is bs = omega arith
contents-size (Transferred i) is bs = omega (arith, be-length 8 i.0)
contents-size (received r) is bs = received-size r is bs
contents-size (Quota b) is bs = omega (arith, balance-length b)
contents-size (Holders h) is bs = omega arith

-- IDs below 256 ^ 8 come back from their bytes, from the place n on.
pub ids_at : (xs is ys : List ℕ) (n : ℕ) → length xs ≡ n → All (λ i. i < 256 ^ 8) is → build (λ j. num_at (xs ++ (id_bytes is ++ ys)) (n + 8 * j) 8) (length is) ≡ is
unfolding id_bytes build
ids_at xs [] ys n e h = refl
ids_at xs (i ∷ is) ys n e h =
    let here : length xs ≡ n + 8 * 0 = omega arith in
    let next : length (xs ++ be 8 i) ≡ n + 8 = rw (length-append, be-length 8 i) (omega arith) in
    let split : xs ++ ((be 8 i ++ id_bytes is) ++ ys) ≡ (xs ++ be 8 i) ++ (id_bytes is ++ ys) = simp append_assoc in
    let place : (j : ℕ) → j < length is → num_at (xs ++ ((be 8 i ++ id_bytes is) ++ ys)) (n + 8 * suc j) 8 ≡ num_at ((xs ++ be 8 i) ++ (id_bytes is ++ ys)) (n + 8 + 8 * j) 8
    = λ j l. let p : n + 8 * suc j ≡ n + 8 + 8 * j = omega arith in rw (split, p) in
    ap₂ ◌∷◌ (rw append_assoc (num-at xs (id_bytes is ++ ys) (n + 8 * 0) 8 i here h.0)) (build-ext _ _ (length is) place ∙ ids_at (xs ++ be 8 i) is ys (n + 8) next h.1)

-- Transfer: the ID behind the 00.
pub transferred-id : (i : HandleId) (is bs : List ℕ) → i.0 < 256 ^ 8 → num_at (answer_bytes (Transferred i) is bs) 1 8 ≡ i.0
unfolding answer_bytes contents_of
transferred-id i is bs h = rw (sym (append-nil (be 8 i.0))) (num-at (0 ∷ []) [] 1 8 i.0 refl h)

-- Receive: 1, 2 or 3 behind the 00.
module _ (is bs : List ℕ) where
  pub message-kind : (h : Header) → get_or (answer_bytes (received (Message h)) is bs) 1 0 ≡ 1
  unfolding answer_bytes contents_of received_bytes message_bytes header_bytes
  message-kind h = refl

  pub destroyed-kind : (i : HandleId) → get_or (answer_bytes (received (Destroyed i)) is bs) 1 0 ≡ 2
  unfolding answer_bytes contents_of received_bytes notice_bytes
  destroyed-kind i = refl

  pub released-kind : (i : HandleId) → get_or (answer_bytes (received (Released i)) is bs) 1 0 ≡ 3
  unfolding answer_bytes contents_of received_bytes notice_bytes
  released-kind i = refl

-- A message: how many IDs it has at the place 14, and behind that the IDs.
module _ (h : Header) (is bs : List ℕ) (few : length is ≤ 8) where
  pub message-count : h.nh ≡ length is → get_or (answer_bytes (received (Message h)) is bs) 14 0 ≡ length is
  unfolding answer_bytes contents_of received_bytes message_bytes header_bytes
  message-count e = rw (be-eight h.to.0, be-two h.nb) (omega arith)

  pub message-ids : All (λ i. i < 256 ^ 8) is → build (λ j. num_at (answer_bytes (received (Message h)) is bs) (15 + 8 * j) 8) (length is) ≡ is
  unfolding answer_bytes contents_of received_bytes message_bytes
  message-ids a = rw (take_all 8 is few) (ids_at (0 ∷ header_bytes 1 h) is (take most_bytes bs) 15 (ap suc (header-length 1 h)) a)

-- A seed, as a message.
module _ (h : Header) (is bs : List ℕ) (few : length is ≤ 8) where
  pub seed-count : h.nh ≡ length is → get_or (answer_bytes (received (Seed h)) is bs) 14 0 ≡ length is
  unfolding answer_bytes contents_of received_bytes message_bytes header_bytes
  seed-count e = rw (be-eight h.to.0, be-two h.nb) (omega arith)

  pub seed-ids-at : All (λ i. i < 256 ^ 8) is → build (λ j. num_at (answer_bytes (received (Seed h)) is bs) (15 + 8 * j) 8) (length is) ≡ is
  unfolding answer_bytes contents_of received_bytes message_bytes
  seed-ids-at a = rw (take_all 8 is few) (ids_at (0 ∷ header_bytes 4 h) is (take most_bytes bs) 15 (ap suc (header-length 4 h)) a)

-- The quota question: the queued messages, bytes and handles.
module _ (b : Balance) (is bs : List ℕ) where
  pub quota-messages : b.queued.messages < 65536 → num_at (answer_bytes (Quota b) is bs) 1 2 ≡ b.queued.messages
  unfolding answer_bytes contents_of balance_bytes charge_bytes
  quota-messages h =
      rw append_assoc (num-at (0 ∷ []) ((be 2 b.queued.bytes ++ be 2 b.queued.handles) ++ charge_bytes b.left) 1 2 b.queued.messages refl h)

  pub quota-bytes : b.queued.bytes < 65536 → num_at (answer_bytes (Quota b) is bs) 3 2 ≡ b.queued.bytes
  unfolding answer_bytes contents_of balance_bytes charge_bytes
  quota-bytes h =
      let m = be 2 b.queued.messages in
      rw (append_assoc, append_assoc)
      (num-at (0 ∷ m) (be 2 b.queued.handles ++ charge_bytes b.left) 3 2 b.queued.bytes (ap suc (be-length 2 b.queued.messages)) h)

  pub quota-handles : b.queued.handles < 65536 → num_at (answer_bytes (Quota b) is bs) 5 2 ≡ b.queued.handles
  unfolding answer_bytes contents_of balance_bytes charge_bytes
  quota-handles h =
      let m = be 2 b.queued.messages in
      let n = be 2 b.queued.bytes in
      let e : length (m ++ n) ≡ 4 = rw (length-append, be-length 2 b.queued.messages, be-length 2 b.queued.bytes) in
      let f : (m ++ (n ++ be 2 b.queued.handles)) ++ charge_bytes b.left ≡ (m ++ n) ++ (be 2 b.queued.handles ++ charge_bytes b.left) = simp append_assoc in
      ap (λ (l : List ℕ). num_at (0 ∷ l) 5 2) f ∙ num-at (0 ∷ m ++ n) (charge_bytes b.left) 5 2 b.queued.handles (ap suc e) h
