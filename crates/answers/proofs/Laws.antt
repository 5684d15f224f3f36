-- The answers' definitions as runs of stores: each piece behind the one before it.
-- Assumes nothing.
use Prim.Native.Nat.{ℕ, suc, ◌+◌, ◌*◌, ◌/◌, ◌%◌, ◌≤◌, ◌<◌, min}
use mathlib.Core.Path.{◌≡◌, refl, ap, ◌∙◌}
use mathlib.Core.Logic.{◌⊎◌, inl, inr}
use Rattle.std.specs.Prelude.{Bool, true, false}
use Rattle.std.specs.Int.{from_bool, w16, w64, to_be_bytes}
use mathlib.Core.List.{List, [], ◌∷◌, ◌++◌, append-nil}
use native.Mathlib.Omega.{arith}
use native.Mathlib.Numerals.{add-one}
use lib.ListN.{length, get_or, take, set, length-take}
use lib.Seq.{sets, take-suc, length-take-le}
use borrow.Author.Tests.{lt-ltb, le-ltb}
use Rattle.ids.specs.Refusals.{EINVAL}
use Rattle.laws.specs.Bytes.{be, be-two, be-eight, be-length}
use Rattle.laws.specs.Stores.{sets_then, over, take_min}
use Rattle.copies.proofs.Parts.{part-sets}
use Rattle.quota.specs.declared.Charge.{Charge}
use Rattle.quota.specs.declared.Balance.{Balance}
use Rattle.answers.specs.declared.Header.{Header}
use Rattle.answers.specs.declared.Answer.{Answer}
use Rattle.answers.specs.declared.Received.{Received}
use Rattle.answers.specs.declared.Answer.TheVariants.{Refused, Done, Transferred, Received as received, Quota, Holders}
use Rattle.answers.specs.declared.Outcome.{Outcome}
use Rattle.answers.specs.AnswerLaws.{ids-length, ids-append, charge-length, balance-length, notice-length, header-length, message-length, contents-size}
use Rattle.answers.specs.Answer.{id_bytes, bit, header_bytes, message_bytes, charge_bytes, balance_bytes, number_of, contents_of, answer_bytes, answer_after, outcome_of, answer_size, most_ids, most_bytes}

-- a number's bytes stored one by one
pub two-stores : (o : List ℕ) (t x : ℕ) → set (set o t (x / 256 % 256)) (t + 1) (x % 256) ≡ sets o t (be 2 x)
two-stores o t x = let e : t + 1 ≡ suc t = omega arith in rw (be-two x, e)

pub eight-stores : (o : List ℕ) (t x : ℕ) →
    set
    (set
    (set
    (set
    (set
    (set (set (set o t (x / 72057594037927936 % 256)) (t + 1) (x / 281474976710656 % 256)) (t + 2) (x / 1099511627776 % 256))
    (t + 3)
    (x / 4294967296 % 256))
    (t + 4)
    (x / 16777216 % 256))
    (t + 5)
    (x / 65536 % 256))
    (t + 6)
    (x / 256 % 256))
    (t + 7)
    (x % 256)
    ≡ sets o t (be 8 x)
eight-stores o t x =
    let e1 : t + 1 ≡ suc t = omega arith in
    let e2 : t + 2 ≡ suc (suc t) = omega arith in
    let e3 : t + 3 ≡ suc (suc (suc t)) = omega arith in
    let e4 : t + 4 ≡ suc (suc (suc (suc t))) = omega arith in
    let e5 : t + 5 ≡ suc (suc (suc (suc (suc t)))) = omega arith in
    let e6 : t + 6 ≡ suc (suc (suc (suc (suc (suc t))))) = omega arith in
    let e7 : t + 7 ≡ suc (suc (suc (suc (suc (suc (suc t)))))) = omega arith in
    rw (be-eight x, e1, e2, e3, e4, e5, e6, e7)

-- the library's bytes of a number are those of `be`
pub two-bytes : (x : ℕ) → to_be_bytes w16 x ≡ be 2 x
two-bytes x = rw (be-two x)

pub eight-bytes : (x : ℕ) → to_be_bytes w64 x ≡ be 8 x
eight-bytes x = rw (be-eight x)

-- IDs, one after another
pub ids_next : (o o₁ o₂ is : List ℕ) (at k j : ℕ) → k < length is → o₁ ≡ sets o at (id_bytes (take k is)) → j ≡ at + 8 * k →
    o₂ ≡ sets o₁ j (be 8 (get_or is k 0)) → o₂ ≡ sets o at (id_bytes (take (k + 1) is))
unfolding id_bytes
ids_next o o₁ o₂ is at k j h e f g =
    let n : length (id_bytes (take k is)) ≡ 8 * k = ids-length (take k is) ∙ ap (λ (m : ℕ). 8 * m) (length-take-le k is (omega arith)) in
    let s : take (k + 1) is ≡ take k is ++ (get_or is k 0 ∷ []) = rw add-one (take-suc is k 0 h) in
    let t : id_bytes (take (k + 1) is) ≡ id_bytes (take k is) ++ be 8 (get_or is k 0)
    = ap id_bytes s ∙ ids-append (take k is) (get_or is k 0 ∷ []) ∙ ap (λ (r : List ℕ). id_bytes (take k is) ++ r) (append-nil (be 8 (get_or is k 0))) in
    rw t (sets_then o o₁ o₂ at j (id_bytes (take k is)) (be 8 (get_or is k 0)) e (rw n f) g)

-- three numbers of two bytes
module _ (o o₁ o₂ o₃ : List ℕ) (at a b : ℕ) (c : Charge) where
  pub charge-stores : o₁ ≡ sets o at (be 2 c.messages) → a ≡ at + 2 → o₂ ≡ sets o₁ a (be 2 c.bytes) → b ≡ a + 2 → o₃ ≡ sets o₂ b (be 2 c.handles) →
      o₃ ≡ sets o at (charge_bytes c)
  unfolding charge_bytes
  charge-stores e f g h k =
      sets_then o o₁ o₃ at a (be 2 c.messages) (be 2 c.bytes ++ be 2 c.handles) e (rw (be-length 2 c.messages) f)
      (sets_then o₁ o₂ o₃ a b (be 2 c.bytes) (be 2 c.handles) g (rw (be-length 2 c.bytes) h) k)

pub balance-stores : (o o₁ o₂ : List ℕ) (at : ℕ) (b : Balance) → o₁ ≡ sets o 1 (charge_bytes b.queued) → at ≡ 1 + 6 → o₂ ≡ sets o₁ at (charge_bytes b.left) →
    o₂ ≡ sets o 1 (balance_bytes b)
unfolding balance_bytes
balance-stores o o₁ o₂ at b e f g = sets_then o o₁ o₂ 1 at (charge_bytes b.queued) (charge_bytes b.left) e (rw (charge-length b.queued) f) g

-- the two lowest bytes of a length, and a flag's byte
be-short : (x : ℕ) → be 2 (x % 65536) ≡ be 2 x
be-short x =
    let h : x % 65536 / 256 % 256 ≡ x / 256 % 256 = omega arith in
    let l : x % 65536 % 256 ≡ x % 256 = omega arith in
    rw (be-two x, be-two (x % 65536), h, l)

bit-byte : (b : Bool) → from_bool b ≡ bit b
bit-byte true = refl
bit-byte false = refl

-- the header: a byte, an ID, two bytes, a number of two bytes, a byte
pub header-stores : (o o₁ o₂ : List ℕ) (at end kind flag : ℕ) (h : Header) → flag ≡ from_bool h.flag → o₁ ≡ sets (set o 1 kind) 2 (be 8 h.to.0) → at ≡ 2 + 8 →
    o₂ ≡ sets (set (set o₁ at (h.user.0 % 256)) (at + 1) flag) (at + 2) (be 2 (h.nb % 65536)) → end ≡ at + 2 + 2 →
    set o₂ end (h.nh % 256) ≡ sets o 1 (header_bytes kind h)
unfolding header_bytes
header-stores o o₁ o₂ at end kind flag h b e f g k =
    let t : flag ≡ bit h.flag = b ∙ bit-byte h.flag in
    let i : at ≡ 10 = omega arith in
    let j : end ≡ 14 = omega arith in
    let u : o₂ ≡ sets (set (set o₁ 10 (h.user.0 % 256)) 11 (bit h.flag)) 12 (be 2 h.nb) = rw (i, t, be-short h.nb) at g in
    rw j
    (sets_then (set o 1 kind) o₁ (set o₂ 14 (h.nh % 256)) 2 10 (be 8 h.to.0) (h.user.0 % 256 ∷ bit h.flag ∷ be 2 h.nb ++ (h.nh % 256 ∷ [])) e
    (rw (be-length 8 h.to.0))
    (sets_then (set (set o₁ 10 (h.user.0 % 256)) 11 (bit h.flag)) o₂ (set o₂ 14 (h.nh % 256)) 12 14 (be 2 h.nb) (h.nh % 256 ∷ []) u
    (rw (be-length 2 h.nb))
    refl))

-- a message: the header, at most 8 IDs, at most 512 bytes
module _ (kind : ℕ) (h : Header) (is bs : List ℕ) where
  pub message-stores : (o o₁ o₂ o₃ : List ℕ) (at end n m : ℕ) → o₁ ≡ sets o 1 (header_bytes kind h) → at ≡ 15 → n ≡ min (length is) most_ids →
      o₂ ≡ sets o₁ at (id_bytes (take n is)) → end ≡ at + 8 * length (take n is) → m ≡ min (length bs) most_bytes → o₃ ≡ sets o₂ end (take m bs) →
      o₃ ≡ sets o 1 (message_bytes kind h is bs)
  unfolding message_bytes
  message-stores o o₁ o₂ o₃ at end n m e f i g j k l =
      let t : take n is ≡ take most_ids is = rw i (take_min most_ids is) in
      let s : take m bs ≡ take most_bytes bs = rw k (take_min most_bytes bs) in
      sets_then o o₁ o₃ 1 at (header_bytes kind h) (id_bytes (take most_ids is) ++ take most_bytes bs) e (rw (header-length kind h) f)
      (sets_then o₁ o₂ o₃ at end (id_bytes (take most_ids is)) (take most_bytes bs) (rw t at g) (rw (ids-length (take most_ids is)) (rw t at j)) (rw s at l))

  pub message-end : (at end n m r : ℕ) → at ≡ 15 → n ≡ min (length is) most_ids → end ≡ at + 8 * length (take n is) → m ≡ min (length bs) most_bytes →
      r ≡ end + length (take m bs) → r ≡ 1 + length (message_bytes kind h is bs)
  message-end at end n m r f i j k l =
      let a : length (take n is) ≡ min n (length is) = length-take n is in
      let b : length (take m bs) ≡ min m (length bs) = length-take m bs in
      omega (arith, message-length kind h is bs)

-- a refusal and a bare 00 have no contents
pub shows-nothing : (a : Answer) (is bs : List ℕ) → ((n : ℕ) × (a ≡ Refused n)) ⊎ (a ≡ Done) → contents_of a is bs ≡ []
unfolding contents_of
shows-nothing a is bs (inl (n, e)) = rw e
shows-nothing a is bs (inr e) = rw e

-- an answer that shows no message has the same contents whatever stands beside it
pub shows-none : (a : Answer) (is bs : List ℕ) → ((r : Received) → a ≡ received r → ⊥) → contents_of a is bs ≡ contents_of a [] []
unfolding contents_of
shows-none (Refused n) is bs h = refl
shows-none Done is bs h = refl
shows-none (Transferred i) is bs h = refl
shows-none (received r) is bs h = absurd (h r refl)
shows-none (Quota b) is bs h = refl
shows-none (Holders x) is bs h = refl

-- an answer, written or refused for want of room
module _ (a : Answer) (is bs o : List ℕ) where
  pub answer-short : length o < answer_size → (record { number = EINVAL; len = 0 } ≡ outcome_of a is bs o) × (o ≡ answer_after a is bs o)
  unfolding outcome_of answer_after
  answer-short h = (rw (lt-ltb (length o) answer_size h), rw (lt-ltb (length o) answer_size h))

  pub answer-written : (n m : ℕ) (o' : List ℕ) → answer_size ≤ length o → n ≡ number_of a → m ≡ 1 + length (contents_of a is bs) → o' ≡ sets (set o 0 n) 1 (contents_of a is bs) →
      (record { number = n; len = m } ≡ outcome_of a is bs o) × (o' ≡ answer_after a is bs o)
  unfolding outcome_of answer_after answer_bytes
  answer-written n m o' h e f g =
      let k : m ≡ suc (length (contents_of a is bs)) = omega arith in
      let s : suc (length (contents_of a is bs)) ≤ length o = omega (arith, contents-size a is bs) in (
        rw (le-ltb (length o) answer_size h, e, k),
        rw (le-ltb (length o) answer_size h, ← e) (g ∙ over (n ∷ contents_of a is bs) o s),
      )

-- A refusal, and a bare 00: the one byte that is written.
module _ (o : List ℕ) {r : Outcome} {o' : List ℕ} where
  pub one_byte : {a : Answer} {n : ℕ} → a ≡ Refused n → (r ≡ outcome_of (Refused n) [] [] o) × (o' ≡ answer_after (Refused n) [] [] o) → (r ≡ outcome_of a [] [] o) × (o' ≡ answer_after a [] [] o)
  one_byte e h = rw e h

  bare-done : (r ≡ outcome_of (Refused 0) [] [] o) × (o' ≡ answer_after (Refused 0) [] [] o) → (r ≡ outcome_of Done [] [] o) × (o' ≡ answer_after Done [] [] o)
  unfolding outcome_of answer_after answer_bytes contents_of
  bare-done h = h

  pub bare : {a : Answer} → a ≡ Done → (r ≡ outcome_of (Refused 0) [] [] o) × (o' ≡ answer_after (Refused 0) [] [] o) → (r ≡ outcome_of a [] [] o) × (o' ≡ answer_after a [] [] o)
  bare e h = rw e (bare-done h)

-- what the search cites for the writers of the parts
pub ruleset bytes = (part-sets, be-length, two-bytes, eight-bytes)

pub ruleset stores = (charge-stores, balance-stores)

pub ruleset lengths = (be-length, notice-length, balance-length, shows-nothing, shows-none)
