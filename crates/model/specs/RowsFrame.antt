-- The frame's rows: the frame reader refuses with the number of the first that applies, and reads a command exactly where none does.
-- Assumes nothing.
use Rattle.std.specs.Prelude.{ℕ, ◌%◌, ◌≤◌, ◌≡◌, refl, Bool, true, false, not, List, length, get_or, eqb, ltb, leb, Ok, Err}
use Rattle.std.proofs.Common.{ap, ◌∙◌, arith, eqb-true, lt-ltb, le-ltb, leb-true, leb-false}
use Rattle.std.proofs.lemmas.Bool.{eqb-false}
use Rattle.laws.specs.Tests.{pick, Seen, Seen.is_true, Seen.is_false, look}
use Rattle.ids.specs.Refusals.{EINVAL, ENOTTY, EMSGSIZE, refusal_number}
use Rattle.ids.specs.declared.Refusal.{Refusal}
use Rattle.ids.specs.declared.Refusal.TheVariants as refusal
use Rattle.ids.specs.declared.Peer.{Peer}
use Rattle.frames.specs.Frame.{last_peer, last_user, opcode, peer_at, id_at, short_at, oversized, send_length, parse_sizes, parse_send, frame_length, parse_open, parse_create, parse_transfer, parse_quota, parse_rest, parse_other, known, parse, Parsed}
use Rattle.model.specs.Lists.{both, either}
use Rattle.model.specs.Step.{Call}
use Rattle.model.specs.Book.{Fed}
use Rattle.model.specs.Rows.{short_send, send_peer, too_large, wrong_length, peer_over, frame_rows, first_number}

-- What the frame reader refuses with; 0 where it reads a command.
abbrev pub number_in : Parsed → ℕ
number_in (Ok k) = 0
number_in (Err r) = refusal_number r

-- A test that refuses with 22, and one that refuses with 22 where it fails.
bad-number : (t : Bool) (x : Parsed) (r : ℕ) → number_in x ≡ r → number_in (pick t (Err refusal.EINVAL) x) ≡ pick t EINVAL r
bad-number true x r e = refl
bad-number false x r e = e

good-number : (t : Bool) (x : Parsed) (n : Refusal) (r : ℕ) → number_in x ≡ r → number_in (pick t x (Err n)) ≡ pick (not t) (refusal_number n) r
good-number true x n r e = e
good-number false x n r e = refl

-- The rest of EINVAL, for a frame of the right length.
abbrev rest_rules : ℕ → List ℕ → ℕ
rest_rules op f =
    pick (both (either (eqb op 1) (eqb op 9)) (ltb last_user (get_or f 2 0))) EINVAL
    (pick (both (eqb op 6) (ltb last_peer (get_or f 10 0))) EINVAL
    (pick (both (eqb op 3) (not (eqb ((id_at f 2).0 % 4) 0))) EINVAL 0))

rest-number : (op : ℕ) (p : Peer) (f : List ℕ) → number_in (parse_rest op p f) ≡ rest_rules op f
unfolding parse_rest parse_open parse_create parse_transfer parse_quota
rest-number op p f =
    one (look (eqb op 1)) (look (eqb op 2)) (look (eqb op 3)) (look (eqb op 4)) (look (eqb op 5)) (look (eqb op 6)) (look (eqb op 8)) (look (eqb op 9)) (look (eqb op 12))
  where
    one : Seen (eqb op 1) → Seen (eqb op 2) → Seen (eqb op 3) → Seen (eqb op 4) → Seen (eqb op 5) → Seen (eqb op 6) → Seen (eqb op 8) → Seen (eqb op 9) → Seen (eqb op 12) →
        number_in (parse_rest op p f) ≡ rest_rules op f
    one (is_true e) b c d g h i j k = rw (eqb-true op 1 e) (bad-number (ltb last_user (get_or f 2 0)) _ _ refl)
    one (is_false a) (is_true e) c d g h i j k = rw (eqb-true op 2 e) refl
    one (is_false a) (is_false b) (is_true e) d g h i j k = rw (eqb-true op 3 e) (good-number (eqb ((id_at f 2).0 % 4) 0) _ refusal.EINVAL _ refl)
    one (is_false a) (is_false b) (is_false c) (is_true e) g h i j k = rw (eqb-true op 4 e) refl
    one (is_false a) (is_false b) (is_false c) (is_false d) (is_true e) h i j k = rw (eqb-true op 5 e) refl
    one (is_false a) (is_false b) (is_false c) (is_false d) (is_false g) (is_true e) i j k = rw (eqb-true op 6 e) (bad-number (ltb last_peer (get_or f 10 0)) _ _ refl)
    one (is_false a) (is_false b) (is_false c) (is_false d) (is_false g) (is_false h) (is_true e) j k = rw (eqb-true op 8 e) refl
    one (is_false a) (is_false b) (is_false c) (is_false d) (is_false g) (is_false h) (is_false i) (is_true e) k = rw (eqb-true op 9 e) (bad-number (ltb last_user (get_or f 2 0)) _ _ refl)
    one (is_false a) (is_false b) (is_false c) (is_false d) (is_false g) (is_false h) (is_false i) (is_false j) (is_true e) = rw (eqb-true op 12 e) refl
    one (is_false a) (is_false b) (is_false c) (is_false d) (is_false g) (is_false h) (is_false i) (is_false j) (is_false k) = rw (a, b, c, d, g, h, i, j, k) refl

-- A row that has been tested already applies no more.
twice : (t : Bool) (r : Bool → ℕ) → pick t EINVAL (r false) ≡ pick t EINVAL (r t)
twice true r = refl
twice false r = refl

large-number : (t : Bool) (x : Parsed) (r : ℕ) → number_in x ≡ r → number_in (pick t (Err refusal.EMSGSIZE) x) ≡ pick t EMSGSIZE r
large-number true x r e = refl
large-number false x r e = e

-- A send.
send-number : (f : List ℕ) → opcode f ≡ 7 →
    number_in (parse_send f)
    ≡ pick (short_send f) EINVAL (pick (send_peer f) EINVAL (pick (too_large f) EMSGSIZE (pick (wrong_length f) EINVAL (pick (peer_over f) EINVAL (rest_rules (opcode f) f)))))
unfolding parse_send parse_sizes
send-number f e =
    let nd = get_or f 2 0 in
    let nh = get_or f 3 0 in
    let nb = short_at f 4 in
    rw e
    (bad-number (ltb (length f) 6) _ _
    (bad-number (ltb last_peer (get_or f 1 0)) _ _
    (large-number (oversized nd nh nb) _ _ (good-number (eqb (length f) (send_length nd nh nb)) _ refusal.EINVAL 0 refl))
    ∙ twice (ltb last_peer (get_or f 1 0))
    (λ t. pick (oversized nd nh nb) EMSGSIZE (pick (not (eqb (length f) (send_length nd nh nb))) EINVAL (pick t EINVAL 0)))))

-- Any other frame.
other-number : (f : List ℕ) → eqb (opcode f) 7 ≡ false →
    number_in (parse_other f)
    ≡ pick (short_send f) EINVAL (pick (send_peer f) EINVAL (pick (too_large f) EMSGSIZE (pick (wrong_length f) EINVAL (pick (peer_over f) EINVAL (rest_rules (opcode f) f)))))
unfolding parse_other
other-number f e =
    rw e
    (good-number (eqb (length f) (frame_length (opcode f))) _ refusal.EINVAL _
    (bad-number (ltb last_peer (get_or f 1 0)) _ _ (rest-number (opcode f) (peer_at f 1) f)))

over : (n : ℕ) → (n ≡ 0 → ⊥) → 1 ≤ n
over n h = omega arith

unknown-is : (n : ℕ) → not (known n) ≡ either (ltb n 1) (either (eqb n 11) (ltb 12 n))
unknown-is n = go (look (eqb n 0)) (look (eqb n 11)) (look (leb n 12))
  where
    go : Seen (eqb n 0) → Seen (eqb n 11) → Seen (leb n 12) → not (known n) ≡ either (ltb n 1) (either (eqb n 11) (ltb 12 n))
    go (is_true e) g b = let z : n ≡ 0 = eqb-true n 0 e in rw z refl
    go (is_false e) (is_true g) b = rw (e, g, le-ltb n 1 (over n (eqb-false n 0 e))) refl
    go (is_false e) (is_false g) (is_true h) = rw (e, g, h, le-ltb n 1 (over n (eqb-false n 0 e)), le-ltb 12 n (leb-true n 12 h)) refl
    go (is_false e) (is_false g) (is_false h) = rw (e, g, h, le-ltb n 1 (over n (eqb-false n 0 e)), lt-ltb 12 n (leb-false n 12 h)) refl

-- The frame reader refuses with the number of the first row that applies, and reads a command exactly where none does.
pub frame-exactly : (xs : List Fed) (c : Call) → number_in (parse c.frame) ≡ first_number frame_rows xs c
unfolding parse
frame-exactly xs c =
    bad-number (eqb (length f) 0) _ _
    (good-number (known (opcode f)) _ refusal.ENOTTY _ (go (look (eqb (opcode f) 7))) ∙ ap (λ (t : Bool). pick t ENOTTY after) (unknown-is (opcode f)))
  where
    f : List ℕ
    f = c.frame

    after : ℕ
    after = pick (short_send f) EINVAL (pick (send_peer f) EINVAL (pick (too_large f) EMSGSIZE (pick (wrong_length f) EINVAL (pick (peer_over f) EINVAL (rest_rules (opcode f) f)))))

    go : Seen (eqb (opcode f) 7) → number_in (pick (eqb (opcode f) 7) (parse_send f) (parse_other f)) ≡ after
    go (is_true e) = let z = send-number f (eqb-true (opcode f) 7 e) in (ap (λ (t : Bool). number_in (pick t (parse_send f) (parse_other f))) e) ∙ z
    go (is_false e) = (ap (λ (t : Bool). number_in (pick t (parse_send f) (parse_other f))) e) ∙ other-number f e
