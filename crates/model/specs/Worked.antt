-- The third demand's second half, computed on the book that the history feeds: with the other users at their worst, its hypothesis holds of a send that would leave exactly
-- 4 messages, 256 bytes or 4 handles, and the number is 0; of one that would leave more by one it is 122. And a call with a short answer buffer in the middle of a run.
-- Assumes nothing.
use Rattle.std.specs.Prelude.{ℕ, zero, suc, ◌≤◌, ◌<◌, ◌≡◌, refl, false, List, [], ◌∷◌, ◌++◌, map, length, replicate, eqb}
use Rattle.std.proofs.Common.{arith, ne_eqb}
use Rattle.laws.specs.Tables.{upd}
use Rattle.laws.specs.Weights.{keep, All}
use Rattle.laws.specs.Sums.{sum_to}
use Rattle.laws.specs.Build.{build}
use Rattle.laws.specs.Search.{first}
use Rattle.laws.specs.Bytes.{be, num_at}
use Rattle.frames.specs.Frame.{id_at, short_at, parse_sizes, parse_send, frame_length, parse_open, parse_create, parse_transfer, parse_quota, parse_rest, parse_other, parse, send_id, payload_of}
use Rattle.quota.specs.Charges.{others_all, allows_all, balance_of}
use Rattle.answers.specs.Answer.{id_bytes, header_bytes, notice_bytes, balance_bytes, holder_bytes, message_bytes, received_bytes, charge_bytes, contents_of, answer_bytes, answer_after, outcome_of}
use Rattle.model.specs.Numbers.{peers}
use Rattle.model.specs.Resources.{Resource, Resource.messages, Resource.bytes, Resource.handles, share, resources}
use Rattle.model.specs.State.{start, slot_of, total, held_by_any, named, counts, free_place, seeded}
use Rattle.model.specs.Refusals.{places_at, fits, refuses_open, refuses_create, refuses_transfer, refuses_send, refuses_receive, refusal}
use Rattle.model.specs.Tables.{with_status, with_user, with_given, with_handles, with_queues, with_charges, with_lives, accept, with_seed}
use Rattle.model.specs.Changes.{push_all, take_out, withdraw, shown, give, arriving, deliver, valid, settle, settled}
use Rattle.model.specs.Effects.{opens, creates, effect}
use Rattle.model.specs.Replies.{shows_message, reply}
use Rattle.model.specs.Step.{Call, carry_out, finish, step, run_from, run, answers_from}
use Rattle.model.specs.Book.{Node, owned_by, nodes_of, empty, put_handle, note_open, note_create, incoming, note_send, note, feed, feed_all, goes_to, would_leave, note_seed}
use Rattle.model.specs.Claim.{history_from, book_after}
use Rattle.model.specs.Scripts.{send, receive, number, gives, takes, calls, five, two, second, empties, done}

-- Of the frame f after the frames fs: to how many of its destinations it goes at each peer, by the book; what it would leave at peer 0, in messages, bytes and handles; and the
-- number that comes back.
pub record Next : Type 0 where
  pub goes : List ℕ
  pub leaves : List ℕ
  pub answered : ℕ

abbrev pub next : List (List ℕ) → List ℕ → Next
next fs f =
    let k = book_after (calls fs) in
    record {
      goes = build (goes_to k f) peers;
      leaves = map (would_leave k f 0) resources;
      answered = (step (run (calls fs)) (record { frame = f; buffer = replicate 591 0 })).outcome.number;
    }

-- At peer 0 the users 0, 1 and 2 have all they can have: 32, 16 and 8 messages; 2,048, 1,024 and 512 bytes; 32, 16 and 8 handles.
abbrev pub worst : List (List ℕ)
worst = five ++ (empties 32 1 ++ (empties 16 2 ++ empties 8 3))

abbrev pub worst_bytes : List (List ℕ)
worst_bytes = let long : ℕ → List ℕ = λ p. send p (7 ∷ []) [] (replicate 512 51) in five ++ (replicate 4 (long 1) ++ (replicate 2 (long 2) ++ replicate 1 (long 3)))

abbrev pub worst_handles : List (List ℕ)
worst_handles = let many : ℕ → List ℕ = λ p. send p (7 ∷ []) (replicate 8 7) [] in five ++ (replicate 4 (many 1) ++ (replicate 2 (many 2) ++ replicate 1 (many 3)))

-- One destination, or two, at peer 0.
abbrev pub at_one : List ℕ
at_one = 1 ∷ 0 ∷ 0 ∷ 0 ∷ 0 ∷ 0 ∷ 0 ∷ 0 ∷ []

abbrev pub at_two : List ℕ
at_two = 2 ∷ 0 ∷ 0 ∷ 0 ∷ 0 ∷ 0 ∷ 0 ∷ 0 ∷ []

pub record Shares : Type 0 where
  -- user 3 has 3 messages there and sends one, or has 2 and sends to two nodes: 4; with 3 and two nodes 5
  pub fourth : next (worst ++ empties 3 4) (send 4 (7 ∷ []) [] []) ≡ record { goes = at_one; leaves = 4 ∷ 0 ∷ 0 ∷ []; answered = 0 }
  pub two_at_once : next (worst ++ (second 4 ++ empties 2 4)) (send 4 (7 ∷ 11 ∷ []) [] []) ≡ record { goes = at_two; leaves = 4 ∷ 0 ∷ 0 ∷ []; answered = 0 }
  pub fifth : next (worst ++ (second 4 ++ empties 3 4)) (send 4 (7 ∷ 11 ∷ []) [] []) ≡ record { goes = at_two; leaves = 5 ∷ 0 ∷ 0 ∷ []; answered = 122 }
  -- 256 bytes and 257
  pub bytes-256 : next worst_bytes (send 4 (7 ∷ []) [] (replicate 256 51)) ≡ record { goes = at_one; leaves = 1 ∷ 256 ∷ 0 ∷ []; answered = 0 }
  pub bytes-257 : next worst_bytes (send 4 (7 ∷ []) [] (replicate 257 51)) ≡ record { goes = at_one; leaves = 1 ∷ 257 ∷ 0 ∷ []; answered = 122 }
  -- 4 handles and 5
  pub handles-4 : next worst_handles (send 4 (7 ∷ []) (replicate 4 7) []) ≡ record { goes = at_one; leaves = 1 ∷ 0 ∷ 4 ∷ []; answered = 0 }
  pub handles-5 : next worst_handles (send 4 (7 ∷ []) (replicate 5 7) []) ≡ record { goes = at_one; leaves = 1 ∷ 0 ∷ 5 ∷ []; answered = 122 }

pub shares : Shares
unfolding upd sum_to build first be num_at id_at short_at parse_sizes parse_send frame_length parse_open parse_create parse_transfer parse_quota parse_rest parse_other parse send_id payload_of others_all allows_all balance_of id_bytes header_bytes message_bytes notice_bytes received_bytes charge_bytes balance_bytes holder_bytes contents_of answer_bytes answer_after outcome_of start slot_of total held_by_any named seeded counts free_place places_at fits refuses_open refuses_create refuses_transfer refuses_send refuses_receive refusal with_status with_user with_given with_handles with_queues with_charges with_seed with_lives accept push_all take_out withdraw valid settle settled shown give arriving deliver opens creates effect shows_message reply carry_out finish step run_from empty put_handle note_open note_create incoming note_send note_seed note feed feed_all goes_to would_leave history_from
shares =
    record { fourth = refl; two_at_once = refl; fifth = refl; bytes-256 = refl; bytes-257 = refl; handles-4 = refl; handles-5 = refl }

-- The hypothesis itself, as the third demand has it (Claim's `assured`): at every peer that the send goes to, and of each resource.
abbrev pub Shared : List (List ℕ) → List ℕ → Type 0
Shared fs f = (q : ℕ) (r : Resource) → 0 < goes_to (book_after (calls fs)) f q → would_leave (book_after (calls fs)) f q r ≤ share r

at_most : (n m l : ℕ) → n ≡ m → m ≤ l → n ≤ l
at_most n m l e h = omega arith

-- Where a send has no destination but nodes of peer 0, it goes to no other peer.
none-else : (ns : List Node) → All (λ n. n.owner ≡ 0) ns → (q : ℕ) → length (keep (owned_by (suc q)) ns) ≡ 0
none-else [] a q = refl
none-else (n ∷ ns) a q = let e : eqb 0 (suc q) ≡ false = ne_eqb 0 (suc q) (λ z. omega arith) in rw (a.0, e) (none-else ns a.1 q)

nowhere-else : (ns : List Node) → All (λ n. n.owner ≡ 0) ns → (q : ℕ) → 0 < length (keep (owned_by (suc q)) ns) → ⊥
nowhere-else ns a q h = let z = none-else ns a q in omega arith

pub shared-fourth : Shared (worst ++ empties 3 4) (send 4 (7 ∷ []) [] [])
unfolding upd sum_to build first be num_at id_at short_at parse_sizes parse_send frame_length parse_open parse_create parse_transfer parse_quota parse_rest parse_other parse send_id payload_of others_all allows_all balance_of id_bytes header_bytes message_bytes notice_bytes received_bytes charge_bytes balance_bytes holder_bytes contents_of answer_bytes answer_after outcome_of start slot_of total held_by_any named seeded counts free_place places_at fits refuses_open refuses_create refuses_transfer refuses_send refuses_receive refusal with_status with_user with_given with_handles with_queues with_charges with_seed with_lives accept push_all take_out withdraw valid settle settled shown give arriving deliver opens creates effect shows_message reply carry_out finish step run_from empty put_handle note_open note_create incoming note_send note_seed note feed feed_all goes_to would_leave history_from
shared-fourth zero messages h = at_most _ 4 4 refl (omega arith)
shared-fourth zero bytes h = at_most _ 0 256 refl (omega arith)
shared-fourth zero handles h = at_most _ 0 4 refl (omega arith)
shared-fourth (suc q) r h = absurd (nowhere-else (nodes_of (book_after (calls (worst ++ empties 3 4))) 4 (7 ∷ [])) (refl, tt) q h)

pub shared-two-at-once : Shared (worst ++ (second 4 ++ empties 2 4)) (send 4 (7 ∷ 11 ∷ []) [] [])
unfolding upd sum_to build first be num_at id_at short_at parse_sizes parse_send frame_length parse_open parse_create parse_transfer parse_quota parse_rest parse_other parse send_id payload_of others_all allows_all balance_of id_bytes header_bytes message_bytes notice_bytes received_bytes charge_bytes balance_bytes holder_bytes contents_of answer_bytes answer_after outcome_of start slot_of total held_by_any named seeded counts free_place places_at fits refuses_open refuses_create refuses_transfer refuses_send refuses_receive refusal with_status with_user with_given with_handles with_queues with_charges with_seed with_lives accept push_all take_out withdraw valid settle settled shown give arriving deliver opens creates effect shows_message reply carry_out finish step run_from empty put_handle note_open note_create incoming note_send note_seed note feed feed_all goes_to would_leave history_from
shared-two-at-once zero messages h = at_most _ 4 4 refl (omega arith)
shared-two-at-once zero bytes h = at_most _ 0 256 refl (omega arith)
shared-two-at-once zero handles h = at_most _ 0 4 refl (omega arith)
shared-two-at-once (suc q) r h = absurd (nowhere-else (nodes_of (book_after (calls (worst ++ (second 4 ++ empties 2 4)))) 4 (7 ∷ 11 ∷ [])) (refl, (refl, tt)) q h)

pub shared-bytes : Shared worst_bytes (send 4 (7 ∷ []) [] (replicate 256 51))
unfolding upd sum_to build first be num_at id_at short_at parse_sizes parse_send frame_length parse_open parse_create parse_transfer parse_quota parse_rest parse_other parse send_id payload_of others_all allows_all balance_of id_bytes header_bytes message_bytes notice_bytes received_bytes charge_bytes balance_bytes holder_bytes contents_of answer_bytes answer_after outcome_of start slot_of total held_by_any named seeded counts free_place places_at fits refuses_open refuses_create refuses_transfer refuses_send refuses_receive refusal with_status with_user with_given with_handles with_queues with_charges with_seed with_lives accept push_all take_out withdraw valid settle settled shown give arriving deliver opens creates effect shows_message reply carry_out finish step run_from empty put_handle note_open note_create incoming note_send note_seed note feed feed_all goes_to would_leave history_from
shared-bytes zero messages h = at_most _ 1 4 refl (omega arith)
shared-bytes zero bytes h = at_most _ 256 256 refl (omega arith)
shared-bytes zero handles h = at_most _ 0 4 refl (omega arith)
shared-bytes (suc q) r h = absurd (nowhere-else (nodes_of (book_after (calls worst_bytes)) 4 (7 ∷ [])) (refl, tt) q h)

pub shared-handles : Shared worst_handles (send 4 (7 ∷ []) (replicate 4 7) [])
unfolding upd sum_to build first be num_at id_at short_at parse_sizes parse_send frame_length parse_open parse_create parse_transfer parse_quota parse_rest parse_other parse send_id payload_of others_all allows_all balance_of id_bytes header_bytes message_bytes notice_bytes received_bytes charge_bytes balance_bytes holder_bytes contents_of answer_bytes answer_after outcome_of start slot_of total held_by_any named seeded counts free_place places_at fits refuses_open refuses_create refuses_transfer refuses_send refuses_receive refusal with_status with_user with_given with_handles with_queues with_charges with_seed with_lives accept push_all take_out withdraw valid settle settled shown give arriving deliver opens creates effect shows_message reply carry_out finish step run_from empty put_handle note_open note_create incoming note_send note_seed note feed feed_all goes_to would_leave history_from
shared-handles zero messages h = at_most _ 1 4 refl (omega arith)
shared-handles zero bytes h = at_most _ 0 256 refl (omega arith)
shared-handles zero handles h = at_most _ 4 4 refl (omega arith)
shared-handles (suc q) r h = absurd (nowhere-else (nodes_of (book_after (calls worst_handles)) 4 (7 ∷ [])) (refl, tt) q h)

-- "answer buffer under 591 bytes (nothing is written, the number is returned)", in the middle of a run: a send with 590 bytes returns 22 and the length 0, writes nothing, and the
-- commands after it go on as if it had not been: peer 0 has nothing queued, and the same send then comes through.
abbrev pub short : List ℕ → Call
short f = record { frame = f; buffer = replicate 590 170 }

abbrev pub letter : List ℕ
letter = send 1 (7 ∷ []) [] (51 ∷ [])

pub record Short : Type 0 where
  pub call : step (run (calls two)) (short letter) ≡ record { outcome = record { number = 22; len = 0 }; state = run (calls two); buffer = replicate 590 170 }
  pub goes_on : answers_from start (calls two ++ (short letter ∷ calls (receive 0 1 ∷ letter ∷ receive 0 1 ∷ []))) ≡
      done 3 ++ (gives 7 ∷ [] ∷ number 11 ∷ number 0 ∷ takes 8 1 [] (51 ∷ []) ∷ [])

pub short-between : Short
unfolding upd sum_to build first be num_at id_at short_at parse_sizes parse_send frame_length parse_open parse_create parse_transfer parse_quota parse_rest parse_other parse send_id payload_of others_all allows_all balance_of id_bytes header_bytes message_bytes notice_bytes received_bytes charge_bytes balance_bytes holder_bytes contents_of answer_bytes answer_after outcome_of start slot_of total held_by_any named seeded counts free_place places_at fits refuses_open refuses_create refuses_transfer refuses_send refuses_receive refusal with_status with_user with_given with_handles with_queues with_charges with_seed with_lives accept push_all take_out withdraw valid settle settled shown give arriving deliver opens creates effect shows_message reply carry_out finish step run_from answers_from
short-between = record { call = refl; goes_on = refl }
