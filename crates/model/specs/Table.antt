-- Document 01, "Lines an engineer can check by hand": M1 to M10, and S, as one computed table.
-- Assumes nothing.
use Rattle.std.specs.Prelude.{◌-◌, ◌≡◌, refl, List, [], ◌∷◌, ◌++◌, replicate}
use Rattle.laws.specs.Tables.{upd}
use Rattle.laws.specs.Weights.{All}
use Rattle.laws.specs.Sums.{sum_to}
use Rattle.laws.specs.Build.{build}
use Rattle.laws.specs.Search.{first}
use Rattle.laws.specs.Bytes.{be, num_at}
use Rattle.frames.specs.Frame.{id_at, short_at, parse_sizes, parse_send, frame_length, parse_open, parse_create, parse_transfer, parse_quota, parse_rest, parse_other, parse, send_id, payload_of}
use Rattle.quota.specs.Charges.{others_all, allows_all, balance_of}
use Rattle.answers.specs.Answer.{id_bytes, header_bytes, notice_bytes, balance_bytes, holder_bytes, message_bytes, received_bytes, charge_bytes, contents_of, answer_bytes, answer_after, outcome_of}
use Rattle.model.specs.Lists.{least, rising}
use Rattle.model.specs.State.{start, slot_of, total, held_by_any, named, counts, free_place, by_owner_id, seeded}
use Rattle.model.specs.Refusals.{places_at, fits, refuses_open, refuses_disconnect, refuses_create, refuses_destroy, refuses_release, refuses_transfer, refuses_send, refuses_receive, refuses_quota, refuses_holders, refusal, refuses_seed}
use Rattle.model.specs.Tables.{with_status, with_user, with_given, with_handles, with_queues, with_charges, with_lives, accept, with_seed}
use Rattle.model.specs.Changes.{push_all, take_out, withdraw, shown, give, forget, fell, notify, arriving, deliver, valid, settle, settled}
use Rattle.model.specs.Effects.{opens, creates, releases, effect}
use Rattle.model.specs.Replies.{shows_message, reply}
use Rattle.model.specs.Scripts.{opening, create, release, send, receive, transfer, quota, number, gives, queued_and_left, takes, Row, Row.played, Row.ruled, computed, expected, five, two, second, empties, done}
use Rattle.model.specs.Step.{carry_out, finish, step, answers_from}

-- "M1 user 0 alone: 32nd message in, 33rd 122. M2 then user 1: 16 in, 17th 122. M3 user 2: 8 in, 9th 122. M4 user 3: 4 in, 5th 122."
abbrev pub M1-M4 : Row
M1-M4 =
    played (five ++ (empties 33 1 ++ (empties 17 2 ++ (empties 9 3 ++ empties 5 4))))
    (done 32 ++ (number 122 ∷ done 16 ++ (number 122 ∷ done 8 ++ (number 122 ∷ done 4 ++ (number 122 ∷ [])))))

-- "M5 with 32, 16, 8, 0 queued, messages left are -12, -4, 0, 4."
abbrev pub M5 : Row
M5 =
    played (five ++ (empties 32 1 ++ (empties 16 2 ++ (empties 8 3 ++ (quota 0 0 ∷ quota 0 1 ∷ quota 0 2 ∷ quota 0 3 ∷ [])))))
    (queued_and_left 32 0 0 (65536 - 12) 2048 32 ∷ queued_and_left 16 0 0 (65536 - 4) 2048 32 ∷ queued_and_left 8 0 0 0 2048 32 ∷ queued_and_left 0 0 0 4 2048 32 ∷ [])

-- "M6 four messages of 512 bytes, alone: one byte more 122, an empty message accepted."
abbrev pub M6 : Row
M6 =
    played (two ++ (replicate 4 (send 1 (7 ∷ []) [] (replicate 512 51)) ++ (send 1 (7 ∷ []) [] (51 ∷ []) ∷ send 1 (7 ∷ []) [] [] ∷ [])))
    (done 4 ++ (number 122 ∷ number 0 ∷ []))

-- "M7 alone with 30 queued, two destinations at one peer: accepted; with 31: 122 and none queued." Two nodes of that peer.
abbrev pub M7-30 : Row
M7-30 = played (two ++ (second 1 ++ (empties 30 1 ++ (send 1 (7 ∷ 11 ∷ []) [] [] ∷ quota 0 1 ∷ [])))) (number 0 ∷ queued_and_left 32 0 0 0 2048 32 ∷ [])

abbrev pub M7-31 : Row
M7-31 = played (two ++ (second 1 ++ (empties 31 1 ++ (send 1 (7 ∷ 11 ∷ []) [] [] ∷ quota 0 1 ∷ [])))) (number 122 ∷ queued_and_left 31 0 0 1 2048 32 ∷ [])

-- "M8 limit 1,024, others 512, own 128: left 128 (example of 004, in k_b)."
abbrev pub M8 : Row
M8 = ruled 1024 512 128 128

-- "M9 nb 1, nh 1: room 8 gives 34, room 9 accepts."
abbrev pub M9 : Row
M9 =
    played (two ++ (create 1 12 ∷ send 1 (7 ∷ []) (12 ∷ []) (51 ∷ []) ∷ receive 0 8 ∷ receive 0 9 ∷ []))
    (number 0 ∷ number 34 ∷ takes 8 1 (7 ∷ []) (51 ∷ []) ∷ [])

-- "M10 one handle listed twice: the same ID twice, count up by 2."
abbrev pub M10 : Row
M10 =
    played (two ++ (create 1 12 ∷ send 1 (7 ∷ []) (12 ∷ 12 ∷ []) [] ∷ receive 0 16 ∷ release 0 7 ∷ release 0 7 ∷ release 0 7 ∷ []))
    (number 0 ∷ takes 8 1 (7 ∷ 7 ∷ []) [] ∷ number 0 ∷ number 0 ∷ number 6 ∷ [])

-- "Script S, in and out whole (7 lines each)".
abbrev pub S : Row
S =
    played (opening 0 0 ∷ opening 1 1 ∷ create 0 8 ∷ transfer 0 8 1 ∷ send 1 (7 ∷ []) [] (51 ∷ []) ∷ receive 0 1 ∷ receive 0 1 ∷ [])
    (number 0 ∷ number 0 ∷ number 0 ∷ gives 7 ∷ number 0 ∷ takes 8 1 [] (51 ∷ []) ∷ number 11 ∷ [])

abbrev pub table : List Row
table = M1-M4 ∷ M5 ∷ M6 ∷ M7-30 ∷ M7-31 ∷ M8 ∷ M9 ∷ M10 ∷ S ∷ []

pub marks : All (λ r. computed r ≡ expected r) table
unfolding upd sum_to build first be num_at id_at short_at parse_sizes parse_send frame_length parse_open parse_create parse_transfer parse_quota parse_rest parse_other parse send_id payload_of others_all allows_all balance_of id_bytes header_bytes message_bytes notice_bytes received_bytes charge_bytes balance_bytes holder_bytes contents_of answer_bytes answer_after outcome_of least rising start slot_of total held_by_any named seeded counts free_place by_owner_id places_at fits refuses_open refuses_disconnect refuses_create refuses_destroy refuses_release refuses_transfer refuses_send refuses_receive refuses_quota refuses_holders refuses_seed refusal with_status with_user with_given with_handles with_queues with_charges with_seed with_lives accept push_all take_out withdraw valid shown give settle settled forget fell notify arriving deliver opens creates releases effect shows_message reply carry_out finish step answers_from
marks = (refl, (refl, (refl, (refl, (refl, (refl, (refl, (refl, (refl, tt)))))))))
