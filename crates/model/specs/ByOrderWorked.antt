-- The statements about the order, met by a history: peer 0 sends its node 8 to peer 1, which has no handle to it, and destroys it. Peer 1 is told: it takes out the message, which installs the
-- handle, and then the notice with the ID that the message showed.
-- Assumes nothing.
use Rattle.std.specs.Prelude.{refl, List, [], ◌∷◌, ◌++◌, map}
use Rattle.laws.specs.Tables.{upd}
use Rattle.laws.specs.Sums.{sum_to}
use Rattle.laws.specs.Build.{build}
use Rattle.laws.specs.Search.{first}
use Rattle.laws.specs.Bytes.{be, num_at}
use Rattle.frames.specs.Frame.{id_at, short_at, parse_sizes, parse_send, frame_length, parse_open, parse_create, parse_transfer, parse_rest, parse_other, parse, send_id, payload_of}
use Rattle.quota.specs.Charges.{others_all, allows_all}
use Rattle.answers.specs.Answer.{id_bytes, header_bytes, notice_bytes, message_bytes, received_bytes, contents_of, answer_bytes, answer_after, outcome_of}
use Rattle.model.specs.Lists.{least, rising}
use Rattle.model.specs.State.{start, slot_of, total, held_by_any, named, counts, free_place, by_owner_id, seeded}
use Rattle.model.specs.Refusals.{places_at, fits, refuses_open, refuses_create, refuses_destroy, refuses_release, refuses_transfer, refuses_send, refuses_receive, refusal}
use Rattle.model.specs.Tables.{with_status, with_user, with_given, with_handles, with_queues, with_charges, with_lives, accept, with_seed}
use Rattle.model.specs.Changes.{push_all, take_out, withdraw, valid, shown, give, settle, settled, forget, fell, notify, destroy_notices, destroy_all, arriving, deliver}
use Rattle.model.specs.Effects.{opens, creates, destroys, releases, effect}
use Rattle.model.specs.Replies.{shows_message, reply}
use Rattle.model.specs.Step.{carry_out, finish, step, run_from}
use Rattle.model.specs.Book.{Node, Fed, empty, put_handle, to_received, to_dropped, note_open, note_create, incoming, note_send, drop_for, note, feed, feed_all, note_seed}
use Rattle.model.specs.Claim.{history_from}
use Rattle.model.specs.Ledger.{blank_ledger, ledger_create, ledger_destroy, ledger_release, cleared, valid_at, due_id, ledger_give, ledger_queues, ledger_counted, enter, with_book, feed_ledger, feed_ledger_all, ledger_seed}
use Rattle.model.specs.Scripts.{opening, create, destroy, send, receive, transfer, number, gives, takes, destroyed_at, calls}
use Rattle.model.specs.Happened.{Happened}
use Rattle.model.specs.ShowsWorked.{accepted}
use Rattle.model.specs.ByOrder.{Told}

abbrev pub before : List Fed
before =
    accepted (opening 0 0) (number 0) ∷ accepted (opening 1 1) (number 0) ∷ accepted (create 0 8) (number 0) ∷ accepted (create 1 4) (number 0) ∷ accepted (transfer 1 4 0) (gives 7)
    ∷ accepted (send 0 (7 ∷ []) (8 ∷ []) []) (number 0) ∷ accepted (destroy 0 8) (number 0) ∷ []

abbrev pub taking : Fed
taking = accepted (receive 1 8) (takes 4 0 (7 ∷ []) [])

abbrev pub telling : Fed
telling = accepted (receive 1 0) (destroyed_at 7)

-- The node of peer 0, as the book numbers it.
abbrev pub eight : Node
eight = record { owner = 0; number = 0 }

pub happened : Happened ((before ++ (taking ∷ [])) ++ (telling ∷ []))
unfolding upd sum_to build first be num_at id_at short_at parse_sizes parse_send frame_length parse_open parse_create parse_transfer parse_rest parse_other parse send_id payload_of others_all allows_all id_bytes header_bytes message_bytes notice_bytes received_bytes contents_of answer_bytes answer_after outcome_of least rising start slot_of total held_by_any named seeded counts free_place by_owner_id places_at fits refuses_open refuses_create refuses_destroy refuses_release refuses_transfer refuses_send refuses_receive refusal with_status with_user with_given with_handles with_queues with_charges with_seed with_lives accept push_all take_out withdraw valid shown give settle settled forget fell notify destroy_notices destroy_all arriving deliver opens creates destroys releases effect shows_message reply carry_out finish step run_from history_from
happened = record { calls = calls (map (λ (x : Fed). x.frame) ((before ++ (taking ∷ [])) ++ (telling ∷ []))); same = refl }

-- (d) The notice behind the message.
pub told : Told (before ++ (taking ∷ [])) telling 1 7 eight
unfolding upd sum_to build be num_at id_at short_at parse_sizes parse_send frame_length parse_open parse_create parse_transfer parse_rest parse_other parse send_id payload_of id_bytes total empty put_handle to_received to_dropped note_open note_create incoming note_send note_seed drop_for note feed feed_all blank_ledger ledger_create ledger_destroy ledger_release cleared valid_at due_id ledger_give ledger_queues ledger_seed ledger_counted enter with_book feed_ledger feed_ledger_all
told = record { takes = record { number = refl; byte = refl; peer = refl; says = refl }; rest = []; first = refl }
