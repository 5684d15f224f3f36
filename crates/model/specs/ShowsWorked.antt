-- The statement of an ID created anew, met by a history: peer 0 takes a message under its ID 8, destroys the node, releases its handle, creates another node under 8, and takes a message for
-- that one under 8. Peer 1 holds the first node throughout.
-- Assumes nothing.
use Rattle.std.specs.Prelude.{ℕ, ◌≡◌, refl, List, [], ◌∷◌, ◌++◌, map}
use Rattle.std.proofs.Common.{ap, arith}
use Rattle.laws.specs.Tables.{upd}
use Rattle.laws.specs.Sums.{sum_to}
use Rattle.laws.specs.Build.{build}
use Rattle.laws.specs.Search.{first}
use Rattle.laws.specs.Bytes.{be, num_at}
use Rattle.frames.specs.Frame.{id_at, short_at, parse_sizes, parse_send, frame_length, parse_open, parse_create, parse_transfer, parse_rest, parse_other, parse, send_id, payload_of}
use Rattle.quota.specs.Charges.{others_all, allows_all}
use Rattle.answers.specs.Answer.{id_bytes, header_bytes, notice_bytes, message_bytes, received_bytes, contents_of, answer_bytes, answer_after, outcome_of}
use Rattle.model.specs.Lists.{least, rising}
use Rattle.model.specs.State.{start, slot_of, total, held_by_any, named, counts, free_place, by_owner_id, seeded}
use Rattle.model.specs.Refusals.{places_at, fits, refuses_open, refuses_create, refuses_destroy, refuses_release, refuses_transfer, refuses_send, refuses_receive, refusal}
use Rattle.model.specs.Tables.{with_status, with_user, with_given, with_handles, with_queues, with_charges, with_lives, accept, with_seed}
use Rattle.model.specs.Changes.{push_all, take_out, withdraw, valid, shown, give, settle, settled, forget, fell, notify, destroy_notices, destroy_all, arriving, deliver}
use Rattle.model.specs.Effects.{opens, creates, destroys, releases, effect}
use Rattle.model.specs.Replies.{shows_message, reply}
use Rattle.model.specs.Step.{carry_out, finish, step, run_from}
use Rattle.model.specs.Book.{Node, Fed, empty, put_handle, to_received, to_dropped, note_open, note_create, incoming, note_send, drop_for, note, feed, feed_all, note_seed}
use Rattle.model.specs.Claim.{history_from}
use Rattle.model.specs.Ledger.{blank_ledger, ledger_create, ledger_destroy, ledger_release, cleared, valid_at, due_id, ledger_give, ledger_queues, ledger_counted, enter, with_book, feed_ledger, feed_ledger_all, ledger_seed}
use Rattle.model.specs.Scripts.{opening, create, destroy, release, send, receive, transfer, number, gives, takes, destroyed_at, calls}
use Rattle.model.specs.Happened.{Happened}
use Rattle.model.specs.Shows.{Shows, Shows.destination}

-- A command that came back with 0, and its answer.
abbrev pub accepted : List ℕ → List ℕ → Fed
accepted f a = record { frame = f; number = 0; answer = a }

abbrev pub before : List Fed
before =
    accepted (opening 0 0) (number 0) ∷ accepted (opening 1 1) (number 0) ∷ accepted (create 0 8) (number 0) ∷ accepted (transfer 0 8 1) (gives 7)
    ∷ accepted (send 1 (7 ∷ []) [] (51 ∷ [])) (number 0) ∷ []

abbrev pub once : Fed
once = accepted (receive 0 1) (takes 8 1 [] (51 ∷ []))

abbrev pub between : List Fed
between =
    accepted (destroy 0 8) (number 0) ∷ accepted (receive 0 0) (destroyed_at 8) ∷ accepted (release 0 8) (number 0) ∷ accepted (create 0 8) (number 0)
    ∷ accepted (send 0 (8 ∷ []) [] (52 ∷ [])) (number 0) ∷ []

abbrev pub again : Fed
again = accepted (receive 0 1) (takes 8 0 [] (52 ∷ []))

abbrev pub all : List Fed
all = (before ++ (once ∷ between)) ++ (again ∷ [])

-- The two nodes, as the book numbers them.
abbrev pub first-node : Node
first-node = record { owner = 0; number = 0 }

abbrev pub second-node : Node
second-node = record { owner = 0; number = 1 }

pub happened : Happened all
unfolding upd sum_to build first be num_at id_at short_at parse_sizes parse_send frame_length parse_open parse_create parse_transfer parse_rest parse_other parse send_id payload_of others_all allows_all id_bytes header_bytes message_bytes notice_bytes received_bytes contents_of answer_bytes answer_after outcome_of least rising start slot_of total held_by_any named seeded counts free_place by_owner_id places_at fits refuses_open refuses_create refuses_destroy refuses_release refuses_transfer refuses_send refuses_receive refusal with_status with_user with_given with_handles with_queues with_charges with_seed with_lives accept push_all take_out withdraw valid shown give settle settled forget fell notify destroy_notices destroy_all arriving deliver opens creates destroys releases effect shows_message reply carry_out finish step run_from history_from
happened = record { calls = calls (map (λ (x : Fed). x.frame) all); same = refl }

pub shown-once : Shows before once 0 8 first-node
unfolding upd sum_to build be num_at id_at short_at parse_sizes parse_send frame_length parse_open parse_create parse_transfer parse_rest parse_other parse send_id payload_of id_bytes total empty put_handle note_open note_create incoming note_send note_seed note feed feed_all blank_ledger ledger_create cleared valid_at due_id ledger_give ledger_queues ledger_seed ledger_counted enter with_book feed_ledger feed_ledger_all
shown-once =
    destination 5 (record { user = 1; to = first-node; payload = 51 ∷ []; carried = [] }) [] (record { number = refl; byte = refl; peer = refl; says = refl }) refl refl refl

pub shown-again : Shows (before ++ (once ∷ between)) again 0 8 second-node
unfolding upd sum_to build be num_at id_at short_at parse_sizes parse_send frame_length parse_open parse_create parse_transfer parse_rest parse_other parse send_id payload_of id_bytes total empty put_handle to_received to_dropped note_open note_create incoming note_send note_seed drop_for note feed feed_all blank_ledger ledger_create ledger_destroy ledger_release cleared valid_at due_id ledger_give ledger_queues ledger_seed ledger_counted enter with_book feed_ledger feed_ledger_all
shown-again =
    destination 11 (record { user = 0; to = second-node; payload = 52 ∷ []; carried = [] }) [] (record { number = refl; byte = refl; peer = refl; says = refl }) refl refl refl

pub two-nodes : first-node ≡ second-node → ⊥
two-nodes e = let z : ◌≡◌ {A = ℕ} 0 1 = ap (λ (n : Node). n.number) e in omega arith
