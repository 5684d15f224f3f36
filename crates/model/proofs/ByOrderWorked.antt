-- The theorems that go with specs/ByOrderWorked.antt and stand on others: each goes by the definitions and the theorems there.
-- Assumes nothing.
use Rattle.std.specs.Prelude.{◌≡◌, refl, ◌⊎◌, [], ◌∷◌, ◌++◌}
use Rattle.std.proofs.Common.{arith}
use Rattle.laws.specs.Tables.{upd}
use Rattle.laws.specs.Sums.{sum_to}
use Rattle.laws.specs.Build.{build}
use Rattle.laws.specs.Bytes.{be, num_at}
use Rattle.frames.specs.Frame.{id_at, short_at, parse_sizes, parse_send, frame_length, parse_open, parse_create, parse_transfer, parse_rest, parse_other, parse, send_id, payload_of}
use Rattle.answers.specs.Answer.{id_bytes}
use Rattle.model.specs.State.{total}
use Rattle.model.specs.Book.{empty, put_handle, to_received, to_dropped, note_open, note_create, incoming, note_send, drop_for, note, feed, feed_all, note_seed}
use Rattle.model.specs.Ledger.{blank_ledger, ledger_create, ledger_destroy, ledger_release, cleared, valid_at, due_id, ledger_give, ledger_queues, ledger_counted, enter, with_book, feed_ledger, feed_ledger_all, ledger_seed}
use Rattle.model.specs.Rows.{ledger_of}
use Rattle.model.specs.Happened.{happened-front}
use Rattle.model.specs.Delivered.{Delivered}
use Rattle.model.proofs.DeliveredProof.{delivers}
use Rattle.model.specs.Waiting.{notices_of}
use Rattle.model.specs.ByOrder.{ShownByOrder, Destruction, BeenTold}
use Rattle.model.proofs.ByOrderProof.{shows-by-order}
use Rattle.model.proofs.ByOrderTold.{nobody-untold, told-of-it}
use Rattle.model.specs.ByOrderWorked.{before, taking, telling, eight, happened, told}

-- (a) The message that peer 1 takes out.
pub delivered : Delivered before taking
delivered = delivers before [] taking (happened-front (before ++ (taking ∷ [])) (telling ∷ []) happened) refl refl refl

pub installs : ShownByOrder before taking 1 delivered
installs = shows-by-order before [] taking (happened-front (before ++ (taking ∷ [])) (telling ∷ []) happened) delivered

-- (c) Peer 1 holds no handle to the destroyed node when it is told.
pub is-told : (notices_of 0 ((ledger_of before).queue 1) ≡ 1) ⊎ BeenTold before 1 0
unfolding upd sum_to build be num_at id_at short_at parse_sizes parse_send frame_length parse_open parse_create parse_transfer parse_rest parse_other parse send_id payload_of id_bytes total empty put_handle to_received to_dropped note_open note_create incoming note_send note_seed drop_for note feed feed_all blank_ledger ledger_create ledger_destroy ledger_release cleared valid_at due_id ledger_give ledger_queues ledger_seed ledger_counted enter with_book feed_ledger feed_ledger_all
is-told = nobody-untold before (happened-front before (taking ∷ (telling ∷ [])) happened) 1 (omega arith) 0 (omega arith) refl refl

pub of-destroy : Destruction (before ++ (taking ∷ [])) 7 eight
of-destroy = told-of-it (before ++ (taking ∷ [])) [] telling happened 1 7 eight told
