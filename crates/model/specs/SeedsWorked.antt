-- The statement about the seed, met by a history: peer 0 sets a seed with its nodes 8 and 12, destroys the first, releases its handle, creates another node under 8, and reads its seed. At the
-- first place stand all ones, and 8 stands nowhere.
-- Assumes nothing.
use Rattle.std.specs.Prelude.{List, [], ◌∷◌, ◌++◌, map}
use Rattle.std.proofs.Math.Path.{refl}
use Rattle.laws.specs.Tables.{upd}
use Rattle.laws.specs.Sums.{sum_to}
use Rattle.laws.specs.Build.{build}
use Rattle.laws.specs.Search.{first}
use Rattle.laws.specs.Bytes.{be, num_at}
use Rattle.frames.specs.Frame.{id_at, short_at, parse_sizes, parse_send, frame_length, parse_open, parse_create, parse_rest, parse_other, parse, send_id, payload_of}
use Rattle.quota.specs.Charges.{others_all, allows_all}
use Rattle.answers.specs.Answer.{id_bytes, header_bytes, notice_bytes, message_bytes, received_bytes, contents_of, answer_bytes, answer_after, outcome_of}
use Rattle.model.specs.Lists.{least, rising}
use Rattle.model.specs.Numbers.{invalid}
use Rattle.model.specs.State.{start, slot_of, total, held_by_any, named, seeded, counts, free_place, by_owner_id}
use Rattle.model.specs.Refusals.{places_at, fits, refuses_open, refuses_create, refuses_destroy, refuses_release, refuses_send, refuses_receive, refuses_seed, refusal}
use Rattle.model.specs.Tables.{with_status, with_user, with_given, with_handles, with_queues, with_charges, with_seed, with_lives, accept}
use Rattle.model.specs.Changes.{push_all, take_out, withdraw, valid, shown, give, settle, settled, forget, fell, notify, destroy_notices, destroy_all, arriving, deliver}
use Rattle.model.specs.Effects.{opens, creates, destroys, releases, effect}
use Rattle.model.specs.Replies.{shows_seed, reply}
use Rattle.model.specs.Step.{carry_out, finish, step, run_from}
use Rattle.model.specs.Book.{Fed}
use Rattle.model.specs.Claim.{history_from}
use Rattle.model.specs.Scripts.{opening, create, destroy, release, receive, set_seed, show_seed, number, destroyed_at, shows_as, calls}
use Rattle.model.specs.Happened.{Happened}
use Rattle.model.specs.ShowsWorked.{accepted}
use Rattle.model.specs.Seeds.{LastSeed}

abbrev pub before : List Fed
before = accepted (opening 0 0) (number 0) ∷ accepted (create 0 8) (number 0) ∷ accepted (create 0 12) (number 0) ∷ []

abbrev pub set : Fed
set = accepted (set_seed 0 (8 ∷ 12 ∷ []) (51 ∷ [])) (number 0)

abbrev pub ends : List Fed
ends = accepted (destroy 0 8) (number 0) ∷ accepted (receive 0 0) (destroyed_at 8) ∷ accepted (release 0 8) (number 0) ∷ []

abbrev pub anew : Fed
anew = accepted (create 0 8) (number 0)

abbrev pub history : List Fed
history = before ++ (set ∷ (ends ++ (anew ∷ [])))

abbrev pub reading : Fed
reading = accepted (show_seed 0 17) (shows_as 0 (invalid ∷ 12 ∷ []) (51 ∷ []))

pub happened : Happened (history ++ (reading ∷ []))
unfolding upd sum_to build first be num_at id_at short_at parse_sizes parse_send frame_length parse_open parse_create parse_rest parse_other parse send_id payload_of others_all allows_all id_bytes header_bytes message_bytes notice_bytes received_bytes contents_of answer_bytes answer_after outcome_of least rising start slot_of total held_by_any named seeded counts free_place by_owner_id places_at fits refuses_open refuses_create refuses_destroy refuses_release refuses_send refuses_receive refuses_seed refusal with_status with_user with_given with_handles with_queues with_charges with_seed with_lives accept push_all take_out withdraw valid shown give settle settled forget fell notify destroy_notices destroy_all arriving deliver opens creates destroys releases effect shows_seed reply carry_out finish step run_from history_from
happened = record { calls = calls (map (λ (x : Fed). x.frame) (history ++ (reading ∷ []))); same = refl }

abbrev pub last : LastSeed history 0
last = record { before = before; set = set; after = ends ++ (anew ∷ []); place = refl; sets = refl; last = (refl, (refl, (refl, (refl, tt)))) }
