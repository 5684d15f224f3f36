-- What the table does not show and the book cannot see: notices, their order and their withdrawal, the flag, drops, the room of a node,
-- the order of refusals, the answer buffer, and EOVERFLOW; as one computed table, and a few equations.
-- Assumes nothing.
use Rattle.std.specs.Prelude.{ℕ, ◌+◌, ◌*◌, ◌≡◌, refl, List, [], ◌∷◌, ◌++◌, map, replicate}
use Rattle.laws.specs.Tables.{upd}
use Rattle.laws.specs.Weights.{All}
use Rattle.laws.specs.Sums.{sum_to}
use Rattle.laws.specs.Build.{build}
use Rattle.laws.specs.Search.{first}
use Rattle.laws.specs.Bytes.{be, num_at}
use Rattle.frames.specs.Frame.{id_at, short_at, parse_sizes, parse_send, frame_length, parse_open, parse_create, parse_transfer, parse_quota, parse_rest, parse_other, parse, send_id, payload_of}
use Rattle.std.specs.Int.Count.{ones, ones_in}
use Rattle.quota.specs.Charges.{fresh_charges, others_all, allows_all, balance_of}
use Rattle.answers.specs.Answer.{id_bytes, header_bytes, notice_bytes, balance_bytes, holder_bytes, message_bytes, received_bytes, charge_bytes, contents_of, answer_bytes, answer_after, outcome_of}
use Rattle.model.specs.Lists.{least, rising}
use Rattle.model.specs.Numbers.{invalid}
use Rattle.model.specs.State.{State, Status.opened, Life.dead, Handle.none, start, slot_of, total, held_by_any, named, counts, free_place, by_owner_id, Seed.unset, seeded}
use Rattle.model.specs.Refusals.{places_at, fits, refuses_open, refuses_disconnect, refuses_create, refuses_destroy, refuses_release, refuses_transfer, refuses_send, refuses_receive, refuses_quota, refuses_holders, refusal, refuses_seed}
use Rattle.model.specs.Tables.{with_status, with_user, with_given, with_handles, with_queues, with_charges, with_lives, accept, with_seed}
use Rattle.model.specs.Changes.{push_all, take_out, withdraw, shown, give, forget, fell, notify, release_notices, notify_all, destroy_notices, destroy_all, arriving, deliver, valid, settle, settled}
use Rattle.model.specs.Effects.{opens, creates, destroys, releases, disconnects, effect}
use Rattle.model.specs.Replies.{shows_message, holders_of, reply, shows_seed}
use Rattle.model.specs.Scripts.{opening, disconnect, create, destroy, release, send, receive, transfer, quota, holders, number, gives, queued_and_left, takes, takes_flag, destroyed_at, released_at, Row, Row.played, computed, expected, five, two, second, empties, done, show_seed, set_seed, shows_as}
use Rattle.model.specs.Step.{carry_out, finish, step, answers_from}

-- "When the sum of counts over all peers falls to 1 from above on a live node, a release notice is queued at the owner."
abbrev pub released-notice : Row
released-notice = played (two ++ (release 1 7 ∷ receive 0 0 ∷ receive 0 0 ∷ [])) (number 0 ∷ released_at 8 ∷ number 11 ∷ [])

-- "It is withdrawn if the sum rises or the node is destroyed." The ID that comes again is a new one.
abbrev pub withdrawn-risen : Row
withdrawn-risen = played (two ++ (release 1 7 ∷ transfer 0 8 1 ∷ receive 0 0 ∷ [])) (number 0 ∷ gives 11 ∷ number 11 ∷ [])

abbrev pub withdrawn-destroyed : Row
withdrawn-destroyed = played (two ++ (release 1 7 ∷ destroy 0 8 ∷ receive 0 0 ∷ receive 0 0 ∷ [])) (number 0 ∷ number 0 ∷ destroyed_at 8 ∷ number 11 ∷ [])

-- "Destroy queues a notice at every holder, owner included"; where no earlier message is left it is withdrawn when the handle goes.
abbrev pub destroyed-notices : Row
destroyed-notices = played (two ++ (destroy 0 8 ∷ receive 0 0 ∷ receive 1 0 ∷ receive 1 0 ∷ [])) (number 0 ∷ destroyed_at 8 ∷ destroyed_at 7 ∷ number 11 ∷ [])

abbrev pub withdrawn-gone : Row
withdrawn-gone = played (two ++ (destroy 0 8 ∷ release 1 7 ∷ receive 1 0 ∷ [])) (number 0 ∷ number 0 ∷ number 11 ∷ [])

-- "Queued messages for the node are still delivered, until the owner's handle is gone; then they are dropped."
abbrev pub still-delivered : Row
still-delivered =
    played (two ++ (send 1 (7 ∷ []) [] (51 ∷ []) ∷ destroy 0 8 ∷ receive 0 1 ∷ receive 0 1 ∷ []))
    (number 0 ∷ takes 8 1 [] (51 ∷ []) ∷ destroyed_at 8 ∷ [])

abbrev pub dropped-with-owner : Row
dropped-with-owner =
    played (two ++ (send 1 (7 ∷ []) [] (51 ∷ []) ∷ destroy 0 8 ∷ release 0 8 ∷ quota 0 1 ∷ receive 0 1 ∷ []))
    (number 0 ∷ queued_and_left 0 0 0 32 2048 32 ∷ number 11 ∷ [])

-- "The flag is 1 if, when it is taken out, another message of the same send is queued behind it at that peer."
abbrev pub flags : Row
flags =
    played (two ++ (second 1 ++ (send 1 (11 ∷ 7 ∷ []) [] [] ∷ send 1 (7 ∷ []) [] [] ∷ receive 0 0 ∷ receive 0 0 ∷ receive 0 0 ∷ [])))
    (takes_flag 12 1 1 [] [] ∷ takes_flag 8 1 0 [] [] ∷ takes_flag 8 1 0 [] [] ∷ [])

-- "Each destination entry makes its own message": also one ID listed twice.
abbrev pub doubled : Row
doubled = played (two ++ (send 1 (7 ∷ 7 ∷ []) [] [] ∷ receive 0 0 ∷ receive 0 0 ∷ [])) (takes_flag 8 1 1 [] [] ∷ takes_flag 8 1 0 [] [] ∷ [])

-- 02 No. 2, "invalid only if the destruction came before the message": before it, all ones, also to a holder; the notice stands at its place before the message.
abbrev pub invalid-shown : Row
invalid-shown =
    played (two ++ (create 1 12 ∷ transfer 1 12 0 ∷ destroy 0 8 ∷ send 0 (7 ∷ []) (8 ∷ []) [] ∷ receive 1 8 ∷ receive 1 8 ∷ receive 1 8 ∷ []))
    (number 0 ∷ destroyed_at 7 ∷ takes 12 0 (invalid ∷ []) [] ∷ number 11 ∷ [])

-- "such a message installs the handle, and the notice follows it".
abbrev pub installed : Row
installed =
    played (two ++ (create 1 12 ∷ send 1 (7 ∷ []) (12 ∷ []) [] ∷ destroy 1 12 ∷ receive 0 8 ∷ receive 0 0 ∷ receive 0 0 ∷ release 0 7 ∷ release 0 7 ∷ []))
    (number 0 ∷ takes 8 1 (7 ∷ []) [] ∷ destroyed_at 7 ∷ number 11 ∷ number 0 ∷ number 6 ∷ [])

-- "withdrawn as soon as the peer holds no handle and no earlier message carrying the node is left": a holder that lets go before it takes the message out keeps the notice, which shows the new ID.
abbrev pub notice-kept : Row
notice-kept =
    played (two ++ (create 1 12 ∷ transfer 1 12 0 ∷ send 0 (7 ∷ []) (8 ∷ []) [] ∷ destroy 0 8 ∷ release 1 7 ∷ receive 1 8 ∷ receive 1 0 ∷ receive 1 0 ∷ []))
    (number 0 ∷ takes 12 0 (11 ∷ []) [] ∷ destroyed_at 11 ∷ number 11 ∷ [])

-- The only earlier message is dropped with its destination: the notice goes in the same command.
abbrev pub notice-dropped : Row
notice-dropped =
    played
    (opening 0 0 ∷ opening 1 1 ∷ create 0 8 ∷ create 1 4 ∷ transfer 1 4 0 ∷ send 0 (7 ∷ []) (8 ∷ []) [] ∷ destroy 0 8 ∷ destroy 1 4 ∷ release 1 4 ∷ receive 1 0 ∷ [])
    (number 0 ∷ number 11 ∷ [])

-- "An owner whose own handle is gone is still shown the invalid ID", and its notice goes with the last earlier message.
abbrev pub owner-gone : Row
owner-gone =
    played (opening 0 0 ∷ create 0 8 ∷ create 0 12 ∷ send 0 (12 ∷ []) (8 ∷ 8 ∷ []) [] ∷ destroy 0 8 ∷ release 0 8 ∷ receive 0 16 ∷ receive 0 0 ∷ create 0 8 ∷ [])
    (number 0 ∷ takes 12 0 (invalid ∷ invalid ∷ []) [] ∷ number 11 ∷ number 0 ∷ [])

-- Disconnect destroys too: notices by ascending owner ID, behind the message that installs both handles, then the release notice.
abbrev pub disconnect-tells : Row
disconnect-tells =
    played
    (opening 0 0 ∷ opening 1 1 ∷ create 0 8 ∷ create 1 4 ∷ transfer 1 4 0 ∷ create 0 12 ∷ send 0 (7 ∷ []) (12 ∷ 8 ∷ []) [] ∷ disconnect 0
    ∷ receive 1 16 ∷ receive 1 0 ∷ receive 1 0 ∷ receive 1 0 ∷ receive 1 0 ∷ [])
    (number 0 ∷ takes 4 0 (7 ∷ 11 ∷ []) [] ∷ destroyed_at 11 ∷ destroyed_at 7 ∷ released_at 4 ∷ number 11 ∷ [])

-- "destroy notices by ascending owner ID; then release notices by ascending owner ID": peer 1 holds 12 as 7 and 8 as 11, and peer 0 held 20 and 16 of peer 1.
abbrev pub ordered : Row
ordered =
    played
    (opening 0 0 ∷ opening 1 1 ∷ create 0 12 ∷ create 0 8 ∷ transfer 0 12 1 ∷ transfer 0 8 1 ∷ create 1 20 ∷ create 1 16 ∷ transfer 1 20 0 ∷ transfer 1 16 0
    ∷ disconnect 0 ∷ receive 1 0 ∷ receive 1 0 ∷ receive 1 0 ∷ receive 1 0 ∷ receive 1 0 ∷ receive 0 0 ∷ [])
    (number 0 ∷ destroyed_at 11 ∷ destroyed_at 7 ∷ released_at 16 ∷ released_at 20 ∷ number 11 ∷ number 108 ∷ [])

-- "one byte with bit p set if peer p holds a handle to the node, then the number of set bits".
abbrev pub held-by-two : Row
held-by-two = played (two ++ (holders 0 8 ∷ holders 1 7 ∷ [])) ((0 ∷ 3 ∷ 2 ∷ []) ∷ number 1 ∷ [])

-- "17th node 28; destroy one nobody else holds or queues, release it, create again: accepted"; while a queued message names it, it counts.
abbrev pub sixteen : List (List ℕ)
sixteen = build (λ k. create 0 (4 * k + 4)) 16

abbrev pub room-again : Row
room-again =
    played (opening 0 0 ∷ sixteen ++ (create 0 80 ∷ destroy 0 4 ∷ create 0 80 ∷ release 0 4 ∷ create 0 80 ∷ []))
    (number 28 ∷ number 0 ∷ number 28 ∷ number 0 ∷ number 0 ∷ [])

abbrev pub room-named : Row
room-named =
    played (opening 0 0 ∷ sixteen ++ (send 0 (8 ∷ []) (4 ∷ []) [] ∷ destroy 0 4 ∷ release 0 4 ∷ create 0 80 ∷ receive 0 8 ∷ create 0 80 ∷ []))
    (number 0 ∷ number 28 ∷ takes 8 0 (invalid ∷ []) [] ∷ number 0 ∷ [])

-- "each for all IDs of the frame before the next": an unheld attached ID before a dead destination, that before quota.
abbrev pub cascade : Row
cascade =
    played (two ++ (create 0 12 ∷ transfer 0 12 1 ∷ empties 32 1 ++ (destroy 0 12 ∷ send 1 (11 ∷ 7 ∷ []) (99 ∷ []) [] ∷ send 1 (11 ∷ 7 ∷ []) [] [] ∷ send 1 (7 ∷ []) [] [] ∷ [])))
    (number 6 ∷ number 113 ∷ number 122 ∷ [])

-- Each queue is in the order of accepted commands: a release notice stands behind an older message.
abbrev pub notice-behind : Row
notice-behind = played (two ++ (send 1 (7 ∷ []) [] [] ∷ release 1 7 ∷ receive 0 0 ∷ receive 0 0 ∷ [])) (takes 8 1 [] [] ∷ released_at 8 ∷ [])

-- "peer never opened (acting, save in open; or destination of a transfer)": 9; "that peer disconnected; also open of it": 108; the acting peer first.
abbrev pub absent : Row
absent =
    played
    (two ++ (disconnect 1 ∷ receive 2 0 ∷ receive 1 0 ∷ opening 1 1 ∷ opening 0 0 ∷ transfer 0 8 2 ∷ transfer 0 8 1 ∷ transfer 1 7 2 ∷ transfer 2 8 1 ∷ []))
    (number 9 ∷ number 108 ∷ number 108 ∷ number 17 ∷ number 9 ∷ number 108 ∷ number 108 ∷ number 9 ∷ [])

-- A release notice withdrawn comes back at the end of the queue, behind a message that is younger than the first notice.
abbrev pub back-at-the-end : Row
back-at-the-end =
    played (two ++ (release 1 7 ∷ send 0 (8 ∷ []) [] [] ∷ transfer 0 8 1 ∷ release 1 11 ∷ receive 0 0 ∷ receive 0 0 ∷ receive 0 0 ∷ []))
    (gives 11 ∷ number 0 ∷ takes 8 0 [] [] ∷ released_at 8 ∷ number 11 ∷ [])

-- "another message of the same send is queued behind it": not once it was dropped. The send goes to 8 and 12 of peer 0; 12 is destroyed and released.
abbrev pub flag-of-dropped : Row
flag-of-dropped =
    played
    (two ++ (create 0 12 ∷ transfer 0 12 1 ∷ send 1 (7 ∷ 11 ∷ []) [] (51 ∷ []) ∷ destroy 0 12 ∷ release 0 12 ∷ receive 0 1 ∷ receive 0 1 ∷ []))
    (number 0 ∷ number 0 ∷ takes_flag 8 1 0 [] (51 ∷ []) ∷ number 11 ∷ [])

-- To an owner that still holds the destroyed node the earlier message shows its own ID, and the count rises; then the notice.
abbrev pub invalid-to-holder : Row
invalid-to-holder =
    played
    (two ++ (create 0 12 ∷ transfer 0 12 1 ∷ send 1 (7 ∷ []) (11 ∷ []) [] ∷ destroy 0 12 ∷ receive 0 8 ∷ receive 0 0 ∷ release 0 12 ∷ release 0 12 ∷ []))
    (number 0 ∷ takes 8 1 (12 ∷ []) [] ∷ destroyed_at 12 ∷ number 0 ∷ number 0 ∷ [])

-- Two refusals at once: the destination peer before an ID that is not held, that before a destroyed node, the owner before a destroyed node, an ID held before no room.
abbrev pub collide : Row
collide =
    played
    (two ++ (destroy 0 8 ∷ transfer 0 99 2 ∷ transfer 1 7 2 ∷ send 1 (7 ∷ 99 ∷ []) [] [] ∷ destroy 1 7 ∷ destroy 0 8 ∷ transfer 1 7 0 ∷ create 0 8 ∷ sixteen
    ++ (create 0 8 ∷ create 0 80 ∷ [])))
    (number 9 ∷ number 9 ∷ number 6 ∷ number 1 ∷ number 113 ∷ number 113 ∷ number 17 ∷ number 0 ∷ number 17 ∷ done 14 ++ (number 17 ∷ number 28 ∷ []))

-- The others at their worst, as M4 has them: with 32, 16 and 8 messages of the other users and 2 of its own, two destinations at one peer make 4: accepted; one more 122.
abbrev pub share-of-messages : Row
share-of-messages =
    played (five ++ (empties 32 1 ++ (empties 16 2 ++ (empties 8 3 ++ (second 4 ++ (empties 2 4 ++ (send 4 (7 ∷ 11 ∷ []) [] [] ∷ send 4 (7 ∷ []) [] [] ∷ [])))))))
    (done 2 ++ (number 0 ∷ number 122 ∷ []))

-- The same in bytes: with 2,048, 1,024 and 512 of the others, in messages of 512, a message of 257 is 122, one of 256 is accepted, one byte more is 122.
abbrev pub share-of-bytes : Row
share-of-bytes =
    played
    (five ++ (bytes 4 1 512 ++ (bytes 2 2 512 ++ (bytes 1 3 512 ++ (bytes 1 4 257 ++ (bytes 1 4 256 ++ (bytes 1 4 1 ++ (quota 0 3 ∷ []))))))))
    (done 7 ++ (number 122 ∷ number 0 ∷ number 122 ∷ queued_and_left 1 256 0 27 0 32 ∷ []))
  where
    bytes : ℕ → ℕ → ℕ → List (List ℕ)
    bytes n p nb = replicate n (send p (7 ∷ []) [] (replicate nb 51))

-- And in handles: with 32, 16 and 8 of the others, 8 a message, five are 122, four are accepted, one more is 122.
abbrev pub share-of-handles : Row
share-of-handles =
    played
    (five ++ (handles 4 1 8 ++ (handles 2 2 8 ++ (handles 1 3 8 ++ (handles 1 4 5 ++ (handles 1 4 4 ++ (handles 1 4 1 ++ (quota 0 3 ∷ []))))))))
    (done 7 ++ (number 122 ∷ number 0 ∷ number 122 ∷ queued_and_left 1 0 4 27 2048 0 ∷ []))
  where
    handles : ℕ → ℕ → ℕ → List (List ℕ)
    handles n p nh = replicate n (send p (7 ∷ []) (replicate nh 7) [])

-- 02 No. 1. "a receive that shows it without removing it"; "Attached handles follow the receive rule each time it is shown": two showings raise the count to 3; a handle that went comes back
-- under a new ID.
abbrev pub seed-each-time : Row
seed-each-time =
    played (two ++ (show_seed 1 9 ∷ set_seed 1 (7 ∷ []) (51 ∷ []) ∷ show_seed 1 8 ∷ show_seed 1 9 ∷ show_seed 1 9 ∷ release 1 7 ∷ release 1 7 ∷ release 1 7 ∷ release 1 7 ∷ show_seed 1 9 ∷ []))
    (number 11 ∷ number 0 ∷ number 34 ∷ shows_as 1 (7 ∷ []) (51 ∷ []) ∷ shows_as 1 (7 ∷ []) (51 ∷ []) ∷ number 0 ∷ number 0 ∷ number 0 ∷ number 6 ∷ shows_as 1 (11 ∷ []) (51 ∷ []) ∷ [])

-- "not charged to any quota"; "0c is no receive in the rules of order".
abbrev pub seed-uncharged : Row
seed-uncharged =
    played (two ++ (set_seed 1 (7 ∷ 7 ∷ []) (51 ∷ 52 ∷ []) ∷ quota 1 1 ∷ quota 0 1 ∷ show_seed 1 18 ∷ quota 1 1 ∷ receive 1 0 ∷ []))
    (queued_and_left 0 0 0 32 2048 32 ∷ queued_and_left 0 0 0 32 2048 32 ∷ shows_as 1 (7 ∷ 7 ∷ []) (51 ∷ 52 ∷ []) ∷ queued_and_left 0 0 0 32 2048 32 ∷ number 11 ∷ [])

-- "A node named by a seed counts against its owner as if by a queued message": peer 1's seed alone names the node 4 of peer 0; "replaces the peer's own seed"; "disconnect drops the seed".
abbrev pub seed-keeps-room : Row
seed-keeps-room =
    played
    (opening 0 0 ∷ opening 1 1 ∷ sixteen ++ (transfer 0 4 1 ∷ set_seed 1 (7 ∷ []) [] ∷ release 1 7 ∷ destroy 0 4 ∷ release 0 4 ∷ create 0 80 ∷ show_seed 1 8 ∷ set_seed 1 [] [] ∷ create 0 80 ∷ []))
    (number 28 ∷ shows_as 1 (invalid ∷ []) [] ∷ number 0 ∷ number 0 ∷ [])

abbrev pub seed-dropped : Row
seed-dropped =
    played
    (opening 0 0 ∷ opening 1 1 ∷ sixteen ++ (transfer 0 4 1 ∷ set_seed 1 (7 ∷ []) [] ∷ release 1 7 ∷ destroy 0 4 ∷ release 0 4 ∷ create 0 80 ∷ disconnect 1 ∷ show_seed 1 8 ∷ create 0 80 ∷ []))
    (number 28 ∷ number 0 ∷ number 108 ∷ number 0 ∷ [])

-- An owner ID that was chosen again since is not shown for the node that it named: all ones stand there.
abbrev pub seed-chosen-again : Row
seed-chosen-again =
    played (opening 0 0 ∷ create 0 8 ∷ create 0 12 ∷ set_seed 0 (8 ∷ 12 ∷ []) (51 ∷ []) ∷ destroy 0 8 ∷ release 0 8 ∷ create 0 8 ∷ show_seed 0 17 ∷ release 0 12 ∷ release 0 12 ∷ [])
    (number 0 ∷ shows_as 0 (invalid ∷ 12 ∷ []) (51 ∷ []) ∷ number 0 ∷ number 1 ∷ [])

-- "EINVAL for nd 0 no longer covers this form"; "Same sizes as a send": nh 9 is 90, a bare one too short 22, an unheld attached ID 6, and a refused one keeps the old seed.
abbrev pub seed-refused : Row
seed-refused =
    played
    (two
    ++ (set_seed 1 [] (51 ∷ []) ∷ set_seed 1 (replicate 9 7) [] ∷ (7 ∷ 1 ∷ 0 ∷ 1 ∷ 0 ∷ 0 ∷ []) ∷ set_seed 1 (7 ∷ 8 ∷ []) [] ∷ set_seed 2 [] [] ∷ (12 ∷ 1 ∷ 0 ∷ []) ∷ (11 ∷ 1 ∷ 0 ∷ 0 ∷ []) ∷ show_seed 1 1 ∷ []))
    (number 0 ∷ number 90 ∷ number 22 ∷ number 6 ∷ number 9 ∷ number 22 ∷ number 25 ∷ shows_as 1 [] (51 ∷ []) ∷ [])

abbrev pub examples : List Row
examples =
    released-notice ∷ withdrawn-risen ∷ withdrawn-destroyed ∷ destroyed-notices ∷ withdrawn-gone ∷ still-delivered ∷ dropped-with-owner ∷ flags ∷ doubled ∷ invalid-shown
    ∷ ordered ∷ held-by-two ∷ room-again ∷ room-named ∷ cascade ∷ notice-behind ∷ absent
    ∷ back-at-the-end ∷ flag-of-dropped ∷ invalid-to-holder ∷ collide ∷ share-of-messages ∷ share-of-bytes ∷ share-of-handles ∷ seed-each-time ∷ seed-uncharged ∷ seed-keeps-room ∷ seed-dropped
    ∷ seed-chosen-again ∷ seed-refused ∷ installed ∷ notice-kept ∷ notice-dropped ∷ owner-gone ∷ disconnect-tells ∷ []

pub shown-by-examples : All (λ r. computed r ≡ expected r) examples
unfolding upd sum_to build first be num_at id_at short_at parse_sizes parse_send frame_length parse_open parse_create parse_transfer parse_quota parse_rest parse_other parse send_id payload_of others_all allows_all balance_of id_bytes header_bytes message_bytes notice_bytes received_bytes charge_bytes balance_bytes holder_bytes contents_of answer_bytes answer_after outcome_of least rising start slot_of total held_by_any named seeded counts free_place by_owner_id places_at fits refuses_open refuses_disconnect refuses_create refuses_destroy refuses_release refuses_transfer refuses_send refuses_receive refuses_quota refuses_holders refuses_seed refusal with_status with_user with_given with_handles with_queues with_charges with_seed with_lives accept push_all take_out withdraw valid shown give settle settled forget fell notify release_notices notify_all destroy_notices destroy_all arriving deliver opens creates destroys releases disconnects effect shows_message shows_seed holders_of reply carry_out finish step answers_from ones ones_in
shown-by-examples = (refl, (refl, (refl, (refl, (refl, (refl, (refl, (refl, (refl, (refl, (refl, (refl, (refl, (refl, (refl, (refl, (refl, (refl, (refl, (refl, (refl, (refl, (refl, (refl, (refl, (refl, (refl, (refl, (refl, (refl, (refl, (refl, (refl, (refl, (refl, tt)))))))))))))))))))))))))))))))))))

-- A bus that has accepted n commands, peer 0 open.
abbrev pub used : ℕ → State
used n =
    record {
      status = λ p. opened;
      user = λ p. 0;
      given = λ p. 0;
      handle = λ p s. none;
      queue = λ p. [];
      charges = λ p. fresh_charges;
      seed = λ p. unset;
      life = λ s. dead 0;
      accepted = n;
    }

abbrev pub number_from : State → List ℕ → ℕ
number_from b f = (step b (record { frame = f; buffer = replicate 591 0 })).outcome.number

pub record Shown : Type 0 where
  -- "answer buffer under 591 bytes (nothing is written, the number is returned)", and the bus is left alone.
  pub short-buffer : step start (record { frame = opening 0 0; buffer = replicate 590 170 }) ≡ record { outcome = record { number = 22; len = 0 }; state = start; buffer = replicate 590 170 }
  -- "No answer touches the buffer past its own end."
  pub past_the_end : (step start (record { frame = opening 0 0; buffer = replicate 591 170 })).buffer ≡ 0 ∷ replicate 590 170
  -- "2^40 - 1 commands accepted already; not for questions": 22 comes before it, 17 and 11 after it.
  pub overflows : map (number_from (used 1099511627775)) (create 0 6 ∷ opening 0 0 ∷ receive 0 0 ∷ quota 0 0 ∷ []) ≡ 22 ∷ 75 ∷ 75 ∷ 0 ∷ []
  pub not_yet : map (number_from (used 1099511627774)) (opening 0 0 ∷ disconnect 0 ∷ receive 0 0 ∷ []) ≡ 17 ∷ 0 ∷ 11 ∷ []

pub equations : Shown
unfolding upd sum_to build first be num_at id_at short_at parse_sizes parse_send frame_length parse_open parse_create parse_transfer parse_quota parse_rest parse_other parse send_id payload_of others_all allows_all balance_of id_bytes header_bytes message_bytes notice_bytes received_bytes charge_bytes balance_bytes holder_bytes contents_of answer_bytes answer_after outcome_of least rising start slot_of total held_by_any named seeded counts free_place by_owner_id places_at fits refuses_open refuses_disconnect refuses_create refuses_destroy refuses_release refuses_transfer refuses_send refuses_receive refuses_quota refuses_holders refuses_seed refusal with_status with_user with_given with_handles with_queues with_charges with_seed with_lives accept push_all take_out withdraw valid shown give settle settled forget fell notify release_notices notify_all destroy_notices destroy_all arriving deliver opens creates destroys releases disconnects effect shows_message shows_seed holders_of reply carry_out finish step answers_from ones ones_in
equations = record { short-buffer = refl; past_the_end = refl; overflows = refl; not_yet = refl }
