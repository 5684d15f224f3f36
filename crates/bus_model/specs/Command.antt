-- What a command does to the lent buffers, for any contents: the number, the bus and the answer buffer afterwards. And what a fresh bus is.
-- Assumes nothing.
use Rattle.std.specs.Prelude.{ℕ, zero, suc, ◌+◌, ◌<◌, ◌≤◌, Bool, true, List, [], length, get_or, replicate, eqb, ltb, leb, Ok, Err}
use Rattle.laws.specs.Tests.{pick}
use Rattle.ids.specs.Refusals.{EINVAL, EIO, refusal_number}
use Rattle.ids.specs.Sizes.{peers, most_ids, accepted_end, given_end, peers_size, nodes_size, seeds_size}
use Rattle.model.specs.Numbers.{nodes}
use Rattle.frames.specs.Frame.{parse, payload_of, Parsed}
use Rattle.quota.specs.Charges.{balance_of}
use Rattle.answers.specs.declared.Answer.{Answer}
use Rattle.answers.specs.declared.Answer.TheVariants.{Refused as is_refused, Done as is_done, Transferred as is_transferred, Quota as is_quota, Holders as is_holders}
use Rattle.answers.specs.declared.Outcome.{Outcome}
use Rattle.answers.specs.Answer.{answer_size, answer_after, outcome_of}
use Rattle.rings.specs.Rings.{ring_size, ends_size, entries_size, carried_size, numbers_size, head_of, length_of}
use Rattle.pool.specs.Pool.{pool_size}
use Rattle.tables.specs.Peers.{state_at, user_at, peer_row}
use Rattle.tables.specs.Handles.{handles_size, holders_at}
use Rattle.tables.specs.Charges.{charges_size, charges_at}
use Rattle.model.specs.Lists.{both}
use Rattle.view.specs.View.{Bus, bus_of}
use Rattle.judges.specs.declared.Order.{Order}
use Rattle.judges.specs.declared.Order.TheVariants as order
use Rattle.judges.specs.declared.Places.{Places}
use Rattle.judges.specs.declared.Ruling.{Ruling}
use Rattle.judges.specs.Orders.{sight, ruling_of}
use Rattle.effects.specs.Effects.{transfers, received, shows}
use Rattle.effects.specs.After.{queues_in, after_open, after_create, after_destroy, after_release, after_transfer, after_send, after_receive, after_show, after_disconnect}

-- Every buffer has its exact length: the test of one, and of those behind it.
abbrev pub sized_seeds : Bus → Bool
sized_seeds b = eqb (length b.seeds) seeds_size

abbrev pub sized_pool : Bus → Bool
sized_pool b = both (eqb (length b.pool) pool_size) (sized_seeds b)

abbrev pub sized_numbers : Bus → Bool
sized_numbers b = both (eqb (length b.rings.rows.numbers) numbers_size) (sized_pool b)

abbrev pub sized_carried : Bus → Bool
sized_carried b = both (eqb (length b.rings.rows.carried) carried_size) (sized_numbers b)

abbrev pub sized_entries : Bus → Bool
sized_entries b = both (eqb (length b.rings.rows.entries) entries_size) (sized_carried b)

abbrev pub sized_ends : Bus → Bool
sized_ends b = both (eqb (length b.rings.ends) ends_size) (sized_entries b)

abbrev pub sized_charges : Bus → Bool
sized_charges b = both (eqb (length b.charges) charges_size) (sized_ends b)

abbrev pub sized_handles : Bus → Bool
sized_handles b = both (eqb (length b.handles) handles_size) (sized_charges b)

abbrev pub sized_nodes : Bus → Bool
sized_nodes b = both (eqb (length b.nodes) nodes_size) (sized_handles b)

unfoldable pub sized_ok : Bus → Bool
sized_ok b = both (eqb (length b.peers) peers_size) (sized_nodes b)

-- The numbers of a peer that steer everything are in their ranges: state, user, given IDs, the head and the length of its queue.
unfoldable pub peer_ok : List ℕ → List ℕ → ℕ → Bool
peer_ok ps ends p =
    both (leb (state_at ps p) 2)
    (both (leb (user_at ps p) 3)
    (both (ltb (get_or ps (peer_row p + 2) 0) given_end)
    (both (ltb (head_of ends p) ring_size)
    (leb (length_of ends p) ring_size))))

-- So are those of the peers below n; of all, and the number of accepted commands.
unfoldable pub peers_ok : List ℕ → List ℕ → ℕ → Bool
peers_ok ps ends zero = true
peers_ok ps ends (suc p) = both (peers_ok ps ends p) (peer_ok ps ends p)

unfoldable pub ranges_ok : List ℕ → List ℕ → Bool
ranges_ok ps ends = both (peers_ok ps ends peers) (ltb (get_or ps 0 0) accepted_end)

-- No test for EIO fails.
unfoldable pub sound_ok : Bus → Bool
sound_ok b = both (sized_ok b) (ranges_ok b.peers b.rings.ends)

-- What comes of a command: the number with the answer's length, the bus, the answer buffer.
pub record Done : Type 0 where
  pub outcome : Outcome
  pub bus : Bus
  pub out : List ℕ

abbrev pub done_of : Outcome → Bus → List ℕ → Done
done_of o b out = record { outcome = o; bus = b; out = out }

-- An answer that shows no message; a refusal leaves the bus alone.
abbrev pub answered : Answer → Bus → List ℕ → Done
answered a b out = done_of (outcome_of a [] [] out) b (answer_after a [] [] out)

abbrev pub refused_by : ℕ → Bus → List ℕ → Done
refused_by n b out = answered (is_refused n) b out

-- An order carried out.
abbrev pub carried : Bus → List ℕ → List ℕ → Order → Places → Done
carried b f out (order.Refuse n) w = refused_by n b out
carried b f out (order.Open p u) w = answered is_done (after_open b p.0 u.0) out
carried b f out (order.Disconnect p) w = answered is_done (after_disconnect b p.0) out
carried b f out (order.Create p i s) w = answered is_done (after_create b p.0 i.0 s) out
carried b f out (order.Destroy p s) w = answered is_done (after_destroy b p.0 s) out
carried b f out (order.Release p s) w = answered is_done (after_release b p.0 s) out
carried b f out (order.Transfer q s) w =
    answered (is_transferred (record { 0 = (transfers b.peers b.nodes b.handles b.rings q.0 s).id })) (after_transfer b q.0 s) out
carried b f out (order.Send p z) w = answered is_done (after_send b p.0 z w (payload_of f)) out
carried b f out (order.Receive p) w =
    let x = received b.peers b.nodes b.handles (queues_in b) p.0 out in
    done_of x.outcome (after_receive b p.0 out) x.out
carried b f out (order.ShowSeed p) w =
    let x = shows b.peers b.nodes b.handles b.rings b.seeds p.0 out in
    done_of x.outcome (after_show b p.0 out) x.out
carried b f out (order.Quota p u) w = answered (is_quota (balance_of (charges_at b.charges p.0) u)) b out
carried b f out (order.Holders s) w = answered (is_holders (holders_at b.handles s)) b out

unfoldable pub carried_out : Bus → List ℕ → List ℕ → Ruling → Done
carried_out b f out r = carried b f out r.order r.places

-- A frame's command judged and carried out, or the frame's refusal.
abbrev pub obeyed : Bus → List ℕ → List ℕ → Parsed → Done
obeyed b f out (Err r) = refused_by (refusal_number r) b out
obeyed b f out (Ok c) = carried_out b f out (ruling_of (sight b.peers b.nodes b.handles b.charges b.rings b.seeds) f c)

-- "Order: answer buffer; EIO; .."
unfoldable pub command_of : Bus → List ℕ → List ℕ → Done
command_of b f out =
    pick (ltb (length out) answer_size) (done_of (record { number = EINVAL; len = 0 }) b out)
    (pick (sound_ok b) (obeyed b f out (parse f)) (refused_by EIO b out))

-- "Making a fresh bus (no peer opened) refuses only a wrong length, returning 5 and writing nothing."
unfoldable pub fresh_bus : Bus
fresh_bus =
    bus_of (replicate peers_size 0) (replicate nodes_size 0) (replicate handles_size 0) (replicate charges_size 0) (replicate ends_size 0) (replicate entries_size 0) (replicate carried_size 0) (replicate numbers_size 0) (replicate pool_size 0) (replicate seeds_size 0)

unfoldable pub fresh_of : Bus → Bus
fresh_of b = pick (sized_ok b) fresh_bus b

unfoldable pub fresh_number : Bus → ℕ
fresh_number b = pick (sized_ok b) 0 EIO

-- The numbers of an order are in their bounds.
abbrev pub Fair : Order → Type 0
Fair (order.Refuse n) = Unit {0}
Fair (order.Open p u) = p.0 < peers
Fair (order.Disconnect p) = p.0 < peers
Fair (order.Create p i s) = (p.0 < peers) × (s < nodes)
Fair (order.Destroy p s) = p.0 < peers
Fair (order.Release p s) = (p.0 < peers) × (s < nodes)
Fair (order.Transfer q s) = (q.0 < peers) × (s < nodes)
Fair (order.Send p z) = (p.0 < peers) × (z.nd ≤ most_ids)
Fair (order.Receive p) = p.0 < peers
Fair (order.ShowSeed p) = p.0 < peers
Fair (order.Quota p u) = p.0 < peers
Fair (order.Holders s) = s < nodes

-- The answer to a refusal or a question; to any other order that shows neither an ID nor a message it is 00 alone.
unfoldable pub reply_to : List ℕ → List ℕ → Order → Answer
reply_to hs cs (order.Refuse n) = is_refused n
reply_to hs cs (order.Open p u) = is_done
reply_to hs cs (order.Disconnect p) = is_done
reply_to hs cs (order.Create p i s) = is_done
reply_to hs cs (order.Destroy p s) = is_done
reply_to hs cs (order.Release p s) = is_done
reply_to hs cs (order.Transfer q s) = is_done
reply_to hs cs (order.Send p z) = is_done
reply_to hs cs (order.Receive p) = is_done
reply_to hs cs (order.ShowSeed p) = is_done
reply_to hs cs (order.Quota p u) = is_quota (balance_of (charges_at cs p.0) u)
reply_to hs cs (order.Holders s) = is_holders (holders_at hs s)

-- The bus after an open, disconnect, create, destroy or release; any other order leaves it alone here.
unfoldable pub altered : Bus → Order → Bus
altered b (order.Refuse n) = b
altered b (order.Open p u) = after_open b p.0 u.0
altered b (order.Disconnect p) = after_disconnect b p.0
altered b (order.Create p i s) = after_create b p.0 i.0 s
altered b (order.Destroy p s) = after_destroy b p.0 s
altered b (order.Release p s) = after_release b p.0 s
altered b (order.Transfer q s) = b
altered b (order.Send p z) = b
altered b (order.Receive p) = b
altered b (order.ShowSeed p) = b
altered b (order.Quota p u) = b
altered b (order.Holders s) = b

-- An order carried out, other than a receive or 0c, which write their answers themselves and do not come here: the answer, and the bus.
pub record Changed : Type 0 where
  pub answer : Answer
  pub bus : Bus

abbrev pub changed_of : Answer → Bus → Changed
changed_of a b = record { answer = a; bus = b }

abbrev pub settled : Bus → Order → Changed
settled b x = changed_of (reply_to b.handles b.charges x) (altered b x)

unfoldable pub changed : Bus → List ℕ → Order → Places → Changed
changed b f (order.Refuse n) w = settled b (order.Refuse n)
changed b f (order.Open p u) w = settled b (order.Open p u)
changed b f (order.Disconnect p) w = settled b (order.Disconnect p)
changed b f (order.Create p i s) w = settled b (order.Create p i s)
changed b f (order.Destroy p s) w = settled b (order.Destroy p s)
changed b f (order.Release p s) w = settled b (order.Release p s)
changed b f (order.Transfer q s) w =
    changed_of (is_transferred (record { 0 = (transfers b.peers b.nodes b.handles b.rings q.0 s).id })) (after_transfer b q.0 s)
changed b f (order.Send p z) w = changed_of is_done (after_send b p.0 z w (payload_of f))
changed b f (order.Receive p) w = settled b (order.Receive p)
changed b f (order.ShowSeed p) w = settled b (order.ShowSeed p)
changed b f (order.Quota p u) w = settled b (order.Quota p u)
changed b f (order.Holders s) w = settled b (order.Holders s)
