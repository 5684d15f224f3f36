-- What the bus says to a command: the model's refusal, or the order that carries the command out, in which each ID is the slot that the acting peer knows by it.
-- Assumes nothing.
use Rattle.std.specs.Prelude.{ℕ, ◌+◌, ◌*◌, ◌/◌, ◌%◌, min, Bool, false, not, List, [], map, replicate, eqb, ltb, Option, Some, None, Result, Ok, Err}
use Rattle.std.proofs.lemmas.List.Edits.{sets}
use Rattle.laws.specs.Tests.{pick}
use Rattle.laws.specs.Search.{first}
use Rattle.laws.specs.Build.{build}
use Rattle.ids.specs.Refusals.{EOVERFLOW, refusal_number}
use Rattle.ids.specs.declared.Refusal.{Refusal}
use Rattle.ids.specs.declared.Refusal.TheVariants as refusal
use Rattle.ids.specs.declared.User.{User}
use Rattle.frames.specs.declared.Command.{Command}
use Rattle.frames.specs.declared.Command.TheVariants.{Open, Disconnect, Create, Destroy, Release, Transfer, Send, Receive, Quota, Holders, ShowSeed}
use Rattle.frames.specs.declared.Sizes.{Sizes}
use Rattle.frames.specs.Frame.{send_id}
use Rattle.quota.specs.Charges.{allows_all}
use Rattle.rings.specs.declared.Entry.{Entry}
use Rattle.rings.specs.Rings.{Rings, rings_of}
use Rattle.tables.specs.Peers.{accepted_at, standing_at}
use Rattle.tables.specs.Nodes.{live_at}
use Rattle.tables.specs.Handles.{find_at, holders_at}
use Rattle.tables.specs.Charges.{charges_at}
use Rattle.model.specs.Numbers.{slots, nodes, most_commands}
use Rattle.model.specs.Lists.{either, every}
use Rattle.model.specs.State.{State, slot, free_place, seeded}
use Rattle.model.specs.Requests.{destinations, attached}
use Rattle.model.specs.Refusals.{adds, refusal_by}
use Rattle.view.specs.View.{state_of, set_peers, set_nodes, set_handles, set_charges, set_rings, set_seeds, no_buffers}
use Rattle.seeds.specs.Seeds.{seed_v}
use Rattle.queues.specs.Queues.{is_message, named_in}
use Rattle.judges.specs.declared.Places.{Places}
use Rattle.judges.specs.declared.Order.{Order}
use Rattle.judges.specs.declared.Order.TheVariants as order
use Rattle.judges.specs.declared.Ruling.{Ruling}
use Rattle.ids.specs.Sizes.{peers, most_ids}

-- Slots in an array of eight, 0 behind them.
unfoldable pub eight : List ℕ → List ℕ
eight ss = sets (replicate most_ids 0) 0 ss

abbrev pub no_places : Places
no_places = record { to = replicate most_ids 0; carried = replicate most_ids 0 }

-- What a judgement goes by: a state, the slot that a search finds for an ID of a peer (nodes where it finds none), and the first free place of a peer.
pub record Sight : Type 0 where
  pub state : State
  pub find : ℕ → ℕ → ℕ
  pub free : ℕ → ℕ

-- The model's own: each is read off the state.
abbrev pub plain_sight : State → Sight
plain_sight b = record { state = b; find = slot b; free = free_place b }

unfoldable pub places_of : (ℕ → ℕ) → List ℕ → Sizes → Places
places_of find f z = record { to = eight (map find (destinations f z)); carried = eight (map find (attached f z)) }

-- The order of a command that is not refused, and a send's slots.
abbrev pub resolved : Sight → Command → Order
resolved v (Open p u) = order.Open p u
resolved v (Disconnect p) = order.Disconnect p
resolved v (Create p i) = order.Create p i (p.0 * slots + v.free p.0)
resolved v (Destroy p i) = order.Destroy p (v.find p.0 i.0)
resolved v (Release p i) = order.Release p (v.find p.0 i.0)
resolved v (Transfer p i q) = order.Transfer q (v.find p.0 i.0)
resolved v (Send p z) = order.Send p z
resolved v (Receive p room) = order.Receive p
resolved v (Quota p u) = order.Quota p u
resolved v (Holders p i) = order.Holders (v.find p.0 i.0)
resolved v (ShowSeed p room) = order.ShowSeed p

abbrev pub places_in : Sight → List ℕ → Command → Places
places_in v f (Open p u) = no_places
places_in v f (Disconnect p) = no_places
places_in v f (Create p i) = no_places
places_in v f (Destroy p i) = no_places
places_in v f (Release p i) = no_places
places_in v f (Transfer p i q) = no_places
places_in v f (Send p z) = places_of (v.find p.0) f z
places_in v f (Receive p room) = no_places
places_in v f (Quota p u) = no_places
places_in v f (Holders p i) = no_places
places_in v f (ShowSeed p room) = no_places

-- An order, unless there is a refusal; with slots, unless there is one.
abbrev pub unless : ℕ → Order → Order
unless n o = pick (eqb n 0) o (order.Refuse n)

abbrev pub plainly : Order → Ruling
plainly o = record { order = o; places = no_places }

abbrev pub unless_at : ℕ → Order → Places → Ruling
unless_at n o w = pick (eqb n 0) (record { order = o; places = w }) (plainly (order.Refuse n))

-- What a judgement of the code stands for: its order, or the refusal's; and a send's ruling from its slots, or the refusal.
abbrev pub ruled : Result Order Refusal → Order
ruled (Ok o) = o
ruled (Err r) = order.Refuse (refusal_number r)

abbrev pub placed : Order → Result Places Refusal → Ruling
placed o (Ok w) = record { order = o; places = w }
placed o (Err r) = plainly (order.Refuse (refusal_number r))

unfoldable pub ruling_of : Sight → List ℕ → Command → Ruling
ruling_of v f c = unless_at (refusal_by v.find v.free v.state f c) (resolved v c) (places_in v f c)

-- The state that some of the buffers stand for. A judgement reads no payload.
abbrev pub seen : List ℕ → List ℕ → List ℕ → List ℕ → Rings → State
seen ps ns hs cs r = state_of (set_rings (set_charges (set_handles (set_nodes (set_peers no_buffers ps) ns) hs) cs) r)

-- The same with the peers' seeds.
abbrev pub seen_with : List ℕ → List ℕ → List ℕ → List ℕ → Rings → List ℕ → State
seen_with ps ns hs cs r sd = state_of (set_seeds (set_rings (set_charges (set_handles (set_nodes (set_peers no_buffers ps) ns) hs) cs) r) sd)

-- A slot's node counts, as the tables tell: it lives, somebody holds it, a message in a queue with attached handles names it, or a seed does.
unfoldable pub counts_at : List ℕ → List ℕ → List ℕ → Rings → List ℕ → ℕ → Bool
counts_at ns hs cs r sd s = either (live_at ns s) (either (not (eqb (holders_at hs s) 0)) (either (named_in cs r s) (seeded (seed_v sd) s)))

-- The first place among the peer's 16 whose node does not count.
unfoldable pub free_at : List ℕ → List ℕ → List ℕ → Rings → List ℕ → ℕ → ℕ
free_at ns hs cs r sd p = first (λ k. not (counts_at ns hs cs r sd (p * slots + k))) slots

-- What the code goes by: its own searches of the tables.
abbrev pub sight : List ℕ → List ℕ → List ℕ → List ℕ → Rings → List ℕ → Sight
sight ps ns hs cs r sd = record { state = seen_with ps ns hs cs r sd; find = find_at hs; free = free_at ns hs cs r sd }

abbrev pub no_rings : Rings
no_rings = rings_of [] [] [] []

-- The refusal of a counted command before its IDs are looked up, 0 where there is none.
unfoldable pub starts_at : List ℕ → ℕ → ℕ
starts_at ps p = pick (ltb (accepted_at ps) most_commands) (standing_at ps p) EOVERFLOW

-- A place among a peer's slots, as what a search found.
abbrev pub place_found : ℕ → ℕ → Option ℕ
place_found p k = pick (ltb k slots) (Some (p * slots + k)) None

-- The IDs from a place of a send's lists on, and their slots, or the refusal where one of them is not held.
abbrev pub ids_from : List ℕ → ℕ → ℕ → List ℕ
ids_from f from n = build (λ k. (send_id f (from + k)).0) n

unfoldable pub slots_at : List ℕ → ℕ → List ℕ → Result (List ℕ) Refusal
slots_at hs p is = pick (every (λ i. ltb (find_at hs p i) nodes) is) (Ok (eight (map (find_at hs p) is))) (Err refusal.ENXIO)

-- The nodes of some slots live; quota allows what a send to them adds at each of their owners.
unfoldable pub living_at : List ℕ → List ℕ → Bool
living_at ns ss = every (λ s. live_at ns (s % nodes)) ss

unfoldable pub allowed_at : List ℕ → User → List ℕ → ℕ → ℕ → ℕ → Bool
allowed_at cs u ds nb nh p = allows_all (charges_at cs p) u (adds p ds nb nh)

unfoldable pub affordable_at : List ℕ → User → List ℕ → ℕ → ℕ → Bool
affordable_at cs u ds nb nh = every (λ d. allowed_at cs u ds nb nh (d / slots % peers)) ds

-- The entry needs more room than there is.
unfoldable pub too_large : Entry → ℕ → Bool
too_large e room = pick (is_message e) (ltb room (e.nb + 8 * min e.nh most_ids)) false
