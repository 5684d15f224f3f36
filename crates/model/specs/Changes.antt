-- The small changes of a state that the effects of the commands are made of.
-- The number of the accepted command that is being carried out is `b.accepted`: it is counted before its changes.
-- Assumes nothing.
use Rattle.std.specs.Prelude.{ℕ, suc, Bool, true, not, List, [], ◌∷◌, ◌++◌, map, length, eqb, ltb}
use Rattle.laws.specs.Tests.{pick}
use Rattle.laws.specs.Tables.{upd}
use Rattle.laws.specs.Weights.{keep}
use Rattle.quota.specs.declared.Charge.{Charge}
use Rattle.quota.specs.declared.Charges.{Charges}
use Rattle.quota.specs.Charges.{charged, discharged}
use Rattle.model.specs.Numbers.{peers, owner, invalid, next_id}
use Rattle.model.specs.Lists.{both, either}
use Rattle.model.specs.State.{Life.dead, lived_at, is_live, Handle, Handle.none, Handle.some, handle_of, held, count, id_or, Message, Entry, Entry.message, Entry.destroyed, Entry.released, messages_in, concerned, Seed, State, total, by_owner_id}
use Rattle.model.specs.Tables.{with_given, with_handle, with_queues, with_queue, with_charges, with_seed, with_lives}
use Rattle.model.specs.Refusals.{adds}

-- Entries are queued behind those of the peer p; at every peer q those of new q.
abbrev pub push : State → ℕ → List Entry → State
push b p new = with_queue b p (b.queue p ++ new)

unfoldable pub push_all : State → (ℕ → List Entry) → State
push_all b new = with_queues b (λ q. b.queue q ++ new q)

-- Nothing stands past the last peer.
abbrev pub at_peers : (ℕ → List Entry) → ℕ → List Entry
at_peers new q = pick (ltb q peers) (new q) []

-- "A message counts 1, nb and nh, under its sender's user."
abbrev pub charge_of : Message → Charge
charge_of m = record { messages = 1; bytes = length m.payload; handles = length m.carried }

-- "Charges go to zero with the message: received or dropped."
abbrev pub discharged_all : Charges → List Message → Charges
discharged_all c [] = c
discharged_all c (m ∷ ms) = discharged_all (discharged c (record { 0 = m.user }) (charge_of m)) ms

-- Messages leave the queue of p, of which rest stays.
unfoldable pub take_out : State → ℕ → List Message → List Entry → State
take_out b p out rest = with_charges (with_queue b p rest) (upd b.charges p (discharged_all (b.charges p) out))

-- The release notices of the nodes that pass are withdrawn at the owner p.
abbrev pub not_released : (ℕ → Bool) → Entry → Bool
not_released t (message n m) = true
not_released t (destroyed n s) = true
not_released t (released n s) = not (t s)

unfoldable pub withdraw : State → ℕ → (ℕ → Bool) → State
withdraw b p t = with_queue b p (keep (not_released t) (b.queue p))

-- Is the handle to s shown to p by what the command n queued? "invalid only if the destruction came before the message";
-- "An owner whose own handle is gone is still shown the invalid ID". A transfer and a seed reading show it as of their own number: "a seed shows it from the destruction on".
unfoldable pub valid : State → ℕ → ℕ → ℕ → Bool
valid b p n s = both (lived_at n (b.life s)) (either (is_live (b.life s)) (either (not (eqb (owner s) p)) (held (b.handle p s))))

-- "else the receiver's existing handle, or a new ID where it has none": the ID shown.
unfoldable pub shown : State → ℕ → ℕ → ℕ → ℕ
shown b p n s = pick (valid b p n s) (id_or (next_id (b.given p)) (b.handle p s)) invalid

-- "never given twice": a new ID counts as given.
abbrev pub given_after : Handle → ℕ → ℕ
given_after none n = suc n
given_after (some i c) n = n

-- A handle to s is given to p. "A receive or transfer adds 1"; the release notice "is withdrawn if the sum rises".
unfoldable pub give : State → ℕ → ℕ → ℕ → State
give b p n s =
    pick (valid b p n s)
    (withdraw
    (with_handle (with_given b (upd b.given p (given_after (b.handle p s) (b.given p)))) p s (handle_of (shown b p n s) (suc (count (b.handle p s)))))
    (owner s) (eqb s))
    b

-- "each attached handle in order".
abbrev pub give_all : State → ℕ → ℕ → List ℕ → State
give_all b p n [] = b
give_all b p n (s ∷ ss) = give_all (give b p n s) p n ss

abbrev pub shown_all : State → ℕ → ℕ → List ℕ → List ℕ
shown_all b p n [] = []
shown_all b p n (s ∷ ss) = shown b p n s ∷ shown_all (give b p n s) p n ss

-- "It is now withdrawn as soon as the peer holds no handle and no earlier message carrying the node is left": what stays of a queue q at a peer with the handles h.
abbrev pub stays : (ℕ → Handle) → List Entry → Entry → Bool
stays h q (message n m) = true
stays h q (destroyed n s) = concerned h q n s
stays h q (released n s) = true

unfoldable pub settle : (ℕ → Handle) → List Entry → List Entry
settle h q = keep (stays h q) q

unfoldable pub settled : State → ℕ → State
settled b p = with_queue b p (settle (b.handle p) (b.queue p))

-- p's handle to s is gone. If p owns the node, "Queued messages for the node are still delivered, until the owner's handle is gone; then they are dropped."
-- The destroy notices that nothing keeps go with them.
abbrev pub dropped : ℕ → ℕ → Message → Bool
dropped p s m = both (eqb (owner s) p) (eqb m.to s)

abbrev pub remains : ℕ → ℕ → Entry → Bool
remains p s (message n m) = not (dropped p s m)
remains p s (destroyed n t) = true
remains p s (released n t) = not (eqb t s)

unfoldable pub forget : State → ℕ → ℕ → State
forget b p s = take_out b p (keep (dropped p s) (messages_in (b.queue p))) (settle (b.handle p) (keep (remains p s) (b.queue p)))

-- "When the sum of counts over all peers falls to 1 from above on a live node": from the state a, before the command, to the state b.
unfoldable pub fell : State → State → ℕ → Bool
fell a b s = both (is_live (b.life s)) (both (ltb 1 (total a.handle s)) (eqb (total b.handle s) 1))

-- "a release notice is queued at the owner": for s alone; and for every node, at each owner "by ascending owner ID".
unfoldable pub notify : State → State → ℕ → State
notify a b s = pick (fell a b s) (push b (owner s) (released b.accepted s ∷ [])) b

unfoldable pub release_notices : State → State → ℕ → List Entry
release_notices a b q = map (released b.accepted) (by_owner_id b.handle q (fell a b))

unfoldable pub notify_all : State → State → State
notify_all a b = push_all b (at_peers (release_notices a b))

-- The nodes of the owner p that pass are destroyed. "Destroy queues a notice at every holder, owner included, and leaves counts alone";
-- "a destruction also queues a notice at each peer with an earlier queued message that carries the node"; "destroy notices by ascending owner ID".
-- A release notice "is withdrawn if .. the node is destroyed".
unfoldable pub destroy_notices : State → ℕ → (ℕ → Bool) → ℕ → List Entry
destroy_notices b p t q = map (destroyed b.accepted) (by_owner_id b.handle p (λ s. both (t s) (concerned (b.handle q) (b.queue q) b.accepted s)))

unfoldable pub destroy_all : State → ℕ → (ℕ → Bool) → State
destroy_all b p t =
    push_all (with_lives (withdraw b p t) (λ s. pick (both (eqb (owner s) p) (t s)) (dead b.accepted) (b.life s))) (at_peers (destroy_notices b p t))

-- A send's messages at the peer q: "messages by destination place".
unfoldable pub arriving : State → ℕ → List ℕ → List ℕ → List ℕ → ℕ → List Entry
arriving b u ds hs payload q =
    map (λ d. message b.accepted (record { to = d; user = u; payload = payload; carried = hs })) (keep (λ d. eqb (owner d) q) ds)

-- Every destination's message is queued and charged.
unfoldable pub deliver : State → ℕ → List ℕ → List ℕ → List ℕ → State
deliver b u ds hs payload =
    with_charges (push_all b (arriving b u ds hs payload)) (λ q. charged (b.charges q) (record { 0 = u }) (adds q ds (length payload) (length hs)))

-- "a send with no destinations that replaces the peer's own seed", not charged; another send leaves it.
abbrev pub reseed : State → Bool → ℕ → Seed → State
reseed b t p x = pick t (with_seed b p x) b
