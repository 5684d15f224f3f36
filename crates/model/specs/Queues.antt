-- How the queues change: the entries of a queue stay in their order, some leave it, and new ones come behind them.
-- Assumes nothing.
use Rattle.std.specs.Prelude.{ℕ, suc, ◌<◌, ◌≡◌, false, ◌⊎◌, List, [], ◌∷◌, ◌++◌, map, eqb}
use Rattle.laws.specs.Tests.{pick}
use Rattle.laws.specs.Weights.{All}
use Rattle.frames.specs.declared.Command.{Command}
use Rattle.frames.specs.declared.Command.TheVariants.{Open, Disconnect, Create, Destroy, Release, Transfer, Send, Receive, Quota, Holders, ShowSeed}
use Rattle.frames.specs.Frame.{payload_of}
use Rattle.model.specs.Lists.{any}
use Rattle.model.specs.State.{is_live, held, Entry, Entry.message, Entry.destroyed, Entry.released, earlier, State, slot, total}
use Rattle.model.specs.Requests.{destinations, attached}

-- The number of the accepted command that queued an entry.
abbrev pub stamp : Entry → ℕ
stamp (message n m) = n
stamp (destroyed n s) = n
stamp (released n s) = n

-- A queue q became r: of the entries of q those that are not gone stand in r in their order, and behind them new ones.
pub data Later {A : Type 0} (gone new : A → Type 0) : List A → List A → Type 0 where
  behind : {r : List A} → All new r → Later gone new [] r
  stays : {e : A} {q r : List A} → Later gone new q r → Later gone new (e ∷ q) (e ∷ r)
  leaves : {e : A} {q r : List A} → gone e → Later gone new q r → Later gone new (e ∷ q) r

-- Why an entry leaves the queue of p unreceived, from the state b before a command to the state a after it. A message is dropped:
-- "Queued messages for the node are still delivered, until the owner's handle is gone". A destroy notice "is now withdrawn as soon as the peer holds no handle and no earlier message carrying
-- the node is left" (02 No. 2), a release notice when the handle goes and "if the sum rises or the node is destroyed".
abbrev pub Lapsed : State → State → ℕ → Entry → Type 0
Lapsed b a p (message n m) = held (a.handle p m.to) ≡ false
Lapsed b a p (destroyed n s) = (held (a.handle p s) ≡ false) × (any (earlier n s) (a.queue p) ≡ false)
Lapsed b a p (released n s) = (held (a.handle p s) ≡ false) ⊎ ((total b.handle s < total a.handle s) ⊎ (is_live (a.life s) ≡ false))

-- What a command queues carries its own number, the next one.
abbrev pub Next : State → Entry → Type 0
Next b e = stamp e ≡ suc b.accepted

-- What an accepted command takes out of the queue of p for its answer: a receive of p the first entry.
abbrev pub front : {A : Type 0} → List A → List A
front [] = []
front (e ∷ q) = e ∷ []

abbrev pub taken_by : State → ℕ → Command → List Entry
taken_by b p (Open q u) = []
taken_by b p (Disconnect q) = []
taken_by b p (Create q i) = []
taken_by b p (Destroy q i) = []
taken_by b p (Release q i) = []
taken_by b p (Transfer q i t) = []
taken_by b p (Send q z) = []
taken_by b p (Receive q room) = pick (eqb q.0 p) (front (b.queue p)) []
taken_by b p (Quota q u) = []
taken_by b p (Holders q i) = []
taken_by b p (ShowSeed q room) = []

-- What an accepted command queues as messages, one for each destination: a send alone.
abbrev pub sent_by : State → List ℕ → Command → List Entry
sent_by b f (Open q u) = []
sent_by b f (Disconnect q) = []
sent_by b f (Create q i) = []
sent_by b f (Destroy q i) = []
sent_by b f (Release q i) = []
sent_by b f (Transfer q i t) = []
sent_by b f (Send q z) =
    map
    (λ d. message (suc b.accepted) (record { to = d; user = b.user q.0; payload = payload_of f; carried = map (slot b q.0) (attached f z) }))
    (map (slot b q.0) (destinations f z))
sent_by b f (Receive q room) = []
sent_by b f (Quota q u) = []
sent_by b f (Holders q i) = []
sent_by b f (ShowSeed q room) = []

-- From the state b to the state a, while taken came out of the queue of p.
abbrev pub MovedBy : (Entry → Type 0) → State → State → ℕ → List Entry → Type 0
MovedBy new b a p taken = Later (Lapsed b a p) new (b.queue p) (taken ++ a.queue p)

abbrev pub Moved : State → State → ℕ → List Entry → Type 0
Moved b a p taken = MovedBy (Next b) b a p taken
