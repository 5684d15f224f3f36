-- Document 01, "Rules of order and quota": "Within one command: messages by destination place; destroy notices by ascending owner ID; then release notices by ascending owner ID."
-- The statement: what the two commands that queue several entries at one peer, send and disconnect, put behind its queue.
-- Assumes nothing.
use Rattle.std.specs.Prelude.{ℕ, suc, ◌<◌, ◌≡◌, Bool, true, false, List, [], ◌++◌, map, eqb}
use Rattle.laws.specs.Weights.{keep, All}
use Rattle.ids.specs.declared.Peer.{Peer}
use Rattle.frames.specs.declared.Sizes.{Sizes}
use Rattle.frames.specs.declared.Command.TheVariants.{Disconnect, Send}
use Rattle.model.specs.Numbers.{peers, owner}
use Rattle.model.specs.Lists.{any}
use Rattle.model.specs.State.{Handle, Entry, Entry.message, Entry.destroyed, Entry.released, State, owner_id, total, concerned}
use Rattle.model.specs.Step.{Call, step, run}
use Rattle.model.specs.Tested.{Lives}
use Rattle.model.specs.Accepted.{Accepted}
use Rattle.model.specs.Queues.{sent_by}
use Rattle.model.specs.Rising.{Sorted}

-- Exactly the slots that pass, by ascending owner ID, so none of them twice.
pub record ById (h : ℕ → ℕ → Handle) (P : ℕ → Type 0) (ss : List ℕ) : Type 0 where
  pub ascending : Sorted (owner_id h) ss
  pub sound : All P ss
  pub complete : (s : ℕ) → P s → any (eqb s) ss ≡ true

-- A send: its messages, one for each destination in the order of their places, each at the peer that owns its node.
abbrev pub is_at : ℕ → Entry → Bool
is_at q (message n m) = eqb (owner m.to) q
is_at q (destroyed n s) = false
is_at q (released n s) = false

abbrev pub SendOrder : Type 0
SendOrder =
    (cs : List Call) (c : Call) (p : Peer) (z : Sizes) → Accepted (run cs) c (Send p z) → (q : ℕ) →
    (step (run cs) c).state.queue q ≡ (run cs).queue q ++ keep (is_at q) (sent_by (run cs) c.frame (Send p z))

-- A disconnect of p, from b to a, at another peer q: notices of the nodes of p that lived and that q holds, or an earlier message carries to q; then of the nodes of q that fell to the sum 1.
abbrev pub DestroyNoticed : State → ℕ → ℕ → ℕ → Type 0
DestroyNoticed b p q s = (owner s ≡ p) × Lives b s × (concerned (b.handle q) (b.queue q) (suc b.accepted) s ≡ true)

abbrev pub ReleaseNoticed : State → State → ℕ → ℕ → Type 0
ReleaseNoticed b a q s = (owner s ≡ q) × Lives a s × (1 < total b.handle s) × (total a.handle s ≡ 1)

pub record AtDisconnect (b a : State) (p q : ℕ) : Type 0 where
  pub destroyed-slots : List ℕ
  pub released-slots : List ℕ
  pub queue : a.queue q ≡ b.queue q ++ (map (destroyed (suc b.accepted)) destroyed-slots ++ map (released (suc b.accepted)) released-slots)
  pub destroyed-by-id : ById b.handle (DestroyNoticed b p q) destroyed-slots
  pub released-by-id : ById a.handle (ReleaseNoticed b a q) released-slots

abbrev pub DisconnectOrder : Type 0
DisconnectOrder =
    (cs : List Call) (c : Call) (p : Peer) → Accepted (run cs) c (Disconnect p) → (q : ℕ) → q < peers → (p.0 ≡ q → ⊥) →
    AtDisconnect (run cs) (step (run cs) c).state p.0 q

-- "Disconnect: drop the queue": nothing is left in the queue of p itself, and none of its own notices stands there.
abbrev pub DisconnectEmpties : Type 0
DisconnectEmpties = (cs : List Call) (c : Call) (p : Peer) → Accepted (run cs) c (Disconnect p) → (step (run cs) c).state.queue p.0 ≡ []
