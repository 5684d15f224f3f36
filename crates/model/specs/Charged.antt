-- What holds of the charges and the queues of every bus that a run of calls leaves: the stored charges are the sums over the queues, they stay within the share
-- theorem, and what is queued is in document 01's bounds. Statement only; the proof is in ChargedProof.antt, what follows of it in ChargedBounds.antt.
-- Assumes nothing.
use Rattle.std.specs.Prelude.{ℕ, ◌≤◌, ◌<◌, ◌≡◌, Bool, List, length, eqb}
use Rattle.laws.specs.Weights.{load, All}
use Rattle.frames.specs.Frame.{most_ids, most_bytes}
use Rattle.quota.specs.declared.Charges.{Charges}
use Rattle.quota.specs.Charges.{users, own}
use Rattle.quota.specs.Step.{Reached}
use Rattle.model.specs.Numbers.{nodes}
use Rattle.model.specs.Resources.{Resource, weigh, amount}
use Rattle.model.specs.State.{Status, Status.unopened, Status.opened, Status.disconnected, Message, messages_in, State, no_user}

-- "A message counts 1, nb and nh, under its sender's user."
abbrev pub weight_of : Resource → Message → ℕ
weight_of r m = weigh r (length m.payload) (length m.carried)

abbrev pub from_user : ℕ → Message → Bool
from_user u m = eqb m.user u

-- What the user has among the messages, of the resource.
abbrev pub queued_by : Resource → ℕ → List Message → ℕ
queued_by r u ms = load (from_user u) (weight_of r) ms

-- A queued message in its bounds.
pub record Fine (m : Message) : Type 0 where
  pub from : m.user < users
  pub to-node : m.to < nodes
  pub few : length m.carried ≤ most_ids
  pub nodes-only : All (λ s. s < nodes) m.carried
  pub small : length m.payload ≤ most_bytes

-- The messages queued at a peer and the users' charges there.
pub record Sound (ms : List Message) (c : Charges) : Type 0 where
  pub sums : (r : Resource) (u : ℕ) → u < users → amount r (own c (record { 0 = u })) ≡ queued_by r u ms
  pub reached : Reached c
  pub fine : All Fine ms

-- A peer's status and its user.
abbrev pub Known : Status → ℕ → Type 0
Known unopened u = u ≡ no_user
Known opened u = u < users
Known disconnected u = u < users

pub record Charged (b : State) : Type 0 where
  pub at : (q : ℕ) → Sound (messages_in (b.queue q)) (b.charges q)
  pub known : (q : ℕ) → Known (b.status q) (b.user q)
