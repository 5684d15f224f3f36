-- The proof of Charged.antt: each small change of the state that is not quiet keeps the invariant, a command's effect is a composition of them, and so every run has it.
-- Assumes nothing.
use Rattle.std.specs.Prelude.{ℕ, ◌+◌, ◌<◌, ◌≡◌, refl, Bool, List, []}
use Rattle.laws.specs.Tables.{upd-rel, upd-all}
use Rattle.laws.specs.Weights.{load}
use Rattle.quota.specs.Charges.{users, fresh_charges}
use Rattle.quota.proofs.Step.{reached-fresh}
use Rattle.model.specs.State.{Status.opened, Status.disconnected, Message, State, start, Seed}
use Rattle.model.specs.Tables.{with_status, with_user, with_seed}
use Rattle.model.specs.Effects.{opens}
use Rattle.model.specs.Charged.{Sound, Known, Charged}
use Rattle.model.specs.Quiet.{Quiet}
use Rattle.model.specs.Charging.{fresh_at}

-- A fresh bus.
sound-fresh : Sound [] fresh_charges
sound-fresh = record { sums = fresh_at; reached = reached-fresh; fine = tt }

pub charged-start : Charged start
unfolding start
charged-start = record { at = λ q. sound-fresh; known = λ q. refl }

-- A quiet change.
pub charged-quiet : {b c : State} → Quiet b c → Charged b → Charged c
charged-quiet s h = record { at = λ q. rw (s.messages q, s.charges) (h.at q); known = λ q. rw (s.status, s.user) (h.known q) }

-- Messages leave a queue, by any test and any weight.
abbrev pub Parts : List Message → List Message → List Message → Type 0
Parts ms out rest = (t : Message → Bool) (w : Message → ℕ) → load t w out + load t w rest ≡ load t w ms

-- A peer opens; a peer that is open disconnects.
pub charged-opens : (b : State) (p u : ℕ) → Charged b → u < users → Charged (opens b p u)
unfolding opens with_status with_user
charged-opens b p u h l = record { at = h.at; known = upd-rel (λ q s u. Known s u) b.status b.user p opened u h.known l }

pub known-open : (b : State) (p : ℕ) → Charged b → b.status p ≡ opened → b.user p < users
known-open b p h e = rw e at (h.known p)

pub charged-leaves : (b : State) (p : ℕ) → Charged b → b.user p < users → Charged (with_status b p disconnected)
unfolding with_status
charged-leaves b p h l = record { at = h.at; known = upd-all (λ q s. Known s (b.user q)) b.status p disconnected h.known l }

pub charged-seed : (b : State) (p : ℕ) (x : Seed) → Charged b → Charged (with_seed b p x)
unfolding with_seed
charged-seed b p x h = record { at = h.at; known = h.known }
