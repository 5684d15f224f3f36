-- An entry with k ahead of it comes out at or before receive k + 1, or is lost: the proof.
-- Assumes nothing.
use Rattle.std.specs.Prelude.{ℕ, zero, suc, ◌≤◌, ◌<◌, ◌≡◌, refl, List, [], ◌∷◌, length, get_or, eqb}
use Rattle.std.proofs.Common.{arith, not-suc-le-zero, le_of_suc-le-suc, eq-eqb, ne_eqb}
use Rattle.laws.specs.Tests.{pick}
use Rattle.frames.specs.declared.Command.{Command}
use Rattle.frames.specs.declared.Command.TheVariants.{Open, Disconnect, Create, Destroy, Release, Transfer, Send, Receive, Quota, Holders, ShowSeed}
use Rattle.frames.specs.Frame.{opcode}
use Rattle.model.specs.Lists.{both}
use Rattle.model.specs.State.{Entry, State}
use Rattle.model.specs.Refusals.{takeable}
use Rattle.model.specs.Step.{Call, step}
use Rattle.model.specs.Accepted.{Accepted}
use Rattle.model.specs.Queues.{Later, Later.behind, Later.stays, Later.leaves, front, taken_by}
use Rattle.model.specs.Coded.{code, actor, coded}
use Rattle.model.specs.Progress.{is_receive}

-- A receive as its frame says it, and as a command.
taken-coded : (b : State) (p : ℕ) (f : List ℕ) (k : Command) → opcode f ≡ code k → get_or f 1 0 ≡ actor k →
    pick (both (eqb (opcode f) 8) (eqb (get_or f 1 0) p)) (front (b.queue p)) [] ≡ taken_by b p k
taken-coded b p f (Open q u) e g = rw e refl
taken-coded b p f (Disconnect q) e g = rw e refl
taken-coded b p f (Create q i) e g = rw e refl
taken-coded b p f (Destroy q i) e g = rw e refl
taken-coded b p f (Release q i) e g = rw e refl
taken-coded b p f (Transfer q i t) e g = rw e refl
taken-coded b p f (Send q z) e g = rw e refl
taken-coded b p f (Receive q room) e g = rw (e, g) refl
taken-coded b p f (Quota q u) e g = rw e refl
taken-coded b p f (Holders q i) e g = rw e refl
taken-coded b p f (ShowSeed q room) e g = rw e refl

-- What one call takes out.
abbrev pub taken : State → ℕ → Call → List Entry
taken b p c = pick (is_receive p c (step b c)) (front (b.queue p)) []

pub taken_refused : (b : State) (p : ℕ) (c : Call) → ((step b c).outcome.number ≡ 0 → ⊥) → taken b p c ≡ []
taken_refused b p c n = rw (ne_eqb (step b c).outcome.number 0 n) refl

pub taken-accepted : (b : State) (p : ℕ) (c : Call) (k : Command) → Accepted b c k → taken b p c ≡ taken_by b p k
taken-accepted b p c k a =
    let h = coded c.frame k a.read in
    rw (eq-eqb (step b c).outcome.number 0 a.number) (taken-coded b p c.frame k h.byte h.peer)

-- Nothing comes out of an empty queue, so each accepted receive takes one entry out.
pub front-one : (room : ℕ) (q : List Entry) → takeable room q ≡ 0 → length (front q) ≡ 1
front-one room [] e = absurd (omega arith)
front-one room (d ∷ q) e = refl

-- An entry of a queue that became another: gone, or no further back.
pub data Placed (gone : Entry → Type 0) (k : ℕ) (e : Entry) (r : List Entry) : Type 0 where
  away : gone e → Placed gone k e r
  found : (j : ℕ) → j ≤ k → j < length r → get_or r j e ≡ e → Placed gone k e r

pub placed : {gone new : Entry → Type 0} {q r : List Entry} → Later gone new q r → (k : ℕ) (e : Entry) → k < length q → get_or q k e ≡ e → Placed gone k e r
placed (behind a) k e l h = absurd (not-suc-le-zero l)
placed (stays m) zero e l h = found 0 (omega arith) (omega arith) h
placed (leaves {e = d} g m) zero e l h = away (rw h at g)
placed {gone = gone} (stays {e = d} {r = r} m) (suc k) e l h = go (placed m k e (le_of_suc-le-suc l) h)
  where
    go : Placed gone k e r → Placed gone (suc k) e (d ∷ r)
    go (away g) = away g
    go (found j le lt f) = found (suc j) (omega arith) (omega arith) f
placed {gone = gone} (leaves {r = r} g m) (suc k) e l h = go (placed m k e (le_of_suc-le-suc l) h)
  where
    go : Placed gone k e r → Placed gone (suc k) e r
    go (away g) = away g
    go (found j le lt f) = found j (omega arith) lt f
