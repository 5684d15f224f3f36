-- What was tested before a command was accepted: a record for each command, from its refusal number 0. Proofs use these and never the text of the cascade.
-- Assumes nothing.
use Rattle.std.specs.Prelude.{ℕ, ◌≤◌, ◌<◌, ◌≡◌, refl, Bool, true, false, List, [], ◌∷◌, ◌++◌, map, length, eqb, ltb}
use Rattle.std.proofs.Common.{sym, arith, ltb-true, eqb-true}
use Rattle.ids.specs.Refusals.{EHOSTUNREACH, ENXIO, EOVERFLOW, EPERM}
use Rattle.laws.specs.Tests.{pick, pick-then, clash}
use Rattle.laws.specs.Weights.{All}
use Rattle.frames.specs.declared.Command.{Command}
use Rattle.frames.specs.declared.Command.TheVariants.{Open, Disconnect, Create, Destroy, Release, Transfer, Send, Receive, Quota, Holders, ShowSeed}
use Rattle.frames.specs.Frame.{payload_of}
use Rattle.model.specs.Numbers.{slots, nodes, owner, most_commands}
use Rattle.model.specs.Lists.{every}
use Rattle.model.specs.State.{Status, Status.unopened, Status.opened, Status.disconnected, is_live, State, slot, free_place}
use Rattle.model.specs.Requests.{destinations, attached}
use Rattle.model.specs.Refusals.{countable, present, openable, holding, living, pinned, fits, takeable, showable, refuses_quota, refuses_holders}

-- The peer acts: it is open, and the bus may accept one more command.
pub record Acting (b : State) (p : ℕ) : Type 0 where
  pub room : b.accepted < most_commands
  pub is_open : b.status p ≡ opened

-- An ID that the peer holds.
abbrev pub Holds : State → ℕ → ℕ → Type 0
Holds b p i = slot b p i < nodes

abbrev pub Lives : State → ℕ → Type 0
Lives b s = is_live (b.life s) ≡ true

pub record TestedOpen (b : State) (p : ℕ) : Type 0 where
  pub room : b.accepted < most_commands
  pub fresh : b.status p ≡ unopened

pub record TestedCreate (b : State) (p i : ℕ) : Type 0 where
  pub acting : Acting b p
  pub unheld : nodes ≤ slot b p i
  pub free : free_place b p < slots

pub record TestedDestroy (b : State) (p i : ℕ) : Type 0 where
  pub acting : Acting b p
  pub holds : Holds b p i
  pub owns : owner (slot b p i) ≡ p
  pub lives : Lives b (slot b p i)

pub record TestedRelease (b : State) (p i : ℕ) : Type 0 where
  pub acting : Acting b p
  pub holds : Holds b p i
  pub unpinned : pinned b p (slot b p i) ≡ false

pub record TestedTransfer (b : State) (p i q : ℕ) : Type 0 where
  pub acting : Acting b p
  pub destination : b.status q ≡ opened
  pub holds : Holds b p i
  pub lives : Lives b (slot b p i)

pub record TestedSend (b : State) (p : ℕ) (is hs : List ℕ) (nb : ℕ) : Type 0 where
  pub acting : Acting b p
  pub holds : All (Holds b p) is
  pub holds-attached : All (Holds b p) hs
  pub lives : All (Lives b) (map (slot b p) is)
  pub fitting : fits b (b.user p) (map (slot b p) is) nb (length hs) ≡ true

pub record TestedReceive (b : State) (p room : ℕ) : Type 0 where
  pub acting : Acting b p
  pub next : takeable room (b.queue p) ≡ 0

pub record TestedSeed (b : State) (p room : ℕ) : Type 0 where
  pub acting : Acting b p
  pub next : showable room (b.seed p) ≡ 0

pub record TestedHolders (b : State) (p i : ℕ) : Type 0 where
  pub is_open : b.status p ≡ opened
  pub holds : Holds b p i
  pub owns : owner (slot b p i) ≡ p

abbrev pub Tested : State → List ℕ → Command → Type 0
Tested b f (Open p u) = TestedOpen b p.0
Tested b f (Disconnect p) = Acting b p.0
Tested b f (Create p i) = TestedCreate b p.0 i.0
Tested b f (Destroy p i) = TestedDestroy b p.0 i.0
Tested b f (Release p i) = TestedRelease b p.0 i.0
Tested b f (Transfer p i q) = TestedTransfer b p.0 i.0 q.0
Tested b f (Send p z) = TestedSend b p.0 (destinations f z) (attached f z) (length (payload_of f))
Tested b f (Receive p room) = TestedReceive b p.0 room
Tested b f (Quota p u) = b.status p.0 ≡ opened
Tested b f (Holders p i) = TestedHolders b p.0 i.0
Tested b f (ShowSeed p room) = TestedSeed b p.0 room

-- A list of which every element passes.
pub every-all : {A : Type 0} (t : A → Bool) (xs : List A) → every t xs ≡ true → All (λ x. t x ≡ true) xs
every-all t [] e = tt
every-all t (x ∷ xs) e = let r = pick-then (t x) false true (λ z. clash (sym z)) e in (r.0, every-all t xs r.1)

pub every-split : {A : Type 0} (t : A → Bool) (xs ys : List A) → every t (xs ++ ys) ≡ true → (every t xs ≡ true) × (every t ys ≡ true)
every-split t [] ys e = (refl, e)
every-split t (x ∷ xs) ys e =
    let r = pick-then (t x) false true (λ z. clash (sym z)) e in
    let s = every-split t xs ys r.1 in
    (rw r.0 s.0, s.1)

-- One row of the cascade at a time.
pub countable-in : (b : State) (r : ℕ) → countable b r ≡ 0 → (b.accepted < most_commands) × (r ≡ 0)
countable-in b r e =
    let x = pick-then {A = ℕ} (ltb b.accepted most_commands) EOVERFLOW 0 (λ z. omega arith) e in
    (ltb-true b.accepted most_commands x.0, x.1)

pub present-in : (s : Status) (r : ℕ) → present s r ≡ 0 → (s ≡ opened) × (r ≡ 0)
present-in unopened r e = absurd (omega arith)
present-in opened r e = (refl, e)
present-in disconnected r e = absurd (omega arith)

pub openable-in : (s : Status) → openable s ≡ 0 → s ≡ unopened
openable-in unopened e = refl
openable-in opened e = absurd (omega arith)
openable-in disconnected e = absurd (omega arith)

pub held_all : (find : ℕ → ℕ) (is : List ℕ) → every (λ i. ltb (find i) nodes) is ≡ true → All (λ i. find i < nodes) is
held_all find [] e = tt
held_all find (i ∷ is) e =
    let r = pick-then (ltb (find i) nodes) false true (λ z. clash (sym z)) e in
    (ltb-true (find i) nodes r.0, held_all find is r.1)

pub holding-in : (find : ℕ → ℕ) (is : List ℕ) (r : ℕ) → holding find is r ≡ 0 → (every (λ i. ltb (find i) nodes) is ≡ true) × (r ≡ 0)
holding-in find is r e = pick-then {A = ℕ} (every (λ i. ltb (find i) nodes) is) ENXIO 0 (λ z. omega arith) e

pub held_in : (find : ℕ → ℕ) (i r : ℕ) → holding find (i ∷ []) r ≡ 0 → (find i < nodes) × (r ≡ 0)
held_in find i r e = let x = holding-in find (i ∷ []) r e in ((held_all find (i ∷ []) x.0).0, x.1)

pub owning-in : (p s r : ℕ) → pick (eqb (owner s) p) r EPERM ≡ 0 → (owner s ≡ p) × (r ≡ 0)
owning-in p s r e = let x = pick-then {A = ℕ} (eqb (owner s) p) EPERM 0 (λ z. omega arith) e in (eqb-true (owner s) p x.0, x.1)

pub living-in : (b : State) (ss : List ℕ) (r : ℕ) → living b ss r ≡ 0 → All (Lives b) ss × (r ≡ 0)
living-in b ss r e =
    let x = pick-then {A = ℕ} (every (λ s. is_live (b.life s)) ss) EHOSTUNREACH 0 (λ z. omega arith) e in
    (every-all (λ s. is_live (b.life s)) ss x.0, x.1)

pub tested-quota : (b : State) (p : ℕ) → refuses_quota b p ≡ 0 → b.status p ≡ opened
unfolding refuses_quota
tested-quota b p e = (present-in (b.status p) 0 e).0

pub tested-holders : (b : State) (p i : ℕ) → refuses_holders b p i ≡ 0 → TestedHolders b p i
unfolding refuses_holders
tested-holders b p i e =
    let x = present-in (b.status p) _ e in
    let y = held_in (slot b p) i _ x.1 in
    record { is_open = x.0; holds = y.0; owns = (owning-in p (slot b p i) 0 y.1).0 }
