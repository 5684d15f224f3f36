-- The theorems that go with specs/Tested.antt and stand on others: each goes by the definitions and the theorems there.
-- Assumes nothing.
use Rattle.std.specs.Prelude.{ℕ, ◌≡◌, List, [], ◌∷◌, ◌++◌, map, length, ltb}
use Rattle.std.proofs.Common.{arith, ltb-true, ltb-false}
use Rattle.ids.specs.Refusals.{EDQUOT, EEXIST, ENOSPC, EPERM}
use Rattle.laws.specs.Tests.{pick-then, pick-else}
use Rattle.frames.specs.declared.Command.{Command}
use Rattle.frames.specs.declared.Command.TheVariants.{Open, Disconnect, Create, Destroy, Release, Transfer, Send, Receive, Quota, Holders, ShowSeed}
use Rattle.frames.specs.Frame.{payload_of}
use Rattle.model.specs.Numbers.{slots, nodes}
use Rattle.model.specs.State.{State, slot, free_place}
use Rattle.model.specs.Requests.{destinations, attached}
use Rattle.model.specs.Refusals.{countable, present, openable, pinned, fits, refuses_open, refuses_disconnect, refuses_create, refuses_destroy, refuses_release, refuses_transfer, refuses_send, refuses_receive, refuses_seed, refusal}
use Rattle.model.specs.Tested.{Acting, TestedOpen, TestedCreate, TestedDestroy, TestedRelease, TestedTransfer, TestedSend, TestedReceive, TestedSeed, Tested, every-split, countable-in, present-in, openable-in, held_all, holding-in, held_in, owning-in, living-in, tested-quota, tested-holders}

pub acting-in : (b : State) (p r : ℕ) → countable b (present (b.status p) r) ≡ 0 → Acting b p × (r ≡ 0)
acting-in b p r e =
    let x = countable-in b (present (b.status p) r) e in
    let y = present-in (b.status p) r x.1 in
    (record { room = x.0; is_open = y.0 }, y.1)

-- Each command.
tested-open : (b : State) (p : ℕ) → refuses_open b p ≡ 0 → TestedOpen b p
unfolding refuses_open
tested-open b p e = let x = countable-in b (openable (b.status p)) e in record { room = x.0; fresh = openable-in (b.status p) x.1 }

tested-disconnect : (b : State) (p : ℕ) → refuses_disconnect b p ≡ 0 → Acting b p
unfolding refuses_disconnect
tested-disconnect b p e = (acting-in b p 0 e).0

tested-create : (b : State) (p i : ℕ) → refuses_create b p i ≡ 0 → TestedCreate b p i
unfolding refuses_create
tested-create b p i e =
    let x = acting-in b p _ e in
    let y = pick-else {A = ℕ} (ltb (slot b p i) nodes) EEXIST 0 (λ z. omega arith) x.1 in
    let z = pick-then {A = ℕ} (ltb (free_place b p) slots) ENOSPC 0 (λ z. omega arith) y.1 in
    record { acting = x.0; unheld = ltb-false (slot b p i) nodes y.0; free = ltb-true (free_place b p) slots z.0 }

tested-destroy : (b : State) (p i : ℕ) → refuses_destroy b p i ≡ 0 → TestedDestroy b p i
unfolding refuses_destroy
tested-destroy b p i e =
    let x = acting-in b p _ e in
    let y = held_in (slot b p) i _ x.1 in
    let z = owning-in p (slot b p i) _ y.1 in
    record { acting = x.0; holds = y.0; owns = z.0; lives = (living-in b (slot b p i ∷ []) 0 z.1).0.0 }

tested-release : (b : State) (p i : ℕ) → refuses_release b p i ≡ 0 → TestedRelease b p i
unfolding refuses_release
tested-release b p i e =
    let x = acting-in b p _ e in
    let y = held_in (slot b p) i _ x.1 in
    record { acting = x.0; holds = y.0; unpinned = (pick-else {A = ℕ} (pinned b p (slot b p i)) EPERM 0 (λ z. omega arith) y.1).0 }

tested-transfer : (b : State) (p i q : ℕ) → refuses_transfer b p i q ≡ 0 → TestedTransfer b p i q
unfolding refuses_transfer
tested-transfer b p i q e =
    let x = acting-in b p _ e in
    let y = present-in (b.status q) _ x.1 in
    let z = held_in (slot b p) i _ y.1 in
    record { acting = x.0; destination = y.0; holds = z.0; lives = (living-in b (slot b p i ∷ []) 0 z.1).0.0 }

tested-send : (b : State) (p : ℕ) (is hs : List ℕ) (nb : ℕ) → refuses_send b p is hs nb ≡ 0 → TestedSend b p is hs nb
unfolding refuses_send
tested-send b p is hs nb e =
    let x = acting-in b p _ e in
    let y = holding-in (slot b p) (is ++ hs) _ x.1 in
    let h = every-split (λ i. ltb (slot b p i) nodes) is hs y.0 in
    let z = living-in b (map (slot b p) is) _ y.1 in
    record {
      acting = x.0;
      holds = held_all (slot b p) is h.0;
      holds-attached = held_all (slot b p) hs h.1;
      lives = z.0;
      fitting = (pick-then {A = ℕ} (fits b (b.user p) (map (slot b p) is) nb (length hs)) EDQUOT 0 (λ z. omega arith) z.1).0;
    }

tested-receive : (b : State) (p room : ℕ) → refuses_receive b p room ≡ 0 → TestedReceive b p room
unfolding refuses_receive
tested-receive b p room e = let x = acting-in b p _ e in record { acting = x.0; next = x.1 }

tested-seed : (b : State) (p room : ℕ) → refuses_seed b p room ≡ 0 → TestedSeed b p room
unfolding refuses_seed
tested-seed b p room e = let x = acting-in b p _ e in record { acting = x.0; next = x.1 }

-- Every command that is not refused.
pub tested : (b : State) (f : List ℕ) (c : Command) → refusal b f c ≡ 0 → Tested b f c
unfolding refusal
tested b f (Open p u) e = tested-open b p.0 e
tested b f (Disconnect p) e = tested-disconnect b p.0 e
tested b f (Create p i) e = tested-create b p.0 i.0 e
tested b f (Destroy p i) e = tested-destroy b p.0 i.0 e
tested b f (Release p i) e = tested-release b p.0 i.0 e
tested b f (Transfer p i q) e = tested-transfer b p.0 i.0 q.0 e
tested b f (Send p z) e = tested-send b p.0 (destinations f z) (attached f z) (length (payload_of f)) e
tested b f (Receive p room) e = tested-receive b p.0 room e
tested b f (Quota p u) e = tested-quota b p.0 e
tested b f (Holders p i) e = tested-holders b p.0 i.0 e
tested b f (ShowSeed p room) e = tested-seed b p.0 room e
