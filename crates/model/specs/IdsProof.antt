-- `Ids` holds of every bus that a run leaves: the proof.
-- Assumes nothing.
use Rattle.std.specs.Prelude.{ℕ, ◌+◌, ◌-◌, ◌*◌, ◌%◌, ◌≤◌, ◌<◌, ◌≡◌, refl, false, List, eqb}
use Rattle.std.proofs.Common.{sym, ◌∙◌, arith, eq-eqb}
use Rattle.laws.specs.Tests.{pick, pick_all, clash}
use Rattle.laws.specs.Tables.{upd, upd-all}
use Rattle.laws.specs.Search.{first-before}
use Rattle.model.specs.Numbers.{peers, slots, nodes, owner}
use Rattle.model.specs.State.{Handle, Handle.none, Handle.some, handle_of, has_id, Message, Entry, State, slot_of, slot, counts, free_place}
use Rattle.model.specs.Tables.{accept, with_status, with_handles, with_handle, with_queues, with_charges, with_lives}
use Rattle.model.specs.Changes.{push_all, take_out, withdraw, forget, notify, notify_all, destroy_all}
use Rattle.model.specs.Effects.{creates, releases, releases_handle, disconnects}
use Rattle.model.specs.Tested.{TestedCreate}
use Rattle.model.specs.Unchanged.{notify-apart}
use Rattle.model.specs.Ids.{Handles, Ids}
use Rattle.model.specs.IdsLaws.{Holding, handles-set, fit_of}
use Rattle.model.specs.SimHandles.{some-none}

-- A state with the same handles and given IDs.
pub ids-same : (b a : State) → a.handle ≡ b.handle → a.given ≡ b.given → Ids b → Ids a
ids-same b a h g v p = rw (h, g) (v p)

-- Create: the ID is at no handle of the peer.
unheld-id : (b : State) (p i : ℕ) → nodes ≤ slot b p i → Handles p (b.given p) (b.handle p) → (t d : ℕ) → b.handle p t ≡ some i d → ⊥
unfolding slot_of
unheld-id b p i l v t d e =
    let lt : t < nodes = v.within t i d e in
    let z : has_id i (b.handle p t) ≡ false = first-before (λ s. has_id i (b.handle p s)) nodes t (omega arith) in
    clash (sym (rw e (eq-eqb i i refl)) ∙ z)

same_place : (b : State) (p : ℕ) → free_place (accept b) p ≡ free_place b p
unfolding free_place counts accept
same_place b p = refl

pub ids-create : (b : State) (p i : ℕ) → p < peers → i % 4 ≡ 0 → TestedCreate b p i → Ids b → Ids (creates (accept b) p i)
unfolding creates with_handles with_lives accept
ids-create b p i lp li t v =
    let s : ℕ = p * slots + free_place (accept b) p in
    let place : free_place (accept b) p < slots = rw (same_place b p) t.free in
    let ls : s < nodes = omega arith in
    let os : owner s ≡ p = omega arith in
    upd-all (λ q h. Handles q (b.given q) h) b.handle p (upd (b.handle p) s (handle_of i 1)) v
    (handles-set p (b.given p) (b.given p) (b.handle p) s i 1 (v p) (omega arith) ls
    (record { chosen = λ o. li; given = λ o. absurd (o os) })
    (λ r d e. absurd (unheld-id b p i t.unheld (v p) r d e)))

-- Disconnect: no handle of the peer is left.
pub no-handles : (p g : ℕ) → Handles p g (λ s. none)
no-handles p g =
    record {
      within = λ s i c e. some-none (sym e);
      counted = λ s i c e. some-none (sym e);
      distinct = λ s t i c d e f. some-none (sym e);
      chosen = λ s i c e o. some-none (sym e);
      given = λ s i c e o. some-none (sym e);
    }

pub ids-disconnect : (b : State) (p : ℕ) → Ids b → Ids (disconnects (accept b) p)
unfolding disconnects notify_all push_all with_queues with_status with_handles take_out with_charges destroy_all with_lives withdraw accept
ids-disconnect b p v = upd-all (λ q h. Handles q (b.given q) h) b.handle p (λ s. none) v (no-handles p (b.given p))

-- Release.
ids-less : (b : State) (p s i c : ℕ) → Ids b → b.handle p s ≡ some i c → Ids (with_handle (accept b) p s (handle_of i (c - 1)))
unfolding with_handles accept
ids-less b p s i c v e =
    upd-all (λ q h. Handles q (b.given q) h) b.handle p (upd (b.handle p) s (handle_of i (c - 1))) v
    (handles-set p (b.given p) (b.given p) (b.handle p) s i (c - 1) (v p) (omega arith) ((v p).within s i c e) (fit_of p (b.given p) (b.handle p) s i c (v p) e)
    (λ t d f. (v p).distinct t s i d c f e))

pub ids-release : (b : State) (p s : ℕ) (h : Handle) → b.handle p s ≡ h → Ids b → Ids (releases_handle (accept b) p s h)
unfolding releases
ids-release b p s none e v = unfold accept in v
ids-release b p s (some i c) e v =
    let less = with_handle (accept b) p s (handle_of i (c - 1)) in
    let x = pick (eqb c 1) (forget less p s) less in
    let a = notify-apart (accept b) x s in
    ids-same x (notify (accept b) x s) a.handle a.given
    (pick_all Ids (eqb c 1) (forget less p s) less (unfold forget take_out with_charges with_queues in (ids-less b p s i c v e)) (ids-less b p s i c v e))

-- Receive.
pub holding-out : (b : State) (p : ℕ) (out : List Message) (rest : List Entry) → Holding b → Holding (take_out (accept b) p out rest)
unfolding take_out with_charges with_queues accept
holding-out b p out rest v = record { handles = v.handles; owned = v.owned }
