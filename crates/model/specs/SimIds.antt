-- The IDs of every peer stay below what it has been given, and every ID has 8 bytes, if frames are bytes.
-- Assumes nothing.
use Rattle.std.specs.Prelude.{ℕ, ◌+◌, ◌-◌, ◌*◌, ◌^◌, ◌≤◌, ◌<◌, ◌≡◌, refl, eqb}
use Rattle.std.proofs.Common.{sym, arith}
use Rattle.laws.specs.Tests.{pick, pick_all}
use Rattle.laws.specs.Tables.{upd-all}
use Rattle.frames.specs.declared.Command.{Command}
use Rattle.frames.specs.declared.Command.TheVariants.{Open, Disconnect, Create, Destroy, Release, Transfer, Send, Receive, Quota, Holders, ShowSeed}
use Rattle.model.specs.State.{Handle.some, handle_of, State}
use Rattle.model.specs.Tables.{with_status, with_handles, with_handle, with_queues, with_charges, with_lives}
use Rattle.model.specs.Changes.{push_all, take_out, withdraw, forget, fell, notify, notify_all, destroy_all}
use Rattle.model.specs.Effects.{releases, disconnects}
use Rattle.model.specs.SimHandles.{some-none}
use Rattle.model.specs.SimGive.{IdsAt, Ids, ids_set}

-- Handles and what was given stay.
abbrev pub Still : State → State → Type 0
Still b a = (a.handle ≡ b.handle) × (a.given ≡ b.given)

ids-still : (b a : State) → Still b a → Ids b → Ids a
ids-still b a s ok = rw (s.0, s.1) ok

pub still-notify : (x b : State) (s : ℕ) → Still b (notify x b s)
unfolding notify with_queues
still-notify x b s = pick_all (Still b) (fell x b s) _ b (refl, refl) (refl, refl)

pub still-forget : (b : State) (p s : ℕ) → Still b (forget b p s)
unfolding forget take_out with_charges with_queues
still-forget b p s = (refl, refl)

-- One handle of p set to an ID that is rightly p's.
pub ids-put : (b : State) (p s i c : ℕ) → Ids b → ((j : ℕ) → i ≡ 4 * j + 3 → j ≤ b.given p) → i < 18446744073709551615 → Ids (with_handle b p s (handle_of i c))
unfolding with_handles
ids-put b p s i c ok new small =
    upd-all (λ q h. IdsAt h (b.given q)) b.handle p _ ok (ids_set (b.handle p) (b.given p) (b.given p) s i c (ok p) (omega arith) new small)

pub ids-release : (b : State) (p s i c : ℕ) → Ids b → b.handle p s ≡ some i c → Ids (releases b p s i c)
unfolding releases
ids-release b p s i c ok e =
    let less = with_handle b p s (handle_of i (c - 1)) in
    let x = ok p s i c e in
    let put = ids-put b p s i (c - 1) ok x.0 x.1 in
    ids-still (pick (eqb c 1) (forget less p s) less) (notify b (pick (eqb c 1) (forget less p s) less) s) (still-notify b (pick (eqb c 1) (forget less p s) less) s)
    (pick_all Ids (eqb c 1) (forget less p s) less (ids-still less (forget less p s) (still-forget less p s) put) put)

pub ids-disconnect : (b : State) (p : ℕ) → Ids b → Ids (disconnects b p)
unfolding disconnects notify_all destroy_all take_out push_all withdraw with_status with_handles with_lives with_queues with_charges
ids-disconnect b p ok = upd-all (λ q h. IdsAt h (b.given q)) b.handle p _ ok (λ s i c e. some-none (sym e))

-- Every accepted command; of a chosen ID its 8 bytes.
abbrev pub Small : Command → Type 0
Small (Open p u) = Unit {0}
Small (Disconnect p) = Unit {0}
Small (Create p i) = i.0 < 256 ^ 8
Small (Destroy p i) = Unit {0}
Small (Release p i) = Unit {0}
Small (Transfer p i q) = Unit {0}
Small (Send p z) = Unit {0}
Small (Receive p room) = Unit {0}
Small (Quota p u) = Unit {0}
Small (Holders p i) = Unit {0}
Small (ShowSeed p room) = Unit {0}
