-- What follows for every run: how much may be queued at a peer, and that a send within the share is never refused for quota.
-- Assumes nothing.
use Rattle.std.specs.Prelude.{ℕ, ◌+◌, ◌≤◌, ◌<◌, ◌≡◌, refl, Bool, true, false, List, ◌++◌, map, length, get_or, ltb}
use Rattle.std.proofs.Common.{sym, ◌∙◌, arith, ltb-true}
use Rattle.ids.specs.Refusals.{EDQUOT, EHOSTUNREACH, ENXIO, EOVERFLOW}
use Rattle.laws.specs.Tests.{pick, pick-then}
use Rattle.laws.specs.Sums.{sum, sum-ext}
use Rattle.laws.specs.Weights.{load, All, all-imp}
use Rattle.laws.specs.Loads.{sum-places, load-keys}
use Rattle.laws.specs.Tables.{map_at}
use Rattle.quota.specs.declared.Charges.{Charges}
use Rattle.quota.specs.Charges.{users, nothing}
use Rattle.quota.specs.Share.{reach-length, share-unused}
use Rattle.quota.specs.Step.{each}
use Rattle.model.specs.Numbers.{nodes, most_commands}
use Rattle.model.specs.Lists.{every}
use Rattle.model.specs.Resources.{Resource, limit, amount, share}
use Rattle.model.specs.State.{Status, Status.unopened, Status.opened, Status.disconnected, is_live, Message, State, slot}
use Rattle.model.specs.Refusals.{present, fits, refuses_send}
use Rattle.model.specs.Charged.{weight_of, queued_by, Fine, Sound}
use Rattle.model.specs.Tested.{every-all, every-split}
use Rattle.model.specs.Charging.{is-resource, reached-at}

-- All that is queued of a resource, whoever sent it.
abbrev pub queued_all : Resource → List Message → ℕ
queued_all r ms = load (λ m. true) (weight_of r) ms

-- The users' charges make it up, so one share of the limit is never used.
pub sound-sum : (ms : List Message) (c : Charges) (r : Resource) → Sound ms c → sum (each (amount r) c) ≡ queued_all r ms
sound-sum ms c r h =
    let n : length (each (amount r) c) ≡ users = reach-length (reached-at c h.reached r) in
    sym (sum-places (each (amount r) c))
    ∙ rw n
    (sum-ext (λ u. get_or (each (amount r) c) u 0) (λ u. queued_by r u ms) users
    (λ u l. map_at (amount r) nothing (is-resource r).of-nothing c.by u ∙ h.sums r u l))
    ∙ load-keys (weight_of r) (λ (m : Message). m.user) users ms (all-imp Fine (λ m. m.user < users) (λ m f. f.from) ms h.fine)

pub sound-within : (ms : List Message) (c : Charges) (r : Resource) → Sound ms c → queued_all r ms + share r ≤ limit r
sound-within ms c r h = rw (sound-sum ms c r h) at (share-unused (reached-at c h.reached r))

-- A send that is refused with EDQUOT, and not before: its sender is open and holds every ID, its destinations live, and it does not fit.
pub record Refused122 (b : State) (p : ℕ) (is hs : List ℕ) (nb : ℕ) : Type 0 where
  pub is_open : b.status p ≡ opened
  pub holds : All (λ i. slot b p i < nodes) is
  pub unfit : fits b (b.user p) (map (slot b p) is) nb (length hs) ≡ false

pub refused-122 : (b : State) (p : ℕ) (is hs : List ℕ) (nb : ℕ) → refuses_send b p is hs nb ≡ EDQUOT → Refused122 b p is hs nb
unfolding refuses_send
refused-122 b p is hs nb e =
    let c = pick-then {A = ℕ} (ltb b.accepted most_commands) EOVERFLOW EDQUOT (λ z. omega arith) e in
    let o = open_at (b.status p) _ c.1 in
    let k = pick-then {A = ℕ} (every (λ i. ltb (slot b p i) nodes) (is ++ hs)) ENXIO EDQUOT (λ z. omega arith) o.1 in
    let l = pick-then {A = ℕ} (every (λ s. is_live (b.life s)) (map (slot b p) is)) EHOSTUNREACH EDQUOT (λ z. omega arith) k.1 in
    let a = every-all (λ i. ltb (slot b p i) nodes) is (every-split (λ i. ltb (slot b p i) nodes) is hs k.0).0 in
    record {
      is_open = o.0;
      holds = all-imp _ _ (λ i h. ltb-true (slot b p i) nodes h) is a;
      unfit = unfits (fits b (b.user p) (map (slot b p) is) nb (length hs)) l.1;
    }
  where
    open_at : (s : Status) (r : ℕ) → present s r ≡ EDQUOT → (s ≡ opened) × (r ≡ EDQUOT)
    open_at unopened r e = absurd (omega arith)
    open_at opened r e = (refl, e)
    open_at disconnected r e = absurd (omega arith)

    unfits : (x : Bool) → pick x 0 EDQUOT ≡ EDQUOT → x ≡ false
    unfits true z = absurd (omega arith)
    unfits false z = refl
