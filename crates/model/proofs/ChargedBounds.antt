-- The theorems that go with specs/ChargedBounds.antt and stand on others: each goes by the definitions and the theorems there.
-- Assumes nothing.
use Rattle.std.specs.Prelude.{ℕ, ◌+◌, ◌*◌, ◌≤◌, ◌<◌, ◌≡◌, true, List, map, length}
use Rattle.std.proofs.Common.{sym, ◌∙◌, arith}
use Rattle.ids.specs.Refusals.{EDQUOT}
use Rattle.laws.specs.Tests.{clash}
use Rattle.laws.specs.Loads.{load-length}
use Rattle.quota.specs.Charges.{users, own}
use Rattle.quota.proofs.Step.{own-at-most-half}
use Rattle.model.specs.Resources.{Resource, Resource.messages, Resource.bytes, Resource.handles, limit, weigh, amount, most, share}
use Rattle.model.specs.State.{messages_in, State, slot}
use Rattle.model.specs.Refusals.{places_at, fits, refuses_send}
use Rattle.model.specs.Step.{Call, run}
use Rattle.model.specs.Charged.{queued_by, Charged}
use Rattle.model.specs.Charging.{is-resource, reached-at}
use Rattle.model.specs.ChargedProof.{known-open}
use Rattle.model.proofs.ChargedProof.{always-charged}
use Rattle.model.specs.Sending.{reached-fits}
use Rattle.model.specs.ChargedBounds.{queued_all, sound-within, refused-122}

-- Every run, at every peer q.
module _ (cs : List Call) (q : ℕ) where
  pub queued-within : (r : Resource) → queued_all r (messages_in ((run cs).queue q)) + share r ≤ limit r
  queued-within r = sound-within _ ((run cs).charges q) r ((always-charged cs).at q)

  pub at-most-60-messages : length (messages_in ((run cs).queue q)) ≤ 60
  at-most-60-messages = omega (arith, queued-within messages, load-length (messages_in ((run cs).queue q)))

  pub at-most-3840-bytes : queued_all bytes (messages_in ((run cs).queue q)) ≤ 3840
  at-most-3840-bytes = omega (arith, queued-within bytes)

  pub at-most-60-handles : queued_all handles (messages_in ((run cs).queue q)) ≤ 60
  at-most-60-handles = omega (arith, queued-within handles)

  -- No user has more than half of the limit queued.
  pub at-most-half-queued : (r : Resource) (u : ℕ) → u < users → queued_by r u (messages_in ((run cs).queue q)) ≤ most r
  at-most-half-queued r u l =
      let h = (always-charged cs).at q in
      omega (arith, h.sums r u l, own-at-most-half (is-resource r) ((run cs).charges q) (record { 0 = u }) (reached-at ((run cs).charges q) h.reached r))

-- A send that stays within the share at each peer that it goes to fits: by the stored charges, or by what is queued.
pub share-fits : (b : State) → Charged b → (u : ℕ) (ds : List ℕ) (nb nh : ℕ) → u < users →
    ((q : ℕ) (r : Resource) → 0 < places_at q ds → amount r (own (b.charges q) (record { 0 = u })) + places_at q ds * weigh r nb nh ≤ share r) →
    fits b u ds nb nh ≡ true
share-fits b h u ds nb nh l s = reached-fits b u ds nb nh (λ q. (h.at q).reached) l s

pub queued-share-fits : (b : State) → Charged b → (u : ℕ) (ds : List ℕ) (nb nh : ℕ) → u < users →
    ((q : ℕ) (r : Resource) → 0 < places_at q ds → queued_by r u (messages_in (b.queue q)) + places_at q ds * weigh r nb nh ≤ share r) →
    fits b u ds nb nh ≡ true
queued-share-fits b h u ds nb nh l s = share-fits b h u ds nb nh l (λ q r g. omega (arith, (h.at q).sums r u l, s q r g))

-- So such a send is never refused with EDQUOT.
pub share-never-refused : (b : State) → Charged b → (p : ℕ) (is hs : List ℕ) (nb : ℕ) →
    ((q : ℕ) (r : Resource) → 0 < places_at q (map (slot b p) is) →
    amount r (own (b.charges q) (record { 0 = b.user p })) + places_at q (map (slot b p) is) * weigh r nb (length hs) ≤ share r) →
    refuses_send b p is hs nb ≡ EDQUOT → ⊥
share-never-refused b h p is hs nb s e =
    let x = refused-122 b p is hs nb e in
    clash (sym (share-fits b h (b.user p) (map (slot b p) is) nb (length hs) (known-open b p h x.is_open) s) ∙ x.unfit)

pub run-share-fits : (cs : List Call) (u : ℕ) (ds : List ℕ) (nb nh : ℕ) → u < users →
    ((q : ℕ) (r : Resource) → 0 < places_at q ds → amount r (own ((run cs).charges q) (record { 0 = u })) + places_at q ds * weigh r nb nh ≤ share r) →
    fits (run cs) u ds nb nh ≡ true
run-share-fits cs u ds nb nh l s = share-fits (run cs) (always-charged cs) u ds nb nh l s
