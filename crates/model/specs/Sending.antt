-- A send at each peer: the test at each destination's peer says of every peer that the send does not go there or that the test passed there; what arrives there,
-- and what it adds there of any resource.
-- Assumes nothing.
use Rattle.std.specs.Prelude.{ℕ, ◌+◌, ◌*◌, ◌/◌, ◌^◌, ◌≤◌, ◌<◌, ◌≡◌, refl, Bool, true, ◌⊎◌, List, [], ◌∷◌, map, length, eqb}
use Rattle.std.proofs.Common.{◌∙◌, arith, eqb-true, eq-eqb}
use Rattle.std.proofs.Math.Logic.◌⊎◌.{inl, inr}
use Rattle.laws.specs.Tests.{pick, Seen, Seen.is_true, Seen.is_false, look}
use Rattle.laws.specs.Weights.{keep, All, all-imp, all_keep}
use Rattle.frames.specs.Frame.{most_ids, most_bytes}
use Rattle.quota.specs.Charges.{users, own, allows_all}
use Rattle.quota.specs.Step.{Reached}
use Rattle.quota.proofs.Step.{reached-share}
use Rattle.model.specs.Numbers.{nodes, owner}
use Rattle.model.specs.Resources.{Resource, Resource.messages, Resource.bytes, Resource.handles, weigh, amount, share}
use Rattle.model.specs.Lists.{every}
use Rattle.model.specs.State.{Message, Entry.message, messages_in, State}
use Rattle.model.specs.Refusals.{places_at, adds, fits}
use Rattle.model.specs.Changes.{arriving}
use Rattle.model.specs.Tested.{every-all}
use Rattle.model.specs.Charged.{queued_by, Fine}
use Rattle.model.specs.Charging.{Room, room-allowed, room-nothing, of-resource}

-- A peer that no destination is at, or of which the fact of every destination's peer holds.
pub visited : (T : ℕ → Type 0) (q : ℕ) (ds : List ℕ) → All (λ d. T (owner d)) ds → (places_at q ds ≡ 0) ⊎ T q
unfolding places_at
visited T q [] h = inl refl
visited T q (d ∷ ds) h = go (look (eqb (owner d) q)) (visited T q ds h.1)
  where
    go : Seen (eqb (owner d) q) → (places_at q ds ≡ 0) ⊎ T q → (places_at q (d ∷ ds) ≡ 0) ⊎ T q
    go (is_true e) r = inr (rw (← eqb-true (owner d) q e) h.0)
    go (is_false e) (inl z) = inl (rw e z)
    go (is_false e) (inr t) = inr t

-- Every destination is at its peer.
more : (q d : ℕ) (ds : List ℕ) → places_at q ds ≤ places_at q (d ∷ ds)
unfolding places_at
more q d ds = go (look (eqb (owner d) q))
  where
    go : Seen (eqb (owner d) q) → places_at q ds ≤ places_at q (d ∷ ds)
    go (is_true e) = rw e (omega arith)
    go (is_false e) = rw e (omega arith)

here : (d : ℕ) (ds : List ℕ) → 0 < places_at (owner d) (d ∷ ds)
unfolding places_at
here d ds = rw (eq-eqb (owner d) (owner d) refl) (omega arith)

pub placed : (ds : List ℕ) → All (λ d. 0 < places_at (owner d) ds) ds
placed [] = tt
placed (d ∷ ds) = (here d ds, all-imp (λ x. 0 < places_at (owner x) ds) (λ x. 0 < places_at (owner x) (d ∷ ds)) (λ x l. omega (arith, more (owner x) d ds)) ds (placed ds))

pub all-every : {A : Type 0} (t : A → Bool) (xs : List A) → All (λ x. t x ≡ true) xs → every t xs ≡ true
all-every t [] h = refl
all-every t (x ∷ xs) h = rw h.0 (all-every t xs h.1)

-- What a send adds at a peer.
pub adds-amount : (r : Resource) (q : ℕ) (ds : List ℕ) (nb nh : ℕ) → amount r (adds q ds nb nh) ≡ places_at q ds * weigh r nb nh
adds-amount messages q ds nb nh = omega arith
adds-amount bytes q ds nb nh = refl
adds-amount handles q ds nb nh = refl

-- A send that fits keeps every peer's charges within the share theorem.
pub fits-room : (b : State) (u : ℕ) (ds : List ℕ) (nb nh : ℕ) → ((q : ℕ) → Reached (b.charges q)) → fits b u ds nb nh ≡ true →
    (q : ℕ) → Room (b.charges q) (record { 0 = u }) (adds q ds nb nh)
unfolding fits
fits-room b u ds nb nh h e q = go (visited Allowed q ds (every-all _ ds e))
  where
    Allowed : ℕ → Type 0
    Allowed q = allows_all (b.charges q) (record { 0 = u }) (adds q ds nb nh) ≡ true

    go : (places_at q ds ≡ 0) ⊎ Allowed q → Room (b.charges q) (record { 0 = u }) (adds q ds nb nh)
    go (inl z) = room-nothing (b.charges q) (record { 0 = u }) (adds q ds nb nh) (h q) (λ r. adds-amount r q ds nb nh ∙ rw z (omega arith))
    go (inr a) = room-allowed (b.charges q) (record { 0 = u }) (adds q ds nb nh) (h q) a

-- A send within the share at each peer that it goes to fits.
pub reached-fits : (b : State) (u : ℕ) (ds : List ℕ) (nb nh : ℕ) → ((q : ℕ) → Reached (b.charges q)) → u < users →
    ((q : ℕ) (r : Resource) → 0 < places_at q ds → amount r (own (b.charges q) (record { 0 = u })) + places_at q ds * weigh r nb nh ≤ share r) →
    fits b u ds nb nh ≡ true
unfolding fits
reached-fits b u ds nb nh h l s =
    all-every _ ds
    (all-imp (λ d. 0 < places_at (owner d) ds) (λ d. allows_all (b.charges (owner d)) (record { 0 = u }) (adds (owner d) ds nb nh) ≡ true)
    (λ d g.
    reached-share (b.charges (owner d)) (record { 0 = u }) (adds (owner d) ds nb nh) l (h (owner d))
    (of-resource (λ L f. f (own (b.charges (owner d)) (record { 0 = u })) + f (adds (owner d) ds nb nh) ≤ L / 2 ^ users)
    (λ r. rw (adds-amount r (owner d) ds nb nh) (s (owner d) r g))))
    ds (placed ds))

-- The messages that arrive at a peer, for any places xs: their weight and their bounds.
module _ (n u : ℕ) (hs payload : List ℕ) where
  abbrev sent : ℕ → Message
  sent d = record { to = d; user = u; payload = payload; carried = hs }

  sent-load : (r : Resource) (v : ℕ) (xs : List ℕ) →
      queued_by r v (messages_in (map (λ d. message n (sent d)) xs)) ≡ pick (eqb u v) (length xs * weigh r (length payload) (length hs)) 0
  sent-load r v xs = go (look (eqb u v)) xs
    where
      go : Seen (eqb u v) → (xs : List ℕ) → queued_by r v (messages_in (map (λ d. message n (sent d)) xs)) ≡ pick (eqb u v) (length xs * weigh r (length payload) (length hs)) 0
      go (is_true e) [] = rw e (omega arith)
      go (is_true e) (x ∷ xs) = let ih = go (is_true e) xs in rw e (omega (arith, rw e at ih))
      go (is_false e) [] = rw e (omega arith)
      go (is_false e) (x ∷ xs) = let ih = go (is_false e) xs in rw e (omega (arith, rw e at ih))

  sent-fine : u < users → All (λ s. s < nodes) hs → length hs ≤ most_ids → length payload ≤ most_bytes → (xs : List ℕ) → All (λ s. s < nodes) xs →
      All Fine (messages_in (map (λ d. message n (sent d)) xs))
  sent-fine l a f s [] h = tt
  sent-fine l a f s (x ∷ xs) h = (record { from = l; to-node = h.0; few = f; nodes-only = a; small = s }, sent-fine l a f s xs h.1)

pub arriving-load : (b : State) (u : ℕ) (ds hs payload : List ℕ) (q : ℕ) (r : Resource) (v : ℕ) →
    queued_by r v (messages_in (arriving b u ds hs payload q)) ≡ pick (eqb u v) (amount r (adds q ds (length payload) (length hs))) 0
unfolding arriving places_at
arriving-load b u ds hs payload q r v =
    rw adds-amount (sent-load b.accepted u hs payload r v (keep (λ d. eqb (owner d) q) ds))

pub arriving-fine : (b : State) (u : ℕ) (ds hs payload : List ℕ) (q : ℕ) → u < users → All (λ s. s < nodes) ds → All (λ s. s < nodes) hs → length hs ≤ most_ids →
    length payload ≤ most_bytes → All Fine (messages_in (arriving b u ds hs payload q))
unfolding arriving
arriving-fine b u ds hs payload q l d a f s =
    sent-fine b.accepted u hs payload l a f s (keep (λ d. eqb (owner d) q) ds) (all_keep (λ s. s < nodes) (λ d. eqb (owner d) q) ds d)
