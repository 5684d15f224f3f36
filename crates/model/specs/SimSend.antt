-- Send, alike on the bus and in the book; and what a send would leave, in the bus's numbers.
-- Assumes nothing.
use Rattle.std.specs.Prelude.{ℕ, ◌<◌, ◌≡◌, refl, true, List, [], ◌∷◌, ◌++◌, map, length, eqb}
use Rattle.std.proofs.Common.{sym, ap, ap₂, ◌∙◌, arith, eqb-true}
use Rattle.std.proofs.lemmas.Simd.{map-map}
use Rattle.std.proofs.lemmas.List.{map-append, length-map}
use Rattle.laws.specs.Tests.{clash}
use Rattle.laws.specs.Weights.{All, load-append, keep, keep-map}
use Rattle.laws.specs.Search.{first, first_found}
use Rattle.frames.specs.declared.Sizes.{Sizes}
use Rattle.model.specs.Numbers.{nodes, owner}
use Rattle.model.specs.State.{Handle, Handle.none, Handle.some, has_id, Message, Entry.message, messages_in, State, slot_of, slot}
use Rattle.model.specs.Tables.{with_queues, with_charges}
use Rattle.model.specs.Refusals.{places_at}
use Rattle.model.specs.Changes.{push_all, arriving, deliver}
use Rattle.model.specs.Book.{Noted.noted, Book, nodes_of, owned_by, incoming, note_send}
use Rattle.model.specs.Sim.{called, told, Sim}
use Rattle.model.specs.Quiet.{messages-append}

has-id-inv : (x : Handle) (i : ℕ) → has_id i x ≡ true → (c : ℕ) × (x ≡ some i c)
has-id-inv none i e = clash (sym e)
has-id-inv (some j c) i e = (c, rw (eqb-true j i e))

-- An ID that the search finds is at its slot.
pub held-at-slot : (b : State) (p i : ℕ) → slot b p i < nodes → (c : ℕ) × (b.handle p (slot b p i) ≡ some i c)
unfolding slot_of
held-at-slot b p i l = has-id-inv (b.handle p (first (λ s. has_id i (b.handle p s)) nodes)) i (first_found (λ s. has_id i (b.handle p s)) nodes l)

module _ {N : ℕ} (name : ℕ → ℕ) (b : State) (k : Book) (r : Sim N name b k) where
  pub noted-at-slot : (p i : ℕ) → slot b p i < nodes → (c : ℕ) × (k.handle p i ≡ noted (called name (slot b p i)) c)
  noted-at-slot p i l = let x = held-at-slot b p i l in (x.0, (r.handles p).noted-at _ i x.0 x.1)

  pub nodes-of-slots : (p : ℕ) (is : List ℕ) → All (λ i. slot b p i < nodes) is → nodes_of k p is ≡ map (called name) (map (slot b p) is)
  nodes-of-slots p [] a = refl
  nodes-of-slots p (i ∷ is) a = rw (noted-at-slot p i a.0).1 (ap (◌∷◌ (called name (slot b p i))) (nodes-of-slots p is a.1))

messages-map : (n : ℕ) (f : ℕ → Message) (xs : List ℕ) → messages_in (map (λ x. message n (f x)) xs) ≡ map f xs
messages-map n f [] = refl
messages-map n f (x ∷ xs) = ap (◌∷◌ (f x)) (messages-map n f xs)

incoming-is : (name : ℕ → ℕ) (b : State) (u : ℕ) (ds hs payload : List ℕ) (z : Sizes) (q : ℕ) → length payload ≡ z.nb → length hs ≡ z.nh →
    incoming u (map (called name) ds) (map (called name) hs) z q ≡ map (told name) (messages_in (arriving b u ds hs payload q))
unfolding incoming arriving
incoming-is name b u ds hs payload z q e f =
    rw (
      keep-map (called name) (owned_by q) (λ d. eqb (owner d) q) ds (λ x. refl),
      messages-map b.accepted (λ d. record { to = d; user = u; payload = payload; carried = hs }) (keep (λ d. eqb (owner d) q) ds),
      map-map,
      map-map,
      ← e,
      ← f,
    )

-- How many destinations a peer owns.
pub places_is : (name : ℕ → ℕ) (q : ℕ) (ds : List ℕ) → length (keep (owned_by q) (map (called name) ds)) ≡ places_at q ds
unfolding places_at
places_is name q ds = rw (keep-map (called name) (owned_by q) (λ d. eqb (owner d) q) ds (λ x. refl), length-map)

-- a is b with the command counted.
pub sim-send : {N : ℕ} (name : ℕ → ℕ) (b a : State) (k : Book) (p : ℕ) (is hs payload : List ℕ) (z : Sizes) → Sim N name b k → Sim N name a k →
    All (λ i. slot b p i < nodes) is → All (λ i. slot b p i < nodes) hs → length payload ≡ z.nb → length hs ≡ z.nh →
    Sim N name (deliver a (b.user p) (map (slot b p) is) (map (slot b p) hs) payload) (note_send k p is hs z)
unfolding deliver note_send with_charges with_queues push_all
sim-send name b a k p is hs payload z r s d h e f =
    let new : (q : ℕ) → incoming (k.user p) (nodes_of k p is) (nodes_of k p hs) z q
    ≡ map (told name) (messages_in (arriving a (b.user p) (map (slot b p) is) (map (slot b p) hs) payload q))
    = λ q. rw (nodes-of-slots name b k r p is d, nodes-of-slots name b k r p hs h, r.users p)
    (incoming-is name a (b.user p) (map (slot b p) is) (map (slot b p) hs) payload z q e (length-map hs (slot b p) ∙ f)) in
    record {
      apart = s.apart;
      known = s.known;
      users = s.users;
      handles = s.handles;
      seeds = s.seeds;
      queues = λ q. simp (messages-append, map-append) (ap₂ ◌++◌ (s.queues q) (new q));
      sums = λ q u r. rw load-append (omega (arith, s.sums q u r));
    }
