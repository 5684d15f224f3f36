-- What is given to a peer, in the model's words: the tables after a handle was given, and after several, stand for the state that the model gives.
-- Assumes nothing.
use Prim.Native.Nat.{ℕ, zero, suc, ◌+◌, ◌/◌, ◌%◌, ◌≤◌, ◌<◌}
use Rattle.std.specs.Prelude.{◌≡◌, refl, Bool, true, false, not, List, [], ◌∷◌, ◌++◌, length, take, eqb, ltb}
use Rattle.std.proofs.Common.{sym, ap, ap₂, ◌∙◌, length-set, take-suc, take-suc-set, get_or-take, length-take-le, eq-eqb, ne_eqb}
use native.Mathlib.Omega.{arith}
use Rattle.std.proofs.Math.ListN.{get_or}
use Rattle.std.proofs.lemmas.Bool.{eqb-false}
use Rattle.laws.specs.Tests.{pick, Seen, Seen.is_true, Seen.is_false, look, clash, pick_all, pick-cases, Same, Same.same, Same.other, same?}
use Rattle.laws.specs.Tables.{upd, upd_same, upd_other, upd-self}
use Rattle.laws.specs.Weights.{All, keep, all-imp, all-at}
use Rattle.rings.specs.Rings.{released_bit, slots, ring_size, Rings, Sized, ends_size, length_of, one_slot}
use Rattle.tables.specs.Peers.{modulus, given_at}
use Rattle.tables.specs.PeersView.{status_v, user_v, given_v, accepted_v, status-given, user-given, given-given, accepted-given, given_is, given-length}
use Rattle.tables.specs.Nodes.{live_at, died_at}
use Rattle.tables.specs.NodesView.{live-is, lived-is}
use Rattle.tables.specs.Handles.{id_at, count_at, held_at, total_at}
use Rattle.tables.specs.HandlesView.{handle_v, handle-raised, count-is, held-is, id-is, given-after, total-is, raised-length}
use Rattle.model.specs.Numbers.{nodes, owner, next_id}
use Rattle.model.specs.Lists.{both, either}
use Rattle.model.specs.State.{Life, Handle, handle_of, count, id_or, Entry, State, total}
use Rattle.model.specs.State.Entry.{message, destroyed, released}
use Rattle.model.specs.Tables.{with_given, with_handles, with_queues}
use Rattle.model.specs.Changes.{not_released, withdraw, valid, shown, given_after, give, give_all, shown_all}
use Rattle.model.specs.Notices.{Stands}
use Rattle.model.specs.Occurs.{keep-imp}
use Rattle.model.specs.Counts.{put, put_all, total-other, count-handle}
use Rattle.model.specs.SimGive.{given-gives}
use Rattle.model.specs.QueuesProof.{give-handle, give-dead}
use Rattle.view.specs.View.{Bus, Shape, queue_v, state_of, set_peers, set_handles, set_rings, shape-peers, shape-handles, shape-rings}
use Rattle.queues.specs.Queues.{Short, withdrawn}
use Rattle.queues.specs.Leaving.{withdraw-view, withdraw-rows, withdraw-ends, withdraw-length, withdraw-lengths, one-match, one-bytes}
use Rattle.grants.specs.Grants.{Numbered, numbered_of, numbered, shown_to, referenced, valid_at, Given, given_to, Gives, one_more, gives_to}
use Rattle.ids.specs.Sizes.{peers, most_ids, peers_size}

-- A release notice in the queue of the peer q is for a node of q whose sum of counts is 1.
abbrev pub LoneEntry : (ℕ → ℕ → Handle) → ℕ → Entry → Type 0
LoneEntry h q (message n m) = Unit {0}
LoneEntry h q (destroyed n s) = Unit {0}
LoneEntry h q (released n s) = (owner s ≡ q) × (total h s ≡ 1)

abbrev pub Lone : (ℕ → ℕ → Handle) → (ℕ → List Entry) → Type 0
Lone h qs = (q : ℕ) → All (λ e. LoneEntry h q e) (qs q)

pub lone-stands : (h : ℕ → ℕ → Handle) (l : ℕ → Life) (qs : ℕ → List Entry) → ((q : ℕ) → All (Stands h l q) (qs q)) → Lone h qs
lone-stands h l qs a q = all-imp (Stands h l q) (λ e. LoneEntry h q e) one (qs q) (a q)
  where
    one : (e : Entry) → Stands h l q e → LoneEntry h q e
    one (message n m) z = tt
    one (destroyed n s) z = tt
    one (released n s) z = (z.1, z.2)

-- A handle given keeps this: the notice of its node is withdrawn at the owner, the sums of the other nodes stay.
pub lone-give : (b : State) (p as_of s : ℕ) → Lone b.handle b.queue → Lone (give b p as_of s).handle (give b p as_of s).queue
unfolding give withdraw with_queues with_handles with_given
lone-give b p as_of s a = go (look (valid b p as_of s))
  where
    x : Handle
    x = handle_of (shown b p as_of s) (suc (count (b.handle p s)))

    stay : (q : ℕ) (e : Entry) → not_released (eqb s) e ≡ true → LoneEntry b.handle q e → LoneEntry (put b.handle p s x) q e
    stay q (message n m) z l = tt
    stay q (destroyed n t) z l = tt
    stay q (released n t) z l = (l.0, total-other b.handle p s x t (λ y. clash (sym z ∙ ap not (eq-eqb s t y))) ∙ l.1)

    elsewhere : (q : ℕ) → (owner s ≡ q → ⊥) → (e : Entry) → LoneEntry b.handle q e → LoneEntry (put b.handle p s x) q e
    elsewhere q d (message n m) l = tt
    elsewhere q d (destroyed n t) l = tt
    elsewhere q d (released n t) l = (l.0, total-other b.handle p s x t (λ y. d (ap owner y ∙ l.0)) ∙ l.1)

    at : (q : ℕ) → Same (owner s) q → All (λ e. LoneEntry (put b.handle p s x) q e) (upd b.queue (owner s) (keep (not_released (eqb s)) (b.queue (owner s))) q)
    at q (same e) =
        rw (← e, upd_same)
        (keep-imp (λ e. LoneEntry b.handle (owner s) e) (λ e. LoneEntry (put b.handle p s x) (owner s) e) (not_released (eqb s)) (stay (owner s)) (b.queue (owner s)) (a (owner s)))
    at q (other d) =
        rw (upd_other b.queue (owner s) q (keep (not_released (eqb s)) (b.queue (owner s))) d)
        (all-imp (λ e. LoneEntry b.handle q e) (λ e. LoneEntry (put b.handle p s x) q e) (elsewhere q d) (b.queue q) (a q))

    go : Seen (valid b p as_of s) → Lone (give b p as_of s).handle (give b p as_of s).queue
    go (is_false e) = rw e a
    go (is_true e) = rw e (λ q. at q (same? (owner s) q))

-- What passes everywhere is all kept.
keep-whole : {A : Type 0} (t : A → Bool) (xs : List A) → All (λ x. t x ≡ true) xs → keep t xs ≡ xs
keep-whole t [] h = refl
keep-whole t (x ∷ xs) h = rw h.0 (ap (◌∷◌ x) (keep-whole t xs h.1))

-- The table of peers once an ID is shown.
module _ (ps hs : List ℕ) (size : length ps ≡ peers_size) (p s : ℕ) (lp : p < peers) (ls : s < nodes) where
  shown-cases : (P : Numbered → Type 0) → (eqb (count_at hs p s) 0 ≡ true → P (numbered ps p)) → (eqb (count_at hs p s) 0 ≡ false → P (numbered_of (id_at hs p s) ps)) →
      P (shown_to ps hs p s)
  unfolding shown_to
  shown-cases P h k = pick-cases P (eqb (count_at hs p s) 0) (numbered ps p) (numbered_of (id_at hs p s) ps) h k

  shown-id : (shown_to ps hs p s).id ≡ id_or (next_id (given_v ps p)) (handle_v hs p s)
  unfolding numbered
  shown-id =
      shown-cases (λ x. x.id ≡ id_or (next_id (given_v ps p)) (handle_v hs p s)) (λ e. rw (id-is hs p s lp ls (next_id (given_v ps p)), e, given_is ps p lp))
      (λ e. rw (id-is hs p s lp ls (next_id (given_v ps p)), e))

  shown-status : status_v (shown_to ps hs p s).peers ≡ status_v ps
  unfolding numbered
  shown-status = shown-cases (λ x. status_v x.peers ≡ status_v ps) (λ e. status-given ps size p lp (given_at ps p + 1)) (λ e. refl)

  shown-user : user_v (shown_to ps hs p s).peers ≡ user_v ps
  unfolding numbered
  shown-user = shown-cases (λ x. user_v x.peers ≡ user_v ps) (λ e. user-given ps size p lp (given_at ps p + 1)) (λ e. refl)

  shown-accepted : accepted_v (shown_to ps hs p s).peers ≡ accepted_v ps
  unfolding numbered
  shown-accepted = shown-cases (λ x. accepted_v x.peers ≡ accepted_v ps) (λ e. accepted-given ps size p lp (given_at ps p + 1)) (λ e. refl)

  shown-given : given_at ps p + 1 < modulus → given_v (shown_to ps hs p s).peers ≡ upd (given_v ps) p (given_after (handle_v hs p s) (given_v ps p))
  unfolding numbered
  shown-given room =
      shown-cases (λ x. given_v x.peers ≡ upd (given_v ps) p (given_after (handle_v hs p s) (given_v ps p)))
      (λ e.
      let one : suc (given_v ps p) ≡ given_at ps p + 1 = omega (arith, given_is ps p lp) in
      rw (given-after hs p s lp ls (given_v ps p), e, one) (given-given ps size p lp (given_at ps p + 1) room))
      (λ e. rw (given-after hs p s lp ls (given_v ps p), e) (sym (upd-self (given_v ps) p (given_v ps p) refl)))

shown-length : (ps hs : List ℕ) (p s : ℕ) → length (shown_to ps hs p s).peers ≡ length ps
unfolding shown_to numbered
shown-length ps hs p s =
    pick_all (λ (x : Numbered). length x.peers ≡ length ps) (eqb (count_at hs p s) 0) (numbered ps p) (numbered_of (id_at hs p s) ps) (given-length ps p (given_at ps p + 1)) refl

-- The rings once the release notice of a slot is withdrawn. Where the sum of counts is not 1 no such notice stands.
abbrev unnoted_rings : List ℕ → Rings → ℕ → Rings
unnoted_rings hs r s = pick (eqb (total_at hs s) 1) (withdrawn r (s / slots) (one_slot released_bit s)) r

module _ (hs : List ℕ) (r : Rings) (s : ℕ) where
  unnoted-queue : (t : List ℕ) → Sized r.rows → length r.ends ≡ ends_size → s < nodes → Lone (handle_v hs) (queue_v r t) → length_of r.ends (s / slots) ≤ ring_size →
      queue_v (unnoted_rings hs r s) t ≡ upd (queue_v r t) (owner s) (keep (not_released (eqb s)) (queue_v r t (owner s)))
  unnoted-queue t rows ends ls lone short =
      pick-cases (λ (x : Rings). queue_v x t ≡ upd (queue_v r t) (owner s) (keep (not_released (eqb s)) (queue_v r t (owner s)))) (eqb (total_at hs s) 1)
      (withdrawn r (s / slots) (one_slot released_bit s)) r
      (λ e. withdraw-view r (s / slots) (one_slot released_bit s) short t (not_released (eqb s)) rows ends (omega arith) (one-match s) (one-bytes s))
      (λ e.
      sym (upd-self (queue_v r t) (owner s) (keep (not_released (eqb s)) (queue_v r t (owner s)))
      (keep-whole (not_released (eqb s)) (queue_v r t (owner s))
      (all-imp (λ d. LoneEntry (handle_v hs) (owner s) d) (λ d. not_released (eqb s) d ≡ true) (one (eqb-false (total_at hs s) 1 e)) (queue_v r t (owner s)) (lone (owner s))))))
    where
      one : (total_at hs s ≡ 1 → ⊥) → (d : Entry) → LoneEntry (handle_v hs) (owner s) d → not_released (eqb s) d ≡ true
      one f (message n m) z = refl
      one f (destroyed n x) z = refl
      one f (released n x) z = ap not (ne_eqb s x (λ y. f (total-is hs s ls ∙ ap (total (handle_v hs)) y ∙ z.1)))

  unnoted-rows : Sized r.rows → Sized (unnoted_rings hs r s).rows
  unnoted-rows h =
      pick_all (λ (x : Rings). Sized x.rows) (eqb (total_at hs s) 1) (withdrawn r (s / slots) (one_slot released_bit s)) r (withdraw-rows r (s / slots) (one_slot released_bit s) h) h

  unnoted-ends : length (unnoted_rings hs r s).ends ≡ length r.ends
  unnoted-ends =
      pick_all (λ (x : Rings). length x.ends ≡ length r.ends) (eqb (total_at hs s) 1) (withdrawn r (s / slots) (one_slot released_bit s)) r
      (withdraw-ends r (s / slots) (one_slot released_bit s)) refl

  unnoted-lengths : length r.ends ≡ ends_size → s < nodes → (o : ℕ) → length_of (unnoted_rings hs r s).ends o ≤ length_of r.ends o
  unnoted-lengths ends ls o =
      pick_all (λ (x : Rings). length_of x.ends o ≤ length_of r.ends o) (eqb (total_at hs s) 1) (withdrawn r (s / slots) (one_slot released_bit s)) r (go (same? (s / slots) o)) (omega arith)
    where
      go : Same (s / slots) o → length_of (withdrawn r (s / slots) (one_slot released_bit s)).ends o ≤ length_of r.ends o
      go (same e) = rw (← e) (withdraw-length r (s / slots) (one_slot released_bit s) ends (omega arith))
      go (other d) = omega (arith, withdraw-lengths r (s / slots) (one_slot released_bit s) o d)

-- The buffers once a handle is given.
abbrev pub given_bus : Bus → Given → Bus
given_bus b g = set_rings (set_handles (set_peers b g.peers) g.handles) g.rings

abbrev pub given_on : Bus → ℕ → ℕ → ℕ → Given
given_on b p as_of s = given_to b.nodes b.peers b.handles b.rings p as_of s

-- The test is the model's.
pub valid-is : (b : Bus) (n p s : ℕ) → p < peers → s < nodes → valid_at b.nodes b.handles n p s ≡ valid (state_of b) p n s
unfolding valid_at valid
valid-is b n p s lp ls =
    rw (← live-is b.nodes s ls, ← lived-is b.nodes n s ls, held-is b.handles p s lp ls)
    (go (live_at b.nodes s) (ltb n (died_at b.nodes s)) (either (not (eqb (owner s) p)) (held_at b.handles p s)))
  where
    go : (l d o : Bool) → either l (both d o) ≡ both (either l d) (either l o)
    go true d o = refl
    go false d o = refl

module _ (b : Bus) (shape : Shape b) (p as_of s : ℕ) (lp : p < peers) (ls : s < nodes) (lone : Lone (handle_v b.handles) (queue_v b.rings b.pool))
    (counts : count_at b.handles p s + 1 < modulus) (ids : given_at b.peers p + 1 < modulus) (short : length_of b.rings.ends (s / slots) ≤ ring_size) where
  pub given-view : state_of (given_bus b (given_on b p as_of s)) ≡ give (state_of b) p as_of s
  unfolding given_to referenced give shown withdraw with_queues with_handles with_given
  given-view = go (look (valid_at b.nodes b.handles as_of p s))
    where
      live : valid_at b.nodes b.handles as_of p s ≡ valid (state_of b) p as_of s
      live = valid-is b as_of p s lp ls

      go : Seen (valid_at b.nodes b.handles as_of p s) → state_of (given_bus b (given_on b p as_of s)) ≡ give (state_of b) p as_of s
      go (is_false e) = rw (← live, e)
      go (is_true e) =
          let more : count_at b.handles p s + 1 ≡ suc (count (handle_v b.handles p s)) = omega (arith, count-is b.handles p s lp ls) in
          rw (
            ← live,
            e,
            shown-status b.peers b.handles shape.peers p s lp ls,
            shown-user b.peers b.handles shape.peers p s lp ls,
            shown-given b.peers b.handles shape.peers p s lp ls ids,
            shown-accepted b.peers b.handles shape.peers p s lp ls,
            handle-raised b.handles shape.handles p s lp ls (shown_to b.peers b.handles p s).id counts,
            shown-id b.peers b.handles shape.peers p s lp ls,
            more,
            unnoted-queue b.handles b.rings s b.pool shape.rows shape.ends ls lone short,
          )

-- The ID shown is the model's.
pub given-shown : (b : Bus) → Shape b → (p as_of s : ℕ) → p < peers → s < nodes → (given_on b p as_of s).id ≡ shown (state_of b) p as_of s
unfolding given_to referenced shown
given-shown b shape p as_of s lp ls = go (look (valid_at b.nodes b.handles as_of p s))
  where
    live : valid_at b.nodes b.handles as_of p s ≡ valid (state_of b) p as_of s
    live = valid-is b as_of p s lp ls

    go : Seen (valid_at b.nodes b.handles as_of p s) → (given_on b p as_of s).id ≡ shown (state_of b) p as_of s
    go (is_false e) = rw (← live, e)
    go (is_true e) = rw (← live, e) (shown-id b.peers b.handles shape.peers p s lp ls)

-- The buffers keep their lengths, and no queue becomes longer.
pub given-shape : (b : Bus) → Shape b → (p as_of s : ℕ) → Shape (given_bus b (given_on b p as_of s))
unfolding given_to referenced
given-shape b shape p as_of s = go (look (valid_at b.nodes b.handles as_of p s))
  where
    go : Seen (valid_at b.nodes b.handles as_of p s) → Shape (given_bus b (given_on b p as_of s))
    go (is_false e) = rw e shape
    go (is_true e) =
        rw e
        (shape-rings
        (shape-handles (shape-peers shape (shown-length b.peers b.handles p s ∙ shape.peers))
        (raised-length b.handles p s (shown_to b.peers b.handles p s).id ∙ shape.handles))
        (unnoted-ends b.handles b.rings s ∙ shape.ends) (unnoted-rows b.handles b.rings s shape.rows))

pub given-lengths : (b : Bus) → Shape b → (p as_of s : ℕ) → s < nodes → (o : ℕ) → length_of (given_on b p as_of s).rings.ends o ≤ length_of b.rings.ends o
unfolding given_to
given-lengths b shape p as_of s ls o = go (look (valid_at b.nodes b.handles as_of p s))
  where
    go : Seen (valid_at b.nodes b.handles as_of p s) → length_of (given_on b p as_of s).rings.ends o ≤ length_of b.rings.ends o
    go (is_false e) = rw e (omega arith)
    go (is_true e) = rw e (unnoted-lengths b.handles b.rings s shape.ends ls o)

-- Several handles given: one more at the end.
pub gives-snoc : (b : State) (p as_of : ℕ) (xs : List ℕ) (s : ℕ) → give_all b p as_of (xs ++ (s ∷ [])) ≡ give (give_all b p as_of xs) p as_of s
gives-snoc b p as_of [] s = refl
gives-snoc b p as_of (x ∷ xs) s = gives-snoc (give b p as_of x) p as_of xs s

pub shows-snoc : (b : State) (p as_of : ℕ) (xs : List ℕ) (s : ℕ) → shown_all b p as_of (xs ++ (s ∷ [])) ≡ shown_all b p as_of xs ++ (shown (give_all b p as_of xs) p as_of s ∷ [])
shows-snoc b p as_of [] s = refl
shows-snoc b p as_of (x ∷ xs) s = ap (◌∷◌ (shown b p as_of x)) (shows-snoc (give b p as_of x) p as_of xs s)

pub lone-gives : (b : State) (p as_of : ℕ) (ss : List ℕ) → Lone b.handle b.queue → Lone (give_all b p as_of ss).handle (give_all b p as_of ss).queue
lone-gives b p as_of [] a = a
lone-gives b p as_of (s ∷ ss) a = lone-gives (give b p as_of s) p as_of ss (lone-give b p as_of s a)

-- No count rises by more than the number of handles given.
pub count-give : (b : State) (p as_of s q t : ℕ) → count ((give b p as_of s).handle q t) ≤ count (b.handle q t) + 1
count-give b p as_of s q t = go (look (valid b p as_of s))
  where
    go : Seen (valid b p as_of s) → count ((give b p as_of s).handle q t) ≤ count (b.handle q t) + 1
    go (is_false e) = rw (give-dead b p as_of s e) (omega arith)
    go (is_true e) =
        rw (give-handle b p as_of s e)
        (put_all (λ q t y. count y ≤ count (b.handle q t) + 1) b.handle p s (handle_of (shown b p as_of s) (suc (count (b.handle p s)))) (λ q t. omega arith)
        (omega (arith, count-handle (shown b p as_of s) (suc (count (b.handle p s))))) q t)

pub count_gives : (b : State) (p as_of : ℕ) (ss : List ℕ) (q t : ℕ) → count ((give_all b p as_of ss).handle q t) ≤ count (b.handle q t) + length ss
count_gives b p as_of [] q t = omega arith
count_gives b p as_of (s ∷ ss) q t = omega (arith, count_gives (give b p as_of s) p as_of ss q t, count-give b p as_of s q t)

-- The buffers once several are given.
abbrev pub gives_bus : Bus → Gives → Bus
gives_bus b g = set_rings (set_handles (set_peers b g.peers) g.handles) g.rings

abbrev pub gives_on : Bus → ℕ → ℕ → List ℕ → ℕ → Gives
gives_on b p as_of ss n = gives_to b.nodes b.peers b.handles b.rings p as_of ss n

-- What the first n of some slots given make of a bus.
pub record Handed (b : Bus) (p as_of : ℕ) (ss : List ℕ) (n : ℕ) (g : Gives) : Type 0 where
  pub state : state_of (gives_bus b g) ≡ give_all (state_of b) p as_of (take n ss)
  pub shows : take n g.ids ≡ shown_all (state_of b) p as_of (take n ss)
  pub eight : length g.ids ≡ most_ids
  pub shape : Shape (gives_bus b g)
  pub lengths : (o : ℕ) → length_of g.rings.ends o ≤ length_of b.rings.ends o

-- One more: the slot s after those before it.
handed-next : (b : Bus) (p as_of : ℕ) (ss : List ℕ) (n s : ℕ) (g : Gives) (x : Given) → take (suc n) ss ≡ take n ss ++ (s ∷ []) → n < most_ids → Handed b p as_of ss n g →
    state_of (given_bus (gives_bus b g) x) ≡ give (state_of (gives_bus b g)) p as_of s → x.id ≡ shown (state_of (gives_bus b g)) p as_of s → Shape (given_bus (gives_bus b g) x) →
    ((o : ℕ) → length_of x.rings.ends o ≤ length_of g.rings.ends o) → Handed b p as_of ss (suc n) (one_more g n x)
handed-next b p as_of ss n s g x more ln h state id shape lengths =
    record {
      state = state ∙ ap (λ (a : State). give a p as_of s) h.state ∙ sym (gives-snoc (state_of b) p as_of (take n ss) s) ∙ ap (give_all (state_of b) p as_of) (sym more);
      shows =
          take-suc-set g.ids n x.id (omega (arith, h.eight))
          ∙ ap₂ (λ (is : List ℕ) (i : ℕ). is ++ (i ∷ [])) h.shows (id ∙ ap (λ (a : State). shown a p as_of s) h.state)
          ∙ sym (shows-snoc (state_of b) p as_of (take n ss) s)
          ∙ ap (shown_all (state_of b) p as_of) (sym more);
      eight = length-set g.ids n x.id ∙ h.eight;
      shape = shape;
      lengths = λ o. omega (arith, lengths o, h.lengths o);
    }

lone_of : (a c : State) → a ≡ c → Lone c.handle c.queue → Lone a.handle a.queue
lone_of a c e l = rw e l

module _ (b : Bus) (shape : Shape b) (p as_of : ℕ) (ss : List ℕ) (lp : p < peers) (size : length ss ≡ 8) (lone : Lone (handle_v b.handles) (queue_v b.rings b.pool))
    (short : Short b.rings.ends) where
  handed : (n : ℕ) → n ≤ most_ids → ((j : ℕ) → j < n → get_or ss j 0 < nodes) → ((q s : ℕ) → count (handle_v b.handles q s) + n < modulus) → given_v b.peers p + n < modulus →
      Handed b p as_of ss n (gives_on b p as_of ss n)
  unfolding gives_to
  handed zero ln low counts ids = record { state = refl; shows = refl; eight = refl; shape = shape; lengths = λ o. omega arith }
  handed (suc n) ln low counts ids =
      go (gives_on b p as_of ss n) (handed n (omega arith) (λ j l. low j (omega arith)) (λ q s. omega (arith, counts q s)) (omega arith))
    where
      s : ℕ
      s = get_or ss n 0

      ls : s < nodes
      ls = low n (omega arith)

      same-slot : s % nodes ≡ s
      same-slot = omega (arith, ls)

      fewer : length (take n ss) ≡ n
      fewer = length-take-le n ss (omega arith)

      go : (g : Gives) → Handed b p as_of ss n g → Handed b p as_of ss (suc n) (one_more g n (given_to b.nodes g.peers g.handles g.rings p as_of (get_or ss n 0 % nodes)))
      go g h =
          let old : State = give_all (state_of b) p as_of (take n ss) in
          let c = gives_bus b g in
          let many : count_at g.handles p s + 1 < modulus
          = omega (arith, count-is g.handles p s lp ls, ap (λ (a : State). count (a.handle p s)) h.state, count_gives (state_of b) p as_of (take n ss) p s, fewer, counts p s) in
          let named : given_at g.peers p + 1 < modulus
          = omega (arith, given_is g.peers p lp, ap (λ (a : State). a.given p) h.state, given-gives (state_of b) p as_of (take n ss) p, fewer, ids) in
          let fit : length_of g.rings.ends (s / slots) ≤ ring_size = omega (arith, h.lengths (s / slots), short (s / slots) (omega (arith, ls))) in
          let alone : Lone (handle_v g.handles) (queue_v g.rings b.pool) = lone_of (state_of c) old h.state (lone-gives (state_of b) p as_of (take n ss) lone) in
          rw same-slot
          (handed-next b p as_of ss n s g (given_on c p as_of s) (take-suc ss n 0 (omega arith)) (omega arith) h (given-view c h.shape p as_of s lp ls alone many named fit)
          (given-shown c h.shape p as_of s lp ls)
          (given-shape c h.shape p as_of s)
          (given-lengths c h.shape p as_of s ls))

  pub gives-view : (n : ℕ) → n ≤ most_ids → All (λ s. s < nodes) (take n ss) → ((q s : ℕ) → count ((state_of b).handle q s) + n < modulus) → (state_of b).given p + n < modulus →
      Handed b p as_of ss n (gives_on b p as_of ss n)
  gives-view n ln low counts ids = handed n ln each counts ids
    where
      each : (j : ℕ) → j < n → get_or ss j 0 < nodes
      each j l = rw (get_or-take n ss j 0 l) at (all-at (λ s. s < nodes) (take n ss) j 0 low (omega (arith, length-take-le n ss (omega arith))))
