-- The stored numbers that the view does not show stay in their ranges: states, users, given IDs, accepted commands and the heads of the queues.
-- Assumes nothing.
use Prim.Native.Nat.{ℕ, zero, suc, ◌+◌, ◌*◌, ◌-◌, ◌/◌, ◌%◌, ◌^◌, ◌≤◌, ◌<◌, min}
use Rattle.std.specs.Prelude.{◌≡◌, refl, Bool, List, [], ◌∷◌, length, replicate, eqb, ltb, leb, Option, Some, None}
use Rattle.std.proofs.Common.{◌∙◌, arith, get_or-set_same, ltb-true, ltb-false}
use Rattle.std.proofs.Math.ListN.{get_or, set}
use Rattle.std.proofs.Math.Seq.{set_out, get_or-set_other}
use Rattle.std.specs.Int.Count.{count_trailing_zeros}
use Rattle.laws.specs.Tests.{pick, pick_all, Seen, Seen.is_true, Seen.is_false, look, Same, Same.same, Same.other, same?}
use Rattle.laws.specs.Tables.{zeros-at}
use Rattle.laws.specs.Bits.{bits}
use Rattle.frames.specs.declared.Sizes.{Sizes}
use Rattle.rings.specs.declared.Entry.{Entry as Row}
use Rattle.rings.specs.declared.Match.{Match}
use Rattle.rings.specs.Rings.{kind_destroyed, kind_released, message_bit, destroyed_bit, released_bit, all_bits, slots, ring_size, ends_size, Rings, entry_at, row_of, head_of, length_of, popped, cleared, removed, one_slot, first_of}
use Rattle.rings.specs.Laws.{pop-heads, pop-head, clear-heads, remove-heads}
use Rattle.tables.specs.Peers.{modulus, peer_row, accepted_at, state_at, user_at, given_at, set_open, set_disconnected, set_given, next_number, count_command}
use Rattle.tables.specs.PeersView.{given_is, accepted-is}
use Rattle.tables.specs.Nodes.{live_at, died_at}
use Rattle.tables.specs.Handles.{count_at, id_at, total_at}
use Rattle.tables.specs.Charges.{charges_at}
use Rattle.queues.specs.Queues.{Queues, is_message, attached_of, settled_charges, entered, enqueued, withdrawn, removed_from}
use Rattle.queues.specs.Entering.{enter-heads}
use Rattle.queues.specs.Leaving.{after_removal}
use Rattle.model.specs.Numbers.{nodes, most_commands}
use Rattle.model.specs.Lists.{either}
use Rattle.view.specs.View.{Bus, Shape, state_of}
use Rattle.view.specs.Rows.{queue-count}
use Rattle.judges.specs.declared.Places.{Places}
use Rattle.notices.specs.declared.Asked.TheVariants.{Falling, Living}
use Rattle.notices.specs.Notices.{Destroyed, notice_of, above_at, least_at, posted_to, tells_at, addressees_of, owner_alone, following, told, set_of, released_in, destroyed_set, told_owners, expired, expired_at, own_invalid, expired_shown, expired_place, expired_below, expired_all}
use Rattle.grants.specs.Grants.{Given, Numbered, numbered, numbered_of, shown_to, referenced, valid_at, given_to, gives_to}
use Rattle.effects.specs.Effects.{Taken, counted, opened_peers, created, destroys, releases, transfers, sends, disconnects, received, shows, dropped, forgotten_own, forgotten, notified, left_behind, message_to, sent_to, rings_after, received_message, notice_taken}
use Rattle.effects.specs.After.{queues_in, after_open, after_create, after_destroy, after_release, after_transfer, after_send, after_receive, after_disconnect, after_show}
use Rattle.effects.specs.Good.{Good}
use Rattle.ids.specs.Sizes.{peers, most_ids, accepted_end, given_end}
use Rattle.seeds.specs.Seeds.{slots_at}
use Rattle.seeds.specs.Seeds.{count_at as carried_at}

pub record Raw (b : Bus) : Type 0 where
  pub states : (p : ℕ) → p < peers → state_at b.peers p ≤ 2
  pub users : (p : ℕ) → p < peers → user_at b.peers p ≤ 3
  pub given : (p : ℕ) → p < peers → get_or b.peers (peer_row p + 2) 0 < modulus
  pub accepted : get_or b.peers 0 0 < modulus
  pub heads : (p : ℕ) → p < peers → head_of b.rings.ends p < ring_size

-- The part that the table of peers has, and that the ends have.
pub record RawPeers (ps : List ℕ) : Type 0 where
  pub states : (p : ℕ) → p < peers → state_at ps p ≤ 2
  pub users : (p : ℕ) → p < peers → user_at ps p ≤ 3
  pub given : (p : ℕ) → p < peers → get_or ps (peer_row p + 2) 0 < modulus
  pub accepted : get_or ps 0 0 < modulus

abbrev pub RawHeads : List ℕ → Type 0
RawHeads ends = (p : ℕ) → p < peers → head_of ends p < ring_size

pub raw-parts : (b : Bus) → RawPeers b.peers → RawHeads b.rings.ends → Raw b
raw-parts b r h = record { states = r.states; users = r.users; given = r.given; accepted = r.accepted; heads = h }

pub raw-peers : (b : Bus) → Raw b → RawPeers b.peers
raw-peers b r = record { states = r.states; users = r.users; given = r.given; accepted = r.accepted }

-- A number stored in a table is below what bounds it and the table's numbers.
under-set : (l : List ℕ) (i v j m : ℕ) → v < m → get_or l j 0 < m → get_or (set l i v) j 0 < m
under-set [] i v j m h k = k
under-set (x ∷ l) zero v zero m h k = h
under-set (x ∷ l) zero v (suc j) m h k = k
under-set (x ∷ l) (suc i) v zero m h k = k
under-set (x ∷ l) (suc i) v (suc j) m h k = under-set l i v j m h k

-- The stores in the table of peers.
module _ (ps : List ℕ) (r : RawPeers ps) where
  pub peers-counted : accepted_at ps + 1 < modulus → RawPeers (count_command ps)
  unfolding count_command
  peers-counted h =
      record {
        states = λ p l. rw (get_or-set_other ps 0 (peer_row p) (next_number ps) 0 (λ x. absurd (omega arith))) (r.states p l);
        users = λ p l. rw (get_or-set_other ps 0 (peer_row p + 1) (next_number ps) 0 (λ x. absurd (omega arith))) (r.users p l);
        given = λ p l. rw (get_or-set_other ps 0 (peer_row p + 2) (next_number ps) 0 (λ x. absurd (omega arith))) (r.given p l);
        accepted = under-set ps 0 (next_number ps) 0 modulus h r.accepted;
      }

  pub peers-open : (p u : ℕ) → u ≤ 3 → RawPeers (set_open ps p u)
  unfolding set_open
  peers-open p u h =
      let one = set ps (peer_row p) 1 in
      record {
        states =
            λ q l.
            rw (get_or-set_other one (peer_row p + 1) (peer_row q) u 0 (λ x. absurd (omega arith)))
            (omega (arith, under-set ps (peer_row p) 1 (peer_row q) 3 (omega arith) (omega (arith, r.states q l))));
        users =
            λ q l.
            let was : get_or one (peer_row q + 1) 0 ≡ get_or ps (peer_row q + 1) 0 = get_or-set_other ps (peer_row p) (peer_row q + 1) 1 0 (λ x. absurd (omega arith)) in
            omega (arith, under-set one (peer_row p + 1) u (peer_row q + 1) 4 (omega arith) (omega (arith, was, r.users q l)));
        given =
            λ q l.
            rw (
              get_or-set_other one (peer_row p + 1) (peer_row q + 2) u 0 (λ x. absurd (omega arith)),
              get_or-set_other ps (peer_row p) (peer_row q + 2) 1 0 (λ x. absurd (omega arith)),
            )
            (r.given q l);
        accepted =
            rw (
              get_or-set_other one (peer_row p + 1) 0 u 0 (λ x. absurd (omega arith)),
              get_or-set_other ps (peer_row p) 0 1 0 (λ x. absurd (omega arith)),
            )
            r.accepted;
      }

  pub peers-disconnected : (p : ℕ) → RawPeers (set_disconnected ps p)
  unfolding set_disconnected
  peers-disconnected p =
      record {
        states = λ q l. omega (arith, under-set ps (peer_row p) 2 (peer_row q) 3 (omega arith) (omega (arith, r.states q l)));
        users = λ q l. rw (get_or-set_other ps (peer_row p) (peer_row q + 1) 2 0 (λ x. absurd (omega arith))) (r.users q l);
        given = λ q l. rw (get_or-set_other ps (peer_row p) (peer_row q + 2) 2 0 (λ x. absurd (omega arith))) (r.given q l);
        accepted = rw (get_or-set_other ps (peer_row p) 0 2 0 (λ x. absurd (omega arith))) r.accepted;
      }

  pub peers-given : (p n : ℕ) → n < modulus → RawPeers (set_given ps p n)
  unfolding set_given
  peers-given p n h =
      record {
        states = λ q l. rw (get_or-set_other ps (peer_row p + 2) (peer_row q) n 0 (λ x. absurd (omega arith))) (r.states q l);
        users = λ q l. rw (get_or-set_other ps (peer_row p + 2) (peer_row q + 1) n 0 (λ x. absurd (omega arith))) (r.users q l);
        given = λ q l. under-set ps (peer_row p + 2) n (peer_row q + 2) modulus h (r.given q l);
        accepted = rw (get_or-set_other ps (peer_row p + 2) 0 n 0 (λ x. absurd (omega arith))) r.accepted;
      }

-- A peer's given IDs are at most n, and the numbers are in their ranges.
abbrev Fits : ℕ → ℕ → List ℕ → Type 0
Fits p n ps = RawPeers ps × (given_at ps p ≤ n)

fits_more : (p n m : ℕ) (ps : List ℕ) → n ≤ m → Fits p n ps → Fits p m ps
fits_more p n m ps l f = (f.0, omega (arith, f.1))

-- A new ID raises them by one.
numbered-raw : (p n : ℕ) (ps : List ℕ) → n + 1 < modulus → Fits p n ps → Fits p (n + 1) (numbered ps p).peers
unfolding numbered set_given
numbered-raw p n ps h f = (raw, go (look (ltb (peer_row p + 2) (length ps))))
  where
    raw : RawPeers (set_given ps p (given_at ps p + 1))
    raw = peers-given ps f.0 p (given_at ps p + 1) (omega (arith, f.1))

    go : Seen (ltb (peer_row p + 2) (length ps)) → get_or (set ps (peer_row p + 2) (given_at ps p + 1)) (peer_row p + 2) 0 % modulus ≤ n + 1
    go (is_true e) = rw (get_or-set_same ps (peer_row p + 2) (given_at ps p + 1) 0 (ltb-true (peer_row p + 2) (length ps) e)) (omega (arith, f.1))
    go (is_false e) = rw (set_out ps (peer_row p + 2) (given_at ps p + 1) (ltb-false (peer_row p + 2) (length ps) e)) (omega (arith, f.1))

given-raw : (ns ps hs : List ℕ) (r : Rings) (p as_of s n : ℕ) → n + 1 < modulus → Fits p n ps → Fits p (n + 1) (given_to ns ps hs r p as_of s).peers
unfolding given_to referenced shown_to
given-raw ns ps hs r p as_of s n h f = pick_all (λ (x : Given). Fits p (n + 1) x.peers) (valid_at ns hs as_of p s) _ _ shown (fits_more p n (n + 1) ps (omega arith) f)
  where
    shown : Fits p (n + 1) (pick (eqb (count_at hs p s) 0) (numbered ps p) (numbered_of (id_at hs p s) ps)).peers
    shown =
        pick_all (λ (x : Numbered). Fits p (n + 1) x.peers) (eqb (count_at hs p s) 0) (numbered ps p) (numbered_of (id_at hs p s) ps) (numbered-raw p n ps h f)
        (fits_more p n (n + 1) ps (omega arith) f)

gives-raw : (ns ps hs : List ℕ) (r : Rings) (p n as_of : ℕ) (ss : List ℕ) (k : ℕ) → n + k < modulus → Fits p n ps → Fits p (n + k) (gives_to ns ps hs r p as_of ss k).peers
unfolding gives_to
gives-raw ns ps hs r p n as_of ss zero h f = fits_more p n (n + zero) ps (omega arith) f
gives-raw ns ps hs r p n as_of ss (suc k) h f =
    let g = gives_to ns ps hs r p as_of ss k in
    fits_more p (n + k + 1) (n + suc k) _ (omega arith)
    (given-raw ns g.peers g.handles g.rings p as_of (get_or ss k 0 % nodes) (n + k) (omega arith) (gives-raw ns ps hs r p n as_of ss k (omega arith) f))

-- Rings with the heads of others.
abbrev pub SameHeads : Rings → Rings → Type 0
SameHeads r r' = (o : ℕ) → head_of r'.ends o ≡ head_of r.ends o

heads-then : (r r' r'' : Rings) → SameHeads r r' → SameHeads r' r'' → SameHeads r r''
heads-then r r' r'' h k o = k o ∙ h o

heads-raw : (r r' : Rings) → SameHeads r r' → RawHeads r.ends → RawHeads r'.ends
heads-raw r r' h k p l = omega (arith, h p, k p l)

pub withdraw-heads : (r : Rings) (p : ℕ) (m : Match) → SameHeads r (withdrawn r p m)
unfolding withdrawn
withdraw-heads r p m o =
    pick_all (λ (x : Rings). head_of x.ends o ≡ head_of r.ends o) (leb (length_of r.ends p) ring_size) (removed r p m) r (remove-heads r p m o) refl

pub removed-heads : (q : Queues) (p : ℕ) (m : Match) → SameHeads q.rings (removed_from q p m).rings
unfolding removed_from
removed-heads q p m o =
    pick_all (λ (x : Queues). head_of x.rings.ends o ≡ head_of q.rings.ends o) (leb (length_of q.rings.ends p) ring_size) (after_removal q p m) q
    (remove-heads q.rings p m o) refl

pub enqueue-heads : (q : Queues) (p : ℕ) (e : Row) (b : List ℕ) → SameHeads q.rings (enqueued q p e b).rings
unfolding enqueued
enqueue-heads q p e b o = enter-heads q.rings p e o

pub posted-heads : (f set : ℕ) (r : Rings) (e : Row) → SameHeads r (posted_to r e set f)
unfolding posted_to
posted-heads zero set r e o = refl
posted-heads (suc f) set r e o =
    let q = count_trailing_zeros 8 set % peers in
    pick_all (λ (x : Rings). head_of x.ends o ≡ head_of r.ends o) (eqb set 0) r (posted_to (entered r q e) e (set - 2 ^ q) f) refl
    (posted-heads f (set - 2 ^ q) (entered r q e) e o ∙ enter-heads r q e o)

pub told-heads : (f set : ℕ) (hs to : List ℕ) (q kind n : ℕ) (r : Rings) → SameHeads r (told hs to q kind n r set f)
unfolding told
told-heads zero set hs to q kind n r o = refl
told-heads (suc f) set hs to q kind n r o = go (least_at hs q set slots) (λ g r. told-heads f g hs to q kind n r o)
  where
    more : ℕ → Rings
    more j = told hs to q kind n (posted_to r (notice_of kind (q * slots + j % slots) n) (get_or to (j % slots) 0) peers) (bits (above_at hs q set j) slots) f

    go : (x : Option ℕ) → ((g : ℕ) (r : Rings) → head_of (told hs to q kind n r g f).ends o ≡ head_of r.ends o) →
        head_of (following x more r).ends o ≡ head_of r.ends o
    go None ih = refl
    go (Some j) ih =
        let e = notice_of kind (q * slots + j % slots) n in
        ih (bits (above_at hs q set j) slots) (posted_to r e (get_or to (j % slots) 0) peers) ∙ posted-heads peers (get_or to (j % slots) 0) r e o

pub destroyed-heads : (ns hs cs : List ℕ) (r : Rings) (p set n : ℕ) → SameHeads r (destroyed_set ns hs cs r p set n).rings
unfolding destroyed_set
destroyed-heads ns hs cs r p set n o =
    told-heads slots set hs (addressees_of hs cs r p set n) p kind_destroyed n (withdrawn r p (released_in p set)) o ∙ withdraw-heads r p (released_in p set) o

pub owners-heads : (ns hs : List ℕ) (p n : ℕ) (r : Rings) (q : ℕ) → SameHeads r (told_owners ns hs p n r q)
unfolding told_owners
owners-heads ns hs p n r zero o = refl
owners-heads ns hs p n r (suc q) o =
    told-heads slots (set_of ns hs q (Falling (record { 0 = p }))) hs (owner_alone q) q kind_released n (told_owners ns hs p n r q) o ∙ owners-heads ns hs p n r q o

pub expired-heads : (ns hs cs : List ℕ) (p : ℕ) (r : Rings) (s : ℕ) → SameHeads r (expired ns hs cs p r s)
unfolding expired
expired-heads ns hs cs p r s o =
    pick_all (λ (x : Rings). head_of x.ends o ≡ head_of r.ends o) (either (live_at ns s) (tells_at hs cs r s (died_at ns s) p)) r (withdrawn r p (one_slot destroyed_bit s))
    refl (withdraw-heads r p (one_slot destroyed_bit s) o)

pub expired_at-heads : (ns hs cs : List ℕ) (p : ℕ) (t : ℕ → Bool) (f : ℕ → ℕ) (r : Rings) (n : ℕ) → SameHeads r (expired_at ns hs cs p t f r n)
unfolding expired_at
expired_at-heads ns hs cs p t f r zero o = refl
expired_at-heads ns hs cs p t f r (suc k) o =
    let before = expired_at ns hs cs p t f r k in
    let ih = expired_at-heads ns hs cs p t f r k o in
    pick_all (λ (x : Rings). head_of x.ends o ≡ head_of r.ends o) (t k) (expired ns hs cs p before (f k)) before (expired-heads ns hs cs p before (f k) o ∙ ih) ih

place-heads : (ns hs cs : List ℕ) (p : ℕ) (r : Rings) (i : ℕ) → SameHeads r (expired_place ns hs cs p r i)
unfolding expired_place
place-heads ns hs cs p r i o =
    let e = entry_at r.rows (row_of p (head_of r.ends p) i) in
    pick_all (λ (x : Rings). head_of x.ends o ≡ head_of r.ends o) (eqb e.kind kind_destroyed) (expired ns hs cs p r (e.slot % nodes)) r
    (expired-heads ns hs cs p r (e.slot % nodes) o) refl

below-heads : (ns hs cs : List ℕ) (p : ℕ) (r : Rings) (k : ℕ) → SameHeads r (expired_below ns hs cs p r k)
unfolding expired_below
below-heads ns hs cs p r zero o = refl
below-heads ns hs cs p r (suc k) o = below-heads ns hs cs p (expired_place ns hs cs p r k) k o ∙ place-heads ns hs cs p r k o

pub expired_all-heads : (ns hs cs : List ℕ) (p : ℕ) (r : Rings) → SameHeads r (expired_all ns hs cs p r)
expired_all-heads ns hs cs p r o =
    pick_all (λ (x : Rings). head_of x.ends o ≡ head_of r.ends o) (leb (length_of r.ends p) ring_size) (expired_below ns hs cs p r (length_of r.ends p)) r
    (below-heads ns hs cs p r (length_of r.ends p) o) refl

pub given-heads : (ns ps hs : List ℕ) (r : Rings) (p as_of s : ℕ) → SameHeads r (given_to ns ps hs r p as_of s).rings
unfolding given_to
given-heads ns ps hs r p as_of s o =
    pick_all (λ (x : Given). head_of x.rings.ends o ≡ head_of r.ends o) (valid_at ns hs as_of p s) _ _
    (pick_all (λ (x : Rings). head_of x.ends o ≡ head_of r.ends o) (eqb (total_at hs s) 1) (withdrawn r (s / slots) (one_slot released_bit s)) r
    (withdraw-heads r (s / slots) (one_slot released_bit s) o) refl)
    refl

pub gives-heads : (ns ps hs : List ℕ) (r : Rings) (p as_of : ℕ) (ss : List ℕ) (k : ℕ) → SameHeads r (gives_to ns ps hs r p as_of ss k).rings
unfolding gives_to
gives-heads ns ps hs r p as_of ss zero o = refl
gives-heads ns ps hs r p as_of ss (suc k) o =
    let g = gives_to ns ps hs r p as_of ss k in
    given-heads ns g.peers g.handles g.rings p as_of (get_or ss k 0 % nodes) o ∙ gives-heads ns ps hs r p as_of ss k o

pub sent-heads : (q : Queues) (u nh : ℕ) (w : Places) (bytes : List ℕ) (n k : ℕ) → SameHeads q.rings (sent_to q u nh w bytes n k).rings
unfolding sent_to
sent-heads q u nh w bytes n zero o = refl
sent-heads q u nh w bytes n (suc k) o =
    let s = get_or w.to k 0 % nodes in
    enqueue-heads (sent_to q u nh w bytes n k) (s / slots) (message_to s u (length bytes) nh w.carried n) bytes o ∙ sent-heads q u nh w bytes n k o

pub notified-heads : (ns hs : List ℕ) (r : Rings) (s n : ℕ) → SameHeads r (notified ns hs r s n)
unfolding notified
notified-heads ns hs r s n o =
    pick_all (λ (x : Rings). head_of x.ends o ≡ head_of r.ends o) (live_at ns s) _ _
    (pick_all (λ (x : Rings). head_of x.ends o ≡ head_of r.ends o) (eqb (total_at hs s) 1) (entered r (s / slots) (notice_of kind_released s n)) r
    (enter-heads r (s / slots) (notice_of kind_released s n) o) refl)
    refl

pub forgotten-heads : (ns hs : List ℕ) (q : Queues) (p s : ℕ) → SameHeads q.rings (forgotten ns hs q p s).rings
unfolding forgotten forgotten_own
forgotten-heads ns hs q p s o =
    let m = one_slot (message_bit + released_bit) s in
    let a = removed_from q p m in
    pick_all (λ (x : Queues). head_of x.rings.ends o ≡ head_of q.rings.ends o) (eqb (s / slots) p) _ _
    (pick_all (λ (x : Queues). head_of x.rings.ends o ≡ head_of q.rings.ends o) (eqb (attached_of (charges_at q.charges p)) 0) _ _ (removed-heads q p (one_slot all_bits s) o)
    (expired_all-heads ns hs a.charges p a.rings o ∙ removed-heads q p m o))
    (expired-heads ns hs q.charges p q.rings s o)

pub left-heads : (ns hs : List ℕ) (q : Queues) (p s : ℕ) → SameHeads q.rings (left_behind ns hs q p s).rings
unfolding left_behind
left-heads ns hs q p s o =
    let hs' = (dropped hs p s).handles in
    pick_all (λ (x : Queues). head_of x.rings.ends o ≡ head_of q.rings.ends o) (eqb (dropped hs p s).left 0) (forgotten ns hs' q p s) q (forgotten-heads ns hs' q p s o) refl

-- The oldest entry taken out: the peer's head goes on, within its ring.
pub popped-raw : (r : Rings) (p : ℕ) → length r.ends ≡ ends_size → p < peers → RawHeads r.ends → RawHeads (popped r.ends p)
popped-raw r p n l h q m = go (same? p q)
  where
    go : Same p q → head_of (popped r.ends p) q < ring_size
    go (same e) = rw (← e, pop-head r p n l) (omega arith)
    go (other d) = rw (pop-heads r p q d) (h q m)

-- What a receive leaves.
abbrev RawTaken : Taken → Type 0
RawTaken x = RawPeers x.peers × RawHeads x.queues.rings.ends

module _ (ps : List ℕ) (p : ℕ) (f : Fits p (most_ids * most_commands) ps) where
  message-raw : (ns hs : List ℕ) (q : Queues) (e : Row) (out : List ℕ) → RawHeads (popped q.rings.ends p) → RawTaken (received_message ps ns hs q p e out)
  unfolding received_message
  message-raw ns hs q e out h =
      let after = rings_after q.rings (popped q.rings.ends p) in
      let nh = min e.nh most_ids in
      let x = gives_to ns ps hs after p e.number e.carried nh in
      let cs = settled_charges q.charges p e in (
        (gives-raw ns ps hs after p (most_ids * most_commands) e.number e.carried nh (omega arith) f).0,
        heads-raw after (expired_shown ns x.handles cs p e.carried x.ids x.rings nh)
            (heads-then after x.rings (expired_shown ns x.handles cs p e.carried x.ids x.rings nh) (gives-heads ns ps hs after p e.number e.carried nh)
            (expired_at-heads ns x.handles cs p (own_invalid p e.carried x.ids) (λ k. get_or e.carried k 0 % nodes) x.rings nh))
            h,
      )

  received-raw : (old ns hs : List ℕ) (q : Queues) (out : List ℕ) → count_command old ≡ ps → RawHeads (popped q.rings.ends p) → RawTaken (received old ns hs q p out)
  unfolding received notice_taken
  received-raw old ns hs q out c h =
      rw c (pick_all RawTaken (is_message (first_of q.rings p)) _ _ (message-raw ns hs q (first_of q.rings p) out h) (f.0, h))

-- The nine orders.
module _ (b : Bus) (r : Raw b) (g : Good (state_of b)) where
  room : accepted_at b.peers + 1 < modulus
  room = omega (arith, g.bounded.few, accepted-is b.peers)

  counted-raw : RawPeers (count_command b.peers)
  counted-raw = peers-counted b.peers (raw-peers b r) room

  number_raw : RawPeers (counted b.peers).peers
  unfolding counted
  number_raw = counted-raw

  pub raw-open : (p u : ℕ) → u ≤ 3 → Raw (after_open b p u)
  unfolding opened_peers
  raw-open p u h = raw-parts (after_open b p u) (peers-open (count_command b.peers) counted-raw p u h) r.heads

  pub raw-create : (p i s : ℕ) → Raw (after_create b p i s)
  unfolding created
  raw-create p i s = raw-parts (after_create b p i s) counted-raw r.heads

  pub raw-destroy : (p s : ℕ) → Raw (after_destroy b p s)
  unfolding destroys
  raw-destroy p s =
      raw-parts (after_destroy b p s) number_raw
      (heads-raw b.rings (after_destroy b p s).rings
      (destroyed-heads b.nodes b.handles b.charges b.rings p (one_slot released_bit s).mask (counted b.peers).number) r.heads)

  pub raw-release : (p s : ℕ) → Raw (after_release b p s)
  unfolding releases
  raw-release p s =
      raw-parts (after_release b p s) number_raw
      (heads-raw b.rings (after_release b p s).rings
      (heads-then b.rings (left_behind b.nodes b.handles (queues_in b) p s).rings (after_release b p s).rings (left-heads b.nodes b.handles (queues_in b) p s)
      (notified-heads b.nodes (dropped b.handles p s).handles (left_behind b.nodes b.handles (queues_in b) p s).rings s (counted b.peers).number))
      r.heads)

  pub raw-send : (p : ℕ) (z : Sizes) (w : Places) (bytes : List ℕ) → Raw (after_send b p z w bytes)
  unfolding sends
  raw-send p z w bytes =
      raw-parts (after_send b p z w bytes) number_raw
      (heads-raw b.rings (after_send b p z w bytes).rings
      (sent-heads (queues_in b) (user_at (counted b.peers).peers p) z.nh w bytes (counted b.peers).number z.nd) r.heads)

  pub raw-disconnect : (p : ℕ) → Raw (after_disconnect b p)
  unfolding disconnects
  raw-disconnect p =
      raw-parts (after_disconnect b p) (peers-disconnected (counted b.peers).peers number_raw p)
      (heads-raw b.rings (after_disconnect b p).rings
      (λ o.
      owners-heads d.nodes b.handles p (counted b.peers).number (rings_after d.rings (cleared d.rings.ends p)) peers o
      ∙ clear-heads d.rings p o
      ∙ destroyed-heads b.nodes b.handles b.charges b.rings p (set_of b.nodes b.handles p Living) (counted b.peers).number o)
      r.heads)
    where
      d : Destroyed
      d = destroyed_set b.nodes b.handles b.charges b.rings p (set_of b.nodes b.handles p Living) (counted b.peers).number

  -- Of the receiver's given IDs.
  given-few : (p : ℕ) → p < peers → Fits p (most_ids * most_commands) (count_command b.peers)
  unfolding count_command
  given-few p l = (
    counted-raw,
    let e : get_or (set b.peers 0 (next_number b.peers)) (peer_row p + 2) 0 ≡ get_or b.peers (peer_row p + 2) 0 =
        get_or-set_other b.peers 0 (peer_row p + 2) (next_number b.peers) 0 (λ x. absurd (omega arith)) in
        omega (arith, e, given_is b.peers p l, g.bounded.given p, g.bounded.few),
  )

  pub raw-transfer : (q s : ℕ) → q < peers → Raw (after_transfer b q s)
  unfolding transfers counted
  raw-transfer q s l =
      let ps = count_command b.peers in
      let n = (counted b.peers).number in
      raw-parts (after_transfer b q s) (given-raw b.nodes ps b.handles b.rings q n s (most_ids * most_commands) (omega arith) (given-few q l)).0
      (heads-raw b.rings (after_transfer b q s).rings (given-heads b.nodes ps b.handles b.rings q n s) r.heads)

  pub raw-receive : (p : ℕ) (out : List ℕ) → Shape b → p < peers → Raw (after_receive b p out)
  raw-receive p out s l =
      let t = received-raw (count_command b.peers) p (given-few p l) b.peers b.nodes b.handles (queues_in b) out refl
      (popped-raw b.rings p s.ends l r.heads) in
      raw-parts (after_receive b p out) t.0 t.1

  pub raw-show : (p : ℕ) (out : List ℕ) → p < peers → Raw (after_show b p out)
  unfolding shows counted
  raw-show p out l =
      let ps = count_command b.peers in
      let ss = slots_at b.seeds p in
      let n = carried_at b.seeds p in
      let as_of = (counted b.peers).number in
      raw-parts (after_show b p out) (gives-raw b.nodes ps b.handles b.rings p (most_ids * most_commands) as_of ss n (omega arith) (given-few p l)).0
      (heads-raw b.rings (after_show b p out).rings (gives-heads b.nodes ps b.handles b.rings p as_of ss n) r.heads)

-- What the tests of the ranges ask, for a bus that stands for a good state.
pub record InRange (b : Bus) (p : ℕ) : Type 0 where
  pub state : state_at b.peers p ≤ 2
  pub user : user_at b.peers p ≤ 3
  pub given : get_or b.peers (peer_row p + 2) 0 < given_end
  pub head : head_of b.rings.ends p < ring_size
  pub short : length_of b.rings.ends p ≤ ring_size

module _ (b : Bus) (r : Raw b) (g : Good (state_of b)) where
  pub ranges-accepted : get_or b.peers 0 0 < accepted_end
  ranges-accepted = omega (arith, r.accepted, g.bounded.few, accepted-is b.peers)

  pub ranges-ok : (p : ℕ) → p < peers → InRange b p
  ranges-ok p l =
      record {
        state = r.states p l;
        user = r.users p l;
        given = omega (arith, r.given p l, given_is b.peers p l, g.bounded.given p, g.bounded.few);
        head = r.heads p l;
        short = omega (arith, queue-count b.rings b.pool p l, g.short p);
      }

-- A bus of zeros.
pub raw-fresh : (b : Bus) (n m : ℕ) → b.peers ≡ replicate n 0 → b.rings.ends ≡ replicate m 0 → Raw b
raw-fresh b n m e d =
    record {
      states = λ p l. rw (e, zeros-at n (peer_row p)) (omega arith);
      users = λ p l. rw (e, zeros-at n (peer_row p + 1)) (omega arith);
      given = λ p l. rw (e, zeros-at n (peer_row p + 2)) (omega arith);
      accepted = rw (e, zeros-at n 0) (omega arith);
      heads = λ p l. rw (d, zeros-at m (p * 2)) (omega arith);
    }
