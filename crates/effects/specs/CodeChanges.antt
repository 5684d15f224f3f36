-- The laws that the proofs of the functions that change the tables cite, one for each return, over plain variables: each is shaped like what the callees ensure.
-- Assumes nothing.
use Rattle.std.specs.Prelude.{ℕ, ◌+◌, ◌-◌, ◌/◌, ◌≡◌, Bool, true, false, List, length}
use Rattle.std.proofs.Common.{◌∙◌}
use borrow.Author.Tests.{eq-eqb, ne_eqb}
use Rattle.quota.specs.declared.Charges.{Charges}
use Rattle.rings.specs.declared.Entry.{Entry}
use Rattle.rings.specs.declared.Match.{Match}
use Rattle.rings.specs.Rings.{kind_released, message_bit, released_bit, all_bits, Rings, rows_of, Sized, one_slot}
use Rattle.tables.specs.Peers.{accepted_at, count_command, set_open}
use Rattle.tables.specs.Nodes.{live_at, set_live}
use Rattle.tables.specs.Handles.{count_at, total_at, put_handle, reduced}
use Rattle.tables.specs.Charges.{charges_at}
use Rattle.queues.specs.Queues.{Queues, attached_of, entered, removed_from, queues_of, set_queued}
use Rattle.notices.specs.Notices.{notice_of, destroyed_of, destroyed_set, expired, expired_all}
use Rattle.grants.specs.Grants.{given_of, given_to}
use Rattle.effects.specs.Effects.{counted_of, counted, opened_peers, created_of, created, destroys_of, destroys, dropped_of, dropped, forgotten_own, forgotten, notified, releases_of, left_behind, releases, transfers}
use Rattle.ids.specs.Sizes.{slots}

-- next_number, open_peer, create
module _ (ps : List ℕ) {ps' : List ℕ} (ep : ps' ≡ count_command ps) where
  pub number-done : {n : ℕ} → n ≡ accepted_at ps' → counted_of n ps' ≡ counted ps
  unfolding counted
  number-done en = rw (en, ep)

  pub open_done : (p u : ℕ) {qs : List ℕ} → qs ≡ set_open ps' p u → qs ≡ opened_peers ps p u
  unfolding opened_peers
  open_done p u e = rw (e, ep)

  pub create-done : (ns hs : List ℕ) (p i s : ℕ) {ns' : List ℕ} → ns' ≡ set_live ns s → {hs' : List ℕ} → hs' ≡ put_handle hs p s i 1 → created_of ps' ns' hs' ≡ created ps ns hs p i s
  unfolding created
  create-done ns hs p i s en eh = rw (ep, en, eh)

-- transfer
pub transfer-done : (ps ns hs : List ℕ) (r : Rings) (q s : ℕ) {n : ℕ} {ps' : List ℕ} → counted_of n ps' ≡ counted ps →
    {i : ℕ} {ps'' hs' : List ℕ} {r' : Rings} → given_of i ps'' hs' r' ≡ given_to ns ps' hs r q n s → given_of i ps'' hs' r' ≡ transfers ps ns hs r q s
unfolding transfers
transfer-done ps ns hs r q s ec e = rw (← ec) e

-- destroy
pub destroy-done : (ps ns hs cs : List ℕ) (r : Rings) (p s : ℕ) {n : ℕ} {ps' : List ℕ} → counted_of n ps' ≡ counted ps →
    {ns' : List ℕ} {r' : Rings} → destroyed_of ns' r' ≡ destroyed_set ns hs cs r p (one_slot released_bit s).mask n → destroys_of ps' ns' r' ≡ destroys ps ns hs cs r p s
unfolding destroys
destroy-done ps ns hs cs r p s ec ed = rw (← ec, ← ed)

-- forget_own
module _ (ns hs : List ℕ) (q : Queues) (p s : ℕ) {c : Charges} (ec : c ≡ charges_at q.charges p) {a : ℕ} (ea : a ≡ attached_of c) {m : Match} where
  pub forget-bare : a ≡ 0 → m ≡ one_slot all_bits s → {q' : Queues} → q' ≡ removed_from q p m → q' ≡ forgotten_own ns hs q p s
  unfolding forgotten_own
  forget-bare z em eq = rw (← ec, ← ea, eq-eqb a 0 z, ← em) eq

  pub forget-laden : (a ≡ 0 → ⊥) → m ≡ one_slot (message_bit + released_bit) s → {cs : List ℕ} {r : Rings} {t : List ℕ} →
      ◌≡◌ {A = Queues} (record { charges = cs; rings = r; pool = t }) (removed_from q p m) → {r' : Rings} → r' ≡ expired_all ns hs cs p r →
      ◌≡◌ {A = Queues} (record { charges = cs; rings = r'; pool = t }) (forgotten_own ns hs q p s)
  unfolding forgotten_own
  forget-laden z em eq er = rw (← ec, ← ea, ne_eqb a 0 z, ← em, ← eq, er)

-- forget
module _ (ns hs : List ℕ) (q : Queues) (p s : ℕ) where
  pub forget-own : s / slots ≡ p → {q' : Queues} → q' ≡ forgotten_own ns hs q p s → q' ≡ forgotten ns hs q p s
  unfolding forgotten
  forget-own h e = rw (eq-eqb (s / slots) p h) e

  pub forget-other : (s / slots ≡ p → ⊥) → {r : Rings} → r ≡ expired ns hs q.charges p q.rings s → set_queued q r ≡ forgotten ns hs q p s
  unfolding forgotten
  forget-other h e = rw (ne_eqb (s / slots) p h, e)

-- drop_reference
pub drop-done : (hs : List ℕ) (p s : ℕ) {l : ℕ} {hs' : List ℕ} → (l ≡ count_at hs p s - 1) × (hs' ≡ reduced hs p s) → dropped_of l hs' ≡ dropped hs p s
unfolding dropped
drop-done hs p s e = rw (e.0, e.1)

-- notify
module _ (ns hs : List ℕ) (r : Rings) (s n : ℕ) {l : Bool} (el : l ≡ live_at ns s) where
  pub notify-dead : l ≡ false → r ≡ notified ns hs r s n
  unfolding notified
  notify-dead h = rw (← el, h)

  module _ (live : l ≡ true) {t : ℕ} (et : t ≡ total_at hs s) where
    pub notify-one : t ≡ 1 → {e : Entry} → e ≡ notice_of kind_released s n → {r' : Rings} → r' ≡ entered r (s / slots) e → r' ≡ notified ns hs r s n
    unfolding notified
    notify-one h ee er = rw (← el, live, ← et, eq-eqb t 1 h, ← ee) er

    pub notify-more : (t ≡ 1 → ⊥) → r ≡ notified ns hs r s n
    unfolding notified
    notify-more h = rw (← el, live, ← et, ne_eqb t 1 h)

-- release
pub sized-kept : {xs cs vs xs' cs' vs' : List ℕ} → Sized (rows_of xs cs vs) → length xs' ≡ length xs → length cs' ≡ length cs → length vs' ≡ length vs → Sized (rows_of xs' cs' vs')
sized-kept z ex ec ev = record { entries = ex ∙ z.entries; carried = ec ∙ z.carried; numbers = ev ∙ z.numbers }

pub queues-same : {a a' b b' c c' d d' e e' f f' : List ℕ} → a ≡ a' → b ≡ b' → c ≡ c' → d ≡ d' → e ≡ e' → f ≡ f' → queues_of a b c d e f ≡ queues_of a' b' c' d' e' f'
queues-same ea eb ec ed ee ef = rw (ea, eb, ec, ed, ee, ef)

module _ (ns hs : List ℕ) (q : Queues) (p s : ℕ) {l : ℕ} {hs' : List ℕ} (ed : dropped_of l hs' ≡ dropped hs p s) {q' : Queues} where
  pub left-none : l ≡ 0 → q' ≡ forgotten ns hs' q p s → q' ≡ left_behind ns hs q p s
  unfolding left_behind
  left-none h e = rw (← ed, eq-eqb l 0 h) e

  pub left-some : (l ≡ 0 → ⊥) → q' ≡ q → q' ≡ left_behind ns hs q p s
  unfolding left_behind
  left-some h e = rw (← ed, ne_eqb l 0 h) e

pub release-done : (ps ns hs : List ℕ) (q : Queues) (p s : ℕ) {n : ℕ} {ps' : List ℕ} → counted_of n ps' ≡ counted ps → {l : ℕ} {hs' : List ℕ} → dropped_of l hs' ≡ dropped hs p s →
    {cs : List ℕ} {r : Rings} {t : List ℕ} → ◌≡◌ {A = Queues} (record { charges = cs; rings = r; pool = t }) (left_behind ns hs q p s) →
    {r' : Rings} → r' ≡ notified ns hs' r s n → releases_of ps' hs' (record { charges = cs; rings = r'; pool = t }) ≡ releases ps ns hs q p s
unfolding releases
release-done ps ns hs q p s ec ed el er = rw (er, ← ec, ← ed, ← el)
