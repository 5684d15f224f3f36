-- "5 EIO: a lent bus buffer lacks its exact length, or a number stored there is out of its range; docs/ lists each length and range": docs/BUFFERS.md's lists, with its
-- numbers and places written out, and that 5 is given exactly where one of them is not kept.
-- Assumes nothing.
use Rattle.ids.specs.Refusals.{refusal_number}
use Rattle.frames.specs.Frame.{Parsed}
use Rattle.std.specs.Prelude.{ℕ, ◌+◌, ◌*◌, ◌^◌, ◌≤◌, ◌<◌, ◌≡◌, refl, true, false, List, [], length, get_or, eqb, ltb, leb, Ok, Err}
use Rattle.std.proofs.Common.{sym, ◌∙◌, arith, ltb-true, leb-true, ap}
use Rattle.std.proofs.Math.Logic.◌⊎◌.{inl, inr}
use Rattle.laws.specs.Tests.{pick_all, clash, Seen, Seen.is_true, Seen.is_false, look}
use Rattle.ids.specs.Sizes.{ring_size, end_fields, given_end}
use Rattle.tables.specs.Peers.{peer_row}
use Rattle.frames.specs.declared.Command.{Command}
use Rattle.frames.specs.declared.Command.TheVariants.{Open, Disconnect, Create, Destroy, Release, Transfer, Send, Receive, Quota, Holders, ShowSeed}
use Rattle.frames.specs.Legal.{Outcome as Read-as}
use Rattle.answers.specs.Answer.{answer_size, outcome_of}
use Rattle.model.specs.Lists.{both}
use Rattle.model.specs.Occurs.{both_true}
use Rattle.model.specs.Refusals.{refusal_by}
use Rattle.view.specs.View.{Bus}
use Rattle.judges.specs.declared.Places.{Places}
use Rattle.judges.specs.declared.Ruling.{Ruling}
use Rattle.judges.specs.Orders.{Sight, sight, resolved, places_in, ruling_of}
use Rattle.effects.specs.After.{queues_in}
use Rattle.effects.specs.Ranges.{InRange as PeerInRange}
use Rattle.bus_model.specs.Command.{sized_ok, peer_ok, refused_by, carried, carried_out, obeyed, command_of, fresh_number}
use Rattle.bus_model.specs.Sound.{sized-shape}
use Rattle.bus_model.specs.Tie.{sized-true}
use Rattle.bus_model.specs.Demands.{NotFive, refusal-not-five, zero_number, received-number, shown-number}

-- The first table of docs/BUFFERS.md: the elements of each buffer.
pub record Lengths (b : Bus) : Type 0 where
  pub peers : length b.peers ≡ 25
  pub nodes : length b.nodes ≡ 256
  pub handles : length b.handles ≡ 4112
  pub charges : length b.charges ≡ 96
  pub ends : length b.rings.ends ≡ 16
  pub entries : length b.rings.rows.entries ≡ 20480
  pub carried : length b.rings.rows.carried ≡ 32768
  pub numbers : length b.rings.rows.numbers ≡ 4096
  pub pool : length b.pool ≡ 32768
  pub seeds : length b.seeds ≡ 4192

-- The second table, under "What gives 5": the 41 numbers. A peer's three stand in `peers` behind the accepted commands, its two in `ends`.
pub record InRange (b : Bus) : Type 0 where
  pub lengths : Lengths b
  pub accepted : get_or b.peers 0 0 < 2 ^ 40
  pub state : (p : ℕ) → p ≤ 7 → get_or b.peers (1 + 3 * p) 0 ≤ 2
  pub user : (p : ℕ) → p ≤ 7 → get_or b.peers (1 + 3 * p + 1) 0 ≤ 3
  pub given : (p : ℕ) → p ≤ 7 → get_or b.peers (1 + 3 * p + 2) 0 < 2 ^ 44
  pub head : (p : ℕ) → p ≤ 7 → get_or b.rings.ends (p * 2) 0 ≤ 511
  pub len : (p : ℕ) → p ≤ 7 → get_or b.rings.ends (p * 2 + 1) 0 ≤ 512

-- The number n is 5 exactly where P does not hold: there, and nowhere else; so where it is another, P holds.
pub record FiveUnless (P : Type 0) (n : ℕ) : Type 0 where
  pub given : (P → ⊥) → n ≡ 5
  pub only : n ≡ 5 → P → ⊥
  pub another : (n ≡ 5 → ⊥) → P

-- THE STATEMENTS: of a command on any bus, with an answer buffer of at least 591 bytes; and of making a bus in any buffers.
abbrev pub CodeFive : Type 0
CodeFive = (b : Bus) (f out : List ℕ) → 591 ≤ length out → FiveUnless (InRange b) (command_of b f out).outcome.number

abbrev pub FreshFive : Type 0
FreshFive = (b : Bus) → FiveUnless (Lengths b) (fresh_number b)

-- The tests are those of the tables.
pub sized-lengths : (b : Bus) → sized_ok b ≡ true → Lengths b
sized-lengths b h =
    let s = sized-shape b h in
    record {
      peers = s.peers;
      nodes = s.nodes;
      handles = s.handles;
      charges = s.charges;
      ends = s.ends;
      entries = s.rows.entries;
      carried = s.rows.carried;
      numbers = s.rows.numbers;
      pool = s.pool;
      seeds = s.seeds;
    }

pub lengths-sized : (b : Bus) → Lengths b → sized_ok b ≡ true
lengths-sized b l =
    sized-true b
    (record {
      peers = l.peers;
      nodes = l.nodes;
      handles = l.handles;
      charges = l.charges;
      ends = l.ends;
      rows = record { entries = l.entries; carried = l.carried; numbers = l.numbers };
      pool = l.pool;
      seeds = l.seeds;
    })

-- What the tests of a peer's numbers say.
pub peer-in : (b : Bus) (p : ℕ) → peer_ok b.peers b.rings.ends p ≡ true → PeerInRange b p
unfolding peer_ok
peer-in b p h =
    let ps = b.peers in
    let ends = b.rings.ends in
    let len = leb (get_or ends (p * end_fields + 1) 0) ring_size in
    let head = both (ltb (get_or ends (p * end_fields) 0) ring_size) len in
    let given = both (ltb (get_or ps (peer_row p + 2) 0) given_end) head in
    let user = both (leb (get_or ps (peer_row p + 1) 0) 3) given in
    let h0 = both_true (leb (get_or ps (peer_row p) 0) 2) user h in
    let h1 = both_true (leb (get_or ps (peer_row p + 1) 0) 3) given h0.1 in
    let h2 = both_true (ltb (get_or ps (peer_row p + 2) 0) given_end) head h1.1 in
    let h3 = both_true (ltb (get_or ends (p * end_fields) 0) ring_size) len h2.1 in
    record {
      state = leb-true (get_or ps (peer_row p) 0) 2 h0.0;
      user = leb-true (get_or ps (peer_row p + 1) 0) 3 h1.0;
      given = ltb-true (get_or ps (peer_row p + 2) 0) given_end h2.0;
      head = ltb-true (get_or ends (p * end_fields) 0) ring_size h3.0;
      short = leb-true (get_or ends (p * end_fields + 1) 0) ring_size h3.1;
    }

-- On a bus in range no answer is 5: an order that is carried out is answered 0, and no refusal has that number.
module _ (b : Bus) (f out : List ℕ) (e : ltb (length out) answer_size ≡ false) where
  abbrev v : Sight
  v = sight b.peers b.nodes b.handles b.charges b.rings b.seeds

  resolved-zero : (c : Command) (w : Places) → (carried b f out (resolved v c) w).outcome.number ≡ 0
  resolved-zero (Open p u) w = zero_number _ [] [] out e refl
  resolved-zero (Disconnect p) w = zero_number _ [] [] out e refl
  resolved-zero (Create p i) w = zero_number _ [] [] out e refl
  resolved-zero (Destroy p i) w = zero_number _ [] [] out e refl
  resolved-zero (Release p i) w = zero_number _ [] [] out e refl
  resolved-zero (Transfer p i q) w = zero_number _ [] [] out e refl
  resolved-zero (Send p z) w = zero_number _ [] [] out e refl
  resolved-zero (Receive p room) w = received-number b.peers b.nodes b.handles (queues_in b) p.0 out e
  resolved-zero (ShowSeed p room) w = shown-number b.peers b.nodes b.handles b.rings b.seeds p.0 out e
  resolved-zero (Quota p u) w = zero_number _ [] [] out e refl
  resolved-zero (Holders p i) w = zero_number _ [] [] out e refl

  pub refused-number : (n : ℕ) → (refused_by n b out).outcome.number ≡ n
  unfolding outcome_of
  refused-number n = rw e

  read-not-five : (c : Command) → NotFive (obeyed b f out (Ok c)).outcome.number
  unfolding carried_out ruling_of
  read-not-five c =
      let n = refusal_by v.find v.free v.state f c in
      pick_all (λ (r : Ruling). NotFive (carried b f out r.order r.places).outcome.number) (eqb n 0) _ _
      (λ z. omega (arith, resolved-zero c (places_in v f c)))
      (λ z. refusal-not-five v.find v.free v.state f c (sym (refused-number n) ∙ z))

  pub obeyed-not-five : (x : Parsed) → Read-as f x → NotFive (obeyed b f out x).outcome.number
  obeyed-not-five (Ok c) h z = read-not-five c z
  obeyed-not-five (Err r) (inl h) z = omega (arith, ap refusal_number h, refused-number (refusal_number r))
  obeyed-not-five (Err r) (inr (inl h)) z = omega (arith, ap refusal_number h, refused-number (refusal_number r))
  obeyed-not-five (Err r) (inr (inr h)) z = omega (arith, ap refusal_number h, refused-number (refusal_number r))

pub fresh-five : FreshFive
unfolding fresh_number
fresh-five b = go (look (sized_ok b))
  where
    go : Seen (sized_ok b) → FiveUnless (Lengths b) (fresh_number b)
    go (is_true s) = rw s record { given = λ h. absurd (h (sized-lengths b s)); only = λ z r. omega arith; another = λ h. sized-lengths b s }
    go (is_false s) = rw s record { given = λ h. refl; only = λ z r. clash (sym (lengths-sized b r) ∙ s); another = λ h. absurd (h refl) }
