-- What a transfer and a receive do to the state that the tables stand for, and what they answer: both are the model's.
-- Assumes nothing.
use Rattle.std.specs.Prelude.{ℕ, zero, suc, ◌+◌, ◌*◌, ◌/◌, ◌%◌, min, ◌≤◌, ◌<◌, ◌≡◌, Bool, true, false, List, [], ◌∷◌, length, get_or, drop, ltb}
use Rattle.std.proofs.Math.Path.{refl, sym, ap, ap₂}
use Rattle.std.proofs.Common.{subst, ◌∙◌, arith, length-take, get_or-take, length-take-le, eq-eqb, ltb-true}
use Rattle.std.proofs.Math.ListN.{take}
use Rattle.laws.specs.Tests.{Seen, Seen.is_true, Seen.is_false, look}
use Rattle.laws.specs.Tables.{upd, upd_same, upd-self, upd-all}
use Rattle.laws.specs.Guards.{upto}
use Rattle.laws.specs.Weights.{All, all-at, all-imp}
use Rattle.answers.specs.declared.Answer.{Answer}
use Rattle.answers.specs.Answer.{answer_after, outcome_of}
use Rattle.rings.specs.declared.Entry.{Entry as Row}
use Rattle.rings.specs.Rings.{kind_destroyed, kind_released, ring_size, length_of, queue_of, first_of, popped, kind_bit, kind_count}
use Rattle.rings.specs.Laws.{after_pop, pop-own}
use Rattle.pool.specs.Pool.{area_size, bytes_in, Pair, sum_of}
use Rattle.tables.specs.Charges.{charges_at}
use Rattle.tables.specs.ChargesView.{charges_v}
use Rattle.tables.specs.Handles.{count_at}
use Rattle.tables.specs.HandlesView.{handle_v, id-is, count-is}
use Rattle.tables.specs.Listed.{AllListed}
use Rattle.tables.specs.Peers.{modulus, given_at, count_command}
use Rattle.tables.specs.PeersView.{given_is, given_counted}
use Rattle.model.specs.Numbers.{nodes, owner, invalid}
use Rattle.model.specs.State.{Handle.none, count, id_or, Message, messages_in, concerned, Entry, Entry.message, Entry.destroyed, Entry.released, State}
use Rattle.model.specs.Tables.{accept, with_given, with_handles, with_queues, with_charges}
use Rattle.model.specs.Changes.{withdraw, take_out, valid, give, give_all, shown, shown_all, stays, settled}
use Rattle.model.specs.Effects.{receives}
use Rattle.model.specs.Replies.{Reply, plain, of_send, shows, shows_message}
use Rattle.model.specs.Lists.{any}
use Rattle.model.specs.Notices.{Stands}
use Rattle.model.specs.Counts.{total-one}
use Rattle.model.specs.Occurs.{all_both}
use Rattle.model.specs.Charged.{Fine, Charged}
use Rattle.model.specs.ChargedProof.{charged-quiet}
use Rattle.model.proofs.ChargedProof.{charged-take_out}
use Rattle.model.specs.Quiet.{quiet-accept}
use Rattle.model.proofs.Quiet.{quiet-give_all}
use Rattle.model.specs.IdsProof.{holding-out}
use Rattle.view.specs.View.{Bus, Shape, entry_v, queue_v, state_of, set_peers, set_handles, set_rings, shape-rings}
use Rattle.view.specs.Rows.{area-length}
use Rattle.queues.specs.Queues.{Queues, Short, used_of, is_message, taken_out, follows_in, set_queues, shape-queues, set_queued}
use Rattle.queues.specs.Asking.{message_v, Kind, Kind.is-message, Kind.is-destroyed, Kind.is-released, kind, front_v, front-view, front-whole, follows-view, area-piece}
use Rattle.queues.specs.Carrying.{unladen}
use Rattle.queues.specs.Entering.{Filled}
use Rattle.queues.specs.Leaving.{taken-view, taken-discharged, taken-same, taken-message, taken-notice, taken-rows, taken-ends, taken-pool, taken-charged, taken-short}
use Rattle.notices.specs.Notices.{own_invalid, expired_shown}
use Rattle.notices.specs.Expiring.{Dated, Fair, Sought, stands-dated, less-all, sought-view}
use Rattle.grants.specs.Grants.{Gives, gives_to, id_or_invalid}
use Rattle.grants.specs.Giving.{LoneEntry, Lone, lone-stands, given_bus, given_on, given-view, given-shown, given-shape, gives_bus, gives_on, Handed, gives-view}
use Rattle.grants.specs.Listing.{listed-gives}
use Rattle.effects.specs.Effects.{counted, rings_after, message_answer, shown_ids, shown_bytes, Taken, received_of, received_message, notice_answer, notice_taken, received, transfers}
use Rattle.effects.specs.After.{queues_in, after_transfer, after_receive}
use Rattle.effects.specs.Good.{Good}
use Rattle.effects.specs.Counting.{counting, shape-counted, counted-view, number_more}
use Rattle.effects.specs.Releasing.{good-filled, good-short}
use Rattle.effects.specs.Unkept.{entries-gives, unkept}
use Rattle.ids.specs.Sizes.{peers, slots, most_ids, carried_fields}

-- The oldest entry taken out of a queue.
module _ (b : Bus) (p : ℕ) (h : Shape b) (l : p < peers) (some : 0 < length_of b.rings.ends p) (filled : Filled (queues_in b)) where
  abbrev pub taking : Bus
  taking = set_queues b (taken_out (queues_in b) p (first_of b.rings p))

  pub shape-taken : Shape taking
  shape-taken =
      let e = first_of b.rings p in
      shape-queues h (taken-charged (queues_in b) p e ∙ h.charges) (taken-ends (queues_in b) p e ∙ h.ends) (taken-rows (queues_in b) p e h.rows)
      (taken-pool (queues_in b) p e ∙ h.pool)

  taken-queues : queue_v taking.rings taking.pool ≡ upd (queue_v b.rings b.pool) p (drop 1 (queue_v b.rings b.pool p))
  taken-queues = taken-view (queues_in b) p (first_of b.rings p) h.ends h.pool l some filled.within (filled.used p l) refl

  pub take-message : is_message (first_of b.rings p) ≡ true →
      state_of taking ≡ take_out (state_of b) p (message_v (front_v b.rings b.pool p) ∷ []) (drop 1 (queue_v b.rings b.pool p))
  unfolding take_out with_charges with_queues
  take-message k = rw (taken-queues, taken-discharged (queues_in b) p (first_of b.rings p) h.ends h.charges l some refl k)

  pub take-notice : is_message (first_of b.rings p) ≡ false → state_of taking ≡ take_out (state_of b) p [] (drop 1 (queue_v b.rings b.pool p))
  unfolding take_out with_charges with_queues
  take-notice k =
      rw (
        taken-queues,
        taken-same (queues_in b) p (first_of b.rings p) k,
        upd-self (charges_v b.charges) p (charges_v b.charges p) refl,
      )

-- The ID that an answer shows.
pub shown-id : (hs : List ℕ) (p s : ℕ) → p < peers → s < nodes → id_or_invalid hs p (s % nodes) ≡ id_or invalid (handle_v hs p s)
unfolding id_or_invalid
shown-id hs p s l m = let e : s % nodes ≡ s = omega arith in rw e (sym (id-is hs p s l m invalid))

-- What is shown does not depend on how many commands were accepted.
give-accepted : (x : State) (p n s : ℕ) → give (accept x) p n s ≡ accept (give x p n s)
unfolding give withdraw with_handles with_given with_queues shown valid accept
give-accepted x p n s = go (look (valid x p n s))
  where
    go : Seen (valid x p n s) → give (accept x) p n s ≡ accept (give x p n s)
    go (is_true e) = rw e
    go (is_false e) = rw e

pub shown-accepted : (x : State) (p n : ℕ) (ss : List ℕ) → shown_all (accept x) p n ss ≡ shown_all x p n ss
shown-accepted x p n [] = refl
shown-accepted x p n (s ∷ ss) =
    ap₂ ◌∷◌ (unfold shown valid accept in refl) (ap (λ (y : State). shown_all y p n ss) (give-accepted x p n s) ∙ shown-accepted (give x p n s) p n ss)

take-accepted : (x : State) (p : ℕ) (ms : List Message) (rest : List Entry) → take_out (accept x) p ms rest ≡ accept (take_out x p ms rest)
unfolding take_out with_charges with_queues accept
take-accepted x p ms rest = refl

past-handles : (hs : List ℕ) (q s : ℕ) → ltb q peers ≡ false → handle_v hs q s ≡ none
unfolding handle_v upto
past-handles hs q s e = rw e

-- How far counts and given IDs of a state are from the end of what is read of them.
pub few-counts : (b : Bus) → Good (state_of b) → (q s : ℕ) → count ((state_of b).handle q s) ≤ most_ids * (state_of b).accepted
few-counts b g q s = go (look (ltb q peers))
  where
    go : Seen (ltb q peers) → count (handle_v b.handles q s) ≤ most_ids * (state_of b).accepted
    go (is_true e) = omega (arith, total-one (handle_v b.handles) s q (ltb-true q peers e), g.bounded.sums s)
    go (is_false e) = rw (past-handles b.handles q s e) (omega arith)

pub good-lone : (b : Bus) → Good (state_of b) → Lone (handle_v b.handles) (queue_v b.rings b.pool)
good-lone b g = lone-stands (state_of b).handle (state_of b).life (state_of b).queue g.noted.stands

-- A transfer.
module _ (b : Bus) (q s : ℕ) (h : Shape b) (g : Good (state_of b)) (l : q < peers) (m : s < nodes) where
  transferred-is : after_transfer b q s ≡ given_bus (counting b) (given_on (counting b) q (counted b.peers).number s)
  unfolding transfers counted
  transferred-is = refl

  pub few : count_at b.handles q s + 1 < modulus
  few = omega (arith, count-is b.handles q s l m, few-counts b g q s, g.bounded.few)

  numbered : given_at (count_command b.peers) q + 1 < modulus
  numbered =
      omega (arith, given_is (count_command b.peers) q l, ap (λ (f : ℕ → ℕ). f q) (given_counted b.peers), g.bounded.given q, g.bounded.few)

  near : length_of b.rings.ends (s / slots) ≤ ring_size
  near = let k : s / slots < peers = omega arith in omega (arith, good-short b g (s / slots) k)

  pub transfer-view : state_of (after_transfer b q s) ≡ give (accept (state_of b)) q (suc (state_of b).accepted) s
  transfer-view =
      ap state_of transferred-is ∙ given-view (counting b) (shape-counted b h) q (counted b.peers).number s l m (good-lone b g) few numbered near
      ∙ ap₂ (λ (x : State) (n : ℕ). give x q n s) (counted-view b h g) (number_more b h g)

  pub transfer-id : (transfers b.peers b.nodes b.handles b.rings q s).id ≡ shown (state_of b) q (suc (state_of b).accepted) s
  unfolding transfers counted
  transfer-id =
      given-shown (counting b) (shape-counted b h) q (counted b.peers).number s l m
      ∙ ap₂ (λ (x : State) (n : ℕ). shown x q n s) (counted-view b h g) (number_more b h g)
      ∙ (unfold shown valid accept in refl)

  pub shape-transfer : Shape (after_transfer b q s)
  unfolding transfers counted
  shape-transfer = given-shape (counting b) (shape-counted b h) q (counted b.peers).number s

-- Lists: as many as there are, and all but the first.
take-most : {A : Type 0} (n : ℕ) (xs : List A) → take (min n (length xs)) xs ≡ take n xs
take-most zero xs = let e : min 0 (length xs) ≡ 0 = omega arith in ap (λ (k : ℕ). take k xs) e
take-most {A = A} (suc n) [] = let e : min (suc n) 0 ≡ 0 = omega arith in ap (λ (k : ℕ). take {A = A} k []) e
take-most (suc n) (x ∷ xs) =
    let e : min (suc n) (suc (length xs)) ≡ suc (min n (length xs)) = omega arith in
    ap (λ (k : ℕ). take k (x ∷ xs)) e ∙ ap (◌∷◌ x) (take-most n xs)

all-behind : {A : Type 0} (P : A → Type 0) (xs : List A) → All P xs → All P (drop 1 xs)
all-behind P [] h = tt
all-behind P (x ∷ xs) h = h.1

-- Equal answers.
pub answers-same : (a c : Answer) (is js bs ds out : List ℕ) → a ≡ c → is ≡ js → bs ≡ ds →
    (outcome_of a is bs out ≡ outcome_of c js ds out) × (answer_after a is bs out ≡ answer_after c js ds out)
answers-same a c is js bs ds out e f g = rw (e, f, g) (refl, refl)

kind-bit : (k j : ℕ) → kind_bit k ≡ suc j → k ≡ suc j
kind-bit k j e = go (look (ltb k kind_count))
  where
    go : Seen (ltb k kind_count) → k ≡ suc j
    go (is_true s) = rw s at e
    go (is_false s) = let z : 0 ≡ suc j = rw s at e in absurd (omega arith)

-- The bus after a receive, of what the receive leaves.
abbrev taken_bus : Bus → Taken → Bus
taken_bus b x = set_queues (set_handles (set_peers b x.peers) x.handles) x.queues

-- A receive of a queue that is not empty.
module _ (b : Bus) (p : ℕ) (out : List ℕ) (h : Shape b) (g : Good (state_of b)) (l : p < peers) (some : 0 < length_of b.rings.ends p) where
  abbrev entry : Row
  entry = first_of b.rings p

  abbrev front : Pair
  front = front_v b.rings b.pool p

  abbrev rest : List Entry
  rest = drop 1 (queue_v b.rings b.pool p)

  abbrev made : Taken
  made = received b.peers b.nodes b.handles (queues_in b) p out

  abbrev rep : Reply
  rep = shows (state_of b) p ((state_of b).queue p)

  abbrev took : Bus
  took = taking (counting b) p (shape-counted b h) l some (good-filled b g)

  whole : (state_of b).queue p ≡ entry_v front ∷ rest
  whole = front-view b.rings b.pool p h.ends l some

  standing : Stands (state_of b).handle (state_of b).life p (entry_v front)
  standing = (rw whole at (g.noted.stands p)).0

  -- What comes back is this reply.
  abbrev Answers : Reply → Type 0
  Answers r = (made.outcome ≡ outcome_of r.answer r.ids r.payload out) × (made.out ≡ answer_after r.answer r.ids r.payload out)

  -- A notice.
  module _ (k : is_message entry ≡ false) where
    left-notice : made ≡ (let x = notice_taken b.handles b.rings.ends p entry out in
        received_of x.outcome x.out (count_command b.peers) b.handles (set_queued (queues_in b) (rings_after b.rings x.ends)))
    unfolding received
    left-notice = rw k

    bus-notice : taken_bus b made ≡ took
    unfolding notice_taken
    bus-notice = ap (taken_bus b) left-notice ∙ sym (ap (set_queues (counting b)) (taken-notice (queues_in b) p entry k))

    view-notice : state_of (after_receive b p out) ≡ take_out (accept (state_of b)) p [] rest
    view-notice = ap state_of bus-notice ∙ take-notice (counting b) p (shape-counted b h) l some (good-filled b g) k ∙ ap (λ (x : State). take_out x p [] rest) (counted-view b h g)

    answer-notice : (r : Reply) → r ≡ plain (notice_answer b.handles p entry) → Answers r
    unfolding notice_taken
    answer-notice r e = rw (left-notice, e) (refl, refl)

  -- Of each kind: the slot is one of a node, and the answer the model's.
  destroyed-slot : Stands (state_of b).handle (state_of b).life p (destroyed entry.number entry.slot) → entry.slot < nodes
  destroyed-slot z = z.1

  released-slot : Stands (state_of b).handle (state_of b).life p (released entry.number entry.slot) → entry.slot < nodes
  released-slot z = (g.noted.holders (owner entry.slot) entry.slot (g.noted.owned entry.slot z.0)).1

  message-slot : Stands (state_of b).handle (state_of b).life p (message entry.number (message_v front)) → entry.slot < nodes
  message-slot z = (g.noted.holders p entry.slot z.1).1

  shows-destroyed : kind_bit entry.kind ≡ kind_destroyed → entry_v front ≡ destroyed entry.number entry.slot → rep ≡ plain (notice_answer b.handles p entry)
  unfolding notice_answer
  shows-destroyed k f =
      ap (shows (state_of b) p) (whole ∙ ap (λ (x : Entry). x ∷ rest) f)
      ∙ rw (kind-bit entry.kind 0 k, shown-id b.handles p entry.slot l (destroyed-slot (rw f at standing)))

  shows-released : kind_bit entry.kind ≡ kind_released → entry_v front ≡ released entry.number entry.slot → rep ≡ plain (notice_answer b.handles p entry)
  unfolding notice_answer
  shows-released k f =
      ap (shows (state_of b) p) (whole ∙ ap (λ (x : Entry). x ∷ rest) f)
      ∙ rw (kind-bit entry.kind 1 k, shown-id b.handles p entry.slot l (released-slot (rw f at standing)))

  -- A message: what its header says.
  module _ (k : is_message entry ≡ true) (size : bytes_in entry ≡ entry.nb) (f : entry_v front ≡ message entry.number (message_v front)) where
    stands : Stands (state_of b).handle (state_of b).life p (message entry.number (message_v front))
    stands = rw f at standing

    used : used_of (charges_at b.charges p) ≡ bytes_in entry + sum_of (queue_of (after_pop b.rings p) p)
    used = (good-filled b g).used p l ∙ ap sum_of (pop-own b.rings p h.ends l some)

    bytes-used : min entry.nb (used_of (charges_at b.charges p)) ≡ bytes_in entry
    bytes-used = omega (arith, used, size)

    bytes_fit : bytes_in entry ≤ area_size
    bytes_fit = omega (arith, used, (good-filled b g).used p l, (good-filled b g).within p l)

    piece : shown_bytes b.charges b.pool p entry ≡ (message_v front).payload
    unfolding shown_bytes
    piece = rw bytes-used (sym (area-piece b.pool p (bytes_in entry) (omega (arith, h.pool, bytes_fit))))

    eight : length entry.carried ≡ carried_fields
    eight = (front-whole b.rings b.pool p h.ends l some).eight

    handles : length (take entry.nh entry.carried) ≡ min entry.nh most_ids
    handles = length-take entry.nh entry.carried ∙ ap (min entry.nh) eight

    follows : follows_in b.rings p entry.number ≡ any (of_send entry.number) rest
    follows = follows-view b.rings b.pool p entry.number h.ends l some (g.ordered p).in_order refl

    abbrev header : Answer
    header = message_answer b.charges p (record { 0 = id_or_invalid b.handles p (entry.slot % nodes) }) (follows_in b.rings p entry.number) entry

    answer-header : header ≡ (shows_message (state_of b) p entry.number (message_v front) rest).answer
    unfolding message_answer shows_message
    answer-header =
        rw (bytes-used, shown-id b.handles p entry.slot l (message-slot stands), follows, handles, area-length b.pool p (bytes_in entry))

    abbrev many : ℕ
    many = min entry.nh most_ids

    carried_same : take many entry.carried ≡ (message_v front).carried
    carried_same = ap (λ (k : ℕ). take (min entry.nh k) entry.carried) (sym eight) ∙ take-most entry.nh entry.carried

    carried-low : All (λ s. s < nodes) (take many entry.carried)
    carried-low = rw carried_same stands.2.1

    -- The bus that gives what the message carries.
    left-message : made ≡ received_message (count_command b.peers) b.nodes b.handles (queues_in b) p entry out
    unfolding received
    left-message = rw k

    -- What a bus gives, and the bus then, without the notices that nothing keeps.
    abbrev giving : Bus → Gives
    giving c = gives_on c p entry.number entry.carried many

    abbrev settling : Bus → Bus
    settling c = set_rings (gives_bus c (giving c)) (expired_shown c.nodes (giving c).handles c.charges p entry.carried (giving c).ids (giving c).rings many)

    bus-message : taken_bus b made ≡ settling took
    unfolding received_message
    bus-message =
        ap (taken_bus b) left-message
        ∙ sym (ap (λ (q : Queues). settling (set_queues (counting b) q)) (taken-message (queues_in b) p entry k))

    lone : Lone (handle_v took.handles) (queue_v took.rings took.pool)
    lone =
        let qs = queue_v b.rings b.pool in
        let all = good-lone b g in
        rw (taken-queues (counting b) p (shape-counted b h) l some (good-filled b g))
        (upd-all (λ q es. All (λ e. LoneEntry (handle_v b.handles) q e) es) qs p (drop 1 (qs p)) all (all-behind (λ e. LoneEntry (handle_v b.handles) p e) (qs p) (all p)))

    short : Short took.rings.ends
    short = taken-short (queues_in b) p entry h.ends l (λ o m. omega (arith, good-short b g o m))

    given-few : (state_of took).given p + many < modulus
    given-few = omega (arith, ap (λ (f : ℕ → ℕ). f p) (given_counted b.peers), g.bounded.given p, g.bounded.few)

    handed : Handed took p entry.number entry.carried many (gives_on took p entry.number entry.carried many)
    handed =
        gives-view took (shape-taken (counting b) p (shape-counted b h) l some (good-filled b g)) p entry.number entry.carried l eight lone short many (omega arith) carried-low
        (λ q s. omega (arith, few-counts b g q s, g.bounded.few)) given-few

    took-view : state_of took ≡ take_out (accept (state_of b)) p (message_v front ∷ []) rest
    took-view =
        take-message (counting b) p (shape-counted b h) l some (good-filled b g) k ∙ ap (λ (x : State). take_out x p (message_v front ∷ []) rest) (counted-view b h g)

    listed-message : AllListed b.handles → AllListed (after_receive b p out).handles
    listed-message a =
        rw (ap (λ (x : Bus). x.handles) bus-message)
        (listed-gives took (shape-taken (counting b) p (shape-counted b h) l some (good-filled b g)) p entry.number entry.carried l eight lone short
        (rw took-view (holding-out (state_of b) p (message_v front ∷ []) rest (record { handles = g.ids; owned = g.noted.owned })))
        a many (omega arith)
        (λ j lj. low-at j lj)
        (λ q s. omega (arith, few-counts b g q s, g.bounded.few)) given-few)
      where
        low-at : (j : ℕ) → j < many → get_or entry.carried j 0 < nodes
        low-at j lj =
            rw (get_or-take many entry.carried j 0 lj) at (all-at (λ s. s < nodes) (take many entry.carried) j 0 carried-low (omega (arith, length-take-le many entry.carried (omega (arith, eight)))))

    -- The bus once what the message carries is given.
    abbrev gave : Bus
    gave = gives_bus took (giving took)

    abbrev waiting : List Entry
    waiting = queue_v gave.rings gave.pool p

    abbrev taken : State
    taken = take_out (accept (state_of b)) p (message_v front ∷ []) rest

    taken-queue : taken.queue p ≡ rest
    unfolding take_out with_charges with_queues accept
    taken-queue = upd_same (state_of b).queue p rest

    taken-life : taken.life ≡ (state_of b).life
    unfolding take_out with_charges with_queues accept
    taken-life = refl

    taken-handles : taken.handle ≡ (state_of b).handle
    unfolding take_out with_charges with_queues accept
    taken-handles = refl

    gave-view : state_of gave ≡ give_all taken p entry.number (message_v front).carried
    gave-view = handed.state ∙ ap₂ (λ (x : State) (ss : List ℕ). give_all x p entry.number ss) took-view carried_same

    -- Each destroy notice that waits then has its number, and was founded before.
    abbrev first : List Entry
    first = message entry.number (message_v front) ∷ rest

    abbrev Before : Entry → Type 0
    Before e = Dated (state_of b).life e × (stays ((state_of b).handle p) first e ≡ true)

    waited : All Before waiting
    waited =
        rw (ap (λ (x : State). x.queue p) gave-view)
        (entries-gives Before taken p entry.number (message_v front).carried p
        (rw taken-queue (all_both (Dated (state_of b).life) (λ e. stays ((state_of b).handle p) first e ≡ true) rest dated.1 founded.1)))
      where
        founded : All (λ e. stays ((state_of b).handle p) first e ≡ true) first
        founded =
            let so : List Entry → Type 0 = λ q. All (λ e. stays ((state_of b).handle p) q e ≡ true) q in
            subst so (whole ∙ ap (λ (x : Entry). x ∷ rest) f) (g.founded p)

        dated : All (Dated (state_of b).life) first
        dated =
            rw (whole, f) at
            (all-imp (Stands (state_of b).handle (state_of b).life p) (Dated (state_of b).life) (stands-dated (state_of b).handle (state_of b).life p) ((state_of b).queue p)
            (g.noted.stands p))

    gave-charged : Charged (state_of gave)
    gave-charged =
        rw gave-view
        (charged-quiet (quiet-give_all taken p entry.number (message_v front).carried)
        (charged-take_out (accept (state_of b)) p (message_v front ∷ []) rest (charged-quiet (quiet-accept (state_of b)) g.charged)
        (λ t w. unfold accept in rw (whole, f) (omega arith)) fine.1))
      where
        fine : All Fine (messages_in first)
        fine = rw (whole, f) at (g.charged.at p).fine

    gave-fair : Fair gave.nodes gave.handles gave.charges p gave.pool l gave.rings
    gave-fair =
        record {
          rows = handed.shape.rows;
          ends = handed.shape.ends;
          short = omega (arith, handed.lengths p, short p l);
          unladen = unladen gave.charges gave.rings gave.pool p l (gave-charged.at p);
          dated = all-imp Before (Dated (state_of b).life) (λ e z. z.0) waiting waited;
        }

    -- What keeps a notice no more was the owner's node, shown as invalid.
    abbrev test : ℕ → Bool
    test = own_invalid p entry.carried (giving took).ids

    abbrev place : ℕ → ℕ
    place j = get_or entry.carried j 0 % nodes

    ids-given : take many (giving took).ids ≡ shown_all taken p entry.number (message_v front).carried
    ids-given = handed.shows ∙ ap₂ (λ (x : State) (ss : List ℕ). shown_all x p entry.number ss) took-view carried_same

    sought : (e : Entry) → Before e → Sought gave.nodes gave.handles gave.charges p gave.pool l test place gave.rings gave-fair many e
    sought (message n m) z = tt
    sought (released n t) z = tt
    sought (destroyed n t) z = λ none. found (unkept ((state_of b).handle p) taken p entry.number (message_v front) t n (rw taken-life z.0.0) (λ s e. rw taken-handles e) (rw taken-queue z.1) (left none))
      where
        left : concerned (handle_v gave.handles p) waiting n t ≡ false →
            concerned ((give_all taken p entry.number (message_v front).carried).handle p) ((give_all taken p entry.number (message_v front).carried).queue p) n t ≡ false
        left e = ap (λ (x : State). concerned (x.handle p) (x.queue p) n t) (sym gave-view) ∙ e

        found : (j : ℕ) × (j < length (message_v front).carried) × (get_or (message_v front).carried j 0 ≡ t)
            × (get_or (shown_all taken p entry.number (message_v front).carried) j 0 ≡ invalid) × (owner t ≡ p) → (j : ℕ) × (j < many) × (test j ≡ true) × (place j ≡ t)
        found w =
            let j = w.0 in
            let lj : j < many = omega (arith, w.1, handles) in
            let s : get_or entry.carried j 0 ≡ t = sym (get_or-take many entry.carried j 0 lj) ∙ ap (λ (ss : List ℕ). get_or ss j 0) carried_same ∙ w.2 in
            let i : get_or (giving took).ids j 0 ≡ invalid = sym (get_or-take many (giving took).ids j 0 lj) ∙ ap (λ (is : List ℕ). get_or is j 0) ids-given ∙ w.3 in
            let k : t % nodes ≡ t = omega (arith, z.0.1) in
            (j, lj, rw (i, s, k, eq-eqb (owner t) p w.4), rw (s, k))

    view-message : state_of (after_receive b p out) ≡ settled (give_all taken p entry.number (message_v front).carried) p
    view-message = ap state_of bus-message ∙ gone ∙ ap (λ (x : State). settled x p) gave-view
      where
        low : (j : ℕ) → j < many → place j < nodes
        low j lj = omega arith

        gone : state_of (settling took) ≡ settled (state_of gave) p
        gone =
            unfold settled with_queues in
            rw
            (sought-view gave.nodes gave.handles gave.charges p gave.pool l test place gave.rings gave-fair many low
            (all-imp Before (Sought gave.nodes gave.handles gave.charges p gave.pool l test place gave.rings gave-fair many) sought waiting waited))

    ids-message : take many (gives_on took p entry.number entry.carried many).ids ≡ shown_all (take_out (state_of b) p (message_v front ∷ []) rest) p entry.number (message_v front).carried
    ids-message =
        handed.shows
        ∙ ap₂ (λ (x : State) (ss : List ℕ). shown_all x p entry.number ss) (took-view ∙ take-accepted (state_of b) p (message_v front ∷ []) rest) carried_same
        ∙ shown-accepted (take_out (state_of b) p (message_v front ∷ []) rest) p entry.number (message_v front).carried

    ids-left : shown_ids entry (gives_to b.nodes (count_command b.peers) b.handles (rings_after b.rings (popped b.rings.ends p)) p entry.number entry.carried many).ids
        ≡ (shows_message (state_of b) p entry.number (message_v front) rest).ids
    unfolding shown_ids shows_message
    ids-left =
        ap (λ (q : Queues). take many (gives_on (set_queues (counting b) q) p entry.number entry.carried many).ids) (sym (taken-message (queues_in b) p entry k)) ∙ ids-message

    answer-message : Answers (shows_message (state_of b) p entry.number (message_v front) rest)
    unfolding received_message
    answer-message =
        let same-answers =
        answers-same header (shows_message (state_of b) p entry.number (message_v front) rest).answer
        (shown_ids entry (gives_to b.nodes (count_command b.peers) b.handles (rings_after b.rings (popped b.rings.ends p)) p entry.number entry.carried many).ids)
        (shows_message (state_of b) p entry.number (message_v front) rest).ids (shown_bytes b.charges b.pool p entry)
        (shows_message (state_of b) p entry.number (message_v front) rest).payload out answer-header ids-left (unfold shows_message in piece) in
        (ap (λ (x : Taken). x.outcome) left-message ∙ same-answers.0, ap (λ (x : Taken). x.out) left-message ∙ same-answers.1)

    shape-message : Shape (taken_bus b made)
    shape-message =
        let y = less-all gave.nodes gave.handles gave.charges p gave.pool l test place gave.rings handed.shape.rows handed.shape.ends many in
        rw bus-message (shape-rings handed.shape y.ends y.rows)

  -- Of every kind.
  shape-notice : is_message entry ≡ false → Shape (after_receive b p out)
  shape-notice k = rw (bus-notice k) (shape-taken (counting b) p (shape-counted b h) l some (good-filled b g))

  pub receive-view : state_of (after_receive b p out) ≡ receives (accept (state_of b)) p ((state_of b).queue p)
  receive-view = go (kind front)
    where
      told : (e : Entry) → entry_v front ≡ e → receives (accept (state_of b)) p (e ∷ rest) ≡ receives (accept (state_of b)) p ((state_of b).queue p)
      told e f = ap (receives (accept (state_of b)) p) (ap (λ (x : Entry). x ∷ rest) (sym f) ∙ sym whole)

      go : Kind front → state_of (after_receive b p out) ≡ receives (accept (state_of b)) p ((state_of b).queue p)
      go (is-message k n j f) = view-message k n f ∙ told (message entry.number (message_v front)) f
      go (is-destroyed k n j f) = view-notice k ∙ told (destroyed entry.number entry.slot) f
      go (is-released k n j f) = view-notice k ∙ told (released entry.number entry.slot) f

  answers : Answers rep
  answers = go (kind front)
    where
      go : Kind front → Answers rep
      go (is-message k n j f) = rw (whole, f) (answer-message k n f)
      go (is-destroyed k n j f) = answer-notice k rep (shows-destroyed j f)
      go (is-released k n j f) = answer-notice k rep (shows-released j f)

  pub receive-outcome : (received b.peers b.nodes b.handles (queues_in b) p out).outcome
      ≡ outcome_of (shows (state_of b) p ((state_of b).queue p)).answer (shows (state_of b) p ((state_of b).queue p)).ids (shows (state_of b) p ((state_of b).queue p)).payload out
  receive-outcome = answers.0

  pub receive-out : (received b.peers b.nodes b.handles (queues_in b) p out).out
      ≡ answer_after (shows (state_of b) p ((state_of b).queue p)).answer (shows (state_of b) p ((state_of b).queue p)).ids (shows (state_of b) p ((state_of b).queue p)).payload out
  receive-out = answers.1

  pub shape-receive : Shape (after_receive b p out)
  shape-receive = go (kind front)
    where
      go : Kind front → Shape (after_receive b p out)
      go (is-message k n j f) = shape-message k n f
      go (is-destroyed k n j f) = shape-notice k
      go (is-released k n j f) = shape-notice k

  pub receive-listed : AllListed b.handles → AllListed (after_receive b p out).handles
  receive-listed a = go (kind front)
    where
      still : is_message entry ≡ false → AllListed (after_receive b p out).handles
      still k = rw (ap (λ (x : Bus). x.handles) (bus-notice k)) a

      go : Kind front → AllListed (after_receive b p out).handles
      go (is-message k n j f) = listed-message k n f a
      go (is-destroyed k n j f) = still k
      go (is-released k n j f) = still k
