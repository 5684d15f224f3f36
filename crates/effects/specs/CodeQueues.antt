-- The laws that the proofs of send, disconnect and receive cite, one for each return or turn of a loop, over plain variables: each is shaped like what the callees ensure.
-- Assumes nothing.
use Rattle.std.specs.Prelude.{ℕ, suc, ◌+◌, ◌/◌, ◌%◌, min, ◌≤◌, ◌≡◌, refl, Bool, true, false, List, [], length, get_or, take}
use Rattle.std.proofs.Common.{ap, ◌∙◌, arith}
use borrow.Author.Tests.{eq-eqb, ne_eqb}
use Rattle.ids.specs.declared.HandleId.{HandleId}
use Rattle.ids.specs.declared.User.{User}
use Rattle.frames.specs.declared.Sizes.{Sizes}
use Rattle.quota.specs.declared.Charges.{Charges}
use Rattle.answers.specs.declared.Answer.TheVariants.{Received as is_received}
use Rattle.answers.specs.declared.Received.TheVariants.{Message, Destroyed, Released, Seed}
use Rattle.answers.specs.declared.Outcome.{Outcome}
use Rattle.answers.specs.Answer.{answer_after, outcome_of}
use Rattle.rings.specs.declared.Entry.{Entry}
use Rattle.rings.specs.Rings.{kind_destroyed, Rings, popped, first_of, cleared}
use Rattle.pool.specs.Pool.{piece_of}
use Rattle.tables.specs.Peers.{user_at, count_command, set_disconnected}
use Rattle.tables.specs.Handles.{clear_peer}
use Rattle.tables.specs.Charges.{charges_at}
use Rattle.queues.specs.Queues.{Queues, queues_of, used_of, is_message, enqueued, settled_charges, settled_pool, emptied_charges, follows_in, set_queued}
use Rattle.judges.specs.declared.Places.{Places}
use Rattle.notices.specs.declared.Asked.TheVariants.{Living}
use Rattle.notices.specs.Notices.{set_of, destroyed_of, destroyed_set, told_owners, expired_shown}
use Rattle.grants.specs.Grants.{gives_of, gives_to, id_or_invalid}
use Rattle.effects.specs.Effects.{counted_of, counted, message_to, sent_to, sends_of, sends, disconnects_of, disconnects, rings_after, message_answer, shown_ids, shown_bytes, received_of, received_message, notice_taken_of, notice_taken, notice_answer, received, replaced, seed_answer, shown_of, shows}
use Rattle.ids.specs.Sizes.{peers, slots, most_ids}
use Rattle.model.specs.Numbers.{nodes, invalid}
use Rattle.seeds.specs.Seeds.{bytes_at, slots_at, piece_at, stored}
use Rattle.seeds.specs.Seeds.{count_at as carried_at}

-- deliver: what the first k destinations made of the tables, whose lengths stay.
pub record Delivering (cs es xs ks vs ts : List ℕ) (u nh : ℕ) (w : Places) (bytes : List ℕ) (n nd : ℕ) (cs' es' xs' ks' vs' ts' : List ℕ) (k : ℕ) : Type 0 where
  pub within : k ≤ nd
  pub charges : length cs' ≡ length cs
  pub ends : length es' ≡ length es
  pub entries : length xs' ≡ length xs
  pub carried : length ks' ≡ length ks
  pub numbers : length vs' ≡ length vs
  pub pool : length ts' ≡ length ts
  pub made : queues_of cs' es' xs' ks' vs' ts' ≡ sent_to (queues_of cs es xs ks vs ts) u nh w bytes n k

pub delivering-start : (cs es xs ks vs ts : List ℕ) (u nh : ℕ) (w : Places) (bytes : List ℕ) (n nd : ℕ) →
    Delivering cs es xs ks vs ts u nh w bytes n nd cs es xs ks vs ts 0
unfolding sent_to
delivering-start cs es xs ks vs ts u nh w bytes n nd =
    record { within = omega arith; charges = refl; ends = refl; entries = refl; carried = refl; numbers = refl; pool = refl; made = refl }

pub sent-next : (q : Queues) (u nh : ℕ) (w : Places) (bytes : List ℕ) (n k : ℕ) {q₁ : Queues} → q₁ ≡ sent_to q u nh w bytes n k →
    {t : ℕ} → t ≡ get_or w.to k 0 → {e : Entry} → e ≡ message_to (t % nodes) u (length bytes) nh w.carried n →
    {q₂ : Queues} → q₂ ≡ enqueued q₁ (t % nodes / slots) e bytes → q₂ ≡ sent_to q u nh w bytes n (k + 1)
unfolding sent_to
sent-next q u nh w bytes n k e₁ et ee e₂ =
    let one : k + 1 ≡ suc k = omega arith in
    rw (one, e₂, ee, e₁, et)

pub sent-done : (q : Queues) (u nh : ℕ) (w : Places) (bytes : List ℕ) (n k m : ℕ) {x : Queues} → x ≡ sent_to q u nh w bytes n k → k ≤ m → m ≤ k → x ≡ sent_to q u nh w bytes n m
sent-done q u nh w bytes n k m e l g = let z : k ≡ m = omega arith in e ∙ ap (sent_to q u nh w bytes n) z

-- send
pub send-done : (ps : List ℕ) (q : Queues) (p : ℕ) (z : Sizes) (w : Places) (bytes : List ℕ) {n : ℕ} {ps' : List ℕ} → counted_of n ps' ≡ counted ps →
    {u : User} → u ≡ record { 0 = user_at ps' p } → {q' : Queues} → q' ≡ sent_to q u.0 z.nh w bytes n z.nd → sends_of ps' q' ≡ sends ps q p z w bytes
unfolding sends
send-done ps q p z w bytes en eu eq = rw (eq, eu, ← en)

-- replace_seed
module _ (t : List ℕ) (p : ℕ) (z : Sizes) (w : Places) (bytes : List ℕ) {t' : List ℕ} where
  pub replace-done : z.nd ≡ 0 → t' ≡ stored t p z.nh w.carried bytes → t' ≡ replaced t p z w bytes
  unfolding replaced
  replace-done e h = rw (eq-eqb z.nd 0 e) h

  pub replace-none : (z.nd ≡ 0 → ⊥) → t' ≡ t → t' ≡ replaced t p z w bytes
  unfolding replaced
  replace-none e h = rw (ne_eqb z.nd 0 e) h

-- disconnect
pub disconnect-done : (ps ns hs cs : List ℕ) (r : Rings) (p : ℕ) {n : ℕ} {ps₁ : List ℕ} → counted_of n ps₁ ≡ counted ps → {set : ℕ} → set ≡ set_of ns hs p Living →
    {ns' : List ℕ} {r₁ : Rings} → destroyed_of ns' r₁ ≡ destroyed_set ns hs cs r p set n → {cs' es' : List ℕ} → cs' ≡ emptied_charges cs p → es' ≡ cleared r₁.ends p →
    {r₂ : Rings} → r₂ ≡ told_owners ns' hs p n (rings_after r₁ es') peers → {hs' : List ℕ} → hs' ≡ clear_peer hs p → {ps' : List ℕ} → ps' ≡ set_disconnected ps₁ p →
    disconnects_of ps' ns' hs' cs' r₂ ≡ disconnects ps ns hs cs r p
unfolding disconnects
disconnect-done ps ns hs cs r p en es ed ec ee et eh ep = rw (ep, eh, et, ec, ee, ← en, ← es, ← ed)

-- write_message
pub write_done : (cs pool : List ℕ) (p : ℕ) (to : HandleId) (flag : Bool) (e : Entry) (ids out : List ℕ) {c : Charges} → c ≡ charges_at cs p → {all : ℕ} → all ≡ used_of c →
    {x : ℕ} → x ≡ e.nb → {nb : ℕ} → nb ≡ min x all → {y : ℕ} → y ≡ e.nh → {nh : ℕ} → nh ≡ min y most_ids → {v : ℕ} → v ≡ e.user →
    {is bs : List ℕ} → is ≡ take nh ids → bs ≡ piece_of pool p 0 nb → {o : Outcome} {out' : List ℕ} →
    (o ≡ outcome_of (is_received (Message (record { to = to; user = record { 0 = v }; flag = flag; nb = nb; nh = nh }))) is bs out)
    × (out' ≡ answer_after (is_received (Message (record { to = to; user = record { 0 = v }; flag = flag; nb = nb; nh = nh }))) is bs out) →
    (o ≡ outcome_of (message_answer cs p to flag e) (shown_ids e ids) (shown_bytes cs pool p e) out)
    × (out' ≡ answer_after (message_answer cs p to flag e) (shown_ids e ids) (shown_bytes cs pool p e) out)
unfolding message_answer shown_ids shown_bytes
write_done cs pool p to flag e ids out ec ea ex eb ey eh ev ei es z =
    (rw (← ec, ← ea, ← ex, ← eb, ← ey, ← eh, ← ev, ← ei, ← es) z.0, rw (← ec, ← ea, ← ex, ← eb, ← ey, ← eh, ← ev, ← ei, ← es) z.1)

-- receive_message
pub take-message : (ps ns hs : List ℕ) (q : Queues) (p : ℕ) (e : Entry) (out : List ℕ) {flag : Bool} → flag ≡ follows_in q.rings p e.number →
    {x : ℕ} → x ≡ e.slot → {to : HandleId} → to ≡ record { 0 = id_or_invalid hs p (x % nodes) } → {es : List ℕ} → es ≡ popped q.rings.ends p →
    {y : ℕ} → y ≡ e.nh → {nh : ℕ} → nh ≡ min y most_ids → {is ps' hs' : List ℕ} {r : Rings} → gives_of is ps' hs' r ≡ gives_to ns ps hs (rings_after q.rings es) p e.number e.carried nh →
    {o : Outcome} {out' : List ℕ} →
    (o ≡ outcome_of (message_answer q.charges p to flag e) (shown_ids e is) (shown_bytes q.charges q.pool p e) out)
    × (out' ≡ answer_after (message_answer q.charges p to flag e) (shown_ids e is) (shown_bytes q.charges q.pool p e) out) →
    {cs ts : List ℕ} → (cs ≡ settled_charges q.charges p e) × (ts ≡ settled_pool q.charges q.pool p e) →
    {r' : Rings} → r' ≡ expired_shown ns hs' cs p e.carried is r nh → received_of o out' ps' hs' (record { charges = cs; rings = r'; pool = ts }) ≡ received_message ps ns hs q p e out
unfolding received_message
take-message ps ns hs q p e out ef ex et ep ey eh eg z s er = rw (z.0, z.1, er, s.0, s.1, ← ef, ← ex, ← et, ← ep, ← ey, ← eh, ← eg)

-- receive_notice
module _ (hs ends : List ℕ) (p : ℕ) (e : Entry) (out : List ℕ) {x : ℕ} (ex : x ≡ e.slot) {id : HandleId} (ei : id ≡ record { 0 = id_or_invalid hs p (x % nodes) })
    {es : List ℕ} (ep : es ≡ popped ends p) {o : Outcome} {out' : List ℕ} where
  pub notice-destroyed : e.kind ≡ kind_destroyed →
      (o ≡ outcome_of (is_received (Destroyed id)) [] [] out) × (out' ≡ answer_after (is_received (Destroyed id)) [] [] out) → notice_taken_of o out' es ≡ notice_taken hs ends p e out
  unfolding notice_taken notice_answer
  notice-destroyed k z = rw (z.0, z.1, ep, ei, ex, eq-eqb e.kind kind_destroyed k)

  pub notice-released : (e.kind ≡ kind_destroyed → ⊥) →
      (o ≡ outcome_of (is_received (Released id)) [] [] out) × (out' ≡ answer_after (is_received (Released id)) [] [] out) → notice_taken_of o out' es ≡ notice_taken hs ends p e out
  unfolding notice_taken notice_answer
  notice-released k z = rw (z.0, z.1, ep, ei, ex, ne_eqb e.kind kind_destroyed k)

-- receive
module _ (ps ns hs : List ℕ) (q : Queues) (p : ℕ) (out : List ℕ) {ps₁ : List ℕ} (en : ps₁ ≡ count_command ps) {e : Entry} (ee : e ≡ first_of q.rings p) {b : Bool}
    (eb : b ≡ is_message e) {o : Outcome} {out' : List ℕ} where
  pub receive-notice : b ≡ false → {es : List ℕ} → notice_taken_of o out' es ≡ notice_taken hs q.rings.ends p e out →
      received_of o out' ps₁ hs (set_queued q (rings_after q.rings es)) ≡ received ps ns hs q p out
  unfolding received
  receive-notice f x = rw (← ee, ← eb, f, ← x, en)

  pub receive-message : b ≡ true → {ps₂ hs' : List ℕ} {q' : Queues} → received_of o out' ps₂ hs' q' ≡ received_message ps₁ ns hs q p e out →
      received_of o out' ps₂ hs' q' ≡ received ps ns hs q p out
  unfolding received
  receive-message t x = rw (← ee, ← eb, t, ← en) x

-- write_seed
pub write-seed-done : (sd : List ℕ) (p u nh : ℕ) (ids out : List ℕ) {nb : ℕ} → nb ≡ bytes_at sd p → {is bs : List ℕ} → is ≡ take nh ids → bs ≡ piece_at sd p nb →
    {o : Outcome} {out' : List ℕ} →
    (o ≡ outcome_of (is_received (Seed (record { to = record { 0 = invalid }; user = record { 0 = u }; flag = false; nb = nb; nh = nh }))) is bs out)
    × (out' ≡ answer_after (is_received (Seed (record { to = record { 0 = invalid }; user = record { 0 = u }; flag = false; nb = nb; nh = nh }))) is bs out) →
    (o ≡ outcome_of (seed_answer u (bytes_at sd p) nh) (take nh ids) (piece_at sd p (bytes_at sd p)) out)
    × (out' ≡ answer_after (seed_answer u (bytes_at sd p) nh) (take nh ids) (piece_at sd p (bytes_at sd p)) out)
unfolding seed_answer
write-seed-done sd p u nh ids out eb ei es z = (rw (← eb, ← ei, ← es) z.0, rw (← eb, ← ei, ← es) z.1)

-- show_seed
pub show-done : (ps ns hs : List ℕ) (r : Rings) (sd : List ℕ) (p : ℕ) (out : List ℕ) {n : ℕ} {ps₁ : List ℕ} → counted_of n ps₁ ≡ counted ps → {u : User} → u ≡ record { 0 = user_at ps₁ p } →
    {ss : List ℕ} → ss ≡ slots_at sd p → {nh : ℕ} → nh ≡ carried_at sd p → {is ps' hs' : List ℕ} {r' : Rings} → gives_of is ps' hs' r' ≡ gives_to ns ps₁ hs r p n ss nh →
    {o : Outcome} {out' : List ℕ} →
    (o ≡ outcome_of (seed_answer u.0 (bytes_at sd p) nh) (take nh is) (piece_at sd p (bytes_at sd p)) out)
    × (out' ≡ answer_after (seed_answer u.0 (bytes_at sd p) nh) (take nh is) (piece_at sd p (bytes_at sd p)) out) →
    shown_of o out' ps' hs' r' ≡ shows ps ns hs r sd p out
unfolding shows
show-done ps ns hs r sd p out ep eu es en eg z = rw (z.0, z.1, eu, ← ep, ← es, ← en, ← eg)
