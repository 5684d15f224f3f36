-- What document 01 demands, said of exchanges and buses: no command of a run is answered 5; the third demand; IDs are never given twice, and two handles of a peer have two;
-- a refusal leaves the buffers alone.
-- Assumes nothing.
use Rattle.std.specs.Prelude.{ℕ, ◌+◌, ◌*◌, ◌≤◌, ◌<◌, ◌≡◌, refl, true, false, List, [], ◌∷◌, ◌++◌, map, length, take, drop, eqb, ltb, leb, Ok, Err}
use Rattle.std.proofs.Common.{sym, ap, ap₂, ◌∙◌, arith, ltb-true, ltb-false}
use Rattle.std.proofs.Math.Logic.◌⊎◌.{inl, inr}
use Rattle.ids.specs.Refusals.{EINVAL, EIO, EOVERFLOW, EEXIST, ENXIO, EPERM, EHOSTUNREACH, ENOSPC, EDQUOT, ERANGE, refusal_number}
use Rattle.laws.specs.Tests.{pick_all, Seen, Seen.is_true, Seen.is_false, look}
use Rattle.laws.specs.Weights.{All}
use Rattle.frames.specs.declared.Command.{Command}
use Rattle.frames.specs.declared.Command.TheVariants.{Open, Disconnect, Create, Destroy, Release, Transfer, Send, Receive, Quota, Holders, ShowSeed}
use Rattle.frames.specs.Frame.{parse, payload_of, Parsed}
use Rattle.frames.specs.Legal.{Outcome as Read-as}
use Rattle.frames.proofs.Legal.{legal}
use Rattle.answers.specs.declared.Answer.{Answer}
use Rattle.answers.specs.Answer.{answer_size, number_of, contents_of, answer_bytes, answer_after, outcome_of}
use Rattle.rings.specs.Rings.{Rings, first_of}
use Rattle.model.specs.Numbers.{slots, nodes, owner, most_commands}
use Rattle.model.specs.Lists.{every}
use Rattle.model.specs.State.{Seed, Seed.unset, Seed.kept, State, Status, Status.unopened, Status.opened, Status.disconnected, is_live, Entry, Entry.message, Entry.destroyed, Entry.released, slot, free_place}
use Rattle.model.specs.Refusals.{countable, present, openable, holding, owning, pinned, living, fits, affordable, takeable, showable, refuses_seed, refuses_open, refuses_disconnect, refuses_create, refuses_destroy, refuses_release, refuses_transfer, refuses_send, refuses_receive, refuses_quota, refuses_holders, refusal, refusal_by}
use Rattle.model.specs.Requests.{destinations, attached}
use Rattle.model.specs.Step.{Call, carry_out, finish, step}
use Rattle.model.specs.StepLaws.{reply-number}
use Rattle.model.specs.Book.{empty, feed_all}
use Rattle.model.specs.Claim.{Claim, fed, history_from}
use Rattle.view.specs.View.{Bus}
use Rattle.queues.specs.Queues.{Queues, is_message}
use Rattle.judges.specs.declared.Order.{Order}
use Rattle.judges.specs.declared.Order.TheVariants as order
use Rattle.judges.specs.declared.Places.{Places}
use Rattle.judges.specs.Orders.{sight, ruling_of}
use Rattle.effects.specs.Effects.{message_answer, received_message, notice_answer, notice_taken, received, seed_answer, shows}
use Rattle.effects.specs.After.{queues_in}
use Rattle.bus_model.specs.Command.{sound_ok, Done, refused_by, carried, carried_out, obeyed, command_of}
use Rattle.bus_model.specs.Ran.{Exchange, fed_of, calls_of, exchange_of, Ran, As-model, AsModel}

-- In a run no command is answered 5.
abbrev pub NeverFive : Type 0
NeverFive = (xs : List Exchange) (b : Bus) → Ran xs b → All (λ x. x.outcome.number ≡ EIO → ⊥) xs

-- The third demand: of the book that was fed the exchanges of any run, and of what any next command gives.
abbrev pub CodeThirdDemand : Type 0
CodeThirdDemand = (xs : List Exchange) (b : Bus) → Ran xs b → (c : Call) → Claim (feed_all empty (map fed_of xs)) (fed_of (exchange_of b c))

-- A refused command, on the bus b: every buffer of the bus is as it was; so is the answer buffer where it is short, and else all of it but the first byte, which is the number.
pub record Leaves (b : Bus) (c : Call) : Type 0 where
  pub bus : (command_of b c.frame c.buffer).bus ≡ b
  pub short : length c.buffer < answer_size → ((exchange_of b c).outcome ≡ record { number = EINVAL; len = 0 }) × ((exchange_of b c).after ≡ c.buffer)
  pub byte : answer_size ≤ length c.buffer → ((exchange_of b c).outcome.len ≡ 1) × ((exchange_of b c).after ≡ (exchange_of b c).outcome.number ∷ drop 1 c.buffer)

-- Of a run or of any other contents.
abbrev pub CodeRefusals : Type 0
CodeRefusals = (b : Bus) (c : Call) → ((exchange_of b c).outcome.number ≡ 0 → ⊥) → Leaves b c

-- Never 5: each row of the table, each cascade, each frame.
abbrev pub NotFive : ℕ → Type 0
NotFive n = n ≡ 5 → ⊥

not-countable : (b : State) (r : ℕ) → NotFive r → NotFive (countable b r)
not-countable b r h = pick_all NotFive (ltb b.accepted most_commands) r EOVERFLOW h (λ z. omega arith)

not-present : (s : Status) (r : ℕ) → NotFive r → NotFive (present s r)
not-present unopened r h z = omega arith
not-present opened r h z = h z
not-present disconnected r h z = omega arith

not-openable : (s : Status) → NotFive (openable s)
not-openable unopened z = omega arith
not-openable opened z = omega arith
not-openable disconnected z = omega arith

not-holding : (find : ℕ → ℕ) (is : List ℕ) (r : ℕ) → NotFive r → NotFive (holding find is r)
not-holding find is r h = pick_all NotFive (every (λ i. ltb (find i) nodes) is) r ENXIO h (λ z. omega arith)

not-owning : (p s r : ℕ) → NotFive r → NotFive (owning p s r)
not-owning p s r h = pick_all NotFive (eqb (owner s) p) r EPERM h (λ z. omega arith)

not-living : (b : State) (ss : List ℕ) → NotFive (living b ss 0)
not-living b ss = pick_all NotFive (every (λ s. is_live (b.life s)) ss) 0 EHOSTUNREACH (λ z. omega arith) (λ z. omega arith)

not-affordable : (b : State) (u : ℕ) (ds : List ℕ) (nb nh : ℕ) → NotFive (affordable b u ds nb nh 0)
not-affordable b u ds nb nh = pick_all NotFive (fits b u ds nb nh) 0 EDQUOT (λ z. omega arith) (λ z. omega arith)

not-takeable : (room : ℕ) (q : List Entry) → NotFive (takeable room q)
not-takeable room [] = λ z. omega arith
not-takeable room (message n m ∷ q) = pick_all NotFive (leb (length m.payload + 8 * length m.carried) room) 0 ERANGE (λ z. omega arith) (λ z. omega arith)
not-takeable room (destroyed n s ∷ q) = λ z. omega arith
not-takeable room (released n s ∷ q) = λ z. omega arith

not-showable : (room : ℕ) (x : Seed) → NotFive (showable room x)
not-showable room unset = λ z. omega arith
not-showable room (kept payload carried) = pick_all NotFive (leb (length payload + 8 * length carried) room) 0 ERANGE (λ z. omega arith) (λ z. omega arith)

-- Whatever search gives the slots of IDs and the free places.
pub refusal-not-five : (find : ℕ → ℕ → ℕ) (free : ℕ → ℕ) (b : State) (f : List ℕ) (k : Command) → NotFive (refusal_by find free b f k)
unfolding refusal_by refuses_open refuses_disconnect refuses_receive refuses_seed refuses_quota
refusal-not-five find free b f (Open p u) = not-countable b _ (not-openable (b.status p.0))
refusal-not-five find free b f (Disconnect p) = not-countable b _ (not-present (b.status p.0) _ (λ z. omega arith))
refusal-not-five find free b f (Create p i) =
    not-countable b _ (not-present (b.status p.0) _
    (pick_all NotFive (ltb (find p.0 i.0) nodes) EEXIST _ (λ z. omega arith)
    (pick_all NotFive (ltb (free p.0) slots) 0 ENOSPC (λ z. omega arith) (λ z. omega arith))))
refusal-not-five find free b f (Destroy p i) =
    let s = find p.0 i.0 in
    not-countable b _ (not-present (b.status p.0) _ (not-holding (find p.0) (i.0 ∷ []) _ (not-owning p.0 s _ (not-living b (s ∷ [])))))
refusal-not-five find free b f (Release p i) =
    not-countable b _ (not-present (b.status p.0) _ (not-holding (find p.0) (i.0 ∷ []) _
    (pick_all NotFive (pinned b p.0 (find p.0 i.0)) EPERM 0 (λ z. omega arith) (λ z. omega arith))))
refusal-not-five find free b f (Transfer p i q) =
    not-countable b _ (not-present (b.status p.0) _ (not-present (b.status q.0) _
    (not-holding (find p.0) (i.0 ∷ []) _ (not-living b (find p.0 i.0 ∷ [])))))
refusal-not-five find free b f (Send p z) =
    let is = destinations f z in
    let hs = attached f z in
    not-countable b _ (not-present (b.status p.0) _ (not-holding (find p.0) (is ++ hs) _
    (pick_all NotFive (every (λ s. is_live (b.life s)) (map (find p.0) is)) _ EHOSTUNREACH
    (not-affordable b (b.user p.0) (map (find p.0) is) (length (payload_of f)) (length hs)) (λ z. omega arith))))
refusal-not-five find free b f (Receive p room) = not-countable b _ (not-present (b.status p.0) _ (not-takeable room (b.queue p.0)))
refusal-not-five find free b f (ShowSeed p room) = not-countable b _ (not-present (b.status p.0) _ (not-showable room (b.seed p.0)))
refusal-not-five find free b f (Quota p u) = not-present (b.status p.0) _ (λ z. omega arith)
refusal-not-five find free b f (Holders p i) =
    not-present (b.status p.0) _ (not-holding (find p.0) (i.0 ∷ []) _ (not-owning p.0 (find p.0 i.0) _ (λ z. omega arith)))

-- The model's refusal is the one by the model's own search.
refusal-by : (b : State) (f : List ℕ) (k : Command) → refusal b f k ≡ refusal_by (slot b) (free_place b) b f k
unfolding refusal refusal_by refuses_create refuses_destroy refuses_release refuses_transfer refuses_send refuses_holders
refusal-by b f (Open p u) = refl
refusal-by b f (Disconnect p) = refl
refusal-by b f (Create p i) = refl
refusal-by b f (Destroy p i) = refl
refusal-by b f (Release p i) = refl
refusal-by b f (Transfer p i q) = refl
refusal-by b f (Send p z) = refl
refusal-by b f (Receive p room) = refl
refusal-by b f (ShowSeed p room) = refl
refusal-by b f (Quota p u) = refl
refusal-by b f (Holders p i) = refl

pub step-not-five : (b : State) (c : Call) → NotFive (step b c).outcome.number
unfolding step finish outcome_of carry_out
step-not-five b c e = go (look (ltb (length c.buffer) answer_size)) (parse c.frame) refl (legal c.frame)
  where
    on : (k : Command) → number_of (carry_out b c.frame k (refusal b c.frame k)).reply.answer ≡ 5 → Seen (eqb (refusal b c.frame k) 0) → ⊥
    on k n (is_true z) = omega (arith, rw z at n, reply-number b c.frame k)
    on k n (is_false z) = refusal-not-five (slot b) (free_place b) b c.frame k (sym (refusal-by b c.frame k) ∙ rw z at n)

    go : Seen (ltb (length c.buffer) answer_size) → (x : Parsed) → parse c.frame ≡ x → Read-as c.frame x → ⊥
    go (is_true s) x p l = omega (arith, rw s at e)
    go (is_false s) (Err r) p (inl h) = omega (arith, ap refusal_number h, rw (s, p) at e)
    go (is_false s) (Err r) p (inr (inl h)) = omega (arith, ap refusal_number h, rw (s, p) at e)
    go (is_false s) (Err r) p (inr (inr h)) = omega (arith, ap refusal_number h, rw (s, p) at e)
    go (is_false s) (Ok k) p l = on k (rw (s, p) at e) (look (eqb (refusal b c.frame k) 0))

-- The exchanges of a run feed the book what the model's calls feed it.
pub fed-as : (st : State) (x : Exchange) → As-model st x → fed_of x ≡ fed x.call (step st x.call)
fed-as st x h = λ i. record { frame = x.call.frame; number = (h.outcome i).number; answer = take (h.outcome i).len (h.buffer i) }

pub fed-all : (st : State) (xs : List Exchange) → AsModel st xs → map fed_of xs ≡ history_from st (calls_of xs)
unfolding history_from
fed-all st [] h = refl
fed-all st (x ∷ xs) h = ap₂ ◌∷◌ (fed-as st x h.0) (fed-all (step st x.call).state xs h.1)

-- An order that is carried out is answered 0. So where the number is another, only a refusal was written: what that leaves, with a long answer buffer.
record Left (b : Bus) (out : List ℕ) (d : Done) : Type 0 where
  bus : d.bus ≡ b
  len : d.outcome.len ≡ 1
  after : d.out ≡ d.outcome.number ∷ drop 1 out

left-refused : (n : ℕ) (b : Bus) (out : List ℕ) → ltb (length out) answer_size ≡ false → Left b out (refused_by n b out)
unfolding outcome_of answer_after answer_bytes contents_of
left-refused n b out e = record { bus = refl; len = rw e; after = rw e }

pub zero_number : (a : Answer) (is bs out : List ℕ) → ltb (length out) answer_size ≡ false → number_of a ≡ 0 → (outcome_of a is bs out).number ≡ 0
unfolding outcome_of
zero_number a is bs out e z = rw e z

pub received-number : (ps ns hs : List ℕ) (q : Queues) (p : ℕ) (out : List ℕ) → ltb (length out) answer_size ≡ false → (received ps ns hs q p out).outcome.number ≡ 0
unfolding received received_message notice_taken message_answer notice_answer
received-number ps ns hs q p out e = go (look (is_message (first_of q.rings p)))
  where
    go : Seen (is_message (first_of q.rings p)) → (received ps ns hs q p out).outcome.number ≡ 0
    go (is_true z) = rw z (zero_number _ _ _ out e refl)
    go (is_false z) = rw z (zero_number _ _ _ out e refl)

pub shown-number : (ps ns hs : List ℕ) (r : Rings) (sd : List ℕ) (p : ℕ) (out : List ℕ) → ltb (length out) answer_size ≡ false → (shows ps ns hs r sd p out).outcome.number ≡ 0
unfolding shows seed_answer
shown-number ps ns hs r sd p out e = zero_number _ _ _ out e refl

left-carried : (b : Bus) (f out : List ℕ) (o : Order) (w : Places) → ltb (length out) answer_size ≡ false → ((carried b f out o w).outcome.number ≡ 0 → ⊥) → Left b out (carried b f out o w)
left-carried b f out (order.Refuse n) w e h = left-refused n b out e
left-carried b f out (order.Open p u) w e h = absurd (h (zero_number _ [] [] out e refl))
left-carried b f out (order.Disconnect p) w e h = absurd (h (zero_number _ [] [] out e refl))
left-carried b f out (order.Create p i s) w e h = absurd (h (zero_number _ [] [] out e refl))
left-carried b f out (order.Destroy p s) w e h = absurd (h (zero_number _ [] [] out e refl))
left-carried b f out (order.Release p s) w e h = absurd (h (zero_number _ [] [] out e refl))
left-carried b f out (order.Transfer q s) w e h = absurd (h (zero_number _ [] [] out e refl))
left-carried b f out (order.Send p z) w e h = absurd (h (zero_number _ [] [] out e refl))
left-carried b f out (order.Receive p) w e h = absurd (h (received-number b.peers b.nodes b.handles (queues_in b) p.0 out e))
left-carried b f out (order.ShowSeed p) w e h = absurd (h (shown-number b.peers b.nodes b.handles b.rings b.seeds p.0 out e))
left-carried b f out (order.Quota p u) w e h = absurd (h (zero_number _ [] [] out e refl))
left-carried b f out (order.Holders s) w e h = absurd (h (zero_number _ [] [] out e refl))

left-obeyed : (b : Bus) (f out : List ℕ) (x : Parsed) → ltb (length out) answer_size ≡ false → ((obeyed b f out x).outcome.number ≡ 0 → ⊥) → Left b out (obeyed b f out x)
unfolding carried_out
left-obeyed b f out (Err r) e h = left-refused (refusal_number r) b out e
left-obeyed b f out (Ok k) e h =
    let r = ruling_of (sight b.peers b.nodes b.handles b.charges b.rings b.seeds) f k in
    left-carried b f out r.order r.places e h

left-long : (b : Bus) (f out : List ℕ) → ltb (length out) answer_size ≡ false → ((command_of b f out).outcome.number ≡ 0 → ⊥) → Left b out (command_of b f out)
unfolding command_of
left-long b f out e h = go (look (sound_ok b))
  where
    go : Seen (sound_ok b) → Left b out (command_of b f out)
    go (is_true s) = rw (e, s) (left-obeyed b f out (parse f) e (rw (e, s) at h))
    go (is_false s) = rw (e, s) (left-refused EIO b out e)

command-short : (b : Bus) (f out : List ℕ) → ltb (length out) answer_size ≡ true → command_of b f out ≡ record { outcome = record { number = EINVAL; len = 0 }; bus = b; out = out }
unfolding command_of
command-short b f out e = rw e

pub code-refusals : CodeRefusals
code-refusals b c h = go (look (ltb (length c.buffer) answer_size))
  where
    go : Seen (ltb (length c.buffer) answer_size) → Leaves b c
    go (is_true e) =
        let z = command-short b c.frame c.buffer e in
        record {
          bus = ap (λ (d : Done). d.bus) z;
          short = λ l. (ap (λ (d : Done). d.outcome) z, ap (λ (d : Done). d.out) z);
          byte = λ l. absurd (omega (arith, ltb-true (length c.buffer) answer_size e));
        }
    go (is_false e) =
        let x = left-long b c.frame c.buffer e h in
        record { bus = x.bus; short = λ l. absurd (omega (arith, ltb-false (length c.buffer) answer_size e)); byte = λ l. (x.len, x.after) }
