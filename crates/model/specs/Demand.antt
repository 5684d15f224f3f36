-- The third demand, proved. Book and bus go alike (SimRun), so what the book has queued is what the bus has; the bus's charges are the sums over its queues
-- and within the share theorem (Charged), whatever the run.
-- Assumes nothing.
use Rattle.std.specs.Prelude.{Bool, true, false, ℕ, ◌≡◌, refl, List, [], ◌∷◌, length, get_or, eqb, ltb, Ok, Err}
use Rattle.model.specs.Lists.{either}
use Rattle.std.proofs.Common.{sym, ap, ◌∙◌, arith, eqb-true, eq-eqb}
use Rattle.std.proofs.Math.Logic.◌⊎◌.{inl, inr}
use Rattle.ids.specs.Refusals.{EDQUOT, refusal_number}
use Rattle.laws.specs.Tests.{Seen, Seen.is_true, Seen.is_false, look, pick_all, clash}
use Rattle.laws.specs.Weights.{load}
use Rattle.laws.specs.Build.{build}
use Rattle.ids.specs.declared.Peer.{Peer}
use Rattle.frames.specs.declared.Sizes.{Sizes}
use Rattle.frames.specs.declared.Command.{Command}
use Rattle.frames.specs.declared.Command.TheVariants.{Open, Disconnect, Create, Destroy, Release, Transfer, Send, Receive, Quota, Holders, ShowSeed}
use Rattle.frames.specs.Frame.{opcode, parse, payload_of, Parsed}
use Rattle.frames.specs.Legal.{Legal, Outcome}
use Rattle.frames.proofs.Legal.{legal}
use Rattle.frames.specs.Fields.{Fields}
use Rattle.frames.proofs.Fields.{fields-command}
use Rattle.answers.specs.Answer.{answer_size, number_of, outcome_of}
use Rattle.model.specs.Resources.{Resource}
use Rattle.model.specs.Requests.{destinations, attached}
use Rattle.model.specs.State.{messages_in, State}
use Rattle.model.specs.Refusals.{refuses_send, refusal}
use Rattle.model.specs.Step.{Call, carry_out, finish, step}
use Rattle.model.specs.StepLaws.{reply-number}
use Rattle.model.specs.Book.{Book, queued, nodes_of, weight, by, Node, learn, raise, put_handle, note_seed, note_send, incoming, note, is_seed, shown_ids}
use Rattle.model.specs.Charged.{queued_by}
use Rattle.model.specs.Sim.{Sim}
use Rattle.model.specs.SimQueues.{load_told}
use Rattle.model.specs.Numbers.{invalid}

-- What the book has queued is what stands in the bus's queue.
pub queued-is : {N : ℕ} (name : ℕ → ℕ) (b : State) (k : Book) → Sim N name b k → (q u : ℕ) (r : Resource) → queued k q u r ≡ queued_by r u (messages_in (b.queue q))
queued-is name b k s q u r =
    let e : load (by u) (weight r) (k.queue q) ≡ queued_by r u (messages_in (b.queue q)) = rw (s.queues q) (load_told name u r (messages_in (b.queue q))) in
    omega (arith, s.sums q u r)

-- A send that comes back with 122 was refused by the cascade of a send.
pub record RefusedSend (b : State) (f : List ℕ) : Type 0 where
  pub peer : Peer
  pub sizes : Sizes
  pub read : parse f ≡ Ok (Send peer sizes)
  pub lawful : Legal f (Send peer sizes)
  pub refused : refuses_send b peer.0 (destinations f sizes) (attached f sizes) (length (payload_of f)) ≡ EDQUOT

only-send : (b : State) (f : List ℕ) (c : Command) → opcode f ≡ 7 → parse f ≡ Ok c → Legal f c → Fields f c → refusal b f c ≡ EDQUOT → RefusedSend b f
unfolding refusal
only-send b f (Open p u) o e l x r = absurd (omega (arith, x.0.command))
only-send b f (Disconnect p) o e l x r = absurd (omega (arith, x.command))
only-send b f (Create p i) o e l x r = absurd (omega (arith, x.0.command))
only-send b f (Destroy p i) o e l x r = absurd (omega (arith, x.0.command))
only-send b f (Release p i) o e l x r = absurd (omega (arith, x.0.command))
only-send b f (Transfer p i q) o e l x r = absurd (omega (arith, x.0.command))
only-send b f (Send p z) o e l x r = record { peer = p; sizes = z; read = e; lawful = l; refused = r }
only-send b f (Receive p room) o e l x r = absurd (omega (arith, x.command))
only-send b f (Quota p u) o e l x r = absurd (omega (arith, x.0.command))
only-send b f (Holders p i) o e l x r = absurd (omega (arith, x.0.command))
only-send b f (ShowSeed p room) o e l x r = absurd (omega (arith, x.command))

pub refused-send : (b : State) (c : Call) → opcode c.frame ≡ 7 → (step b c).outcome.number ≡ EDQUOT → RefusedSend b c.frame
unfolding step finish outcome_of carry_out
refused-send b c o e = go (look (ltb (length c.buffer) answer_size)) (parse c.frame) refl (legal c.frame)
  where
    on : (d : Command) → parse c.frame ≡ Ok d → Legal c.frame d → number_of (carry_out b c.frame d (refusal b c.frame d)).reply.answer ≡ EDQUOT →
        Seen (eqb (refusal b c.frame d) 0) → RefusedSend b c.frame
    on d p l n (is_true z) = absurd (omega (arith, rw z at n, reply-number b c.frame d))
    on d p l n (is_false z) = only-send b c.frame d o p l (fields-command c.frame d p) (rw z at n)

    go : Seen (ltb (length c.buffer) answer_size) → (x : Parsed) → parse c.frame ≡ x → Outcome c.frame x → RefusedSend b c.frame
    go (is_true s) x p l = absurd (omega (arith, rw s at e))
    go (is_false s) (Err r) p (inl h) = absurd (omega (arith, ap refusal_number h, rw (s, p) at e))
    go (is_false s) (Err r) p (inr (inl h)) = absurd (omega (arith, ap refusal_number h, rw (s, p) at e))
    go (is_false s) (Err r) p (inr (inr h)) = absurd (omega (arith, ap refusal_number h, rw (s, p) at e))
    go (is_false s) (Ok d) p l = on d p l (rw (s, p) at e) (look (eqb (refusal b c.frame d) 0))

-- A seed that is set, and one that is shown, change no total.
learn-sums : (k : Book) (p : ℕ) (is : List ℕ) (ns : List Node) → ((learn k p is ns).sent ≡ k.sent) × ((learn k p is ns).received ≡ k.received) × ((learn k p is ns).dropped ≡ k.dropped)
unfolding put_handle
learn-sums k p [] ns = (refl, refl, refl)
learn-sums k p (i ∷ is) [] = (refl, refl, refl)
learn-sums k p (i ∷ is) (n ∷ ns) =
    pick_all (λ (y : Book). ((learn y p is ns).sent ≡ k.sent) × ((learn y p is ns).received ≡ k.received) × ((learn y p is ns).dropped ≡ k.dropped)) (eqb i invalid) k (raise k p i n)
    (learn-sums k p is ns) (learn-sums (raise k p i n) p is ns)

seed-sums : (k : Book) (p : ℕ) (is hs : List ℕ) (z : Sizes) (ns : List Node) → is ≡ [] → (q u : ℕ) (r : Resource) → queued (note_seed (note_send k p is hs z) p ns) q u r ≡ queued k q u r
unfolding note_seed note_send incoming
seed-sums k p is hs z ns e q u r = rw e (omega arith)

pub seeds-command : (k : Book) (f a : List ℕ) (c : Command) → Legal f c → Fields f c → either (is_seed f) (eqb (opcode f) 12) ≡ true → (q u : ℕ) (r : Resource) → queued (note k f a c) q u r ≡ queued k q u r
unfolding note
seeds-command k f a (Open p v) l x e q u r = clash (sym (rw x.0.command at e))
seeds-command k f a (Disconnect p) l x e q u r = clash (sym (rw x.command at e))
seeds-command k f a (Create p i) l x e q u r = clash (sym (rw x.0.command at e))
seeds-command k f a (Destroy p i) l x e q u r = clash (sym (rw x.0.command at e))
seeds-command k f a (Release p i) l x e q u r = clash (sym (rw x.0.command at e))
seeds-command k f a (Transfer p i t) l x e q u r = clash (sym (rw x.0.command at e))
seeds-command k f a (Send p z) l x e q u r =
    let y : eqb (get_or f 2 0) 0 ≡ true = either-falsed (eqb (get_or f 2 0) 0) (rw x.command at e) in
    let nd : z.nd ≡ 0 = l.1.destinations ∙ eqb-true (get_or f 2 0) 0 y in
    rw (eq-eqb z.nd 0 nd) (seed-sums k p.0 (destinations f z) (attached f z) z (nodes_of k p.0 (attached f z)) (none_of nd) q u r)
  where
    either-falsed : (t : Bool) → either t false ≡ true → t ≡ true
    either-falsed true h = refl
    either-falsed false h = clash (sym h)

    none_of : z.nd ≡ 0 → destinations f z ≡ []
    none_of h = unfold build in rw h
seeds-command k f a (Receive p room) l x e q u r = clash (sym (rw x.command at e))
seeds-command k f a (Quota p v) l x e q u r = refl
seeds-command k f a (Holders p i) l x e q u r = refl
seeds-command k f a (ShowSeed p room) l x e q u r =
    let s = learn-sums k p.0 (shown_ids a) (k.seed p.0) in
    rw (s.0, s.1, s.2)
