-- The theorems that go with specs/ProgressProof.antt and stand on others: each goes by the definitions and the theorems there.
-- Assumes nothing.
use Rattle.std.specs.Prelude.{ℕ, ◌+◌, ◌-◌, ◌≤◌, ◌<◌, ◌≡◌, refl, ◌⊎◌, List, [], ◌∷◌, ◌++◌, length, get_or, eqb, ltb}
use Rattle.std.proofs.Common.{sym, ap, ◌∙◌, append_assoc, arith, length-append, get_or-append-add, eqb-true, eq-eqb, ne_eqb, ltb-true, ltb-false}
use Rattle.std.proofs.Math.Logic.◌⊎◌.{inl, inr}
use Rattle.std.proofs.Math.ListN.{get_or-append}
use Rattle.laws.specs.Tests.{pick, Seen, Seen.is_true, Seen.is_false, look}
use Rattle.frames.specs.declared.Command.{Command}
use Rattle.frames.specs.declared.Command.TheVariants.{Open, Disconnect, Create, Destroy, Release, Transfer, Send, Receive, Quota, Holders, ShowSeed}
use Rattle.model.specs.Lists.{both}
use Rattle.model.specs.State.{Entry, State}
use Rattle.model.specs.Refusals.{refusal}
use Rattle.model.specs.Effects.{effect}
use Rattle.model.specs.Step.{Call, step, run_from, run}
use Rattle.model.proofs.Tested.{tested}
use Rattle.model.specs.Accepted.{Came, Came.left, Came.done}
use Rattle.model.proofs.Accepted.{came}
use Rattle.model.specs.Unchanged.{Count, Count.one_more, Count.nothing, effect-count}
use Rattle.model.specs.Queues.{Later, front, taken_by, Moved}
use Rattle.model.specs.QueuesLaws.{later_refl, later_trans, later-front, later-imp}
use Rattle.model.proofs.QueuesProof.{moved}
use Rattle.model.specs.Coded.{code, actor, coded}
use Rattle.model.specs.Progress.{is_receive, receives_of, taken_out, Lost, Newer, Followed, OneEach, Became, Became.came-out, Became.lost, Became.waits, Progress, InTime}
use Rattle.model.specs.ProgressProof.{taken, taken_refused, taken-accepted, front-one, Placed, Placed.away, Placed.found, placed}

pub call-moved : (b : State) (p : ℕ) (c : Call) → Moved b (step b c).state p (taken b p c)
call-moved b p c = go (came b c)
  where
    go : Came b c → Moved b (step b c).state p (taken b p c)
    go (left e n) = rw (taken_refused b p c n, e) (later_refl (b.queue p))
    go (done k a) = rw (taken-accepted b p c k a, a.after) (moved b c.frame k a.legal a.unrefused p)

pub call-accepted : (b : State) (c : Call) → b.accepted ≤ (step b c).state.accepted
call-accepted b c = go (came b c)
  where
    counted : (a : State) → Count b a → b.accepted ≤ a.accepted
    counted a (one_more z) = omega arith
    counted a (nothing z) = rw z (omega arith)

    go : Came b c → b.accepted ≤ (step b c).state.accepted
    go (left e n) = rw e (omega arith)
    go (done k a) = rw a.after (counted (effect b c.frame k) (effect-count b c.frame k))

pub follows : (cs : List Call) (b : State) (p : ℕ) → Later (Lost b cs p) (Newer b) (b.queue p) (taken_out b p cs ++ (run_from b cs).queue p)
unfolding taken_out run_from
follows [] b p = later_refl (b.queue p)
follows (c ∷ cs) b p =
    let x = (step b c).state in
    let le : b.accepted ≤ x.accepted = call-accepted b c in
    rw append_assoc
    (later_trans
    (later-imp (λ e g. inl g) (λ e n. omega arith) (call-moved b p c))
    (later-front (taken b p c) (later-imp (λ e g. inr g) (λ e n. omega arith) (follows cs x p))))

pub followed : Followed
followed before cs p = follows cs (run before) p

one-taken : (b : State) (p : ℕ) (f : List ℕ) (k : Command) → refusal b f k ≡ 0 → length (taken_by b p k) ≡ pick (both (eqb (code k) 8) (eqb (actor k) p)) 1 0
one-taken b p f (Open q u) e = refl
one-taken b p f (Disconnect q) e = refl
one-taken b p f (Create q i) e = refl
one-taken b p f (Destroy q i) e = refl
one-taken b p f (Release q i) e = refl
one-taken b p f (Transfer q i t) e = refl
one-taken b p f (Send q z) e = refl
one-taken b p f (Receive q room) e = go (look (eqb q.0 p))
  where
    go : Seen (eqb q.0 p) → length (pick (eqb q.0 p) (front (b.queue p)) []) ≡ pick (eqb q.0 p) 1 0
    go (is_false z) = rw z refl
    go (is_true z) = rw z (front-one room (b.queue p) (rw (eqb-true q.0 p z) at (tested b f (Receive q room) e).next))
one-taken b p f (Quota q u) e = refl
one-taken b p f (Holders q i) e = refl
one-taken b p f (ShowSeed q room) e = refl

pub call-one : (b : State) (p : ℕ) (c : Call) → length (taken b p c) ≡ pick (is_receive p c (step b c)) 1 0
call-one b p c = go (came b c)
  where
    go : Came b c → length (taken b p c) ≡ pick (is_receive p c (step b c)) 1 0
    go (left e n) = rw (ne_eqb (step b c).outcome.number 0 n) refl
    go (done k a) =
        let h = coded c.frame k a.read in
        ap length (taken-accepted b p c k a) ∙ one-taken b p c.frame k a.unrefused
        ∙ sym (rw (eq-eqb (step b c).outcome.number 0 a.number, h.byte, h.peer) refl)

ones : (cs : List Call) (b : State) (p : ℕ) → length (taken_out b p cs) ≡ receives_of b p cs
unfolding taken_out receives_of
ones [] b p = refl
ones (c ∷ cs) b p = rw length-append (omega (arith, call-one b p c, ones cs (step b c).state p))

pub one_each : OneEach
one_each before cs p = ones cs (run before) p

pub progress : Progress
progress before cs p k e l h = go (placed (followed before cs p) k e l h)
  where
    out : List Entry
    out = taken_out (run before) p cs

    rest : List Entry
    rest = (run_from (run before) cs).queue p

    go : Placed (Lost (run before) cs p) k e (out ++ rest) → Became (run before) cs p k e
    go (away g) = lost g
    go (found j le lt f) = on (look (ltb j (length out)))
      where
        n : length out ≡ receives_of (run before) p cs
        n = one_each before cs p

        on : Seen (ltb j (length out)) → Became (run before) cs p k e
        on (is_true z) =
            let m : j < length out = ltb-true j (length out) z in
            came-out j le m (sym (get_or-append out rest e j m) ∙ f)
        on (is_false z) =
            let m : length out ≤ j = ltb-false j (length out) z in
            let i : length out + (j - length out) ≡ j = omega arith in
            waits (j - length out) (omega (arith, n)) (omega (arith, length-append out rest))
            (sym (get_or-append-add out rest (j - length out) e) ∙ ap (λ (x : ℕ). get_or (out ++ rest) x e) i ∙ f)

pub in-time : InTime
in-time before cs p k e l h enough = go (progress before cs p k e l h)
  where
    go : Became (run before) cs p k e → ((i : ℕ) × (i ≤ k) × (i < length (taken_out (run before) p cs)) × (get_or (taken_out (run before) p cs) i e ≡ e)) ⊎ Lost (run before) cs p e
    go (came-out i le lt f) = inl (i, le, lt, f)
    go (lost g) = inr g
    go (waits j le lt f) = absurd (omega arith)
