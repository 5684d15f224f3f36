-- Runs of calls of the code with a journal: of each call nothing is known but what the function's own contract ensures, and the buffers, the journal and its used length go from
-- call to call. Such a run is a run of the definitions (Journalled), so what holds of those holds of the calls.
-- Assumes nothing.
use Prim.Native.Nat.{ℕ, ◌+◌, ◌*◌, ◌≤◌, ◌<◌}
use mathlib.Core.Path.{◌≡◌, refl, sym, ap, ap₂, subst, ◌∙◌}
use mathlib.Core.Bool.{Bool, true, false}
use mathlib.Core.Logic.{◌⊎◌}
use mathlib.Core.Logic.◌⊎◌.{inl, inr}
use mathlib.Core.List.{List, [], ◌∷◌, ◌++◌, map, append_assoc, append-nil}
use lib.ListN.{length, take}
use denote.Bor.{Bor}
use denote.Ref.{MutBor}
use contract.Lifetimes
use borrow.Fn.World
use borrow.Fn.Kinds as Kinds'
use denote.Triple.Clauses
use Rattle.laws.specs.Tests.{pick, clash}
use Rattle.laws.specs.Weights.{All}
use Rattle.ids.specs.Refusals.{EIO, EFBIG}
use Rattle.frames.specs.Frame.{parse}
use Rattle.lines.specs.Chunks.{NoLf}
use Rattle.lines.specs.RoundTrip.{Byte}
use Rattle.lines.specs.Cuts.{text_of, lfs}
use Rattle.model.specs.Step.{Call}
use Rattle.model.specs.Happened.{Happened}
use Rattle.view.specs.View.{Bus, bus_of}
use Rattle.bus_model.specs.Command.{sized_ok, Done, done_of, refused_by, command_of, fresh_of, fresh_number, fresh_bus}
use Rattle.bus_model.specs.Ran.{Exchange, Ran}
use Rattle.bus_model.specs.Histories.{history_of}
use Rattle.bus_model.specs.Third.{book, Next, Demanded}
use Rattle.bus.proofs.Calls.{FreshArguments, FreshReturned, FreshLeft, old_in, made_out, made-said}
use Rattle.bus.proofs.fresh.Reads as fresh-reads
use Rattle.journal_model.specs.declared.Recovered.{Recovered}
use Rattle.journal_model.specs.declared.Recovered.TheVariants as found
use Rattle.journal_model.specs.Journal.{is_question, WithJournal, returned_with, command_with, Replayed, Replayed.whole, Replayed.stopped, Replayed.unread, replay, lines_in, used_of, Recovery, recovery_from, recovered, wholly}
use Rattle.journal_model.specs.Exact.{exchange_with, frames_of, bus_after_counted}
use Rattle.journal_model.specs.Runs.{fitting, DemandThree, replay_history}
use Rattle.journal_model.specs.Journalled.Journalled.{resumed as resumes}
use Rattle.journal_model.specs.Journalled.{Journalled, Journalled.begun, Journalled.more, UsedText, last-of-all, Untouched, stopped-fresh, nothing_written}
use Rattle.journal_model.proofs.Journalled.{kept-text-of, recovery-exact-of, journal-demand, happened-journalled, never-five-journalled, only-the-line, runs-bus}
use Rattle.journal.specs.contracts.command_with_journal as command
use Rattle.journal.proofs.command_with_journal.Kinds as command-kinds
use Rattle.journal.proofs.command_with_journal.Reads as command-reads
use Rattle.recovery.specs.contracts.recover as recover
use Rattle.recovery.proofs.recover.Kinds as recover-kinds
use Rattle.recovery.proofs.recover.Reads as recover-reads

-- A call of `command_with_journal`: its arguments, its result, and the buffers when it returns.
module _ (κs : Lifetimes.Lfts 13) where
  abbrev pub Arguments : Type 0
  Arguments = World.ArgsD command.signature κs

  abbrev pub Returned : Type 0
  Returned = World.ResD command.signature κs

  abbrev pub Left : Type 0
  Left = Clauses.AtExit (Kinds'.ended_of 13 command-kinds.ps command-kinds.r) κs

  abbrev pub bus_in : Arguments → Bus
  bus_in a = bus_of a.0.now a.1.0.now a.1.1.0.now a.1.1.1.0.now a.1.1.1.1.0.now a.1.1.1.1.1.0.now a.1.1.1.1.1.1.0.now a.1.1.1.1.1.1.1.0.now a.1.1.1.1.1.1.1.1.0.now a.1.1.1.1.1.1.1.1.1.0.now

  abbrev pub bus_out : Left → Bus
  bus_out s = bus_of s.0.now s.1.0.now s.1.1.0.now s.1.1.1.0.now s.1.1.1.1.0.now s.1.1.1.1.1.0.now s.1.1.1.1.1.1.0.now s.1.1.1.1.1.1.1.0.now s.1.1.1.1.1.1.1.1.0.now s.1.1.1.1.1.1.1.1.1.0.now

  abbrev pub call_in : Arguments → Call
  call_in a = record { frame = a.1.1.1.1.1.1.1.1.1.1.0.now; buffer = a.1.1.1.1.1.1.1.1.1.1.1.0.now }

  abbrev pub journal_in : Arguments → List ℕ
  journal_in a = a.1.1.1.1.1.1.1.1.1.1.1.1.0.now

  abbrev pub used_in : Arguments → ℕ
  used_in a = a.1.1.1.1.1.1.1.1.1.1.1.1.1.0

  abbrev pub journal_out : Left → List ℕ
  journal_out s = s.1.1.1.1.1.1.1.1.1.1.1.1.0.now

  abbrev pub exchanged : Arguments → Returned → Left → Exchange
  exchanged a r s = record { before = bus_in a; call = call_in a; outcome = record { number = r.number; len = r.len }; after = s.1.1.1.1.1.1.1.1.1.1.1.0.now }

  -- What the contract of `command_with_journal` says of it. It asks for nothing.
  pub said : (a : Arguments) (r : Returned) (s : Left) → command-reads.Learnt κs a r s →
      returned_with r (bus_out s) s.1.1.1.1.1.1.1.1.1.1.1.0.now (journal_out s) ≡ command_with (bus_in a) (call_in a).frame (call_in a).buffer (journal_in a) (used_in a)
  said a r s l = l

  pub free : (a : Arguments) → command-reads.Asked κs a
  free a = tt

-- A call of `recover`, over bus buffers of any contents.
module _ (κs : Lifetimes.Lfts 11) where
  abbrev pub RecoverArguments : Type 0
  RecoverArguments = World.ArgsD recover.signature κs

  abbrev pub RecoverReturned : Type 0
  RecoverReturned = World.ResD recover.signature κs

  abbrev pub RecoverLeft : Type 0
  RecoverLeft = Clauses.AtExit (Kinds'.ended_of 11 recover-kinds.ps recover-kinds.r) κs

  abbrev pub old_bus : RecoverArguments → Bus
  old_bus a = bus_of a.0.now a.1.0.now a.1.1.0.now a.1.1.1.0.now a.1.1.1.1.0.now a.1.1.1.1.1.0.now a.1.1.1.1.1.1.0.now a.1.1.1.1.1.1.1.0.now a.1.1.1.1.1.1.1.1.0.now a.1.1.1.1.1.1.1.1.1.0.now

  abbrev pub found_bus : RecoverLeft → Bus
  found_bus s = bus_of s.0.now s.1.0.now s.1.1.0.now s.1.1.1.0.now s.1.1.1.1.0.now s.1.1.1.1.1.0.now s.1.1.1.1.1.1.0.now s.1.1.1.1.1.1.1.0.now s.1.1.1.1.1.1.1.1.0.now s.1.1.1.1.1.1.1.1.1.0.now

  abbrev pub kept_in : RecoverArguments → List ℕ
  kept_in a = a.1.1.1.1.1.1.1.1.1.1.0.now

  pub found-said : (a : RecoverArguments) (r : RecoverReturned) (s : RecoverLeft) → recover-reads.Learnt κs a r s → recovery_from r (found_bus s) ≡ recovered (old_bus a) (kept_in a)
  found-said a r s l = l

  pub found-free : (a : RecoverArguments) → recover-reads.Asked κs a
  found-free a = tt

-- A run: a fresh bus and any journal, nothing of it used; or a recovery that was whole, and a journal that holds its used part in front; then calls of `command_with_journal`,
-- each with the bus, the journal and the used length as the one before left them, any frame and any answer buffer. A run may end in a power cut: what is kept is then recovered.
pub data Calls : List Exchange → Bus → List ℕ → ℕ → Type 0 where
  made : (κs : Lifetimes.Lfts 10) (a : FreshArguments κs) (r : FreshReturned κs) (s : FreshLeft κs) → sized_ok (old_in κs a) ≡ true → fresh-reads.Learnt κs a r s → (j : List ℕ) →
      Calls [] (made_out κs s) j 0
  resumed : (κs : Lifetimes.Lfts 11) (a : RecoverArguments κs) (r : RecoverReturned κs) (s : RecoverLeft κs) → sized_ok (old_bus κs a) ≡ true → recover-reads.Learnt κs a r s →
      (n u : ℕ) → r ≡ found.Whole n u → (j : List ℕ) → u ≤ length j → take u j ≡ take u (kept_in κs a) → Calls (replay_history fresh_bus (lines_in (kept_in κs a))) (found_bus κs s) j u
  call : {xs : List Exchange} {b : Bus} {j : List ℕ} {u : ℕ} (κs : Lifetimes.Lfts 13) (a : Arguments κs) (r : Returned κs) (s : Left κs) → Calls xs b j u →
      bus_in κs a ≡ b → journal_in κs a ≡ j → used_in κs a ≡ u → command-reads.Learnt κs a r s →
      Calls (xs ++ (exchanged κs a r s ∷ [])) (bus_out κs s) (journal_out κs s) r.used

-- What a call leaves is what the definition says.
pub record LeftAs (κs : Lifetimes.Lfts 13) (a : Arguments κs) (r : Returned κs) (s : Left κs) (b : Bus) (j : List ℕ) (u : ℕ) : Type 0 where
  pub exchange : exchanged κs a r s ≡ exchange_with b j u (call_in κs a)
  pub bus : bus_out κs s ≡ (command_with b (call_in κs a).frame (call_in κs a).buffer j u).done.bus
  pub journal : journal_out κs s ≡ (command_with b (call_in κs a).frame (call_in κs a).buffer j u).journal
  pub used : r.used ≡ (command_with b (call_in κs a).frame (call_in κs a).buffer j u).used

pub left_is : (κs : Lifetimes.Lfts 13) (a : Arguments κs) (r : Returned κs) (s : Left κs) (b : Bus) (j : List ℕ) (u : ℕ) → bus_in κs a ≡ b → journal_in κs a ≡ j → used_in κs a ≡ u →
    command-reads.Learnt κs a r s → LeftAs κs a r s b j u
left_is κs a r s b j u e f g l =
    let c = call_in κs a in
    let d : returned_with r (bus_out κs s) s.1.1.1.1.1.1.1.1.1.1.1.0.now (journal_out κs s) ≡ command_with b c.frame c.buffer j u =
    said κs a r s l ∙ ap (λ (x : Bus). command_with x c.frame c.buffer (journal_in κs a) (used_in κs a)) e ∙ ap₂ (λ (i : List ℕ) (v : ℕ). command_with b c.frame c.buffer i v) f g in
    record {
      exchange = ap₂ (λ (x : Bus) (y : WithJournal). record { before = x; call = c; outcome = y.done.outcome; after = y.done.out }) e d;
      bus = ap (λ (y : WithJournal). y.done.bus) d;
      journal = ap (λ (y : WithJournal). y.journal) d;
      used = ap (λ (y : WithJournal). y.used) d;
    }

-- A whole recovery read whole lines.
record ReadWhole (s : List ℕ) (n u : ℕ) (b : Bus) : Type 0 where
  lines : replay 0 fresh_bus (lines_in s) ≡ whole b n
  used : used_of s ≡ u

abbrev lines_of : Recovered → ℕ
lines_of (found.Whole n u) = n
lines_of (found.Stopped n) = 0
lines_of (found.Unread n p) = 0
lines_of found.WrongLength = 0

abbrev used_by : Recovered → ℕ
used_by (found.Whole n u) = u
used_by (found.Stopped n) = 0
used_by (found.Unread n p) = 0
used_by found.WrongLength = 0

read_whole : (old : Bus) (s : List ℕ) (n u : ℕ) (b : Bus) → sized_ok old ≡ true → recovery_from (found.Whole n u) b ≡ recovered old s → ReadWhole s n u b
unfolding recovered
read_whole old s n u b z h = go (replay 0 fresh_bus (lines_in s)) refl
  where
    go : (x : Replayed) → replay 0 fresh_bus (lines_in s) ≡ x → ReadWhole s n u b
    go (whole d m) e =
        let q : recovery_from (found.Whole n u) b ≡ recovery_from (found.Whole m (used_of s)) d = rw (z, e) at h in
        let x : d ≡ b = ap (λ (y : Recovery). y.bus) (sym q) in
        let k : m ≡ n = ap (λ (y : Recovery). lines_of y.result) (sym q) in
        record { lines = e ∙ ap₂ whole x k; used = ap (λ (y : Recovery). used_by y.result) (sym q) }
    go (stopped d m) e = clash (ap (λ (y : Recovery). wholly y.result) (rw (z, e) at h))
    go (unread d m p) e = clash (ap (λ (y : Recovery). wholly y.result) (rw (z, e) at h))

pub calls-journalled : {xs : List Exchange} {b : Bus} {j : List ℕ} {u : ℕ} → Calls xs b j u → Journalled xs b j u
unfolding fresh_of
calls-journalled (made κs a r s z l j) =
    let e : made_out κs s ≡ fresh_bus = (made-said κs a r s l).1 ∙ ap (λ (t : Bool). pick t fresh_bus (old_in κs a)) z in
    subst (λ (x : Bus). Journalled [] x j 0) (sym e) (begun j)
calls-journalled (resumed κs a r s z l n u e j h t) =
    let x = read_whole (old_bus κs a) (kept_in κs a) n u (found_bus κs s) z (ap (λ (y : Recovered). recovery_from y (found_bus κs s)) (sym e) ∙ found-said κs a r s l) in
    let q : used_of (kept_in κs a) ≡ u = x.used in
    subst (λ (y : ℕ). Journalled (replay_history fresh_bus (lines_in (kept_in κs a))) (found_bus κs s) j y) q
    (resumes (kept_in κs a) j (found_bus κs s) n x.lines (subst (λ (y : ℕ). y ≤ length j) (sym q) h) (subst (λ (y : ℕ). take y j ≡ take y (kept_in κs a)) (sym q) t))
calls-journalled (call {xs = xs} {b = b} {j = j} {u = u} κs a r s t e f g l) =
    let x = left_is κs a r s b j u e f g l in
    rw (x.exchange, x.bus, x.journal, x.used) (more (call_in κs a) (calls-journalled t))

-- THE THEOREMS, of calls

-- Recovery gives every bus buffer to the byte as after as many counted commands as LFs were kept, and the used length of their lines: of every run of calls, also one that came
-- back any number of times, cut anywhere, with any bytes but LF behind the cut, into bus buffers of any old contents. The kept frames are lists of bytes, as every frame that is lent
-- is; what is known of a call does not say it.
pub recovery-exact-of-calls : (xs : List Exchange) (d : Bus) (i : List ℕ) (v : ℕ) → Calls xs d i v → All (All Byte) (frames_of xs) → (k : ℕ) (t : List ℕ) → k ≤ v → NoLf t →
    (κs : Lifetimes.Lfts 11) (a : RecoverArguments κs) (r : RecoverReturned κs) (s : RecoverLeft κs) → sized_ok (old_bus κs a) ≡ true → kept_in κs a ≡ take k i ++ t → recover-reads.Learnt κs a r s →
    (r ≡ found.Whole (lfs (take k i)) (length (text_of (take (lfs (take k i)) (frames_of xs))))) × (found_bus κs s ≡ bus_after_counted xs (lfs (take k i)) d)
recovery-exact-of-calls xs d i v c o k t h n κs a r s z e l =
    let q = found-said κs a r s l ∙ ap (recovered (old_bus κs a)) e ∙ recovery-exact-of xs d i v (calls-journalled c) o k t h n (old_bus κs a) z in
    (ap (λ (y : Recovery). y.result) q, ap (λ (y : Recovery). y.bus) q)

-- The used part of the journal is the lines of the counted commands.
pub kept-text-of-calls : (xs : List Exchange) (d : Bus) (i : List ℕ) (v : ℕ) → Calls xs d i v → UsedText xs i v
kept-text-of-calls xs d i v c = kept-text-of xs d i v (calls-journalled c)

-- The third demand, whole: of any list of calls, of the book that is fed them, and of every next call. Behind a recovery the history begins with the journal's lines and the answers
-- that carrying them out gives. A command that is answered 27 is refused, so it is no part of the history.
pub record DemandThreeOfCalls (xs : List Exchange) (b : Bus) (j : List ℕ) (u : ℕ) : Type 0 where
  pub run : Demanded (fitting xs) b
  pub same : book xs ≡ book (fitting xs)
  pub next : (κs : Lifetimes.Lfts 13) (a : Arguments κs) (r : Returned κs) (s : Left κs) → bus_in κs a ≡ b → journal_in κs a ≡ j → used_in κs a ≡ u → command-reads.Learnt κs a r s →
      (done_of (exchanged κs a r s).outcome (bus_out κs s) (exchanged κs a r s).after ≡ refused_by EFBIG b (call_in κs a).buffer) ⊎ Next (fitting xs) (exchanged κs a r s)

pub demand-three-of-calls : (xs : List Exchange) (b : Bus) (j : List ℕ) (u : ℕ) → Calls xs b j u → DemandThreeOfCalls xs b j u
demand-three-of-calls xs b j u t =
    record { run = d.run; same = d.same; next = λ κs a r s e f g l. go κs a r s (left_is κs a r s b j u e f g l) (d.next (call_in κs a)) }
  where
    d : DemandThree xs b j u
    d = journal-demand xs b j u (calls-journalled t)

    go : (κs : Lifetimes.Lfts 13) (a : Arguments κs) (r : Returned κs) (s : Left κs) → LeftAs κs a r s b j u →
        ((command_with b (call_in κs a).frame (call_in κs a).buffer j u).done ≡ refused_by EFBIG b (call_in κs a).buffer) ⊎ Next (fitting xs) (exchange_with b j u (call_in κs a)) →
        (done_of (exchanged κs a r s).outcome (bus_out κs s) (exchanged κs a r s).after ≡ refused_by EFBIG b (call_in κs a).buffer) ⊎ Next (fitting xs) (exchanged κs a r s)
    go κs a r s x (inl e) = inl (ap₂ (λ (y : Exchange) (w : Bus). done_of y.outcome w y.after) x.exchange x.bus ∙ e)
    go κs a r s x (inr n) = inr (subst (λ (y : Exchange). Next (fitting xs) y) (sym x.exchange) n)

-- What is exchanged in calls, without what was answered 27, is a history: what holds of every history holds of it.
pub happened-of-calls : (xs : List Exchange) (b : Bus) (j : List ℕ) (u : ℕ) → Calls xs b j u → Happened (history_of (fitting xs))
happened-of-calls xs b j u c = happened-journalled xs b j u (calls-journalled c)

-- 5 is never given in a run.
pub never-five-of-calls : (xs : List Exchange) (b : Bus) (j : List ℕ) (u : ℕ) → Calls xs b j u → All (λ x. x.outcome.number ≡ EIO → ⊥) xs
never-five-of-calls xs b j u c = never-five-journalled xs b j u (calls-journalled c)

-- 27 exactly where everything else accepts the command, it is no question, and its line has no room: of a call on any bus, with a used length within the journal.
module _ (κs : Lifetimes.Lfts 13) (a : Arguments κs) (r : Returned κs) (s : Left κs) (l : command-reads.Learnt κs a r s) (h : used_in κs a ≤ length (journal_in κs a)) where
  abbrev lone : Done
  lone = command_of (bus_in κs a) (call_in κs a).frame (call_in κs a).buffer

  same_number : r.number ≡ (exchange_with (bus_in κs a) (journal_in κs a) (used_in κs a) (call_in κs a)).outcome.number
  same_number = ap (λ (x : Exchange). x.outcome.number) (left_is κs a r s (bus_in κs a) (journal_in κs a) (used_in κs a) refl refl refl l).exchange

  pub full-only-of-calls : r.number ≡ EFBIG → (lone.outcome.number ≡ 0) × (is_question (parse (call_in κs a).frame) ≡ false) × (length (journal_in κs a) < used_in κs a + (2 * length (call_in κs a).frame + 1))
  full-only-of-calls e = (last-of-all (bus_in κs a) (call_in κs a) (journal_in κs a) (used_in κs a) h).only (sym same_number ∙ e)

  pub full-always-of-calls : lone.outcome.number ≡ 0 → is_question (parse (call_in κs a).frame) ≡ false → length (journal_in κs a) < used_in κs a + (2 * length (call_in κs a).frame + 1) → r.number ≡ EFBIG
  full-always-of-calls n q m = same_number ∙ (last-of-all (bus_in κs a) (call_in κs a) (journal_in κs a) (used_in κs a) h).always n q m

  -- What is refused or asked leaves bus, journal and used length alone; and else only the line's bytes change.
  pub only-the-line-of-calls : Untouched (bus_in κs a) (call_in κs a) (journal_in κs a) (used_in κs a) (returned_with r (bus_out κs s) s.1.1.1.1.1.1.1.1.1.1.1.0.now (journal_out κs s))
  only-the-line-of-calls = subst (λ (k : WithJournal). Untouched (bus_in κs a) (call_in κs a) (journal_in κs a) (used_in κs a) k) (sym (said κs a r s l)) (only-the-line (bus_in κs a) (call_in κs a) (journal_in κs a) (used_in κs a) h)

-- Whatever bytes recovery is given, the bus that it leaves is a run's.
pub runs-bus-of-calls : (κs : Lifetimes.Lfts 11) (a : RecoverArguments κs) (r : RecoverReturned κs) (s : RecoverLeft κs) → sized_ok (old_bus κs a) ≡ true → recover-reads.Learnt κs a r s →
    (xs : List Exchange) × Ran xs (found_bus κs s)
runs-bus-of-calls κs a r s z l =
    let x = runs-bus (old_bus κs a) (kept_in κs a) z in
    let e : (recovered (old_bus κs a) (kept_in κs a)).bus ≡ found_bus κs s = ap (λ (y : Recovery). y.bus) (sym (found-said κs a r s l)) in
    (x.0, subst (λ (y : Bus). Ran x.0 y) e x.1)

-- A fresh one where it stopped; and where a bus buffer lacks its length, nothing is written.
pub stopped-fresh-of-calls : (κs : Lifetimes.Lfts 11) (a : RecoverArguments κs) (r : RecoverReturned κs) (s : RecoverLeft κs) → sized_ok (old_bus κs a) ≡ true → recover-reads.Learnt κs a r s →
    wholly r ≡ false → found_bus κs s ≡ fresh_bus
stopped-fresh-of-calls κs a r s z l w =
    let q = found-said κs a r s l in
    let h : wholly (recovered (old_bus κs a) (kept_in κs a)).result ≡ false = ap (λ (y : Recovery). wholly y.result) (sym q) ∙ w in
    ap (λ (y : Recovery). y.bus) q ∙ stopped-fresh (old_bus κs a) (kept_in κs a) z h

pub nothing-written-of-calls : (κs : Lifetimes.Lfts 11) (a : RecoverArguments κs) (r : RecoverReturned κs) (s : RecoverLeft κs) → sized_ok (old_bus κs a) ≡ false → recover-reads.Learnt κs a r s →
    (r ≡ found.WrongLength) × (found_bus κs s ≡ old_bus κs a)
nothing-written-of-calls κs a r s z l =
    let q = found-said κs a r s l ∙ nothing_written (old_bus κs a) (kept_in κs a) z in
    (ap (λ (y : Recovery). y.result) q, ap (λ (y : Recovery). y.bus) q)

-- SUCH CALLS EXIST: of `fresh` and `recover` over any buffers of exact length, and of `command_with_journal` with any frame and any answer buffer on what a run left. A reference is where
-- it lies, a name, and its value; no contract says anything of the first two.
abbrev lent : {X : Type 0} → X → MutBor X
lent v = record { ref_ptr = (0, 0); ghost_name = 0; now = v }

abbrev shown : {X : Type 0} → X → Bor X
shown v = record { ref_ptr = (0, 0); now = v }

abbrev ten : Lifetimes.Lfts 10
ten = ([], ([], ([], ([], ([], ([], ([], ([], ([], ([], tt))))))))))

abbrev eleven : Lifetimes.Lfts 11
eleven = ([], ten)

abbrev thirteen : Lifetimes.Lfts 13
thirteen = ([], ([], eleven))

pub made-exists : (old : Bus) → sized_ok old ≡ true → (j : List ℕ) → Calls [] (fresh_of old) j 0
made-exists old z j = made ten (lent old.peers, (lent old.nodes, (lent old.handles, (lent old.charges, (lent old.rings.ends, (lent old.rings.rows.entries, (lent old.rings.rows.carried, (lent old.rings.rows.numbers, (lent old.pool, (lent old.seeds, tt)))))))))) (fresh_number old) (lent (fresh_of old).peers, (lent (fresh_of old).nodes, (lent (fresh_of old).handles, (lent (fresh_of old).charges, (lent (fresh_of old).rings.ends, (lent (fresh_of old).rings.rows.entries, (lent (fresh_of old).rings.rows.carried, (lent (fresh_of old).rings.rows.numbers, (lent (fresh_of old).pool, (lent (fresh_of old).seeds, tt)))))))))) z (refl, refl) j

pub resumed-exists : (old : Bus) → sized_ok old ≡ true → (s : List ℕ) (n u : ℕ) → (recovered old s).result ≡ found.Whole n u → (j : List ℕ) → u ≤ length j → take u j ≡ take u s →
    Calls (replay_history fresh_bus (lines_in s)) (recovered old s).bus j u
resumed-exists old z s n u e j h t =
    let d = (recovered old s).bus in
    resumed eleven (lent old.peers, (lent old.nodes, (lent old.handles, (lent old.charges, (lent old.rings.ends, (lent old.rings.rows.entries, (lent old.rings.rows.carried, (lent old.rings.rows.numbers, (lent old.pool, (lent old.seeds, (shown s, tt))))))))))) (recovered old s).result
    (lent d.peers, (lent d.nodes, (lent d.handles, (lent d.charges, (lent d.rings.ends, (lent d.rings.rows.entries, (lent d.rings.rows.carried, (lent d.rings.rows.numbers, (lent d.pool, (lent d.seeds, (shown s, tt))))))))))) z refl n u e j h t

pub call-exists : {xs : List Exchange} {b : Bus} {j : List ℕ} {u : ℕ} → Calls xs b j u → (c : Call) → let k = command_with b c.frame c.buffer j u in
    Calls (xs ++ (exchange_with b j u c ∷ [])) k.done.bus k.journal k.used
call-exists {b = b} {j = j} {u = u} t c =
    let k = command_with b c.frame c.buffer j u in
    let d = k.done.bus in
    call thirteen (lent b.peers, (lent b.nodes, (lent b.handles, (lent b.charges, (lent b.rings.ends, (lent b.rings.rows.entries, (lent b.rings.rows.carried, (lent b.rings.rows.numbers, (lent b.pool, (lent b.seeds, (shown c.frame, (lent c.buffer, (lent j, (u, tt))))))))))))))
    (record { number = k.done.outcome.number; len = k.done.outcome.len; used = k.used })
    (lent d.peers, (lent d.nodes, (lent d.handles, (lent d.charges, (lent d.rings.ends, (lent d.rings.rows.entries, (lent d.rings.rows.carried, (lent d.rings.rows.numbers, (lent d.pool, (lent d.seeds, (shown c.frame, (lent k.done.out, (lent k.journal, (u, tt)))))))))))))) t refl refl refl refl

-- A run goes on with any calls. So there is one for every list of calls from a fresh bus with any journal, and from every recovery that was whole.
pub calls-go-on : {xs : List Exchange} {b : Bus} {j : List ℕ} {u : ℕ} → Calls xs b j u → (cs : List Call) →
    (ys : List Exchange) × (d : Bus) × (i : List ℕ) × (v : ℕ) × Calls (xs ++ ys) d i v × (map (λ x. x.call) ys ≡ cs)
calls-go-on {xs = xs} {b = b} {j = j} {u = u} t [] = ([], b, j, u, rw (append-nil xs) t, refl)
calls-go-on {xs = xs} {b = b} {j = j} {u = u} t (c ∷ cs) =
    let z = calls-go-on {xs = xs ++ (exchange_with b j u c ∷ [])} (call-exists t c) cs in
    (exchange_with b j u c ∷ z.0, z.1, z.2, z.3, rw (sym (append_assoc xs (exchange_with b j u c ∷ []) z.0)) z.4, ap (◌∷◌ c) z.5)
