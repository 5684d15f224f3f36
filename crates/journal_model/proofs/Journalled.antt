-- The theorems that go with specs/Journalled.antt and stand on others: each goes by the definitions and the theorems there.
-- Assumes nothing.
use Rattle.std.specs.Prelude.{ℕ, suc, ◌+◌, ◌*◌, ◌≤◌, ◌≡◌, refl, drop}
use Rattle.std.proofs.Common.{sym, ap₂, ◌∙◌, arith, length-append, take-take, drop-drop, le-ltb, le-leb, leb-true}
use Rattle.std.proofs.Math.Path.{ap, subst}
use Rattle.std.proofs.Math.Bool.{true}
use mathlib.Core.List.{List, [], ◌∷◌, ◌++◌, map, flatten}
use Rattle.std.proofs.Math.ListN.{length, take}
use Rattle.std.proofs.Math.Seq.{sets, length-sets}
use Rattle.laws.specs.Tests.{Seen, Seen.is_true, Seen.is_false, look, clash}
use Rattle.laws.specs.Weights.{All}
use Rattle.frames.specs.Frame.{parse}
use Rattle.lines.specs.Line.{answer_line, room_for, lines_after}
use Rattle.lines.specs.Chunks.{Found, Found.frame}
use Rattle.lines.specs.RoundTrip.{Byte}
use Rattle.lines.specs.Cuts.{text_of, lfs, OneLineLong}
use Rattle.answers.specs.Answer.{answer_size}
use Rattle.view.specs.View.{Bus}
use Rattle.bus_model.specs.Command.{command_of, fresh_bus}
use Rattle.bus_model.specs.Ran.{Exchange, exchange_of, Ran, Ran.begins}
use Rattle.bus_model.proofs.Demands.{never-five}
use Rattle.bus_model.proofs.Histories.{ran-happened}
use Rattle.journal_model.specs.Journal.{is_question, counted, WithJournal, with_journal, command_with, spare, Replayed, Replayed.whole, Replayed.stopped, Replayed.unread, replay, lines_in, used_of, recovered}
use Rattle.journal_model.specs.Exact.{exchange_with, JournalRun, JournalRun.none, JournalRun.next, frames_of, Appends, Appends.appended, Appends.unchanged, appends, spare-large}
use Rattle.journal_model.proofs.Exact.{kept-text, recovery-exact}
use Rattle.journal_model.specs.Runs.{fitting, replay_call, replay_history, bus_found, is_whole, replay-ran}
use Rattle.journal_model.proofs.Runs.{run_ran, demand-three}
use Rattle.journal_model.specs.Journalled.{Journalled, Journalled.begun, Journalled.resumed, Journalled.more, RecoveryExact, KeptText, JournalDemand, HappenedJournalled, NeverFiveJournalled, Untouched, OnlyTheLine, RunsBus, replay-frames, text-of, line-stands, line-length, take-front, take_back, after-room, kept_there, run_more, counted-short, used-at, all-fitting, counted-parts, after-before, after-behind}

history-run : (fs : List (List ℕ)) (m n : ℕ) (b d : Bus) (j : List ℕ) (u : ℕ) → replay m b (map frame fs) ≡ whole d n → u + length (text_of fs) ≤ length j →
    take (length (text_of fs)) (drop u j) ≡ text_of fs → JournalRun b j u (replay_history b (map frame fs)) d j (u + length (text_of fs))
unfolding replay flatten
history-run [] m n b d j u e l t =
    let z : b ≡ d = ap (λ (x : Replayed). bus_found x) e in
    let w : u ≡ u + 0 = omega arith in
    subst (λ (x : ℕ). JournalRun b j u [] d j x) w (subst (λ (x : Bus). JournalRun b j u [] x j u) z none)
history-run (f ∷ fs) m n b d j u e l t =
    go (look (counted b f spare)) (λ h k w. history-run fs (suc m) n (command_of b f spare).bus d j (u + (2 * length f + 1)) h k w)
  where
    at : ℕ
    at = u + (2 * length f + 1)

    all : length (text_of (f ∷ fs)) ≡ 2 * length f + 1 + length (text_of fs)
    all = length-append (answer_line f) (text_of fs) ∙ ap (λ (x : ℕ). x + length (text_of fs)) (line-length f)

    go : Seen (counted b f spare) →
        (replay (suc m) (command_of b f spare).bus (map frame fs) ≡ whole d n → at + length (text_of fs) ≤ length j → take (length (text_of fs)) (drop at j) ≡ text_of fs →
        JournalRun (command_of b f spare).bus j at (replay_history (command_of b f spare).bus (map frame fs)) d j (at + length (text_of fs))) →
        JournalRun b j u (exchange_of b (replay_call f) ∷ replay_history (command_of b f spare).bus (map frame fs)) d j (u + length (text_of (f ∷ fs)))
    go (is_false k) ih = clash (sym (ap is_whole (rw k at e)))
    go (is_true k) ih =
        let fits : at ≤ length j = omega (arith, all) in
        let room : room_for j u f ≡ true = le-leb at (length j) fits in
        let same : lines_after j u f ≡ j = unfold-after room ∙ line-stands j (answer_line f) u (omega (arith, line-length f)) (take-front (answer_line f) (text_of fs) (drop u j) t) in
        let w : command_with b f spare j u ≡ with_journal (command_of b f spare) j at = kept-counted k room ∙ ap (λ (x : List ℕ). with_journal (command_of b f spare) x at) same in
        let x : exchange_with b j u (replay_call f) ≡ exchange_of b (replay_call f) = ap (λ (y : WithJournal). record { before = b; call = replay_call f; outcome = y.done.outcome; after = y.done.out }) w in
        let behind : take (length (text_of fs)) (drop at j) ≡ text_of fs = ap (take (length (text_of fs))) there ∙ take_back (answer_line f) (text_of fs) (drop u j) t in
        let r = ih (rw k at e) (omega (arith, all)) behind in
        let r' : JournalRun (command_with b f spare j u).done.bus (command_with b f spare j u).journal (command_with b f spare j u).used (replay_history (command_of b f spare).bus (map frame fs)) d j (at + length (text_of fs)) =
        subst (λ (y : WithJournal). JournalRun y.done.bus y.journal y.used (replay_history (command_of b f spare).bus (map frame fs)) d j (at + length (text_of fs))) (sym w) r in
        let q : at + length (text_of fs) ≡ u + length (text_of (f ∷ fs)) = omega (arith, all) in
        subst (λ (v : ℕ). JournalRun b j u (exchange_of b (replay_call f) ∷ replay_history (command_of b f spare).bus (map frame fs)) d j v) q
        (subst (λ (y : Exchange). JournalRun b j u (y ∷ replay_history (command_of b f spare).bus (map frame fs)) d j (at + length (text_of fs))) x (next (replay_call f) r'))
      where
        unfold-after : room_for j u f ≡ true → lines_after j u f ≡ sets j u (answer_line f)
        unfold-after z = after-room j f u z

        kept-counted : counted b f spare ≡ true → room_for j u f ≡ true → command_with b f spare j u ≡ with_journal (command_of b f spare) (lines_after j u f) at
        kept-counted y z = kept_there b f spare j u (le-ltb (length spare) answer_size spare-large) (leb-true at (length j) z) y z

        there : drop at j ≡ drop (length (answer_line f)) (drop u j)
        there = ap (λ (x : ℕ). drop (u + x) j) (sym (line-length f)) ∙ sym (drop-drop (length (answer_line f)) u j)

-- The journal that it began with: a fresh one, or the one that holds already what the recovery read.
pub journalled-run : {xs : List Exchange} {d : Bus} {i : List ℕ} {v : ℕ} → Journalled xs d i v → (j : List ℕ) × JournalRun fresh_bus j 0 xs d i v
journalled-run (begun j) = (j, none)
journalled-run (resumed s j b n e l t) = (j, go (replay-frames (lines_in s) 0 n fresh_bus b e))
  where
    go : (fs : List (List ℕ)) × (lines_in s ≡ map frame fs) → JournalRun fresh_bus j 0 (replay_history fresh_bus (lines_in s)) b j (used_of s)
    go (fs, q) =
        let x = text-of s fs q in
        let r : replay 0 fresh_bus (map frame fs) ≡ whole b n = subst (λ (ls : List Found). replay 0 fresh_bus ls ≡ whole b n) q e in
        let front : take (length (text_of fs)) j ≡ text_of fs = ap (λ (k : ℕ). take k j) (sym x.used) ∙ t ∙ x.text in
        let k : JournalRun fresh_bus j 0 (replay_history fresh_bus (map frame fs)) b j (0 + length (text_of fs)) = history-run fs 0 n fresh_bus b j 0 r (omega (arith, x.used)) front in
        let u : 0 + length (text_of fs) ≡ used_of s = omega (arith, x.used) in
        subst (λ (ls : List Found). JournalRun fresh_bus j 0 (replay_history fresh_bus ls) b j (used_of s)) (sym q) (subst (λ (y : ℕ). JournalRun fresh_bus j 0 (replay_history fresh_bus (map frame fs)) b j y) u k)
journalled-run (more c r) = let k = journalled-run r in (k.0, run_more k.1 c)

all-one-line-long : {b d : Bus} {j i : List ℕ} {u v : ℕ} {xs : List Exchange} → JournalRun b j u xs d i v → All (All Byte) (frames_of xs) → All OneLineLong (frames_of xs)
unfolding frames_of
all-one-line-long none a = tt
all-one-line-long (next {b = b} {j = j} {u = u} {xs = xs} c r) a = go (appends b c j u) (λ h. all-one-line-long r h)
  where
    go : Appends b c j u → (All (All Byte) (frames_of xs) → All OneLineLong (frames_of xs)) → All OneLineLong (frames_of (exchange_with b j u c ∷ xs))
    go (unchanged x y z w) ih = rw x (ih (rw x at a))
    go (appended x y large z w) ih =
        let h : All (All Byte) (c.frame ∷ frames_of xs) = rw x at a in
        rw x ((counted-short c.frame b c.buffer large y, h.0), ih h.1)

-- THE THEOREMS

pub kept-text-of : KeptText
kept-text-of xs d i v r =
    let k = journalled-run r in
    let x = kept-text k.1 (omega arith) in
    record { text = x.text; within = x.within }

pub recovery-exact-of : RecoveryExact
unfolding recovered
recovery-exact-of xs d i v r a k t l q old z =
    let y = journalled-run r in
    let s = all-one-line-long y.1 a in
    let e = recovery-exact y.0 xs d i v y.1 s k t l q in
    let x = kept-text y.1 (omega arith) in
    let f : take k i ≡ take k (text_of (frames_of xs)) = sym (take-take k v i l) ∙ ap (take k) x.text in
    let u : used_of (take k i ++ t) ≡ length (text_of (take (lfs (take k i)) (frames_of xs))) = used-at (frames_of xs) k t s q (take k i) f in
    rw (z, e, u) refl

pub journal-demand : JournalDemand
journal-demand xs b j u r = let y = journalled-run r in demand-three y.1 begins (omega arith)

pub happened-journalled : HappenedJournalled
happened-journalled xs b j u r = let y = journalled-run r in ran-happened (run_ran y.1 [] begins (omega arith))

pub never-five-journalled : NeverFiveJournalled
never-five-journalled xs b j u r =
    let y = journalled-run r in
    all-fitting xs (never-five (fitting xs) b (run_ran y.1 [] begins (omega arith)))

pub only-the-line : OnlyTheLine
only-the-line b c j u l = go (appends b c j u) (look (is_question (parse c.frame)))
  where
    f : List ℕ
    f = c.frame

    k : WithJournal
    k = command_with b f c.buffer j u

    go : Appends b c j u → Seen (is_question (parse f)) → Untouched b c j u k
    go (unchanged x y z w) a = record {
      refused = λ n. (y, z, w);
      asked = λ q. (y, z, w);
      before = ap (take u) z;
      behind = rw (z, w) refl;
      long = ap (λ (i : List ℕ). length i) z;
    }
    go (appended x y large room w) (is_true a) = clash (sym a ∙ (counted-parts b f c.buffer y).1)
    go (appended x y large room w) (is_false a) =
        let h : u + (2 * length f + 1) ≤ length j = leb-true (u + (2 * length f + 1)) (length j) room in
        let n : length (answer_line f) ≡ 2 * length f + 1 = line-length f in
        let z : k.journal ≡ sets j u (answer_line f) = ap (λ (q : WithJournal). q.journal) w ∙ after-room j f u room in
        let v : k.used ≡ u + (2 * length f + 1) = ap (λ (q : WithJournal). q.used) w in
        let v' : k.used ≡ u + length (answer_line f) = v ∙ ap (λ (q : ℕ). u + q) (sym n) in
        let s : u + length (answer_line f) ≤ length j = omega (arith, n) in
        record {
          refused = λ q. absurd (q (ap (λ (t : WithJournal). t.done.outcome.number) w ∙ (counted-parts b f c.buffer y).0));
          asked = λ q. clash (sym q ∙ a);
          before = ap (take u) z ∙ after-before j (answer_line f) u s;
          behind = ap₂ (λ (p : ℕ) (i : List ℕ). drop p i) v' z ∙ after-behind j (answer_line f) u s ∙ ap (λ (p : ℕ). drop p j) (sym v');
          long = ap (λ (i : List ℕ). length i) z ∙ length-sets j u (answer_line f);
        }

-- Any bytes.
pub runs-bus : RunsBus
unfolding recovered
runs-bus old s z = go (replay 0 fresh_bus (lines_in s)) refl
  where
    go : (x : Replayed) → replay 0 fresh_bus (lines_in s) ≡ x → (xs : List Exchange) × Ran xs (recovered old s).bus
    go (whole b n) e = (replay_history fresh_bus (lines_in s), rw (z, e) (replay-ran (lines_in s) 0 n fresh_bus b [] e begins))
    go (stopped d n) e = ([], rw (z, e) begins)
    go (unread d n p) e = ([], rw (z, e) begins)
