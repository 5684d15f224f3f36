-- Document 02, No. 4, of every run with a journal, also one that goes on after recoveries: the statements stand first, under capital letters; each is proved below under the
-- same name in small letters.
-- Assumes nothing.
use Rattle.std.specs.Prelude.{ℕ, suc, ◌+◌, ◌*◌, ◌-◌, ◌≤◌, ◌<◌, ◌≡◌, refl, Bool, false, not, drop, eqb, ltb, Ok, Err}
use Rattle.std.proofs.Common.{sym, ap₂, ◌∙◌, arith, length-append, take-append-drop, take_at, take-take, drop_at, drop-drop, length-take-le, eqb-true, ltb-true, ltb-false, le-ltb, le-leb}
use Rattle.std.proofs.Math.Path.{ap}
use Rattle.std.proofs.Math.Bool.{true}
use mathlib.Core.List.{List, [], ◌∷◌, ◌++◌, map, append_assoc}
use Rattle.std.proofs.Math.ListN.{length, take}
use Rattle.std.proofs.Math.Seq.{sets}
use Rattle.std.proofs.lemmas.List.Edits.{sets-eq}
use Rattle.std.proofs.lemmas.Bool.{lt-leb}
use Rattle.laws.specs.Tests.{Seen, Seen.is_true, Seen.is_false, look, clash}
use Rattle.laws.specs.Weights.{All}
use Rattle.ids.specs.Refusals.{EIO, EFBIG}
use Rattle.frames.specs.Frame.{parse, Parsed}
use Rattle.frames.specs.Lengths.{longest_frame, longest-is}
use Rattle.frames.proofs.Lengths.{read_short}
use Rattle.lines.specs.Line.{lf, most_digits, digits_of, answer_line, room_for, lines_after}
use Rattle.lines.specs.LineLaws.{digits-length}
use Rattle.lines.specs.Chunks.{split, Found, Found.frame, Found.bad, NoLf}
use Rattle.lines.specs.RoundTrip.{Byte}
use Rattle.lines.specs.Cuts.{text_of, lfs, OneLineLong}
use Rattle.lines.proofs.Cuts.{cut-before}
use Rattle.lines.specs.Again.{split-joined}
use Rattle.lines.proofs.Again.{frames-text}
use Rattle.answers.specs.Answer.{answer_size}
use Rattle.model.specs.Step.{Call}
use Rattle.model.specs.Happened.{Happened}
use Rattle.view.specs.View.{Bus}
use Rattle.bus_model.specs.Command.{Done, refused_by, sized_ok, command_of, fresh_bus}
use Rattle.bus_model.specs.Ran.{Exchange, Ran}
use Rattle.bus_model.specs.Histories.{history_of}
use Rattle.journal_model.specs.declared.Recovered.TheVariants as found
use Rattle.journal_model.specs.Journal.{is_question, counted, WithJournal, with_journal, appended_of, obeyed_with, command_with, spare, Replayed, Replayed.whole, Replayed.stopped, Replayed.unread, replay, lines_in, used_of, recovery_from, recovered, wholly}
use Rattle.journal_model.specs.Exact.{exchange_with, JournalRun, JournalRun.none, JournalRun.next, frames_of, bus_after_counted, short-number}
use Rattle.journal_model.specs.Runs.{fits, fitting, DemandThree, replay_history, is_whole}
use Rattle.journal_model.specs.Counted.{refused-number, refused-uncounted}
use Rattle.journal_model.specs.Numbers.{never-full}

-- A run with a journal: begun on a fresh bus, or from what a recovery found in any bytes that were kept, whose lines stand in front in the journal that is lent from then on;
-- and then any commands. Its history is, behind a recovery, "the journal's, with the answers that carrying it out gives".
pub data Journalled : List Exchange → Bus → List ℕ → ℕ → Type 0 where
  begun : (j : List ℕ) → Journalled [] fresh_bus j 0
  resumed : (s j : List ℕ) (b : Bus) (n : ℕ) → replay 0 fresh_bus (lines_in s) ≡ whole b n → used_of s ≤ length j → take (used_of s) j ≡ take (used_of s) s →
      Journalled (replay_history fresh_bus (lines_in s)) b j (used_of s)
  more : {xs : List Exchange} {b : Bus} {j : List ℕ} {u : ℕ} (c : Call) → Journalled xs b j u →
      Journalled (xs ++ (exchange_with b j u c ∷ [])) (command_with b c.frame c.buffer j u).done.bus (command_with b c.frame c.buffer j u).journal (command_with b c.frame c.buffer j u).used

-- THE STATEMENTS

-- "The bus found must be exactly the one after as many whole commands as LFs were kept": every bus buffer to the byte, of any run, cut anywhere in its used part, with any
-- characters but LF behind the cut, into bus buffers of any old contents. "the used length ends before" the trailing piece: it is that of the lines of these commands.
-- The kept frames are lists of bytes, as every frame that is lent is: a number from 256 on has no two digits, and the reader would refuse its line.
abbrev pub RecoveryExact : Type 0
RecoveryExact =
    (xs : List Exchange) (d : Bus) (i : List ℕ) (v : ℕ) → Journalled xs d i v → All (All Byte) (frames_of xs) → (k : ℕ) (t : List ℕ) → k ≤ v → NoLf t → (old : Bus) → sized_ok old ≡ true →
    let n = lfs (take k i) in
    recovered old (take k i ++ t) ≡ recovery_from (found.Whole n (length (text_of (take n (frames_of xs))))) (bus_after_counted xs n d)

-- The used part of the journal is the lines of the counted commands, one behind another.
pub record UsedText (xs : List Exchange) (i : List ℕ) (v : ℕ) : Type 0 where
  pub text : take v i ≡ text_of (frames_of xs)
  pub within : v ≤ length i

abbrev pub KeptText : Type 0
KeptText = (xs : List Exchange) (d : Bus) (i : List ℕ) (v : ℕ) → Journalled xs d i v → UsedText xs i v

-- "After a recovery the third demand's history is the journal's, with the answers that carrying it out gives."
abbrev pub JournalDemand : Type 0
JournalDemand = (xs : List Exchange) (b : Bus) (j : List ℕ) (u : ℕ) → Journalled xs b j u → DemandThree xs b j u

-- "27 EFBIG, the last of all checks", never for a question: on any bus, with a used length within the journal.
pub record FullExactly (b : Bus) (c : Call) (j : List ℕ) (u : ℕ) : Type 0 where
  pub only : (exchange_with b j u c).outcome.number ≡ EFBIG →
      ((command_of b c.frame c.buffer).outcome.number ≡ 0) × (is_question (parse c.frame) ≡ false) × (length j < u + (2 * length c.frame + 1))
  pub always : (command_of b c.frame c.buffer).outcome.number ≡ 0 → is_question (parse c.frame) ≡ false → length j < u + (2 * length c.frame + 1) →
      (exchange_with b j u c).outcome.number ≡ EFBIG

abbrev pub LastOfAll : Type 0
LastOfAll = (b : Bus) (c : Call) (j : List ℕ) (u : ℕ) → u ≤ length j → FullExactly b c j u

-- What is exchanged in a run, without what was answered 27, is a history: what holds of every history holds of it.
abbrev pub HappenedJournalled : Type 0
HappenedJournalled = (xs : List Exchange) (b : Bus) (j : List ℕ) (u : ℕ) → Journalled xs b j u → Happened (history_of (fitting xs))

-- 5 is never given in a run.
abbrev pub NeverFiveJournalled : Type 0
NeverFiveJournalled = (xs : List Exchange) (b : Bus) (j : List ℕ) (u : ℕ) → Journalled xs b j u → All (λ x. x.outcome.number ≡ EIO → ⊥) xs

-- What is refused or asked leaves the journal, its used length and the bus alone; and else only the bytes of the line change, behind the used length.
pub record Untouched (b : Bus) (c : Call) (j : List ℕ) (u : ℕ) (k : WithJournal) : Type 0 where
  pub refused : (k.done.outcome.number ≡ 0 → ⊥) → (k.done.bus ≡ b) × (k.journal ≡ j) × (k.used ≡ u)
  pub asked : is_question (parse c.frame) ≡ true → (k.done.bus ≡ b) × (k.journal ≡ j) × (k.used ≡ u)
  pub before : take u k.journal ≡ take u j
  pub behind : drop k.used k.journal ≡ drop k.used j
  pub long : length k.journal ≡ length j

abbrev pub OnlyTheLine : Type 0
OnlyTheLine = (b : Bus) (c : Call) (j : List ℕ) (u : ℕ) → u ≤ length j → Untouched b c j u (command_with b c.frame c.buffer j u)

-- Whatever bytes recovery is given, the bus that it leaves is a run's.
abbrev pub RunsBus : Type 0
RunsBus = (old : Bus) (s : List ℕ) → sized_ok old ≡ true → (xs : List Exchange) × Ran xs (recovered old s).bus

-- "with 5, its line number, from 1, and a fresh bus": one that stopped leaves a fresh bus; "nothing written" where a bus buffer lacks its length.
abbrev pub StoppedFresh : Type 0
StoppedFresh = (old : Bus) (s : List ℕ) → sized_ok old ≡ true → wholly (recovered old s).result ≡ false → (recovered old s).bus ≡ fresh_bus

abbrev pub NothingWritten : Type 0
NothingWritten = (old : Bus) (s : List ℕ) → sized_ok old ≡ false → recovered old s ≡ recovery_from found.WrongLength old

-- WHAT RECOVERY READ IS THE TEXT OF ITS FRAMES

pub replay-frames : (ls : List Found) (m n : ℕ) (b d : Bus) → replay m b ls ≡ whole d n → (fs : List (List ℕ)) × (ls ≡ map frame fs)
unfolding replay
replay-frames [] m n b d e = ([], refl)
replay-frames (bad place ∷ ls) m n b d e = clash (sym (ap is_whole e))
replay-frames (frame f ∷ ls) m n b d e = go (look (counted b f spare)) (λ h. replay-frames ls (suc m) n (command_of b f spare).bus d h)
  where
    go : Seen (counted b f spare) → (replay (suc m) (command_of b f spare).bus ls ≡ whole d n → (fs : List (List ℕ)) × (ls ≡ map frame fs)) → (fs : List (List ℕ)) × (frame f ∷ ls ≡ map frame fs)
    go (is_false k) ih = clash (sym (ap is_whole (rw k at e)))
    go (is_true k) ih = let h = ih (rw k at e) in (f ∷ h.0, ap (◌∷◌ (frame f)) h.1)

pub record TextOf (s : List ℕ) (fs : List (List ℕ)) : Type 0 where
  pub lines : lines_in s ≡ map frame fs
  pub used : used_of s ≡ length (text_of fs)
  pub text : take (used_of s) s ≡ text_of fs
  pub one-line-long : All OneLineLong fs

pub text-of : (s : List ℕ) (fs : List (List ℕ)) → lines_in s ≡ map frame fs → TextOf s fs
unfolding used_of
text-of s fs e =
    let x = frames-text (split s).whole fs e in
    let j : s ≡ text_of fs ++ (split s).rest = split-joined s ∙ ap (λ (y : List ℕ). y ++ (split s).rest) x.text in
    let l : length s ≡ length (text_of fs) + length (split s).rest = ap (λ (y : List ℕ). length y) j ∙ length-append (text_of fs) (split s).rest in
    let u : length s - length (split s).rest ≡ length (text_of fs) = omega arith in
    record {
      lines = e;
      used = u;
      text = ap₂ (λ (n : ℕ) (y : List ℕ). take n y) u j ∙ take_at (text_of fs) (split s).rest (length (text_of fs)) refl;
      one-line-long = x.one-line-long;
    }

-- A RECOVERY'S HISTORY IS A RUN WITH THE JOURNAL THAT IT READ

-- A line written where it stands.
pub line-stands : (j l : List ℕ) (u : ℕ) → u + length l ≤ length j → take (length l) (drop u j) ≡ l → sets j u l ≡ j
line-stands j l u h e =
    sets-eq l j u (omega arith)
    ∙ append_assoc (take u j) l (drop (u + length l) j)
    ∙ ap (λ (x : List ℕ). take u j ++ x) (ap₂ ◌++◌ (sym e) (sym (drop-drop (length l) u j)) ∙ take-append-drop (length l) (drop u j))
    ∙ take-append-drop u j

pub line-length : (f : List ℕ) → length (answer_line f) ≡ 2 * length f + 1
line-length f = length-append (digits_of f) (lf ∷ []) ∙ ap (λ (n : ℕ). n + 1) (digits-length f)

pub take-front : (a b : List ℕ) (x : List ℕ) → take (length (a ++ b)) x ≡ a ++ b → take (length a) x ≡ a
take-front a b x e =
    let l : length a ≤ length (a ++ b) = rw length-append (omega arith) in
    sym (take-take (length a) (length (a ++ b)) x l) ∙ ap (take (length a)) e ∙ take_at a b (length a) refl

pub take_back : (a b : List ℕ) (x : List ℕ) → take (length (a ++ b)) x ≡ a ++ b → take (length b) (drop (length a) x) ≡ b
take_back [] b x e = e
take_back (c ∷ a) b [] e = clash (ap is_none e)
  where
    is_none : List ℕ → Bool
    is_none [] = true
    is_none (y ∷ ys) = false
take_back (c ∷ a) b (y ∷ x) e = take_back a b x (ap tail_of e)
  where
    tail_of : List ℕ → List ℕ
    tail_of [] = []
    tail_of (z ∷ zs) = zs

pub after-room : (j f : List ℕ) (u : ℕ) → room_for j u f ≡ true → lines_after j u f ≡ sets j u (answer_line f)
unfolding lines_after
after-room j f u z = rw z refl

pub kept_there : (b : Bus) (f out j : List ℕ) (u : ℕ) → ltb (length out) answer_size ≡ false → u + (2 * length f + 1) ≤ length j → counted b f out ≡ true → room_for j u f ≡ true →
    command_with b f out j u ≡ with_journal (command_of b f out) (lines_after j u f) (u + (2 * length f + 1))
unfolding command_with obeyed_with appended_of
kept_there b f out j u e l k z = let w : ltb (length j) u ≡ false = le-ltb (length j) u (omega arith) in rw (e, w, k, z) refl

-- EVERY RUN WITH A JOURNAL IS ONE FROM A FRESH BUS

pub run_more : {b d : Bus} {j i : List ℕ} {u v : ℕ} {xs : List Exchange} → JournalRun b j u xs d i v → (c : Call) →
    JournalRun b j u (xs ++ (exchange_with d i v c ∷ [])) (command_with d c.frame c.buffer i v).done.bus (command_with d c.frame c.buffer i v).journal (command_with d c.frame c.buffer i v).used
run_more none c = next c none
run_more (next e r) c = next e (run_more r c)

-- A counted frame was read, so its line is not too long.
pub counted-short : (f : List ℕ) (b : Bus) (out : List ℕ) → ltb (length out) answer_size ≡ false → counted b f out ≡ true → 2 * length f ≤ most_digits
counted-short f b out e k = go (parse f) refl
  where
    go : (x : Parsed) → parse f ≡ x → 2 * length f ≤ most_digits
    go (Ok c) p = let l : length f ≤ longest_frame = read_short f c p in omega (arith, l, longest-is)
    go (Err r) p = clash (sym k ∙ refused-uncounted b f out e p)

pub used-at : (fs : List (List ℕ)) (k : ℕ) (t : List ℕ) → All OneLineLong fs → NoLf t → (x : List ℕ) → x ≡ take k (text_of fs) → used_of (x ++ t) ≡ length (text_of (take (lfs x) fs))
unfolding used_of
used-at fs k t s q x f =
    let c = cut-before fs k t s q in
    let y : List ℕ = take k (text_of fs) in
    let l : length (y ++ t) ≡ length (text_of (take (lfs y) fs)) + length (split (y ++ t)).rest =
    ap (λ (z : List ℕ). length z) (sym c.before) ∙ length-append (text_of (take (lfs y) fs)) (split (y ++ t)).rest in
    rw f (omega (arith, l))

-- What holds of every exchange that was not answered 27, and of those that were, holds of all.
pub all-fitting : (xs : List Exchange) → All (λ x. x.outcome.number ≡ EIO → ⊥) (fitting xs) → All (λ x. x.outcome.number ≡ EIO → ⊥) xs
all-fitting [] h = tt
all-fitting (x ∷ xs) h = go (look (fits x)) (λ q. all-fitting xs q)
  where
    go : Seen (fits x) → (All (λ y. y.outcome.number ≡ EIO → ⊥) (fitting xs) → All (λ y. y.outcome.number ≡ EIO → ⊥) xs) → All (λ y. y.outcome.number ≡ EIO → ⊥) (x ∷ xs)
    go (is_true z) ih = let q : All (λ y. y.outcome.number ≡ EIO → ⊥) (x ∷ fitting xs) = rw z at h in (q.0, ih q.1)
    go (is_false z) ih = (λ e. clash (ap (λ (n : ℕ). not (eqb n EFBIG)) (sym e) ∙ z), ih (rw z at h))

-- One command: 27 exactly where all else accepts it and the line has no room.
pub counted-parts : (b : Bus) (f out : List ℕ) → counted b f out ≡ true → ((command_of b f out).outcome.number ≡ 0) × (is_question (parse f) ≡ false)
unfolding counted
counted-parts b f out h = go (look (is_question (parse f)))
  where
    go : Seen (is_question (parse f)) → ((command_of b f out).outcome.number ≡ 0) × (is_question (parse f) ≡ false)
    go (is_true e) = clash (sym (rw e at h))
    go (is_false e) = (eqb-true (command_of b f out).outcome.number 0 (rw e at h), e)

counted-made : (b : Bus) (f out : List ℕ) → (command_of b f out).outcome.number ≡ 0 → is_question (parse f) ≡ false → counted b f out ≡ true
unfolding counted
counted-made b f out n a = rw (a, n) refl

no-room-is : (j f : List ℕ) (u : ℕ) → length j < u + (2 * length f + 1) → room_for j u f ≡ false
no-room-is j f u h = lt-leb (u + (2 * length f + 1)) (length j) h

room-none : (j f : List ℕ) (u : ℕ) → room_for j u f ≡ false → length j < u + (2 * length f + 1)
room-none j f u e = go (look (ltb (length j) (u + (2 * length f + 1))))
  where
    go : Seen (ltb (length j) (u + (2 * length f + 1))) → length j < u + (2 * length f + 1)
    go (is_true z) = ltb-true (length j) (u + (2 * length f + 1)) z
    go (is_false z) = clash (sym (le-leb (u + (2 * length f + 1)) (length j) (ltb-false (length j) (u + (2 * length f + 1)) z)) ∙ e)

pub last-of-all : LastOfAll
unfolding command_with obeyed_with appended_of
last-of-all b c j u l = go (look (ltb (length out) answer_size)) (look (counted b f out)) (look (room_for j u f))
  where
    f : List ℕ
    f = c.frame

    out : List ℕ
    out = c.buffer

    in-range : ltb (length j) u ≡ false
    in-range = le-ltb (length j) u l

    go : Seen (ltb (length out) answer_size) → Seen (counted b f out) → Seen (room_for j u f) → FullExactly b c j u
    go (is_true e) k r = record {
      only = λ n. let d : (command_with b f out j u).done ≡ command_of b f out = rw e refl in absurd (never-full b f out (sym (ap (λ (x : Done). x.outcome.number) d) ∙ n));
      always = λ n a h. absurd (omega (arith, n, short-number b f out e));
    }
    go (is_false e) (is_false k) r = record {
      only = λ n. let d : (command_with b f out j u).done ≡ command_of b f out = rw (e, in-range, k) refl in absurd (never-full b f out (sym (ap (λ (x : Done). x.outcome.number) d) ∙ n));
      always = λ n a h. clash (sym (counted-made b f out n a) ∙ k);
    }
    go (is_false e) (is_true k) (is_true r) = record {
      only = λ n. let d : (command_with b f out j u).done ≡ command_of b f out = rw (e, in-range, k, r) refl in absurd (never-full b f out (sym (ap (λ (x : Done). x.outcome.number) d) ∙ n));
      always = λ n a h. clash (sym r ∙ no-room-is j f u h);
    }
    go (is_false e) (is_true k) (is_false r) = record {
      only = λ n. let p = counted-parts b f out k in (p.0, p.1, room-none j f u r);
      always = λ n a h. let d : (command_with b f out j u).done ≡ refused_by EFBIG b out = rw (e, in-range, k, r) refl in ap (λ (x : Done). x.outcome.number) d ∙ refused-number EFBIG b out e;
    }

-- Only the line is written.
pub after-before : (j l : List ℕ) (u : ℕ) → u + length l ≤ length j → take u (sets j u l) ≡ take u j
after-before j l u h =
    let n : length (take u j) ≡ u = length-take-le u j (omega arith) in
    ap (take u) (sets-eq l j u (omega arith) ∙ append_assoc (take u j) l (drop (u + length l) j)) ∙ take_at (take u j) (l ++ drop (u + length l) j) u n

pub after-behind : (j l : List ℕ) (u : ℕ) → u + length l ≤ length j → drop (u + length l) (sets j u l) ≡ drop (u + length l) j
after-behind j l u h =
    let n : length (take u j) ≡ u = length-take-le u j (omega arith) in
    let m : length (take u j ++ l) ≡ u + length l = length-append (take u j) l ∙ ap (λ (x : ℕ). x + length l) n in
    ap (drop (u + length l)) (sets-eq l j u (omega arith)) ∙ drop_at (take u j ++ l) (drop (u + length l) j) (u + length l) m

pub stopped-fresh : StoppedFresh
unfolding recovered
stopped-fresh old s z h = go (replay 0 fresh_bus (lines_in s)) refl
  where
    go : (x : Replayed) → replay 0 fresh_bus (lines_in s) ≡ x → (recovered old s).bus ≡ fresh_bus
    go (whole b m) e = clash (rw (z, e) at h)
    go (stopped d m) e = rw (z, e) refl
    go (unread d m p) e = rw (z, e) refl

pub nothing_written : NothingWritten
unfolding recovered
nothing_written old s z = rw z refl
