-- Runs with a journal are runs without one, but for the commands that were answered 27; so the third demand holds of them.
-- Assumes nothing.
use Rattle.std.specs.Prelude.{ℕ, suc, ◌≤◌, ◌≡◌, refl, Bool, true, false, not, ◌⊎◌, List, [], ◌∷◌, ◌++◌, length, eqb, ltb}
use Rattle.std.proofs.Common.{sym, ap, subst, ◌∙◌, append_assoc, append-nil, ltb-false, le-ltb, ne_eqb}
use Rattle.laws.specs.Tests.{Seen, Seen.is_true, Seen.is_false, look, clash}
use Rattle.laws.specs.Weights.{keep}
use Rattle.ids.specs.Refusals.{EFBIG}
use Rattle.lines.specs.Line.{room_for}
use Rattle.lines.specs.Chunks.{Found, Found.frame, Found.bad}
use Rattle.answers.specs.Answer.{answer_size, outcome_of}
use Rattle.model.specs.Step.{Call}
use Rattle.model.specs.Book.{Book, feed, feed_all}
use Rattle.view.specs.View.{Bus}
use Rattle.bus_model.specs.Command.{Done, refused_by, command_of}
use Rattle.bus_model.specs.Ran.{Exchange, fed_of, exchange_of, Ran, Ran.goes}
use Rattle.bus_model.specs.Histories.{history_of}
use Rattle.bus_model.specs.Third.{book, Next, Demanded}
use Rattle.journal_model.specs.Journal.{counted, appended_of, obeyed_with, command_with, spare, Replayed, Replayed.whole, Replayed.stopped, Replayed.unread, replay}
use Rattle.journal_model.specs.Exact.{exchange_with}
use Rattle.journal_model.specs.Numbers.{never-full}

-- What comes of a command with a journal is what comes of it without one; or it is refused with 27, and the bus stays.
pub data SameOrFull (b : Bus) (c : Call) (j : List ℕ) (u : ℕ) : Type 0 where
  same : (command_with b c.frame c.buffer j u).done ≡ command_of b c.frame c.buffer → SameOrFull b c j u
  full : (command_with b c.frame c.buffer j u).done ≡ refused_by EFBIG b c.buffer → answer_size ≤ length c.buffer → SameOrFull b c j u

-- The number of a refusal, where the answer buffer is long enough.
refused-number : (n : ℕ) (b : Bus) (out : List ℕ) → answer_size ≤ length out → (refused_by n b out).outcome.number ≡ n
unfolding outcome_of
refused-number n b out l = rw (le-ltb (length out) answer_size l) refl

pub same-or-full : (b : Bus) (c : Call) (j : List ℕ) (u : ℕ) → u ≤ length j → SameOrFull b c j u
unfolding command_with obeyed_with appended_of
same-or-full b c j u l = go (look (ltb (length c.buffer) answer_size)) (look (counted b c.frame c.buffer)) (look (room_for j u c.frame))
  where
    in-range : ltb (length j) u ≡ false
    in-range = le-ltb (length j) u l

    go : Seen (ltb (length c.buffer) answer_size) → Seen (counted b c.frame c.buffer) → Seen (room_for j u c.frame) → SameOrFull b c j u
    go (is_true e) k r = same (rw e refl)
    go (is_false e) (is_false k) r = same (rw (e, in-range, k) refl)
    go (is_false e) (is_true k) (is_true r) = same (rw (e, in-range, k, r) refl)
    go (is_false e) (is_true k) (is_false r) = full (rw (e, in-range, k, r) refl) (ltb-false (length c.buffer) answer_size e)

-- The exchanges but those that were answered 27.
abbrev pub fits : Exchange → Bool
fits x = not (eqb x.outcome.number EFBIG)

abbrev pub fitting : List Exchange → List Exchange
fitting xs = keep fits xs

pub full-unfit : (b : Bus) (c : Call) (j : List ℕ) (u : ℕ) → (command_with b c.frame c.buffer j u).done ≡ refused_by EFBIG b c.buffer → answer_size ≤ length c.buffer →
    fits (exchange_with b j u c) ≡ false
full-unfit b c j u e l = ap (λ (n : ℕ). not (eqb n EFBIG)) (ap (λ (d : Done). d.outcome.number) e ∙ refused-number EFBIG b c.buffer l)

pub same-exchange : (b : Bus) (c : Call) (j : List ℕ) (u : ℕ) → (command_with b c.frame c.buffer j u).done ≡ command_of b c.frame c.buffer → exchange_with b j u c ≡ exchange_of b c
same-exchange b c j u e = ap (λ (d : Done). record { before = b; call = c; outcome = d.outcome; after = d.out }) e

pub command-fits : (b : Bus) (c : Call) → fits (exchange_of b c) ≡ true
command-fits b c = ap not (ne_eqb (command_of b c.frame c.buffer).outcome.number EFBIG (never-full b c.frame c.buffer))

-- The book is the same: it is fed nothing of a refused command.
skipped : (k : Book) (x : Exchange) → fits x ≡ false → feed k (fed_of x) ≡ k
unfolding feed
skipped k x e = rw (ne_eqb x.outcome.number 0 (λ z. clash (ap (λ (n : ℕ). not (eqb n EFBIG)) (sym z) ∙ e))) refl

pub book-same : (ys : List Exchange) (k : Book) → feed_all k (history_of ys) ≡ feed_all k (history_of (fitting ys))
unfolding feed_all
book-same [] k = refl
book-same (x ∷ ys) k = go (look (fits x)) (λ m. book-same ys m)
  where
    go : Seen (fits x) → ((m : Book) → feed_all m (history_of ys) ≡ feed_all m (history_of (fitting ys))) → feed_all k (history_of (x ∷ ys)) ≡ feed_all k (history_of (fitting (x ∷ ys)))
    go (is_true z) ih = rw z (ih (feed k (fed_of x)))
    go (is_false z) ih = rw z (ap (λ (m : Book). feed_all m (history_of ys)) (skipped k x z) ∙ ih k)

-- The third demand, of the exchanges xs of a run with a journal that left the bus b and the journal j with u bytes used. A command that was answered 27 is refused, so it is no part of
-- the history: the others are a run without a journal, and the book of all is theirs.
pub record DemandThree (xs : List Exchange) (b : Bus) (j : List ℕ) (u : ℕ) : Type 0 where
  pub run : Demanded (fitting xs) b
  pub same : book xs ≡ book (fitting xs)
  -- The next command: it is refused with 27, or demanded is of it what is demanded of one without a journal.
  pub next : (c : Call) → ((command_with b c.frame c.buffer j u).done ≡ refused_by EFBIG b c.buffer) ⊎ Next (fitting xs) (exchange_with b j u c)

-- The history of a recovery: the journal's frames with the answers that carrying them out gives.
abbrev pub replay_call : List ℕ → Call
replay_call f = record { frame = f; buffer = spare }

abbrev pub replay_history : Bus → List Found → List Exchange
replay_history b [] = []
replay_history b (bad place ∷ ls) = []
replay_history b (frame f ∷ ls) = exchange_of b (replay_call f) ∷ replay_history (command_of b f spare).bus ls

-- The bus that a replay came to; and whether it came to the end.
abbrev pub bus_found : Replayed → Bus
bus_found (whole b n) = b
bus_found (stopped b n) = b
bus_found (unread b n p) = b

abbrev pub is_whole : Replayed → Bool
is_whole (whole b n) = true
is_whole (stopped b n) = false
is_whole (unread b n p) = false

pub replay-ran : (ls : List Found) (m n : ℕ) (b d : Bus) (zs : List Exchange) → replay m b ls ≡ whole d n → Ran zs b → Ran (zs ++ replay_history b ls) d
unfolding replay
replay-ran [] m n b d zs e r = let z : b ≡ d = ap (λ (x : Replayed). bus_found x) e in rw append-nil (subst (λ (x : Bus). Ran zs x) z r)
replay-ran (bad place ∷ ls) m n b d zs e r = clash (sym (ap is_whole e))
replay-ran (frame f ∷ ls) m n b d zs e r = go (look (counted b f spare)) (λ ts h. replay-ran ls (suc m) n (command_of b f spare).bus d ts h)
  where
    go : Seen (counted b f spare) → ((ts : List Exchange) → replay (suc m) (command_of b f spare).bus ls ≡ whole d n → Ran ts (command_of b f spare).bus → Ran (ts ++ replay_history (command_of b f spare).bus ls) d) →
        Ran (zs ++ replay_history b (frame f ∷ ls)) d
    go (is_false k) ih = clash (sym (ap is_whole (rw k at e)))
    go (is_true k) ih =
        rw (sym (append_assoc zs (exchange_of b (replay_call f) ∷ []) (replay_history (command_of b f spare).bus ls)))
        (ih (zs ++ (exchange_of b (replay_call f) ∷ [])) (rw k at e) (goes (replay_call f) r))
