-- What stops a recovery, and what is kept: by the bytes of a frame, so that no definition above decides it.
-- Assumes nothing.
use Rattle.std.specs.Prelude.{ℕ, suc, ◌≡◌, refl, true, false, List, [], ◌∷◌, ◌++◌}
use Rattle.std.proofs.Common.{sym, ap, ap₂}
use Rattle.laws.specs.Tests.{Seen, Seen.is_true, Seen.is_false, look, clash}
use Rattle.frames.specs.Frame.{frame_length, parse_open, parse_quota, parse_rest, parse_other, parse}
use Rattle.lines.specs.Chunks.{Found, Found.frame, Found.bad}
use Rattle.view.specs.View.{Bus}
use Rattle.bus_model.specs.Command.{sized_ok, command_of, fresh_bus}
use Rattle.journal_model.specs.declared.Recovered.{Recovered}
use Rattle.journal_model.specs.declared.Recovered.TheVariants as found
use Rattle.journal_model.specs.Journal.{is_question, counted, spare, Replayed, Replayed.whole, Replayed.stopped, Replayed.unread, replay, lines_in, Recovery, recovery_from, recovered, number_in, line_in, place_in, used_in, told_from, told_of}
use Rattle.journal_model.specs.Runs.{bus_found, is_whole}

-- "A line that is refused in the replay, or is a question, stops recovery with 5, its line number, from 1, and a fresh bus": behind lines that are carried out and lead to the
-- bus d, a frame whose number is not 0 there, or that is a question, whatever stands behind it.
abbrev pub LineStops : Type 0
LineStops =
    (old : Bus) (s f : List ℕ) (ls ks : List Found) (d : Bus) (n : ℕ) → sized_ok old ≡ true → lines_in s ≡ ls ++ (frame f ∷ ks) → replay 0 fresh_bus ls ≡ whole d n → counted d f spare ≡ false →
    recovered old s ≡ recovery_from (found.Stopped (suc n)) fresh_bus

-- So does one that the reader refuses, with the place of its fault.
abbrev pub UnreadStops : Type 0
UnreadStops =
    (old : Bus) (s : List ℕ) (place : ℕ) (ls ks : List Found) (d : Bus) (n : ℕ) → sized_ok old ≡ true → lines_in s ≡ ls ++ (bad place ∷ ks) → replay 0 fresh_bus ls ≡ whole d n →
    recovered old s ≡ recovery_from (found.Unread (suc n) place) fresh_bus

-- The two questions, and one of the others.
pub record Questions : Type 0 where
  pub quota : is_question (parse (9 ∷ 0 ∷ 0 ∷ [])) ≡ true
  pub holders : is_question (parse (10 ∷ 0 ∷ 0 ∷ 0 ∷ 0 ∷ 0 ∷ 0 ∷ 0 ∷ 0 ∷ 8 ∷ [])) ≡ true
  pub command : is_question (parse (1 ∷ 0 ∷ 0 ∷ [])) ≡ false
  pub uncounted : (b : Bus) (f out : List ℕ) → is_question (parse f) ≡ true → counted b f out ≡ false

-- Lines behind lines.
pub replay-behind : (ls ks : List Found) (m n : ℕ) (b d : Bus) → replay m b ls ≡ whole d n → replay m b (ls ++ ks) ≡ replay n d ks
unfolding replay
replay-behind [] ks m n b d e =
    let x : b ≡ d = ap (λ (r : Replayed). bus_found r) e in
    let y : m ≡ n = ap (λ (r : Replayed). lines r) e in
    ap₂ (λ (k : ℕ) (c : Bus). replay k c ks) y x
  where
    lines : Replayed → ℕ
    lines (whole c k) = k
    lines (stopped c k) = k
    lines (unread c k p) = k
replay-behind (bad place ∷ ls) ks m n b d e = clash (sym (ap is_whole e))
replay-behind (frame f ∷ ls) ks m n b d e = go (look (counted b f spare)) (λ h. replay-behind ls ks (suc m) n (command_of b f spare).bus d h)
  where
    go : Seen (counted b f spare) → (replay (suc m) (command_of b f spare).bus ls ≡ whole d n → replay (suc m) (command_of b f spare).bus (ls ++ ks) ≡ replay n d ks) →
        replay m b (frame f ∷ (ls ++ ks)) ≡ replay n d ks
    go (is_false k) ih = clash (sym (ap is_whole (rw k at e)))
    go (is_true k) ih = rw k (ih (rw k at e))

pub questions : Questions
unfolding parse counted parse_other frame_length parse_rest parse_quota parse_open
questions = record { quota = refl; holders = refl; command = refl; uncounted = λ b f out e. rw e refl }

-- A recovery that is told in numbers.
pub told-as : {n l p u : ℕ} {r : Recovered} → (n ≡ number_in r) × (l ≡ line_in r) × (p ≡ place_in r) × (u ≡ used_in r) → {b : Bus} {x : Recovery} → recovery_from r b ≡ x →
    told_from n l p u b ≡ told_of x
told-as {r = r} e {b = b} q = rw (e.0, e.1, e.2, e.3) (ap told_of q)
