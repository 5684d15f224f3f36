-- What the functions of recovery give, step by step.
-- Assumes nothing.
use Rattle.std.specs.Prelude.{ℕ, zero, suc, ◌+◌, Bool, true, false, List, [], take, drop, Result, Ok, Err}
use Rattle.laws.specs.Tests.{pick}
use Rattle.lines.specs.Line.{read_line, frame_after}
use Rattle.lines.specs.declared.LineRead.{LineRead}
use Rattle.lines.specs.declared.LineRead.TheVariants.{Frame, Bad, Piece}
use Rattle.view.specs.View.{Bus}
use Rattle.bus_model.specs.Command.{command_of}
use Rattle.journal_model.specs.declared.Recovered.{Recovered}
use Rattle.journal_model.specs.declared.Recovered.TheVariants as found
use Rattle.journal_model.specs.Journal.{counted, spare, Recovery, recovery_from}
use Rattle.recovery.specs.declared.Halt.{Halt}
use Rattle.recovery.specs.declared.Halt.TheVariants as halt

-- A frame of a journal: whether it is counted, and the bus.
pub record Tried : Type 0 where
  pub was : Bool
  pub bus : Bus

abbrev pub tried_of : Bool → Bus → Tried
tried_of w b = record { was = w; bus = b }

unfoldable pub tried : Bus → List ℕ → Tried
tried b f = pick (counted b f spare) (tried_of true (command_of b f spare).bus) (tried_of false b)

-- A line of a journal, by what was read and by its characters: where the next one starts, or what halts the replay.
abbrev pub Step : Type 0
Step = Result ℕ Halt

pub record Stepped : Type 0 where
  pub step : Step
  pub bus : Bus

abbrev pub stepped_of : Step → Bus → Stepped
stepped_of x b = record { step = x; bus = b }

unfoldable pub frame_step : Bus → List ℕ → ℕ → Stepped
frame_step b f next = pick (counted b f spare) (stepped_of (Ok next) (command_of b f spare).bus) (stepped_of (Err halt.Refused) b)

unfoldable pub read_step : Bus → List ℕ → LineRead → Stepped
read_step b fr (Frame m next) = frame_step b (take m fr) next
read_step b fr (Bad place next) = stepped_of (Err (halt.Unread place)) b
read_step b fr (Piece place) = stepped_of (Err halt.End) b

unfoldable pub line_step : Bus → List ℕ → Stepped
line_step b s = read_step b (frame_after s []) (read_line s)

-- The lines of s from the place at on, at most k, behind n others.
abbrev pub halted_at : Halt → ℕ → ℕ → Recovered
halted_at halt.End n at = found.Whole n at
halted_at halt.Refused n at = found.Stopped (n + 1)
halted_at (halt.Unread place) n at = found.Unread (n + 1) place

abbrev pub on_next : {A : Type 0} → Step → (ℕ → A) → (Halt → A) → A
on_next (Ok k) f h = f k
on_next (Err x) f h = h x

unfoldable pub replay_from : ℕ → ℕ → ℕ → Bus → List ℕ → Recovery
replay_from zero n at b s = recovery_from (found.Whole n at) b
replay_from (suc k) n at b s =
    let x = line_step b (drop at s) in
    on_next x.step (λ next. replay_from k (n + 1) (at + next) x.bus s) (λ y. recovery_from (halted_at y n at) x.bus)
