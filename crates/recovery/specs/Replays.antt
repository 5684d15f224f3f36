-- The code's replay, by its returns; and that its reading of the bytes kept, line by line, is the replay of their lines.
-- Assumes nothing.
use Prim.Native.Nat.{ℕ, zero, suc, ◌+◌, ◌-◌, ◌/◌, ◌≤◌, ◌<◌, min}
use Rattle.std.specs.Prelude.{◌≡◌, Bool, false, take, eqb, ltb, Ok, Err}
use Rattle.std.proofs.Math.Path.{refl, sym, ap}
use Rattle.std.proofs.Common.{subst, ◌∙◌, add-one, take_at, take_all, drop-drop, ltb-true, ltb-false}
use Rattle.std.proofs.Math.Bool.{true}
use mathlib.Core.List.{List, []}
use native.Mathlib.Omega.{arith}
use Rattle.std.proofs.Math.ListN.{length, drop, length-drop, drop_of_length-le}
use Rattle.laws.specs.Tests.{pick, Seen, Seen.is_true, Seen.is_false, look, clash}
use Rattle.laws.specs.Build.{build, build-length}
use Rattle.ids.specs.Refusals.{EIO}
use Rattle.frames.specs.Frame.{parse}
use Rattle.lines.specs.Line.{line_length, fault_place, well_formed, bytes_of, read_line, frame_after, after_read, pair_at}
use Rattle.lines.specs.LineLaws.{Fits, read_fits, line-le}
use Rattle.lines.specs.Chunks.{Split, parts, split, Found.frame, Found.bad, found as line_found, NoLf}
use Rattle.lines.specs.ChunkLaws.{first-line, read_whole, piece-plain, piece-read, frame-bytes, split-piece}
use Rattle.lines.specs.declared.LineRead.{LineRead}
use Rattle.lines.specs.declared.LineRead.TheVariants.{Frame, Bad, Piece}
use Rattle.answers.specs.declared.Outcome.{Outcome}
use Rattle.answers.specs.Answer.{answer_size}
use Rattle.view.specs.View.{Bus}
use Rattle.bus_model.specs.Command.{Done, done_of, sized_ok, command_of, fresh_bus, fresh_of, fresh_number}
use Rattle.bus_model.specs.Apart.{any-buffer}
use Rattle.recovery.specs.declared.Halt.{Halt}
use Rattle.recovery.specs.declared.Halt.TheVariants as halt
use Rattle.journal_model.specs.declared.Recovered.{Recovered}
use Rattle.journal_model.specs.declared.Recovered.TheVariants as found
use Rattle.journal_model.specs.Journal.{is_question, counted, spare, replay, lines_in, used_of, Recovery, recovery_from, recovery_of, recovered, wholly}
use Rattle.recovery.specs.Steps.{Tried, tried_of, tried, Step, Stepped, stepped_of, frame_step, read_step, line_step, halted_at, on_next, replay_from}
use Rattle.journal_model.specs.Exact.{counted-any, uncounted-leaves, spare-large}
use Rattle.frames.specs.Lengths.{longest_frame}

-- A FRAME

pub tried-question : (b : Bus) (f : List ℕ) {q : Bool} → q ≡ is_question (parse f) → q ≡ true → tried_of false b ≡ tried b f
unfolding tried counted
tried-question b f e t = rw (← e, t) refl

counted-plain : (b : Bus) (f out : List ℕ) (n : ℕ) → is_question (parse f) ≡ false → n ≡ (command_of b f out).outcome.number → counted b f out ≡ eqb n 0
unfolding counted
counted-plain b f out n a x = rw (a, x) refl

pub tried-command : (b : Bus) (f out : List ℕ) → length out ≡ answer_size → {q : Bool} → q ≡ is_question (parse f) → q ≡ false → {o : Outcome} {b' : Bus} {out' : List ℕ} →
    done_of o b' out' ≡ command_of b f out → tried_of (eqb o.number 0) b' ≡ tried b f
unfolding tried
tried-command b f out l {q = q} eq n {o = o} {b' = b'} d =
    let long : answer_size ≤ length out = omega arith in
    let a : is_question (parse f) ≡ false = sym eq ∙ n in
    let x : o.number ≡ (command_of b f out).outcome.number = ap (λ (y : Done). y.outcome.number) d in
    let w : counted b f out ≡ eqb o.number 0 = counted-plain b f out o.number a x in
    let k : counted b f spare ≡ eqb o.number 0 = sym (counted-any b f out spare long spare-large) ∙ w in
    let u : b' ≡ (command_of b f out).bus = ap (λ (y : Done). y.bus) d in
    go (look (eqb o.number 0)) long w k u
  where
    go : Seen (eqb o.number 0) → answer_size ≤ length out → counted b f out ≡ eqb o.number 0 → counted b f spare ≡ eqb o.number 0 → b' ≡ (command_of b f out).bus →
        tried_of (eqb o.number 0) b' ≡ pick (counted b f spare) (tried_of true (command_of b f spare).bus) (tried_of false b)
    go (is_true z) long w k u = rw (k, z) (ap (tried_of true) (u ∙ (any-buffer b f out spare long spare-large).bus))
    go (is_false z) long w k u = rw (k, z) (ap (tried_of false) (u ∙ uncounted-leaves b f out (w ∙ z)))

-- A LINE

take-least : (fr : List ℕ) (m n : ℕ) → length fr ≡ longest_frame → n ≡ min m longest_frame → take n fr ≡ take m fr
take-least fr m n l e = go (look (ltb longest_frame m))
  where
    go : Seen (ltb longest_frame m) → take n fr ≡ take m fr
    go (is_false z) = let q : n ≡ m = omega (arith, ltb-false longest_frame m z) in ap (λ (k : ℕ). take k fr) q
    go (is_true z) = take_all n fr (omega (arith, ltb-true longest_frame m z)) ∙ sym (take_all m fr (omega (arith, ltb-true longest_frame m z)))

module _ (b : Bus) (fr : List ℕ) {read : LineRead} where
  module _ (l : length fr ≡ longest_frame) {m next n : ℕ} (e : read ≡ Frame m next) (en : n ≡ min m longest_frame) {w : Bool} {b' : Bus} (d : tried_of w b' ≡ tried b (take n fr)) where
    kept_frame : tried_of w b' ≡ tried b (take m fr)
    kept_frame = d ∙ ap (tried b) (take-least fr m n l en)

    pub read-refused : w ≡ false → stepped_of (Err halt.Refused) b' ≡ read_step b fr read
    unfolding read_step frame_step tried
    read-refused z = rw e (go (look (counted b (take m fr) spare)) kept_frame)
      where
        go : Seen (counted b (take m fr) spare) → tried_of w b' ≡ tried b (take m fr) → stepped_of (Err halt.Refused) b' ≡ frame_step b (take m fr) next
        go (is_true y) h = clash (sym (ap (λ (t : Tried). t.was) (rw y at h)) ∙ z)
        go (is_false y) h = rw y (ap (λ (t : Tried). stepped_of (Err halt.Refused) t.bus) (rw y at h))

    pub read_next : w ≡ true → stepped_of (Ok next) b' ≡ read_step b fr read
    unfolding read_step frame_step tried
    read_next z = rw e (go (look (counted b (take m fr) spare)) kept_frame)
      where
        go : Seen (counted b (take m fr) spare) → tried_of w b' ≡ tried b (take m fr) → stepped_of (Ok next) b' ≡ frame_step b (take m fr) next
        go (is_false y) h = clash (sym z ∙ ap (λ (t : Tried). t.was) (rw y at h))
        go (is_true y) h = rw y (ap (λ (t : Tried). stepped_of (Ok next) t.bus) (rw y at h))

  pub read-bad : {place next : ℕ} → read ≡ Bad place next → stepped_of (Err (halt.Unread place)) b ≡ read_step b fr read
  unfolding read_step
  read-bad e = rw e refl

  pub read-piece : {place : ℕ} → read ≡ Piece place → stepped_of (Err halt.End) b ≡ read_step b fr read
  unfolding read_step
  read-piece e = rw e refl

-- The frame buffer's old contents do not count.
any-frame : (b : Bus) (s x y : List ℕ) (r : LineRead) → read_step b (after_read r s x) r ≡ read_step b (after_read r s y) r
unfolding read_step
any-frame b s x y (Frame m next) =
    ap (λ (f : List ℕ). frame_step b f next) (take_at (build (pair_at s) m) (drop m x) m (build-length (pair_at s) m) ∙ sym (take_at (build (pair_at s) m) (drop m y) m (build-length (pair_at s) m)))
any-frame b s x y (Bad place next) = refl
any-frame b s x y (Piece place) = refl

pub line-stepped : (b : Bus) (s x : List ℕ) {read : LineRead} {fr : List ℕ} → read ≡ read_line s → fr ≡ frame_after s x → {d : Stepped} → d ≡ read_step b fr read → d ≡ line_step b s
unfolding line_step frame_after
line-stepped b s x er ef d = d ∙ rw (ef, er) (any-frame b s x [] (read_line s))

-- A line that was carried out lies in the input.
abbrev InStep : List ℕ → Step → Type 0
InStep s (Ok k) = (0 < k) × (k ≤ length s)
InStep s (Err x) = Unit {0}

step_in : (b : Bus) (s : List ℕ) → InStep s (line_step b s).step
unfolding line_step read_step frame_step
step_in b s = go (read_line s) (read_fits s)
  where
    on : (f : List ℕ) (next : ℕ) → (0 < next) × (next ≤ length s) → Seen (counted b f spare) → InStep s (frame_step b f next).step
    on f next h (is_true z) = rw z h
    on f next h (is_false z) = rw z tt

    go : (r : LineRead) → Fits s r → InStep s (read_step b (frame_after s []) r).step
    go (Frame m next) f = on (take m (frame_after s [])) next (f.1, f.2) (look (counted b (take m (frame_after s [])) spare))
    go (Bad place next) f = tt
    go (Piece place) f = tt

-- THE LOOP

module _ (s : List ℕ) {W : Recovery} (most n at : ℕ) (b : Bus) (e : W ≡ replay_from (most - n) n at b s) where
  pub replay-done : most ≤ n → recovery_from (found.Whole n at) b ≡ W
  unfolding replay_from
  replay-done h = let z : most - n ≡ 0 = omega arith in sym (e ∙ ap (λ (k : ℕ). replay_from k n at b s) z)

  module _ (h : n < most) {x : Step} {b' : Bus} (d : stepped_of x b' ≡ line_step b (drop at s)) where
    turn : W ≡ on_next x (λ next. replay_from (most - (n + 1)) (n + 1) (at + next) b' s) (λ y. recovery_from (halted_at y n at) b')
    unfolding replay_from
    turn =
        let z : most - n ≡ suc (most - (n + 1)) = omega arith in
        e ∙ ap (λ (k : ℕ). replay_from k n at b s) z
        ∙ sym (ap (λ (y : Stepped). on_next y.step (λ next. replay_from (most - (n + 1)) (n + 1) (at + next) y.bus s) (λ z. recovery_from (halted_at z n at) y.bus)) d)

    pub replay-next : {k : ℕ} → x ≡ Ok k → W ≡ replay_from (most - (n + 1)) (n + 1) (at + k) b' s
    replay-next {k = k} q = turn ∙ rw q refl

    pub next-in : {k : ℕ} → x ≡ Ok k → (0 < k) × (k ≤ length s - at)
    next-in {k = k} q =
        let i : InStep (drop at s) (Ok k) = subst (λ (y : Step). InStep (drop at s) y) (ap (λ (y : Stepped). y.step) (sym d) ∙ q) (step_in b (drop at s)) in
        (i.0, rw length-drop at i.1)

-- A WHOLE RECOVERY

module _ (b : Bus) (t : List ℕ) where
  step-piece : {place : ℕ} → read_line t ≡ Piece place → line_step b t ≡ stepped_of (Err halt.End) b
  unfolding line_step read_step
  step-piece r = rw r refl

  step-bad : {place next : ℕ} → read_line t ≡ Bad place next → line_step b t ≡ stepped_of (Err (halt.Unread place)) b
  unfolding line_step read_step
  step-bad r = rw r refl

  step-frame : {m next : ℕ} → read_line t ≡ Frame m next → {f : List ℕ} → take m (frame_after t []) ≡ f → line_step b t ≡ frame_step b f next
  unfolding line_step read_step
  step-frame {next = next} r e = rw r (ap (λ (x : List ℕ). frame_step b x next) e)

found-bad : (l : List ℕ) → well_formed l ≡ false → line_found l ≡ bad (fault_place l)
unfolding line_found
found-bad l w = rw w refl

found-frame : (l : List ℕ) → well_formed l ≡ true → line_found l ≡ frame (bytes_of l)
unfolding line_found
found-frame l w = rw w refl

-- What the code's replay leaves is made fresh where it was stopped.
abbrev fresh_if_stopped : Recovery → Recovery
fresh_if_stopped r = pick (wholly r.result) r (recovery_from r.result fresh_bus)

module _ (s : List ℕ) where
  abbrev OnTo : ℕ → Type 0
  OnTo at = (at ≤ length s) × (length (split (drop at s)).rest ≡ length (split s).rest)

  at-end : (at : ℕ) → OnTo at → (split (drop at s)).rest ≡ drop at s → used_of s ≡ at
  unfolding used_of
  at-end at o e =
      let l : length (split s).rest ≡ length s - at = sym o.1 ∙ ap (λ (x : List ℕ). length x) e ∙ length-drop at s in
      omega (arith, o.0, l)

  replay-from : (k n at : ℕ) (b : Bus) → length s ≤ at + k → OnTo at → fresh_if_stopped (replay_from k n at b s) ≡ recovery_of s (replay n b (lines_in (drop at s)))
  unfolding replay_from split replay frame_step
  replay-from zero n at b h o =
      let l : length s ≤ at = omega arith in
      let e : drop at s ≡ [] = drop_of_length-le s l in
      let u : used_of s ≡ at = at-end at o (rw e refl) in
      rw (e, u) refl
  replay-from (suc k) n at b h o = go (look (ltb (line_length t) (length t))) (λ m a d. replay-from k m a d)
    where
      t : List ℕ
      t = drop at s

      l : List ℕ
      l = take (line_length t) t

      next : ℕ
      next = line_length t + 1

      Goal : Type 0
      Goal = fresh_if_stopped (replay_from (suc k) n at b s) ≡ recovery_of s (replay n b (lines_in t))

      piece : NoLf t → Goal
      piece p =
          let r : read_line t ≡ Piece (fault_place t) = piece-read t p in
          let x : split t ≡ parts [] t = split-piece t p in
          let u : used_of s ≡ at = at-end at o (ap (λ (y : Split). y.rest) x) in
          let z : line_step b t ≡ stepped_of (Err halt.End) b = step-piece b t r in
          rw (z, x, u) refl

      line : line_length t < length t → Seen (well_formed l) →
          ((m a : ℕ) (d : Bus) → length s ≤ a + k → OnTo a → fresh_if_stopped (replay_from k m a d s) ≡ recovery_of s (replay m d (lines_in (drop a s)))) → Goal
      line q (is_false w) ih =
          let r : read_line t ≡ Bad (fault_place l) next = read_whole t q ∙ rw w refl in
          let z : line_step b t ≡ stepped_of (Err (halt.Unread (fault_place l))) b = step-bad b t r in
          let y : n + 1 ≡ suc n = add-one n in
          let f : line_found l ≡ bad (fault_place l) = found-bad l w in
          rw (z, first-line t q, f, y) refl
      line q (is_true w) ih = on (look (counted b (bytes_of l) spare))
        where
          r : read_line t ≡ Frame (line_length t / 2) next
          r = read_whole t q ∙ rw w refl

          f : line_found l ≡ frame (bytes_of l)
          f = found-frame l w

          behind : drop (at + next) s ≡ drop next t
          behind = sym (drop-drop next at s)

          z : line_step b t ≡ frame_step b (bytes_of l) next
          z = step-frame b t r (frame-bytes t [] (line_length t) next (line-le t) r)

          onto : OnTo (at + next)
          onto = (omega (arith, o.0, rw length-drop at q), rw behind (sym (ap (λ (x : Split). length x.rest) (first-line t q)) ∙ o.1))

          on : Seen (counted b (bytes_of l) spare) → Goal
          on (is_false c) =
              let y : n + 1 ≡ suc n = add-one n in
              rw (z, c, first-line t q, f, c, y) refl
          on (is_true c) =
              let y : n + 1 ≡ suc n = add-one n in
              rw (z, c, first-line t q, f, c) (ih (n + 1) (at + next) (command_of b (bytes_of l) spare).bus (omega arith) onto ∙ rw (behind, y) refl)

      go : Seen (ltb (line_length t) (length t)) →
          ((m a : ℕ) (d : Bus) → length s ≤ a + k → OnTo a → fresh_if_stopped (replay_from k m a d s) ≡ recovery_of s (replay m d (lines_in (drop a s)))) → Goal
      go (is_true e) ih = line (ltb-true (line_length t) (length t) e) (look (well_formed l)) ih
      go (is_false e) ih = piece (piece-plain t (omega (arith, line-le t, ltb-false (line_length t) (length t) e)))

  pub replay-from-is : (b : Bus) → fresh_if_stopped (replay_from (length s) 0 0 b s) ≡ recovery_of s (replay 0 b (lines_in s))
  replay-from-is b = replay-from (length s) 0 0 b (omega arith) (omega arith, refl)

-- RECOVER, by its returns

pub recover-wrong-length : (b : Bus) (s : List ℕ) {n : ℕ} {b' : Bus} → (n ≡ fresh_number b) × (b' ≡ fresh_of b) → (n ≡ 0 → ⊥) → recovery_from found.WrongLength b' ≡ recovered b s
unfolding recovered fresh_number fresh_of
recover-wrong-length b s {b' = b'} f h = go (look (sized_ok b))
  where
    go : Seen (sized_ok b) → recovery_from found.WrongLength b' ≡ recovered b s
    go (is_true z) = absurd (h (f.0 ∙ rw z refl))
    go (is_false z) = rw (f.1, z) refl

module _ (b : Bus) (s : List ℕ) {n : ℕ} {b₁ : Bus} (f : (n ≡ fresh_number b) × (b₁ ≡ fresh_of b)) (h : n ≡ 0) {r : Recovered} {b₂ : Bus} (d : recovery_from r b₂ ≡ replay_from (length s) 0 0 b₁ s) where
  fit : sized_ok b ≡ true
  unfolding fresh_number
  fit = go (look (sized_ok b))
    where
      go : Seen (sized_ok b) → sized_ok b ≡ true
      go (is_true z) = z
      go (is_false z) = let q : fresh_number b ≡ EIO = rw z refl in absurd (omega (arith, f.0, q, h))

  made : b₁ ≡ fresh_bus
  unfolding fresh_of
  made = f.1 ∙ rw fit refl

  found-is : fresh_if_stopped (recovery_from r b₂) ≡ recovered b s
  unfolding recovered
  found-is =
      let x : recovered b s ≡ recovery_of s (replay 0 fresh_bus (lines_in s)) = rw fit refl in
      ap fresh_if_stopped d ∙ ap (λ (y : Bus). fresh_if_stopped (replay_from (length s) 0 0 y s)) made ∙ replay-from-is s fresh_bus ∙ sym x

  pub recover-whole : wholly r ≡ true → recovery_from r b₂ ≡ recovered b s
  recover-whole w = rw w at found-is

  pub recover-stopped : wholly r ≡ false → {b₃ : Bus} → sized_ok b₂ ≡ true → b₃ ≡ fresh_of b₂ → recovery_from r b₃ ≡ recovered b s
  unfolding fresh_of
  recover-stopped w {b₃ = b₃} z e = let q : b₃ ≡ fresh_bus = e ∙ rw z refl in rw q (rw w at found-is)

  -- What is made fresh again, and has the lengths still, is the fresh bus.
  pub recover-again : wholly r ≡ false → {b₃ : Bus} → sized_ok b₃ ≡ true → b₃ ≡ fresh_of b₂ → recovery_from r b₃ ≡ recovered b s
  unfolding fresh_of
  recover-again w {b₃ = b₃} z e = go (look (sized_ok b₂))
    where
      go : Seen (sized_ok b₂) → recovery_from r b₃ ≡ recovered b s
      go (is_true y) = recover-stopped w y e
      go (is_false y) = let q : b₃ ≡ b₂ = e ∙ rw y refl in clash (sym z ∙ ap sized_ok q ∙ y)

-- THE LOOP'S INVARIANT

pub record ReplayInvariant (s : List ℕ) (most : ℕ) (b₀ : Bus) (b : Bus) (out : List ℕ) (n at : ℕ) : Type 0 where
  pub few : n ≤ most
  pub inside : at ≤ length s
  pub room : length out ≡ answer_size
  pub comes : replay_from most 0 0 b₀ s ≡ replay_from (most - n) n at b s

-- The part of s from the place at on, as the code lends it.
from-part : (b : Bus) (s : List ℕ) (at : ℕ) → line_step b (take (length s - at) (drop at s)) ≡ line_step b (drop at s)
from-part b s at = ap (line_step b) (take_all (length s - at) (drop at s) (rw length-drop (omega arith)))

pub invariant-first : (s : List ℕ) (most : ℕ) (b : Bus) (out : List ℕ) → length out ≡ answer_size → ReplayInvariant s most b b out 0 0
invariant-first s most b out h = record { few = omega arith; inside = omega arith; room = h; comes = let z : most ≡ most - 0 = omega arith in ap (λ (k : ℕ). replay_from k 0 0 b s) z }

pub invariant-next : {s : List ℕ} {most : ℕ} {b₀ b : Bus} {out : List ℕ} {n at : ℕ} → ReplayInvariant s most b₀ b out n at → n < most → {x : Step} {b' : Bus} → stepped_of x b' ≡ line_step b (take (length s - at) (drop at s)) →
    {k : ℕ} → x ≡ Ok k → {out' : List ℕ} → length out' ≡ length out → ReplayInvariant s most b₀ b' out' (n + 1) (at + k)
invariant-next {s = s} {most = most} {b = b} {n = n} {at = at} i h d q l =
    let z = next-in s most n at b i.comes h (d ∙ from-part b s at) q in
    record { few = omega arith; inside = omega (arith, z.1, i.inside); room = l ∙ i.room; comes = replay-next s most n at b i.comes h (d ∙ from-part b s at) q }

pub invariant-in : {s : List ℕ} {most : ℕ} {b₀ b : Bus} {out : List ℕ} {n at : ℕ} → ReplayInvariant s most b₀ b out n at → n < most → {x : Step} {b' : Bus} → stepped_of x b' ≡ line_step b (take (length s - at) (drop at s)) →
    {k : ℕ} → x ≡ Ok k → at + k ≤ length s
invariant-in {s = s} {most = most} {b = b} {n = n} {at = at} i h d q = let z = next-in s most n at b i.comes h (d ∙ from-part b s at) q in omega (arith, z.1, i.inside)

pub invariant-done : {s : List ℕ} {most : ℕ} {b₀ b : Bus} {out : List ℕ} {n at : ℕ} → ReplayInvariant s most b₀ b out n at → most ≤ n → recovery_from (found.Whole most at) b ≡ replay_from most 0 0 b₀ s
invariant-done {s = s} {most = most} {b = b} {n = n} {at = at} i h =
    let z : most ≡ n = omega (arith, i.few, h) in ap (λ (k : ℕ). recovery_from (found.Whole k at) b) z ∙ replay-done s most n at b i.comes h

pub invariant-halts : {s : List ℕ} {most : ℕ} {b₀ b : Bus} {out : List ℕ} {n at : ℕ} → ReplayInvariant s most b₀ b out n at → n < most → {x : Step} {b' : Bus} → stepped_of x b' ≡ line_step b (take (length s - at) (drop at s)) →
    {y : Halt} → x ≡ Err y → {r : Recovered} → r ≡ halted_at y n at → recovery_from r b' ≡ replay_from most 0 0 b₀ s
invariant-halts {s = s} {most = most} {b = b} {n = n} {at = at} i h {b' = b'} d q e =
    ap (λ (y : Recovered). recovery_from y b') e ∙ sym (turn s most n at b i.comes h (d ∙ from-part b s at) ∙ rw q refl)

-- The lengths tell whether the buffers are sized.
pub sized_same : (b d : Bus) → length d.peers ≡ length b.peers → length d.nodes ≡ length b.nodes → length d.handles ≡ length b.handles →
    length d.charges ≡ length b.charges → length d.rings.ends ≡ length b.rings.ends → length d.rings.rows.entries ≡ length b.rings.rows.entries →
    length d.rings.rows.carried ≡ length b.rings.rows.carried → length d.rings.rows.numbers ≡ length b.rings.rows.numbers → length d.pool ≡ length b.pool →
    length d.seeds ≡ length b.seeds → sized_ok b ≡ true → sized_ok d ≡ true
unfolding sized_ok
sized_same b d e0 e1 e2 e3 e4 e5 e6 e7 e8 e9 h = rw (e0, e1, e2, e3, e4, e5, e6, e7, e8, e9) h

-- A fresh bus is sized, where it was made.
pub made-sized : (b : Bus) {n : ℕ} {b₁ : Bus} → (n ≡ fresh_number b) × (b₁ ≡ fresh_of b) → n ≡ 0 → sized_ok b ≡ true
unfolding fresh_number
made-sized b {n = n} f h = go (look (sized_ok b))
  where
    go : Seen (sized_ok b) → sized_ok b ≡ true
    go (is_true z) = z
    go (is_false z) = let q : fresh_number b ≡ EIO = rw z refl in absurd (omega (arith, f.0, q, h))
