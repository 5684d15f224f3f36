-- The refusal table holds of every run: the number of each call is that of the first row that applies to it after the history of the calls before, and 0 exactly where none does.
-- Assumes nothing.
use Rattle.std.specs.Prelude.{ℕ, ◌≤◌, ◌<◌, ◌≡◌, refl, false, eqb}
use Rattle.std.proofs.Common.{sym, ◌∙◌, arith, eqb-true, ne_eqb}
use mathlib.Core.List.{List, [], ◌∷◌, ◌++◌}
use Rattle.laws.specs.Tests.{pick, pick-else, Seen, Seen.is_true, Seen.is_false, look}
use Rattle.laws.specs.Weights.{All, all_append}
use Rattle.frames.specs.declared.Command.{Command}
use Rattle.frames.specs.declared.Command.TheVariants.{Open, Disconnect, Create, Destroy, Release, Transfer, Send, Receive, Quota, Holders, ShowSeed}
use Rattle.answers.specs.Answer.{number_of}
use Rattle.model.specs.State.{State}
use Rattle.model.specs.Refusals.{refusal}
use Rattle.model.specs.Step.{Call, carry_out}
use Rattle.model.specs.StepLaws.{reply-number}
use Rattle.model.specs.Book.{Fed}
use Rattle.model.specs.LedgerStep.{entered_after}
use Rattle.model.specs.Rows.{Row, frame_rows, command_rows, rows, first_number}

pub at_least : (e : ℕ) (c : Command) → e ≤ entered_after e c
at_least e (Open p u) = omega arith
at_least e (Disconnect p) = omega arith
at_least e (Create p i) = omega arith
at_least e (Destroy p i) = omega arith
at_least e (Release p i) = omega arith
at_least e (Transfer p i q) = omega arith
at_least e (Send p z) = omega arith
at_least e (Receive p room) = omega arith
at_least e (Quota p u) = omega arith
at_least e (Holders p i) = omega arith
at_least e (ShowSeed p room) = omega arith

-- Every row has a number over 0, so 0 says that none applies.
abbrev pub Over : Row → Type 0
Over r = 0 < r.number

pub first-append : (rs qs : List Row) (xs : List Fed) (c : Call) → All Over rs →
    first_number (rs ++ qs) xs c ≡ pick (eqb (first_number rs xs c) 0) (first_number qs xs c) (first_number rs xs c)
first-append [] qs xs c o = refl
first-append (r ∷ rs) qs xs c o = go (look (r.applies xs c)) (first-append rs qs xs c o.1)
  where
    go : Seen (r.applies xs c) → first_number (rs ++ qs) xs c ≡ pick (eqb (first_number rs xs c) 0) (first_number qs xs c) (first_number rs xs c) →
        first_number ((r ∷ rs) ++ qs) xs c ≡ pick (eqb (first_number (r ∷ rs) xs c) 0) (first_number qs xs c) (first_number (r ∷ rs) xs c)
    go (is_true e) ih = rw (e, ne_eqb r.number 0 (λ z. omega (arith, o.0))) refl
    go (is_false e) ih = rw e ih

pub frames-over : All Over frame_rows
frames-over =
    (omega arith, (omega arith, (omega arith, (omega arith, (omega arith, (omega arith, (omega arith, (omega arith, (omega arith, (omega arith, tt))))))))))

commands-over : All Over command_rows
commands-over =
    (omega arith, (omega arith, (omega arith, (omega arith, (omega arith, (omega arith, (omega arith, (omega arith, (omega arith, (omega arith, (omega arith, (omega arith, (omega arith, tt)))))))))))))

pub rows-over : All Over rows
rows-over = (omega arith, all_append Over frame_rows command_rows frames-over commands-over)

pub seen : (x y n : ℕ) → x ≡ n → (n ≡ 0 → ⊥) → pick (eqb x 0) y x ≡ n
seen x y n e h = rw (e, ne_eqb n 0 h) refl

pub unseen : (x y : ℕ) → x ≡ 0 → pick (eqb x 0) y x ≡ y
unseen x y e = rw e refl

-- What a call comes back with.
pub carried-number : (b : State) (c : Call) (k : Command) → Seen (eqb (refusal b c.frame k) 0) → number_of (carry_out b c.frame k (refusal b c.frame k)).reply.answer ≡ refusal b c.frame k
unfolding carry_out
carried-number b c k (is_true e) = rw e (reply-number b c.frame k ∙ sym (eqb-true (refusal b c.frame k) 0 e))
carried-number b c k (is_false e) = rw e refl

-- It is 0 exactly where none applies.
pub first-none : (xs : List Fed) (c : Call) (rs : List Row) → All Over rs → first_number rs xs c ≡ 0 → All (λ r. r.applies xs c ≡ false) rs
first-none xs c [] o e = tt
first-none xs c (r ∷ rs) o e =
    let z = pick-else (r.applies xs c) r.number 0 (λ h. omega (arith, h, o.0)) e in
    (z.0, first-none xs c rs o.1 z.1)

pub none_first : (xs : List Fed) (c : Call) (rs : List Row) → All (λ r. r.applies xs c ≡ false) rs → first_number rs xs c ≡ 0
none_first xs c [] a = refl
none_first xs c (r ∷ rs) a = rw a.0 (none_first xs c rs a.1)
