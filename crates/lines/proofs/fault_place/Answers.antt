-- `lines::fault_place` meets its contract: the search goes over the first 1,292 characters, from a place on before which all are digits.
-- Assumes nothing.
use Rattle.std.proofs.Common.{rules, ℕ, ◌≡◌, ◌+◌, ◌<◌, ◌-◌, true, false, get_or, drop, take, length, ◌∙◌}
use Rattle.lines.specs.Line.{is_digit}
use Rattle.lines.specs.LineLaws as law
use native.Mathlib.Omega.{arith}
use Rattle.lines.proofs.fault_place.Goals as goal

pub returns-in-Some : goal.returns-in-Some
returns-in-Some c =
    let s = take c.min.result c.args.s.now in
    let a = c.digits_ahead-ahead.result in
    let k = c.in-Some.k in
    let p = take (length s - a) (drop a s) in
    let i : k < length p = search rules in
    let h : is_digit (get_or p k 0) ≡ false = search rules in
    let b : (j : ℕ) → j < k → is_digit (get_or p j 0) ≡ true = search rules in
    law.fault-from c.args.s.now _ a c.min.ensures c.digits_ahead-ahead.ensures.0 c.digits_ahead-ahead.ensures.1 k (omega arith) b (λ _. h)

pub returns-in-None : goal.returns-in-None
returns-in-None c =
    let s = take c.min.result c.args.s.now in
    let a = c.digits_ahead-ahead.result in
    let p = take (length s - a) (drop a s) in
    let b : (j : ℕ) → j < length p → is_digit (get_or p j 0) ≡ true = search rules in
    let d = c.digits_ahead-ahead.ensures in
    let e : length s ≡ a + length p = omega (arith, law.part-length s a, d.0) in
    e ∙ law.fault-from c.args.s.now _ a c.min.ensures d.0 d.1 (length p) (omega arith) b (λ h. absurd (omega arith))
