-- `lines::line_end` meets its contract: the search goes over the part from `at` on. Assumes nothing.
use Rattle.std.proofs.Common.{rules, ℕ, ◌≡◌, ◌≢◌, ◌+◌, ◌<◌, ◌-◌, get_or, drop, take, length, ◌∙◌}
use Rattle.lines.specs.Line.{lf}
use Rattle.lines.specs.LineLaws as law
use native.Mathlib.Omega.{arith}
use Rattle.lines.proofs.line_end.Goals as goal

pub returns-in-Some : goal.returns-in-Some
returns-in-Some c =
    let s = c.args.s.now in
    let a = c.args.at in
    let k = c.in-Some.k in
    let i : k < length (take (length s - a) (drop a s)) = search rules in
    let h : get_or (take (length s - a) (drop a s)) k 0 ≡ lf = search rules in
    let b : (j : ℕ) → j < k → get_or (take (length s - a) (drop a s)) j 0 ≢ lf = search rules in
    law.end-is s a k (omega arith) b (λ _. h)

pub returns-in-None : goal.returns-in-None
returns-in-None c =
    let s = c.args.s.now in
    let a = c.args.at in
    let p = take (length s - a) (drop a s) in
    let b : (j : ℕ) → j < length p → get_or p j 0 ≢ lf = search rules in
    let e : length s ≡ a + length p = omega (arith, law.part-length s a) in
    e ∙ law.end-is s a (length p) (omega arith) b (λ h. absurd (omega arith))
