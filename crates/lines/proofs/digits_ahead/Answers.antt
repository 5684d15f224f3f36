-- `lines::digits_ahead` meets its contract: each eight before the first that is not all digits is. Assumes nothing.
use Rattle.std.proofs.Common.{rules, ℕ, ◌≡◌, ◌<◌, ◌≤◌, ◌/◌, [], true, get_or, length, ap}
use Rattle.std.specs.Simd.{first_chunks}
use Rattle.lines.specs.Line.{digits_from}
use Rattle.lines.specs.LineLaws as law
use native.Mathlib.Omega.{arith}
use Rattle.lines.proofs.digits_ahead.Goals as goal

pub returns : goal.returns
returns c =
    let s = c.args.s.now in
    let k = c.unwrap_or.result in
    let e = first_chunks 8 (length s / 8) s in
    let i : k ≤ length e = search rules in
    let b : (j : ℕ) → j < k → digits_from (get_or e j []) 0 8 ≡ true = search rules in
    let h : k ≤ length s / 8 = omega (arith, i, c.as_chunks.ensures.front_len, ap length c.as_chunks.ensures.front) in
    (omega arith, law.eights-digits (length s / 8) k s (omega arith) h b)
