-- `quota::Charges::others_of`: each turn adds the number of the next user, below 65,536.
use Rattle.std.specs.Prelude.{ℕ, ◌*◌, ◌≤◌, ◌≡◌, map, take}
use Rattle.laws.specs.Sums.{sum}
use Rattle.quota.specs.declared.Charge.{Charge}
use Rattle.quota.specs.Charges.{nothing}
use Rattle.quota.proofs.Charges.others_of.Given as goal

abbrev pub invariant-loop-c : goal.invariant-loop-c
invariant-loop-c g l =
    (l.sum ≤ 65535 * l.c-index)
    × ((f : Charge → ℕ) → f nothing ≡ 0 → ((c : Charge) (n : ℕ) → g.F.Fn.post l.fn.of (c, tt) n → n ≡ f c) → l.sum ≡ sum (take l.c-index (map f l.fn.self.by)))
    × (l.of ≡ l.fn.of)
