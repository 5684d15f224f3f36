-- The theorems that go with specs/GivenLaws.antt and stand on others: each goes by the definitions and the theorems there.
-- Assumes nothing.
use Rattle.std.specs.Prelude.{ℕ, ◌+◌, ◌≤◌, ◌<◌, ◌≡◌, Bool, List, [], ◌∷◌, ◌++◌, length, eqb}
use Rattle.std.proofs.Common.{sym, ap, ◌∙◌, append-nil, append_assoc, arith}
use Rattle.laws.specs.Tests.{pick}
use Rattle.laws.specs.Weights.{All}
use Rattle.laws.specs.Build.{build}
use Rattle.model.specs.Numbers.{nodes, invalid, next_id}
use Rattle.model.specs.Lists.{either}
use Rattle.model.specs.State.{State}
use Rattle.model.specs.Changes.{shown, shown_all, give, give_all}
use Rattle.model.specs.IdsLaws.{Holding}
use Rattle.model.proofs.IdsLaws.{holding-give}
use Rattle.model.specs.SimGive.{given-give}
use Rattle.model.specs.Given.{holds_id, new_of}
use Rattle.model.specs.GivenLaws.{most_given, first-new, next_known}

-- All IDs shown by one answer.
pub all_new : (x : State) (p as_of : ℕ) (ss : List ℕ) (known : ℕ → Bool) → Holding x → All (λ s. s < nodes) ss → x.given p + length ss ≤ most_given →
    ((j : ℕ) → (j ≡ invalid → ⊥) → known j ≡ holds_id x p j) →
    build next_id (x.given p) ++ new_of known (shown_all x p as_of ss) ≡ build next_id ((give_all x p as_of ss).given p)
all_new x p as_of [] known v a l same-ids = append-nil (build next_id (x.given p))
all_new x p as_of (s ∷ ss) known v a l same-ids =
    let i : ℕ = shown x p as_of s in
    let y = give x p as_of s in
    let known' : ℕ → Bool = λ j. either (eqb i j) (known j) in
    let rest : List ℕ = new_of known' (shown_all y p as_of ss) in
    sym (append_assoc (build next_id (x.given p)) (pick (either (eqb i invalid) (known i)) [] (i ∷ [])) rest)
    ∙ ap (λ (z : List ℕ). z ++ rest) (first-new x p as_of s known v a.0 (omega arith) same-ids)
    ∙ all_new y p as_of ss known' (holding-give x p as_of s v a.0) a.1 (omega (arith, given-give x p as_of s p)) (next_known x p as_of s known v a.0 same-ids)
