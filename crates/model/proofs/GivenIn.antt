-- The theorems that go with specs/GivenIn.antt and stand on others: each goes by the definitions and the theorems there.
-- Assumes nothing.
use Rattle.std.specs.Prelude.{ℕ, ◌≡◌, refl, Bool, length}
use Rattle.std.proofs.Common.{sym, ap, ap₂, arith}
use Rattle.std.proofs.Math.Path.{fun_ext}
use mathlib.Core.List.{List, [], ◌∷◌, ◌++◌}
use Rattle.model.specs.State.{start}
use Rattle.model.specs.Step.{Call, step, run_from, run}
use Rattle.model.specs.Claim.{fed, history_from}
use Rattle.model.specs.Given.{holds_id, new_of, given_from, GivenOnce}
use Rattle.model.proofs.GivenProof.{given}
use Rattle.model.specs.History.{history-append, run-next}
use Rattle.model.proofs.Sources.{story}
use Rattle.model.specs.Rows.{book_of, ledger_of, is_noted}
use Rattle.model.proofs.RowsProof.{held-noted}
use Rattle.model.specs.GivenIn.{shown_in, given_behind, given_in, GivenIn}

-- What a peer holds on the bus is what the book has noted for it.
holds-noted : (cs : List Call) (p : ℕ) → holds_id (run cs) p ≡ (λ i. is_noted ((book_of (history_from start cs)).handle p i))
holds-noted cs p =
    let w = story (length cs) cs (omega arith) in
    fun_ext (λ i. sym (held-noted w.name (run cs) (book_of (history_from start cs)) w.sim p i))

given-behind : (cs ds : List Call) (p : ℕ) → given_from (run cs) p ds ≡ given_behind (history_from start cs) p (history_from (run cs) ds)
unfolding given_from given_behind history_from
given-behind cs [] p = refl
given-behind cs (c ∷ ds) p =
    let y = fed c (step (run cs) c) in
    let more : history_from start (cs ++ (c ∷ [])) ≡ history_from start cs ++ (y ∷ []) = history-append cs (c ∷ []) start in
    let rest : given_from (step (run cs) c).state p ds ≡ given_behind (history_from start cs ++ (y ∷ [])) p (history_from (step (run cs) c).state ds) =
    rw (run-next cs c, more) at (given-behind (cs ++ (c ∷ [])) ds p) in
    ap₂ ◌++◌ (ap (λ (known : ℕ → Bool). new_of known (shown_in p y)) (holds-noted cs p)) rest

pub given-in : GivenIn
given-in xs h p =
    let cs = h.calls in
    let w = story (length cs) cs (omega arith) in
    let g : given_from start p cs ≡ given_in p (history_from start cs) = unfold run_from history_from in (given-behind [] cs p) in
    let z : GivenOnce (given_in p (history_from start cs)) ((ledger_of (history_from start cs)).given p) = rw (w.follows.given p, ← g) (given cs p) in
    rw h.same at z
