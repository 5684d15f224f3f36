-- The theorems that go with specs/LedgerOwn.antt and stand on others: each goes by the definitions and the theorems there.
-- Assumes nothing.
use Prim.Native.Nat.{◌<◌}
use Rattle.std.specs.Prelude.{length}
use Rattle.std.proofs.Common.{sym, ◌∙◌, arith}
use Rattle.std.proofs.Math.Logic.◌⊎◌.{inl}
use Rattle.model.specs.Claim.{book_after}
use Rattle.model.specs.SimHandles.{some-none}
use Rattle.model.proofs.Sources.{story}
use Rattle.model.specs.LedgerSim.{below}
use Rattle.model.proofs.LedgerGone.{kept-of-node}
use Rattle.model.specs.LedgerOwn.{OwnKeeps, Owns, owns-book, owns-command}

pub own-keeps : OwnKeeps
own-keeps cs ds p n i c e f =
    let w = story (length cs) cs (omega arith) in
    let created : n < (book_after cs).entered = below n (book_after cs).entered (λ z. some-none (sym f ∙ w.follows.handles.fresh p n z)) in
    (kept-of-node (λ l. Owns l p n i) n (owns-book p n i) (λ l f c g. owns-command p n i l f c) cs ds created (record { maker = e; holds = inl (c, f) })).holds
