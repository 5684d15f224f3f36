-- The theorems that go with specs/OneOrderIn.antt and stand on others: each goes by the definitions and the theorems there.
-- Assumes nothing.
use Rattle.std.specs.Prelude.{◌≤◌, ◌∷◌, ◌++◌}
use Rattle.std.proofs.Common.{subst, arith}
use Rattle.laws.specs.Weights.{All}
use Rattle.model.specs.QueuesLaws.{later-all, all-behind}
use Rattle.model.specs.Ledger.{item_number}
use Rattle.model.specs.Tally.{tally}
use Rattle.model.specs.Rows.{ledger_of}
use Rattle.model.specs.Happened.{Happened, happened-front}
use Rattle.model.specs.Waits.{taken_in}
use Rattle.model.proofs.WaitsProof.{followed-in}
use Rattle.model.proofs.HandlesIn.{order-in}
use Rattle.model.specs.OneOrderIn.{TookInOrder, TookOneOrder, from_first, first-number, first-at-least}

pub took-in-order : TookInOrder
took-in-order xs ys zs x y h p n m t u =
    let front = happened-front (xs ++ (x ∷ ys)) (y ∷ zs) h in
    let o = order-in xs (happened-front xs (x ∷ ys) front) p in
    let small : n ≤ tally xs = first-number n ((ledger_of xs).queue p) t.first (tally xs) o.numbered in
    let a : All (λ e. n ≤ item_number e) ((ledger_of xs).queue p) = from_first n ((ledger_of xs).queue p) t.first o.in_order in
    let l = later-all (λ e. n ≤ item_number e) (λ e z. omega (arith, z, small)) (followed-in xs (x ∷ ys) front p) a in
    first-at-least n m ((ledger_of (xs ++ (x ∷ ys))).queue p) u.first (all-behind (λ e. n ≤ item_number e) (taken_in xs (x ∷ ys) p) ((ledger_of (xs ++ (x ∷ ys))).queue p) l)

pub took-one-order : TookOneOrder
took-one-order hs h xs ys zs us vs ws x y z w p q n m e f t u s r =
    let a = took-in-order xs ys zs x y (subst Happened e h) p n m t u in
    let b = took-in-order us vs ws z w (subst Happened f h) q m n s r in
    omega arith
