-- The theorems that go with specs/After.antt and stand on others: each goes by the definitions and the theorems there.
-- Assumes nothing.
use Rattle.std.specs.Prelude.{ℕ, ◌≤◌, ◌<◌, ◌≡◌, List, [], ltb}
use Rattle.std.proofs.Common.{arith, ltb-true, ltb-false}
use Rattle.laws.specs.Tests.{Seen, Seen.is_true, Seen.is_false, look}
use Rattle.laws.specs.Weights.{load}
use Rattle.quota.specs.Charges.{users}
use Rattle.model.specs.Resources.{Resource, most}
use Rattle.model.specs.State.{messages_in}
use Rattle.model.specs.Step.{Call, run}
use Rattle.model.specs.Book.{queued, weight, by}
use Rattle.model.specs.Claim.{book_after}
use Rattle.model.specs.Charged.{queued_by}
use Rattle.model.proofs.ChargedProof.{always-charged}
use Rattle.model.specs.SimQueues.{load_told}
use Rattle.model.proofs.SimRun.{alike}
use Rattle.model.proofs.Demand.{third-demand}
use Rattle.model.specs.After.{AfterAny, nobody}

pub after_any : (cs : List Call) → AfterAny cs
after_any cs =
    let x = third-demand cs (record { frame = []; buffer = [] }) in
    record { bounded = λ q u r. go q u r (look (ltb u users)) (x.bounded q u r); sums = x.sums }
  where
    go : (q u : ℕ) (r : Resource) → Seen (ltb u users) → (u < users → queued (book_after cs) q u r ≤ most r) → queued (book_after cs) q u r ≤ most r
    go q u r (is_true t) h = h (ltb-true u users t)
    go q u r (is_false t) h =
        let s = (alike cs).world.sim in
        let name = (alike cs).world.name in
        let ms = messages_in ((run cs).queue q) in
        let e : load (by u) (weight r) ((book_after cs).queue q) ≡ queued_by r u ms = rw (s.queues q) (load_told name u r ms) in
        omega (arith, s.sums q u r, e, nobody r u ms (ltb-false u users t) ((always-charged cs).at q).fine)
