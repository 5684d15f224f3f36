-- The theorems that go with specs/Exchanges.antt and stand on others: each goes by the definitions and the theorems there.
-- Assumes nothing.
use Rattle.std.specs.Prelude.{◌+◌, ◌≡◌, List, [], ◌∷◌, ◌++◌, length}
use Rattle.std.proofs.Common.{◌∙◌, arith}
use Rattle.laws.specs.Build.{build-length}
use Rattle.frames.specs.declared.Command.{Command}
use Rattle.frames.specs.declared.Command.TheVariants.{Open, Disconnect, Create, Destroy, Release, Transfer, Send, Receive, Quota, Holders, ShowSeed}
use Rattle.frames.specs.Frame.{send_id}
use Rattle.model.specs.State.{start}
use Rattle.model.specs.Requests.{destinations, attached}
use Rattle.model.specs.Step.{Call, step, run}
use Rattle.model.specs.Book.{Fed}
use Rattle.model.specs.Claim.{fed, history_from, book_after}
use Rattle.model.specs.Accepted.{Accepted, Came, Came.left, Came.done}
use Rattle.model.proofs.Accepted.{came}
use Rattle.model.proofs.Tested.{tested}
use Rattle.model.specs.Tally.{tally}
use Rattle.model.proofs.Tally.{tallied}
use Rattle.model.proofs.LedgerPassed.{passed}
use Rattle.model.specs.History.{fed-enters}
use Rattle.model.proofs.Sources.{story}
use Rattle.model.specs.Rows.{ledger_of}
use Rattle.model.specs.Happened.{Happened, At, happened-at}
use Rattle.model.specs.Exchanges.{AllNamed, as_many, Exchange, Exchange.refused, Exchange.accepted, ledger-more, Entered}

all_named : (cs : List Call) (c : Call) (d : Command) → Accepted (run cs) c d → AllNamed (book_after cs) c.frame d
all_named cs c (Open p u) a = tt
all_named cs c (Disconnect p) a = tt
all_named cs c (Create p i) a = tt
all_named cs c (Destroy p i) a = tt
all_named cs c (Release p i) a = tt
all_named cs c (Transfer p i q) a = tt
all_named cs c (Send p z) a =
    let w = story (length cs) cs (omega arith) in
    let t = tested (run cs) c.frame (Send p z) a.unrefused in (
      as_many w.name (run cs) (book_after cs) w.sim p.0 (destinations c.frame z) t.holds ∙ build-length (λ j. (send_id c.frame j).0) z.nd,
      as_many w.name (run cs) (book_after cs) w.sim p.0 (attached c.frame z) t.holds-attached ∙ build-length (λ j. (send_id c.frame (z.nd + j)).0) z.nh,
    )
all_named cs c (Receive p room) a = tt
all_named cs c (Quota p u) a = tt
all_named cs c (Holders p i) a = tt
all_named cs c (ShowSeed p room) a = tt

pub exchange : (xs : List Fed) (x : Fed) → At xs x → Exchange xs x
exchange xs x w =
    let z : Exchange (history_from start w.before) (fed w.call (step (run w.before) w.call)) = go (came (run w.before) w.call) in
    rw (w.gives, w.first) at z
  where
    go : Came (run w.before) w.call → Exchange (history_from start w.before) (fed w.call (step (run w.before) w.call))
    go (left e n) = refused n
    go (done c a) = accepted c a.number a.read a.legal (passed w.before w.call c a) (all_named w.before w.call c a)

-- The ledger counts the accepted commands, questions not counted.
pub ledger-tally : (xs : List Fed) → Happened xs → (ledger_of xs).accepted ≡ tally xs
ledger-tally xs h = let w = story (length h.calls) h.calls (omega arith) in rw h.same at (w.follows.accepted ∙ tallied h.calls)

pub entered : (xs : List Fed) (x : Fed) → Happened (xs ++ (x ∷ [])) → x.number ≡ 0 → (c : Command) × Entered xs x c
entered xs x h z = go (exchange xs x (happened-at xs [] x h))
  where
    go : Exchange xs x → (c : Command) × Entered xs x c
    go (refused n) = absurd (n z)
    go (accepted c e g l t m) = (c, record { read = g; legal = l; passes = t; named = m; after = ledger-more xs x ∙ fed-enters (ledger_of xs) x c e g })
