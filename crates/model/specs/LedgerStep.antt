-- Every accepted command, alike on the bus and in the ledger.
-- Assumes nothing.
use Rattle.std.specs.Prelude.{ℕ, suc, ◌≡◌, List, eqb}
use Rattle.std.proofs.Math.Path.{refl}
use Rattle.laws.specs.Tests.{pick_all}
use Rattle.frames.specs.declared.Command.{Command}
use Rattle.frames.specs.declared.Command.TheVariants.{Open, Disconnect, Create, Destroy, Release, Transfer, Send, Receive, Quota, Holders, ShowSeed}
use Rattle.model.specs.State.{State}
use Rattle.model.specs.Tables.{accept}
use Rattle.model.specs.Book.{Book, note_open, note_create, note_receive, note_send, to_dropped, drop_handles, answered_id, answers_message, shown_ids, note, note_seed}
use Rattle.model.specs.IdsLaws.{Holding}
use Rattle.model.specs.SimRun.{receive-entered, transfer-entered, release-entered, learn-entered}

-- Of how many nodes the book knows after a command: create enters one.
abbrev pub entered_after : ℕ → Command → ℕ
entered_after e (Open p u) = e
entered_after e (Disconnect p) = e
entered_after e (Create p i) = suc e
entered_after e (Destroy p i) = e
entered_after e (Release p i) = e
entered_after e (Transfer p i q) = e
entered_after e (Send p z) = e
entered_after e (Receive p room) = e
entered_after e (Quota p u) = e
entered_after e (Holders p i) = e
entered_after e (ShowSeed p room) = e

pub note-enters : (k : Book) (f a : List ℕ) (c : Command) → (note k f a c).entered ≡ entered_after k.entered c
unfolding note note_open note_create note_send note_seed to_dropped drop_handles
note-enters k f a (Open p u) = refl
note-enters k f a (Disconnect p) = refl
note-enters k f a (Create p i) = refl
note-enters k f a (Destroy p i) = refl
note-enters k f a (Release p i) = release-entered k p.0 i.0 (k.handle p.0 i.0)
note-enters k f a (Transfer p i q) = transfer-entered k (k.handle p.0 i.0) q.0 (answered_id a)
note-enters k f a (Send p z) = pick_all (λ (x : Book). x.entered ≡ k.entered) (eqb z.nd 0) _ _ refl refl
note-enters k f a (Receive p room) =
    pick_all (λ (x : Book). x.entered ≡ k.entered) (answers_message a) (note_receive k p.0 (shown_ids a) (k.queue p.0)) k
    (receive-entered k p.0 (shown_ids a) (k.queue p.0)) refl
note-enters k f a (Quota p u) = refl
note-enters k f a (Holders p i) = refl
note-enters k f a (ShowSeed p room) = learn-entered k p.0 (shown_ids a) (k.seed p.0)

-- The command counted.
pub holding-accept : (b : State) → Holding b → Holding (accept b)
unfolding accept
holding-accept b v = record { handles = v.handles; owned = v.owned }
