-- Book and bus go alike through every run of calls with frames of bytes.
-- Assumes nothing.
use Rattle.std.specs.Prelude.{ℕ, suc, ◌+◌, ◌≤◌, ◌≡◌, refl, List, [], ◌∷◌, eqb}
use Rattle.std.proofs.Common.{sym, ◌∙◌, arith}
use Rattle.laws.specs.Tests.{pick, pick_all}
use Rattle.laws.specs.Weights.{All}
use Rattle.frames.specs.declared.Command.{Command}
use Rattle.frames.specs.declared.Command.TheVariants.{Open, Disconnect, Create, Destroy, Release, Transfer, Send, Receive, Quota, Holders, ShowSeed}
use Rattle.frames.specs.Frame.{id_at}
use Rattle.frames.specs.Fields.{Fields}
use Rattle.model.specs.State.{Entry, Entry.message, Entry.destroyed, Entry.released, messages_in, State, start}
use Rattle.model.specs.Step.{Call}
use Rattle.model.specs.Book.{Node, Noted, Noted.blank, Noted.noted, BookMessage, Book, empty, put_handle, raise, to_received, to_dropped, note_open, note_create, note_transfer, note_send, learn, note_receive, drop_for, note_release, drop_handles, answered_id, answers_message, shown_ids, note, note_seed}
use Rattle.model.specs.Notices.{Carried, Stands}
use Rattle.model.specs.SimHandles.{handles-none, some-none}
use Rattle.model.specs.SimGive.{Ids}
use Rattle.model.specs.SimStep.{World}
use Rattle.model.specs.SimIds.{Small}

-- What the relation needs to know of a run's bus.
pub carried-all : (b : State) (q : ℕ) (es : List Entry) → All (Stands b.handle b.life q) es → All (λ m. Carried m.carried) (messages_in es)
carried-all b q [] a = tt
carried-all b q (message n m ∷ es) a = (a.0.2, carried-all b q es a.1)
carried-all b q (destroyed n s ∷ es) a = carried-all b q es a.1
carried-all b q (released n s ∷ es) a = carried-all b q es a.1

-- A chosen ID is read from 8 bytes.
pub small : (c : Call) (k : Command) → Fields c.frame k → Small k
unfolding id_at
small c (Open p u) f = tt
small c (Disconnect p) f = tt
small c (Create p i) f = rw f.1 (omega arith)
small c (Destroy p i) f = tt
small c (Release p i) f = tt
small c (Transfer p i q) f = tt
small c (Send p z) f = tt
small c (Receive p room) f = tt
small c (Quota p u) f = tt
small c (Holders p i) f = tt
small c (ShowSeed p room) f = tt

-- The book enters at most one node with a command.
pub learn-entered : (k : Book) (p : ℕ) (is : List ℕ) (ns : List Node) → (learn k p is ns).entered ≡ k.entered
unfolding put_handle
learn-entered k p [] ns = refl
learn-entered k p (i ∷ is) [] = refl
learn-entered k p (i ∷ is) (n ∷ ns) =
    learn-entered (pick (eqb i 18446744073709551615) k (raise k p i n)) p is ns
    ∙ pick_all (λ (x : Book). x.entered ≡ k.entered) (eqb i 18446744073709551615) k (raise k p i n) refl refl

pub receive-entered : (k : Book) (p : ℕ) (is : List ℕ) (ms : List BookMessage) → (note_receive k p is ms).entered ≡ k.entered
unfolding to_received
receive-entered k p is [] = refl
receive-entered k p is (m ∷ ms) = learn-entered (to_received k p (m ∷ []) ms) p is m.carried

pub transfer-entered : (k : Book) (x : Noted) (q j : ℕ) → (note_transfer k x q j).entered ≡ k.entered
unfolding put_handle
transfer-entered k blank q j = refl
transfer-entered k (noted n c) q j = refl

pub release-entered : (k : Book) (p i : ℕ) (x : Noted) → (note_release k p i x).entered ≡ k.entered
unfolding put_handle drop_for to_dropped
release-entered k p i blank = refl
release-entered k p i (noted n c) = pick_all (λ (x : Book). x.entered ≡ k.entered) (eqb c 1) _ _ refl refl

pub note-entered : (k : Book) (f a : List ℕ) (c : Command) → (note k f a c).entered ≤ suc k.entered
unfolding note note_open note_create note_send note_seed to_dropped drop_handles
note-entered k f a (Open p u) = omega arith
note-entered k f a (Disconnect p) = omega arith
note-entered k f a (Create p i) = omega arith
note-entered k f a (Destroy p i) = omega arith
note-entered k f a (Release p i) = omega (arith, release-entered k p.0 i.0 (k.handle p.0 i.0))
note-entered k f a (Transfer p i q) = omega (arith, transfer-entered k (k.handle p.0 i.0) q.0 (answered_id a))
note-entered k f a (Send p z) = pick_all (λ (x : Book). x.entered ≤ suc k.entered) (eqb z.nd 0) _ _ (omega arith) (omega arith)
note-entered k f a (Receive p room) =
    pick_all (λ (x : Book). x.entered ≤ suc k.entered) (answers_message a) (note_receive k p.0 (shown_ids a) (k.queue p.0)) k
    (omega (arith, receive-entered k p.0 (shown_ids a) (k.queue p.0))) (omega arith)
note-entered k f a (Quota p u) = omega arith
note-entered k f a (Holders p i) = omega arith
note-entered k f a (ShowSeed p room) = omega (arith, learn-entered k p.0 (shown_ids a) (k.seed p.0))

-- Book and bus after some calls, of which more may follow.
pub record Alike (N : ℕ) (b : State) (k : Book) : Type 0 where
  pub world : World N b k
  pub ids : Ids b

pub alike-start : (N : ℕ) → Alike N start empty
unfolding start empty
alike-start N =
    record {
      world =
          record {
            name = λ s. N + s;
            sim =
                record {
                  apart = λ s t e. omega arith;
                  known = λ s l. absurd (omega arith);
                  users = λ p. refl;
                  handles = λ p. handles-none (λ s. N + s);
                  queues = λ p. refl;
                  seeds = λ p l. refl;
                  sums = λ p u r. refl;
                };
          };
      ids = λ p s i c e. some-none (sym e);
    }
