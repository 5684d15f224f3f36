-- The theorems that go with specs/Noticed.antt and stand on others: each goes by the definitions and the theorems there.
-- Assumes nothing.
use Rattle.std.specs.Prelude.{ℕ, ◌<◌, ◌≡◌, refl, length}
use Rattle.std.proofs.Common.{◌∙◌, arith}
use Rattle.std.proofs.Math.Path.{ap}
use Rattle.std.proofs.Math.Bool.{true}
use mathlib.Core.List.{List, [], ◌∷◌, map}
use Rattle.std.proofs.Math.ListN.{get_or}
use Rattle.laws.specs.Bytes.{be, num_at}
use Rattle.ids.specs.declared.Peer.{Peer}
use Rattle.frames.specs.declared.Command.{Command}
use Rattle.frames.specs.declared.Command.TheVariants.{Open, Disconnect, Create, Destroy, Release, Transfer, Send, Receive, Quota, Holders, ShowSeed}
use Rattle.frames.specs.Frame.{opcode}
use Rattle.answers.specs.Answer.{notice_bytes, received_bytes, contents_of, answer_bytes}
use Rattle.answers.specs.AnswerLaws.{message-kind, destroyed-kind, released-kind}
use Rattle.model.specs.Numbers.{invalid}
use Rattle.model.specs.State.{is_live, Handle, held, id_or, Entry, Entry.message, Entry.destroyed, Entry.released, State}
use Rattle.model.specs.Replies.{shows_message}
use Rattle.model.specs.Step.{Call, step, run, answer_of}
use Rattle.model.specs.Book.{Noted.noted, acting_peer}
use Rattle.model.specs.Claim.{book_after}
use Rattle.model.specs.Happened.{of-next}
use Rattle.model.specs.Accepted.{Accepted}
use Rattle.model.proofs.Accepted.{accepted-call}
use Rattle.model.proofs.Tested.{tested}
use Rattle.model.specs.Coded.{coded}
use Rattle.model.specs.Notices.{Stands}
use Rattle.model.proofs.NoticesProof.{noted as always-noted}
use Rattle.model.proofs.FirstHeld.{notice-held}
use Rattle.model.proofs.Shown.{receive-bytes}
use Rattle.model.specs.Sim.{called}
use Rattle.model.specs.SimHandles.{some_of}
use Rattle.model.specs.Sources.{Story}
use Rattle.model.proofs.Sources.{story}
use Rattle.model.specs.Ledger.{ledger_after}
use Rattle.model.specs.LedgerSim.{item_of, total-named}
use Rattle.model.specs.Noticed.{TellsDestroyed, TellsReleased, Tells, NoticesTell, notice-id}

-- An accepted receive of p.
module _ (cs : List Call) (c : Call) (p : Peer) (room : ℕ) (a : Accepted (run cs) c (Receive p room)) (w : Story (length cs) cs) where
  abbrev b : State
  b = run cs

  abbrev answer : List ℕ
  answer = answer_of (step (run cs) c)

  -- the ID shown for a node that p holds
  shown-named : (s kind : ℕ) → held (b.handle p.0 s) ≡ true → answer ≡ 0 ∷ kind ∷ be 8 (id_or invalid (b.handle p.0 s)) →
      (count : ℕ) × ((book_after cs).handle p.0 (num_at answer 2 8) ≡ noted (called w.name s) count)
  shown-named s kind h e =
      let y = some_of (b.handle p.0 s) h in
      let i = y.0 in
      let small : i < 18446744073709551615 = (w.ids p.0 s i y.1 y.2).1 in
      let f : answer ≡ 0 ∷ kind ∷ be 8 i = e ∙ ap (λ (x : Handle). 0 ∷ kind ∷ be 8 (id_or invalid x)) y.2 in
      let g : num_at answer 2 8 ≡ i = rw f (notice-id kind i (omega (arith, small))) in
      (y.1, rw g ((w.sim.handles p.0).noted-at s i y.1 y.2))

  tells-destroyed : (k s : ℕ) (es : List Entry) → b.queue p.0 ≡ destroyed k s ∷ es → TellsDestroyed (ledger_after cs) (book_after cs) p.0 (num_at answer 2 8)
  unfolding answer_bytes contents_of received_bytes notice_bytes
  tells-destroyed k s es e =
      let st : Stands b.handle b.life p.0 (destroyed k s) = (rw e at ((always-noted cs).stands p.0)).0 in
      let x = shown-named s 2 (notice-held cs p.0 k s es e) (receive-bytes b c p room a (destroyed k s ∷ es) e) in
      record {
        notice = record { number = k; node = called w.name s; rest = map (item_of w.name) es; first = w.follows.queues p.0 ∙ rw e refl; count = x.0; named = x.1 };
        dead = w.follows.lives.same s ∙ ap is_live st.0;
      }

  tells-released : (k s : ℕ) (es : List Entry) → b.queue p.0 ≡ released k s ∷ es → TellsReleased (ledger_after cs) (book_after cs) p.0 (num_at answer 2 8)
  unfolding answer_bytes contents_of received_bytes notice_bytes
  tells-released k s es e =
      let st : Stands b.handle b.life p.0 (released k s) = (rw e at ((always-noted cs).stands p.0)).0 in
      let h : held (b.handle p.0 s) ≡ true = rw st.1 at ((always-noted cs).owned s st.0) in
      let x = shown-named s 3 h (receive-bytes b c p room a (released k s ∷ es) e) in
      record {
        notice = record { number = k; node = called w.name s; rest = map (item_of w.name) es; first = w.follows.queues p.0 ∙ rw e refl; count = x.0; named = x.1 };
        lives = w.follows.lives.same s ∙ st.0;
        own = st.1;
        alone = total-named w.follows.handles s ∙ st.2;
      }

  tells : (es : List Entry) → b.queue p.0 ≡ es →
      (get_or answer 1 0 ≡ 2 → TellsDestroyed (ledger_after cs) (book_after cs) p.0 (num_at answer 2 8)) × (get_or answer 1 0 ≡ 3 → TellsReleased (ledger_after cs) (book_after cs) p.0 (num_at answer 2 8))
  unfolding shows_message
  tells [] e = absurd (omega (arith, rw e at (tested b c.frame (Receive p room) a.unrefused).next))
  tells (message k m ∷ es) e =
      let z : get_or answer 1 0 ≡ 1 = rw (receive-bytes b c p room a (message k m ∷ es) e) (message-kind _ _ _) in
      ((λ y. absurd (omega (arith, z, y))), λ y. absurd (omega (arith, z, y)))
  tells (destroyed k s ∷ es) e =
      let z : get_or answer 1 0 ≡ 2 = rw (receive-bytes b c p room a (destroyed k s ∷ es) e) (destroyed-kind _ _ _) in
      ((λ y. tells-destroyed k s es e), λ y. absurd (omega (arith, z, y)))
  tells (released k s ∷ es) e =
      let z : get_or answer 1 0 ≡ 3 = rw (receive-bytes b c p room a (released k s ∷ es) e) (released-kind _ _ _) in
      ((λ y. absurd (omega (arith, z, y))), λ y. tells-released k s es e)

call-tells : (cs : List Call) (c : Call) → opcode c.frame ≡ 8 → (step (run cs) c).outcome.number ≡ 0 →
    (get_or (answer_of (step (run cs) c)) 1 0 ≡ 2 → TellsDestroyed (ledger_after cs) (book_after cs) (acting_peer c.frame) (num_at (answer_of (step (run cs) c)) 2 8))
    × (get_or (answer_of (step (run cs) c)) 1 0 ≡ 3 → TellsReleased (ledger_after cs) (book_after cs) (acting_peer c.frame) (num_at (answer_of (step (run cs) c)) 2 8))
call-tells cs c eight zero = let y = accepted-call (run cs) c zero in go y.0 y.1
  where
    go : (k : Command) → Accepted (run cs) c k →
        (get_or (answer_of (step (run cs) c)) 1 0 ≡ 2 → TellsDestroyed (ledger_after cs) (book_after cs) (acting_peer c.frame) (num_at (answer_of (step (run cs) c)) 2 8))
        × (get_or (answer_of (step (run cs) c)) 1 0 ≡ 3 → TellsReleased (ledger_after cs) (book_after cs) (acting_peer c.frame) (num_at (answer_of (step (run cs) c)) 2 8))
    go (Open p u) a = absurd (omega (arith, (coded c.frame (Open p u) a.read).byte))
    go (Disconnect p) a = absurd (omega (arith, (coded c.frame (Disconnect p) a.read).byte))
    go (Create p i) a = absurd (omega (arith, (coded c.frame (Create p i) a.read).byte))
    go (Destroy p i) a = absurd (omega (arith, (coded c.frame (Destroy p i) a.read).byte))
    go (Release p i) a = absurd (omega (arith, (coded c.frame (Release p i) a.read).byte))
    go (Transfer p i q) a = absurd (omega (arith, (coded c.frame (Transfer p i q) a.read).byte))
    go (Send p z) a = absurd (omega (arith, (coded c.frame (Send p z) a.read).byte))
    go (Receive p room) a = rw (coded c.frame (Receive p room) a.read).peer (tells cs c p room a (story (length cs) cs (omega arith)) ((run cs).queue p.0) refl)
    go (Quota p u) a = absurd (omega (arith, (coded c.frame (Quota p u) a.read).byte))
    go (Holders p i) a = absurd (omega (arith, (coded c.frame (Holders p i) a.read).byte))
    go (ShowSeed p room) a = absurd (omega (arith, (coded c.frame (ShowSeed p room) a.read).byte))

pub notices-tell : NoticesTell
notices-tell =
    of-next (λ xs x next. x.number ≡ 0 → opcode x.frame ≡ 8 → Tells xs x)
    (λ cs c zero eight. let t = call-tells cs c eight zero in record { destruction = t.0; release = t.1 })
