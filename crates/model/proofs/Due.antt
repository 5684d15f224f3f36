-- The theorems that go with specs/Due.antt and stand on others: each goes by the definitions and the theorems there.
-- Assumes nothing.
use Prim.Native.Nat.{ℕ, suc, ◌^◌, ◌≤◌, ◌<◌}
use Rattle.std.specs.Prelude.{◌≡◌, Ok}
use Rattle.std.proofs.Math.Path.{refl, ap}
use Rattle.std.proofs.Common.{sym, ◌∙◌, arith}
use mathlib.Core.List.{List, [], ◌∷◌, ◌++◌, map}
use Rattle.std.proofs.Math.ListN.{length, length-map}
use Rattle.laws.specs.Tests.{pick}
use Rattle.laws.specs.Sums.{sum-ext}
use Rattle.laws.specs.Tables.{upd}
use Rattle.laws.specs.Weights.{All}
use Rattle.ids.specs.declared.User.{User}
use Rattle.frames.specs.declared.Command.{Command}
use Rattle.frames.specs.declared.Command.TheVariants.{Open, Disconnect, Create, Destroy, Release, Transfer, Send, Receive, Quota, Holders, ShowSeed}
use Rattle.frames.specs.Frame.{parse, Parsed}
use Rattle.frames.specs.Legal.{Legal}
use Rattle.quota.specs.Charges.{users, balance_of}
use Rattle.answers.specs.Answer.{notice_bytes, received_bytes, charge_bytes, balance_bytes, holder_bytes, contents_of, answer_bytes}
use Rattle.model.specs.Numbers.{peers, invalid}
use Rattle.model.specs.Lists.{any}
use Rattle.model.specs.Resources.{Resource.messages, Resource.bytes, Resource.handles}
use Rattle.model.specs.State.{Handle, held, id_or, Message, Entry, Entry.message, Entry.destroyed, Entry.released, messages_in, State, slot, Seed, Seed.unset, Seed.kept, seed_carries}
use Rattle.model.specs.Refusals.{takeable, showable}
use Rattle.model.specs.Changes.{take_out, shown, shown_all}
use Rattle.model.specs.Replies.{of_send, shows_message, shows, holders_of, reply, shows_seed}
use Rattle.model.specs.Step.{Call, step, run, answer_of}
use Rattle.model.specs.Accepted.{Accepted}
use Rattle.model.proofs.Accepted.{accepted-call}
use Rattle.model.specs.Tested.{Tested}
use Rattle.model.proofs.Tested.{tested}
use Rattle.model.specs.Charged.{Fine, Charged}
use Rattle.model.specs.ChargedProof.{known-open}
use Rattle.model.proofs.ChargedProof.{always-charged}
use Rattle.model.specs.Shown.{bytes_of, shown-length}
use Rattle.model.proofs.Shown.{answer-bytes}
use Rattle.model.specs.Book.{Fed, queued}
use Rattle.model.specs.Sim.{called, Sim}
use Rattle.model.specs.SimSend.{noted-at-slot}
use Rattle.model.specs.Ledger.{Ledger, due_id, due_ids, ledger_queues, due_item, holders_byte, of_each, left_of, DueTo, ledger_after, due_seed}
use Rattle.model.specs.LedgerSim.{item_of, Follows, seed_of}
use Rattle.model.proofs.LedgerGive.{shown-due, shown-all-due, follows-out}
use Rattle.model.specs.History.{ledger-book}
use Rattle.model.proofs.NoticesProof.{noted as always-noted}
use Rattle.model.specs.LedgerSeeds.{seed_payload}
use Rattle.model.proofs.LedgerSeeds.{seeds-small}
use Rattle.model.proofs.Sources.{story}
use Rattle.model.proofs.RowsQuota.{own-queued, others-queued}
use Rattle.model.specs.Happened.{happened-at}
use Rattle.model.specs.Due.{message-bytes, seed-bytes, same-send, DueOfHistory}

module _ {N : ℕ} (name : ℕ → ℕ) {E : ℕ} (b : State) (l : Ledger) (w : Sim N name b l.book) (r : Follows name E b l) (h : Charged b)
    (carries : (p : ℕ) → length (seed_carries (b.seed p)) ≤ 8) (small : (p : ℕ) → length (seed_payload (l.seed p)) ≤ 512) where
  -- Receive.
  message-due : (p k : ℕ) (m : Message) (rest : List Entry) → Fine m → bytes_of (shows b p (message k m ∷ rest)) ≡ due_item l p (map (item_of name) (message k m ∷ rest))
  unfolding shows_message
  message-due p k m rest fine =
      let ids = shown_all (take_out b p (m ∷ []) rest) p k m.carried in
      let n : length ids ≡ length m.carried = shown-length (take_out b p (m ∷ []) rest) p k m.carried in
      let due = shown-all-due w.apart (take_out b p (m ∷ []) rest) (ledger_queues l (upd l.queue p (map (item_of name) rest))) p k m.carried (follows-out w.apart b l p (m ∷ []) rest r) in
      rw (due, length-map, same-send name k rest, r.handles.same p m.to)
      (message-bytes (id_or invalid (b.handle p m.to)) m.user (length m.payload) (length m.carried) (any (of_send k) rest) ids m.payload
      (omega (arith, fine.from)) (omega (arith, fine.few)) (omega (arith, n, fine.few)) fine.small)

  item-due : (p room : ℕ) (es : List Entry) → takeable room es ≡ 0 → All Fine (messages_in es) → bytes_of (shows b p es) ≡ due_item l p (map (item_of name) es)
  unfolding answer_bytes contents_of received_bytes notice_bytes
  item-due p room [] e fine = absurd (omega arith)
  item-due p room (message k m ∷ es) e fine = message-due p k m es fine.0
  item-due p room (destroyed k s ∷ es) e fine = rw (r.handles.same p s) refl
  item-due p room (released k s ∷ es) e fine = rw (r.handles.same p s) refl

  -- 02 No. 1: the seed.
  seed-due : (p room : ℕ) (x : Seed) → showable room x ≡ 0 → b.user p < users → length (seed_carries x) ≤ 8 → length (seed_payload (seed_of name x)) ≤ 512 →
      bytes_of (shows_seed b p x) ≡ due_seed l p (seed_of name x)
  unfolding shows_seed
  seed-due p room unset e u few short = absurd (omega arith)
  seed-due p room (kept payload carried) e u few short =
      let k = suc b.accepted in
      let n : length (shown_all b p k carried) ≡ length carried = shown-length b p k carried in
      let due : due_ids l p (suc l.accepted) (map (called name) carried) ≡ shown_all b p k carried
      = ap (λ (j : ℕ). due_ids l p (suc j) (map (called name) carried)) r.accepted ∙ shown-all-due w.apart b l p k carried r in
      rw (due, length-map, w.users p)
      (seed-bytes invalid (b.user p) (length payload) (length carried) (shown_all b p k carried) payload (omega (arith, u)) (omega (arith, few)) (omega (arith, n, few)) short)

  -- The holders question.
  holders-due : (s : ℕ) → holders_byte l (called name s) ≡ holders_of b s
  unfolding holders_of
  holders-due s =
      sum-ext (λ q. pick (held (l.handle q (name s))) (2 ^ q) 0) (λ q. pick (held (b.handle q s)) (2 ^ q) 0) peers
      (λ q m. ap (λ (x : Handle). pick (held x) (2 ^ q) 0) (r.handles.same q s))

  -- The quota question.
  balance-due : (p : ℕ) (u : User) → u.0 < users → balance_bytes (balance_of (b.charges p) u) ≡ of_each (queued l.book p u.0) ++ of_each (left_of l.book p u.0)
  unfolding balance_bytes charge_bytes balance_of
  balance-due p u m =
      let k = l.book in
      rw (
        others-queued name b k w h p u.0 messages m,
        others-queued name b k w h p u.0 bytes m,
        others-queued name b k w h p u.0 handles m,
        own-queued name b k w h p u.0 messages m,
        own-queued name b k w h p u.0 bytes m,
        own-queued name b k w h p u.0 handles m,
      )
      refl

  -- Every command that is not refused.
  reply-due : (f : List ℕ) (c : Command) → Legal f c → Tested b f c → DueTo l c (bytes_of (reply b f c))
  unfolding reply answer_bytes contents_of holder_bytes
  reply-due f (Open p u) a t = refl
  reply-due f (Disconnect p) a t = refl
  reply-due f (Create p i) a t = refl
  reply-due f (Destroy p i) a t = refl
  reply-due f (Release p i) a t = refl
  reply-due f (Transfer p i q) a t =
      let s = slot b p.0 i.0 in
      let due : due_id l q.0 (suc l.accepted) (called name s) ≡ shown b q.0 (suc b.accepted) s
      = ap (λ (j : ℕ). due_id l q.0 (suc j) (called name s)) r.accepted ∙ shown-due w.apart b l r q.0 (suc b.accepted) s in
      rw ((noted-at-slot name b l.book w p.0 i.0 t.holds).1, due) refl
  reply-due f (Send p z) a t = refl
  reply-due f (Receive p room) a t = rw (r.queues p.0) (item-due p.0 room (b.queue p.0) t.next (h.at p.0).fine)
  reply-due f (Quota p u) a t = ap (◌∷◌ 0) (balance-due p.0 u (omega (arith, a.1)))
  reply-due f (Holders p i) a t = rw ((noted-at-slot name b l.book w p.0 i.0 t.holds).1, holders-due (slot b p.0 i.0)) refl
  reply-due f (ShowSeed p room) a t =
      let s = r.seeds p.0 (omega (arith, a)) in
      rw s (seed-due p.0 room (b.seed p.0) t.next (known-open b p.0 h t.acting.is_open) (carries p.0) (rw s at (small p.0)))

-- "An answer begins with 00 or a refusal number": of a call that is not refused, whatever the calls before it, the answer is the one due.
pub answers-due : (cs : List Call) (c : Call) (k : Command) → parse c.frame ≡ Ok k → (step (run cs) c).outcome.number ≡ 0 → DueTo (ledger_after cs) k (answer_of (step (run cs) c))
answers-due cs c k e z =
    let x = accepted-call (run cs) c z in
    let y : ◌≡◌ {A = Parsed} (Ok x.0) (Ok k) = sym x.1.read ∙ e in
    let f : x.0 ≡ k = cc y in
    go x.0 x.1 f
  where
    due : (d : Command) → Accepted (run cs) c d → DueTo (ledger_after cs) d (answer_of (step (run cs) c))
    due d a =
        let b = run cs in
        let w = story (length cs) cs (omega arith) in
        let s : Sim (length cs) w.name b (ledger_after cs).book = rw (ledger-book cs) w.sim in
        rw (answer-bytes b c d a) (reply-due w.name b (ledger_after cs) s w.follows (always-charged cs) (λ p. ((always-noted cs).seeds p).0) (seeds-small cs) c.frame d a.legal (tested b c.frame d a.unrefused))

    go : (d : Command) → Accepted (run cs) c d → d ≡ k → DueTo (ledger_after cs) k (answer_of (step (run cs) c))
    go d a f = rw (← f) (due d a)

pub due-of-history : DueOfHistory
due-of-history xs ys x k h zero e =
    let t = happened-at xs ys x h in
    let d = answers-due t.before t.call k (ap (λ (y : Fed). parse y.frame) t.gives ∙ e) (ap (λ (y : Fed). y.number) t.gives ∙ zero) in
    rw (t.first, ap (λ (y : Fed). y.answer) t.gives) at d
