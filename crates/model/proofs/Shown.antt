-- The theorems that go with specs/Shown.antt and stand on others: each goes by the definitions and the theorems there.
-- Assumes nothing.
use Rattle.ids.specs.Refusals.{EAGAIN}
use Rattle.model.proofs.Tested.{tested}
use Rattle.std.specs.Prelude.{ℕ, suc, ◌^◌, ◌≤◌, ◌<◌, ◌≡◌, true, false}
use Rattle.std.proofs.Math.Path.{sym, ap}
use Rattle.std.proofs.Common.{◌∙◌}
use mathlib.Core.List.{List, [], ◌∷◌}
use native.Mathlib.Omega.{arith}
use Rattle.std.proofs.Math.ListN.{length}
use Rattle.laws.specs.Weights.{All}
use Rattle.ids.specs.declared.HandleId.{HandleId}
use Rattle.ids.specs.declared.Peer.{Peer}
use Rattle.ids.specs.declared.User.{User}
use Rattle.frames.specs.declared.Command.{Command}
use Rattle.frames.specs.declared.Command.TheVariants.{Transfer, Receive, Quota, ShowSeed}
use Rattle.quota.specs.Charges.{own, balance_of}
use Rattle.answers.specs.AnswerLaws.{transferred-id, message-kind, destroyed-kind, released-kind, message-count, message-ids, quota-messages, quota-bytes, quota-handles}
use Rattle.model.specs.Resources.{Resource, Resource.messages, Resource.bytes, Resource.handles, amount}
use Rattle.model.specs.State.{Message, Entry, Entry.message, Entry.destroyed, Entry.released, State, slot, Seed.unset, seed_carries}
use Rattle.model.specs.Changes.{take_out, shown, shown_all}
use Rattle.model.specs.Replies.{shows_message, shows, reply}
use Rattle.model.specs.Step.{Call, step, answer_of}
use Rattle.model.specs.Book.{answered_id, answers_message, shown_ids}
use Rattle.model.specs.Claim.{reported}
use Rattle.model.specs.Accepted.{Accepted}
use Rattle.model.specs.Shown.{bytes_of, finish-answer, shown-length, seed-ids}

module _ (b : State) (c : Call) where
  -- The answer of an accepted call is the bytes of its reply.
  pub answer-bytes : (k : Command) → Accepted b c k → answer_of (step b c) ≡ bytes_of (reply b c.frame k)
  answer-bytes k a = ap answer_of a.result ∙ finish-answer b c.buffer _ a.large

  -- Transfer answers the ID shown at the destination.
  pub transfer-answers : (p : Peer) (i : HandleId) (q : Peer) → Accepted b c (Transfer p i q) → shown b q.0 (suc b.accepted) (slot b p.0 i.0) < 256 ^ 8 →
      answered_id (answer_of (step b c)) ≡ shown b q.0 (suc b.accepted) (slot b p.0 i.0)
  unfolding reply
  transfer-answers p i q a h = rw (answer-bytes (Transfer p i q) a) (transferred-id _ [] [] h)

  module _ (p : Peer) (room : ℕ) (a : Accepted b c (Receive p room)) where
    -- Receive answers what stands first in the queue.
    pub receive-bytes : (q : List Entry) → b.queue p.0 ≡ q → answer_of (step b c) ≡ bytes_of (shows b p.0 q)
    unfolding reply
    receive-bytes q e = answer-bytes (Receive p room) a ∙ ap (λ (q : List Entry). bytes_of (shows b p.0 q)) e

    module _ (n : ℕ) (m : Message) (rest : List Entry) (e : b.queue p.0 ≡ message n m ∷ rest) where
      pub receive-message : answers_message (answer_of (step b c)) ≡ true
      unfolding shows_message
      receive-message = rw (receive-bytes (message n m ∷ rest) e, message-kind)

      pub receive-shows : length m.carried ≤ 8 → All (λ i. i < 256 ^ 8) (shown_all (take_out b p.0 (m ∷ []) rest) p.0 n m.carried) →
          shown_ids (answer_of (step b c)) ≡ shown_all (take_out b p.0 (m ∷ []) rest) p.0 n m.carried
      unfolding shows_message
      receive-shows l h =
          let ids = shown_all (take_out b p.0 (m ∷ []) rest) p.0 n m.carried in
          let k : length m.carried ≡ length ids = sym (shown-length (take_out b p.0 (m ∷ []) rest) p.0 n m.carried) in
          let few : length ids ≤ 8 = omega arith in
          rw (receive-bytes (message n m ∷ rest) e, message-count) (message-ids _ ids m.payload few h)

    module _ (n s : ℕ) (rest : List Entry) where
      pub receive-destroyed : b.queue p.0 ≡ destroyed n s ∷ rest → answers_message (answer_of (step b c)) ≡ false
      receive-destroyed e = rw (receive-bytes (destroyed n s ∷ rest) e, destroyed-kind)

      pub receive-released : b.queue p.0 ≡ released n s ∷ rest → answers_message (answer_of (step b c)) ≡ false
      receive-released e = rw (receive-bytes (released n s ∷ rest) e, released-kind)

  -- A seed reading answers the IDs of what the seed carries.
  pub seed-shows : (p : Peer) (room : ℕ) → Accepted b c (ShowSeed p room) → length (seed_carries (b.seed p.0)) ≤ 8 →
      All (λ i. i < 256 ^ 8) (shown_all b p.0 (suc b.accepted) (seed_carries (b.seed p.0))) → shown_ids (answer_of (step b c)) ≡ shown_all b p.0 (suc b.accepted) (seed_carries (b.seed p.0))
  unfolding reply
  seed-shows p room a few h = ap shown_ids (answer-bytes (ShowSeed p room) a) ∙ seed-ids b p.0 (b.seed p.0) (λ e. absurd (unset-refused e)) few h
    where
      unset-refused : b.seed p.0 ≡ unset → ⊥
      unset-refused e = let z : EAGAIN ≡ 0 = rw e at (tested b c.frame (ShowSeed p room) a.unrefused).next in omega arith

  -- The quota question reports what the user has queued.
  pub quota-reports : (p : Peer) (u : User) → Accepted b c (Quota p u) → (r : Resource) → amount r (own (b.charges p.0) u) < 65536 →
      reported r (answer_of (step b c)) ≡ amount r (own (b.charges p.0) u)
  unfolding reply balance_of
  quota-reports p u a messages h = rw (answer-bytes (Quota p u) a) (quota-messages (balance_of (b.charges p.0) u) [] [] h)
  quota-reports p u a bytes h = rw (answer-bytes (Quota p u) a) (quota-bytes (balance_of (b.charges p.0) u) [] [] h)
  quota-reports p u a handles h = rw (answer-bytes (Quota p u) a) (quota-handles (balance_of (b.charges p.0) u) [] [] h)
