-- Messages that leave a queue, received or dropped, alike on the bus and in the book; and changes that the book does not see.
-- Assumes nothing.
use Rattle.std.specs.Prelude.{ℕ, ◌+◌, ◌≡◌, refl, Bool, true, List, [], ◌∷◌, map}
use Rattle.std.proofs.Common.{◌∙◌, arith}
use Rattle.laws.specs.Tests.{Same, Same.same, Same.other, same?}
use Rattle.laws.specs.Tables.{upd, upd_same, upd_other, upd-rel}
use Rattle.laws.specs.Weights.{load, keep}
use Rattle.laws.specs.Loads.{keep-every}
use Rattle.model.specs.Resources.{Resource}
use Rattle.model.specs.State.{Message, Entry, Entry.message, messages_in, State}
use Rattle.model.specs.Tables.{with_queues, with_charges}
use Rattle.model.specs.Changes.{take_out}
use Rattle.model.specs.Quiet.{Quiet, messages-keep}
use Rattle.model.specs.Book.{Book, weight, by, to_received, to_dropped}
use Rattle.model.specs.Sim.{told, Sim}

-- A filter that passes every message.
pub messages-kept : (t : Entry → Bool) → ((n : ℕ) (m : Message) → t (message n m) ≡ true) → (q : List Entry) → messages_in (keep t q) ≡ messages_in q
messages-kept t h q = messages-keep t (λ m. true) h q ∙ keep-every (messages_in q)

-- The book does not see a change that leaves users, handles and the messages of every queue alone.
pub sim-quiet : {N : ℕ} {name : ℕ → ℕ} {k : Book} (b a : State) → Sim N name b k → Quiet b a → a.handle ≡ b.handle → Sim N name a k
sim-quiet b a s q h =
    record {
      apart = s.apart;
      known = s.known;
      sums = s.sums;
      seeds = rw q.seed s.seeds;
      users = rw q.user s.users;
      handles = rw h s.handles;
      queues = λ p. rw (q.messages p) (s.queues p);
    }

-- The weight of messages is that of the book's.
pub load_told : (name : ℕ → ℕ) (u : ℕ) (r : Resource) (ms : List Message) →
    load (by u) (weight r) (map (told name) ms) ≡ load (λ m. by u (told name m)) (λ m. weight r (told name m)) ms
load_told name u r [] = refl
load_told name u r (m ∷ ms) = omega (arith, load_told name u r ms)

-- Of the queue of p, out leaves and rest stays: what leaves and what stays weigh what stood there.
module _ {N : ℕ} (name : ℕ → ℕ) (b : State) (k : Book) (p : ℕ) (out : List Message) (rest : List Entry) (s : Sim N name b k)
    (whole : (u : ℕ) (r : Resource) → load (by u) (weight r) (map (told name) out) + load (by u) (weight r) (map (told name) (messages_in rest))
    ≡ load (by u) (weight r) (k.queue p)) where
  queues-out : (q : ℕ) → upd k.queue p (map (told name) (messages_in rest)) q ≡ map (told name) (messages_in (upd b.queue p rest q))
  queues-out = upd-rel (λ _ x y. x ≡ map (told name) (messages_in y)) k.queue b.queue p _ _ s.queues refl

  pub sim-received : Sim N name (take_out b p out rest) (to_received k p (map (told name) out) (map (told name) (messages_in rest)))
  unfolding take_out to_received with_charges with_queues
  sim-received =
      record { apart = s.apart; known = s.known; users = s.users; handles = s.handles; seeds = s.seeds; queues = queues-out; sums = λ q u r. sum q u r (same? p q) }
    where
      sum : (q u : ℕ) (r : Resource) → Same p q →
          k.sent q u r
          ≡ upd k.received p (λ u r. k.received p u r + load (by u) (weight r) (map (told name) out)) q u r + k.dropped q u r
          + load (by u) (weight r) (upd k.queue p (map (told name) (messages_in rest)) q)
      sum q u r (same z) = rw (← z, upd_same, upd_same) (omega (arith, s.sums p u r, whole u r))
      sum q u r (other z) = rw (upd_other k.received p q _ z, upd_other k.queue p q _ z) (s.sums q u r)

  pub sim-dropped : Sim N name (take_out b p out rest) (to_dropped k p (map (told name) out) (map (told name) (messages_in rest)))
  unfolding take_out to_dropped with_charges with_queues
  sim-dropped =
      record { apart = s.apart; known = s.known; users = s.users; handles = s.handles; seeds = s.seeds; queues = queues-out; sums = λ q u r. sum q u r (same? p q) }
    where
      sum : (q u : ℕ) (r : Resource) → Same p q →
          k.sent q u r
          ≡ k.received q u r + upd k.dropped p (λ u r. k.dropped p u r + load (by u) (weight r) (map (told name) out)) q u r
          + load (by u) (weight r) (upd k.queue p (map (told name) (messages_in rest)) q)
      sum q u r (same z) = rw (← z, upd_same, upd_same) (omega (arith, s.sums p u r, whole u r))
      sum q u r (other z) = rw (upd_other k.dropped p q _ z, upd_other k.queue p q _ z) (s.sums q u r)
