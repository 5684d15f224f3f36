-- Every accepted command, alike on the bus and in the book.
-- Assumes nothing.
use Rattle.std.specs.Prelude.{ℕ, suc, ◌+◌, ◌*◌, ◌<◌, ◌≡◌, true, false, not, List, [], ◌∷◌, map}
use Rattle.std.proofs.Math.Path.{refl}
use Rattle.std.proofs.Common.{ap, ◌∙◌}
use Rattle.std.proofs.lemmas.Bool.{not-true}
use Rattle.laws.specs.Tests.{Seen, Seen.is_true, Seen.is_false, look}
use Rattle.laws.specs.Tables.{upd, upd-all, upd-rel}
use Rattle.laws.specs.Weights.{All}
use Rattle.laws.specs.Search.{first_found}
use Rattle.frames.specs.declared.Command.{Command}
use Rattle.frames.specs.declared.Command.TheVariants.{Open, Disconnect, Create, Destroy, Release, Transfer, Send, Receive, Quota, Holders, ShowSeed}
use Rattle.model.specs.Numbers.{slots, peers}
use Rattle.model.specs.State.{Message, Entry, Entry.message, Entry.destroyed, Entry.released, messages_in, State, slot, free_place, counts, Seed, seed_carries}
use Rattle.model.specs.Tables.{accept, with_given, with_handles, with_queues, with_charges, with_seed}
use Rattle.model.specs.Changes.{take_out, withdraw, shown, shown_all, give, give_all, valid}
use Rattle.model.specs.Book.{Book, answered_id, answers_message, shown_ids, note_seed}
use Rattle.model.specs.Notices.{Carried, Unnamed}
use Rattle.model.specs.Sim.{told, Sim, called}
use Rattle.model.specs.SimGive.{Ids, enough}

-- What the answer a of an accepted command shows of the bus b before it: a transfer the ID at the destination, a receive its message's IDs, or that it is no message.
abbrev pub ReceiveShows : State → ℕ → List Entry → List ℕ → Type 0
ReceiveShows b p [] a = answers_message a ≡ false
ReceiveShows b p (message n m ∷ q) a = (answers_message a ≡ true) × (shown_ids a ≡ shown_all (take_out b p (m ∷ []) q) p n m.carried)
ReceiveShows b p (destroyed n s ∷ q) a = answers_message a ≡ false
ReceiveShows b p (released n s ∷ q) a = answers_message a ≡ false

abbrev pub Shows : State → Command → List ℕ → Type 0
Shows b (Open p u) a = Unit {0}
Shows b (Disconnect p) a = Unit {0}
Shows b (Create p i) a = Unit {0}
Shows b (Destroy p i) a = Unit {0}
Shows b (Release p i) a = Unit {0}
Shows b (Transfer p i q) a = answered_id a ≡ shown b q.0 (suc b.accepted) (slot b p.0 i.0)
Shows b (Send p z) a = Unit {0}
Shows b (Receive p room) a = ReceiveShows b p.0 (b.queue p.0) a
Shows b (Quota p u) a = Unit {0}
Shows b (Holders p i) a = Unit {0}
Shows b (ShowSeed p room) a = shown_ids a ≡ shown_all b p.0 (suc b.accepted) (seed_carries (b.seed p.0))

-- What the relation needs to know of the bus: its IDs; that few have been given; that a message carries few slots; that a slot which does not count is named by nothing.
pub record Ready (b : State) : Type 0 where
  pub ids : Ids b
  pub few : (p : ℕ) → b.given p + 8 < enough
  pub carried : (p : ℕ) → All (λ m. Carried m.carried) (messages_in (b.queue p))
  pub seeds : (p : ℕ) → Carried (seed_carries (b.seed p))
  pub free : (s : ℕ) → counts b s ≡ false → Unnamed b s

-- Book and bus, for some names.
pub record World (N : ℕ) (b : State) (k : Book) : Type 0 where
  pub name : ℕ → ℕ
  pub sim : Sim N name b k

-- The names after a command: create gives the slot that it takes the book's next number.
abbrev pub renamed : (ℕ → ℕ) → State → Book → Command → ℕ → ℕ
renamed name b k (Create p i) = upd name (p.0 * slots + free_place (accept b) p.0) k.entered
renamed name b k (Open p u) = name
renamed name b k (Disconnect p) = name
renamed name b k (Destroy p i) = name
renamed name b k (Release p i) = name
renamed name b k (Transfer p i q) = name
renamed name b k (Send p z) = name
renamed name b k (Receive p room) = name
renamed name b k (Quota p u) = name
renamed name b k (Holders p i) = name
renamed name b k (ShowSeed p room) = name

-- The number of accepted commands shows in nothing that a peer is given.
pub give-accept : (b : State) (p as_of s : ℕ) → give (accept b) p as_of s ≡ accept (give b p as_of s)
unfolding give accept valid shown withdraw with_given with_handles with_queues
give-accept b p as_of s = go (look (valid b p as_of s))
  where
    go : Seen (valid b p as_of s) → give (accept b) p as_of s ≡ accept (give b p as_of s)
    go (is_true e) = rw e
    go (is_false e) = rw e

pub gives-accept : (b : State) (p as_of : ℕ) (ss : List ℕ) → give_all (accept b) p as_of ss ≡ accept (give_all b p as_of ss)
gives-accept b p as_of [] = refl
gives-accept b p as_of (s ∷ ss) = ap (λ (x : State). give_all x p as_of ss) (give-accept b p as_of s) ∙ gives-accept (give b p as_of s) p as_of ss

pub out-accept : (b : State) (p : ℕ) (ms : List Message) (q : List Entry) → take_out (accept b) p ms q ≡ accept (take_out b p ms q)
unfolding take_out accept with_charges with_queues
out-accept b p ms q = refl

pub received-first : (b : State) (p : ℕ) (q : List Entry) → b.queue p ≡ q → All (λ m. Carried m.carried) (messages_in (b.queue p)) → All (λ m. Carried m.carried) (messages_in q)
received-first b p q e a = rw e at a

-- A notice is taken out.
pub sim-notice : {N : ℕ} {name : ℕ → ℕ} {k : Book} (b : State) (p : ℕ) (q : List Entry) → Sim N name b k → messages_in q ≡ messages_in (b.queue p) → Sim N name (take_out b p [] q) k
unfolding take_out with_charges with_queues
sim-notice {name = name} {k = k} b p q r e =
    record {
      apart = r.apart;
      known = r.known;
      seeds = r.seeds;
      users = r.users;
      sums = r.sums;
      handles = r.handles;
      queues = upd-all (λ p x. k.queue p ≡ map (told name) (messages_in x)) b.queue p q r.queues (rw e (r.queues p));
    }

-- A seed set, or dropped.
pub sim-seed : {N : ℕ} (name : ℕ → ℕ) (b : State) (k : Book) (p : ℕ) (x : Seed) → Sim N name b k → Sim N name (with_seed b p x) (note_seed k p (map (called name) (seed_carries x)))
unfolding with_seed note_seed
sim-seed name b k p x r =
    record {
      apart = r.apart;
      known = r.known;
      users = r.users;
      sums = r.sums;
      queues = r.queues;
      handles = r.handles;
      seeds = upd-rel (λ q y z. q < peers → y ≡ map (called name) (seed_carries z)) k.seed b.seed p _ x r.seeds (λ l. refl);
    }

-- Create takes a slot that does not count.
place-free : (b : State) (p : ℕ) → free_place b p < slots → counts b (p * slots + free_place b p) ≡ false
unfolding free_place
place-free b p l = not-true _ (first_found (λ k. not (counts b (p * slots + k))) slots l)

unnamed-accept : (b : State) (s : ℕ) → Unnamed b s → Unnamed (accept b) s
unfolding accept
unnamed-accept b s u = record { dead = u.dead; unheld = u.unheld; unqueued = u.unqueued; unseeded = u.unseeded }

-- The slot that create takes is named by nothing.
pub taken-unnamed : (b : State) (p : ℕ) → Ready b → free_place b p < slots → (free_place (accept b) p < slots) × Unnamed (accept b) (p * slots + free_place (accept b) p)
taken-unnamed b p ready l =
    let e : free_place (accept b) p ≡ free_place b p = unfold accept free_place counts in refl in
    (rw e l, rw e (unnamed-accept b _ (ready.free _ (place-free b p l))))
