-- Release, destroy, disconnect, open and notices, alike on the bus and in the book.
-- Assumes nothing.
use Rattle.std.specs.Prelude.{ℕ, ◌-◌, ◌<◌, ◌≡◌, refl, Bool, not, map, eqb}
use Rattle.std.proofs.Common.{ap, ◌∙◌, eqb-true, eq-eqb, ne_eqb}
use Rattle.std.proofs.lemmas.Bool.{eqb-false}
use Rattle.laws.specs.Tests.{pick, pick_all, Seen, Seen.is_true, Seen.is_false, look}
use Rattle.laws.specs.Tables.{upd-rel}
use Rattle.laws.specs.Weights.{load_split, keep, keep-map}
use Rattle.model.specs.Numbers.{nodes}
use Rattle.model.specs.State.{Status.disconnected, Handle.none, Handle.some, handle_of, Message, messages_in, State}
use Rattle.model.specs.Tables.{with_status, with_user, with_handles, with_handle, with_queues, with_lives, accept}
use Rattle.model.specs.Changes.{push_all, withdraw, dropped, remains, forget, fell, notify, notify_all, destroy_all, settle}
use Rattle.model.specs.Effects.{opens, releases}
use Rattle.model.specs.Book.{noted_of, Book, weight, by, put_handle, note_open, drops, drop_for, note_release, drop_handles}
use Rattle.model.specs.Sim.{called, told, Handles, Sim}
use Rattle.model.specs.SimHandles.{handles-set, one-slot, handles-none}
use Rattle.model.specs.Quiet.{messages-keep, quiet-accept, quiet-notify, settle-messages}
use Rattle.model.specs.SimQueues.{sim-quiet, sim-dropped}

-- One more command is accepted.
pub sim-accept : {N : ℕ} {name : ℕ → ℕ} {k : Book} (b : State) → Sim N name b k → Sim N name (accept b) k
unfolding accept
sim-accept b s = sim-quiet b (accept b) s (quiet-accept b) refl

-- Notices are queued; the handles stay.
notify-handles : (a b : State) (s : ℕ) → (notify a b s).handle ≡ b.handle
unfolding notify with_queues
notify-handles a b s = pick_all (λ (x : State). x.handle ≡ b.handle) (fell a b s) _ b refl refl

pub destroy-handles : (b : State) (p : ℕ) (t : ℕ → Bool) → (destroy_all b p t).handle ≡ b.handle
unfolding destroy_all push_all withdraw with_lives with_queues
destroy-handles b p t = refl

-- A handle of p set, alike in the book.
pub sim_put : {N : ℕ} (name : ℕ → ℕ) (b : State) (k : Book) (p s i c : ℕ) → Sim N name b k → s < nodes →
    ((j d : ℕ) → b.handle p s ≡ some j d → j ≡ i) → ((t d : ℕ) → b.handle p t ≡ some i d → t ≡ s) →
    Sim N name (with_handle b p s (handle_of i c)) (put_handle k p i (noted_of (called name s) c))
unfolding with_handles put_handle
sim_put name b k p s i c r l one-id one_place =
    record {
      apart = r.apart;
      known = r.known;
      seeds = r.seeds;
      users = r.users;
      sums = r.sums;
      queues = r.queues;
      handles = upd-rel (λ _ h g. Handles name h g) b.handle k.handle p _ _ r.handles (handles-set name (b.handle p) (k.handle p) s i c (r.handles p) l one-id one_place);
    }

-- Messages for a node that p owns are dropped with its handle.
pub eqb_apart : (name : ℕ → ℕ) → ((s t : ℕ) → name s ≡ name t → s ≡ t) → (s t : ℕ) → eqb (name s) (name t) ≡ eqb s t
eqb_apart name apart s t = go (look (eqb s t))
  where
    go : Seen (eqb s t) → eqb (name s) (name t) ≡ eqb s t
    go (is_true e) = rw e (eq-eqb _ _ (ap name (eqb-true s t e)))
    go (is_false e) = rw e (ne_eqb _ _ (λ f. eqb-false s t e (apart s t f)))

drops-is : (name : ℕ → ℕ) → ((s t : ℕ) → name s ≡ name t → s ≡ t) → (p s : ℕ) (m : Message) → drops p (called name s) (told name m) ≡ dropped p s m
drops-is name apart p s m = rw (eqb_apart name apart m.to s)

pub sim_forget : {N : ℕ} (name : ℕ → ℕ) (b : State) (k : Book) (p s : ℕ) → Sim N name b k → Sim N name (forget b p s) (drop_for k p (called name s))
unfolding forget drop_for
sim_forget name b k p s r =
    let left = settle (b.handle p) (keep (remains p s) (b.queue p)) in
    let stays : messages_in left ≡ keep (λ m. not (dropped p s m)) (messages_in (b.queue p))
    = settle-messages (b.handle p) (keep (remains p s) (b.queue p)) ∙ messages-keep (remains p s) (λ m. not (dropped p s m)) (λ n m. refl) (b.queue p) in
    let out : keep (drops p (called name s)) (k.queue p) ≡ map (told name) (keep (dropped p s) (messages_in (b.queue p)))
    = rw (r.queues p) (keep-map (told name) (drops p (called name s)) (dropped p s) (messages_in (b.queue p)) (drops-is name r.apart p s)) in
    let rest : keep (λ m. not (drops p (called name s) m)) (k.queue p) ≡ map (told name) (messages_in left)
    = rw (r.queues p, stays)
    (keep-map (told name) (λ m. not (drops p (called name s) m)) (λ m. not (dropped p s m)) (messages_in (b.queue p)) (λ m. ap not (drops-is name r.apart p s m))) in
    rw (out, rest)
    (sim-dropped name b k p (keep (dropped p s) (messages_in (b.queue p))) left r
    (λ u w. rw (← out, ← rest) (load_split (by u) (weight w) (drops p (called name s)) (k.queue p))))

-- Release: the count falls by 1.
pub sim-release : {N : ℕ} (name : ℕ → ℕ) (b : State) (k : Book) (p s i c : ℕ) → Sim N name b k → s < nodes → b.handle p s ≡ some i c →
    Sim N name (releases b p s i c) (note_release k p i (k.handle p i))
unfolding releases
sim-release {N} name b k p s i c r l e =
    let less = pick (eqb c 1) (forget (with_handle b p s (handle_of i (c - 1))) p s) (with_handle b p s (handle_of i (c - 1))) in
    rw ((r.handles p).noted-at s i c e)
    (sim-quiet _ _ (go (look (eqb c 1))) (quiet-notify b less s) (notify-handles b less s))
  where
    put : Sim N name (with_handle b p s (handle_of i (c - 1))) (put_handle k p i (noted_of (called name s) (c - 1)))
    put = sim_put name b k p s i (c - 1) r l (λ j d f. cc) (λ t d f. one-slot name r.apart (b.handle p) (k.handle p) (r.handles p) s t i c d e f)

    go : Seen (eqb c 1) →
        Sim N name (pick (eqb c 1) (forget (with_handle b p s (handle_of i (c - 1))) p s) (with_handle b p s (handle_of i (c - 1))))
        (pick (eqb c 1) (drop_for (put_handle k p i (noted_of (called name s) (c - 1))) p (called name s)) (put_handle k p i (noted_of (called name s) (c - 1))))
    go (is_true f) = rw f (sim_forget name _ _ p s put)
    go (is_false f) = rw f put

-- Open notes the user.
pub sim-open : {N : ℕ} (name : ℕ → ℕ) (b : State) (k : Book) (p u : ℕ) → Sim N name b k → Sim N name (opens b p u) (note_open k p u)
unfolding opens with_status with_user note_open
sim-open name b k p u r =
    record {
      apart = r.apart;
      known = r.known;
      seeds = r.seeds;
      sums = r.sums;
      queues = r.queues;
      handles = r.handles;
      users = upd-rel (λ _ x y. x ≡ y) k.user b.user p u u r.users refl;
    }

-- Disconnect: all messages dropped, all handles gone.
pub sim-no-handles : {N : ℕ} (name : ℕ → ℕ) (b : State) (k : Book) (p : ℕ) → Sim N name b k → Sim N name (with_handles b p (λ s. none)) (drop_handles k p)
unfolding with_handles drop_handles
sim-no-handles name b k p r =
    record {
      apart = r.apart;
      known = r.known;
      seeds = r.seeds;
      users = r.users;
      sums = r.sums;
      queues = r.queues;
      handles = upd-rel (λ _ h g. Handles name h g) b.handle k.handle p _ _ r.handles (handles-none name);
    }

pub sim-status : {N : ℕ} {name : ℕ → ℕ} {k : Book} (b : State) (p : ℕ) → Sim N name b k → Sim N name (with_status b p disconnected) k
unfolding with_status
sim-status b p r = record { apart = r.apart; known = r.known; users = r.users; sums = r.sums; queues = r.queues; handles = r.handles; seeds = r.seeds }

pub notify-all-handles : (a b : State) → (notify_all a b).handle ≡ b.handle
unfolding notify_all push_all with_queues
notify-all-handles a b = refl
