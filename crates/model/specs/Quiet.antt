-- Changes that leave the messages, the charges, the status and the users of all peers alone: those of handles, lives and notices.
-- Assumes nothing.
use Rattle.std.specs.Prelude.{ℕ, ◌≡◌, refl, Bool, true, List, [], ◌∷◌, ◌++◌, map, eqb, ltb}
use Rattle.std.proofs.Common.{ap, ◌∙◌, append-nil}
use Rattle.laws.specs.Tests.{pick_all, Seen, Seen.is_true, Seen.is_false, look}
use Rattle.laws.specs.Tables.{upd-all}
use Rattle.laws.specs.Weights.{keep}
use Rattle.laws.specs.Loads.{keep-every}
use Rattle.model.specs.Numbers.{peers, owner}
use Rattle.model.specs.State.{Life, Handle, Message, Entry, Entry.message, Entry.destroyed, Entry.released, messages_in, State}
use Rattle.model.specs.Tables.{accept, with_given, with_handles, with_queues, with_queue, with_lives}
use Rattle.model.specs.Changes.{push_all, at_peers, not_released, withdraw, give, fell, notify, valid, stays, settle, settled}

pub record Quiet (b c : State) : Type 0 where
  pub messages : (q : ℕ) → messages_in (c.queue q) ≡ messages_in (b.queue q)
  pub charges : c.charges ≡ b.charges
  pub status : c.status ≡ b.status
  pub user : c.user ≡ b.user
  pub seed : c.seed ≡ b.seed

pub quiet_same : (b : State) → Quiet b b
quiet_same b = record { messages = λ q. refl; charges = refl; status = refl; user = refl; seed = refl }

pub quiet_then : {a b c : State} → Quiet a b → Quiet b c → Quiet a c
quiet_then x y =
    record { messages = λ q. y.messages q ∙ x.messages q; charges = y.charges ∙ x.charges; status = y.status ∙ x.status; user = y.user ∙ x.user; seed = y.seed ∙ x.seed }

-- The messages of queues that are put together, filtered, or of notices alone.
pub messages-append : (q q' : List Entry) → messages_in (q ++ q') ≡ messages_in q ++ messages_in q'
messages-append [] q' = refl
messages-append (message n m ∷ q) q' = ap (◌∷◌ m) (messages-append q q')
messages-append (destroyed n s ∷ q) q' = messages-append q q'
messages-append (released n s ∷ q) q' = messages-append q q'

pub messages-keep : (t : Entry → Bool) (d : Message → Bool) → ((n : ℕ) (m : Message) → t (message n m) ≡ d m) → (q : List Entry) →
    messages_in (keep t q) ≡ keep d (messages_in q)
messages-keep t d h [] = refl
messages-keep t d h (message n m ∷ q) = go (look (d m)) (messages-keep t d h q)
  where
    go : Seen (d m) → messages_in (keep t q) ≡ keep d (messages_in q) → messages_in (keep t (message n m ∷ q)) ≡ keep d (m ∷ messages_in q)
    go (is_true e) ih = rw (h n m, e) (ap (◌∷◌ m) ih)
    go (is_false e) ih = rw (h n m, e) ih
messages-keep t d h (destroyed n s ∷ q) = pick_all (λ x. messages_in x ≡ keep d (messages_in q)) (t (destroyed n s)) _ _ (messages-keep t d h q) (messages-keep t d h q)
messages-keep t d h (released n s ∷ q) = pick_all (λ x. messages_in x ≡ keep d (messages_in q)) (t (released n s)) _ _ (messages-keep t d h q) (messages-keep t d h q)

pub destroyed-silent : (n : ℕ) (ss : List ℕ) → messages_in (map (destroyed n) ss) ≡ []
destroyed-silent n [] = refl
destroyed-silent n (s ∷ ss) = destroyed-silent n ss

pub released-silent : (n : ℕ) (ss : List ℕ) → messages_in (map (released n) ss) ≡ []
released-silent n [] = refl
released-silent n (s ∷ ss) = released-silent n ss

-- Each small change.
pub quiet-accept : (b : State) → Quiet b (accept b)
unfolding accept
quiet-accept b = record { messages = λ q. refl; charges = refl; status = refl; user = refl; seed = refl }

pub quiet-given : (b : State) (f : ℕ → ℕ) → Quiet b (with_given b f)
unfolding with_given
quiet-given b f = record { messages = λ q. refl; charges = refl; status = refl; user = refl; seed = refl }

pub quiet-handles : (b : State) (p : ℕ) (h : ℕ → Handle) → Quiet b (with_handles b p h)
unfolding with_handles
quiet-handles b p h = record { messages = λ q. refl; charges = refl; status = refl; user = refl; seed = refl }

pub quiet-lives : (b : State) (f : ℕ → Life) → Quiet b (with_lives b f)
unfolding with_lives
quiet-lives b f = record { messages = λ q. refl; charges = refl; status = refl; user = refl; seed = refl }

pub quiet-queue : (b : State) (p : ℕ) (x : List Entry) → messages_in x ≡ messages_in (b.queue p) → Quiet b (with_queue b p x)
unfolding with_queues
quiet-queue b p x h =
    record { messages = upd-all (λ q y. messages_in y ≡ messages_in (b.queue q)) b.queue p x (λ q. refl) h; charges = refl; status = refl; user = refl; seed = refl }

pub quiet-push : (b : State) (p : ℕ) (new : List Entry) → messages_in new ≡ [] → Quiet b (with_queue b p (b.queue p ++ new))
quiet-push b p new e = quiet-queue b p (b.queue p ++ new) (rw (messages-append, e) (append-nil (messages_in (b.queue p))))

pub quiet-push_all : (b : State) (new : ℕ → List Entry) → ((q : ℕ) → messages_in (new q) ≡ []) → Quiet b (push_all b new)
unfolding push_all with_queues
quiet-push_all b new e =
    record { messages = λ q. rw (messages-append, e q) (append-nil (messages_in (b.queue q))); charges = refl; status = refl; user = refl; seed = refl }

pub quiet-withdraw : (b : State) (p : ℕ) (t : ℕ → Bool) → Quiet b (withdraw b p t)
unfolding withdraw
quiet-withdraw b p t =
    quiet-queue b p (keep (not_released t) (b.queue p)) (messages-keep (not_released t) (λ m. true) (λ n m. refl) (b.queue p) ∙ keep-every (messages_in (b.queue p)))

pub settle-messages : (h : ℕ → Handle) (q : List Entry) → messages_in (settle h q) ≡ messages_in q
unfolding settle
settle-messages h q = messages-keep (stays h q) (λ m. true) (λ n m. refl) q ∙ keep-every (messages_in q)

pub quiet-settled : (b : State) (p : ℕ) → Quiet b (settled b p)
unfolding settled settle
quiet-settled b p =
    quiet-queue b p _ (messages-keep (stays (b.handle p) (b.queue p)) (λ m. true) (λ n m. refl) (b.queue p) ∙ keep-every (messages_in (b.queue p)))

pub quiet-give : (b : State) (p as_of s : ℕ) → Quiet b (give b p as_of s)
unfolding give
quiet-give b p as_of s =
    pick_all (Quiet b) (valid b p as_of s) _ b (quiet_then (quiet_then (quiet-given b _) (quiet-handles _ p _)) (quiet-withdraw _ (owner s) (eqb s))) (quiet_same b)

pub quiet-notify : (a b : State) (s : ℕ) → Quiet b (notify a b s)
unfolding notify
quiet-notify a b s = pick_all (Quiet b) (fell a b s) _ b (quiet-push b (owner s) (released b.accepted s ∷ []) refl) (quiet_same b)

pub at-peers-silent : (new : ℕ → List Entry) (q : ℕ) → messages_in (new q) ≡ [] → messages_in (at_peers new q) ≡ []
at-peers-silent new q e = pick_all (λ x. messages_in x ≡ []) (ltb q peers) (new q) [] e refl
