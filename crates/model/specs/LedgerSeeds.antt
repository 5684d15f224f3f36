-- What each accepted command makes of the seeds: a send with no destinations sets the acting peer's, its disconnect drops it, and every other command leaves them all. So what holds of
-- each seed that is set holds of every seed of a run.
-- Assumes nothing.
use Rattle.std.specs.Prelude.{ℕ, suc, ◌≤◌, ◌≡◌, eqb}
use Rattle.std.proofs.Math.Path.{refl}
use Rattle.std.proofs.Common.{ap, ◌∙◌, arith}
use mathlib.Core.List.{List, [], ◌∷◌, ◌++◌}
use Rattle.std.proofs.Math.ListN.{length}
use Rattle.laws.specs.Tests.{pick, pick_all}
use Rattle.laws.specs.Tables.{upd, upd-all}
use Rattle.ids.specs.declared.Peer.{Peer}
use Rattle.frames.specs.declared.Sizes.{Sizes}
use Rattle.frames.specs.declared.Command.{Command}
use Rattle.frames.specs.declared.Command.TheVariants.{Open, Disconnect, Create, Destroy, Release, Transfer, Send, Receive, Quota, Holders, ShowSeed}
use Rattle.frames.specs.Frame.{payload_of, most_bytes}
use Rattle.frames.specs.Legal.{Legal, payload-length}
use Rattle.model.specs.Requests.{attached}
use Rattle.model.specs.Step.{Call, run}
use Rattle.model.specs.Book.{Node, Noted, Noted.blank, Noted.noted, nodes_of}
use Rattle.model.specs.Accepted.{Accepted}
use Rattle.model.specs.History.{ledger-entered}
use Rattle.model.specs.Ledger.{Item, Item.message, Item.destroyed, Item.released, LedgerSeed, LedgerSeed.unset, LedgerSeed.kept, seed_nodes, Ledger, ledger_create, ledger_destroy, ledger_release, valid_at, ledger_give, ledger_give_all, ledger_queues, ledger_seed, ledger_receive, ledger_disconnect, ledger_counted, on_node, enter, with_book, ledger_after}

abbrev pub seeds_after : Ledger → List ℕ → Command → ℕ → LedgerSeed
seeds_after l f (Send p z) = pick (eqb z.nd 0) (upd l.seed p.0 (kept (payload_of f) (nodes_of l.book p.0 (attached f z)))) l.seed
seeds_after l f (Disconnect p) = upd l.seed p.0 unset
seeds_after l f (Open p u) = l.seed
seeds_after l f (Create p i) = l.seed
seeds_after l f (Destroy p i) = l.seed
seeds_after l f (Release p i) = l.seed
seeds_after l f (Transfer p i q) = l.seed
seeds_after l f (Receive p room) = l.seed
seeds_after l f (Quota p u) = l.seed
seeds_after l f (Holders p i) = l.seed
seeds_after l f (ShowSeed p room) = l.seed

give-seeds : (l : Ledger) (p k : ℕ) (n : Node) → (ledger_give l p k n).seed ≡ l.seed
unfolding ledger_give
give-seeds l p k n = pick_all (λ (x : Ledger). x.seed ≡ l.seed) (valid_at l p k n.number) _ l refl refl

gives-seeds : (l : Ledger) (p k : ℕ) (ns : List Node) → (ledger_give_all l p k ns).seed ≡ l.seed
gives-seeds l p k [] = refl
gives-seeds l p k (n ∷ ns) = gives-seeds (ledger_give l p k n) p k ns ∙ give-seeds l p k n

receive-seeds : (l : Ledger) (p : ℕ) (xs : List Item) → (ledger_receive l p xs).seed ≡ l.seed
unfolding ledger_queues
receive-seeds l p [] = refl
receive-seeds l p (message k m ∷ xs) = gives-seeds (ledger_queues l (upd l.queue p xs)) p k m.carried
receive-seeds l p (destroyed k n ∷ xs) = refl
receive-seeds l p (released k n ∷ xs) = refl

on-node : (l : Ledger) (x : Noted) (f : Node → ℕ → Ledger) (s : ℕ → LedgerSeed) → l.seed ≡ s → ((n : Node) (c : ℕ) → (f n c).seed ≡ s) → (on_node l x f).seed ≡ s
on-node l blank f s e h = e
on-node l (noted n c) f s e h = h n c

pub enter-seeds : (l : Ledger) (f : List ℕ) (c : Command) → (enter l f c).seed ≡ seeds_after l f c
unfolding enter ledger_counted
enter-seeds l f (Open p u) = refl
enter-seeds l f (Disconnect p) = unfold ledger_disconnect in refl
enter-seeds l f (Create p i) = unfold ledger_create in refl
enter-seeds l f (Destroy p i) = on-node (ledger_counted l) (l.book.handle p.0 i.0) _ l.seed refl (λ n c. unfold ledger_destroy in refl)
enter-seeds l f (Release p i) = on-node (ledger_counted l) (l.book.handle p.0 i.0) _ l.seed refl (λ n c. unfold ledger_release in refl)
enter-seeds l f (Transfer p i q) = on-node (ledger_counted l) (l.book.handle p.0 i.0) _ l.seed refl (λ n c. give-seeds (ledger_counted l) q.0 (suc l.accepted) n)
enter-seeds l f (Send p z) = unfold ledger_seed ledger_queues in refl
enter-seeds l f (Receive p room) = receive-seeds (ledger_counted l) p.0 (l.queue p.0)
enter-seeds l f (Quota p u) = refl
enter-seeds l f (Holders p i) = refl
enter-seeds l f (ShowSeed p room) = gives-seeds (ledger_counted l) p.0 (suc l.accepted) (seed_nodes (l.seed p.0))

-- What holds of the seeds before, of none, and of one that is set, holds of them after.
pub seeds-kept : (Q : LedgerSeed → Type 0) (l : Ledger) (f : List ℕ) (c : Command) → ((p : ℕ) → Q (l.seed p)) → Q unset →
    ((p : Peer) (z : Sizes) → c ≡ Send p z → Q (kept (payload_of f) (nodes_of l.book p.0 (attached f z)))) → (p : ℕ) → Q (seeds_after l f c p)
seeds-kept Q l f (Send p z) h n s = pick_all (λ (x : ℕ → LedgerSeed). (q : ℕ) → Q (x q)) (eqb z.nd 0) _ _ (upd-all (λ q x. Q x) l.seed p.0 _ h (s p z refl)) h
seeds-kept Q l f (Disconnect p) h n s = upd-all (λ q x. Q x) l.seed p.0 unset h n
seeds-kept Q l f (Open p u) h n s = h
seeds-kept Q l f (Create p i) h n s = h
seeds-kept Q l f (Destroy p i) h n s = h
seeds-kept Q l f (Release p i) h n s = h
seeds-kept Q l f (Transfer p i q) h n s = h
seeds-kept Q l f (Receive p room) h n s = h
seeds-kept Q l f (Quota p u) h n s = h
seeds-kept Q l f (Holders p i) h n s = h
seeds-kept Q l f (ShowSeed p room) h n s = h

-- The book goes on beside it.
pub seeds-next : (cs : List Call) (c : Call) (d : Command) → Accepted (run cs) c d → (ledger_after (cs ++ (c ∷ []))).seed ≡ seeds_after (ledger_after cs) c.frame d
unfolding with_book
seeds-next cs c d a = ap (λ (l : Ledger). l.seed) (ledger-entered cs c d a) ∙ enter-seeds (ledger_after cs) c.frame d

-- "Same sizes as a send": at most 512 bytes.
abbrev pub seed_payload : LedgerSeed → List ℕ
seed_payload unset = []
seed_payload (kept payload ns) = payload

pub small-set : (f : List ℕ) (c : Command) → Legal f c → (p : Peer) (z : Sizes) → c ≡ Send p z → length (payload_of f) ≤ most_bytes
small-set f c legal p z e = let g : Legal f (Send p z) = rw e at legal in omega (arith, payload-length f z g.1, g.1.small)
