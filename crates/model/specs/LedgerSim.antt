-- The relation of the ledger to the bus that it was fed by, for the names of the book's relation: what the ledger has under a node's number the bus has at the slot of that name.
-- And the small changes of handles and of lives that keep it.
-- Assumes nothing.
use Rattle.std.specs.Prelude.{ℕ, suc, ◌≤◌, ◌<◌, ◌≡◌, refl, Bool, true, false, map, eqb, ltb}
use Rattle.std.proofs.Common.{sym, ap, ◌∙◌, arith, ltb-true, ltb-false}
use Rattle.laws.specs.Tests.{Seen, Seen.is_true, Seen.is_false, look, clash, Same, Same.same, Same.other, same?}
use Rattle.laws.specs.Tables.{upd, upd_same, upd_other, upd-rel, upd-all}
use Rattle.laws.specs.Sums.{sum-ext}
use Rattle.model.specs.Numbers.{peers, owner}
use Rattle.model.specs.State.{Life, Life.dead, is_live, Handle, Handle.none, held, count, Message, Entry, Entry.message, Entry.destroyed, Entry.released, State, total, Seed, Seed.unset, Seed.kept, seed_carries}
use Rattle.model.specs.Tables.{accept, with_status, with_user, with_seed}
use Rattle.model.specs.Changes.{reseed}
use Rattle.model.specs.Effects.{opens}
use Rattle.model.specs.Book.{Book, same_node}
use Rattle.model.specs.Sim.{called}
use Rattle.model.specs.SimRelease.{eqb_apart}
use Rattle.model.specs.Ledger.{Letter, Item, Item.message as message_item, Item.destroyed as destroyed_item, Item.released as released_item, LedgerSeed, LedgerSeed.unset as unset_seed, LedgerSeed.kept as kept_seed, seed_nodes, Ledger, ledger_seed, with_book, ledger_counted}

-- A message and an entry in the book's names.
abbrev pub letter_of : (ℕ → ℕ) → Message → Letter
letter_of name m = record { user = m.user; to = called name m.to; payload = m.payload; carried = map (called name) m.carried }

abbrev pub item_of : (ℕ → ℕ) → Entry → Item
item_of name (message k m) = message_item k (letter_of name m)
item_of name (destroyed k s) = destroyed_item k (called name s)
item_of name (released k s) = released_item k (called name s)

-- A seed in the book's names.
abbrev pub seed_of : (ℕ → ℕ) → Seed → LedgerSeed
seed_of name unset = unset_seed
seed_of name (kept payload carried) = kept_seed payload (map (called name) carried)

pub seed-nodes : (name : ℕ → ℕ) (x : Seed) → seed_nodes (seed_of name x) ≡ map (called name) (seed_carries x)
seed-nodes name unset = refl
seed-nodes name (kept payload carried) = refl

-- Handles, by number in the ledger and by slot on the bus, where E nodes were entered: the same; none to a number that was not entered; and what is held sits in a slot.
pub record Handled (name : ℕ → ℕ) (E : ℕ) (h g : ℕ → ℕ → Handle) : Type 0 where
  pub same : (p s : ℕ) → h p (name s) ≡ g p s
  pub fresh : (p n : ℕ) → E ≤ n → h p n ≡ none
  pub placed : (p n : ℕ) → held (h p n) ≡ true → (s : ℕ) × (name s ≡ n)

-- Lives, likewise; and the maker of an entered node is the owner of its slot.
pub record Lived (name : ℕ → ℕ) (E : ℕ) (lives : ℕ → Bool) (maker : ℕ → ℕ) (life : ℕ → Life) : Type 0 where
  pub same : (s : ℕ) → lives (name s) ≡ is_live (life s)
  pub fresh : (n : ℕ) → E ≤ n → lives n ≡ false
  pub placed : (n : ℕ) → lives n ≡ true → (s : ℕ) × (name s ≡ n)
  pub makers : (s : ℕ) → name s < E → maker (name s) ≡ owner s

-- When the destroyed nodes died: the number of the command that destroyed the node of the slot, which was entered then.
pub record Dated (name : ℕ → ℕ) (E : ℕ) (died : ℕ → ℕ) (life : ℕ → Life) : Type 0 where
  pub same : (s k : ℕ) → life s ≡ dead k → died (name s) ≡ k
  pub entered : (s k : ℕ) → life s ≡ dead (suc k) → name s < E

pub record Follows (name : ℕ → ℕ) (E : ℕ) (b : State) (l : Ledger) : Type 0 where
  pub accepted : l.accepted ≡ b.accepted
  pub given : (p : ℕ) → l.given p ≡ b.given p
  pub handles : Handled name E l.handle b.handle
  pub lives : Lived name E l.lives l.maker b.life
  pub dates : Dated name E l.died b.life
  pub queues : (p : ℕ) → l.queue p ≡ map (item_of name) (b.queue p)
  pub seeds : (p : ℕ) → p < peers → l.seed p ≡ seed_of name (b.seed p)

-- A node that lives, or that somebody holds, was entered.
pub below : (a b : ℕ) → (b ≤ a → ⊥) → a < b
below a b h = go (look (ltb a b))
  where
    go : Seen (ltb a b) → a < b
    go (is_true e) = ltb-true a b e
    go (is_false e) = absurd (h (ltb-false a b e))

pub lives-entered : {name : ℕ → ℕ} {E : ℕ} {lives : ℕ → Bool} {maker : ℕ → ℕ} {life : ℕ → Life} → Lived name E lives maker life → (s : ℕ) → is_live (life s) ≡ true → name s < E
lives-entered {name} {E} r s e = below (name s) E (λ z. clash (sym e ∙ sym (r.same s) ∙ r.fresh (name s) z))

pub held-entered : {name : ℕ → ℕ} {E : ℕ} {h g : ℕ → ℕ → Handle} → Handled name E h g → (p s : ℕ) → held (g p s) ≡ true → name s < E
held-entered {name} {E} r p s e = below (name s) E (λ z. clash (sym e ∙ ap held (sym (r.same p s) ∙ r.fresh p (name s) z)))

-- A table by number and one by slot, changed at one node.
pub upd-named : {A : Type 0} (name : ℕ → ℕ) → ((s t : ℕ) → name s ≡ name t → s ≡ t) → (f g : ℕ → A) (s : ℕ) (x : A) → ((t : ℕ) → f (name t) ≡ g t) →
    (t : ℕ) → upd f (name s) x (name t) ≡ upd g s x t
upd-named name apart f g s x h t = go (same? s t)
  where
    go : Same s t → upd f (name s) x (name t) ≡ upd g s x t
    go (same e) = rw (← e, upd_same, upd_same)
    go (other e) = rw (upd_other f (name s) (name t) x (λ z. e (apart s t z)), upd_other g s t x e) (h t)

-- One handle set, to a node that was entered.
pub handled-put : {name : ℕ → ℕ} {E : ℕ} {h g : ℕ → ℕ → Handle} (p s : ℕ) (x : Handle) → Handled name E h g → ((s t : ℕ) → name s ≡ name t → s ≡ t) → name s < E →
    Handled name E (upd h p (upd (h p) (name s) x)) (upd g p (upd (g p) s x))
handled-put {name} {E} {h} {g} p s x r apart l =
    record {
      same = upd-rel (λ q u v. (t : ℕ) → u (name t) ≡ v t) h g p _ _ r.same (upd-named name apart (h p) (g p) s x (r.same p));
      fresh = upd-all (λ q u. (n : ℕ) → E ≤ n → u n ≡ none) h p _ r.fresh (λ n m. rw (upd_other (h p) (name s) n x (λ z. absurd (omega arith))) (r.fresh p n m));
      placed = upd-all (λ q u. (n : ℕ) → held (u n) ≡ true → (t : ℕ) × (name t ≡ n)) h p _ r.placed (λ n e. go n (same? (name s) n) e);
    }
  where
    go : (n : ℕ) → Same (name s) n → held (upd (h p) (name s) x n) ≡ true → (t : ℕ) × (name t ≡ n)
    go n (same z) e = (s, z)
    go n (other z) e = r.placed p n (rw (upd_other (h p) (name s) n x z) at e)

-- All handles of a peer gone.
pub handled-none : {name : ℕ → ℕ} {E : ℕ} {h g : ℕ → ℕ → Handle} (p : ℕ) → Handled name E h g → Handled name E (upd h p (λ n. none)) (upd g p (λ s. none))
handled-none {name} {E} {h} {g} p r =
    record {
      same = upd-rel (λ q u v. (t : ℕ) → u (name t) ≡ v t) h g p _ _ r.same (λ t. refl);
      fresh = upd-all (λ q u. (n : ℕ) → E ≤ n → u n ≡ none) h p _ r.fresh (λ n m. refl);
      placed = upd-all (λ q u. (n : ℕ) → held (u n) ≡ true → (t : ℕ) × (name t ≡ n)) h p _ r.placed (λ n e. clash (sym e));
    }

-- "the sum of counts over all peers".
pub total-named : {name : ℕ → ℕ} {E : ℕ} {h g : ℕ → ℕ → Handle} → Handled name E h g → (s : ℕ) → total h (name s) ≡ total g s
unfolding total
total-named {name} {E} {h} {g} r s = sum-ext (λ q. count (h q (name s))) (λ q. count (g q s)) peers (λ q l. ap count (r.same q s))

-- The book goes on beside the ledger; one more command is accepted.
pub follows-book : {name : ℕ → ℕ} {E : ℕ} (b : State) (l : Ledger) (k : Book) → Follows name E b l → Follows name E b (with_book l k)
unfolding with_book
follows-book b l k r = record { accepted = r.accepted; given = r.given; handles = r.handles; lives = r.lives; dates = r.dates; queues = r.queues; seeds = r.seeds }

pub follows-accept : {name : ℕ → ℕ} {E : ℕ} (b : State) (l : Ledger) → Follows name E b l → Follows name E (accept b) (ledger_counted l)
unfolding accept ledger_counted
follows-accept b l r = record { accepted = ap suc r.accepted; given = r.given; handles = r.handles; lives = r.lives; dates = r.dates; queues = r.queues; seeds = r.seeds }

-- Open: the ledger sees nothing.
pub follows-open : {name : ℕ → ℕ} {E : ℕ} (b : State) (l : Ledger) (p u : ℕ) → Follows name E b l → Follows name E (opens b p u) l
unfolding opens with_user with_status
follows-open b l p u r = record { accepted = r.accepted; given = r.given; handles = r.handles; lives = r.lives; dates = r.dates; queues = r.queues; seeds = r.seeds }

-- A seed set anew, or left.
pub follows-seed : {name : ℕ → ℕ} {E : ℕ} (b : State) (l : Ledger) (t : Bool) (p : ℕ) (x : Seed) → Follows name E b l → Follows name E (reseed b t p x) (ledger_seed l t p (seed_of name x))
unfolding ledger_seed
follows-seed b l false p x r = record { accepted = r.accepted; given = r.given; handles = r.handles; lives = r.lives; dates = r.dates; queues = r.queues; seeds = r.seeds }
follows-seed {name} b l true p x r =
    unfold with_seed in
    record {
      accepted = r.accepted;
      given = r.given;
      handles = r.handles;
      lives = r.lives;
      dates = r.dates;
      queues = r.queues;
      seeds = upd-rel (λ q y z. q < peers → y ≡ seed_of name z) l.seed b.seed p _ x r.seeds (λ m. refl);
    }

-- Two nodes are the same node if their slots are.
pub same-called : (name : ℕ → ℕ) → ((s t : ℕ) → name s ≡ name t → s ≡ t) → (s t : ℕ) → same_node (called name s) (called name t) ≡ eqb s t
same-called name apart s t = eqb_apart name apart s t
