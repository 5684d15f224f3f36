-- Disconnect, alike on the bus and in the ledger: "drop the queue, destroy live nodes, release all handles".
-- Assumes nothing.
use Rattle.std.specs.Prelude.{ℕ, suc, ◌<◌, ◌≡◌, Bool, true, false, not, eqb, ltb}
use Rattle.std.proofs.Math.Path.{refl, ap}
use Rattle.std.proofs.Common.{sym, ◌∙◌}
use mathlib.Core.List.{List, [], ◌++◌, map, map-map, map-append, append_assoc}
use borrow.Author.Tests.{eq-eqb}
use Rattle.laws.specs.Tests.{pick, Seen, Seen.is_true, Seen.is_false, look, clash}
use Rattle.laws.specs.Tables.{upd_same, upd_other}
use Rattle.laws.specs.Weights.{all-imp}
use Rattle.model.specs.Numbers.{peers, owner}
use Rattle.model.specs.Lists.{both}
use Rattle.model.specs.State.{Status.disconnected, Life, Life.dead, is_live, Handle.none, Entry.destroyed, Entry.released, messages_in, State, by_owner_id}
use Rattle.model.specs.Tables.{with_status, with_handles, with_queues, with_charges, with_lives}
use Rattle.model.specs.Changes.{push_all, at_peers, take_out, withdraw, fell, release_notices, notify_all, destroy_notices, destroy_all}
use Rattle.model.specs.Effects.{disconnects}
use Rattle.model.specs.Occurs.{both_true}
use Rattle.model.specs.Rising.{owner-pass}
use Rattle.model.specs.Told.{nothing_left}
use Rattle.model.specs.Sim.{called}
use Rattle.model.specs.Ledger.{Item.destroyed as destroyed_item, Item.released as released_item}
use Rattle.model.specs.LedgerSim.{item_of, Lived, Dated, lives-entered}

-- The lives: the peer's nodes are destroyed.
pub lived-disconnect : {name : ℕ → ℕ} {E : ℕ} {lives : ℕ → Bool} {maker : ℕ → ℕ} {life : ℕ → Life} (p k : ℕ) → Lived name E lives maker life →
    Lived name E (λ n. both (not (eqb (maker n) p)) (lives n)) maker (λ s. pick (both (eqb (owner s) p) (is_live (life s))) (dead k) (life s))
lived-disconnect {name} {E} {lives} {maker} {life} p k r =
    record {
      same = λ s. go s (look (is_live (life s)));
      fresh = λ n l. rw (r.fresh n l) (nothing (not (eqb (maker n) p)));
      placed = λ n e. r.placed n (both_true (not (eqb (maker n) p)) (lives n) e).1;
      makers = r.makers;
    }
  where
    nothing : (x : Bool) → both x false ≡ false
    nothing true = refl
    nothing false = refl

    go : (s : ℕ) → Seen (is_live (life s)) → both (not (eqb (maker (name s)) p)) (lives (name s)) ≡ is_live (pick (both (eqb (owner s) p) (is_live (life s))) (dead k) (life s))
    go s (is_false e) = rw (r.same s, e, nothing (not (eqb (maker (name s)) p)), nothing (eqb (owner s) p)) (sym e)
    go s (is_true e) = rw (r.same s, e, r.makers s (lives-entered r s e)) (at (look (eqb (owner s) p)))
      where
        at : Seen (eqb (owner s) p) → both (not (eqb (owner s) p)) true ≡ is_live (pick (both (eqb (owner s) p) true) (dead k) (life s))
        at (is_true f) = rw f refl
        at (is_false f) = rw f (sym e)

pub dated-disconnect : {name : ℕ → ℕ} {E : ℕ} {lives : ℕ → Bool} {died maker : ℕ → ℕ} {life : ℕ → Life} (p k : ℕ) → Lived name E lives maker life → Dated name E died life →
    Dated name E (λ n. pick (both (eqb (maker n) p) (lives n)) k (died n)) (λ s. pick (both (eqb (owner s) p) (is_live (life s))) (dead k) (life s))
dated-disconnect {name} {E} {lives} {died} {maker} {life} p k v r =
    record { same = λ s j e. at s (look (is_live (life s))) j e; entered = λ s j e. here s (look (is_live (life s))) j e }
  where
    nothing : (x : Bool) → both x false ≡ false
    nothing true = refl
    nothing false = refl

    at : (s : ℕ) → Seen (is_live (life s)) → (j : ℕ) → pick (both (eqb (owner s) p) (is_live (life s))) (dead k) (life s) ≡ dead j → pick (both (eqb (maker (name s)) p) (lives (name s))) k (died (name s)) ≡ j
    at s (is_false f) j e = rw (v.same s, f, nothing (eqb (maker (name s)) p)) (r.same s j (rw (f, nothing (eqb (owner s) p)) at e))
    at s (is_true f) j e = rw (v.same s, f, v.makers s (lives-entered v s f)) (own (look (eqb (owner s) p)))
      where
        own : Seen (eqb (owner s) p) → pick (both (eqb (owner s) p) true) k (died (name s)) ≡ j
        own (is_true g) =
            let d : dead k ≡ dead j = rw (f, g) at e in
            let y : k ≡ j = cc d in
            rw g y
        own (is_false g) =
            let d : life s ≡ dead j = rw (f, g) at e in
            clash (sym f ∙ ap is_live d)

    here : (s : ℕ) → Seen (is_live (life s)) → (j : ℕ) → pick (both (eqb (owner s) p) (is_live (life s))) (dead k) (life s) ≡ dead (suc j) → name s < E
    here s (is_true f) j e = lives-entered v s f
    here s (is_false f) j e = r.entered s j (rw (f, nothing (eqb (owner s) p)) at e)

-- The bus before the release notices.
abbrev pub leaving : State → ℕ → State
leaving b p = with_status (with_handles (take_out (destroy_all b p (λ s. is_live (b.life s))) p (messages_in (b.queue p)) []) p (λ s. none)) p disconnected

pub queue-own : (b : State) (p : ℕ) → (disconnects b p).queue p ≡ at_peers (release_notices b (leaving b p)) p
unfolding disconnects notify_all push_all take_out with_status with_handles with_charges with_queues
queue-own b p = rw upd_same refl

pub queue-other : (b : State) (p q : ℕ) → (p ≡ q → ⊥) →
    (disconnects b p).queue q ≡ b.queue q ++ (at_peers (destroy_notices b p (λ s. is_live (b.life s))) q ++ at_peers (release_notices b (leaving b p)) q)
unfolding disconnects notify_all push_all take_out with_status with_handles with_charges with_queues destroy_all with_lives withdraw
queue-other b p q ne = rw (upd_other _ p q _ ne, upd_other _ p q _ ne) (append_assoc (b.queue q) _ _)

-- Of the peer's own nodes none lives any more, so none falls.
none-falls : (b : State) (p s : ℕ) → owner s ≡ p → fell b (leaving b p) s ≡ true → ⊥
unfolding fell take_out with_status with_handles with_charges with_queues destroy_all push_all with_lives withdraw
none-falls b p s o e = clash (sym (both_true _ _ e).0 ∙ go (look (is_live (b.life s))))
  where
    go : Seen (is_live (b.life s)) → is_live (pick (both (eqb (owner s) p) (is_live (b.life s))) (dead b.accepted) (b.life s)) ≡ false
    go (is_true f) = rw (o, eq-eqb p p refl, f) refl
    go (is_false f) = rw (o, eq-eqb p p refl, f) f

pub none-released : (b : State) (p : ℕ) → at_peers (release_notices b (leaving b p)) p ≡ []
none-released b p = go (ltb p peers)
  where
    go : (t : Bool) → pick t (release_notices b (leaving b p) p) [] ≡ []
    go false = refl
    go true =
        unfold release_notices in
        ap (map (released (leaving b p).accepted))
        (nothing_left (by_owner_id (leaving b p).handle p (fell b (leaving b p)))
        (all-imp (λ s. (fell b (leaving b p) s ≡ true) × (owner s ≡ p)) (λ s. ⊥) (λ s z. none-falls b p s z.1 z.0) (by_owner_id (leaving b p).handle p (fell b (leaving b p)))
        (owner-pass (leaving b p).handle p (fell b (leaving b p)))))

-- The notices at another peer.
pub notices-named : (name : ℕ → ℕ) (k : ℕ) (ds rs : List ℕ) (x : Bool) →
    pick x (map (destroyed_item k) (map (called name) ds) ++ map (released_item k) (map (called name) rs)) [] ≡ map (item_of name) (pick x (map (destroyed k) ds) [] ++ pick x (map (released k) rs) [])
notices-named name k ds rs true = rw (map-append, map-map, map-map, map-map, map-map) refl
notices-named name k ds rs false = refl
