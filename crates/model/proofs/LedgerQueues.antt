-- The theorems that go with specs/LedgerQueues.antt and stand on others: each goes by the definitions and the theorems there.
-- Assumes nothing.
use Prim.Native.Nat.{ℕ, suc, ◌-◌, ◌<◌}
use Rattle.std.specs.Prelude.{◌≡◌, eqb, ltb}
use Rattle.std.proofs.Math.Path.{refl, ap}
use Rattle.std.proofs.Common.{sym, ap₂, ◌∙◌}
use mathlib.Core.List.{List, [], ◌∷◌, ◌++◌, map, map-append}
use Rattle.laws.specs.Tests.{pick, Seen, Seen.is_true, Seen.is_false, look}
use Rattle.laws.specs.Tables.{upd}
use Rattle.laws.specs.Weights.{keep, keep-map}
use Rattle.model.specs.Numbers.{peers, owner}
use Rattle.model.specs.Lists.{both}
use Rattle.model.specs.State.{Handle, Handle.some, handle_of, held, Entry, Entry.destroyed, Entry.released, State}
use Rattle.model.specs.Tables.{accept, with_queues, with_lives}
use Rattle.model.specs.Changes.{push_all, withdraw, remains, fell, destroy_all}
use Rattle.model.specs.Effects.{destroys, releases}
use Rattle.model.specs.Told.{older, told_at, told-all, stay, less_handles, release-at}
use Rattle.model.specs.Sim.{called}
use Rattle.model.specs.Ledger.{Ledger, ledger_destroy, outlasts, cleared, fallen, ledger_release, ledger_counted}
use Rattle.model.specs.LedgerSim.{item_of, Handled, Follows, held-entered, handled-put, total-named}
use Rattle.model.specs.LedgerGive.{told_named, cleared-named}
use Rattle.model.specs.LedgerQueues.{lived-destroy, dated-destroy, notice-named, older-named, release-tables, outlasts-named, fall-named}

pub follows-destroy : {name : ℕ → ℕ} {E : ℕ} (b : State) (l : Ledger) (p s : ℕ) → Follows name E b l → ((s t : ℕ) → name s ≡ name t → s ≡ t) → owner s ≡ p → name s < E →
    Follows name E (destroys (accept b) p s) (ledger_destroy (ledger_counted l) (called name s))
follows-destroy {name} {E} b l p s r apart o entered =
    record {
      accepted = unfold destroys destroy_all push_all with_lives withdraw with_queues accept ledger_destroy ledger_counted in ap suc r.accepted;
      given = unfold destroys destroy_all push_all with_lives withdraw with_queues accept ledger_destroy ledger_counted in r.given;
      seeds = unfold destroys destroy_all push_all with_lives withdraw with_queues accept ledger_destroy ledger_counted in r.seeds;
      handles = unfold destroys destroy_all push_all with_lives withdraw with_queues accept ledger_destroy ledger_counted in r.handles;
      lives = unfold destroys destroy_all push_all with_lives withdraw with_queues accept ledger_destroy ledger_counted in lived-destroy p s (suc b.accepted) r.lives apart o;
      dates = unfold destroys destroy_all push_all with_lives withdraw with_queues accept ledger_destroy ledger_counted in rw r.accepted (dated-destroy p s (suc b.accepted) r.dates apart o entered);
      queues = λ q. queue-at q ∙ ap (map (item_of name)) (sym (told-all b p s q o));
    }
  where
    queue-at : (q : ℕ) → (ledger_destroy (ledger_counted l) (called name s)).queue q
        ≡ map (item_of name) (older p s q (b.queue q) ++ pick (both (ltb q peers) (told_at b q s)) (destroyed (suc b.accepted) s ∷ []) [])
    queue-at q =
        unfold ledger_destroy ledger_counted in
        rw (← o, r.accepted, r.queues q, told_named name apart (l.handle q) (b.handle q) (r.handles.same q) (suc b.accepted) s (b.queue q), map-append)
        (ap₂ ◌++◌ (older-named name apart (owner s) s q (b.queue q)) (notice-named name (suc b.accepted) s (both (ltb q peers) (told_at b q s))))

stay-named : (name : ℕ → ℕ) → ((s t : ℕ) → name s ≡ name t → s ≡ t) → (h g : ℕ → ℕ → Handle) → ((q s : ℕ) → h q (name s) ≡ g q s) → (p s c q : ℕ) (es : List Entry) →
    pick (both (eqb p q) (eqb c 1)) (cleared (h q) (keep (outlasts p (called name s)) (map (item_of name) es))) (map (item_of name) es) ≡ map (item_of name) (stay g p s c q es)
stay-named name apart h g at p s c q es = go (look (eqb p q)) (look (eqb c 1))
  where
    go : Seen (eqb p q) → Seen (eqb c 1) →
        pick (both (eqb p q) (eqb c 1)) (cleared (h q) (keep (outlasts p (called name s)) (map (item_of name) es))) (map (item_of name) es) ≡ map (item_of name) (stay g p s c q es)
    go (is_true e) (is_true f) =
        rw (e, f)
        (ap (cleared (h q)) (keep-map (item_of name) (outlasts p (called name s)) (remains p s) es (outlasts-named name apart p s))
        ∙ cleared-named name apart (h q) (g q) (at q) (keep (remains p s) es))
    go (is_false e) (is_true f) = rw (e, f) refl
    go (is_true e) (is_false f) = rw (e, f) refl
    go (is_false e) (is_false f) = rw (e, f) refl

pub follows-release : {name : ℕ → ℕ} {E : ℕ} (b : State) (l : Ledger) (p s i c : ℕ) → Follows name E b l → ((s t : ℕ) → name s ≡ name t → s ≡ t) → b.handle p s ≡ some i c →
    Follows name E (releases (accept b) p s i c) (ledger_release (ledger_counted l) p i (called name s) c)
follows-release {name} {E} b l p s i c r apart e =
    let t = release-tables (accept b) p s i c in
    record {
      accepted = unfold ledger_release ledger_counted accept in rw t.3 (ap suc r.accepted);
      given = unfold ledger_release ledger_counted accept in rw t.1 r.given;
      seeds = unfold ledger_release ledger_counted accept in rw t.4 r.seeds;
      handles = unfold ledger_release ledger_counted accept in rw t.0 put;
      lives = unfold ledger_release ledger_counted accept in rw t.2 r.lives;
      dates = unfold ledger_release ledger_counted accept in rw t.2 r.dates;
      queues = λ q. queue-at q ∙ ap (map (item_of name)) (sym (release-at b p s i c q));
    }
  where
    put : Handled name E (upd l.handle p (upd (l.handle p) (name s) (handle_of i (c - 1)))) (upd b.handle p (upd (b.handle p) s (handle_of i (c - 1))))
    put = handled-put p s (handle_of i (c - 1)) r.handles apart (held-entered r.handles p s (ap held e))

    fall : fallen l.lives l.handle (upd l.handle p (upd (l.handle p) (name s) (handle_of i (c - 1)))) (name s) ≡ fell b (releases (accept b) p s i c) s
    fall =
        let t = release-tables (accept b) p s i c in
        unfold fell accept in
        rw (t.0, t.2, r.lives.same s, total-named r.handles s, total-named put s) refl

    queue-at : (q : ℕ) → (ledger_release (ledger_counted l) p i (called name s) c).queue q
        ≡ map (item_of name) (stay (less_handles b p s i c) p s c q (b.queue q) ++ pick (fell b (releases (accept b) p s i c) s) (pick (eqb (owner s) q) (released (suc b.accepted) s ∷ []) []) [])
    queue-at q =
        unfold ledger_release ledger_counted in
        rw (fall, r.accepted, r.queues q, map-append)
        (ap₂ ◌++◌ (stay-named name apart (upd l.handle p (upd (l.handle p) (name s) (handle_of i (c - 1)))) (less_handles b p s i c) put.same p s c q (b.queue q)) (fall-named name (suc b.accepted) s (eqb (owner s) q) (fell b (releases (accept b) p s i c) s)))
