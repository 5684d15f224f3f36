-- Send, destroy and release, alike on the bus and in the ledger.
-- Assumes nothing.
use Prim.Native.Nat.{ℕ, suc, ◌-◌, ◌≤◌, ◌<◌}
use Rattle.std.specs.Prelude.{◌≡◌, Bool, true, false, not, eqb}
use Rattle.std.proofs.Math.Path.{refl, ap}
use Rattle.std.proofs.Common.{sym, ap₂, ◌∙◌, eq-eqb, ne_eqb}
use mathlib.Core.List.{List, [], ◌∷◌, ◌++◌, map, map-map, map-append}
use Rattle.laws.specs.Tests.{pick, pick_all, Seen, Seen.is_true, Seen.is_false, look, Same, Same.same, Same.other, same?}
use Rattle.laws.specs.Tables.{upd, upd_same, upd_other, upd-all}
use Rattle.laws.specs.Weights.{keep, keep-map}
use Rattle.model.specs.Numbers.{owner}
use Rattle.model.specs.Lists.{both}
use Rattle.model.specs.State.{Life, Life.dead, is_live, handle_of, Entry, Entry.message, Entry.destroyed, Entry.released, State}
use Rattle.model.specs.Tables.{with_handle, with_handles, with_queues, with_charges}
use Rattle.model.specs.Changes.{push, push_all, take_out, not_released, remains, forget, fell, notify, arriving, deliver}
use Rattle.model.specs.Effects.{releases}
use Rattle.model.specs.Book.{owned_by}
use Rattle.model.specs.Told.{older}
use Rattle.model.specs.Sim.{called}
use Rattle.model.specs.SimRelease.{eqb_apart}
use Rattle.model.specs.Ledger.{Ledger, Item.destroyed as destroyed_item, Item.released as released_item, no_release, outlasts, ledger_queues, letters, ledger_send}
use Rattle.model.specs.LedgerSim.{item_of, Lived, Dated, Follows}
use Rattle.model.specs.LedgerGive.{released-named}

-- Send.
letters-are : (name : ℕ → ℕ) (k u : ℕ) (ds hs payload : List ℕ) (q : ℕ) →
    letters k u payload (map (called name) hs) (keep (owned_by q) (map (called name) ds))
    ≡ map (item_of name) (map (λ d. message k (record { to = d; user = u; payload = payload; carried = hs })) (keep (λ d. eqb (owner d) q) ds))
letters-are name k u ds hs payload q = rw (keep-map (called name) (owned_by q) (λ d. eqb (owner d) q) ds (λ x. refl), map-map, map-map)

pub follows-send : {name : ℕ → ℕ} {E : ℕ} (b : State) (l : Ledger) (u : ℕ) (ds hs payload : List ℕ) → Follows name E b l →
    Follows name E (deliver b u ds hs payload) (ledger_send l u (map (called name) ds) (map (called name) hs) payload)
unfolding deliver push_all arriving with_queues with_charges ledger_queues
follows-send {name} b l u ds hs payload r =
    record {
      accepted = r.accepted;
      seeds = r.seeds;
      given = r.given;
      handles = r.handles;
      lives = r.lives;
      dates = r.dates;
      queues = λ q. rw (r.accepted, map-append) (ap₂ ◌++◌ (r.queues q) (letters-are name b.accepted u ds hs payload q));
    }

-- Destroy: the life of one node.
pub lived-destroy : {name : ℕ → ℕ} {E : ℕ} {lives : ℕ → Bool} {maker : ℕ → ℕ} {life : ℕ → Life} (p s k : ℕ) → Lived name E lives maker life → ((s t : ℕ) → name s ≡ name t → s ≡ t) → owner s ≡ p →
    Lived name E (upd lives (name s) false) maker (λ t. pick (both (eqb (owner t) p) (eqb s t)) (dead k) (life t))
lived-destroy {name} {E} {lives} {maker} {life} p s k r apart o =
    record {
      same = λ t. go t (same? s t);
      fresh = upd-all (λ n x. E ≤ n → x ≡ false) lives (name s) false r.fresh (λ m. refl);
      placed = upd-all (λ n x. x ≡ true → (t : ℕ) × (name t ≡ n)) lives (name s) false r.placed (λ e. (s, refl));
      makers = r.makers;
    }
  where
    go : (t : ℕ) → Same s t → upd lives (name s) false (name t) ≡ is_live (pick (both (eqb (owner t) p) (eqb s t)) (dead k) (life t))
    go t (same z) = rw (← z, upd_same, o, eq-eqb p p refl, eq-eqb s s refl)
    go t (other z) = rw (upd_other lives (name s) (name t) false (λ y. z (apart s t y)), ne_eqb s t z, r.same t) (ap is_live (sym (aside (eqb (owner t) p))))
      where
        aside : (x : Bool) → pick (both x false) (dead k) (life t) ≡ life t
        aside true = refl
        aside false = refl

pub dated-destroy : {name : ℕ → ℕ} {E : ℕ} {died : ℕ → ℕ} {life : ℕ → Life} (p s k : ℕ) → Dated name E died life → ((s t : ℕ) → name s ≡ name t → s ≡ t) → owner s ≡ p → name s < E →
    Dated name E (upd died (name s) k) (λ t. pick (both (eqb (owner t) p) (eqb s t)) (dead k) (life t))
dated-destroy {name} {E} {died} {life} p s k r apart o entered =
    record { same = λ t j e. at t (same? s t) j e; entered = λ t j e. here t (same? s t) j e }
  where
    aside : (t : ℕ) → (s ≡ t → ⊥) → pick (both (eqb (owner t) p) (eqb s t)) (dead k) (life t) ≡ life t
    aside t z = rw (ne_eqb s t z) (go (eqb (owner t) p))
      where
        go : (x : Bool) → pick (both x false) (dead k) (life t) ≡ life t
        go true = refl
        go false = refl

    at : (t : ℕ) → Same s t → (j : ℕ) → pick (both (eqb (owner t) p) (eqb s t)) (dead k) (life t) ≡ dead j → upd died (name s) k (name t) ≡ j
    at t (same z) j e =
        let d : dead k ≡ dead j = rw (← z, o, eq-eqb p p refl, eq-eqb s s refl) at e in
        let y : k ≡ j = cc d in
        rw (← z, upd_same) y
    at t (other z) j e = rw (upd_other died (name s) (name t) k (λ y. z (apart s t y))) (r.same t j (sym (aside t z) ∙ e))

    here : (t : ℕ) → Same s t → (j : ℕ) → pick (both (eqb (owner t) p) (eqb s t)) (dead k) (life t) ≡ dead (suc j) → name t < E
    here t (same z) j e = rw (← z) entered
    here t (other z) j e = r.entered t j (sym (aside t z) ∙ e)

pub notice-named : (name : ℕ → ℕ) (k s : ℕ) (x : Bool) → pick x (destroyed_item k (called name s) ∷ []) [] ≡ map (item_of name) (pick x (destroyed k s ∷ []) [])
notice-named name k s true = refl
notice-named name k s false = refl

pub older-named : (name : ℕ → ℕ) → ((s t : ℕ) → name s ≡ name t → s ≡ t) → (p s q : ℕ) (es : List Entry) →
    pick (eqb p q) (keep (no_release (called name s)) (map (item_of name) es)) (map (item_of name) es) ≡ map (item_of name) (older p s q es)
older-named name apart p s q es = go (look (eqb p q))
  where
    go : Seen (eqb p q) → pick (eqb p q) (keep (no_release (called name s)) (map (item_of name) es)) (map (item_of name) es) ≡ map (item_of name) (older p s q es)
    go (is_true e) = rw e (keep-map (item_of name) (no_release (called name s)) (not_released (eqb s)) es (released-named name apart s))
    go (is_false e) = rw e refl

-- Release: the tables other than the queues.
abbrev pub Less : State → ℕ → ℕ → ℕ → ℕ → State → Type 0
Less b p s i c a = (a.handle ≡ upd b.handle p (upd (b.handle p) s (handle_of i (c - 1)))) × (a.given ≡ b.given) × (a.life ≡ b.life) × (a.accepted ≡ b.accepted) × (a.seed ≡ b.seed)

pub release-tables : (b : State) (p s i c : ℕ) → Less b p s i c (releases b p s i c)
unfolding releases notify forget take_out with_charges with_queues with_handles
release-tables b p s i c =
    let less = with_handle b p s (handle_of i (c - 1)) in
    let y = pick (eqb c 1) (forget less p s) less in
    let once = pick_all (Less b p s i c) (eqb c 1) (forget less p s) less (refl, refl, refl, refl, refl) (refl, refl, refl, refl, refl) in
    pick_all (Less b p s i c) (fell b y s) (push y (owner s) (released y.accepted s ∷ [])) y once once

-- What goes with the handle, and the release notice.
pub outlasts-named : (name : ℕ → ℕ) → ((s t : ℕ) → name s ≡ name t → s ≡ t) → (p s : ℕ) (e : Entry) → outlasts p (called name s) (item_of name e) ≡ remains p s e
outlasts-named name apart p s (message k m) = rw (eqb_apart name apart m.to s)
outlasts-named name apart p s (destroyed k t) = refl
outlasts-named name apart p s (released k t) = ap not (eqb_apart name apart t s)

pub fall-named : (name : ℕ → ℕ) (k s : ℕ) (x y : Bool) → pick (both x y) (released_item k (called name s) ∷ []) [] ≡ map (item_of name) (pick y (pick x (released k s ∷ []) []) [])
fall-named name k s true true = refl
fall-named name k s true false = refl
fall-named name k s false true = refl
fall-named name k s false false = refl
