-- The theorems that go with specs/Waiting.antt and stand on others: each goes by the definitions and the theorems there.
-- Assumes nothing.
use Rattle.std.specs.Prelude.{ℕ, ◌≤◌, ◌≡◌, refl, true, ◌⊎◌, List, [], ◌∷◌, ◌++◌, map, length}
use Rattle.std.proofs.Common.{sym, ap, subst, ◌∙◌, arith, eqb-true}
use Rattle.std.proofs.Math.Logic.◌⊎◌.{inl, inr}
use Rattle.std.proofs.lemmas.List.{length-map}
use Rattle.laws.specs.Tests.{Seen, Seen.is_true, Seen.is_false, look, clash}
use Rattle.laws.specs.Loads.{all_map}
use Rattle.model.specs.State.{is_live, held, Entry, Entry.message as message_entry, Entry.destroyed as destroyed_entry, Entry.released as released_entry}
use Rattle.model.specs.Step.{Call, run}
use Rattle.model.specs.Notices.{Stands, notice_for, notices_for}
use Rattle.model.specs.Changes.{stays}
use Rattle.model.proofs.NoticesProof.{noted as always-noted, founded}
use Rattle.model.specs.Sim.{called}
use Rattle.model.specs.SimRelease.{eqb_apart}
use Rattle.model.specs.Sources.{Story}
use Rattle.model.proofs.Sources.{story}
use Rattle.model.specs.Ledger.{Item, is_told, ledger_after}
use Rattle.model.specs.LedgerSim.{item_of, total-named}
use Rattle.model.specs.LedgerGive.{told_named}
use Rattle.model.specs.Rows.{ledger_of}
use Rattle.model.specs.Happened.{happened-front}
use Rattle.model.specs.Waiting.{StandsIn, notice_of, notices_of, WaitingAt, WaitingIn, LapsedLeaves, all-imp2, lapsed-falls, standing}

module _ (cs : List Call) (p : ℕ) where
  w : Story (length cs) cs
  w = story (length cs) cs (omega arith)

  stands-in : (e : Entry) → Stands (run cs).handle (run cs).life p e → stays ((run cs).handle p) ((run cs).queue p) e ≡ true → StandsIn (ledger_after cs) p (item_of w.name e)
  stands-in (message_entry k m) h f =
      (h.0, ap held (w.follows.handles.same p m.to) ∙ h.1, rw (length-map m.carried (called w.name)) h.2.0)
  stands-in (destroyed_entry k s) h f = (
    w.follows.lives.same s ∙ ap is_live h.0,
    w.follows.dates.same s k h.0,
    ap (λ (q : List Item). is_told ((ledger_after cs).handle p) q k (w.name s)) (w.follows.queues p)
        ∙ told_named w.name w.sim.apart ((ledger_after cs).handle p) ((run cs).handle p) (w.follows.handles.same p) k s ((run cs).queue p)
        ∙ f,
  )
  stands-in (released_entry k s) h f = (
    w.follows.lives.same s ∙ h.0,
    h.1,
    total-named w.follows.handles s ∙ h.2,
    ap held (w.follows.handles.same p s) ∙ (rw h.1 at ((always-noted cs).owned s h.0)),
  )

  -- the notices of a slot's node, by its name
  named-notice : (s : ℕ) (e : Entry) → notice_of (w.name s) (item_of w.name e) ≡ notice_for s e
  named-notice s (message_entry k m) = refl
  named-notice s (destroyed_entry k t) = eqb_apart w.name w.sim.apart t s
  named-notice s (released_entry k t) = eqb_apart w.name w.sim.apart t s

  named-notices : (s : ℕ) (q : List Entry) → notices_of (w.name s) (map (item_of w.name) q) ≡ notices_for s q
  named-notices s [] = refl
  named-notices s (e ∷ q) = rw (named-notice s e, named-notices s q) refl

  -- a number that no notice names
  some-slot : (n : ℕ) (e : Entry) → notice_of n (item_of w.name e) ≡ true → (s : ℕ) × (w.name s ≡ n)
  some-slot n (message_entry k m) h = clash (sym h)
  some-slot n (destroyed_entry k s) h = (s, eqb-true (w.name s) n h)
  some-slot n (released_entry k s) h = (s, eqb-true (w.name s) n h)

  find-slot : (n : ℕ) (q : List Entry) → (notices_of n (map (item_of w.name) q) ≡ 0) ⊎ ((s : ℕ) × (w.name s ≡ n))
  find-slot n [] = inl refl
  find-slot n (e ∷ q) = go (look (notice_of n (item_of w.name e))) (find-slot n q)
    where
      go : Seen (notice_of n (item_of w.name e)) → (notices_of n (map (item_of w.name) q) ≡ 0) ⊎ ((s : ℕ) × (w.name s ≡ n)) →
          (notices_of n (map (item_of w.name) (e ∷ q)) ≡ 0) ⊎ ((s : ℕ) × (w.name s ≡ n))
      go (is_true z) r = inr (some-slot n e z)
      go (is_false z) (inl r) = inl (rw (z, r) refl)
      go (is_false z) (inr r) = inr r

  at_most_one : (n : ℕ) → notices_of n (map (item_of w.name) ((run cs).queue p)) ≤ 1
  at_most_one n = go (find-slot n ((run cs).queue p))
    where
      go : (notices_of n (map (item_of w.name) ((run cs).queue p)) ≡ 0) ⊎ ((s : ℕ) × (w.name s ≡ n)) → notices_of n (map (item_of w.name) ((run cs).queue p)) ≤ 1
      go (inl z) = omega (arith, z)
      go (inr s) =
          let z : notices_of (w.name s.0) (map (item_of w.name) ((run cs).queue p)) ≤ 1 = omega (arith, named-notices s.0 ((run cs).queue p), (always-noted cs).once p s.0) in
          subst (λ (m : ℕ). notices_of m (map (item_of w.name) ((run cs).queue p)) ≤ 1) s.1 z

  waiting-at : WaitingAt (ledger_after cs) p
  waiting-at =
      record {
        stands =
            rw (w.follows.queues p)
            (all_map (StandsIn (ledger_after cs) p) (item_of w.name) ((run cs).queue p)
            (all-imp2 (Stands (run cs).handle (run cs).life p) (λ e. stays ((run cs).handle p) ((run cs).queue p) e ≡ true) (λ e. StandsIn (ledger_after cs) p (item_of w.name e)) stands-in
            ((run cs).queue p) ((always-noted cs).stands p) (founded cs p)));
        once = λ n. rw (w.follows.queues p) (at_most_one n);
      }

pub waiting-in : WaitingIn
waiting-in xs h p = rw h.same at (waiting-at h.calls p)

pub lapsed-leaves : LapsedLeaves
lapsed-leaves xs x h p e before z after =
    lapsed-falls (ledger_of xs) (ledger_of (xs ++ (x ∷ []))) p e (standing (ledger_of xs) p e (waiting-in xs (happened-front xs (x ∷ []) h) p) before) z
    (standing (ledger_of (xs ++ (x ∷ []))) p e (waiting-in (xs ++ (x ∷ [])) h p) after)
