-- The theorems that go with specs/LedgerGive.antt and stand on others: each goes by the definitions and the theorems there.
-- Assumes nothing.
use Rattle.std.specs.Prelude.{ℕ, zero, suc, ◌<◌, ◌≡◌, true, not, eqb, ltb}
use Rattle.std.proofs.Math.Path.{refl}
use Rattle.std.proofs.Common.{sym, ap, ap₂, ◌∙◌, arith}
use mathlib.Core.List.{List, [], ◌∷◌, map}
use borrow.Author.Tests.{le-ltb}
use Rattle.laws.specs.Tests.{Seen, Seen.is_true, Seen.is_false, look, clash}
use Rattle.laws.specs.Tables.{upd, upd-rel}
use Rattle.laws.specs.Weights.{keep-map}
use Rattle.model.specs.Numbers.{owner}
use Rattle.model.specs.Lists.{both, either}
use Rattle.model.specs.State.{Life, Life.live, Life.dead, lived_at, is_live, handle_of, held, count, Message, Entry, Entry.message, Entry.destroyed, Entry.released, State}
use Rattle.model.specs.Tables.{with_given, with_handles, with_queues, with_charges}
use Rattle.model.specs.Changes.{take_out, not_released, withdraw, valid, shown, given_after, give, give_all, shown_all, settled}
use Rattle.model.specs.Effects.{receives}
use Rattle.model.specs.Sim.{called}
use Rattle.model.specs.Ledger.{Ledger, no_release, cleared, valid_at, due_id, ledger_give, ledger_give_all, due_ids, ledger_queues, ledger_cleared, ledger_receive}
use Rattle.model.specs.LedgerSim.{item_of, Follows, lives-entered, handled-put}
use Rattle.model.specs.LedgerGive.{released-named, cleared-named}

module _ {name : ℕ → ℕ} {E : ℕ} (apart : (s t : ℕ) → name s ≡ name t → s ≡ t) where
  -- What is shown as of the command k.
  valid-due : (b : State) (l : Ledger) → Follows name E b l → (p k s : ℕ) → valid_at l p k (name s) ≡ valid b p k s
  unfolding valid_at valid
  valid-due b l r p k s = go (b.life s) refl
    where
      go : (x : Life) → b.life s ≡ x → either (l.lives (name s)) (both (ltb k (l.died (name s))) (either (not (eqb (l.maker (name s)) p)) (held (l.handle p (name s)))))
          ≡ both (lived_at k (b.life s)) (either (is_live (b.life s)) (either (not (eqb (owner s) p)) (held (b.handle p s))))
      go live e = rw (r.lives.same s, e) refl
      go (dead zero) e = rw (r.lives.same s, e, r.dates.same s 0 e, le-ltb k 0 (omega arith)) refl
      go (dead (suc d)) e = rw (r.lives.same s, e, r.dates.same s (suc d) e, r.lives.makers s (r.dates.entered s d e), r.handles.same p s) refl

  valid-entered : (b : State) (l : Ledger) → Follows name E b l → (p k s : ℕ) → valid b p k s ≡ true → name s < E
  unfolding valid
  valid-entered b l r p k s v = go (b.life s) refl
    where
      go : (x : Life) → b.life s ≡ x → name s < E
      go live e = lives-entered r.lives s (ap is_live e)
      go (dead zero) e = clash (sym v ∙ rw (e, le-ltb k 0 (omega arith)) refl)
      go (dead (suc d)) e = r.dates.entered s d e

  -- The ID shown is the ID due.
  pub shown-due : (b : State) (l : Ledger) → Follows name E b l → (p k s : ℕ) → due_id l p k (called name s) ≡ shown b p k s
  unfolding due_id shown
  shown-due b l r p k s = rw (valid-due b l r p k s, r.handles.same p s, r.given p)

  pub follows-give : (b : State) (l : Ledger) (p k s : ℕ) → Follows name E b l → Follows name E (give b p k s) (ledger_give l p k (called name s))
  follows-give b l p k s r = go (look (valid b p k s))
    where
      go : Seen (valid b p k s) → Follows name E (give b p k s) (ledger_give l p k (called name s))
      go (is_false e) = unfold give ledger_give in rw (valid-due b l r p k s, e) r
      go (is_true e) =
          let d = shown-due b l r p k s in
          unfold give ledger_give withdraw with_given with_handles with_queues in
          rw (valid-due b l r p k s, e, r.handles.same p s, d)
          (record {
            accepted = r.accepted;
            seeds = r.seeds;
            given = upd-rel (λ _ x y. x ≡ y) l.given b.given p _ _ r.given (ap (given_after (b.handle p s)) (r.given p));
            handles = handled-put p s (handle_of (shown b p k s) (suc (count (b.handle p s)))) r.handles apart (valid-entered b l r p k s e);
            lives = r.lives;
            dates = r.dates;
            queues =
                upd-rel (λ _ x y. x ≡ map (item_of name) y) l.queue b.queue (owner s) _ _ r.queues
                (rw (r.queues (owner s)) (keep-map (item_of name) (no_release (called name s)) (not_released (eqb s)) (b.queue (owner s)) (released-named name apart s)));
          })

  pub follows-gives : (b : State) (l : Ledger) (p k : ℕ) (ss : List ℕ) → Follows name E b l → Follows name E (give_all b p k ss) (ledger_give_all l p k (map (called name) ss))
  follows-gives b l p k [] r = r
  follows-gives b l p k (s ∷ ss) r = follows-gives (give b p k s) (ledger_give l p k (called name s)) p k ss (follows-give b l p k s r)

  pub shown-all-due : (b : State) (l : Ledger) (p k : ℕ) (ss : List ℕ) → Follows name E b l → due_ids l p k (map (called name) ss) ≡ shown_all b p k ss
  shown-all-due b l p k [] r = refl
  shown-all-due b l p k (s ∷ ss) r = ap₂ ◌∷◌ (shown-due b l r p k s) (shown-all-due (give b p k s) (ledger_give l p k (called name s)) p k ss (follows-give b l p k s r))

  -- The first entry is taken out.
  pub follows-out : (b : State) (l : Ledger) (p : ℕ) (ms : List Message) (rest : List Entry) → Follows name E b l →
      Follows name E (take_out b p ms rest) (ledger_queues l (upd l.queue p (map (item_of name) rest)))
  unfolding take_out with_charges with_queues ledger_queues
  follows-out b l p ms rest r =
      record {
        accepted = r.accepted;
        seeds = r.seeds;
        given = r.given;
        handles = r.handles;
        lives = r.lives;
        dates = r.dates;
        queues = upd-rel (λ _ x y. x ≡ map (item_of name) y) l.queue b.queue p _ _ r.queues refl;
      }

  -- The notices that nothing keeps are withdrawn.
  follows-settled : (b : State) (l : Ledger) (p : ℕ) → Follows name E b l → Follows name E (settled b p) (ledger_cleared l p)
  unfolding settled with_queues ledger_queues
  follows-settled b l p r =
      record {
        accepted = r.accepted;
        seeds = r.seeds;
        given = r.given;
        handles = r.handles;
        lives = r.lives;
        dates = r.dates;
        queues =
            upd-rel (λ _ x y. x ≡ map (item_of name) y) l.queue b.queue p _ _ r.queues
            (ap (cleared (l.handle p)) (r.queues p) ∙ cleared-named name apart (l.handle p) (b.handle p) (r.handles.same p) (b.queue p));
      }

  -- Receive: the queue es is that of p.
  pub follows-receive : (b : State) (l : Ledger) (p : ℕ) (es : List Entry) → Follows name E b l → Follows name E (receives b p es) (ledger_receive l p (map (item_of name) es))
  follows-receive b l p [] r = r
  follows-receive b l p (message k m ∷ es) r = follows-settled _ _ p (follows-gives (take_out b p (m ∷ []) es) _ p k m.carried (follows-out b l p (m ∷ []) es r))
  follows-receive b l p (destroyed k s ∷ es) r = follows-out b l p [] es r
  follows-receive b l p (released k s ∷ es) r = follows-out b l p [] es r
