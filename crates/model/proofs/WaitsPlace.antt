-- The theorems that go with specs/WaitsPlace.antt and stand on others: each goes by the definitions and the theorems there.
-- Assumes nothing.
use Rattle.std.specs.Prelude.{ℕ, ◌≤◌, ◌≡◌, refl, ◌⊎◌, length}
use Rattle.std.proofs.Math.Path.{sym, ap, subst}
use Rattle.std.proofs.Common.{◌∙◌, arith}
use Rattle.std.proofs.Math.Logic.◌⊎◌.{inl, inr}
use mathlib.Core.List.{List, [], ◌∷◌, ◌++◌, append_assoc, append-nil}
use Rattle.std.proofs.Math.ListN.{length-append}
use Rattle.model.specs.Book.{Fed}
use Rattle.model.specs.Queues.{Later}
use Rattle.model.specs.QueuesLaws.{later_refl, later_trans, later-front, later-with, In, all_in, later-imp}
use Rattle.model.specs.InPlace.{Never, CameOut, find}
use Rattle.model.specs.Ledger.{Item}
use Rattle.model.specs.LedgerMoves.{NextIn}
use Rattle.model.specs.Rows.{ledger_of}
use Rattle.model.specs.Happened.{Happened}
use Rattle.model.specs.Waits.{taken_in, LapsedIn, LostIn}
use Rattle.model.specs.WaitsProof.{taken_by}
use Rattle.model.proofs.WaitsProof.{history-moves, one-each-in}
use Rattle.model.specs.WaitsPlace.{LostAt, Fate, Fate.lost, Fate.came-out, Fate.waits, FateIn, InTimeAt, split_at, later-length}

-- One exchange, and then the rest.
module _ (xs : List Fed) (x : Fed) (p : ℕ) where
  abbrev more : List Fed
  more = xs ++ (x ∷ [])

  abbrev now : List Item
  now = taken_by (ledger_of xs) p x

  abbrev Gone : Item → Type 0
  Gone d = In d ((ledger_of xs).queue p) × LapsedIn (ledger_of xs) (ledger_of more) p d

  onward : (zs : List Fed) (ahead then₁ s : List Item) → Later Gone Never ahead (now ++ then₁) → Later (LostIn more zs p) Never then₁ s →
      Later (LostIn xs (x ∷ zs) p) Never ahead (now ++ s)
  onward zs ahead then₁ s l m = later_trans (later-imp (λ d g. inl g) (λ d g. g) l) (later-front now (later-imp (λ d g. inr g) (λ d g. g) m))

  fate-after : (ys : List Fed) (ahead then₁ : List Item) (e : Item) → Later Gone Never ahead (now ++ then₁) → length (now ++ then₁) ≤ length ahead → Fate more ys p then₁ e →
      Fate xs (x ∷ ys) p ahead e
  unfolding taken_in
  fate-after ys ahead then₁ e l le (lost r) =
      let same : more ++ r.before ≡ xs ++ (x ∷ r.before) = append_assoc xs (x ∷ []) r.before in
      lost
      (record {
        before = x ∷ r.before;
        exchange = r.exchange;
        after = r.after;
        place = ap (◌∷◌ x) r.place;
        ahead-then = r.ahead-then;
        behind-then = r.behind-then;
        waits = subst (λ (z : List Fed). (ledger_of z).queue p ≡ r.ahead-then ++ (e ∷ r.behind-then)) same r.waits;
        ahead-only =
            rw (append_assoc now (taken_in more r.before p) r.ahead-then)
            (onward r.before ahead then₁ (taken_in more r.before p ++ r.ahead-then) l r.ahead-only);
        lapses = subst (λ (z : List Fed). LapsedIn (ledger_of z) (ledger_of (z ++ (r.exchange ∷ []))) p e) same r.lapses;
      })
  fate-after ys ahead then₁ e l le (came-out c) =
      came-out
      (record {
        before = now ++ c.before;
        after = c.after;
        split = ap (λ (z : List Item). now ++ z) c.split ∙ sym (append_assoc now c.before (e ∷ c.after));
        ahead-only = onward ys ahead then₁ c.before l c.ahead-only;
        in-time = omega (arith, le, length-append now then₁, length-append now c.before, c.in-time);
      })
  fate-after ys ahead then₁ e l le (waits r) =
      waits
      (record {
        ahead-then = r.ahead-then;
        behind-then = r.behind-then;
        waits = subst (λ (z : List Fed). (ledger_of z).queue p ≡ r.ahead-then ++ (e ∷ r.behind-then)) (append_assoc xs (x ∷ []) ys) r.waits;
        ahead-only =
            rw (append_assoc now (taken_in more ys p) r.ahead-then) (onward ys ahead then₁ (taken_in more ys p ++ r.ahead-then) l r.ahead-only);
      })

  fate-step : (ys : List Fed) → Happened (xs ++ (x ∷ ys)) → (ahead behind-it : List Item) (e : Item) → (ledger_of xs).queue p ≡ ahead ++ (e ∷ behind-it) →
      ((then₁ behind-then : List Item) → (ledger_of more).queue p ≡ then₁ ++ (e ∷ behind-then) → Fate more ys p then₁ e) → Fate xs (x ∷ ys) p ahead e
  unfolding taken_in
  fate-step ys h ahead behind-it e q rest = go (find e behind-it ahead _ (subst (λ (z : List Item). Later Gone (NextIn (ledger_of xs)) z (now ++ next)) q moved))
    where
      next : List Item
      next = (ledger_of more).queue p

      moved : Later Gone (NextIn (ledger_of xs)) ((ledger_of xs).queue p) (now ++ next)
      moved = later-with (λ d. In d ((ledger_of xs).queue p)) (history-moves xs ys x h p) (all_in ((ledger_of xs).queue p))

      go : Gone e ⊎ CameOut Gone ahead e (now ++ next) → Fate xs (x ∷ ys) p ahead e
      go (inl g) =
          lost
          (record {
            before = [];
            exchange = x;
            after = ys;
            place = refl;
            ahead-then = ahead;
            behind-then = behind-it;
            waits = rw (append-nil xs) q;
            ahead-only = later_refl ahead;
            lapses = rw (append-nil xs) g.1;
          })
      go (inr c) = on (split_at e now next c.before c.after c.split)
        where
          on : ((r : List Item) × (now ≡ c.before ++ (e ∷ r))) ⊎ ((t : List Item) × (c.before ≡ now ++ t) × (next ≡ t ++ (e ∷ c.after))) → Fate xs (x ∷ ys) p ahead e
          on (inl r) =
              came-out
              (record {
                before = c.before;
                after = r.0 ++ taken_in more ys p;
                split = ap (λ (z : List Item). z ++ taken_in more ys p) r.1 ∙ append_assoc c.before (e ∷ r.0) (taken_in more ys p);
                ahead-only = later-imp (λ d g. inl g) (λ d g. g) c.ahead-only;
                in-time = c.in-time;
              })
          on (inr t) =
              fate-after ys ahead t.0 e (subst (Later Gone Never ahead) t.1 c.ahead-only) (subst (λ (z : List Item). length z ≤ length ahead) t.1 c.in-time)
              (rest t.0 c.after t.2)

pub fate-in : FateIn
unfolding taken_in
fate-in xs [] h p ahead behind-it e q =
    waits (record { ahead-then = ahead; behind-then = behind-it; waits = rw (append-nil xs) q; ahead-only = later_refl ahead })
fate-in xs (x ∷ ys) h p ahead behind-it e q =
    fate-step xs x p ys h ahead behind-it e q (λ a b z. fate-in (xs ++ (x ∷ [])) ys (rw (append_assoc xs (x ∷ []) ys) h) p a b e z)

pub in-time-at : InTimeAt
in-time-at xs ys h p ahead behind-it e q enough = go (fate-in xs ys h p ahead behind-it e q)
  where
    go : Fate xs ys p ahead e → LostAt xs ys p ahead e ⊎ CameOut (LostIn xs ys p) ahead e (taken_in xs ys p)
    go (lost r) = inl r
    go (came-out c) = inr c
    go (waits r) =
        absurd (omega (arith, later-length r.ahead-only, length-append (taken_in xs ys p) r.ahead-then, one-each-in xs ys h p))
