-- A history: the frames, numbers and answers of the calls of a run from a fresh bus, in order, and nothing else of it. What holds of every history holds of the calls of the code:
-- what they exchange is one.
-- Assumes nothing.
use Rattle.std.specs.Prelude.{◌≡◌, refl, Bool, true, false}
use Rattle.std.proofs.Common.{sym, ap, subst, ◌∙◌}
use Rattle.std.proofs.Math.Path.{ap₂}
use mathlib.Core.List.{List, [], ◌∷◌, ◌++◌}
use Rattle.laws.specs.Tests.{clash}
use Rattle.model.specs.State.{State, start}
use Rattle.model.specs.Step.{Call, step, run_from, run}
use Rattle.model.specs.Book.{Fed}
use Rattle.model.specs.Claim.{fed, history_from}
use Rattle.model.specs.History.{history-append}

pub record Happened (xs : List Fed) : Type 0 where
  pub calls : List Call
  pub same : history_from start calls ≡ xs

-- A history from the state b, cut in two.
pub record Cut (b : State) (cs : List Call) (xs ys : List Fed) : Type 0 where
  pub before : List Call
  pub after : List Call
  pub calls : cs ≡ before ++ after
  pub first : history_from b before ≡ xs
  pub second : history_from (run_from b before) after ≡ ys

head_or : Fed → List Fed → Fed
head_or x [] = x
head_or x (y ∷ ys) = y

tail_of : List Fed → List Fed
tail_of [] = []
tail_of (y ∷ ys) = ys

is_empty : List Fed → Bool
is_empty [] = true
is_empty (y ∷ ys) = false

cut-from : (b : State) (cs : List Call) (xs ys : List Fed) → history_from b cs ≡ xs ++ ys → Cut b cs xs ys
unfolding history_from run_from head_or tail_of is_empty
cut-from b cs [] ys e = record { before = []; after = cs; calls = refl; first = refl; second = e }
cut-from b [] (x ∷ xs) ys e = clash (ap is_empty e)
cut-from b (c ∷ cs) (x ∷ xs) ys e =
    let k = cut-from (step b c).state cs xs ys (ap tail_of e) in
    let h : fed c (step b c) ≡ x = ap (head_or x) e in
    record { before = c ∷ k.before; after = k.after; calls = ap (◌∷◌ c) k.calls; first = ap (λ (l : List Fed). fed c (step b c) ∷ l) k.first ∙ ap (λ (y : Fed). y ∷ xs) h; second = k.second }

pub happened-cut : (xs ys : List Fed) (h : Happened (xs ++ ys)) → Cut start h.calls xs ys
happened-cut xs ys h = cut-from start h.calls xs ys h.same

pub happened-front : (xs ys : List Fed) → Happened (xs ++ ys) → Happened xs
happened-front xs ys h = let k = happened-cut xs ys h in record { calls = k.before; same = k.first }

-- One call of a history: the calls before it, and what it gave.
pub record At (xs : List Fed) (x : Fed) : Type 0 where
  pub before : List Call
  pub call : Call
  pub first : history_from start before ≡ xs
  pub gives : fed call (step (run before) call) ≡ x

pub happened-at : (xs ys : List Fed) (x : Fed) → Happened (xs ++ (x ∷ ys)) → At xs x
unfolding history_from head_or is_empty
happened-at xs ys x h = let k = happened-cut xs (x ∷ ys) h in go k.before k.after k.first k.second
  where
    go : (before after : List Call) → history_from start before ≡ xs → history_from (run before) after ≡ x ∷ ys → At xs x
    go before [] e f = clash (ap is_empty f)
    go before (c ∷ after) e f = record { before = before; call = c; first = e; gives = ap (head_or x) f }

-- With it the history is longer by one.
pub at_next : (xs : List Fed) (x : Fed) (a : At xs x) → history_from start (a.before ++ (a.call ∷ [])) ≡ xs ++ (x ∷ [])
at_next xs x a =
    history-append a.before (a.call ∷ []) start
    ∙ unfold history_from in ap₂ (λ (l : List Fed) (y : Fed). l ++ (y ∷ [])) a.first a.gives

-- What holds of the calls of every run holds of every history: of one, of one cut in two, of one and a next exchange.
pub of-history : (P : List Fed → Type 0) → ((cs : List Call) → P (history_from start cs)) → (xs : List Fed) → Happened xs → P xs
of-history P f xs h = subst P h.same (f h.calls)

pub of_cut : (P : List Fed → List Fed → List Fed → Type 0) → ((cs ds : List Call) → P (history_from start cs) (history_from (run cs) ds) (history_from start (cs ++ ds))) →
    (xs ys : List Fed) → Happened (xs ++ ys) → P xs ys (xs ++ ys)
of_cut P f xs ys h =
    let k = happened-cut xs ys h in
    let whole : history_from start (k.before ++ k.after) ≡ xs ++ ys = ap (history_from start) (sym k.calls) ∙ h.same in
    subst (P xs ys) whole
    (subst (λ (z : List Fed). P xs z (history_from start (k.before ++ k.after))) k.second
    (subst (λ (z : List Fed). P z (history_from (run k.before) k.after) (history_from start (k.before ++ k.after))) k.first (f k.before k.after)))

pub of-next : (P : List Fed → Fed → List Fed → Type 0) → ((cs : List Call) (c : Call) → P (history_from start cs) (fed c (step (run cs) c)) (history_from start (cs ++ (c ∷ [])))) →
    (xs ys : List Fed) (x : Fed) → Happened (xs ++ (x ∷ ys)) → P xs x (xs ++ (x ∷ []))
of-next P f xs ys x h =
    let a = happened-at xs ys x h in
    let next = history_from start (a.before ++ (a.call ∷ [])) in
    subst (P xs x) (at_next xs x a)
    (subst (λ (z : Fed). P xs z next) a.gives (subst (λ (z : List Fed). P z (fed a.call (step (run a.before) a.call)) next) a.first (f a.before a.call)))
