-- The IDs due for a list of nodes, given one after another by the ledger, are those that the ledger before gives all at once.
-- Assumes nothing.
use Rattle.std.specs.Prelude.{ℕ, suc, ◌+◌, ◌≤◌, ◌≡◌, Bool, not, length, eqb}
use Rattle.std.proofs.Math.Path.{refl, sym, ap}
use Rattle.std.proofs.Common.{◌∙◌, arith, length-append, eq-eqb}
use Rattle.std.proofs.Math.Bool.{true, false}
use Rattle.std.proofs.Math.Logic.◌⊎◌.{inl, inr}
use mathlib.Core.List.{List, [], ◌∷◌, ◌++◌, map, append_assoc, append-nil}
use Rattle.laws.specs.Tests.{pick, Seen, Seen.is_true, Seen.is_false, look, clash}
use Rattle.model.specs.Numbers.{invalid, next_id}
use Rattle.model.specs.Lists.{both, either, any}
use Rattle.model.specs.State.{Handle, Handle.none, Handle.some, held, id_or}
use Rattle.model.specs.Book.{Node}
use Rattle.model.specs.Ledger.{Ledger, valid_at}
use Rattle.model.specs.Shows.{AtOnePlace}
use Rattle.model.specs.Delivered.{with_new, new_after, ahead, attached_id}

-- A list with one more behind it.
pub any-behind : (n m : ℕ) (ms : List ℕ) → any (eqb n) (ms ++ (m ∷ [])) ≡ either (any (eqb n) ms) (eqb n m)
any-behind n m [] = go (eqb n m)
  where
    go : (t : Bool) → either t false ≡ t
    go true = refl
    go false = refl
any-behind n m (k ∷ ms) = go (eqb n k) _ _ _ (any-behind n m ms)
  where
    go : (t x y z : Bool) → x ≡ either y z → either t x ≡ either (either t y) z
    go true x y z e = refl
    go false x y z e = e

pub ahead_in : (n : ℕ) (ms ks : List ℕ) → any (eqb n) ms ≡ true → ahead n (ms ++ ks) ≡ ahead n ms
ahead_in n [] ks e = clash (sym e)
ahead_in n (m ∷ ms) ks e = go (look (eqb n m)) (ahead_in n ms ks)
  where
    go : Seen (eqb n m) → (any (eqb n) ms ≡ true → ahead n (ms ++ ks) ≡ ahead n ms) → ahead n ((m ∷ ms) ++ ks) ≡ ahead n (m ∷ ms)
    go (is_true z) ih = rw z refl
    go (is_false z) ih = rw z (ap suc (ih (rw z at e)))

pub ahead-last : (n : ℕ) (ms : List ℕ) → any (eqb n) ms ≡ false → ahead n (ms ++ (n ∷ [])) ≡ length ms
ahead-last n [] e = rw (eq-eqb n n refl) refl
ahead-last n (m ∷ ms) e = go (look (eqb n m)) (ahead-last n ms)
  where
    go : Seen (eqb n m) → (any (eqb n) ms ≡ false → ahead n (ms ++ (n ∷ [])) ≡ length ms) → ahead n ((m ∷ ms) ++ (n ∷ [])) ≡ length (m ∷ ms)
    go (is_true z) ih = clash (rw z at e)
    go (is_false z) ih = rw z (ap suc (ih (rw z at e)))

pub ahead-le : (n : ℕ) (ms : List ℕ) → ahead n ms ≤ length ms
ahead-le n [] = omega arith
ahead-le n (m ∷ ms) = go (look (eqb n m)) (ahead-le n ms)
  where
    go : Seen (eqb n m) → ahead n ms ≤ length ms → ahead n (m ∷ ms) ≤ length (m ∷ ms)
    go (is_true z) ih = rw z (omega arith)
    go (is_false z) ih = rw z (omega (arith, ih))

-- The new nodes so far stay in front.
with-front : (l : Ledger) (p k : ℕ) (new : List ℕ) (n : ℕ) → (ks : List ℕ) × (with_new l p k new n ≡ new ++ ks) × (length ks ≤ 1)
with-front l p k new n = go (both (valid_at l p k n) (both (not (held (l.handle p n))) (not (any (eqb n) new))))
  where
    go : (t : Bool) → (ks : List ℕ) × (pick t (new ++ (n ∷ [])) new ≡ new ++ ks) × (length ks ≤ 1)
    go true = (n ∷ [], refl, omega arith)
    go false = ([], sym (append-nil new), omega arith)

pub new-front : (l : Ledger) (p k : ℕ) (new : List ℕ) (ns : List Node) → (ks : List ℕ) × (new_after l p k new ns ≡ new ++ ks) × (length ks ≤ length ns)
new-front l p k new [] = ([], sym (append-nil new), omega arith)
new-front l p k new (n ∷ ns) =
    let x = with-front l p k new n.number in
    let y = new-front l p k (with_new l p k new n.number) ns in
    (x.0 ++ y.0, y.1 ∙ ap (λ (z : List ℕ). z ++ y.0) x.1 ∙ append_assoc new x.0 y.0, rw length-append (omega (arith, x.2, y.2)))

-- The ID due for a node that is shown.
pub live-id : (l : Ledger) (p k : ℕ) (new : List ℕ) (n : Node) → valid_at l p k n.number ≡ true →
    attached_id l p k new n ≡ id_or (next_id (l.given p + ahead n.number new)) (l.handle p n.number)
live-id l p k new n e = ap (λ (t : Bool). pick t (id_or (next_id (l.given p + ahead n.number new)) (l.handle p n.number)) invalid) e

pub unheld : (x : Handle) → held x ≡ false → x ≡ none
unheld none e = refl
unheld (some i c) e = clash e

-- A handle that came to be held was one to a node that is shown: the test stays.
pub more-held : (a b c d e : Bool) → (e ≡ true → either a (both b (either c d)) ≡ true) → either a (both b (either c (either d e))) ≡ either a (both b (either c d))
more-held true b c d e h = refl
more-held false false c d e h = refl
more-held false true true d e h = refl
more-held false true false true e h = refl
more-held false true false false true h = sym (h refl)
more-held false true false false false h = refl

pub or_no : (x : Bool) → either x false ≡ x
or_no true = refl
or_no false = refl

-- A list beside its nodes.
pub at_map : (f : Node → ℕ) (i : ℕ) (n : Node) (ns : List Node) → AtOnePlace i n (map f ns) ns → i ≡ f n
at_map f i n [] a = absurd a
at_map f i n (m ∷ ns) (inl z) = sym z.0 ∙ ap f z.1
at_map f i n (m ∷ ns) (inr z) = at_map f i n ns z
