-- What the questions about earlier messages answer, in the model's words: whether a message that was queued before a command carries a slot.
-- Assumes nothing.
use Rattle.std.specs.Prelude.{ℕ, zero, suc, ◌+◌, ◌≤◌, ◌<◌, ◌≡◌, refl, Bool, true, List, [], ◌∷◌, map, length, get_or, take, drop, eqb, ltb}
use Rattle.std.proofs.Common.{sym, ap, ◌∙◌, arith, eqb-true, eq-eqb, le-leb}
use Rattle.std.proofs.Math.Bool.{false}
use Rattle.laws.specs.Tests.{pick, Seen, Seen.is_true, Seen.is_false, look}
use Rattle.laws.specs.Weights.{All}
use Rattle.laws.specs.Sums.{sum_to}
use Rattle.quota.specs.declared.Charges.{Charges}
use Rattle.quota.specs.Charges.{users, nothing}
use Rattle.rings.specs.declared.Entry.{Entry as Row}
use Rattle.rings.specs.Rings.{peers, ring_size, Rings, length_of, queue_of}
use Rattle.pool.specs.Pool.{bytes_in, Pair, paired, sum_of}
use Rattle.tables.specs.Charges.{charges_at}
use Rattle.tables.specs.ChargesView.{charges_v, charges-is}
use Rattle.model.specs.Lists.{both, either, any}
use Rattle.model.specs.Resources.{Resource.handles}
use Rattle.model.specs.State.{Message, Entry, Entry.message, Entry.destroyed, Entry.released, messages_in, earlier}
use Rattle.model.specs.Charged.{queued_by, Fine, Sound}
use Rattle.view.specs.View.{entry_v, area_of, rows_v, queue_v}
use Rattle.view.specs.Rows.{queue-own}
use Rattle.queues.specs.Queues.{attached_of, brings_in, carried_before}
use Rattle.queues.specs.Asking.{Kind, Kind.is-message, Kind.is-destroyed, Kind.is-released, kind}

-- A slot that an earlier queued message carries.
brings-view : (n s : ℕ) (es : List Row) (l : List ℕ) → any (brings_in n s) es ≡ any (earlier n s) (map entry_v (paired es l))
unfolding paired brings_in
brings-view n s [] l = refl
brings-view n s (e ∷ es) l = go (kind x) (brings-view n s es (drop (bytes_in e) l))
  where
    x : Pair
    x = record { entry = e; payload = take (bytes_in e) l }

    rest : List Entry
    rest = map entry_v (paired es (drop (bytes_in e) l))

    go : Kind x → any (brings_in n s) es ≡ any (earlier n s) rest → any (brings_in n s) (e ∷ es) ≡ any (earlier n s) (entry_v x ∷ rest)
    go (is-message a b k f) ih = rw (a, f, ih)
    go (is-destroyed a b k f) ih = rw (a, f) ih
    go (is-released a b k f) ih = rw (a, f) ih

pub brings-at : (r : Rings) (t : List ℕ) (n s q : ℕ) → q < peers → any (brings_in n s) (queue_of r q) ≡ any (earlier n s) (queue_v r t q)
unfolding rows_v
brings-at r t n s q l =
    brings-view n s (queue_of r q) (area_of t q (sum_of (queue_of r q))) ∙ ap (any (earlier n s)) (sym (queue-own r t q l))

-- Where the charges count no attached handle none is carried, and then neither by an earlier message.
abbrev pub Unladen : List ℕ → Rings → List ℕ → ℕ → Type 0
Unladen cs r t q = eqb (attached_of (charges_at cs q)) 0 ≡ true → All (λ m. m.carried ≡ []) (messages_in (queue_v r t q))

pub none-earlier : (n s : ℕ) (es : List Entry) → All (λ m. m.carried ≡ []) (messages_in es) → any (earlier n s) es ≡ false
none-earlier n s [] a = refl
none-earlier n s (message k m ∷ es) a = rw (a.0, none-earlier n s es a.1) (go (ltb k n))
  where
    go : (b : Bool) → either (both b false) false ≡ false
    go true = refl
    go false = refl
none-earlier n s (destroyed k t ∷ es) a = none-earlier n s es a
none-earlier n s (released k t ∷ es) a = none-earlier n s es a

module _ (cs : List ℕ) (r : Rings) (t : List ℕ) (s n : ℕ) where
  pub before-view : (q : ℕ) → q < peers → length_of r.ends q ≤ ring_size → Unladen cs r t q → carried_before cs r s n q ≡ any (earlier n s) (queue_v r t q)
  unfolding carried_before
  before-view q l short none = rw (le-leb (length_of r.ends q) ring_size short) (go (look (eqb (attached_of (charges_at cs q)) 0)))
    where
      go : Seen (eqb (attached_of (charges_at cs q)) 0) →
          pick (eqb (attached_of (charges_at cs q)) 0) false (any (brings_in n s) (queue_of r q)) ≡ any (earlier n s) (queue_v r t q)
      go (is_true e) = rw e (sym (none-earlier n s (queue_v r t q) (none e)))
      go (is_false e) = rw e (brings-at r t n s q l)

-- On a bus of a run the charges are the sums over the queues.
no_length : (l : List ℕ) → length l ≡ 0 → l ≡ []
no_length [] e = refl
no_length (x ∷ l) e = absurd (omega arith)

none-carried : (ms : List Message) → All Fine ms → ((u : ℕ) → u < users → queued_by handles u ms ≡ 0) → All (λ m. m.carried ≡ []) ms
none-carried [] f h = tt
none-carried (m ∷ ms) f h =
    let e : pick (eqb m.user m.user) (length m.carried) 0 + queued_by handles m.user ms ≡ 0 = h m.user f.0.from in
    let t : eqb m.user m.user ≡ true = eq-eqb m.user m.user refl in
    let z : length m.carried + queued_by handles m.user ms ≡ 0 = rw t at e in
    (no_length m.carried (omega arith), none-carried ms f.1 (λ u l. omega (arith, h u l)))

attached-none : (c : Charges) → attached_of c ≡ 0 → (u : ℕ) → u < users → (get_or c.by u nothing).handles ≡ 0
unfolding attached_of sum_to
attached-none c e zero l = omega arith
attached-none c e (suc zero) l = omega arith
attached-none c e (suc (suc zero)) l = omega arith
attached-none c e (suc (suc (suc zero))) l = omega arith
attached-none c e (suc (suc (suc (suc u)))) l = absurd (omega arith)

pub unladen : (cs : List ℕ) (r : Rings) (t : List ℕ) (q : ℕ) → q < peers → Sound (messages_in (queue_v r t q)) (charges_v cs q) → Unladen cs r t q
unladen cs r t q l w e =
    let z : attached_of (charges_v cs q) ≡ 0 = rw (charges-is cs q l) (eqb-true (attached_of (charges_at cs q)) 0 e) in
    none-carried (messages_in (queue_v r t q)) w.fine (λ v m. sym (w.sums handles v m) ∙ attached-none (charges_v cs q) z v m)
