-- The laws that the functions' proofs cite, one for each return or turn of a loop, over plain variables: each is shaped like what the callee ensures.
-- Assumes nothing.
use Rattle.std.specs.Prelude.{ℕ, suc, ◌+◌, ◌*◌, ◌/◌, ◌%◌, ◌≤◌, ◌<◌, ◌≡◌, refl, Bool, true, false, not, List, length, get_or, set, replicate, eqb}
use Rattle.std.proofs.Common.{ap, ◌∙◌, arith}
use borrow.Author.Tests.{eq-eqb, ne_eqb, le-ltb, lt-ltb}
use Rattle.ids.specs.declared.HandleId.{HandleId}
use Rattle.rings.specs.declared.Match.{Match}
use Rattle.rings.specs.Rings.{released_bit, Rings, rings_of, one_slot}
use Rattle.tables.specs.Peers.{given_at, set_given}
use Rattle.tables.specs.Nodes.{live_at, died_at}
use Rattle.tables.specs.Handles.{id_at, count_at, total_at, raised}
use Rattle.model.specs.Numbers.{nodes, invalid}
use Rattle.queues.specs.Queues.{withdrawn}
use Rattle.grants.specs.Grants.{Numbered, numbered_of, numbered, shown_to, referenced_of, referenced, valid_at, given_of, given_to, Gives, gives_of, gives_to, id_or_invalid}
use Rattle.ids.specs.Sizes.{slots, most_ids}

-- next_id
pub next-done : (ps : List ℕ) (p : ℕ) {g : ℕ} → g ≡ given_at ps p → {ps' : List ℕ} → ps' ≡ set_given ps p (g + 1) → numbered_of (4 * (g + 1) + 3) ps' ≡ numbered ps p
unfolding numbered
next-done ps p eg es = rw (es, eg)

-- shown_id, id_or_invalid
module _ (hs : List ℕ) (p s : ℕ) {n : ℕ} (en : n ≡ count_at hs p s) where
  pub shown-new : (ps : List ℕ) {x : Numbered} → n ≡ 0 → x ≡ numbered ps p → x ≡ shown_to ps hs p s
  unfolding shown_to
  shown-new ps h e = rw (← en, eq-eqb n 0 h) e

  pub shown-old : (ps : List ℕ) {i : HandleId} → (n ≡ 0 → ⊥) → i ≡ record { 0 = id_at hs p s } → numbered_of i.0 ps ≡ shown_to ps hs p s
  unfolding shown_to
  shown-old ps h e = rw (← en, ne_eqb n 0 h, e)

  pub id-none : n ≡ 0 → ◌≡◌ {A = HandleId} (record { 0 = invalid }) (record { 0 = id_or_invalid hs p s })
  unfolding id_or_invalid
  id-none h = rw (← en, eq-eqb n 0 h)

  pub id-some : {i : HandleId} → (n ≡ 0 → ⊥) → i ≡ record { 0 = id_at hs p s } → i ≡ record { 0 = id_or_invalid hs p s }
  unfolding id_or_invalid
  id-some h e = rw (← en, ne_eqb n 0 h) e

-- add_reference
pub reference-added : (ps hs : List ℕ) (p s : ℕ) {i : ℕ} {ps' : List ℕ} → numbered_of i ps' ≡ shown_to ps hs p s →
    {hs' : List ℕ} → hs' ≡ raised hs p s i → referenced_of i ps' hs' ≡ referenced ps hs p s
unfolding referenced
reference-added ps hs p s e eh = rw (eh, ← e)

-- valid
module _ (ns hs : List ℕ) (n p s : ℕ) {l : Bool} (el : l ≡ live_at ns s) where
  pub valid-live : l ≡ true → true ≡ valid_at ns hs n p s
  unfolding valid_at
  valid-live h = rw (← el, h)

  module _ (dead : l ≡ false) {k : ℕ} (ek : k ≡ died_at ns s) where
    pub valid-before : k ≤ n → false ≡ valid_at ns hs n p s
    unfolding valid_at
    valid-before h = rw (← el, dead, ← ek, le-ltb n k h)

    pub valid-other : n < k → (s / slots ≡ p → ⊥) → true ≡ valid_at ns hs n p s
    unfolding valid_at
    valid-other h d = rw (← el, dead, ← ek, lt-ltb n k h, ne_eqb (s / slots) p d)

    pub valid-own : n < k → s / slots ≡ p → {c : ℕ} → c ≡ count_at hs p s → not (eqb c 0) ≡ valid_at ns hs n p s
    unfolding valid_at
    valid-own h e ec = rw (← el, dead, ← ek, lt-ltb n k h, eq-eqb (s / slots) p e, ec)

-- give
pub rings-same : {a a' b b' c c' d d' : List ℕ} → a ≡ a' → b ≡ b' → c ≡ c' → d ≡ d' → rings_of a b c d ≡ rings_of a' b' c' d'
rings-same ea eb ec ed = rw (ea, eb, ec, ed)

module _ (ns ps hs : List ℕ) (r : Rings) (p as_of s : ℕ) {l : Bool} (el : l ≡ valid_at ns hs as_of p s) where
  pub give-dead : l ≡ false → given_of invalid ps hs r ≡ given_to ns ps hs r p as_of s
  unfolding given_to
  give-dead h = rw (← el, h)

  module _ (live : l ≡ true) {n : ℕ} (en : n ≡ total_at hs s) {i : ℕ} {ps' hs' : List ℕ} (e : referenced_of i ps' hs' ≡ referenced ps hs p s) where
    pub give-one : n ≡ 1 → {m : Match} → m ≡ one_slot released_bit s → {r' : Rings} → r' ≡ withdrawn r (s / slots) m → given_of i ps' hs' r' ≡ given_to ns ps hs r p as_of s
    unfolding given_to
    give-one h em er = rw (← el, live, ← en, eq-eqb n 1 h, er, em, ← e)

    pub give-more : (n ≡ 1 → ⊥) → {r' : Rings} → r' ≡ r → given_of i ps' hs' r' ≡ given_to ns ps hs r p as_of s
    unfolding given_to
    give-more h er = rw (← el, live, ← en, ne_eqb n 1 h, er, ← e)

-- give_all: what the first k slots made of the tables, whose lengths stay.
pub record Giving (ns ps hs es xs cs vs : List ℕ) (p as_of : ℕ) (ss : List ℕ) (n : ℕ) (is ps' hs' es' xs' cs' vs' : List ℕ) (k : ℕ) : Type 0 where
  pub within : k ≤ n
  pub peers : length ps' ≡ length ps
  pub handles : length hs' ≡ length hs
  pub ends : length es' ≡ length es
  pub entries : length xs' ≡ length xs
  pub carried : length cs' ≡ length cs
  pub numbers : length vs' ≡ length vs
  pub made : gives_of is ps' hs' (rings_of es' xs' cs' vs') ≡ gives_to ns ps hs (rings_of es xs cs vs) p as_of ss k

pub giving-start : (ns ps hs ends entries carried numbers : List ℕ) (p as_of : ℕ) (ss : List ℕ) (n : ℕ) →
    Giving ns ps hs ends entries carried numbers p as_of ss n (replicate most_ids 0) ps hs ends entries carried numbers 0
unfolding gives_to
giving-start ns ps hs ends entries carried numbers p as_of ss n =
    record { within = omega arith; peers = refl; handles = refl; ends = refl; entries = refl; carried = refl; numbers = refl; made = refl }

pub gives-next : (ns ps hs : List ℕ) (r : Rings) (p as_of : ℕ) (ss : List ℕ) (k : ℕ) {is qs gs : List ℕ} {r' : Rings} → gives_of is qs gs r' ≡ gives_to ns ps hs r p as_of ss k →
    {w : ℕ} → w ≡ get_or ss k 0 → {i : ℕ} {qs' gs' : List ℕ} {r'' : Rings} → given_of i qs' gs' r'' ≡ given_to ns qs gs r' p as_of (w % nodes) →
    gives_of (set is k i) qs' gs' r'' ≡ gives_to ns ps hs r p as_of ss (k + 1)
unfolding gives_to
gives-next ns ps hs r p as_of ss k e s f =
    let one : k + 1 ≡ suc k = omega arith in
    rw (one, ← e, ← s, ← f)

pub gives-done : (ns ps hs : List ℕ) (r : Rings) (p as_of : ℕ) (ss : List ℕ) (k n : ℕ) {x : Gives} → x ≡ gives_to ns ps hs r p as_of ss k → k ≤ n → n ≤ k → x ≡ gives_to ns ps hs r p as_of ss n
gives-done ns ps hs r p as_of ss k n e l m = let z : k ≡ n = omega arith in e ∙ ap (gives_to ns ps hs r p as_of ss) z
