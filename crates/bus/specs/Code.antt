-- One law for each return of the code that a definition does not say at once, over plain variables.
-- Assumes nothing.
use Prim.Native.Nat.{ℕ, zero, suc, ◌+◌, ◌*◌, ◌≤◌, ◌<◌}
use Rattle.std.specs.Prelude.{◌≡◌, Bool, List, ◌++◌, length, get_or, set, drop, replicate, ltb, leb, Ok, Err}
use Rattle.std.proofs.Math.Path.{refl, sym, ap}
use Rattle.std.proofs.Common.{subst, ◌∙◌, append-nil, drop-cons}
use Rattle.std.proofs.Math.Bool.{true, false}
use native.Mathlib.Omega.{arith}
use Rattle.std.proofs.lemmas.List.{length-replicate, replicate-append-replicate, set_at}
use Rattle.std.proofs.Math.Seq.{drop-length, append_snoc}
use borrow.Author.Tests.{lt-ltb, le-ltb, le-leb, lt-leb, leb-true}
use Rattle.laws.specs.Tests.{Same, same, other, same?}
use Rattle.model.specs.Lists.{both}
use Rattle.model.specs.Occurs.{both_true}
use Rattle.view.specs.View.{Bus, bus_of, Shape}
use Rattle.rings.specs.Rings.{ring_size, length_of}
use Rattle.queues.specs.Queues.{Short}
use Rattle.ids.specs.Refusals.{EINVAL, EIO, refusal_number}
use Rattle.ids.specs.declared.Refusal.{Refusal}
use Rattle.frames.specs.declared.Command.{Command}
use Rattle.frames.specs.Frame.{parse, Parsed}
use Rattle.frames.specs.Legal.{Legal}
use Rattle.answers.specs.declared.Answer.TheVariants.{Refused as is_refused}
use Rattle.answers.specs.declared.Outcome.{Outcome}
use Rattle.answers.specs.Answer.{answer_size}
use Rattle.judges.specs.declared.Ruling.{Ruling}
use Rattle.judges.specs.Orders.{Sight, sight, ruling_of}
use Rattle.bus_model.specs.Fairness.{fair}
use Rattle.bus_model.specs.Sound.{sized-shape, each-peer}
use Rattle.bus_model.specs.Command.{sized_ok, peer_ok, peers_ok, ranges_ok, sound_ok, fresh_bus, fresh_of, fresh_number, Done, done_of, carried_out, command_of, Fair}
use Rattle.execution.specs.Code.{Written}
use Rattle.ids.specs.Sizes.{peers, accepted_end, given_end, end_fields}
use Rattle.tables.specs.Peers.{peer_row}

-- The numbers of a peer, by the test that fails; then the last test.
module _ (ps ends : List ℕ) (p : ℕ) where
  pub bad-state : 2 < get_or ps (peer_row p) 0 → false ≡ peer_ok ps ends p
  unfolding peer_ok
  bad-state h = rw (lt-leb (get_or ps (peer_row p) 0) 2 h)

  module _ (h₀ : get_or ps (peer_row p) 0 ≤ 2) where
    pub bad-user : 3 < get_or ps (peer_row p + 1) 0 → false ≡ peer_ok ps ends p
    unfolding peer_ok
    bad-user h = rw (le-leb (get_or ps (peer_row p) 0) 2 h₀, lt-leb (get_or ps (peer_row p + 1) 0) 3 h)

    module _ (h₁ : get_or ps (peer_row p + 1) 0 ≤ 3) where
      pub bad-given : given_end ≤ get_or ps (peer_row p + 2) 0 → false ≡ peer_ok ps ends p
      unfolding peer_ok
      bad-given h = rw (le-leb (get_or ps (peer_row p) 0) 2 h₀, le-leb (get_or ps (peer_row p + 1) 0) 3 h₁, le-ltb (get_or ps (peer_row p + 2) 0) given_end h)

      module _ (h₂ : get_or ps (peer_row p + 2) 0 < given_end) where
        pub bad-head : ring_size ≤ get_or ends (p * end_fields) 0 → false ≡ peer_ok ps ends p
        unfolding peer_ok
        bad-head h =
            rw (le-leb (get_or ps (peer_row p) 0) 2 h₀, le-leb (get_or ps (peer_row p + 1) 0) 3 h₁, lt-ltb (get_or ps (peer_row p + 2) 0) given_end h₂, le-ltb (get_or ends (p * end_fields) 0) ring_size h)

        pub last-length : get_or ends (p * end_fields) 0 < ring_size → leb (get_or ends (p * end_fields + 1) 0) ring_size ≡ peer_ok ps ends p
        unfolding peer_ok
        last-length h =
            rw (le-leb (get_or ps (peer_row p) 0) 2 h₀, le-leb (get_or ps (peer_row p + 1) 0) 3 h₁, lt-ltb (get_or ps (peer_row p + 2) 0) given_end h₂, lt-ltb (get_or ends (p * end_fields) 0) ring_size h)

both_false : (a b : Bool) → b ≡ false → both a b ≡ false
both_false true b e = e
both_false false b e = refl

-- All peers.
module _ (ps ends : List ℕ) where
  pub none_yet : peers_ok ps ends 0 ≡ true
  unfolding peers_ok
  none_yet = refl

  pub one_more : (p : ℕ) {r : Bool} → peers_ok ps ends p ≡ true → r ≡ peer_ok ps ends p → r ≡ true → peers_ok ps ends (p + 1) ≡ true
  unfolding peers_ok
  one_more p h e t =
      let n : p + 1 ≡ suc p = omega arith in
      rw (n, h, ← e, t)

  one-fails : (n p : ℕ) → p < n → peer_ok ps ends p ≡ false → peers_ok ps ends n ≡ false
  unfolding peers_ok
  one-fails zero p l h = absurd (omega arith)
  one-fails (suc n) p l h = go (same? p n) (one-fails n p)
    where
      go : Same p n → (p < n → peer_ok ps ends p ≡ false → peers_ok ps ends n ≡ false) → both (peers_ok ps ends n) (peer_ok ps ends n) ≡ false
      go (same e) ih = both_false (peers_ok ps ends n) (peer_ok ps ends n) (ap (peer_ok ps ends) (sym e) ∙ h)
      go (other d) ih = rw (ih (omega (arith, d)) h)

  pub bad-peer : (p : ℕ) {r : Bool} → p < peers → r ≡ peer_ok ps ends p → r ≡ false → false ≡ ranges_ok ps ends
  unfolding ranges_ok
  bad-peer p l e f = rw (one-fails peers p l (sym e ∙ f))

  pub good-peers : (p : ℕ) → peers ≤ p → p ≤ peers → peers_ok ps ends p ≡ true → ltb (get_or ps 0 0) accepted_end ≡ ranges_ok ps ends
  unfolding ranges_ok
  good-peers p l u h =
      let e : p ≡ peers = omega arith in
      let k : peers_ok ps ends peers ≡ true = ap (peers_ok ps ends) (sym e) ∙ h in
      rw k

  -- The lengths of the queues of good peers.
  peer-short : (p : ℕ) → peer_ok ps ends p ≡ true → length_of ends p ≤ ring_size
  unfolding peer_ok
  peer-short p h =
      let h₀ = both_true (leb (get_or ps (peer_row p) 0) 2) (both (leb (get_or ps (peer_row p + 1) 0) 3) (both (ltb (get_or ps (peer_row p + 2) 0) given_end) (both (ltb (get_or ends (p * end_fields) 0) ring_size) (leb (get_or ends (p * end_fields + 1) 0) ring_size)))) h in
      let h₁ = both_true (leb (get_or ps (peer_row p + 1) 0) 3) (both (ltb (get_or ps (peer_row p + 2) 0) given_end) (both (ltb (get_or ends (p * end_fields) 0) ring_size) (leb (get_or ends (p * end_fields + 1) 0) ring_size))) h₀.1 in
      let h₂ = both_true (ltb (get_or ps (peer_row p + 2) 0) given_end) (both (ltb (get_or ends (p * end_fields) 0) ring_size) (leb (get_or ends (p * end_fields + 1) 0) ring_size)) h₁.1 in
      let h₃ = both_true (ltb (get_or ends (p * end_fields) 0) ring_size) (leb (get_or ends (p * end_fields + 1) 0) ring_size) h₂.1 in
      leb-true (get_or ends (p * end_fields + 1) 0) ring_size h₃.1

  pub ranges-short : ranges_ok ps ends ≡ true → Short ends
  unfolding ranges_ok
  ranges-short h = let t = both_true (peers_ok ps ends peers) (ltb (get_or ps 0 0) accepted_end) h in λ p l. peer-short p (each-peer ps ends 8 t.0 p l)

-- Both tests.
module _ (b : Bus) {r : Bool} (e : r ≡ sized_ok b) where
  pub not-sized : r ≡ false → false ≡ sound_ok b
  unfolding sound_ok
  not-sized f = rw (← e, f)

  pub then-shape : r ≡ true → Shape b
  then-shape t = sized-shape b (sym e ∙ t)

  pub sized-then : r ≡ true → {s : Bool} → s ≡ ranges_ok b.peers b.rings.ends → s ≡ sound_ok b
  unfolding sound_ok
  sized-then t k = rw (← e, t) k

-- A buffer cleared: the places so far, and the next.
pub clear-store : (n : ℕ) (l : List ℕ) → n < length l → set (replicate n 0 ++ drop n l) n 0 ≡ replicate (n + 1) 0 ++ drop (n + 1) l
clear-store n l h =
    let e : n + 1 ≡ suc n = omega arith in
    ap (λ (r : List ℕ). set (replicate n 0 ++ r) n 0) (drop-cons l n 0 h)
    ∙ set_at (replicate n 0) (get_or l n 0) (drop (suc n) l) 0 n (length-replicate {A = ℕ} n 0)
    ∙ sym (append_snoc (replicate n 0) 0 (drop (suc n) l))
    ∙ ap (λ (r : List ℕ). r ++ drop (suc n) l) (replicate-append-replicate n 1 0)
    ∙ ap (λ (k : ℕ). replicate (n + 1) 0 ++ drop k l) (sym e)

pub clear-all : (n : ℕ) (l : List ℕ) {t : List ℕ} → length l ≤ n → n ≤ length l → t ≡ replicate n 0 ++ drop n l → t ≡ replicate (length l) 0
clear-all n l h k e =
    let q : n ≡ length l = omega arith in
    e ∙ ap (λ (j : ℕ). replicate j 0 ++ drop j l) q ∙ ap (λ (r : List ℕ). replicate (length l) 0 ++ r) (drop-length l) ∙ append-nil (replicate (length l) 0)

-- A fresh bus, or none.
to-zeros : (l : List ℕ) {t : List ℕ} {n : ℕ} → t ≡ replicate (length l) 0 → length l ≡ n → t ≡ replicate n 0
to-zeros l q e = q ∙ ap (λ (k : ℕ). replicate k 0) e

module _ (b : Bus) {r : Bool} (e : r ≡ sized_ok b) where
  pub fresh-refused : r ≡ false → (EIO ≡ fresh_number b) × (b ≡ fresh_of b)
  unfolding fresh_number fresh_of
  fresh-refused f = let k : sized_ok b ≡ false = sym e ∙ f in (rw k, rw k)

  pub fresh-made : r ≡ true → {ps ns hs cs ends entries carried numbers pool seeds : List ℕ} → ps ≡ replicate (length b.peers) 0 → ns ≡ replicate (length b.nodes) 0 → hs ≡ replicate (length b.handles) 0 → cs ≡ replicate (length b.charges) 0 → ends ≡ replicate (length b.rings.ends) 0 → entries ≡ replicate (length b.rings.rows.entries) 0 → carried ≡ replicate (length b.rings.rows.carried) 0 → numbers ≡ replicate (length b.rings.rows.numbers) 0 → pool ≡ replicate (length b.pool) 0 → seeds ≡ replicate (length b.seeds) 0 →
      (0 ≡ fresh_number b) × (bus_of ps ns hs cs ends entries carried numbers pool seeds ≡ fresh_of b)
  unfolding fresh_number fresh_of fresh_bus
  fresh-made f q0 q1 q2 q3 q4 q5 q6 q7 q8 q9 =
      let k : sized_ok b ≡ true = sym e ∙ f in
      let z = sized-shape b k in
      (rw k, rw (k, to-zeros b.peers q0 z.peers, to-zeros b.nodes q1 z.nodes, to-zeros b.handles q2 z.handles, to-zeros b.charges q3 z.charges, to-zeros b.rings.ends q4 z.ends, to-zeros b.rings.rows.entries q5 z.rows.entries, to-zeros b.rings.rows.carried q6 z.rows.carried, to-zeros b.rings.rows.numbers q7 z.rows.numbers, to-zeros b.pool q8 z.pool, to-zeros b.seeds q9 z.seeds))

-- What is judged is an order in its bounds.
pub fair-ruling : (v : Sight) (f : List ℕ) (c : Command) {r : Ruling} → r ≡ ruling_of v f c → Legal f c → Fair r.order
fair-ruling v f c e l = subst (λ (x : Ruling). Fair x.order) (sym e) (fair v f c l)

-- A command, by its returns.
pub executed : (b : Bus) (f out : List ℕ) {r s : Ruling} {d : Done} → r ≡ s → d ≡ carried_out b f out r → d ≡ carried_out b f out s
executed b f out e h = h ∙ ap (carried_out b f out) e

module _ (b : Bus) (f out : List ℕ) where
  pub no_room : length out < answer_size → done_of (record { number = EINVAL; len = 0 }) b out ≡ command_of b f out
  unfolding command_of
  no_room h = rw (lt-ltb (length out) answer_size h)

  module _ (h : answer_size ≤ length out) {r : Bool} (e : r ≡ sound_ok b) where
    pub not_sound : r ≡ false → {o : Outcome} {out' : List ℕ} → Written (is_refused EIO) out o out' → done_of o b out' ≡ command_of b f out
    unfolding command_of
    not_sound n w = rw (le-ltb (length out) answer_size h, ← e, n, w.0, w.1)

    module _ (t : r ≡ true) {x : Parsed} (ex : x ≡ parse f) where
      pub not-read : {n : Refusal} → x ≡ Err n → {m : ℕ} → m ≡ refusal_number n → {o : Outcome} {out' : List ℕ} → Written (is_refused m) out o out' → done_of o b out' ≡ command_of b f out
      unfolding command_of
      not-read en em w = rw (le-ltb (length out) answer_size h, ← e, t, ← ex, en, ← em, w.0, w.1)

      pub was_read : {c : Command} → x ≡ Ok c → {d : Done} →
          d ≡ carried_out b f out (ruling_of (sight b.peers b.nodes b.handles b.charges b.rings b.seeds) f c) → d ≡ command_of b f out
      unfolding command_of
      was_read ec k = rw (le-ltb (length out) answer_size h, ← e, t, ← ex, ec) k

-- What the tests give to the judge.
pub sound-then : (b : Bus) {r : Bool} → r ≡ sound_ok b → r ≡ true → Shape b × Short b.rings.ends
unfolding sound_ok
sound-then b e t =
    let h = both_true (sized_ok b) (ranges_ok b.peers b.rings.ends) (sym e ∙ t) in
    (sized-shape b h.0, ranges-short b.peers b.rings.ends h.1)
