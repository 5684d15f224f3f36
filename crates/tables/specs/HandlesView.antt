-- The table of handles seen as the model's handles: at count 0 there is none.
-- Assumes nothing.
use Prim.Native.Nat.{ℕ, zero, suc, ◌+◌, ◌-◌, ◌*◌, ◌%◌, ◌^◌, ◌≤◌, ◌<◌}
use Rattle.std.specs.Prelude.{◌≡◌, false, not, get_or, eqb, ltb, Some, None}
use Rattle.std.proofs.Math.Path.{refl, sym, ap, fun_ext}
use Rattle.std.proofs.Common.{◌∙◌, zero-add, pow_pos, ltb-true, ltb-false, ne_eqb, lt-ltb, le-ltb}
use Rattle.std.proofs.Math.Bool.{Bool}
use mathlib.Core.List.{List}
use native.Mathlib.Omega.{arith}
use Rattle.std.proofs.Math.ListN.{length, set, length-set}
use Rattle.std.proofs.Math.Seq.{get_or-set_same, get_or-set_other}
use Rattle.std.specs.Int.Count.{count_trailing_zeros}
use Rattle.laws.specs.Tests.{pick, Seen, Seen.is_true, Seen.is_false, look, Same, Same.same, Same.other, same?, pick_all}
use Rattle.laws.specs.Tables.{upd, upd_same, upd_other, upd-self, upd-twice}
use Rattle.laws.specs.Sums.{sum_to, sum-ext}
use Rattle.laws.specs.Search.{first}
use Rattle.model.specs.Numbers.{peers, nodes}
use Rattle.model.specs.Lists.{any_below}
use Rattle.model.specs.State.{Handle, handle_of, held, count, id_or, has_id, State, total, held_by_any}
use Rattle.model.specs.State.Handle.{none, some}
use Rattle.model.specs.Changes.{given_after}
use Rattle.model.specs.Replies.{holders_of}
use Rattle.laws.specs.Bits.{bit, bits, bits-ext, bits-first}
use Rattle.laws.specs.Guards.{upto, upto-at, upto-ext, upto-upd}
use Rattle.tables.specs.Peers.{modulus}
use Rattle.tables.specs.Handles.{handle_row, list_block, length_block, handles_size, id_at, count_at, list_length, listed_id, word_at, spot, total_below, total_at, held_at, holders_below, holders_at, put_handle, clear_below, clear_peer, enlisted, shifted, taken_out, unlisted, raised, reduced}

abbrev pub handle_in : List ℕ → ℕ → ℕ → Handle
handle_in h p s = handle_of (id_at h p s) (count_at h p s)

-- A peer's handles; past the last slot there are none.
unfoldable pub handles_of : List ℕ → ℕ → ℕ → Handle
handles_of h p = upto nodes none (handle_in h p)

-- The accessor: past the last peer there are none.
unfoldable pub handle_v : List ℕ → ℕ → ℕ → Handle
handle_v h = upto peers (λ s. none) (handles_of h)

handles-of : (h : List ℕ) (p : ℕ) → p < peers → handle_v h p ≡ handles_of h p
unfolding handle_v
handles-of h p l = upto-at peers (λ s. none) (handles_of h) p l

-- One store: no other handle's two numbers are these two.
pub odd : (a b : ℕ) → 2 * a + 1 ≡ 2 * b → ⊥
odd a b e = omega arith

pub place : (p s q t : ℕ) → s < nodes → t < nodes → p * nodes + s ≡ q * nodes + t → (p ≡ q) × (s ≡ t)
place p s q t a b e = let x : p ≡ q = omega arith in (x, omega arith)

module _ (h : List ℕ) (size : length h ≡ handles_size) (p s i c : ℕ) (lp : p < peers) (ls : s < nodes) (lc : c < modulus) where
  put-here : handle_in (put_handle h p s i c) p s ≡ handle_of i c
  unfolding put_handle
  put-here =
      let old = set h (handle_row p s) i in
      let m : c % modulus ≡ c = omega arith in
      rw (
        get_or-set_other old (handle_row p s + 1) (handle_row p s) c 0 (λ x. absurd (omega arith)),
        get_or-set_same h (handle_row p s) i 0 (omega arith),
        get_or-set_same old (handle_row p s + 1) c 0 (omega (arith, length-set h (handle_row p s) i)),
        m,
      )

  pub put-else : (a : ℕ) → (handle_row p s ≡ a → ⊥) → (handle_row p s + 1 ≡ a → ⊥) → get_or (put_handle h p s i c) a 0 ≡ get_or h a 0
  unfolding put_handle
  put-else a e f =
      get_or-set_other (set h (handle_row p s) i) (handle_row p s + 1) a c 0 (λ x. f (sym x)) ∙ get_or-set_other h (handle_row p s) a i 0 (λ x. e (sym x))

  put-there : (q t : ℕ) → t < nodes → (p ≡ q → s ≡ t → ⊥) → handle_in (put_handle h p s i c) q t ≡ handle_in h q t
  put-there q t lt ne =
      rw (
        put-else (handle_row q t) (λ x. let y = place p s q t ls lt (omega arith) in ne y.0 y.1) (λ x. odd (p * nodes + s) (q * nodes + t) (omega arith)),
        put-else (handle_row q t + 1) (λ x. odd (q * nodes + t) (p * nodes + s) (omega arith)) (λ x. let y = place p s q t ls lt (omega arith) in ne y.0 y.1),
      )

  put-own : handles_of (put_handle h p s i c) p ≡ upd (handles_of h p) s (handle_of i c)
  unfolding handles_of
  put-own =
      upto-ext nodes none (handle_in (put_handle h p s i c) p) (upd (handle_in h p) s (handle_of i c)) (λ t lt. go t lt (same? s t))
      ∙ upto-upd nodes none (handle_in h p) s (handle_of i c) ls
    where
      go : (t : ℕ) → t < nodes → Same s t → handle_in (put_handle h p s i c) p t ≡ upd (handle_in h p) s (handle_of i c) t
      go t lt (same e) = rw (← e, upd_same) put-here
      go t lt (other e) = rw (upd_other (handle_in h p) s t (handle_of i c) e) (put-there p t lt (λ _ y. e y))

  put-peer : (q : ℕ) → (p ≡ q → ⊥) → handles_of (put_handle h p s i c) q ≡ handles_of h q
  unfolding handles_of
  put-peer q e = upto-ext nodes none (handle_in (put_handle h p s i c) q) (handle_in h q) (λ t lt. put-there q t lt (λ y _. e y))

  pub handle-put : handle_v (put_handle h p s i c) ≡ upd (handle_v h) p (upd (handle_v h p) s (handle_of i c))
  unfolding handle_v
  handle-put =
      ap (upto peers (λ s. none)) (fun_ext (λ q. go q (same? p q)))
      ∙ upto-upd peers (λ s. none) (handles_of h) p (upd (handles_of h p) s (handle_of i c)) lp
      ∙ ap (λ (f : ℕ → Handle). upd (handle_v h) p (upd f s (handle_of i c))) (sym (handles-of h p lp))
    where
      go : (q : ℕ) → Same p q → handles_of (put_handle h p s i c) q ≡ upd (handles_of h) p (upd (handles_of h p) s (handle_of i c)) q
      go q (same e) = rw (← e, upd_same) put-own
      go q (other e) = rw (upd_other (handles_of h) p q (upd (handles_of h p) s (handle_of i c)) e) (put-peer q e)

-- A record behind the handles.
module _ (h : List ℕ) (b k i c : ℕ) (far : peers ≤ b) where
  far-else : (a : ℕ) → a < 2048 → get_or (put_handle h b k i c) a 0 ≡ get_or h a 0
  unfolding put_handle
  far-else a l =
      get_or-set_other (set h (handle_row b k) i) (handle_row b k + 1) a c 0 (λ x. absurd (omega arith)) ∙ get_or-set_other h (handle_row b k) a i 0 (λ x. absurd (omega arith))

  far-own : (p : ℕ) → p < peers → handles_of (put_handle h b k i c) p ≡ handles_of h p
  unfolding handles_of
  far-own p lp =
      upto-ext nodes none (handle_in (put_handle h b k i c) p) (handle_in h p) (λ t lt. rw (far-else (handle_row p t) (omega arith), far-else (handle_row p t + 1) (omega arith)))

  pub handle-far : handle_v (put_handle h b k i c) ≡ handle_v h
  unfolding handle_v
  handle-far = upto-ext peers (λ s. none) (handles_of (put_handle h b k i c)) (handles_of h) far-own

-- What is read.
pub of-has : (a c i : ℕ) → has_id i (handle_of a c) ≡ pick (eqb c 0) false (eqb a i)
of-has a zero i = refl
of-has a (suc c) i = rw (ne_eqb (suc c) 0 (λ x. absurd (omega arith)))

of-count : (a c : ℕ) → count (handle_of a c) ≡ c
of-count a zero = refl
of-count a (suc c) = refl

of-held : (a c : ℕ) → held (handle_of a c) ≡ not (eqb c 0)
of-held a zero = refl
of-held a (suc c) = rw (ne_eqb (suc c) 0 (λ x. absurd (omega arith)))

of-id : (a c d : ℕ) → id_or d (handle_of a c) ≡ pick (eqb c 0) d a
of-id a zero d = refl
of-id a (suc c) d = rw (ne_eqb (suc c) 0 (λ x. absurd (omega arith)))

of-given : (a c n : ℕ) → given_after (handle_of a c) n ≡ pick (eqb c 0) (suc n) n
of-given a zero n = refl
of-given a (suc c) n = rw (ne_eqb (suc c) 0 (λ x. absurd (omega arith)))

pub of_some : (a c : ℕ) → (c ≡ 0 → ⊥) → handle_of a c ≡ some a c
of_some a zero n = absurd (n refl)
of_some a (suc c) n = refl

module _ (h : List ℕ) (p s : ℕ) (lp : p < peers) (ls : s < nodes) where
  pub handle-is : handle_v h p s ≡ handle_of (id_at h p s) (count_at h p s)
  unfolding handles_of
  handle-is = rw (handles-of h p lp) (upto-at nodes none (handle_in h p) s ls)

  pub count-is : count_at h p s ≡ count (handle_v h p s)
  count-is = rw handle-is (sym (of-count (id_at h p s) (count_at h p s)))

  pub held-is : held (handle_v h p s) ≡ held_at h p s
  held-is = rw handle-is (of-held (id_at h p s) (count_at h p s))

  pub id-is : (d : ℕ) → id_or d (handle_v h p s) ≡ pick (eqb (count_at h p s) 0) d (id_at h p s)
  id-is d = rw handle-is (of-id (id_at h p s) (count_at h p s) d)

  -- how many IDs were given once the peer has a handle to this node too
  pub given-after : (n : ℕ) → given_after (handle_v h p s) n ≡ pick (eqb (count_at h p s) 0) (suc n) n
  given-after n = rw handle-is (of-given (id_at h p s) (count_at h p s) n)

pub count_small : (h : List ℕ) (p s : ℕ) → count_at h p s < modulus
count_small h p s = omega arith

-- What a search finds, and what it says where it finds nothing.
pub not-nothing : {s : ℕ} → None ≡ Some s → ⊥
not-nothing {s} e = let z : ◌≡◌ {A = ℕ} 0 1 = cc in absurd (omega arith)

pub not_at : {s : ℕ} → Some s ≡ None → ⊥
not_at {s} e = not-nothing (sym e)

any-bits : (t : ℕ → Bool) (n : ℕ) → any_below t n ≡ not (eqb (bits t n) 0)
unfolding bits sum_to
any-bits t zero = refl
any-bits t (suc n) = go (look (t n)) (any-bits t n)
  where
    go : Seen (t n) → any_below t n ≡ not (eqb (bits t n) 0) → any_below t (suc n) ≡ not (eqb (bits t (suc n)) 0)
    go (is_true e) ih = rw (e, ne_eqb (2 ^ n + sum_to (bit t) n) 0 (λ x. absurd (omega (arith, pow_pos n))))
    go (is_false e) ih = rw (e, zero-add) ih

-- Sums over the peers are the model's.
module _ (h : List ℕ) (s : ℕ) (ls : s < nodes) where
  pub total-is : total_at h s ≡ total (handle_v h) s
  unfolding total_at total_below total
  total-is = sum-ext (λ q. count_at h q s) (λ q. count (handle_v h q s)) peers (λ q lq. count-is h q s lq ls)

  pub holders-are : holders_at h s ≡ bits (λ q. held (handle_v h q s)) peers
  unfolding holders_at holders_below
  holders-are = bits-ext (λ q. held_at h q s) (λ q. held (handle_v h q s)) peers (λ q lq. sym (held-is h q s lq ls))

  pub holders-is : (b : State) → b.handle ≡ handle_v h → holders_at h s ≡ holders_of b s
  unfolding holders_of bits
  holders-is b e = holders-are ∙ rw e

  -- the lowest bit is that of the first holder; there is none where nobody holds
  pub holders-first : count_trailing_zeros 8 (holders_at h s) ≡ first (λ q. held (handle_v h q s)) peers
  holders-first = rw holders-are (bits-first (λ q. held (handle_v h q s)) peers)

  pub holders-any : held_by_any (handle_v h) s ≡ not (eqb (holders_at h s) 0)
  unfolding held_by_any
  holders-any = rw holders-are (any-bits (λ q. held (handle_v h q s)) peers)

-- All handles of a peer gone.
pub put-length : (h : List ℕ) (p s i c : ℕ) → length (put_handle h p s i c) ≡ length h
unfolding put_handle
put-length h p s i c = simp length-set

pub clear-below-length : (h : List ℕ) (p n : ℕ) → length (clear_below h p n) ≡ length h
unfolding clear_below
clear-below-length h p zero = refl
clear-below-length h p (suc n) = put-length (clear_below h p n) p n 0 0 ∙ clear-below-length h p n

pub clear-length : (h : List ℕ) (p : ℕ) → length (clear_peer h p) ≡ length h
unfolding clear_peer
clear-length h p = put-length (clear_below h p nodes) length_block p 0 0 ∙ clear-below-length h p nodes

past : (h : List ℕ) (p t : ℕ) → ltb t nodes ≡ false → handles_of h p t ≡ none
unfolding handles_of upto
past h p t e = rw e

-- f, with nothing below n
abbrev above : ℕ → (ℕ → Handle) → ℕ → Handle
above n f t = pick (ltb t n) none (f t)

above_more : (n : ℕ) (f : ℕ → Handle) → upd (above n f) n none ≡ above (suc n) f
above_more n f = fun_ext (λ t. go t (same? n t))
  where
    go : (t : ℕ) → Same n t → upd (above n f) n none t ≡ above (suc n) f t
    go t (same e) = rw (← e, upd_same, lt-ltb n (suc n) (omega arith))
    go t (other e) = rw (upd_other (above n f) n t none e) (again (look (ltb t n)))
      where
        again : Seen (ltb t n) → above n f t ≡ above (suc n) f t
        again (is_true x) = let y : t < n = ltb-true t n x in rw (x, lt-ltb t (suc n) (omega arith))
        again (is_false x) = let y : n ≤ t = ltb-false t n x in rw (x, le-ltb t (suc n) (omega arith))

module _ (h : List ℕ) (size : length h ≡ handles_size) (p : ℕ) (lp : p < peers) where
  clear-below : (n : ℕ) → n ≤ nodes → handle_v (clear_below h p n) ≡ upd (handle_v h) p (above n (handle_v h p))
  unfolding clear_below
  clear-below zero l = sym (upd-self (handle_v h) p (above 0 (handle_v h p)) (fun_ext (λ t. rw (le-ltb t 0 (omega arith)))))
  clear-below (suc n) l =
      let e : handle_v (clear_below h p n) ≡ upd (handle_v h) p (above n (handle_v h p)) = clear-below n (omega arith) in
      let z : length (clear_below h p n) ≡ handles_size = clear-below-length h p n ∙ size in
      handle-put (clear_below h p n) z p n 0 0 lp (omega arith) (omega arith)
      ∙ rw (e, upd_same, upd-twice, above_more n (handle_v h p))

  pub handle-clear : handle_v (clear_peer h p) ≡ upd (handle_v h) p (λ s. none)
  unfolding clear_peer
  handle-clear = handle-far (clear_below h p nodes) length_block p 0 0 (omega arith) ∙ clear-below nodes (omega arith) ∙ ap (upd (handle_v h) p) (fun_ext (λ t. go t (look (ltb t nodes))))
    where
      go : (t : ℕ) → Seen (ltb t nodes) → above nodes (handle_v h p) t ≡ none
      go t (is_true e) = rw e
      go t (is_false e) = rw (e, handles-of h p lp) (past h p t e)

-- A list changed: the handles are as they were.
pub enlist-handles : (h : List ℕ) (p i s : ℕ) → handle_v (enlisted h p i s) ≡ handle_v h
unfolding enlisted
enlist-handles h p i s = handle-far (put_handle h (list_block p) (list_length h p) i s) length_block p (list_length h p + 1) i (omega arith) ∙ handle-far h (list_block p) (list_length h p) i s (omega arith)

pub enlist-length : (h : List ℕ) (p i s : ℕ) → length (enlisted h p i s) ≡ length h
unfolding enlisted
enlist-length h p i s = put-length (put_handle h (list_block p) (list_length h p) i s) length_block p (list_length h p + 1) i ∙ put-length h (list_block p) (list_length h p) i s

pub shift-handles : (h : List ℕ) (p k m : ℕ) → handle_v (shifted h p k m) ≡ handle_v h
unfolding shifted
shift-handles h p k zero = refl
shift-handles h p k (suc m) =
    handle-far (shifted h p k m) (list_block p) (k + m) (id_at (shifted h p k m) (list_block p) (k + m + 1)) (word_at (shifted h p k m) (list_block p) (k + m + 1)) (omega arith) ∙ shift-handles h p k m

pub shift-length : (h : List ℕ) (p k m : ℕ) → length (shifted h p k m) ≡ length h
unfolding shifted
shift-length h p k zero = refl
shift-length h p k (suc m) =
    put-length (shifted h p k m) (list_block p) (k + m) (id_at (shifted h p k m) (list_block p) (k + m + 1)) (word_at (shifted h p k m) (list_block p) (k + m + 1)) ∙ shift-length h p k m

module _ (h : List ℕ) (p i : ℕ) where
  unlist-cases : (P : List ℕ → Type 0) → P h → ((k n : ℕ) → P (taken_out h p k n)) → P (unlisted h p i)
  unfolding unlisted
  unlist-cases P kept out =
      let n = list_length h p in
      let k = spot h p i n in
      pick_all P (eqb (i % 4) 0) h (pick (ltb k n) (pick (eqb (listed_id h p k) i) (taken_out h p k n) h) h) kept
      (pick_all P (ltb k n) (pick (eqb (listed_id h p k) i) (taken_out h p k n) h) h (pick_all P (eqb (listed_id h p k) i) (taken_out h p k n) h (out k n) kept) kept)

  pub unlist-handles : handle_v (unlisted h p i) ≡ handle_v h
  unfolding taken_out
  unlist-handles =
      unlist-cases (λ x. handle_v x ≡ handle_v h) refl (λ k n. handle-far (shifted h p k (n - 1 - k)) length_block p (n - 1) (listed_id (shifted h p k (n - 1 - k)) p (n - 1 - 1)) (omega arith) ∙ shift-handles h p k (n - 1 - k))

  pub unlist-length : length (unlisted h p i) ≡ length h
  unfolding taken_out
  unlist-length = unlist-cases (λ x. length x ≡ length h) refl (λ k n. put-length (shifted h p k (n - 1 - k)) length_block p (n - 1) (listed_id (shifted h p k (n - 1 - k)) p (n - 1 - 1)) ∙ shift-length h p k (n - 1 - k))

-- One reference more, and one less, seen.
module _ (h : List ℕ) (size : length h ≡ handles_size) (p s : ℕ) (lp : p < peers) (ls : s < nodes) where
  pub handle-raised : (i : ℕ) → count_at h p s + 1 < modulus → handle_v (raised h p s i) ≡ upd (handle_v h) p (upd (handle_v h p) s (handle_of i (count_at h p s + 1)))
  unfolding raised
  handle-raised i lc =
      let g = put_handle h p s i (count_at h p s + 1) in
      pick_all (λ (x : List ℕ). handle_v x ≡ handle_v g) (eqb (count_at h p s) 0) (enlisted g p i s) g (enlist-handles g p i s) refl
      ∙ handle-put h size p s i (count_at h p s + 1) lp ls lc

  pub handle-reduced : handle_v (reduced h p s) ≡ upd (handle_v h) p (upd (handle_v h p) s (handle_of (id_at h p s) (count_at h p s - 1)))
  unfolding reduced
  handle-reduced =
      let g = put_handle h p s (id_at h p s) (count_at h p s - 1) in
      pick_all (λ (x : List ℕ). handle_v x ≡ handle_v g) (eqb (count_at h p s - 1) 0) (unlisted g p (id_at h p s)) g (unlist-handles g p (id_at h p s)) refl
      ∙ handle-put h size p s (id_at h p s) (count_at h p s - 1) lp ls (omega (arith, count_small h p s))

pub raised-length : (h : List ℕ) (p s i : ℕ) → length (raised h p s i) ≡ length h
unfolding raised
raised-length h p s i =
    let g = put_handle h p s i (count_at h p s + 1) in
    pick_all (λ (x : List ℕ). length x ≡ length g) (eqb (count_at h p s) 0) (enlisted g p i s) g (enlist-length g p i s) refl ∙ put-length h p s i (count_at h p s + 1)

pub reduced-length : (h : List ℕ) (p s : ℕ) → length (reduced h p s) ≡ length h
unfolding reduced
reduced-length h p s =
    let g = put_handle h p s (id_at h p s) (count_at h p s - 1) in
    pick_all (λ (x : List ℕ). length x ≡ length g) (eqb (count_at h p s - 1) 0) (unlisted g p (id_at h p s)) g (unlist-length g p (id_at h p s)) refl
    ∙ put-length h p s (id_at h p s) (count_at h p s - 1)
