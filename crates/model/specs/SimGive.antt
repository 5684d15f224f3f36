-- A handle that is given, by a transfer or a receive, alike on the bus and in the book.
-- Assumes nothing.
use Rattle.model.specs.Lists.{both, either}
use Rattle.std.specs.Prelude.{ℕ, zero, suc, ◌+◌, ◌*◌, ◌≤◌, ◌<◌, ◌≡◌, refl, true, Bool, length, eqb}
use Rattle.std.proofs.Common.{sym, ◌∙◌, arith}
use mathlib.Core.List.{List, [], ◌∷◌, map}
use borrow.Author.Tests.{ne_eqb}
use Rattle.laws.specs.Tests.{pick, Seen, Seen.is_true, Seen.is_false, look, Same, Same.same, Same.other, same?, clash}
use Rattle.laws.specs.Tables.{upd, upd_same, upd_other, upd-rel, upd-all}
use Rattle.model.specs.Numbers.{nodes, owner, invalid, next_id}
use Rattle.model.specs.State.{is_live, Handle, Handle.none, Handle.some, handle_of, count, id_or, messages_in, State, Life, Life.live, Life.dead, lived_at}
use Rattle.model.specs.Tables.{with_given, with_handles, with_queues}
use Rattle.model.specs.Changes.{not_released, withdraw, shown, given_after, give, give_all, valid}
use Rattle.model.specs.Book.{Noted, Noted.blank, Noted.noted, count_of, Book, put_handle, raise}
use Rattle.model.specs.Sim.{called, told, Handles, Sim}
use Rattle.model.specs.SimHandles.{some-none, handles-set, one-slot}
use Rattle.model.specs.SimQueues.{messages-kept}

-- The IDs of a peer that has been given n: one of the form 4j + 3 is among them; and every ID has 8 bytes.
abbrev pub IdsAt : (ℕ → Handle) → ℕ → Type 0
IdsAt h n = (s i c : ℕ) → h s ≡ some i c → ((j : ℕ) → i ≡ 4 * j + 3 → j ≤ n) × (i < 18446744073709551615)

-- So few have been given that the next, and some more, have 8 bytes and are not the invalid ID.
abbrev pub enough : ℕ
enough = 4611686018427387000

abbrev pub Ids : State → Type 0
Ids b = (p : ℕ) → IdsAt (b.handle p) (b.given p)

pub ids_set : (h : ℕ → Handle) (n m s i c : ℕ) → IdsAt h n → n ≤ m → ((j : ℕ) → i ≡ 4 * j + 3 → j ≤ m) → i < 18446744073709551615 → IdsAt (upd h s (handle_of i c)) m
ids_set h n m s i c ok l new small t i' d = go (same? s t) c
  where
    go : Same s t → (c : ℕ) → upd h s (handle_of i c) t ≡ some i' d → ((j : ℕ) → i' ≡ 4 * j + 3 → j ≤ m) × (i' < 18446744073709551615)
    go (same e) zero f = some-none (sym (rw (← e, upd_same) at f))
    go (same e) (suc c) f =
        let x : some i (suc c) ≡ some i' d = rw (← e, upd_same) at f in
        let y : i ≡ i' = cc x in
        ((λ j g. new j (y ∙ g)), rw y at small)
    go (other e) c f =
        let r = ok t i' d (rw (upd_other h s t (handle_of i c) e) at f) in
        ((λ j g. omega (arith, r.0 j g)), r.1)

-- What is shown of a handle x to a peer that has been given n.
module _ {N : ℕ} (name : ℕ → ℕ) (b : State) (k : Book) (p as_of s : ℕ) (r : Sim N name b k) (ok : Ids b) (l : s < nodes) (low : b.given p < enough) where
  record Known (x : Handle) : Type 0 where
    valid : id_or (next_id (b.given p)) x ≡ invalid → ⊥
    counts : count_of (k.handle p (id_or (next_id (b.given p)) x)) ≡ count x
    one-id : (j d : ℕ) → x ≡ some j d → j ≡ id_or (next_id (b.given p)) x
    one_place : (t d : ℕ) → b.handle p t ≡ some (id_or (next_id (b.given p)) x) d → t ≡ s

  unheld : (y : Noted) → k.handle p (next_id (b.given p)) ≡ y → count_of y ≡ 0
  unheld blank e = refl
  unheld (noted n c) e =
      let x = (r.handles p).held_at _ n c e in
      absurd (omega (arith, (ok p x.0 _ c x.2).0 (b.given p + 1) refl))

  known_of : (x : Handle) → b.handle p s ≡ x → Known x
  known_of none e =
      record {
        valid = λ z. omega arith;
        counts = unheld _ refl;
        one-id = λ j d f. some-none (sym f);
        one_place = λ t d f. absurd (omega (arith, (ok p t _ d f).0 (b.given p + 1) refl));
      }
  known_of (some i c) e =
      record {
        valid = λ z. omega (arith, (ok p s i c e).1);
        counts = rw ((r.handles p).noted-at s i c e);
        one-id = λ j d f. cc;
        one_place = λ t d f. one-slot name r.apart (b.handle p) (k.handle p) (r.handles p) s t i c d e f;
      }

  pub sim-give : Sim N name (give b p as_of s) (pick (eqb (shown b p as_of s) invalid) k (raise k p (shown b p as_of s) (called name s)))
  unfolding give shown withdraw with_given with_handles with_queues put_handle
  sim-give = go (look (valid b p as_of s)) (known_of (b.handle p s) refl)
    where
      go : Seen (valid b p as_of s) → Known (b.handle p s) → Sim N name (give b p as_of s) (pick (eqb (shown b p as_of s) invalid) k (raise k p (shown b p as_of s) (called name s)))
      go (is_false f) w = rw f r
      go (is_true f) w =
          rw (f, ne_eqb (id_or (next_id (b.given p)) (b.handle p s)) invalid w.valid)
          (record {
            apart = r.apart;
            known = r.known;
            seeds = r.seeds;
            users = r.users;
            sums = r.sums;
            queues =
                upd-all (λ q x. k.queue q ≡ map (told name) (messages_in x)) b.queue (owner s) _ r.queues
                (rw (messages-kept (not_released (eqb s)) (λ n m. refl) (b.queue (owner s))) (r.queues (owner s)));
            handles =
                upd-rel (λ _ h g. Handles name h g) b.handle k.handle p _ _ r.handles
                (rw w.counts
                (handles-set name (b.handle p) (k.handle p) s (id_or (next_id (b.given p)) (b.handle p s)) (suc (count (b.handle p s))) (r.handles p) l w.one-id
                w.one_place));
          })

  -- Where the node lives, the ID shown is not the invalid one.
  pub shown-valid : valid b p as_of s ≡ true → shown b p as_of s ≡ invalid → ⊥
  unfolding shown
  shown-valid f e = (known_of (b.handle p s) refl).valid (rw f at e)

-- A live node is shown, as of any number.
live-shown : (n : ℕ) (x : Life) (c : Bool) → is_live x ≡ true → both (lived_at n x) (either (is_live x) c) ≡ true
live-shown n live c e = refl
live-shown n (dead k) c e = clash (sym e)

pub live-valid : (b : State) (p n s : ℕ) → is_live (b.life s) ≡ true → valid b p n s ≡ true
unfolding valid
live-valid b p n s e = live-shown n (b.life s) _ e

-- What is shown has 8 bytes.
pub shown-small : (b : State) (p as_of s : ℕ) → Ids b → b.given p < enough → shown b p as_of s < 18446744073709551616
unfolding shown
shown-small b p as_of s ok low = go (look (valid b p as_of s)) (b.handle p s) refl
  where
    go : Seen (valid b p as_of s) → (x : Handle) → b.handle p s ≡ x → pick (valid b p as_of s) (id_or (next_id (b.given p)) (b.handle p s)) invalid < 18446744073709551616
    go (is_false f) x e = rw f (omega arith)
    go (is_true f) none e = rw (f, e) (omega arith)
    go (is_true f) (some i c) e = rw (f, e) (omega (arith, (ok p s i c e).1))

pub given-le : (x : Handle) (n : ℕ) → (n ≤ given_after x n) × (given_after x n ≤ n + 1)
given-le none n = (omega arith, omega arith)
given-le (some i c) n = (omega arith, omega arith)

pub id-given : (h : ℕ → Handle) (n s : ℕ) → IdsAt h n → n < enough → ((j : ℕ) → id_or (next_id n) (h s) ≡ 4 * j + 3 → j ≤ given_after (h s) n) × (id_or (next_id n) (h s) < 18446744073709551615)
id-given h n s ok low = go (h s) refl
  where
    go : (x : Handle) → h s ≡ x → ((j : ℕ) → id_or (next_id n) x ≡ 4 * j + 3 → j ≤ given_after x n) × (id_or (next_id n) x < 18446744073709551615)
    go none e = ((λ j f. omega arith), omega arith)
    go (some i c) e = ok s i c e

pub given-give : (b : State) (p as_of s q : ℕ) → (give b p as_of s).given q ≤ b.given q + 1
unfolding give shown withdraw with_given with_handles with_queues
given-give b p as_of s q = go (look (valid b p as_of s))
  where
    go : Seen (valid b p as_of s) → (give b p as_of s).given q ≤ b.given q + 1
    go (is_false e) = rw e (omega arith)
    go (is_true e) = rw e (upd-all (λ q n. n ≤ b.given q + 1) b.given p _ (λ q. omega arith) (given-le (b.handle p s) (b.given p)).1 q)

pub given-gives : (b : State) (p as_of : ℕ) (ss : List ℕ) (q : ℕ) → (give_all b p as_of ss).given q ≤ b.given q + length ss
given-gives b p as_of [] q = omega arith
given-gives b p as_of (s ∷ ss) q = omega (arith, given-gives (give b p as_of s) p as_of ss q, given-give b p as_of s q)
