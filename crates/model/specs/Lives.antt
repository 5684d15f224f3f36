-- Which nodes live, by frames, numbers and answers: a node that an accepted create entered lives until an accepted destroy names it or the peer that created it disconnects, and never
-- again. "destroy node: ID"; "Disconnect: .. destroy live nodes".
-- Assumes nothing.
use Rattle.std.specs.Prelude.{ℕ, ◌<◌, ◌≡◌, Bool, not, eqb}
use Rattle.std.proofs.Math.Path.{refl}
use Rattle.std.proofs.Math.Bool.{true, false}
use mathlib.Core.List.{List, [], ◌∷◌, ◌++◌}
use Rattle.laws.specs.Tables.{upd_same}
use Rattle.ids.specs.declared.HandleId.{HandleId}
use Rattle.ids.specs.declared.Peer.{Peer}
use Rattle.frames.specs.declared.Command.TheVariants.{Create}
use Rattle.frames.specs.Frame.{opcode, id_at}
use Rattle.model.specs.Lists.{both, either}
use Rattle.model.specs.Step.{Call}
use Rattle.model.specs.Book.{Noted, Noted.blank, Noted.noted, Book, Fed, acting_peer}
use Rattle.model.specs.Claim.{book_after}
use Rattle.model.specs.Standing.{did}
use Rattle.model.specs.Ledger.{Ledger, ledger_create, ledger_counted, enter, with_book, ledger_after}
use Rattle.model.specs.Rows.{book_of, ledger_of}
use Rattle.model.specs.Happened.{Happened}

abbrev pub names_number : ℕ → Noted → Bool
names_number n blank = false
names_number n (noted x c) = eqb x.number n

-- After the history xs, x ends the node n that p created: it came back with 0 and is a disconnect of p, or a destroy whose ID named n.
abbrev pub ends : List Fed → Fed → ℕ → ℕ → Bool
ends xs x p n =
    either (did 2 p x)
    (both (eqb x.number 0) (both (eqb (opcode x.frame) 4) (names_number n ((book_of xs).handle (acting_peer x.frame) (id_at x.frame 2).0))))

-- One of ys, which followed xs, did.
abbrev pub ended_in : List Fed → List Fed → ℕ → ℕ → Bool
ended_in xs [] p n = false
ended_in xs (x ∷ ys) p n = either (ends xs x p n) (ended_in (xs ++ (x ∷ [])) ys p n)

-- Of the node that the accepted create x entered: the book's next number.
abbrev pub LivesByFrames : Type 0
LivesByFrames =
    (xs ys : List Fed) (x : Fed) → Happened (xs ++ (x ∷ ys)) → x.number ≡ 0 → opcode x.frame ≡ 3 →
    (ledger_of (xs ++ (x ∷ ys))).lives (book_of xs).entered ≡ not (ended_in (xs ++ (x ∷ [])) ys (acting_peer x.frame) (book_of xs).entered)

-- Tests.
pub both_yes : (t : Bool) → t ≡ both t true
both_yes true = refl
both_yes false = refl

pub both-not : (s t u : Bool) → both (both s (not t)) (not u) ≡ both s (not (either t u))
both-not true true u = refl
both-not true false u = refl
both-not false t u = refl

-- The book goes on beside it; and the node that a create enters.
pub beside-book : (l : Ledger) (k : Book) (n : ℕ) → ((with_book l k).maker n ≡ l.maker n) × ((with_book l k).lives n ≡ l.lives n)
unfolding with_book
beside-book l k n = (refl, refl)

pub create-lives : (l : Ledger) (f : List ℕ) (p : Peer) (i : HandleId) (n : ℕ) → l.book.entered ≡ n → ((enter l f (Create p i)).maker n ≡ p.0) × ((enter l f (Create p i)).lives n ≡ true)
unfolding enter ledger_create ledger_counted
create-lives l f p i n e = rw (e, upd_same, upd_same) (refl, refl)

-- A node that p created, after the calls cs.
pub record Made (cs : List Call) (p n : ℕ) : Type 0 where
  pub entered : n < (book_after cs).entered
  pub maker : (ledger_after cs).maker n ≡ p
