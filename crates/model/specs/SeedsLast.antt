-- The seed that the ledger of a history has is the last one that was set and not dropped.
-- Assumes nothing.
use Rattle.std.specs.Prelude.{ℕ, ◌≡◌, refl, Bool, true, false, not, List, get_or, eqb}
use Rattle.std.proofs.Common.{sym, ap, arith, eq-eqb, ne_eqb}
use Rattle.laws.specs.Tests.{pick, Seen, Seen.is_true, Seen.is_false, look, clash, Same, Same.same, Same.other, same?}
use Rattle.laws.specs.Tables.{upd, upd_same, upd_other}
use Rattle.ids.specs.Refusals.{EOVERFLOW, EBADF, ESHUTDOWN, EAGAIN, ERANGE}
use Rattle.ids.specs.declared.Peer.{Peer}
use Rattle.frames.specs.declared.Sizes.{Sizes}
use Rattle.frames.specs.declared.Command.{Command}
use Rattle.frames.specs.declared.Command.TheVariants.{Open, Disconnect, Create, Destroy, Release, Transfer, Send, Receive, Quota, Holders, ShowSeed}
use Rattle.frames.specs.Frame.{opcode, payload_of}
use Rattle.frames.specs.Legal.{Legal}
use Rattle.model.specs.Lists.{both, either}
use Rattle.model.specs.Requests.{attached}
use Rattle.model.specs.Book.{Node, Book, nodes_of, Fed, acting_peer, sizes_of}
use Rattle.model.specs.Coded.{code, actor}
use Rattle.model.specs.Standing.{did}
use Rattle.model.specs.Ledger.{LedgerSeed, LedgerSeed.unset, LedgerSeed.kept, Ledger, with_book}
use Rattle.model.specs.LedgerSeeds.{seeds_after}
use Rattle.model.specs.Rows.{book_of, ledger_of, is_unset, seed_over_room}
use Rattle.model.specs.Exchanges.{book-in-ledger}
use Rattle.model.specs.LedgerLaws.{attached_nodes}
use Rattle.model.specs.LedgerLawsProof.{same-sizes}
use Rattle.model.specs.Seeds.{sets_seed}

-- One exchange more. By its command:
abbrev pub seed_where : List Fed → Fed → ℕ → Bool → Bool → LedgerSeed
seed_where xs x p sets drops = pick sets (kept (payload_of x.frame) (attached_nodes (book_of xs) p x.frame)) (pick drops unset ((ledger_of xs).seed p))

abbrev pub seed_by : List Fed → Fed → ℕ → LedgerSeed
seed_by xs x p = seed_where xs x p (sets_seed p x) (did 2 p x)

module _ (xs : List Fed) (x : Fed) (p : ℕ) (zero : x.number ≡ 0) where
  abbrev l : Ledger
  l = ledger_of xs

  abbrev f : List ℕ
  f = x.frame

  send-seed : (q : Peer) (z : Sizes) → z ≡ sizes_of f → opcode f ≡ 7 → acting_peer f ≡ q.0 → seeds_after l f (Send q z) p ≡ seed_by xs x p
  send-seed q z e byte acts = rw (e, zero, byte, acts) (go (look (eqb (get_or f 2 0) 0)) (same? q.0 p))
    where
      go : Seen (eqb (get_or f 2 0) 0) → Same q.0 p →
          pick (eqb (get_or f 2 0) 0) (upd l.seed q.0 (kept (payload_of f) (nodes_of l.book q.0 (attached f (sizes_of f))))) l.seed p
          ≡ pick (both (eqb (get_or f 2 0) 0) (eqb q.0 p)) (kept (payload_of f) (attached_nodes (book_of xs) p f)) (l.seed p)
      go (is_false t) s = rw t refl
      go (is_true t) (same s) =
          rw (t, s, upd_same, eq-eqb p p refl) (ap (λ (k : Book). kept (payload_of f) (attached_nodes k p f)) (book-in-ledger xs))
      go (is_true t) (other s) = rw (t, upd_other l.seed q.0 p _ s, ne_eqb q.0 p s) refl

  disconnect-seed : (q : Peer) → opcode f ≡ 2 → acting_peer f ≡ q.0 → upd l.seed q.0 unset p ≡ seed_by xs x p
  disconnect-seed q byte acts = rw (zero, byte, acts) (go (same? q.0 p))
    where
      go : Same q.0 p → upd l.seed q.0 unset p ≡ pick (eqb q.0 p) unset (l.seed p)
      go (same s) = rw (s, upd_same, eq-eqb p p refl) refl
      go (other s) = rw (upd_other l.seed q.0 p unset s, ne_eqb q.0 p s) refl

  pub command-seed : (c : Command) → Legal f c → opcode f ≡ code c → acting_peer f ≡ actor c → seeds_after l f c p ≡ seed_by xs x p
  command-seed (Send q z) legal byte acts = send-seed q z (same-sizes f z legal.1) byte acts
  command-seed (Disconnect q) legal byte acts = disconnect-seed q byte acts
  command-seed (Open q u) legal byte acts = rw (zero, byte) refl
  command-seed (Create q i) legal byte acts = rw (zero, byte) refl
  command-seed (Destroy q i) legal byte acts = rw (zero, byte) refl
  command-seed (Release q i) legal byte acts = rw (zero, byte) refl
  command-seed (Transfer q i r) legal byte acts = rw (zero, byte) refl
  command-seed (Receive q room) legal byte acts = rw (zero, byte) refl
  command-seed (Quota q u) legal byte acts = rw (zero, byte) refl
  command-seed (Holders q i) legal byte acts = rw (zero, byte) refl
  command-seed (ShowSeed q room) legal byte acts = rw (zero, byte) refl

pub beside : (l : Ledger) (k : Book) → (with_book l k).seed ≡ l.seed
unfolding with_book
beside l k = refl

-- What leaves it.
pub not-either : (s t : Bool) → not (either s t) ≡ true → (s ≡ false) × (t ≡ false)
not-either false false e = (refl, refl)
not-either false true e = clash (sym e)
not-either true t e = clash (sym e)

-- 11.
never-eleven : (a b c d : Bool) → pick a EOVERFLOW (pick b EBADF (pick c ESHUTDOWN (pick d ERANGE 0))) ≡ EAGAIN → ⊥
never-eleven true b c d e = omega arith
never-eleven false true c d e = omega arith
never-eleven false false true d e = omega arith
never-eleven false false false true e = omega arith
never-eleven false false false false e = omega arith

pub set-number : (a b c : Bool) (room : ℕ) (x : LedgerSeed) (payload : List ℕ) (ns : List Node) → x ≡ kept payload ns →
    pick a EOVERFLOW (pick b EBADF (pick c ESHUTDOWN (pick (is_unset x) EAGAIN (pick (seed_over_room room x) ERANGE 0)))) ≡ EAGAIN → ⊥
set-number a b c room x payload ns e n = never-eleven a b c (seed_over_room room (kept payload ns)) (rw e at n)
