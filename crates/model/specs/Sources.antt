-- Whence a queued message comes, in the book's words: an accepted send among the calls put it there. When that send was made the sender's destination ID named, in the book, the node
-- for which the message waits; its payload is the frame's to the byte, its user the sender's, and it carries the nodes that the attached IDs named then.
-- The book's nodes are never reused, so this says that no node took another one's messages.
-- Assumes nothing.
use Rattle.std.specs.Prelude.{ℕ, suc, ◌+◌, ◌≤◌, ◌<◌, ◌≡◌, refl, List, [], ◌∷◌, ◌++◌, map, length, eqb}
use Rattle.std.proofs.Common.{sym, ap, ◌∙◌, append_assoc, eq-eqb}
use mathlib.Core.Bool.{true, false}
use Rattle.std.proofs.lemmas.List.{length-map}
use Rattle.laws.specs.Tables.{upd}
use Rattle.laws.specs.Weights.{All, all-imp}
use Rattle.laws.specs.Build.{build-length}
use Rattle.ids.specs.declared.Peer.{Peer}
use Rattle.frames.specs.declared.Sizes.{Sizes}
use Rattle.frames.specs.declared.Command.TheVariants.{Send}
use Rattle.frames.specs.Frame.{send_id, payload_of}
use Rattle.model.specs.Numbers.{nodes}
use Rattle.model.specs.Lists.{either, any}
use Rattle.model.specs.State.{Message, Entry, Entry.message, Entry.destroyed, Entry.released, slot}
use Rattle.model.specs.Requests.{destinations, attached}
use Rattle.model.specs.Step.{Call, run}
use Rattle.model.specs.Book.{Noted.noted, BookMessage, nodes_of}
use Rattle.model.specs.Claim.{book_after}
use Rattle.model.specs.Ledger.{ledger_after}
use Rattle.model.specs.LedgerSim.{Follows}
pub use Rattle.model.specs.History.{book-next, run-next, book-left, book-noted}
use Rattle.model.specs.Accepted.{Accepted}
use Rattle.model.specs.Notices.{mentions}
use Rattle.model.specs.Sim.{called, told, Sim}
use Rattle.model.specs.SimCreate.{absent-message, told-other}
use Rattle.model.specs.SimSend.{noted-at-slot, nodes-of-slots}
use Rattle.model.specs.SimGive.{Ids}

-- The accepted send among the calls cs that queued the message m with the number n. The slots have the names under which the book entered their nodes.
pub record Source (cs : List Call) (name : ℕ → ℕ) (n : ℕ) (m : Message) : Type 0 where
  pub before : List Call
  pub call : Call
  pub after : List Call
  pub place : cs ≡ before ++ (call ∷ after)
  pub peer : Peer
  pub sizes : Sizes
  pub accepted : Accepted (run before) call (Send peer sizes)
  pub number : n ≡ suc (run before).accepted
  -- one of the frame's destination IDs, and what it named when the send was made
  pub id : ℕ
  pub among : any (eqb id) (destinations call.frame sizes) ≡ true
  pub count : ℕ
  pub to : (book_after before).handle peer.0 id ≡ noted (called name m.to) count
  pub user : m.user ≡ (book_after before).user peer.0
  pub payload : m.payload ≡ payload_of call.frame
  pub carried : nodes_of (book_after before) peer.0 (attached call.frame sizes) ≡ map (called name) m.carried
  pub nh : length m.carried ≡ sizes.nh

abbrev pub Sourced : List Call → (ℕ → ℕ) → Entry → Type 0
Sourced cs name (message n m) = Source cs name n m
Sourced cs name (destroyed n s) = Unit {0}
Sourced cs name (released n s) = Unit {0}

-- A source stays one where calls follow and the names of its slots stay.
abbrev pub Agrees : (ℕ → ℕ) → (ℕ → ℕ) → Entry → Type 0
Agrees name name' (message n m) = told name m ≡ told name' m
Agrees name name' (destroyed n s) = Unit {0}
Agrees name name' (released n s) = Unit {0}

pub sourced-more : (cs : List Call) (c : Call) (name name' : ℕ → ℕ) (e : Entry) → Agrees name name' e × Sourced cs name e → Sourced (cs ++ (c ∷ [])) name' e
sourced-more cs c name name' (message n m) x =
    let o = x.1 in
    record {
      before = o.before;
      call = o.call;
      after = o.after ++ (c ∷ []);
      place = ap (λ (l : List Call). l ++ (c ∷ [])) o.place ∙ append_assoc o.before (o.call ∷ o.after) (c ∷ []);
      peer = o.peer;
      sizes = o.sizes;
      accepted = o.accepted;
      number = o.number;
      id = o.id;
      among = o.among;
      count = o.count;
      to = o.to ∙ ap (λ (y : BookMessage). noted y.to o.count) x.0;
      user = o.user;
      payload = o.payload;
      carried = o.carried ∙ ap (λ (y : BookMessage). y.carried) x.0;
      nh = o.nh;
    }
sourced-more cs c name name' (destroyed n s) x = tt
sourced-more cs c name name' (released n s) x = tt

pub agrees-same : (name : ℕ → ℕ) (q : List Entry) → All (Agrees name name) q
agrees-same name [] = tt
agrees-same name (message n m ∷ q) = (refl, agrees-same name q)
agrees-same name (destroyed n s ∷ q) = (tt, agrees-same name q)
agrees-same name (released n s ∷ q) = (tt, agrees-same name q)

pub agrees-new : (name : ℕ → ℕ) (s x : ℕ) (q : List Entry) → All (λ e. mentions s e ≡ false) q → All (Agrees name (upd name s x)) q
agrees-new name s x [] a = tt
agrees-new name s x (message n m ∷ q) a = (told-other name s x m (absent-message s m a.0), agrees-new name s x q a.1)
agrees-new name s x (destroyed n t ∷ q) a = (tt, agrees-new name s x q a.1)
agrees-new name s x (released n t ∷ q) a = (tt, agrees-new name s x q a.1)

-- What an accepted call queues.
either-right : (a b : mathlib.Core.Bool.Bool) → b ≡ true → either a b ≡ true
either-right true b e = refl
either-right false b e = e

pub all_among : (is : List ℕ) → All (λ i. any (eqb i) is ≡ true) is
all_among [] = tt
all_among (i ∷ is) = (rw (eq-eqb i i refl) refl, all-imp (λ j. any (eqb j) is ≡ true) (λ j. any (eqb j) (i ∷ is) ≡ true) (λ j e. either-right (eqb j i) (any (eqb j) is) e) is (all_among is))

module _ {N : ℕ} (cs : List Call) (c : Call) (name : ℕ → ℕ) (s : Sim N name (run cs) (book_after cs)) (q : Peer) (z : Sizes) (a : Accepted (run cs) c (Send q z))
    (hold : All (λ i. slot (run cs) q.0 i < nodes) (attached c.frame z)) where
  pub sent-each : (ts : List ℕ) → All (λ i. (slot (run cs) q.0 i < nodes) × (any (eqb i) (destinations c.frame z) ≡ true)) ts →
      All (Sourced (cs ++ (c ∷ [])) name)
      (map
      (λ d. message (suc (run cs).accepted) (record { to = d; user = (run cs).user q.0; payload = payload_of c.frame; carried = map (slot (run cs) q.0) (attached c.frame z) }))
      (map (slot (run cs) q.0) ts))
  sent-each [] h = tt
  sent-each (i ∷ ts) h =
      let x = noted-at-slot name (run cs) (book_after cs) s q.0 i h.0.0 in (
        record {
          before = cs;
          call = c;
          after = [];
          place = refl;
          peer = q;
          sizes = z;
          accepted = a;
          number = refl;
          id = i;
          among = h.0.1;
          count = x.0;
          to = x.1;
          user = sym (s.users q.0);
          payload = refl;
          carried = nodes-of-slots name (run cs) (book_after cs) s q.0 (attached c.frame z) hold;
          nh = length-map (attached c.frame z) (slot (run cs) q.0) ∙ build-length (λ j. (send_id c.frame (z.nd + j)).0) z.nh;
        },
        sent-each ts h.1,
      )

-- Book, ledger, bus and sources after some calls, of which more may follow; all for the same names.
pub record Story (N : ℕ) (cs : List Call) : Type 0 where
  pub name : ℕ → ℕ
  pub sim : Sim N name (run cs) (book_after cs)
  pub ids : Ids (run cs)
  pub follows : Follows name (book_after cs).entered (run cs) (ledger_after cs)
  pub sources : (p : ℕ) → All (Sourced cs name) ((run cs).queue p)
  pub entered : (book_after cs).entered ≤ length cs
