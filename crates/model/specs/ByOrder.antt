-- 02 No. 2, invalid handles by order, of histories alone: frames, numbers and answers, with their book and ledger, and no word of the state. S is the accepted send of a message (`Sent` in
-- Delivered.antt), D the accepted destroy whose ID names the node, or the accepted disconnect of the peer that created it (`ends` in Lives.antt).
-- Assumes nothing.
use Rattle.std.specs.Prelude.{ℕ, suc, ◌+◌, ◌≤◌, ◌<◌, ◌≡◌, true, false, ◌⊎◌, List, ◌∷◌, ◌++◌}
use Rattle.model.specs.Numbers.{peers, invalid, next_id}
use Rattle.model.specs.State.{Handle.none}
use Rattle.model.specs.Book.{Node, Noted.noted, Fed, shown_ids, acting_peer}
use Rattle.model.specs.Tally.{tally}
use Rattle.model.specs.Ledger.{Letter, Item, Item.message, Item.destroyed, is_told}
use Rattle.model.specs.Rows.{book_of, ledger_of}
use Rattle.model.specs.Happened.{Happened}
use Rattle.model.specs.Shows.{Takes, AtOnePlace}
use Rattle.model.specs.Lives.{ends}
use Rattle.model.specs.Waiting.{notices_of}
use Rattle.model.specs.Delivered.{new_nodes, ahead, Delivered}

-- The accepted command of the number k among xs that destroyed the node n, which lived until then: D.
pub record Destruction (xs : List Fed) (k : ℕ) (n : Node) : Type 0 where
  pub before : List Fed
  pub destroy : Fed
  pub after : List Fed
  pub place : xs ≡ before ++ (destroy ∷ after)
  pub number : k ≡ suc (tally before)
  pub lived : (ledger_of before).lives n.number ≡ true
  pub ends : ends before destroy n.owner n.number ≡ true

-- (a) x, an accepted receive of p answered 01 after the history xs, shows at a place the ID i for the node n. The message's number is that of S (`number` of `Sent`).
pub record ShownByOrder (xs : List Fed) (x : Fed) (p : ℕ) (d : Delivered xs x) : Type 0 where
  -- "invalid only if the destruction came before the message": D before S shows all ones, also to a holder
  pub before : (i : ℕ) (n : Node) → AtOnePlace i n (shown_ids x.answer) d.letter.carried → (k : ℕ) → Destruction xs k n → k < d.number → i ≡ invalid
  -- "An owner whose own handle is gone is still shown the invalid ID": D after S
  pub own-gone : (i : ℕ) (n : Node) → AtOnePlace i n (shown_ids x.answer) d.letter.carried → (k : ℕ) → Destruction xs k n → d.number < k → n.owner ≡ p →
      (ledger_of xs).handle p n.number ≡ none → i ≡ invalid
  -- and nowhere else
  pub all_ones : (i : ℕ) (n : Node) → AtOnePlace i n (shown_ids x.answer) d.letter.carried → i ≡ invalid →
      (k : ℕ) × Destruction xs k n × ((k < d.number) ⊎ ((d.number < k) × (n.owner ≡ p) × ((ledger_of xs).handle p n.number ≡ none)))
  -- else the ID that p holds for the node
  pub existing : (i : ℕ) (n : Node) → AtOnePlace i n (shown_ids x.answer) d.letter.carried → (i ≡ invalid → ⊥) → (j c : ℕ) → (book_of xs).handle p j ≡ noted n c → i ≡ j
  -- or the next new one, behind those of the other new nodes with an earlier place
  pub new : (i : ℕ) (n : Node) → AtOnePlace i n (shown_ids x.answer) d.letter.carried → (i ≡ invalid → ⊥) → (ledger_of xs).handle p n.number ≡ none →
      i ≡ next_id ((ledger_of xs).given p + ahead n.number (new_nodes (ledger_of xs) p d.number d.letter.carried))

abbrev pub ShowsByOrder : Type 0
ShowsByOrder = (xs ys : List Fed) (x : Fed) → Happened (xs ++ (x ∷ ys)) → (d : Delivered xs x) → ShownByOrder xs x (acting_peer x.frame) d

-- After the history xs, x is an accepted receive of p answered 02: it takes out the notice that the command k destroyed the node n. Or it is answered 01, and takes out a message that the
-- command k sent.
pub record Told (xs : List Fed) (x : Fed) (p k : ℕ) (n : Node) : Type 0 where
  pub takes : Takes p 2 x
  pub rest : List Item
  pub first : (ledger_of xs).queue p ≡ destroyed k n ∷ rest

pub record Got (xs : List Fed) (x : Fed) (p k : ℕ) (m : Letter) : Type 0 where
  pub takes : Takes p 1 x
  pub rest : List Item
  pub first : (ledger_of xs).queue p ≡ message k m ∷ rest

-- (b) "such a message installs the handle, and the notice follows it": no message that comes out at a peer after the notice of D has a lower number than D, whether it carries the node, is for
-- it, or neither. So the notice comes out behind every message that was sent before D, and none of those comes out after it.
abbrev pub NoticeFollows : Type 0
NoticeFollows =
    (xs ys zs : List Fed) (x z : Fed) → Happened ((xs ++ (x ∷ ys)) ++ (z ∷ zs)) → (p k j : ℕ) (n : Node) (m : Letter) → Told xs x p k n → Got (xs ++ (x ∷ ys)) z p j m → k ≤ j

-- (d) "There is one notice for a peer and node": it is shown at most once. That it is shown to a peer that holds the node then, under the ID that names the node then, and of a destroyed
-- node only, is `notices-tell` (Noticed.antt).
abbrev pub ToldOnce : Type 0
ToldOnce =
    (xs ys zs : List Fed) (x z : Fed) → Happened ((xs ++ (x ∷ ys)) ++ (z ∷ zs)) → (p k j : ℕ) (n m : Node) → Told xs x p k n → Told (xs ++ (x ∷ ys)) z p j m → n.number ≡ m.number → ⊥

-- The notice that a peer was shown, of the node of this number.
pub record BeenTold (xs : List Fed) (p N : ℕ) : Type 0 where
  pub before : List Fed
  pub receive : Fed
  pub after : List Fed
  pub place : xs ≡ before ++ (receive ∷ after)
  pub command : ℕ
  pub node : Node
  pub told : Told before receive p command node
  pub number : node.number ≡ N

-- (c) Nobody is left untold: of a destroyed node that p holds, or that a message brings which was sent before the destruction and waits for p, exactly one notice waits for p, or p has been
-- shown one. (The notices of `notices_of` are of either kind; a release notice stands for a live node only, `waiting-in` in Waiting.antt.)
abbrev pub NobodyUntold : Type 0
NobodyUntold =
    (xs : List Fed) → Happened xs → (p : ℕ) → p < peers → (N : ℕ) → N < (book_of xs).entered → (ledger_of xs).lives N ≡ false →
    is_told ((ledger_of xs).handle p) ((ledger_of xs).queue p) ((ledger_of xs).died N) N ≡ true → (notices_of N ((ledger_of xs).queue p) ≡ 1) ⊎ BeenTold xs p N

-- The number by which the ledger has a node destroyed is that of D; and a notice that is shown has D's number.
abbrev pub DiedBy : Type 0
DiedBy =
    (xs : List Fed) → Happened xs → (n : Node) → n.number < (book_of xs).entered → (ledger_of xs).maker n.number ≡ n.owner → (ledger_of xs).lives n.number ≡ false →
    Destruction xs ((ledger_of xs).died n.number) n

abbrev pub ToldOfIt : Type 0
ToldOfIt = (xs ys : List Fed) (x : Fed) → Happened (xs ++ (x ∷ ys)) → (p k : ℕ) (n : Node) → Told xs x p k n → Destruction xs k n
