-- The ledger: what must be known beside document 01's book to say what each answer has to show. It is fed what the book is fed, the bytes of each frame, the number that came back
-- and the bytes of the answer, and nothing else; nodes have the book's names. It has what the book leaves out: which nodes live, whose they are, how many IDs each peer was given,
-- each queue with its notices, payloads and the numbers of the commands that queued them, and each seed with its payload.
-- Assumes nothing.
use Rattle.std.specs.Prelude.{ℕ, suc, ◌-◌, ◌^◌, ◌≡◌, Bool, true, false, not, List, [], ◌∷◌, ◌++◌, map, length, eqb, ltb, Ok, Err}
use Rattle.std.specs.Int.Count.{ones}
use Rattle.laws.specs.Tests.{pick}
use Rattle.laws.specs.Tables.{upd}
use Rattle.laws.specs.Sums.{sum_to}
use Rattle.laws.specs.Weights.{keep}
use Rattle.laws.specs.Bytes.{be}
use Rattle.frames.specs.declared.Command.{Command}
use Rattle.frames.specs.declared.Command.TheVariants.{Open, Disconnect, Create, Destroy, Release, Transfer, Send, Receive, Quota, Holders, ShowSeed}
use Rattle.frames.specs.Frame.{parse, payload_of, Parsed}
use Rattle.quota.specs.Rule.{left}
use Rattle.answers.specs.Answer.{bit, id_bytes}
use Rattle.model.specs.Numbers.{peers, invalid, next_id}
use Rattle.model.specs.Lists.{both, either, any, rising}
use Rattle.model.specs.Resources.{Resource, Resource.messages, Resource.bytes, Resource.handles, limit}
use Rattle.model.specs.Requests.{destinations, attached}
use Rattle.model.specs.State.{Handle, Handle.none, handle_of, held, count, id_or, total, start}
use Rattle.model.specs.Changes.{given_after}
use Rattle.model.specs.Step.{Call}
use Rattle.model.specs.Claim.{history_from}
use Rattle.model.specs.Book.{Node, same_node, Noted, Noted.blank, Noted.noted, Book, owned_by, nodes_of, Fed, empty, feed, queued, others_queued}

-- A message as it was sent: its sender's user, its destination, its payload, the nodes of its attached handles.
pub record Letter : Type 0 where
  pub user : ℕ
  pub to : Node
  pub payload : List ℕ
  pub carried : List Node

-- What waits at a peer, each with the number of the accepted command that queued it.
pub data Item : Type 0 where
  message : ℕ → Letter → Item
  destroyed : ℕ → Node → Item
  released : ℕ → Node → Item

-- A peer's seed as it was set: its payload and the nodes of its attached handles; or none is set (02 No. 1).
pub data LedgerSeed : Type 0 where
  unset : LedgerSeed
  kept : List ℕ → List Node → LedgerSeed

abbrev pub seed_nodes : LedgerSeed → List Node
seed_nodes unset = []
seed_nodes (kept payload ns) = ns

pub record Ledger : Type 0 where
  pub book : Book
  -- how many commands were accepted, questions not counted
  pub accepted : ℕ
  -- of each node, by its number: the peer that created it, whether it lives, and of a destroyed one the number of the accepted command that destroyed it
  pub maker : ℕ → ℕ
  pub lives : ℕ → Bool
  pub died : ℕ → ℕ
  -- of each peer: its handle to each node, by the node's number; how many IDs it was given; what waits, oldest first; its seed
  pub handle : ℕ → ℕ → Handle
  pub given : ℕ → ℕ
  pub queue : ℕ → List Item
  pub seed : ℕ → LedgerSeed

unfoldable pub blank_ledger : Ledger
blank_ledger =
    record {
      book = empty;
      accepted = 0;
      maker = λ n. 0;
      lives = λ n. false;
      died = λ n. 0;
      handle = λ p n. none;
      given = λ p. 0;
      queue = λ p. [];
      seed = λ p. unset;
    }

-- "Creation gives the owner count 1": the book's next node.
unfoldable pub ledger_create : Ledger → ℕ → ℕ → Ledger
ledger_create l p i =
    let n = l.book.entered in
    record {
      book = l.book;
      seed = l.seed;
      accepted = l.accepted;
      given = l.given;
      queue = l.queue;
      maker = upd l.maker n p;
      lives = upd l.lives n true;
      died = l.died;
      handle = upd l.handle p (upd (l.handle p) n (handle_of i 1));
    }

-- A release notice of the node.
abbrev pub no_release : Node → Item → Bool
no_release n (message k m) = true
no_release n (destroyed k x) = true
no_release n (released k x) = not (same_node n x)

-- 02 No. 2: "an earlier queued message that carries the node", one that was queued before the command k.
abbrev pub brings : ℕ → ℕ → Item → Bool
brings k n (message j m) = both (ltb j k) (any (λ x. eqb n x.number) m.carried)
brings k n (destroyed j x) = false
brings k n (released j x) = false

-- A peer with the handles h and the queue q is told that the command k destroyed the node n: it holds a handle, or an earlier message carries the node.
abbrev pub is_told : (ℕ → Handle) → List Item → ℕ → ℕ → Bool
is_told h q k n = either (held (h n)) (any (brings k n) q)

-- "Destroy queues a notice at every holder, owner included, and leaves counts alone"; 02 No. 2: "a destruction also queues a notice at each peer with an earlier queued message that carries
-- the node"; a release notice "is withdrawn if .. the node is destroyed".
unfoldable pub ledger_destroy : Ledger → Node → Ledger
ledger_destroy l n =
    record {
      book = l.book;
      seed = l.seed;
      accepted = l.accepted;
      maker = l.maker;
      handle = l.handle;
      given = l.given;
      lives = upd l.lives n.number false;
      died = upd l.died n.number l.accepted;
      queue = λ q.
          pick (owned_by q n) (keep (no_release n) (l.queue q)) (l.queue q)
          ++ pick (both (ltb q peers) (is_told (l.handle q) (l.queue q) l.accepted n.number)) (destroyed l.accepted n ∷ []) [];
    }

-- What goes with the handle of p: the node's release notice; if p owns the node, the messages for it "are dropped".
abbrev pub outlasts : ℕ → Node → Item → Bool
outlasts p n (message k m) = not (both (owned_by p n) (same_node m.to n))
outlasts p n (destroyed k x) = true
outlasts p n (released k x) = not (same_node x n)

-- 02 No. 2: "It is now withdrawn as soon as the peer holds no handle and no earlier message carrying the node is left": what stays of a queue q at a peer with the handles h.
abbrev pub lasts : (ℕ → Handle) → List Item → Item → Bool
lasts h q (message k m) = true
lasts h q (destroyed k n) = is_told h q k n.number
lasts h q (released k n) = true

unfoldable pub cleared : (ℕ → Handle) → List Item → List Item
cleared h q = keep (lasts h q) q

-- "When the sum of counts over all peers falls to 1 from above on a live node, a release notice is queued at the owner."
abbrev pub fallen : (ℕ → Bool) → (ℕ → ℕ → Handle) → (ℕ → ℕ → Handle) → ℕ → Bool
fallen lives before after n = both (lives n) (both (ltb 1 (total before n)) (eqb (total after n) 1))

unfoldable pub ledger_release : Ledger → ℕ → ℕ → Node → ℕ → Ledger
ledger_release l p i n c =
    let after = upd l.handle p (upd (l.handle p) n.number (handle_of i (c - 1))) in
    record {
      book = l.book;
      seed = l.seed;
      accepted = l.accepted;
      maker = l.maker;
      lives = l.lives;
      died = l.died;
      given = l.given;
      handle = after;
      queue = λ q.
          pick (both (eqb p q) (eqb c 1)) (cleared (after q) (keep (outlasts p n) (l.queue q))) (l.queue q)
          ++ pick (both (owned_by q n) (fallen l.lives l.handle after n.number)) (released l.accepted n ∷ []) [];
    }

-- 02 No. 2: "invalid only if the destruction came before the message". Is the node n shown to p by what the command k queued? It lives, or a later command than k destroyed it and p is not
-- its owner or holds it: "An owner whose own handle is gone is still shown the invalid ID". A transfer and a seed reading show it as of their own number.
unfoldable pub valid_at : Ledger → ℕ → ℕ → ℕ → Bool
valid_at l p k n = either (l.lives n) (both (ltb k (l.died n)) (either (not (eqb (l.maker n) p)) (held (l.handle p n))))

-- "else the receiver's existing handle, or a new ID where it has none".
unfoldable pub due_id : Ledger → ℕ → ℕ → Node → ℕ
due_id l p k n = pick (valid_at l p k n.number) (id_or (next_id (l.given p)) (l.handle p n.number)) invalid

-- "A receive or transfer adds 1 for each time the handle is shown"; the release notice "is withdrawn if the sum rises".
unfoldable pub ledger_give : Ledger → ℕ → ℕ → Node → Ledger
ledger_give l p k n =
    pick (valid_at l p k n.number)
    (record {
      book = l.book;
      seed = l.seed;
      accepted = l.accepted;
      maker = l.maker;
      lives = l.lives;
      died = l.died;
      given = upd l.given p (given_after (l.handle p n.number) (l.given p));
      handle = upd l.handle p (upd (l.handle p) n.number (handle_of (due_id l p k n) (suc (count (l.handle p n.number)))));
      queue = upd l.queue n.owner (keep (no_release n) (l.queue n.owner));
    })
    l

-- "each attached handle in order".
abbrev pub ledger_give_all : Ledger → ℕ → ℕ → List Node → Ledger
ledger_give_all l p k [] = l
ledger_give_all l p k (n ∷ ns) = ledger_give_all (ledger_give l p k n) p k ns

abbrev pub due_ids : Ledger → ℕ → ℕ → List Node → List ℕ
due_ids l p k [] = []
due_ids l p k (n ∷ ns) = due_id l p k n ∷ due_ids (ledger_give l p k n) p k ns

-- The queues anew.
unfoldable pub ledger_queues : Ledger → (ℕ → List Item) → Ledger
ledger_queues l f =
    record {
      book = l.book;
      seed = l.seed;
      accepted = l.accepted;
      maker = l.maker;
      lives = l.lives;
      died = l.died;
      handle = l.handle;
      given = l.given;
      queue = f;
    }

-- The queue of p with its notices withdrawn that nothing keeps.
abbrev pub ledger_cleared : Ledger → ℕ → Ledger
ledger_cleared l p = ledger_queues l (upd l.queue p (cleared (l.handle p) (l.queue p)))

-- "messages by destination place": at each peer those for its own nodes.
abbrev pub letters : ℕ → ℕ → List ℕ → List Node → List Node → List Item
letters k u payload carried ds = map (λ n. message k (record { user = u; to = n; payload = payload; carried = carried })) ds

abbrev pub ledger_send : Ledger → ℕ → List Node → List Node → List ℕ → Ledger
ledger_send l u ds hs payload = ledger_queues l (λ q. l.queue q ++ letters l.accepted u payload hs (keep (owned_by q) ds))

-- 02 No. 1: "a send with no destinations that replaces the peer's own seed". The seed of p anew, where t says so.
unfoldable pub ledger_seed : Ledger → Bool → ℕ → LedgerSeed → Ledger
ledger_seed l t p x =
    record {
      book = l.book;
      seed = pick t (upd l.seed p x) l.seed;
      accepted = l.accepted;
      maker = l.maker;
      lives = l.lives;
      died = l.died;
      handle = l.handle;
      given = l.given;
      queue = l.queue;
    }

-- Receive: the first is taken out; of a message each attached handle is given, as of the command that sent it. No run reaches `[]`: a receive with nothing queued is refused with 11.
abbrev pub ledger_receive : Ledger → ℕ → List Item → Ledger
ledger_receive l p [] = l
ledger_receive l p (message k m ∷ rest) = ledger_cleared (ledger_give_all (ledger_queues l (upd l.queue p rest)) p k m.carried) p
ledger_receive l p (destroyed k n ∷ rest) = ledger_queues l (upd l.queue p rest)
ledger_receive l p (released k n ∷ rest) = ledger_queues l (upd l.queue p rest)

-- The nodes that p created and that pass, by the ascending IDs under which p holds them.
unfoldable pub by_own_id : Ledger → ℕ → (ℕ → Bool) → List Node
by_own_id l p t =
    let all = l.book.entered in
    map (λ n. record { owner = p; number = n }) (rising (λ n. both (eqb (l.maker n) p) (t n)) (λ n. id_or 0 (l.handle p n)) all all)

-- "Disconnect: drop the queue, destroy live nodes, release all handles."; "destroy notices by ascending owner ID; then release notices by ascending owner ID"; 02 No. 1: "disconnect drops
-- the seed".
unfoldable pub ledger_disconnect : Ledger → ℕ → Ledger
ledger_disconnect l p =
    let after = upd l.handle p (λ n. none) in
    let living : ℕ → Bool = λ n. both (not (eqb (l.maker n) p)) (l.lives n) in
    record {
      book = l.book;
      seed = upd l.seed p unset;
      accepted = l.accepted;
      maker = l.maker;
      given = l.given;
      lives = living;
      died = λ n. pick (both (eqb (l.maker n) p) (l.lives n)) l.accepted (l.died n);
      handle = after;
      queue = λ q.
          pick (eqb p q) []
          (l.queue q
          ++ pick (ltb q peers)
          (map (destroyed l.accepted) (by_own_id l p (λ n. both (l.lives n) (is_told (l.handle q) (l.queue q) l.accepted n)))
          ++ map (released l.accepted) (by_own_id l q (fallen living l.handle after)))
          []);
    }

-- One accepted command more; "Questions change nothing and are not counted."
unfoldable pub ledger_counted : Ledger → Ledger
ledger_counted l =
    record {
      book = l.book;
      seed = l.seed;
      accepted = suc l.accepted;
      maker = l.maker;
      lives = l.lives;
      died = l.died;
      handle = l.handle;
      given = l.given;
      queue = l.queue;
    }

-- The node of an ID, where the book has one. No run reaches `blank`: destroy, release and transfer of an ID that is not held are refused with 6.
abbrev pub on_node : Ledger → Noted → (Node → ℕ → Ledger) → Ledger
on_node l blank f = l
on_node l (noted n c) f = f n c

-- One accepted command, of the frame f; the book is as it was before it.
unfoldable pub enter : Ledger → List ℕ → Command → Ledger
enter l f (Open p u) = ledger_counted l
enter l f (Disconnect p) = ledger_disconnect (ledger_counted l) p.0
enter l f (Create p i) = ledger_create (ledger_counted l) p.0 i.0
enter l f (Destroy p i) = let k = ledger_counted l in on_node k (l.book.handle p.0 i.0) (λ n c. ledger_destroy k n)
enter l f (Release p i) = let k = ledger_counted l in on_node k (l.book.handle p.0 i.0) (λ n c. ledger_release k p.0 i.0 n c)
enter l f (Transfer p i q) = let k = ledger_counted l in on_node k (l.book.handle p.0 i.0) (λ n c. ledger_give k q.0 (suc l.accepted) n)
enter l f (Send p z) =
    let k = l.book in
    let hs = nodes_of k p.0 (attached f z) in
    ledger_seed (ledger_send (ledger_counted l) (k.user p.0) (nodes_of k p.0 (destinations f z)) hs (payload_of f)) (eqb z.nd 0) p.0 (kept (payload_of f) hs)
enter l f (Receive p room) = ledger_receive (ledger_counted l) p.0 (l.queue p.0)
enter l f (Quota p u) = l
enter l f (Holders p i) = l
enter l f (ShowSeed p room) = ledger_give_all (ledger_counted l) p.0 (suc l.accepted) (seed_nodes (l.seed p.0))

abbrev pub enter_parsed : Ledger → List ℕ → Parsed → Ledger
enter_parsed l f (Err r) = l
enter_parsed l f (Ok c) = enter l f c

-- The book goes on beside it.
unfoldable pub with_book : Ledger → Book → Ledger
with_book l k =
    record {
      book = k;
      seed = l.seed;
      accepted = l.accepted;
      maker = l.maker;
      lives = l.lives;
      died = l.died;
      handle = l.handle;
      given = l.given;
      queue = l.queue;
    }

unfoldable pub feed_ledger : Ledger → Fed → Ledger
feed_ledger l x = with_book (pick (eqb x.number 0) (enter_parsed l x.frame (parse x.frame)) l) (feed l.book x)

unfoldable pub feed_ledger_all : Ledger → List Fed → Ledger
feed_ledger_all l [] = l
feed_ledger_all l (x ∷ xs) = feed_ledger_all (feed_ledger l x) xs

-- After a run.
abbrev pub ledger_after : List Call → Ledger
ledger_after cs = feed_ledger_all blank_ledger (history_from start cs)

-- WHAT IS DUE

-- "The flag is 1 if, when it is taken out, another message of the same send is queued behind it at that peer."
abbrev pub of_command : ℕ → Item → Bool
of_command k (message j m) = eqb j k
of_command k (destroyed j n) = false
of_command k (released j n) = false

-- The number of the accepted command that queued an item.
abbrev pub item_number : Item → ℕ
item_number (message k m) = k
item_number (destroyed k n) = k
item_number (released k n) = k

-- The ID by which p holds a node. It is asked only for the node of the message or notice that stands first, and in a run p holds that node (FirstHeld.antt); so it is never the invalid one.
abbrev pub own_name : Ledger → ℕ → Node → ℕ
own_name l p n = id_or invalid (l.handle p n.number)

-- "Receive answers 01, destination ID, sender's user (1), flag (1), nb (2), nh (1), IDs, payload; or 02 and an ID (node destroyed); or 03 and an ID (node released)." No run reaches `[]`: a
-- receive with nothing queued is refused with 11.
abbrev pub due_item : Ledger → ℕ → List Item → List ℕ
due_item l p [] = []
due_item l p (message k m ∷ rest) =
    0 ∷ 1 ∷ be 8 (own_name l p m.to)
    ++ (m.user ∷ bit (any (of_command k) rest) ∷ be 2 (length m.payload)
    ++ (length m.carried ∷ id_bytes (due_ids (ledger_queues l (upd l.queue p rest)) p k m.carried) ++ m.payload))
due_item l p (destroyed k n ∷ rest) = 0 ∷ 2 ∷ be 8 (own_name l p n)
due_item l p (released k n ∷ rest) = 0 ∷ 3 ∷ be 8 (own_name l p n)

-- 02 No. 1: "shows the seed as kind 04 with a message's fields, destination all ones, flag 0"; "Attached handles follow the receive rule each time it is shown." No run reaches `unset`:
-- "reading with none set gives 11".
abbrev pub due_seed : Ledger → ℕ → LedgerSeed → List ℕ
due_seed l p unset = []
due_seed l p (kept payload carried) =
    0 ∷ 4 ∷ be 8 invalid ++ (l.book.user p ∷ 0 ∷ be 2 (length payload) ++ (length carried ∷ id_bytes (due_ids l p (suc l.accepted) carried) ++ payload))

-- "one byte with bit p set if peer p holds a handle to the node".
abbrev pub holders_byte : Ledger → Node → ℕ
holders_byte l n = sum_to (λ q. pick (held (l.handle q n.number)) (2 ^ q) 0) peers

-- No run reaches `blank`: transfer and holders question of an ID that is not held are refused with 6.
abbrev pub on_node_bytes : Noted → (Node → List ℕ) → List ℕ
on_node_bytes blank f = []
on_node_bytes (noted n c) f = f n

-- "messages, bytes, handles queued by that user at this peer (2 bytes each), then what is left of each (2 bytes, two's complement)", by the book.
abbrev pub of_each : (Resource → ℕ) → List ℕ
of_each f = be 2 (f messages) ++ (be 2 (f bytes) ++ be 2 (f handles))

-- "half, rounded down, of the limit less what the other users have queued. \"Left\" is that half less what is queued."
abbrev pub left_of : Book → ℕ → ℕ → Resource → ℕ
left_of k q u r = left (limit r) (others_queued k q u r) (queued k q u r)

-- The answer that is due to a command that is not refused.
abbrev pub DueTo : Ledger → Command → List ℕ → Type 0
DueTo l (Open p u) a = a ≡ 0 ∷ []
DueTo l (Disconnect p) a = a ≡ 0 ∷ []
DueTo l (Create p i) a = a ≡ 0 ∷ []
DueTo l (Destroy p i) a = a ≡ 0 ∷ []
DueTo l (Release p i) a = a ≡ 0 ∷ []
DueTo l (Transfer p i q) a = a ≡ on_node_bytes (l.book.handle p.0 i.0) (λ n. 0 ∷ be 8 (due_id l q.0 (suc l.accepted) n))
DueTo l (Send p z) a = a ≡ 0 ∷ []
DueTo l (Receive p room) a = a ≡ due_item l p.0 (l.queue p.0)
DueTo l (Quota p u) a = a ≡ 0 ∷ of_each (queued l.book p.0 u.0) ++ of_each (left_of l.book p.0 u.0)
DueTo l (Holders p i) a = a ≡ on_node_bytes (l.book.handle p.0 i.0) (λ n. 0 ∷ holders_byte l n ∷ ones (holders_byte l n) ∷ [])
DueTo l (ShowSeed p room) a = a ≡ due_seed l p.0 (l.seed p.0)
