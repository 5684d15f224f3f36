-- Document 01, "How the third demand counts": the book. It is fed the bytes of each frame, the number that came back and the bytes of the answer, and nothing else.
-- Assumes nothing.
use Rattle.std.specs.Prelude.{ℕ, zero, suc, ◌+◌, ◌-◌, ◌*◌, Bool, not, List, [], ◌∷◌, ◌++◌, map, length, get_or, eqb, ltb, Ok, Err}
use Rattle.laws.specs.Tests.{pick}
use Rattle.laws.specs.Tables.{upd}
use Rattle.laws.specs.Sums.{sum_to}
use Rattle.laws.specs.Weights.{keep, load}
use Rattle.laws.specs.Build.{build}
use Rattle.laws.specs.Bytes.{num_at}
use Rattle.frames.specs.declared.Sizes.{Sizes}
use Rattle.frames.specs.declared.Command.{Command}
use Rattle.frames.specs.declared.Command.TheVariants.{Open, Disconnect, Create, Destroy, Release, Transfer, Send, Receive, Quota, Holders, ShowSeed}
use Rattle.frames.specs.Frame.{parse, opcode, short_at, Parsed}
use Rattle.quota.specs.Charges.{users}
use Rattle.model.specs.Numbers.{invalid}
use Rattle.model.specs.Lists.{both}
use Rattle.model.specs.Resources.{Resource, weigh}
use Rattle.model.specs.Requests.{destinations, attached}

-- A node's name in the book: its owner, and a number that is never taken again.
pub record Node : Type 0 where
  pub owner : ℕ
  pub number : ℕ

abbrev pub same_node : Node → Node → Bool
same_node n m = eqb n.number m.number

-- "its handles (ID, node, count)": under an ID at a peer nothing, or a node and a count.
pub data Noted : Type 0 where
  blank : Noted
  noted : Node → ℕ → Noted

abbrev pub noted_of : Node → ℕ → Noted
noted_of n zero = blank
noted_of n (suc c) = noted n (suc c)

abbrev pub count_of : Noted → ℕ
count_of blank = 0
count_of (noted n c) = c

-- A message: "the sender's user, that node, nb, nh and the attached IDs' nodes".
pub record BookMessage : Type 0 where
  pub user : ℕ
  pub to : Node
  pub nb : ℕ
  pub nh : ℕ
  pub carried : List Node

-- "A message counts 1, nb and nh, under its sender's user."
abbrev pub weight : Resource → BookMessage → ℕ
weight r m = weigh r m.nb m.nh

abbrev pub by : ℕ → BookMessage → Bool
by u m = eqb m.user u

-- "For each peer it holds its user, its handles (ID, node, count) and its messages, oldest first; for each peer and user the sums sent, received and dropped,
-- in messages, bytes and handles." "its book keeps the attached nodes of the peer's last seed". Beside them how many nodes were entered.
pub record Book : Type 0 where
  pub user : ℕ → ℕ
  pub handle : ℕ → ℕ → Noted
  pub queue : ℕ → List BookMessage
  pub seed : ℕ → List Node
  pub sent : ℕ → ℕ → Resource → ℕ
  pub received : ℕ → ℕ → Resource → ℕ
  pub dropped : ℕ → ℕ → Resource → ℕ
  pub entered : ℕ

-- "It starts empty." The number users stands for no user.
unfoldable pub empty : Book
empty =
    record {
      user = λ p. users;
      handle = λ p i. blank;
      queue = λ p. [];
      seed = λ p. [];
      sent = λ p u r. 0;
      received = λ p u r. 0;
      dropped = λ p u r. 0;
      entered = 0;
    }

-- Small changes: what stands under an ID; messages that go to received or to dropped, each with its own sizes, while rest stays.
unfoldable pub put_handle : Book → ℕ → ℕ → Noted → Book
put_handle k p i x =
    record {
      user = k.user;
      queue = k.queue;
      sent = k.sent;
      received = k.received;
      dropped = k.dropped;
      entered = k.entered;
      seed = k.seed;
      handle = upd k.handle p (upd (k.handle p) i x);
    }

unfoldable pub to_received : Book → ℕ → List BookMessage → List BookMessage → Book
to_received k p out rest =
    record {
      user = k.user;
      handle = k.handle;
      sent = k.sent;
      dropped = k.dropped;
      entered = k.entered;
      seed = k.seed;
      queue = upd k.queue p rest;
      received = upd k.received p (λ u r. k.received p u r + load (by u) (weight r) out);
    }

unfoldable pub to_dropped : Book → ℕ → List BookMessage → List BookMessage → Book
to_dropped k p out rest =
    record {
      user = k.user;
      handle = k.handle;
      sent = k.sent;
      received = k.received;
      entered = k.entered;
      seed = k.seed;
      queue = upd k.queue p rest;
      dropped = upd k.dropped p (λ u r. k.dropped p u r + load (by u) (weight r) out);
    }

-- "Open notes the user."
unfoldable pub note_open : Book → ℕ → ℕ → Book
note_open k p u =
    record {
      handle = k.handle;
      queue = k.queue;
      sent = k.sent;
      received = k.received;
      dropped = k.dropped;
      entered = k.entered;
      seed = k.seed;
      user = upd k.user p u;
    }

-- "Create enters the ID, count 1, for a new node owned by this peer."
unfoldable pub note_create : Book → ℕ → ℕ → Book
note_create k p i =
    record {
      user = k.user;
      queue = k.queue;
      sent = k.sent;
      received = k.received;
      dropped = k.dropped;
      handle = upd k.handle p (upd (k.handle p) i (noted_of (record { owner = p; number = k.entered }) 1));
      entered = suc k.entered;
      seed = k.seed;
    }

-- An ID at a peer names a node; its count rises by 1.
abbrev pub raise : Book → ℕ → ℕ → Node → Book
raise k p i n = put_handle k p i (noted_of n (suc (count_of (k.handle p i))))

-- "Transfer: the answered ID at the destination peer names the source ID's node; its count rises by 1." No run reaches `blank`: an ID that is not held is refused with 6.
abbrev pub note_transfer : Book → Noted → ℕ → ℕ → Book
note_transfer k blank q j = k
note_transfer k (noted n c) q j = raise k q j n

-- The nodes that a peer's IDs name; "an ID the sender does not hold adds nothing". In `note_send` no run reaches `blank`: such a send is refused with 6. In `would_leave`, which takes refused
-- sends too, it counts.
abbrev pub node_in : Noted → List Node
node_in blank = []
node_in (noted n c) = n ∷ []

abbrev pub nodes_of : Book → ℕ → List ℕ → List Node
nodes_of k p [] = []
nodes_of k p (i ∷ is) = node_in (k.handle p i) ++ nodes_of k p is

-- "Send: each destination ID in turn puts a message at its node's owner, with the sender's user, that node, nb, nh and the attached IDs' nodes": what comes to the peer q.
abbrev pub owned_by : ℕ → Node → Bool
owned_by q n = eqb n.owner q

unfoldable pub incoming : ℕ → List Node → List Node → Sizes → ℕ → List BookMessage
incoming u ds hs z q = map (λ n. record { user = u; to = n; nb = z.nb; nh = z.nh; carried = hs }) (keep (owned_by q) ds)

-- ".. and counts it as sent."
unfoldable pub note_send : Book → ℕ → List ℕ → List ℕ → Sizes → Book
note_send k p is hs z =
    let new : ℕ → List BookMessage = incoming (k.user p) (nodes_of k p is) (nodes_of k p hs) z in
    record {
      user = k.user;
      handle = k.handle;
      received = k.received;
      dropped = k.dropped;
      entered = k.entered;
      seed = k.seed;
      queue = λ q. k.queue q ++ new q;
      sent = λ q u r. k.sent q u r + load (by u) (weight r) (new q);
    }

-- A seed: its attached nodes, and nothing else; no message is queued and none is counted.
unfoldable pub note_seed : Book → ℕ → List Node → Book
note_seed k p ns =
    record {
      user = k.user;
      handle = k.handle;
      queue = k.queue;
      sent = k.sent;
      received = k.received;
      dropped = k.dropped;
      entered = k.entered;
      seed = upd k.seed p ns;
    }

-- "Each attached ID shown, save the invalid one, names the node at its place; its count rises by 1."
abbrev pub learn : Book → ℕ → List ℕ → List Node → Book
learn k p [] ns = k
learn k p (i ∷ is) [] = k
learn k p (i ∷ is) (n ∷ ns) = learn (pick (eqb i invalid) k (raise k p i n)) p is ns

-- "Receive answered 01: the peer's first message goes to received." No run reaches `[]`: where the answer is 01 there is one.
abbrev pub note_receive : Book → ℕ → List ℕ → List BookMessage → Book
note_receive k p is [] = k
note_receive k p is (m ∷ ms) = learn (to_received k p (m ∷ []) ms) p is m.carried

-- "Release: the count falls by 1. At 0 the handle goes; if the peer owns the node, its messages for that node go to dropped." No run reaches `blank`: an ID that is not held is refused
-- with 6.
abbrev pub drops : ℕ → Node → BookMessage → Bool
drops p n m = both (owned_by p n) (same_node m.to n)

unfoldable pub drop_for : Book → ℕ → Node → Book
drop_for k p n = to_dropped k p (keep (drops p n) (k.queue p)) (keep (λ m. not (drops p n m)) (k.queue p))

abbrev pub note_release : Book → ℕ → ℕ → Noted → Book
note_release k p i blank = k
note_release k p i (noted n c) = let less = put_handle k p i (noted_of n (c - 1)) in pick (eqb c 1) (drop_for less p n) less

-- "Disconnect: all its messages go to dropped, all its handles go."
unfoldable pub drop_handles : Book → ℕ → Book
drop_handles k p =
    record {
      user = k.user;
      queue = k.queue;
      sent = k.sent;
      received = k.received;
      dropped = k.dropped;
      entered = k.entered;
      seed = k.seed;
      handle = upd k.handle p (λ i. blank);
    }

abbrev pub note_disconnect : Book → ℕ → Book
note_disconnect k p = drop_handles (to_dropped k p (k.queue p) []) p

-- The answers' bytes. 06: 00, the ID at the destination. 08: 00, 01, destination ID, sender's user, flag, nb, nh at the place 14, then the IDs.
abbrev pub answered_id : List ℕ → ℕ
answered_id a = num_at a 1 8

abbrev pub answers_message : List ℕ → Bool
answers_message a = eqb (get_or a 1 0) 1

abbrev pub shown_ids : List ℕ → List ℕ
shown_ids a = build (λ j. num_at a (15 + 8 * j) 8) (get_or a 14 0)

-- One accepted command, of the frame f, with the answer a. "All else .. changes nothing." 02 No. 1: "its book keeps the attached nodes of the peer's last seed and enters the IDs that 0c
-- shows as it does a receive's"; "disconnect drops the seed".
unfoldable pub note : Book → List ℕ → List ℕ → Command → Book
note k f a (Open p u) = note_open k p.0 u.0
note k f a (Disconnect p) = note_seed (note_disconnect k p.0) p.0 []
note k f a (Create p i) = note_create k p.0 i.0
note k f a (Destroy p i) = k
note k f a (Release p i) = note_release k p.0 i.0 (k.handle p.0 i.0)
note k f a (Transfer p i q) = note_transfer k (k.handle p.0 i.0) q.0 (answered_id a)
note k f a (Send p z) =
    let l = note_send k p.0 (destinations f z) (attached f z) z in
    pick (eqb z.nd 0) (note_seed l p.0 (nodes_of k p.0 (attached f z))) l
note k f a (Receive p room) = pick (answers_message a) (note_receive k p.0 (shown_ids a) (k.queue p.0)) k
note k f a (Quota p u) = k
note k f a (Holders p i) = k
note k f a (ShowSeed p room) = learn k p.0 (shown_ids a) (k.seed p.0)

abbrev pub note_parsed : Book → List ℕ → List ℕ → Parsed → Book
note_parsed k f a (Err r) = k
note_parsed k f a (Ok c) = note k f a c

-- What the book is fed of a command.
pub record Fed : Type 0 where
  pub frame : List ℕ
  pub number : ℕ
  pub answer : List ℕ

-- "any refused command (number written or only returned), changes nothing".
unfoldable pub feed : Book → Fed → Book
feed k x = pick (eqb x.number 0) (note_parsed k x.frame x.answer (parse x.frame)) k

unfoldable pub feed_all : Book → List Fed → Book
feed_all k [] = k
feed_all k (x ∷ xs) = feed_all (feed k x) xs

-- "Queued is sent less received less dropped."
abbrev pub queued : Book → ℕ → ℕ → Resource → ℕ
queued k q u r = k.sent q u r - k.received q u r - k.dropped q u r

-- "what the other users have queued".
abbrev pub others_queued : Book → ℕ → ℕ → Resource → ℕ
others_queued k q u r = sum_to (λ v. pick (eqb v u) 0 (queued k q v r)) users

-- A frame that is a send, well formed or not, as far as it says something.
abbrev pub is_send : List ℕ → Bool
is_send f = eqb (opcode f) 7

-- A seed is a send with no destinations; the totals leave it out.
abbrev pub is_seed : List ℕ → Bool
is_seed f = both (eqb (opcode f) 7) (eqb (get_or f 2 0) 0)

abbrev pub acting_peer : List ℕ → ℕ
acting_peer f = get_or f 1 0

abbrev pub sizes_of : List ℕ → Sizes
sizes_of f = record { nd = get_or f 2 0; nh = get_or f 3 0; nb = short_at f 4 }

-- How many of its destination IDs name a node that the peer q owns.
unfoldable pub goes_to : Book → List ℕ → ℕ → ℕ
goes_to k f q = length (keep (owned_by q) (nodes_of k (acting_peer f) (destinations f (sizes_of f))))

-- "a sender without a user has nothing queued".
abbrev pub sender_has : Book → List ℕ → ℕ → Resource → ℕ
sender_has k f q r = let u = k.user (acting_peer f) in pick (ltb u users) (queued k q u r) 0

-- "What a send would leave at a peer is what its user has queued there plus a message for each destination ID whose node that peer owns".
unfoldable pub would_leave : Book → List ℕ → ℕ → Resource → ℕ
would_leave k f q r = sender_has k f q r + goes_to k f q * weigh r (sizes_of f).nb (sizes_of f).nh
