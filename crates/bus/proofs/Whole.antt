-- What document 01 promises, of runs of calls of the code (Calls): of each call nothing is known but what the function's own contract ensures.
-- Assumes nothing.
use Rattle.std.specs.Prelude.{Ok}
use Prim.Native.Nat.{ℕ, suc, ◌-◌, ◌^◌, ◌%◌, ◌≤◌, ◌<◌}
use mathlib.Core.Path.{◌≡◌, refl, sym, ap, subst, ◌∙◌}
use mathlib.Core.Bool.{true, false}
use mathlib.Core.Logic.{◌⊎◌}
use mathlib.Core.List.{List, [], ◌∷◌, ◌++◌, map}
use lib.ListN.{length, drop}
use contract.Lifetimes
use borrow.Fn.World
use borrow.Fn.Kinds as Kinds'
use denote.Triple.Clauses
use Rattle.laws.specs.Weights.{All, all-imp}
use Rattle.ids.specs.Refusals.{EIO, EINVAL, EAGAIN}
use Rattle.ids.specs.declared.Peer.{Peer}
use Rattle.frames.specs.declared.Command.TheVariants.{ShowSeed}
use Rattle.frames.specs.Frame.{opcode, parse}
use Rattle.answers.specs.declared.Outcome.{Outcome}
use Rattle.answers.specs.Answer.{answer_size}
use Rattle.quota.specs.Rule.{left}
use Rattle.model.specs.Numbers.{peers}
use Rattle.model.specs.State.{is_live, slot, Status.opened}
use Rattle.model.specs.Step.{Call}
use Rattle.model.specs.QueuesLaws.{In}
use Rattle.model.specs.Notices.{Unnamed}
use Rattle.model.specs.Book.{Node, Fed, answers_message, acting_peer}
use Rattle.model.specs.Ledger.{Letter, Item, is_told}
use Rattle.model.specs.Rows.{book_of, ledger_of, stands_in}
use Rattle.model.specs.Tally.{tally}
use Rattle.model.specs.Happened.{Happened, happened-front}
use Rattle.model.specs.Delivered.{Delivered}
use Rattle.model.proofs.DeliveredProof.{delivers}
use Rattle.model.specs.Noticed.{Tells}
use Rattle.model.proofs.Noticed.{notices-tell}
use Rattle.model.specs.Shows.{Shows, Takes, ShownAsHeld, CreatedAnew}
use Rattle.model.proofs.ShowsOnce.{given-for-one}
use Rattle.model.proofs.ShowsAnew.{chosen-for-another}
use Rattle.model.proofs.ShowsHeld.{messages-as-held}
use Rattle.model.specs.Seeds.{LastSeed, SeedShown}
use Rattle.model.proofs.SeedsLast.{none-gives-eleven}
use Rattle.model.proofs.SeedsProof.{shows-last-seed}
use Rattle.model.specs.Given.{GivenOnce}
use Rattle.model.specs.GivenIn.{given_in}
use Rattle.model.proofs.GivenIn.{given-in}
use Rattle.model.specs.HandlesIn.{HandlesOf, OrderedIn}
use Rattle.model.proofs.HandlesIn.{handles-in, order-in}
use Rattle.model.specs.OneOrderIn.{Took}
use Rattle.model.proofs.OneOrderIn.{took-one-order}
use Rattle.model.specs.InPlace.{CameOut}
use Rattle.model.specs.Waits.{receives_in, taken_in, LapsedIn, LostIn}
use Rattle.model.specs.WaitsPlace.{LostAt, Fate}
use Rattle.model.proofs.WaitsPlace.{fate-in, in-time-at}
use Rattle.model.specs.Waiting.{notices_of, WaitingAt}
use Rattle.model.proofs.Waiting.{waiting-in, lapsed-leaves}
use Rattle.model.specs.ByOrder.{Destruction, ShownByOrder, Told, Got, BeenTold}
use Rattle.model.proofs.ByOrderTold.{nobody-untold, died-by, told-of-it}
use Rattle.model.proofs.ByOrderProof.{shows-by-order, notice-follows, told-once}
use Rattle.model.specs.LedgerLaws.{Does, id_in, DestroyDoes, ReleaseDoes, SendDoes, DisconnectDoes}
use Rattle.model.proofs.LedgerLawsProof.{destroy-in, release-in, send-in, disconnect-in}
use Rattle.model.specs.Scripts.{Row, Row.played, Row.ruled, last_of}
use Rattle.model.specs.Table.{table}
use Rattle.model.specs.Examples.{examples}
use Rattle.tables.specs.Handles.{lookup, slot_found, find_at}
use Rattle.tables.specs.contracts.seek as seek
use Rattle.tables.proofs.seek.Kinds as seek-kinds
use Rattle.tables.proofs.seek.Reads as seek-reads
use Rattle.view.specs.View.{Bus, state_of}
use Rattle.bus_model.specs.Command.{command_of, fresh_of}
use Rattle.bus_model.specs.Ran.{Exchange, answer_in, exchange_of, state_after}
use Rattle.bus_model.specs.Demands.{code-refusals}
use Rattle.bus_model.proofs.Demands.{never-five}
use Rattle.bus_model.specs.Searched.{Search}
use Rattle.bus_model.proofs.Searched.{every-search}
use Rattle.bus_model.specs.Marked.{Large, Holds, Made, fresh-made-as}
use Rattle.bus_model.proofs.Marked.{code-marks, code-examples}
use Rattle.bus_model.specs.Untouched.{Written, code-tail, code-questions}
use Rattle.bus_model.specs.Histories.{history_of}
use Rattle.bus_model.proofs.Histories.{ran-happened, code-slot-stays}
use Rattle.bus_model.specs.Third.{Next, Demanded}
use Rattle.bus_model.proofs.Third.{code-demanded, code-next}
use Rattle.bus.proofs.Calls.{Arguments, Returned, Left, bus_in, bus_out, call_in, exchanged, FreshArguments, FreshReturned, FreshLeft, old_in, made_out, made-said, Calls, left_is, calls-ran}
use Rattle.bus.proofs.command.Reads as command-reads
use Rattle.bus.proofs.fresh.Reads as fresh-reads

-- A call of `fresh`, over any buffers: the number is 0 exactly where every buffer has its length, and then the bus is a fresh one; otherwise it is 5, and nothing is written.
pub fresh-number-of-calls : (κs : Lifetimes.Lfts 10) (a : FreshArguments κs) (r : FreshReturned κs) (s : FreshLeft κs) → fresh-reads.Learnt κs a r s →
    Made (old_in κs a) r (made_out κs s)
fresh-number-of-calls κs a r s l =
    let m = made-said κs a r s l in
    subst (λ (w : Bus). Made (old_in κs a) r w) (sym m.1) (subst (λ (n : ℕ). Made (old_in κs a) n (fresh_of (old_in κs a))) (sym m.0) (fresh-made-as (old_in κs a)))

-- What is exchanged in calls, the frames, numbers and answers, is a history: what holds of every history holds of it.
pub happened-of-calls : (xs : List Exchange) (b : Bus) → Calls xs b → Happened (history_of xs)
happened-of-calls xs b t = ran-happened (calls-ran t)

-- The promises in words of frames and answers alone, with the book and the ledger that are fed them. hs are the exchanges of any calls; wherever their history is cut.
module _ (hs : List Exchange) (b : Bus) (t : Calls hs b) where
  cut_at : (xs : List Fed) → history_of hs ≡ xs → Happened xs
  cut_at xs e = subst Happened e (happened-of-calls hs b t)

  -- What is shown is what was sent: every receive answered 01.
  pub delivers-of-calls : (xs ys : List Fed) (x : Fed) → history_of hs ≡ xs ++ (x ∷ ys) → x.number ≡ 0 → opcode x.frame ≡ 8 → answers_message x.answer ≡ true → Delivered xs x
  delivers-of-calls xs ys x e = delivers xs ys x (cut_at (xs ++ (x ∷ ys)) e)

  -- What a notice tells: every receive answered 02 or 03.
  pub notices-tell-of-calls : (xs ys : List Fed) (x : Fed) → history_of hs ≡ xs ++ (x ∷ ys) → x.number ≡ 0 → opcode x.frame ≡ 8 → Tells xs x
  notices-tell-of-calls xs ys x e = notices-tell xs ys x (cut_at (xs ++ (x ∷ ys)) e)

  -- An ID that the bus gave and that was shown at a peer for a node is never shown at that peer for another.
  pub given-for-one-of-calls : (xs ys zs : List Fed) (x z : Fed) → history_of hs ≡ (xs ++ (x ∷ ys)) ++ (z ∷ zs) → (p i : ℕ) (n m : Node) → i % 4 ≡ 3 →
      Shows xs x p i n → Shows (xs ++ (x ∷ ys)) z p i m → n ≡ m
  given-for-one-of-calls xs ys zs x z e = given-for-one xs ys zs x z (cut_at ((xs ++ (x ∷ ys)) ++ (z ∷ zs)) e)

  -- Where an ID is shown for a node and later for another, the peer itself created it anew in between, the first node destroyed and its own handle gone; from then on nothing of the first
  -- node is shown at this peer.
  pub chosen-for-another-of-calls : (xs ys zs : List Fed) (x z : Fed) → history_of hs ≡ (xs ++ (x ∷ ys)) ++ (z ∷ zs) → (p i : ℕ) (n m : Node) →
      Shows xs x p i n → Shows (xs ++ (x ∷ ys)) z p i m → (n ≡ m → ⊥) → CreatedAnew xs x ys z zs p i n
  chosen-for-another-of-calls xs ys zs x z e = chosen-for-another xs ys zs x z (cut_at ((xs ++ (x ∷ ys)) ++ (z ∷ zs)) e)

  -- A message is shown under the ID by which the peer holds, at that moment, the node to which it was sent.
  pub messages-as-held-of-calls : (xs ys : List Fed) (x : Fed) → history_of hs ≡ xs ++ (x ∷ ys) → (p : ℕ) → Takes p 1 x → ShownAsHeld xs x p
  messages-as-held-of-calls xs ys x e = messages-as-held xs ys x (cut_at (xs ++ (x ∷ ys)) e)

  -- IDs are never given twice; a peer has one ID for a node, chosen by its owner, given to every other.
  pub given-of-calls : (p : ℕ) → GivenOnce (given_in p (history_of hs)) ((ledger_of (history_of hs)).given p)
  given-of-calls = given-in (history_of hs) (happened-of-calls hs b t)

  pub handles-of-calls : (p : ℕ) → HandlesOf (book_of (history_of hs)) (ledger_of (history_of hs)) p
  handles-of-calls = handles-in (history_of hs) (happened-of-calls hs b t)

  -- Each queue is in the order of accepted commands; one order for everyone.
  pub order-of-calls : (p : ℕ) → OrderedIn (history_of hs) ((ledger_of (history_of hs)).queue p)
  order-of-calls = order-in (history_of hs) (happened-of-calls hs b t)

  pub one-order-of-calls : (xs ys zs us vs ws : List Fed) (x y z w : Fed) (p q n m : ℕ) → history_of hs ≡ (xs ++ (x ∷ ys)) ++ (y ∷ zs) → history_of hs ≡ (us ++ (z ∷ vs)) ++ (w ∷ ws) →
      Took xs x p n → Took (xs ++ (x ∷ ys)) y p m → Took us z q m → Took (us ++ (z ∷ vs)) w q n → n ≡ m
  one-order-of-calls = took-one-order (history_of hs) (happened-of-calls hs b t)

  -- An item with k ahead of it, from place to place: it comes out at or before receive k + 1, or has been dropped or withdrawn.
  pub in-time-of-calls : (xs ys : List Fed) → history_of hs ≡ xs ++ ys → (p : ℕ) (ahead behind-it : List Item) (e : Item) → (ledger_of xs).queue p ≡ ahead ++ (e ∷ behind-it) →
      length ahead < receives_in p ys → LostAt xs ys p ahead e ⊎ CameOut (LostIn xs ys p) ahead e (taken_in xs ys p)
  in-time-of-calls xs ys e = in-time-at xs ys (cut_at (xs ++ ys) e)

  -- Whatever the calls are, it is lost for one of the reasons (`LapsedIn`), or came out, or still waits.
  pub fate-of-calls : (xs ys : List Fed) → history_of hs ≡ xs ++ ys → (p : ℕ) (ahead behind-it : List Item) (e : Item) → (ledger_of xs).queue p ≡ ahead ++ (e ∷ behind-it) →
      Fate xs ys p ahead e
  fate-of-calls xs ys e = fate-in xs ys (cut_at (xs ++ ys) e)

  -- Document 02, No. 1: an accepted 0c shows the last accepted 07 with nd 0 of its peer, sizes and payload to the byte, and of each attached ID the node that it named then.
  pub shows-last-seed-of-calls : (xs ys : List Fed) (x : Fed) → history_of hs ≡ xs ++ (x ∷ ys) → x.number ≡ 0 → opcode x.frame ≡ 12 →
      LastSeed xs (acting_peer x.frame) × ((s : LastSeed xs (acting_peer x.frame)) → SeedShown xs x (acting_peer x.frame) s)
  shows-last-seed-of-calls xs ys x e = shows-last-seed xs ys x (cut_at (xs ++ (x ∷ ys)) e)

  -- 0c is 11 exactly where there is no such 07 and no row before it in the order applies.
  pub none-gives-eleven-of-calls : (xs ys : List Fed) (x : Fed) → history_of hs ≡ xs ++ (x ∷ ys) → (p : Peer) (room : ℕ) → parse x.frame ≡ Ok (ShowSeed p room) →
      (x.number ≡ EAGAIN → LastSeed xs p.0 → ⊥)
      × ((LastSeed xs p.0 → ⊥) → (x.number ≡ EINVAL → ⊥) → tally xs < 2 ^ 40 - 1 → stands_in xs p.0 ≡ opened → x.number ≡ EAGAIN)
  none-gives-eleven-of-calls xs ys x e = none-gives-eleven xs ys x (cut_at (xs ++ (x ∷ ys)) e)

  -- Document 02, No. 2, invalid handles by order. S is the accepted send of a message, D the accepted destroy of a node or disconnect of its owner (`Destruction`).
  -- (a) What a receive answered 01 takes out (`delivers-of-calls`) shows all ones at a place exactly where D came before S, or D came after S and the receiver is the node's owner and its own
  -- handle is gone; else the ID that the receiver holds for the node, or the next new one. A seed is left out: it shows all ones exactly from D on (`shows-last-seed-of-calls`).
  pub shows-by-order-of-calls : (xs ys : List Fed) (x : Fed) → history_of hs ≡ xs ++ (x ∷ ys) → (d : Delivered xs x) → ShownByOrder xs x (acting_peer x.frame) d
  shows-by-order-of-calls xs ys x e = shows-by-order xs ys x (cut_at (xs ++ (x ∷ ys)) e)

  -- (b) The notice of D comes out behind every message that was sent before D; after it none of these comes out there. The number k of a notice that is shown is D's.
  pub notice-follows-of-calls : (xs ys zs : List Fed) (x z : Fed) → history_of hs ≡ (xs ++ (x ∷ ys)) ++ (z ∷ zs) → (p k j : ℕ) (n : Node) (m : Letter) →
      Told xs x p k n → Got (xs ++ (x ∷ ys)) z p j m → k ≤ j
  notice-follows-of-calls xs ys zs x z e = notice-follows xs ys zs x z (cut_at ((xs ++ (x ∷ ys)) ++ (z ∷ zs)) e)

  pub told-of-it-of-calls : (xs ys : List Fed) (x : Fed) → history_of hs ≡ xs ++ (x ∷ ys) → (p k : ℕ) (n : Node) → Told xs x p k n → Destruction xs k n
  told-of-it-of-calls xs ys x e = told-of-it xs ys x (cut_at (xs ++ (x ∷ ys)) e)

  -- (c) Nobody is left untold: of a destroyed node that p holds, or that a message brings which was sent before D and waits for p, exactly one notice waits for p, or p has been shown it.
  -- The number by which the ledger has the node destroyed is D's.
  pub nobody-untold-of-calls : (p : ℕ) → p < peers → (N : ℕ) → N < (book_of (history_of hs)).entered → (ledger_of (history_of hs)).lives N ≡ false →
      is_told ((ledger_of (history_of hs)).handle p) ((ledger_of (history_of hs)).queue p) ((ledger_of (history_of hs)).died N) N ≡ true →
      (notices_of N ((ledger_of (history_of hs)).queue p) ≡ 1) ⊎ BeenTold (history_of hs) p N
  nobody-untold-of-calls = nobody-untold (history_of hs) (happened-of-calls hs b t)

  pub died-by-of-calls : (n : Node) → n.number < (book_of (history_of hs)).entered → (ledger_of (history_of hs)).maker n.number ≡ n.owner → (ledger_of (history_of hs)).lives n.number ≡ false →
      Destruction (history_of hs) ((ledger_of (history_of hs)).died n.number) n
  died-by-of-calls = died-by (history_of hs) (happened-of-calls hs b t)

  -- (d) Nobody is told for nothing: a notice is shown to a peer that then holds the node, under the ID that it then has (`notices-tell-of-calls`), and at most once for a peer and node. One that
  -- waits has a handle or an earlier message; and the one that loses both does not wait after that call (`lapsed-leaves-of-calls`), nor does it leave unshown otherwise (`fate-of-calls`).
  pub told-once-of-calls : (xs ys zs : List Fed) (x z : Fed) → history_of hs ≡ (xs ++ (x ∷ ys)) ++ (z ∷ zs) → (p k j : ℕ) (n m : Node) →
      Told xs x p k n → Told (xs ++ (x ∷ ys)) z p j m → n.number ≡ m.number → ⊥
  told-once-of-calls xs ys zs x z e = told-once xs ys zs x z (cut_at ((xs ++ (x ∷ ys)) ++ (z ∷ zs)) e)

  pub waiting-of-calls : (p : ℕ) → WaitingAt (ledger_of (history_of hs)) p
  waiting-of-calls = waiting-in (history_of hs) (happened-of-calls hs b t)

  -- What one command does to every queue: a destroy's and a release's notices, a send's messages, a disconnect's notices, those and no others.
  module _ (xs ys : List Fed) (x : Fed) (e : history_of hs ≡ (xs ++ (x ∷ [])) ++ ys) (p : ℕ) where
    cut-here : Happened (xs ++ (x ∷ []))
    cut-here = happened-front (xs ++ (x ∷ [])) ys (cut_at ((xs ++ (x ∷ [])) ++ ys) e)

    pub destroy-of-calls : Does 4 p x → DestroyDoes (book_of xs) (ledger_of xs) (ledger_of (xs ++ (x ∷ []))) (suc (tally xs)) p (id_in x)
    destroy-of-calls = destroy-in xs x cut-here p

    pub release-of-calls : Does 5 p x → ReleaseDoes (book_of xs) (ledger_of xs) (ledger_of (xs ++ (x ∷ []))) (suc (tally xs)) p (id_in x)
    release-of-calls = release-in xs x cut-here p

    pub send-of-calls : Does 7 p x → SendDoes (book_of xs) (ledger_of xs) (ledger_of (xs ++ (x ∷ []))) (suc (tally xs)) p x.frame
    send-of-calls = send-in xs x cut-here p

    pub disconnect-of-calls : Does 2 p x → DisconnectDoes (ledger_of xs) (ledger_of (xs ++ (x ∷ []))) (suc (tally xs)) p
    disconnect-of-calls = disconnect-in xs x cut-here p

    -- What has a reason to leave the queue of p does not wait after the call.
    pub lapsed-leaves-of-calls : (i : Item) → In i ((ledger_of xs).queue p) → LapsedIn (ledger_of xs) (ledger_of (xs ++ (x ∷ []))) p i → In i ((ledger_of (xs ++ (x ∷ []))).queue p) → ⊥
    lapsed-leaves-of-calls = lapsed-leaves xs x cut-here p

-- 5 is never given in a run.
pub never-five-of-calls : (xs : List Exchange) (b : Bus) → Calls xs b → All (λ x. x.outcome.number ≡ EIO → ⊥) xs
never-five-of-calls xs b t = never-five xs b (calls-ran t)

-- Document 02, No. 3, of every bus that calls leave, every peer and every ID: the search finds the slot at which the peer holds the ID, or none, and its answer depends on the entries at
-- at most 16 places and on nothing else.
module _ (xs : List Exchange) (b : Bus) (t : Calls xs b) where
  pub search-of-calls : (p i : ℕ) → p < 8 → Search b (state_after xs) p i
  search-of-calls p i l = every-search (calls-ran t) p i l

  -- Of the search in the code, of which nothing is known but its contract, on that bus: what it finds is that slot, and the entries that it has read are at most 16.
  pub seek-of-calls : (κs : Lifetimes.Lfts 1) (a : World.ArgsD seek.signature κs) (r : World.ResD seek.signature κs) (s : Clauses.AtExit (Kinds'.ended_of 1 seek-kinds.ps seek-kinds.r) κs) →
      seek-reads.Learnt κs a r s → a.0.now ≡ b.handles → a.1.0.0 < 8 →
      (slot_found r.found ≡ slot (state_after xs) a.1.0.0 a.1.1.0.0) × (r.reads ≤ 16)
  unfolding find_at
  seek-of-calls κs a r s l e p =
      (ap slot_found l.0 ∙ ap (λ (h : List ℕ). slot_found (lookup h a.1.0.0 a.1.1.0.0)) e ∙ (search-of-calls a.1.0.0 a.1.1.0.0 p).right, l.1)

-- A refusal leaves every bus buffer as it was, and of the answer buffer writes one byte or none. Of a call on any bus, not of runs alone.
pub record LeftAlone (b after : Bus) (c : Call) (o : Outcome) (out : List ℕ) : Type 0 where
  pub bus : after ≡ b
  pub short : length c.buffer < answer_size → (o ≡ record { number = EINVAL; len = 0 }) × (out ≡ c.buffer)
  pub byte : answer_size ≤ length c.buffer → (o.len ≡ 1) × (out ≡ o.number ∷ drop 1 c.buffer)

pub refusals-of-calls : (κs : Lifetimes.Lfts 12) (a : Arguments κs) (r : Returned κs) (s : Left κs) → command-reads.Learnt κs a r s → (r.number ≡ 0 → ⊥) →
    LeftAlone (bus_in κs a) (bus_out κs s) (call_in κs a) r (exchanged κs a r s).after
refusals-of-calls κs a r s l h =
    let b = bus_in κs a in
    let c = call_in κs a in
    let x = left_is κs a r s b refl l in
    let same : r ≡ (exchange_of b c).outcome = ap (λ (z : Exchange). z.outcome) x.0 in
    let k = code-refusals b c (λ e. h (ap (λ (o : Outcome). o.number) same ∙ e)) in
    let done : LeftAlone b (command_of b c.frame c.buffer).bus c (exchange_of b c).outcome (exchange_of b c).after = record { bus = k.bus; short = k.short; byte = k.byte } in
    subst (λ (w : Bus). LeftAlone b w c r (exchanged κs a r s).after) (sym x.1)
    (subst (λ (z : Exchange). LeftAlone b (command_of b c.frame c.buffer).bus c z.outcome z.after) (sym x.0) done)

-- M1 to M10, S and the second table.
abbrev pub HoldsOfCalls : Row → Type 0
HoldsOfCalls (played fs rs) =
    (xs : List Exchange) (b : Bus) → Calls xs b → map (λ x. x.call.frame) xs ≡ fs → All (λ x. Large x.call) xs → last_of (length rs) (map answer_in xs) ≡ rs
HoldsOfCalls (ruled limit others own rest) = left limit others own ≡ rest

held-row : (r : Row) → Holds r → HoldsOfCalls r
held-row (played fs rs) h = λ xs b t. h xs b (calls-ran t)
held-row (ruled limit others own rest) h = h

pub marks-of-calls : All HoldsOfCalls table
marks-of-calls = all-imp Holds HoldsOfCalls held-row table code-marks

pub examples-of-calls : All HoldsOfCalls examples
examples-of-calls = all-imp Holds HoldsOfCalls held-row examples code-examples

-- The third demand, whole: of any list of calls, of the book that is fed them, and of every next call.
pub record DemandThree (xs : List Exchange) (b : Bus) : Type 0 where
  pub run : Demanded xs b
  pub next : (κs : Lifetimes.Lfts 12) (a : Arguments κs) (r : Returned κs) (s : Left κs) → bus_in κs a ≡ b → command-reads.Learnt κs a r s →
      Next xs (exchanged κs a r s)

pub demand-three-of-calls : (xs : List Exchange) (b : Bus) → Calls xs b → DemandThree xs b
demand-three-of-calls xs b t =
    record {
      run = code-demanded xs b (calls-ran t);
      next = λ κs a r s e l. subst (λ (x : Exchange). Next xs x) (sym (left_is κs a r s b e l).0) (code-next xs b (calls-ran t) (call_in κs a));
    }

-- "Reusing a dead node's record while a queued message names it": a slot stays with its node while anything names it.
module _ (xs : List Exchange) (b : Bus) (t : Calls xs b) (κs : Lifetimes.Lfts 12) (a : Arguments κs) (r : Returned κs) (s : Left κs) (e : bus_in κs a ≡ b)
    (l : command-reads.Learnt κs a r s) where
  pub slot-stays-of-calls : (n : ℕ) → is_live ((state_of b).life n) ≡ false → is_live ((state_of (bus_out κs s)).life n) ≡ true → Unnamed (state_of b) n
  slot-stays-of-calls n d h = code-slot-stays xs b (calls-ran t) (call_in κs a) n d (subst (λ (w : Bus). is_live ((state_of w).life n) ≡ true) (left_is κs a r s b e l).1 h)

-- What a call leaves alone, on any bus: the answer buffer behind the answer's length; and, for a question, every byte of the bus.
module _ (κs : Lifetimes.Lfts 12) (a : Arguments κs) (r : Returned κs) (s : Left κs) (l : command-reads.Learnt κs a r s) where
  pub tail-of-calls : Written (call_in κs a).buffer r.number r.len (exchanged κs a r s).after
  tail-of-calls =
      subst (λ (x : Exchange). Written (call_in κs a).buffer x.outcome.number x.outcome.len x.after) (sym (left_is κs a r s (bus_in κs a) refl l).0)
      (code-tail (bus_in κs a) (call_in κs a))

  pub questions-of-calls : (opcode (call_in κs a).frame ≡ 9) ⊎ (opcode (call_in κs a).frame ≡ 10) → bus_out κs s ≡ bus_in κs a
  questions-of-calls h = (left_is κs a r s (bus_in κs a) refl l).1 ∙ code-questions (bus_in κs a) (call_in κs a) h
