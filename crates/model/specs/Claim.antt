-- The third demand: the statement. `Claim` speaks of the book and of what the next call gives, and names no state; `ThirdDemand` names the bus only to say of which calls it holds.
-- Assumes nothing.
use Rattle.std.specs.Prelude.{ℕ, ◌+◌, ◌≤◌, ◌<◌, ◌≡◌, true, List, [], ◌∷◌, get_or, eqb}
use Rattle.model.specs.Lists.{either}
use Rattle.ids.specs.Refusals.{EDQUOT}
use Rattle.laws.specs.Bytes.{num_at}
use Rattle.frames.specs.Frame.{opcode}
use Rattle.quota.specs.Charges.{users}
use Rattle.model.specs.Resources.{Resource, Resource.messages, Resource.bytes, Resource.handles, most, share}
use Rattle.model.specs.State.{State, start}
use Rattle.model.specs.Step.{Call, Result, step, run, answer_of}
use Rattle.model.specs.Book.{Book, Fed, empty, feed, feed_all, queued, is_send, is_seed, acting_peer, goes_to, would_leave}

-- Where the quota question's answer reports what is queued of a resource: "messages, bytes, handles .. (2 bytes each)" behind the 00.
abbrev pub reported : Resource → List ℕ → ℕ
reported messages a = num_at a 1 2
reported bytes a = num_at a 3 2
reported handles a = num_at a 5 2

-- The book k after any list of calls, and x, what a next call with any frame and any answer buffer gives.
pub record Claim (k : Book) (x : Fed) : Type 0 where
  -- At no peer has a user more than 32 messages, 2,048 bytes or 32 handles queued.
  pub bounded : (q u : ℕ) (r : Resource) → u < users → queued k q u r ≤ most r
  -- A send that would leave its user with at most 4 messages, 256 bytes and 4 handles queued at each peer that it goes to is not refused for quota.
  pub assured : is_send x.frame ≡ true → ((q : ℕ) (r : Resource) → 0 < goes_to k x.frame q → would_leave k x.frame q r ≤ share r) → x.number ≡ EDQUOT → ⊥
  -- The quota question, where it is not refused, reports as queued exactly the book's numbers.
  pub reports : opcode x.frame ≡ 9 → x.number ≡ 0 → (r : Resource) → reported r x.answer ≡ queued k (acting_peer x.frame) (get_or x.frame 2 0) r
  -- 02 No. 1: "The statement about queued totals leaves seeds out by name". Neither 07 with nd 0 nor 0c, whatever comes back, changes any queued total.
  pub seeds : either (is_seed x.frame) (eqb (opcode x.frame) 12) ≡ true → (q u : ℕ) (r : Resource) → queued (feed k x) q u r ≡ queued k q u r
  -- Received plus dropped never exceed sent.
  pub sums : (q u : ℕ) (r : Resource) → k.received q u r + k.dropped q u r ≤ k.sent q u r

-- What the book is fed of a call and its result: the frame, the number and the written part of the answer buffer.
abbrev pub fed : Call → Result → Fed
fed c r = record { frame = c.frame; number = r.outcome.number; answer = answer_of r }

-- What it is fed of a run.
unfoldable pub history_from : State → List Call → List Fed
history_from b [] = []
history_from b (c ∷ cs) = let r = step b c in fed c r ∷ history_from r.state cs

abbrev pub book_after : List Call → Book
book_after cs = feed_all empty (history_from start cs)

-- "Demand 3 is a single claim about the whole list of commands": for every list of calls from a fresh bus, and every next call, "with any frame and any answer buffer".
abbrev pub ThirdDemand : Type 0
ThirdDemand = (cs : List Call) (c : Call) → Claim (book_after cs) (fed c (step (run cs) c))
