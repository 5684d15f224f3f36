-- The third demand, "a single claim about the whole list of commands": of the exchanges of any run and of every next one, in one record.
-- Assumes nothing.
use Rattle.std.specs.Prelude.{ℕ, ◌+◌, ◌≤◌, ◌<◌, ◌≡◌, true, List, [], ◌∷◌, ◌++◌, get_or, eqb}
use Rattle.ids.specs.Refusals.{EDQUOT}
use Rattle.frames.specs.Frame.{opcode}
use Rattle.model.specs.Resources.{Resource, most, share}
use Rattle.model.specs.Lists.{either}
use Rattle.model.specs.Book.{Book, feed, queued, is_send, is_seed, acting_peer, goes_to, would_leave}
use Rattle.model.specs.Claim.{reported}
use Rattle.model.specs.Rows.{book_of}
use Rattle.view.specs.View.{Bus}
use Rattle.bus_model.specs.Ran.{Exchange, answer_in, fed_of, As-model, state_after, Modelled}
use Rattle.bus_model.specs.Histories.{history_of, Answered}

-- The book that is fed the exchanges and nothing else.
abbrev pub book : List Exchange → Book
book xs = book_of (history_of xs)

-- What is demanded of an exchange x that comes next after the exchanges xs.
pub record Next (xs : List Exchange) (x : Exchange) : Type 0 where
  -- It is answered as demand 2 says, on the bus as the last one left it.
  pub modelled : As-model (state_after xs) x
  pub answered : Answered (history_of xs) x
  -- A send that would leave its user with at most 4 messages, 256 bytes and 4 handles queued at each peer that it goes to is not refused for quota: neither the number nor the answer
  -- is 122.
  pub assured : is_send x.call.frame ≡ true → ((q : ℕ) (r : Resource) → 0 < goes_to (book xs) x.call.frame q → would_leave (book xs) x.call.frame q r ≤ share r) →
      (x.outcome.number ≡ EDQUOT → ⊥) × (answer_in x ≡ EDQUOT ∷ [] → ⊥)
  -- The quota question, where it is not refused, reports as queued exactly the book's numbers.
  pub reports : opcode x.call.frame ≡ 9 → x.outcome.number ≡ 0 → (r : Resource) →
      reported r (answer_in x) ≡ queued (book xs) (acting_peer x.call.frame) (get_or x.call.frame 2 0) r
  -- "The statement about queued totals leaves seeds out by name": neither one that is set nor one that is shown changes any.
  pub seeds : either (is_seed x.call.frame) (eqb (opcode x.call.frame) 12) ≡ true → (q u : ℕ) (r : Resource) →
      queued (feed (book xs) (fed_of x)) q u r ≡ queued (book xs) q u r

-- What is demanded of the exchanges xs, which left the bus b, and of the book that is fed them and nothing else.
pub record Demanded (xs : List Exchange) (b : Bus) : Type 0 where
  -- Each was answered as demand 2 says, on the bus as the one before left it.
  pub modelled : Modelled xs b
  pub answered : (before after : List Exchange) (x : Exchange) → xs ≡ before ++ (x ∷ after) → Answered (history_of before) x
  -- At no peer has a user more than 32 messages, 2,048 bytes or 32 handles queued; received plus dropped never exceed sent.
  pub bounded : (q u : ℕ) (r : Resource) → queued (book xs) q u r ≤ most r
  pub sums : (q u : ℕ) (r : Resource) → (book xs).received q u r + (book xs).dropped q u r ≤ (book xs).sent q u r
