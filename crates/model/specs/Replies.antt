-- The reply of each command that is not refused: the kind of answer with its contents, and beside it the IDs and the payload of a message.
-- Assumes nothing.
use Rattle.std.specs.Prelude.{ℕ, suc, ◌^◌, Bool, false, List, [], ◌∷◌, length, eqb}
use Rattle.laws.specs.Tests.{pick}
use Rattle.laws.specs.Sums.{sum_to}
use Rattle.frames.specs.declared.Command.{Command}
use Rattle.frames.specs.declared.Command.TheVariants.{Open, Disconnect, Create, Destroy, Release, Transfer, Send, Receive, Quota, Holders, ShowSeed}
use Rattle.quota.specs.Charges.{balance_of}
use Rattle.answers.specs.declared.Received.TheVariants.{Message as a_message, Destroyed as a_destroyed, Released as a_released, Seed as a_seed}
use Rattle.answers.specs.declared.Answer.{Answer}
use Rattle.answers.specs.declared.Answer.TheVariants.{Done as is_done, Transferred as is_transferred, Received as is_received, Quota as is_quota, Holders as is_holders}
use Rattle.model.specs.Numbers.{peers, invalid}
use Rattle.model.specs.Lists.{any}
use Rattle.model.specs.State.{held, id_or, Message, Entry, Entry.message, Entry.destroyed, Entry.released, Seed, Seed.unset, Seed.kept, State, slot}
use Rattle.model.specs.Changes.{take_out, shown, shown_all}

pub record Reply : Type 0 where
  pub answer : Answer
  pub ids : List ℕ
  pub payload : List ℕ

abbrev pub plain : Answer → Reply
plain a = record { answer = a; ids = []; payload = [] }

-- "The flag is 1 if, when it is taken out, another message of the same send is queued behind it at that peer."
abbrev pub of_send : ℕ → Entry → Bool
of_send n (message k m) = eqb k n
of_send n (destroyed k s) = false
of_send n (released k s) = false

-- "01, destination ID, sender's user (1), flag (1), nb (2), nh (1), IDs, payload". In a run the destination ID is never the invalid one: a message stands only while its peer, the owner,
-- holds its node (`Stands` in Notices).
unfoldable pub shows_message : State → ℕ → ℕ → Message → List Entry → Reply
shows_message b p n m rest =
    record {
      answer =
          is_received
          (a_message
          (record {
            to = record { 0 = id_or invalid (b.handle p m.to) };
            user = record { 0 = m.user };
            flag = any (of_send n) rest;
            nb = length m.payload;
            nh = length m.carried;
          }));
      ids = shown_all (take_out b p (m ∷ []) rest) p n m.carried;
      payload = m.payload;
    }

-- "or 02 and an ID (node destroyed); or 03 and an ID (node released)": the peer's own ID of the node, the one of now. In a run it is never the invalid one: a notice that stands first is for
-- a node that its peer holds (FirstHeld.antt). And no run reaches `[]`: a receive with nothing queued is refused with 11.
abbrev pub shows : State → ℕ → List Entry → Reply
shows b p [] = plain is_done
shows b p (message n m ∷ q) = shows_message b p n m q
shows b p (destroyed n s ∷ q) = plain (is_received (a_destroyed (record { 0 = id_or invalid (b.handle p s) })))
shows b p (released n s ∷ q) = plain (is_received (a_released (record { 0 = id_or invalid (b.handle p s) })))

-- 0c: "shows the seed as kind 04 with a message's fields, destination all ones, flag 0"; the user is the peer's own.
unfoldable pub shows_seed : State → ℕ → Seed → Reply
shows_seed b p unset = plain is_done
shows_seed b p (kept payload carried) =
    record {
      answer = is_received (a_seed (record { to = record { 0 = invalid }; user = record { 0 = b.user p }; flag = false; nb = length payload; nh = length carried }));
      ids = shown_all b p (suc b.accepted) carried;
      payload = payload;
    }

-- "one byte with bit p set if peer p holds a handle to the node".
unfoldable pub holders_of : State → ℕ → ℕ
holders_of b s = sum_to (λ q. pick (held (b.handle q s)) (2 ^ q) 0) peers

unfoldable pub reply : State → List ℕ → Command → Reply
reply b f (Open p u) = plain is_done
reply b f (Disconnect p) = plain is_done
reply b f (Create p i) = plain is_done
reply b f (Destroy p i) = plain is_done
reply b f (Release p i) = plain is_done
reply b f (Transfer p i q) = plain (is_transferred (record { 0 = shown b q.0 (suc b.accepted) (slot b p.0 i.0) }))
reply b f (Send p z) = plain is_done
reply b f (Receive p room) = shows b p.0 (b.queue p.0)
reply b f (Quota p u) = plain (is_quota (balance_of (b.charges p.0) u))
reply b f (Holders p i) = plain (is_holders (holders_of b (slot b p.0 i.0)))
reply b f (ShowSeed p room) = shows_seed b p.0 (b.seed p.0)
