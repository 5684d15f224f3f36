-- Every answer of every run, to the byte, is the one that is due by the ledger: "The promises use that definition."
-- Assumes nothing.
use Prim.Native.Nat.{ℕ, ◌%◌, ◌≤◌, ◌<◌}
use Rattle.std.specs.Prelude.{◌≡◌, Bool, false, Ok}
use Rattle.std.proofs.Math.Path.{refl}
use Rattle.std.proofs.Common.{arith, take_all}
use mathlib.Core.List.{List, [], ◌∷◌, ◌++◌, map, append_assoc}
use Rattle.std.proofs.Math.ListN.{length}
use Rattle.laws.specs.Bytes.{be}
use Rattle.frames.specs.declared.Command.{Command}
use Rattle.frames.specs.Frame.{parse}
use Rattle.answers.specs.declared.Received.TheVariants.{Message as a_message, Seed as a_seed}
use Rattle.answers.specs.declared.Answer.TheVariants.{Received as is_received}
use Rattle.answers.specs.Answer.{bit, id_bytes, header_bytes, message_bytes, received_bytes, contents_of, answer_bytes}
use Rattle.model.specs.Lists.{any}
use Rattle.model.specs.State.{Entry, Entry.message, Entry.destroyed, Entry.released}
use Rattle.model.specs.Replies.{of_send}
use Rattle.model.specs.Book.{Fed}
use Rattle.model.specs.Ledger.{of_command, DueTo}
use Rattle.model.specs.LedgerSim.{item_of}
use Rattle.model.specs.Rows.{ledger_of}
use Rattle.model.specs.Happened.{Happened}

-- A message's bytes, where its numbers are in their bounds.
pub message-bytes : (to user nb nh : ℕ) (flag : Bool) (ids payload : List ℕ) → user < 256 → nh < 256 → length ids ≤ 8 → length payload ≤ 512 →
    answer_bytes (is_received (a_message (record { to = record { 0 = to }; user = record { 0 = user }; flag = flag; nb = nb; nh = nh }))) ids payload
    ≡ 0 ∷ 1 ∷ be 8 to ++ (user ∷ bit flag ∷ be 2 nb ++ (nh ∷ id_bytes ids ++ payload))
unfolding answer_bytes contents_of received_bytes message_bytes header_bytes be
message-bytes to user nb nh flag ids payload u n few small =
    let a : user % 256 ≡ user = omega arith in
    let b : nh % 256 ≡ nh = omega arith in
    rw (take_all 8 ids few, take_all 512 payload small, a, b, append_assoc, append_assoc) refl

-- A seed's, likewise: "kind 04 with a message's fields, .. flag 0".
pub seed-bytes : (to user nb nh : ℕ) (ids payload : List ℕ) → user < 256 → nh < 256 → length ids ≤ 8 → length payload ≤ 512 →
    answer_bytes (is_received (a_seed (record { to = record { 0 = to }; user = record { 0 = user }; flag = false; nb = nb; nh = nh }))) ids payload
    ≡ 0 ∷ 4 ∷ be 8 to ++ (user ∷ 0 ∷ be 2 nb ++ (nh ∷ id_bytes ids ++ payload))
unfolding answer_bytes contents_of received_bytes message_bytes header_bytes be
seed-bytes to user nb nh ids payload u n few small =
    let a : user % 256 ≡ user = omega arith in
    let b : nh % 256 ≡ nh = omega arith in
    rw (take_all 8 ids few, take_all 512 payload small, a, b, append_assoc, append_assoc) refl

-- "another message of the same send".
pub same-send : (name : ℕ → ℕ) (k : ℕ) (es : List Entry) → any (of_command k) (map (item_of name) es) ≡ any (of_send k) es
same-send name k [] = refl
same-send name k (message n m ∷ es) = rw (same-send name k es) refl
same-send name k (destroyed n s ∷ es) = same-send name k es
same-send name k (released n s ∷ es) = same-send name k es

-- The same of histories: after the history xs, x came back with 0.
abbrev pub DueOfHistory : Type 0
DueOfHistory = (xs ys : List Fed) (x : Fed) (k : Command) → Happened (xs ++ (x ∷ ys)) → x.number ≡ 0 → parse x.frame ≡ Ok k → DueTo (ledger_of xs) k x.answer
