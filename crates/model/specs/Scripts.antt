-- Scripts for computed examples: frames and answers written by their parts, and rows of a table that compute to what is expected.
-- Assumes nothing.
use Rattle.std.specs.Prelude.{ℕ, ◌-◌, List, [], ◌∷◌, ◌++◌, map, length, drop, replicate}
use Rattle.laws.specs.Bytes.{be}
use Rattle.quota.specs.Rule.{left}
use Rattle.answers.specs.Answer.{id_bytes}
use Rattle.model.specs.State.{start}
use Rattle.model.specs.Step.{Call, answers_from}

-- The frames of the commands.
abbrev pub opening : ℕ → ℕ → List ℕ
opening p u = 1 ∷ p ∷ u ∷ []

abbrev pub disconnect : ℕ → List ℕ
disconnect p = 2 ∷ p ∷ []

abbrev pub create : ℕ → ℕ → List ℕ
create p i = 3 ∷ p ∷ be 8 i

abbrev pub destroy : ℕ → ℕ → List ℕ
destroy p i = 4 ∷ p ∷ be 8 i

abbrev pub release : ℕ → ℕ → List ℕ
release p i = 5 ∷ p ∷ be 8 i

abbrev pub transfer : ℕ → ℕ → ℕ → List ℕ
transfer p i q = 6 ∷ p ∷ be 8 i ++ (q ∷ [])

abbrev pub send : ℕ → List ℕ → List ℕ → List ℕ → List ℕ
send p ds hs payload = 7 ∷ p ∷ length ds ∷ length hs ∷ be 2 (length payload) ++ (id_bytes ds ++ (id_bytes hs ++ payload))

abbrev pub receive : ℕ → ℕ → List ℕ
receive p room = 8 ∷ p ∷ be 2 room

abbrev pub quota : ℕ → ℕ → List ℕ
quota p u = 9 ∷ p ∷ u ∷ []

abbrev pub holders : ℕ → ℕ → List ℕ
holders p i = 10 ∷ p ∷ be 8 i

abbrev pub show_seed : ℕ → ℕ → List ℕ
show_seed p room = 12 ∷ p ∷ be 2 room

-- 07 with nd 0.
abbrev pub set_seed : ℕ → List ℕ → List ℕ → List ℕ
set_seed p hs payload = send p [] hs payload

-- Answers: 00 or a refusal; an ID; the quota question's six numbers; a message to the ID to, of the user u, its flag 0 or told; the notices;
-- a seed of the user u.
abbrev pub number : ℕ → List ℕ
number n = n ∷ []

abbrev pub gives : ℕ → List ℕ
gives i = 0 ∷ be 8 i

abbrev pub queued_and_left : ℕ → ℕ → ℕ → ℕ → ℕ → ℕ → List ℕ
queued_and_left m b h m' b' h' = 0 ∷ be 2 m ++ (be 2 b ++ (be 2 h ++ (be 2 m' ++ (be 2 b' ++ be 2 h'))))

abbrev pub takes_flag : ℕ → ℕ → ℕ → List ℕ → List ℕ → List ℕ
takes_flag to u flag ids payload = 0 ∷ 1 ∷ be 8 to ++ (u ∷ flag ∷ be 2 (length payload) ++ (length ids ∷ id_bytes ids ++ payload))

abbrev pub takes : ℕ → ℕ → List ℕ → List ℕ → List ℕ
takes to u ids payload = takes_flag to u 0 ids payload

abbrev pub destroyed_at : ℕ → List ℕ
destroyed_at i = 0 ∷ 2 ∷ be 8 i

abbrev pub released_at : ℕ → List ℕ
released_at i = 0 ∷ 3 ∷ be 8 i

abbrev pub shows_as : ℕ → List ℕ → List ℕ → List ℕ
shows_as u ids payload = 0 ∷ 4 ∷ be 8 18446744073709551615 ++ (u ∷ 0 ∷ be 2 (length payload) ++ (length ids ∷ id_bytes ids ++ payload))

-- A row: a script of frames on a fresh bus and its last answers; or the quota rule with a limit, what others have, what is queued, and what is left.
pub data Row : Type 0 where
  played : List (List ℕ) → List (List ℕ) → Row
  ruled : ℕ → ℕ → ℕ → ℕ → Row

abbrev pub calls : List (List ℕ) → List Call
calls fs = map (λ f. record { frame = f; buffer = replicate 591 0 }) fs

abbrev pub last_of : ℕ → List (List ℕ) → List (List ℕ)
last_of n rs = drop (length rs - n) rs

abbrev pub computed : Row → List (List ℕ)
computed (played fs rs) = last_of (length rs) (answers_from start (calls fs))
computed (ruled limit others own rest) = (left limit others own ∷ []) ∷ []

abbrev pub expected : Row → List (List ℕ)
expected (played fs rs) = rs
expected (ruled limit others own rest) = (rest ∷ []) ∷ []

-- Peer 0, of user 3, has a node with the ID 8; the peers 1 to 4, of the users 0 to 3, hold it as 7.
abbrev pub five : List (List ℕ)
five =
    opening 0 3 ∷ opening 1 0 ∷ opening 2 1 ∷ opening 3 2 ∷ opening 4 3 ∷ create 0 8 ∷ transfer 0 8 1 ∷ transfer 0 8 2 ∷ transfer 0 8 3 ∷ transfer 0 8 4 ∷ []

-- Peer 0, of user 0, has a node with the ID 8; peer 1, of user 1, holds it as 7.
abbrev pub two : List (List ℕ)
two = opening 0 0 ∷ opening 1 1 ∷ create 0 8 ∷ transfer 0 8 1 ∷ []

-- A second node of peer 0, with the ID 12; the peer p, which holds the first as 7, holds it as 11.
abbrev pub second : ℕ → List (List ℕ)
second p = create 0 12 ∷ transfer 0 12 p ∷ []

-- n empty messages from the peer p, and n times the answer 00
abbrev pub empties : ℕ → ℕ → List (List ℕ)
empties n p = replicate n (send p (7 ∷ []) [] [])

abbrev pub done : ℕ → List (List ℕ)
done n = replicate n (number 0)
