-- Frames with two faults each, which show the order of the refusals, and frames at the bounds: one table, computed.
-- Assumes nothing.
use Rattle.std.specs.Prelude.{ℕ, ◌≡◌, refl, List, [], ◌∷◌, map, Ok, Err}
use Rattle.laws.specs.Bytes.{num_at}
use Rattle.ids.specs.Refusals.{refusal_number}
use Rattle.frames.specs.Frame.{Parsed, parse, parse_send, parse_sizes, parse_other, parse_rest, parse_open, parse_create, parse_transfer, parse_quota, frame_length, short_at, id_at}

pub record Example : Type 0 where
  pub frame : List ℕ
  pub number : ℕ

abbrev answers : List ℕ → ℕ → Example
answers f n = record { frame = f; number = n }

-- 0 for a frame that is read.
unfoldable pub number_of : Parsed → ℕ
number_of (Ok c) = 0
number_of (Err r) = refusal_number r

abbrev pub examples : List Example
examples =
    -- an empty frame; a command byte unknown, alone too
    answers [] 22
    ∷ answers (0 ∷ 0 ∷ []) 25
    ∷ answers (11 ∷ 0 ∷ []) 25
    ∷ answers (255 ∷ []) 25
    -- a send under 6 bytes, with nd 9
    ∷ answers (7 ∷ 0 ∷ 9 ∷ 0 ∷ 0 ∷ []) 22
    -- peer 8 and nd 9; nd 0 and nh 9; nd 9 and a wrong length; nh 9; 513 bytes
    ∷ answers (7 ∷ 8 ∷ 9 ∷ 0 ∷ 0 ∷ 0 ∷ []) 22
    ∷ answers (7 ∷ 0 ∷ 0 ∷ 9 ∷ 255 ∷ 255 ∷ []) 90
    ∷ answers (7 ∷ 0 ∷ 9 ∷ 0 ∷ 0 ∷ 0 ∷ []) 90
    ∷ answers (7 ∷ 0 ∷ 1 ∷ 9 ∷ 0 ∷ 0 ∷ []) 90
    ∷ answers (7 ∷ 0 ∷ 1 ∷ 0 ∷ 2 ∷ 1 ∷ []) 90
    -- 512 bytes announced and none there; one destination, legal, and a byte too many
    ∷ answers (7 ∷ 0 ∷ 1 ∷ 0 ∷ 2 ∷ 0 ∷ []) 22
    ∷ answers (7 ∷ 0 ∷ 1 ∷ 0 ∷ 0 ∷ 0 ∷ 0 ∷ 0 ∷ 0 ∷ 0 ∷ 0 ∷ 0 ∷ 0 ∷ 8 ∷ []) 0
    ∷ answers (7 ∷ 0 ∷ 1 ∷ 0 ∷ 0 ∷ 0 ∷ 0 ∷ 0 ∷ 0 ∷ 0 ∷ 0 ∷ 0 ∷ 0 ∷ 8 ∷ 51 ∷ []) 22
    -- nd 0, a seed (02 No. 1): the empty one; an ID announced and none there; one byte
    ∷ answers (7 ∷ 0 ∷ 0 ∷ 0 ∷ 0 ∷ 0 ∷ []) 0
    ∷ answers (7 ∷ 0 ∷ 0 ∷ 1 ∷ 0 ∷ 0 ∷ []) 22
    ∷ answers (7 ∷ 0 ∷ 0 ∷ 0 ∷ 0 ∷ 1 ∷ 51 ∷ []) 0
    -- 0c: of 4 bytes; of 3 and of 5; peer 8; 0d is unknown
    ∷ answers (12 ∷ 7 ∷ 2 ∷ 88 ∷ []) 0
    ∷ answers (12 ∷ 7 ∷ 2 ∷ []) 22
    ∷ answers (12 ∷ 7 ∷ 2 ∷ 88 ∷ 0 ∷ []) 22
    ∷ answers (12 ∷ 8 ∷ 2 ∷ 88 ∷ []) 22
    ∷ answers (13 ∷ 7 ∷ 2 ∷ 88 ∷ []) 25
    -- open: user 3, user 4, a byte too few
    ∷ answers (1 ∷ 7 ∷ 3 ∷ []) 0
    ∷ answers (1 ∷ 7 ∷ 4 ∷ []) 22
    ∷ answers (1 ∷ 8 ∷ 3 ∷ []) 22
    ∷ answers (1 ∷ 7 ∷ []) 22
    -- create with ID 8, and with bit 0 or 1 set
    ∷ answers (3 ∷ 0 ∷ 0 ∷ 0 ∷ 0 ∷ 0 ∷ 0 ∷ 0 ∷ 0 ∷ 8 ∷ []) 0
    ∷ answers (3 ∷ 0 ∷ 0 ∷ 0 ∷ 0 ∷ 0 ∷ 0 ∷ 0 ∷ 0 ∷ 9 ∷ []) 22
    ∷ answers (3 ∷ 0 ∷ 0 ∷ 0 ∷ 0 ∷ 0 ∷ 0 ∷ 0 ∷ 0 ∷ 6 ∷ []) 22
    -- transfer to peer 7 and to peer 8
    ∷ answers (6 ∷ 0 ∷ 0 ∷ 0 ∷ 0 ∷ 0 ∷ 0 ∷ 0 ∷ 0 ∷ 7 ∷ 7 ∷ []) 0
    ∷ answers (6 ∷ 0 ∷ 0 ∷ 0 ∷ 0 ∷ 0 ∷ 0 ∷ 0 ∷ 0 ∷ 7 ∷ 8 ∷ []) 22
    ∷ []

pub examples-hold : map (λ e. number_of (parse e.frame)) examples ≡ map (λ e. e.number) examples
unfolding number_of parse parse_send parse_sizes parse_other parse_rest parse_open parse_create parse_transfer parse_quota frame_length short_at id_at num_at
examples-hold = refl
