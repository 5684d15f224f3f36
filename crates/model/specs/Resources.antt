-- "Limits belong to each kind of resource": messages, payload bytes and attached handles, as one kind of number each, so that one proof serves the three.
-- Assumes nothing.
use Rattle.std.specs.Prelude.{ℕ, ◌/◌, ◌^◌, ◌≡◌, refl, List, [], ◌∷◌, map}
use Rattle.quota.specs.declared.Charge.{Charge}
use Rattle.quota.specs.Charges.{message_limit, byte_limit, handle_limit, users}

pub data Resource : Type 0 where
  messages : Resource
  bytes : Resource
  handles : Resource

-- "64 messages, 4,096 payload bytes, 64 attached handles".
abbrev pub limit : Resource → ℕ
limit messages = message_limit
limit bytes = byte_limit
limit handles = handle_limit

-- "A message counts 1, nb and nh".
abbrev pub weigh : Resource → ℕ → ℕ → ℕ
weigh messages nb nh = 1
weigh bytes nb nh = nb
weigh handles nb nh = nh

-- One resource of a charge.
abbrev pub amount : Resource → Charge → ℕ
amount messages c = c.messages
amount bytes c = c.bytes
amount handles c = c.handles

-- Half of the limit: 32 messages, 2,048 bytes, 32 handles.
abbrev pub most : Resource → ℕ
most r = limit r / 2

-- The limit halved once for each user: 4 messages, 256 bytes, 4 handles.
abbrev pub share : Resource → ℕ
share r = limit r / 2 ^ users

-- The numbers of the third demand, as document 01 writes them.
abbrev pub resources : List Resource
resources = messages ∷ bytes ∷ handles ∷ []

pub most-is : map most resources ≡ 32 ∷ 2048 ∷ 32 ∷ []
most-is = refl

pub share-is : map share resources ≡ 4 ∷ 256 ∷ 4 ∷ []
share-is = refl
