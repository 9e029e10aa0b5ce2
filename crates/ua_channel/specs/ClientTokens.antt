-- What the OPNs that a client received brought: the channel, and its tokens.
use Rattle.std.specs.Prelude.{ℕ, ◌==◌, ◌&&◌, not, if◌then◌else◌, List, [], ◌∷◌, Option, Some, None, map}
use Rattle.std.specs.List.{flat_map}
use Rattle.ua_opening.specs.Open.{answer_read}
use Rattle.ua_opening.specs.declared.open.OpenAnswer.{OpenAnswer}
use Rattle.ua_opening.specs.declared.open.OpenAnswer.TheVariants.{Open, Fault}
use Rattle.ua_opening.specs.declared.secure_channel.OpenResponse.{OpenResponse}
use Rattle.ua_channel.specs.Asks.{is_in}
use Rattle.ua_channel.specs.Content.{Opening}
use Rattle.ua_channel.specs.Received.{Received}

-- ---- what an OPN answers

-- the response after a sequence header, if there is one
abbrev pub answer_behind : Option (ℕ × ℕ) → List ℕ → Option OpenAnswer
answer_behind None body = None
answer_behind (Some numbers) body = answer_read body

-- the response of an OPN whose sequence header and body can be decoded
unfoldable pub answer_in : Opening → Option OpenAnswer
answer_in o = answer_behind o.numbers o.body

-- the OpenSecureChannel response, if it is one
abbrev pub response_listed : Option OpenAnswer → List OpenResponse
response_listed None = []
response_listed (Some (Open r)) = r ∷ []
response_listed (Some (Fault f)) = []

-- the RequestId of an OPN, if its sequence header can be decoded
abbrev pub id_listed : Option (ℕ × ℕ) → List ℕ
id_listed None = []
id_listed (Some numbers) = numbers.1 ∷ []

-- the responses of these openings, each of which brings a token
unfoldable pub open_responses : List Opening → List OpenResponse
open_responses os = flat_map (λ o. response_listed (answer_in o)) os

-- the RequestIds of these openings
unfoldable pub opened_ids : List Opening → List ℕ
opened_ids os = flat_map (λ o. id_listed o.numbers) os

-- ---- the channel and its tokens

-- the channel of the first response
abbrev pub first_channel : List OpenResponse → Option ℕ
first_channel [] = None
first_channel (r ∷ rs) = Some r.channel_id

-- the tokens of these responses, in order
unfoldable pub tokens_of : List OpenResponse → List ℕ
tokens_of rs = map (λ (r : OpenResponse). r.token_id) rs

-- the list from the last occurrence of n on, empty if n does not occur
abbrev pub from_last : ℕ → List ℕ → List ℕ
from_last n [] = []
from_last n (m ∷ ms) = if m == n && not (is_in n ms) then m ∷ ms else from_last n ms

-- the list from the last one used on, all if none was used
abbrev pub held_by : Option ℕ → List ℕ → List ℕ
held_by None tokens = tokens
held_by (Some n) tokens = from_last n tokens

-- the tokens that are held, in the order in which they were received: from the last one that the
-- server used to the newest
unfoldable pub held_tokens : Received → List ℕ
held_tokens before = held_by before.used (tokens_of (open_responses before.openings))
