-- What frames tell a client, and why its connection ends.
use Rattle.std.specs.Prelude.{ℕ, Bool, true, false, List, [], ◌∷◌, Option, Some, None, map}
use Rattle.ua_builtin.specs.declared.status_code.StatusCode.{StatusCode}
use Rattle.ua_frame.specs.declared.ack.Ack.{Ack}
use Rattle.ua_chunk.specs.Delivered.{given}
use Rattle.ua_chunk.specs.Item.{Item}
use Rattle.ua_chunk.specs.Item.Item.{Whole, Aborted}
use Rattle.ua_opening.specs.declared.secure_channel.OpenResponse.{OpenResponse}
use Rattle.ua_channel.specs.ClientTokens.{answer_in, response_listed, open_responses}
use Rattle.ua_channel.specs.Content.{Content}
use Rattle.ua_channel.specs.Content.Content.{Acks, Opens, Sends}
use Rattle.ua_channel.specs.Received.{Received}

-- what a frame tells a client: an ACK, after which the OPN is to be sent; the channel and its first
-- token; the reply to a call; a call that the server aborted, with its code; a further token
pub data ClientTold : Type 0 where
  Agreed : (ack : Ack) → ClientTold
  Opened : (channel token : ℕ) → ClientTold
  Answered : (id : ℕ) (octets : List ℕ) → ClientTold
  GaveUp : (id : ℕ) (code : StatusCode) → ClientTold
  Renewed : (token : ℕ) → ClientTold

-- why a client's connection ends: a StatusCode, and whether it is the peer's own
pub record Why : Type 0 where
  pub code : ℕ
  pub peer : Bool

-- the client rejects
abbrev pub ours : ℕ → Why
ours code = record { code = code; peer = false }

-- the server rejected
abbrev pub peers : ℕ → Why
peers code = record { code = code; peer = true }

-- what a delivered message tells
abbrev pub told_item : Item → ClientTold
told_item (Whole id octets) = Answered id octets
told_item (Aborted id code reason) = GaveUp id code

-- what a response tells: the first one opens the channel, a later one brings a further token
abbrev pub told_response : List OpenResponse → OpenResponse → ClientTold
told_response [] r = Opened r.channel_id r.token_id
told_response (q ∷ qs) r = Renewed r.token_id

-- an ACK tells its Acknowledge
abbrev pub told_ack : Option Ack → List ClientTold
told_ack None = []
told_ack (Some a) = Agreed a ∷ []

-- what a frame with this content tells after what was received
abbrev pub client_tells : Received → Content → List ClientTold
client_tells before (Acks ack) = told_ack ack
client_tells before (Opens o) = map (told_response (open_responses before.openings)) (response_listed (answer_in o))
client_tells before (Sends c) = map told_item (given before.messages c)
client_tells before other = []
