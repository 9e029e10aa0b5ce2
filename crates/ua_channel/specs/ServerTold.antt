-- What a frame tells a server.
use Rattle.std.specs.Prelude.{ℕ, ◌+◌, ◌==◌, if◌then◌else◌, length, map, List, [], ◌∷◌, Option, Some, None}
use Rattle.ua_frame.specs.declared.limits.Limits.{Limits}
use Rattle.ua_opening.specs.Message.{message, body_of}
use Rattle.ua_opening.specs.SecureChannel.{open_request}
use Rattle.ua_opening.specs.declared.secure_channel.OpenRequest.{OpenRequest}
use Rattle.ua_chunk.specs.Delivered.{given}
use Rattle.ua_chunk.specs.Item.{Item}
use Rattle.ua_chunk.specs.Item.Item.{Whole, Aborted}
use Rattle.ua_channel.specs.Agreement.{Agreement, agreement_of}
use Rattle.ua_channel.specs.Content.{Opening, Content}
use Rattle.ua_channel.specs.Content.Content.{Greets, Opens, Sends, Closes}
use Rattle.ua_channel.specs.Received.{Received}

-- what a frame tells
pub data Told : Type 0 where
  -- a Hello that is agreed to: the ACK is to be sent
  Agreed : (agreement : Agreement) → Told
  -- a token is issued: the OPN response is to be sent, under this RequestId, with this
  -- RequestHandle, token and lifetime
  Opened : (id handle token lifetime : ℕ) → Told
  -- a whole message under this RequestId; its last chunk used this token, under which a reply at
  -- this place is sent
  Asked : (id token : ℕ) (octets : List ℕ) → Told
  -- a message that its sender aborted
  GaveUp : (id : ℕ) → Told
  -- the channel is closed
  Closed : Told

-- ---- OPN

-- the OpenSecureChannel request after a sequence header, if that can be decoded
abbrev pub request_behind : Option (ℕ × ℕ) → List ℕ → Option OpenRequest
request_behind None body = None
request_behind (Some numbers) body = body_of (message 446 open_request) body

-- the OpenSecureChannel request that an OPN carries, if its headers and its body can be decoded
unfoldable pub request_of : Opening → Option OpenRequest
request_of o = request_behind o.numbers o.body

-- the lifetime of a token, in milliseconds: the requested one, an hour if that is 0 (OPC 10000-4,
-- 5.6.2)
abbrev pub lifetime_for : ℕ → ℕ
lifetime_for asked = if asked == 0 then 3600000 else asked

-- how many tokens were issued: they are 1, 2, 3, .. up to this
abbrev pub issued : Received → ℕ
issued before = length before.openings

-- what an OPN tells that has this token issued, by its numbers and its request
abbrev pub opened_by : ℕ → Option (ℕ × ℕ) → Option OpenRequest → List Told
opened_by token (Some numbers) (Some request) = Opened numbers.1 request.request_header.request_handle token (lifetime_for request.requested_lifetime) ∷ []
opened_by token numbers request = []

-- ---- MSG

-- what a chunk under this token delivers, as what it tells
abbrev pub told_under : ℕ → Item → Told
told_under token (Whole id octets) = Asked id token octets
told_under token (Aborted id code reason) = GaveUp id

-- ---- any frame

-- what a frame with this content tells a server with these limits, after what was received
abbrev pub server_tells : Limits → Received → Content → List Told
server_tells limits before (Greets (Some h)) = Agreed (agreement_of limits h) ∷ []
server_tells limits before (Opens o) = opened_by (issued before + 1) o.numbers (request_of o)
server_tells limits before (Sends c) = map (told_under c.token) (given before.messages c)
server_tells limits before (Closes c) = Closed ∷ []
server_tells limits before other = []
