-- The outcomes of a client's requests at a server: each is answered in the state that those before
-- it left.
use Rattle.std.specs.Prelude.{IsTrue, ℕ, ◌+◌, ◌⊎◌, ◌++◌, List, [], ◌∷◌, Option, Some, None, Result, Ok, Err}
use Rattle.ua_builtin.specs.Status.{of_code}
use Rattle.ua_builtin.specs.declared.date_time.DateTime.{DateTime}
use Rattle.ua_frame.specs.declared.limits.Limits.{Limits}
use Rattle.ua_chunk.specs.Cutting.{cut_refusal}
use Rattle.ua_chunk.specs.declared.fault.CutFault.{CutFault}
use Rattle.ua_chunk.specs.declared.lane.Lane.{Lane}
use Rattle.ua_channel.specs.Agreement.{agreement_of, lane_of}
use Rattle.ua_channel.specs.ClientSends.{hello_to}
use Rattle.ua_services.specs.Request.{kind_of_request, request}
use Rattle.ua_services.specs.Response.{response, response_read}
use Rattle.ua_services.specs.declared.fault.ResponseFault.{ResponseFault}
use Rattle.ua_services.specs.declared.request.Request.{Request}
use Rattle.ua_services.specs.declared.response.Response.{Response}
use Rattle.ua_server.specs.Answer.{answer}
use Rattle.ua_server.specs.State.{State}
use Rattle.ua_client.specs.Replies.{IsNoAnswer}
use Rattle.ua_client.specs.declared.reply.Reply.{Reply}
use Rattle.ua_client.specs.declared.reply.Reply.TheVariants as reply
use Rattle.ua_loopback.specs.Beginning.{Beginning}
use Rattle.ua_loopback.specs.Turns.{id_behind_turn, token_behind_turn}

-- the reply that bytes are decoded as, if they are a response
abbrev pub reply_read : Result Response ResponseFault → Option Reply
reply_read (Ok r) = Some (reply.Response r)
reply_read (Err fault) = None

-- the reply with this body: the response that the client decodes, or if it takes no message of its
-- size, the code Bad_ResponseTooLarge
abbrev pub reply_unless : Option CutFault → List ℕ → Option Reply
reply_unless None body = reply_read (response_read body)
reply_unless (Some fault) body = Some (reply.Aborted (of_code 0x80B9_0000))

-- the state that requests leave, if the answers have these times, from this number on
abbrev pub state_behind_requests : State → (ℕ → DateTime) → ℕ → List Request → State
state_behind_requests s moments n [] = s
state_behind_requests s moments n (m ∷ ms) = state_behind_requests (answer s (moments n) m).0 moments (n + 1) ms

-- the answer to one of these requests, each in the state that those before it left, is no response
-- that answers it, though it can be encoded
abbrev pub HaveMisanswer : State → (ℕ → DateTime) → ℕ → List Request → Type 0
HaveMisanswer s moments n [] = ⊥
HaveMisanswer s moments n (m ∷ ms) = (IsTrue (request.encodable m) × IsNoAnswer (kind_of_request m) (response.canonical (answer s (moments n) m).1))
    ⊎ HaveMisanswer (answer s (moments n) m).0 moments (n + 1) ms

-- the replies to requests, that go back in this lane
abbrev pub requests_replies : Lane → State → (ℕ → DateTime) → ℕ → List Request → List (Option Reply)
requests_replies back s moments n [] = []
requests_replies back s moments n (m ∷ ms) =
    reply_unless (cut_refusal back (response.canonical (answer s (moments n) m).1)) (response.canonical (answer s (moments n) m).1)
    ∷ requests_replies back (answer s (moments n) m).0 moments (n + 1) ms

-- of one operation; a renewal has none, and leaves the state unchanged
abbrev pub turn_replies : Lane → State → (ℕ → DateTime) → ℕ → Option (List Request) → List (Option Reply)
turn_replies back s moments n (Some requests) = requests_replies back s moments n requests
turn_replies back s moments n None = []

-- the state that it leaves
abbrev pub turn_state : State → (ℕ → DateTime) → ℕ → Option (List Request) → State
turn_state s moments n (Some requests) = state_behind_requests s moments n requests
turn_state s moments n None = s

-- the lane of the replies of a server that began in this way, to a client with these limits for
-- this URL: under the token of their requests
abbrev pub lane_back_by_token : Beginning → Limits → Option (List ℕ) → ℕ → Lane
lane_back_by_token b client url token = lane_of b.channel token (agreement_of b.limits (hello_to client url))

-- of operations in order, at a server that began in this way, if the next answer has this number,
-- and this is the newest token: each reply is sent under the token of its request; a renewal has
-- one answer, as each request
abbrev pub replies_to_turns : Beginning → Limits → Option (List ℕ) → State → ℕ → ℕ → List (Option (List Request)) → List (Option Reply)
replies_to_turns b client url s n token [] = []
replies_to_turns b client url s n token (t ∷ turns) =
    turn_replies (lane_back_by_token b client url token) s b.moments n t
    ++ replies_to_turns b client url (turn_state s b.moments n t) (id_behind_turn n t) (token_behind_turn token t) turns

-- the state that they leave, if the answers have these times, from this number on
abbrev pub turns_state : State → (ℕ → DateTime) → ℕ → List (Option (List Request)) → State
turns_state s moments n [] = s
turns_state s moments n (t ∷ turns) = turns_state (turn_state s moments n t) moments (id_behind_turn n t) turns
