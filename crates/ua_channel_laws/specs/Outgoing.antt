-- What a client sends from the state of its channel, before any of it is answered: calls and
-- renewals, in their order.
use Rattle.std.specs.Prelude.{ℕ, ◌+◌, ◌<◌, ◌++◌, List, [], ◌∷◌, length, IsTrue, Option, Some, None, Bool}
use Rattle.std.specs.List.{AllByRecursion}
use Rattle.ua_builtin.specs.DateTime.{date_time}
use Rattle.ua_builtin.specs.Reasons.{first_reason, or_else}
use Rattle.ua_builtin.specs.declared.date_time.DateTime.{DateTime}
use Rattle.ua_frame.specs.Frames.{frame_octets}
use Rattle.ua_chunk.specs.Cutting.{chunks_of, chunks_octets, number_after, pieces}
use Rattle.ua_chunk.specs.Sequence.{next_number}
use Rattle.ua_chunk.specs.declared.lane.Lane.{Lane}
use Rattle.ua_channel.specs.Asks.{Asking, Placed}
use Rattle.ua_channel.specs.Asks.Asking.{Call, Renewal}
use Rattle.ua_channel.specs.ClientAsks.{is_too_large, reasons_of_call, reasons_of_renewal}
use Rattle.ua_channel_laws.specs.ClientReads.{AtClient, with_call, with_renewal}
use Rattle.ua_channel.specs.ClientSends.{renewal_frame, token_lifetime}
use Rattle.ua_channel.specs.Received.{has_some}
use Rattle.ua_channel_laws.specs.ServerReads.{AtServer, with_message, with_token}
use Rattle.ua_channel.specs.ServerTold.{Told, Asked, Opened}
use Rattle.ua_channel.specs.declared.client.fault.AskFault.{AskFault}

-- a call with this body, or a renewal of the token at this time
pub data Outgoing : Type 0 where
  CallWith : (body : List ℕ) → Outgoing
  RenewalAt : (moment : DateTime) → Outgoing

-- ---- the bytes, in the lane of the calls of an open channel, with this number and RequestId next

-- the chunks of a call's body (OPC 10000-6, 6.7.2)
abbrev pub call_octets : Option Lane → ℕ → ℕ → List ℕ → List ℕ
call_octets None number id body = []
call_octets (Some lane) number id body = chunks_octets (chunks_of lane body number id)

-- the OPN that renews the token, at this time (OPC 10000-4, 5.6.2)
abbrev pub renewal_by : Option Lane → ℕ → ℕ → DateTime → List ℕ
renewal_by None number id moment = []
renewal_by (Some lane) number id moment = frame_octets (renewal_frame lane.channel number id moment)

-- the bytes of one
abbrev pub one_octets : Option Lane → ℕ → ℕ → Outgoing → List ℕ
one_octets lane number id (CallWith body) = call_octets lane number id body
one_octets lane number id (RenewalAt moment) = renewal_by lane number id moment

-- the SequenceNumber after the chunks of a body
abbrev pub number_behind : Option Lane → ℕ → List ℕ → ℕ
number_behind None number body = number
number_behind (Some lane) number body = number_after number (pieces lane.room body)

-- the SequenceNumber after the OPN of a renewal
abbrev pub number_renewed : Option Lane → ℕ → ℕ
number_renewed None number = number
number_renewed (Some lane) number = next_number number

-- and after one
abbrev pub number_past : Option Lane → ℕ → Outgoing → ℕ
number_past lane number (CallWith body) = number_behind lane number body
number_past lane number (RenewalAt moment) = number_renewed lane number

-- all of them in order, numbered consecutively, each under the next RequestId
abbrev pub outgoing_octets : Option Lane → ℕ → ℕ → List Outgoing → List ℕ
outgoing_octets lane number id [] = []
outgoing_octets lane number id (o ∷ os) = one_octets lane number id o ++ outgoing_octets lane (number_past lane number o) (id + 1) os

-- the SequenceNumber after them
abbrev pub outgoing_number : Option Lane → ℕ → List Outgoing → ℕ
outgoing_number lane number [] = number
outgoing_number lane number (o ∷ os) = outgoing_number lane (number_past lane number o) os

-- ---- what they tell a server that issued this many tokens, where the calls go under this one

-- a call tells its body, whole, under its own RequestId; a renewal that the next token is issued,
-- for an hour
abbrev pub one_told : ℕ → ℕ → ℕ → Outgoing → Told
one_told token issued id (CallWith body) = Asked id token body
one_told token issued id (RenewalAt moment) = Opened id 0 (issued + 1) token_lifetime

-- how many tokens are issued then
abbrev pub issued_past : ℕ → Outgoing → ℕ
issued_past issued (CallWith body) = issued
issued_past issued (RenewalAt moment) = issued + 1

-- how many tokens are issued after all of them
abbrev pub issued_behind : ℕ → List Outgoing → ℕ
issued_behind issued [] = issued
issued_behind issued (o ∷ os) = issued_behind (issued_past issued o) os

-- all of them in order, each once
abbrev pub outgoing_told : ℕ → ℕ → ℕ → List Outgoing → List Told
outgoing_told token issued id [] = []
outgoing_told token issued id (o ∷ os) = one_told token issued id o ∷ outgoing_told token (issued_past issued o) (id + 1) os

-- the state of the server after one
abbrev pub server_past : Lane → AtServer → Outgoing → AtServer
server_past lane at (CallWith body) = with_message at lane body
server_past lane at (RenewalAt moment) = with_token at

-- and after all of them
abbrev pub server_behind : Lane → AtServer → List Outgoing → AtServer
server_behind lane at [] = at
server_behind lane at (o ∷ os) = server_behind lane (server_past lane at o) os

-- ---- what a client asked by them, from this RequestId on

-- under its RequestId
abbrev pub asking_of : ℕ → Outgoing → Asking
asking_of id (CallWith body) = Call id
asking_of id (RenewalAt moment) = Renewal id

-- all of them at one place
abbrev pub asks_at : ℕ → ℕ → List Outgoing → List Placed
asks_at place id [] = []
asks_at place id (o ∷ os) = (place, asking_of id o) ∷ asks_at place (id + 1) os

-- the state of the client after one: it is unanswered
abbrev pub client_past : AtClient → ℕ → Outgoing → AtClient
client_past at id (CallWith body) = with_call at id
client_past at id (RenewalAt moment) = with_renewal at id

-- and after all of them
abbrev pub client_behind : AtClient → ℕ → List Outgoing → AtClient
client_behind at id [] = at
client_behind at id (o ∷ os) = client_behind (client_past at id o) (id + 1) os

-- ---- which of them are sent

-- why one is not sent, under this RequestId, in the order in which it is judged
abbrev pub one_reasons : AtClient → ℕ → Outgoing → List (AskFault × Bool)
one_reasons at id (CallWith body) = reasons_of_call (length at.pending) id (is_too_large at.ack body)
one_reasons at id (RenewalAt moment) = reasons_of_renewal (has_some at.renewals) (length at.tokens) id

-- why the first of them that is not sent is refused, if there is one
abbrev pub outgoing_refusal : AtClient → ℕ → List Outgoing → Option AskFault
outgoing_refusal at id [] = None
outgoing_refusal at id (o ∷ os) = or_else (first_reason (one_reasons at id o)) (outgoing_refusal (client_past at id o) (id + 1) os)

-- a body has bytes, and a time can be encoded
abbrev pub CanBeWritten : Outgoing → Type 0
CanBeWritten (CallWith body) = 0 < length body
CanBeWritten (RenewalAt moment) = IsTrue (date_time.encodable moment)

-- each of them can
abbrev pub AreWritable : List Outgoing → Type 0
AreWritable os = AllByRecursion CanBeWritten os
