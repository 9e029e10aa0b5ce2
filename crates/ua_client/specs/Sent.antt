-- What a client sends: the chunks of its calls, and which of them it refuses.
use Rattle.std.specs.Prelude.{◌≡◌, ◌<◌, ◌+◌, ◌++◌, not, ℕ, Bool, true, false, List, [], ◌∷◌, map, length, take, Option, Some, None, Result, Ok, Err}
use Rattle.ua_builtin.specs.Reasons.{or_else, renamed_reason}
use Rattle.ua_chunk.specs.declared.lane.Lane.{Lane}
use Rattle.ua_services.specs.Request.{request}
use Rattle.ua_services.specs.declared.request.Request.{Request}
use Rattle.ua_channel.specs.Asks.{Placed, asked_in, next_id}
use Rattle.ua_channel.specs.Client.{ClientStands, client_next, ask_refusal}
use Rattle.ua_channel.specs.ClientAsks.{is_too_large, reasons_of_body}
use Rattle.ua_channel.specs.ClientTable.{of_ack}
use Rattle.ua_channel_laws.specs.Outgoing.{asks_at, outgoing_number, outgoing_octets}
use Rattle.ua_channel_laws.specs.Outgoing.Outgoing.{CallWith}
use Rattle.ua_channel.specs.Received.{received}
use Rattle.ua_channel.specs.declared.client.asked_call.AskedCall.{AskedCall}
use Rattle.ua_channel.specs.declared.client.channel.ClientChannel.{ClientChannel}
use Rattle.ua_frame.specs.declared.ack.Ack.{Ack}
use Rattle.ua_frame.specs.declared.frame.Frame.{Frame}
use Rattle.ua_channel.specs.declared.client.fault.AskFault.{AskFault}
use Rattle.ua_channel.specs.declared.client.fault.AskFault.TheVariants as ask_fault
use Rattle.ua_channel.specs.declared.client.phase.Phase.{Phase}
use Rattle.ua_client.specs.ClientPlace.{lane_behind}
use Rattle.ua_client.specs.declared.fault.ClientFault.{ClientFault}
use Rattle.ua_client.specs.declared.fault.ClientFault.TheVariants as fault

-- ---- the chunks of calls

-- the chunks of bodies in order, numbered consecutively, under RequestIds from this one on
abbrev pub calls_octets : Option Lane → ℕ → ℕ → List (List ℕ) → List ℕ
calls_octets lane number id bodies = outgoing_octets lane number id (map CallWith bodies)

-- the number after the chunks of bodies
abbrev pub numbers_behind : Option Lane → ℕ → List (List ℕ) → ℕ
numbers_behind lane number bodies = outgoing_number lane number (map CallWith bodies)

-- this many calls, made at this place under RequestIds from this one on
abbrev pub calls_at : ℕ → ℕ → List (List ℕ) → List Placed
calls_at place id bodies = asks_at place id (map CallWith bodies)

-- the bodies of requests, each the canonical encoding (OPC 10000-6, 5.2.9)
abbrev pub bodies_of : List Request → List (List ℕ)
bodies_of requests = map request.canonical requests

-- ---- what is not asked

-- a reason of the channel against an operation, as a fault of the client
abbrev pub by_channel : AskFault → ClientFault
by_channel ask_fault.Exhausted = fault.Exhausted
by_channel ask_fault.RequestTooLarge = fault.TooLarge
by_channel ask_fault.TooManyTokens = fault.TooManyTokens
by_channel other = fault.Closed

-- why a request is refused under this RequestId of a server that sent this ACK, in the order in
-- which it is judged: it cannot be encoded; or what is against its body: all RequestIds were used;
-- or the server takes no message of this many bytes or chunks (OPC 10000-6, 7.1.2.4)
abbrev pub request_reasons : Option Ack → ℕ → Request → List (ClientFault × Bool)
request_reasons ack id m =
    (fault.NotWritable, not (request.encodable m)) ∷ map (renamed_reason by_channel)
    (reasons_of_body id (of_ack (λ (a : Ack). is_too_large a (request.canonical m)) ack))

-- why requests are refused under RequestIds from this one on: the reasons against the first of
-- them, then those against the next
abbrev pub group_reasons : Option Ack → ℕ → List Request → List (ClientFault × Bool)
group_reasons ack id [] = []
group_reasons ack id (m ∷ ms) = request_reasons ack id m ++ group_reasons ack (id + 1) ms

-- ---- what a channel does not ask

-- a refusal of the channel as a fault of the client; a client whose channel is open and whose calls
-- are all answered has no other
abbrev pub of_ask : Option AskFault → Option ClientFault
of_ask None = None
of_ask (Some ask_fault.Exhausted) = Some fault.Exhausted
of_ask (Some ask_fault.RequestTooLarge) = Some fault.TooLarge
of_ask (Some other) = Some fault.Closed

-- why a request is refused in this phase after this many others, by whether it can be encoded
abbrev pub refusal_by : Bool → Phase → ℕ → List ℕ → Option ClientFault
refusal_by false phase more body = Some fault.NotWritable
refusal_by true phase more body = of_ask (ask_refusal phase more body)

-- why a request is refused in this phase after this many others
abbrev pub request_refusal : Phase → ℕ → Request → Option ClientFault
request_refusal phase more m = refusal_by (request.encodable m) phase more (request.canonical m)

-- why a group of requests is refused in this phase after this many others: the first reason against
-- the first of them that has one
abbrev pub group_refusal : Phase → ℕ → List Request → Option ClientFault
group_refusal phase more [] = None
group_refusal phase more (m ∷ ms) = or_else (request_refusal phase more m) (group_refusal phase (more + 1) ms)

-- which request of a group is named if the one at this place was judged last: OutOfMemory is that
-- of the whole group
abbrev pub place_by : ClientFault → ℕ → ℕ
place_by fault.OutOfMemory place = 0
place_by other place = place

-- for which request a group is refused in this phase: there is nothing against those before it, and
-- this is the first reason against it; OutOfMemory names the first
abbrev pub RefusesBy : Phase → List Request → ℕ → ClientFault → Type 0
RefusesBy phase requests place fault.OutOfMemory = place ≡ 0
RefusesBy phase requests place other = (group_refusal phase 0 (take place requests) ≡ None) × (group_refusal phase 0 (take (place + 1) requests) ≡ Some other)

-- the outcome where there may be a reason against it: none, this reason, or an allocation failed
abbrev pub AnswersBy : {A : Type 0} → Option ClientFault → Result A ClientFault → Type 0
AnswersBy reason (Ok found) = reason ≡ None
AnswersBy reason (Err fault.OutOfMemory) = Unit {0}
AnswersBy reason (Err other) = reason ≡ Some other

-- ---- what is asked

-- a group of calls with these bodies was made after these operations and bytes, whose frames are
-- these: the state of the channel then, what is to be sent, the RequestId of the first
pub record AsksGroup (bodies : List (List ℕ)) (old new : ClientChannel) (asks : List Placed) (octets : List ℕ) (frames : List Frame) (rest : List ℕ)
    (out : List ℕ) : Type 0 where
  pub stands : ClientStands new (asks ++ calls_at (length octets) (next_id (asked_in asks)) bodies) octets frames rest
  pub out_is : out ≡ calls_octets (lane_behind (received frames)) (client_next old) (next_id (asked_in asks)) bodies
  pub next_is : client_next new ≡ numbers_behind (lane_behind (received frames)) (client_next old) bodies

-- the length in bytes of calls that were made, together
abbrev pub asked_len : List AskedCall → ℕ
asked_len [] = 0
asked_len (call ∷ calls) = call.len + asked_len calls

-- that of a call, if there is one
abbrev pub last_len : Option AskedCall → ℕ
last_len None = 0
last_len (Some call) = call.len

-- a group of calls was made so, and this is the RequestId of the first
abbrev pub AsksFrom : List (List ℕ) → ClientChannel → ClientChannel → List Placed → List ℕ → List Frame → List ℕ → ℕ × List ℕ → Type 0
AsksFrom bodies old new asks octets frames rest found = (0 < length bodies → found.0 ≡ next_id (asked_in asks))
    × AsksGroup bodies old new asks octets frames rest found.1

-- the outcome for a group that was judged
abbrev pub AsksOr : {A : Type 0} → (A → Type 0) → Result A ClientFault → Type 0
AsksOr asks (Ok found) = asks found
AsksOr asks (Err fault.OutOfMemory) = Unit {0}
AsksOr asks (Err other) = ⊥
