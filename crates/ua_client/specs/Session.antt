-- How a client begins a session: it calls CreateSession, and after a good response ActivateSession
-- (OPC 10000-4, 5.7.2 and 5.7.3).
use Rattle.std.specs.Prelude.{IsFalse, ◌≡◌, ◌⊎◌, ◌++◌, ◌||◌, cond, ℕ, Bool, true, false, List, [], ◌∷◌, Option, Some, None, Result, Ok, Err}
use Rattle.ua_builtin.specs.Status.{is_bad}
use Rattle.ua_builtin.specs.declared.date_time.DateTime.{DateTime}
use Rattle.ua_builtin.specs.declared.node_id.NodeId.{NodeId}
use Rattle.ua_builtin.specs.declared.status_code.StatusCode.{StatusCode}
use Rattle.ua_services.specs.Request.{request}
use Rattle.ua_services.specs.Response.{header_of_response, kind_of_response}
use Rattle.ua_services.specs.declared.request.Request.{Request}
use Rattle.ua_services.specs.declared.response.Response.{Response}
use Rattle.ua_services.specs.declared.response.Response.TheVariants.{CreateSession}
use Rattle.ua_services.specs.declared.response.ResponseKind.{ResponseKind}
use Rattle.ua_services.specs.declared.response.ResponseKind.TheVariants as response_kind
use Rattle.ua_services.specs.SessionRequests.{create_session, activate_session_as, anonymous_id}
use Rattle.ua_channel.specs.Client.{SameClient, url_of}
use Rattle.ua_channel.specs.Line.{Traffic}
use Rattle.ua_channel.specs.declared.client.channel.ClientChannel.{ClientChannel}
use Rattle.ua_client.specs.Calls.{Answered, BreaksAt, LastCame, sent_at}
use Rattle.ua_client.specs.Hearing.{channel_of_connection, most_reads, MovesConnection, StopsByTraffic}
use Rattle.ua_client.specs.Renewing.{IsIdle, IsSettled}
use Rattle.ua_client.specs.ClientPlace.{ClientPlace, StandsAt, id_at}
use Rattle.ua_client.specs.declared.connection.Connection.{Connection}
use Rattle.ua_client.specs.declared.fault.ClientFault.{ClientFault}
use Rattle.ua_client.specs.declared.fault.SessionFault.{SessionFault}
use Rattle.ua_client.specs.declared.fault.ClientFault.TheVariants as fault
use Rattle.ua_client.specs.declared.reply.Reply.{Reply}
use Rattle.ua_client.specs.declared.reply.Reply.TheVariants.{Response as Responds, Aborted}

-- ---- what is asked

-- CreateSession, called there at this time for the server of this URL: its RequestHandle is its
-- RequestId
abbrev pub creating_at : Option (List ℕ) → DateTime → ClientPlace → Request
creating_at url moment s = create_session url moment (id_at s)

-- ActivateSession, called there at this time under the token of the session, by the token policy
-- with this PolicyId: its RequestHandle is its RequestId
abbrev pub activating_at : Option (List ℕ) → NodeId → DateTime → ClientPlace → Request
activating_at policy_id token moment s = activate_session_as policy_id token moment (id_at s)

-- a request that was made is the one to call in the state of the channel; one that was not cannot
-- be encoded, or an allocation failed
abbrev pub MakesRequest : (ClientPlace → Request) → ClientChannel → Result Request ClientFault → Type 0
MakesRequest wanted x (Ok made) = (s : ClientPlace) → StandsAt x s → made ≡ wanted s
MakesRequest wanted x (Err fault.NotWritable) = (s : ClientPlace) → StandsAt x s → IsFalse (request.encodable (wanted s))
MakesRequest wanted x (Err fault.OutOfMemory) = Unit {0}
MakesRequest wanted x (Err other) = ⊥

-- ---- what a reply says

-- a ServiceFault
abbrev pub is_fault : ResponseKind → Bool
is_fault response_kind.ServiceFault = true
is_fault other = false

-- the service failed by this response: it is a ServiceFault, whatever its code, or its
-- ServiceResult is bad (OPC 10000-4, 5.3 and 7.34)
abbrev pub is_failure : Response → Bool
is_failure m = is_fault (kind_of_response m) || is_bad (header_of_response m).service_result

-- the code by which it failed, if it did
abbrev pub response_failure : Response → Option StatusCode
response_failure m = cond (is_failure m) (Some (header_of_response m).service_result) None

-- the code by which a service failed, if it did: that of the response, or that with which the
-- server aborted its response
abbrev pub reply_failure : Reply → Option StatusCode
reply_failure (Responds m) = response_failure m
reply_failure (Aborted code) = Some code

-- the AuthenticationToken in a reply, if it is a response to CreateSession
abbrev pub token_in : Reply → Option NodeId
token_in (Responds (CreateSession m)) = Some m.authentication_token
token_in other = None

-- the reply itself
abbrev pub is_reply : Reply → Reply → Type 0
is_reply found reply = found ≡ reply

-- the reply brings this token
abbrev pub brings_token : NodeId → Reply → Type 0
brings_token token reply = token_in reply ≡ Some token

-- whatever the reply brings
abbrev pub brings_any : Unit {0} → Reply → Type 0
brings_any done reply = Unit {0}

-- a fault is that by which the service failed
abbrev pub IsFailure : Reply → ClientFault → Type 0
IsFailure reply f = (code : StatusCode) × (f ≡ fault.Service code) × (reply_failure reply ≡ Some code)

-- a fault is that of a reply that brings no token
abbrev pub LacksToken : Reply → ClientFault → Type 0
LacksToken reply f = (f ≡ fault.UnknownResponse) × (token_in reply ≡ None)

-- ---- a service

-- a request that was called there by itself is answered: what was sent and taken, the state of the
-- channel of the client then, and the reply
pub record IsReplied (x : ClientChannel) (request : Request) (s t : ClientPlace) (sent taken : List ℕ) (reply : Reply) : Type 0 where
  pub sent_is : sent ≡ sent_at s (request ∷ [])
  pub came : LastCame x (request ∷ []) (id_at s) t.asks t.octets t.told
  pub answered : Answered (request ∷ []) s t taken (reply ∷ [])

-- the same, with the state of the channel after it, and the reply has this property; if the state
-- was settled, it is settled again
pub record Replies (request : Request) (s : ClientPlace) (x : ClientChannel) (sent taken : List ℕ) (P : Reply → Type 0) : Type 0 where
  pub behind : ClientPlace
  pub at : StandsAt x behind
  pub settled : IsSettled s → IsSettled behind
  pub reply : Reply
  pub replied : IsReplied x request s behind sent taken reply
  pub says : P reply

-- the outcome of a request that is called there by itself: the reply, or a fault of the call
abbrev pub CallsOneAt : Request → ClientPlace → Connection → List ℕ → List ℕ → Result Reply ClientFault → Type 0
CallsOneAt request s new sent taken (Ok found) = Replies request s (channel_of_connection new) sent taken (is_reply found)
CallsOneAt request s new sent taken (Err f) = BreaksAt (request ∷ []) s new sent taken f

-- the outcome of a service whose request is called there by itself: a reply by which it did not
-- fail, and what that brings; the code of one by which it failed; or a fault of the call
abbrev pub ServesAt : {A : Type 0} → Request → (A → Reply → Type 0) → ClientPlace → Connection → List ℕ → List ℕ → Result A ClientFault → Type 0
ServesAt request brings s new sent taken (Ok found) = Replies request s (channel_of_connection new) sent taken
    (λ reply. (reply_failure reply ≡ None) × brings found reply)
ServesAt request brings s new sent taken (Err (fault.Service code)) = Replies request s (channel_of_connection new) sent taken
    (λ reply. reply_failure reply ≡ Some code)
ServesAt request brings s new sent taken (Err f) = BreaksAt (request ∷ []) s new sent taken f

-- ---- both services

-- CreateSession, called there, brought a token; of what was sent and taken after that, if a channel
-- of this client then had a state, this holds
pub record BehindCreating (client : ClientChannel) (url : Option (List ℕ)) (moment : DateTime) (s : ClientPlace) (sent taken : List ℕ) (P : NodeId → ClientPlace
    → List ℕ → List ℕ → Type 0) : Type 0 where
  pub token : NodeId
  pub between : ClientPlace
  pub channel : ClientChannel
  pub same : SameClient channel client
  pub at : StandsAt channel between
  pub settled : IsSettled s → IsSettled between
  pub reply : Reply
  pub sent_before : List ℕ
  pub sent_then : List ℕ
  pub sent_parts : sent ≡ sent_before ++ sent_then
  pub taken_before : List ℕ
  pub taken_then : List ℕ
  pub taken_parts : taken ≡ taken_before ++ taken_then
  pub created : IsReplied channel (creating_at url moment s) s between sent_before taken_before reply
  pub good : reply_failure reply ≡ None
  pub brought : brings_token token reply
  pub further : P token between sent_then taken_then

-- the outcome of ActivateSession by the token policy with this PolicyId, after CreateSession,
-- called there
abbrev pub ActivatesBehind : Option (List ℕ) → Option (List ℕ) → DateTime → ClientPlace → Connection → List ℕ → List ℕ → (NodeId → Type 0)
    → Result (Unit {0}) ClientFault → Type 0
ActivatesBehind url policy_id moment s new sent taken P result =
    BehindCreating (channel_of_connection new) url moment s sent taken (λ token t sent_then taken_then. P token
    × ServesAt (activating_at policy_id token moment t) brings_any t new sent_then taken_then result)

-- the outcome of a session that is begun there: both services are done, and the first brought this
-- token; or one of them was not, by this fault, and it was the first, or the second after the first
abbrev pub BeginsSessionAt : Option (List ℕ) → Option (List ℕ) → DateTime → ClientPlace → Connection → List ℕ → List ℕ → Result NodeId ClientFault → Type 0
BeginsSessionAt url policy_id moment s new sent taken (Ok token) = ActivatesBehind url policy_id moment s new sent taken (λ given. given ≡ token) (Ok tt)
BeginsSessionAt url policy_id moment s new sent taken (Err f) =
    ServesAt (creating_at url moment s) brings_token s new sent taken (Err f) ⊎ ActivatesBehind url policy_id moment s new sent taken (λ given. Unit {0})
    (Err f)

-- the fault of a session that was not begun, without the token that was received by then
abbrev pub session_alone : {A : Type 0} → Result A SessionFault → Result A ClientFault
session_alone (Ok found) = Ok found
session_alone (Err c) = Err c.fault

-- of a client that is done
abbrev pub session_closed : SessionFault
session_closed = record { token = None; fault = fault.Closed }

-- a session that was to be begun there was not, by this fault: without a token it is the fault of
-- CreateSession, with one that of ActivateSession, after CreateSession, which brought exactly this
-- token
abbrev pub FailsSessionAt : Option (List ℕ) → Option (List ℕ) → DateTime → ClientPlace → Connection → List ℕ → List ℕ → Option NodeId → ClientFault → Type 0
FailsSessionAt url policy_id moment s new sent taken None f = ServesAt (creating_at url moment s) brings_token s new sent taken (Err f)
FailsSessionAt url policy_id moment s new sent taken (Some token) f = ActivatesBehind url policy_id moment s new sent taken (λ given. given ≡ token) (Err f)

-- the same for a session that is begun there, with the token of one that was created and not
-- activated
abbrev pub TriesSessionAt : Option (List ℕ) → Option (List ℕ) → DateTime → ClientPlace → Connection → List ℕ → List ℕ → Result NodeId SessionFault → Type 0
TriesSessionAt url policy_id moment s new sent taken (Ok token) = ActivatesBehind url policy_id moment s new sent taken (λ given. given ≡ token) (Ok tt)
TriesSessionAt url policy_id moment s new sent taken (Err c) = FailsSessionAt url policy_id moment s new sent taken c.token c.fault

-- what was done over a transport, by its outcome in the state of the client, with this many reads
-- left before and after
pub record Does {A : Type 0} (P : ClientPlace → List ℕ → List ℕ → Type 0) (old new : Connection) (before after : Option Traffic) (reads left : ℕ)
    (result : Result A ClientFault) : Type 0 where
  pub sent : List ℕ
  pub moves : MovesConnection old new sent before after
  pub same : SameClient (channel_of_connection old) (channel_of_connection new)
  pub answers : (s : ClientPlace) → StandsAt (channel_of_connection old) s → P s sent moves.taken
  pub stops : StopsByTraffic reads left moves.got new after result

-- the same, for a channel that is idle
abbrev pub DoesIdle : {A : Type 0} → (ClientPlace → List ℕ → List ℕ → Type 0) → Connection → Connection → Option Traffic → Option Traffic → ℕ → ℕ
    → Result A ClientFault → Type 0
DoesIdle P old new before after reads left result = Does (λ s sent taken. IsIdle (channel_of_connection old) s → P s sent taken) old new before after reads left
    result

-- a session is begun at this time over a transport, by the token policy with this PolicyId
abbrev pub BeginsSessionAs : Option (List ℕ) → DateTime → Connection → Connection → Option Traffic → Option Traffic → Result NodeId ClientFault → Type 0
BeginsSessionAs policy_id moment old new before after result =
    Does (λ s sent taken. BeginsSessionAt (url_of (channel_of_connection old)) policy_id moment s new sent taken result) old new before after most_reads
    most_reads result

-- the same, with the token of a session that was created and not activated
abbrev pub TriesSession : Option (List ℕ) → DateTime → Connection → Connection → Option Traffic → Option Traffic → Result NodeId SessionFault → Type 0
TriesSession policy_id moment old new before after result =
    Does (λ s sent taken. TriesSessionAt (url_of (channel_of_connection old)) policy_id moment s new sent taken result) old new before after most_reads
    most_reads
    (session_alone result)

-- a session is begun by the token policy `anonymous`
abbrev pub BeginsSession : DateTime → Connection → Connection → Option Traffic → Option Traffic → Result NodeId ClientFault → Type 0
BeginsSession moment old new before after result = BeginsSessionAs anonymous_id moment old new before after result
