-- A client over any transport to a server, between two of its calls: what it did so far, and the
-- states of both ends.
use Rattle.std.specs.Prelude.{◌≡◌, ◌⊎◌, ℕ, ◌+◌, ◌<◌, ◌≤◌, ◌^◌, ◌++◌, IsTrue, List, [], ◌∷◌, length, map, Option, Some, None}
use Rattle.ua_builtin.specs.DateTime.{date_time}
use Rattle.ua_builtin.specs.declared.date_time.DateTime.{DateTime}
use Rattle.ua_builtin.specs.declared.node_id.NodeId.{NodeId}
use Rattle.ua_builtin.specs.declared.status_code.StatusCode.{StatusCode}
use Rattle.ua_frame.specs.declared.ack.Ack.{Ack}
use Rattle.ua_frame.specs.declared.limits.Limits.{Limits}
use Rattle.ua_channel.specs.Client.{client_limits, url_of}
use Rattle.ua_channel.specs.ClientAsks.{call_lane}
use Rattle.ua_channel_laws.specs.ClientReads.{AtClient}
use Rattle.ua_channel.specs.Line.{Traffic, IfTrafficKnown}
use Rattle.ua_channel_laws.specs.ServerReads.{AtServer, ServerReads}
use Rattle.ua_channel.specs.ServerTold.{Told}
use Rattle.ua_channel.specs.declared.client.channel.ClientChannel.{ClientChannel}
use Rattle.ua_services.specs.declared.request.Request.{Request}
use Rattle.ua_services.specs.SessionRequests.{activate_session_as, create_session}
use Rattle.ua_server.specs.State.{State}
use Rattle.ua_client.specs.Client.{IsReady, connection_of}
use Rattle.ua_client.specs.Hearing.{channel_of_connection, untaken_of}
use Rattle.ua_client.specs.Renewing.{IsSettled}
use Rattle.ua_client.specs.Session.{reply_failure}
use Rattle.ua_client.specs.ClientPlace.{ClientPlace, id_at}
use Rattle.ua_client.specs.declared.client.Client.{Client}
use Rattle.ua_client.specs.declared.connection.Connection.{Connection}
use Rattle.ua_client.specs.declared.fault.ClientFault.{ClientFault}
use Rattle.ua_client.specs.declared.fault.ClientFault.TheVariants as fault
use Rattle.ua_client.specs.declared.reply.Reply.{Reply}
use Rattle.ua_loopback.specs.Accepted.{AreAcceptedUnder, acknowledged, tokens_held}
use Rattle.ua_loopback.specs.Beginning.{Beginning}
use Rattle.ua_loopback.specs.Course.{opening_octets}
use Rattle.ua_loopback.specs.Faults.{FailsBehind, StopsAfter}
use Rattle.ua_loopback.specs.Replies.{HaveMisanswer, lane_back_by_token, requests_replies, turns_state}
use Rattle.ua_loopback.specs.Says.{server_output, state_told}
use Rattle.ua_loopback.specs.Sends.{closing_behind, turn_octets, turns_number}
use Rattle.ua_loopback.specs.Together.{AreServing}
use Rattle.ua_loopback.specs.Turns.{ids_behind, opening_told, tokens_behind, turns_told}

-- ---- the transport

-- the server-to-client bytes of a transport are the response of a server that began in this way to
-- its client-to-server bytes, after these in the one and those in the other direction: whatever
-- more is sent, to come is the response to all of it, after what was received
abbrev pub IsLineTo : Beginning → List ℕ → List ℕ → Option Traffic → Type 0
IsLineTo b sent got None = ⊥
IsLineTo b sent got (Some traffic) = (more : List ℕ) → server_output b (sent ++ more) ≡ got ++ traffic.coming more

-- exactly these bytes were sent over a transport, if it tells them, between two times
abbrev pub IsSentOver : List ℕ → Option Traffic → Option Traffic → Type 0
IsSentOver octets before after = IfTrafficKnown (λ (a b : Traffic). b.written ≡ a.written ++ octets) before after

-- after a call of a client that failed in this way over a transport, over which these bytes went
-- before, some were sent, and this is what the server makes of all of them
abbrev pub StopsOver : ClientFault → Beginning → List ℕ → Option Traffic → Option Traffic → Type 0
StopsOver f b octets before after = (sent : List ℕ) × IsSentOver sent before after × StopsAfter f b (octets ++ sent)

-- the numbers of a server have 32 bits, as its ACK and its channel give them, and its times can be
-- encoded (OPC 10000-6, 7.1.2.4)
pub record CanBegin (b : Beginning) : Type 0 where
  pub octets : b.limits.max_message_size < 2 ^ 32
  pub chunks : b.limits.max_chunk_count < 2 ^ 32
  pub on : b.channel < 2 ^ 32
  pub dated : (n : ℕ) → IsTrue (date_time.encodable (b.moments n))

-- such a server decodes these bytes, rejects nothing of them, and is told exactly this
abbrev pub Reads : Beginning → List ℕ → List Told → Type 0
Reads b octets told = (at : AtServer) × ServerReads b.limits b.channel octets told at

-- ---- what was done so far

-- how the server began; the limits of the client, and the URL that it named; the operations that it
-- did, each by its requests, none if it was a renewal; and all bytes that it sent
pub record SoFar : Type 0 where
  pub server : Beginning
  pub limits : Limits
  pub url : Option (List ℕ)
  pub turns : List (Option (List Request))
  pub octets : List ℕ

-- a client opened its channel at this time
abbrev pub opening : Beginning → Limits → Option (List ℕ) → DateTime → SoFar
opening b limits url moment = record { server = b; limits = limits; url = url; turns = []; octets = opening_octets limits url moment }

-- what was acknowledged to it (OPC 10000-6, 7.1.2.4)
abbrev pub acked_in : SoFar → Ack
acked_in t = acknowledged t.server.limits t.limits t.url

-- what the server was told of the opening and of the operations
abbrev pub told_so_far : SoFar → List Told
told_so_far t = opening_told t.server.limits t.limits t.url ++ turns_told 1 2 t.turns

-- the newest token, and the next RequestId
abbrev pub newest_in : SoFar → ℕ
newest_in t = tokens_behind 1 t.turns

abbrev pub id_in : SoFar → ℕ
id_in t = ids_behind 2 t.turns

-- the number of the next answer that carries a time: each RequestId had one such answer
abbrev pub answers_in : SoFar → ℕ
answers_in t = ids_behind 1 t.turns

-- the state that the operations left, each request in the state that those before it left
abbrev pub state_in : SoFar → State
state_in t = turns_state t.server.first t.server.moments 1 t.turns

-- the bytes of one more operation, made at this time: its requests under the newest token and the
-- next RequestIds, or the OPN of a renewal
abbrev pub octets_of_turn : SoFar → DateTime → Option (List Request) → List ℕ
octets_of_turn t moment turn = turn_octets (call_lane (acked_in t) t.server.channel (newest_in t)) (turns_number (acked_in t) t.server.channel 1 2 t.turns)
    (id_in t) moment turn

-- with one more operation, made at this time
abbrev pub with_turn : SoFar → DateTime → Option (List Request) → SoFar
with_turn t moment turn =
    record { server = t.server; limits = t.limits; url = t.url; turns = t.turns ++ turn ∷ []; octets = t.octets ++ octets_of_turn t moment turn }

-- the requests that begin a session to which the server gave this token, sent at this time by the
-- token policy with this PolicyId: the RequestHandle of each is its RequestId (OPC 10000-4, 5.7.2
-- and 5.7.3)
abbrev pub session_requests : SoFar → Option (List ℕ) → NodeId → DateTime → List Request
session_requests t policy_id token moment = create_session t.url moment (id_in t) ∷ activate_session_as policy_id token moment (id_in t + 1) ∷ []

-- the first of them, or both
abbrev pub AreSession : SoFar → Option (List ℕ) → DateTime → List Request → Type 0
AreSession t policy_id moment requests = (requests ≡ create_session t.url moment (id_in t) ∷ [])
    ⊎ ((token : NodeId) × (requests ≡ session_requests t policy_id token moment))

-- by the server's reply to the last of these the service failed, with this code
pub record RefusesSession (t : SoFar) (policy_id : Option (List ℕ)) (moment : DateTime) (code : StatusCode) : Type 0 where
  pub requests : List Request
  pub are : AreSession t policy_id moment requests
  pub before : List Reply
  pub last : Reply
  pub replied : map (λ (r : Reply). Some r) (before ++ last ∷ []) ≡ requests_replies (lane_back_by_token t.server t.limits t.url (newest_in t))
      (state_in t) t.server.moments (answers_in t) requests
  pub failed : reply_failure last ≡ Some code

-- the server's answer to one of these is no response that answers it
abbrev pub MisanswersSession : SoFar → Option (List ℕ) → DateTime → Type 0
MisanswersSession t policy_id moment = (requests : List Request) × AreSession t policy_id moment requests
    × HaveMisanswer (state_in t) t.server.moments (answers_in t) requests

-- why a session is not begun after a talk
abbrev pub FailsSession : SoFar → Option (List ℕ) → DateTime → ClientFault → Type 0
FailsSession t policy_id moment (fault.Service code) = RefusesSession t policy_id moment code
FailsSession t policy_id moment other = FailsBehind (MisanswersSession t policy_id moment) other

-- all bytes with those of the CLO at this time
abbrev pub closed_octets : SoFar → DateTime → List ℕ
closed_octets t moment = t.octets ++ closing_behind (acked_in t) t.server.channel moment t.turns

-- ---- where both ends are

-- a client with these limits is in this state, a settled one: of these bytes, which told such a
-- server this, it took all that the server sends, and both are in step; this is the newest token,
-- this the next RequestId, and it holds this many tokens
pub record IsServed (b : Beginning) (limits : Limits) (url : Option (List ℕ)) (octets : List ℕ) (told : List Told) (token id held : ℕ) (site : ClientPlace)
    (x : ClientChannel) : Type 0 where
  pub limits_are : client_limits x ≡ limits
  pub on : b.channel < 2 ^ 32
  pub settled : IsSettled site
  pub at_server : AtServer
  pub at_client : AtClient
  pub serving : AreServing b url octets told at_server x site at_client
  pub tokens_are : at_server.issued ≡ token
  pub newest_is : at_client.newest ≡ token
  pub id_is : id_at site ≡ id
  pub few : id ≤ 4294967295
  pub held_is : length at_client.tokens ≡ held

-- the same for a client over a transport to such a server, which sent exactly these bytes
pub record AreTalking (b : Beginning) (limits : Limits) (url : Option (List ℕ)) (octets : List ℕ) (told : List Told) (token id held : ℕ) (site : ClientPlace)
    (x : Connection) (now : Option Traffic) : Type 0 where
  pub got : List ℕ
  pub line : IsLineTo b octets got now
  pub got_is : got ≡ site.octets ++ untaken_of x
  pub served : IsServed b limits url octets told token id held site (channel_of_connection x)

-- the same after the operations of a talk, each of which was accepted
pub record TalksAt (t : SoFar) (site : ClientPlace) (x : Connection) (now : Option Traffic) : Type 0 where
  pub url_is : url_of (channel_of_connection x) ≡ t.url
  pub dated : (n : ℕ) → IsTrue (date_time.encodable (t.server.moments n))
  pub accepted : AreAcceptedUnder (acked_in t) t.turns
  pub number_is : site.number ≡ turns_number (acked_in t) t.server.channel 1 2 t.turns
  pub state_is : state_told t.server (told_so_far t) ≡ state_in t
  pub talking : AreTalking t.server t.limits t.url t.octets (told_so_far t) (newest_in t) (id_in t) (tokens_held 1 t.turns) site x now

-- a client over a transport to a server is after this talk, and may be called: the server decoded
-- all that it sent and was told exactly its operations, the client took all that the server sends
-- for that, and both are in step
pub record IsTalking (t : SoFar) (x : Client) (now : Option Traffic) : Type 0 where
  pub ready : IsReady x
  pub site : ClientPlace
  pub talks : TalksAt t site (connection_of x) now

-- it is after this talk and the first of these requests, sent at this time
pub record IsBehindFirst (t : SoFar) (moment : DateTime) (requests : List Request) (x : Client) (now : Option Traffic) : Type 0 where
  pub done : List Request
  pub others : List Request
  pub parts : requests ≡ done ++ others
  pub talking : IsTalking (with_turn t moment (Some done)) x now
