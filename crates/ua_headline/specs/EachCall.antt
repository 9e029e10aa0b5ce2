-- What a client is told of each of its calls, by bytes alone (OPC 10000-6, 6.7 and 7.1).
use Rattle.std.specs.Prelude.{ℕ, ◌+◌, ◌++◌, List, [], ◌∷◌, length}
use Rattle.ua_builtin.specs.declared.date_time.DateTime.{DateTime}
use Rattle.ua_frame.specs.Run.{events}
use Rattle.ua_frame.proofs.Readings.{reading}
use Rattle.ua_chunk.specs.Cutting.{cut_refusal}
use Rattle.ua_channel.specs.Agreement.{agreement_of, lane_of}
use Rattle.ua_channel.specs.Asks.{Placed}
use Rattle.ua_channel.specs.ClientSends.{hello_to}
use Rattle.ua_channel.specs.ClientTable.{client_rules}
use Rattle.ua_channel.specs.ClientTold.{ClientTold}
use Rattle.ua_channel.specs.ServerRules.{server_rules}
use Rattle.ua_channel_laws.specs.ClientReads.{told_reply}
use Rattle.ua_channel_laws.specs.Outgoing.{Outgoing}
use Rattle.ua_services.specs.Response.{response}
use Rattle.ua_server.specs.Reply.{answered}
use Rattle.ua_server.specs.Said.{behind_first, first_time, output_of}
use Rattle.ua_server.specs.State.{State}
use Rattle.ua_headline.specs.Talk.{Ends, left_by}

-- ---- by the definitions of both ends, whatever the fragments

-- all that such a server sends for these bytes
abbrev pub server_bytes : Ends → List ℕ → List ℕ
server_bytes e octets =
    output_of e.channel e.first (events (server_rules e.server e.channel) (reading (server_rules e.server e.channel) octets).frames)
    (reading (server_rules e.server e.channel) octets).end e.times

-- what these bytes tell such a client, which made these operations
abbrev pub client_events : Ends → List Placed → List ℕ → List ClientTold
client_events e asks octets = events (client_rules e.client asks) (reading (client_rules e.client asks) octets).frames

-- ---- a call

-- the operations of a client in order, those that it sends at once and those behind them
abbrev pub operations_of : List (List Outgoing) → List Outgoing
operations_of [] = []
operations_of (os ∷ turns) = os ++ operations_of turns

-- the RequestId of the call that is made after these operations: the first OPN has 1
abbrev pub id_after : List Outgoing → ℕ
id_after before = length before + 2

-- the state of the services after these operations, and the times of the answers that follow: the
-- OPN response had the first
abbrev pub services_before : Ends → List Outgoing → State × List DateTime
services_before e before = left_by e.first (behind_first e.times) before

-- the body of the services' response to a call with this body in that state, at the next time
abbrev pub body_answered : State × List DateTime → List ℕ → List ℕ
body_answered services body = response.canonical (answered services.0 (first_time services.1) body).1

-- what a client is told of the call with this body after these operations: that response, under the
-- RequestId of the call; or that it was aborted, if the body is larger than the client takes, or than
-- the server allows itself
abbrev pub reply_to_call : Ends → List Outgoing → List ℕ → ClientTold
reply_to_call e before body =
    told_reply (cut_refusal (lane_of e.channel 1 (agreement_of e.server (hello_to e.client e.url))) (body_answered (services_before e before) body))
    (id_after before) (body_answered (services_before e before) body)
