-- The states of both ends of a connection between two operations of a client over a transport.
use Rattle.std.specs.Prelude.{◌≡◌, ◌<◌, ◌≤◌, ℕ, List, ◌++◌, map, Option, Some}
use Rattle.std.specs.List.{AllByRecursion}
use Rattle.ua_builtin.specs.declared.date_time.DateTime.{DateTime}
use Rattle.ua_frame.specs.Agreement.{ack_to}
use Rattle.ua_frame.specs.Frames.{frame_octets}
use Rattle.ua_frame.specs.Messages.{ack_frame}
use Rattle.ua_frame.specs.declared.limits.Limits.{Limits}
use Rattle.ua_chunk.specs.declared.lane.Lane.{Lane}
use Rattle.ua_channel.specs.Agreement.{agreement_of}
use Rattle.ua_channel.specs.Client.{client_limits}
use Rattle.ua_channel_laws.specs.ClientReads.{AtClient, ClientReads}
use Rattle.ua_channel.specs.ClientSends.{hello_to}
use Rattle.ua_channel_laws.specs.InStep.{AreInStep}
use Rattle.ua_channel_laws.specs.Outgoing.{server_behind}
use Rattle.ua_channel_laws.specs.Outgoing.Outgoing.{CallWith}
use Rattle.ua_channel_laws.specs.ServerReads.{AtServer, ServerReads}
use Rattle.ua_channel.specs.ServerSends.{opened_frame}
use Rattle.ua_channel.specs.ServerTold.{Told}
use Rattle.ua_channel.specs.declared.client.channel.ClientChannel.{ClientChannel}
use Rattle.ua_client.specs.ClientPlace.{ClientPlace, StandsAt, id_at}
use Rattle.ua_server.specs.Said.{state_after}
use Rattle.ua_loopback.specs.Beginning.{Beginning}
use Rattle.ua_loopback.specs.Says.{server_output, answer_times}

-- a server with these limits on this channel decoded these bytes, which told it this, and has this
-- state; a client has the state after what the server sent; both are in step, and the client's next
-- number is the one that the server expects
pub record AreTogether (limits : Limits) (url : Option (List ℕ)) (channel : ℕ) (octets : List ℕ) (told : List Told) (s : AtServer) (x : ClientChannel)
    (site : ClientPlace) (c : AtClient) : Type 0 where
  pub server_reads : ServerReads limits channel octets told s
  pub stands : StandsAt x site
  pub client_reads : ClientReads (client_limits x) site.asks site.octets site.told c
  pub in_step : AreInStep limits (client_limits x) url channel s c
  pub number_is : site.number ≡ s.next

-- the same in one process: the client took all that a server which began in this way sends for
-- these bytes, and what the server sends next follows the agreement, under the number that the
-- client expects
pub record AreServing (b : Beginning) (url : Option (List ℕ)) (octets : List ℕ) (told : List Told) (s : AtServer) (x : ClientChannel) (site : ClientPlace)
    (c : AtClient) : Type 0 where
  pub together : AreTogether b.limits url b.channel octets told s x site c
  pub taken : site.octets ≡ server_output b octets
  pub agreed : (state_after b.channel b.first told (answer_times told b.moments)).agreement ≡ Some (agreement_of b.limits s.hello)
  pub says_next : (state_after b.channel b.first told (answer_times told b.moments)).number ≡ c.next
  -- the server issued each token that the client holds, and it issued fewer than RequestIds were
  -- used
  pub issued : AllByRecursion (λ (token : ℕ). token ≤ s.issued) c.tokens
  pub spare : s.issued < id_at site

-- what a server that began in this way answers to the opening of a client: its ACK, and the OPN
-- response that brings the first token (OPC 10000-6, 7.1.2.4 and 6.7.2)
abbrev pub opening_answer : Beginning → Limits → Option (List ℕ) → List ℕ
opening_answer b client url = frame_octets (ack_frame (ack_to (hello_to client url) b.limits))
    ++ frame_octets (opened_frame b.channel 1 1 0 1 3600000 (b.moments 0))

-- what it answers at this time to a renewal under this RequestId, with this SequenceNumber: the OPN
-- response that brings this token (OPC 10000-6, 6.7.2)
abbrev pub renewal_answer : Beginning → DateTime → ℕ → ℕ → ℕ → List ℕ
renewal_answer b moment number id token = frame_octets (opened_frame b.channel number id 0 token 3600000 moment)

-- the state of a server after calls with these bodies in a lane
abbrev pub behind_calls : AtServer → Lane → List (List ℕ) → AtServer
behind_calls s lane bodies = server_behind lane s (map CallWith bodies)
