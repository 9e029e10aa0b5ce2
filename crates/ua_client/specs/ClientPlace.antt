-- The state of a client, which is called its place.
use Rattle.std.specs.Prelude.{◌≡◌, nat_le, cond, ℕ, List, Option, Some, None}
use Rattle.ua_chunk.specs.declared.lane.Lane.{Lane}
use Rattle.ua_frame.specs.declared.ack.Ack.{Ack}
use Rattle.ua_channel.specs.Asks.{Placed, asked_in, next_id}
use Rattle.ua_channel.specs.Client.{ClientGoes, client_next}
use Rattle.ua_channel.specs.ClientAsks.{no_id, room_of}
use Rattle.ua_channel.specs.ClientTokens.{open_responses, first_channel, held_tokens}
use Rattle.ua_channel.specs.ClientTold.{ClientTold}
use Rattle.ua_channel.specs.Received.{Received, latest, received}
use Rattle.ua_channel.specs.declared.client.channel.ClientChannel.{ClientChannel}

-- the state of a client: its operations, each with its place; the bytes that its channel took, what
-- their frames brought, and what they told; the SequenceNumber that is sent next
pub record ClientPlace : Type 0 where
  pub asks : List Placed
  pub octets : List ℕ
  pub before : Received
  pub told : List ClientTold
  pub number : ℕ

-- the state of a channel is this
pub record StandsAt (x : ClientChannel) (s : ClientPlace) : Type 0 where
  pub goes : ClientGoes x s.asks s.octets s.told
  pub before_is : received goes.frames ≡ s.before
  pub number_is : client_next x ≡ s.number

-- the RequestId of the next call
abbrev pub id_at : ClientPlace → ℕ
id_at s = next_id (asked_in s.asks)

-- the RequestId under which a call would be sent, unless all were used
abbrev pub usable_id : ℕ → Option ℕ
usable_id id = cond (nat_le no_id id) None (Some id)

-- the lane of calls by an ACK, on a channel and under a token
abbrev pub lane_by : Option Ack → Option ℕ → Option ℕ → Option Lane
lane_by (Some a) (Some channel) (Some token) =
    Some (record { channel = channel; token = token; room = room_of a; octets = a.max_message_size; chunks = a.max_chunk_count })
lane_by (Some a) (Some channel) None = None
lane_by (Some a) None token = None
lane_by None channel token = None

-- the lane of calls after what was received: to the channel of the first OPN response, under the
-- newest token, in chunks that the server receives (OPC 10000-6, 6.7.2 and 7.1.2.4)
abbrev pub lane_behind : Received → Option Lane
lane_behind before = lane_by before.ack (first_channel (open_responses before.openings)) (latest (held_tokens before))
