-- What a server and a client agree to, and how a server's replies are sent.
use Rattle.std.specs.Prelude.{ℕ, ◌-◌}
use Rattle.ua_frame.specs.declared.ack.Ack.{Ack}
use Rattle.ua_frame.specs.declared.hello.Hello.{Hello}
use Rattle.ua_frame.specs.declared.limits.Limits.{Limits}
use Rattle.ua_frame.specs.Agreement.{ack_to}
use Rattle.ua_frame.specs.Limits.{tighter}
use Rattle.ua_chunk.specs.declared.lane.Lane.{Lane}

-- the Acknowledge, and the limits of a response: its bytes and its chunks, 0 for none (OPC 10000-6,
-- 7.1.2.3)
pub record Agreement : Type 0 where
  pub ack : Ack
  pub octets : ℕ
  pub chunks : ℕ

-- what a server with these limits agrees to with a client that sends this Hello: a response has no
-- more bytes than the client takes, nor than the server allows itself
abbrev pub agreement_of : Limits → Hello → Agreement
agreement_of limits h = record { ack = ack_to h limits; octets = tighter h.max_message_size limits.max_response_size; chunks = h.max_chunk_count }

-- the bytes of a chunk's headers
abbrev pub headers_size : ℕ
headers_size = 24

-- the maximum chunk body size for frames of at most this size, in bytes
abbrev pub room : ℕ → ℕ
room size = size - headers_size

-- the lane of replies: on this channel, under this token, in frames of the agreed size, within the
-- limits of a response
abbrev pub lane_of : ℕ → ℕ → Agreement → Lane
lane_of channel token a = record { channel = channel; token = token; room = room a.ack.send_buffer_size; octets = a.octets; chunks = a.chunks }
