-- What the two ends are: those of the program `ua`.
use Rattle.std.specs.Prelude.{ℕ, ◌+◌, ◌*◌, List, Some, codes}
use Rattle.std.proofs.Common.{lit≤}
use Rattle.ua_builtin.specs.declared.date_time.DateTime.{DateTime}
use Rattle.ua_frame.specs.Limits.{HasSizes}
use Rattle.ua_frame.specs.declared.ack.Ack.{Ack}
use Rattle.ua_frame.specs.declared.limits.Limits.{Limits}
use Rattle.ua_nodes.specs.Table.{Nodes}
use Rattle.ua_server.specs.State.{State, fresh}
use Rattle.ua_server.specs.declared.endpoint.Endpoint.{Endpoint}
use Rattle.ua_loopback.specs.Accepted as judged
use Rattle.ua_loopback.specs.Beginning.{Beginning}

-- the most bytes of a message
abbrev pub message_size : ℕ
message_size = 1048576

-- the limits of both: frames of 65535 bytes each way, messages of 1048576 bytes and 256 chunks
abbrev pub program_limits : Limits
program_limits = record {
  receive_buffer_size = 65535;
  send_buffer_size = 65535;
  max_message_size = message_size;
  max_chunk_count = 256;
  max_response_size = 0;
  receives = lit≤ tt;
  sends = lit≤ tt;
  takes_octets = lit≤ tt;
  takes_chunks = lit≤ tt;
}

-- limits of these sizes
abbrev pub AreOurs : Limits → Type 0
AreOurs limits = HasSizes limits 65535 65535 message_size 256

-- where the server is found
abbrev pub url : List ℕ
url = codes "opc.tcp://localhost:4840"

-- how the server describes itself
abbrev pub endpoint : Endpoint
endpoint = record { url = Some url; application_uri = Some (codes "urn:ua:server"); name = Some (codes "ua"); message_limit = message_size }

-- the SecureChannelId
abbrev pub channel : ℕ
channel = 1

-- what the server acknowledges to the client
abbrev pub exchange_ack : Ack
exchange_ack = judged.acknowledged program_limits program_limits (Some url)

-- the server's state when the connection begins
abbrev pub begun_over : Nodes → State
begun_over nodes = fresh nodes endpoint

-- how it begins over services in a state, with one time for each answer
abbrev pub beginning : State → DateTime → Beginning
beginning first moment = record { limits = program_limits; channel = channel; first = first; moments = λ (n : ℕ). moment }

-- the most bytes that either end holds of what is incomplete: 65535 of a frame, and 1048576 of each
-- of 4 unfinished messages
abbrev pub most_held : ℕ
most_held = 65535 + 4 * message_size
