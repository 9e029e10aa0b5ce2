-- What a server answers to a Hello.
use Rattle.std.specs.Prelude.{ℕ, min, List, [], ◌∷◌, Bool, ◌||◌, nat_lt, Option, Some, None, Result, Ok, Err, length}
use Rattle.ua_builtin.specs.Status.{of_code}
use Rattle.ua_builtin.specs.declared.status_code.StatusCode.{StatusCode}
use Rattle.ua_frame.specs.declared.ack.Ack.{Ack}
use Rattle.ua_frame.specs.declared.hello.Hello.{Hello}
use Rattle.ua_frame.specs.declared.limits.Limits.{Limits}
use Rattle.ua_builtin.specs.Reasons.{first_reason}

-- the number of bytes of a URL, if there is one
abbrev pub url_length : Option (List ℕ) → ℕ
url_length None = 0
url_length (Some url) = length url

-- the URL has 4096 bytes or more (OPC 10000-6, 7.1.2.3)
abbrev pub is_url_long : Hello → Bool
is_url_long h = nat_lt 4095 (url_length h.endpoint_url)

-- a buffer size is below 8192 (OPC 10000-6, 7.1.2.3)
abbrev pub is_buffer_small : Hello → Bool
is_buffer_small h = nat_lt h.receive_buffer_size 8192 || nat_lt h.send_buffer_size 8192

-- why a server rejects a Hello, in the order in which it is judged: BadTcpEndpointUrlInvalid,
-- BadTcpNotEnoughResources
abbrev pub hello_reasons : Hello → List (ℕ × Bool)
hello_reasons h = (0x8083_0000, is_url_long h) ∷ (0x8081_0000, is_buffer_small h) ∷ []

-- what is agreed: each size the smaller of what one end receives and the other sends, and the
-- server's own limits of messages (OPC 10000-6, 7.1.2.4)
abbrev pub ack_to : Hello → Limits → Ack
ack_to h limits = record {
  protocol_version = 0;
  receive_buffer_size = min limits.receive_buffer_size h.send_buffer_size;
  send_buffer_size = min limits.send_buffer_size h.receive_buffer_size;
  max_message_size = limits.max_message_size;
  max_chunk_count = limits.max_chunk_count;
}

-- the Acknowledge, or the StatusCode by which the Hello is rejected, if there is one
abbrev pub unless_refused : Option ℕ → Ack → Result Ack StatusCode
unless_refused None a = Ok a
unless_refused (Some code) a = Err (of_code code)

-- the answer to a Hello of a server with these limits
abbrev pub agreed : Hello → Limits → Result Ack StatusCode
agreed h limits = unless_refused (first_reason (hello_reasons h)) (ack_to h limits)
