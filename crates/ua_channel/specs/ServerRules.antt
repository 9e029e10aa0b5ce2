-- The rules of a server: which frames come next, which are rejected, what they tell, and which is
-- the last.
use Rattle.std.specs.Prelude.{ℕ, ◌==◌, if◌then◌else◌, Option, Some, None}
use Rattle.ua_frame.specs.declared.gate.Gate.{Gate}
use Rattle.ua_frame.specs.declared.hello.Hello.{Hello}
use Rattle.ua_frame.specs.declared.kind.Kind.TheVariants.{Msg, Opn, Clo}
use Rattle.ua_frame.specs.declared.limits.Limits.{Limits}
use Rattle.ua_frame.specs.Agreement.{ack_to}
use Rattle.ua_frame.specs.Hello.{hello_gate}
use Rattle.ua_frame.specs.Kinds.{closed_gate, gate_with}
use Rattle.ua_frame.specs.Run.{Rules}
use Rattle.ua_channel.specs.Content.{content}
use Rattle.ua_channel.specs.Received.{Received, received}
use Rattle.ua_channel.specs.ServerRefusals.{server_reasons}
use Rattle.ua_channel.specs.ServerTold.{Told, issued, server_tells}

-- the largest frame that a server with these limits takes: 8192 bytes before the ACK, then the
-- agreed size (OPC 10000-6, 7.1.2.3)
abbrev pub receive_size : Limits → Option Hello → ℕ
receive_size limits None = 8192
receive_size limits (Some h) = (ack_to h limits).receive_buffer_size

-- OPN frames of at most this many bytes
abbrev pub opening_gate : ℕ → Gate
opening_gate size = gate_with (closed_gate size) Opn

-- OPN, MSG and CLO frames of at most this many bytes
abbrev pub running_gate : ℕ → Gate
running_gate size = gate_with (gate_with (gate_with (closed_gate size) Opn) Msg) Clo

-- after the HEL, by the number of OPNs
abbrev pub gate_greeted : ℕ → ℕ → Gate
gate_greeted size count = if count == 0 then opening_gate size else running_gate size

-- by the Hello, if there was one, and the number of OPNs
abbrev pub server_gate_behind : Limits → Option Hello → ℕ → Gate
server_gate_behind limits None count = hello_gate
server_gate_behind limits (Some h) count = gate_greeted (receive_size limits (Some h)) count

-- which frames are in place: a HEL first, then an OPN, then OPN, MSG and CLO
abbrev pub server_gate : Limits → Received → Gate
server_gate limits before = server_gate_behind limits before.hello (issued before)

-- the rules of a server with these limits on this channel; a CLO is the last frame that is looked
-- at
abbrev pub server_rules : Limits → ℕ → Rules Told ℕ
server_rules limits channel = record {
  gate = λ before. server_gate limits (received before);
  reasons = λ before f. server_reasons limits channel (received before) (content f);
  of_header = λ code. code;
  tells = λ before f. server_tells limits (received before) (content f);
  over = λ before. (received before).closed;
}
