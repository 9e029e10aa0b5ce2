-- Hello, Acknowledge and Error: how bytes encode them, and the frames of an ACK and of an ERR (OPC
-- 10000-6, 7.1.2.3 to 7.1.2.5).
use Rattle.std.specs.Prelude.{ℕ, List, Option, None}
use Rattle.ua_builtin.specs.Format.{Flat}
use Rattle.ua_builtin.specs.Join.{number, both, made}
use Rattle.ua_builtin.specs.Counted.{text}
use Rattle.ua_builtin.specs.Status.{status_code}
use Rattle.ua_builtin.specs.declared.status_code.StatusCode.{StatusCode}
use Rattle.ua_frame.specs.declared.frame.Frame.{Frame}
use Rattle.ua_frame.specs.declared.kind.Kind.TheVariants as kind
use Rattle.ua_frame.specs.declared.hello.Hello.{Hello}
use Rattle.ua_frame.specs.declared.ack.Ack.{Ack}
use Rattle.ua_frame.specs.declared.error.ErrorFrame.{ErrorFrame}

-- ---- Hello: five UInt32s and a String
-- version 0, sizes 65535, no limits, and the URL 'a':
-- 00 00 00 00 FF FF 00 00 FF FF 00 00 00 00 00 00 00 00 00 00 01 00 00 00 61

-- a Hello's fields in order: five numbers, and the endpoint's URL or null (OPC 10000-6, 7.1.2.3)
abbrev pub HelloFields : Type 0
HelloFields = ℕ × (ℕ × (ℕ × (ℕ × (ℕ × Option (List ℕ)))))

-- the encoding of a Hello's fields, one after the other: five UInt32s and a String (OPC 10000-6,
-- 7.1.2.3)
abbrev pub hello_fields : Flat HelloFields
hello_fields = both (number 4) (both (number 4) (both (number 4) (both (number 4) (both (number 4) text))))

-- the Hello that has these fields
abbrev pub hello_of : HelloFields → Hello
hello_of p = record {
  protocol_version = p.0;
  receive_buffer_size = p.1.0;
  send_buffer_size = p.1.1.0;
  max_message_size = p.1.1.1.0;
  max_chunk_count = p.1.1.1.1.0;
  endpoint_url = p.1.1.1.1.1;
}

-- the fields of a Hello
abbrev pub fields_of_hello : Hello → HelloFields
fields_of_hello h = (h.protocol_version, (h.receive_buffer_size, (h.send_buffer_size, (h.max_message_size, (h.max_chunk_count, h.endpoint_url)))))

-- its version, receive and send buffer size, greatest message size and chunk count, and the URL of
-- the endpoint
unfoldable pub hello : Flat Hello
hello = made hello_of fields_of_hello hello_fields

-- ---- Acknowledge: five UInt32s

-- an Acknowledge's fields in order: five numbers (OPC 10000-6, 7.1.2.4)
abbrev pub AckFields : Type 0
AckFields = ℕ × (ℕ × (ℕ × (ℕ × ℕ)))

-- the encoding of an Acknowledge's fields, one after the other: five UInt32s (OPC 10000-6, 7.1.2.4)
abbrev pub ack_fields : Flat AckFields
ack_fields = both (number 4) (both (number 4) (both (number 4) (both (number 4) (number 4))))

-- the Acknowledge that has these fields
abbrev pub ack_of : AckFields → Ack
ack_of p = record {
  protocol_version = p.0;
  receive_buffer_size = p.1.0;
  send_buffer_size = p.1.1.0;
  max_message_size = p.1.1.1.0;
  max_chunk_count = p.1.1.1.1;
}

-- the fields of an Acknowledge
abbrev pub fields_of_ack : Ack → AckFields
fields_of_ack a = (a.protocol_version, (a.receive_buffer_size, (a.send_buffer_size, (a.max_message_size, a.max_chunk_count))))

-- its version, receive and send buffer size, greatest message size and chunk count
unfoldable pub ack : Flat Ack
ack = made ack_of fields_of_ack ack_fields

-- ---- Error: a StatusCode and a String, as 00 00 7E 80 FF FF FF FF of Bad_TcpMessageTypeInvalid and null

-- the Error of a StatusCode and a reason (OPC 10000-6, 7.1.2.5)
abbrev pub error_of : StatusCode × Option (List ℕ) → ErrorFrame
error_of p = record { error = p.0; reason = p.1 }

-- the fields of an Error: its StatusCode and its reason
abbrev pub fields_of_error : ErrorFrame → StatusCode × Option (List ℕ)
fields_of_error e = (e.error, e.reason)

-- the StatusCode of the error, and its reason
unfoldable pub error : Flat ErrorFrame
error = made error_of fields_of_error (both status_code text)

-- ---- the frames of an ACK and of an ERR without a reason

-- the ACK frame of an Acknowledge, flagged F
abbrev pub ack_frame : Ack → Frame
ack_frame a = record { kind = kind.Ack; flag = 70; body = ack.canonical a }

-- the ERR frame of a StatusCode, flagged F, with a null reason
abbrev pub err_frame : StatusCode → Frame
err_frame code = record { kind = kind.Err; flag = 70; body = error.canonical (record { error = code; reason = None }) }
