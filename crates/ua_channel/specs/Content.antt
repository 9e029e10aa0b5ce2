-- The content of one frame (UA TCP message), as far as it can be decoded: a function of the frame.
use Rattle.std.specs.Prelude.{ℕ, List, Option, Some, None}
use Rattle.ua_frame.specs.declared.ack.Ack.{Ack}
use Rattle.ua_frame.specs.declared.error.ErrorFrame.{ErrorFrame}
use Rattle.ua_frame.specs.declared.frame.Frame.{Frame}
use Rattle.ua_frame.specs.declared.hello.Hello.{Hello}
use Rattle.ua_frame.specs.declared.kind.Kind.{Kind}
use Rattle.ua_frame.specs.declared.kind.Kind.TheVariants.{Hel, Msg, Opn, Clo}
use Rattle.ua_frame.specs.declared.kind.Kind.TheVariants as kind
use Rattle.ua_frame.specs.Hello.{hello_in}
use Rattle.ua_frame.specs.Messages.{ack, error}
use Rattle.ua_frame.specs.Whole.{whole_of}
use Rattle.ua_chunk.specs.declared.chunk.Chunk.{Chunk}
use Rattle.ua_chunk.specs.Layout.{chunk_in, sequence_header}
use Rattle.ua_chunk.specs.Opening.{SecurityHeader, policy_header}

-- ---- OPN

-- the content of an OPN (OPC 10000-6, 6.7.2): its security header; after it the SequenceNumber and
-- the RequestId; and the bytes after these, the body of a request at a server and of a response at
-- a client
pub record Opening : Type 0 where
  pub security : Option SecurityHeader
  pub numbers : Option (ℕ × ℕ)
  pub body : List ℕ

-- the content after a security header, by the SequenceNumber and the RequestId at the start of the
-- bytes after it
abbrev pub opening_numbered : SecurityHeader → List ℕ → Option ((ℕ × ℕ) × List ℕ) → Opening
opening_numbered header octets None = record { security = Some header; numbers = None; body = octets }
opening_numbered header octets (Some found) = record { security = Some header; numbers = Some found.0; body = found.1 }

-- the content, by the security header at the start of bytes
abbrev pub opening_secured : List ℕ → Option (SecurityHeader × List ℕ) → Opening
opening_secured octets None = record { security = None; numbers = None; body = octets }
opening_secured octets (Some found) = opening_numbered found.0 found.1 (sequence_header.decode found.1)

-- the content of an OPN frame with this body
unfoldable pub opening_of : List ℕ → Opening
opening_of body = opening_secured body (policy_header.decode body)

-- ---- any frame

-- the content of a frame: a Hello, an Acknowledge or an Error, if its body is one; an OPN; a chunk
-- of a message; the chunk of a close; or nothing that can be decoded
pub data Content : Type 0 where
  Greets : (hello : Option Hello) → Content
  Acks : (ack : Option Ack) → Content
  Fails : (error : Option ErrorFrame) → Content
  Opens : (opening : Opening) → Content
  Sends : (chunk : Chunk) → Content
  Closes : (chunk : Chunk) → Content
  Nothing : Content

-- a chunk of a message, if there is one
abbrev pub sends : Option Chunk → Content
sends None = Nothing
sends (Some c) = Sends c

-- the chunk of a close, if there is one
abbrev pub closes : Option Chunk → Content
closes None = Nothing
closes (Some c) = Closes c

-- the content of a frame of this kind
abbrev pub content_by : Kind → Frame → Content
content_by Hel f = Greets (hello_in f.body)
content_by kind.Ack f = Acks (whole_of ack f.body)
content_by kind.Err f = Fails (whole_of error f.body)
content_by Opn f = Opens (opening_of f.body)
content_by Msg f = sends (chunk_in f)
content_by Clo f = closes (chunk_in f)

-- the content of a frame, by its kind
unfoldable pub content : Frame → Content
content f = content_by f.kind f
