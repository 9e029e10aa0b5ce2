-- What a client sends: the HEL, the OPNs and the CLO, each a whole frame.
use Rattle.std.specs.Prelude.{◌≡◌, ◌≤◌, ℕ, ◌++◌, ◌∷◌, [], pos, length, drop, List, Option}
use Rattle.ua_builtin.specs.declared.date_time.DateTime.{DateTime}
use Rattle.ua_frame.specs.Frames.{frame_size, frames_octets}
use Rattle.ua_frame.specs.declared.frame.Frame.{Frame}
use Rattle.ua_frame.specs.declared.hello.Hello.{Hello}
use Rattle.ua_frame.specs.declared.kind.Kind.TheVariants.{Hel, Clo}
use Rattle.ua_frame.specs.declared.limits.Limits.{Limits}
use Rattle.ua_frame.specs.Messages.{hello}
use Rattle.ua_chunk.specs.Layout.{token_header, sequence_header}
use Rattle.ua_opening.specs.Message.{message}
use Rattle.ua_opening.specs.Plain.{open_request_of, close_request_of}
use Rattle.ua_opening.specs.SecureChannel.{open_request, close_request}
use Rattle.ua_opening.specs.declared.secure_channel.OpenRequest.{OpenRequest}
use Rattle.ua_channel.specs.ServerSends.{opening_frame}

-- the requested lifetime of a token, in milliseconds: an hour
abbrev pub token_lifetime : ℕ
token_lifetime = 3600000

-- the Hello of a client with these limits to the server of this URL (OPC 10000-6, 7.1.2.3)
abbrev pub hello_to : Limits → Option (List ℕ) → Hello
hello_to limits url = record {
  protocol_version = 0;
  receive_buffer_size = limits.receive_buffer_size;
  send_buffer_size = limits.send_buffer_size;
  max_message_size = limits.max_message_size;
  max_chunk_count = limits.max_chunk_count;
  endpoint_url = url;
}

-- the HEL frame of a Hello
abbrev pub hello_frame : Hello → Frame
hello_frame h = record { kind = Hel; flag = 70; body = hello.canonical h }

-- the OPN frame of a request on a channel, with this SequenceNumber and RequestId, under the policy
-- None (OPC 10000-6, 6.7.2)
abbrev pub open_frame : ℕ → ℕ → ℕ → OpenRequest → Frame
open_frame channel number id r = opening_frame channel number id ((message 446 open_request).canonical r)

-- the first OPN, on no channel yet: it issues a token, under the RequestId 1 and with the
-- SequenceNumber 1
abbrev pub first_open : DateTime → Frame
first_open moment = open_frame 0 1 1 (open_request_of (pos 0) moment 0 token_lifetime)

-- the OPN that renews the token of a channel, with this SequenceNumber and RequestId
abbrev pub renewal_frame : ℕ → ℕ → ℕ → DateTime → Frame
renewal_frame channel number id moment = open_frame channel number id (open_request_of (pos 1) moment 0 token_lifetime)

-- the CLO frame of a channel under a token, with this SequenceNumber and RequestId
abbrev pub close_frame : ℕ → ℕ → ℕ → ℕ → DateTime → Frame
close_frame channel token number id moment = record {
  kind = Clo;
  flag = 70;
  body = token_header.canonical (channel, token)
      ++ (sequence_header.canonical (number, id) ++ (message 452 close_request).canonical (close_request_of moment 0));
}

-- ---- what is sent behind other bytes

-- what was appended to the bytes that there were
abbrev pub appended : List ℕ → List ℕ → List ℕ
appended before now = drop (length before) now

-- ---- where the frames of what is sent end

-- each of these frames has this size, but the last, which has at most this size
abbrev pub AreSized : ℕ → List Frame → Type 0
AreSized size [] = ⊥
AreSized size (f ∷ []) = frame_size f ≤ size
AreSized size (f ∷ (g ∷ fs)) = (frame_size f ≡ size) × AreSized size (g ∷ fs)

-- these bytes are whole frames, each but the last of this many bytes, and the last of at most this
-- many
pub record AreFramesOf (size : ℕ) (octets : List ℕ) : Type 0 where
  pub frames : List Frame
  pub whole : octets ≡ frames_octets frames
  pub sized : AreSized size frames
