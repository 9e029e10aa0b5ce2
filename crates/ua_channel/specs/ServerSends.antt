-- What a server sends.
use Rattle.std.specs.Prelude.{◌≡◌, ℕ, ◌++◌, List, Option, Some, None}
use Rattle.ua_builtin.specs.Status.{of_code}
use Rattle.ua_builtin.specs.declared.date_time.DateTime.{DateTime}
use Rattle.ua_frame.specs.declared.frame.Frame.{Frame}
use Rattle.ua_frame.specs.declared.hello.Hello.{Hello}
use Rattle.ua_frame.specs.declared.kind.Kind.TheVariants.{Opn}
use Rattle.ua_frame.specs.declared.limits.Limits.{Limits}
use Rattle.ua_frame.specs.Frames.{frame_octets}
use Rattle.ua_frame.specs.Messages.{ack_frame}
use Rattle.ua_opening.specs.Message.{message}
use Rattle.ua_opening.specs.Plain.{open_response_of}
use Rattle.ua_opening.specs.SecureChannel.{open_response}
use Rattle.ua_chunk.specs.declared.fault.CutFault.{CutFault}
use Rattle.ua_chunk.specs.declared.lane.Lane.{Lane}
use Rattle.ua_chunk.specs.Cutting.{abort_chunk, chunks_of, chunks_octets, cut_refusal, number_after, pieces}
use Rattle.ua_chunk.specs.Layout.{frame_of, sequence_header}
use Rattle.ua_chunk.specs.Opening.{none_policy, policy_header}
use Rattle.ua_chunk.specs.Sequence.{next_number}
use Rattle.ua_channel.specs.Agreement.{agreement_of, lane_of}
use Rattle.ua_channel.specs.Received.{Received}
use Rattle.ua_channel.specs.ServerRefusals.{last_used}
use Rattle.ua_channel.specs.ServerTold.{Told, Agreed, Opened}

-- ---- at the opening

-- the OPN frame on a channel with this SequenceNumber, RequestId and body, under the policy None
-- (OPC 10000-6, 6.7.2)
abbrev pub opening_frame : ℕ → ℕ → ℕ → List ℕ → Frame
opening_frame channel number id body = record {
  kind = Opn;
  flag = 70;
  body = policy_header.canonical (channel, (Some none_policy, (None, None))) ++ (sequence_header.canonical (number, id) ++ body);
}

-- the OPN frame of the response under this RequestId: its token and lifetime, created at this time,
-- without a nonce (OPC 10000-4, 5.6.2)
abbrev pub opened_frame : ℕ → ℕ → ℕ → ℕ → ℕ → ℕ → DateTime → Frame
opened_frame channel number id handle token lifetime moment =
    opening_frame channel number id ((message 449 open_response).canonical (open_response_of moment handle channel token lifetime))

-- the bytes that are sent for what a frame told: an ACK, or the OPN frame of a response
abbrev pub AreSent : ℕ → ℕ → DateTime → Told → List ℕ → Type 0
AreSent channel number moment (Agreed a) octets = octets ≡ frame_octets (ack_frame a.ack)
AreSent channel number moment (Opened id handle token lifetime) octets = octets ≡ frame_octets (opened_frame channel number id handle token lifetime moment)
AreSent channel number moment other octets = ⊥

-- the number of the next chunk after what is sent for this
abbrev pub counted_by : Told → ℕ → ℕ
counted_by (Opened id handle token lifetime) number = next_number number
counted_by other number = number

-- ---- replies

-- the bytes of a reply, and the number after them: the chunks of its body, or if the client takes
-- no such body one abort with the code Bad_ResponseTooLarge (OPC 10000-6, 6.7.3)
abbrev pub replied_by : Option CutFault → Lane → List ℕ → ℕ → ℕ → List ℕ × ℕ
replied_by None lane body number id = (chunks_octets (chunks_of lane body number id), number_after number (pieces lane.room body))
replied_by (Some fault) lane body number id = (frame_octets (frame_of (abort_chunk lane number id (of_code 0x80B9_0000))), next_number number)

-- the bytes of a reply with this body, SequenceNumber and RequestId, and the number after them
abbrev pub replied : Lane → List ℕ → ℕ → ℕ → List ℕ × ℕ
replied lane body number id = replied_by (cut_refusal lane body) lane body number id

-- a reply is these bytes, and the number after them is this
abbrev pub IsReply : Lane → List ℕ → ℕ → ℕ → List ℕ → ℕ → Type 0
IsReply lane body number id octets next = (octets ≡ (replied lane body number id).0) × (next ≡ (replied lane body number id).1)

-- the lane of replies of a server with these limits on this channel, once a client sent a Hello:
-- under the last token that it used
abbrev pub RepliesGo : Limits → ℕ → Received → Lane → Type 0
RepliesGo limits channel before lane = (h : Hello) × (before.hello ≡ Some h) × (lane ≡ lane_of channel (last_used before) (agreement_of limits h))
