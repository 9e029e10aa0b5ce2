-- The reasons for which a frame (UA TCP message) is rejected after others, in the order in which
-- they are judged. The header of a frame is judged before: its kind and flag are known, and its
-- size is at most 16777216 and at least the minimum of its kind.
use Rattle.std.specs.Prelude.{ℕ, Bool, true, false, not, is_none, List, [], ◌∷◌, map, Option, Some, None}
use Rattle.ua_builtin.specs.Reasons.{renamed_reason}
use Rattle.ua_frame.specs.declared.frame.Frame.{Frame}
use Rattle.ua_frame.specs.declared.kind.Kind.{Kind}
use Rattle.ua_frame.specs.declared.kind.Kind.TheVariants.{Hel, Ack, Msg, Opn, Clo}
use Rattle.ua_frame.specs.declared.kind.Kind.TheVariants as kind
use Rattle.ua_frame.specs.Messages.{hello, ack, error}
use Rattle.ua_frame.specs.Whole.{whole_of}
use Rattle.ua_chunk.specs.declared.chunk.Chunk.{Chunk}
use Rattle.ua_chunk.specs.declared.fault.AssembleFault.{AssembleFault}
use Rattle.ua_chunk.specs.declared.fault.AssembleFault.TheVariants.{Sequence, Unreadable, TooManyOpen, MessageTooLarge, TooManyChunks, OutOfMemory, Closed}
use Rattle.ua_chunk.specs.declared.fault.OpenFault.{OpenFault}
use Rattle.ua_chunk.specs.declared.fault.OpenFault.TheVariants as opening
use Rattle.ua_chunk.specs.Layout.{chunk_in}
use Rattle.ua_chunk.specs.Opening.{open_refusal}
use Rattle.ua_chunk.specs.Refusal.{reasons}
use Rattle.ua_chunk.specs.Sequence.{may_follow}
use Rattle.ua_fields.specs.declared.side.Side.{Side}
use Rattle.ua_fields.specs.declared.side.Side.TheVariants.{Client, Server}
use Rattle.ua_pair.specs.Before.{message_chunks, last_sequence, sequence_by}

-- the most bytes of a message
abbrev pub most_message_octets : ℕ
most_message_octets = 16777216

-- the most chunks of a message
abbrev pub most_chunks : ℕ
most_chunks = 4096

-- the code of a message above a limit: a client's messages are requests, BadRequestTooLarge, and a
-- server's responses, BadResponseTooLarge
abbrev pub too_large_code : Side → ℕ
too_large_code Client = 0x80B8_0000
too_large_code Server = 0x80B9_0000

-- the code of each reason against a MessageChunk: BadSequenceNumberInvalid, BadDecodingError,
-- BadTcpNotEnoughResources, and that of a message above a limit; the last two are no reasons
abbrev pub chunk_code : Side → AssembleFault → ℕ
chunk_code side Sequence = 0x8088_0000
chunk_code side Unreadable = 0x8007_0000
chunk_code side TooManyOpen = 0x8081_0000
chunk_code side MessageTooLarge = too_large_code side
chunk_code side TooManyChunks = too_large_code side
chunk_code side OutOfMemory = 0
chunk_code side Closed = 0

-- a HEL, an ACK or an ERR is rejected if its body is not decoded as one with nothing after it:
-- BadDecodingError (7.1.2.3 to 7.1.2.5)
abbrev pub greeting_reasons : {A : Type 0} → Option A → List (ℕ × Bool)
greeting_reasons read = (0x8007_0000, is_none read) ∷ []

-- whether the headers of an OPN cannot be decoded
abbrev pub is_open_unreadable : Option OpenFault → Bool
is_open_unreadable None = false
is_open_unreadable (Some opening.Unreadable) = true
is_open_unreadable (Some opening.Policy) = false
is_open_unreadable (Some opening.OutOfMemory) = false

-- whether an OPN names another policy than None
abbrev pub is_other_policy : Option OpenFault → Bool
is_other_policy None = false
is_other_policy (Some opening.Unreadable) = false
is_other_policy (Some opening.Policy) = true
is_other_policy (Some opening.OutOfMemory) = false

-- whether the SequenceNumber does not follow the last one, if there is one
abbrev pub breaks_number_order : Option ℕ → Option ℕ → Bool
breaks_number_order last None = false
breaks_number_order last (Some number) = not (may_follow last number)

-- the reasons against an OPN after this last SequenceNumber: its headers cannot be decoded,
-- BadDecodingError; it names another policy, BadSecurityPolicyRejected; its number does not follow,
-- BadSequenceNumberInvalid (6.7.2.3 and 6.7.2.4). The policy is judged before the sequence header,
-- which follows it
abbrev pub opening_reasons : Option ℕ → Frame → List (ℕ × Bool)
opening_reasons last f =
    (0x8007_0000, is_open_unreadable (open_refusal f.body))
    ∷ (0x8055_0000, is_other_policy (open_refusal f.body))
    ∷ (0x8088_0000, breaks_number_order last (sequence_by Opn f))
    ∷ []

-- the reasons against a MessageChunk after these chunks and this last SequenceNumber: those of an
-- assembler with these limits
abbrev pub chunk_reasons_of_side : Side → Option ℕ → List Chunk → Option Chunk → List (ℕ × Bool)
chunk_reasons_of_side side last cs None = []
chunk_reasons_of_side side last cs (Some c) = map (renamed_reason (chunk_code side)) (reasons most_message_octets most_chunks last cs c)

-- the reasons against a frame of this kind, after this last SequenceNumber and these chunks
abbrev pub reasons_by : Kind → Side → Option ℕ → List Chunk → Frame → List (ℕ × Bool)
reasons_by Hel side last cs f = greeting_reasons (whole_of hello f.body)
reasons_by Ack side last cs f = greeting_reasons (whole_of ack f.body)
reasons_by kind.Err side last cs f = greeting_reasons (whole_of error f.body)
reasons_by Msg side last cs f = chunk_reasons_of_side side last cs (chunk_in f)
reasons_by Opn side last cs f = opening_reasons last f
reasons_by Clo side last cs f = (0x8088_0000, breaks_number_order last (sequence_by Clo f)) ∷ []

-- the reasons against a frame after these frames
unfoldable pub frame_reasons : Side → List Frame → Frame → List (ℕ × Bool)
frame_reasons side before f = reasons_by f.kind side (last_sequence before) (message_chunks before) f
