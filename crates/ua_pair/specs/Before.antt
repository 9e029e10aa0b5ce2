-- What the frames (UA TCP messages) before a frame contribute to its lines: the MessageChunks, and
-- the last SequenceNumber.
use Rattle.std.specs.Prelude.{ℕ, List, Option, None, option_map}
use Rattle.std.specs.List.{filter_map, last_or}
use Rattle.ua_frame.specs.declared.frame.Frame.{Frame}
use Rattle.ua_frame.specs.declared.kind.Kind.{Kind}
use Rattle.ua_frame.specs.declared.kind.Kind.TheVariants.{Hel, Ack, Msg, Opn, Clo}
use Rattle.ua_frame.specs.declared.kind.Kind.TheVariants as kind
use Rattle.ua_chunk.specs.declared.chunk.Chunk.{Chunk}
use Rattle.ua_chunk.specs.Layout.{chunk_in}
use Rattle.ua_chunk.specs.Opening.{opening_in}

-- the MessageChunk that a frame of this kind carries: only MSG frames carry one
abbrev pub message_chunk_by : Kind → Frame → Option Chunk
message_chunk_by Hel f = None
message_chunk_by Ack f = None
message_chunk_by kind.Err f = None
message_chunk_by Msg f = chunk_in f
message_chunk_by Opn f = None
message_chunk_by Clo f = None

-- the MessageChunk that a frame carries
abbrev pub message_chunk : Frame → Option Chunk
message_chunk f = message_chunk_by f.kind f

-- the MessageChunks that these frames carry, in order
unfoldable pub message_chunks : List Frame → List Chunk
message_chunks fs = filter_map message_chunk fs

-- the SequenceNumber of a frame of this kind: an OPN, a MSG and a CLO have one
abbrev pub sequence_by : Kind → Frame → Option ℕ
sequence_by Hel f = None
sequence_by Ack f = None
sequence_by kind.Err f = None
sequence_by Msg f = option_map (λ c. c.sequence) (chunk_in f)
sequence_by Opn f = option_map (λ c. c.sequence) (opening_in f)
sequence_by Clo f = option_map (λ c. c.sequence) (chunk_in f)

-- the SequenceNumber of a frame
abbrev pub sequence_of : Frame → Option ℕ
sequence_of f = sequence_by f.kind f

-- the last SequenceNumber of these frames, if they have one
unfoldable pub last_sequence : List Frame → Option ℕ
last_sequence fs = last_or None (filter_map sequence_of fs)
