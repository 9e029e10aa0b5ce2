-- How MSG and CLO frames (UA TCP messages) carry MessageChunks under the security policy None (OPC
-- 10000-6, 6.7.2): the eight bytes of the frame's header are followed by the SecureChannelId and
-- the TokenId, the SequenceNumber and the RequestId, and the body of the chunk. So
-- 4D 53 47 46 1B 00 00 00 05 00 00 00 07 00 00 00 34 00 00 00 03 00 00 00 AA BB CC is an F chunk of
-- channel 5 under token 7, of SequenceNumber 52 and RequestId 3, with a body of three bytes.
use Rattle.std.specs.Prelude.{◌≡◌, ℕ, List, ◌++◌, Option, Some, None}
use Rattle.ua_wire.specs.Format.{Flat}
use Rattle.ua_wire.specs.Join.{number, both}
use Rattle.ua_frame.specs.declared.frame.Frame.{Frame}
use Rattle.ua_frame.specs.declared.kind.Kind.TheVariants.{Msg}
use Rattle.ua_chunk.specs.declared.chunk.Chunk.{Chunk}
use Rattle.ua_chunk.specs.declared.flag.Flag.{Flag}
use Rattle.ua_chunk.specs.Flag.{flag_octet, flag_in}

-- ---- headers

-- the SecureChannelId, and after it the TokenId: UInt32 each (OPC 10000-6, 6.7.2.2 and 6.7.2.3)
abbrev pub token_header : Flat (ℕ × ℕ)
token_header = both (number 4) (number 4)

-- the SequenceNumber, and the RequestId that the chunks of a message share: UInt32 each (OPC
-- 10000-6, 6.7.2.4)
abbrev pub sequence_header : Flat (ℕ × ℕ)
sequence_header = both (number 4) (number 4)

-- ---- chunks

-- the frame carries this chunk: its flag, both headers, and the body after them
pub record IsChunkOf (f : Frame) (c : Chunk) : Type 0 where
  pub flag : f.flag ≡ flag_octet c.flag
  pub security : List ℕ
  pub sequence : List ℕ
  pub octets : f.body ≡ security ++ (sequence ++ c.body)
  pub security_encoded : token_header.encodes (c.channel, c.token) security
  pub sequence_encoded : sequence_header.encodes (c.sequence, c.request) sequence

-- the chunk of this flag, of this SecureChannelId and TokenId, and of what follows them: two
-- numbers and a body
abbrev pub chunk_behind : Option Flag → ℕ × ℕ → Option ((ℕ × ℕ) × List ℕ) → Option Chunk
chunk_behind None ids found = None
chunk_behind (Some flag) ids None = None
chunk_behind (Some flag) ids (Some found) = Some (record {
  channel = ids.0;
  token = ids.1;
  flag = flag;
  sequence = found.0.0;
  request = found.0.1;
  body = found.1;
})

-- the chunk of this flag, if bytes begin with a SecureChannelId and a TokenId
abbrev pub chunk_with : Option Flag → Option ((ℕ × ℕ) × List ℕ) → Option Chunk
chunk_with flag None = None
chunk_with flag (Some found) = chunk_behind flag found.0 (sequence_header.decode found.1)

-- the chunk that a MSG or CLO frame carries: none if its flag is none of a chunk's, or if its
-- headers cannot be decoded
unfoldable pub chunk_in : Frame → Option Chunk
chunk_in f = chunk_with (flag_in f.flag) (token_header.decode f.body)

-- the MSG frame of a chunk
abbrev pub frame_of : Chunk → Frame
frame_of c = record {
  kind = Msg;
  flag = flag_octet c.flag;
  body = token_header.canonical (c.channel, c.token) ++ (sequence_header.canonical (c.sequence, c.request) ++ c.body);
}
