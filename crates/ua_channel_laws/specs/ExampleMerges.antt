-- An example of merged messages with a renewal among them, on the channel 7 and without a URL.
-- Sessions that share a SecureChannel may send at the same time, and then their chunks come merged:
-- the RequestId in each chunk tells its message (OPC 10000-6, 6.7.2.4). Four messages come so, as
-- many as may be unfinished at a time, under the RequestIds 2, 3, 4 and 6. The message 3 ends; then
-- the OPN under the RequestId 5 renews the token, in the middle of the three others. All chunks
-- before the OPN are under the token 1, all behind it under the token 2.
use Rattle.std.specs.Prelude.{ℕ, List, [], ◌∷◌, ◌++◌, None, map}
use Rattle.std.proofs.Common.{lit≤}
use Rattle.ua_builtin.specs.Status.{of_code}
use Rattle.ua_builtin.specs.declared.date_time.DateTime.{DateTime}
use Rattle.ua_frame.specs.Agreement.{ack_to}
use Rattle.ua_frame.specs.Frames.{frame_octets}
use Rattle.ua_frame.specs.Messages.{ack_frame}
use Rattle.ua_frame.specs.declared.frame.Frame.{Frame}
use Rattle.ua_frame.specs.declared.limits.Limits.{Limits}
use Rattle.ua_chunk.specs.Abort.{abort_body}
use Rattle.ua_chunk.specs.Layout.{frame_of}
use Rattle.ua_chunk.specs.Merge.{Sent}
use Rattle.ua_chunk.specs.declared.chunk.Chunk.{Chunk}
use Rattle.ua_chunk.specs.declared.flag.Flag.{Flag}
use Rattle.ua_chunk.specs.declared.flag.Flag.TheVariants.{F, C, A}
use Rattle.ua_channel.specs.Agreement.{agreement_of}
use Rattle.ua_channel.specs.Asks.{Placed}
use Rattle.ua_channel.specs.Asks.Asking.{Call, Renewal}
use Rattle.ua_channel.specs.ClientSends.{first_open, hello_frame, hello_to, renewal_frame}
use Rattle.ua_channel.specs.ClientTold.{ClientTold, ClientTold as client_told}
use Rattle.ua_channel.specs.ServerSends.{opened_frame}
use Rattle.ua_channel.specs.ServerTold.{Told, Told as server_told}
use Rattle.ua_channel_laws.specs.ClientReads.{AtClient, opened_at}
use Rattle.ua_channel_laws.specs.ServerReads.{AtServer, greeted_at, with_token}

-- ---- the opening

-- the least sizes of buffers, and messages of at most 3 chunks and 4 bytes: the least limits that
-- take the messages below (OPC 10000-6, 7.1.2.3)
abbrev pub limits_of_merge : Limits
limits_of_merge = record {
  receive_buffer_size = 8192;
  send_buffer_size = 8192;
  max_message_size = 4;
  max_chunk_count = 3;
  max_response_size = 0;
  receives = lit≤ tt;
  sends = lit≤ tt;
  takes_octets = lit≤ tt;
  takes_chunks = lit≤ tt;
}

-- what the client sends first: the HEL, and the OPN that issues the token 1, with the
-- SequenceNumber 1 and under the RequestId 1
abbrev pub opening_up : DateTime → List ℕ
opening_up asked = frame_octets (hello_frame (hello_to limits_of_merge None)) ++ frame_octets (first_open asked)

-- what it tells the server
abbrev pub opening_told : List Told
opening_told = server_told.Agreed (agreement_of limits_of_merge (hello_to limits_of_merge None)) ∷ (server_told.Opened 1 0 1 3600000 ∷ [])

-- the server after it
abbrev pub server_opened : AtServer
server_opened = with_token (greeted_at (hello_to limits_of_merge None))

-- what the server answers: the ACK, and the OPN response with the SequenceNumber 1
abbrev pub opening_down : DateTime → List ℕ
opening_down answered =
    frame_octets (ack_frame (ack_to (hello_to limits_of_merge None) limits_of_merge)) ++ frame_octets (opened_frame 7 1 1 0 1 3600000 answered)

-- what that tells the client
abbrev pub opening_heard : List ClientTold
opening_heard = client_told.Agreed (ack_to (hello_to limits_of_merge None) limits_of_merge) ∷ (client_told.Opened 7 1 ∷ [])

-- the client after it
abbrev pub client_opened : AtClient
client_opened = opened_at (ack_to (hello_to limits_of_merge None) limits_of_merge) 7 1 2

-- ---- the messages and their chunks

-- the body of an abort, with BadInternalError and a null reason (OPC 10000-6, 6.7.3)
abbrev pub abort_here : List ℕ
abort_here = abort_body.canonical (of_code 0x8002_0000, None)

-- four messages: three in two or three chunks, of one or two bytes each, and the message 4, which
-- its sender aborts after one chunk
abbrev pub merge_messages : List Sent
merge_messages =
    record { request = 2; pieces = (10 ∷ []) ∷ ((11 ∷ []) ∷ []); end = F; last = 12 ∷ (13 ∷ []) }
    ∷ (record { request = 3; pieces = (20 ∷ []) ∷ []; end = F; last = 21 ∷ [] }
    ∷ (record { request = 4; pieces = (30 ∷ []) ∷ []; end = A; last = abort_here }
    ∷ (record { request = 6; pieces = (40 ∷ []) ∷ []; end = F; last = 41 ∷ [] } ∷ [])))

-- a chunk on the channel 7 under this token, with this SequenceNumber, of the message under this
-- RequestId (OPC 10000-6, 6.7.2)
abbrev pub chunk_on_7 : ℕ → ℕ → Flag → ℕ → List ℕ → Chunk
chunk_on_7 token sequence flag request body =
    record { channel = 7; token = token; flag = flag; sequence = sequence; request = request; body = body }

-- those before the OPN: the first one of each message, and then the last one of the message 3
abbrev pub chunks_before_renewal : List Chunk
chunks_before_renewal =
    chunk_on_7 1 2 C 2 (10 ∷ [])
    ∷ (chunk_on_7 1 3 C 3 (20 ∷ [])
    ∷ (chunk_on_7 1 4 C 4 (30 ∷ [])
    ∷ (chunk_on_7 1 5 C 6 (40 ∷ [])
    ∷ (chunk_on_7 1 6 F 3 (21 ∷ []) ∷ []))))

-- those behind it, which has the SequenceNumber 7: a further one of the message 2, the abort of the
-- message 4, and the last ones of 6 and 2
abbrev pub chunks_behind_renewal : List Chunk
chunks_behind_renewal =
    chunk_on_7 2 8 C 2 (11 ∷ [])
    ∷ (chunk_on_7 2 9 A 4 abort_here
    ∷ (chunk_on_7 2 10 F 6 (41 ∷ [])
    ∷ (chunk_on_7 2 11 F 2 (12 ∷ (13 ∷ [])) ∷ [])))

-- all frames, with this frame of the OPN in its place
abbrev pub frames_around : Frame → List Frame
frames_around renewal = map frame_of chunks_before_renewal ++ renewal ∷ map frame_of chunks_behind_renewal

-- ---- at a server

-- the frames of requests, with the OPN that requests a renewal at this time
abbrev pub merge_up : DateTime → List Frame
merge_up asked = frames_around (renewal_frame 7 7 5 asked)

-- what they tell a server: each message at its last chunk, whole or that it was aborted, under the
-- token of that chunk; and the second token at its place
abbrev pub merge_told : List Told
merge_told =
    server_told.Asked 3 1 (20 ∷ (21 ∷ []))
    ∷ (server_told.Opened 5 0 2 3600000
    ∷ (server_told.GaveUp 4
    ∷ (server_told.Asked 6 2 (40 ∷ (41 ∷ []))
    ∷ (server_told.Asked 2 2 (10 ∷ (11 ∷ (12 ∷ (13 ∷ [])))) ∷ []))))

-- ---- at a client

-- the frames of the replies, with the OPN response that brings the token 2, created at this time
abbrev pub merge_down : DateTime → List Frame
merge_down answered = frames_around (opened_frame 7 7 5 0 2 3600000 answered)

-- what the client asks: before them the calls 2, 3 and 4 and the renewal 5; and the call 6 after 60
-- bytes of them, in the middle of the third frame, as each of these has 25
abbrev pub merge_asks : List Placed
merge_asks = (0, Call 2) ∷ ((0, Call 3) ∷ ((0, Call 4) ∷ ((0, Renewal 5) ∷ ((60, Call 6) ∷ []))))

-- what they tell the client: each reply at its last chunk, whole or that it was aborted; and the
-- second token at its place
abbrev pub merge_heard : List ClientTold
merge_heard =
    client_told.Answered 3 (20 ∷ (21 ∷ []))
    ∷ (client_told.Renewed 2
    ∷ (client_told.GaveUp 4 (of_code 0x8002_0000)
    ∷ (client_told.Answered 6 (40 ∷ (41 ∷ []))
    ∷ (client_told.Answered 2 (10 ∷ (11 ∷ (12 ∷ (13 ∷ [])))) ∷ []))))
