-- The lines that the dissector prints of frames (UA TCP messages) and messages. P is the offset of
-- a frame in the bytes, S its size, CODE a StatusCode, followed by its standard name if names are
-- wanted.
use Rattle.std.specs.Prelude.{ℕ, Bool, ◌==◌, if◌then◌else◌, List, ◌++◌, codes}
use Rattle.std.specs.Fmt.{decimal}
use Rattle.ua_builtin.specs.declared.status_code.StatusCode.{StatusCode}
use Rattle.ua_frame.specs.declared.ack.Ack.{Ack}
use Rattle.ua_frame.specs.declared.error.ErrorFrame.{ErrorFrame}
use Rattle.ua_frame.specs.declared.hello.Hello.{Hello}
use Rattle.ua_chunk.specs.declared.chunk.Chunk.{Chunk}
use Rattle.ua_chunk.specs.declared.flag.Flag.{Flag}
use Rattle.ua_chunk.specs.declared.flag.Flag.TheVariants.{F, C, A}
use Rattle.ua_chunk.specs.declared.open_chunk.OpenChunk.{OpenChunk}
use Rattle.ua_texts.specs.Names.{named_code}
use Rattle.ua_texts.specs.Shown.{shown_string}

-- ---- HEL, ACK and ERR

-- the numbers of a Hello and of an Acknowledge: version, receive and send buffer size, greatest
-- message size and chunk count
unfoldable pub numbers_text : ℕ → ℕ → ℕ → ℕ → ℕ → List ℕ
numbers_text version receive send message chunks =
    codes " version " ++ decimal version
    ++ codes " receive " ++ decimal receive
    ++ codes " send " ++ decimal send
    ++ codes " message " ++ decimal message
    ++ codes " chunks " ++ decimal chunks

-- a Hello: P HEL S version V receive R send T message M chunks C url U
unfoldable pub hello_line : ℕ → ℕ → Hello → List ℕ
hello_line place size h =
    decimal place ++ codes " HEL " ++ decimal size
    ++ numbers_text h.protocol_version h.receive_buffer_size h.send_buffer_size h.max_message_size h.max_chunk_count
    ++ codes " url " ++ shown_string h.endpoint_url ++ codes "\n"

-- an Acknowledge: P ACK S version V receive R send T message M chunks C
unfoldable pub ack_line : ℕ → ℕ → Ack → List ℕ
ack_line place size a =
    decimal place ++ codes " ACK " ++ decimal size
    ++ numbers_text a.protocol_version a.receive_buffer_size a.send_buffer_size a.max_message_size a.max_chunk_count
    ++ codes "\n"

-- an Error: P ERR S code CODE reason U
unfoldable pub error_line : Bool → ℕ → ℕ → ErrorFrame → List ℕ
error_line names place size e =
    decimal place ++ codes " ERR " ++ decimal size
    ++ codes " code " ++ named_code names e.error.code
    ++ codes " reason " ++ shown_string e.reason ++ codes "\n"

-- ---- OPN, MSG and CLO

-- the letter of a flag
abbrev pub flag_text : Flag → List ℕ
flag_text F = codes "F"
flag_text C = codes "C"
flag_text A = codes "A"

-- an OPN: P OPN F S channel N sequence Q request I
unfoldable pub opening_line : ℕ → ℕ → OpenChunk → List ℕ
opening_line place size c =
    decimal place ++ codes " OPN F " ++ decimal size
    ++ codes " channel " ++ decimal c.channel
    ++ codes " sequence " ++ decimal c.sequence
    ++ codes " request " ++ decimal c.request ++ codes "\n"

-- the first four words of a MSG or a CLO, by its name: P MSG X S
unfoldable pub chunk_head : List ℕ → ℕ → ℕ → Flag → List ℕ
chunk_head name place size flag = decimal place ++ codes " " ++ name ++ codes " " ++ flag_text flag ++ codes " " ++ decimal size

-- a MSG or a CLO, by its name: P MSG X S channel N token K sequence Q request I
unfoldable pub chunk_line : List ℕ → ℕ → ℕ → Chunk → List ℕ
chunk_line name place size c =
    chunk_head name place size c.flag
    ++ codes " channel " ++ decimal c.channel
    ++ codes " token " ++ decimal c.token
    ++ codes " sequence " ++ decimal c.sequence
    ++ codes " request " ++ decimal c.request ++ codes "\n"

-- ---- messages

-- a message of this many bytes under its RequestId: message I octets L NAME
unfoldable pub message_line : ℕ → ℕ → List ℕ → List ℕ
message_line request size name =
    codes "message " ++ decimal request ++ codes " octets " ++ decimal size ++ codes " " ++ name ++ codes "\n"

-- a message that its sender gave up: message I aborted CODE
unfoldable pub aborted_line : Bool → ℕ → StatusCode → List ℕ
aborted_line names request code = codes "message " ++ decimal request ++ codes " aborted " ++ named_code names code.code ++ codes "\n"

-- in place of the fields of a body of more bytes than this
unfoldable pub left_out : ℕ → List ℕ
left_out largest = codes "  fields left out: the body has more than " ++ decimal largest ++ codes " bytes\n"

-- ---- the end

-- the frames end at this offset, and this many bytes are left of an unfinished one: end P, or rest
-- N
unfoldable pub rest_line : ℕ → ℕ → List ℕ
rest_line place left = if left == 0 then codes "end " ++ decimal place ++ codes "\n" else codes "rest " ++ decimal left ++ codes "\n"

-- the frame at this offset is rejected: refused CODE at P
unfoldable pub refused_line : Bool → ℕ → ℕ → List ℕ
refused_line names place code = codes "refused " ++ named_code names code ++ codes " at " ++ decimal place ++ codes "\n"
