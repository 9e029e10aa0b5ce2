-- The lines of one frame after others: its own, and those of the message that it completes.
use Rattle.std.specs.Prelude.{◌≡◌, ◌∷◌, ℕ, Bool, ◌&&◌, List, [], ◌++◌, cond, length, nat_lt, Option, Some, None, codes}
use Rattle.std.specs.List.{flat_map}
use Rattle.ua_frame.specs.declared.frame.Frame.{Frame}
use Rattle.ua_frame.specs.declared.kind.Kind.{Kind}
use Rattle.ua_frame.specs.declared.kind.Kind.TheVariants.{Hel, Ack as Acknowledge, Msg, Opn, Clo}
use Rattle.ua_frame.specs.declared.kind.Kind.TheVariants as kind
use Rattle.ua_frame.specs.Frames.{frame_size, frames_octets}
use Rattle.ua_frame.specs.Messages.{hello, ack, error}
use Rattle.ua_frame.specs.Whole.{whole_of}
use Rattle.ua_chunk.specs.declared.chunk.Chunk.{Chunk}
use Rattle.ua_chunk.specs.declared.open_chunk.OpenChunk.{OpenChunk}
use Rattle.ua_chunk.specs.Delivered.{given}
use Rattle.ua_chunk.specs.Item.{Item}
use Rattle.ua_chunk.specs.Item.Item.{Whole, Aborted}
use Rattle.ua_chunk.specs.Layout.{chunk_in}
use Rattle.ua_chunk.specs.Opening.{opening_in}
use Rattle.ua_texts.specs.PlainLeaf.{Either}
use Rattle.ua_fields.specs.Bodies.{IsBodyText, IsFound, IsHeaderText, body_fields, header_fields, message_kind, opening_kind}
use Rattle.ua_pair.specs.Styles.{style_of}
use Rattle.ua_fields.specs.declared.body.BodyKind.{BodyKind}
use Rattle.ua_pair.specs.declared.options.DissectOptions.{DissectOptions}
use Rattle.ua_pair.specs.Before.{message_chunks}
use Rattle.ua_pair.specs.Lines.{hello_line, ack_line, error_line, opening_line, chunk_line, left_out, message_line, aborted_line}
use Rattle.ua_pair.specs.Names.{is_unsupported, message_title, opening_name}

-- the line of what was decoded, or nothing if nothing was
abbrev pub line_if : {A : Type 0} → (A → List ℕ) → Option A → List ℕ
line_if line None = []
line_if line (Some m) = line m

-- the most bytes of a body whose fields are printed, where no other number is wanted: lines may
-- take two hundred times as many
abbrev pub most_field_octets : ℕ
most_field_octets = 131072

-- whether a body has more bytes than this
abbrev pub is_large : ℕ → List ℕ → Bool
is_large largest octets = nat_lt largest (length octets)

-- the lines of the fields of a body of this kind, if they are wanted, or that they are left out
abbrev pub field_lines_of : DissectOptions → BodyKind → List ℕ → List ℕ
field_lines_of options kind octets =
    cond options.fields (cond (is_large options.largest octets) (left_out options.largest) (body_fields options.names kind octets)) []

-- the lines of the header of a message, if fields are wanted and it is of no known kind
abbrev pub header_lines_of : DissectOptions → Bool → List ℕ → List ℕ
header_lines_of options unsupported octets =
    cond (options.fields && unsupported) (cond (is_large options.largest octets) [] (header_fields options.names options.side octets)) []

-- the lines of the fields of a message, or of the header of one of no known kind, which has no
-- fields
abbrev pub message_fields : DissectOptions → List ℕ → List ℕ
message_fields options octets = field_lines_of options (message_kind options.side) octets ++ header_lines_of options (is_unsupported options.side octets) octets

-- the lines of what a chunk completes: that of the message, and those of its fields
abbrev pub item_lines : DissectOptions → Item → List ℕ
item_lines options (Whole id octets) = message_line id (length octets) (message_title options.names options.side octets) ++ message_fields options octets
item_lines options (Aborted id code reason) = aborted_line options.names id code

-- an OPN at this offset and of this size: its line, that of its body, and those of its fields
abbrev pub opening_lines : DissectOptions → ℕ → ℕ → OpenChunk → List ℕ
opening_lines options place size c =
    opening_line place size c
    ++ (message_line c.request (length c.body) (opening_name options.side c.body) ++ field_lines_of options (opening_kind options.side) c.body)

-- a MSG at this offset and of this size after these chunks: its line, and those of what it
-- completes
abbrev pub chunk_lines : DissectOptions → List Chunk → ℕ → ℕ → Chunk → List ℕ
chunk_lines options cs place size c = chunk_line (codes "MSG") place size c ++ flat_map (item_lines options) (given cs c)

-- the lines of a frame of this kind at this offset, after these chunks
abbrev pub lines_by : Kind → DissectOptions → List Chunk → ℕ → Frame → List ℕ
lines_by Hel options cs place f = line_if (hello_line place (frame_size f)) (whole_of hello f.body)
lines_by Acknowledge options cs place f = line_if (ack_line place (frame_size f)) (whole_of ack f.body)
lines_by kind.Err options cs place f = line_if (error_line options.names place (frame_size f)) (whole_of error f.body)
lines_by Msg options cs place f = line_if (chunk_lines options cs place (frame_size f)) (chunk_in f)
lines_by Opn options cs place f = line_if (opening_lines options place (frame_size f)) (opening_in f)
lines_by Clo options cs place f = line_if (chunk_line (codes "CLO") place (frame_size f)) (chunk_in f)

-- ---- the same in any style: if the texts of fields are exact, each text is what the definitions
-- above give

-- a text has the lines of the fields of a body, or the line that they are left out
abbrev pub IsWithin : DissectOptions → BodyKind → List ℕ → List ℕ → Type 0
IsWithin options kind octets text =
    Either (is_large options.largest octets) (text ≡ left_out options.largest) (IsBodyText (style_of options) kind octets text)

-- the same, if they are wanted
abbrev pub AreFieldsOf : DissectOptions → BodyKind → List ℕ → List ℕ → Type 0
AreFieldsOf options kind octets text = Either options.fields (IsWithin options kind octets text) (text ≡ [])

-- those of the header of a message, unless its body is large
abbrev pub IsHeaderWithin : DissectOptions → List ℕ → List ℕ → Type 0
IsHeaderWithin options octets text =
    Either (is_large options.largest octets) (text ≡ []) (IsHeaderText (style_of options) options.side octets text)

-- the same of one of no known kind
abbrev pub IsHeaderOf : DissectOptions → Bool → List ℕ → List ℕ → Type 0
IsHeaderOf options unsupported octets text =
    Either (options.fields && unsupported) (IsHeaderWithin options octets text) (text ≡ [])

-- those of a message
abbrev pub IsMessageText : DissectOptions → ℕ → List ℕ → List ℕ → Type 0
IsMessageText options id octets text =
    (fields : List ℕ) × (header : List ℕ) × (text ≡ message_line id (length octets) (message_title options.names options.side octets) ++ (fields ++ header))
    × AreFieldsOf options (message_kind options.side) octets fields × IsHeaderOf options (is_unsupported options.side octets) octets header

-- those of what a chunk completes
abbrev pub IsItemText : DissectOptions → Item → List ℕ → Type 0
IsItemText options (Whole id octets) text = IsMessageText options id octets text
IsItemText options (Aborted id code reason) text = text ≡ aborted_line options.names id code

-- a text has a part for each item, in order
abbrev pub AreParts : {A : Type 0} → (A → List ℕ → Type 0) → List A → List ℕ → Type 0
AreParts Is [] text = text ≡ []
AreParts Is (x ∷ xs) text = (first : List ℕ) × (rest : List ℕ) × (text ≡ first ++ rest) × Is x first × AreParts Is xs rest

-- those of the body of an OPN
abbrev pub IsOpenedText : DissectOptions → OpenChunk → List ℕ → Type 0
IsOpenedText options c text =
    (fields : List ℕ) × (text ≡ message_line c.request (length c.body) (opening_name options.side c.body) ++ fields)
    × AreFieldsOf options (opening_kind options.side) c.body fields

-- those of an OPN
abbrev pub IsOpeningText : DissectOptions → ℕ → ℕ → OpenChunk → List ℕ → Type 0
IsOpeningText options place size c text = (opened : List ℕ) × (text ≡ opening_line place size c ++ opened) × IsOpenedText options c opened

-- those of a MSG
abbrev pub IsChunkText : DissectOptions → List Chunk → ℕ → ℕ → Chunk → List ℕ → Type 0
IsChunkText options cs place size c text = (items : List ℕ) × (text ≡ chunk_line (codes "MSG") place size c ++ items)
    × AreParts (IsItemText options) (given cs c) items

-- those of a frame of this kind at this place, after these chunks
abbrev pub IsTextBy : Kind → DissectOptions → List Chunk → ℕ → Frame → List ℕ → Type 0
IsTextBy Msg options cs place f text = IsFound (IsChunkText options cs place (frame_size f)) (chunk_in f) text
IsTextBy Opn options cs place f text = IsFound (IsOpeningText options place (frame_size f)) (opening_in f) text
IsTextBy kind options cs place f text = text ≡ lines_by kind options cs place f

-- the offset of the frame after these: the number of their bytes
abbrev pub place_behind : List Frame → ℕ
place_behind fs = length (frames_octets fs)

-- the lines of a frame after these frames
unfoldable pub frame_lines : DissectOptions → List Frame → Frame → List ℕ
frame_lines options before f = lines_by f.kind options (message_chunks before) (place_behind before) f

-- the same in any style
unfoldable pub IsFrameText : DissectOptions → List Frame → Frame → List ℕ → Type 0
IsFrameText options before f text = IsTextBy f.kind options (message_chunks before) (place_behind before) f text

-- the lines of these frames after those before, in order
abbrev pub AreTextsBehind : DissectOptions → List Frame → List Frame → List ℕ → Type 0
AreTextsBehind options before [] text = text ≡ []
AreTextsBehind options before (f ∷ fs) text = (first : List ℕ) × (rest : List ℕ) × (text ≡ first ++ rest) × IsFrameText options before f first
    × AreTextsBehind options (before ++ f ∷ []) fs rest
