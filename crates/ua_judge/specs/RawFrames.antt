-- The numbers of a recorded frame that an end chose: where they stand in its bytes (OPC 10000-6,
-- 6.7.2). A frame is as long as its header tells.
use Rattle.std.specs.Prelude.{ℕ, ◌+◌, ◌-◌, nat_le, cond, List, length, drop, Option, Some, None}
use Rattle.ua_builtin.specs.Number.{number_at}
use Rattle.ua_chunk.specs.Opening.{policy_header}
use Rattle.ua_frame.specs.Frames.{kind_of, number_in}
use Rattle.ua_frame.specs.declared.kind.Kind.{Kind}
use Rattle.ua_frame.specs.declared.kind.Kind.TheVariants.{Hel, Ack, Msg, Opn, Clo}
use Rattle.ua_frame.specs.declared.kind.Kind.TheVariants as kind

-- the UInt32 at a place, or 0 where there are fewer bytes
abbrev pub number_from : ℕ → List ℕ → ℕ
number_from place octets = number_in (number_at 4 (drop place octets))

-- the place of a UInt32, if the frame is as long
abbrev pub within : ℕ → List ℕ → Option ℕ
within place frame = cond (nat_le (place + 4) (length frame)) (Some place) None

-- the bytes after what was read, if it was
abbrev pub rest_of : {A : Type 0} → Option (A × List ℕ) → Option (List ℕ)
rest_of None = None
rest_of (Some found) = Some found.1

-- the TokenId of a chunk stands at 12, after the header of the frame and the SecureChannelId
abbrev pub token_place_by : Option Kind → List ℕ → Option ℕ
token_place_by (Some Msg) frame = within 12 frame
token_place_by (Some Clo) frame = within 12 frame
token_place_by (Some Hel) frame = None
token_place_by (Some Ack) frame = None
token_place_by (Some kind.Err) frame = None
token_place_by (Some Opn) frame = None
token_place_by None frame = None

-- the place of the TokenId of a MSG or a CLO
abbrev pub token_place : List ℕ → Option ℕ
token_place frame = token_place_by (kind_of frame) frame

-- in an OPN the RequestId stands four bytes after the security header, after the SequenceNumber
abbrev pub opening_place : List ℕ → Option (List ℕ) → Option ℕ
opening_place frame None = None
opening_place frame (Some rest) = within (length frame - length rest + 4) frame

-- the RequestId of a chunk stands at 20, after its SequenceNumber
abbrev pub id_place_by : Option Kind → List ℕ → Option ℕ
id_place_by (Some Msg) frame = within 20 frame
id_place_by (Some Clo) frame = within 20 frame
id_place_by (Some Opn) frame = opening_place frame (rest_of (policy_header.decode (drop 8 frame)))
id_place_by (Some Hel) frame = None
id_place_by (Some Ack) frame = None
id_place_by (Some kind.Err) frame = None
id_place_by None frame = None

-- the place of the RequestId of a MSG, a CLO or an OPN
abbrev pub id_place : List ℕ → Option ℕ
id_place frame = id_place_by (kind_of frame) frame
