-- Frames (UA TCP messages) as bytes, and what a header tells.
use Rattle.std.specs.Prelude.{◌≡◌, ℕ, ◌+◌, ◌<◌, ◌≤◌, ◌^◌, ◌⊎◌, List, [], ◌∷◌, ◌++◌, Bool, true, false, ◌&&◌, not}
use Rattle.std.specs.Prelude.{nat_eq, nat_lt, IsTrue, Option, Some, None, find, length, slice_index, take, drop}
use Rattle.std.specs.List.{flat_map, AllByRecursion}
use Rattle.ua_builtin.specs.Number.{number_octets, number_at}
use Rattle.ua_frame.specs.declared.fault.FrameFault.{FrameFault}
use Rattle.ua_frame.specs.declared.fault.FrameFault.TheVariants.{UnknownType, OutOfPlace, TooLarge, TooSmall, OutOfMemory, Closed}
use Rattle.ua_frame.specs.declared.frame.Frame.{Frame}
use Rattle.ua_frame.specs.declared.gate.Gate.{Gate}
use Rattle.ua_frame.specs.declared.kind.Kind.{Kind}
use Rattle.ua_frame.specs.declared.kind.Kind.TheVariants.{Hel, Ack, Msg, Opn, Clo}
use Rattle.ua_frame.specs.declared.kind.Kind.TheVariants as kind
use Rattle.ua_frame.specs.Kinds.{kind_octets, least_size, has_flag, lets_in}
use Rattle.ua_builtin.specs.Reasons.{first_reason}

-- ---- frames

-- the size of a frame, its header included
abbrev pub frame_size : Frame → ℕ
frame_size f = 8 + length f.body

-- the bytes of a frame: its kind, its flag, its size as a UInt32, its body (OPC 10000-6, 7.1.2.2
-- and 6.7.2.2)
unfoldable pub frame_octets : Frame → List ℕ
frame_octets f = kind_octets f.kind ++ f.flag ∷ (number_octets 4 (frame_size f) ++ f.body)

-- the bytes of frames, joined
unfoldable pub frames_octets : List Frame → List ℕ
frames_octets fs = flat_map frame_octets fs

-- a size that a header can name
abbrev pub IsSized : Frame → Type 0
IsSized f = frame_size f < 2 ^ 32

-- the frame filter accepts a frame: the kind is one of its kinds, the flag one of the kind's, the
-- size at most its largest and at least the kind's minimum
pub record LetsIn (gate : Gate) (f : Frame) : Type 0 where
  pub kind : IsTrue (lets_in gate f.kind)
  pub flag : IsTrue (has_flag f.kind f.flag)
  pub largest : frame_size f ≤ gate.largest
  pub least : least_size f.kind ≤ frame_size f

-- ---- headers

-- the three first bytes are those of the kind
abbrev pub names : List ℕ → Kind → Bool
names octets k =
    nat_eq (slice_index octets 0) (slice_index (kind_octets k) 0)
    && nat_eq (slice_index octets 1) (slice_index (kind_octets k) 1)
    && nat_eq (slice_index octets 2) (slice_index (kind_octets k) 2)

-- all the kinds of frames (OPC 10000-6, 7.1.2.2 and 6.7.2.2)
abbrev pub all_kinds : List Kind
all_kinds = Hel ∷ Ack ∷ kind.Err ∷ Msg ∷ Opn ∷ Clo ∷ []

-- the kind that a header names, if it names one
unfoldable pub kind_of : List ℕ → Option Kind
kind_of octets = find (names octets) all_kinds

-- the flag that a header has
abbrev pub flag_of : List ℕ → ℕ
flag_of octets = slice_index octets 3

-- the number that was read, or 0 if none was
abbrev pub number_in : Option (ℕ × List ℕ) → ℕ
number_in None = 0
number_in (Some found) = found.0

-- the size in a header: the number in its bytes 4 to 7, and 0 if there are fewer
unfoldable pub size_of : List ℕ → ℕ
size_of octets = number_in (number_at 4 (take 4 (drop 4 octets)))

-- ---- what is wrong with a header

-- it names no kind, or a flag that isn't the kind's
abbrev pub is_unknown : Option Kind → ℕ → Bool
is_unknown None flag = true
is_unknown (Some k) flag = not (has_flag k flag)

-- the frame filter does not accept the kind
abbrev pub is_out_of_place : Gate → Option Kind → Bool
is_out_of_place gate None = false
is_out_of_place gate (Some k) = not (lets_in gate k)

-- the size is below the minimum of the kind
abbrev pub is_too_small : Option Kind → ℕ → Bool
is_too_small None size = false
is_too_small (Some k) size = nat_lt size (least_size k)

-- what may be wrong with a header of this kind, flag and size, in the order in which it is judged
abbrev pub header_reasons : Gate → Option Kind → ℕ → ℕ → List (FrameFault × Bool)
header_reasons gate k flag size =
    (UnknownType, is_unknown k flag)
    ∷ (OutOfPlace, is_out_of_place gate k)
    ∷ (TooLarge, nat_lt gate.largest size)
    ∷ (TooSmall, is_too_small k size)
    ∷ []

-- what is wrong with a header under this frame filter
unfoldable pub header_fault : Gate → List ℕ → Option FrameFault
header_fault gate octets = first_reason (header_reasons gate (kind_of octets) (flag_of octets) (size_of octets))

-- the StatusCode of what is wrong with a header: BadTcpMessageTypeInvalid, BadTcpMessageTooLarge,
-- BadDecodingError
abbrev pub header_code : FrameFault → Option ℕ
header_code UnknownType = Some 0x807E_0000
header_code OutOfPlace = Some 0x807E_0000
header_code TooLarge = Some 0x8080_0000
header_code TooSmall = Some 0x8007_0000
header_code OutOfMemory = None
header_code Closed = None

-- less than a header, or a good header and less than the frame that it begins
abbrev pub IsPartial : Gate → List ℕ → Type 0
IsPartial gate octets = (length octets < 8) ⊎ ((header_fault gate octets ≡ None) × (length octets < size_of octets))

-- ---- a stream by its sizes alone

-- bytes that are as long as their header tells
pub record IsRawFrame (octets : List ℕ) : Type 0 where
  pub header : 8 ≤ length octets
  pub size : size_of octets ≡ length octets

-- what is left of a stream after its frames: less than a header, a size below a header's, or less
-- than the size
abbrev pub IsRest : List ℕ → Type 0
IsRest rest = (length rest < 8) ⊎ ((size_of rest < 8) ⊎ (length rest < size_of rest))

-- bytes, joined
unfoldable pub joined_parts : List (List ℕ) → List ℕ
joined_parts parts = flat_map (λ (part : List ℕ). part) parts

-- the bytes are these frames, joined, and then less than a frame (OPC 10000-6, 7.1)
pub record Frames (octets : List ℕ) (frames : List (List ℕ)) (rest : List ℕ) : Type 0 where
  pub whole : octets ≡ joined_parts frames ++ rest
  pub each : AllByRecursion IsRawFrame frames
  pub partial : IsRest rest
