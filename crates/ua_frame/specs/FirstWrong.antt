-- The first wrong frame of a stream, by its sizes alone and the table of reasons.
use Rattle.std.specs.Prelude.{◌≡◌, ℕ, ◌≤◌, List, [], ◌∷◌, ◌++◌, false, Option, Some, None, option_map, length, drop}
use Rattle.std.specs.List.{flat_map}
use Rattle.std.specs.Option.{option_and_then}
use Rattle.ua_builtin.specs.Reasons.{or_else}
use Rattle.ua_frame.specs.declared.frame.Frame.{Frame}
use Rattle.ua_frame.specs.declared.gate.Gate.{Gate}
use Rattle.ua_frame.specs.declared.kind.Kind.{Kind}
use Rattle.ua_frame.specs.After.{AllFrom}
use Rattle.ua_frame.specs.Frames.{kind_of, flag_of, header_fault, header_code}
use Rattle.ua_frame.specs.Run.{Rules, refusal}

-- the frame of the kind that bytes name, with their flag and what follows the header; none where
-- they name no kind
abbrev pub frame_named : Option Kind → List ℕ → Option Frame
frame_named None octets = None
frame_named (Some k) octets = Some (record { kind = k; flag = flag_of octets; body = drop 8 octets })

-- the frame that bytes are: their kind, their flag, and what follows the header; none where they
-- name no kind
abbrev pub frame_in : List ℕ → Option Frame
frame_in octets = frame_named (kind_of octets) octets

-- the frame, if there is one
abbrev pub listed_frame : Option Frame → List Frame
listed_frame None = []
listed_frame (Some f) = f ∷ []

-- the frames that pieces of bytes are, one frame each
unfoldable pub frames_in : List (List ℕ) → List Frame
frames_in raws = flat_map (λ raw. listed_frame (frame_in raw)) raws

-- the StatusCode of what is wrong with a header under this frame filter
abbrev pub header_refusal : Gate → List ℕ → Option ℕ
header_refusal gate octets = option_and_then header_code (header_fault gate octets)

-- why a header is rejected after these frames
abbrev pub header_why : {E X : Type 0} → Rules E X → List Frame → List ℕ → Option X
header_why R before octets = option_map R.of_header (header_refusal (R.gate before) octets)

-- the first reason for which bytes that are a frame are rejected after these frames, in the order
-- of the table: the reasons of the header, then those of the rules
abbrev pub first_refusal : {E X : Type 0} → Rules E X → List Frame → List ℕ → Option X
first_refusal R before octets = or_else (header_why R before octets) (option_and_then (refusal R before) (frame_in octets))

-- bytes that are a frame have no reason against them after those before, and those aren't the last
pub record PassesFrame {E X : Type 0} (R : Rules E X) (before : List (List ℕ)) (octets : List ℕ) : Type 0 where
  pub goes_on : R.over (frames_in before) ≡ false
  pub accepted : first_refusal R (frames_in before) octets ≡ None

-- the next frame is rejected for this reason; after the last one, the header of what is left
abbrev pub WrongNext : {E X : Type 0} → Rules E X → List (List ℕ) → List (List ℕ) → List ℕ → X → Type 0
WrongNext R before [] rest why = (8 ≤ length rest) × (header_why R (frames_in before) rest ≡ Some why)
WrongNext R before (octets ∷ behind) rest why = first_refusal R (frames_in before) octets ≡ Some why

-- after those frames, some frames pass, and the next is the first that is wrong
pub record FirstFrom {E X : Type 0} (R : Rules E X) (start frames : List (List ℕ)) (rest : List ℕ) (why : X) : Type 0 where
  pub before : List (List ℕ)
  pub behind : List (List ℕ)
  pub split : frames ≡ before ++ behind
  pub good : AllFrom (PassesFrame R) start before
  pub goes_on : R.over (frames_in (start ++ before)) ≡ false
  pub wrong : WrongNext R (start ++ before) behind rest why

-- the first wrong one of these frames, or the header of what is left, is wrong for this reason
abbrev pub FirstWrong : {E X : Type 0} → Rules E X → List (List ℕ) → List ℕ → X → Type 0
FirstWrong R frames rest why = FirstFrom R [] frames rest why
