-- The lines of bytes that one side of a connection sent.
use Rattle.std.specs.Prelude.{◌≡◌, ℕ, Bool, length, true, false, List, [], ◌++◌}
use Rattle.ua_frame.specs.declared.frame.Frame.{Frame}
use Rattle.ua_frame.specs.declared.gate.Gate.{Gate}
use Rattle.ua_frame.specs.Run.{Rules, Run, End, Going, Stopped, Over}
use Rattle.ua_pair.specs.declared.options.DissectOptions.{DissectOptions}
use Rattle.ua_fields.specs.declared.side.Side.{Side}
use Rattle.ua_pair.specs.Lines.{rest_line, refused_line}
use Rattle.ua_pair.specs.Refused.{frame_reasons}
use Rattle.ua_pair.specs.Told.{AreTextsBehind, frame_lines, most_field_octets, place_behind}

-- the bytes of this side, without fields and without names, exact, with the usual bound
abbrev pub plain_of_side : Side → DissectOptions
plain_of_side side = record { side = side; fields = false; names = false; plain = false; largest = most_field_octets }

-- the frame filter that accepts a frame (UA TCP message) of each kind at any place, of at most
-- 16777216 bytes
abbrev pub every_frame : Gate
every_frame = record { hel = true; ack = true; err = true; msg = true; opn = true; clo = true; largest = 16777216 }

-- how the bytes of one side are read: which frames are rejected, by StatusCode, and the lines of
-- the others
abbrev pub rules : DissectOptions → Rules ℕ ℕ
rules options = record {
  gate = λ before. every_frame;
  reasons = frame_reasons options.side;
  of_header = λ code. code;
  tells = frame_lines options;
  over = λ before. false;
}

-- the last line, if the frames end at this offset and these bytes are left: the stream goes on, or
-- the frame there is rejected
abbrev pub last_line : Bool → ℕ → List ℕ → End ℕ → List ℕ
last_line names place rest Going = rest_line place (length rest)
last_line names place rest (Stopped code) = refused_line names place code
last_line names place rest Over = []

-- a text has the lines of these frames, in order: what `rules` tells, if the texts of fields are
-- exact
abbrev pub AreTexts : DissectOptions → List Frame → List ℕ → Type 0
AreTexts options fs text = AreTextsBehind options [] fs text

-- the lines of the bytes: those of each frame in order up to the first rejected one, and the last
-- line
pub record AreLines (options : DissectOptions) (octets lines : List ℕ) : Type 0 where
  pub frames : List Frame
  pub rest : List ℕ
  pub end : End ℕ
  pub run : Run (rules options) octets frames rest end
  pub told : List ℕ
  pub told_are : AreTexts options frames told
  pub lines_are : lines ≡ told ++ last_line options.names (place_behind frames) rest end

-- the lines of the frames of the bytes, in order up to the first rejected one: all but the last
-- line
pub record AreTold (options : DissectOptions) (octets told : List ℕ) : Type 0 where
  pub frames : List Frame
  pub rest : List ℕ
  pub end : End ℕ
  pub run : Run (rules options) octets frames rest end
  pub told_are : AreTexts options frames told

-- the lines of these bytes were appended to a text
pub record AddsLines (options : DissectOptions) (octets old new : List ℕ) : Type 0 where
  pub lines : List ℕ
  pub are : AreLines options octets lines
  pub added : new ≡ old ++ lines
