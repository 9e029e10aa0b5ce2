-- The state of a dissector after bytes, and what one more fragment makes of it.
use Rattle.std.specs.Prelude.{◌≡◌, ℕ, ◌+◌, ◌<◌, ◌≤◌, ◌⊎◌, Bool, true, false, length, take, List, [], ◌∷◌, ◌++◌, Option, Some, None}
use Rattle.ua_frame.specs.declared.frame.Frame.{Frame}
use Rattle.ua_frame.specs.Reader.{open_reader}
use Rattle.ua_frame.specs.Run.{Run, End, Going, Stopped, Over, refusal}
use Rattle.ua_builtin.specs.Status.{of_code}
use Rattle.ua_chunk.specs.Open.{open_octets}
use Rattle.ua_pair.specs.declared.dissector.Dissector.{Dissector}
use Rattle.ua_pair.specs.declared.dissector.State.{State}
use Rattle.ua_pair.specs.declared.dissector.State.TheVariants as state
use Rattle.ua_pair.specs.declared.options.DissectOptions.{DissectOptions}
use Rattle.ua_pair.specs.Before.{message_chunks}
use Rattle.ua_pair.specs.Dissected.{rules, every_frame, AreTold, AreLines}
use Rattle.ua_pair.specs.declared.pending.Pending.{Pending}
use Rattle.ua_pair.specs.Telling.{ArePendingLines, TellerStands}
use Rattle.ua_pair.specs.Told.{IsFrameText, place_behind}

-- ---- what is held

-- how many bytes are buffered after frames: those of an incomplete frame and those of unfinished
-- messages, none after a rejected frame
abbrev pub buffered_behind : List Frame → List ℕ → End ℕ → ℕ
buffered_behind fs rest Going = length rest + open_octets (message_chunks fs)
buffered_behind fs rest (Stopped code) = 0
buffered_behind fs rest Over = 0

-- this many of these bytes are buffered
pub record AreHeld (options : DissectOptions) (octets : List ℕ) (held : ℕ) : Type 0 where
  pub frames : List Frame
  pub rest : List ℕ
  pub end : End ℕ
  pub run : Run (rules options) octets frames rest end
  pub held_are : held ≡ buffered_behind frames rest end

-- the most bytes that are buffered: 16777216 of an incomplete frame, and as many of each of 4
-- unfinished messages
abbrev pub most_buffered : ℕ
most_buffered = 83886080

-- ---- where a dissector stands

-- the dissector holds these bytes of an incomplete frame, and what these frames leave unfinished
pub record Holds (d : Dissector) (fs : List Frame) (rest : List ℕ) : Type 0 where
  pub reader : d.reader ≡ open_reader every_frame rest
  pub teller : TellerStands d.teller fs

-- the dissector goes on after these frames
pub record DissectorGoesOn (d : Dissector) (options : DissectOptions) (fs : List Frame) (rest : List ℕ) : Type 0 where
  pub state : d.state ≡ state.Going
  pub options_are : d.teller.options ≡ options
  pub holds : Holds d fs rest

-- the dissector met a frame that is rejected with this code
pub record HasRefused (d : Dissector) (options : DissectOptions) (code : ℕ) : Type 0 where
  pub state : d.state ≡ state.Refused (of_code code)
  pub options_are : d.teller.options ≡ options
  pub nothing : Holds d [] []

-- an allocation failed: the dissector takes nothing more
pub record IsDissectorClosed (d : Dissector) : Type 0 where
  pub state : d.state ≡ state.Closed
  pub nothing : Holds d [] []

-- the state of the dissector is that after these frames of bytes that end in this way
abbrev pub DissectorStandsAt : Dissector → DissectOptions → List Frame → List ℕ → End ℕ → Type 0
DissectorStandsAt d options fs rest Going = DissectorGoesOn d options fs rest
DissectorStandsAt d options fs rest (Stopped code) = HasRefused d options code
DissectorStandsAt d options fs rest Over = ⊥

-- the state of the dissector is that after these bytes of this side, whose lines so far are these
pub record StandsBehind (d : Dissector) (options : DissectOptions) (octets told : List ℕ) : Type 0 where
  pub are : AreTold options octets told
  pub at : DissectorStandsAt d options are.frames are.rest are.end
  pub place : d.place ≡ place_behind are.frames

-- ---- what is added to a text

-- the lines that were appended are those that a fragment adds to the lines of these bytes
pub record TellsMore (d : Dissector) (options : DissectOptions) (octets told old new : List ℕ) : Type 0 where
  pub lines : List ℕ
  pub added : new ≡ old ++ lines
  pub stands : StandsBehind d options octets (told ++ lines)

-- the last line was appended: with the lines before it, these are the lines of the bytes
pub record EndsLines (options : DissectOptions) (octets told old new : List ℕ) : Type 0 where
  pub line : List ℕ
  pub added : new ≡ old ++ line
  pub are : AreLines options octets (told ++ line)

-- ---- a fragment, as it is taken

-- whether further bytes are accepted
abbrev pub is_dissecting : State → Bool
is_dissecting state.Going = true
is_dissecting (state.Refused code) = false
is_dissecting state.Closed = false

-- whether a frame was rejected
abbrev pub is_refused : State → Bool
is_refused state.Going = false
is_refused (state.Refused code) = true
is_refused state.Closed = false

-- the dissector met a frame that is rejected: what comes after it is ignored
abbrev pub HasRefusedOne : Dissector → Type 0
HasRefusedOne d = is_refused d.state ≡ true

-- whether bytes end at a rejected frame
abbrev pub is_stopped : End ℕ → Bool
is_stopped Going = false
is_stopped (Stopped code) = true
is_stopped Over = false

-- whatever the old state was, the new state is that with this fragment more, and these lines were
-- appended
abbrev pub MovesOn : Dissector → Dissector → List ℕ → List ℕ → Type 0
MovesOn old new piece lines = (options : DissectOptions) (octets told : List ℕ) → StandsBehind old options octets told
    → StandsBehind new options (octets ++ piece) (told ++ lines)

-- a fragment was taken, and lines were appended to a text
pub record TakesPiece (old new : Dissector) (piece before after : List ℕ) : Type 0 where
  pub lines : List ℕ
  pub added : after ≡ before ++ lines
  pub moves : MovesOn old new piece lines

-- a frame after these was accepted, with these lines
pub record Accepts (new : Dissector) (options : DissectOptions) (before : List Frame) (f : Frame) (lines : List ℕ) : Type 0 where
  pub accepted : refusal (rules options) before f ≡ None
  pub lines_are : IsFrameText options before f lines
  pub goes_on : DissectorGoesOn new options (before ++ f ∷ []) []
  pub place : new.place ≡ place_behind (before ++ f ∷ [])

-- a frame after these was rejected
pub record RefusesFrame (new : Dissector) (options : DissectOptions) (before : List Frame) (f : Frame) (lines : List ℕ) : Type 0 where
  pub code : ℕ
  pub refused : refusal (rules options) before f ≡ Some code
  pub lines_are : lines ≡ []
  pub stopped : HasRefused new options code
  pub place : new.place ≡ place_behind before

-- a frame after these was accepted or rejected
abbrev pub FrameTold : Dissector → DissectOptions → List Frame → Frame → List ℕ → Type 0
FrameTold new options before f lines = Accepts new options before f lines ⊎ RefusesFrame new options before f lines

-- nothing is left to be taken
pub record TakesNone (old : Dissector) (octets : List ℕ) (new : Dissector) (lines : List ℕ) : Type 0 where
  pub why : (octets ≡ []) ⊎ (is_dissecting old.state ≡ false)
  pub same : new ≡ old

-- this many bytes were taken
pub record DissectsSome (old : Dissector) (octets : List ℕ) (n : ℕ) (new : Dissector) (lines : List ℕ) : Type 0 where
  pub some : 0 < n
  pub within : n ≤ length octets
  pub moves : MovesOn old new (take n octets) lines

-- what was taken of bytes, and the lines that were told, if those of the message that is pending
-- are told after them
abbrev pub TakesNext : Dissector → List ℕ → Option (ℕ × Option Pending) → Dissector → List ℕ → Type 0
TakesNext old octets None new lines = TakesNone old octets new lines
TakesNext old octets (Some taken) new lines = (more : List ℕ) → ArePendingLines new.teller.options taken.1 more
    → DissectsSome old octets taken.0 new (lines ++ more)
