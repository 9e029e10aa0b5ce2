-- What both sides of a connection sent, as lines of a text: `> HEX` has bytes of the client and `< HEX` bytes
-- of the server, in the order in which they were sent. An empty line has none.
use Rattle.std.specs.Prelude.{◌≡◌, ◌⊎◌, ℕ, ◌==◌, ◌+◌, cond, List, [], ◌∷◌, ◌++◌, length, Option, Some, None}
use Rattle.std.specs.Borrow.{Bor}
use Rattle.std.specs.Result.{result_ok}
use Rattle.std.specs.Str.Lines.{lines}
use Rattle.hex.specs.Hex.{decode_of}
use Rattle.ua_frame.specs.After.{each_after}
use Rattle.ua_judge.specs.Guessed.{AreGuessed}
use Rattle.ua_judge.specs.declared.mark.Mark.{Mark}
use Rattle.ua_report.specs.Digits.{digits_in}
use Rattle.ua_report.specs.Reasons.{StopsAtFile}
use Rattle.ua_report.specs.declared.fault.Fault.TheVariants.{NotHexadecimal}
use Rattle.ua_report.specs.declared.output.Stop.{Stop}
use Rattle.ua_report.specs.declared.output.Stop.TheVariants as stop

-- ---- lines

-- bytes that the client sent, or the server
pub data RecordLine : Type 0 where
  Up : (octets : List ℕ) → RecordLine
  Down : (octets : List ℕ) → RecordLine

-- the bytes that digits stand for, if they are pairs of hexadecimal digits among white space
abbrev pub hex_octets : List ℕ → Option (List ℕ)
hex_octets digits = result_ok (decode_of (digits_in digits))

-- a line with these bytes, if they are some
abbrev pub one_line : (List ℕ → RecordLine) → Option (List ℕ) → Option (List RecordLine)
one_line side None = None
one_line side (Some octets) = Some (side octets ∷ [])

-- what a line has, if it is one of a record
abbrev pub line_read : List ℕ → Option (List RecordLine)
line_read [] = Some []
line_read (first ∷ digits) =
    cond (first == 62) (one_line Up (hex_octets digits)) (cond (first == 60) (one_line Down (hex_octets digits)) None)

-- what two parts have, if both are of a record
abbrev pub both_read : Option (List RecordLine) → Option (List RecordLine) → Option (List RecordLine)
both_read (Some front) (Some back) = Some (front ++ back)
both_read front back = None

-- what the lines of a text have, if each is one of a record
abbrev pub lines_read : List (List ℕ) → Option (List RecordLine)
lines_read [] = Some []
lines_read (line ∷ more) = both_read (line_read line) (lines_read more)

-- ---- the record that they write

-- the bytes of the client, in order
abbrev pub octets_up : List RecordLine → List ℕ
octets_up [] = []
octets_up (Up octets ∷ more) = octets ++ octets_up more
octets_up (Down octets ∷ more) = octets_up more

-- the bytes of the server, in order
abbrev pub octets_down : List RecordLine → List ℕ
octets_down [] = []
octets_down (Up octets ∷ more) = octets_down more
octets_down (Down octets ∷ more) = octets ++ octets_down more

-- a line of the client after these lines has a mark: at its end, the bytes of the server before it had been sent
abbrev pub line_mark : List RecordLine → RecordLine → List Mark
line_mark before (Up octets) = record { up = length (octets_up before) + length octets; down = length (octets_down before) } ∷ []
line_mark before (Down octets) = []

-- lines have these bytes of the client and of the server, with these marks
pub record AreRecorded (read : List RecordLine) (up down : List ℕ) (marks : List Mark) : Type 0 where
  pub up_is : up ≡ octets_up read
  pub down_is : down ≡ octets_down read
  pub marks_are : marks ≡ each_after line_mark read

-- the lines of a text write this record
pub record WritesRecord (text up down : List ℕ) (marks : List Mark) : Type 0 where
  pub read : List RecordLine
  pub read_is : lines_read (lines text) ≡ Some read
  pub are : AreRecorded read up down marks

-- some line of a text is none of a record
abbrev pub WritesNoRecord : List ℕ → Type 0
WritesNoRecord text = lines_read (lines text) ≡ None

-- ---- records that are read

-- a record of one file is what its lines write; one of a file of each side tells no order
abbrev pub IsRecord : {A : Type 0} → Option A → List ℕ → List ℕ → List Mark → Type 0
IsRecord None up down marks = (text : List ℕ) × WritesRecord text up down marks
IsRecord (Some file) up down marks = AreGuessed up down marks

-- a line was added to the record of some lines
pub record AddsLine (line : List ℕ) (before : List RecordLine) (up down : List ℕ) (marks : List Mark) : Type 0 where
  pub more : List RecordLine
  pub more_is : line_read line ≡ Some more
  pub are : AreRecorded (before ++ more) up down marks

-- why a record is not read: a file cannot be, the lines of one are none of a record, or an allocation failed
abbrev pub StopsReadingRecord : Bor (List ℕ) → Option (Bor (List ℕ)) → Stop → Type 0
StopsReadingRecord file None why = StopsAtFile file why ⊎ ((why ≡ stop.Fault (NotHexadecimal file)) × ((text : List ℕ) × WritesNoRecord text))
StopsReadingRecord file (Some other) why = StopsAtFile file why ⊎ StopsAtFile other why
