-- What `ua dissect` prints of a file that is read in fragments, and what stops it.
use Rattle.std.specs.Prelude.{◌≡◌, ◌⊎◌, ◌<◌, ◌≤◌, ℕ, Bool, cond, List, [], ◌++◌, length, take, Option, Some, None}
use Rattle.std.specs.Borrow.{Bor}
use Rattle.std.specs.Io.KnownBytes.{Appends, Consumes, IsAtEnd}
use Rattle.ua_pair.specs.declared.dissector.Dissector.{Dissector}
use Rattle.ua_pair.specs.declared.options.DissectOptions.{DissectOptions}
use Rattle.ua_pair.specs.Dissected.{AreLines, AreTold}
use Rattle.ua_pair.specs.Dissecting.{StandsBehind, is_stopped}
use Rattle.ua_frame.specs.Run.{End}
use Rattle.ua_session.specs.declared.verdict.Verdict.{Verdict}
use Rattle.ua_session.specs.declared.verdict.Verdict.TheVariants.{AllGood, SomeBad}
use Rattle.ua_report.specs.Digits.{HoldsNone, HoldsOctets, HoldsSoFar}
use Rattle.ua_report.specs.declared.fault.Fault.TheVariants.{CannotRead, NoMemory, NotHexadecimal}
use Rattle.ua_report.specs.declared.output.Stop.{Stop}
use Rattle.ua_report.specs.Reasons.{StopsWriting}
use Rattle.ua_report.specs.declared.output.Stop.TheVariants as stop

-- the text is the lines of the bytes of this side that a file with this content contains, with
-- `--hex` or without
pub record AreLinesOf (hex : Bool) (options : DissectOptions) (content text : List ℕ) : Type 0 where
  pub octets : List ℕ
  pub holds : HoldsOctets hex content octets
  pub lines : AreLines options octets text

-- the verdict on bytes that end in this way: whether a frame among them is rejected
abbrev pub verdict_at_end : End ℕ → Verdict
verdict_at_end end = cond (is_stopped end) SomeBad AllGood

-- the verdict tells whether a frame is rejected among the bytes that a file with this content
-- contains
pub record IsJudged (verdict : Verdict) (hex : Bool) (options : DissectOptions) (content : List ℕ) : Type 0 where
  pub octets : List ℕ
  pub holds : HoldsOctets hex content octets
  pub told : List ℕ
  pub are : AreTold options octets told
  pub is : verdict ≡ verdict_at_end are.end

-- nothing is left of a source, or whatever follows has no lines: a file whose content begins with
-- this has these lines
abbrev pub IsWholeFile : Bool → DissectOptions → Option (List ℕ) → List ℕ → List ℕ → Type 0
IsWholeFile hex options after content text = IsAtEnd after ⊎ ((more : List ℕ) → AreLinesOf hex options (content ++ more) text)

-- content was read from the start of a source, and a writer that had the old bytes then has after
-- them the lines of the frames of what it contains so far, except the last line
pub record HasBegunDissecting (hex : Bool) (options : DissectOptions) (before old new : Option (List ℕ)) : Type 0 where
  pub after : Option (List ℕ)
  pub content : List ℕ
  pub consumed : Consumes before after content
  pub half : Option ℕ
  pub octets : List ℕ
  pub holds : HoldsSoFar hex half content octets
  pub text : List ℕ
  pub told : AreTold options octets text
  pub added : Appends old new text

-- a source is read to its end, or to a frame after which nothing has lines; a writer that had the
-- old bytes then has after them the lines of all that was read, and the verdict tells whether a
-- frame is rejected
pub record DissectsAll (verdict : Verdict) (hex : Bool) (options : DissectOptions) (before after old new : Option (List ℕ)) : Type 0 where
  pub content : List ℕ
  pub consumed : Consumes before after content
  pub text : List ℕ
  pub lines : AreLinesOf hex options content text
  pub whole : IsWholeFile hex options after content text
  pub judged : IsJudged verdict hex options content
  pub added : Appends old new text

-- a source of known bytes contains no bytes of messages: with `--hex`, its digits stand for none
abbrev pub GivesNone : Bool → Option (List ℕ) → Type 0
GivesNone hex known = (content : List ℕ) → known ≡ Some content → HoldsNone hex content

-- why no more is read: the writer fails, an allocation fails, the file cannot be read, or it is not
-- hexadecimal
abbrev pub StopsReading : Bool → Bor (List ℕ) → Option (List ℕ) → Stop → Type 0
StopsReading hex file known why =
    StopsWriting why ⊎ (why ≡ stop.Fault NoMemory) ⊎ (why ≡ stop.Fault (CannotRead file)) ⊎ ((why ≡ stop.Fault (NotHexadecimal file)) × GivesNone hex known)

-- ---- a file whose content comes in fragments

-- the state of a dissector is that after the bytes that a file with this content so far contains,
-- whose lines so far are these
pub record ToldSoFar (hex : Bool) (options : DissectOptions) (half : Option ℕ) (d : Dissector) (content told : List ℕ) : Type 0 where
  pub octets : List ℕ
  pub holds : HoldsSoFar hex half content octets
  pub stands : StandsBehind d options octets told

-- with more content, the lines of that were appended to a text
pub record TellsPiece (hex : Bool) (options : DissectOptions) (half : Option ℕ) (d : Dissector) (content told old new : List ℕ) : Type 0 where
  pub lines : List ℕ
  pub added : new ≡ old ++ lines
  pub so_far : ToldSoFar hex options half d content (told ++ lines)

-- the last line was appended: with the lines before it, these are the lines of the file
pub record EndsFile (hex : Bool) (options : DissectOptions) (content told old new : List ℕ) : Type 0 where
  pub line : List ℕ
  pub added : new ≡ old ++ line
  pub lines : AreLinesOf hex options content (told ++ line)

-- ---- one read

-- this many bytes were read into a fragment, none only at the end; or the read was interrupted
abbrev pub ReadsIntoFragment : Option ℕ → Option (List ℕ) → Option (List ℕ) → List ℕ → Type 0
ReadsIntoFragment None before after piece = Consumes before after []
ReadsIntoFragment (Some n) before after piece = (n ≤ length piece) × Consumes before after (take n piece) × (n ≡ 0 → 0 < length piece → IsAtEnd after)

-- one more fragment was read, and the lines of what is complete with it were printed
pub record PrintsPiece (hex : Bool) (options : DissectOptions) (half : Option ℕ) (d : Dissector) (content told : List ℕ)
    (before after old new : Option (List ℕ)) : Type 0 where
  pub piece : List ℕ
  pub consumed : Consumes before after piece
  pub lines : List ℕ
  pub added : Appends old new lines
  pub so_far : ToldSoFar hex options half d (content ++ piece) (told ++ lines)

-- one more fragment was read, none at the end, and the lines of what is complete with it were
-- printed, with the last line: nothing more has lines
pub record PrintsLast (verdict : Verdict) (hex : Bool) (options : DissectOptions) (content told : List ℕ)
    (before after old new : Option (List ℕ)) : Type 0 where
  pub piece : List ℕ
  pub consumed : Consumes before after piece
  pub line : List ℕ
  pub added : Appends old new line
  pub lines : AreLinesOf hex options (content ++ piece) (told ++ line)
  pub whole : IsWholeFile hex options after (content ++ piece) (told ++ line)
  pub judged : IsJudged verdict hex options (content ++ piece)

-- what one more read prints, as the last one or not
abbrev pub PrintsNext : Option Verdict → Bool → DissectOptions → Option ℕ → Dissector → List ℕ → List ℕ → Option (List ℕ) → Option (List ℕ) → Option (List ℕ)
    → Option (List ℕ) → Type 0
PrintsNext None hex options half d content told before after old new = PrintsPiece hex options half d content told before after old new
PrintsNext (Some verdict) hex options half d content told before after old new = PrintsLast verdict hex options content told before after old new

-- why the last line is not printed
abbrev pub StopsLast : Bool → Bor (List ℕ) → List ℕ → Stop → Type 0
StopsLast hex file content why =
    StopsWriting why ⊎ (why ≡ stop.Fault NoMemory) ⊎ ((why ≡ stop.Fault (NotHexadecimal file)) × HoldsNone hex content)

-- after this content, what is left to read stands for no bytes
abbrev pub LeavesNone : Bool → List ℕ → Option (List ℕ) → Type 0
LeavesNone hex content known = (rest : List ℕ) → known ≡ Some rest → HoldsNone hex (content ++ rest)

-- why one more read stops
abbrev pub StopsNext : Bool → Bor (List ℕ) → List ℕ → Option (List ℕ) → Stop → Type 0
StopsNext hex file content known why =
    StopsWriting why ⊎ (why ≡ stop.Fault NoMemory) ⊎ (why ≡ stop.Fault (CannotRead file))
    ⊎ ((why ≡ stop.Fault (NotHexadecimal file)) × LeavesNone hex content known)
