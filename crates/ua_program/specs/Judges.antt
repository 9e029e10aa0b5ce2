-- What `ua judge` prints of a record: the lines of both sides, and those of the verdicts on them.
use Rattle.std.specs.Prelude.{◌≡◌, ℕ, Bool, true, false, ◌&&◌, ◌||◌, cond, List, [], ◌∷◌, ◌++◌, codes, length, take, max, min}
use Rattle.std.specs.Prelude.{Option, Some, None}
use Rattle.std.specs.Fmt.{decimal}
use Rattle.std.specs.Io.KnownBytes.{Appends}
use Rattle.std.specs.List.{flat_map}
use Rattle.std.specs.Str.Lines.{lines}
use Rattle.ua_builtin.specs.declared.status_code.StatusCode.{StatusCode}
use Rattle.ua_judge.specs.Judged.{JudgesDown, JudgesUp}
use Rattle.ua_judge.specs.Starts.{StartsAt}
use Rattle.ua_judge.specs.declared.mark.Mark.{Mark}
use Rattle.ua_judge.specs.declared.verdict.Verdict.{Verdict}
use Rattle.ua_judge.specs.declared.verdict.Verdict.TheVariants.{Keeps, Closes, Breaks, Refuses, Stops}
use Rattle.ua_pair.specs.Dissected.{AreLines, AreTold}
use Rattle.ua_pair.specs.Told.{most_field_octets}
use Rattle.ua_pair.specs.declared.options.DissectOptions.{DissectOptions}
use Rattle.ua_fields.specs.declared.side.Side.{Side}
use Rattle.ua_fields.specs.declared.side.Side.TheVariants.{Client, Server}
use Rattle.ua_session.specs.declared.verdict.Verdict.{Verdict as Status}
use Rattle.ua_session.specs.declared.verdict.Verdict.TheVariants.{AllGood, SomeBad}
use Rattle.ua_texts.specs.Names.{named_code}
use Rattle.ua_program.specs.Recorded.{IsRecord}
use Rattle.ua_words.specs.declared.arguments.JudgeRecord.{JudgeRecord}

-- the side broke the protocol
abbrev pub is_break : Verdict → Bool
is_break (Breaks end code) = true
is_break other = false

-- what the line of a verdict says before its number
abbrev pub verdict_words : Verdict → List ℕ
verdict_words Keeps = codes " keeps the protocol to "
verdict_words (Closes end) = codes " closes the channel at "
verdict_words (Breaks end code) = codes " breaks the protocol at "
verdict_words (Refuses end code) = codes " refuses the client at "
verdict_words (Stops end fault) = codes " is judged to "

-- its number: where the frame begins that decides it, or up to where the bytes were judged
abbrev pub IsPlaceOf : List ℕ → Verdict → ℕ → Type 0
IsPlaceOf octets Keeps place = place ≡ length octets
IsPlaceOf octets (Closes end) place = StartsAt octets end place
IsPlaceOf octets (Breaks end code) place = StartsAt octets end place
IsPlaceOf octets (Refuses end code) place = StartsAt octets end place
IsPlaceOf octets (Stops end fault) place = place ≡ end

-- its StatusCode, if it has one
abbrev pub code_of_verdict : Verdict → Option StatusCode
code_of_verdict (Breaks end code) = Some code
code_of_verdict (Refuses end code) = Some code
code_of_verdict other = None

-- a StatusCode after a colon, if there is one
abbrev pub colon_code_text : Bool → Option StatusCode → List ℕ
colon_code_text names None = codes ""
colon_code_text names (Some code) = codes ": " ++ named_code names code.code

-- the line of a verdict on a side
abbrev pub verdict_line : List ℕ → Bool → ℕ → Verdict → List ℕ
verdict_line side names place verdict = side ++ verdict_words verdict ++ decimal place ++ colon_code_text names (code_of_verdict verdict) ++ codes "\n"

-- the lines of the verdicts on both sides were added; one of these is that a side broke the protocol, or not
pub record AreVerdicts (names : Bool) (up down : List ℕ) (marks : List Mark) (broken : Bool) (old new : List ℕ) : Type 0 where
  pub client : Verdict
  pub judges_client : JudgesUp up down client
  pub client_place : ℕ
  pub is_client_place : IsPlaceOf up client client_place
  pub server : Verdict
  pub judges_server : JudgesDown up down marks server
  pub server_place : ℕ
  pub is_server_place : IsPlaceOf down server server_place
  pub new_is : new ≡ (old ++ verdict_line (codes "client") names client_place client) ++ verdict_line (codes "server") names server_place server
  pub broken_is : broken ≡ (is_break client || is_break server)

-- the outcome for a record in which a side broke the protocol or not: only a strict judge tells it
abbrev pub outcome_on : Bool → Bool → Status
outcome_on broken strict = cond (broken && strict) SomeBad AllGood

-- ---- the lines in front of the verdicts

-- the lines of a text, each behind a front
abbrev pub lines_behind : List ℕ → List ℕ → List ℕ
lines_behind front text = flat_map (λ (line : List ℕ). front ++ (line ++ codes "\n")) (lines text)

-- what is printed of a side
abbrev pub printed_options : JudgeRecord → Side → DissectOptions
printed_options asked side =
    record { side = side; fields = asked.fields; names = asked.names; plain = asked.plain; largest = most_field_octets }

-- the place up to which bytes are printed that were printed up to one, if they are to be printed up to
-- another: not back, and not beyond their end
abbrev pub printed_to : ℕ → List ℕ → ℕ → ℕ
printed_to from octets place = max from (min place (length octets))

-- the lines of the frames that end after one place of the bytes and up to another
pub record AreLinesBetween (options : DissectOptions) (octets : List ℕ) (from to : ℕ) (lines : List ℕ) : Type 0 where
  pub before : List ℕ
  pub before_are : AreTold options (take from octets) before
  pub are : AreTold options (take to octets) (before ++ lines)

-- the last line of the bytes
pub record EndsSide (options : DissectOptions) (octets line : List ℕ) : Type 0 where
  pub told : List ℕ
  pub told_are : AreTold options octets told
  pub are : AreLines options octets (told ++ line)

-- the lines of the server and after them those of the client, each between two places
pub record PrintsTurn (asked : JudgeRecord) (up down : List ℕ) (from_up to_up from_down to_down : ℕ) (text : List ℕ) : Type 0 where
  pub server : List ℕ
  pub server_are : AreLinesBetween (printed_options asked Server) down from_down to_down server
  pub client : List ℕ
  pub client_are : AreLinesBetween (printed_options asked Client) up from_up to_up client
  pub text_is : text ≡ lines_behind (codes "< ") server ++ lines_behind (codes "> ") client

-- the last line of the server and that of the client
pub record PrintsLastLines (asked : JudgeRecord) (up down text : List ℕ) : Type 0 where
  pub server : List ℕ
  pub server_is : EndsSide (printed_options asked Server) down server
  pub client : List ℕ
  pub client_is : EndsSide (printed_options asked Client) up client
  pub text_is : text ≡ lines_behind (codes "< ") server ++ lines_behind (codes "> ") client

-- the lines of both sides from these places on: at each mark those of the server up to it and then those of
-- the client; then those that are left, and the last lines
abbrev pub PrintsTurns : JudgeRecord → List ℕ → List ℕ → ℕ → ℕ → List Mark → List ℕ → Type 0
PrintsTurns asked up down from_up from_down [] text =
    (turn last : List ℕ) × PrintsTurn asked up down from_up (length up) from_down (length down) turn × PrintsLastLines asked up down last
    × (text ≡ turn ++ last)
PrintsTurns asked up down from_up from_down (mark ∷ marks) text =
    (turn later : List ℕ)
    × PrintsTurn asked up down from_up (printed_to from_up up mark.up) from_down (printed_to from_down down mark.down) turn
    × PrintsTurns asked up down (printed_to from_up up mark.up) (printed_to from_down down mark.down) marks later × (text ≡ turn ++ later)

-- ---- the whole text

-- a writer then has the lines of both sides of the record that is read, in its order, and after them those of
-- the verdicts on it
pub record PrintsJudged (asked : JudgeRecord) (outcome : Status) (old new : Option (List ℕ)) : Type 0 where
  pub up : List ℕ
  pub down : List ℕ
  pub marks : List Mark
  pub is_record : IsRecord asked.down up down marks
  pub lines : List ℕ
  pub printed : PrintsTurns asked up down 0 0 marks lines
  pub text : List ℕ
  pub broken : Bool
  pub verdicts : AreVerdicts asked.names up down marks broken lines text
  pub outcome_is : outcome ≡ outcome_on broken asked.strict
  pub added : Appends old new text

-- the same for some words
pub record HasJudged (old new : Option (List ℕ)) : Type 0 where
  pub asked : JudgeRecord
  pub outcome : Status
  pub printed : PrintsJudged asked outcome old new
