-- What a run leaves on a stream.
use Rattle.std.specs.Prelude.{◌⊎◌, ℕ, Bool, List, Option, codes}
use Rattle.std.specs.Io.KnownBytes.{Appends}
use Rattle.ua_pair.specs.declared.options.DissectOptions.{DissectOptions}
use Rattle.ua_pair.specs.Dissected.{AreLines}
use Rattle.ua_session.specs.Printed.{AreAnswerLines, AreEndpointLines, HasAdded}
use Rattle.ua_answers.specs.declared.style.AnswerStyle.{AnswerStyle}
use Rattle.ua_answers.specs.declared.style.EndpointStyle.{EndpointStyle}
use Rattle.ua_program.specs.Dissects.{HasBegunDissecting}
use Rattle.ua_program.specs.Judges.{HasJudged}
use Rattle.ua_program.specs.Looped.{HasLoopedSome}
use Rattle.ua_serving.specs.AtOnce.{ServesAsked, ServesSomeAsked}
use Rattle.ua_program.specs.Talked.{HasTalkedSome}
use Rattle.ua_words.specs.declared.arguments.Serve.{Serve}

-- the text is the lines of some bytes of one side
pub record AreSomeLines (text : List ℕ) : Type 0 where
  pub options : DissectOptions
  pub octets : List ℕ
  pub lines : AreLines options octets text

-- a writer that had the old bytes then has the lines of some bytes after them
pub record HasDissected (old new : Option (List ℕ)) : Type 0 where
  pub text : List ℕ
  pub lines : AreSomeLines text
  pub added : Appends old new text

-- a writer that had the old bytes then has after them the lines of the answers of a server, in this
-- style
abbrev pub HasAnswered : AnswerStyle → Option (List ℕ) → Option (List ℕ) → Type 0
HasAnswered style old new = HasAdded (AreAnswerLines style) old new

-- the same with the lines of the endpoints of a server, in this style
abbrev pub HasListed : EndpointStyle → Option (List ℕ) → Option (List ℕ) → Type 0
HasListed style old new = HasAdded (AreEndpointLines style) old new

-- the lines of the answers of a server, in some style
pub record HasAnsweredSome (old new : Option (List ℕ)) : Type 0 where
  pub style : AnswerStyle
  pub answered : HasAnswered style old new

-- the lines of the endpoints of a server, in some style
pub record HasListedSome (old new : Option (List ℕ)) : Type 0 where
  pub style : EndpointStyle
  pub listed : HasListed style old new

-- a writer that had the old bytes then has after them the lines of `ua serve` as some words ask for
-- it: of this many connections, or of fewer
pub record HasBegunServing (old new : Option (List ℕ)) : Type 0 where
  pub asked : Serve
  pub lines : ServesAsked asked old new ⊎ ServesSomeAsked asked old new

-- a writer that had the old bytes then has after them the lines of the frames of one side at the
-- start of some source, without a last line
pub record HasToldSome (old new : Option (List ℕ)) : Type 0 where
  pub hex : Bool
  pub options : DissectOptions
  pub source : Option (List ℕ)
  pub lines : HasBegunDissecting hex options source old new

-- what a run may append that then meets a fault: the lines of frames, the first lines of
-- `ua serve`, lines of endpoints or of answers, those of a script, or those of a session
abbrev pub HasBegun : Option (List ℕ) → Option (List ℕ) → Type 0
HasBegun old new = HasToldSome old new ⊎ HasBegunServing old new ⊎ HasListedSome old new ⊎ HasAnsweredSome old new ⊎ HasLoopedSome old new
    ⊎ HasTalkedSome old new

-- what `ua version` prints: the name, the version, and the kit that it was proved with
abbrev pub version_line : List ℕ
version_line = codes "ua 0.1.0 rattle-kit-13f logic dac8208d650f15bf\n"

-- what a run appends that does what its words request
abbrev pub HasPrinted : Option (List ℕ) → Option (List ℕ) → Type 0
HasPrinted old new = HasDissected old new ⊎ HasJudged old new ⊎ HasBegun old new ⊎ Appends old new version_line
