-- The printers of both sides of a record, as far as they have come.
use Rattle.std.specs.Prelude.{◌≡◌, ◌≤◌, ℕ, List, ◌++◌, codes, length, take}
use Rattle.ua_judge.specs.declared.mark.Mark.{Mark}
use Rattle.ua_pair.specs.Dissecting.{StandsBehind}
use Rattle.ua_pair.specs.declared.options.DissectOptions.{DissectOptions}
use Rattle.ua_fields.specs.declared.side.Side.TheVariants.{Client, Server}
use Rattle.ua_program.specs.Judges.{AreLinesBetween, EndsSide, PrintsLastLines, PrintsTurn, PrintsTurns, lines_behind}
use Rattle.ua_program.specs.Judges.{printed_options, printed_to}
use Rattle.ua_words.specs.declared.arguments.JudgeRecord.{JudgeRecord}
use Rattle.ua_program.specs.declared.judge.Printer.{Printer}
use Rattle.ua_program.specs.declared.judge.Printers.{Printers}

-- the lines of these bytes are printed up to a place within them, each behind this front
pub record PrinterStands (printer : Printer) (options : DissectOptions) (front octets : List ℕ) : Type 0 where
  pub told : List ℕ
  pub within : printer.at ≤ length octets
  pub stands : StandsBehind printer.dissector options (take printer.at octets) told
  pub front_is : printer.front.now ≡ front

-- the lines up to a place were appended to a text
pub record PrintsSide (old new : Printer) (options : DissectOptions) (front octets : List ℕ) (place : ℕ) (before after : List ℕ) : Type 0 where
  pub lines : List ℕ
  pub are : AreLinesBetween options octets old.at new.at lines
  pub at_is : new.at ≡ printed_to old.at octets place
  pub added : after ≡ before ++ lines_behind front lines
  pub stands : PrinterStands new options front octets

-- both sides are printed up to their places
pub record PrintersStand (printers : Printers) (asked : JudgeRecord) (up down : List ℕ) : Type 0 where
  pub client : PrinterStands printers.client (printed_options asked Client) (codes "> ") up
  pub server : PrinterStands printers.server (printed_options asked Server) (codes "< ") down

-- the lines of both sides up to the places of a mark were appended to a text
pub record PrintsMark (old new : Printers) (asked : JudgeRecord) (up down : List ℕ) (mark : Mark) (before after : List ℕ) : Type 0 where
  pub text : List ℕ
  pub turn : PrintsTurn asked up down old.client.at (printed_to old.client.at up mark.up) old.server.at (printed_to old.server.at down mark.down) text
  pub client_is : new.client.at ≡ printed_to old.client.at up mark.up
  pub server_is : new.server.at ≡ printed_to old.server.at down mark.down
  pub added : after ≡ before ++ text
  pub stand : PrintersStand new asked up down

-- the last line of these bytes was appended to a text
pub record EndsSideBehind (options : DissectOptions) (front octets before after : List ℕ) : Type 0 where
  pub line : List ℕ
  pub ends : EndsSide options octets line
  pub added : after ≡ before ++ lines_behind front line

-- both sides are printed to their ends
pub record ArePrinted (printers : Printers) (asked : JudgeRecord) (up down : List ℕ) : Type 0 where
  pub stand : PrintersStand printers asked up down
  pub client_all : printers.client.at ≡ length up
  pub server_all : printers.server.at ≡ length down

-- the last lines of both sides were appended to a text
pub record AddsLastLines (asked : JudgeRecord) (up down before after : List ℕ) : Type 0 where
  pub text : List ℕ
  pub last : PrintsLastLines asked up down text
  pub added : after ≡ before ++ text

-- the lines of both sides of a record were appended to a text
pub record AddsTurns (asked : JudgeRecord) (up down : List ℕ) (marks : List Mark) (before after : List ℕ) : Type 0 where
  pub text : List ℕ
  pub printed : PrintsTurns asked up down 0 0 marks text
  pub added : after ≡ before ++ text
