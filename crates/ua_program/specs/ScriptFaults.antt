-- Why a script is not run.
use Rattle.std.specs.Prelude.{◌≡◌, ℕ, List, ◌∷◌, ◌++◌, Option, Some, None}
use Rattle.ua_exchange.specs.Accepted.{AreAccepted, turn_refusal}
use Rattle.ua_exchange.specs.declared.fault.PairFault.{PairFault}
use Rattle.ua_exchange.specs.declared.fault.PairFault.TheVariants.{NotWritable, OutOfMemory, Request}
use Rattle.ua_program.specs.Script.{closing, line_turn, turns_to}
use Rattle.ua_report.specs.declared.loop_fault.LoopFault.{LoopFault}
use Rattle.ua_report.specs.declared.loop_fault.LoopFault.TheVariants.{ScriptLine as OfLine, Exhausted, Service, UnknownResponse, NoMemory}
use Rattle.ua_nodes.specs.NodeFile.{node_lines}
use Rattle.ua_answers.specs.Script.{IsFirstBadScriptLine}
use Rattle.ua_answers.specs.declared.script.ScriptLine.{ScriptLine}

-- ---- a text

-- why no lines are parsed from a text: its first line that requests nothing has this number; or an
-- allocation failed
abbrev pub Unread : List ℕ → LoopFault → Type 0
Unread text (OfLine number) = IsFirstBadScriptLine (node_lines text) number
Unread text Exhausted = ⊥
Unread text (Service code) = ⊥
Unread text UnknownResponse = ⊥
Unread text NoMemory = Unit {0}

-- ---- lines

-- the place of the operation that is blamed, if one is
abbrev pub place_in : PairFault → Option ℕ
place_in (Request index fault) = Some index
place_in (NotWritable index) = Some index
place_in OutOfMemory = None

-- the operation of the line with this number is the first that is not accepted
pub record StopsAtLine (lines : List ScriptLine) (number : ℕ) : Type 0 where
  pub before : List ScriptLine
  pub line : ScriptLine
  pub behind : List ScriptLine
  pub parts : lines ≡ before ++ line ∷ behind
  pub number_is : line.number ≡ number
  pub accepted : AreAccepted (turns_to before)
  pub reason : PairFault
  pub refused : turn_refusal (turns_to before) (line_turn before line) ≡ Some reason

-- the operations of all lines are accepted, and that which ends the session is not
pub record StopsBehind (lines : List ScriptLine) : Type 0 where
  pub accepted : AreAccepted (turns_to lines)
  pub reason : PairFault
  pub refused : turn_refusal (turns_to lines) (closing lines) ≡ Some reason

-- why lines are not run: an operation is not accepted, or an allocation failed
abbrev pub StopsScriptLines : List ScriptLine → LoopFault → Type 0
StopsScriptLines lines (OfLine number) = StopsAtLine lines number
StopsScriptLines lines Exhausted = StopsBehind lines
StopsScriptLines lines (Service code) = ⊥
StopsScriptLines lines UnknownResponse = ⊥
StopsScriptLines lines NoMemory = Unit {0}
