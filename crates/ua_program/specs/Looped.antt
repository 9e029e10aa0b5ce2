-- The outcome of the two texts of `ua loop`: nodes, and a script.
use Rattle.std.specs.Prelude.{◌≡◌, ◌⊎◌, ℕ, Bool, List, Option, Some, string_bytes}
use Rattle.std.specs.Io.KnownBytes.{Appends}
use Rattle.ua_exchange.specs.Accepted.{AreAccepted}
use Rattle.ua_exchange.specs.Exchanged.{down_octets}
use Rattle.ua_exchange.specs.Turns.{up_octets}
use Rattle.ua_program.specs.ScriptFaults.{StopsScriptLines, Unread}
use Rattle.ua_program.specs.ScriptPrinted.{IsTextOf, told_fault, script_told}
use Rattle.ua_program.specs.Script.{script_moment, script_turns}
use Rattle.ua_report.specs.declared.loop_fault.LoopFault.{LoopFault}
use Rattle.ua_program.specs.declared.script.looped.Looped.{Looped}
use Rattle.ua_nodes.specs.NodeFile.{WriteNodes, node_lines}
use Rattle.ua_nodes.specs.Table.{Nodes}
use Rattle.ua_answers.specs.Script.{AsksFor}
use Rattle.ua_answers.specs.declared.script.ScriptLine.{ScriptLine}
use Rattle.ua_report.specs.declared.fault.Fault.TheVariants.{Looping}
use Rattle.ua_report.specs.declared.output.Stop.{Stop}
use Rattle.ua_report.specs.declared.output.Stop.TheVariants.{Fault as Stopped}

-- what was sent each way over these nodes, what is printed and which fault is met are those of the
-- steps that this text requests, all of which a client accepts; what is printed has the names of
-- StatusCodes if they are wanted, and values in the human-readable form if this is wanted
pub record RunsScript (people names : Bool) (nodes : Nodes) (text : List ℕ) (l : Looped) : Type 0 where
  pub lines : List ScriptLine
  pub asked : AsksFor text lines
  pub accepted : AreAccepted (script_turns lines)
  pub up_is : l.up.items ≡ up_octets script_moment (script_turns lines)
  pub down_is : l.down.items ≡ down_octets nodes script_moment (script_turns lines)
  pub text_is : IsTextOf people names (script_told names nodes lines) (string_bytes l.text)
  pub fault_is : l.fault ≡ told_fault (script_told names nodes lines)

-- the text requests steps, and why a client does not accept them all
pub record StopsScript (text : List ℕ) (fault : LoopFault) : Type 0 where
  pub lines : List ScriptLine
  pub asked : AsksFor text lines
  pub stops : StopsScriptLines lines fault

-- why a script is not run: its first line that requests nothing, or the first that a client does
-- not accept; or an allocation failed
abbrev pub RefusesScript : List ℕ → LoopFault → Type 0
RefusesScript text fault = Unread text fault ⊎ StopsScript text fault

-- a writer that had the old bytes then has after them what is printed of the script of some text
-- over the nodes of another, whose replies are told up to this fault, or to the end
pub record HasLooped (people names : Bool) (fault : Option LoopFault) (old new : Option (List ℕ)) : Type 0 where
  pub nodes_text : List ℕ
  pub nodes : Nodes
  pub written : WriteNodes (node_lines nodes_text) nodes
  pub script : List ℕ
  pub looped : Looped
  pub runs : RunsScript people names nodes script looped
  pub fault_is : looped.fault ≡ fault
  pub added : Appends old new (string_bytes looped.text)

-- the command stopped at a fault among the replies, and what is printed before it was appended
pub record HasLoopedUntil (people names : Bool) (stop : Stop) (old new : Option (List ℕ)) : Type 0 where
  pub fault : LoopFault
  pub stop_is : stop ≡ Stopped (Looping fault)
  pub looped : HasLooped people names (Some fault) old new

-- what a run appends of a script, with or without names, with values in the human-readable form or
-- not, with or without a fault
pub record HasLoopedSome (old new : Option (List ℕ)) : Type 0 where
  pub people : Bool
  pub names : Bool
  pub fault : Option LoopFault
  pub looped : HasLooped people names fault old new
