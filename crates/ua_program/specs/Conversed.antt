-- What both ends sent for a script.
use Rattle.std.specs.Prelude.{◌≡◌, List, map, Some, Result, Ok, Err}
use Rattle.ua_exchange.specs.Accepted.{AreAccepted}
use Rattle.ua_exchange.specs.Exchanged.{down_octets}
use Rattle.ua_exchange.specs.Programs.{begun_over}
use Rattle.ua_exchange.specs.Replies.{turns_replies}
use Rattle.ua_exchange.specs.Turns.{up_octets}
use Rattle.ua_exchange.specs.declared.transcript.Transcript.{Transcript}
use Rattle.ua_program.specs.ScriptFaults.{StopsScriptLines}
use Rattle.ua_program.specs.Script.{script_moment, script_turns}
use Rattle.ua_report.specs.declared.loop_fault.LoopFault.{LoopFault}
use Rattle.ua_nodes.specs.Table.{Nodes}
use Rattle.ua_server.specs.declared.step.End.TheVariants.{Closed}
use Rattle.ua_answers.specs.declared.script.ScriptLine.{ScriptLine}

-- the transcript is that of the client operations of a script
pub record IsOfScript (nodes : Nodes) (lines : List ScriptLine) (t : Transcript) : Type 0 where
  pub accepted : AreAccepted (script_turns lines)
  pub up_is : t.up.items ≡ up_octets script_moment (script_turns lines)
  pub down_is : t.down.items ≡ down_octets nodes script_moment (script_turns lines)
  pub replies_are : map Some t.replies.items ≡ turns_replies (begun_over nodes) script_moment (script_turns lines)
  pub closed : t.end ≡ Closed

-- the outcome of running it
abbrev pub ConversesByScript : Nodes → List ScriptLine → Result Transcript LoopFault → Type 0
ConversesByScript nodes lines (Ok t) = IsOfScript nodes lines t
ConversesByScript nodes lines (Err fault) = StopsScriptLines lines fault
