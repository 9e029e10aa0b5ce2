-- What a script is told to have met, of what a line, or the answer to it, is told to have met.
use Rattle.ua_report.specs.declared.loop_fault.LoopFault.{LoopFault}
use Rattle.ua_report.specs.declared.loop_fault.LoopFault.TheVariants.{ScriptLine as OfLine, Service, UnknownResponse, NoMemory}
use Rattle.ua_answers.specs.declared.fault.AnswerFault.{AnswerFault}
use Rattle.ua_answers.specs.declared.fault.AnswerFault.TheVariants as answer
use Rattle.ua_answers.specs.declared.fault.ScriptFault.{ScriptFault}
use Rattle.ua_answers.specs.declared.fault.ScriptFault.TheVariants as script

-- a script that was not parsed: a line of it requests nothing, or an allocation failed
abbrev pub of_script : ScriptFault → LoopFault
of_script (script.Line number) = OfLine number
of_script script.OutOfMemory = NoMemory

-- answers that were not printed: the service failed, their number is not that of the items
-- requested, or an allocation failed
abbrev pub of_line_answer : AnswerFault → LoopFault
of_line_answer (answer.Service code) = Service code
of_line_answer answer.Unknown = UnknownResponse
of_line_answer answer.OutOfMemory = NoMemory
