-- Which fault of a line results from a fault within it.
use Rattle.std.specs.Prelude.{ℕ}
use Rattle.ua_builtin.specs.declared.fault.TextFault.{TextFault}
use Rattle.ua_builtin.specs.declared.fault.TextFault.TheVariants.{NotNodeId, OutOfMemory as NoTextMemory}
use Rattle.ua_nodes.specs.declared.fault.ValueFault.{ValueFault}
use Rattle.ua_nodes.specs.declared.fault.ValueFault.TheVariants.{NotValue, OutOfMemory as NoValueMemory}
use Rattle.ua_answers.specs.declared.fault.ScriptFault.{ScriptFault}
use Rattle.ua_answers.specs.declared.fault.ScriptFault.TheVariants.{Line, OutOfMemory}
use Rattle.ua_answers.specs.declared.fault.ScriptLineFault.{ScriptLineFault}
use Rattle.ua_answers.specs.declared.fault.ScriptLineFault.TheVariants.{Bad, NoMemory}

-- the fault of a line whose NodeId was not parsed: the field names none, or an allocation failed
abbrev pub script_id_fault : TextFault → ScriptLineFault
script_id_fault NotNodeId = Bad
script_id_fault NoTextMemory = NoMemory

-- the fault of a line whose value was not parsed: the field denotes none, or an allocation failed
abbrev pub script_value_fault : ValueFault → ScriptLineFault
script_value_fault NotValue = Bad
script_value_fault NoValueMemory = NoMemory

-- the fault of a script that results from the fault of its line with this number
abbrev pub script_fault : ℕ → ScriptLineFault → ScriptFault
script_fault number Bad = Line number
script_fault number NoMemory = OutOfMemory
