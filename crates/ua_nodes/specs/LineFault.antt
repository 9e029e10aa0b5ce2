-- Which error of a line results from an error within it.
use Rattle.std.specs.Prelude.{ℕ}
use Rattle.ua_builtin.specs.declared.fault.TextFault.{TextFault}
use Rattle.ua_builtin.specs.declared.fault.TextFault.TheVariants.{NotNodeId, OutOfMemory as NoTextMemory}
use Rattle.ua_nodes.specs.declared.fault.InsertFault.{InsertFault}
use Rattle.ua_nodes.specs.declared.fault.InsertFault.TheVariants.{Duplicate as Doubled, OutOfMemory as NoNodeMemory}
use Rattle.ua_nodes.specs.declared.fault.LineFault.{LineFault}
use Rattle.ua_nodes.specs.declared.fault.LineFault.TheVariants.{Bad, NoMemory}
use Rattle.ua_nodes.specs.declared.fault.LineReason.TheVariants.{Node, Value, Duplicate}
use Rattle.ua_nodes.specs.declared.fault.LoadFault.{LoadFault}
use Rattle.ua_nodes.specs.declared.fault.LoadFault.TheVariants.{Line, OutOfMemory}
use Rattle.ua_nodes.specs.declared.fault.ValueFault.{ValueFault}
use Rattle.ua_nodes.specs.declared.fault.ValueFault.TheVariants.{NotValue, OutOfMemory as NoValueMemory}

-- the error of a line whose NodeId was not parsed: the field names none, or an allocation failed
abbrev pub id_fault : TextFault → LineFault
id_fault NotNodeId = Bad Node
id_fault NoTextMemory = NoMemory

-- the error of a line whose value was not parsed: the field denotes none, or an allocation failed
abbrev pub value_fault : ValueFault → LineFault
value_fault NotValue = Bad Value
value_fault NoValueMemory = NoMemory

-- the error of a line whose node was not inserted: there is one with its NodeId, or an allocation
-- failed
abbrev pub insert_fault : InsertFault → LineFault
insert_fault Doubled = Bad Duplicate
insert_fault NoNodeMemory = NoMemory

-- the error of a file that results from the error of its line with this number
abbrev pub load_fault : ℕ → LineFault → LoadFault
load_fault number (Bad reason) = Line number reason
load_fault number NoMemory = OutOfMemory
